use Rattle.std.specs.Prelude.{ℕ, List, codes}
use Rattle.vl_values.specs.declared.group.Group.{Group}
use Rattle.vl_values.specs.declared.group.Group.TheVariants.{Pre, Main, Post}

-- how a group is printed
abbrev pub group_name : Group → List ℕ
group_name Pre = codes "pre"
group_name Main = codes "main"
group_name Post = codes "post"
