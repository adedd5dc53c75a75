-- What stands between the members of a list.
use Rattle.std.specs.Prelude.{codes}
use Rattle.vl_grammar.specs.Item.{Item}
use Rattle.vl_sql.specs.declared.printed.Separator.{Separator}
use Rattle.vl_sql.specs.declared.printed.Separator.TheVariants.{Comma, And}

abbrev pub item_between : Separator → Item
item_between Comma = Item.Sign 44
item_between And = Item.Key (codes "AND")
