use Rattle.std.proofs.Common.{lit<, ap, ◌∙◌, map}
use Rattle.std.proofs.lemmas.Iterator.Splits.{YieldsList-from_str_split}
use Rattle.std.proofs.lemmas.Iterator.Consumers.{YieldsList-end}
use Rattle.std.specs.Str.Iter.{split_text, split_has_more, split_pattern}
use Rattle.vl_vschema.specs.Vschema.{trimmed}
use Rattle.vl_vschema.proofs.lookup_def.column_names.Goals as goal

pub returns : goal.returns
returns c =
    let is = c.into_iter-part-iterator.ensures.into_iter_gives in
    let parts = YieldsList-from_str_split {s = c.into_iter-part-iterator.result} 44 c.args.text.now (lit< tt) (ap split_text is ∙ c.split-part-items.ensures.text) (ap split_has_more is ∙ c.split-part-items.ensures.has_more) (ap split_pattern is ∙ c.split-part-items.ensures.pattern) in
    let end = YieldsList-end parts c.loop-part.yielded c.loop-part.part-iterator c.loop-part.yielded_by c.next.result c.next.new.self c.in-None.is c.next.ensures.steps in
    c.loop-part.invariant ∙ ap (map trimmed) end.0
