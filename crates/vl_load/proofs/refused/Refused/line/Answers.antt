use Rattle.std.proofs.Common.{append_assoc}
use Rattle.vl_load.proofs.refused.Refused.line.Goals as goal

pub returns-in-NotJson : goal.returns-in-NotJson
returns-in-NotJson c = rw (c.in-NotJson.is, append_assoc) (rw c.as_slice.ensures at c.joined.ensures)

pub returns-in-Syntax : goal.returns-in-Syntax
returns-in-Syntax c = rw c.in-Syntax.is (rw c.as_slice-in-Syntax.ensures at c.numbered-in-Syntax.ensures)

pub returns-in-Unsupported : goal.returns-in-Unsupported
returns-in-Unsupported c = rw c.in-Unsupported.is (rw c.as_slice-in-Unsupported.ensures at c.numbered-in-Unsupported.ensures)

pub returns-in-Range : goal.returns-in-Range
returns-in-Range c = rw c.in-Range.is (rw c.as_slice-in-Range.ensures at c.numbered-in-Range.ensures)

pub returns-in-Gap : goal.returns-in-Gap
returns-in-Gap c = rw c.in-Gap.is (rw c.as_slice-in-Gap.ensures at c.ring_line.ensures)

pub returns-in-Overlap : goal.returns-in-Overlap
returns-in-Overlap c = rw c.in-Overlap.is (rw c.as_slice-in-Overlap.ensures at c.ring_line-in-Overlap.ensures)
