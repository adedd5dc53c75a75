use Rattle.std.proofs.Common.{◌≤◌, length}
use Rattle.vl_base.specs.Files.{file_limit}
use Rattle.vl_base.proofs.folder_files.read_whole.Given as goal

abbrev pub invariant-loop : goal.invariant-loop
invariant-loop g l = length l.bytes.items ≤ file_limit
