-- The lines that tell why a catalog wasn't loaded, each with its LF.
use Rattle.std.specs.Prelude.{ℕ, List, [], ◌++◌, codes, decimal}
use Rattle.hex.specs.Hex.{encode_lower}
use Rattle.vl_rules.specs.RuleNumber as catalog_rules
use Rattle.vl_vschema.specs.RuleNumber as vschema_rules
use Rattle.vl_load.specs.declared.load_fault.LoadFault.{LoadFault}
use Rattle.vl_load.specs.declared.load_fault.LoadFault.TheVariants as faults
use Rattle.vl_load.specs.declared.refused.Refused.{Refused}
use Rattle.vl_load.specs.declared.refused.Refused.TheVariants.{NotJson, Broken, Syntax, Unsupported, Range, Gap, Overlap, Rule}

abbrev pub cause : Refused → List ℕ
cause (NotJson file) = file ++ codes " is not JSON"
cause (Broken path rule) = path ++ (codes " breaks V" ++ decimal (vschema_rules.number_of rule))
cause (Syntax file at) = file ++ (codes " has a syntax error at byte " ++ decimal at)
cause (Unsupported file at) = file ++ (codes " has something unsupported at byte " ++ decimal at)
cause (Range text at) = codes "range " ++ (text ++ (codes " is wrong at byte " ++ decimal at))
cause (Gap keyspace after) = codes "keyspace " ++ (keyspace ++ (codes " has a gap after " ++ encode_lower after))
cause (Overlap keyspace at) = codes "keyspace " ++ (keyspace ++ (codes " has an overlap at " ++ encode_lower at))
cause (Rule table rule) = codes "table " ++ (table ++ (codes " breaks C" ++ decimal (catalog_rules.number_of rule)))

abbrev pub refusal_line : Refused → List ℕ
refusal_line fault = codes "catalog refused: " ++ (cause fault ++ codes "\n")

-- a load that failed and want of memory have no line
abbrev pub fault_line : LoadFault → List ℕ
fault_line faults.Failed = []
fault_line (faults.TooLong file) = codes "file " ++ (file ++ codes " is too long\n")
fault_line (faults.Refused fault) = refusal_line fault
fault_line faults.Memory = []
