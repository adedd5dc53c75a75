-- The number of each rule, by which it is printed, and which is their order.
use Rattle.std.specs.Prelude.{ℕ}
use Rattle.vl_vschema.specs.declared.vschema_rule.VschemaRule.{VschemaRule}
use Rattle.vl_vschema.specs.declared.vschema_rule.VschemaRule.TheVariants.{MemberKind, VindexType, LookupMembers, ColumnVindex, PlainTable, LookupFlag}

abbrev pub number_of : VschemaRule → ℕ
number_of MemberKind = 1
number_of VindexType = 2
number_of LookupMembers = 3
number_of ColumnVindex = 4
number_of PlainTable = 5
number_of LookupFlag = 6
