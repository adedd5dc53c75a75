-- The number of each rule, by which it is printed.
use Rattle.std.specs.Prelude.{ℕ}
use Rattle.vl_rules.specs.declared.catalog_rule.CatalogRule.{CatalogRule}
use Rattle.vl_rules.specs.declared.catalog_rule.CatalogRule.TheVariants.{UniqueTableName, DefinedTable, PrimaryVindexFirst, PrimaryVindexInKey, NumericOnNumber, LookupTable, FromColumns, OwnerListsLookup, LookupTablePlacement, NotWriteOnly, WithinLimits, OneColumnVindex, OneLookupTable, OwnerPlacement}

abbrev pub number_of : CatalogRule → ℕ
number_of UniqueTableName = 1
number_of DefinedTable = 2
number_of PrimaryVindexFirst = 3
number_of PrimaryVindexInKey = 4
number_of NumericOnNumber = 5
number_of LookupTable = 6
number_of FromColumns = 7
number_of OwnerListsLookup = 8
number_of LookupTablePlacement = 9
number_of NotWriteOnly = 10
number_of WithinLimits = 11
number_of OneColumnVindex = 12
number_of OneLookupTable = 13
number_of OwnerPlacement = 14
