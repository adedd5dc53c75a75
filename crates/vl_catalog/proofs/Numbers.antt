-- All the numbers of a list, number by number.
use Rattle.std.proofs.Common.{ℕ, List, [], ◌++◌, map, Option, unwrap_or}
use Rattle.std.specs.Option.{option_map}
use Rattle.vl_catalog.specs.declared.column.Column.{Column}
use Rattle.vl_catalog.specs.Build.{Names, all_numbers, column_number}

-- these numbers and all of the rest, where none is missing
abbrev pub numbers_behind : List ℕ → List (Option ℕ) → List ℕ
numbers_behind front rest = unwrap_or (option_map (λ numbers. front ++ numbers) (all_numbers rest)) []

-- what is left of the names
abbrev pub numbers_left : List Column → List ℕ → Names → List ℕ
numbers_left columns front names = numbers_behind front (map (column_number columns) names)
