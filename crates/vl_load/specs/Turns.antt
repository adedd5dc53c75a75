-- Items that are looked at one after another, up to the first that isn't fine.
use Rattle.std.specs.Prelude.{◌≡◌, List, ◌∷◌, ◌++◌}
use Rattle.std.specs.List.{AllZip}

-- of the items, those before this one have what is made of them, and this one has the fault
pub record IsFirst {A B F : Type 0} (makes : A → B → Type 0) (fails : A → F → Type 0) (items : List A) (fault : F) : Type 0 where
  pub before : List A
  pub item : A
  pub behind : List A
  pub parts : items ≡ before ++ item ∷ behind
  pub made : List B
  pub fine : AllZip makes before made
  pub failed : fails item fault
