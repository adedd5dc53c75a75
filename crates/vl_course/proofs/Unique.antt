-- A read gives one list of rows, so what a statement's reads gave is one list too.
use Rattle.std.proofs.Common.{◌≡◌, ◌∙◌, ◌==◌, ◌++◌, ℕ, Bool, true, false, [], ◌∷◌, Option, Some, None, refl, sym, ap}
use Rattle.vl_values.specs.declared.key.Key.{Key}
use Rattle.vl_values.specs.declared.pred.Pred.{Pred}
use Rattle.vl_values.specs.Keyed.{value_at}
use Rattle.vl_values.proofs.Keying.{contains_iff, same_entries}
use Rattle.vl_catalog.specs.declared.catalog.Catalog.{Catalog}
use Rattle.vl_port.specs.declared.act.Act.{Act}
use Rattle.vl_port.specs.declared.act.Act.TheVariants.{Insert, Put, Remove, RemoveIf, Find}
use Rattle.vl_port.specs.declared.who.Who.{Who}
use Rattle.vl_port.specs.View.{Values}
use Rattle.vl_run.specs.declared.deed.Deed.{Deed}
use Rattle.vl_run.specs.declared.deed.Deed.TheVariants as deeds
use Rattle.vl_run.specs.declared.mark.Mark.{Mark}
use Rattle.vl_run.specs.declared.request.Request.{Request}
use Rattle.vl_run.specs.declared.request.Request.TheVariants as requests
use Rattle.vl_run.specs.Gathered.{Extends, ExtendsIf, Gathered, Given, GivenBy, Looked, OwnOr, Reads, ReadsBy, Rows, SinceIf, shown}
use Rattle.vl_run.specs.Machine.{Machine}
use Rattle.vl_run.specs.Progress.{is_look, is_read}
use Rattle.vl_run.specs.Run.{Run}
use Rattle.vl_run.specs.Run.Point.{Began, Happened}

-- ---- one read

same_options : {A : Type 0} (a b : Option A) → ((v : A) → a ≡ Some v → b ≡ Some v) → ((v : A) → b ≡ Some v → a ≡ Some v) → a ≡ b
same_options None None there back = refl
same_options None (Some w) there back = back w refl
same_options (Some v) b there back = sym (there v refl)

module _ (catalog : Catalog) (u : Machine) (who : Who) (shard : ℕ) (pred : Pred) where
  -- each row of the one stands in the other
  there : (rows others : Rows) → Reads catalog u who shard pred rows → Reads catalog u who shard pred others → (key : Key) (row : Values) → value_at rows key ≡ Some row → value_at others key ≡ Some row
  there rows others read other key row at =
      let sound = read.sound (key, row) ((contains_iff rows (key, row) read.ordered).1 at) in
      (contains_iff others (key, row) other.ordered).0 (other.complete key row sound.0 sound.1 sound.2)

  pub reads_unique : (rows others : Rows) → Reads catalog u who shard pred rows → Reads catalog u who shard pred others → rows ≡ others
  reads_unique rows others read other =
      same_entries rows others read.ordered other.ordered (λ key. same_options (value_at rows key) (value_at others key) (there rows others read other key) (there others rows other read key))

reads_by_unique : (catalog : Catalog) (u : Machine) (who : Who) (shard : ℕ) (act : Act) (rows others : Rows) → ReadsBy catalog u who shard act rows → ReadsBy catalog u who shard act others → rows ≡ others
reads_by_unique catalog u who shard (Find pred locking) rows others read other = reads_unique catalog u who shard pred rows others read other
reads_by_unique catalog u who shard (Insert key row) rows others read other = absurd read
reads_by_unique catalog u who shard (Put key row) rows others read other = absurd read
reads_by_unique catalog u who shard (Remove key) rows others read other = absurd read
reads_by_unique catalog u who shard (RemoveIf key column value) rows others read other = absurd read

-- ---- all reads of a kind

-- at most one list of rows is so
abbrev IsOne : (Rows → Type 0) → Type 0
IsOne Is = (rows others : Rows) → Is rows → Is others → rows ≡ others

extends_one : (Before More : Rows → Type 0) → IsOne Before → IsOne More → IsOne (Extends Before More)
extends_one Before More front back rows others a b =
    a.joined ∙ ap (λ (r : Rows). r ++ a.back) (front a.front b.front a.before b.before) ∙ ap (λ (r : Rows). b.front ++ r) (back a.back b.back a.more b.more) ∙ sym b.joined

extends_if_one : (is : Bool) (Before More : Rows → Type 0) → IsOne Before → IsOne More → IsOne (ExtendsIf is Before More)
extends_if_one true Before More front back = extends_one Before More front back
extends_if_one false Before More front back = front

given_by_one : (catalog : Catalog) (is : Mark → Bool) (u : Machine) (deed : Deed) (Before : Rows → Type 0) → IsOne Before → IsOne (GivenBy catalog is u deed Before)
given_by_one catalog is u deeds.Nothing Before one = one
given_by_one catalog is u (deeds.Acts who shard act mark) Before one = extends_if_one (is mark) Before (ReadsBy catalog u who shard act) one (reads_by_unique catalog u who shard act)
given_by_one catalog is u (deeds.Commits who shard) Before one = one
given_by_one catalog is u (deeds.Fails who shard) Before one = one

since_one : (request : Request) (Before : Rows → Type 0) → IsOne Before → IsOne (SinceIf request Before)
since_one requests.Join Before one rows others a b = a ∙ sym b
since_one (requests.Say stmt) Before one rows others a b = a ∙ sym b
since_one requests.Reset Before one rows others a b = a ∙ sym b
since_one requests.Step Before one rows others a b = one rows others a b
since_one requests.Leave Before one rows others a b = a ∙ sym b
since_one (requests.Kill who shard) Before one rows others a b = one rows others a b

own_one : (own : Bool) (One Other : Rows → Type 0) → IsOne One → IsOne Other → (rows others : Rows) → OwnOr own (One rows) (Other rows) → OwnOr own (One others) (Other others) → rows ≡ others
own_one true One Other one other rows others a b = one rows others a b
own_one false One Other one other rows others a b = other rows others a b

pub given_unique : (catalog : Catalog) (is : Mark → Bool) (past : Run) (n : ℕ) (rows others : Rows) → Given catalog is past n rows → Given catalog is past n others → rows ≡ others
given_unique catalog is [] n rows others a b = a ∙ sym b
given_unique catalog is (Began opening ∷ past) n rows others a b = a ∙ sym b
given_unique catalog is (Happened e ∷ past) n rows others a b =
    own_one (e.session == n) (GivenBy catalog is (shown catalog past) e.deed (SinceIf e.request (Given catalog is past n))) (Given catalog is past n)
    (given_by_one catalog is (shown catalog past) e.deed (SinceIf e.request (Given catalog is past n)) (since_one e.request (Given catalog is past n) (given_unique catalog is past n)))
    (given_unique catalog is past n) rows others a b

pub gathered_unique : (catalog : Catalog) (past : Run) (n : ℕ) (rows others : Rows) → Gathered catalog past n rows → Gathered catalog past n others → rows ≡ others
gathered_unique catalog past n rows others a b = given_unique catalog is_read past n rows others a b

pub looked_unique : (catalog : Catalog) (past : Run) (n : ℕ) (entries others : Rows) → Looked catalog past n entries → Looked catalog past n others → entries ≡ others
looked_unique catalog past n entries others a b = given_unique catalog is_look past n entries others a b
