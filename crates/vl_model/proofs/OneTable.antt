-- What a step of the one table keeps, and what its reply tells.
use Rattle.std.proofs.Common.{◌≡◌, ℕ, zero, suc, true, false, ◌+◌, ◌⊎◌, [], ◌∷◌, ◌++◌, length, codes, refl, sym, ◌∙◌, ap, subst, inl, inr, arith, Contains, Some}
use Rattle.std.proofs.lemmas.List.{length-append}
use Rattle.std.proofs.lemmas.List.Elements.{Contains-append_left, Contains-append_right, Contains-append_cases}
use Rattle.vl_values.specs.declared.cause.Cause.TheVariants.{OutOfMemory}
use Rattle.vl_values.specs.declared.reply.Reply.{Reply}
use Rattle.vl_values.specs.Reply.{refusal, done}
use Rattle.vl_values.specs.declared.value.Value.TheVariants.{Uint}
use Rattle.vl_sql.specs.declared.stmt.Stmt.{Stmt}
use Rattle.vl_model.specs.Taken.{insert_of}
use Rattle.vl_model.specs.Tables.{Pair, column}
use Rattle.vl_model.specs.Steps.{Rows, t1_row, duplicate, IsFreeU, IsFreeId, Gains, Inserts, Step}
use Rattle.vl_model.specs.Steps.Inserts.{Done, HasU, HasId, NoRoom}

-- ---- a list that gains a row

along : (old new : Rows) (row : Pair) → old ≡ new → Contains old row → Contains new row
along old new row same h = subst (λ (l : Rows). Contains l row) same h

only_one : (row other : Pair) → Contains (row ∷ []) other → other ≡ row
only_one row other (zero, within, is) = sym is
only_one row other (suc k, within, is) = absurd (omega arith)

one : (row : Pair) → Contains (row ∷ []) row
one row = (0, omega arith, refl)

-- a row that is added stands among the others
pub added_stands : (old new : Rows) (row : Pair) → Gains old row new → Contains new row
added_stands old new row (front, back, was, is) =
    along (front ++ row ∷ back) new row (sym is) (Contains-append_right front (row ∷ back) row (Contains-append_left (row ∷ []) back row (one row)))

-- none that stood is lost
pub none_lost : (old new : Rows) (row other : Pair) → Gains old row new → Contains old other → Contains new other
none_lost old new row other (front, back, was, is) h =
    along (front ++ row ∷ back) new other (sym is) (
    elim (Contains-append_cases front back other (along old (front ++ back) other was h)) [
      | inl before ↦ Contains-append_left front (row ∷ back) other before
      | inr behind ↦ Contains-append_right front (row ∷ back) other (Contains-append_right (row ∷ []) back other behind)
    ])

-- what stands afterwards stood before, or is the row
pub stood_or_added : (old new : Rows) (row other : Pair) → Gains old row new → Contains new other → Contains old other ⊎ (other ≡ row)
stood_or_added old new row other (front, back, was, is) h =
    elim (Contains-append_cases front (row ∷ back) other (along new (front ++ row ∷ back) other is h)) [
      | inl before ↦ inl (along (front ++ back) old other (sym was) (Contains-append_left front back other before))
      | inr rest ↦ elim (Contains-append_cases (row ∷ []) back other rest) [
        | inl here ↦ inr (only_one row other here)
        | inr behind ↦ inl (along (front ++ back) old other (sym was) (Contains-append_right front back other behind))
      ]
    ]

-- it is added once
pub added_once : (old new : Rows) (row : Pair) → Gains old row new → length new ≡ length old + 1
added_once old new row (front, back, was, is) =
    let before : length old ≡ length front + length back = ap length was ∙ length-append front back in
    let after : length new ≡ length front + suc (length back) = ap length is ∙ length-append front (row ∷ back) in omega arith

-- ---- a step adds its row, or changes nothing

some_is : (x y : ℕ × ℕ) → Some x ≡ Some y → x ≡ y
some_is x y h = cc

record Adds (old : Rows) (id u : ℕ) (new : Rows) (reply : Reply) : Type 0 where
  told : reply ≡ done 1 false true
  free_u : IsFreeU old u
  free_id : IsFreeId old id
  gains : Gains old (t1_row id u) new

adds_or_stays : (old new : Rows) (id u : ℕ) (reply : Reply) → Inserts old id u new reply → Adds old id u new reply ⊎ (new ≡ old)
adds_or_stays old new id u _ (Done free_u free_id gains) = inl (record { told = refl; free_u = free_u; free_id = free_id; gains = gains })
adds_or_stays old new id u _ (HasU other h same) = inr same
adds_or_stays old new id u _ (HasId other free h same) = inr same
adds_or_stays old new id u _ (NoRoom same) = inr same

-- a step is that of the INSERT that the statement is
pub step_inserts : (old new : Rows) (stmt : Stmt) (id u : ℕ) (reply : Reply) → insert_of stmt ≡ Some (id, u) → Step old stmt reply new → Inserts old id u new reply
step_inserts old new stmt id u reply is (n, m, takes, step) =
    let same : (n, m) ≡ (id, u) = some_is (n, m) (id, u) (sym takes ∙ is) in subst (λ (p : ℕ × ℕ). Inserts old p.0 p.1 new reply) same step

-- each row that stood stands after every step
pub step_loses_none : (old new : Rows) (stmt : Stmt) (reply : Reply) (row : Pair) → Step old stmt reply new → Contains old row → Contains new row
step_loses_none old new stmt reply row (id, u, takes, step) h =
    elim (adds_or_stays old new id u reply step) [ inl adds ↦ none_lost old new (t1_row id u) row adds.gains h | inr same ↦ along old new row (sym same) h ]

-- ---- both keys are unique

-- rows with one value in this column are one row
abbrev pub HasOneEach : ℕ → Rows → Type 0
HasOneEach n rows = (row other : Pair) → Contains rows row → Contains rows other → column row n ≡ column other n → row ≡ other

one_each_added : (n value : ℕ) (old new : Rows) (row : Pair) → HasOneEach n old → ((other : Pair) → Contains old other → column other n ≡ Uint value → ⊥)
    → column row n ≡ Uint value → Gains old row new → HasOneEach n new
one_each_added n value old new row unique free has gains = λ a b in_a in_b same.
    elim (stood_or_added old new row a gains in_a) [
      | inl old_a ↦ elim (stood_or_added old new row b gains in_b) [
        | inl old_b ↦ unique a b old_a old_b same
        | inr is_b ↦ absurd (free a old_a (same ∙ ap (λ (r : Pair). column r n) is_b ∙ has))
      ]
      | inr is_a ↦ elim (stood_or_added old new row b gains in_b) [
        | inl old_b ↦ absurd (free b old_b (sym same ∙ ap (λ (r : Pair). column r n) is_a ∙ has))
        | inr is_b ↦ is_a ∙ sym is_b
      ]
    ]

-- no step puts a value of id or of u beside another of its kind
pub ids_stay_unique : (old new : Rows) (stmt : Stmt) (reply : Reply) → HasOneEach 0 old → Step old stmt reply new → HasOneEach 0 new
ids_stay_unique old new stmt reply unique (id, u, takes, step) =
    elim (adds_or_stays old new id u reply step) [
      | inl adds ↦ one_each_added 0 id old new (t1_row id u) unique adds.free_id refl adds.gains
      | inr same ↦ subst (HasOneEach 0) (sym same) unique
    ]

pub values_stay_unique : (old new : Rows) (stmt : Stmt) (reply : Reply) → HasOneEach 1 old → Step old stmt reply new → HasOneEach 1 new
values_stay_unique old new stmt reply unique (id, u, takes, step) =
    elim (adds_or_stays old new id u reply step) [
      | inl adds ↦ one_each_added 1 u old new (t1_row id u) unique adds.free_u refl adds.gains
      | inr same ↦ subst (HasOneEach 1) (sym same) unique
    ]

-- ---- values that are taken

-- a row has this value in this column
abbrev pub IsTaken : ℕ → ℕ → Rows → Type 0
IsTaken n value rows = (row : Pair) × Contains rows row × (column row n ≡ Uint value)

-- what is taken stays so
pub stays_taken : (n value : ℕ) (old new : Rows) (stmt : Stmt) (reply : Reply) → IsTaken n value old → Step old stmt reply new → IsTaken n value new
stays_taken n value old new stmt reply (row, stands, has) step = (row, step_loses_none old new stmt reply row step stands, has)

-- where either value is taken, nothing changes
pub taken_u_changes_nothing : (old new : Rows) (stmt : Stmt) (id u : ℕ) (reply : Reply) → insert_of stmt ≡ Some (id, u) → IsTaken 1 u old → Step old stmt reply new → new ≡ old
taken_u_changes_nothing old new stmt id u reply is (row, stands, has) step =
    elim (adds_or_stays old new id u reply (step_inserts old new stmt id u reply is step)) [ inl adds ↦ absurd (adds.free_u row stands has) | inr same ↦ same ]

pub taken_id_changes_nothing : (old new : Rows) (stmt : Stmt) (id u : ℕ) (reply : Reply) → insert_of stmt ≡ Some (id, u) → IsTaken 0 id old → Step old stmt reply new → new ≡ old
taken_id_changes_nothing old new stmt id u reply is (row, stands, has) step =
    elim (adds_or_stays old new id u reply (step_inserts old new stmt id u reply is step)) [ inl adds ↦ absurd (adds.free_id row stands has) | inr same ↦ same ]

taken_then : (old new : Rows) (id u : ℕ) (reply : Reply) → reply ≡ done 1 false true → Inserts old id u new reply → IsTaken 0 id new × IsTaken 1 u new
taken_then old new id u _ is (Done free_u free_id gains) =
    let stands = added_stands old new (t1_row id u) gains in ((t1_row id u, stands, refl), (t1_row id u, stands, refl))
taken_then old new id u _ is (HasU other h same) = absurd (cc)
taken_then old new id u _ is (HasId other free h same) = absurd (cc)
taken_then old new id u _ is (NoRoom same) = absurd (cc)

-- after an INSERT that is done both of its values are taken, so that no later one with either adds a row
pub done_takes : (old new : Rows) (stmt : Stmt) (id u : ℕ) → insert_of stmt ≡ Some (id, u) → Step old stmt (done 1 false true) new → IsTaken 0 id new × IsTaken 1 u new
done_takes old new stmt id u is step =
    taken_then old new id u (done 1 false true) refl (step_inserts old new stmt id u (done 1 false true) is step)

-- ---- what a reply tells

-- an INSERT is done, or one of its two values is taken, or memory ran out
pub refused_for_cause : (old new : Rows) (id u : ℕ) (reply : Reply) → Inserts old id u new reply
    → (reply ≡ done 1 false true) ⊎ (IsTaken 1 u old ⊎ (IsTaken 0 id old ⊎ (reply ≡ refusal OutOfMemory false)))
refused_for_cause old new id u _ (Done free_u free_id gains) = inl refl
refused_for_cause old new id u _ (HasU other h same) = inr (inl (t1_row other u, h, refl))
refused_for_cause old new id u _ (HasId other free h same) = inr (inr (inl (t1_row id other, h, refl)))
refused_for_cause old new id u _ (NoRoom same) = inr (inr (inr refl))

-- a taken value of u is told before a taken id, and the row that is named stands
pub taken_u_told : (old new : Rows) (id u : ℕ) (reply : Reply) → IsTaken 1 u old → Inserts old id u new reply
    → (reply ≡ refusal OutOfMemory false) ⊎ ((other : ℕ) × Contains old (t1_row other u) × (reply ≡ duplicate u (codes "t1_u") other))
taken_u_told old new id u _ (row, stands, has) (Done free_u free_id gains) = absurd (free_u row stands has)
taken_u_told old new id u _ (row, stands, has) (HasU other h same) = inr (other, h, refl)
taken_u_told old new id u _ (row, stands, has) (HasId other free h same) = absurd (free row stands has)
taken_u_told old new id u _ taken (NoRoom same) = inl refl
