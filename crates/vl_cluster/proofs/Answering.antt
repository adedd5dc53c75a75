-- A statement that was run on the shards' lists is answered as the core's view says.
use Rattle.std.proofs.Common.{◌≡◌, ℕ, ◌+◌, ◌<◌, ◌≤◌, List, [], ◌∷◌, ◌++◌, length, take, drop, set, get_or, refl, sym, ◌∙◌, ap, subst, arith, Some}
use Rattle.std.proofs.lemmas.List.{take_all, append-nil}
use Rattle.std.proofs.lemmas.List.Elements.{All-contains}
use Rattle.std.proofs.Math.ListN.{drop_of_length-le}
use Rattle.vl_values.specs.declared.reply.Reply.{Reply as AReply}
use Rattle.vl_values.specs.declared.reply.Reply.TheVariants.{Ok, Err, Rows as ResultSet}
use Rattle.vl_sql.specs.declared.stmt.Stmt.{Stmt}
use Rattle.vl_model.specs.Taken.{insert_of}
use Rattle.vl_model.specs.Steps.{Inserts, Step, Rows, table_rows}
use Rattle.vl_cluster.specs.declared.session.Session.{Session}
use Rattle.vl_cluster.specs.declared.what.What.{What}
use Rattle.vl_cluster.specs.declared.what.What.TheVariants.{Reply}
use Rattle.vl_cluster.specs.Lists.{Lists, tables_of, all_rows}
use Rattle.vl_cluster.specs.Numbers.{AreLawful, IsNextFree, last_event, next_event}
use Rattle.vl_cluster.specs.View.{View, Acted, Joins, IfRefused}
use Rattle.vl_cluster.proofs.Sounding.{table_rows-tables_of}

-- a whole slice that was written is what the vector then has
pub whole : {X : Type 0} (n : ℕ) (xs ys : List X) → n ≡ length xs → length ys ≡ length xs → take n (ys ++ drop (length ys) xs) ≡ ys
whole n xs ys is same =
    ap (λ (l : List _). take n (ys ++ l)) (drop_of_length-le xs (omega arith)) ∙ ap (take n) (append-nil ys) ∙ take_all n ys (omega arith)

-- what the core shows of lists and sessions
abbrev pub shown : List Lists → List Session → ℕ → ℕ → View
shown shards joined at named = record { tables = tables_of shards; joined = joined; at = at; named = named }

step_shown : (shards after : List Lists) (id u : ℕ) (stmt : Stmt) (reply : AReply) → insert_of stmt ≡ Some (id, u) → Inserts (all_rows shards) id u (all_rows after) reply
    → Step (table_rows (tables_of shards)) stmt reply (table_rows (tables_of after))
step_shown shards after id u stmt reply is step = (
  id,
  u,
  is,
  subst (λ (r : Rows). Inserts r id u (table_rows (tables_of after)) reply) (sym (table_rows-tables_of shards))
      (subst (λ (r : Rows). Inserts (all_rows shards) id u r reply) (sym (table_rows-tables_of after)) step),
)

before_last : (at : ℕ) → (at ≡ last_event → ⊥) → at ≤ last_event → at < last_event
before_last at apart bound = omega arith

-- shards that stay as they were show the tables that they showed
kept_tables : (shards after : List Lists) (reply : AReply) → IfRefused reply (after ≡ shards) → IfRefused reply (tables_of after ≡ tables_of shards)
kept_tables shards after (Ok affected found warnings tx auto) same = tt
kept_tables shards after (ResultSet columns rows tx auto) same = tt
kept_tables shards after (Err code why tx) same = ap tables_of same

rises : (joined : List Session) (at place : ℕ) (pass next : Session) → AreLawful joined at → place < length joined → get_or joined place pass ≡ pass → next ≡ record { number = pass.number; at = at + 1 } → pass.at < next.at
rises joined at place pass next lawful within here moved =
    let seen = All-contains (λ (s : Session). s.at ≤ at) joined pass lawful.seen (place, within, here) in let later : next.at ≡ at + 1 = ap (λ (s : Session). s.at) moved in omega arith

pub answered : (old : View) (shards after : List Lists) (joined : List Session) (at named place id u : ℕ) (stmt : Stmt) (pass next : Session) (reply : AReply) (what : What)
    → shown shards joined at named ≡ old → place < length joined → get_or joined place pass ≡ pass → (at ≡ last_event → ⊥) → insert_of stmt ≡ Some (id, u)
    → Inserts (all_rows shards) id u (all_rows after) reply → IfRefused reply (after ≡ shards) → AreLawful joined at → next ≡ record { number = pass.number; at = at + 1 } → what ≡ Reply reply
    → Acted old pass stmt next what (shown after (set joined place (record { number = pass.number; at = at + 1 })) (at + 1) named)
answered old shards after joined at named place id u stmt pass next reply what is within here apart asks step refused lawful moved told =
    subst (λ (v : View). Acted v pass stmt next what (shown after (set joined place (record { number = pass.number; at = at + 1 })) (at + 1) named)) is
    (subst (λ (w : What). Acted (shown shards joined at named) pass stmt next w (shown after (set joined place (record { number = pass.number; at = at + 1 })) (at + 1) named)) (sym told)
    (record {
      joined = (place, within, here);
      before_last = before_last at apart lawful.within;
      step = step_shown shards after id u stmt reply asks step;
      kept = kept_tables shards after reply refused;
      at = refl;
      named = refl;
      next_is = moved;
      rises = rises joined at place pass next lawful within here moved;
      sessions = (place, within, here, ap (set joined place) (sym moved));
    }))

-- the same where the vector of the shards and the pass are told by equations
pub answered_of : (old : View) (shards after lists : List Lists) (joined : List Session) (at named place id u : ℕ) (stmt : Stmt) (given pass next : Session) (reply : AReply) (what : What)
    → lists ≡ after → pass ≡ given
    → shown shards joined at named ≡ old → place < length joined → get_or joined place pass ≡ pass → (at ≡ last_event → ⊥) → insert_of stmt ≡ Some (id, u)
    → Inserts (all_rows shards) id u (all_rows after) reply → IfRefused reply (after ≡ shards) → AreLawful joined at → next ≡ record { number = pass.number; at = at + 1 } → what ≡ Reply reply
    → Acted old given stmt next what (shown lists (set joined place (record { number = pass.number; at = at + 1 })) (at + 1) named)
answered_of old shards after lists joined at named place id u stmt given pass next reply what as_written same is within here apart asks step refused lawful moved told =
    subst (λ (l : List Lists). Acted old given stmt next what (shown l (set joined place (record { number = pass.number; at = at + 1 })) (at + 1) named)) (sym as_written)
    (subst (λ (p : Session). Acted old p stmt next what (shown after (set joined place (record { number = pass.number; at = at + 1 })) (at + 1) named)) same
    (answered old shards after joined at named place id u stmt pass next reply what is within here apart asks step refused lawful moved told))

-- a session was put behind the others
pub joins_shown : (old : View) (shards : List Lists) (joined after : List Session) (at named next number : ℕ) (pass : Session)
    → shown shards joined at named ≡ old → IsNextFree joined named number → after ≡ joined ++ record { number = number; at = next } ∷ [] → next ≡ next_event at → next ≤ last_event
    → pass ≡ record { number = number; at = next } → Joins old pass (shown shards after next number)
joins_shown old shards joined after at named next number pass is free pushed counted within given =
    subst (λ (v : View). Joins v pass (shown shards after next number)) is
    (subst (λ (p : Session). Joins (shown shards joined at named) p (shown shards after next number)) (sym given)
    (record {
      fresh = free.2;
      number = free;
      named = refl;
      tables = refl;
      at = counted;
      pass_at = refl;
      within = within;
      sessions = pushed;
    }))
