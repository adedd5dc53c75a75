-- What happens at the core while a session is there: events of that session, and events of others.
use Rattle.std.specs.Prelude.{◌≡◌, Bool, true, false, List, [], ◌∷◌, Option, Some, None}
use Rattle.std.specs.List.{filter_map}
use Rattle.vl_sql.specs.declared.stmt.Stmt.{Stmt}
use Rattle.vl_cluster.specs.View.{View, Joins, Acted, Leaves, last_event}
use Rattle.vl_cluster.specs.declared.session.Session.{Session}
use Rattle.vl_cluster.specs.declared.what.What.{What}
use Rattle.vl_cluster.specs.declared.what.What.TheVariants.{Reply, Stray}
use Rattle.my_reply.specs.Reply.{IsShort}

-- what a session does: it joins and gets its pass, says a statement by its pass and is told an answer with the
-- next pass, or leaves
pub data Deed : Type 0 where
  Join : Session → Deed
  Say : Session → Stmt → What → Session → Deed
  Leave : Session → Deed

-- an event: what was done, and whether the connection's own session did it
pub record Event : Type 0 where
  pub own : Bool
  pub deed : Deed

-- the core does it, and so changes
abbrev pub Does : View → Deed → View → Type 0
Does old (Join pass) new = Joins old pass new
Does old (Say pass stmt what next) new = Acted old pass stmt next what new
Does old (Leave pass) new = Leaves old pass new

-- these events, one after another
abbrev pub Run : View → List Event → View → Type 0
Run old [] new = new ≡ old
Run old (event ∷ events) new = (mid : View) × Does old event.deed mid × Run mid events new

abbrev pub own_deed : Bool → Deed → Option Deed
own_deed true deed = Some deed
own_deed false deed = None

-- what the connection's own session did
abbrev pub own_deeds : List Event → List Deed
own_deeds = filter_map (λ event. own_deed event.own event.deed)

-- what one session says from one pass to another, each time by the pass that it was given last
abbrev pub Chained : Session → List Deed → Session → Type 0
Chained pass [] last = last ≡ pass
Chained pass (Say by stmt what next ∷ deeds) last = (by ≡ pass) × Chained next deeds last
Chained pass (deed ∷ deeds) last = ⊥

-- events happened, of which these are the connection's own; nothing is said of a core that isn't told
abbrev pub Ran : Option View → List Deed → Option View → Type 0
Ran None deeds new = Unit {0}
Ran (Some old) deeds None = ⊥
Ran (Some old) deeds (Some new) = (events : List Event) × Run old events new × (own_deeds events ≡ deeds)

-- a reply that is told is one packet: no statement that is taken asks for rows
abbrev pub IsShortTold : What → Type 0
IsShortTold (Reply reply) = IsShort reply
IsShortTold Stray = Unit {0}

-- the last event number is reached, where the core is told
abbrev pub IsLast : Option View → Type 0
IsLast None = Unit {0}
IsLast (Some view) = view.at ≡ last_event
