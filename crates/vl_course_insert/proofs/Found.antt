-- What the port's answer to an Insert says of its key.
use Rattle.std.proofs.Common.{◌≡◌, ℕ, subst}
use Rattle.vl_values.specs.declared.key.Key.{Key}
use Rattle.vl_catalog.specs.declared.catalog.Catalog.{Catalog}
use Rattle.vl_port.specs.declared.act.Act.{Act}
use Rattle.vl_port.specs.declared.act.Act.TheVariants.{Insert}
use Rattle.vl_port.specs.declared.answer.Answer.{Answer}
use Rattle.vl_port.specs.declared.answer.Answer.TheVariants.{Done, Found}
use Rattle.vl_port.specs.declared.who.Who.{Who}
use Rattle.vl_port.specs.Calls.{PortView}
use Rattle.vl_port.specs.View.{Values}
use Rattle.vl_replay.specs.Calls.{ActsOn}
use Rattle.vl_replay.specs.Showing.{Shows}
use Rattle.vl_replay.proofs.Shown.{found_stands, inserted_none}
use Rattle.vl_run.specs.Run.{Run}
use Rattle.vl_course_insert.specs.Inserting.{IsFoundAs}

module _ (catalog : Catalog) (past : Run) (count : ℕ) (old new : PortView) (who : Who) (shard : ℕ) (act : Act) (answer : Answer) (shows : Shows catalog past count old.shards)
    (acts : ActsOn catalog count old who shard act answer new) where
  acts_as : (key : Key) (row : Values) (other : Answer) → act ≡ Insert key row → answer ≡ other → ActsOn catalog count old who shard (Insert key row) other new
  acts_as key row other is answers = subst (λ (a : Act). ActsOn catalog count old who shard a other new) is (subst (λ (it : Answer). ActsOn catalog count old who shard act it new) answers acts)

  pub found_as : IsFoundAs catalog past who act answer
  found_as = record {
    inserted = λ key row is done. inserted_none catalog past count old new who shard shows key row (acts_as key row Done is done);
    found = λ key k row found is answers. found_stands catalog past count old new who shard shows key k row found (acts_as key row (Found k found) is answers);
  }
