use Rattle.vl_replay.proofs.Alone.{main_alone, pre_alone}
use Rattle.vl_replay.proofs.law.undisturbed.Goals as goal

pub returns : goal.returns
returns start = record { main = main_alone; pre = pre_alone }
