use Rattle.std.proofs.Common.{Bool, inr, refl, subst}
use Rattle.vl_shard.specs.Calls.{IsRefusal}
use Rattle.vl_shard.specs.Parts.{view_of}
use Rattle.vl_shard.proofs.Using.{cut_behind}
use Rattle.vl_shard.proofs.shard.Shard.forget_act.Goals as goal

pub returns-clause-carried : goal.returns-clause-carried
returns-clause-carried c =
    let told = subst (λ (b : Bool). IsRefusal b c.take_act-answer.result) c.if-is_refusal.false c.is_refusal.ensures in
    inr (
      c.take_act-answer.result,
      view_of c.take_act-answer.new.self,
      told,
      c.take_act-answer.ensures.used,
      (refl, cut_behind (view_of c.args.self.now) (view_of c.take_act-answer.new.self) (view_of c.lose.new.self) c.args.who.now c.args.act.now c.take_act-answer.result refl told c.take_act-answer.ensures.used c.lose.ensures),
    )
