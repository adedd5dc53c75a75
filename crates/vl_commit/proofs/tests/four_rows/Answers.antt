use Rattle.std.proofs.Common.{◌∙◌}
use Rattle.vl_shard.specs.Banks.{seen_of}
use Rattle.vl_commit.proofs.Asks.{leaves_more}
use Rattle.vl_commit.proofs.tests.four_rows.Goals as goal

pub returns-in_err-high-clause-others : goal.returns-in_err-high-clause-others
returns-in_err-high-clause-others c =
    leaves_more c.args.tx.now.number c.insert_by-2.new.tx.number (seen_of c.args.bank.now) (seen_of c.insert_by-2.new.bank) (seen_of c.insert_by-3.new.bank) (c.insert_by-2.ensures.number ∙ c.insert_by.ensures.number)
    (leaves_more c.args.tx.now.number c.insert_by.new.tx.number (seen_of c.args.bank.now) (seen_of c.insert_by.new.bank) (seen_of c.insert_by-2.new.bank) c.insert_by.ensures.number c.insert_by.ensures.others c.insert_by-2.ensures.others) c.insert_by-3.ensures.others

pub returns-in_err-pre-clause-others : goal.returns-in_err-pre-clause-others
returns-in_err-pre-clause-others c =
    leaves_more c.args.tx.now.number c.insert_by-3.new.tx.number (seen_of c.args.bank.now) (seen_of c.insert_by-3.new.bank) (seen_of c.insert_by-4.new.bank) (c.insert_by-3.ensures.number ∙ c.insert_by-2.ensures.number ∙ c.insert_by.ensures.number)
    (leaves_more c.args.tx.now.number c.insert_by-2.new.tx.number (seen_of c.args.bank.now) (seen_of c.insert_by-2.new.bank) (seen_of c.insert_by-3.new.bank) (c.insert_by-2.ensures.number ∙ c.insert_by.ensures.number)
    (leaves_more c.args.tx.now.number c.insert_by.new.tx.number (seen_of c.args.bank.now) (seen_of c.insert_by.new.bank) (seen_of c.insert_by-2.new.bank) c.insert_by.ensures.number c.insert_by.ensures.others c.insert_by-2.ensures.others) c.insert_by-3.ensures.others) c.insert_by-4.ensures.others

pub returns-then-pre-clause-others : goal.returns-then-pre-clause-others
returns-then-pre-clause-others c =
    leaves_more c.args.tx.now.number c.insert_by-3.new.tx.number (seen_of c.args.bank.now) (seen_of c.insert_by-3.new.bank) (seen_of c.insert_by-4.new.bank) (c.insert_by-3.ensures.number ∙ c.insert_by-2.ensures.number ∙ c.insert_by.ensures.number)
    (leaves_more c.args.tx.now.number c.insert_by-2.new.tx.number (seen_of c.args.bank.now) (seen_of c.insert_by-2.new.bank) (seen_of c.insert_by-3.new.bank) (c.insert_by-2.ensures.number ∙ c.insert_by.ensures.number)
    (leaves_more c.args.tx.now.number c.insert_by.new.tx.number (seen_of c.args.bank.now) (seen_of c.insert_by.new.bank) (seen_of c.insert_by-2.new.bank) c.insert_by.ensures.number c.insert_by.ensures.others c.insert_by-2.ensures.others) c.insert_by-3.ensures.others) c.insert_by-4.ensures.others

pub returns-clause-others : goal.returns-clause-others
returns-clause-others c =
    leaves_more c.args.tx.now.number c.insert_by-3.new.tx.number (seen_of c.args.bank.now) (seen_of c.insert_by-3.new.bank) (seen_of c.insert_by-4.new.bank) (c.insert_by-3.ensures.number ∙ c.insert_by-2.ensures.number ∙ c.insert_by.ensures.number)
    (leaves_more c.args.tx.now.number c.insert_by-2.new.tx.number (seen_of c.args.bank.now) (seen_of c.insert_by-2.new.bank) (seen_of c.insert_by-3.new.bank) (c.insert_by-2.ensures.number ∙ c.insert_by.ensures.number)
    (leaves_more c.args.tx.now.number c.insert_by.new.tx.number (seen_of c.args.bank.now) (seen_of c.insert_by.new.bank) (seen_of c.insert_by-2.new.bank) c.insert_by.ensures.number c.insert_by.ensures.others c.insert_by-2.ensures.others) c.insert_by-3.ensures.others) c.insert_by-4.ensures.others
