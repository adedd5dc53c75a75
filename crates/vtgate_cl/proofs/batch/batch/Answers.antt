use Rattle.std.proofs.Common.{inl, inr, subst}
use Rattle.vtgate_cl.specs.declared.wanted.Wanted.{Wanted}
use Rattle.vtgate_cl.specs.Words.{Asks}
use Rattle.vtgate_cl.proofs.Batching.{check_status, check_told, check_unread, refusal_refuses, refusal_status, script_unread, script_unread_status, unnamed}
use Rattle.vtgate_cl.proofs.Wording.{script_not_check}
use Rattle.vtgate_cl.proofs.batch.batch.Goals as goal

-- ---- the words aren't read

pub returns-in-Err-clause-refused : goal.returns-in-Err-clause-refused
returns-in-Err-clause-refused g c =
    refusal_refuses c.args.words.now c.in-Err.fault c.status.result c.status.ensures c.in-Err.ensures.err

pub returns-in-Err-clause-other : goal.returns-in-Err-clause-other
returns-in-Err-clause-other g c = λ other. refusal_status c.in-Err.fault c.status.result c.status.ensures

pub returns-in-Err-clause-script : goal.returns-in-Err-clause-script
returns-in-Err-clause-script g c =
    script_unread c.args.words.now c.in-Err.fault c.status.result (g.S.Source.left c.args.src.now) (g.O.Sink.held c.args.out.now) c.status.ensures c.in-Err.ensures.err

pub returns-in-Err-clause-script_status : goal.returns-in-Err-clause-script_status
returns-in-Err-clause-script_status g c =
    script_unread_status c.args.words.now c.in-Err.fault c.status.result c.status.ensures c.in-Err.ensures.err

pub returns-in-Err-clause-check : goal.returns-in-Err-clause-check
returns-in-Err-clause-check g c name =
    check_unread c.args.words.now c.in-Err.fault c.status.result (g.F.Files.known c.args.files.now) name (g.F.Files.failures c.args.files.now) (g.O.Sink.held c.args.out.now) c.status.ensures c.in-Err.ensures.err

pub returns-in-Err-clause-named : goal.returns-in-Err-clause-named
returns-in-Err-clause-named g c =
    unnamed c.args.words.now c.in-Err.fault c.status.result c.status.ensures c.in-Err.ensures.err

-- ---- they ask for a script

pub returns-in-Script-clause-other : goal.returns-in-Script-clause-other
returns-in-Script-clause-other g c other =
    absurd (other (inl (subst (λ (w : Wanted). Asks c.args.words.now w) c.in-Script.is c.in-Ok.ensures.ok)))

pub returns-in-Script-clause-untouched : goal.returns-in-Script-clause-untouched
returns-in-Script-clause-untouched g c other =
    absurd (other (inl (subst (λ (w : Wanted). Asks c.args.words.now w) c.in-Script.is c.in-Ok.ensures.ok)))

pub returns-in-Script-clause-check : goal.returns-in-Script-clause-check
returns-in-Script-clause-check g c name asks =
    absurd (script_not_check c.args.words.now (subst (λ (w : Wanted). Asks c.args.words.now w) c.in-Script.is c.in-Ok.ensures.ok) asks.0)

pub returns-in-Script-clause-named : goal.returns-in-Script-clause-named
returns-in-Script-clause-named g c asks other =
    absurd (script_not_check c.args.words.now (subst (λ (w : Wanted). Asks c.args.words.now w) c.in-Script.is c.in-Ok.ensures.ok) asks)

pub returns-in-Script-clause-check_source : goal.returns-in-Script-clause-check_source
returns-in-Script-clause-check_source g c asks =
    absurd (script_not_check c.args.words.now (subst (λ (w : Wanted). Asks c.args.words.now w) c.in-Script.is c.in-Ok.ensures.ok) asks)

-- ---- they ask for a check

pub returns-in-Check-clause-refused : goal.returns-in-Check-clause-refused
returns-in-Check-clause-refused g c one =
    absurd ((check_status _ _ _ _ _ _ _ c.check.ensures.told).0 one)

pub returns-in-Check-clause-other : goal.returns-in-Check-clause-other
returns-in-Check-clause-other g c other =
    absurd (other (inr (subst (λ (w : Wanted). Asks c.args.words.now w) c.in-Check.is c.in-Ok.ensures.ok).0))

pub returns-in-Check-clause-untouched : goal.returns-in-Check-clause-untouched
returns-in-Check-clause-untouched g c other =
    absurd (other (inr (subst (λ (w : Wanted). Asks c.args.words.now w) c.in-Check.is c.in-Ok.ensures.ok).0))

pub returns-in-Check-clause-script : goal.returns-in-Check-clause-script
returns-in-Check-clause-script g c script =
    absurd (script_not_check c.args.words.now script (subst (λ (w : Wanted). Asks c.args.words.now w) c.in-Check.is c.in-Ok.ensures.ok).0)

pub returns-in-Check-clause-script_status : goal.returns-in-Check-clause-script_status
returns-in-Check-clause-script_status g c script =
    absurd (script_not_check c.args.words.now script (subst (λ (w : Wanted). Asks c.args.words.now w) c.in-Check.is c.in-Ok.ensures.ok).0)

pub returns-in-Check-clause-script_files : goal.returns-in-Check-clause-script_files
returns-in-Check-clause-script_files g c script =
    absurd (script_not_check c.args.words.now script (subst (λ (w : Wanted). Asks c.args.words.now w) c.in-Check.is c.in-Ok.ensures.ok).0)

pub returns-in-Check-clause-check : goal.returns-in-Check-clause-check
returns-in-Check-clause-check g c name asks =
    check_told c.args.words.now (g.F.Files.known c.args.files.now) c.in-Check.catalog.now name (g.F.Files.failures c.args.files.now) (g.F.Files.failures c.check.new.files) c.check.result (g.O.Sink.held c.args.out.now) (g.O.Sink.held c.check.new.out) (subst (λ (w : Wanted). Asks c.args.words.now w) c.in-Check.is c.in-Ok.ensures.ok) c.check.ensures.told asks

pub returns-in-Check-clause-named : goal.returns-in-Check-clause-named
returns-in-Check-clause-named g c asks other =
    (c.in-Check.catalog.now, subst (λ (w : Wanted). Asks c.args.words.now w) c.in-Check.is c.in-Ok.ensures.ok)

pub returns-in-Check-clause-read : goal.returns-in-Check-clause-read
returns-in-Check-clause-read g c three =
    absurd ((check_status _ _ _ _ _ _ _ c.check.ensures.told).1 three)
