use Rattle.std.proofs.Common.{◌-◌, length, sym, ◌∙◌, arith}
use Rattle.std.proofs.lemmas.Bool.{eqb-true, eqb-false}
use Rattle.std.proofs.lemmas.List.{length-map}
use Rattle.vl_token.specs.View.{tok, tokens_of}
use Rattle.vl_ddl.proofs.ReadingSteps.{schema_none, schema_past, schema_fails, schema_goes}
use Rattle.vl_ddl.proofs.schema.statements.Goals as goal

pub returns-then-is_empty : goal.returns-then-is_empty
returns-then-is_empty c =
    sym c.loop.invariant ∙ schema_none c.args.wide (length c.args.tokens.now - c.loop.counter) c.loop.list.items (tokens_of c.loop.rest.now) (length-map c.loop.rest.now tok ∙ eqb-true (length c.loop.rest.now) 0 (sym c.if-is_empty.ensures))

pub returns-in-Err : goal.returns-in-Err
returns-in-Err c =
    schema_fails c.args.wide (length c.args.tokens.now) c.loop.counter c.loop.list.items (tokens_of c.loop.rest.now) _ c.in-Err.error c.loop.invariant c.loop-test.true
    (λ e. eqb-false (length c.loop.rest.now) 0 (sym c.if-is_empty.ensures) (sym (length-map c.loop.rest.now tok) ∙ e)) c.in-Err.ensures

pub loop-preserved : goal.loop-preserved
loop-preserved c =
    rw c.in_ok-push.ensures.items
    (schema_goes c.args.wide (length c.args.tokens.now) c.loop.counter c.loop.list.items (tokens_of c.loop.rest.now) _ c.in-Ok.read.0 (tokens_of c.in-Ok.read.1.now) c.loop.invariant c.loop-test.true
    (λ e. eqb-false (length c.loop.rest.now) 0 (sym c.if-is_empty.ensures) (sym (length-map c.loop.rest.now tok) ∙ e)) c.in-Ok.ensures)

pub returns : goal.returns
returns c = sym c.loop.invariant ∙ schema_past c.args.wide (length c.args.tokens.now - c.loop.counter) c.loop.list.items (tokens_of c.loop.rest.now) (omega arith)
