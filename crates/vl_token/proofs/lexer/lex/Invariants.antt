use Rattle.std.proofs.Common.{◌≡◌, ◌-◌, ◌++◌, length, map}
use Rattle.vl_token.specs.Lexical.{cut_within, tokens_in, lefts_in}
use Rattle.vl_token.specs.View.{tokens_of}
use Rattle.vl_token.proofs.lexer.lex.Given as goal

abbrev pub invariant-loop : goal.invariant-loop
invariant-loop l = record {
  tokens : tokens_of l.lexed.tokens.items ++ map (λ p. p.0) (cut_within (length l.text - l.counter) l.rest) ≡ tokens_in l.text;
  left : l.lexed.left.items ++ map (λ p. p.1) (cut_within (length l.text - l.counter) l.rest) ≡ lefts_in l.text;
}
