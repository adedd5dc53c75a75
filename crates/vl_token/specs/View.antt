-- What a token of the program stands for.
use Rattle.std.specs.Prelude.{List, map}
use Rattle.vl_token.specs.Tok.{Tok}
use Rattle.vl_token.specs.Tok.{Tok as toks}
use Rattle.vl_token.specs.Lexical.{unescaped, unhexed}
use Rattle.vl_token.specs.Lexical.{Lexeme}
use Rattle.vl_token.specs.Lexical.Lexeme.{Gap, Piece, Wrong}
use Rattle.vl_token.specs.declared.lexer.Found.{Found}
use Rattle.vl_token.specs.declared.lexer.Found.TheVariants as finds
use Rattle.vl_token.specs.declared.token.Token.{Token}
use Rattle.vl_token.specs.declared.token.Token.TheVariants.{Word, Quoted, Text, Hex, Number, Variable, Mark, Bad}

abbrev pub tok : Token → Tok
tok (Word w) = toks.Word w.now
tok (Quoted w) = toks.Quoted w.now
tok (Text q raw) = toks.Text (unescaped q raw.now)
tok (Hex ds) = toks.Hex (unhexed ds.now)
tok (Number minus ds) = toks.Number minus ds.now
tok (Variable w) = toks.Variable w.now
tok (Mark b) = toks.Mark b
tok Bad = toks.Bad

abbrev pub tokens_of : List Token → List Tok
tokens_of ts = map tok ts

abbrev pub lexeme : Found → Lexeme
lexeme (finds.Gap rest) = Gap rest.now
lexeme (finds.Piece t rest) = Piece (tok t) rest.now
lexeme finds.Wrong = Wrong
