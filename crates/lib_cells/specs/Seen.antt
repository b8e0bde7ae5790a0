-- Tokens and statements of the code, as the definitions of Liberty's texts have them. This project's own.
-- Each function says for a value of the code what it is there.
use Rattle.std.specs.Prelude.{List, map}
use Rattle.library_model.specs.LibertyStatements.{Statement}
use Rattle.library_model.specs.LibertyTokens as grammar
use Rattle.lib_cells.specs.declared.scanning.characters.Within.{Within}
use Rattle.lib_cells.specs.declared.scanning.characters.Within.TheVariants.{Plain, Quotes, CommentStart, Comment, CommentStar, Continued, ContinuedQuotes}
use Rattle.lib_cells.specs.declared.syntax.statements.Statement.{Statement as Held}
use Rattle.lib_cells.specs.declared.scanning.tokens.Form.{Form}
use Rattle.lib_cells.specs.declared.scanning.tokens.Form.TheVariants.{Bare, Quoted, Sign}
use Rattle.lib_cells.specs.declared.scanning.tokens.Token.{Token}

abbrev pub within_seen : Within → grammar.Within
within_seen Plain = grammar.plain
within_seen Quotes = grammar.quotes
within_seen CommentStart = grammar.comment_start
within_seen Comment = grammar.comment
within_seen CommentStar = grammar.comment_star
within_seen Continued = grammar.continued
within_seen ContinuedQuotes = grammar.continued_quotes

abbrev pub form_seen : Form → grammar.Form
form_seen Bare = grammar.bare
form_seen Quoted = grammar.quoted
form_seen Sign = grammar.sign

abbrev pub token_seen : Token → grammar.Token
token_seen t = record { gap = t.gap.now; line = t.line; form = form_seen t.form; text = t.text.now }

abbrev pub tokens_seen : List Token → List grammar.Token
tokens_seen tokens = map token_seen tokens

abbrev pub statement_seen : Held → Statement
statement_seen s = record { level = s.level; number = s.number; name = token_seen s.name; rest = tokens_seen s.rest.now }

abbrev pub statements_seen : List Held → List Statement
statements_seen statements = map statement_seen statements
