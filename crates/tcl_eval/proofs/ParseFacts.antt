-- Tokens of an expression one after the other, and what was read of them.
use Rattle.std.proofs.Common.{◌≡◌, ◌≤◌, ◌+◌, ◌++◌, ℕ, List, [], ◌∷◌, Option, Some, None, Ok, Err, drop, length, refl, sym, ap, subst, ◌∙◌, arith}
use Rattle.std.proofs.lemmas.Option.{none-some, same_Some}
use Rattle.std.proofs.lemmas.Str.{IsCharBoundary-start}
use Rattle.std.specs.Prelude.{option_and_then}
use Rattle.std.specs.Str.{IsCharBoundary, IsUtf8}
use Rattle.sdc_base.specs.Gives.{Meets}
use Rattle.sdc_base.specs.declared.memory.Stop.{Stop}
use Rattle.sdc_base.specs.declared.memory.Stop.TheVariants.{NoMemory, Refused}
use Rattle.source_types.specs.declared.expressions.Expression.{Expression}
use Rattle.source_types.specs.declared.expressions.ExpressionToken.{ExpressionToken}
use Rattle.source_types.specs.declared.kinds.TclKind.{TclKind}
use Rattle.source_types.specs.declared.kinds.TclKind.TheVariants.{BadExpr}
use Rattle.tcl_model.specs.ExpressionForm.{IsExpression, Tree, spelling}
use Rattle.tcl_model.specs.ExpressionSteps.{ParsesTo, kept}
use Rattle.tcl_model.specs.ExpressionTokens.{AreTokens, Halt, StandsToken, TokenFront, all_read, malformed}
use Rattle.text_model.specs.Row.{found, stops}
use Rattle.text_model.proofs.RowFacts.{not_both, same_place, same_thing}
use Rattle.tcl_eval.specs.declared.expressions.lexed.Lexed.{Lexed}
use Rattle.tcl_eval.specs.declared.expressions.reading.Reading as code
use Rattle.tcl_eval.specs.ExpressionReading.{Reading, ended, nothing_read, parsed, step, steps_on}
use Rattle.tcl_eval.specs.Lexing.{TokenFrom}
use Rattle.tcl_eval.specs.Readings.{seen}
use Rattle.tcl_eval.proofs.ReadTrees.{tree_parsed}
use Rattle.tcl_eval.proofs.TokenFacts.{token_once}
use Rattle.tcl_eval.proofs.TreesRead.{parsed_spells}

-- ---- tokens one after the other

-- these tokens stand in a row from a text on, and this rest is after them
abbrev pub Leads : List ExpressionToken → List ℕ → List ℕ → Type 0
Leads [] text rest = text ≡ rest
Leads (x ∷ xs) text rest = (next : List ℕ) × StandsToken text (found x next) × Leads xs next rest

leads_more : (xs : List ExpressionToken) (x : ExpressionToken) (text rest next : List ℕ) → Leads xs text rest → StandsToken rest (found x next) → Leads (xs ++ x ∷ []) text next
leads_more [] x text rest next e stands = (next, subst (λ (t : List ℕ). StandsToken t (found x next)) (sym e) stands, refl)
leads_more (y ∷ ys) x text rest next l stands = (l.0, l.1, leads_more ys x l.0 rest next l.2 stands)

row_of : (xs : List ExpressionToken) (text rest : List ℕ) (halt : Halt) → Leads xs text rest → StandsToken rest (stops halt) → AreTokens xs text halt
row_of [] text rest halt e stands = subst (λ (t : List ℕ). StandsToken t (stops halt)) (sym e) stands
row_of (x ∷ xs) text rest halt l stands = (l.0, l.1, row_of xs l.0 rest halt l.2 stands)

-- the rest of a row whose front is known
pub record After (xs ys : List ExpressionToken) (rest : List ℕ) (halt : Halt) : Type 0 where
  pub more : List ExpressionToken
  pub is : ys ≡ xs ++ more
  pub row : AreTokens more rest halt

after_front : (xs ys : List ExpressionToken) (text rest : List ℕ) (halt : Halt) → Leads xs text rest → AreTokens ys text halt → After xs ys rest halt
after_front [] ys text rest halt e row = record { more = ys; is = refl; row = subst (λ (t : List ℕ). AreTokens ys t halt) e row }
after_front (x ∷ xs) [] text rest halt l row = absurd (not_both x l.0 halt (token_once text (found x l.0) (stops halt) l.1 row))
after_front (x ∷ xs) (y ∷ ys) text rest halt l row =
    let one = token_once text (found x l.0) (found y row.0) l.1 row.1 in
    let inner = after_front xs ys l.0 rest halt l.2 (subst (λ (t : List ℕ). AreTokens ys t halt) (sym (same_place x y l.0 row.0 one)) row.2) in
    record {
      more = inner.more;
      is = ap (λ (z : ExpressionToken). z ∷ ys) (sym (same_thing x y l.0 row.0 one)) ∙ ap (λ (zs : List ExpressionToken). x ∷ zs) inner.is;
      row = inner.row;
    }

-- ---- what was read of them

front_then : (xs more : List ExpressionToken) (r : Reading) → steps_on (xs ++ more) r ≡ option_and_then (steps_on more) (steps_on xs r)
front_then [] more r = refl
front_then (x ∷ xs) more r = on_step (λ next. front_then xs more next) (step r x) where
  on_step : ((next : Reading) → steps_on (xs ++ more) next ≡ option_and_then (steps_on more) (steps_on xs next)) → (o : Option Reading) → option_and_then (steps_on (xs ++ more)) o ≡ option_and_then (steps_on more) (option_and_then (steps_on xs) o)
  on_step after None = refl
  on_step after (Some next) = after next

-- the tokens before a place were read
pub record ParsedSoFar (text : List ℕ) (at : ℕ) (reading : code.Reading) : Type 0 where
  pub tokens : List ExpressionToken
  pub leads : Leads tokens text (drop at text)
  pub read : steps_on tokens nothing_read ≡ Some (seen reading)
  pub levels : reading.levels ≤ at
  pub within : at ≤ length text
  pub boundary : IsCharBoundary text at

pub so_far_none : (text : List ℕ) (reading : code.Reading) → IsUtf8 text → seen reading ≡ nothing_read → ParsedSoFar text 0 reading
so_far_none text reading utf8 e = record {
  tokens = [];
  leads = refl;
  read = ap (λ (r : Reading). Some r) (sym e);
  levels = let none : reading.levels ≡ 0 = ap (λ (r : Reading). r.levels) e in omega (arith, none);
  within = omega arith;
  boundary = IsCharBoundary-start text utf8;
}

pub so_far_more : (text : List ℕ) (at : ℕ) (reading next : code.Reading) (lexed : Lexed) → ParsedSoFar text at reading → TokenFrom text at (Ok (Some lexed)) → Some (seen next) ≡ step (seen reading) lexed.token → next.levels ≤ reading.levels + 1 → ParsedSoFar text lexed.end next
so_far_more text at reading next lexed so_far token e low = record {
  tokens = so_far.tokens ++ lexed.token ∷ [];
  leads = leads_more so_far.tokens lexed.token text (drop at text) (drop lexed.end text) so_far.leads token.0;
  read = front_then so_far.tokens (lexed.token ∷ []) nothing_read
      ∙ (ap (option_and_then (steps_on (lexed.token ∷ []))) so_far.read
      ∙ ap (option_and_then (λ (r : Reading). Some r)) (sym e));
  levels = omega (arith, so_far.levels, token.1, low);
  within = token.2;
  boundary = token.3;
}

-- ---- what is no expression

halt_apart : ◌≡◌ {A = TokenFront} (stops all_read) (stops malformed) → ⊥
halt_apart h = cc

-- where something is malformed
malformed_row : (more : List ExpressionToken) (rest : List ℕ) → StandsToken rest (stops malformed) → AreTokens more rest all_read → ⊥
malformed_row [] rest stands row = halt_apart (token_once rest (stops all_read) (stops malformed) row stands)
malformed_row (x ∷ xs) rest stands row = not_both x row.0 malformed (token_once rest (found x row.0) (stops malformed) row.1 stands)

pub so_far_malformed : (text : List ℕ) (at : ℕ) (reading : code.Reading) (kind : TclKind) → ParsedSoFar text at reading → TokenFrom text at (Err kind) → ParsesTo text (Err kind)
so_far_malformed text at reading kind so_far m = (
  m.0,
  λ tree is.
      let b = after_front so_far.tokens (spelling tree) text (drop at text) all_read so_far.leads is.spelled in
      malformed_row b.more (drop at text) m.1 b.row,
)

pub so_far_stop : (text : List ℕ) (at : ℕ) (reading : code.Reading) (stop : Stop TclKind) → ParsedSoFar text at reading → Meets {T = Option Lexed} (Err stop) (TokenFrom text at) → Meets {T = Expression} (Err stop) (ParsesTo text)
so_far_stop text at reading (Refused kind) so_far m = so_far_malformed text at reading kind so_far m
so_far_stop text at reading NoMemory so_far m = tt

-- where a token cannot stand after those before it
pub so_far_refused : (text : List ℕ) (at : ℕ) (reading : code.Reading) (lexed : Lexed) → ParsedSoFar text at reading → TokenFrom text at (Ok (Some lexed)) → None ≡ step (seen reading) lexed.token → ParsesTo text (Err BadExpr)
so_far_refused text at reading lexed so_far token e = (refl, λ tree is. no_tree tree is) where
  no_tree : (tree : Tree) → IsExpression text tree → ⊥
  no_tree tree is =
      let b = after_front (so_far.tokens ++ lexed.token ∷ []) (spelling tree) text (drop lexed.end text) all_read (leads_more so_far.tokens lexed.token text (drop at text) (drop lexed.end text) so_far.leads token.0) is.spelled in
      let front : steps_on (so_far.tokens ++ lexed.token ∷ []) nothing_read ≡ None =
      front_then so_far.tokens (lexed.token ∷ []) nothing_read
      ∙ (ap (option_and_then (steps_on (lexed.token ∷ []))) so_far.read ∙ ap (option_and_then (λ (r : Reading). Some r)) (sym e)) in
      let whole : parsed (spelling tree) ≡ None =
      ap parsed b.is
      ∙ (ap (option_and_then ended) (front_then (so_far.tokens ++ lexed.token ∷ []) b.more nothing_read)
      ∙ ap (λ (o : Option Reading). option_and_then ended (option_and_then (steps_on b.more) o)) front) in
      none-some (kept tree) (sym whole ∙ tree_parsed tree is.grouped)

-- what was read of all tokens
pub all_of : (text : List ℕ) (at : ℕ) (reading : code.Reading) (so_far : ParsedSoFar text at reading) → parsed so_far.tokens ≡ ended (seen reading)
all_of text at reading so_far = ap (option_and_then ended) so_far.read

-- where the end comes too early
pub so_far_unended : (text : List ℕ) (at : ℕ) (reading : code.Reading) → ParsedSoFar text at reading → TokenFrom text at (Ok None) → None ≡ ended (seen reading) → ParsesTo text (Err BadExpr)
so_far_unended text at reading so_far ends e = (refl, λ tree is. no_tree tree is) where
  no_more : (more : List ExpressionToken) → AreTokens more (drop at text) all_read → more ≡ []
  no_more [] row = refl
  no_more (x ∷ xs) row = absurd (not_both x row.0 all_read (token_once (drop at text) (found x row.0) (stops all_read) row.1 ends))

  no_tree : (tree : Tree) → IsExpression text tree → ⊥
  no_tree tree is =
      let b = after_front so_far.tokens (spelling tree) text (drop at text) all_read so_far.leads is.spelled in
      let front : parsed (so_far.tokens ++ b.more) ≡ None =
      ap (λ (zs : List ExpressionToken). parsed (so_far.tokens ++ zs)) (no_more b.more b.row)
      ∙ (ap (option_and_then ended) (front_then so_far.tokens [] nothing_read)
      ∙ (ap (λ (o : Option Reading). option_and_then ended (option_and_then (steps_on []) o)) so_far.read ∙ sym e)) in
      none-some (kept tree) (sym (ap parsed b.is ∙ front) ∙ tree_parsed tree is.grouped)

-- ---- what is one

pub so_far_ended : (text : List ℕ) (at : ℕ) (reading : code.Reading) (e : Expression) → ParsedSoFar text at reading → TokenFrom text at (Ok None) → Some e ≡ ended (seen reading) → ParsesTo text (Ok e)
so_far_ended text at reading e so_far ends h =
    let whole : parsed so_far.tokens ≡ Some e = all_of text at reading so_far ∙ sym h in
    let s = parsed_spells so_far.tokens e whole in
    let row : AreTokens so_far.tokens text all_read = row_of so_far.tokens text (drop at text) all_read so_far.leads ends in (
      s.tree,
      record { spelled = subst (λ (ts : List ExpressionToken). AreTokens ts text all_read) (sym s.spells) row; grouped = s.grouped },
      same_Some e (kept s.tree) (sym whole ∙ (ap parsed (sym s.spells) ∙ tree_parsed s.tree s.grouped)),
    )
