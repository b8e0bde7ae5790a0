-- Operators and parentheses at their places.
use Rattle.std.proofs.Common.{◌≡◌, ◌<◌, ◌≤◌, ◌+◌, ℕ, List, ◌∷◌, Option, Some, None, Ok, Err, drop, length, get_or, refl, sym, ap, subst, ◌∙◌, arith}
use Rattle.std.proofs.lemmas.Bool.Decides.{nat_tests}
use Rattle.std.proofs.lemmas.List.{drop_more}
use Rattle.std.proofs.lemmas.Str.{IsCharBoundary-after_ascii}
use Rattle.std.specs.Str.{IsCharBoundary}
use Rattle.source_types.specs.declared.expressions.BinaryOperator.{BinaryOperator}
use Rattle.source_types.specs.declared.expressions.ExpressionToken.{ExpressionToken}
use Rattle.source_types.specs.declared.expressions.ExpressionToken.TheVariants as token
use Rattle.source_types.specs.declared.kinds.TclKind.TheVariants.{BadExpr}
use Rattle.tcl_model.specs.ExpressionTokens.{TokenFront, operator_front, pair, pair_front, single, single_front}
use Rattle.tcl_words.specs.Operands.{IsFront}
use Rattle.tcl_words.specs.Spans.{Keeps}
use Rattle.tcl_words.proofs.RunFacts.{drop_all, keeps_one}
use Rattle.tcl_eval.specs.Lexing.{LexedAt, PairAt}

-- what is spelled is ASCII
pub pair_small : (b c : ℕ) (op : BinaryOperator) → pair b c ≡ Some op → c < 128
pair_small b c op e = grind (arith, nat_tests)

pub single_small : (b : ℕ) (t : ExpressionToken) → single b ≡ Some t → b < 128
single_small b t e = grind (arith, nat_tests)

keeps_two : (text : List ℕ) (at : ℕ) → at + 2 ≤ length text → get_or text (at + 1) 0 < 128 → Keeps text at (at + 2)
keeps_two text at within small =
    let place : at + 1 + 1 ≡ at + 2 = omega arith in
    λ utf8 cuts. subst (λ (i : ℕ). IsCharBoundary text i) place (IsCharBoundary-after_ascii text (at + 1) utf8 (omega (arith, within)) small)

pub none_at_end : (text : List ℕ) (at : ℕ) → at + 1 ≡ length text → PairAt text at None
none_at_end text at e =
    ap (operator_front (get_or text at 0)) (drop_all text (at + 1) e)
    ∙ ap (single_front (single (get_or text at 0))) (sym (drop_all text (at + 1) e))

two_places : (text : List ℕ) (at : ℕ) → at + 1 < length text → drop (at + 1) text ≡ get_or text (at + 1) 0 ∷ drop (at + 2) text
two_places text at within =
    let place : at + 1 + 1 ≡ at + 2 = omega arith in
    drop_more text (at + 1) 0 within ∙ ap (λ (i : ℕ). get_or text (at + 1) 0 ∷ drop i text) place

pub pair_found : (text : List ℕ) (at : ℕ) (o : Option BinaryOperator) → at + 1 < length text → o ≡ pair (get_or text at 0) (get_or text (at + 1) 0) → PairAt text at o
pair_found text at None within e =
    let two = two_places text at within in
    ap (operator_front (get_or text at 0)) two
    ∙ (ap (λ o. pair_front o (get_or text at 0) (get_or text (at + 1) 0) (drop (at + 2) text)) (sym e)
    ∙ ap (single_front (single (get_or text at 0))) (sym two))
pair_found text at (Some op) within e =
    let two = two_places text at within in (
      ap (operator_front (get_or text at 0)) two
          ∙ ap (λ o. pair_front o (get_or text at 0) (get_or text (at + 1) 0) (drop (at + 2) text)) (sym e),
      omega (arith, within),
      pair_small (get_or text at 0) (get_or text (at + 1) 0) op (sym e),
    )

abbrev front_at : List ℕ → ℕ → TokenFront
front_at text at = operator_front (get_or text at 0) (drop (at + 1) text)

pub pair_token : (text : List ℕ) (at : ℕ) (op : BinaryOperator) → PairAt text at (Some op) → LexedAt (IsFront (front_at text at)) text at (Ok (record { token = token.Operator op; end = at + 2 }))
pair_token text at op p = (sym p.0, omega arith, p.1, keeps_two text at p.1 p.2)

pub single_token : (text : List ℕ) (at : ℕ) (t : ExpressionToken) → at < length text → PairAt text at None → single (get_or text at 0) ≡ Some t → LexedAt (IsFront (front_at text at)) text at (Ok (record { token = t; end = at + 1 }))
single_token text at t within none e =
    (sym (none ∙ ap (λ o. single_front o (drop (at + 1) text)) e), omega arith, omega (arith, within), keeps_one text at within (single_small (get_or text at 0) t e))

pub no_token : (text : List ℕ) (at : ℕ) → PairAt text at None → single (get_or text at 0) ≡ None → LexedAt (IsFront (front_at text at)) text at (Err BadExpr)
no_token text at none e = (refl, sym (none ∙ ap (λ o. single_front o (drop (at + 1) text)) e))
