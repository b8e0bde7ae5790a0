-- What the text of a cell's function means (Liberty, `function`): names, `0`, `1`, parentheses, `!` before and `'`
-- after an operand, then `^`, then `*`, `&` or a blank, then `+` or `|`, in this order of binding; operators of one
-- kind group to the left. The text is read byte by byte from the left: read `step` first.
use Rattle.std.specs.Prelude.{◌||◌, ◌==◌, ℕ, not, if◌then◌else◌, List, [], ◌∷◌, ◌++◌, Option, Some, None, option_and_then, option_map}
use Rattle.std.specs.List.{prefix_len}
use Rattle.source_types.specs.declared.function_texts.Operand.{Operand}
use Rattle.source_types.specs.declared.function_texts.Operand.TheVariants as operand
use Rattle.source_types.specs.declared.function_texts.Pending.{Pending}
use Rattle.source_types.specs.declared.function_texts.Sign.{Sign}
use Rattle.source_types.specs.declared.function_texts.Sign.TheVariants as sign
use Rattle.pin_types.specs.declared.functions.Expr.{Expr}
use Rattle.pin_types.specs.declared.functions.Expr.TheVariants as expr
use Rattle.text_model.specs.Words.{same_text}

-- what a byte is
abbrev pub sign_of : ℕ → Sign
sign_of b =
    if b == 32 || b == 9 || b == 10 || b == 13 then sign.Blank
    else if b == 40 then sign.Open
    else if b == 41 then sign.Close
    else if b == 33 then sign.Not
    else if b == 39 then sign.Prime
    else if b == 94 then sign.Xor
    else if b == 42 || b == 38 then sign.And
    else if b == 43 || b == 124 then sign.Or
    else sign.Letter

-- the place of a name among those of a cell, or their number where it is none of them
abbrev pub place_in : List (List ℕ) → List ℕ → ℕ
place_in names word = prefix_len (λ name. not (same_text name word)) names

-- what a word means: `0` and `1` by themselves, any other the pin of that name
abbrev pub word_meaning : List (List ℕ) → List ℕ → Expr
word_meaning names word =
    if same_text word (48 ∷ []) then expr.Zero else if same_text word (49 ∷ []) then expr.One else expr.Pin (place_in names word)

-- the operand that ends at a place, if one does
abbrev pub operand_in : List (List ℕ) → Operand → Option Expr
operand_in names operand.Due = None
operand_in names (operand.Word word) = Some (word_meaning names word)
operand_in names (operand.Stands e) = Some e
operand_in names (operand.Apart e) = Some e

-- an operand with the `!` before it
abbrev pub negated : List ℕ → Expr → Expr
negated [] e = e
negated (_ ∷ negations) e = negated negations (expr.Not e)

-- an operator's left side, where it has one, joined to what stands on its right
abbrev pub joined_xor : Option Expr → Expr → Expr
joined_xor None right = right
joined_xor (Some left) right = expr.Xor left right

abbrev pub joined_and : Option Expr → Expr → Expr
joined_and None right = right
joined_and (Some left) right = expr.And left right

abbrev pub joined_or : Option Expr → Expr → Expr
joined_or None right = right
joined_or (Some left) right = expr.Or left right

-- what ends with an operand: the exclusive or, the and that it is part of, the or that this is part of
abbrev pub chain_with : Pending → Expr → Expr
chain_with pending e = joined_xor pending.chain (negated pending.negations e)

abbrev pub product_with : Pending → Expr → Expr
product_with pending e = joined_and pending.product (chain_with pending e)

abbrev pub sum_with : Pending → Expr → Expr
sum_with pending e = joined_or pending.sum (product_with pending e)

-- nothing before an operand, and what stands before the next one after `^`, after an and, after an or
abbrev pub nothing_open : Pending
nothing_open = record { sum = None; product = None; chain = None; negations = [] }

abbrev pub after_xor : Pending → Expr → Pending
after_xor pending e = record { sum = pending.sum; product = pending.product; chain = Some (chain_with pending e); negations = [] }

abbrev pub after_and : Pending → Expr → Pending
after_and pending e = record { sum = pending.sum; product = Some (product_with pending e); chain = None; negations = [] }

abbrev pub after_or : Pending → Expr → Pending
after_or pending e = record { sum = Some (sum_with pending e); product = None; chain = None; negations = [] }

abbrev pub after_not : Pending → Pending
after_not pending = record { sum = pending.sum; product = pending.product; chain = pending.chain; negations = pending.negations ++ 33 ∷ [] }

-- what is read of a text so far: the operand that stands there, what stands before it in its parentheses, and the
-- same for each pair of parentheses around these, the inner ones first
pub record Reading : Type 0 where
  pub operand : Operand
  pub pending : Pending
  pub outer : List Pending

abbrev pub nothing_read : Reading
nothing_read = record { operand = operand.Due; pending = nothing_open; outer = [] }

-- an operand begins: where one is due, or after blanks, which then mean and
abbrev pub begins : Operand → Pending → List Pending → Option Reading
begins operand.Due pending outer = Some (record { operand = operand.Due; pending = pending; outer = outer })
begins (operand.Apart e) pending outer = Some (record { operand = operand.Due; pending = after_and pending e; outer = outer })
begins (operand.Word word) pending outer = None
begins (operand.Stands e) pending outer = None

-- `(`: nothing stands yet in the new parentheses
abbrev pub opened : Reading → Reading
opened r = record { operand = operand.Due; pending = nothing_open; outer = r.pending ∷ r.outer }

-- `!`
abbrev pub denied : Reading → Reading
denied r = record { operand = operand.Due; pending = after_not r.pending; outer = r.outer }

-- `'`
abbrev pub primed : Pending → List Pending → Expr → Reading
primed pending outer e = record { operand = operand.Stands (expr.Not e); pending = pending; outer = outer }

-- an operator after an operand
abbrev pub after : (Pending → Expr → Pending) → Pending → List Pending → Expr → Reading
after operator pending outer e = record { operand = operand.Due; pending = operator pending e; outer = outer }

-- a word and a byte more
abbrev pub word_with : List ℕ → ℕ → Operand
word_with word b = operand.Word (word ++ b ∷ [])

abbrev pub word_from : ℕ → Reading → Reading
word_from b r = record { operand = word_with [] b; pending = r.pending; outer = r.outer }

-- a byte of a word
abbrev pub with_letter : ℕ → Operand → Pending → List Pending → Option Reading
with_letter b (operand.Word word) pending outer =
    Some (record { operand = word_with word b; pending = pending; outer = outer })
with_letter b operand.Due pending outer = option_map (word_from b) (begins operand.Due pending outer)
with_letter b (operand.Apart e) pending outer = option_map (word_from b) (begins (operand.Apart e) pending outer)
with_letter b (operand.Stands e) pending outer = None

-- a blank: an operand ends before it
abbrev pub apart : Option Expr → Operand
apart None = operand.Due
apart (Some e) = operand.Apart e

abbrev pub with_blank : List (List ℕ) → Reading → Reading
with_blank names r = record { operand = apart (operand_in names r.operand); pending = r.pending; outer = r.outer }

-- `)`: what is in the parentheses is an operand of what is around them
abbrev pub closed : Pending → List Pending → Expr → Option Reading
closed pending [] e = None
closed pending (around ∷ outer) e = Some (record { operand = operand.Stands (sum_with pending e); pending = around; outer = outer })

-- what is read with one byte more, if the text can go on with it
abbrev pub step : List (List ℕ) → Reading → Sign → ℕ → Option Reading
step names r sign.Letter b = with_letter b r.operand r.pending r.outer
step names r sign.Blank b = Some (with_blank names r)
step names r sign.Open b = option_map opened (begins r.operand r.pending r.outer)
step names r sign.Not b = option_map denied (begins r.operand r.pending r.outer)
step names r sign.Close b = option_and_then (closed r.pending r.outer) (operand_in names r.operand)
step names r sign.Prime b = option_map (primed r.pending r.outer) (operand_in names r.operand)
step names r sign.Xor b = option_map (after after_xor r.pending r.outer) (operand_in names r.operand)
step names r sign.And b = option_map (after after_and r.pending r.outer) (operand_in names r.operand)
step names r sign.Or b = option_map (after after_or r.pending r.outer) (operand_in names r.operand)

-- what is read with a text more
abbrev pub steps : List (List ℕ) → List ℕ → Reading → Option Reading
steps names [] r = Some r
steps names (b ∷ bs) r = option_and_then (steps names bs) (step names r (sign_of b) b)

-- what a whole text means: an operand stands at its end, and no parentheses are open
abbrev pub whole : Pending → List Pending → Expr → Option Expr
whole pending [] e = Some (sum_with pending e)
whole pending (_ ∷ _) e = None

abbrev pub ended : List (List ℕ) → Reading → Option Expr
ended names r = option_and_then (whole r.pending r.outer) (operand_in names r.operand)

-- the expression that a text is, where it is one
abbrev pub expression : List (List ℕ) → List ℕ → Option Expr
expression names text = option_and_then (ended names) (steps names text nothing_read)
