-- The pins of a function whose inputs were placed are the places of its inputs.
use Rattle.std.proofs.Common.{◌≡◌, ℕ, List, [], ◌∷◌, ◌++◌, map, refl, sym, ap, subst, ◌∙◌}
use Rattle.std.specs.Prelude.{get_or}
use Rattle.std.proofs.lemmas.List.{map-append}
use Rattle.pin_types.specs.declared.functions.Expr.{Expr, roll-Expr, map-Expr}
use Rattle.pin_types.specs.declared.functions.Expr.TheFolds.{fold-roll-Expr, ind-Expr}
use Rattle.pin_types.specs.declared.functions.Expr.TheOpen.{Expr-F}
use Rattle.pin_types.specs.declared.functions.Expr.TheVariants as expr
use Rattle.function_model.specs.FunctionMeaning.{pins_layer, pins_of}
use Rattle.library_model.specs.LibertyCells.{placed, placed_layer}

-- ---- the pins of each form

pins_rolled : (d : Expr-F Expr) → pins_of (roll-Expr d) ≡ pins_layer (map-Expr Expr (List ℕ) pins_of d)
pins_rolled d = fold-roll-Expr (List ℕ) pins_layer d

placed_rolled : (places : List ℕ) (d : Expr-F Expr) → placed places (roll-Expr d) ≡ placed_layer places (map-Expr Expr Expr (placed places) d)
placed_rolled places d = fold-roll-Expr Expr (placed_layer places) d

pins_of_zero : pins_of expr.Zero ≡ []
pins_of_zero = ap pins_of (sym expr.rolls-Zero) ∙ pins_rolled Expr-F.Zero

pins_of_one : pins_of expr.One ≡ []
pins_of_one = ap pins_of (sym expr.rolls-One) ∙ pins_rolled Expr-F.One

pins_of_pin : (pin : ℕ) → pins_of (expr.Pin pin) ≡ pin ∷ []
pins_of_pin pin = ap pins_of (sym (expr.rolls-Pin pin)) ∙ pins_rolled (Expr-F.Pin pin)

pins_of_not : (e : Expr) → pins_of (expr.Not e) ≡ pins_of e
pins_of_not e = ap pins_of (sym (expr.rolls-Not e)) ∙ pins_rolled (Expr-F.Not e)

pins_of_and : (d e : Expr) → pins_of (expr.And d e) ≡ pins_of d ++ pins_of e
pins_of_and d e = ap pins_of (sym (expr.rolls-And d e)) ∙ pins_rolled (Expr-F.And d e)

pins_of_or : (d e : Expr) → pins_of (expr.Or d e) ≡ pins_of d ++ pins_of e
pins_of_or d e = ap pins_of (sym (expr.rolls-Or d e)) ∙ pins_rolled (Expr-F.Or d e)

pins_of_xor : (d e : Expr) → pins_of (expr.Xor d e) ≡ pins_of d ++ pins_of e
pins_of_xor d e = ap pins_of (sym (expr.rolls-Xor d e)) ∙ pins_rolled (Expr-F.Xor d e)

-- ---- placed inputs

-- the place of an input
abbrev pub place_at : List ℕ → ℕ → ℕ
place_at places input = get_or places input 0

abbrev ArePlaced : List ℕ → Expr → Type 0
ArePlaced places e = pins_of (placed places e) ≡ map (place_at places) (pins_of e)

two_placed : (places : List ℕ) (d e : Expr) → ArePlaced places d → ArePlaced places e
    → pins_of (placed places d) ++ pins_of (placed places e) ≡ map (place_at places) (pins_of d ++ pins_of e)
two_placed places d e h k =
    ap (λ ps. ps ++ pins_of (placed places e)) h
    ∙ (ap (λ ps. map (place_at places) (pins_of d) ++ ps) k ∙ sym (map-append (place_at places) (pins_of d) (pins_of e)))

-- the pins of a layer, placed and not
layer_placed : (places : List ℕ) (d : Expr-F Expr) (before after : List ℕ) → pins_of (placed_layer places (map-Expr Expr Expr (placed places) d)) ≡ after
    → pins_layer (map-Expr Expr (List ℕ) pins_of d) ≡ before → after ≡ map (place_at places) before → ArePlaced places (roll-Expr d)
layer_placed places d before after is are same =
    ap pins_of (placed_rolled places d) ∙ (is ∙ (same ∙ ap (map (place_at places)) (sym (pins_rolled d ∙ are))))

layer : {C : Type 0} (places : List ℕ) (value : C → Expr) → ((c : C) → ArePlaced places (value c)) → (y : Expr-F C) → ArePlaced places (roll-Expr (map-Expr C Expr value y))
layer places value all Expr-F.Zero = layer_placed places Expr-F.Zero [] [] pins_of_zero refl refl
layer places value all Expr-F.One = layer_placed places Expr-F.One [] [] pins_of_one refl refl
layer places value all (Expr-F.Pin pin) = layer_placed places (Expr-F.Pin pin) (pin ∷ []) (place_at places pin ∷ []) (pins_of_pin (place_at places pin)) refl refl
layer places value all (Expr-F.Not c) =
    layer_placed places (Expr-F.Not (value c)) (pins_of (value c)) (pins_of (placed places (value c))) (pins_of_not (placed places (value c))) refl (all c)
layer places value all (Expr-F.And c d) =
    layer_placed places (Expr-F.And (value c) (value d)) (pins_of (value c) ++ pins_of (value d)) (pins_of (placed places (value c)) ++ pins_of (placed places (value d)))
    (pins_of_and (placed places (value c)) (placed places (value d))) refl (two_placed places (value c) (value d) (all c) (all d))
layer places value all (Expr-F.Or c d) =
    layer_placed places (Expr-F.Or (value c) (value d)) (pins_of (value c) ++ pins_of (value d)) (pins_of (placed places (value c)) ++ pins_of (placed places (value d)))
    (pins_of_or (placed places (value c)) (placed places (value d))) refl (two_placed places (value c) (value d) (all c) (all d))
layer places value all (Expr-F.Xor c d) =
    layer_placed places (Expr-F.Xor (value c) (value d)) (pins_of (value c) ++ pins_of (value d)) (pins_of (placed places (value c)) ++ pins_of (placed places (value d)))
    (pins_of_xor (placed places (value c)) (placed places (value d))) refl (two_placed places (value c) (value d) (all c) (all d))

pub pins_placed : (places : List ℕ) (e : Expr) → pins_of (placed places e) ≡ map (place_at places) (pins_of e)
pins_placed places = ind-Expr (ArePlaced places) (λ x y is. subst (λ z. ArePlaced places (roll-Expr z)) is (layer places (λ c. c.0) (λ c. c.1) y))
