-- What a gap of a netlist's text passes over.
use Rattle.std.proofs.Common.{◌≡◌, ◌∙◌, ◌++◌, ℕ, Bool, true, false, List, [], ◌∷◌, Option, Some, None, refl, ap}
use Rattle.std.specs.Prelude.{◌==◌, ◌&&◌, ◌||◌, if◌then◌else◌}
use Rattle.std.specs.List.{list_any}
use Rattle.std.proofs.lemmas.Bool.{or_parts}
use Rattle.text_model.specs.Bytes.{begins_with}
use Rattle.netlist_model.specs.VerilogTokens.{Gap, after_gap, between, closes, closing, gap_after, inside, is_blank, opens_line, rest_of_line}
use Rattle.netlist_laws.specs.Ends.{has_end}

-- ---- one byte

step : (gap : Gap) (b : ℕ) (bs : List ℕ) (next : Gap) → gap_after gap b bs ≡ Some next → after_gap gap (b ∷ bs) ≡ after_gap next bs
unfolding after_gap
step gap b bs next is = ap (λ (found : Option Gap). elim found [ None ↦ Some (b ∷ bs) | Some then_in ↦ after_gap then_in bs ]) is

stop : (gap : Gap) (b : ℕ) (bs : List ℕ) → gap_after gap b bs ≡ None → after_gap gap (b ∷ bs) ≡ Some (b ∷ bs)
unfolding after_gap
stop gap b bs is = ap (λ (found : Option Gap). elim found [ None ↦ Some (b ∷ bs) | Some then_in ↦ after_gap then_in bs ]) is

pub blank_parts : (b : ℕ) (text : List ℕ) → is_blank b ≡ true → after_gap between (b ∷ text) ≡ after_gap between text
blank_parts b text is = step between b text between (rw is refl)

-- ---- up to the end of a line

pub line_passes : (passed rest : List ℕ) → list_any (λ b. b == 10) passed ≡ false → after_gap rest_of_line (passed ++ (10 ∷ rest)) ≡ after_gap between rest
unfolding after_gap
line_passes [] rest none = refl
line_passes (b ∷ bs) rest none =
    let p = or_parts (b == 10) (list_any (λ c. c == 10) bs) none in
    rw p.0 (line_passes bs rest p.1)

-- ---- up to a star and the byte that closes

-- the end does not begin within what was passed, and goes on after it
no_earlier : (close b : ℕ) (bs rest : List ℕ) → (42 == close) ≡ false → (b == 42 && begins_with close bs) ≡ false
    → (b == 42 && begins_with close (bs ++ (42 ∷ rest))) ≡ false
no_earlier close b [] rest other is = by (b == 42) where
  by : (test : Bool) → (test && (42 == close)) ≡ false
  by true = other
  by false = refl
no_earlier close b (c ∷ cs) rest other is = is

pub inside_passes : (close : ℕ) (passed rest : List ℕ) → (42 == close) ≡ false → (close == close) ≡ true → has_end close passed ≡ false
    → after_gap (inside close) (passed ++ (42 ∷ (close ∷ rest))) ≡ after_gap between rest
unfolding after_gap
inside_passes close [] rest other same none =
    step (inside close) 42 (close ∷ rest) closes (rw same refl) ∙ step closes close rest between refl
inside_passes close (b ∷ bs) rest other same none =
    let p = or_parts (b == 42 && begins_with close bs) (has_end close bs) none in
    rw (no_earlier close b bs (close ∷ rest) other p.0) (inside_passes close bs rest other same p.1)

pub inside_has_no_end : (close : ℕ) (passed : List ℕ) → has_end close passed ≡ false → after_gap (inside close) passed ≡ None
unfolding after_gap
inside_has_no_end close [] none = refl
inside_has_no_end close (b ∷ bs) none =
    let p = or_parts (b == 42 && begins_with close bs) (has_end close bs) none in
    rw p.0 (inside_has_no_end close bs p.1)

-- ---- whole gaps

pub line_comment_parts : (passed rest : List ℕ) → list_any (λ b. b == 10) passed ≡ false → after_gap between (47 ∷ (47 ∷ (passed ++ (10 ∷ rest)))) ≡ after_gap between rest
unfolding after_gap
line_comment_parts passed rest none = line_passes passed rest none

pub directive_parts : (passed rest : List ℕ) → list_any (λ b. b == 10) passed ≡ false → after_gap between (96 ∷ (passed ++ (10 ∷ rest))) ≡ after_gap between rest
unfolding after_gap
directive_parts passed rest none = line_passes passed rest none

pub comment_parts : (passed rest : List ℕ) → has_end 47 passed ≡ false → after_gap between (47 ∷ (42 ∷ (passed ++ (42 ∷ (47 ∷ rest))))) ≡ after_gap between rest
unfolding after_gap
comment_parts passed rest none = inside_passes 47 passed rest refl refl none

pub attribute_parts : (passed rest : List ℕ) → has_end 41 passed ≡ false → after_gap between (40 ∷ (42 ∷ (passed ++ (42 ∷ (41 ∷ rest))))) ≡ after_gap between rest
unfolding after_gap
attribute_parts passed rest none = inside_passes 41 passed rest refl refl none

pub comment_without_end : (passed : List ℕ) → has_end 47 passed ≡ false → after_gap between (47 ∷ (42 ∷ passed)) ≡ None
unfolding after_gap
comment_without_end passed none = inside_has_no_end 47 passed none

pub attribute_without_end : (passed : List ℕ) → has_end 41 passed ≡ false → after_gap between (40 ∷ (42 ∷ passed)) ≡ None
unfolding after_gap
attribute_without_end passed none = inside_has_no_end 41 passed none

pub token_begins : (b : ℕ) (text : List ℕ) → is_blank b ≡ false → opens_line b text ≡ false → closing b text ≡ None → after_gap between (b ∷ text) ≡ Some (b ∷ text)
token_begins b text no_blank no_line no_close = stop between b text (rw (no_blank, no_line, no_close) refl)
