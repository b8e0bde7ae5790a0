-- What brackets, braces and quotes pass over: what is open inside is passed over before the rest of what is around it.
use Rattle.std.proofs.Common.{◌≡◌, ◌∙◌, ◌++◌, ℕ, Bool, true, false, List, [], ◌∷◌, Option, Some, None, refl, sym, ap, subst, eqb-true}
use Rattle.std.specs.Prelude.{◌==◌, ◌&&◌, ◌||◌, if◌then◌else◌}
use Rattle.std.specs.Option.{option_and_then}
use Rattle.std.proofs.lemmas.Bool.{or_parts}
use Rattle.std.proofs.lemmas.List.{append_assoc}
use Rattle.sdc_base.proofs.CaseFacts.{by_bool}
use Rattle.text_model.specs.Bytes.{leads_word}
use Rattle.text_model.specs.Enclosed.{Open, after_brace, after_bracket, after_open, brace, bracket, opened, quote}
use Rattle.tcl_laws.specs.Nested.{HasNone, Nest, after_quote, byte, in_bracket, is_one_of, nothing, pair, spelled, taken}

-- ---- what is open after a byte, with more around it

-- the same by the tests of the byte
bracket_by : (t u v w : Bool) (xs zs : List Open)
    → (if t then bracket ∷ (bracket ∷ (xs ++ zs)) else (if u then xs ++ zs else (if v then quote ∷ (bracket ∷ (xs ++ zs)) else (if w then brace ∷ (bracket ∷ (xs ++ zs)) else bracket ∷ (xs ++ zs)))))
    ≡ (if t then bracket ∷ (bracket ∷ xs) else (if u then xs else (if v then quote ∷ (bracket ∷ xs) else (if w then brace ∷ (bracket ∷ xs) else bracket ∷ xs)))) ++ zs
bracket_by true u v w xs zs = refl
bracket_by false true v w xs zs = refl
bracket_by false false true w xs zs = refl
bracket_by false false false true xs zs = refl
bracket_by false false false false xs zs = refl

quote_by : (t u : Bool) (xs zs : List Open)
    → (if t then bracket ∷ (quote ∷ (xs ++ zs)) else (if u then xs ++ zs else quote ∷ (xs ++ zs))) ≡ (if t then bracket ∷ (quote ∷ xs) else (if u then xs else quote ∷ xs)) ++ zs
quote_by true u xs zs = refl
quote_by false true xs zs = refl
quote_by false false xs zs = refl

brace_by : (t u : Bool) (xs zs : List Open)
    → (if t then brace ∷ (brace ∷ (xs ++ zs)) else (if u then xs ++ zs else brace ∷ (xs ++ zs))) ≡ (if t then brace ∷ (brace ∷ xs) else (if u then xs else brace ∷ xs)) ++ zs
brace_by true u xs zs = refl
brace_by false true xs zs = refl
brace_by false false xs zs = refl

opened_around : (o : Open) (xs zs : List Open) (begins : Bool) (b : ℕ) → opened o (xs ++ zs) begins b ≡ opened o xs begins b ++ zs
opened_around bracket xs zs begins b = bracket_by (b == 91) (b == 93) (b == 34 && begins) (b == 123 && begins) xs zs
opened_around quote xs zs begins b = quote_by (b == 91) (b == 34) xs zs
opened_around brace xs zs begins b = brace_by (b == 123) (b == 125) xs zs

-- ---- a word does not begin after what ends something

no_word : (end b : ℕ) → leads_word end ≡ false → (b == end) ≡ true → leads_word b ≡ false
no_word end b not is = subst (λ (n : ℕ). leads_word n ≡ false) (sym (eqb-true b end is)) not

bracket_closes : (b : ℕ) (xs : List Open) (t u v w : Bool) → (b == 93) ≡ u
    → (if t then bracket ∷ (bracket ∷ xs) else (if u then xs else (if v then quote ∷ (bracket ∷ xs) else (if w then brace ∷ (bracket ∷ xs) else bracket ∷ xs)))) ≡ [] → leads_word b ≡ false
bracket_closes b xs true u v w is e = cc
bracket_closes b xs false true v w is e = no_word 93 b refl is
bracket_closes b xs false false true w is e = cc
bracket_closes b xs false false false true is e = cc
bracket_closes b xs false false false false is e = cc

quote_closes : (b : ℕ) (xs : List Open) (t u : Bool) → (b == 34) ≡ u → (if t then bracket ∷ (quote ∷ xs) else (if u then xs else quote ∷ xs)) ≡ [] → leads_word b ≡ false
quote_closes b xs true u is e = cc
quote_closes b xs false true is e = no_word 34 b refl is
quote_closes b xs false false is e = cc

brace_closes : (b : ℕ) (xs : List Open) (t u : Bool) → (b == 125) ≡ u → (if t then brace ∷ (brace ∷ xs) else (if u then xs else brace ∷ xs)) ≡ [] → leads_word b ≡ false
brace_closes b xs true u is e = cc
brace_closes b xs false true is e = no_word 125 b refl is
brace_closes b xs false false is e = cc

closes : (o : Open) (xs : List Open) (begins : Bool) (b : ℕ) → opened o xs begins b ≡ [] → leads_word b ≡ false
closes bracket xs begins b e = bracket_closes b xs (b == 91) (b == 93) (b == 34 && begins) (b == 123 && begins) refl e
closes quote xs begins b e = quote_closes b xs (b == 91) (b == 34) refl e
closes brace xs begins b e = brace_closes b xs (b == 123) (b == 125) refl e

-- ---- first what is inside, then what is around

abbrev Around : List Open → List Open → Bool → Bool → List ℕ → Type 0
Around xs zs begins out text = after_open (xs ++ zs) begins out text ≡ option_and_then (after_open zs false false) (after_open xs begins out text)

around_step : (now zs : List Open) (b : ℕ) (bs : List ℕ) → (now ≡ [] → leads_word b ≡ false) → ((o : Open) (xs : List Open) → Around (o ∷ xs) zs (leads_word b) false bs)
    → Around now zs (leads_word b) false bs
unfolding after_open
around_step [] zs b bs none rest = ap (λ (t : Bool). after_open zs t false bs) (none refl)
around_step (o ∷ xs) zs b bs none rest = rest o xs

around_plain : (o : Open) (xs zs : List Open) (begins : Bool) (b : ℕ) (bs : List ℕ) (t : Bool) → ((p : Open) (ys : List Open) (c d : Bool) → Around (p ∷ ys) zs c d bs)
    → (if t then after_open (o ∷ (xs ++ zs)) false true bs else after_open (opened o (xs ++ zs) begins b) (leads_word b) false bs)
    ≡ option_and_then (after_open zs false false) (if t then after_open (o ∷ xs) false true bs else after_open (opened o xs begins b) (leads_word b) false bs)
around_plain o xs zs begins b bs true rest = rest o xs false true
around_plain o xs zs begins b bs false rest =
    ap (λ (now : List Open). after_open now (leads_word b) false bs) (opened_around o xs zs begins b)
    ∙ around_step (opened o xs begins b) zs b bs (closes o xs begins b) (λ p ys. rest p ys (leads_word b) false)

pub around : (o : Open) (xs zs : List Open) (begins out : Bool) (text : List ℕ) → Around (o ∷ xs) zs begins out text
unfolding after_open
around o xs zs begins true [] = refl
around o xs zs begins false [] = refl
around o xs zs begins true (b ∷ bs) = around o xs zs (b == 10) false bs
around o xs zs begins false (b ∷ bs) = around_plain o xs zs begins b bs (b == 92) (λ p ys c d. around p ys zs c d bs)

-- ---- in a bracket

pub bracket_ends : (begins : Bool) (text : List ℕ) → in_bracket begins (93 ∷ text) ≡ Some text
unfolding after_open
bracket_ends begins text = refl

pub inner_bracket : (begins : Bool) (text : List ℕ) → in_bracket begins (91 ∷ text) ≡ option_and_then (in_bracket false) (after_bracket text)
unfolding after_open
inner_bracket begins text = around bracket [] (bracket ∷ []) true false text

pub inner_brace : (text : List ℕ) → in_bracket true (123 ∷ text) ≡ option_and_then (in_bracket false) (after_brace text)
unfolding after_open
inner_brace text = around brace [] (bracket ∷ []) false false text

pub inner_quote : (text : List ℕ) → in_bracket true (34 ∷ text) ≡ option_and_then (in_bracket false) (after_quote text)
unfolding after_open
inner_quote text = around quote [] (bracket ∷ []) false false text

pub taken_out : (begins : Bool) (b : ℕ) (text : List ℕ) → in_bracket begins (92 ∷ (b ∷ text)) ≡ in_bracket (b == 10) text
unfolding after_open
taken_out begins b text = refl

pub no_bracket_end : (begins : Bool) → in_bracket begins [] ≡ None
unfolding after_open
no_bracket_end begins = refl

-- any other byte
plain_by : (q k e o begins : Bool) (xs : List Open) → k ≡ false → e ≡ false → (q && begins) ≡ false → (o && begins) ≡ false
    → (if k then bracket ∷ (bracket ∷ xs) else (if e then xs else (if q && begins then quote ∷ (bracket ∷ xs) else (if o && begins then brace ∷ (bracket ∷ xs) else bracket ∷ xs)))) ≡ bracket ∷ xs
plain_by q k e o begins xs no_open no_end no_quote no_brace = rw (no_open, no_end, no_quote, no_brace) refl

pub bracket_step : (begins : Bool) (b : ℕ) (xs : List Open) (text : List ℕ) → (b == 92) ≡ false → opened bracket xs begins b ≡ bracket ∷ xs
    → after_open (bracket ∷ xs) begins false (b ∷ text) ≡ after_open (bracket ∷ xs) (leads_word b) false text
unfolding after_open
bracket_step begins b xs text not_out same = rw (not_out, same) refl

and_no : (t : Bool) → (t && false) ≡ false
and_no true = refl
and_no false = refl

open_at_word : (b : ℕ) (xs : List Open) → is_one_of (34 ∷ 91 ∷ 92 ∷ 93 ∷ 123 ∷ []) b ≡ false → (begins : Bool) → opened bracket xs begins b ≡ bracket ∷ xs
open_at_word b xs none begins =
    let p = or_parts (b == 34) (is_one_of (91 ∷ 92 ∷ 93 ∷ 123 ∷ []) b) none in
    let q = or_parts (b == 91) (is_one_of (92 ∷ 93 ∷ 123 ∷ []) b) p.1 in
    let r = or_parts (b == 92) (is_one_of (93 ∷ 123 ∷ []) b) q.1 in
    let s = or_parts (b == 93) (is_one_of (123 ∷ []) b) r.1 in
    let o = or_parts (b == 123) false s.1 in
    let no_quote : (b == 34 && begins) ≡ false = ap (λ (t : Bool). t && begins) p.0 in
    let no_brace : (b == 123 && begins) ≡ false = ap (λ (t : Bool). t && begins) o.0 in
    plain_by (b == 34) (b == 91) (b == 93) (b == 123) begins xs q.0 s.0 no_quote no_brace

not_taken : (b : ℕ) → is_one_of (34 ∷ 91 ∷ 92 ∷ 93 ∷ 123 ∷ []) b ≡ false → (b == 92) ≡ false
not_taken b none =
    let p = or_parts (b == 34) (is_one_of (91 ∷ 92 ∷ 93 ∷ 123 ∷ []) b) none in
    let q = or_parts (b == 91) (is_one_of (92 ∷ 93 ∷ 123 ∷ []) b) p.1 in
    (or_parts (b == 92) (is_one_of (93 ∷ 123 ∷ []) b) q.1).0

pub at_word : (b : ℕ) (text : List ℕ) → is_one_of (34 ∷ 91 ∷ 92 ∷ 93 ∷ 123 ∷ []) b ≡ false → in_bracket true (b ∷ text) ≡ in_bracket (leads_word b) text
at_word b text none = bracket_step true b [] text (not_taken b none) (open_at_word b [] none true)

pub in_word : (b : ℕ) (text : List ℕ) → is_one_of (91 ∷ 92 ∷ 93 ∷ []) b ≡ false → in_bracket false (b ∷ text) ≡ in_bracket (leads_word b) text
in_word b text none =
    let q = or_parts (b == 91) (is_one_of (92 ∷ 93 ∷ []) b) none in
    let r = or_parts (b == 92) (is_one_of (93 ∷ []) b) q.1 in
    let s = or_parts (b == 93) false r.1 in
    bracket_step false b [] text r.0 (plain_by (b == 34) (b == 91) (b == 93) (b == 123) false [] q.0 s.0 (and_no (b == 34)) (and_no (b == 123)))

-- ---- in a brace and in a quote, where it is all the same whether a word may begin

brace_any : (xs : List Open) (one other : Bool) (text : List ℕ) → after_open (brace ∷ xs) one false text ≡ after_open (brace ∷ xs) other false text
unfolding after_open
brace_any xs one other [] = refl
brace_any xs one other (b ∷ bs) = refl

quote_any : (xs : List Open) (one other : Bool) (text : List ℕ) → after_open (quote ∷ xs) one false text ≡ after_open (quote ∷ xs) other false text
unfolding after_open
quote_any xs one other [] = refl
quote_any xs one other (b ∷ bs) = refl

pub brace_ends : (text : List ℕ) → after_brace (125 ∷ text) ≡ Some text
unfolding after_open
brace_ends text = refl

pub brace_in_brace : (text : List ℕ) → after_brace (123 ∷ text) ≡ option_and_then after_brace (after_brace text)
unfolding after_open
brace_in_brace text = around brace [] (brace ∷ []) false false text

pub taken_in_brace : (b : ℕ) (text : List ℕ) → after_brace (92 ∷ (b ∷ text)) ≡ after_brace text
unfolding after_open
taken_in_brace b text = brace_any [] (b == 10) false text

brace_step : (begins : Bool) (b : ℕ) (xs : List Open) (text : List ℕ) → is_one_of (92 ∷ 123 ∷ 125 ∷ []) b ≡ false
    → after_open (brace ∷ xs) begins false (b ∷ text) ≡ after_open (brace ∷ xs) (leads_word b) false text
unfolding after_open
brace_step begins b xs text none =
    let q = or_parts (b == 92) (is_one_of (123 ∷ 125 ∷ []) b) none in
    let r = or_parts (b == 123) (is_one_of (125 ∷ []) b) q.1 in
    let s = or_parts (b == 125) false r.1 in
    rw (q.0, r.0, s.0) refl

pub in_brace : (b : ℕ) (text : List ℕ) → is_one_of (92 ∷ 123 ∷ 125 ∷ []) b ≡ false → after_brace (b ∷ text) ≡ after_brace text
in_brace b text none = brace_step false b [] text none ∙ brace_any [] (leads_word b) false text

pub quote_ends : (text : List ℕ) → after_quote (34 ∷ text) ≡ Some text
unfolding after_open
quote_ends text = refl

pub bracket_in_quote : (text : List ℕ) → after_quote (91 ∷ text) ≡ option_and_then after_quote (after_bracket text)
unfolding after_open
bracket_in_quote text = around bracket [] (quote ∷ []) true false text

pub taken_in_quote : (b : ℕ) (text : List ℕ) → after_quote (92 ∷ (b ∷ text)) ≡ after_quote text
unfolding after_open
taken_in_quote b text = quote_any [] (b == 10) false text

quote_step : (b : ℕ) (text : List ℕ) → is_one_of (34 ∷ 91 ∷ 92 ∷ []) b ≡ false → after_quote (b ∷ text) ≡ after_open (quote ∷ []) (leads_word b) false text
unfolding after_open
quote_step b text none =
    let q = or_parts (b == 34) (is_one_of (91 ∷ 92 ∷ []) b) none in
    let r = or_parts (b == 91) (is_one_of (92 ∷ []) b) q.1 in
    let s = or_parts (b == 92) false r.1 in
    rw (s.0, r.0, q.0) refl

pub in_quote : (b : ℕ) (text : List ℕ) → is_one_of (34 ∷ 91 ∷ 92 ∷ []) b ≡ false → after_quote (b ∷ text) ≡ after_quote text
in_quote b text none = quote_step b text none ∙ quote_any [] (leads_word b) false text

pub no_ends : (after_brace [] ≡ None) × (after_quote [] ≡ None)
unfolding after_open
no_ends = (refl, refl)

-- ---- pairs

braces_match : (n : Nest) (xs : List Open) (begins : Bool) (rest : List ℕ) → HasNone (92 ∷ 123 ∷ 125 ∷ []) n
    → after_open (brace ∷ xs) begins false (spelled 123 125 n ++ (125 ∷ rest)) ≡ after_open xs false false rest
unfolding after_open
braces_match nothing xs begins rest none = refl
braces_match (byte b n) xs begins rest none = brace_step begins b xs (spelled 123 125 n ++ (125 ∷ rest)) none.0 ∙ braces_match n xs (leads_word b) rest none.1
braces_match (taken b n) xs begins rest none = braces_match n xs (b == 10) rest none
braces_match (pair inside n) xs begins rest none =
    ap (after_open (brace ∷ (brace ∷ xs)) false false) (append_assoc (spelled 123 125 inside) (125 ∷ spelled 123 125 n) (125 ∷ rest))
    ∙ (braces_match inside (brace ∷ xs) false (spelled 123 125 n ++ (125 ∷ rest)) none.0 ∙ braces_match n xs false rest none.1)

pub brace_match : (n : Nest) (rest : List ℕ) → HasNone (92 ∷ 123 ∷ 125 ∷ []) n → after_brace (spelled 123 125 n ++ (125 ∷ rest)) ≡ Some rest
unfolding after_open
brace_match n rest none = braces_match n [] false rest none

brackets_match : (n : Nest) (xs : List Open) (begins : Bool) (rest : List ℕ) → HasNone (34 ∷ 91 ∷ 92 ∷ 93 ∷ 123 ∷ []) n
    → after_open (bracket ∷ xs) begins false (spelled 91 93 n ++ (93 ∷ rest)) ≡ after_open xs false false rest
unfolding after_open
brackets_match nothing xs begins rest none = refl
brackets_match (byte b n) xs begins rest none =
    bracket_step begins b xs (spelled 91 93 n ++ (93 ∷ rest)) (not_taken b none.0) (open_at_word b xs none.0 begins) ∙ brackets_match n xs (leads_word b) rest none.1
brackets_match (taken b n) xs begins rest none = brackets_match n xs (b == 10) rest none
brackets_match (pair inside n) xs begins rest none =
    ap (after_open (bracket ∷ (bracket ∷ xs)) true false) (append_assoc (spelled 91 93 inside) (93 ∷ spelled 91 93 n) (93 ∷ rest))
    ∙ (brackets_match inside (bracket ∷ xs) true (spelled 91 93 n ++ (93 ∷ rest)) none.0 ∙ brackets_match n xs false rest none.1)

pub bracket_match : (n : Nest) (rest : List ℕ) → HasNone (34 ∷ 91 ∷ 92 ∷ 93 ∷ 123 ∷ []) n → after_bracket (spelled 91 93 n ++ (93 ∷ rest)) ≡ Some rest
unfolding after_open
bracket_match n rest none = brackets_match n [] true rest none
