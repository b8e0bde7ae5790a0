-- The characters of a text are a text: what becomes a blank or nothing begins and ends at ASCII bytes.
use Rattle.std.proofs.Common.{◌≡◌, ◌++◌, ◌<◌, ◌≤◌, ◌==◌, ℕ, zero, suc, Bool, true, false, List, [], ◌∷◌, length, get_or, refl, sym, ap, subst, ◌∙◌, arith}
use Rattle.std.specs.Prelude.{◌||◌, ◌&&◌, if◌then◌else◌, nat_lt}
use Rattle.std.specs.Str.{IsAscii, IsUtf8}
use Rattle.std.proofs.lemmas.Bool.{and_parts}
use Rattle.std.proofs.lemmas.Bool.Decides.{nat_tests}
use Rattle.std.proofs.lemmas.List.{append-nil}
use Rattle.std.proofs.lemmas.Str.{IsUtf8-append, IsUtf8-from_ascii, IsUtf8-nil, encode_ascii, inside_one}
use lib.Utf8.{encode, encodes, scalar, scalars}
use Rattle.sdc_base.proofs.CaseFacts.{by_bool}
use Rattle.library_model.specs.LibertyTokens.{Within, begins_comment, begins_continued, bytes_of, characters, comment, comment_star, comment_start, continued, continued_quotes, in_comment_after, line_past, plain, quotes, shown, within_after}
use Rattle.lib_cells.proofs.CharacterFacts.{bytes_shown}

-- ---- one byte

one_ascii : (b : ℕ) → b < 128 → IsAscii (b ∷ [])
one_ascii b small zero = small
one_ascii b small (suc i) = omega arith

one_utf8 : (b : ℕ) → b < 128 → IsUtf8 (b ∷ [])
one_utf8 b small = IsUtf8-from_ascii (b ∷ []) (one_ascii b small)

blank_or : (t : Bool) (b : ℕ) → b < 128 → (if t then 32 else b) < 128
blank_or true b small = omega arith
blank_or false b small = small

shown_utf8 : (w : Within) (b : ℕ) (bs : List ℕ) → b < 128 → IsUtf8 (shown w b bs)
shown_utf8 plain b bs small = one_utf8 (if begins_comment b bs || begins_continued b bs then 32 else b) (blank_or (begins_comment b bs || begins_continued b bs) b small)
shown_utf8 quotes b bs small = one_utf8 (if begins_continued b bs then 32 else b) (blank_or (begins_continued b bs) b small)
shown_utf8 comment_start b bs small = IsUtf8-nil
shown_utf8 comment b bs small = IsUtf8-nil
shown_utf8 comment_star b bs small = IsUtf8-nil
shown_utf8 continued b bs small = IsUtf8-nil
shown_utf8 continued_quotes b bs small = IsUtf8-nil

step_bytes : (w next : Within) (line : ℕ) (b : ℕ) (bs here : List ℕ) → shown w b bs ≡ here → within_after w b bs ≡ next → bytes_of (characters w line (b ∷ bs)) ≡ here ++ bytes_of (characters next (line_past b line) bs)
step_bytes w next line b bs here here_is next_is =
    bytes_shown line (shown w b bs) (characters (within_after w b bs) (line_past b line) bs)
    ∙ (ap (λ (xs : List ℕ). xs ++ bytes_of (characters (within_after w b bs) (line_past b line) bs)) here_is
    ∙ ap (λ (v : Within). here ++ bytes_of (characters v (line_past b line) bs)) next_is)

-- ---- the bytes of a character that is not ASCII

AreHigh : List ℕ → Type 0
AreHigh [] = Unit {0}
AreHigh (b ∷ bs) = (128 ≤ b) × AreHigh bs

high_from : (bs : List ℕ) → ((k : ℕ) → k < length bs → 128 ≤ get_or bs k 0) → AreHigh bs
unfolding AreHigh
high_from [] each = tt
high_from (b ∷ bs) each = (each 0 (omega arith), high_from bs (λ k less. each (suc k) (omega (arith, less))))

high_byte : (c k : ℕ) → 128 ≤ c → k < length (encode c) → 128 ≤ get_or (encode c) k 0
high_byte c k high inside =
    by_bool (λ t. 128 ≤ get_or (encode c) k 0) (nat_lt (get_or (encode c) k 0) 128)
    (λ is.
    let small : get_or (encode c) k 0 < 128 = grind (arith, nat_tests) in
    let same : c ≡ get_or (encode c) k 0 = inside_one c [] (encode c) k (sym (append-nil (encode c))) inside small in
    absurd (omega (arith, same, small, high)))
    (λ other. grind (arith, nat_tests))

encode_high : (c : ℕ) → 128 ≤ c → AreHigh (encode c)
encode_high c high = high_from (encode c) (λ k inside. high_byte c k high inside)

differs : (b n : ℕ) → 128 ≤ b → n < 128 → (b == n) ≡ false
differs b n high small = grind (arith, nat_tests)

plain_shown : (b : ℕ) (bs : List ℕ) → 128 ≤ b → shown plain b bs ≡ b ∷ []
plain_shown b bs high = rw (differs b 47 high (omega arith), differs b 92 high (omega arith)) refl

plain_after : (b : ℕ) (bs : List ℕ) → 128 ≤ b → within_after plain b bs ≡ plain
plain_after b bs high = rw (differs b 47 high (omega arith), differs b 92 high (omega arith), differs b 34 high (omega arith)) refl

quotes_shown : (b : ℕ) (bs : List ℕ) → 128 ≤ b → shown quotes b bs ≡ b ∷ []
quotes_shown b bs high = rw (differs b 92 high (omega arith)) refl

quotes_after : (b : ℕ) (bs : List ℕ) → 128 ≤ b → within_after quotes b bs ≡ quotes
quotes_after b bs high = rw (differs b 92 high (omega arith), differs b 34 high (omega arith)) refl

comment_after : (b : ℕ) → 128 ≤ b → in_comment_after b ≡ comment
comment_after b high = rw (differs b 42 high (omega arith)) refl

star_after : (b : ℕ) (bs : List ℕ) → 128 ≤ b → within_after comment_star b bs ≡ comment
star_after b bs high = rw (differs b 47 high (omega arith), differs b 42 high (omega arith)) refl

continued_after : (b : ℕ) (bs : List ℕ) → 128 ≤ b → within_after continued b bs ≡ continued
continued_after b bs high = rw (differs b 10 high (omega arith)) refl

continued_quotes_after : (b : ℕ) (bs : List ℕ) → 128 ≤ b → within_after continued_quotes b bs ≡ continued_quotes
continued_quotes_after b bs high = rw (differs b 10 high (omega arith)) refl

-- characters that stand for themselves, from what they stand in on
Kept : Within → List ℕ → List ℕ → Type 0
Kept w bs rest = (line : ℕ) → (after : ℕ) × (bytes_of (characters w line (bs ++ rest)) ≡ bs ++ bytes_of (characters w after rest))

kept : (w : Within) (bs rest : List ℕ) → ((b : ℕ) (more : List ℕ) → 128 ≤ b → (shown w b more ≡ b ∷ []) × (within_after w b more ≡ w)) → AreHigh bs → Kept w bs rest
unfolding AreHigh Kept
kept w [] rest stays high = λ line. (line, refl)
kept w (b ∷ bs) rest stays high = λ line.
    let more = kept w bs rest stays high.1 (line_past b line) in
    let here = stays b (bs ++ rest) high.0 in
    (more.0, step_bytes w w line b (bs ++ rest) (b ∷ []) here.0 here.1 ∙ ap (λ (xs : List ℕ). b ∷ xs) more.1)

-- whatever some text stands in, its characters are a text
Texts : List ℕ → Type 0
Texts rest = (w : Within) (line : ℕ) → IsUtf8 (bytes_of (characters w line rest))

-- bytes that are no characters, from what they stand in on
hidden_one : (w next : Within) (line : ℕ) (b : ℕ) (bs : List ℕ) → shown w b bs ≡ [] → within_after w b bs ≡ next → IsUtf8 (bytes_of (characters next (line_past b line) bs)) → IsUtf8 (bytes_of (characters w line (b ∷ bs)))
hidden_one w next line b bs nothing next_is text = subst IsUtf8 (sym (step_bytes w next line b bs [] nothing next_is)) text

in_comment : (bs rest : List ℕ) (line : ℕ) → AreHigh bs → Texts rest → IsUtf8 (bytes_of (characters comment line (bs ++ rest)))
unfolding AreHigh Texts
in_comment [] rest line high texts = texts comment line
in_comment (b ∷ bs) rest line high texts = hidden_one comment comment line b (bs ++ rest) refl (comment_after b high.0) (in_comment bs rest (line_past b line) high.1 texts)

in_continued : (bs rest : List ℕ) (line : ℕ) → AreHigh bs → Texts rest → IsUtf8 (bytes_of (characters continued line (bs ++ rest)))
unfolding AreHigh Texts
in_continued [] rest line high texts = texts continued line
in_continued (b ∷ bs) rest line high texts = hidden_one continued continued line b (bs ++ rest) refl (continued_after b (bs ++ rest) high.0) (in_continued bs rest (line_past b line) high.1 texts)

in_continued_quotes : (bs rest : List ℕ) (line : ℕ) → AreHigh bs → Texts rest → IsUtf8 (bytes_of (characters continued_quotes line (bs ++ rest)))
unfolding AreHigh Texts
in_continued_quotes [] rest line high texts = texts continued_quotes line
in_continued_quotes (b ∷ bs) rest line high texts = hidden_one continued_quotes continued_quotes line b (bs ++ rest) refl (continued_quotes_after b (bs ++ rest) high.0) (in_continued_quotes bs rest (line_past b line) high.1 texts)

high_text : (w : Within) (bs rest : List ℕ) (line : ℕ) → IsUtf8 bs → AreHigh bs → Texts rest → IsUtf8 (bytes_of (characters w line (bs ++ rest)))
unfolding AreHigh Kept Texts
high_text plain bs rest line text high texts =
    let same = kept plain bs rest (λ b more h. (plain_shown b more h, plain_after b more h)) high line in
    subst IsUtf8 (sym same.1) (IsUtf8-append bs (bytes_of (characters plain same.0 rest)) text (texts plain same.0))
high_text quotes bs rest line text high texts =
    let same = kept quotes bs rest (λ b more h. (quotes_shown b more h, quotes_after b more h)) high line in
    subst IsUtf8 (sym same.1) (IsUtf8-append bs (bytes_of (characters quotes same.0 rest)) text (texts quotes same.0))
high_text comment_start [] rest line text high texts = texts comment_start line
high_text comment_start (b ∷ bs) rest line text high texts = hidden_one comment_start comment line b (bs ++ rest) refl refl (in_comment bs rest (line_past b line) high.1 texts)
high_text comment bs rest line text high texts = in_comment bs rest line high texts
high_text comment_star [] rest line text high texts = texts comment_star line
high_text comment_star (b ∷ bs) rest line text high texts = hidden_one comment_star comment line b (bs ++ rest) refl (star_after b (bs ++ rest) high.0) (in_comment bs rest (line_past b line) high.1 texts)
high_text continued bs rest line text high texts = in_continued bs rest line high texts
high_text continued_quotes bs rest line text high texts = in_continued_quotes bs rest line high texts

-- ---- all characters

encode_utf8 : (c : ℕ) → scalar c ≡ true → IsUtf8 (encode c)
encode_utf8 c is = (c ∷ [], (ap (λ (t : Bool). t && true) is, append-nil (encode c)))

ascii_text : (w : Within) (c : ℕ) (rest : List ℕ) (line : ℕ) → c < 128 → Texts rest → IsUtf8 (bytes_of (characters w line (encode c ++ rest)))
unfolding Texts
ascii_text w c rest line small texts =
    subst (λ (xs : List ℕ). IsUtf8 (bytes_of (characters w line (xs ++ rest)))) (sym (encode_ascii c small))
    (subst IsUtf8 (sym (step_bytes w (within_after w c rest) line c rest (shown w c rest) refl refl))
    (IsUtf8-append (shown w c rest) (bytes_of (characters (within_after w c rest) (line_past c line) rest)) (shown_utf8 w c rest small) (texts (within_after w c rest) (line_past c line))))

one_text : (w : Within) (c : ℕ) (rest : List ℕ) (line : ℕ) → scalar c ≡ true → Texts rest → IsUtf8 (bytes_of (characters w line (encode c ++ rest)))
one_text w c rest line is texts =
    by_bool (λ t. IsUtf8 (bytes_of (characters w line (encode c ++ rest)))) (nat_lt c 128)
    (λ less. ascii_text w c rest line (grind (arith, nat_tests)) texts)
    (λ other. high_text w (encode c) rest line (encode_utf8 c is) (encode_high c (grind (arith, nat_tests))) texts)

all_texts : (cs : List ℕ) → scalars cs ≡ true → Texts (encodes cs)
unfolding Texts
all_texts [] is = λ w line. IsUtf8-nil
all_texts (c ∷ cs) is =
    let both = and_parts (scalar c) (scalars cs) is in
    λ w line. one_text w c (encodes cs) line both.0 (all_texts cs both.1)

pub shown_is_text : (text : List ℕ) → IsUtf8 text → IsUtf8 (bytes_of (characters plain 1 text))
unfolding Texts
shown_is_text text utf8 = subst (λ (xs : List ℕ). IsUtf8 (bytes_of (characters plain 1 xs))) utf8.1.1 (all_texts utf8.0 utf8.1.0 plain 1)
