-- What is shown of a library's text: comments and the ends of continued lines as blanks.
use Rattle.std.proofs.Common.{◌≡◌, ◌∙◌, ◌++◌, ℕ, Bool, true, false, List, [], ◌∷◌, refl, ap}
use Rattle.std.specs.Prelude.{◌==◌, ◌&&◌, ◌||◌, map, if◌then◌else◌}
use Rattle.std.specs.List.{list_any}
use Rattle.std.proofs.lemmas.Bool.{or_parts}
use Rattle.text_model.specs.Bytes.{begins_with}
use Rattle.library_model.specs.LibertyTokens.{Character, Within, begins_comment, begins_continued, bytes_of, character, characters, comment, comment_star, line_past, plain, quotes, shown, within_after}
use Rattle.library_laws.specs.ShownText.{has_end, shown_text}

-- ---- bytes

joined_bytes : (line : ℕ) (bytes : List ℕ) (others : List Character) → bytes_of (map (character line) bytes ++ others) ≡ bytes ++ bytes_of others
joined_bytes line [] others = refl
joined_bytes line (b ∷ bs) others = ap (λ (more : List ℕ). b ∷ more) (joined_bytes line bs others)

pub bytes_shown : (within : Within) (line : ℕ) (text : List ℕ) → bytes_of (characters within line text) ≡ shown_text within text
bytes_shown within line [] = refl
bytes_shown within line (b ∷ bs) =
    joined_bytes line (shown within b bs) (characters (within_after within b bs) (line_past b line) bs)
    ∙ ap (λ (more : List ℕ). shown within b bs ++ more) (bytes_shown (within_after within b bs) (line_past b line) bs)

-- ---- comments

-- in a comment, after a star in it or not
abbrev in_comment : Bool → Within
in_comment star = if star then comment_star else comment

-- up to the end of the comment nothing is shown
passes : (star : Bool) (inside rest : List ℕ) → (star && begins_with 47 inside) ≡ false → has_end inside ≡ false
    → shown_text (in_comment star) (inside ++ (42 ∷ (47 ∷ rest))) ≡ shown_text plain rest
passes true [] rest start none = refl
passes false [] rest start none = refl
passes true (b ∷ bs) rest start none =
    let p = or_parts (b == 42 && begins_with 47 bs) (has_end bs) none in
    rw start (passes (b == 42) bs rest p.0 p.1)
passes false (b ∷ bs) rest start none =
    let p = or_parts (b == 42 && begins_with 47 bs) (has_end bs) none in passes (b == 42) bs rest p.0 p.1

never_ends : (star : Bool) (inside : List ℕ) → (star && begins_with 47 inside) ≡ false → has_end inside ≡ false
    → shown_text (in_comment star) inside ≡ []
never_ends true [] start none = refl
never_ends false [] start none = refl
never_ends true (b ∷ bs) start none =
    let p = or_parts (b == 42 && begins_with 47 bs) (has_end bs) none in rw start (never_ends (b == 42) bs p.0 p.1)
never_ends false (b ∷ bs) start none =
    let p = or_parts (b == 42 && begins_with 47 bs) (has_end bs) none in never_ends (b == 42) bs p.0 p.1

pub comment_is_blank : (inside rest : List ℕ) → has_end inside ≡ false → shown_text plain (47 ∷ (42 ∷ (inside ++ (42 ∷ (47 ∷ rest))))) ≡ 32 ∷ shown_text plain rest
comment_is_blank inside rest none = ap (λ (more : List ℕ). 32 ∷ more) (passes false inside rest refl none)

pub open_comment_is_blank : (inside : List ℕ) → has_end inside ≡ false → shown_text plain (47 ∷ (42 ∷ inside)) ≡ 32 ∷ []
open_comment_is_blank inside none = ap (λ (more : List ℕ). 32 ∷ more) (never_ends false inside refl none)

-- ---- continued lines

pub newline_is_blank : (rest : List ℕ) → shown_text plain (92 ∷ (10 ∷ rest)) ≡ 32 ∷ shown_text plain rest
newline_is_blank rest = refl

pub carriage_is_blank : (rest : List ℕ) → shown_text plain (92 ∷ (13 ∷ (10 ∷ rest))) ≡ 32 ∷ shown_text plain rest
carriage_is_blank rest = refl

-- ---- quoted texts

stays_quoted : (inside rest : List ℕ) → list_any (λ b. b == 34 || b == 92) inside ≡ false
    → shown_text quotes (inside ++ (34 ∷ rest)) ≡ inside ++ (34 ∷ shown_text plain rest)
stays_quoted [] rest none = refl
stays_quoted (b ∷ bs) rest none =
    let p = or_parts (b == 34 || b == 92) (list_any (λ c. c == 34 || c == 92) bs) none in
    let q = or_parts (b == 34) (b == 92) p.0 in
    rw (q.0, q.1) (ap (λ (more : List ℕ). b ∷ more) (stays_quoted bs rest p.1))

pub quoted_stays : (inside rest : List ℕ) → list_any (λ b. b == 34 || b == 92) inside ≡ false
    → shown_text plain (34 ∷ (inside ++ (34 ∷ rest))) ≡ 34 ∷ (inside ++ (34 ∷ shown_text plain rest))
quoted_stays inside rest none = ap (λ (more : List ℕ). 34 ∷ more) (stays_quoted inside rest none)

-- ---- all else

pub other_stays : (b : ℕ) (text : List ℕ) → begins_comment b text ≡ false → begins_continued b text ≡ false → (b == 34) ≡ false
    → shown_text plain (b ∷ text) ≡ b ∷ shown_text plain text
other_stays b text no_comment no_line no_quote = rw (no_comment, no_line, no_quote) refl
