-- The bytes of a time in its buffer: where they stand, and that they are ASCII.
use Rattle.std.proofs.Common.{◌≡◌, ℕ, zero, suc, ◌+◌, ◌-◌, ◌*◌, ◌/◌, ◌%◌, ◌^◌, ◌<◌, ◌≤◌, Bool, true, false, cond, nat_eq, List, [], ◌∷◌, ◌++◌, length, take, drop, set, ℤ, pos, negsuc, refl, sym, ap, ◌∙◌, arith, lit<, append_assoc, length-take-le, length-set, take-append-drop}
use Rattle.std.proofs.Math.Nat.{div-le_self}
use Rattle.std.proofs.Math.Seq.{drop-append_seam, take-append_seam, take-append-add}
use Rattle.std.proofs.lemmas.Bool.Decides.{nat_tests}
use Rattle.std.proofs.lemmas.Fmt.{IsAscii-decimal}
use Rattle.std.proofs.lemmas.Int.{ints}
use Rattle.std.proofs.lemmas.List.{drop-take, drop-set, take_more_set}
use Rattle.std.proofs.lemmas.Nat.{mod_below}
use Rattle.std.proofs.lemmas.Str.{IsAscii-append, IsUtf8-from_ascii}
use Rattle.std.proofs.lemmas.Str.Ascii.{IsAscii-nil, IsAscii-cons}
use Rattle.std.specs.Fmt.{decimal}
use Rattle.std.specs.Int.{is_negative, w64}
use Rattle.std.specs.Int.RustNames.{unsigned_abs}
use Rattle.std.specs.Str.{IsAscii, IsUtf8}
use mir.Val.{SFits}
use Rattle.sdc_base.specs.Time.{IsUnit, minus_text, places, decimals_text, time_text_of}
use Rattle.sdc_base.proofs.CaseFacts.{by_bool}
use Rattle.sdc_base.proofs.PlaceFacts.{places_more, places_none, places_zero, digit_below}
use Rattle.sdc_base.proofs.ReadBackFacts.{by_unit}

-- a piece that begins at a place, seen as the end of a front
pub piece_is : (xs piece rest : List ℕ) (start end : ℕ) → start ≤ length xs → start + length piece ≡ end → drop start xs ≡ piece ++ rest
    → take end xs ≡ take start xs ++ piece
piece_is xs piece rest start end within ends is =
    let front = take start xs in
    let long : length front ≡ start = length-take-le start xs within in
    let whole : xs ≡ front ++ (piece ++ rest) = sym (take-append-drop start xs) ∙ ap (λ t. front ++ t) is in
    let n : end ≡ length front + length piece = omega (arith, long, ends) in
    ap (λ k. take k xs) n ∙ ap (λ t. take (length front + length piece) t) whole
    ∙ take-append-add front (piece ++ rest) (length piece) ∙ ap (λ t. front ++ t) (take-append_seam piece rest)

-- the same with a byte set in front of the piece
pub signed_is : (xs piece rest : List ℕ) (byte start end : ℕ) → 0 < start → start ≤ length xs → start + length piece ≡ end → drop start xs ≡ piece ++ rest
    → take end (set xs (start - 1) byte) ≡ take (start - 1) (set xs (start - 1) byte) ++ byte ∷ piece
signed_is xs piece rest byte start end some within ends is =
    let next : start - 1 + 1 ≡ start = omega arith in
    let n = length-set xs (start - 1) byte in
    piece_is (set xs (start - 1) byte) (byte ∷ piece) rest (start - 1) end (omega (arith, n)) (omega (arith, ends))
    (drop-set xs (start - 1) byte (omega arith) ∙ ap (λ k. byte ∷ drop k xs) next ∙ ap (λ t. byte ∷ t) is)

-- the bytes between two places, where a front holds the first of them and a longer front the others
pub between_is : (before after first others : List ℕ) (start end : ℕ) → start ≤ length before → start ≤ end
    → take 21 before ≡ take start before ++ first → take end after ≡ take 21 before ++ others
    → take (end - start) (drop start after) ≡ first ++ others
between_is before after first others start end within order fronts more =
    let front = take start before in
    let long : length front ≡ start = length-take-le start before within in
    let n : start + (end - start) ≡ end = omega arith in
    sym (drop-take start (end - start) after) ∙ ap (λ k. drop start (take k after)) n ∙ ap (λ t. drop start t) more
    ∙ ap (λ t. drop start (t ++ others)) fronts ∙ ap (λ t. drop start t) (append_assoc front first others)
    ∙ ap (λ k. drop k (front ++ (first ++ others))) (sym long) ∙ drop-append_seam front (first ++ others)

-- a whole part without a sign, and with one
pub unsigned_text : (negative : Bool) (xs rest : List ℕ) (n start : ℕ) → negative ≡ false → start ≤ length xs → start + length (decimal n) ≡ 21
    → drop start xs ≡ decimal n ++ rest → take 21 xs ≡ take start xs ++ (minus_text negative ++ decimal n)
unsigned_text negative xs rest n start e within ends is = rw e (piece_is xs (decimal n) rest start 21 within ends is)

pub signed_text : (negative : Bool) (xs rest : List ℕ) (n start : ℕ) → negative ≡ true → 0 < start → start ≤ length xs → start + length (decimal n) ≡ 21
    → drop start xs ≡ decimal n ++ rest
    → take 21 (set xs (start - 1) 45) ≡ take (start - 1) (set xs (start - 1) 45) ++ (minus_text negative ++ decimal n)
signed_text negative xs rest n start e some within ends is = rw e (signed_is xs (decimal n) rest 45 start 21 some within ends is)

decimals_is : (r u : ℕ) → 0 < r → 46 ∷ places 6 r u ≡ decimals_text r u
decimals_is r u h =
    let e : nat_eq r 0 ≡ false = grind (arith, nat_tests) in
    rw e refl

-- a point and places, after what stands before the point
pub decimals_written : (old new : List ℕ) (r u : ℕ) → length old ≡ 28 → 0 < r → new ≡ take 22 (set old 21 46) ++ places 6 r u
    → new ≡ take 21 old ++ decimals_text r u
decimals_written old new r u long some is =
    is ∙ ap (λ t. t ++ places 6 r u) (take_more_set old 21 46 (omega (arith, long)))
    ∙ append_assoc (take 21 old) (46 ∷ []) (places 6 r u) ∙ ap (λ t. take 21 old ++ t) (decimals_is r u some)

pub magnitude_fits : (z : ℤ) → SFits w64 z → unsigned_abs z ≤ 2 ^ 63
magnitude_fits (pos n) f = omega (arith, ints, f.sfits)
magnitude_fits (negsuc n) f = omega (arith, ints, f.sfits)

IsAscii-places : (k r u : ℕ) → r < u → IsAscii (places k r u)
IsAscii-places zero r u h = rw (places_zero r u) IsAscii-nil
IsAscii-places (suc k) zero u h = rw (places_none (suc k) u) IsAscii-nil
IsAscii-places (suc k) (suc r) u h =
    let d = digit_below (suc r) u h in
    let i = IsAscii-places k (suc r * 10 % u) u (mod_below (suc r * 10) u (omega arith)) in
    rw (places_more k (suc r) u (omega arith)) (IsAscii-cons (48 + suc r * 10 / u) (places k (suc r * 10 % u) u) (omega (arith, d)) i)

IsAscii-minus : (negative : Bool) → IsAscii (minus_text negative)
IsAscii-minus true = IsAscii-cons 45 [] (lit< tt) IsAscii-nil
IsAscii-minus false = IsAscii-nil

IsAscii-decimals : (r u : ℕ) → r < u → IsAscii (decimals_text r u)
IsAscii-decimals r u h =
    by_bool (λ b. IsAscii (cond b [] (46 ∷ places 6 r u))) (nat_eq r 0) (λ _. IsAscii-nil)
    (λ _. IsAscii-cons 46 (places 6 r u) (lit< tt) (IsAscii-places 6 r u h))

utf8 : (fs unit : ℤ) → 0 < unsigned_abs unit → unsigned_abs fs ≤ 2 ^ 63 → IsUtf8 (time_text_of fs unit)
unfolding time_text_of
utf8 fs unit some most =
    let m = unsigned_abs fs in
    let u = unsigned_abs unit in
    let q = div-le_self m u in
    let whole = decimal (m / u) in
    let decimals = decimals_text (m % u) u in
    IsUtf8-from_ascii (minus_text (is_negative fs) ++ (whole ++ decimals))
    (IsAscii-append (minus_text (is_negative fs)) (whole ++ decimals) (IsAscii-minus (is_negative fs))
    (IsAscii-append whole decimals (IsAscii-decimal (m / u) (omega (arith, q, most))) (IsAscii-decimals (m % u) u (mod_below m u some))))

-- the text of a time is UTF-8
pub IsUtf8-time_text : (fs unit : ℤ) → IsUnit unit → unsigned_abs fs ≤ 2 ^ 63 → IsUtf8 (time_text_of fs unit)
IsUtf8-time_text fs unit is most = by_unit (λ x. IsUtf8 (time_text_of fs x)) unit (λ u g k. utf8 fs (pos u) k.pos most) is
