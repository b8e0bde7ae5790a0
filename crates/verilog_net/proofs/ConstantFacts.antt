-- The bits of constants, bit by bit.
use Rattle.std.proofs.Common.{◌≡◌, ◌∙◌, ◌+◌, ◌-◌, ◌*◌, ◌/◌, ◌%◌, ◌^◌, ◌<◌, ◌≤◌, ◌==◌, ◌++◌, ◌∷◌, ℕ, zero, suc, Bool, List, [], Option, Some, append_assoc, drop, get_or, length, one-add, take, refl, sym, ap, arith}
use Rattle.std.specs.Prelude.{if◌then◌else◌}
use Rattle.std.proofs.lemmas.Bool.Decides.{nat_tests}
use Rattle.std.proofs.lemmas.List.{at_drop_more, drop_all, take_rest}
use Rattle.std.proofs.lemmas.Nat.{pow-add, shr-shr}
use Rattle.std.specs.List.{repeat}
use Rattle.sdc_base.proofs.CaseFacts.{by_bool}
use Rattle.netlist_model.specs.VerilogConstants as grammar

pub rest_is : (bits rest : List (Option Bool)) (at : ℕ) → rest ≡ take (length bits - at) (drop at bits) → rest ≡ drop at bits
rest_is bits rest at is = is ∙ take_rest bits at

repeat_step : (n : ℕ) (bit : Option Bool) → 0 < n → repeat n (bit ∷ []) ≡ bit ∷ repeat (n - 1) (bit ∷ [])
repeat_step zero bit some = absurd (omega arith)
repeat_step (suc n) bit some = let less : suc n - 1 ≡ n = omega arith in rw less refl

-- ---- the lowest bits

low_first : (k n : ℕ) → grammar.low_bits (suc k) n ≡ Some (((n / 2 ^ k) % 2) == 1) ∷ grammar.low_bits k n
low_first zero n = let same : n / 1 ≡ n = omega arith in ap (λ (m : ℕ). Some ((m % 2) == 1) ∷ []) (sym same)
low_first (suc k) n =
    ap (λ bs. bs ++ Some ((n % 2) == 1) ∷ []) (low_first k (n / 2))
    ∙ ap (λ (m : ℕ). Some ((m % 2) == 1) ∷ grammar.low_bits (suc k) n) (shr-shr n 1 k ∙ ap (λ (i : ℕ). n / 2 ^ i) (one-add k))

low_step : (p n : ℕ) → 0 < p → grammar.low_bits p n ≡ Some (((n / 2 ^ (p - 1)) % 2) == 1) ∷ grammar.low_bits (p - 1) n
low_step p n some = let more : p ≡ suc (p - 1) = omega arith in ap (λ (q : ℕ). grammar.low_bits q n) more ∙ low_first (p - 1) n

half_of : (n a b : ℕ) → a ≡ 2 * b → (n + a) / 2 ≡ n / 2 + b
half_of n a b e = omega arith

left_of : (n a b : ℕ) → a ≡ 2 * b → (n + a) % 2 ≡ n % 2
left_of n a b e = omega arith

regroup : (a b c : ℕ) → (a * b) * c ≡ a * (b * c)
regroup a b c = omega arith

-- whole powers change no lower bit
low_more : (k n m : ℕ) → grammar.low_bits k (n + 2 ^ k * m) ≡ grammar.low_bits k n
low_more zero n m = refl
low_more (suc k) n m =
    let power : 2 ^ suc k ≡ 2 * 2 ^ k = ap (λ (i : ℕ). 2 ^ i) (sym (one-add k)) ∙ pow-add 2 1 k in
    let twice : 2 ^ suc k * m ≡ 2 * (2 ^ k * m) = ap (λ (x : ℕ). x * m) power ∙ regroup 2 (2 ^ k) m in
    ap (λ (x : ℕ). grammar.low_bits k x ++ Some (((n + 2 ^ suc k * m) % 2) == 1) ∷ []) (half_of n (2 ^ suc k * m) (2 ^ k * m) twice)
    ∙ (ap (λ bs. bs ++ Some (((n + 2 ^ suc k * m) % 2) == 1) ∷ []) (low_more k (n / 2) m)
    ∙ ap (λ (x : ℕ). grammar.low_bits k (n / 2) ++ Some (x == 1) ∷ []) (left_of n (2 ^ suc k * m) (2 ^ k * m) twice))

parted : (n : ℕ) → n ≡ n % 18446744073709551616 + 18446744073709551616 * (n / 18446744073709551616)
parted n = omega arith

pub low_wrapped : (count n : ℕ) → count ≤ 64 → grammar.low_bits count (n % 18446744073709551616) ≡ grammar.low_bits count n
low_wrapped count n few =
    let sum : 64 ≡ count + (64 - count) = omega (arith, few) in
    let power : 18446744073709551616 ≡ 2 ^ count * 2 ^ (64 - count) = ap (λ (i : ℕ). 2 ^ i) sum ∙ pow-add 2 count (64 - count) in
    let whole : 18446744073709551616 * (n / 18446744073709551616) ≡ 2 ^ count * (2 ^ (64 - count) * (n / 18446744073709551616)) =
    ap (λ (x : ℕ). x * (n / 18446744073709551616)) power ∙ regroup (2 ^ count) (2 ^ (64 - count)) (n / 18446744073709551616) in
    sym (ap (grammar.low_bits count) (parted n ∙ ap (λ (x : ℕ). n % 18446744073709551616 + x) whole) ∙ low_more count (n % 18446744073709551616) (2 ^ (64 - count) * (n / 18446744073709551616)))

-- ---- the lowest bits of a number of base ten

wrapped_sum : (n d t r : ℕ) → t ≡ (n * 10) % 18446744073709551616 → r ≡ (t + d) % 18446744073709551616 → r ≡ ((n * 10) + d) % 18446744073709551616
wrapped_sum n d t r first second = omega arith

pub wrapped_digit : (n b t r : ℕ) → (b ≡ 95 → ⊥) → t ≡ (n * 10) % 18446744073709551616 → r ≡ (t + (b - 48)) % 18446744073709551616 → r ≡ grammar.next_number n b % 18446744073709551616
wrapped_digit n b t r other first second =
    by_bool (λ s. (b == 95) ≡ s → r ≡ (if s then n else (n * 10) + (b - 48)) % 18446744073709551616) (b == 95)
    (λ same e. absurd (other (grind (arith, nat_tests)))) (λ apart e. wrapped_sum n (b - 48) t r first second) refl

same_sum : (a b d : ℕ) → a % 18446744073709551616 ≡ b % 18446744073709551616 → ((a * 10) + d) % 18446744073709551616 ≡ ((b * 10) + d) % 18446744073709551616
same_sum a b d e = omega arith

same_next : (a b d : ℕ) → a % 18446744073709551616 ≡ b % 18446744073709551616 → grammar.next_number a d % 18446744073709551616 ≡ grammar.next_number b d % 18446744073709551616
same_next a b d e =
    by_bool (λ s. (if s then a else (a * 10) + (d - 48)) % 18446744073709551616 ≡ (if s then b else (b * 10) + (d - 48)) % 18446744073709551616) (d == 95) (λ same. e) (λ apart. same_sum a b (d - 48) e)

same_after : (a b : ℕ) (ds : List ℕ) → a % 18446744073709551616 ≡ b % 18446744073709551616 → grammar.number_after a ds % 18446744073709551616 ≡ grammar.number_after b ds % 18446744073709551616
same_after a b [] e = e
same_after a b (d ∷ ds) e = same_after (grammar.next_number a d) (grammar.next_number b d) ds (same_next a b d e)

wrapped_twice : (m n : ℕ) → m ≡ n % 18446744073709551616 → m % 18446744073709551616 ≡ n % 18446744073709551616
wrapped_twice m n e = omega arith

wrapped_more : (m n : ℕ) (ds : List ℕ) → m ≡ n % 18446744073709551616 → grammar.number_after m ds % 18446744073709551616 ≡ grammar.number_after n ds % 18446744073709551616
wrapped_more m n ds e = same_after m n ds (wrapped_twice m n e)

-- ---- the loops

pub repeat_more : (bits more start : List (Option Bool)) (n : ℕ) (bit : Option Bool) → 0 < n → more ≡ bits ++ bit ∷ [] → bits ++ repeat n (bit ∷ []) ≡ start → more ++ repeat (n - 1) (bit ∷ []) ≡ start
repeat_more bits more start n bit some is so_far =
    ap (λ (bs : List (Option Bool)). bs ++ repeat (n - 1) (bit ∷ [])) is
    ∙ (append_assoc bits (bit ∷ []) (repeat (n - 1) (bit ∷ []))
    ∙ (ap (λ (bs : List (Option Bool)). bits ++ bs) (sym (repeat_step n bit some)) ∙ so_far))

pub low_bit_more : (bits more start : List (Option Bool)) (p n : ℕ) (b : Bool) → 0 < p → b ≡ (((n / 2 ^ (p - 1)) % 2) == 1) → more ≡ bits ++ Some b ∷ [] → bits ++ grammar.low_bits p n ≡ start → more ++ grammar.low_bits (p - 1) n ≡ start
low_bit_more bits more start p n b some bit_is is so_far =
    ap (λ (bs : List (Option Bool)). bs ++ grammar.low_bits (p - 1) n) (is ∙ ap (λ (t : Bool). bits ++ Some t ∷ []) bit_is)
    ∙ (append_assoc bits (Some (((n / 2 ^ (p - 1)) % 2) == 1) ∷ []) (grammar.low_bits (p - 1) n)
    ∙ (ap (λ (bs : List (Option Bool)). bits ++ bs) (sym (low_step p n some)) ∙ so_far))

pub wrapped_few : (r n : ℕ) → r ≡ n % 18446744073709551616 → r < 18446744073709551616
wrapped_few r n is = omega arith

pub wrapped_step : (number r : ℕ) (digits : List ℕ) (i : ℕ) → i < length digits → grammar.number_after number (drop i digits) % 18446744073709551616 ≡ grammar.number_of digits % 18446744073709551616
    → r ≡ grammar.next_number number (get_or digits i 0) % 18446744073709551616 → grammar.number_after r (drop (i + 1) digits) % 18446744073709551616 ≡ grammar.number_of digits % 18446744073709551616
wrapped_step number r digits i inside so_far is =
    wrapped_more r (grammar.next_number number (get_or digits i 0)) (drop (i + 1) digits) is
    ∙ (ap (λ (m : ℕ). m % 18446744073709551616) (sym (at_drop_more (grammar.number_after number) digits i 0 inside)) ∙ so_far)

kept : (n m : ℕ) → n < 18446744073709551616 → n % 18446744073709551616 ≡ m % 18446744073709551616 → n ≡ m % 18446744073709551616
kept n m few same = omega arith

pub wrapped_all : (number : ℕ) (digits : List ℕ) (i : ℕ) → length digits ≤ i → number < 18446744073709551616 → grammar.number_after number (drop i digits) % 18446744073709551616 ≡ grammar.number_of digits % 18446744073709551616
    → number ≡ grammar.number_of digits % 18446744073709551616
wrapped_all number digits i end few so_far =
    kept number (grammar.number_of digits) few (ap (λ (ds : List ℕ). grammar.number_after number ds % 18446744073709551616) (sym (drop_all i digits end)) ∙ so_far)
