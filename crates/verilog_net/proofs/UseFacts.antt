-- What is used of nets: indices, and numbers of bits.
use Rattle.std.proofs.Common.{◌≡◌, ◌∙◌, ◌+◌, ◌-◌, ◌/◌, ◌%◌, ◌<◌, ◌≤◌, ◌^◌, ◌⊎◌, ◌==◌, ◌++◌, ◌∷◌, ℕ, zero, suc, Bool, true, false, List, [], Option, None, Some, OnErr, Result, Ok, Err, drop, get_or, length, nat_le, refl, sym, ap, arith, inl, inr, length-append}
use Rattle.std.specs.Prelude.{◌||◌, ◌&&◌, if◌then◌else◌}
use Rattle.std.proofs.lemmas.Bool.Decides.{nat_tests}
use Rattle.std.proofs.lemmas.List.{drop_all, drop_more, length-drop, length-map}
use Rattle.std.proofs.lemmas.List.Folds.{list_any_at}
use Rattle.std.proofs.lemmas.Grind.{flat_map-append}
use Rattle.std.specs.List.{flat_map, repeat}
use Rattle.std.specs.Option.{is_some, option_to_list}
use Rattle.sdc_base.proofs.CaseFacts.{by_bool}
use Rattle.source_types.specs.declared.netlists.Bit.TheVariants as bits
use Rattle.source_types.specs.declared.netlists.Range.{Range}
use Rattle.netlist_model.specs.Ranges.{from_to, indices, span, width}
use Rattle.netlist_model.specs.Verilog as spec
use Rattle.netlist_model.specs.VerilogConstants as constants
use Rattle.netlist_model.specs.VerilogNets as nets
use Rattle.netlist_model.specs.VerilogSyntax as syntax
use Rattle.netlist_model.specs.VerilogTokens as lexical
use Rattle.netlist_model.proofs.RangeFacts.{indices_length, span_length}
use Rattle.verilog_net.specs.declared.lexing.tokens.Token.{Token}
use Rattle.verilog_net.specs.declared.checking.names.Names.{Names}
use Rattle.verilog_net.specs.declared.parsing.pieces.Piece.{Piece}
use Rattle.verilog_net.specs.declared.parsing.pieces.Piece.TheVariants as piece
use Rattle.verilog_net.specs.Names.{AreOverlong, declarations_of, has_long, len_of}
use Rattle.verilog_net.specs.Seen.{token_seen, tokens_seen}
use Rattle.verilog_net.specs.Syntax.{piece_seen, pieces_seen}
use Rattle.verilog_net.proofs.NumberFacts.{found_none, found_small}

-- ---- indices

pub within_is : (range : Range) (digits : List ℕ) (n : ℕ) (b : Bool) → Some n ≡ (if nat_le (constants.number_of digits) 4294967295 then Some (constants.number_of digits) else None)
    → b ≡ spec.is_within range n → b ≡ spec.has_index (Some range) (constants.number_of digits)
within_is range digits n b is within = within ∙ ap (spec.is_within range) (found_small n (constants.number_of digits) (nat_le (constants.number_of digits) 4294967295) is).1

outside : (left right i : ℕ) → left ≤ 4294967295 → right ≤ 4294967295 → 4294967295 < i → false ≡ ((nat_le left i && nat_le i right) || (nat_le right i && nat_le i left))
outside left right i left_fits right_fits large =
    let first : nat_le i right ≡ false = grind (arith, nat_tests) in
    let second : nat_le i left ≡ false = grind (arith, nat_tests) in
    rw (first, second) (both_fail (nat_le left i) (nat_le right i)) where
      both_fail : (a b : Bool) → false ≡ ((a && false) || (b && false))
      both_fail true true = refl
      both_fail true false = refl
      both_fail false true = refl
      both_fail false false = refl

pub too_large_index : (range : Range) (digits : List ℕ) → range.left < 4294967296 → range.right < 4294967296 → None ≡ (if nat_le (constants.number_of digits) 4294967295 then Some (constants.number_of digits) else None)
    → false ≡ spec.has_index (Some range) (constants.number_of digits)
too_large_index range digits left_fits right_fits is =
    let test : nat_le (constants.number_of digits) 4294967295 ≡ false = found_none (constants.number_of digits) (nat_le (constants.number_of digits) 4294967295) is in
    let large : 4294967295 < constants.number_of digits = grind (arith, nat_tests) in
    outside range.left range.right (constants.number_of digits) (omega arith) (omega arith) large

-- ---- what is known

pub known_more : (o : Option Token) (this rest : List lexical.Token) → tokens_seen (option_to_list o) ≡ this → is_some o ≡ false → spec.is_empty (this ++ rest) ≡ spec.is_empty rest
known_more None this rest is none = ap (λ (ts : List lexical.Token). spec.is_empty (ts ++ rest)) (sym is)
known_more (Some t) this rest is none = cc

pub unknown_stops : (o : Option Token) (this rest : List lexical.Token) → tokens_seen (option_to_list o) ≡ this → is_some o ≡ true → spec.is_empty (this ++ rest) ≡ false
unknown_stops None this rest is some = cc
unknown_stops (Some t) this rest is some = ap (λ (ts : List lexical.Token). spec.is_empty (ts ++ rest)) (sym is)

empty_append : (xs ys : List lexical.Token) → spec.is_empty (xs ++ ys) ≡ (spec.is_empty xs && spec.is_empty ys)
empty_append [] ys = refl
empty_append (x ∷ xs) ys = refl

pub both_known : (all : List syntax.Declared) (left right : List syntax.Piece) → spec.is_empty (flat_map (spec.unknown_in all) (left ++ right))
    ≡ (spec.is_empty (flat_map (spec.unknown_in all) left) && spec.is_empty (flat_map (spec.unknown_in all) right))
both_known all left right =
    ap spec.is_empty (flat_map-append (spec.unknown_in all) left right) ∙ empty_append (flat_map (spec.unknown_in all) left) (flat_map (spec.unknown_in all) right)

-- ---- numbers of bits

whole_len : (all : List syntax.Declared) (name : lexical.Token) (n : ℕ) → n ≡ width (nets.range_named all name.text) → n ≡ length (nets.piece_bits all (syntax.whole name))
whole_len all name n is =
    is ∙ (sym (indices_length (nets.range_named all name.text)) ∙ sym (length-map (indices (nets.range_named all name.text)) (nets.net_bit name.text)))

part_len : (all : List syntax.Declared) (name : lexical.Token) (left right l r n : ℕ) → l ≡ left → r ≡ right → n ≡ span l r → n ≡ length (nets.piece_bits all (syntax.part name left right))
part_len all name left right l r n left_is right_is is =
    is ∙ (ap (λ (i : ℕ). span i r) left_is ∙ (ap (span left) right_is ∙ (sym (span_length left right) ∙ sym (length-map (from_to left right) (λ i. nets.net_bit name.text (Some i))))))

length_low : (count n : ℕ) → length (constants.low_bits count n) ≡ count
length_low zero n = refl
length_low (suc count) n = omega (arith, length-append (constants.low_bits count (n / 2)) (Some ((n % 2) == 1) ∷ []), length_low count (n / 2))

length_repeat : (count : ℕ) (x : Option Bool) → length (repeat count (x ∷ [])) ≡ count
length_repeat zero x = refl
length_repeat (suc count) x = ap suc (length_repeat count x)

length_fitted : (size : ℕ) (found : List (Option Bool)) → length (constants.fitted size found) ≡ size
length_fitted size found =
    omega (arith, length-append (repeat (size - length found) (constants.filling found ∷ [])) (drop (length found - size) found), length_repeat (size - length found) (constants.filling found), length-drop (length found - size) found)

length_decimal : (size : ℕ) (digits : List ℕ) → length (constants.decimal_bits size digits) ≡ size
length_decimal size [] = length_low size 0
length_decimal size (b ∷ bs) =
    by_bool (λ t. length (if t then repeat size (None ∷ []) else constants.low_bits size (constants.number_of (b ∷ bs))) ≡ size) (constants.is_open_digit b)
    (λ e. length_repeat size None) (λ e. length_low size (constants.number_of (b ∷ bs)))

length_constant : (size letter : ℕ) (digits : List ℕ) → length (constants.constant_bits size letter digits) ≡ size
unfolding constants.constant_bits
length_constant size letter digits =
    by_bool (λ s. length (if s then constants.fitted size (flat_map (constants.digit_bits 1) digits) else (if letter == 104 then constants.fitted size (flat_map (constants.digit_bits 4) digits) else constants.decimal_bits size digits)) ≡ size) (letter == 98)
    (λ e. length_fitted size (flat_map (constants.digit_bits 1) digits))
    (λ e. by_bool (λ s. length (if s then constants.fitted size (flat_map (constants.digit_bits 4) digits) else constants.decimal_bits size digits) ≡ size) (letter == 104)
    (λ f. length_fitted size (flat_map (constants.digit_bits 4) digits))
    (λ f. length_decimal size digits))

constant_len : (all : List syntax.Declared) (size letter n : ℕ) (digits : List ℕ) → n ≡ size → n ≡ length (nets.piece_bits all (syntax.constant (constants.constant_bits size letter digits)))
constant_len all size letter n digits is = is ∙ (sym (length_constant size letter digits) ∙ sym (length-map (constants.constant_bits size letter digits) bits.Constant))

bits_more : (all : List syntax.Declared) (piece : syntax.Piece) (pieces : List syntax.Piece) → length (nets.bits_of all (piece ∷ pieces)) ≡ length (nets.piece_bits all piece) + length (nets.bits_of all pieces)
bits_more all piece pieces = length-append (nets.piece_bits all piece) (nets.bits_of all pieces)

len_is : (names : Names) (p : Piece) → len_of names p ≡ length (nets.piece_bits (declarations_of names) (piece_seen p))
len_is names (piece.Whole name) = whole_len (declarations_of names) (token_seen name) (width (nets.range_named (declarations_of names) name.text.now)) refl
len_is names (piece.Bit name index) = refl
len_is names (piece.Part name left right) =
    part_len (declarations_of names) (token_seen name) (constants.number_of left.text.now) (constants.number_of right.text.now) (constants.number_of left.text.now) (constants.number_of right.text.now) (span (constants.number_of left.text.now) (constants.number_of right.text.now)) refl refl refl
len_is names (piece.Constant size base digits) =
    constant_len (declarations_of names) (constants.number_of size.text.now) (syntax.letter_of base.text.now) (constants.number_of size.text.now) digits.text.now refl

pub len_more : (names : Names) (all : List Piece) (i n m r total : ℕ) (d : Piece) → i < length all → m ≡ len_of names (get_or all i d) → r ≡ n + m
    → n + length (nets.bits_of (declarations_of names) (pieces_seen (drop i all))) ≡ total → r + length (nets.bits_of (declarations_of names) (pieces_seen (drop (i + 1) all))) ≡ total
len_more names all i n m r total d inside len sum_is so_far =
    let first : length (nets.bits_of (declarations_of names) (pieces_seen (drop i all))) ≡ length (nets.bits_of (declarations_of names) (piece_seen (get_or all i d) ∷ pieces_seen (drop (i + 1) all))) =
    ap (λ (ps : List Piece). length (nets.bits_of (declarations_of names) (pieces_seen ps))) (drop_more all i d inside) in
    let parts : length (nets.bits_of (declarations_of names) (piece_seen (get_or all i d) ∷ pieces_seen (drop (i + 1) all))) ≡ length (nets.piece_bits (declarations_of names) (piece_seen (get_or all i d))) + length (nets.bits_of (declarations_of names) (pieces_seen (drop (i + 1) all))) =
    bits_more (declarations_of names) (piece_seen (get_or all i d)) (pieces_seen (drop (i + 1) all)) in
    summed n m r total (length (nets.bits_of (declarations_of names) (pieces_seen (drop i all)))) (length (nets.piece_bits (declarations_of names) (piece_seen (get_or all i d)))) (length (nets.bits_of (declarations_of names) (pieces_seen (drop (i + 1) all))))
    (len ∙ len_is names (get_or all i d)) sum_is (first ∙ parts) so_far where
      summed : (n m r total whole one rest : ℕ) → m ≡ one → r ≡ n + m → whole ≡ one + rest → n + whole ≡ total → r + rest ≡ total
      summed n m r total whole one rest e f g h = omega arith

pub len_all : (names : Names) (all : List Piece) (i n total : ℕ) → length all ≤ i → n + length (nets.bits_of (declarations_of names) (pieces_seen (drop i all))) ≡ total → n ≡ total
len_all names all i n total end so_far =
    let none : length (nets.bits_of (declarations_of names) (pieces_seen (drop i all))) ≡ 0 = ap (λ (ps : List Piece). length (nets.bits_of (declarations_of names) (pieces_seen ps))) (drop_all i all end) in
    omega (arith, none, so_far)

-- ---- numbers of bits that are not told

pub long_piece_at : (names : Names) (all : List Piece) (i : ℕ) (d : Piece) → i < length all → has_long (get_or all i d) ≡ true → AreOverlong names all
long_piece_at names all i d inside long = inl (list_any_at has_long all i d inside long)

-- the sum of the numbers of bits so far and of a piece is too large, where a call answers so
pub overlong_sum : {T E : Type 0} (r : Result T E) (names : Names) (all : List Piece) (i n m : ℕ) (d : Piece) → i < length all → m ≡ len_of names (get_or all i d) → 2 ^ 64 ≤ n + m
    → n + length (nets.bits_of (declarations_of names) (pieces_seen (drop i all))) ≡ length (nets.bits_of (declarations_of names) (pieces_seen all)) → OnErr r (AreOverlong names all)
overlong_sum (Ok x) names all i n m d inside len past so_far = tt
overlong_sum (Err e) names all i n m d inside len past so_far =
    let more = len_more names all i n m (n + m) (length (nets.bits_of (declarations_of names) (pieces_seen all))) d inside len refl so_far in
    let total : 2 ^ 64 ≤ length (nets.bits_of (declarations_of names) (pieces_seen all)) = omega (arith, past, more) in
    inr total

pub overlong_left : (names : Names) (left right : List Piece) → AreOverlong names left → AreOverlong names left ⊎ AreOverlong names right
overlong_left names left right long = inl long

pub overlong_right : (names : Names) (left right : List Piece) → AreOverlong names right → AreOverlong names left ⊎ AreOverlong names right
overlong_right names left right long = inr long
