-- Numbers digit by digit, up to 32 bits.
use Rattle.std.proofs.Common.{◌≡◌, ◌∙◌, ◌+◌, ◌-◌, ◌*◌, ◌<◌, ◌≤◌, ◌==◌, ◌∷◌, ℕ, Bool, true, false, not, List, [], None, Some, drop, get_or, length, nat_le, refl, sym, ap, arith, if◌then◌else◌}
use Rattle.std.specs.Prelude.{◌&&◌}
use Rattle.std.proofs.lemmas.Bool.Decides.{nat_tests}
use Rattle.std.proofs.lemmas.List.{at_drop_more}
use Rattle.std.proofs.lemmas.List.Folds.{list_any_at}
use Rattle.std.specs.List.{list_any}
use Rattle.sdc_base.proofs.CaseFacts.{by_bool}
use Rattle.source_types.specs.declared.verilog_tokens.VerilogToken.{VerilogToken}
use Rattle.source_types.specs.declared.verilog_tokens.VerilogToken.TheVariants as kind
use Rattle.netlist_model.specs.VerilogConstants as grammar
use Rattle.netlist_model.specs.VerilogSyntax as syntax
use Rattle.verilog_net.specs.declared.lexing.tokens.Token.{Token}
use Rattle.verilog_net.specs.Seen.{token_seen}
use Rattle.verilog_net.specs.Syntax.{is_long, is_long_bound}

next_no_less : (n b : ℕ) → n ≤ grammar.next_number n b
next_no_less n b = by_bool (λ t. n ≤ (if t then n else (n * 10) + (b - 48))) (b == 95) (λ is. omega arith) (λ is. omega arith)

no_less : (n : ℕ) (digits : List ℕ) → n ≤ grammar.number_after n digits
no_less n [] = omega arith
no_less n (b ∷ bs) =
    let first : n ≤ grammar.next_number n b = next_no_less n b in
    let rest : grammar.next_number n b ≤ grammar.number_after (grammar.next_number n b) bs = no_less (grammar.next_number n b) bs in
    omega (arith, first, rest)

-- a number that is too large stays so
pub too_large : (n : ℕ) (rest all : List ℕ) → 4294967295 < n → grammar.number_after n rest ≡ grammar.number_of all → None ≡ (if nat_le (grammar.number_of all) 4294967295 then Some (grammar.number_of all) else None)
too_large n rest all large is =
    let more : n ≤ grammar.number_after n rest = no_less n rest in
    let test : nat_le (grammar.number_of all) 4294967295 ≡ false = grind (arith, nat_tests) in
    rw test refl

pub too_large_step : (number n : ℕ) (digits : List ℕ) (i : ℕ) → i < length digits → grammar.number_after number (drop i digits) ≡ grammar.number_of digits → n ≡ grammar.next_number number (get_or digits i 0) → 4294967295 < n → None ≡ (if nat_le (grammar.number_of digits) 4294967295 then Some (grammar.number_of digits) else None)
too_large_step number n digits i inside so_far is large =
    too_large n (drop (i + 1) digits) digits large (ap (λ (m : ℕ). grammar.number_after m (drop (i + 1) digits)) is ∙ (sym (at_drop_more (grammar.number_after number) digits i 0 inside) ∙ so_far))

pub small : (n : ℕ) (all : List ℕ) → n ≤ 4294967295 → n ≡ grammar.number_of all → Some n ≡ (if nat_le (grammar.number_of all) 4294967295 then Some (grammar.number_of all) else None)
small n all few is =
    let test : nat_le (grammar.number_of all) 4294967295 ≡ true = grind (arith, nat_tests) in
    rw test (ap (λ (m : ℕ). Some m) is)

pub found_small : (n m : ℕ) (t : Bool) → Some n ≡ (if t then Some m else None) → (t ≡ true) × (n ≡ m)
found_small n m true is = (refl, cc)
found_small n m false is = cc

pub found_none : (m : ℕ) (t : Bool) → None ≡ (if t then Some m else None) → t ≡ false
found_none m true is = cc
found_none m false is = refl

pub large_kind : (digits : List ℕ) → None ≡ (if nat_le (grammar.number_of digits) 4294967295 then Some (grammar.number_of digits) else None) → kind.LargeNumber ≡ grammar.number_kind digits
large_kind digits is =
    let large : nat_le (grammar.number_of digits) 4294967295 ≡ false = found_none (grammar.number_of digits) (nat_le (grammar.number_of digits) 4294967295) is in
    let no_size : nat_le (grammar.number_of digits) 64 ≡ false = grind (arith, nat_tests) in
    let no_bound : nat_le (grammar.number_of digits) 999999 ≡ false = grind (arith, nat_tests) in
    rw (no_bound, no_size) (no_both (grammar.leads_nonzero digits) (nat_le 1 (grammar.number_of digits))) where
      no_both : (a b : Bool) → kind.LargeNumber ≡ (if a && b && false then kind.Size else (if false then kind.Number else kind.LargeNumber))
      no_both true true = refl
      no_both true false = refl
      no_both false b = refl

pub some_kind : (digits : List ℕ) (n : ℕ) (k : VerilogToken) → Some n ≡ (if nat_le (grammar.number_of digits) 4294967295 then Some (grammar.number_of digits) else None)
    → k ≡ (if grammar.leads_nonzero digits && nat_le 1 n && nat_le n 64 then kind.Size else (if nat_le n 999999 then kind.Number else kind.LargeNumber)) → k ≡ grammar.number_kind digits
some_kind digits n k is all =
    let found = found_small n (grammar.number_of digits) (nat_le (grammar.number_of digits) 4294967295) is in
    all ∙ ap (λ (m : ℕ). if grammar.leads_nonzero digits && nat_le 1 m && nat_le m 64 then kind.Size else (if nat_le m 999999 then kind.Number else kind.LargeNumber)) found.1

-- ---- numbers that pass 32 bits

pub long_number : (token : Token) → None ≡ (if nat_le (grammar.number_of token.text.now) 4294967295 then Some (grammar.number_of token.text.now) else None) → is_long token ≡ true
long_number token is = ap not (found_none (grammar.number_of token.text.now) (nat_le (grammar.number_of token.text.now) 4294967295) is)

-- a number that passes 32 bits is no size of a constant
pub long_size : (token : Token) → is_long token ≡ true → 64 < grammar.number_of token.text.now
long_size token long =
    by_bool (λ t. not t ≡ true → 64 < grammar.number_of token.text.now) (nat_le (grammar.number_of token.text.now) 4294967295)
    (λ few is. cc) (λ many is. grind (arith, nat_tests)) long

pub long_bound_at : (tokens : List Token) (i : ℕ) (d : Token) → i < length tokens → syntax.is_bound (token_seen (get_or tokens i d)) ≡ true → is_long (get_or tokens i d) ≡ true → list_any is_long_bound tokens ≡ true
long_bound_at tokens i d inside bound long =
    let both : is_long_bound (get_or tokens i d) ≡ true = rw (bound, long) refl in
    list_any_at is_long_bound tokens i d inside both
