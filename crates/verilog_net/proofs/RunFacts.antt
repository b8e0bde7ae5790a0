-- Runs of bytes in a text, and that they cut no character.
use Rattle.std.proofs.Common.{◌≡◌, ◌∙◌, ◌+◌, ◌-◌, ◌<◌, ◌≤◌, ◌∷◌, ℕ, zero, suc, Bool, true, false, List, [], drop, get_or, length, take, refl, ap, subst, arith}
use Rattle.std.specs.Prelude.{not, nat_lt}
use Rattle.std.specs.List.{prefix_len}
use Rattle.std.specs.Str.{IsCharBoundary, IsUtf8}
use Rattle.std.proofs.lemmas.Bool.Decides.{nat_tests}
use Rattle.std.proofs.lemmas.List.{drop_more, length-drop, length-take, take_rest}
use Rattle.std.proofs.lemmas.List.Folds.{length-prefix_len}
use Rattle.std.proofs.lemmas.List.Sums.{prefix_len-drop_yes, prefix_len-drop_no, prefix_len-drop_all}
use Rattle.std.proofs.lemmas.Str.{IsCharBoundary-after_ascii, IsCharBoundary-before_ascii, IsCharBoundary-end}
use Rattle.sdc_base.proofs.CaseFacts.{by_bool}
use Rattle.netlist_model.specs.VerilogConstants.{is_digits_byte, is_number_byte}
use Rattle.netlist_model.specs.VerilogTokens.{is_blank, is_word_byte}
use Rattle.verilog_net.specs.declared.lexing.runs.Run.{Run}
use Rattle.verilog_net.specs.declared.lexing.runs.Run.TheVariants.{Word, Number, Digits}
use Rattle.verilog_net.specs.Runs.{test_of}

pub rest_is : (bytes rest : List ℕ) (at : ℕ) → rest ≡ take (length bytes - at) (drop at bytes) → rest ≡ drop at bytes
rest_is bytes rest at is = is ∙ take_rest bytes at

fits : (test : ℕ → Bool) (bytes : List ℕ) (at len : ℕ) → at ≤ length bytes → len ≡ prefix_len test (drop at bytes) → at + len ≤ length bytes
fits test bytes at len within is =
    omega (arith, within, is, length-prefix_len test (drop at bytes), length-take (prefix_len test (drop at bytes)) (drop at bytes), length-drop at bytes)

pub run_fits : (run : Run) (bytes : List ℕ) (at len : ℕ) → at ≤ length bytes → len ≡ prefix_len (test_of run) (drop at bytes) → at + len ≤ length bytes
run_fits run bytes at len within is = fits (test_of run) bytes at len within is

pub name_fits : (bytes : List ℕ) (at len : ℕ) → at ≤ length bytes → len ≡ prefix_len (λ b. not (is_blank b)) (drop at bytes) → at + len ≤ length bytes
name_fits bytes at len within is = fits (λ b. not (is_blank b)) bytes at len within is

-- ---- bytes of runs are ASCII

word_small : (b : ℕ) → is_word_byte b ≡ true → b < 128
word_small b h = grind (arith, nat_tests)

number_small : (b : ℕ) → is_number_byte b ≡ true → b < 128
number_small b h = grind (arith, nat_tests)

digits_small : (b : ℕ) → is_digits_byte b ≡ true → b < 128
digits_small b h = grind (arith, nat_tests)

blank_small : (b : ℕ) → not (is_blank b) ≡ false → b < 128
blank_small b h = grind (arith, nat_tests)

small : (run : Run) → (b : ℕ) → test_of run b ≡ true → b < 128
small Word b h = word_small b h
small Number b h = number_small b h
small Digits b h = digits_small b h

-- ---- runs cut no character

at_none : (text : List ℕ) (at len : ℕ) → len ≡ 0 → IsCharBoundary text at → IsCharBoundary text (at + len)
at_none text at len none cut =
    let same : at ≡ at + len = omega (arith, none) in
    subst (λ (i : ℕ). IsCharBoundary text i) same cut

at_more : (text : List ℕ) (at len more : ℕ) → len ≡ 1 + more → IsCharBoundary text (at + 1 + more) → IsCharBoundary text (at + len)
at_more text at len more one cut =
    let same : at + 1 + more ≡ at + len = omega (arith, one) in
    subst (λ (i : ℕ). IsCharBoundary text i) same cut

cuts : (test : ℕ → Bool) → ((b : ℕ) → test b ≡ true → b < 128) → (text : List ℕ) → IsUtf8 text → (fuel at : ℕ) → length text ≤ at + fuel → IsCharBoundary text at → IsCharBoundary text (at + prefix_len test (drop at text))
cuts test ascii text utf8 zero at end cut =
    at_none text at (prefix_len test (drop at text)) (prefix_len-drop_all test text at (omega (arith, end))) cut
cuts test ascii text utf8 (suc fuel) at end cut =
    by_bool (λ t. IsCharBoundary text (at + prefix_len test (drop at text))) (nat_lt at (length text))
    (λ inside. let less : at < length text = grind (arith, nat_tests) in
    by_bool (λ t. IsCharBoundary text (at + prefix_len test (drop at text))) (test (get_or text at 0))
    (λ passes. at_more text at (prefix_len test (drop at text)) (prefix_len test (drop (at + 1) text)) (prefix_len-drop_yes test text at 0 less passes)
    (cuts test ascii text utf8 fuel (at + 1) (omega (arith, end)) (IsCharBoundary-after_ascii text at utf8 less (ascii (get_or text at 0) passes))))
    (λ fails. at_none text at (prefix_len test (drop at text)) (prefix_len-drop_no test text at 0 less fails) cut))
    (λ outside. let past : length text ≤ at = grind (arith, nat_tests) in
    at_none text at (prefix_len test (drop at text)) (prefix_len-drop_all test text at past) cut)

-- where what ends a run is ASCII
stops : (test : ℕ → Bool) → ((b : ℕ) → test b ≡ false → b < 128) → (text : List ℕ) → (fuel at : ℕ) → length text ≤ at + fuel → at ≤ length text → IsCharBoundary text (at + prefix_len test (drop at text))
stops test ascii text zero at end within =
    let same : length text ≡ at = omega (arith, end, within) in
    at_none text at (prefix_len test (drop at text)) (prefix_len-drop_all test text at (omega (arith, end))) (subst (λ (i : ℕ). IsCharBoundary text i) same (IsCharBoundary-end text))
stops test ascii text (suc fuel) at end within =
    by_bool (λ t. IsCharBoundary text (at + prefix_len test (drop at text))) (nat_lt at (length text))
    (λ inside. let less : at < length text = grind (arith, nat_tests) in
    by_bool (λ t. IsCharBoundary text (at + prefix_len test (drop at text))) (test (get_or text at 0))
    (λ passes. at_more text at (prefix_len test (drop at text)) (prefix_len test (drop (at + 1) text)) (prefix_len-drop_yes test text at 0 less passes)
    (stops test ascii text fuel (at + 1) (omega (arith, end)) (omega (arith, less))))
    (λ fails. at_none text at (prefix_len test (drop at text)) (prefix_len-drop_no test text at 0 less fails) (IsCharBoundary-before_ascii text at less (ascii (get_or text at 0) fails))))
    (λ outside. let same : length text ≡ at = grind (arith, nat_tests) in
    at_none text at (prefix_len test (drop at text)) (prefix_len-drop_all test text at (omega (arith, same))) (subst (λ (i : ℕ). IsCharBoundary text i) same (IsCharBoundary-end text)))

pub run_begins : (run : Run) (text : List ℕ) (at : ℕ) → at < length text → test_of run (get_or text at 0) ≡ true → IsCharBoundary text at
run_begins run text at within first = IsCharBoundary-before_ascii text at within (small run (get_or text at 0) first)

pub run_cuts : (run : Run) (text : List ℕ) (at len : ℕ) → IsUtf8 text → at < length text → test_of run (get_or text at 0) ≡ true → len ≡ prefix_len (test_of run) (drop at text) → IsCharBoundary text (at + len)
run_cuts run text at len utf8 within first is =
    rw is (cuts (test_of run) (small run) text utf8 (length text) at (omega arith) (run_begins run text at within first))

pub name_cuts : (text : List ℕ) (at len : ℕ) → at ≤ length text → len ≡ prefix_len (λ b. not (is_blank b)) (drop at text) → IsCharBoundary text (at + len)
name_cuts text at len within is = rw is (stops (λ b. not (is_blank b)) blank_small text (length text) at (omega arith) within)

pub run_some : (run : Run) (text : List ℕ) (at len : ℕ) → at < length text → test_of run (get_or text at 0) ≡ true → len ≡ prefix_len (test_of run) (drop at text) → 0 < len
run_some run text at len within first is = omega (arith, is, prefix_len-drop_yes (test_of run) text at 0 within first)

-- ---- one ASCII byte

pub ascii_begins : (text : List ℕ) (at : ℕ) → at < length text → get_or text at 0 < 128 → IsCharBoundary text at
ascii_begins text at within small = IsCharBoundary-before_ascii text at within small

take_one : (b : ℕ) (bs : List ℕ) → take 1 (b ∷ bs) ≡ b ∷ []
take_one b bs = refl

pub one_byte : (text piece : List ℕ) (at : ℕ) → at < length text → piece ≡ take 1 (drop at text) → piece ≡ get_or text at 0 ∷ []
one_byte text piece at within is = is ∙ (ap (take 1) (drop_more text at 0 within) ∙ take_one (get_or text at 0) (drop (at + 1) text))
