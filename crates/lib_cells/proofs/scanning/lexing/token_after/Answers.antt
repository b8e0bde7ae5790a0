use Rattle.std.proofs.Common.{◌≡◌, ◌<◌, length, refl, sym, ap, subst, ◌∙◌, arith, List, ℕ}
use Rattle.std.specs.Str.{IsUtf8}
use Rattle.library_model.specs.LibertyTokens.{is_bare_byte}
use Rattle.lib_cells.specs.Scan.{bare_bytes}
use Rattle.lib_cells.proofs.LexFacts.{after_bare, after_sign, first_byte}
use Rattle.lib_cells.proofs.ScanFacts.{bare_cuts, quote_cut, sign_cut}
use Rattle.lib_cells.proofs.scanning.lexing.token_after.Goals as goal

pub split_at-requires : goal.split_at-requires
split_at-requires c =
    let some : 0 < length c.args.rest.text.now = omega (arith, c.in-len1-up.len_at_least, ap length c.as_bytes.ensures.value) in
    quote_cut c.args.rest.text.now (subst (λ (xs : List ℕ). IsUtf8 xs) c.as_bytes.ensures.value c.as_bytes.ensures.utf8) some (first_byte c.as_bytes.result.now c.args.rest.text.now c.as_bytes.ensures.value ∙ c.if-byte-eq34.true)

pub split_at-requires-then-is_bare_byte : goal.split_at-requires-then-is_bare_byte
split_at-requires-then-is_bare_byte c =
    let len_is : c.bare_len.result ≡ bare_bytes 0 c.args.rest.text.now = c.bare_len.ensures ∙ ap (bare_bytes 0) c.as_bytes-then-is_bare_byte.ensures.value in
    rw len_is (bare_cuts c.args.rest.text.now)

pub returns-then-is_bare_byte : goal.returns-then-is_bare_byte
returns-then-is_bare_byte c =
    let some : 0 < length c.args.rest.text.now = omega (arith, c.in-len1-up.len_at_least, ap length c.as_bytes.ensures.value) in
    let first = first_byte c.as_bytes.result.now c.args.rest.text.now c.as_bytes.ensures.value in
    after_bare c.args.gap.now c.args.rest.text.now c.args.rest.lines.now _ c.split_at-then-is_bare_byte.result.1 c.bare_len.result
    (c.bare_len.ensures ∙ ap (bare_bytes 0) c.as_bytes-then-is_bare_byte.ensures.value) some
    (λ is. c.if-byte-eq34.false (sym first ∙ is))
    (ap (is_bare_byte 0) first ∙ (sym c.is_bare_byte.ensures ∙ c.if-is_bare_byte.true))
    refl c.line-line.ensures refl c.split_at-then-is_bare_byte.ensures.front c.split_at-then-is_bare_byte.ensures.text c.split_at-then-is_bare_byte.ensures.lines

pub split_at-requires-2 : goal.split_at-requires-2
split_at-requires-2 c =
    let some : 0 < length c.args.rest.text.now = omega (arith, c.in-len1-up.len_at_least, ap length c.as_bytes.ensures.value) in
    let first = first_byte c.as_bytes.result.now c.args.rest.text.now c.as_bytes.ensures.value in
    sign_cut c.args.rest.text.now (subst (λ (xs : List ℕ). IsUtf8 xs) c.as_bytes.ensures.value c.as_bytes.ensures.utf8) some (ap (is_bare_byte 0) first ∙ (sym c.is_bare_byte.ensures ∙ c.if-is_bare_byte.false))

pub returns : goal.returns
returns c =
    let some : 0 < length c.args.rest.text.now = omega (arith, c.in-len1-up.len_at_least, ap length c.as_bytes.ensures.value) in
    let first = first_byte c.as_bytes.result.now c.args.rest.text.now c.as_bytes.ensures.value in
    after_sign c.args.gap.now c.args.rest.text.now c.args.rest.lines.now _ c.split_at-2.result.1 some
    (λ is. c.if-byte-eq34.false (sym first ∙ is))
    (ap (is_bare_byte 0) first ∙ (sym c.is_bare_byte.ensures ∙ c.if-is_bare_byte.false))
    refl c.line-line.ensures refl c.split_at-2.ensures.front c.split_at-2.ensures.text c.split_at-2.ensures.lines
