use Rattle.std.proofs.Common.{◌≡◌, ◌<◌, ◌+◌, Bool, Option, Some, [], false, drop, get_or, length, subst, sym, arith}
use Rattle.std.proofs.lemmas.Bool.{ne_eqb}
use Rattle.text_model.specs.Enclosed as grammar
use Rattle.tcl_words.specs.declared.enclosed.Nest.{Nest}
use Rattle.tcl_words.specs.Nests.{nest_of, open_of, opens_of}
use Rattle.tcl_words.proofs.NestFacts.{InNest, nest_closes, nest_ends, nest_ends_skipped, nest_passes, nest_skips}
use Rattle.tcl_words.proofs.enclosed.nest_end.Goals as goal

pub returns-then-at-bytes : goal.returns-then-at-bytes
returns-then-at-bytes c =
    nest_ends_skipped (grammar.after_open (nest_of (Some c.args.nest)) c.args.begins false (drop c.args.from c.args.bytes.now)) c.args.bytes.now c.args.from c.loop-at.at c.loop-at.nest c.loop-at.begins
    c.loop-at.invariant c.loop-at-test.true c.if-byte-eq92.true c.if-at-bytes.true

pub loop-at-preserved-then-byte-eq92 : goal.loop-at-preserved-then-byte-eq92
loop-at-preserved-then-byte-eq92 c =
    let more : c.loop-at.at + 1 < length c.args.bytes.now = omega (arith, c.loop-at-test.true, c.if-at-bytes.false) in
    nest_skips (grammar.after_open (nest_of (Some c.args.nest)) c.args.begins false (drop c.args.from c.args.bytes.now)) c.args.bytes.now c.args.from c.loop-at.at c.loop-at.nest c.loop-at.begins
    c.loop-at.invariant c.loop-at-test.true c.if-byte-eq92.true more

pub returns-in_default : goal.returns-in_default
returns-in_default c =
    let closes : [] ≡ grammar.opened (open_of c.loop-at.nest.inner) (opens_of c.loop-at.nest.outer.items) c.loop-at.begins (get_or c.args.bytes.now c.loop-at.at 0) =
    subst (λ (o : Option Nest). nest_of o ≡ grammar.opened (open_of c.loop-at.nest.inner) (opens_of c.loop-at.nest.outer.items) c.loop-at.begins (get_or c.args.bytes.now c.loop-at.at 0)) c.in_default.is c.in_ok-next.ensures in
    nest_closes (grammar.after_open (nest_of (Some c.args.nest)) c.args.begins false (drop c.args.from c.args.bytes.now)) c.args.bytes.now c.args.from c.loop-at.at c.loop-at.nest c.loop-at.begins
    c.loop-at.invariant c.loop-at-test.true (ne_eqb (get_or c.args.bytes.now c.loop-at.at 0) 92 c.if-byte-eq92.false) closes

pub loop-at-preserved : goal.loop-at-preserved
loop-at-preserved c =
    let whole = grammar.after_open (nest_of (Some c.args.nest)) c.args.begins false (drop c.args.from c.args.bytes.now) in
    let passes : nest_of (Some c.in-Some.next) ≡ grammar.opened (open_of c.loop-at.nest.inner) (opens_of c.loop-at.nest.outer.items) c.loop-at.begins (get_or c.args.bytes.now c.loop-at.at 0) =
    subst (λ (o : Option Nest). nest_of o ≡ grammar.opened (open_of c.loop-at.nest.inner) (opens_of c.loop-at.nest.outer.items) c.loop-at.begins (get_or c.args.bytes.now c.loop-at.at 0)) c.in-Some.is c.in_ok-next.ensures in
    subst (λ (b : Bool). InNest (grammar.after_open (nest_of (Some c.args.nest)) c.args.begins false (drop c.args.from c.args.bytes.now)) c.args.bytes.now c.args.from (c.loop-at.at + 1) c.in-Some.next b) (sym c.leads_word-begins.ensures)
    (nest_passes (grammar.after_open (nest_of (Some c.args.nest)) c.args.begins false (drop c.args.from c.args.bytes.now)) c.args.bytes.now c.args.from c.loop-at.at c.loop-at.nest c.in-Some.next c.loop-at.begins
    c.loop-at.invariant c.loop-at-test.true (ne_eqb (get_or c.args.bytes.now c.loop-at.at 0) 92 c.if-byte-eq92.false) passes)

pub returns : goal.returns
returns c =
    nest_ends (grammar.after_open (nest_of (Some c.args.nest)) c.args.begins false (drop c.args.from c.args.bytes.now)) c.args.bytes.now c.args.from c.loop-at.at c.loop-at.nest c.loop-at.begins
    c.loop-at.invariant (λ less. absurd (omega (arith, less, c.loop-at-test.false)))
