use Rattle.std.proofs.Common.{◌≡◌, ◌+◌, ℕ, List, length, map, replicate, true, false, refl, sym, ◌∙◌, ap, subst, arith}
use Rattle.flat_design.specs.declared.drivers.ends.Mark.{Mark}
use Rattle.flat_design.specs.declared.drivers.ends.Mark.TheVariants as mark
use Rattle.flat_design.specs.Ends.{AreSettled, WalksFrom, end_of}
use Rattle.flat_design.proofs.EndMarks.{done_more, have_ends, settled_start, walks_as}
use Rattle.flat_design.proofs.drivers.ends.ends_of.Goals as goal

pub loop-net-init : goal.loop-net-init
loop-net-init c =
    let table = c.args.table.now in
    let start : c.in_ok-marks.marks.items ≡ replicate (length table.last) mark.New =
    c.in_ok-marks.ensures ∙ ap (λ (n : ℕ). replicate n mark.New) c.len-nets.ensures in
    record {
      settled = subst (AreSettled table.rows.now (length table.last)) (sym start) (settled_start table.rows.now (length table.last));
      done = λ k low. absurd (omega (arith, low));
    }

pub returns-then-not-branch : goal.returns-then-not-branch
returns-then-not-branch c =
    let table = c.args.table.now in
    walks_as table.rows.now (length table.last) c.loop-net.net c.loop-net.marks.items c.settle.new.marks.items c.in_ok-settle.field-0 false
    c.if-not-branch.true c.in_ok-settle.ensures

pub loop-net-preserved : goal.loop-net-preserved
loop-net-preserved c =
    let table = c.args.table.now in
    let walks : WalksFrom table.rows.now (length table.last) c.loop-net.net c.loop-net.marks.items c.settle.new.marks.items true =
    walks_as table.rows.now (length table.last) c.loop-net.net c.loop-net.marks.items c.settle.new.marks.items c.in_ok-settle.field-0 true
    c.if-not-branch.false c.in_ok-settle.ensures in
    record {
      settled = walks.0;
      done = done_more table.rows.now (length table.last) c.loop-net.net (c.loop-net.net + 1) c.loop-net.marks.items c.settle.new.marks.items refl walks
          c.loop-net.invariant.done;
    }

pub returns : goal.returns
returns c =
    let table = c.args.table.now in
    let marks = c.loop-net.marks.items in
    have_ends table.rows.now (length table.last) marks c.in_ok-ends.field-0 c.requires.table.within c.loop-net.invariant.settled
    (λ net low. c.loop-net.invariant.done net (omega (arith, low, c.loop-net-test.false, c.len-nets.ensures)))
    (c.in_ok-ends.ensures ∙ ap (λ (ms : List Mark). map end_of ms) c.deref.ensures.value)
