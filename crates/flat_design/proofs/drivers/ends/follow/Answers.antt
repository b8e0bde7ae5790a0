use Rattle.std.proofs.Common.{◌≡◌, ◌<◌, ℕ, List, [], ◌∷◌, length, set, sym, ◌∙◌, ap, subst, arith}
use Rattle.flat_design.specs.declared.drivers.ends.Mark.{Mark}
use Rattle.flat_design.specs.declared.drivers.ends.Mark.TheVariants as mark
use Rattle.flat_design.specs.declared.drivers.ends.Next.TheVariants as next
use Rattle.flat_design.specs.declared.drivers.driver_edges.Driver.TheVariants as driver
use Rattle.flat_design.specs.Sources.{driven_by}
use Rattle.flat_design.specs.Ends.{next_of}
use Rattle.flat_design.proofs.WalkEnds.{emptied}
use Rattle.flat_design.proofs.EndFacts.{NextIs, driven_within, next_here}
use Rattle.flat_design.proofs.EndSteps.{Following, at_within, back_returns, end_falls, end_on, follow_falls, follow_on, followed, following_start}
use Rattle.flat_design.proofs.drivers.ends.follow.Goals as goal

pub loop-at-init : goal.loop-at-init
loop-at-init c =
    let table = c.args.table.now in
    let before = c.args.marks.now.items in
    let old = set before c.args.net mark.Open in
    let path : c.push_front.new.self.items ≡ c.args.net ∷ [] =
    c.in_ok-push_front.ensures.items ∙ ap (λ (st : List ℕ). c.args.net ∷ st) c.new-path.ensures.items in
    subst (λ (st : List ℕ). Following table.rows.now (length table.last) c.args.net old old st) (sym path)
    (following_start table.rows.now (length table.last) c.args.net before c.requires.marks c.requires.net c.requires.new)

pub next_of-requires-clause-net : goal.next_of-requires-clause-net
next_of-requires-clause-net c =
    let table = c.args.table.now in
    let old = set c.args.marks.now.items c.args.net mark.Open in
    let marks = c.loop-at.marks.items in
    let outer = c.pop_front.new.self.items in
    let w : Following table.rows.now (length table.last) c.args.net old marks (c.in-Some.at ∷ outer) =
    subst (λ (st : List ℕ). Following table.rows.now (length table.last) c.args.net old marks st) c.in-Some.ensures.items c.loop-at.invariant in
    omega (arith, at_within table.rows.now (length table.last) c.args.net old marks c.in-Some.at outer w, w.count)

pub returns-in-Back : goal.returns-in-Back
returns-in-Back c =
    let table = c.args.table.now in
    let rows = table.rows.now in
    let marks = c.loop-at.marks.items in
    let at = c.in-Some.at in
    let outer = c.pop_front.new.self.items in
    let w : Following rows (length table.last) c.args.net (set c.args.marks.now.items c.args.net mark.Open) marks (at ∷ outer) =
    subst (λ (st : List ℕ). Following rows (length table.last) c.args.net (set c.args.marks.now.items c.args.net mark.Open) marks st) c.in-Some.ensures.items c.loop-at.invariant in
    let h : next_of marks (driven_by rows at) ≡ next.Back = ap (λ (ms : List Mark). next_of ms (driven_by rows at)) (sym c.deref.ensures.value) ∙ sym c.in-Back.ensures in
    back_returns rows (length table.last) c.args.net (set c.args.marks.now.items c.args.net mark.Open) marks at outer w
    (subst (NextIs rows marks at) h (next_here rows marks at w.settled c.requires.one))

pub index_mut-requires-in-Follow : goal.index_mut-requires-in-Follow
index_mut-requires-in-Follow c =
    let table = c.args.table.now in
    let rows = table.rows.now in
    let marks = c.loop-at.marks.items in
    let at = c.in-Some.at in
    let from = c.in-Follow.from in
    let outer = c.pop_front.new.self.items in
    let w : Following rows (length table.last) c.args.net (set c.args.marks.now.items c.args.net mark.Open) marks (at ∷ outer) =
    subst (λ (st : List ℕ). Following rows (length table.last) c.args.net (set c.args.marks.now.items c.args.net mark.Open) marks st) c.in-Some.ensures.items c.loop-at.invariant in
    let h : next_of marks (driven_by rows at) ≡ next.Follow from = ap (λ (ms : List Mark). next_of ms (driven_by rows at)) (sym c.deref.ensures.value) ∙ sym c.in-Follow.ensures in
    let n : NextIs rows marks at (next.Follow from) = subst (NextIs rows marks at) h (next_here rows marks at w.settled c.requires.one) in
    let inside : from < length table.last = driven_within (length table.last) 4294967295 rows at (driver.Net from) [] c.requires.within n.0 in
    omega (arith, inside, w.count)

pub loop-at-preserved-in-Follow : goal.loop-at-preserved-in-Follow
loop-at-preserved-in-Follow c =
    let table = c.args.table.now in
    let rows = table.rows.now in
    let nets = length table.last in
    let old = set c.args.marks.now.items c.args.net mark.Open in
    let marks = c.loop-at.marks.items in
    let at = c.in-Some.at in
    let from = c.in-Follow.from in
    let outer = c.pop_front.new.self.items in
    let w : Following rows nets c.args.net old marks (at ∷ outer) =
    subst (λ (st : List ℕ). Following rows nets c.args.net old marks st) c.in-Some.ensures.items c.loop-at.invariant in
    let h : next_of marks (driven_by rows at) ≡ next.Follow from = ap (λ (ms : List Mark). next_of ms (driven_by rows at)) (sym c.deref.ensures.value) ∙ sym c.in-Follow.ensures in
    let n : NextIs rows marks at (next.Follow from) = subst (NextIs rows marks at) h (next_here rows marks at w.settled c.requires.one) in
    let inside : from < nets = driven_within nets 4294967295 rows at (driver.Net from) [] c.requires.within n.0 in
    let path : c.push_front-in-Follow-2.new.self.items ≡ from ∷ at ∷ outer =
    c.in_ok-push_front-in-Follow-2.ensures.items ∙ ap (λ (st : List ℕ). from ∷ st) c.in_ok-push_front-in-Follow.ensures.items in
    subst (λ (st : List ℕ). Following rows nets c.args.net old (set marks from mark.Open) st) (sym path)
    (follow_on rows nets c.args.net old marks at from outer w n (omega (arith, inside, w.count)))

pub loop-at-smaller-in-Follow : goal.loop-at-smaller-in-Follow
loop-at-smaller-in-Follow c =
    let table = c.args.table.now in
    let rows = table.rows.now in
    let nets = length table.last in
    let old = set c.args.marks.now.items c.args.net mark.Open in
    let marks = c.loop-at.marks.items in
    let at = c.in-Some.at in
    let from = c.in-Follow.from in
    let outer = c.pop_front.new.self.items in
    let w : Following rows nets c.args.net old marks (at ∷ outer) =
    subst (λ (st : List ℕ). Following rows nets c.args.net old marks st) c.in-Some.ensures.items c.loop-at.invariant in
    let h : next_of marks (driven_by rows at) ≡ next.Follow from = ap (λ (ms : List Mark). next_of ms (driven_by rows at)) (sym c.deref.ensures.value) ∙ sym c.in-Follow.ensures in
    let n : NextIs rows marks at (next.Follow from) = subst (NextIs rows marks at) h (next_here rows marks at w.settled c.requires.one) in
    let inside : from < nets = driven_within nets 4294967295 rows at (driver.Net from) [] c.requires.within n.0 in
    follow_falls marks from (omega (arith, inside, w.count)) n.1

pub index_mut-requires-in-End : goal.index_mut-requires-in-End
index_mut-requires-in-End c =
    let table = c.args.table.now in
    let old = set c.args.marks.now.items c.args.net mark.Open in
    let marks = c.loop-at.marks.items in
    let outer = c.pop_front.new.self.items in
    let w : Following table.rows.now (length table.last) c.args.net old marks (c.in-Some.at ∷ outer) =
    subst (λ (st : List ℕ). Following table.rows.now (length table.last) c.args.net old marks st) c.in-Some.ensures.items c.loop-at.invariant in
    let inside : c.in-Some.at < length marks = at_within table.rows.now (length table.last) c.args.net old marks c.in-Some.at outer w in
    omega (arith, inside, c.loop-at.marks.ok.0)

pub loop-at-preserved : goal.loop-at-preserved
loop-at-preserved c =
    let table = c.args.table.now in
    let rows = table.rows.now in
    let nets = length table.last in
    let old = set c.args.marks.now.items c.args.net mark.Open in
    let marks = c.loop-at.marks.items in
    let at = c.in-Some.at in
    let outer = c.pop_front.new.self.items in
    let w : Following rows nets c.args.net old marks (at ∷ outer) =
    subst (λ (st : List ℕ). Following rows nets c.args.net old marks st) c.in-Some.ensures.items c.loop-at.invariant in
    let h : next_of marks (driven_by rows at) ≡ next.End c.in-End.end =
    ap (λ (ms : List Mark). next_of ms (driven_by rows at)) (sym c.deref.ensures.value) ∙ sym c.in-End.ensures in
    end_on rows nets c.args.net old marks at outer c.in-End.end w
    (subst (NextIs rows marks at) h (next_here rows marks at w.settled c.requires.one))

pub loop-at-smaller : goal.loop-at-smaller
loop-at-smaller c =
    let table = c.args.table.now in
    let old = set c.args.marks.now.items c.args.net mark.Open in
    let marks = c.loop-at.marks.items in
    let outer = c.pop_front.new.self.items in
    let w : Following table.rows.now (length table.last) c.args.net old marks (c.in-Some.at ∷ outer) =
    subst (λ (st : List ℕ). Following table.rows.now (length table.last) c.args.net old marks st) c.in-Some.ensures.items c.loop-at.invariant in
    end_falls table.rows.now (length table.last) c.args.net old marks c.in-Some.at outer c.in-End.end w

pub returns : goal.returns
returns c =
    let table = c.args.table.now in
    let old = set c.args.marks.now.items c.args.net mark.Open in
    let marks = c.loop-at.marks.items in
    let none = emptied c.pop_front.result c.loop-at.path.items c.pop_front.new.self.items c.in_default.not-Some c.pop_front.ensures.items c.pop_front.ensures.rest in
    followed table.rows.now (length table.last) c.args.net c.args.marks.now.items marks (omega (arith, c.requires.net, c.requires.marks.count)) c.requires.new
    (subst (λ (st : List ℕ). Following table.rows.now (length table.last) c.args.net old marks st) none c.loop-at.invariant)
