use Rattle.std.proofs.Common.{◌≡◌, ◌<◌, ℕ, List, [], ◌∷◌, length, drop, set, true, sym, ◌∙◌, ap, subst, arith}
use Rattle.flat_design.specs.declared.elaborate.walk.Frame.{Frame}
use Rattle.flat_design.specs.declared.elaborate.walk.Halt.TheVariants as halt
use Rattle.flat_design.specs.declared.elaborate.walk.Mark.{Mark}
use Rattle.flat_design.specs.declared.elaborate.walk.Mark.TheVariants as mark
use Rattle.flat_design.specs.Walk.{AreOrdered, faults_below, frame, halt_from, is_in, steps_of}
use Rattle.flat_design.proofs.WalkSteps.{Walking, step_fault}
use Rattle.flat_design.proofs.WalkEnds.{begun, close_falls, emptied, ended, step_end}
use Rattle.flat_design.proofs.WalkOpenings.{entered_within, open_falls, opens_new, step_open}
use Rattle.flat_design.proofs.elaborate.walk.walk.Goals as goal

pub loop-frame-init : goal.loop-frame-init
loop-frame-init c =
    let all = c.args.all.now in
    let top = c.args.top in
    let stack : c.push_front.new.self.items ≡ frame top 0 ∷ [] =
    c.in_ok-push_front.ensures.items
    ∙ (ap (λ (one : Frame). one ∷ c.new-stack.result.items) c.first_frame.ensures ∙ ap (λ (st : List Frame). frame top 0 ∷ st) c.new-stack.ensures.items) in
    subst (λ (st : List Frame). Walking all top (set c.in_ok-marks.marks.items top mark.Open) c.new-order.result.items st) (sym stack)
    (subst (λ (walked : List ℕ). Walking all top (set c.in_ok-marks.marks.items top mark.Open) walked (frame top 0 ∷ [])) (sym c.new-order.ensures.items)
    (subst (λ (ms : List Mark). Walking all top (set ms top mark.Open) [] (frame top 0 ∷ [])) (sym c.in_ok-marks.ensures) (begun all top c.requires.top)))

pub returns-in-Fault : goal.returns-in-Fault
returns-in-Fault c =
    let marks = c.loop-frame.marks.items in
    let order = c.loop-frame.order.items in
    let f = c.in-Some.frame in
    let outer = c.pop_front.new.self.items in
    let w : Walking c.args.all.now c.args.top marks order (f ∷ outer) =
    subst (λ (st : List Frame). Walking c.args.all.now c.args.top marks order st) c.in-Some.ensures.items c.loop-frame.invariant in
    step_fault c.args.all.now c.args.top marks order f outer c.in-Fault.instance c.in-Fault.kind w
    (ap (λ (ms : List Mark). halt_from ms f.next (drop f.next (steps_of c.args.all.now f.body))) (sym c.deref.ensures.value) ∙ sym c.in-Fault.ensures)

pub index_mut-requires-in-Open : goal.index_mut-requires-in-Open
index_mut-requires-in-Open c =
    let all = c.args.all.now in
    let marks = c.loop-frame.marks.items in
    let order = c.loop-frame.order.items in
    let f = c.in-Some.frame in
    let outer = c.pop_front.new.self.items in
    let w : Walking all c.args.top marks order (f ∷ outer) =
    subst (λ (st : List Frame). Walking all c.args.top marks order st) c.in-Some.ensures.items c.loop-frame.invariant in
    let h : halt_from marks f.next (drop f.next (steps_of all f.body)) ≡ halt.Open c.in-Open.instance c.in-Open.opened =
    ap (λ (ms : List Mark). halt_from ms f.next (drop f.next (steps_of all f.body))) (sym c.deref.ensures.value) ∙ sym c.in-Open.ensures in
    let new = opens_new all c.args.top marks order f outer c.in-Open.instance c.in-Open.opened w h in
    let within : c.in-Open.opened < length all = entered_within all (length all) f.body new.1.0 c.in-Open.opened c.requires.within w.frames.0.within new.1.1 in
    omega (arith, w.count)

pub loop-frame-preserved-in-Open : goal.loop-frame-preserved-in-Open
loop-frame-preserved-in-Open c =
    let all = c.args.all.now in
    let marks = c.loop-frame.marks.items in
    let order = c.loop-frame.order.items in
    let f = c.in-Some.frame in
    let outer = c.pop_front.new.self.items in
    let at = c.in-Open.instance in
    let e = c.in-Open.opened in
    let w : Walking all c.args.top marks order (f ∷ outer) =
    subst (λ (st : List Frame). Walking all c.args.top marks order st) c.in-Some.ensures.items c.loop-frame.invariant in
    let h : halt_from marks f.next (drop f.next (steps_of all f.body)) ≡ halt.Open at e =
    ap (λ (ms : List Mark). halt_from ms f.next (drop f.next (steps_of all f.body))) (sym c.deref.ensures.value) ∙ sym c.in-Open.ensures in
    let new = opens_new all c.args.top marks order f outer at e w h in
    let within : e < length all = entered_within all (length all) f.body new.1.0 e c.requires.within w.frames.0.within new.1.1 in
    let stack : c.push_front-in-Open-2.new.self.items ≡ frame e 0 ∷ frame f.body at ∷ outer =
    c.in_ok-push_front-in-Open-2.ensures.items
    ∙ (ap (λ (one : Frame). one ∷ c.push_front-in-Open.new.self.items) c.first_frame-in-Open.ensures
    ∙ ap (λ (st : List Frame). frame e 0 ∷ st) c.in_ok-push_front-in-Open.ensures.items) in
    subst (λ (st : List Frame). Walking all c.args.top (set marks e mark.Open) order st) (sym stack)
    (step_open all c.args.top marks order f outer at e w h within)

pub loop-frame-smaller-in-Open : goal.loop-frame-smaller-in-Open
loop-frame-smaller-in-Open c =
    let all = c.args.all.now in
    let marks = c.loop-frame.marks.items in
    let order = c.loop-frame.order.items in
    let f = c.in-Some.frame in
    let outer = c.pop_front.new.self.items in
    let e = c.in-Open.opened in
    let w : Walking all c.args.top marks order (f ∷ outer) =
    subst (λ (st : List Frame). Walking all c.args.top marks order st) c.in-Some.ensures.items c.loop-frame.invariant in
    let h : halt_from marks f.next (drop f.next (steps_of all f.body)) ≡ halt.Open c.in-Open.instance e =
    ap (λ (ms : List Mark). halt_from ms f.next (drop f.next (steps_of all f.body))) (sym c.deref.ensures.value) ∙ sym c.in-Open.ensures in
    let new = opens_new all c.args.top marks order f outer c.in-Open.instance e w h in
    let within : e < length all = entered_within all (length all) f.body new.1.0 e c.requires.within w.frames.0.within new.1.1 in
    open_falls marks e (omega (arith, w.count)) new.0

pub loop-frame-preserved : goal.loop-frame-preserved
loop-frame-preserved c =
    let all = c.args.all.now in
    let marks = c.loop-frame.marks.items in
    let order = c.loop-frame.order.items in
    let f = c.in-Some.frame in
    let outer = c.pop_front.new.self.items in
    let w : Walking all c.args.top marks order (f ∷ outer) =
    subst (λ (st : List Frame). Walking all c.args.top marks order st) c.in-Some.ensures.items c.loop-frame.invariant in
    let h : halt_from marks f.next (drop f.next (steps_of all f.body)) ≡ halt.End =
    ap (λ (ms : List Mark). halt_from ms f.next (drop f.next (steps_of all f.body))) (sym c.deref.ensures.value) ∙ sym c.in-End.ensures in
    subst (λ (ms : List ℕ). Walking all c.args.top (set marks f.body mark.Closed) ms outer) (sym c.in_ok-push-in-End.ensures.items)
    (step_end all c.args.top marks order f outer w h)

pub loop-frame-smaller : goal.loop-frame-smaller
loop-frame-smaller c =
    let all = c.args.all.now in
    let marks = c.loop-frame.marks.items in
    let order = c.loop-frame.order.items in
    let f = c.in-Some.frame in
    let outer = c.pop_front.new.self.items in
    let w : Walking all c.args.top marks order (f ∷ outer) =
    subst (λ (st : List Frame). Walking all c.args.top marks order st) c.in-Some.ensures.items c.loop-frame.invariant in
    close_falls all c.args.top marks order f outer w

pub returns : goal.returns
returns c =
    let all = c.args.all.now in
    let marks = c.loop-frame.marks.items in
    let order = c.loop-frame.order.items in
    let none = emptied c.pop_front.result c.loop-frame.stack.items c.pop_front.new.self.items c.in_default.not-Some c.pop_front.ensures.items c.pop_front.ensures.rest in
    let w : Walking all c.args.top marks order [] = subst (λ (st : List Frame). Walking all c.args.top marks order st) none c.loop-frame.invariant in
    subst (λ (ms : List ℕ). (faults_below all c.args.top ≡ []) × AreOrdered all ms × (is_in ms c.args.top ≡ true)) (sym c.from.ensures)
    (ended all c.args.top marks order w)
