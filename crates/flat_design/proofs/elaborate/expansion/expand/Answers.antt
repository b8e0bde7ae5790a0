use Rattle.std.proofs.Common.{◌≡◌, ◌+◌, ℕ, List, [], ◌∷◌, length, Some, sym, ◌∙◌, ap, subst, arith}
use Rattle.source_types.specs.declared.netlists.Port.{Port}
use Rattle.flat_model.specs.Instances.{instances_of}
use Rattle.flat_design.specs.declared.elaborate.expansion.Opened.{Opened}
use Rattle.flat_design.specs.declared.elaborate.expansion.NextStep.{NextStep}
use Rattle.flat_design.specs.declared.elaborate.elaboration.Elaboration.{Elaboration}
use Rattle.flat_design.specs.declared.elaborate.elaboration.Outer.{Outer}
use Rattle.flat_design.specs.declared.elaborate.walk.Step.{Step}
use Rattle.flat_design.specs.Expansion.{HasRoom, begun, frame_after, outer_of, next_step_at}
use Rattle.flat_design.specs.Elaboration.{port_count, with_cell, with_scope}
use Rattle.flat_design.proofs.ExpansionEnds.{begins, body_opened, cell_adds, count_of, deep, fewer, finish, inner_count, inner_stepped, kind_stepped, large, room_cell, room_enter, scope_adds}
use Rattle.flat_design.proofs.ExpansionSteps.{Expanding, step_cell, step_end, step_enter}
use Rattle.flat_design.proofs.WalkEnds.{emptied}
use Rattle.flat_design.proofs.elaborate.expansion.expand.Goals as goal

pub loop-frame-init : goal.loop-frame-init
loop-frame-init c =
    let modules = c.args.modules.now in
    let library = c.args.library.now in
    let body = c.args.body.now in
    let stack : c.push_front.new.self.items ≡ begun 0 c.args.top 0 ∷ [] =
    c.in_ok-push_front.ensures.items
    ∙ (ap (λ (one : Opened). one ∷ c.new-stack.result.items) c.begun.ensures ∙ ap (λ (st : List Opened). begun 0 c.args.top 0 ∷ st) c.new-stack.ensures.items) in
    subst (λ (st : List Opened). Expanding modules library body c.in_ok-elaboration.elaboration st) (sym stack)
    (subst (λ (l : Elaboration). Expanding modules library body l (begun 0 c.args.top 0 ∷ [])) (sym c.in_ok-elaboration.ensures)
    (begins modules library body c.args.top c.count_at.result c.port_count-ports.result c.requires.top
    (count_of modules c.args.net_counts.now c.args.top c.count_at.result body c.requires.counts c.count_at.ensures c.requires.top)
    (c.port_count-ports.ensures ∙ ap (λ (ports : List Port). port_count ports) c.as_slice.ensures)))

pub returns-then-is_too_large : goal.returns-then-is_too_large
returns-then-is_too_large c =
    large c.args.modules.now c.args.library.now c.args.body.now c.loop-frame.elaboration c.loop-frame.stack.items c.loop-frame.invariant
    (sym c.is_too_large.ensures ∙ c.if-is_too_large.true)

pub next_step_at-requires : goal.next_step_at-requires
next_step_at-requires c =
    let modules = c.args.modules.now in
    let library = c.args.library.now in
    let body = c.args.body.now in
    let f = c.in-Some.frame in
    let outer = c.pop_front.new.self.items in
    let e : Expanding modules library body c.loop-frame.elaboration (f ∷ outer) =
    subst (λ (st : List Opened). Expanding modules library body c.loop-frame.elaboration st) c.in-Some.ensures.items c.loop-frame.invariant in
    body_opened modules library body c.loop-frame.elaboration f outer c.args.steps.now e c.requires.steps

pub returns-in-Deep : goal.returns-in-Deep
returns-in-Deep c =
    let modules = c.args.modules.now in
    let library = c.args.library.now in
    let body = c.args.body.now in
    let f = c.in-Some.frame in
    let outer = c.pop_front.new.self.items in
    let e : Expanding modules library body c.loop-frame.elaboration (f ∷ outer) =
    subst (λ (st : List Opened). Expanding modules library body c.loop-frame.elaboration st) c.in-Some.ensures.items c.loop-frame.invariant in
    deep modules library body c.loop-frame.elaboration f outer e c.requires.sound
    (ap (λ (all : List (List Step)). next_step_at all f) (sym c.requires.steps) ∙ (sym c.next_step_at.ensures.next_step ∙ c.in-Deep.is))

pub loop-frame-preserved-in-End : goal.loop-frame-preserved-in-End
loop-frame-preserved-in-End c =
    let modules = c.args.modules.now in
    let library = c.args.library.now in
    let body = c.args.body.now in
    let f = c.in-Some.frame in
    let outer = c.pop_front.new.self.items in
    let e : Expanding modules library body c.loop-frame.elaboration (f ∷ outer) =
    subst (λ (st : List Opened). Expanding modules library body c.loop-frame.elaboration st) c.in-Some.ensures.items c.loop-frame.invariant in
    step_end modules library body c.loop-frame.elaboration f outer e c.requires.sound
    (ap (λ (all : List (List Step)). next_step_at all f) (sym c.requires.steps) ∙ (sym c.next_step_at.ensures.next_step ∙ c.in-End.is))

pub pin_count-requires : goal.pin_count-requires
pin_count-requires c =
    let modules = c.args.modules.now in
    let library = c.args.library.now in
    let body = c.args.body.now in
    let f = c.in-Some.frame in
    let outer = c.pop_front.new.self.items in
    let e : Expanding modules library body c.loop-frame.elaboration (f ∷ outer) =
    subst (λ (st : List Opened). Expanding modules library body c.loop-frame.elaboration st) c.in-Some.ensures.items c.loop-frame.invariant in
    kind_stepped modules library body c.loop-frame.elaboration f outer c.in-Cell.kind e c.requires.sound
    (ap (λ (all : List (List Step)). next_step_at all f) (sym c.requires.steps) ∙ (sym c.next_step_at.ensures.next_step ∙ c.in-Cell.is))

pub frame_after-requires : goal.frame_after-requires
frame_after-requires c = subst (λ (t : NextStep). HasRoom t c.in-Some.frame.next) c.in-Cell.is c.next_step_at.ensures.room

pub loop-frame-preserved-in-Continue-branch-4 : goal.loop-frame-preserved-in-Continue-branch-4
loop-frame-preserved-in-Continue-branch-4 c =
    let modules = c.args.modules.now in
    let library = c.args.library.now in
    let body = c.args.body.now in
    let elaboration = c.loop-frame.elaboration in
    let f = c.in-Some.frame in
    let outer = c.pop_front.new.self.items in
    let kind = c.in-Cell.kind in
    let e : Expanding modules library body elaboration (f ∷ outer) =
    subst (λ (st : List Opened). Expanding modules library body elaboration st) c.in-Some.ensures.items c.loop-frame.invariant in
    let stack : c.push_front-in-Cell.new.self.items ≡ frame_after f ∷ outer =
    c.in_ok-push_front-in-Cell.ensures.items ∙ ap (λ (one : Opened). one ∷ outer) c.frame_after.ensures in
    let now : c.add_cell.new.self ≡ with_cell elaboration (outer_of f) kind c.pin_count.result =
    c.in_ok-add_cell-in-Cell.ensures ∙ ap (λ (at : Outer). with_cell elaboration at kind c.pin_count.result) c.outer_of-at.ensures in
    subst (λ (st : List Opened). Expanding modules library body c.add_cell.new.self st) (sym stack)
    (subst (λ (l : Elaboration). Expanding modules library body l (frame_after f ∷ outer)) (sym now)
    (step_cell modules library body elaboration f outer kind c.pin_count.result e c.requires.sound (sym c.is_too_large.ensures ∙ c.if-is_too_large.false)
    (ap (λ (all : List (List Step)). next_step_at all f) (sym c.requires.steps) ∙ (sym c.next_step_at.ensures.next_step ∙ c.in-Cell.is)) c.pin_count.ensures))

pub loop-frame-smaller-in-Continue-branch-4 : goal.loop-frame-smaller-in-Continue-branch-4
loop-frame-smaller-in-Continue-branch-4 c =
    let modules = c.args.modules.now in
    let library = c.args.library.now in
    let body = c.args.body.now in
    let elaboration = c.loop-frame.elaboration in
    let f = c.in-Some.frame in
    let outer = c.pop_front.new.self.items in
    let kind = c.in-Cell.kind in
    let e : Expanding modules library body elaboration (f ∷ outer) =
    subst (λ (st : List Opened). Expanding modules library body elaboration st) c.in-Some.ensures.items c.loop-frame.invariant in
    let room = room_cell modules library body elaboration f outer kind e c.requires.sound
    (ap (λ (all : List (List Step)). next_step_at all f) (sym c.requires.steps) ∙ (sym c.next_step_at.ensures.next_step ∙ c.in-Cell.is)) in
    let grown = ap (λ (l : Elaboration). length l.scopes + length l.cells) c.in_ok-add_cell-in-Cell.ensures
    ∙ cell_adds elaboration c.outer_of-at.result kind c.pin_count.result in
    let new = ap (λ (st : List Opened). length st) c.in_ok-push_front-in-Cell.ensures.items in
    let old = ap (λ (st : List Opened). length st) c.in-Some.ensures.items in
    fewer (length (instances_of modules body)) (length elaboration.scopes + length elaboration.cells) (length c.add_cell.new.self.scopes + length c.add_cell.new.self.cells)
    (length c.loop-frame.stack.items) (length c.push_front-in-Cell.new.self.items) room grown (omega (arith, new, old))

pub count_at-requires-in-Enter : goal.count_at-requires-in-Enter
count_at-requires-in-Enter c =
    let modules = c.args.modules.now in
    let library = c.args.library.now in
    let body = c.args.body.now in
    let f = c.in-Some.frame in
    let outer = c.pop_front.new.self.items in
    let e : Expanding modules library body c.loop-frame.elaboration (f ∷ outer) =
    subst (λ (st : List Opened). Expanding modules library body c.loop-frame.elaboration st) c.in-Some.ensures.items c.loop-frame.invariant in
    inner_stepped modules library body c.loop-frame.elaboration f outer c.in-Enter.inner c.args.net_counts.now e c.requires.sound
    (ap (λ (all : List (List Step)). next_step_at all f) (sym c.requires.steps) ∙ (sym c.next_step_at.ensures.next_step ∙ c.in-Enter.is)) c.requires.counts

pub frame_after-requires-in-Enter : goal.frame_after-requires-in-Enter
frame_after-requires-in-Enter c = subst (λ (t : NextStep). HasRoom t c.in-Some.frame.next) c.in-Enter.is c.next_step_at.ensures.room

pub loop-frame-preserved : goal.loop-frame-preserved
loop-frame-preserved c =
    let modules = c.args.modules.now in
    let library = c.args.library.now in
    let body = c.args.body.now in
    let elaboration = c.loop-frame.elaboration in
    let f = c.in-Some.frame in
    let outer = c.pop_front.new.self.items in
    let inner = c.in-Enter.inner in
    let nets = c.count_at-in-Enter.result in
    let e : Expanding modules library body elaboration (f ∷ outer) =
    subst (λ (st : List Opened). Expanding modules library body elaboration st) c.in-Some.ensures.items c.loop-frame.invariant in
    let frame : c.begun-in-Enter.result ≡ begun (length elaboration.scopes) inner (f.level + 1) =
    c.begun-in-Enter.ensures ∙ ap (λ (n : ℕ). begun n inner (f.level + 1)) c.len-scope.ensures in
    let stack : c.push_front-in-Enter-2.new.self.items ≡ begun (length elaboration.scopes) inner (f.level + 1) ∷ frame_after f ∷ outer =
    c.in_ok-push_front-in-Enter-2.ensures.items
    ∙ (ap (λ (one : Opened). one ∷ c.push_front-in-Enter.new.self.items) frame
    ∙ ap (λ (st : List Opened). begun (length elaboration.scopes) inner (f.level + 1) ∷ st)
    (c.in_ok-push_front-in-Enter.ensures.items ∙ ap (λ (one : Opened). one ∷ outer) c.frame_after-in-Enter.ensures)) in
    let now : c.add_instance.new.self ≡ with_scope elaboration inner (Some (outer_of f)) nets =
    c.in_ok-add_instance-in-Enter.ensures ∙ ap (λ (at : Outer). with_scope elaboration inner (Some at) nets) c.outer_of-at.ensures in
    subst (λ (st : List Opened). Expanding modules library body c.add_instance.new.self st) (sym stack)
    (subst (λ (l : Elaboration). Expanding modules library body l (begun (length elaboration.scopes) inner (f.level + 1) ∷ frame_after f ∷ outer)) (sym now)
    (step_enter modules library body elaboration f outer inner nets e c.requires.sound (sym c.is_too_large.ensures ∙ c.if-is_too_large.false)
    (ap (λ (all : List (List Step)). next_step_at all f) (sym c.requires.steps) ∙ (sym c.next_step_at.ensures.next_step ∙ c.in-Enter.is))
    (inner_count modules c.args.net_counts.now inner nets c.requires.counts c.count_at-in-Enter.ensures)))

pub loop-frame-smaller : goal.loop-frame-smaller
loop-frame-smaller c =
    let modules = c.args.modules.now in
    let library = c.args.library.now in
    let body = c.args.body.now in
    let elaboration = c.loop-frame.elaboration in
    let f = c.in-Some.frame in
    let outer = c.pop_front.new.self.items in
    let inner = c.in-Enter.inner in
    let e : Expanding modules library body elaboration (f ∷ outer) =
    subst (λ (st : List Opened). Expanding modules library body elaboration st) c.in-Some.ensures.items c.loop-frame.invariant in
    let room = room_enter modules library body elaboration f outer inner e c.requires.sound
    (ap (λ (all : List (List Step)). next_step_at all f) (sym c.requires.steps) ∙ (sym c.next_step_at.ensures.next_step ∙ c.in-Enter.is)) in
    let grown = ap (λ (l : Elaboration). length l.scopes + length l.cells) c.in_ok-add_instance-in-Enter.ensures
    ∙ scope_adds elaboration inner (Some c.outer_of-at.result) c.count_at-in-Enter.result in
    let one = ap (λ (st : List Opened). length st) c.in_ok-push_front-in-Enter.ensures.items in
    let two = ap (λ (st : List Opened). length st) c.in_ok-push_front-in-Enter-2.ensures.items in
    let old = ap (λ (st : List Opened). length st) c.in-Some.ensures.items in
    fewer (length (instances_of modules body)) (length elaboration.scopes + length elaboration.cells) (length c.add_instance.new.self.scopes + length c.add_instance.new.self.cells)
    (length c.loop-frame.stack.items) (length c.push_front-in-Enter-2.new.self.items) room grown (omega (arith, one, two, old))

pub returns-then-is_too_large-2 : goal.returns-then-is_too_large-2
returns-then-is_too_large-2 c =
    large c.args.modules.now c.args.library.now c.args.body.now c.loop-frame.elaboration c.loop-frame.stack.items c.loop-frame.invariant
    (sym c.is_too_large-2.ensures ∙ c.if-is_too_large-2.true)

pub returns : goal.returns
returns c =
    let modules = c.args.modules.now in
    let library = c.args.library.now in
    let body = c.args.body.now in
    let elaboration = c.loop-frame.elaboration in
    let none = emptied c.pop_front.result c.loop-frame.stack.items c.pop_front.new.self.items c.in_default.not-Some c.pop_front.ensures.items c.pop_front.ensures.rest in
    finish modules library body elaboration (subst (λ (st : List Opened). Expanding modules library body elaboration st) none c.loop-frame.invariant)
    (sym c.is_too_large-2.ensures ∙ c.if-is_too_large-2.false)
