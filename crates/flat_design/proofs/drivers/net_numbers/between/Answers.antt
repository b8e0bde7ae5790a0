use Rattle.std.proofs.Common.{inl, inr, slice_get, ◌∙◌, ap, arith, ◌≤◌}
use Rattle.netlist_model.specs.Ranges.{from_to}
use Rattle.flat_design.proofs.NumberFacts.{down_index, up_index}
use Rattle.flat_design.proofs.drivers.net_numbers.between.Goals as goal

pub overflow_sub-index : goal.overflow_sub-index
overflow_sub-index c = elim c.requires [ inl up ↦ omega (arith, up.0) | inr down ↦ omega (arith, down.0, down.1, c.if-left-right.true) ]

pub overflow_sub-left : goal.overflow_sub-left
overflow_sub-left c = elim c.requires [ inl up ↦ omega (arith, up.0, up.1, c.if-left-right.false) | inr down ↦ omega (arith, down.1) ]

pub returns-then-left-right : goal.returns-then-left-right
returns-then-left-right c =
    let first : c.args.left ≤ c.args.index = elim c.requires [ inl up ↦ omega (arith, up.0) | inr down ↦ omega (arith, down.0, down.1, c.if-left-right.true) ] in
    let last : c.args.index ≤ c.args.right = elim c.requires [ inl up ↦ omega (arith, up.1) | inr down ↦ omega (arith, down.0, down.1, c.if-left-right.true) ] in
    ap (slice_get (from_to c.args.left c.args.right)) c.from.ensures ∙ up_index c.args.left c.args.right c.args.index c.if-left-right.true first last

pub returns-else-left-right : goal.returns-else-left-right
returns-else-left-right c =
    let first : c.args.right ≤ c.args.index = elim c.requires [ inl up ↦ omega (arith, up.0, up.1, c.if-left-right.false) | inr down ↦ omega (arith, down.0) ] in
    let last : c.args.index ≤ c.args.left = elim c.requires [ inl up ↦ omega (arith, up.0, up.1, c.if-left-right.false) | inr down ↦ omega (arith, down.1) ] in
    ap (slice_get (from_to c.args.left c.args.right)) c.from-else-left-right.ensures
    ∙ down_index c.args.left c.args.right c.args.index c.if-left-right.false first last
