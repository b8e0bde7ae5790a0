use Rattle.std.proofs.Common.{◌<◌, ◌^◌, ℕ, List, arith, sym, ◌∙◌, subst}
use Rattle.std.proofs.lemmas.Bool.{false≢true}
use Rattle.merge_model.specs.ClockIdentity.{numbered_name}
use Rattle.clock_map.specs.MergedClocks.{IsTaken}
use Rattle.clock_map.proofs.NameLists.{few_taken, taken_more, is_free}
use Rattle.clock_map.proofs.names.free_name.Goals as goal

pub prove-unreachable-requires : goal.prove-unreachable-requires
prove-unreachable-requires c =
    let k = c.loop-alloc.k in
    let own = c.args.own.now.keys in
    let earlier = c.args.earlier.now.keys in
    let here : IsTaken own earlier (numbered_name c.args.first.now k) =
    subst (λ (name : List ℕ). IsTaken own earlier name) c.loop-alloc.invariant.name (c.is_taken.ensures.0 c.loop-alloc-test.true) in
    let more = taken_more own earlier c.args.first.now k c.loop-alloc.invariant.taken here in
    let small : k < 2 ^ 64 = omega (arith, c.len.ensures.small, c.len-2.ensures.small) in
    let few = few_taken own earlier c.args.first.now k small (λ j low high. more j low (omega arith)) in
    omega (arith, c.if-prove.true)

pub loop-alloc-preserved : goal.loop-alloc-preserved
loop-alloc-preserved c =
    let own = c.args.own.now.keys in
    let earlier = c.args.earlier.now.keys in
    let here : IsTaken own earlier (numbered_name c.args.first.now c.loop-alloc.k) =
    subst (λ (name : List ℕ). IsTaken own earlier name) c.loop-alloc.invariant.name (c.is_taken.ensures.0 c.loop-alloc-test.true) in
    record {
      positive = omega arith;
      name = c.in_ok-name-2.ensures;
      taken = taken_more own earlier c.args.first.now c.loop-alloc.k c.loop-alloc.invariant.taken here;
      most = c.loop-alloc.invariant.most;
      bound = omega (arith, c.if-prove.false);
    }

pub returns : goal.returns
returns c =
    is_free c.args.own.now.keys c.args.earlier.now.keys c.args.first.now c.loop-alloc.name c.loop-alloc.k
    c.loop-alloc.invariant.positive c.loop-alloc.invariant.name c.loop-alloc.invariant.taken
    (λ h. false≢true (sym c.loop-alloc-test.false ∙ c.is_taken.ensures.1 h))
