use Rattle.std.proofs.Common.{◌≡◌, ◌<◌, ◌≤◌, ◌≢◌, ◌+◌, ◌∙◌, length, get_or, sym, ap, subst, arith}
use Rattle.std.proofs.lemmas.Grind.{common_steps}
use Rattle.std.proofs.lemmas.List.{get_or_default}
use Rattle.clock_map.specs.declared.merged.Merged.{Merged}
use Rattle.clock_map.proofs.MergedLists.{MergedSoFar, known_step, new_step, merged_done, nothing_merged}
use Rattle.clock_map.proofs.merged.merged_clocks.Goals as goal
use Rattle.clock_map.proofs.merged.merged_clocks.Goals.{then-number-len+in_ok-add_merged, else-number-len}

pub loop-at-preserved : goal.loop-at-preserved
loop-at-preserved c =
    let standings = c.args.standings.now in
    let numbers = c.args.numbers.now in
    let at = c.loop-at.at in
    let number = get_or numbers at 0 in
    let items = c.as_slice-number-items.ensures in
    let within : at < length numbers = rw items at c.loop-at-test.true in
    let read : number ≡ get_or numbers at number = get_or_default numbers at 0 number within in
    let count = c.len.ensures in
    let read_item : get_or c.as_slice-number-items.result.now at 0 ≡ number = ap (λ ns. get_or ns at 0) items in
    record {
      merged = elim c.if-number-len.branch [
        | then-number-len+in_ok-add_merged w ↦
            let is = w.index-standings-at.is in
            let first_is : w.index-standings-at.result ≡ get_or standings at w.index-standings-at.result = rw c.as_slice-standings.ensures at is in
            let new : number ≡ length c.loop-at.merged.clocks = sym read_item ∙ w.if-number-len.true ∙ count in
            subst (λ (m : Merged). MergedSoFar standings numbers (at + 1) m) (sym w.merged-is)
            (new_step standings numbers c.in_ok-own.own.keys at number w.index-standings-at.result c.loop-at.merged w.add_merged.new.merged
            c.requires.beside within read first_is c.in_ok-own.ensures new w.in_ok-add_merged.ensures c.loop-at.invariant.merged)
        | else-number-len w ↦
            let other : number ≢ length c.loop-at.merged.clocks = λ e. w.if-number-len.false (read_item ∙ e ∙ sym count) in
            subst (λ (m : Merged). MergedSoFar standings numbers (at + 1) m) (sym w.merged-is)
            (known_step standings numbers at number c.loop-at.merged within read other c.loop-at.invariant.merged)
      ];
      few = elim c.if-number-len.branch [
        | then-number-len+in_ok-add_merged w ↦
            subst (λ (m : Merged). length m.clocks ≤ at + 1) (sym w.merged-is) (rw w.in_ok-add_merged.ensures.clocks (grind (arith, common_steps, c.loop-at.invariant.few)))
        | else-number-len w ↦
            subst (λ (m : Merged). length m.clocks ≤ at + 1) (sym w.merged-is) (omega (arith, c.loop-at.invariant.few))
      ];
    }

pub loop-at-init : goal.loop-at-init
loop-at-init c = record {
  merged = nothing_merged c.args.standings.now c.args.numbers.now _ c.new.ensures c.new-2.ensures c.new-3.ensures.empty c.requires.rises;
  few = rw c.new.ensures (omega arith);
}

pub returns-clause-merged : goal.returns-clause-merged
returns-clause-merged c =
    let done : length c.args.numbers.now ≤ c.loop-at.at = rw c.as_slice-number-items.ensures at c.loop-at-test.false in
    merged_done c.args.standings.now c.args.numbers.now c.loop-at.at c.loop-at.merged done c.loop-at.invariant.merged
