use Rattle.std.proofs.Common.{◌≤◌, ◌<◌, ℕ, length, sym, ◌∙◌, ap, subst}
use Rattle.std.proofs.lemmas.List.Elements.{All-nil}
use Rattle.std.specs.List.{All}
use Rattle.flat_design.proofs.CycleFacts.{lasts_within}
use Rattle.flat_design.proofs.drivers.cycles.Components.new.Goals as goal

pub returns : goal.returns
returns c =
    let table = c.args.table.now in
    let last = c.in_ok-copied.ensures ∙ c.as_slice.ensures in
    record {
      numbers = sym c.in_ok-vec.field-0.ok.0 ∙ (c.in_ok-vec.ensures.len ∙ c.len-nets.ensures);
      count = ap length last;
      last = subst (All (λ (at : ℕ). at ≤ length table.rows.now)) (sym last) (lasts_within table c.requires);
      path = subst (All (λ (net : ℕ). net < length table.last)) (sym c.in_ok-with_capacity.ensures.items) (All-nil (λ (net : ℕ). net < length table.last));
      waiting = subst (All (λ (net : ℕ). net < length table.last)) (sym c.in_ok-with_capacity-2.ensures.items) (All-nil (λ (net : ℕ). net < length table.last));
    }
