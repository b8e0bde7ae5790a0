use Rattle.std.proofs.Common.{◌≡◌, List, ℕ, Bool, length, slice_get, Some, refl, ◌∙◌, ap, subst, arith}
use Rattle.std.proofs.lemmas.List.{length_push, map-id}
use Rattle.std.proofs.lemmas.Option.{slice_get_read, slice_get_within}
use Rattle.flat_design.specs.Names.{IsTable}
use Rattle.flat_design.proofs.RepeatFacts.{repeats_more}
use Rattle.flat_design.proofs.names.repeated.repeated.Goals as goal

pub loop-at-preserved : goal.loop-at-preserved
loop-at-preserved c =
    let names = c.args.names.now in
    let at = c.loop-at.at in
    let name = c.index-names-at.result in
    let here : slice_get names at ≡ Some name = slice_get_read names (length names) at name refl c.loop-at-test.true c.index-names-at.is in
    let table : IsTable c.in_ok-places.places names = subst (λ (ns : List (List ℕ)). IsTable c.in_ok-places.places ns) (map-id names) c.in_ok-places.ensures in
    let more = length_push c.loop-at.repeats c.is_repeated.result in
    record {
      count = ap length c.in_ok-push.ensures.ok ∙ omega (arith, more, c.loop-at.invariant.count);
      each = λ k n low there.
          ap (λ (xs : List Bool). slice_get xs k) c.in_ok-push.ensures.ok
          ∙ repeats_more names c.loop-at.repeats at name c.is_repeated.result c.loop-at.invariant.count here (c.is_repeated.ensures names table here)
          c.loop-at.invariant.each k n low there;
    }

pub returns : goal.returns
returns c = record {
  count = omega (arith, c.loop-at.invariant.count, c.loop-at-test.false, c.loop-at.auto.at-end);
  each = λ place name at. c.loop-at.invariant.each place name
      (let low = slice_get_within c.args.names.now place name at in omega (arith, low, c.loop-at-test.false)) at;
}
