use Rattle.std.proofs.Common.{◌≡◌, ◌+◌, ◌<◌, ℕ, suc, List, [], ◌∷◌, length, slice_get, slice_index_or, refl, sym, ◌∙◌, ap, subst, arith}
use Rattle.std.proofs.lemmas.List.{length-append, length-set}
use Rattle.flat_design.specs.declared.drivers.driver_edges.DriverEdge.{DriverEdge}
use Rattle.flat_design.specs.SourceTable.{IsLast, IsNetRow}
use Rattle.flat_design.proofs.SourceFacts.{before_more, lasts_more, own_last, within_at}
use Rattle.flat_design.proofs.drivers.source_table.source_table.Goals as goal

pub loop-place-preserved : goal.loop-place-preserved
loop-place-preserved c =
    let rows = c.args.rows.now in
    let place = c.loop-place.place in
    let row = c.item_at.result.now in
    let last = c.loop-place.last.items in
    let earlier = c.loop-place.earlier.items in
    let inside : row.to < length last =
    omega (arith, c.loop-place.invariant.size, within_at rows c.args.nets place row c.requires c.item_at.ensures) in
    let own : IsLast rows row.to place c.index.result.now =
    own_last rows last row.to place c.index.result.now inside c.index.ensures c.loop-place.invariant.lasts in
    let one : place + 1 ≡ suc place = omega arith in
    record {
      size = length-set last row.to (place + 1) ∙ c.loop-place.invariant.size;
      count = ap length c.in_ok-push.ensures.items ∙ (length-append earlier (c.index.result.now ∷ []) ∙ ap (λ (n : ℕ). n + 1) c.loop-place.invariant.count);
      lasts = lasts_more rows last place (place + 1) row one c.item_at.ensures inside c.loop-place.invariant.lasts;
      before = λ k at r here there.
          before_more rows earlier place c.index.result.now row c.loop-place.invariant.count c.item_at.ensures own c.loop-place.invariant.before k at r here
          (ap (λ (xs : List ℕ). slice_get xs k) (sym c.in_ok-push.ensures.items) ∙ there);
    }

pub returns : goal.returns
returns c =
    let rows = c.args.rows.now in
    let all : c.loop-place.place ≡ length rows = omega (arith, c.loop-place-test.false, c.loop-place.auto.place-end) in
    record {
      same = refl;
      size = ap length c.from.ensures ∙ c.loop-place.invariant.size;
      linked = record {
        within = subst (λ (n : ℕ). (k : ℕ) (d : DriverEdge) → k < length rows → IsNetRow n (slice_index_or rows k d))
            (sym (ap length c.from.ensures ∙ c.loop-place.invariant.size)) c.requires;
        count = ap length c.from-2.ensures ∙ (c.loop-place.invariant.count ∙ all);
        lasts = λ net at there.
            subst (λ (n : ℕ). IsLast rows net n at) all (c.loop-place.invariant.lasts net at (ap (λ (xs : List ℕ). slice_get xs net) (sym c.from.ensures) ∙ there));
        before = λ place at row here there.
            c.loop-place.invariant.before place at row here (ap (λ (xs : List ℕ). slice_get xs place) (sym c.from-2.ensures) ∙ there);
      };
    }
