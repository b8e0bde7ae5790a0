use Rattle.std.proofs.Common.{◌≡◌, ◌+◌, ◌*◌, ◌/◌, ◌++◌, ◌∷◌, [], ◌∙◌, ap, subst, arith, take, set, length-set}
use Rattle.std.proofs.lemmas.List.{take_more_set}
use Rattle.sdc_base.proofs.PlaceFacts.{Writes, Writes_more, Writes_end, Writes_full}
use Rattle.sdc_base.proofs.times.write_places.Goals as goal

pub loop-place-preserved : goal.loop-place-preserved
loop-place-preserved c =
    let l = c.loop-place in
    let digit = 48 + l.left * 10 / c.args.unit in
    let after = set l.bytes (22 + l.place) digit in
    let n : 22 + (l.place + 1) ≡ 22 + l.place + 1 = omega arith in
    let next : take (22 + (l.place + 1)) after ≡ take (22 + l.place) l.bytes ++ digit ∷ [] =
    ap (λ k. take k after) n ∙ take_more_set l.bytes (22 + l.place) digit (omega (arith, l.invariant.1)) in (
      Writes_more 6 (take 22 c.args.bytes.now) (take (22 + l.place) l.bytes) (take (22 + (l.place + 1)) after) l.place c.args.rest l.left c.args.unit
          (omega arith) (omega arith) next l.invariant.0,
      length-set l.bytes (22 + l.place) digit ∙ l.invariant.1,
    )

pub returns-then-left-eq0-clause-text : goal.returns-then-left-eq0-clause-text
returns-then-left-eq0-clause-text c =
    Writes_end 6 (take 22 c.args.bytes.now) (take (22 + c.loop-place.place) c.loop-place.bytes) c.loop-place.place c.args.rest c.loop-place.left c.args.unit
    (omega arith) c.loop-place.invariant.0

pub returns-clause-text : goal.returns-clause-text
returns-clause-text c =
    let l = c.loop-place in
    let i : l.place ≡ 6 = omega arith in
    Writes_full 6 (take 22 c.args.bytes.now) (take 28 l.bytes) c.args.rest l.left c.args.unit
    (subst (λ k. Writes 6 (take 22 c.args.bytes.now) (take (22 + k) l.bytes) k c.args.rest l.left c.args.unit) i l.invariant.0)
