use Rattle.std.proofs.Common.{ℕ, ◌≡◌, ◌*◌, ◌+◌, ◌-◌, ◌^◌, ◌<◌, ◌≤◌, min, arith}
use Rattle.sdc_base.specs.Number.{nearest}
use Rattle.sdc_base.proofs.NearestFacts.{in_range_ok, in_range_err, nearest_raised, nearest_lowered}
use Rattle.sdc_base.proofs.rounding.scale.Goals as goal
use Rattle.sdc_base.proofs.rounding.scale.Goals.{then-lowered-raised, else-lowered-raised}

-- what the two ways of scaling give, up to the limit
raises : (d r l x g : ℕ) → l ≤ r → g ≡ min (d * 10 ^ (r - l)) (10 ^ 24) → x ≡ g → min x (10 ^ 24) ≡ min (nearest (d * 10 ^ r) (10 ^ l)) (10 ^ 24)
raises d r l x g h e f = let n = nearest_raised d r l h in omega arith

lowers : (d r l x g : ℕ) → r < l → g ≡ nearest d (10 ^ (l - r)) → x ≡ g → min x (10 ^ 24) ≡ min (nearest (d * 10 ^ r) (10 ^ l)) (10 ^ 24)
lowers d r l x g h e f = let n = nearest_lowered d r l (omega arith) in omega arith

pub returns-then-magnitude-lt-LIMIT : goal.returns-then-magnitude-lt-LIMIT
returns-then-magnitude-lt-LIMIT c =
    let r = 9 + c.args.power.raised in
    let l = c.args.decimals + c.args.power.lowered in
    let m = nearest (c.args.digits * 10 ^ r) (10 ^ l) in
    elim c.if-lowered-raised.branch [
      | then-lowered-raised w ↦ in_range_ok m c.if-lowered-raised.magnitude
          (raises c.args.digits r l _ _ w.if-lowered-raised.true w.grown-magnitude.ensures w.magnitude-is) c.if-magnitude-lt-LIMIT.true
      | else-lowered-raised w ↦ in_range_ok m c.if-lowered-raised.magnitude
          (lowers c.args.digits r l _ _ w.if-lowered-raised.false w.shrunk-magnitude.ensures w.magnitude-is) c.if-magnitude-lt-LIMIT.true
    ]

pub returns-else-magnitude-lt-LIMIT : goal.returns-else-magnitude-lt-LIMIT
returns-else-magnitude-lt-LIMIT c =
    let r = 9 + c.args.power.raised in
    let l = c.args.decimals + c.args.power.lowered in
    let m = nearest (c.args.digits * 10 ^ r) (10 ^ l) in
    elim c.if-lowered-raised.branch [
      | then-lowered-raised w ↦ in_range_err m c.if-lowered-raised.magnitude
          (raises c.args.digits r l _ _ w.if-lowered-raised.true w.grown-magnitude.ensures w.magnitude-is) c.if-magnitude-lt-LIMIT.false
      | else-lowered-raised w ↦ in_range_err m c.if-lowered-raised.magnitude
          (lowers c.args.digits r l _ _ w.if-lowered-raised.false w.shrunk-magnitude.ensures w.magnitude-is) c.if-magnitude-lt-LIMIT.false
    ]
