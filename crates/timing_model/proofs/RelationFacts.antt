-- Two edges have one relation.
use Rattle.std.proofs.Common.{◌≡◌, ℤ, ◌∙◌, ap, arith}
use Rattle.std.proofs.lemmas.Int.{ints}
use Rattle.timing_types.specs.declared.edge_times.Relation.{Relation}
use Rattle.timing_model.specs.Relation.{IsRelation, IsSetup, IsHold}

pub same_setup : (a p b q d e : ℤ) → IsSetup a p b q d → IsSetup a p b q e → d ≡ e
same_setup a p b q d e g h = let le = g.2 e h.0 h.1 in let ge = h.2 d g.0 g.1 in omega (arith, ints)

pub same_hold : (a p b q d e : ℤ) → IsHold a p b q d → IsHold a p b q e → d ≡ e
same_hold a p b q d e g h = let ge = g.2 e h.0 h.1 in let le = h.2 d g.0 g.1 in omega (arith, ints)

pub same_relation : (a p b q : ℤ) (r s : Relation) → IsRelation a p b q r → IsRelation a p b q s → r ≡ s
same_relation a p b q r s g h =
    let with_setup : ℤ → Relation = λ d. record { setup = d; hold = r.hold } in
    let with_hold : ℤ → Relation = λ d. record { setup = s.setup; hold = d } in
    ap with_setup (same_setup a p b q r.setup s.setup g.setup h.setup) ∙ ap with_hold (same_hold a p b q r.hold s.hold g.hold h.hold)
