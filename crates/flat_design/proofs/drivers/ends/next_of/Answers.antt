use Rattle.std.proofs.Common.{ℕ, [], length, sym, subst}
use Rattle.flat_design.specs.Sources.{IsDriverWithin}
use Rattle.flat_design.proofs.EndFacts.{driven_within}
use Rattle.flat_design.proofs.drivers.ends.next_of.Goals as goal

pub next_by-requires : goal.next_by-requires
next_by-requires c =
    let table = c.args.table.now in
    let source = c.in-Some.source in
    subst (λ (n : ℕ). IsDriverWithin n 4294967295 source) (sym c.requires.count)
    (driven_within (length table.last) 4294967295 table.rows.now c.args.net source [] c.requires.within (c.in-Some.ensures (c.requires.one c.args.net)))
