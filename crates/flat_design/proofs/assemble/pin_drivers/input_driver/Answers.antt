use Rattle.std.proofs.Common.{List, Option, sym, subst}
use Rattle.std.specs.List.{All}
use Rattle.source_types.specs.declared.netlists.Bit.{Bit}
use Rattle.flat_design.specs.Connected.{shown}
use Rattle.flat_design.specs.Drivers.{HasBit}
use Rattle.flat_design.proofs.assemble.pin_drivers.input_driver.Goals as goal
use denote.Ref.{Bor}

pub first_driver-requires-clause-bits : goal.first_driver-requires-clause-bits
first_driver-requires-clause-bits c =
    subst (λ (xs : List Bit). All (HasBit c.args.design.now c.args.scope) xs) (sym c.as_slice.ensures)
    (subst (λ (o : Option (Bor (List Bit))). All (HasBit c.args.design.now c.args.scope) (shown o)) c.in-Some.is c.requires.bits)
