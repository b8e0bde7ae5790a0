use Rattle.sdc_print.specs.Added.{added, Overflows}
use Rattle.sdc_print.proofs.AddedFacts.{refused}
use Rattle.sdc_print.proofs.printing.length_with_group.Goals as goal

pub unreachable-requires : goal.unreachable-requires
unfolding added
unreachable-requires c = cc (c.in_ok-push_group.ensures.adds, c.in-Bytes.is)

pub returns-clause-counts : goal.returns-clause-counts
unfolding added
returns-clause-counts c =
    let pushed = rw (c.as_bytes.ensures, c.as_slice.ensures) at c.in_ok-push_group.ensures.adds in
    cc (pushed, c.in-Count.is)

pub returns-in_err-push_group-clause-limit : goal.returns-in_err-push_group-clause-limit
unfolding added Overflows
returns-in_err-push_group-clause-limit c =
    refused _ (rw (c.as_bytes.ensures, c.as_slice.ensures) at c.in_err-push_group.ensures.limit)
