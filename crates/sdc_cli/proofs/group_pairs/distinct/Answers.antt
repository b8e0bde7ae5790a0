use Rattle.sdc_cli.proofs.DistinctPlaces.{HasSame-distinct}
use Rattle.sdc_cli.proofs.group_pairs.distinct.Goals as goal

pub returns : goal.returns
returns c =
    HasSame-distinct c.args.places.now c.in_ok-once.once.items c.sort_unstable.new.self.items c.dedup.new.self.items
    c.in_ok-once.ensures.items c.sort_unstable.ensures.permutation c.dedup.ensures.filtered
