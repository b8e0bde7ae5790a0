-- Each of the two searches counts, in a list that is sorted by what it compares.
use Rattle.std.proofs.Common.{◌≡◌, arith, rules}
use Rattle.std.specs.List.{count_by}
use Rattle.std.specs.Ordering.{is_lt}
use Rattle.std.proofs.lemmas.List.Sorted.{IsPartitionPoint-from_clause}
use Rattle.clock_map.proofs.RankLists.{standing_cmp, definition_cmp, standing_total, definition_total, parted, sorted_by_definition, point_counts, rank_splits}
use Rattle.clock_map.proofs.ranks.rank_in.Goals as goal
use Rattle.clock_map.proofs.ranks.rank_in.Goals.{After-partition_point-of_less}

counted_ahead : (c : After-partition_point-of_less)
    → c.partition_point-ahead.result ≡ count_by (λ y. is_lt (standing_cmp y c.args.standing.now)) c.args.sorted.now
counted_ahead c =
    let xs = c.args.sorted.now in
    let x = c.args.standing.now in
    let clauses = c.partition_point-ahead.ensures in
    let point = IsPartitionPoint-from_clause (λ y. is_lt (standing_cmp y x)) xs _ clauses.partitioned
    (parted standing_total (λ y. y) xs x c.requires) (λ a r q k. search rules) in
    point_counts _ xs _ clauses.bound (λ k d within. point.0 k d (omega arith) within) (λ k d from within. point.1 k d from within)

counted_less : (c : After-partition_point-of_less)
    → c.partition_point-of_less.result ≡ count_by (λ y. is_lt (definition_cmp y.definition c.args.standing.now.definition)) c.args.sorted.now
counted_less c =
    let xs = c.args.sorted.now in
    let x = c.args.standing.now in
    let clauses = c.partition_point-of_less.ensures in
    let point = IsPartitionPoint-from_clause (λ y. is_lt (definition_cmp y.definition x.definition)) xs _ clauses.partitioned
    (parted definition_total (λ y. y.definition) xs x.definition (sorted_by_definition xs c.requires)) (λ a r q k. search rules) in
    point_counts _ xs _ clauses.bound (λ k d within. point.0 k d (omega arith) within) (λ k d from within. point.1 k d from within)

pub overflow_sub-result : goal.overflow_sub-result
overflow_sub-result c = omega (arith, counted_ahead c, counted_less c, rank_splits c.args.sorted.now c.args.standing.now)

pub returns : goal.returns
returns c = omega (arith, counted_ahead c, counted_less c, rank_splits c.args.sorted.now c.args.standing.now)
