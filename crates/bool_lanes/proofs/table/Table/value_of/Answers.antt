use Rattle.std.proofs.Common.{◌≤◌, ◌^◌, arith}
use Rattle.bool_lanes.proofs.Completions.{few_completions}
use Rattle.bool_lanes.proofs.table.Table.value_of.Goals as goal

pub bounds-self-inside-from : goal.bounds-self-inside-from
bounds-self-inside-from c =
    let few : 2 ^ c.self.inside.inputs ≤ 1024 = few_completions c.self.inside.inputs c.self.invariant in
    grind (arith, few, c.self.view_is, c.requires, c.from.ensures)
