use Rattle.std.proofs.Common.{◌≡◌, drop}
use Rattle.mode_model.specs.ClockCommands.{in_order, put_in_order}
use Rattle.sdc_cli.proofs.clock_queries.in_order.Given as goal

-- the places so far, with those that are left put among them, are all places in order
abbrev pub invariant-loop-place : goal.invariant-loop-place
invariant-loop-place l = put_in_order l.rising.keys (drop l.place-index l.places) ≡ in_order l.places
