use Rattle.std.proofs.Common.{arith}
use Rattle.flat_design.proofs.NetFaults.{net_fails, net_passes, nets_pass}
use Rattle.flat_design.proofs.drivers.net_faults.check_nets.Goals as goal

pub returns-in-Some : goal.returns-in-Some
returns-in-Some c =
    net_fails c.args.design.now c.args.net_names.now c.args.table.now.rows.now c.loop-net.net c.line_of-line.result c.in-Some.kind c.in_ok-found.found
    c.requires.names c.requires.rows c.loop-net-test.true c.in-Some.is (λ name at. c.in_ok-found.ensures c.args.net_names.now name c.in_ok-marks.ensures at)
    c.line_of-line.ensures c.loop-net.invariant

pub loop-net-preserved : goal.loop-net-preserved
loop-net-preserved c =
    net_passes c.args.design.now c.args.net_names.now c.args.table.now.rows.now c.loop-net.net c.in_ok-found.found
    c.requires.names c.requires.rows c.loop-net-test.true c.in_default.is (λ name at. c.in_ok-found.ensures c.args.net_names.now name c.in_ok-marks.ensures at)
    c.loop-net.invariant

pub returns : goal.returns
returns c = nets_pass c.args.design.now c.args.net_names.now c.loop-net.net c.requires.names (omega (arith, c.loop-net-test.false)) c.loop-net.invariant
