-- What was read can be flattened, by the laws of both readers.
use Rattle.design_rows.proofs.shown.show_design.Goals as goal

pub flatten-requires : goal.flatten-requires
flatten-requires c =
    let netlist = c.read_netlists_can_be_flattened.ensures c.as_bytes-2.result.now c.in-Ok-read_verilog.modules c.in-Ok-read_verilog.ensures in
    let library = c.read_libraries_can_be_used.ensures c.as_bytes.result.now c.in-Ok.library c.in-Ok.ensures in
    (netlist, library)
