use Rattle.netlist_laws.proofs.ReadNetlists.{netlist_fine}
use Rattle.netlist_laws.proofs.netlists.read_netlists_can_be_flattened.Goals as goal

pub returns : goal.returns
returns c = λ bytes modules. netlist_fine bytes modules
