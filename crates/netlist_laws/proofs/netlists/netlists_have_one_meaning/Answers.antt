use Rattle.netlist_laws.proofs.NetlistMeans.{netlist_some}
use Rattle.netlist_laws.proofs.OneNetlist.{netlist_once}
use Rattle.netlist_laws.proofs.netlists.netlists_have_one_meaning.Goals as goal

pub returns-clause-some : goal.returns-clause-some
returns-clause-some c = λ bytes. netlist_some bytes

pub returns-clause-one : goal.returns-clause-one
returns-clause-one c = λ bytes one other h k. netlist_once bytes one other h k
