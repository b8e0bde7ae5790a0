use Rattle.std.proofs.Common.{◌∙◌, ap}
use Rattle.tcl_model.specs.Variables.{variable_in}
use Rattle.tcl_eval.proofs.VariableFacts.{found}
use Rattle.tcl_eval.proofs.running.variables.Variables.get.Goals as goal

pub returns : goal.returns
returns c = c.get.ensures.value ∙ (found c.self.inside.values.entries c.args.name.now ∙ ap (λ variables. variable_in variables c.args.name.now) c.self.view_is)
