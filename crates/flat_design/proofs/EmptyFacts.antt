-- The design without a pin is well-formed, since nothing is in it.
use Rattle.std.proofs.Common.{◌≡◌, ℕ, true, List, [], inr, refl}
use Rattle.std.proofs.lemmas.List.Elements.{All-nil}
use Rattle.std.proofs.lemmas.Option.{none-some}
use Rattle.timing_types.specs.declared.designs.NetInfo.{NetInfo}
use Rattle.timing_types.specs.declared.designs.PinInfo.{PinInfo}
use Rattle.text_model.specs.Names.{AreGoodNames, is_good_name}
use Rattle.design_model.specs.WellFormedDesign.{IsDriver, IsWellFormedDesign}
use Rattle.flat_design.specs.EmptyDesign.{empty_design}

no_names : AreGoodNames []
no_names = (All-nil (λ (name : List ℕ). is_good_name name ≡ true), λ i j name at other. absurd (none-some name at))

pub empty_is_formed : IsWellFormedDesign empty_design
empty_is_formed = record {
  unit = inr (inr (inr refl));
  cells = λ place cell at. absurd (none-some cell at);
  pins = λ pin info at. absurd (none-some info at);
  drivers = All-nil (λ (info : PinInfo). IsDriver empty_design info.driver);
  sources = All-nil (λ (info : NetInfo). IsDriver empty_design info.source);
  pin_names = no_names;
  cell_names = no_names;
  net_names = no_names;
}
