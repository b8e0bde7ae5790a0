-- What a text means as a library, once its bytes are a text. This project's own words.
-- It is the part of the definitions' `ReadsLibrary` for bytes that are UTF-8.
use Rattle.std.specs.Prelude.{◌≡◌, ℕ, List, Result}
use Rattle.sdc_base.specs.declared.memory.At.{At}
use Rattle.source_types.specs.declared.kinds.LibKind.{LibKind}
use Rattle.source_types.specs.declared.libraries.Library.{Library}
use Rattle.library_model.specs.LibertyGrammar.{IsFormed}
use Rattle.library_model.specs.LibertyText.{read}
use Rattle.library_model.specs.LibertyTokens.{Token}

pub record ReadsText (text : List ℕ) (outcome : Result Library (At LibKind)) : Type 0 where
  pub formed : Result (List Token) ℕ
  pub is : IsFormed text formed
  pub gives : outcome ≡ read formed
