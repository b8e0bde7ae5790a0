-- Modules as they are written: what their parts come from.
use Rattle.netlist_laws.proofs.LeftSides.{all_assign_nets, AllAssignNets}
use Rattle.text_model.proofs.Members.{In, in_either}
use Rattle.netlist_laws.proofs.NetDeclarations.{header_inout, statement_inout}
use Rattle.netlist_model.specs.VerilogStatements.{declared_by, module_of, modules_of, Statement, statement_of, Written, written_by}
use Rattle.netlist_model.specs.VerilogSyntax.{Declared, header_declares, header_lists, is, port}
use Rattle.netlist_model.specs.VerilogTokens.{Token}
use Rattle.pin_types.specs.declared.library_cells.Direction.TheVariants.{Other}
use Rattle.source_types.specs.declared.verilog_tokens.VerilogToken.TheVariants as kind
use Rattle.std.proofs.Common.{◌++◌, ◌∙◌, ◌∷◌, ◌≡◌, [], Bool, drop, false, inl, inr, List, map, refl, subst, sym, true}
use Rattle.std.specs.List.{flat_map, onto_first, slice_split}
use Rattle.std.specs.Prelude.{◌⊎◌, filter, if◌then◌else◌}

-- ---- parts of tokens

onto_in : (x t : Token) (piece : List Token) (pieces : List (List Token)) → In piece (onto_first x pieces) → In t piece → (t ≡ x) ⊎ ((p : List Token) × In p pieces × In t p)
onto_in x t piece [] (inl e) h = elim (subst (λ (ps : List Token). In t ps) e h) [ inl same ↦ inl same | inr none ↦ absurd none ]
onto_in x t piece [] (inr none) h = absurd none
onto_in x t piece (first ∷ pieces) (inl e) h = elim (subst (λ (ps : List Token). In t ps) e h) [ inl same ↦ inl same | inr at ↦ inr (first, inl refl, at) ]
onto_in x t piece (first ∷ pieces) (inr later) h = inr (piece, inr later, h)

split_in : (test : Token → Bool) (tokens : List Token) (t : Token) (piece : List Token) → In piece (slice_split test tokens) → In t piece → In t tokens
split_in test [] t piece (inl e) h = subst (λ (ps : List Token). In t ps) e h
split_in test [] t piece (inr none) h = absurd none
split_in test (x ∷ tokens) t piece at h = cut (test x) (λ p here inside. split_in test tokens t p here inside) at where
  cut : (b : Bool) → ((p : List Token) → In p (slice_split test tokens) → In t p → In t tokens) → In piece (if b then [] ∷ slice_split test tokens else onto_first x (slice_split test tokens)) → In t (x ∷ tokens)
  cut true rest (inl e) = absurd (subst (λ (ps : List Token). In t ps) e h)
  cut true rest (inr later) = inr (rest piece later h)
  cut false rest at = elim (onto_in x t piece (slice_split test tokens) at h) [ inl same ↦ inl same | inr more ↦ inr (rest more.0 more.1 more.2) ]

filter_in : (test : Token → Bool) (tokens : List Token) (t : Token) → In t tokens → test t ≡ true → filter test tokens ≡ [] → ⊥
filter_in test [] t h passes none = h
filter_in test (x ∷ tokens) t (inl e) passes none = first (test x) (subst (λ (u : Token). test u ≡ true) e passes) none where
  first : (b : Bool) → b ≡ true → (if b then x ∷ filter test tokens else filter test tokens) ≡ [] → ⊥
  first true h none = cc
  first false h none = cc
filter_in test (x ∷ tokens) t (inr h) passes none = later (test x) (filter_in test tokens t h passes) none where
  later : (b : Bool) → (filter test tokens ≡ [] → ⊥) → (if b then x ∷ filter test tokens else filter test tokens) ≡ [] → ⊥
  later true rest none = cc
  later false rest none = rest none

-- ---- a module of a text

pub record IsFromText (m : Written) : Type 0 where
  pub tokens : List Token
  pub header_tokens : List Token
  pub parts : List (List Token)
  pub split : slice_split (is kind.Semicolon) tokens ≡ (m.name ∷ header_tokens) ∷ parts
  pub header : m.header ≡ header_declares header_tokens
  pub listed : m.listed ≡ header_lists header_tokens
  pub statements : m.statements ≡ map statement_of parts
  pub inouts : m.inouts ≡ filter (is kind.Inout) tokens

from_parts : (tokens : List Token) (pieces : List (List Token)) (m : Written) → slice_split (is kind.Semicolon) tokens ≡ pieces → In m (written_by pieces tokens) → IsFromText m
from_parts tokens [] m e h = absurd h
from_parts tokens ([] ∷ parts) m e h = absurd h
from_parts tokens ((name ∷ header) ∷ parts) m e (inr none) = absurd none
from_parts tokens ((name ∷ header) ∷ parts) m e (inl same) =
    subst (λ (w : Written). IsFromText w) (sym same) (record {
      tokens = tokens;
      header_tokens = header;
      parts = parts;
      split = e;
      header = refl;
      listed = refl;
      statements = refl;
      inouts = refl;
    })

from_modules : (chunks : List (List Token)) (m : Written) → In m (flat_map module_of chunks) → IsFromText m
from_modules [] m h = absurd h
from_modules (chunk ∷ chunks) m h =
    elim (in_either m (module_of chunk) (flat_map module_of chunks) h) [
      | inl now ↦ from_parts chunk (slice_split (is kind.Semicolon) chunk) m refl now
      | inr later ↦ from_modules chunks m later
    ]

pub from_text : (tokens : List Token) (m : Written) → In m (modules_of tokens) → IsFromText m
from_text tokens m h = from_modules (drop 1 (slice_split (is kind.Module) tokens)) m h

pub all_nets : (m : Written) → IsFromText m → AllAssignNets m.statements
all_nets m f = subst (λ (ss : List Statement). AllAssignNets ss) (sym f.statements) (all_assign_nets f.parts)

declared_part : (parts : List (List Token)) (d : Declared) → In d (flat_map declared_by (map statement_of parts)) → (p : List Token) × In p parts × In d (declared_by (statement_of p))
declared_part [] d h = absurd h
declared_part (p ∷ parts) d h =
    elim (in_either d (declared_by (statement_of p)) (flat_map declared_by (map statement_of parts)) h) [
      | inl now ↦ (p, inl refl, now)
      | inr later ↦ let more = declared_part parts d later in (more.0, inr more.1, more.2)
    ]

-- without `inout` no declaration is one
pub no_inout : (m : Written) → IsFromText m → m.inouts ≡ [] → (d : Declared) → In d (m.header ++ flat_map declared_by m.statements) → d.role ≡ port Other → ⊥
no_inout m f none d h e =
    let no : filter (is kind.Inout) f.tokens ≡ [] = sym f.inouts ∙ none in
    elim (in_either d m.header (flat_map declared_by m.statements) h) [
      | inl now ↦
          let at = header_inout f.header_tokens d (subst (λ (ds : List Declared). In d ds) f.header now) e in
          filter_in (is kind.Inout) f.tokens at.0
          (split_in (is kind.Semicolon) f.tokens at.0 (m.name ∷ f.header_tokens) (subst (λ (ps : List (List Token)). In (m.name ∷ f.header_tokens) ps) (sym f.split) (inl refl)) (inr at.1))
          at.2 no
      | inr later ↦
          let where_at = declared_part f.parts d (subst (λ (ss : List Statement). In d (flat_map declared_by ss)) f.statements later) in
          let at = statement_inout where_at.0 d where_at.2 e in
          filter_in (is kind.Inout) f.tokens at.0
          (split_in (is kind.Semicolon) f.tokens at.0 where_at.0 (subst (λ (ps : List (List Token)). In where_at.0 ps) (sym f.split) (inr where_at.1)) at.1)
          at.2 no
    ]
