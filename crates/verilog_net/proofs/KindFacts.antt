-- The kinds of tokens in a row, token by token.
use Rattle.std.proofs.Common.{◌≡◌, ◌∙◌, ◌+◌, ◌≤◌, ◌++◌, ◌∷◌, ℕ, List, [], String, append_assoc, drop, refl, sym, ap, arith}
use Rattle.indexmap.specs.IndexSet.{IndexSet}
use Rattle.source_types.specs.declared.verilog_tokens.VerilogToken.{VerilogToken}
use Rattle.source_types.specs.declared.verilog_tokens.VerilogToken.TheVariants as kind
use Rattle.netlist_model.specs.VerilogKinds as grammar
use Rattle.verilog_net.specs.declared.syntax.contexts.Part.{Part}
use Rattle.verilog_net.specs.declared.syntax.contexts.Part.TheVariants.{Statement}
use Rattle.verilog_net.specs.declared.lexing.tokens.Token.{Token}
use Rattle.verilog_net.proofs.TokenFacts.{append_none}
use Rattle.verilog_net.specs.Contexts.{HasNames, part_seen}
use Rattle.verilog_net.specs.Seen.{token_seen, tokens_seen}

-- the token that stands where there is none
abbrev pub no_token : Token
no_token = record { at = 0; line = 0; kind = kind.Module; text = record { ref_ptr = (0, 0); now = [] } }

-- the kinds so far, with those that what stands before a place gives to the rest, are all
pub record KindsSoFar {A S : Type 0} (tokens : List Token) (at : ℕ) (kinds : List VerilogToken) (part : Part) (names : IndexSet (String A) S) (braces : ℕ) : Type 0 where
  pub listed : List (List ℕ)
  pub has : HasNames names listed
  pub few : braces ≤ at
  pub same : kinds ++ grammar.kinds_from (record { part = part_seen part; listed = listed; braces = braces }) (tokens_seen (drop at tokens)) ≡ grammar.kinds_of (tokens_seen tokens)

pub no_kinds : {A S : Type 0} (tokens : List Token) (names : IndexSet (String A) S) → HasNames names [] → KindsSoFar tokens 0 [] Statement names 0
no_kinds tokens names has = record { listed = []; has = has; few = omega arith; same = refl }

-- one more kind
pub one_kind : {A S : Type 0} (tokens rest : List Token) (token : Token) (at : ℕ) (kinds more : List VerilogToken) (part next : Part) (names then : IndexSet (String A) S) (braces braces_now : ℕ) (k : VerilogToken)
    → (so_far : KindsSoFar tokens at kinds part names braces) → drop at tokens ≡ token ∷ rest → drop (at + 1) tokens ≡ rest
    → more ≡ kinds ++ k ∷ []
    → ((listed : List (List ℕ)) → HasNames names listed → k ≡ grammar.kind_in (record { part = part_seen part; listed = listed; braces = braces }) token.text.now token.kind)
    → ((listed : List (List ℕ)) → HasNames names listed → HasNames then (grammar.listed_after (part_seen part) listed token.text.now token.kind))
    → part_seen next ≡ grammar.part_after (part_seen part) token.kind → braces_now ≡ grammar.braces_after braces token.kind → braces_now ≤ braces + 1
    → KindsSoFar tokens (at + 1) more next then braces_now
one_kind tokens rest token at kinds more part next names then braces braces_now k so_far here after is kind_is names_are part_is braces_are braces_few = record {
  listed = grammar.listed_after (part_seen part) so_far.listed token.text.now token.kind;
  has = names_are so_far.listed so_far.has;
  few = omega (arith, braces_few, so_far.few);
  same = step;
} where
  now : grammar.Context
  now = record { part = part_seen part; listed = so_far.listed; braces = braces }

  later : grammar.Context
  later = record { part = part_seen next; listed = grammar.listed_after (part_seen part) so_far.listed token.text.now token.kind; braces = braces_now }

  follows : later ≡ grammar.context_after now (token_seen token)
  follows = rw (part_is, braces_are) refl

  first : k ∷ grammar.kinds_from later (tokens_seen rest) ≡ grammar.kinds_from now (tokens_seen (token ∷ rest))
  first = ap (λ c. k ∷ grammar.kinds_from c (tokens_seen rest)) follows ∙ ap (λ j. j ∷ grammar.kinds_from (grammar.context_after now (token_seen token)) (tokens_seen rest)) (kind_is so_far.listed so_far.has)

  step : more ++ grammar.kinds_from later (tokens_seen (drop (at + 1) tokens)) ≡ grammar.kinds_of (tokens_seen tokens)
  step =
      ap (λ ts. more ++ grammar.kinds_from later (tokens_seen ts)) after
      ∙ (ap (λ ks. ks ++ grammar.kinds_from later (tokens_seen rest)) is
      ∙ (append_assoc kinds (k ∷ []) (grammar.kinds_from later (tokens_seen rest))
      ∙ (ap (λ ks. kinds ++ ks) first
      ∙ (ap (λ ts. kinds ++ grammar.kinds_from now (tokens_seen ts)) (sym here) ∙ so_far.same))))

-- all kinds
pub all_kinds : {A S : Type 0} (tokens : List Token) (at : ℕ) (kinds : List VerilogToken) (part : Part) (names : IndexSet (String A) S) (braces : ℕ)
    → KindsSoFar tokens at kinds part names braces → drop at tokens ≡ [] → kinds ≡ grammar.kinds_of (tokens_seen tokens)
all_kinds tokens at kinds part names braces so_far end =
    sym (append_none kinds) ∙ (ap (λ ts. kinds ++ grammar.kinds_from (record { part = part_seen part; listed = so_far.listed; braces = braces }) (tokens_seen ts)) (sym end) ∙ so_far.same)
