-- The modules of tokens, keyword by keyword.
use Rattle.std.proofs.Common.{◌≡◌, ◌∙◌, ◌+◌, ◌++◌, ◌∷◌, ℕ, Bool, true, false, List, [], drop, take, not, suc, refl, sym, ap, subst, arith}
use Rattle.std.specs.Prelude.{if◌then◌else◌}
use Rattle.std.proofs.lemmas.List.Elements.{All-from_recursion}
use Rattle.std.specs.List.{All, AllByRecursion, before_first, flat_map, onto_first, prefix_len, slice_split}
use Rattle.source_types.specs.declared.verilog_tokens.VerilogToken.TheVariants as kind
use Rattle.netlist_model.specs.VerilogStatements as grammar
use Rattle.netlist_model.specs.VerilogSyntax as syntax
use Rattle.netlist_model.specs.VerilogTokens.{Token}
use Rattle.verilog_net.specs.declared.checking.names.Named.{Named}
use Rattle.verilog_net.specs.Modules.{modules_from, written_seen}
use Rattle.verilog_net.specs.Names.{IsNamed, IsTied, declarations_of}

-- ---- what keywords part

abbrev marks : Token → Bool
marks = syntax.is kind.Module

onto_drops : (x : Token) (parts : List (List Token)) → drop 1 (onto_first x parts) ≡ drop 1 parts
onto_drops x [] = refl
onto_drops x (part ∷ parts) = refl

-- the first part is what stands before the first mark
onto_front : (x : Token) (front : List Token) (parts : List (List Token)) → parts ≡ front ∷ drop 1 parts → onto_first x parts ≡ (x ∷ front) ∷ drop 1 (onto_first x parts)
onto_front x front parts is = ap (onto_first x) is ∙ ap (λ rest. (x ∷ front) ∷ rest) (sym (onto_drops x parts))

one_taken : (x : Token) (xs : List Token) (n : ℕ) → take (1 + n) (x ∷ xs) ≡ x ∷ take n xs
one_taken x xs n = ap (λ k. take k (x ∷ xs)) (one_more n) where
  one_more : (m : ℕ) → 1 + m ≡ suc m
  one_more m = omega arith

split_front : (p : Token → Bool) (xs : List Token) → slice_split p xs ≡ before_first p xs ∷ drop 1 (slice_split p xs)
split_front p [] = refl
split_front p (x ∷ xs) = step (split_front p xs) (p x) refl where
  step : slice_split p xs ≡ before_first p xs ∷ drop 1 (slice_split p xs) → (t : Bool) → p x ≡ t
      → slice_split p (x ∷ xs) ≡ before_first p (x ∷ xs) ∷ drop 1 (slice_split p (x ∷ xs))
  step rest true e = rw e refl
  step rest false e = rw e (onto_front x (before_first p xs) (slice_split p xs) rest
      ∙ ap (λ front. front ∷ drop 1 (onto_first x (slice_split p xs))) (sym (one_taken x xs (prefix_len (λ token. not (p token)) xs))))

pub modules_are : (xs : List Token) → grammar.modules_of xs ≡ modules_from xs
modules_are [] = refl
modules_are (x ∷ xs) = step (modules_are xs) (marks x) refl where
  step : grammar.modules_of xs ≡ modules_from xs → (t : Bool) → marks x ≡ t
      → flat_map grammar.module_of (drop 1 (slice_split marks (x ∷ xs))) ≡ (if marks x then grammar.module_of (before_first marks xs) else []) ++ modules_from xs
  step rest true e = rw e (ap (flat_map grammar.module_of) (split_front marks xs) ∙ ap (λ ms. grammar.module_of (before_first marks xs) ++ ms) rest)
  step rest false e = rw e (ap (flat_map grammar.module_of) (onto_drops x (slice_split marks xs)) ∙ rest)

-- ---- modules with their declarations

pub none_named : (found : List Named) → found ≡ [] → AllByRecursion IsNamed found
none_named [] none = tt
none_named (m ∷ ms) none = cc

pub one_named : (found more : List Named) (m : Named) → AllByRecursion IsNamed found → more ≡ found ++ m ∷ [] → IsTied m.names → declarations_of m.names ≡ grammar.declarations (written_seen m.written) → AllByRecursion IsNamed more
one_named found more m all is tied same = subst (λ (ms : List Named). AllByRecursion IsNamed ms) (sym is) (after found all) where
  after : (ms : List Named) → AllByRecursion IsNamed ms → AllByRecursion IsNamed (ms ++ m ∷ [])
  after [] h = ((tied, same), tt)
  after (x ∷ xs) h = (h.0, after xs h.1)

pub all_named : (found : List Named) → AllByRecursion IsNamed found → All IsNamed found
all_named found h = All-from_recursion IsNamed found h
