-- The words of an `if`, one by one.
use Rattle.std.proofs.Common.{◌≡◌, ◌++◌, ℕ, true, false, List, [], ◌∷◌, Option, Some, None, refl, sym, ap, ◌∙◌, append_assoc, append-nil}
use Rattle.std.specs.Option.{option_map}
use Rattle.source_types.specs.declared.built_ins.Branch.{Branch}
use Rattle.source_types.specs.declared.built_ins.Branches.{Branches}
use Rattle.tcl_model.specs.Branches as spec
use Rattle.tcl_eval.specs.declared.commands.branches.Expects.TheVariants as expects
use Rattle.tcl_eval.specs.BranchesRead.{Steps, in_front, said_after}

pub nothing_read : (o : Option Branches) → option_map (in_front []) o ≡ o
nothing_read None = refl
nothing_read (Some said) = refl

one_branch : (read more : List Branch) (branch : Branch) (o : Option Branches) → more ≡ read ++ branch ∷ []
    → option_map (in_front read) (option_map (spec.with_branch branch.condition branch.body) o) ≡ option_map (in_front more) o
one_branch read more branch None e = refl
one_branch read more branch (Some said) e =
    ap (λ all. Some (record { branches = all; otherwise = said.otherwise }))
    (sym (append_assoc read (branch ∷ []) said.branches) ∙ ap (λ front. front ++ said.branches) (sym e))

pub condition_read : (read : List Branch) (word copy : List ℕ) → copy ≡ word → Steps read expects.Condition word (Some (expects.Then copy)) read
condition_read read word copy e = λ words. ap (λ w. said_after read (expects.Then w) words) (sym e)

pub then_read : (read : List Branch) (condition word : List ℕ) → spec.is_then word ≡ true → Steps read (expects.Then condition) word (Some (expects.Body condition)) read
then_read read condition word e = λ words. rw e refl

pub body_after_condition : (read more : List Branch) (condition word copy : List ℕ) → copy ≡ word → spec.is_then word ≡ false → more ≡ read ++ record { condition = condition; body = copy } ∷ []
    → Steps read (expects.Then condition) word (Some expects.After) more
body_after_condition read more condition word copy same e pushed = λ words.
    let made : more ≡ read ++ record { condition = condition; body = word } ∷ [] = pushed ∙ ap (λ w. read ++ record { condition = condition; body = w } ∷ []) same in
    rw e (one_branch read more (record { condition = condition; body = word }) (spec.branches_from spec.branch_after words) made)

pub body_read : (read more : List Branch) (condition word copy : List ℕ) → copy ≡ word → more ≡ read ++ record { condition = condition; body = copy } ∷ []
    → Steps read (expects.Body condition) word (Some expects.After) more
body_read read more condition word copy same pushed = λ words.
    let made : more ≡ read ++ record { condition = condition; body = word } ∷ [] = pushed ∙ ap (λ w. read ++ record { condition = condition; body = w } ∷ []) same in
    one_branch read more (record { condition = condition; body = word }) (spec.branches_from spec.branch_after words) made

pub elseif_read : (word : List ℕ) (read : List Branch) → spec.is_elseif word ≡ true → Steps read expects.After word (Some expects.Condition) read
elseif_read word read e = λ words. rw e refl

pub else_read : (word : List ℕ) (read : List Branch) → spec.is_elseif word ≡ false → spec.is_else word ≡ true → Steps read expects.After word (Some expects.Last) read
else_read word read e f = λ words. rw (e, f) refl

pub last_after : (word copy : List ℕ) (read : List Branch) → copy ≡ word → spec.is_elseif word ≡ false → spec.is_else word ≡ false → Steps read expects.After word (Some (expects.Nothing copy)) read
last_after word copy read same e f = λ words. rw (e, f) (ap (λ w. said_after read (expects.Nothing w) words) (sym same))

pub last_read : (read : List Branch) (word copy : List ℕ) → copy ≡ word → Steps read expects.Last word (Some (expects.Nothing copy)) read
last_read read word copy same = λ words. ap (λ w. said_after read (expects.Nothing w) words) (sym same)

pub nothing_after : (read new : List Branch) (body word : List ℕ) → Steps read (expects.Nothing body) word None new
nothing_after read new body word = λ words. refl

pub all_after : (read : List Branch) → said_after read expects.After [] ≡ Some (record { branches = read; otherwise = None })
all_after read = ap (λ all. Some (record { branches = all; otherwise = None })) (append-nil read)

pub all_last : (read : List Branch) (body : List ℕ) → said_after read (expects.Nothing body) [] ≡ Some (record { branches = read; otherwise = Some body })
all_last read body = ap (λ all. Some (record { branches = all; otherwise = Some body })) (append-nil read)
