-- In mode release a policy that denies calls outright has one kind of block.
use Rattle.std.proofs.Common.{◌≡◌, ℕ, ◌+◌, Bool, true, false, List, [], ◌∷◌, ◌++◌, map, Option, Some, None, refl, ap, subst, ◌∙◌, append_assoc, arith}
use Rattle.std.specs.Prelude.{◌==◌, ◌&&◌, ◌||◌, if◌then◌else◌, find, is_some, option_map}
use Rattle.std.specs.List.{AllByRecursion, list_any}
use Rattle.std.proofs.lemmas.List.{map-append}
use Rattle.cert_format.specs.declared.certificate.Mode.TheVariants.{Release}
use Rattle.conspec_tree.specs.declared.types.Kind.{Kind}
use Rattle.conspec_tree.specs.declared.types.Phase.{Phase}
use Rattle.conspec_tree.specs.declared.types.Phase.TheVariants.{Before, After, Exceptional}
use Rattle.conspec_automaton.specs.declared.policy.Clause.{Clause}
use Rattle.conspec_automaton.specs.Denying.{Denies}
use Rattle.conspec_automaton.specs.Next.{has_clauses}
use Rattle.offset_patch.specs.declared.block.Block.{Block}
use Rattle.offset_patch.specs.declared.block.BlockInsn.{BlockInsn}
use Rattle.offset_patch.specs.declared.block.BlockInsn.TheVariants.{Call}
use Rattle.block_template.specs.declared.item.Item.{Item}
use Rattle.block_template.specs.Blocks.{Clauses, block, block_with, bools_of, clause_at, clauses_of, is_phase, items}
use Rattle.block_template.specs.Denial.{DenialIsBlock, first_clause, denial, loaded, locked, saved, stopped, unlocked}
use Rattle.block_template.specs.Parts.{loads, lock, save, stop, unlock, unreached}
use Rattle.block_template.specs.Pushing.{load, store}
use Rattle.block_template.proofs.Goods.{insns_of, same_reached}

-- ---- its clauses

denies_calls : (clause : Clause) → Denies clause → is_phase Before clause.phase ≡ true
denies_calls clause denies = ap (is_phase Before) denies.calls

before_found : (method : ℕ) (clauses : List Clause) → AllByRecursion Denies clauses
    → find (λ (c : Clause). (c.method == method) && is_phase Before c.phase) clauses ≡ find (λ (c : Clause). c.method == method) clauses
before_found method [] deny = refl
before_found method (c ∷ clauses) deny = by (c.method == method) (is_phase Before c.phase) (denies_calls c deny.0) (before_found method clauses deny.1)
  where
    by : (b t : Bool) → t ≡ true
        → find (λ (c : Clause). (c.method == method) && is_phase Before c.phase) clauses ≡ find (λ (c : Clause). c.method == method) clauses
        → (if b && t then Some c else find (λ (c : Clause). (c.method == method) && is_phase Before c.phase) clauses)
        ≡ (if b then Some c else find (λ (c : Clause). c.method == method) clauses)
    by true true e others = refl
    by true false e others = absurd cc
    by false t e others = others

none_found : (method : ℕ) (phase : Phase) (clauses : List Clause) → is_phase phase Before ≡ false → AllByRecursion Denies clauses
    → find (λ (c : Clause). (c.method == method) && is_phase phase c.phase) clauses ≡ None
none_found method phase [] other deny = refl
none_found method phase (c ∷ clauses) other deny =
    by (c.method == method) (is_phase phase c.phase) (ap (is_phase phase) deny.0.calls ∙ other) (none_found method phase clauses other deny.1)
  where
    by : (b t : Bool) → t ≡ false → find (λ (c : Clause). (c.method == method) && is_phase phase c.phase) clauses ≡ None
        → (if b && t then Some c else find (λ (c : Clause). (c.method == method) && is_phase phase c.phase) clauses) ≡ None
    by true true e others = absurd cc
    by true false e others = others
    by false t e others = others

-- something is found exactly where one passes
found_any : {X : Type 0} (p : X → Bool) (xs : List X) → list_any p xs ≡ is_some (find p xs)
found_any p [] = refl
found_any p (x ∷ xs) = by (p x) (found_any p xs)
  where
    by : (b : Bool) → list_any p xs ≡ is_some (find p xs) → (b || list_any p xs) ≡ is_some (if b then Some x else find p xs)
    by true others = refl
    by false others = others

-- what is found is one of them
one_found : {X : Type 0} (Q : X → Type 0) (p : X → Bool) (xs : List X) (x : X) → AllByRecursion Q xs → find p xs ≡ Some x → Q x
one_found Q p [] x all e = absurd cc
one_found Q p (y ∷ ys) x all e = by (p y) e (one_found Q p ys x all.1)
  where
    by : (b : Bool) → (if b then Some y else find p ys) ≡ Some x → (find p ys ≡ Some x → Q x) → Q x
    by true found others = let same : y ≡ x = cc in subst Q same all.0
    by false found others = others found

-- ---- its block

saved_is : (base n : ℕ) (kinds : List Kind) → insns_of (save base n kinds) ≡ saved (base + n) kinds
saved_is base n [] = refl
saved_is base n (kind ∷ kinds) =
    let e : base + (n + 1) ≡ base + n + 1 = omega arith in
    map-append (λ (i : Item). i.insn) (save base (n + 1) kinds) _
    ∙ ap (λ insns. insns ++ store kind (base + n) ∷ []) (saved_is base (n + 1) kinds ∙ ap (λ b. saved b kinds) e)

loaded_is : (held : Bool) (base n : ℕ) (kinds : List Kind) → insns_of (loads held base n kinds) ≡ loaded (base + n) kinds
loaded_is held base n [] = refl
loaded_is held base n (kind ∷ kinds) =
    let e : base + (n + 1) ≡ base + n + 1 = omega arith in
    ap (λ insns. load kind (base + n) ∷ insns) (loaded_is held base (n + 1) kinds ∙ ap (λ b. loaded b kinds) e)

-- the clause of a denied call
abbrev denying : ℕ → List Kind → Option Kind → Clause
denying method args result = record { method = method; phase = Before; args = args; result = result; branches = [] }

abbrev alone : Clause → Clauses
alone clause = record { before = Some clause; after = None; exceptional = None }

insns_denied : (bools : List Bool) (base method : ℕ) (args : List Kind) (result : Option Kind)
    → insns_of (items Release bools base (alone (denying method args result))) ≡ (denial base args).insns
insns_denied bools base method args result =
    let front = save base 0 args ++ (lock Before ++ (stop Before ++ map unreached (unlock Before true ++ loads false base 0 args))) in
    let rest = lock Before ++ (stop Before ++ map unreached (unlock Before true ++ loads false base 0 args)) in
    let zero_more : base + 0 ≡ base = omega arith in
    let loaded_same : insns_of (map unreached (loads false base 0 args)) ≡ loaded base args =
    same_reached false (loads false base 0 args) ∙ loaded_is false base 0 args ∙ ap (λ b. loaded b args) zero_more in
    let saved_same : insns_of (save base 0 args) ≡ saved base args = saved_is base 0 args ∙ ap (λ b. saved b args) zero_more in
    let after : List BlockInsn → List BlockInsn = λ last.
    locked ++ (stopped ++ (unlocked ++ (last ++ Call ∷ []))) in
    map-append (λ (i : Item). i.insn) front _ ∙ ap (λ insns. insns ++ Call ∷ []) (map-append (λ (i : Item). i.insn) (save base 0 args) rest)
    ∙ append_assoc (insns_of (save base 0 args)) (insns_of rest) (Call ∷ []) ∙ ap (λ insns. insns ++ after (insns_of (map unreached (loads false base 0 args)))) saved_same
    ∙ ap (λ last. saved base args ++ after last) loaded_same

block_denied : (bools : List Bool) (base : ℕ) (clause : Clause) → Denies clause → block_with Release bools base (alone clause) ≡ denial base clause.args
block_denied bools base clause denies =
    let same : clause ≡ denying clause.method clause.args clause.result =
    ap (λ phase. record { method = clause.method; phase = phase; args = clause.args; result = clause.result; branches = clause.branches }) denies.calls
    ∙ ap (λ branches. record { method = clause.method; phase = Before; args = clause.args; result = clause.result; branches = branches }) denies.all in
    let made : List BlockInsn → Block = λ insns. record { insns = insns; handler = None } in
    ap (λ (c : Clause). block_with Release bools base (alone c)) same ∙ ap made (insns_denied bools base clause.method clause.args clause.result)

pub denial_is : DenialIsBlock
denial_is policy method base deny = by (first_clause policy method) refl
  where
    clauses_are : clauses_of policy method ≡ record { before = first_clause policy method; after = None; exceptional = None }
    clauses_are =
        let b = before_found method policy.clauses deny.clauses in
        let a = none_found method After policy.clauses refl deny.clauses in
        let x = none_found method Exceptional policy.clauses refl deny.clauses in
        ap (λ o. record { before = o; after = clause_at policy method After; exceptional = clause_at policy method Exceptional }) b
        ∙ ap (λ o. record { before = first_clause policy method; after = o; exceptional = clause_at policy method Exceptional }) a
        ∙ ap (λ o. record { before = first_clause policy method; after = None; exceptional = o }) x

    by : (o : Option Clause) → first_clause policy method ≡ o → block policy Release method base ≡ option_map (λ (c : Clause). denial base c.args) o
    by None e =
        let none : has_clauses policy method ≡ false = found_any (λ (c : Clause). c.method == method) policy.clauses ∙ ap is_some e in
        ap (λ (b : Bool). if b then Some (block_with Release (bools_of policy) base (clauses_of policy method)) else None) none
    by (Some clause) e =
        let some : has_clauses policy method ≡ true = found_any (λ (c : Clause). c.method == method) policy.clauses ∙ ap is_some e in
        let denies = one_found Denies (λ (c : Clause). c.method == method) policy.clauses clause deny.clauses e in
        ap (λ (b : Bool). if b then Some (block_with Release (bools_of policy) base (clauses_of policy method)) else None) some
        ∙ ap (λ (c : Clauses). Some (block_with Release (bools_of policy) base c)) (clauses_are ∙ ap (λ o. record { before = o; after = None; exceptional = None }) e)
        ∙ ap Some (block_denied (bools_of policy) base clause denies)
