-- Which roles the items of a block have: in its mode, and for its clauses.
use Rattle.std.proofs.Common.{◌≡◌, ℕ, suc, ◌+◌, Bool, true, false, cond, List, [], ◌∷◌, ◌++◌, length, map, Option, Some, None, refl, sym, ap, subst, ◌∙◌, arith}
use Rattle.std.specs.Prelude.{IfSome, is_some, slice_get, ⊤}
use Rattle.std.specs.List.{AllByRecursion}
use Rattle.cert_format.specs.declared.certificate.Mode.{Mode}
use Rattle.cert_format.specs.declared.certificate.Mode.TheVariants.{Hold, Release}
use Rattle.bytecode_model.proofs.Lists.{all_append}
use Rattle.conspec_tree.specs.declared.types.Atom.{Atom}
use Rattle.conspec_tree.specs.declared.types.Kind.{Kind}
use Rattle.conspec_tree.specs.declared.types.Phase.{Phase}
use Rattle.conspec_tree.specs.declared.types.Phase.TheVariants.{Before, After, Exceptional}
use Rattle.conspec_tree.specs.declared.types.Update.{Update}
use Rattle.conspec_tree.specs.declared.types.Update.TheVariants.{Set, Add}
use Rattle.conspec_automaton.specs.declared.policy.Branch.{Branch}
use Rattle.conspec_automaton.specs.declared.policy.Clause.{Clause}
use Rattle.block_template.specs.declared.item.Item.{Item}
use Rattle.block_template.specs.declared.item.Role.{Role}
use Rattle.block_template.specs.declared.item.Role.TheVariants as roles
use Rattle.block_template.specs.Blocks.{
  Clauses,
  following,
  called,
  catches,
  caught,
  checked,
  front,
  from_call,
  handler,
  is_locked,
  items,
  leave,
  lets_pass,
  released,
  rethrow,
  with_handler,
}
use Rattle.block_template.specs.Flow.{AreForPhases, branch_at, branches_of, clause_in}
use Rattle.block_template.specs.Parts.{ask, asks, branch_size, branches, branches_size, check, give, if_reached, keep, loads, lock, save, tried, unlock, unreached, write, writes}

module _ (mode : Mode) (clauses : Clauses) where
  -- The lock is held over the call as the mode has it, it is taken for a check or before the call, it is left after a check
  -- where a clause is for the phase, and a branch that is taken is there.
  abbrev pub Suits : Role → Type 0
  Suits (roles.Call locked) = locked ≡ is_locked mode
  Suits (roles.Keep locked) = locked ≡ is_locked mode
  Suits (roles.Lock Before pushed) = ⊤
  Suits (roles.Lock After pushed) = is_some clauses.after ≡ true
  Suits (roles.Lock Exceptional pushed) = is_some clauses.exceptional ≡ true
  Suits (roles.Unlock phase made pushed) = made ≡ is_some (clause_in clauses phase)
  Suits (roles.Taken phase n) = is_some (branch_at clauses phase n) ≡ true
  Suits other = ⊤

  abbrev pub AllSuit : List Item → Type 0
  AllSuit list = AllByRecursion (λ (i : Item). Suits i.role) list

  both : (xs ys : List Item) → AllSuit xs → AllSuit ys → AllSuit (xs ++ ys)
  both xs ys f g = all_append (λ (i : Item). Suits i.role) xs ys f g

  unreached_suit : (xs : List Item) → AllSuit (map unreached xs)
  unreached_suit [] = tt
  unreached_suit (x ∷ xs) = (tt, unreached_suit xs)

  reached_suit : (b : Bool) (xs : List Item) → AllSuit xs → AllSuit (if_reached b xs)
  reached_suit true xs f = f
  reached_suit false xs f = unreached_suit xs

  -- ---- arguments and checks

  save_suit : (base n : ℕ) (args : List Kind) → AllSuit (save base n args)
  save_suit base n [] = tt
  save_suit base n (kind ∷ others) = both (save base (n + 1) others) _ (save_suit base (n + 1) others) (tt, tt)

  loads_suit : (locked : Bool) (base n : ℕ) (args : List Kind) → AllSuit (loads locked base n args)
  loads_suit locked base n [] = tt
  loads_suit locked base n (kind ∷ others) = (tt, loads_suit locked base (n + 1) others)

  asks_suit : (bools : List Bool) (base : ℕ) (phase : Phase) (branch n next : ℕ) (atoms : List Atom)
      → AllSuit (asks bools base phase branch n next atoms)
  asks_suit bools base phase branch n next [] = tt
  asks_suit bools base phase branch n next (atom ∷ atoms) =
      both (ask bools base phase branch n next atom) _ (tt, (tt, (tt, tt))) (asks_suit bools base phase branch (n + 1) next atoms)

  write_suit : (bools : List Bool) (phase : Phase) (branch n : ℕ) (x : Update) → AllSuit (write bools phase branch n x)
  write_suit bools phase branch n (Set var value) = (tt, (tt, tt))
  write_suit bools phase branch n (Add var by) = (tt, (tt, (tt, (tt, tt))))

  writes_suit : (bools : List Bool) (phase : Phase) (branch n : ℕ) (updates : List Update) → AllSuit (writes bools phase branch n updates)
  writes_suit bools phase branch n [] = tt
  writes_suit bools phase branch n (x ∷ updates) =
      both (write bools phase branch n x) _ (write_suit bools phase branch n x) (writes_suit bools phase branch (n + 1) updates)

  -- These are the branches of the clause from this one on.
  abbrev Stand : Phase → ℕ → List Branch → Type 0
  Stand phase n bs = (i : ℕ) → branch_at clauses phase (n + i) ≡ slice_get bs i

  branches_suit : (bools : List Bool) (base : ℕ) (phase : Phase) (n at done : ℕ) (bs : List Branch) → Stand phase n bs
      → AllSuit (branches bools base phase n at done bs)
  branches_suit bools base phase n at done [] stand = (tt, (tt, (tt, (tt, tt))))
  branches_suit bools base phase n at done (branch ∷ others) stand =
      let first : n ≡ n + 0 = omega arith in
      let here : is_some (branch_at clauses phase n) ≡ true = ap (λ (i : ℕ). is_some (branch_at clauses phase i)) first ∙ ap is_some (stand 0) in
      both (tried bools base phase n (at + branch_size branch) done branch) _
      (both (asks bools base phase n 0 (at + branch_size branch) branch.atoms) _
      (asks_suit bools base phase n 0 (at + branch_size branch) branch.atoms)
      (both (writes bools phase n 0 branch.updates) _ (writes_suit bools phase n 0 branch.updates) (here, tt)))
      (branches_suit bools base phase (n + 1) (at + branch_size branch) done others
      (λ i. let next : n + 1 + i ≡ n + suc i = omega arith in ap (branch_at clauses phase) next ∙ stand (suc i)))

  checked_suit : (phase : Phase) (clause : Clause) → clause_in clauses phase ≡ Some clause → clause.phase ≡ phase
      → (bools : List Bool) (base at : ℕ) (later : List Item) → AllSuit later → AllSuit (checked bools base at clause later)
  checked_suit phase clause there for bools base at later f =
      both (check bools base at clause) _
      (branches_suit bools base clause.phase 0 at (at + branches_size clause.branches) clause.branches
      (λ i.
      let first : 0 + i ≡ i = omega arith in
      ap (λ (p : Phase). branch_at clauses p (0 + i)) for
      ∙ ap (λ (o : Option Clause). slice_get (branches_of o) (0 + i)) there ∙ ap (slice_get clause.branches) first))
      (reached_suit _ later f)

  -- ---- the lock, for a clause that is there

  unlock_suit : (phase : Phase) (clause : Clause) → clause_in clauses phase ≡ Some clause → AllSuit (unlock phase true)
  unlock_suit phase clause e = (ap is_some (sym e), (ap is_some (sym e), tt))

  lock_suit : (phase : Phase) (clause : Clause) → clause_in clauses phase ≡ Some clause → AllSuit (lock phase)
  lock_suit Before clause e = (tt, (tt, tt))
  lock_suit After clause e = (ap is_some e, (ap is_some e, tt))
  lock_suit Exceptional clause e = (ap is_some e, (ap is_some e, tt))

  released_suit : (phase : Phase) (clause : Clause) → clause_in clauses phase ≡ Some clause → clause.phase ≡ phase
      → (bools : List Bool) (base at : ℕ) (later : List Item) → AllSuit later → AllSuit (released bools base at clause later)
  released_suit phase clause there for bools base at later f =
      both (lock clause.phase) _ (subst (λ (p : Phase). AllSuit (lock p)) (sym for) (lock_suit phase clause there))
      (checked_suit phase clause there for bools base (at + 2) (unlock clause.phase true ++ later)
      (both (unlock clause.phase true) later (subst (λ (p : Phase). AllSuit (unlock p true)) (sym for) (unlock_suit phase clause there)) f))

  -- ---- the parts of a block

  module _ (phases : AreForPhases clauses) (bools : List Bool) (base : ℕ) where
    before_for : (clause : Clause) → clauses.before ≡ Some clause → clause.phase ≡ Before
    before_for clause e = subst (λ (o : Option Clause). IfSome o (λ c. c.phase ≡ Before)) e phases.before

    after_for : (clause : Clause) → clauses.after ≡ Some clause → clause.phase ≡ After
    after_for clause e = subst (λ (o : Option Clause). IfSome o (λ c. c.phase ≡ After)) e phases.after

    exceptional_for : (clause : Clause) → clauses.exceptional ≡ Some clause → clause.phase ≡ Exceptional
    exceptional_for clause e = subst (λ (o : Option Clause). IfSome o (λ c. c.phase ≡ Exceptional)) e phases.exceptional

    front_suit : (m : Mode) (o : Option Clause) → clauses.before ≡ o → AllSuit (front m bools base o)
    front_suit Release None e = tt
    front_suit Hold None e = (tt, (tt, tt))
    front_suit Release (Some clause) e =
        both (save base 0 clause.args) _ (save_suit base 0 clause.args)
        (released_suit Before clause e (before_for clause e) bools base (length clause.args) _ (loads_suit false base 0 clause.args))
    front_suit Hold (Some clause) e =
        both (save base 0 clause.args) _ (save_suit base 0 clause.args)
        (both (lock Before) _ (tt, (tt, tt))
        (checked_suit Before clause e (before_for clause e) bools base (length clause.args + 2) _ (loads_suit true base 0 clause.args)))

    give_suit : (o : Option Kind) → AllSuit (give base o)
    give_suit None = tt
    give_suit (Some kind) = (tt, tt)

    keep_suit : (locked : Bool) → locked ≡ is_locked mode → (o : Option Kind) → AllSuit (keep locked base o)
    keep_suit locked is None = tt
    keep_suit locked is (Some kind) = (is, tt)

    after_suit : (m : Mode) → m ≡ mode → (at : ℕ) (o : Option Clause) → clauses.after ≡ o → AllSuit (following m bools base at o)
    after_suit Release is at None e = tt
    after_suit Hold is at None e = (ap is_some (sym e), (ap is_some (sym e), tt))
    after_suit Release is at (Some clause) e =
        both (keep false base clause.result) _ (keep_suit false (ap is_locked is) clause.result)
        (released_suit After clause e (after_for clause e) bools base _ _ (give_suit clause.result))
    after_suit Hold is at (Some clause) e =
        both (keep true base clause.result) _ (keep_suit true (ap is_locked is) clause.result)
        (checked_suit After clause e (after_for clause e) bools base _ _ (both (unlock After true) _ (unlock_suit After clause e) (give_suit clause.result)))

    handler_suit : (m : Mode) (at : ℕ) (o : Option Clause) → clauses.exceptional ≡ o → AllSuit (handler m bools base at o)
    handler_suit Release at None e = tt
    handler_suit Hold at None e = (ap is_some (sym e), (ap is_some (sym e), (tt, tt)))
    handler_suit Release at (Some clause) e =
        released_suit Exceptional clause e (exceptional_for clause e) bools base at rethrow (tt, tt)
    handler_suit Hold at (Some clause) e =
        checked_suit Exceptional clause e (exceptional_for clause e) bools base at _ (both (unlock Exceptional true) rethrow (unlock_suit Exceptional clause e) (tt, tt))

    with_suit : (at : ℕ) → AllSuit (with_handler mode bools base at clauses)
    with_suit at =
        both (if_reached (lets_pass clauses.after) (leave (at + length (handler mode bools base at clauses.exceptional)) ∷ []))
        (handler mode bools base at clauses.exceptional) (reached_suit (lets_pass clauses.after) _ (tt, tt))
        (handler_suit mode at clauses.exceptional refl)

    caught_suit : (at : ℕ) (b : Bool) → AllSuit (cond b (with_handler mode bools base (at + 1) clauses) [])
    caught_suit at true = with_suit (at + 1)
    caught_suit at false = tt

    pub items_suit : AllSuit (items mode bools base clauses)
    items_suit =
        let at : ℕ = length (front mode bools base clauses.before) in
        let later : ℕ = at + length (called mode bools base at clauses) in
        both (front mode bools base clauses.before) _ (front_suit mode clauses.before refl)
        (reached_suit (lets_pass clauses.before) (from_call mode bools base at clauses)
        (both (called mode bools base at clauses) (caught mode bools base later clauses)
        (refl, after_suit mode refl (at + 1) clauses.after refl) (caught_suit later (catches mode clauses.exceptional))))
