-- What a policy that was read says of the clauses of a method: their checks are short, and what they keep stands in locals.
use Rattle.std.proofs.Common.{◌≡◌, ◌≢◌, ℕ, zero, suc, ◌+◌, ◌*◌, ◌<◌, ◌≤◌, ◌^◌, Bool, true, false, List, [], ◌∷◌, length, Option, Some, None, refl, sym, subst, arith}
use Rattle.std.specs.Prelude.{IfSome, AllPairs, find, slice_get, slice_index_or, nat_lt, if◌then◌else◌, ◌==◌, ◌&&◌, ℤ, ⊤}
use Rattle.std.proofs.lemmas.Bool.Decides.{nat_tests}
use Rattle.std.specs.List.{AllByRecursion}
use Rattle.std.specs.Option.{option_map_or}
use Rattle.std.proofs.lemmas.Bool.{and_parts}
use Rattle.std.proofs.lemmas.Option.{slice_get_within}
use Rattle.cert_format.specs.declared.certificate.Mode.{Mode}
use Rattle.conspec_tree.specs.declared.types.Atom.{Atom}
use Rattle.conspec_tree.specs.declared.types.Base.{Base}
use Rattle.conspec_tree.specs.declared.types.Base.TheVariants as bases
use Rattle.conspec_tree.specs.declared.types.Kind.{Kind}
use Rattle.conspec_tree.specs.declared.types.Phase.{Phase}
use Rattle.conspec_tree.specs.declared.types.Phase.TheVariants.{Before, After, Exceptional}
use Rattle.conspec_tree.specs.declared.types.Update.{Update}
use Rattle.conspec_tree.specs.declared.types.Update.TheVariants.{Set, Add}
use Rattle.conspec_tree.specs.declared.types.Var.{Var}
use Rattle.conspec_tree.specs.Tree.{Askable, AreAtoms, IsBase, IsNumber, IsUpdateIn, asked}
use Rattle.conspec_tree.specs.Updates.{target}
use Rattle.conspec_automaton.specs.declared.policy.Branch.{Branch}
use Rattle.conspec_automaton.specs.declared.policy.Clause.{Clause}
use Rattle.conspec_automaton.specs.declared.policy.Policy.{Policy}
use Rattle.conspec_automaton.specs.Sound.{IsBranchIn, IsClauseIn, IsPolicy}
use Rattle.block_template.specs.Blocks.{bools_of, clause_at, clauses_of, items, is_phase, kept, locals_used}
use Rattle.block_template.specs.Parts.{asks_size, branches_size, updates_size}
use Rattle.block_template.specs.Room.{HasLocal, HasLocals, IsRoomy, IsShort}
use Rattle.block_template.proofs.Pigeonhole.{Into, OneToOne, pigeonhole}
use Rattle.block_template.proofs.Sizes.{HasFewArguments, items_short}

-- ---- what is found

abbrev pub Found : {X : Type 0} → (X → Type 0) → (X → Bool) → X → Type 0
Found Q p x = Q x × (p x ≡ true)

pub found_is : {X : Type 0} (Q : X → Type 0) (p : X → Bool) (xs : List X) → AllByRecursion Q xs → IfSome (find p xs) (Found Q p)
found_is Q p [] all = tt
found_is Q p (x ∷ xs) all = by (p x) refl (found_is Q p xs all.1)
  where
    by : (b : Bool) → p x ≡ b → IfSome (find p xs) (Found Q p) → IfSome (if b then Some x else find p xs) (Found Q p)
    by true e others = (all.0, e)
    by false e others = others

is_before : (phase : Phase) → is_phase Before phase ≡ true → phase ≡ Before
is_before Before e = refl
is_before After e = absurd cc
is_before Exceptional e = absurd cc

is_after : (phase : Phase) → is_phase After phase ≡ true → phase ≡ After
is_after Before e = absurd cc
is_after After e = refl
is_after Exceptional e = absurd cc

is_exceptional : (phase : Phase) → is_phase Exceptional phase ≡ true → phase ≡ Exceptional
is_exceptional Before e = absurd cc
is_exceptional After e = absurd cc
is_exceptional Exceptional e = refl

-- a clause of this phase, whose parts are those of a policy that was read
pub record IsOf (policy : Policy) (phase : Phase) (clause : Clause) : Type 0 where
  pub fits : IsClauseIn policy.vars policy.maxint clause
  pub phase_is : clause.phase ≡ phase

phase_from : (phase other : Phase) → is_phase phase other ≡ true → other ≡ phase
phase_from Before other e = is_before other e
phase_from After other e = is_after other e
phase_from Exceptional other e = is_exceptional other e

pub clause_is : (policy : Policy) (method : ℕ) (phase : Phase) → IsPolicy policy → IfSome (clause_at policy method phase) (IsOf policy phase)
clause_is policy method phase is =
    by (clause_at policy method phase) (found_is (IsClauseIn policy.vars policy.maxint) (λ (c : Clause). (c.method == method) && is_phase phase c.phase) policy.clauses is.clauses)
  where
    by : (o : Option Clause) → IfSome o (Found (IsClauseIn policy.vars policy.maxint) (λ (c : Clause). (c.method == method) && is_phase phase c.phase)) → IfSome o (IsOf policy phase)
    by None found = tt
    by (Some clause) found =
        let p = and_parts (clause.method == method) (is_phase phase clause.phase) found.1 in
        record { fits = found.0; phase_is = phase_from phase clause.phase p.1 }

-- ---- each variable is updated once, so there are at most 16 updates

item_is : {X : Type 0} (Q : X → Type 0) (xs : List X) (i : ℕ) (d : X) → AllByRecursion Q xs → i < length xs → Q (slice_index_or xs i d)
item_is Q [] i d all below = absurd (omega arith)
item_is Q (x ∷ xs) zero d all below = all.0
item_is Q (x ∷ xs) (suc i) d all below = item_is Q xs i d all.1 (omega arith)

-- the variable of the update in this place
abbrev target_at : List Update → Update → ℕ → ℕ
target_at updates d i = target (slice_index_or updates i d)

targets_within : (vars : List Var) (maxint : ℤ) (updates : List Update) (d : Update) → AllByRecursion (IsUpdateIn vars maxint) updates
    → Into (target_at updates d) (length updates) (length vars)
targets_within vars maxint updates d all i below =
    let is = item_is (IsUpdateIn vars maxint) updates i d all below in
    slice_get_within vars (target_at updates d i) is.variable is.there

targets_differ : (updates : List Update) (d : Update) → AllPairs (λ u w. target u ≢ target w) updates → OneToOne (target_at updates d) (length updates)
targets_differ updates d once i j p q same = by (nat_lt i j) (nat_lt j i) refl refl
  where
    by : (b c : Bool) → nat_lt i j ≡ b → nat_lt j i ≡ c → i ≡ j
    by true c e f = absurd (once i j d (grind (arith, nat_tests)) q same)
    by false true e f = absurd (once j i d (grind (arith, nat_tests)) p (sym same))
    by false false e f = grind (arith, nat_tests)

updates_few : (vars : List Var) (maxint : ℤ) (updates : List Update) → AllByRecursion (IsUpdateIn vars maxint) updates
    → AllPairs (λ u w. target u ≢ target w) updates → length updates ≤ length vars
updates_few vars maxint [] all once = omega arith
updates_few vars maxint (u ∷ updates) all once =
    let every = u ∷ updates in
    pigeonhole (length every) (length vars) (target_at every u) (targets_within vars maxint every u all) (targets_differ every u once)

-- ---- checks are short

asks_size_most : (atoms : List Atom) → asks_size atoms ≤ 3 * length atoms
asks_size_most [] = omega arith
asks_size_most (atom ∷ atoms) = omega (arith, asks_size_most atoms)

updates_size_most : (updates : List Update) → updates_size updates ≤ 4 * length updates
updates_size_most [] = omega arith
updates_size_most (Set var value ∷ updates) = omega (arith, updates_size_most updates)
updates_size_most (Add var by ∷ updates) = omega (arith, updates_size_most updates)

branches_size_most : (vars : List Var) (maxint : ℤ) (askable : Askable) (branches : List Branch) → length vars ≤ 16
    → AllByRecursion (IsBranchIn vars maxint askable) branches → branches_size branches ≤ 4 + 113 * length branches
branches_size_most vars maxint askable [] few all = omega arith
branches_size_most vars maxint askable (branch ∷ branches) few all =
    omega (
      arith,
      few,
      all.0.few_atoms,
      asks_size_most branch.atoms,
      updates_size_most branch.updates,
      updates_few vars maxint branch.updates all.0.updates all.0.once,
      branches_size_most vars maxint askable branches few all.1,
    )

-- ---- what atoms ask stands in locals

argument_there : (kinds : List Kind) (i : ℕ) → IsNumber (slice_get kinds i) → i < length kinds
argument_there kinds i is = by (slice_get kinds i) refl is
  where
    by : (o : Option Kind) → slice_get kinds i ≡ o → IsNumber o → i < length kinds
    by None e none = absurd none
    by (Some kind) e some = slice_get_within kinds i kind e

no_argument : (i : ℕ) → IsNumber (slice_get [] i) → ⊥
no_argument i is = absurd (omega (arith, argument_there [] i is))

result_there : (kind : Option Kind) → IsNumber kind → 1 ≤ kept kind
result_there None none = absurd none
result_there (Some kind) some = omega arith

-- what the clause of a phase needs of the locals
abbrev Needs : ℕ → Phase → Clause → Type 0
Needs base Before clause = base + length clause.args < 2 ^ 16
Needs base After clause = base + kept clause.result < 2 ^ 16
Needs base Exceptional clause = ⊤

base_local : (base vars : ℕ) (phase : Phase) (clause : Clause) (asks : Base) → Needs base phase clause
    → IsBase vars (asked phase clause.args clause.result) asks → HasLocal base asks
base_local base vars phase clause (bases.Var i) needs is = tt
base_local base vars Before clause (bases.Arg i) needs is = omega (arith, argument_there clause.args i is)
base_local base vars After clause (bases.Arg i) needs is = absurd (no_argument i is)
base_local base vars Exceptional clause (bases.Arg i) needs is = absurd (no_argument i is)
base_local base vars Before clause bases.Result needs is = absurd is
base_local base vars After clause bases.Result needs is = omega (arith, result_there clause.result is)
base_local base vars Exceptional clause bases.Result needs is = absurd is

atoms_local : (base vars : ℕ) (phase : Phase) (clause : Clause) (atoms : List Atom) → Needs base phase clause
    → AreAtoms vars (asked phase clause.args clause.result) atoms → AllByRecursion (λ (a : Atom). HasLocal base a.base) atoms
atoms_local base vars phase clause [] needs are = tt
atoms_local base vars phase clause (atom ∷ atoms) needs are =
    (base_local base vars phase clause atom.base needs are.0, atoms_local base vars phase clause atoms needs are.1)

branches_local : (base : ℕ) (vars : List Var) (maxint : ℤ) (phase : Phase) (clause : Clause) (branches : List Branch) → Needs base phase clause
    → AllByRecursion (IsBranchIn vars maxint (asked phase clause.args clause.result)) branches → AllByRecursion (HasLocals base) branches
branches_local base vars maxint phase clause [] needs all = tt
branches_local base vars maxint phase clause (branch ∷ branches) needs all =
    (atoms_local base (length vars) phase clause branch.atoms needs all.0.atoms, branches_local base vars maxint phase clause branches needs all.1)

-- the branches of a clause of this phase
pub branches_of_phase : (policy : Policy) (phase : Phase) (clause : Clause) → IsOf policy phase clause
    → AllByRecursion (IsBranchIn policy.vars policy.maxint (asked phase clause.args clause.result)) clause.branches
branches_of_phase policy phase clause is =
    let Q : Phase → Type 0 = λ p. AllByRecursion (IsBranchIn policy.vars policy.maxint (asked p clause.args clause.result)) clause.branches in
    subst Q is.phase_is is.fits.branches

clause_short : (policy : Policy) (base : ℕ) (phase : Phase) (clause : Clause) → IsPolicy policy → Needs base phase clause → IsOf policy phase clause
    → IsShort base clause
clause_short policy base phase clause read needs is = record {
  size = omega (
    arith,
    is.fits.few_branches,
    branches_size_most policy.vars policy.maxint (asked clause.phase clause.args clause.result) clause.branches read.few_vars is.fits.branches,
  );
  locals = branches_local base policy.vars policy.maxint phase clause clause.branches needs (branches_of_phase policy phase clause is);
}

-- ---- the clauses of a method

each_short : (policy : Policy) (base : ℕ) (phase : Phase) (o : Option Clause) → IsPolicy policy → IfSome o (Needs base phase) → IfSome o (IsOf policy phase)
    → IfSome o (IsShort base)
each_short policy base phase None read needs is = tt
each_short policy base phase (Some clause) read needs is = clause_short policy base phase clause read needs is

arguments_fit : (base most : ℕ) (o : Option Clause) → base + most < 2 ^ 16 → option_map_or (λ (c : Clause). length c.args) o 0 ≤ most → IfSome o (Needs base Before)
arguments_fit base most None few within = tt
arguments_fit base most (Some clause) few within = omega arith

results_fit : (base most : ℕ) (o : Option Clause) → base + most < 2 ^ 16 → option_map_or (λ (c : Clause). kept c.result) o 0 ≤ most → IfSome o (Needs base After)
results_fit base most None few within = tt
results_fit base most (Some clause) few within = omega arith

nothing_needed : (base : ℕ) (o : Option Clause) → IfSome o (Needs base Exceptional)
nothing_needed base None = tt
nothing_needed base (Some clause) = tt

pub policy_roomy : (policy : Policy) (method base : ℕ) → IsPolicy policy → base + locals_used policy method < 2 ^ 16 → IsRoomy base (clauses_of policy method)
policy_roomy policy method base read few =
    let arguments = arguments_fit base (locals_used policy method) (clause_at policy method Before) few (omega arith) in
    let results = results_fit base (locals_used policy method) (clause_at policy method After) few (omega arith) in
    record {
      arguments = arguments;
      result = results;
      before = each_short policy base Before (clause_at policy method Before) read arguments (clause_is policy method Before read);
      after = each_short policy base After (clause_at policy method After) read results (clause_is policy method After read);
      exceptional = each_short policy base Exceptional (clause_at policy method Exceptional) read (nothing_needed base (clause_at policy method Exceptional)) (clause_is policy method Exceptional read);
    }

-- ---- a block that begins at local 0

-- Its clauses have few arguments.
pub few_arguments : (policy : Policy) (method : ℕ) (phase : Phase) → IsPolicy policy → HasFewArguments (clause_at policy method phase)
few_arguments policy method phase read = by (clause_at policy method phase) (clause_is policy method phase read)
  where
    by : (o : Option Clause) → IfSome o (IsOf policy phase) → HasFewArguments o
    by None is = tt
    by (Some clause) is = is.fits.few_args

few_before : (o : Option Clause) → HasFewArguments o → option_map_or (λ (c : Clause). length c.args) o 0 ≤ 255
few_before None few = omega arith
few_before (Some clause) few = few

few_result : (kind : Option Kind) → kept kind ≤ 1
few_result None = omega arith
few_result (Some kind) = omega arith

few_after : (o : Option Clause) → option_map_or (λ (c : Clause). kept c.result) o 0 ≤ 1
few_after None = omega arith
few_after (Some clause) = few_result clause.result

-- Its locals are few.
pub few_locals : (policy : Policy) (method : ℕ) → IsPolicy policy → 0 + locals_used policy method < 65536
few_locals policy method is =
    omega (arith, few_before (clause_at policy method Before) (few_arguments policy method Before is), few_after (clause_at policy method After))

-- Its block is short.
pub short_items : (policy : Policy) (mode : Mode) (method : ℕ) → IsPolicy policy → length (items mode (bools_of policy) 0 (clauses_of policy method)) < 2 ^ 16
short_items policy mode method is =
    items_short mode (bools_of policy) 0 (clauses_of policy method) (policy_roomy policy method 0 is (few_locals policy method is)) (few_arguments policy method Before is)
