-- The blocks of a policy that was read can be spliced.
use Rattle.std.proofs.Common.{◌≡◌, ℕ, suc, ◌+◌, ◌<◌, ◌≤◌, ◌^◌, ℤ, pos, Bool, true, false, List, [], ◌∷◌, ◌++◌, length, map, get_or, Option, Some, None, refl, sym, ap, subst, ◌∙◌, arith, length-append, FitsSigned}
use Rattle.std.specs.Prelude.{IfSome, ◌≤ℤ◌, ◌==◌, ◌&&◌, if◌then◌else◌, is_some, slice_get, ⊤}
use Rattle.std.specs.Int.{w32}
use Rattle.std.specs.List.{AllByRecursion, cons_option, filter_map}
use Rattle.std.specs.Option.{option_map_or}
use Rattle.std.proofs.lemmas.Int.{ints}
use Rattle.std.proofs.lemmas.List.{append-nil, map-append}
use Rattle.std.proofs.lemmas.Option.{slice_get-get_or, slice_get_within}
use Rattle.bytecode_model.specs.declared.program.Target.{Target}
use Rattle.bytecode_model.specs.declared.program.Target.TheVariants as target
use Rattle.cert_format.specs.declared.certificate.Mode.{Mode}
use Rattle.cert_format.specs.declared.certificate.Mode.TheVariants.{Hold, Release}
use Rattle.conspec_tree.specs.declared.types.Atom.{Atom}
use Rattle.conspec_tree.specs.declared.types.Base.{Base}
use Rattle.conspec_tree.specs.declared.types.Base.TheVariants as bases
use Rattle.conspec_tree.specs.declared.types.Kind.{Kind}
use Rattle.conspec_tree.specs.declared.types.Phase.{Phase}
use Rattle.conspec_tree.specs.declared.types.Phase.TheVariants.{Before, After, Exceptional}
use Rattle.conspec_tree.specs.declared.types.Update.{Update}
use Rattle.conspec_tree.specs.declared.types.Update.TheVariants.{Set, Add}
use Rattle.conspec_tree.specs.declared.types.Var.{Var}
use Rattle.conspec_tree.specs.Tree.{Askable, AreAtoms, IsBase, IsInRange, IsUpdateIn, asked}
use Rattle.conspec_tree.specs.Updates.{target as variable_of}
use Rattle.conspec_automaton.specs.declared.policy.Branch.{Branch}
use Rattle.conspec_automaton.specs.declared.policy.Clause.{Clause}
use Rattle.conspec_automaton.specs.declared.policy.Policy.{Policy}
use Rattle.conspec_automaton.specs.Next.{has_clauses}
use Rattle.conspec_automaton.specs.Sound.{IsBranchIn, IsPolicy}
use Rattle.offset_patch.specs.declared.block.BlockInsn.{BlockInsn}
use Rattle.offset_patch.specs.declared.block.BlockInsn.TheVariants.{Call}
use Rattle.offset_patch.specs.declared.block.PoolWant.{PoolWant}
use Rattle.offset_patch.specs.Fits.{IsBlock, IsBlockInsn, IsSite, JumpsWithin, calls_in}
use Rattle.offset_patch.specs.Plan.{IsListedCall, NamesVariable}
use Rattle.offset_patch.specs.Splicing.{block_wants, want_of}
use Rattle.block_template.specs.declared.item.Item.{Item}
use Rattle.block_template.specs.Blocks.{Clauses, following, block, block_with, bools_of, called, catches, caught, clause_at, clauses_of, from_call, front, lets_pass, handler, handler_at, has_block, is_phase, items, kept, locals_used, site, site_locals, with_handler}
use Rattle.block_template.specs.Good.{AreNumbers, HasNumbers, PlansAreGood}
use Rattle.block_template.specs.Parts.{if_reached, unreached}
use Rattle.block_template.specs.Pushing.{bools_in}
use Rattle.block_template.specs.Room.{HasLocal, HasLocals, IsRoomy, IsShort}
use Rattle.block_template.proofs.Insns.{AsksKnown, AsksNumber, HasIndex, IsKnown, IsOwn, MakesNumber, Names, names_rows, number_of, own_rows}
use Rattle.block_template.proofs.Policies.{Found, IsOf, clause_is, found_is, policy_roomy}
use Rattle.block_template.proofs.Rows.{Tried, all_joined, front_each, rest_each}
use Rattle.block_template.proofs.Sizes.{after_short, caught_short, front_short, mapped_length, reached_length, rest, with_handler_length, handler_length}

-- ---- the instructions of a block: those before the call, the call, and those after it

abbrev pub insns_of : List Item → List BlockInsn
insns_of items = map (λ (i : Item). i.insn) items

pub same_reached : (b : Bool) (items : List Item) → insns_of (if_reached b items) ≡ insns_of items
same_reached true items = refl
same_reached false items = same items
  where
    same : (items : List Item) → insns_of (map unreached items) ≡ insns_of items
    same [] = refl
    same (i ∷ items) = ap (λ insns. i.insn ∷ insns) (same items)

module _ (mode : Mode) (bools : List Bool) (base : ℕ) (clauses : Clauses) where
  abbrev before : List Item
  before = front mode bools base clauses.before

  abbrev later : List Item
  later = rest mode bools base (length before) clauses

  abbrev count : ℕ
  count = length (items mode bools base clauses)

  insns_are : insns_of (items mode bools base clauses) ≡ insns_of before ++ (Call ∷ insns_of later)
  insns_are =
      map-append (λ (i : Item). i.insn) before (if_reached (lets_pass clauses.before) (from_call mode bools base (length before) clauses))
      ∙ ap (λ insns. insns_of before ++ insns) (same_reached (lets_pass clauses.before) (from_call mode bools base (length before) clauses))

  count_is : count ≡ length before + (1 + length later)
  count_is =
      let from = from_call mode bools base (length before) clauses in
      omega (arith, length-append before (if_reached (lets_pass clauses.before) from), reached_length (lets_pass clauses.before) from)

  -- What holds of each of the others, and of the call, holds of all.
  all_insns : (P Q : BlockInsn → Type 0) → ((insn : BlockInsn) → P insn → Q insn) → Q Call → AllByRecursion (λ (i : Item). P i.insn) before
      → AllByRecursion (λ (i : Item). P i.insn) later → AllByRecursion Q (insns_of (items mode bools base clauses))
  all_insns P Q gives own b l =
      let R : List BlockInsn → Type 0 = AllByRecursion Q in
      subst R (sym insns_are) (all_joined Q (insns_of before) (Call ∷ insns_of later) (each before b) (own, each later l))
    where
      each : (items : List Item) → AllByRecursion (λ (i : Item). P i.insn) items → AllByRecursion Q (insns_of items)
      each [] all = tt
      each (i ∷ items) all = (gives i.insn all.0, each items all.1)

  own_once : (own : List Item) (others : List BlockInsn) → AllByRecursion (λ (i : Item). IsOwn count i.insn) own → calls_in (insns_of own ++ others) ≡ calls_in others
  own_once [] others all = refl
  own_once (i ∷ own) others all = all.0.once (insns_of own ++ others) ∙ own_once own others all.1

  called_once : AllByRecursion (λ (i : Item). IsOwn count i.insn) before → AllByRecursion (λ (i : Item). IsOwn count i.insn) later
      → calls_in (insns_of (items mode bools base clauses)) ≡ 1
  called_once b l =
      ap calls_in insns_are ∙ own_once before (Call ∷ insns_of later) b
      ∙ ap suc (ap calls_in (sym (append-nil (insns_of later))) ∙ own_once later [] l)

-- ---- where it catches

handler_there : (mode : Mode) (bools : List Bool) (base at : ℕ) (o : Option Clause) → catches mode o ≡ true → 1 ≤ length (handler mode bools base at o)
handler_there Release bools base at None e = absurd cc
handler_there Hold bools base at None e = omega arith
handler_there Release bools base at (Some clause) e = omega (arith, handler_length Release bools base at clause)
handler_there Hold bools base at (Some clause) e = omega (arith, handler_length Hold bools base at clause)

caught_there : (mode : Mode) (bools : List Bool) (base at : ℕ) (clauses : Clauses) → catches mode clauses.exceptional ≡ true
    → 2 ≤ length (caught mode bools base at clauses)
caught_there mode bools base at clauses e = by (catches mode clauses.exceptional) e
  where
    by : (b : Bool) → b ≡ true → 2 ≤ length (if b then with_handler mode bools base (at + 1) clauses else [])
    by true same =
        omega (arith, with_handler_length mode bools base (at + 1) clauses, handler_there mode bools base (at + 1) clauses.exceptional e)
    by false same = absurd cc

handler_within : (mode : Mode) (bools : List Bool) (base : ℕ) (clauses : Clauses)
    → IfSome (handler_at mode bools base clauses) (λ place. place < length (insns_of (items mode bools base clauses)))
handler_within mode bools base clauses = by (catches mode clauses.exceptional) refl
  where
    at : ℕ
    at = length (front mode bools base clauses.before)

    by : (b : Bool) → catches mode clauses.exceptional ≡ b
        → IfSome (if b then Some (at + length (called mode bools base at clauses) + 1) else None) (λ place. place < length (insns_of (items mode bools base clauses)))
    by true e =
        let thrown = caught mode bools base (at + length (called mode bools base at clauses)) clauses in
        omega (
          arith,
          count_is mode bools base clauses,
          mapped_length (λ (i : Item). i.insn) (items mode bools base clauses),
          length-append (following mode bools base (at + 1) clauses.after) thrown,
          caught_there mode bools base (at + length (called mode bools base at clauses)) clauses e,
        )
    by false e = tt

-- ---- the branches of a policy

module _ (vars : List Var) (maxint : ℤ) (askable : Askable) where
  number_fits : maxint ≤ℤ pos 1000000000 → (update : Update) → IsUpdateIn vars maxint update → FitsSigned w32 (number_of update)
  number_fits most (Set var value) is = ranged is.variable.is_bool is.fits
    where
      ranged : (b : Bool) → IsInRange maxint b value → FitsSigned w32 value
      ranged true r = let low = r.low in let high = r.high in grind (arith, ints)
      ranged false r = let low = r.low in let high = r.high in grind (arith, ints)
  number_fits most (Add var by) is = let low = is.fits.1.0 in let high = is.fits.1.1 in grind (arith, ints)

  update_fits : length vars ≤ 16 → maxint ≤ℤ pos 1000000000 → (update : Update) → IsUpdateIn vars maxint update → MakesNumber update
  update_fits few most update is = record {
    index = omega (arith, slice_get_within vars (variable_of update) is.variable is.there);
    number = number_fits most update is;
  }

  updates_fit : length vars ≤ 16 → maxint ≤ℤ pos 1000000000 → (updates : List Update) → AllByRecursion (IsUpdateIn vars maxint) updates
      → AllByRecursion MakesNumber updates
  updates_fit few most [] all = tt
  updates_fit few most (u ∷ updates) all = (update_fits few most u all.0, updates_fit few most updates all.1)

  index_fits : length vars ≤ 16 → (asks : Base) → IsBase (length vars) askable asks → HasIndex asks
  index_fits few (bases.Var var) is = omega arith
  index_fits few (bases.Arg i) is = tt
  index_fits few bases.Result is = tt

  asks_fit : length vars ≤ 16 → (base : ℕ) (atoms : List Atom) → AreAtoms (length vars) askable atoms
      → AllByRecursion (λ (a : Atom). HasLocal base a.base) atoms → AllByRecursion (λ (a : Atom). FitsSigned w32 a.value) atoms
      → AllByRecursion (AsksNumber base) atoms
  asks_fit few base [] are locals numbers = tt
  asks_fit few base (atom ∷ atoms) are locals numbers =
      (record { local = locals.0; index = index_fits few atom.base are.0; number = numbers.0 }, asks_fit few base atoms are.1 locals.1 numbers.1)

  pub tried_fit : (base : ℕ) (branches : List Branch) → length vars ≤ 16 → maxint ≤ℤ pos 1000000000
      → AllByRecursion (IsBranchIn vars maxint askable) branches → AllByRecursion (HasLocals base) branches → AllByRecursion AreNumbers branches
      → AllByRecursion (Tried (AsksNumber base) MakesNumber) branches
  tried_fit base [] few most are locals numbers = tt
  tried_fit base (branch ∷ branches) few most are locals numbers = (
    (asks_fit few base branch.atoms are.0.atoms locals.0 numbers.0, updates_fit few most branch.updates are.0.updates),
    tried_fit base branches few most are.1 locals.1 numbers.1,
  )

  -- the variables are there

  is_known : (var : ℕ) → var < length vars → IsKnown (bools_in vars) var
  is_known var below = by (slice_get (bools_in vars) var) (slice_get-get_or (bools_in vars) var false (omega (arith, mapped_length (λ (v : Var). v.is_bool) vars)))
    where
      by : (o : Option Bool) → o ≡ Some (get_or (bools_in vars) var false) → o ≡ Some (option_map_or (λ (b : Bool). b) o false)
      by None e = absurd cc
      by (Some b) e = refl

  base_known : (asks : Base) → IsBase (length vars) askable asks → AsksKnown (bools_in vars) asks
  base_known (bases.Var var) is = is_known var is
  base_known (bases.Arg i) is = tt
  base_known bases.Result is = tt

  asks_known : (atoms : List Atom) → AreAtoms (length vars) askable atoms → AllByRecursion (λ (a : Atom). AsksKnown (bools_in vars) a.base) atoms
  asks_known [] are = tt
  asks_known (atom ∷ atoms) are = (base_known atom.base are.0, asks_known atoms are.1)

  makes_known : (updates : List Update) → AllByRecursion (IsUpdateIn vars maxint) updates → AllByRecursion (λ (u : Update). IsKnown (bools_in vars) (variable_of u)) updates
  makes_known [] all = tt
  makes_known (u ∷ updates) all = (is_known (variable_of u) (slice_get_within vars (variable_of u) all.0.variable all.0.there), makes_known updates all.1)

  pub tried_known : (branches : List Branch) → AllByRecursion (IsBranchIn vars maxint askable) branches
      → AllByRecursion (Tried (λ atom. AsksKnown (bools_in vars) atom.base) (λ update. IsKnown (bools_in vars) (variable_of update))) branches
  tried_known [] are = tt
  tried_known (branch ∷ branches) are = ((asks_known branch.atoms are.0.atoms, makes_known branch.updates are.0.updates), tried_known branches are.1)

-- what the variables are at first

firsts_of : (maxint : ℤ) (vars : List Var) → maxint ≤ℤ pos 1000000000 → AllByRecursion (λ (v : Var). IsInRange maxint v.is_bool v.first) vars
    → AllByRecursion (λ (v : Var). FitsSigned w32 v.first) vars
firsts_of maxint [] most are = tt
firsts_of maxint (v ∷ vars) most are = (ranged v.is_bool are.0, firsts_of maxint vars most are.1)
  where
    ranged : (b : Bool) → IsInRange maxint b v.first → FitsSigned w32 v.first
    ranged true r = let low = r.low in let high = r.high in grind (arith, ints)
    ranged false r = let low = r.low in let high = r.high in grind (arith, ints)

pub firsts_fit : (policy : Policy) → IsPolicy policy → AllByRecursion (λ (v : Var). FitsSigned w32 v.first) policy.vars
firsts_fit policy read = firsts_of policy.maxint policy.vars read.maxint_high read.vars

-- ---- the clauses of a method

numbers_there : (policy : Policy) (method : ℕ) (phase : Phase) → HasNumbers policy → IfSome (clause_at policy method phase) (λ c. AllByRecursion AreNumbers c.branches)
numbers_there policy method phase numbers =
    by (clause_at policy method phase)
    (found_is (λ c. AllByRecursion AreNumbers c.branches) (λ (c : Clause). (c.method == method) && is_phase phase c.phase) policy.clauses numbers)
  where
    by : (o : Option Clause) → IfSome o (Found (λ c. AllByRecursion AreNumbers c.branches) (λ (c : Clause). (c.method == method) && is_phase phase c.phase))
        → IfSome o (λ c. AllByRecursion AreNumbers c.branches)
    by None found = tt
    by (Some clause) found = found.0

all_fit : (policy : Policy) (base : ℕ) (phase : Phase) (o : Option Clause) → IsPolicy policy → IfSome o (IsOf policy phase) → IfSome o (IsShort base)
    → IfSome o (λ c. AllByRecursion AreNumbers c.branches) → IfSome o (λ c. AllByRecursion (Tried (AsksNumber base) MakesNumber) c.branches)
all_fit policy base phase None read is short numbers = tt
all_fit policy base phase (Some c) read is short numbers =
    tried_fit policy.vars policy.maxint (asked c.phase c.args c.result) base c.branches read.few_vars read.maxint_high is.fits.branches short.locals numbers

abbrev KnownIn : List Bool → Branch → Type 0
KnownIn bools = Tried (λ atom. AsksKnown bools atom.base) (λ update. IsKnown bools (variable_of update))

all_known : (policy : Policy) (phase : Phase) (o : Option Clause) → IfSome o (IsOf policy phase) → IfSome o (λ c. AllByRecursion (KnownIn (bools_of policy)) c.branches)
all_known policy phase None is = tt
all_known policy phase (Some c) is = tried_known policy.vars policy.maxint (asked c.phase c.args c.result) c.branches is.fits.branches

arguments_in : (base : ℕ) (o : Option Clause) → IfSome o (λ c. base + length c.args < 2 ^ 16) → IfSome o (λ c. (i : ℕ) → i < length c.args → base + i < 2 ^ 16)
arguments_in base None few = tt
arguments_in base (Some c) few = λ i below. omega arith

result_in : (base : ℕ) (kind : Option Kind) → base < 2 ^ 16 → IfSome kind (λ k. base < 2 ^ 16)
result_in base None few = tt
result_in base (Some kind) few = few

results_in : (base : ℕ) (o : Option Clause) → IfSome o (λ c. base + kept c.result < 2 ^ 16) → IfSome o (λ c. IfSome c.result (λ k. base < 2 ^ 16))
results_in base None few = tt
results_in base (Some c) few = result_in base c.result (omega arith)

no_slots : (base : ℕ) (o : Option Clause) → IfSome o (λ c. (i : ℕ) → i < length c.args → ⊤)
no_slots base None = tt
no_slots base (Some c) = λ i below. tt

no_slot : (kind : Option Kind) → IfSome kind (λ k. ⊤)
no_slot None = tt
no_slot (Some kind) = tt

no_results : (o : Option Clause) → IfSome o (λ c. IfSome c.result (λ k. ⊤))
no_results None = tt
no_results (Some c) = no_slot c.result

-- ---- the block of a method

module _ (policy : Policy) (mode : Mode) (method base : ℕ) (read : IsPolicy policy) where
  abbrev bools : List Bool
  bools = bools_of policy

  abbrev clauses : Clauses
  clauses = clauses_of policy method

  abbrev whole : ℕ
  whole = count mode bools base clauses

  abbrev first : List Item
  first = before mode bools base clauses

  front_within : length first ≤ whole
  front_within = omega (arith, count_is mode bools base clauses)

  rest_within : length first + length (from_call mode bools base (length first) clauses) ≤ whole
  rest_within = omega (arith, count_is mode bools base clauses)

  module _ (numbers : HasNumbers policy) (few : base + locals_used policy method < 2 ^ 16) where
    roomy : IsRoomy base clauses
    roomy = policy_roomy policy method base read few

    first_own : AllByRecursion (λ (i : Item). IsOwn whole i.insn) first
    first_own =
        front_each (IsOwn whole) (λ slot. slot < 2 ^ 16) (AsksNumber base) MakesNumber bools base whole (own_rows bools base whole) mode clauses.before
        (arguments_in base clauses.before roomy.arguments)
        (all_fit policy base Before clauses.before read (clause_is policy method Before read) roomy.before (numbers_there policy method Before numbers))
        front_within

    later_own : AllByRecursion (λ (i : Item). IsOwn whole i.insn) (later mode bools base clauses)
    later_own =
        rest_each (IsOwn whole) (λ slot. slot < 2 ^ 16) (AsksNumber base) MakesNumber bools base whole (own_rows bools base whole) mode (length first) clauses
        (results_in base clauses.after roomy.result)
        (all_fit policy base After clauses.after read (clause_is policy method After read) roomy.after (numbers_there policy method After numbers))
        (all_fit policy base Exceptional clauses.exceptional read (clause_is policy method Exceptional read) roomy.exceptional (numbers_there policy method Exceptional numbers))
        rest_within

    block_fits : IsBlock (block_with mode bools base clauses)
    block_fits =
        let thrown_at = length first + length (called mode bools base (length first) clauses) in
        let same = mapped_length (λ (i : Item). i.insn) (items mode bools base clauses) in
        let Stays : ℕ → Type 0 = λ n. AllByRecursion (JumpsWithin n) (insns_of (items mode bools base clauses)) in
        record {
          some = omega (arith, same, count_is mode bools base clauses);
          few = omega (
            arith,
            same,
            count_is mode bools base clauses,
            front_short mode bools base clauses.before roomy.arguments roomy.before,
            length-append (following mode bools base (length first + 1) clauses.after) (caught mode bools base thrown_at clauses),
            after_short mode bools base (length first + 1) clauses.after roomy.after,
            caught_short mode bools base thrown_at clauses roomy.exceptional,
          );
          once = called_once mode bools base clauses first_own later_own;
          each = all_insns mode bools base clauses (IsOwn whole) IsBlockInsn (λ insn own. own.fits) tt first_own later_own;
          jumps = subst Stays (sym same) (all_insns mode bools base clauses (IsOwn whole) (JumpsWithin whole) (λ insn own. own.stays) tt first_own later_own);
          catches = handler_within mode bools base clauses;
        }

  insns_name : AllByRecursion (Names bools) (insns_of (items mode bools base clauses))
  insns_name =
      all_insns mode bools base clauses (Names bools) (Names bools) (λ insn named. named) tt
      (front_each (Names bools) (λ slot. ⊤) (λ atom. AsksKnown bools atom.base) (λ update. IsKnown bools (variable_of update)) bools base whole (names_rows bools base whole)
      mode clauses.before (no_slots base clauses.before) (all_known policy Before clauses.before (clause_is policy method Before read)) front_within)
      (rest_each (Names bools) (λ slot. ⊤) (λ atom. AsksKnown bools atom.base) (λ update. IsKnown bools (variable_of update)) bools base whole (names_rows bools base whole)
      mode (length first) clauses (no_results clauses.after) (all_known policy After clauses.after (clause_is policy method After read))
      (all_known policy Exceptional clauses.exceptional (clause_is policy method Exceptional read)) rest_within)

wants_named : (known : List Bool) (insns : List BlockInsn) → AllByRecursion (Names known) insns → AllByRecursion (NamesVariable known) (filter_map want_of insns)
wants_named known [] all = tt
wants_named known (insn ∷ insns) all = by (want_of insn) all.0 (wants_named known insns all.1)
  where
    by : (o : Option PoolWant) → IfSome o (NamesVariable known) → AllByRecursion (NamesVariable known) (filter_map want_of insns)
        → AllByRecursion (NamesVariable known) (cons_option o (filter_map want_of insns))
    by None named others = others
    by (Some want) named others = (named, others)

-- ---- sites

block_there : (policy : Policy) (mode : Mode) (method base : ℕ) → is_some (block policy mode method base) ≡ has_clauses policy method
block_there policy mode method base = by (has_clauses policy method)
  where
    by : (b : Bool) → is_some (if b then Some (block_with mode (bools_of policy) base (clauses_of policy method)) else None) ≡ b
    by true = refl
    by false = refl

site_there : (policy : Policy) (mode : Mode) (base : ℕ) (ref : Target) → is_some (site policy mode base ref) ≡ has_block policy ref
site_there policy mode base (target.ApiMethod method) = block_there policy mode method base
site_there policy mode base target.None = refl
site_there policy mode base (target.Builtin index) = refl
site_there policy mode base (target.Method class method) = refl
site_there policy mode base (target.Field class field) = refl
site_there policy mode base (target.ApiField index) = refl
site_there policy mode base (target.ClassName name) = refl
site_there policy mode base (target.Number n) = refl
site_there policy mode base (target.Literal index) = refl

listed : (policy : Policy) (ref : Target) → has_block policy ref ≡ true → IsListedCall ref
listed policy (target.ApiMethod method) e = tt
listed policy target.None e = absurd cc
listed policy (target.Builtin index) e = absurd cc
listed policy (target.Method class method) e = absurd cc
listed policy (target.Field class field) e = absurd cc
listed policy (target.ApiField index) e = absurd cc
listed policy (target.ClassName name) e = absurd cc
listed policy (target.Number n) e = absurd cc
listed policy (target.Literal index) e = absurd cc

pub site_fits : (policy : Policy) (mode : Mode) (base : ℕ) (ref : Target) → IsPolicy policy → HasNumbers policy → base + site_locals policy ref < 2 ^ 16
    → IsSite (site policy mode base ref)
site_fits policy mode base (target.ApiMethod method) read numbers few = by (has_clauses policy method)
  where
    by : (b : Bool) → IsSite (if b then Some (block_with mode (bools_of policy) base (clauses_of policy method)) else None)
    by true = block_fits policy mode method base read numbers few
    by false = tt
site_fits policy mode base target.None read numbers few = tt
site_fits policy mode base (target.Builtin index) read numbers few = tt
site_fits policy mode base (target.Method class method) read numbers few = tt
site_fits policy mode base (target.Field class field) read numbers few = tt
site_fits policy mode base (target.ApiField index) read numbers few = tt
site_fits policy mode base (target.ClassName name) read numbers few = tt
site_fits policy mode base (target.Number n) read numbers few = tt
site_fits policy mode base (target.Literal index) read numbers few = tt

site_names : (policy : Policy) (mode : Mode) (base : ℕ) (ref : Target) → IsPolicy policy → AllByRecursion (NamesVariable (bools_of policy)) (block_wants (site policy mode base ref))
site_names policy mode base (target.ApiMethod method) read = by (has_clauses policy method)
  where
    by : (b : Bool) → AllByRecursion (NamesVariable (bools_of policy)) (block_wants (if b then Some (block_with mode (bools_of policy) base (clauses_of policy method)) else None))
    by true = wants_named (bools_of policy) (insns_of (items mode (bools_of policy) base (clauses_of policy method))) (insns_name policy mode method base read)
    by false = tt
site_names policy mode base target.None read = tt
site_names policy mode base (target.Builtin index) read = tt
site_names policy mode base (target.Method class method) read = tt
site_names policy mode base (target.Field class field) read = tt
site_names policy mode base (target.ApiField index) read = tt
site_names policy mode base (target.ClassName name) read = tt
site_names policy mode base (target.Number n) read = tt
site_names policy mode base (target.Literal index) read = tt

pub plans_good : PlansAreGood
plans_good policy mode read numbers = record {
  there = λ base ref. site_there policy mode base ref;
  calls = λ ref e. listed policy ref e;
  fits = λ base ref few. site_fits policy mode base ref read numbers few;
  names = λ base ref. site_names policy mode base ref read;
}
