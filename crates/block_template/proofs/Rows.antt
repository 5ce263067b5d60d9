-- What holds of each instruction by which blocks are made holds of each instruction of a block.
use Rattle.std.proofs.Common.{ℕ, ◌+◌, ◌<◌, ◌≤◌, ℤ, pos, Bool, true, false, List, [], ◌∷◌, ◌++◌, length, map, Option, Some, None, arith, length-append}
use Rattle.std.specs.Prelude.{IfSome, if◌then◌else◌}
use Rattle.std.specs.List.{AllByRecursion}
use Rattle.insn_codec.specs.declared.opcodes.TheConstants.{ACONST_NULL, LDC_W, IADD, GOTO, GETSTATIC, PUTSTATIC, INVOKESTATIC, ATHROW, MONITORENTER, MONITOREXIT}
use Rattle.cert_format.specs.declared.certificate.Mode.{Mode}
use Rattle.cert_format.specs.declared.certificate.Mode.TheVariants.{Hold, Release}
use Rattle.conspec_tree.specs.declared.types.Atom.{Atom}
use Rattle.conspec_tree.specs.declared.types.Kind.{Kind}
use Rattle.conspec_tree.specs.declared.types.Phase.{Phase}
use Rattle.conspec_tree.specs.declared.types.Phase.TheVariants.{Before, After, Exceptional}
use Rattle.conspec_tree.specs.declared.types.Rel.{Rel}
use Rattle.conspec_tree.specs.declared.types.Update.{Update}
use Rattle.conspec_tree.specs.declared.types.Update.TheVariants.{Set, Add}
use Rattle.conspec_automaton.specs.declared.policy.Branch.{Branch}
use Rattle.conspec_automaton.specs.declared.policy.Clause.{Clause}
use Rattle.offset_patch.specs.declared.block.BlockInsn.{BlockInsn}
use Rattle.offset_patch.specs.declared.block.BlockInsn.TheVariants.{Plain, Byte, Want, Jump}
use Rattle.offset_patch.specs.declared.block.PoolWant.TheVariants.{StateClass, Exit}
use Rattle.block_template.specs.declared.item.Item.{Item}
use Rattle.block_template.specs.Blocks.{
  Clauses,
  following,
  called,
  catches,
  caught,
  checked,
  from_call,
  front,
  lets_pass,
  handler,
  kept,
  leave,
  released,
  rethrow,
  with_handler,
}
use Rattle.block_template.specs.Parts.{asks, branch_size, branches, branches_size, check, give, if_reached, keep, loads, lock, save, stop, tried, unlock, unreached, writes}
use Rattle.block_template.specs.Pushing.{field, load, negated, push, push_base, store}
use Rattle.block_template.proofs.Sizes.{after_covers, front_covers, handler_covers, rest, with_handler_length}

pub all_joined : {X : Type 0} (P : X → Type 0) (xs ys : List X) → AllByRecursion P xs → AllByRecursion P ys → AllByRecursion P (xs ++ ys)
all_joined P [] ys a b = b
all_joined P (x ∷ xs) ys a b = (a.0, all_joined P xs ys a.1 b)

-- It holds of each instruction by which a block is made: of what pushes and stores, where the slots, atoms and updates are so; and
-- of jumps to places up to `count`.
pub record Rows (P : BlockInsn → Type 0) (Slot : ℕ → Type 0) (Asked : Atom → Type 0) (Made : Update → Type 0) (bools : List Bool) (base count : ℕ) : Type 0 where
  pub state : P (Want LDC_W StateClass)
  pub enter : P (Plain MONITORENTER)
  pub exit : P (Plain MONITOREXIT)
  pub value : P (Byte (pos 77))
  pub way_out : P (Want INVOKESTATIC Exit)
  pub null : P (Plain ACONST_NULL)
  pub throw : P (Plain ATHROW)
  pub sum : P (Plain IADD)
  pub stores : (kind : Kind) (slot : ℕ) → Slot slot → P (store kind slot)
  pub loads : (kind : Kind) (slot : ℕ) → Slot slot → P (load kind slot)
  pub bases : (atom : Atom) → Asked atom → P (push_base bools base atom.base)
  pub constants : (atom : Atom) → Asked atom → P (push atom.value)
  pub tests : (rel : Rel) (place : ℕ) → place ≤ count → P (Jump (negated rel) place)
  pub leaves : (place : ℕ) → place ≤ count → P (Jump GOTO place)
  pub sets : (var : ℕ) (value : ℤ) → Made (Set var value) → P (push value) × P (Want PUTSTATIC (field bools var))
  pub adds : (var : ℕ) (by : ℤ) → Made (Add var by) → P (Want GETSTATIC (field bools var)) × (P (push by) × P (Want PUTSTATIC (field bools var)))

-- of a branch that is tried: it is so of each of its atoms and updates
abbrev pub Tried : (Atom → Type 0) → (Update → Type 0) → Branch → Type 0
Tried Asked Made branch = AllByRecursion Asked branch.atoms × AllByRecursion Made branch.updates

module _ (P : BlockInsn → Type 0) (Slot : ℕ → Type 0) (Asked : Atom → Type 0) (Made : Update → Type 0) (bools : List Bool) (base count : ℕ)
    (rows : Rows P Slot Asked Made bools base count) where
  abbrev pub Each : List Item → Type 0
  Each items = AllByRecursion (λ (i : Item). P i.insn) items

  joined : (xs ys : List Item) → Each xs → Each ys → Each (xs ++ ys)
  joined xs ys a b = all_joined (λ (i : Item). P i.insn) xs ys a b

  lock_each : (phase : Phase) → Each (lock phase)
  lock_each phase = (rows.state, (rows.enter, tt))

  unlock_each : (phase : Phase) (made : Bool) → Each (unlock phase made)
  unlock_each phase made = (rows.state, (rows.exit, tt))

  save_each : (n : ℕ) (kinds : List Kind) → ((i : ℕ) → i < n + length kinds → Slot (base + i)) → Each (save base n kinds)
  save_each n [] slots = tt
  save_each n (kind ∷ kinds) slots =
      joined (save base (n + 1) kinds) _ (save_each (n + 1) kinds (λ i below. slots i (omega arith))) (rows.stores kind (base + n) (slots n (omega arith)), tt)

  loads_each : (locked : Bool) (n : ℕ) (kinds : List Kind) → ((i : ℕ) → i < n + length kinds → Slot (base + i)) → Each (loads locked base n kinds)
  loads_each locked n [] slots = tt
  loads_each locked n (kind ∷ kinds) slots =
      (rows.loads kind (base + n) (slots n (omega arith)), loads_each locked (n + 1) kinds (λ i below. slots i (omega arith)))

  asks_each : (phase : Phase) (branch n next : ℕ) (atoms : List Atom) → next ≤ count → AllByRecursion Asked atoms → Each (asks bools base phase branch n next atoms)
  asks_each phase branch n next [] within a = tt
  asks_each phase branch n next (atom ∷ atoms) within a =
      (rows.bases atom a.0, (rows.constants atom a.0, (rows.tests atom.rel next within, asks_each phase branch (n + 1) next atoms within a.1)))

  writes_each : (phase : Phase) (branch n : ℕ) (updates : List Update) → AllByRecursion Made updates → Each (writes bools phase branch n updates)
  writes_each phase branch n [] m = tt
  writes_each phase branch n (Set var value ∷ updates) m =
      let set = rows.sets var value m.0 in
      (set.0, (set.1, writes_each phase branch (n + 1) updates m.1))
  writes_each phase branch n (Add var by ∷ updates) m =
      let add = rows.adds var by m.0 in
      (add.0, (add.1.0, (rows.sum, (add.1.1, writes_each phase branch (n + 1) updates m.1))))

  tried_each : (phase : Phase) (n next done : ℕ) (branch : Branch) → next ≤ count → done ≤ count → Tried Asked Made branch → Each (tried bools base phase n next done branch)
  tried_each phase n next done branch within inside t =
      joined (asks bools base phase n 0 next branch.atoms) _ (asks_each phase n 0 next branch.atoms within t.0)
      (joined (writes bools phase n 0 branch.updates) _ (writes_each phase n 0 branch.updates t.1) (rows.leaves done inside, tt))

  stop_each : (phase : Phase) → Each (stop phase)
  stop_each phase = (rows.value, (rows.way_out, (rows.null, (rows.throw, tt))))

  branches_each : (phase : Phase) (n at done : ℕ) (all : List Branch) → at + branches_size all ≤ count → done ≤ count → AllByRecursion (Tried Asked Made) all
      → Each (branches bools base phase n at done all)
  branches_each phase n at done [] within inside t = stop_each phase
  branches_each phase n at done (branch ∷ others) within inside t =
      joined (tried bools base phase n (at + branch_size branch) done branch) _ (tried_each phase n (at + branch_size branch) done branch (omega arith) inside t.0)
      (branches_each phase (n + 1) (at + branch_size branch) done others (omega arith) inside t.1)

  check_each : (at : ℕ) (clause : Clause) → at + branches_size clause.branches ≤ count → AllByRecursion (Tried Asked Made) clause.branches → Each (check bools base at clause)
  check_each at clause within t = branches_each clause.phase 0 at (at + branches_size clause.branches) clause.branches within within t

  keep_each : (locked : Bool) (kind : Option Kind) → IfSome kind (λ k. Slot base) → Each (keep locked base kind)
  keep_each locked None slot = tt
  keep_each locked (Some kind) slot = (rows.stores kind base slot, tt)

  give_each : (kind : Option Kind) → IfSome kind (λ k. Slot base) → Each (give base kind)
  give_each None slot = tt
  give_each (Some kind) slot = (rows.loads kind base slot, tt)

  unreached_each : (items : List Item) → Each items → Each (map unreached items)
  unreached_each [] each = tt
  unreached_each (i ∷ items) each = (each.0, unreached_each items each.1)

  reached_each : (b : Bool) (items : List Item) → Each items → Each (if_reached b items)
  reached_each true items each = each
  reached_each false items each = unreached_each items each

  checked_each : (at : ℕ) (clause : Clause) (later : List Item) → at + branches_size clause.branches ≤ count → AllByRecursion (Tried Asked Made) clause.branches → Each later
      → Each (checked bools base at clause later)
  checked_each at clause later within t each =
      joined (check bools base at clause) _ (check_each at clause within t) (reached_each (lets_pass (Some clause)) later each)

  released_each : (at : ℕ) (clause : Clause) (later : List Item) → at + (2 + branches_size clause.branches) ≤ count → AllByRecursion (Tried Asked Made) clause.branches
      → Each later → Each (released bools base at clause later)
  released_each at clause later within t each =
      joined (lock clause.phase) _ (lock_each clause.phase)
      (checked_each (at + 2) clause (unlock clause.phase true ++ later) (omega arith) t (joined (unlock clause.phase true) _ (unlock_each clause.phase true) each))

  pub front_each : (mode : Mode) (o : Option Clause) → IfSome o (λ c. (i : ℕ) → i < length c.args → Slot (base + i)) → IfSome o (λ c. AllByRecursion (Tried Asked Made) c.branches)
      → length (front mode bools base o) ≤ count → Each (front mode bools base o)
  front_each Release None slots t within = tt
  front_each Hold None slots t within = lock_each Before
  front_each Release (Some clause) slots t within =
      let covers = front_covers Release bools base clause in
      joined (save base 0 clause.args) _ (save_each 0 clause.args (λ i below. slots i (omega arith)))
      (released_each (length clause.args) clause (loads false base 0 clause.args) (omega (arith, covers)) t (loads_each false 0 clause.args (λ i below. slots i (omega arith))))
  front_each Hold (Some clause) slots t within =
      let covers = front_covers Hold bools base clause in
      joined (save base 0 clause.args) _ (save_each 0 clause.args (λ i below. slots i (omega arith)))
      (joined (lock Before) _ (lock_each Before)
      (checked_each (length clause.args + 2) clause (loads true base 0 clause.args) (omega (arith, covers)) t (loads_each true 0 clause.args (λ i below. slots i (omega arith)))))

  pub after_each : (mode : Mode) (at : ℕ) (o : Option Clause) → IfSome o (λ c. IfSome c.result (λ k. Slot base)) → IfSome o (λ c. AllByRecursion (Tried Asked Made) c.branches)
      → at + length (following mode bools base at o) ≤ count → Each (following mode bools base at o)
  after_each Release at None slots t within = tt
  after_each Hold at None slots t within = unlock_each After false
  after_each Release at (Some clause) slots t within =
      let covers = after_covers Release bools base at clause in
      joined (keep false base clause.result) _ (keep_each false clause.result slots)
      (released_each (at + kept clause.result) clause (give base clause.result) (omega (arith, covers)) t (give_each clause.result slots))
  after_each Hold at (Some clause) slots t within =
      let covers = after_covers Hold bools base at clause in
      joined (keep true base clause.result) _ (keep_each true clause.result slots)
      (checked_each (at + kept clause.result) clause (unlock After true ++ give base clause.result) (omega (arith, covers)) t
      (joined (unlock After true) _ (unlock_each After true) (give_each clause.result slots)))

  rethrow_each : Each rethrow
  rethrow_each = (rows.throw, tt)

  handler_each : (mode : Mode) (at : ℕ) (o : Option Clause) → IfSome o (λ c. AllByRecursion (Tried Asked Made) c.branches) → at + length (handler mode bools base at o) ≤ count
      → Each (handler mode bools base at o)
  handler_each Release at None t within = tt
  handler_each Hold at None t within = joined (unlock Exceptional false) rethrow (unlock_each Exceptional false) rethrow_each
  handler_each Release at (Some clause) t within =
      released_each at clause rethrow (omega (arith, handler_covers Release bools base at clause)) t rethrow_each
  handler_each Hold at (Some clause) t within =
      checked_each at clause (unlock Exceptional true ++ rethrow) (omega (arith, handler_covers Hold bools base at clause)) t
      (joined (unlock Exceptional true) rethrow (unlock_each Exceptional true) rethrow_each)

  with_handler_each : (mode : Mode) (at : ℕ) (clauses : Clauses) → IfSome clauses.exceptional (λ c. AllByRecursion (Tried Asked Made) c.branches)
      → at + length (handler mode bools base at clauses.exceptional) ≤ count → Each (with_handler mode bools base at clauses)
  with_handler_each mode at clauses t within =
      let end = at + length (handler mode bools base at clauses.exceptional) in
      joined (if_reached (lets_pass clauses.after) (leave end ∷ [])) _ (reached_each (lets_pass clauses.after) (leave end ∷ []) (rows.leaves end within, tt))
      (handler_each mode at clauses.exceptional t within)

  pub caught_each : (mode : Mode) (at : ℕ) (clauses : Clauses) → IfSome clauses.exceptional (λ c. AllByRecursion (Tried Asked Made) c.branches)
      → at + length (caught mode bools base at clauses) ≤ count → Each (caught mode bools base at clauses)
  caught_each mode at clauses t within = by (catches mode clauses.exceptional) within
    where
      by : (b : Bool) → at + length (if b then with_handler mode bools base (at + 1) clauses else []) ≤ count
          → Each (if b then with_handler mode bools base (at + 1) clauses else [])
      by true within = with_handler_each mode (at + 1) clauses t (omega (arith, with_handler_length mode bools base (at + 1) clauses))
      by false within = tt

  pub rest_each : (mode : Mode) (at : ℕ) (clauses : Clauses) → IfSome clauses.after (λ c. IfSome c.result (λ k. Slot base))
      → IfSome clauses.after (λ c. AllByRecursion (Tried Asked Made) c.branches)
      → IfSome clauses.exceptional (λ c. AllByRecursion (Tried Asked Made) c.branches)
      → at + length (from_call mode bools base at clauses) ≤ count → Each (rest mode bools base at clauses)
  rest_each mode at clauses slots after thrown within =
      let later = caught mode bools base (at + length (called mode bools base at clauses)) clauses in
      let parts = length-append (following mode bools base (at + 1) clauses.after) later in
      joined (following mode bools base (at + 1) clauses.after) later (after_each mode (at + 1) clauses.after slots after (omega (arith, parts)))
      (caught_each mode (at + length (called mode bools base at clauses)) clauses thrown (omega (arith, parts)))
