-- The jumps of a block go forward.
use Rattle.std.proofs.Common.{◌≡◌, ℕ, ◌+◌, ◌<◌, ◌≤◌, ℤ, Bool, true, false, List, [], ◌∷◌, ◌++◌, length, map, Option, Some, None, refl, subst, arith}
use Rattle.std.specs.Prelude.{IfSome, if◌then◌else◌, nat_lt, ⊤}
use Rattle.std.specs.List.{AllByRecursion}
use Rattle.insn_codec.specs.declared.opcodes.TheConstants.{GOTO, ILOAD, ALOAD, ILOAD_0, ALOAD_0, ISTORE, ASTORE, ISTORE_0, ASTORE_0}
use Rattle.cert_format.specs.declared.certificate.Mode.{Mode}
use Rattle.cert_format.specs.declared.certificate.Mode.TheVariants.{Hold, Release}
use Rattle.conspec_tree.specs.declared.types.Atom.{Atom}
use Rattle.conspec_tree.specs.declared.types.Base.{Base}
use Rattle.conspec_tree.specs.declared.types.Base.TheVariants as bases
use Rattle.conspec_tree.specs.declared.types.Kind.{Kind}
use Rattle.conspec_tree.specs.declared.types.Kind.TheVariants as kinds
use Rattle.conspec_tree.specs.declared.types.Phase.{Phase}
use Rattle.conspec_tree.specs.declared.types.Phase.TheVariants.{Before, After, Exceptional}
use Rattle.conspec_tree.specs.declared.types.Update.{Update}
use Rattle.conspec_tree.specs.declared.types.Update.TheVariants.{Set, Add}
use Rattle.conspec_automaton.specs.declared.policy.Branch.{Branch}
use Rattle.conspec_automaton.specs.declared.policy.Clause.{Clause}
use Rattle.conspec_automaton.specs.Next.{has_clauses}
use Rattle.offset_patch.specs.declared.block.Block.{Block}
use Rattle.offset_patch.specs.declared.block.BlockInsn.{BlockInsn}
use Rattle.offset_patch.specs.declared.block.BlockInsn.TheVariants.{Jump}
use Rattle.block_template.specs.declared.item.Item.{Item}
use Rattle.block_template.specs.declared.item.Role.TheVariants as roles
use Rattle.block_template.specs.Blocks.{
  Clauses,
  following,
  block_with,
  bools_of,
  call,
  called,
  catches,
  caught,
  checked,
  clauses_of,
  from_call,
  front,
  handler,
  items,
  kept,
  leave,
  lets_pass,
  released,
  rethrow,
  with_handler,
}
use Rattle.block_template.specs.Forward.{BlocksGoForward, GoForward, GoesForward}
use Rattle.block_template.specs.Parts.{
  asks,
  asks_size,
  branch_size,
  branches,
  branches_size,
  check,
  give,
  if_reached,
  item,
  keep,
  loads,
  lock,
  save,
  stop,
  tried,
  unlock,
  unreached,
  updates_size,
  writes,
}
use Rattle.block_template.specs.Pushing.{load, local, push, push_base, store}
use Rattle.block_template.proofs.Insns.{chosen, pushed}
use Rattle.block_template.proofs.Rows.{all_joined}
use Rattle.block_template.proofs.Sizes.{asks_length, check_length, keep_length, reached_length, save_length, tried_length, writes_length}

-- ---- of items

abbrev Ahead : ℕ → List Item → Type 0
Ahead at [] = ⊤
Ahead at (i ∷ others) = GoesForward at i.insn × Ahead (at + 1) others

joined : (at to : ℕ) (xs ys : List Item) → at + length xs ≡ to → Ahead at xs → Ahead to ys → Ahead at (xs ++ ys)
joined at to [] ys e a b =
    let same : to ≡ at = omega (arith, e) in
    subst (λ (n : ℕ). Ahead n ys) same b
joined at to (x ∷ xs) ys e a b = (a.0, joined (at + 1) to xs ys (omega (arith, e)) a.1 b)

-- An instruction that does not jump may stand anywhere.
abbrev IsStraight : BlockInsn → Type 0
IsStraight insn = (at : ℕ) → GoesForward at insn

abbrev AreStraight : List Item → Type 0
AreStraight part = AllByRecursion (λ (i : Item). IsStraight i.insn) part

straight : (at : ℕ) (part : List Item) → AreStraight part → Ahead at part
straight at [] all = tt
straight at (i ∷ part) all = (all.0 at, straight (at + 1) part all.1)

both : (xs ys : List Item) → AreStraight xs → AreStraight ys → AreStraight (xs ++ ys)
both xs ys a b = all_joined (λ (i : Item). IsStraight i.insn) xs ys a b

unreached_ahead : (at : ℕ) (part : List Item) → Ahead at part → Ahead at (map unreached part)
unreached_ahead at [] a = tt
unreached_ahead at (i ∷ part) a = (a.0, unreached_ahead (at + 1) part a.1)

reached_ahead : (b : Bool) (at : ℕ) (part : List Item) → Ahead at part → Ahead at (if_reached b part)
reached_ahead true at part a = a
reached_ahead false at part a = unreached_ahead at part a

-- ---- what is pushed, loaded and stored

push_straight : (n : ℤ) → IsStraight (push n)
push_straight n = pushed IsStraight n (λ k few at. tt) (λ f at. tt) (λ f at. tt) (λ at. tt)

local_straight : (short op slot : ℕ) → IsStraight (local short op slot)
local_straight short op slot = chosen IsStraight (nat_lt slot 4) _ _ (λ e at. tt) (λ e at. tt)

store_straight : (kind : Kind) (slot : ℕ) → IsStraight (store kind slot)
store_straight kinds.Object slot = local_straight ASTORE_0 ASTORE slot
store_straight kind slot = local_straight ISTORE_0 ISTORE slot

load_straight : (kind : Kind) (slot : ℕ) → IsStraight (load kind slot)
load_straight kinds.Object slot = local_straight ALOAD_0 ALOAD slot
load_straight kind slot = local_straight ILOAD_0 ILOAD slot

base_straight : (bools : List Bool) (base : ℕ) (asks : Base) → IsStraight (push_base bools base asks)
base_straight bools base (bases.Var var) = λ at. tt
base_straight bools base (bases.Arg i) = local_straight ILOAD_0 ILOAD (base + i)
base_straight bools base bases.Result = local_straight ILOAD_0 ILOAD base

-- ---- parts that do not jump

lock_straight : (phase : Phase) → AreStraight (lock phase)
lock_straight phase = (λ at. tt, (λ at. tt, tt))

unlock_straight : (phase : Phase) (made : Bool) → AreStraight (unlock phase made)
unlock_straight phase made = (λ at. tt, (λ at. tt, tt))

save_straight : (base n : ℕ) (args : List Kind) → AreStraight (save base n args)
save_straight base n [] = tt
save_straight base n (kind ∷ args) =
    both (save base (n + 1) args) (item (store kind (base + n)) (roles.Save (n + 1)) ∷ []) (save_straight base (n + 1) args) (store_straight kind (base + n), tt)

loads_straight : (locked : Bool) (base n : ℕ) (args : List Kind) → AreStraight (loads locked base n args)
loads_straight locked base n [] = tt
loads_straight locked base n (kind ∷ args) = (load_straight kind (base + n), loads_straight locked base (n + 1) args)

writes_straight : (bools : List Bool) (phase : Phase) (branch n : ℕ) (updates : List Update) → AreStraight (writes bools phase branch n updates)
writes_straight bools phase branch n [] = tt
writes_straight bools phase branch n (Set var value ∷ updates) = (push_straight value, (λ at. tt, writes_straight bools phase branch (n + 1) updates))
writes_straight bools phase branch n (Add var by ∷ updates) =
    (λ at. tt, (push_straight by, (λ at. tt, (λ at. tt, writes_straight bools phase branch (n + 1) updates))))

stop_straight : (phase : Phase) → AreStraight (stop phase)
stop_straight phase = (λ at. tt, (λ at. tt, (λ at. tt, (λ at. tt, tt))))

keep_straight : (locked : Bool) (base : ℕ) (kind : Option Kind) → AreStraight (keep locked base kind)
keep_straight locked base None = tt
keep_straight locked base (Some kind) = (store_straight kind base, tt)

give_straight : (base : ℕ) (kind : Option Kind) → AreStraight (give base kind)
give_straight base None = tt
give_straight base (Some kind) = (load_straight kind base, tt)

rethrow_straight : AreStraight rethrow
rethrow_straight = (λ at. tt, tt)

-- ---- checks

-- Where an atom does not hold the next branch is tried, which stands after.
asks_ahead : (bools : List Bool) (base : ℕ) (phase : Phase) (at branch n next : ℕ) (atoms : List Atom) → at + asks_size atoms ≤ next
    → Ahead at (asks bools base phase branch n next atoms)
asks_ahead bools base phase at branch n next [] less = tt
asks_ahead bools base phase at branch n next (atom ∷ atoms) less =
    let here : at + 1 + 1 < next = omega (arith, less) in
    let later = asks_ahead bools base phase (at + 1 + 1 + 1) branch (n + 1) next atoms (omega (arith, less)) in
    (base_straight bools base atom.base at, (push_straight atom.value (at + 1), (here, later)))

tried_ahead : (bools : List Bool) (base : ℕ) (phase : Phase) (at n next done : ℕ) (branch : Branch) → at + branch_size branch ≤ next → at + branch_size branch ≤ done
    → Ahead at (tried bools base phase n next done branch)
tried_ahead bools base phase at n next done branch first last =
    let asked = asks bools base phase n 0 next branch.atoms in
    let made = writes bools phase n 0 branch.updates in
    let over = item (Jump GOTO done) (roles.Taken phase n) ∷ [] in
    let after_asks : ℕ = at + asks_size branch.atoms in
    let after_writes : ℕ = after_asks + updates_size branch.updates in
    let goes : after_writes < done = omega (arith, last) in
    joined at after_asks asked (made ++ over) (omega (arith, asks_length bools base phase n 0 next branch.atoms))
    (asks_ahead bools base phase at n 0 next branch.atoms (omega (arith, first)))
    (joined after_asks after_writes made over (omega (arith, writes_length bools base phase n 0 branch.updates))
    (straight after_asks made (writes_straight bools phase n 0 branch.updates)) (goes, tt))

branches_ahead : (bools : List Bool) (base : ℕ) (phase : Phase) (n at done : ℕ) (all : List Branch) → at + branches_size all ≤ done
    → Ahead at (branches bools base phase n at done all)
branches_ahead bools base phase n at done [] less = straight at (stop phase) (stop_straight phase)
branches_ahead bools base phase n at done (branch ∷ others) less =
    let next : ℕ = at + branch_size branch in
    joined at next (tried bools base phase n next done branch) (branches bools base phase (n + 1) next done others)
    (omega (arith, tried_length bools base phase n next done branch)) (tried_ahead bools base phase at n next done branch (omega arith) (omega (arith, less)))
    (branches_ahead bools base phase (n + 1) next done others (omega (arith, less)))

check_ahead : (bools : List Bool) (base at : ℕ) (clause : Clause) → Ahead at (check bools base at clause)
check_ahead bools base at clause = branches_ahead bools base clause.phase 0 at (at + branches_size clause.branches) clause.branches (omega arith)

checked_ahead : (bools : List Bool) (base at : ℕ) (clause : Clause) (later : List Item) → AreStraight later → Ahead at (checked bools base at clause later)
checked_ahead bools base at clause later all =
    let to : ℕ = at + branches_size clause.branches in
    joined at to (check bools base at clause) (if_reached (lets_pass (Some clause)) later) (omega (arith, check_length bools base at clause))
    (check_ahead bools base at clause) (reached_ahead (lets_pass (Some clause)) to later (straight to later all))

released_ahead : (bools : List Bool) (base at : ℕ) (clause : Clause) (later : List Item) → AreStraight later → Ahead at (released bools base at clause later)
released_ahead bools base at clause later all =
    joined at (at + 2) (lock clause.phase) (checked bools base (at + 2) clause (unlock clause.phase true ++ later)) (omega arith)
    (straight at (lock clause.phase) (lock_straight clause.phase))
    (checked_ahead bools base (at + 2) clause (unlock clause.phase true ++ later) (both (unlock clause.phase true) later (unlock_straight clause.phase true) all))

-- ---- before the call, after it, and in the handler

front_ahead : (mode : Mode) (bools : List Bool) (base : ℕ) (o : Option Clause) → Ahead 0 (front mode bools base o)
front_ahead Release bools base None = tt
front_ahead Hold bools base None = straight 0 (lock Before) (lock_straight Before)
front_ahead Release bools base (Some clause) =
    let later = loads false base 0 clause.args in
    joined 0 (length clause.args) (save base 0 clause.args) (released bools base (length clause.args) clause later)
    (omega (arith, save_length base 0 clause.args)) (straight 0 (save base 0 clause.args) (save_straight base 0 clause.args))
    (released_ahead bools base (length clause.args) clause later (loads_straight false base 0 clause.args))
front_ahead Hold bools base (Some clause) =
    let later = loads true base 0 clause.args in
    let from : ℕ = length clause.args + 2 in
    joined 0 (length clause.args) (save base 0 clause.args) (lock Before ++ checked bools base from clause later)
    (omega (arith, save_length base 0 clause.args)) (straight 0 (save base 0 clause.args) (save_straight base 0 clause.args))
    (joined (length clause.args) from (lock Before) (checked bools base from clause later) (omega arith)
    (straight (length clause.args) (lock Before) (lock_straight Before)) (checked_ahead bools base from clause later (loads_straight true base 0 clause.args)))

after_ahead : (mode : Mode) (bools : List Bool) (base at : ℕ) (o : Option Clause) → Ahead at (following mode bools base at o)
after_ahead Release bools base at None = tt
after_ahead Hold bools base at None = straight at (unlock After false) (unlock_straight After false)
after_ahead Release bools base at (Some clause) =
    let from : ℕ = at + kept clause.result in
    let later = give base clause.result in
    joined at from (keep false base clause.result) (released bools base from clause later) (omega (arith, keep_length false base clause.result))
    (straight at (keep false base clause.result) (keep_straight false base clause.result))
    (released_ahead bools base from clause later (give_straight base clause.result))
after_ahead Hold bools base at (Some clause) =
    let from : ℕ = at + kept clause.result in
    let later = unlock After true ++ give base clause.result in
    joined at from (keep true base clause.result) (checked bools base from clause later) (omega (arith, keep_length true base clause.result))
    (straight at (keep true base clause.result) (keep_straight true base clause.result))
    (checked_ahead bools base from clause later (both (unlock After true) (give base clause.result) (unlock_straight After true) (give_straight base clause.result)))

handler_ahead : (mode : Mode) (bools : List Bool) (base at : ℕ) (o : Option Clause) → Ahead at (handler mode bools base at o)
handler_ahead Release bools base at None = tt
handler_ahead Hold bools base at None =
    straight at (unlock Exceptional false ++ rethrow) (both (unlock Exceptional false) rethrow (unlock_straight Exceptional false) rethrow_straight)
handler_ahead Release bools base at (Some clause) = released_ahead bools base at clause rethrow rethrow_straight
handler_ahead Hold bools base at (Some clause) =
    checked_ahead bools base at clause (unlock Exceptional true ++ rethrow) (both (unlock Exceptional true) rethrow (unlock_straight Exceptional true) rethrow_straight)

-- ---- the block

-- The jump over the handler, which begins at `at`, stands before it.
with_handler_ahead : (mode : Mode) (bools : List Bool) (base from at : ℕ) (clauses : Clauses) → from + 1 ≡ at → Ahead from (with_handler mode bools base at clauses)
with_handler_ahead mode bools base from at clauses e =
    let thrown = handler mode bools base at clauses.exceptional in
    let over = leave (at + length thrown) ∷ [] in
    let goes : from < at + length thrown = omega (arith, e) in
    joined from at (if_reached (lets_pass clauses.after) over) thrown (omega (arith, e, reached_length (lets_pass clauses.after) over))
    (reached_ahead (lets_pass clauses.after) from over (goes, tt)) (handler_ahead mode bools base at clauses.exceptional)

caught_ahead : (mode : Mode) (bools : List Bool) (base at : ℕ) (clauses : Clauses) → Ahead at (caught mode bools base at clauses)
caught_ahead mode bools base at clauses = by (catches mode clauses.exceptional)
  where
    by : (b : Bool) → Ahead at (if b then with_handler mode bools base (at + 1) clauses else [])
    by true = with_handler_ahead mode bools base at (at + 1) clauses refl
    by false = tt

from_call_ahead : (mode : Mode) (bools : List Bool) (base at : ℕ) (clauses : Clauses) → Ahead at (from_call mode bools base at clauses)
from_call_ahead mode bools base at clauses =
    let to : ℕ = at + length (called mode bools base at clauses) in
    joined at to (called mode bools base at clauses) (caught mode bools base to clauses) refl
    (tt, after_ahead mode bools base (at + 1) clauses.after) (caught_ahead mode bools base to clauses)

items_ahead : (mode : Mode) (bools : List Bool) (base : ℕ) (clauses : Clauses) → Ahead 0 (items mode bools base clauses)
items_ahead mode bools base clauses =
    let first = front mode bools base clauses.before in
    let later = from_call mode bools base (length first) clauses in
    joined 0 (length first) first (if_reached (lets_pass clauses.before) later) (omega arith) (front_ahead mode bools base clauses.before)
    (reached_ahead (lets_pass clauses.before) (length first) later (from_call_ahead mode bools base (length first) clauses))

insns_ahead : (at : ℕ) (all : List Item) → Ahead at all → GoForward at (map (λ (i : Item). i.insn) all)
insns_ahead at [] a = tt
insns_ahead at (i ∷ others) a = (a.0, insns_ahead (at + 1) others a.1)

pub go_forward : BlocksGoForward
go_forward policy mode method base = by (has_clauses policy method)
  where
    by : (b : Bool) → IfSome (if b then Some (block_with mode (bools_of policy) base (clauses_of policy method)) else None) (λ (made : Block). GoForward 0 made.insns)
    by true =
        insns_ahead 0 (items mode (bools_of policy) base (clauses_of policy method)) (items_ahead mode (bools_of policy) base (clauses_of policy method))
    by false = tt
