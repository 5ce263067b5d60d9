-- How long the parts of blocks are.
use Rattle.std.proofs.Common.{◌≡◌, ℕ, ◌+◌, ◌<◌, ◌≤◌, ◌^◌, Bool, true, false, List, [], ◌∷◌, ◌++◌, length, map, refl, arith, length-append}
use Rattle.std.specs.Prelude.{Option, Some, None, IfSome, if◌then◌else◌}
use Rattle.cert_format.specs.declared.certificate.Mode.{Mode}
use Rattle.cert_format.specs.declared.certificate.Mode.TheVariants.{Hold, Release}
use Rattle.conspec_tree.specs.declared.types.Atom.{Atom}
use Rattle.conspec_tree.specs.declared.types.Kind.{Kind}
use Rattle.conspec_tree.specs.declared.types.Phase.{Phase}
use Rattle.conspec_tree.specs.declared.types.Phase.TheVariants.{Before, After, Exceptional}
use Rattle.conspec_tree.specs.declared.types.Update.{Update}
use Rattle.conspec_tree.specs.declared.types.Update.TheVariants.{Set, Add}
use Rattle.conspec_automaton.specs.declared.policy.Branch.{Branch}
use Rattle.conspec_automaton.specs.declared.policy.Clause.{Clause}
use Rattle.offset_patch.specs.declared.block.BlockInsn.TheVariants.{Jump}
use Rattle.insn_codec.specs.declared.opcodes.TheConstants.{GOTO}
use Rattle.block_template.specs.declared.item.Item.{Item}
use Rattle.block_template.specs.declared.item.Role.TheVariants as roles
use Rattle.block_template.specs.Pushing.{store}
use Rattle.block_template.specs.Blocks.{Clauses, following, called, catches, caught, checked, from_call, front, items, lets_pass, handler, kept, leave, released, rethrow, with_handler}
use Rattle.block_template.specs.Room.{IsRoomy, IsShort}
use Rattle.block_template.specs.Parts.{
  asks,
  asks_size,
  branch_size,
  branches,
  branches_size,
  check,
  give,
  if_reached,
  item,
  keep,
  loads,
  lock,
  save,
  tried,
  unlock,
  unreached,
  updates_size,
  writes,
}

-- ---- counts

pub asks_count : (atoms : List Atom) → length atoms ≤ asks_size atoms
asks_count [] = omega arith
asks_count (atom ∷ atoms) = omega (arith, asks_count atoms)

pub updates_count : (updates : List Update) → length updates ≤ updates_size updates
updates_count [] = omega arith
updates_count (Set var value ∷ updates) = omega (arith, updates_count updates)
updates_count (Add var by ∷ updates) = omega (arith, updates_count updates)

pub branches_count : (branches : List Branch) → length branches + 4 ≤ branches_size branches
branches_count [] = omega arith
branches_count (branch ∷ branches) = omega (arith, branches_count branches)

-- ---- lengths

pub save_length : (base n : ℕ) (kinds : List Kind) → length (save base n kinds) ≡ length kinds
save_length base n [] = refl
save_length base n (kind ∷ kinds) = omega (arith, length-append (save base (n + 1) kinds) (item (store kind (base + n)) (roles.Save (n + 1)) ∷ []), save_length base (n + 1) kinds)

pub loads_length : (locked : Bool) (base n : ℕ) (kinds : List Kind) → length (loads locked base n kinds) ≡ length kinds
loads_length locked base n [] = refl
loads_length locked base n (kind ∷ kinds) = omega (arith, loads_length locked base (n + 1) kinds)

pub mapped_length : {X Y : Type 0} (f : X → Y) (xs : List X) → length (map f xs) ≡ length xs
mapped_length f [] = refl
mapped_length f (x ∷ xs) = omega (arith, mapped_length f xs)

pub reached_length : (b : Bool) (items : List Item) → length (if_reached b items) ≡ length items
reached_length true items = refl
reached_length false items = mapped_length unreached items

module _ (bools : List Bool) (base : ℕ) (phase : Phase) where
  pub asks_length : (branch n next : ℕ) (atoms : List Atom) → length (asks bools base phase branch n next atoms) ≡ asks_size atoms
  asks_length branch n next [] = refl
  asks_length branch n next (atom ∷ atoms) = omega (arith, asks_length branch (n + 1) next atoms)

  pub writes_length : (branch n : ℕ) (updates : List Update) → length (writes bools phase branch n updates) ≡ updates_size updates
  writes_length branch n [] = refl
  writes_length branch n (Set var value ∷ updates) = omega (arith, writes_length branch (n + 1) updates)
  writes_length branch n (Add var by ∷ updates) = omega (arith, writes_length branch (n + 1) updates)

  pub tried_length : (n next done : ℕ) (branch : Branch) → length (tried bools base phase n next done branch) ≡ branch_size branch
  tried_length n next done branch =
      let last = item (Jump GOTO done) (roles.Taken phase n) ∷ [] in
      omega (
        arith,
        length-append (asks bools base phase n 0 next branch.atoms) (writes bools phase n 0 branch.updates ++ last),
        length-append (writes bools phase n 0 branch.updates) last,
        asks_length n 0 next branch.atoms,
        writes_length n 0 branch.updates,
      )

  pub branches_length : (n at done : ℕ) (all : List Branch) → length (branches bools base phase n at done all) ≡ branches_size all
  branches_length n at done [] = refl
  branches_length n at done (branch ∷ others) =
      omega (
        arith,
        length-append (tried bools base phase n (at + branch_size branch) done branch) (branches bools base phase (n + 1) (at + branch_size branch) done others),
        tried_length n (at + branch_size branch) done branch,
        branches_length (n + 1) (at + branch_size branch) done others,
      )

pub check_length : (bools : List Bool) (base at : ℕ) (clause : Clause) → length (check bools base at clause) ≡ branches_size clause.branches
check_length bools base at clause = branches_length bools base clause.phase 0 at (at + branches_size clause.branches) clause.branches

-- ---- what stands before the call, after it, and in the handler

pub keep_length : (locked : Bool) (base : ℕ) (kind : Option Kind) → length (keep locked base kind) ≡ kept kind
keep_length locked base None = refl
keep_length locked base (Some kind) = refl

give_length : (base : ℕ) (kind : Option Kind) → length (give base kind) ≡ kept kind
give_length base None = refl
give_length base (Some kind) = refl

kept_few : (kind : Option Kind) → kept kind ≤ 1
kept_few None = omega arith
kept_few (Some kind) = omega arith

pub checked_length : (bools : List Bool) (base at : ℕ) (clause : Clause) (later : List Item)
    → length (checked bools base at clause later) ≡ branches_size clause.branches + length later
checked_length bools base at clause later =
    omega (
      arith,
      length-append (check bools base at clause) (if_reached (lets_pass (Some clause)) later),
      check_length bools base at clause,
      reached_length (lets_pass (Some clause)) later,
    )

released_length : (bools : List Bool) (base at : ℕ) (clause : Clause) (later : List Item)
    → length (released bools base at clause later) ≡ branches_size clause.branches + length later + 4
released_length bools base at clause later = omega (arith, checked_length bools base (at + 2) clause (unlock clause.phase true ++ later))

-- how long it is, but for the check
abbrev pub front_rest : Mode → Clause → ℕ
front_rest Release clause = length clause.args + length clause.args + 4
front_rest Hold clause = length clause.args + length clause.args + 2

pub front_length : (mode : Mode) (bools : List Bool) (base : ℕ) (clause : Clause)
    → length (front mode bools base (Some clause)) ≡ branches_size clause.branches + front_rest mode clause
front_length Release bools base clause =
    let later = loads false base 0 clause.args in
    omega (
      arith,
      length-append (save base 0 clause.args) (released bools base (length clause.args) clause later),
      save_length base 0 clause.args,
      released_length bools base (length clause.args) clause later,
      loads_length false base 0 clause.args,
    )
front_length Hold bools base clause =
    let later = loads true base 0 clause.args in
    omega (
      arith,
      length-append (save base 0 clause.args) (lock Before ++ checked bools base (length clause.args + 2) clause later),
      save_length base 0 clause.args,
      checked_length bools base (length clause.args + 2) clause later,
      loads_length true base 0 clause.args,
    )

abbrev pub after_rest : Mode → Clause → ℕ
after_rest Release clause = kept clause.result + kept clause.result + 4
after_rest Hold clause = kept clause.result + kept clause.result + 2

pub after_length : (mode : Mode) (bools : List Bool) (base at : ℕ) (clause : Clause)
    → length (following mode bools base at (Some clause)) ≡ branches_size clause.branches + after_rest mode clause
after_length Release bools base at clause =
    let begin = at + kept clause.result in
    omega (
      arith,
      length-append (keep false base clause.result) (released bools base begin clause (give base clause.result)),
      keep_length false base clause.result,
      released_length bools base begin clause (give base clause.result),
      give_length base clause.result,
    )
after_length Hold bools base at clause =
    let begin = at + kept clause.result in
    let later = unlock After true ++ give base clause.result in
    omega (
      arith,
      length-append (keep true base clause.result) (checked bools base begin clause later),
      keep_length true base clause.result,
      checked_length bools base begin clause later,
      give_length base clause.result,
    )

abbrev pub handler_rest : Mode → ℕ
handler_rest Release = 5
handler_rest Hold = 3

pub handler_length : (mode : Mode) (bools : List Bool) (base at : ℕ) (clause : Clause)
    → length (handler mode bools base at (Some clause)) ≡ branches_size clause.branches + handler_rest mode
handler_length Release bools base at clause = omega (arith, released_length bools base at clause rethrow)
handler_length Hold bools base at clause = omega (arith, checked_length bools base at clause (unlock Exceptional true ++ rethrow))

-- ---- the checks lie within

abbrev pub locking : Mode → ℕ
locking Release = 2
locking Hold = 0

pub front_covers : (mode : Mode) (bools : List Bool) (base : ℕ) (clause : Clause)
    → length clause.args + 2 + branches_size clause.branches ≤ length (front mode bools base (Some clause))
front_covers Release bools base clause = omega (arith, front_length Release bools base clause)
front_covers Hold bools base clause = omega (arith, front_length Hold bools base clause)

pub after_covers : (mode : Mode) (bools : List Bool) (base at : ℕ) (clause : Clause)
    → kept clause.result + (locking mode + branches_size clause.branches) ≤ length (following mode bools base at (Some clause))
after_covers Release bools base at clause = omega (arith, after_length Release bools base at clause)
after_covers Hold bools base at clause = omega (arith, after_length Hold bools base at clause)

pub handler_covers : (mode : Mode) (bools : List Bool) (base at : ℕ) (clause : Clause)
    → locking mode + branches_size clause.branches ≤ length (handler mode bools base at (Some clause))
handler_covers Release bools base at clause = omega (arith, handler_length Release bools base at clause)
handler_covers Hold bools base at clause = omega (arith, handler_length Hold bools base at clause)

-- ---- they are short

pub front_short : (mode : Mode) (bools : List Bool) (base : ℕ) (o : Option Clause) → IfSome o (λ clause. base + length clause.args < 2 ^ 16)
    → IfSome o (IsShort base) → length (front mode bools base o) < 2 ^ 22
front_short Release bools base None few short = omega arith
front_short Hold bools base None few short = omega arith
front_short Release bools base (Some clause) few short = omega (arith, front_length Release bools base clause, short.size)
front_short Hold bools base (Some clause) few short = omega (arith, front_length Hold bools base clause, short.size)

pub after_short : (mode : Mode) (bools : List Bool) (base at : ℕ) (o : Option Clause) → IfSome o (IsShort base) → length (following mode bools base at o) < 2 ^ 14
after_short Release bools base at None short = omega arith
after_short Hold bools base at None short = omega arith
after_short Release bools base at (Some clause) short = omega (arith, after_length Release bools base at clause, kept_few clause.result, short.size)
after_short Hold bools base at (Some clause) short = omega (arith, after_length Hold bools base at clause, kept_few clause.result, short.size)

pub handler_short : (mode : Mode) (bools : List Bool) (base at : ℕ) (o : Option Clause) → IfSome o (IsShort base) → length (handler mode bools base at o) < 2 ^ 14
handler_short Release bools base at None short = omega arith
handler_short Hold bools base at None short = omega arith
handler_short Release bools base at (Some clause) short = omega (arith, handler_length Release bools base at clause, short.size)
handler_short Hold bools base at (Some clause) short = omega (arith, handler_length Hold bools base at clause, short.size)

-- ---- from the call on

pub with_handler_length : (mode : Mode) (bools : List Bool) (base at : ℕ) (clauses : Clauses)
    → length (with_handler mode bools base at clauses) ≡ 1 + length (handler mode bools base at clauses.exceptional)
with_handler_length mode bools base at clauses =
    let thrown = handler mode bools base at clauses.exceptional in
    let over = leave (at + length thrown) ∷ [] in
    omega (arith, length-append (if_reached (lets_pass clauses.after) over) thrown, reached_length (lets_pass clauses.after) over)

-- what stands after the call
abbrev pub rest : Mode → List Bool → ℕ → ℕ → Clauses → List Item
rest mode bools base at clauses =
    following mode bools base (at + 1) clauses.after ++ caught mode bools base (at + length (called mode bools base at clauses)) clauses

pub caught_short : (mode : Mode) (bools : List Bool) (base at : ℕ) (clauses : Clauses) → IfSome clauses.exceptional (IsShort base)
    → length (caught mode bools base at clauses) < 2 ^ 15
caught_short mode bools base at clauses short = by (catches mode clauses.exceptional)
  where
    by : (b : Bool) → length (if b then with_handler mode bools base (at + 1) clauses else []) < 2 ^ 15
    by true = omega (arith, with_handler_length mode bools base (at + 1) clauses, handler_short mode bools base (at + 1) clauses.exceptional short)
    by false = omega arith

-- ---- the whole block

-- A clause has at most 255 arguments.
abbrev pub HasFewArguments : Option Clause → Type 0
HasFewArguments o = IfSome o (λ clause. length clause.args ≤ 255)

front_few : (mode : Mode) (bools : List Bool) (base : ℕ) (o : Option Clause) → HasFewArguments o → IfSome o (IsShort base)
    → length (front mode bools base o) < 2 ^ 14
front_few Release bools base None few short = omega arith
front_few Hold bools base None few short = omega arith
front_few Release bools base (Some clause) few short = omega (arith, front_length Release bools base clause, short.size, few)
front_few Hold bools base (Some clause) few short = omega (arith, front_length Hold bools base clause, short.size, few)

from_call_short : (mode : Mode) (bools : List Bool) (base at : ℕ) (clauses : Clauses) → IsRoomy base clauses
    → length (from_call mode bools base at clauses) < 2 ^ 15 + 2 ^ 14 + 1
from_call_short mode bools base at clauses room =
    let made = called mode bools base at clauses in
    omega (
      arith,
      length-append made (caught mode bools base (at + length made) clauses),
      after_short mode bools base (at + 1) clauses.after room.after,
      caught_short mode bools base (at + length made) clauses room.exceptional,
    )

pub items_short : (mode : Mode) (bools : List Bool) (base : ℕ) (clauses : Clauses) → IsRoomy base clauses → HasFewArguments clauses.before
    → length (items mode bools base clauses) < 2 ^ 16
items_short mode bools base clauses room few =
    let first = front mode bools base clauses.before in
    let later = from_call mode bools base (length first) clauses in
    omega (
      arith,
      length-append first (if_reached (lets_pass clauses.before) later),
      reached_length (lets_pass clauses.before) later,
      front_few mode bools base clauses.before few room.before,
      from_call_short mode bools base (length first) clauses room,
    )
