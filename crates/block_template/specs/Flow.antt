-- Where control goes in a block, told by what is so before an instruction: a graph of roles, which Blocks lays out as a list.
-- (docs/BLOCKS.md)
use Rattle.std.specs.Prelude.{
  ◌≡◌,
  ◌≢◌,
  ℕ,
  zero,
  suc,
  ◌+◌,
  ◌==◌,
  not,
  if◌then◌else◌,
  Bool,
  true,
  false,
  List,
  [],
  length,
  Option,
  Some,
  None,
  slice_get,
  is_some,
  option_map,
  option_and_then,
  pos,
  IfSome,
}
use Rattle.std.specs.Option.{option_map_or}
use Rattle.cert_format.specs.declared.certificate.Mode.{Mode}
use Rattle.cert_format.specs.declared.certificate.Mode.TheVariants.{Hold, Release}
use Rattle.conspec_tree.specs.declared.types.Kind.{Kind}
use Rattle.conspec_tree.specs.declared.types.Phase.{Phase}
use Rattle.conspec_tree.specs.declared.types.Phase.TheVariants.{Before, After, Exceptional}
use Rattle.conspec_tree.specs.declared.types.Atom.{Atom}
use Rattle.conspec_tree.specs.declared.types.Update.{Update}
use Rattle.conspec_automaton.specs.declared.policy.Branch.{Branch}
use Rattle.conspec_automaton.specs.declared.policy.Clause.{Clause}
use Rattle.insn_codec.specs.declared.opcodes.TheConstants.{
  ACONST_NULL,
  LDC_W,
  GOTO,
  INVOKESTATIC,
  ATHROW,
  MONITORENTER,
  MONITOREXIT,
}
use Rattle.offset_patch.specs.declared.block.BlockInsn.{BlockInsn}
use Rattle.offset_patch.specs.declared.block.BlockInsn.TheVariants.{Plain, Byte, Short, Local, Want, Jump, Call}
use Rattle.block_template.specs.declared.item.Item.{Item}
use Rattle.block_template.specs.declared.item.Role.{Role}
use Rattle.block_template.specs.declared.item.Role.TheVariants as roles
use Rattle.offset_patch.specs.declared.block.PoolWant.TheVariants.{StateClass, Exit}
use Rattle.block_template.specs.declared.steps.Step.{Step}
use Rattle.block_template.specs.Pushing.{store, load}
use Rattle.block_template.specs.Steps.{ask_size, ask_steps, step_insn, update_size, update_steps}
use Rattle.block_template.specs.Blocks.{Clauses, catches, lets_pass, handler_at, is_locked, items}

-- ---- a check

-- of the branch of this number, so many updates are made
abbrev pub made : Phase → ℕ → ℕ → Branch → Role
made phase n update branch =
    option_map_or (λ (u : Update). roles.Update phase n update 0) (slice_get branch.updates update) (roles.Taken phase n)

-- so many of its atoms hold
abbrev pub held : Phase → ℕ → ℕ → Branch → Role
held phase n atom branch = option_map_or (λ (a : Atom). roles.Ask phase n atom 0) (slice_get branch.atoms atom) (made phase n 0 branch)

-- the branch of this number is tried, or the program is stopped where there is none
abbrev pub tries : Phase → ℕ → List Branch → Role
tries phase n branches = option_map_or (held phase n 0) (slice_get branches n) (roles.Stop phase 0)

-- One more step of this atom's comparison is done. A role that names no branch or atom is that of no item.
abbrev pub ask_goes : Phase → ℕ → ℕ → ℕ → Branch → Option Atom → Role
ask_goes phase n a done branch None = roles.Unreached
ask_goes phase n a done branch (Some atom) =
    if done + 1 == ask_size atom then held phase n (a + 1) branch else roles.Ask phase n a (done + 1)

abbrev pub compared : Phase → ℕ → ℕ → ℕ → Option Branch → Role
compared phase n a done None = roles.Unreached
compared phase n a done (Some branch) = ask_goes phase n a done branch (slice_get branch.atoms a)

-- One more step of this update is done. A role that names no branch or update is that of no item.
abbrev pub update_goes : Phase → ℕ → ℕ → ℕ → Branch → Option Update → Role
update_goes phase n u done branch None = roles.Unreached
update_goes phase n u done branch (Some update) =
    if done + 1 == update_size update then made phase n (u + 1) branch else roles.Update phase n u (done + 1)

abbrev pub updated : Phase → ℕ → ℕ → ℕ → Option Branch → Role
updated phase n u done None = roles.Unreached
updated phase n u done (Some branch) = update_goes phase n u done branch (slice_get branch.updates u)

-- the branches of a clause
abbrev pub branches_of : Option Clause → List Branch
branches_of None = []
branches_of (Some clause) = clause.branches

-- the clause for this phase
abbrev pub clause_in : Clauses → Phase → Option Clause
clause_in clauses Before = clauses.before
clause_in clauses After = clauses.after
clause_in clauses Exceptional = clauses.exceptional

-- its branches
abbrev pub branches_in : Clauses → Phase → List Branch
branches_in clauses phase = branches_of (clause_in clauses phase)

-- ---- the arguments

-- so many are not kept yet
abbrev pub saving : ℕ → Role
saving zero = roles.Lock Before false
saving (suc left) = roles.Save (suc left)

-- the kind of an argument that is kept
abbrev pub argument_at : Clauses → ℕ → Option Kind
argument_at clauses n = option_and_then (λ (c : Clause). slice_get c.args n) clauses.before

-- so many stand on the stack again
abbrev pub loading : Clauses → ℕ → Bool → Role
loading clauses n locked = option_map_or (λ (k : Kind). roles.Load n locked) (argument_at clauses n) (roles.Call locked)

-- ---- the result

-- whether the block keeps what the call gives
abbrev pub keeps_result : Clauses → Bool
keeps_result clauses = option_map_or (λ (c : Clause). is_some c.result) clauses.after false

-- ---- parts

-- what comes once the lock is taken
abbrev pub locked_for : Option Clause → Phase → Role
locked_for (Some clause) phase = tries phase 0 clause.branches
locked_for None Before = roles.Call true
locked_for None After = roles.Unreached
locked_for None Exceptional = roles.Unreached

-- what comes once a check's update is made
abbrev pub checked_in : Mode → Clauses → Phase → Role
checked_in Release clauses phase = roles.Unlock phase true false
checked_in Hold clauses Before = loading clauses 0 true
checked_in Hold clauses After = roles.Unlock After true false
checked_in Hold clauses Exceptional = roles.Unlock Exceptional true false

-- what comes once the lock is left
abbrev pub unlocked_in : Clauses → Phase → Role
unlocked_in clauses Before = loading clauses 0 false
unlocked_in clauses After = if keeps_result clauses then roles.Give else roles.Leave
unlocked_in clauses Exceptional = roles.Rethrow

-- how a check after the call begins
abbrev pub check_after : Mode → Phase → Clause → Role
check_after Release phase clause = roles.Lock phase false
check_after Hold phase clause = tries phase 0 clause.branches

-- what comes where the call has returned
abbrev pub after_return : Mode → Option Clause → Role
after_return Release None = roles.Leave
after_return Hold None = roles.Unlock After false false
after_return mode (Some clause) = if is_some clause.result then roles.Keep (is_locked mode) else check_after mode After clause

-- what comes once the result is kept
abbrev pub kept_by : Mode → Option Clause → Role
kept_by mode None = roles.Unreached
kept_by mode (Some clause) = check_after mode After clause

-- what comes where it has thrown
abbrev pub thrown : Mode → Option Clause → Role
thrown Release None = roles.Unreached
thrown Hold None = roles.Unlock Exceptional false false
thrown mode (Some clause) = check_after mode Exceptional clause

-- what comes first
abbrev pub entered : Mode → Option Clause → Role
entered Release None = roles.Call false
entered Hold None = roles.Lock Before false
entered mode (Some clause) = saving (length clause.args)

-- ---- the graph

-- what is so after an instruction that goes on
abbrev pub next : Mode → Clauses → Role → Role
next mode clauses (roles.Save zero) = roles.Unreached
next mode clauses (roles.Save (suc left)) = saving left
next mode clauses (roles.Lock phase false) = roles.Lock phase true
next mode clauses (roles.Lock phase true) = locked_for (clause_in clauses phase) phase
next mode clauses (roles.Ask phase branch atom done) = compared phase branch atom done (slice_get (branches_in clauses phase) branch)
next mode clauses (roles.Update phase branch update done) = updated phase branch update done (slice_get (branches_in clauses phase) branch)
next mode clauses (roles.Taken phase branch) = roles.Unreached
next mode clauses (roles.Stop phase done) = roles.Stop phase (done + 1)
next mode clauses (roles.Unlock phase checked false) = roles.Unlock phase checked true
next mode clauses (roles.Unlock phase checked true) = unlocked_in clauses phase
next mode clauses (roles.Load n locked) = loading clauses (n + 1) locked
next mode clauses (roles.Call locked) = after_return mode clauses.after
next mode clauses (roles.Keep locked) = kept_by mode clauses.after
next mode clauses roles.Give = roles.Leave
next mode clauses roles.Leave = roles.Unreached
next mode clauses roles.Rethrow = roles.Unreached
next mode clauses roles.Unreached = roles.Unreached

-- what is so where an instruction jumps: an atom that does not hold, a branch that is done, the block that is left
abbrev pub jumps : Mode → Clauses → Role → Role
jumps mode clauses (roles.Ask phase branch atom done) = tries phase (branch + 1) (branches_in clauses phase)
jumps mode clauses (roles.Taken phase branch) = checked_in mode clauses phase
jumps mode clauses roles.Leave = roles.Leave
jumps mode clauses (roles.Save left) = roles.Unreached
jumps mode clauses (roles.Lock phase pushed) = roles.Unreached
jumps mode clauses (roles.Update phase branch update done) = roles.Unreached
jumps mode clauses (roles.Stop phase done) = roles.Unreached
jumps mode clauses (roles.Unlock phase checked pushed) = roles.Unreached
jumps mode clauses (roles.Load n locked) = roles.Unreached
jumps mode clauses (roles.Call locked) = roles.Unreached
jumps mode clauses (roles.Keep locked) = roles.Unreached
jumps mode clauses roles.Give = roles.Unreached
jumps mode clauses roles.Rethrow = roles.Unreached
jumps mode clauses roles.Unreached = roles.Unreached

-- ---- the instructions

-- the branch and the parts that a role names
abbrev pub branch_at : Clauses → Phase → ℕ → Option Branch
branch_at clauses phase n = slice_get (branches_in clauses phase) n

abbrev pub atom_at : Clauses → Phase → ℕ → ℕ → Option Atom
atom_at clauses phase n atom = option_and_then (λ (b : Branch). slice_get b.atoms atom) (branch_at clauses phase n)

-- the steps of the atom that a role names
abbrev pub asking : Clauses → Phase → ℕ → ℕ → List Step
asking clauses phase n atom = option_map_or ask_steps (atom_at clauses phase n atom) []

abbrev pub update_at : Clauses → Phase → ℕ → ℕ → Option Update
update_at clauses phase n update = option_and_then (λ (b : Branch). slice_get b.updates update) (branch_at clauses phase n)

-- the steps of the update that a role names
abbrev pub updating : Clauses → Phase → ℕ → ℕ → List Step
updating clauses phase n update = option_map_or update_steps (update_at clauses phase n update) []

-- the kind of the result that is kept
abbrev pub result_in : Clauses → Option Kind
result_in clauses = option_and_then (λ (c : Clause). c.result) clauses.after

-- on the way out so many are done
abbrev pub stop_insn : ℕ → Option BlockInsn
stop_insn zero = Some (Byte (pos 77))
stop_insn (suc zero) = Some (Want INVOKESTATIC Exit)
stop_insn (suc (suc zero)) = Some (Plain ACONST_NULL)
stop_insn (suc (suc (suc zero))) = Some (Plain ATHROW)
stop_insn (suc (suc (suc (suc done)))) = None

-- The lock is taken, and left; its class is pushed first.
abbrev pub taking : Bool → BlockInsn
taking false = Want LDC_W StateClass
taking true = Plain MONITORENTER

abbrev pub leaving : Bool → BlockInsn
leaving false = Want LDC_W StateClass
leaving true = Plain MONITOREXIT

-- the instruction of a role, in a block that ends at `end`; what jumps within it goes to the place `to`
abbrev pub insn_of : List Bool → ℕ → Clauses → ℕ → ℕ → Role → Option BlockInsn
insn_of bools base clauses end to (roles.Save zero) = None
insn_of bools base clauses end to (roles.Save (suc n)) = option_map (λ (k : Kind). store k (base + n)) (argument_at clauses n)
insn_of bools base clauses end to (roles.Lock phase pushed) = Some (taking pushed)
insn_of bools base clauses end to (roles.Ask phase branch atom done) = step_insn bools base to (asking clauses phase branch atom) done
insn_of bools base clauses end to (roles.Update phase branch update done) = step_insn bools 0 0 (updating clauses phase branch update) done
insn_of bools base clauses end to (roles.Taken phase branch) = Some (Jump GOTO to)
insn_of bools base clauses end to (roles.Stop phase done) = stop_insn done
insn_of bools base clauses end to (roles.Unlock phase checked pushed) = Some (leaving pushed)
insn_of bools base clauses end to (roles.Load n locked) = option_map (λ (k : Kind). load k (base + n)) (argument_at clauses n)
insn_of bools base clauses end to (roles.Call locked) = Some Call
insn_of bools base clauses end to (roles.Keep locked) = option_map (λ (k : Kind). store k base) (result_in clauses)
insn_of bools base clauses end to roles.Give = option_map (λ (k : Kind). load k base) (result_in clauses)
insn_of bools base clauses end to roles.Leave = Some (Jump GOTO end)
insn_of bools base clauses end to roles.Rethrow = Some (Plain ATHROW)
insn_of bools base clauses end to roles.Unreached = None

-- ---- the block is that graph

-- what is so at a place of the block; after its end the block is left
abbrev pub role_at : List Item → ℕ → Role
role_at items at = option_map_or (λ (i : Item). i.role) (slice_get items at) roles.Leave

-- whether control goes on after an instruction, or may
abbrev pub may_pass : BlockInsn → Bool
may_pass (Jump op place) = not (op == GOTO)
may_pass (Plain op) = not (op == ATHROW)
may_pass (Byte n) = true
may_pass (Short n) = true
may_pass (Local op slot wide) = true
may_pass (Want op want) = true
may_pass Call = true

-- where it jumps
abbrev pub jump_of : BlockInsn → Option ℕ
jump_of (Jump op place) = Some place
jump_of (Plain op) = None
jump_of (Byte n) = None
jump_of (Short n) = None
jump_of (Local op slot wide) = None
jump_of (Want op want) = None
jump_of Call = None

-- An item of a block that ends at `end` has the instruction of its role, and control goes from it as the graph tells: `there` tells
-- what is so at each place of the block, and `after` is so after the item.
pub record IsLed (mode : Mode) (bools : List Bool) (base : ℕ) (clauses : Clauses) (end : ℕ)
    (there : ℕ → Role) (i : Item) (after : Role) : Type 0 where
  pub is : (to : ℕ) × (insn_of bools base clauses end to i.role ≡ Some i.insn)
  pub passes : may_pass i.insn ≡ true → after ≡ next mode clauses i.role
  pub lands : IfSome (jump_of i.insn) (λ place. there place ≡ jumps mode clauses i.role)

-- Each clause is for its phase.
pub record AreForPhases (clauses : Clauses) : Type 0 where
  pub before : IfSome clauses.before (λ c. c.phase ≡ Before)
  pub after : IfSome clauses.after (λ c. c.phase ≡ After)
  pub exceptional : IfSome clauses.exceptional (λ c. c.phase ≡ Exceptional)

-- A list of items begins, goes on from each instruction that is reached, and catches at this place, as the graph tells.
pub record Flows (mode : Mode) (bools : List Bool) (base : ℕ) (clauses : Clauses) (items : List Item) (handler : Option ℕ) : Type 0 where
  pub begins : role_at items 0 ≡ entered mode clauses.before
  pub goes : (at : ℕ) (i : Item) → slice_get items at ≡ Some i → i.role ≢ roles.Unreached
      → IsLed mode bools base clauses (length items) (role_at items) i (role_at items (at + 1))
  pub handles : is_some handler ≡ catches mode clauses.exceptional
  pub caught : lets_pass clauses.before ≡ true → IfSome handler (λ place. role_at items place ≡ thrown mode clauses.exceptional)

-- So does each block.
abbrev pub BlocksFlow : Type 0
BlocksFlow =
    (mode : Mode) (bools : List Bool) (base : ℕ) (clauses : Clauses) → AreForPhases clauses
    → Flows mode bools base clauses (items mode bools base clauses) (handler_at mode bools base clauses)
