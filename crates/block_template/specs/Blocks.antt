-- The block of a call: what is done before it, after it where it returns, and where it throws. (docs/BLOCKS.md)
use Rattle.std.specs.Prelude.{ℕ, ◌+◌, ◌==◌, ◌&&◌, max, Bool, true, false, not, if◌then◌else◌, List, [], ◌∷◌, ◌++◌, length, map, find, Option, Some, None}
use Rattle.std.specs.Option.{option_map_or}
use Rattle.bytecode_model.specs.declared.program.Target.{Target}
use Rattle.bytecode_model.specs.declared.program.Target.TheVariants as target
use Rattle.cert_format.specs.declared.certificate.Mode.{Mode}
use Rattle.cert_format.specs.declared.certificate.Mode.TheVariants.{Hold, Release}
use Rattle.conspec_tree.specs.declared.types.Kind.{Kind}
use Rattle.conspec_tree.specs.declared.types.Phase.{Phase}
use Rattle.conspec_tree.specs.declared.types.Phase.TheVariants.{Before, After, Exceptional}
use Rattle.conspec_automaton.specs.declared.policy.Clause.{Clause}
use Rattle.conspec_automaton.specs.declared.policy.Policy.{Policy}
use Rattle.conspec_automaton.specs.Denying.{is_empty}
use Rattle.conspec_automaton.specs.Next.{has_clauses}
use Rattle.offset_patch.specs.declared.block.Block.{Block}
use Rattle.offset_patch.specs.declared.block.BlockInsn.TheVariants.{Plain, Jump, Call}
use Rattle.offset_patch.specs.Plan.{Plan}
use Rattle.insn_codec.specs.declared.opcodes.TheConstants.{GOTO, ATHROW}
use Rattle.block_template.specs.declared.item.Item.{Item}
use Rattle.block_template.specs.declared.item.Role.TheVariants as roles
use Rattle.block_template.specs.Pushing.{bools_in}
use Rattle.block_template.specs.Parts.{item, lock, unlock, save, loads, check, keep, give, if_reached}

-- ---- the clauses of a method

abbrev pub is_phase : Phase → Phase → Bool
is_phase Before Before = true
is_phase After After = true
is_phase Exceptional Exceptional = true
is_phase phase other = false

abbrev pub clause_at : Policy → ℕ → Phase → Option Clause
clause_at policy method phase = find (λ (c : Clause). (c.method == method) && is_phase phase c.phase) policy.clauses

-- those of a call, a return and an exception of the method
pub record Clauses : Type 0 where
  pub before : Option Clause
  pub after : Option Clause
  pub exceptional : Option Clause

abbrev pub clauses_of : Policy → ℕ → Clauses
clauses_of policy method = record {
  before = clause_at policy method Before;
  after = clause_at policy method After;
  exceptional = clause_at policy method Exceptional;
}

-- A check without branches stops the program.
abbrev pub lets_pass : Option Clause → Bool
lets_pass None = true
lets_pass (Some clause) = not (is_empty clause.branches)

-- ---- mode release: each check takes the lock and leaves it

-- In `following` stand the instructions after a check and its lock.
abbrev pub checked : List Bool → ℕ → ℕ → Clause → List Item → List Item
checked bools base at clause following = check bools base at clause ++ if_reached (lets_pass (Some clause)) following

abbrev pub released : List Bool → ℕ → ℕ → Clause → List Item → List Item
released bools base at clause following = lock clause.phase ++ checked bools base (at + 2) clause (unlock clause.phase true ++ following)

-- ---- before the call

abbrev pub front : Mode → List Bool → ℕ → Option Clause → List Item
front Release bools base None = []
front Release bools base (Some clause) =
    save base 0 clause.args ++ released bools base (length clause.args) clause (loads false base 0 clause.args)
front Hold bools base None = lock Before
front Hold bools base (Some clause) =
    save base 0 clause.args ++ (lock Before ++ checked bools base (length clause.args + 2) clause (loads true base 0 clause.args))

abbrev pub is_locked : Mode → Bool
is_locked Hold = true
is_locked Release = false

abbrev pub call : Mode → Item
call mode = item Call (roles.Call (is_locked mode))

-- ---- after the call, where it returns

abbrev pub kept : Option Kind → ℕ
kept None = 0
kept (Some kind) = 1

abbrev pub following : Mode → List Bool → ℕ → ℕ → Option Clause → List Item
following Release bools base at None = []
following Release bools base at (Some clause) =
    keep false base clause.result ++ released bools base (at + kept clause.result) clause (give base clause.result)
following Hold bools base at None = unlock After false
following Hold bools base at (Some clause) =
    keep true base clause.result ++ checked bools base (at + kept clause.result) clause (unlock After true ++ give base clause.result)

-- ---- where the call throws

abbrev pub rethrow : List Item
rethrow = item (Plain ATHROW) roles.Rethrow ∷ []

-- the handler, which begins at `at`
abbrev pub handler : Mode → List Bool → ℕ → ℕ → Option Clause → List Item
handler Release bools base at None = []
handler Release bools base at (Some clause) = released bools base at clause rethrow
handler Hold bools base at None = unlock Exceptional false ++ rethrow
handler Hold bools base at (Some clause) = checked bools base at clause (unlock Exceptional true ++ rethrow)

-- In mode hold what the call throws is caught always, else where a clause is for it.
abbrev pub catches : Mode → Option Clause → Bool
catches Hold clause = true
catches Release None = false
catches Release (Some clause) = true

-- The handler stands after a jump over it.
abbrev pub leave : ℕ → Item
leave end = item (Jump GOTO end) roles.Leave

-- ---- the block

-- what stands from the call on, which is at `at`
abbrev pub called : Mode → List Bool → ℕ → ℕ → Clauses → List Item
called mode bools base at clauses = call mode ∷ following mode bools base (at + 1) clauses.after

-- a block that catches, whose handler begins at `at`
abbrev pub with_handler : Mode → List Bool → ℕ → ℕ → Clauses → List Item
with_handler mode bools base at clauses =
    if_reached (lets_pass clauses.after) (leave (at + length (handler mode bools base at clauses.exceptional)) ∷ [])
    ++ handler mode bools base at clauses.exceptional

abbrev pub caught : Mode → List Bool → ℕ → ℕ → Clauses → List Item
caught mode bools base at clauses = if catches mode clauses.exceptional then with_handler mode bools base (at + 1) clauses else []

-- what stands from the call on, with the handler
abbrev pub from_call : Mode → List Bool → ℕ → ℕ → Clauses → List Item
from_call mode bools base at clauses =
    called mode bools base at clauses ++ caught mode bools base (at + length (called mode bools base at clauses)) clauses

abbrev pub items : Mode → List Bool → ℕ → Clauses → List Item
items mode bools base clauses =
    front mode bools base clauses.before
    ++ if_reached (lets_pass clauses.before) (from_call mode bools base (length (front mode bools base clauses.before)) clauses)

-- where the handler begins, where the call is at `at`
abbrev pub from_handler : Mode → List Bool → ℕ → ℕ → Clauses → Option ℕ
from_handler mode bools base at clauses =
    if catches mode clauses.exceptional then Some (at + length (called mode bools base at clauses) + 1) else None

abbrev pub handler_at : Mode → List Bool → ℕ → Clauses → Option ℕ
handler_at mode bools base clauses = from_handler mode bools base (length (front mode bools base clauses.before)) clauses

abbrev pub block_with : Mode → List Bool → ℕ → Clauses → Block
block_with mode bools base clauses = record {
  insns = map (λ (i : Item). i.insn) (items mode bools base clauses);
  handler = handler_at mode bools base clauses;
}

-- ---- which calls have a block

abbrev pub bools_of : Policy → List Bool
bools_of policy = bools_in policy.vars

-- the block of a method, where a clause names it, in a method whose own locals end at `base`
abbrev pub block : Policy → Mode → ℕ → ℕ → Option Block
block policy mode method base =
    if has_clauses policy method then Some (block_with mode (bools_of policy) base (clauses_of policy method)) else None

-- The arguments are kept before a check of the call, and the result before one of the return.
abbrev pub locals_used : Policy → ℕ → ℕ
locals_used policy method =
    max (option_map_or (λ (c : Clause). length c.args) (clause_at policy method Before) 0)
    (option_map_or (λ (c : Clause). kept c.result) (clause_at policy method After) 0)

-- whether an instruction has a block, by what its operand names
abbrev pub has_block : Policy → Target → Bool
has_block policy (target.ApiMethod method) = has_clauses policy method
has_block policy other = false

-- its block
abbrev pub site : Policy → Mode → ℕ → Target → Option Block
site policy mode base (target.ApiMethod method) = block policy mode method base
site policy mode base other = None

abbrev pub site_locals : Policy → Target → ℕ
site_locals policy (target.ApiMethod method) = locals_used policy method
site_locals policy other = 0

-- a policy, and how its blocks use the lock
pub record Planned : Type 0 where
  pub policy : Policy
  pub mode : Mode

-- the plan of a policy, in a mode
abbrev pub plan_of : Policy → Mode → Plan
plan_of policy mode = record { has_block = has_block policy; locals = site_locals policy; block = site policy mode }
