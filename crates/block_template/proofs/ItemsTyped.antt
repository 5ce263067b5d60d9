-- Each instruction of a block that is reached meets the rules of typing.
use Rattle.std.specs.Option.{option_map_or}
use Rattle.std.proofs.lemmas.Option.{IfSome_then}
use Rattle.conspec_tree.specs.declared.types.Phase.{Phase}
use Rattle.conspec_tree.specs.declared.types.Phase.TheVariants.{Before, After, Exceptional}
use Rattle.conspec_automaton.specs.declared.policy.Clause.{Clause}
use Rattle.conspec_automaton.specs.declared.policy.Policy.{Policy}
use Rattle.conspec_automaton.specs.Sound.{IsClauseIn, IsPolicy}
use Rattle.block_template.proofs.Policies.{clause_is}
use Rattle.std.proofs.Common.{◌≡◌, ℕ, ◌+◌, true, List, Option, Some, None, is_some, refl, sym, subst, length, ◌≤◌, [], arith}
use Rattle.std.specs.Prelude.{IfSome, option_and_then}
use Rattle.cert_format.specs.declared.typing.FrameType.{FrameType}
use Rattle.bytecode_model.specs.InsnPlace.{InsnPlace}
use Rattle.bytecode_model.specs.Rules.{goes_well}
use Rattle.block_template.specs.declared.item.Item.{Item}
use Rattle.block_template.specs.declared.item.Role.{Role}
use Rattle.block_template.specs.declared.item.Role.TheVariants as roles
use Rattle.block_template.specs.Blocks.{Clauses, clause_at, clauses_of, items, kept, locals_used}
use Rattle.block_template.specs.Flow.{jump_of, jumps, next, role_at}
use Rattle.block_template.specs.Frames.{Around, frame_at}
use Rattle.block_template.specs.Reached.{IsReached}
use Rattle.block_template.specs.Typed.{AreAsked, AreClausesIn, ClausesAreAsked, GoesTo, ItemsAreTyped}
use Rattle.block_template.proofs.BlockFlows.{blocks_flow}
use Rattle.block_template.proofs.Reaching.{blocks_are_reached}
use Rattle.block_template.proofs.RolesTyped.{blocks_are_typed}

module _ (clauses : Clauses) (around : Around) where
  -- A role that is reached has types.
  told_of : (role : Role) → IsReached role → is_some (frame_at clauses around role) ≡ true
  told_of (roles.Save left) reached = refl
  told_of (roles.Lock phase pushed) reached = refl
  told_of (roles.Ask phase branch atom done) reached = refl
  told_of (roles.Update phase branch update done) reached = refl
  told_of (roles.Taken phase branch) reached = refl
  told_of (roles.Stop phase done) reached = refl
  told_of (roles.Unlock phase checked pushed) reached = refl
  told_of (roles.Load n locked) reached = refl
  told_of (roles.Call locked) reached = refl
  told_of (roles.Keep locked) reached = refl
  told_of roles.Give reached = refl
  told_of roles.Leave reached = refl
  told_of roles.Rethrow reached = refl
  told_of roles.Unreached reached = absurd (reached refl)

  -- What takes what an instruction leaves, where it has types, has them where it is reached.
  goes_to : (place : InsnPlace) (types : FrameType) (role there : Role) → there ≡ role → IsReached there
      → IfSome (frame_at clauses around role) (λ to. goes_well place types to ≡ true) → GoesTo clauses around place types there
  goes_to place types role there is reached takes =
      by (frame_at clauses around there) refl (told_of there reached)
      (subst (λ (r : Role). IfSome (frame_at clauses around r) (λ to. goes_well place types to ≡ true)) (sym is) takes)
    where
      by : (o : Option FrameType) → frame_at clauses around there ≡ o → is_some o ≡ true
          → IfSome o (λ to. goes_well place types to ≡ true) → GoesTo clauses around place types there
      by None e some takes = absurd cc
      by (Some to) e some takes = (to, e, takes)

  lands_at : (place : InsnPlace) (types : FrameType) (role : Role) (there : ℕ → Role) (o : Option ℕ) → IfSome o (λ index. there index ≡ role)
      → IfSome o (λ index. IsReached (there index))
      → (is_some o ≡ true → IfSome (frame_at clauses around role) (λ to. goes_well place types to ≡ true))
      → IfSome o (λ index. GoesTo clauses around place types (there index))
  lands_at place types role there None is reached takes = tt
  lands_at place types role there (Some index) is reached takes = goes_to place types role (there index) is reached (takes refl)

pub items_are_typed : ItemsAreTyped
items_are_typed mode bools vars maxint clauses around phases known fits at i there reached call place stands room =
    let all : List Item = items mode bools around.base clauses in
    let led = (blocks_flow mode bools around.base clauses phases).goes at i there reached in
    let goes = (blocks_are_reached mode bools around.base clauses phases).goes at i there reached in
    let row =
    blocks_are_typed mode bools vars maxint clauses around
    (length all) led.is.0 phases known fits i.role i.insn led.is.1 call place stands room in
    record {
      types = row.types;
      told = row.told;
      depth = row.depth;
      operand = row.operand;
      local = row.local;
      made = row.made;
      passes =
          λ p. goes_to clauses around place row.types (next mode clauses i.role) (role_at all (at + 1)) (led.passes p) (goes.passes p)
          (row.passes p);
      lands = lands_at clauses around place row.types (jumps mode clauses i.role) (role_at all)
          (jump_of i.insn) led.lands goes.lands row.lands;
    }

-- ---- the clauses of a policy

module _ (policy : Policy) (method : ℕ) (read : IsPolicy policy) where
  abbrev found : Phase → Option Clause
  found phase = clause_at policy method phase

  phase_of : (phase : Phase) → IfSome (found phase) (λ c. c.phase ≡ phase)
  phase_of phase = IfSome_then (found phase) (clause_is policy method phase read) (λ c is. is.phase_is)

  clause_of : (phase : Phase) → IfSome (found phase) (IsClauseIn policy.vars policy.maxint)
  clause_of phase = IfSome_then (found phase) (clause_is policy method phase read) (λ c is. is.fits)

  clause_in_policy : AreClausesIn policy.vars policy.maxint (clauses_of policy method)
  clause_in_policy Before = clause_of Before
  clause_in_policy After = clause_of After
  clause_in_policy Exceptional = clause_of Exceptional

  arguments_kept : (o : Option Clause) (most : ℕ) → option_map_or (λ (c : Clause). length c.args) o 0 ≤ most
      → length (option_map_or (λ (c : Clause). c.args) o []) ≤ most
  arguments_kept None most few = omega arith
  arguments_kept (Some clause) most few = few

  result_kept : (o : Option Clause) (most : ℕ) → option_map_or (λ (c : Clause). kept c.result) o 0 ≤ most
      → kept (option_and_then (λ (c : Clause). c.result) o) ≤ most
  result_kept None most few = omega arith
  result_kept (Some clause) most few = few

  pub asked : AreAsked policy method
  asked = record {
    phases = record { before = phase_of Before; after = phase_of After; exceptional = phase_of Exceptional };
    clauses = clause_in_policy;
    arguments = arguments_kept (found Before) (locals_used policy method) (omega arith);
    result = result_kept (found After) (locals_used policy method) (omega arith);
  }

pub clauses_are_asked : ClausesAreAsked
clauses_are_asked policy method read = asked policy method read
