-- The certificate of a woven program is accepted. (docs/PROMISES.md)
use Rattle.std.specs.Prelude.{◌≡◌, ℕ, ◌+◌, true, false, slice_get, slice_index, Some}
use Rattle.std.specs.List.{AllByRecursion}
use Rattle.bytecode_model.specs.declared.program.LinkedClass.{LinkedClass}
use Rattle.bytecode_model.specs.declared.program.Method.{Method}
use Rattle.bytecode_model.specs.declared.program.Program.{Program}
use Rattle.bytecode_model.specs.declared.program.Target.TheVariants as target
use Rattle.bytecode_model.specs.Named.{AreRightOperands}
use Rattle.bytecode_model.specs.Layout.{IsLaidOut}
use Rattle.bytecode_model.specs.Sound.{IsSound}
use Rattle.bytecode_model.specs.Typed.{IsTyped, reached}
use Rattle.cert_format.specs.declared.certificate.Mode.{Mode}
use Rattle.cert_format.specs.declared.typing.Typing.{Typing}
use Rattle.conspec_automaton.specs.declared.policy.Policy.{Policy}
use Rattle.conspec_automaton.specs.Next.{has_clauses}
use Rattle.conspec_automaton.specs.Sound.{IsPolicy}
use Rattle.offset_patch.specs.Splicing.{fronts_of}
use Rattle.block_template.specs.declared.item.Item.{Item}
use Rattle.block_template.specs.declared.item.Role.TheVariants as roles
use Rattle.block_template.specs.Blocks.{bools_of, clauses_of, items, plan_of}
use Rattle.class_weaving.specs.Outcome.{IsFreeOfState, IsWoven}
use Rattle.class_weaving.specs.Woven.{sites_of}
use Rattle.block_logic.specs.Accepted.{IsAccepted}
use Rattle.block_logic.specs.Obeying.{FitsListing}
use Rattle.cert_maker.specs.Noting.{certificate_of}

-- No instruction of a block that control never comes to has a frame.
abbrev pub IsStopped : Program → Policy → Mode → Program → Typing → Type 0
IsStopped old policy mode new typing =
    (own index i callee k : ℕ) (class : LinkedClass) (method : Method) (item : Item) → slice_get old.classes own ≡ Some class
    → slice_get class.methods index ≡ Some method → slice_get method.refs i ≡ Some (target.ApiMethod callee)
    → has_clauses policy callee ≡ true
    → slice_get (items mode (bools_of policy) method.max_locals (clauses_of policy callee)) k ≡ Some item
    → item.role ≡ roles.Unreached
    → reached new typing own index (slice_index (fronts_of (sites_of (plan_of policy mode) method.max_locals method)) i + k) ≡ false

-- Where the types of a woven program are right, and no block goes on after its way out, the program is accepted with the
-- certificate that is made of them.
abbrev pub WovenIsAccepted : Type 0
WovenIsAccepted =
    (old new : Program) (policy : Policy) (mode : Mode) (typing : Typing)
    → IsPolicy policy → AllByRecursion (FitsListing old.listing) policy.clauses
    → IsSound old → IsSound new → AreRightOperands old → IsFreeOfState old
    → IsWoven old (plan_of policy mode) policy.vars new → IsTyped new typing → IsLaidOut new typing.frames
    → IsStopped old policy mode new typing
    → IsAccepted new policy (certificate_of old.classes policy mode typing)
