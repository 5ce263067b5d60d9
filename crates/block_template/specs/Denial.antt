-- The block of a call that the policy denies: it keeps the arguments, takes the lock of conspec/State and stops the program.
-- What stands after that is never reached, and gives the call what it had. (docs/BLOCKS.md)
use Rattle.std.specs.Prelude.{◌≡◌, ℕ, ◌+◌, ◌==◌, pos, List, [], ◌∷◌, ◌++◌, find, Option, None, option_map}
use Rattle.cert_format.specs.declared.certificate.Mode.TheVariants.{Release}
use Rattle.conspec_tree.specs.declared.types.Kind.{Kind}
use Rattle.conspec_automaton.specs.declared.policy.Clause.{Clause}
use Rattle.conspec_automaton.specs.declared.policy.Policy.{Policy}
use Rattle.conspec_automaton.specs.Denying.{DeniesOnly}
use Rattle.offset_patch.specs.declared.block.Block.{Block}
use Rattle.offset_patch.specs.declared.block.BlockInsn.{BlockInsn}
use Rattle.offset_patch.specs.declared.block.BlockInsn.TheVariants.{Plain, Byte, Want, Call}
use Rattle.offset_patch.specs.declared.block.PoolWant.TheVariants.{StateClass, Exit}
use Rattle.insn_codec.specs.declared.opcodes.TheConstants.{ACONST_NULL, LDC_W, INVOKESTATIC, ATHROW, MONITORENTER, MONITOREXIT}
use Rattle.block_template.specs.Blocks.{block}
use Rattle.block_template.specs.Pushing.{store, load}

-- Each argument has a local of its own, from `base` on. The last one, which is on top, is stored first.
abbrev pub saved : ℕ → List Kind → List BlockInsn
saved base [] = []
saved base (kind ∷ others) = saved (base + 1) others ++ store kind base ∷ []

abbrev pub loaded : ℕ → List Kind → List BlockInsn
loaded base [] = []
loaded base (kind ∷ others) = load kind base ∷ loaded (base + 1) others

-- ldc_w conspec/State; monitorenter
abbrev pub locked : List BlockInsn
locked = Want LDC_W StateClass ∷ Plain MONITORENTER ∷ []

-- bipush 77; invokestatic java/lang/System.exit (I)V; aconst_null; athrow
abbrev pub stopped : List BlockInsn
stopped = Byte (pos 77) ∷ Want INVOKESTATIC Exit ∷ Plain ACONST_NULL ∷ Plain ATHROW ∷ []

-- ldc_w conspec/State; monitorexit
abbrev pub unlocked : List BlockInsn
unlocked = Want LDC_W StateClass ∷ Plain MONITOREXIT ∷ []

-- the block of a denied call with such arguments, in a method whose locals end at `base`
abbrev pub denial : ℕ → List Kind → Block
denial base arguments = record {
  insns = saved base arguments ++ (locked ++ (stopped ++ (unlocked ++ (loaded base arguments ++ Call ∷ []))));
  handler = None;
}

-- the first clause of a method
abbrev pub first_clause : Policy → ℕ → Option Clause
first_clause policy method = find (λ (c : Clause). c.method == method) policy.clauses

-- In mode release a policy that denies calls outright has this block for each method that it names.
abbrev pub DenialIsBlock : Type 0
DenialIsBlock =
    (policy : Policy) (method base : ℕ) → DeniesOnly policy
    → block policy Release method base ≡ option_map (λ (c : Clause). denial base c.args) (first_clause policy method)
