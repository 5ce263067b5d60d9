-- The parts of blocks. Each instruction stands with what is so before it. Places are counted from the front of the block.
-- (docs/BLOCKS.md)
use Rattle.std.specs.Prelude.{ℕ, pos, ◌+◌, Bool, true, false, List, [], ◌∷◌, ◌++◌, map, Option, Some, None}
use Rattle.conspec_tree.specs.declared.types.Atom.{Atom}
use Rattle.conspec_tree.specs.declared.types.Kind.{Kind}
use Rattle.conspec_tree.specs.declared.types.Phase.{Phase}
use Rattle.conspec_tree.specs.declared.types.Update.{Update}
use Rattle.conspec_automaton.specs.declared.policy.Branch.{Branch}
use Rattle.conspec_automaton.specs.declared.policy.Clause.{Clause}
use Rattle.offset_patch.specs.declared.block.BlockInsn.{BlockInsn}
use Rattle.offset_patch.specs.declared.block.BlockInsn.TheVariants.{Plain, Byte, Want, Jump}
use Rattle.offset_patch.specs.declared.block.PoolWant.TheVariants.{StateClass, Exit}
use Rattle.insn_codec.specs.declared.opcodes.TheConstants.{ACONST_NULL, LDC_W, GOTO, INVOKESTATIC, ATHROW, MONITORENTER, MONITOREXIT}
use Rattle.block_template.specs.declared.item.Item.{Item}
use Rattle.block_template.specs.declared.item.Role.{Role}
use Rattle.block_template.specs.declared.item.Role.TheVariants as roles
use Rattle.block_template.specs.Pushing.{store, load}
use Rattle.block_template.specs.Steps.{ask_size, ask_steps, laid, update_size, update_steps}

abbrev pub item : BlockInsn → Role → Item
item insn role = record { insn = insn; role = role }

-- ---- the lock

-- ldc_w conspec/State; monitorenter
abbrev pub lock : Phase → List Item
lock phase = item (Want LDC_W StateClass) (roles.Lock phase false) ∷ item (Plain MONITORENTER) (roles.Lock phase true) ∷ []

-- ldc_w conspec/State; monitorexit
abbrev pub unlock : Phase → Bool → List Item
unlock phase checked =
    item (Want LDC_W StateClass) (roles.Unlock phase checked false) ∷ item (Plain MONITOREXIT) (roles.Unlock phase checked true) ∷ []

-- ---- arguments

-- Each argument has a local of its own, from `base` on. The last one, which is on top, is stored first; `n` stand before these.
abbrev pub save : ℕ → ℕ → List Kind → List Item
save base n [] = []
save base n (kind ∷ others) = save base (n + 1) others ++ item (store kind (base + n)) (roles.Save (n + 1)) ∷ []

-- They are loaded in their order.
abbrev pub loads : Bool → ℕ → ℕ → List Kind → List Item
loads locked base n [] = []
loads locked base n (kind ∷ others) = item (load kind (base + n)) (roles.Load n locked) ∷ loads locked base (n + 1) others

-- ---- a check

-- An atom is compared; where it does not hold, the next branch is tried, or the program stopped.
abbrev pub ask : List Bool → ℕ → Phase → ℕ → ℕ → ℕ → Atom → List Item
ask bools base phase branch n next atom = laid bools base next (roles.Ask phase branch n) 0 (ask_steps atom)

abbrev pub asks : List Bool → ℕ → Phase → ℕ → ℕ → ℕ → List Atom → List Item
asks bools base phase branch n next [] = []
asks bools base phase branch n next (atom ∷ atoms) =
    ask bools base phase branch n next atom ++ asks bools base phase branch (n + 1) next atoms

-- A variable is set, or changed by a number, which names no local and does not jump.
abbrev pub write : List Bool → Phase → ℕ → ℕ → Update → List Item
write bools phase branch n update = laid bools 0 0 (roles.Update phase branch n) 0 (update_steps update)

abbrev pub writes : List Bool → Phase → ℕ → ℕ → List Update → List Item
writes bools phase branch n [] = []
writes bools phase branch n (update ∷ updates) = write bools phase branch n update ++ writes bools phase branch (n + 1) updates

abbrev pub updates_size : List Update → ℕ
updates_size [] = 0
updates_size (update ∷ updates) = update_size update + updates_size updates

abbrev pub asks_size : List Atom → ℕ
asks_size [] = 0
asks_size (atom ∷ atoms) = ask_size atom + asks_size atoms

abbrev pub branch_size : Branch → ℕ
branch_size branch = asks_size branch.atoms + updates_size branch.updates + 1

-- Where all atoms hold the updates are made, and the check is done.
abbrev pub tried : List Bool → ℕ → Phase → ℕ → ℕ → ℕ → Branch → List Item
tried bools base phase n next done branch =
    asks bools base phase n 0 next branch.atoms
    ++ (writes bools phase n 0 branch.updates ++ item (Jump GOTO done) (roles.Taken phase n) ∷ [])

-- bipush 77; invokestatic java/lang/System.exit (I)V; aconst_null; athrow
abbrev pub stop : Phase → List Item
stop phase =
    item (Byte (pos 77)) (roles.Stop phase 0)
    ∷ item (Want INVOKESTATIC Exit) (roles.Stop phase 1)
    ∷ item (Plain ACONST_NULL) (roles.Stop phase 2)
    ∷ item (Plain ATHROW) (roles.Stop phase 3)
    ∷ []

-- the branches from the one of number `n` on, which begins at `at`; where none is taken the program is stopped
abbrev pub branches : List Bool → ℕ → Phase → ℕ → ℕ → ℕ → List Branch → List Item
branches bools base phase n at done [] = stop phase
branches bools base phase n at done (branch ∷ others) =
    tried bools base phase n (at + branch_size branch) done branch
    ++ branches bools base phase (n + 1) (at + branch_size branch) done others

abbrev pub branches_size : List Branch → ℕ
branches_size [] = 4
branches_size (branch ∷ others) = branch_size branch + branches_size others

-- the check of a clause, which begins at `at`
abbrev pub check : List Bool → ℕ → ℕ → Clause → List Item
check bools base at clause = branches bools base clause.phase 0 at (at + branches_size clause.branches) clause.branches

-- ---- the result

abbrev pub keep : Bool → ℕ → Option Kind → List Item
keep locked base None = []
keep locked base (Some kind) = item (store kind base) (roles.Keep locked) ∷ []

abbrev pub give : ℕ → Option Kind → List Item
give base None = []
give base (Some kind) = item (load kind base) roles.Give ∷ []

-- ---- what is not reached

abbrev pub unreached : Item → Item
unreached i = item i.insn roles.Unreached

abbrev pub if_reached : Bool → List Item → List Item
if_reached true items = items
if_reached false items = map unreached items
