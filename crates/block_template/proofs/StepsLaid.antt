-- Steps are laid one by one.
use Rattle.std.proofs.Common.{◌≡◌, ℕ, ◌+◌, ◌≤◌, Bool, List, [], ◌∷◌, ◌++◌, ap, sym, ◌∙◌, append_assoc, arith}
use Rattle.std.specs.List.{AllByRecursion}
use Rattle.conspec_tree.specs.declared.types.Update.{Update}
use Rattle.conspec_tree.specs.declared.types.Update.TheVariants.{Set, Add}
use Rattle.offset_patch.specs.declared.block.BlockInsn.{BlockInsn}
use Rattle.block_template.specs.declared.item.Item.{Item}
use Rattle.block_template.specs.declared.item.Role.{Role}
use Rattle.block_template.specs.declared.steps.Step.{Step}
use Rattle.block_template.specs.Parts.{item}
use Rattle.block_template.specs.Room.{ActHasLocal}
use Rattle.block_template.specs.Steps.{act_insn, laid, update_size, update_steps}

-- One more is laid.
pub laid_more : (bools : List Bool) (base to : ℕ) (role : ℕ → Role) (done : ℕ) (s : Step) (steps others : List Step) (insn : BlockInsn)
    (before after whole : List Item) → steps ≡ s ∷ others → insn ≡ act_insn bools base to s.act
    → after ≡ before ++ item insn (role done) ∷ [] → before ++ laid bools base to role done steps ≡ whole
    → after ++ laid bools base to role (done + 1) others ≡ whole
laid_more bools base to role done s steps others insn before after whole split is more so_far =
    let later : List Item = laid bools base to role (done + 1) others in
    ap (λ (xs : List Item). xs ++ later) more ∙ append_assoc before (item insn (role done) ∷ []) later
    ∙ ap (λ (x : BlockInsn). before ++ item x (role done) ∷ later) is
    ∙ ap (λ (xs : List Step). before ++ laid bools base to role done xs) (sym split) ∙ so_far

-- An update has few steps, which name no local.
pub update_few : (update : Update) → update_size update ≤ 4
update_few (Set var value) = omega arith
update_few (Add var by) = omega arith

pub update_local : (update : Update) → AllByRecursion (λ (s : Step). ActHasLocal 0 s.act) (update_steps update)
update_local (Set var value) = (tt, (tt, tt))
update_local (Add var by) = (tt, (tt, (tt, (tt, tt))))
