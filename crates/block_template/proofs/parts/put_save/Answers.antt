use Rattle.std.proofs.Common.{◌≡◌, ◌+◌, ◌-◌, ◌++◌, ◌∷◌, [], get_or, take, sym, ap, ◌∙◌, arith}
use Rattle.conspec_tree.specs.declared.types.Kind.TheVariants.{Int}
use Rattle.block_template.specs.Parts.{item, save}
use Rattle.block_template.specs.Pushing.{store}
use Rattle.block_template.specs.declared.item.Role.TheVariants as roles
use Rattle.block_template.proofs.Saves.{save_step}
use Rattle.block_template.proofs.parts.put_save.Goals as goal

pub loop-left-preserved : goal.loop-left-preserved
loop-left-preserved c =
    let kinds = c.args.arguments.now in
    let base = c.args.base in
    let at = c.loop-left.left - 1 in
    let out = c.loop-left.items in
    let n : at + 1 ≡ c.loop-left.left = omega arith in
    let so_far = ap (λ k. out ++ save base 0 (take k kinds)) n ∙ c.loop-left.invariant.so_far in
    let pushed =
    c.in_ok-put.ensures ∙ ap (λ insn. out ++ item insn (roles.Save c.loop-left.left) ∷ []) c.store-insn.ensures
    ∙ ap (λ k. out ++ item (store (get_or kinds at Int) (base + at)) (roles.Save k) ∷ []) (sym n) in
    record {
      so_far = save_step base at kinds Int out c.put.new.items _ (omega arith) pushed so_far;
      within = omega arith;
    }
