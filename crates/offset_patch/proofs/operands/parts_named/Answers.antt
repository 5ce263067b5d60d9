use Rattle.std.proofs.Common.{◌≡◌, ℕ, List, ◌∷◌, ◌++◌, Option, map, sym, ap, ap₂, ◌∙◌, append_assoc}
use Rattle.bytecode_model.specs.declared.program.Target.{Target}
use Rattle.offset_patch.specs.declared.block.Block.{Block}
use Rattle.offset_patch.specs.declared.block.BlockInsn.{BlockInsn}
use Rattle.offset_patch.specs.Splicing.{part_of}
use Rattle.offset_patch.proofs.Lists.{front_is}
use Rattle.offset_patch.specs.Splicing.{part_named, parts_named}
use Rattle.offset_patch.proofs.operands.parts_named.Goals as goal

-- one part more
part_put : (state : ℕ) (named next total own others : List Target) (target : Target) (left rest : List (Option Block)) (site : Option Block) (part : List BlockInsn) → own ≡ target ∷ others → left ≡ site ∷ rest
    → part ≡ part_of site → next ≡ named ++ map (part_named state target) part → named ++ parts_named state own left ≡ total → next ++ parts_named state others rest ≡ total
part_put state named next total own others target left rest site part own_is left_is is pushed so_far =
    let made = map (part_named state target) (part_of site) in
    ap (λ (ts : List Target). ts ++ parts_named state others rest) (pushed ∙ ap (λ (p : List BlockInsn). named ++ map (part_named state target) p) is)
    ∙ append_assoc named made (parts_named state others rest)
    ∙ ap₂ (λ (o : List Target) (l : List (Option Block)). named ++ parts_named state o l) (sym own_is) (sym left_is) ∙ so_far

pub loop-own-preserved : goal.loop-own-preserved
loop-own-preserved c =
    let own_is = front_is c.loop-own.own.now c.target-item.result c.in-len1-up.len_at_least c.target-item.is in
    let left_is = front_is c.loop-own.left.now c.site-item.result c.in-len1-up-left.len_at_least c.site-item.is in
    part_put c.args.state c.loop-own.named c.put_named.new.named (parts_named c.args.state c.args.refs.now c.args.sites.now) c.loop-own.own.now _ c.target-item.result c.loop-own.left.now _ c.site-item.result
    c.part_of.result.now own_is left_is c.part_of.ensures c.in_ok-put_named.ensures c.loop-own.invariant
