use Rattle.std.proofs.Common.{◌≡◌, ℕ, ◌<◌, ◌++◌, List, length, Option, sym, ap, subst, ◌∙◌, append-nil, arith}
use Rattle.std.specs.List.{enumerate_from, flat_map}
use Rattle.bytecode_model.specs.declared.origin.Origin.{Origin}
use Rattle.offset_patch.specs.declared.block.Block.{Block}
use Rattle.offset_patch.specs.Origins.{StandAsTold}
use Rattle.offset_patch.specs.Splicing.{part_origins, origins_of}
use Rattle.offset_patch.proofs.Lists.{none_left}
use Rattle.offset_patch.proofs.Measure.{parts_few}
use Rattle.offset_patch.proofs.Origins.{all_stand, told_many}
use Rattle.offset_patch.proofs.fronts.origins_of.Goals as goal

pub count_of-requires : goal.count_of-requires
count_of-requires c = omega (arith, parts_few c.args.sites.now c.requires.sites, c.requires.few)

-- what is told at the end
all_told : (told : List Origin) (site : ℕ) (left all : List (Option Block)) → length left < 1
    → told ++ flat_map part_origins (enumerate_from site left) ≡ origins_of all → origins_of all ≡ told
all_told told site left all short e =
    sym e ∙ ap (λ (l : List (Option Block)). told ++ flat_map part_origins (enumerate_from site l)) (none_left left short) ∙ append-nil told

pub returns-clause-each : goal.returns-clause-each
returns-clause-each c =
    let same = all_told c.loop-left.origins c.loop-left.site c.loop-left.left.now c.args.sites.now c.in_default.len_below c.loop-left.invariant.so_far in
    ap length (sym same) ∙ told_many 0 c.args.sites.now

pub returns-clause-stand : goal.returns-clause-stand
returns-clause-stand c =
    let same = all_told c.loop-left.origins c.loop-left.site c.loop-left.left.now c.args.sites.now c.in_default.len_below c.loop-left.invariant.so_far in
    subst (StandAsTold c.args.sites.now 0) same (all_stand c.args.sites.now c.requires.sites)
