use Rattle.std.proofs.Common.{◌≡◌, ◌+◌, ◌++◌, map, length, List, refl, sym, ap, subst, ◌∙◌, arith}
use Rattle.std.specs.List.{AllByRecursion}
use Rattle.class_codec.specs.declared.tree.Const.{Const}
use Rattle.insn_codec.specs.Fits.{IsInsn}
use Rattle.offset_patch.specs.declared.block.BlockInsn.{BlockInsn}
use Rattle.offset_patch.specs.Fits.{IsSite}
use Rattle.offset_patch.specs.Splicing.{part_of, parts_from, put, count_of, CanStand}
use Rattle.offset_patch.proofs.Lists.{front_is, each_fits}
use Rattle.offset_patch.proofs.Pieces.{parts_step}
use Rattle.offset_patch.proofs.Putting.{part_stands, left_stand}
use Rattle.offset_patch.proofs.splicing.parts.Goals as goal

pub put_part-requires-clause-stand : goal.put_part-requires-clause-stand
put_part-requires-clause-stand c =
    let pool = c.args.entries.now in
    let site = c.site-item.result in
    let left_is = front_is c.loop-own.left.now site c.in-len1-up-left.len_at_least c.site-item.is in
    let fits = (each_fits IsSite c.loop-own.left.now site _ left_is c.loop-own.invariant.sites).0 in
    let wants = (left_stand pool c.loop-own.left.now _ site left_is c.loop-own.invariant.there).0 in
    let stands = part_stands pool site fits wants in
    subst (λ (p : List BlockInsn). AllByRecursion (CanStand c.loop-own.entries (length p)) p) (sym c.part_of.ensures)
    (subst (λ (q : List Const). AllByRecursion (CanStand q (length (part_of site))) (part_of site)) (sym c.loop-own.invariant.entries) stands)

pub loop-own-preserved : goal.loop-own-preserved
loop-own-preserved c =
    let pool = c.args.entries.now in
    let site = c.site-item.result in
    let own_is = front_is c.loop-own.own.now c.insn-item.result c.in-len1-up.len_at_least c.insn-item.is in
    let left_is = front_is c.loop-own.left.now site c.in-len1-up-left.len_at_least c.site-item.is in
    let pushed = c.in_ok-put_part.ensures.is ∙ ap (λ (q : List Const). c.loop-own.out ++ map (put q c.args.fronts.now c.loop-own.begin c.insn-item.result) c.part_of.result.now) c.loop-own.invariant.entries in
    let count : count_of c.loop-own.left.now ≡ length (part_of site) + _ = ap count_of left_is in
    let many : length c.part_of-in-len1-up.result.now ≡ length (part_of site) = ap (λ (p : List BlockInsn). length p) c.part_of-in-len1-up.ensures in
    record {
      so_far = parts_step pool c.args.fronts.now c.loop-own.begin (c.loop-own.begin + length c.part_of-in-len1-up.result.now) c.loop-own.out c.put_part.new.out
          (parts_from pool c.args.fronts.now 0 c.args.insns.now c.args.sites.now) c.loop-own.own.now _ c.insn-item.result c.loop-own.left.now _ site
          c.part_of.result.now c.part_of-in-len1-up.result.now own_is left_is c.part_of.ensures c.part_of-in-len1-up.ensures refl pushed c.loop-own.invariant.so_far;
      own = (each_fits IsInsn c.loop-own.own.now c.insn-item.result _ own_is c.loop-own.invariant.own).1;
      sites = (each_fits IsSite c.loop-own.left.now site _ left_is c.loop-own.invariant.sites).1;
      out = c.in_ok-put_part.ensures.each c.loop-own.invariant.out;
      entries = c.in_ok-put_part.ensures.kept ∙ c.loop-own.invariant.entries;
      there = (left_stand pool c.loop-own.left.now _ site left_is c.loop-own.invariant.there).1;
      count = omega (arith, c.loop-own.invariant.count, count, many);
    }
