use Rattle.std.proofs.Common.{◌≡◌, ℕ, ◌+◌, ◌<◌, ◌^◌, ◌∷◌, [], ap, length, map, arith, ◌∙◌}
use Rattle.std.specs.Prelude.{max}
use Rattle.std.proofs.lemmas.Grind.{common_steps}
use Rattle.std.proofs.lemmas.List.{length-append}
use Rattle.offset_patch.proofs.Lists.{front_is}
use Rattle.bytecode_model.proofs.Climbing.{pushed}
use Rattle.class_weaving.specs.Woven.{most_locals}
use Rattle.class_weaving.proofs.code.sites_of.Goals as goal

-- where there is room for the most, there is for the others
room_left : (base one others most : ℕ) → most ≡ max one others → base + most < 2 ^ 16 → base + others < 2 ^ 16
room_left base one others most is room = grind (arith, common_steps)

pub loop-left-preserved : goal.loop-left-preserved
loop-left-preserved g c =
    let plan = g.P.Planner.plan c.args.planner.now in
    let target = c.target-item.result in
    let sites = c.loop-left.sites in
    let site = plan.block c.args.base target in
    let split = front_is c.loop-left.left.now target c.in-len1-up.len_at_least c.target-item.is in
    let fewer = ap (λ refs. length refs) split in
    let more = ap (λ all. length all) c.in_ok-put_site.ensures.is ∙ length-append sites (site ∷ []) in
    record {
      so_far = pushed sites c.put_site.new.sites _ _ _ site c.in_ok-put_site.ensures.is (ap (map (plan.block c.args.base)) split) c.loop-left.invariant.so_far;
      each = omega (arith, c.loop-left.invariant.each, fewer, more);
      room = room_left c.args.base (plan.locals target) _ _ (ap (most_locals plan) split) c.loop-left.invariant.room;
      fits = c.in_ok-put_site.ensures.fits;
      known = c.in_ok-put_site.ensures.known;
    }
