use Rattle.std.proofs.Common.{◌∙◌, Some, cond, ap}
use Rattle.std.specs.BTreeMap.{get}
use Rattle.std.specs.Cmp.Lexicographic.{slice_cmp}
use Rattle.std.specs.Ordering.{is_eq, nat_cmp}
use Rattle.class_index.proofs.Unasked.{put}
use Rattle.class_index.proofs.asking.add_class.Goals as goal

pub returns : goal.returns
returns c =
    let flags = c.in_ok-flags.flags in
    put c.args.files.now c.args.listing.now c.args.asked.now c.insert.new.self c.args.class.now flags c.requires.asked c.in_ok-flags.ensures
    (λ q. c.in_ok-insert.ensures.updates.0 q ∙ ap (λ k. cond (is_eq (slice_cmp nat_cmp k q)) (Some flags) (get (slice_cmp nat_cmp) c.args.asked.now q)) c.in_ok-copy.ensures)
