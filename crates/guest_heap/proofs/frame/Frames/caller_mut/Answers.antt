use Rattle.std.proofs.Common.{rules, ◌≡◌, refl, length}
use Rattle.guest_heap.proofs.Reversed.{get_under, set_under}
use Rattle.guest_heap.proofs.frame.Frames.caller_mut.Goals as goal

-- src/frame.rt:100:5
pub returns : goal.returns
returns c =
    let count : c.len-place.result ≡ length c.self.inside.items.items = grind rules in (
      (refl, λ w. set_under c.self.inside.items.items c.args.self.now c.len-place.result w c.self.view_is count c.requires),
      record {
        borrows = tt;
        caller = grind (rules, get_under c.self.inside.items.items c.args.self.now c.len-place.result c.index_mut.result.now c.self.view_is count c.requires);
      },
    )
