use Rattle.std.proofs.Common.{rules, ◌≡◌, refl, length}
use Rattle.guest_heap.proofs.Reversed.{get_seen, set_seen}
use Rattle.guest_heap.proofs.frame.Frames.top_mut.Goals as goal

-- src/frame.rt:79:5
pub returns : goal.returns
returns c =
    let count : c.len-last.result ≡ length c.self.inside.items.items = grind rules in (
      (refl, λ w. set_seen c.self.inside.items.items c.args.self.now c.len-last.result w c.self.view_is count c.requires),
      record {
        borrows = tt;
        top = grind (rules, get_seen c.self.inside.items.items c.args.self.now c.len-last.result c.index_mut.result.now c.self.view_is count c.requires);
      },
    )
