use Rattle.std.proofs.Common.{◌≡◌, ap, arith}
use Rattle.offset_patch.specs.Entries.{Placed, place_in}
use Rattle.offset_patch.proofs.InsnFits.{few_place}
use Rattle.offset_patch.proofs.entries.Entries.place.Goals as goal

pub overflow_cast-result : goal.overflow_cast-result
overflow_cast-result c =
    let pool = c.args.self.now in
    let few = few_place pool c.args.want (omega (arith, c.requires.few)) c.requires.there in
    let place : place_in pool c.args.want ≡ c.in_ok-place.place = ap (λ (z : Placed). z.1) c.in_ok-place.ensures in
    omega (arith, few, place)
