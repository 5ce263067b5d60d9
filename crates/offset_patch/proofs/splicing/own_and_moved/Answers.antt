use Rattle.std.proofs.Common.{◌<◌, ◌^◌, length, arith}
use Rattle.offset_patch.specs.Splicing.{handlers_with}
use Rattle.offset_patch.proofs.Measure.{handlers_few}
use Rattle.offset_patch.proofs.splicing.own_and_moved.Goals as goal

pub new-requires : goal.new-requires
new-requires c =
    let sites = c.args.sites.now in
    let handlers = c.args.method.now.handlers in
    let few : length (handlers_with sites handlers) < 2 ^ 32 =
    omega (arith, handlers_few sites handlers c.requires.sites, c.requires.count, c.requires.handlers) in
    rw (c.in_ok-list.ensures, c.requires.fronts, c.as_slice.ensures) few
