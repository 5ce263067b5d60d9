use Rattle.std.proofs.Common.{◌∙◌}
use Rattle.bytecode_model.specs.Rules.{goes_well}
use Rattle.insn_codec.specs.Control.{successors}
use Rattle.code_typing.specs.Changing.{frame_takes}
use Rattle.code_typing.proofs.Arriving.{arrive_same, left_goes}
use Rattle.code_typing.proofs.following.is_followed.Goals as goal

pub returns : goal.returns
returns c =
    let place = c.args.place.now in
    let frame = c.args.frame.now in
    let change = c.change_of.result in
    let locals = c.as_slice.result.now in
    let kept = c.args.kept.now in
    let top = c.args.taken.now in
    c.all_take.ensures
    ∙ arrive_same c.args.frames.now (frame_takes place change locals kept top) (goes_well place frame)
    (left_goes place frame change locals kept top c.as_slice.ensures c.requires.kept c.requires.taken c.change_of.ensures) (successors place.at place.insn)
