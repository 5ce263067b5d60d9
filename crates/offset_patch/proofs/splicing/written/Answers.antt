use Rattle.offset_patch.proofs.Putting.{counted}
use Rattle.offset_patch.proofs.splicing.written.Goals as goal

pub told-requires : goal.told-requires
told-requires c = counted c.args.insns.now c.in-Err.overflow c.requires.short c.in-Err.ensures.exact
