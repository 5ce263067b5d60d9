use Rattle.bundle_gen.proofs.ShortCodes.{no_fault}
use Rattle.bundle_gen.proofs.members.code_bytes.Goals as goal

pub unreachable-requires : goal.unreachable-requires
unreachable-requires c = no_fault c.args.insns.now c.in-Err-Length.field-0 c.requires c.in-Err-Length.ensures.back (λ e. cc)

pub unreachable-requires-in-Err-Branch : goal.unreachable-requires-in-Err-Branch
unreachable-requires-in-Err-Branch c = no_fault c.args.insns.now c.in-Err-Branch.field-0 c.requires c.in-Err-Branch.ensures.back (λ e. cc)
