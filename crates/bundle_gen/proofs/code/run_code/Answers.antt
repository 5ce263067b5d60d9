use Rattle.bundle_gen.proofs.ShortCodes.{run_whole}
use Rattle.bundle_gen.proofs.code.run_code.Goals as goal

pub returns-clause-short : goal.returns-clause-short
returns-clause-short c = rw (c.in_ok-push.ensures.ok, c.in_ok-after.ensures.is, c.new-code.ensures) (run_whole c.args.state c.args.sites c.requires)
