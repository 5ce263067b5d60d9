use Rattle.bundle_gen.proofs.ShortCodes.{init_whole}
use Rattle.bundle_gen.proofs.code.init_code.Goals as goal

pub returns-clause-short : goal.returns-clause-short
returns-clause-short c = rw (c.in_ok-push-3.ensures.ok, c.in_ok-push-2.ensures.ok, c.in_ok-push.ensures.ok, c.new-code.ensures) init_whole
