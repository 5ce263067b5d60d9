use Rattle.bundle_gen.proofs.ShortCodes.{main_whole}
use Rattle.bundle_gen.proofs.main_class.main_code.Goals as goal

pub returns-clause-short : goal.returns-clause-short
returns-clause-short c = rw (c.in_ok-push.ensures.ok, c.in_ok-put_all_begun.ensures, c.new-code.ensures) (main_whole c.args.classes c.requires)
