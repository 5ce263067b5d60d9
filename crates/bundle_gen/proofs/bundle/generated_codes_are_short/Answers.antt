use Rattle.bundle_gen.proofs.ShortCodes.{init_whole, main_whole, run_whole}
use Rattle.bundle_gen.proofs.bundle.generated_codes_are_short.Goals as goal

pub returns-clause-init : goal.returns-clause-init
returns-clause-init c = init_whole

pub returns-clause-run : goal.returns-clause-run
returns-clause-run c = run_whole c.args.state c.args.sites c.requires.sites

pub returns-clause-main : goal.returns-clause-main
returns-clause-main c = main_whole c.args.classes c.requires.classes
