use Rattle.bundle_gen.proofs.Files.{main_has_name, thread_has_name}
use Rattle.bundle_gen.proofs.bundle.generated_have_names.Goals as goal

pub returns-clause-thread : goal.returns-clause-thread
returns-clause-thread c = thread_has_name c.args.index c.args.state c.args.sites

pub returns-clause-main : goal.returns-clause-main
returns-clause-main c = main_has_name c.args.classes
