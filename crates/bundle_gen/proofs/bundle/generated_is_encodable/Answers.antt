use Rattle.bundle_gen.proofs.Files.{files_fit}
use Rattle.bundle_gen.proofs.bundle.generated_is_encodable.Goals as goal

pub returns : goal.returns
returns c = files_fit c.args.seed c.args.classes c.args.sites c.requires.classes c.requires.sites
