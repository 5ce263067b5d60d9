use Rattle.bundle_gen.proofs.Sizes.{bytes_few}
use Rattle.bundle_gen.proofs.bundle.generated_is_small.Goals as goal

pub returns : goal.returns
returns c = bytes_few c.args.seed c.args.classes c.args.sites c.requires.classes c.requires.sites
