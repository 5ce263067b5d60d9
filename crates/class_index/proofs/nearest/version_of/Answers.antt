use Rattle.std.proofs.Common.{◌≡◌, None, sym}
use Rattle.api_listing.specs.Nearest.{class_named}
use Rattle.class_index.proofs.Versions.{no_class}
use Rattle.class_index.proofs.nearest.version_of.Goals as goal

pub returns-in-None : goal.returns-in-None
returns-in-None c look numbers are =
    let none : class_named c.args.classes.now c.args.name.now ≡ None = sym c.in-None.ensures in
    no_class look numbers c.args.classes.now c.args.versions.now c.args.name.now none are
