use Rattle.std.proofs.Common.{ap, sym, ◌∙◌}
use Rattle.bytecode_model.specs.Heads.{head_of}
use Rattle.bytecode_model.specs.LeftMethods.{left_in}
use Rattle.class_linking.proofs.NothingLeft.{nothing_left, nothing_left_in}
use Rattle.class_linking.proofs.left_methods.left_to_library.Goals as goal

pub returns-then-not-may_be_asked : goal.returns-then-not-may_be_asked
returns-then-not-may_be_asked c =
    let files = c.args.index.now.files in
    let listing = c.args.index.now.listing in
    nothing_left files listing (head_of c.args.file.now)
    (ap (left_in files listing) (sym c.requires.class)
    ∙ nothing_left_in files listing c.args.above.now c.args.class.now c.requires.above (c.may_be_asked.ensures c.if-not-may_be_asked.true))
