use Rattle.std.proofs.Common.{◌∙◌, sym}
use Rattle.std.proofs.lemmas.Result.{err_from_is_err_and}
use Rattle.class_linking.proofs.Whole.{no_main}
use Rattle.class_linking.proofs.linking.parts.Goals as goal

pub returns-in_err-members-clause-fails : goal.returns-in_err-members-clause-fails
returns-in_err-members-clause-fails c =
    let p = err_from_is_err_and c.from_residual.result c.from_residual.ensures.1 in
    rw (p.1, p.2) (c.in_err-members.ensures.fails c.args.main.now)

pub returns-in-None-clause-fails : goal.returns-in-None-clause-fails
returns-in-None-clause-fails c is_told =
    no_main c.args.files.now c.args.listing.now c.args.main.now c.args.side _ c.in_ok-members.ensures.classes c.in_ok-members.ensures.members (sym c.main_of.ensures ∙ c.in-None.is)
