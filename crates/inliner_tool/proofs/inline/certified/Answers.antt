use Rattle.std.proofs.Common.{◌∙◌, List, ap}
use Rattle.bytecode_model.specs.declared.program.LinkedClass.{LinkedClass}
use Rattle.bytecode_model.specs.declared.program.Program.{Program}
use Rattle.cert_maker.specs.Canonical.{canonical}
use Rattle.cert_maker.specs.Noting.{certificate_of}
use Rattle.inliner_tool.proofs.inline.certified.Goals as goal

pub returns-in-Ok-clause-certificate : goal.returns-in-Ok-clause-certificate
returns-in-Ok-clause-certificate c =
    let policy = c.args.policy.now in
    let mode = c.args.mode in
    c.in-Ok.ensures.is
    ∙ ap (λ (cs : List LinkedClass). certificate_of cs policy mode (canonical c.program.result.now c.args.typing)) c.as_slice.ensures
    ∙ ap (λ (p : Program). certificate_of c.args.old policy mode (canonical p c.args.typing)) (c.program.ensures ∙ c.in_ok-program.ensures)
