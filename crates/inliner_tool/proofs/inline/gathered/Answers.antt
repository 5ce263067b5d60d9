use Rattle.std.proofs.Common.{Ok}
use Rattle.std.proofs.lemmas.Result.{err_from_is_err_and}
use Rattle.conspec_automaton.specs.Building.{built}
use Rattle.command_inputs.specs.Forms.{Then}
use Rattle.inliner_tool.specs.Programs.{Types}
use Rattle.inliner_tool.specs.Steps.{Equals}
use Rattle.inliner_tool.specs.Weaving.{mode_for}
use Rattle.inliner_tool.proofs.Planning.{first_fails}
use Rattle.inliner_tool.proofs.inline.gathered.Goals as goal

pub returns-in_err-typing-clause-gathers : goal.returns-in_err-typing-clause-gathers
returns-in_err-typing-clause-gathers c =
    let p = err_from_is_err_and c.from_residual.result c.from_residual.ensures.1 in
    let tree = c.args.tree.now in
    let client = c.args.client.now in
    rw (p.1, p.2)
    (first_fails (Types client) (λ typing. Then (Equals (mode_for c.args.weaving tree client.listing)) (λ mode. Equals (Ok (typing, (built tree, mode))))) c.in_err-typing.field-0.0 c.in_err-typing.ensures.is)
