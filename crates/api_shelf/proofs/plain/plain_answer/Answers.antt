use Rattle.std.proofs.Common.{◌≡◌, ◌∙◌}
use Rattle.api_shelf.specs.Plain.{plain_answer}
use Rattle.api_shelf.proofs.Results.{plain_is}
use Rattle.api_shelf.proofs.plain.plain_answer.Goals as goal

pub returns-clause-typed : goal.returns-clause-typed
returns-clause-typed c m s =
    let exact : c.plain_encoded.result ≡ plain_answer c.args.call.now = cc in
    exact ∙ plain_is c.args.call.now m s
