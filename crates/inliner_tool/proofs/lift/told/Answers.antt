use Rattle.std.proofs.Common.{sym, subst}
use Rattle.std.proofs.lemmas.Result.{err_from_is_err_and}
use Rattle.guest_model.specs.Ready.{IsReady}
use Rattle.inliner_tool.specs.Lift.{inline_inputs}
use Rattle.command_inputs.specs.declared.inline_words.Weaving.TheVariants.{Auto}
use Rattle.inliner_tool.proofs.Lifting.{can_lift, given_fails, inline_sound, lifted_so, ready_of, typed_client}
use Rattle.inliner_tool.proofs.MadeOf.{client_laid_out, few_made, made_of}
use Rattle.inliner_tool.proofs.lift.told.Goals as goal

pub returns-in_err-given : goal.returns-in_err-given
returns-in_err-given c =
    let p = err_from_is_err_and c.from_residual-in_err-given.result c.from_residual-in_err-given.ensures.1 in
    rw (p.1, p.2) (given_fails c.args.main.now c.args.inputs c.in_ok-client.client c.in_ok-client.ensures.is c.in_err-given.field-0.0 c.in_err-given.ensures.gathers)

pub given_told-requires-clause-ready : goal.given_told-requires-clause-ready
given_told-requires-clause-ready c =
    subst IsReady (sym c.in_ok-given.ensures.gathered.client) (ready_of c.in_ok-client.client c.in_ok-client.ensures.linked)

pub given_told-requires-clause-policy : goal.given_told-requires-clause-policy
given_told-requires-clause-policy c = (c.in_ok-given.ensures.sound c.args.inputs.listing c.requires.policy.sound).0

pub given_told-requires-clause-lifts : goal.given_told-requires-clause-lifts
given_told-requires-clause-lifts c = λ made weaves fits.
    let main = c.args.main.now in
    let inputs = inline_inputs c.args.inputs in
    let client = c.in_ok-client.client in
    let given = c.in_ok-given.given in
    let gathered = c.in_ok-given.ensures.gathered in
    let of = made_of inputs client given gathered c.policies_tell_types.ensures.tell c.kinds_are_told.ensures.arguments c.kinds_are_told.ensures.results
    (inline_sound c.args.inputs c.requires) main (sym c.in_ok-client.ensures.is) c.in_ok-client.ensures.sound c.in_ok-client.ensures.links c.in_ok-client.ensures.listing
    (c.in_ok-given.ensures.sound inputs.listing c.requires.policy.sound) made weaves in
    let typed = typed_client Auto inputs.policy client given gathered c.in_ok-given.ensures.gathers in
    let expected = c.woven_is_expected.ensures.expected inputs main given made of typed (client_laid_out inputs client given gathered) fits
    (few_made inputs client given gathered c.in_ok-client.ensures.few made weaves) in
    can_lift c.linked_is_in_order.ensures.ordered c.linked_programs_are_named.ensures.named c.woven_clients_are_known.ensures.room inputs main given made of
    (c.woven_is_expected.ensures.links inputs main given made of) expected

pub returns : goal.returns
returns c =
    lifted_so c.args.main.now c.args.inputs c.in_ok-client.client c.in_ok-client.ensures.is c.in_ok-given.given c.in_ok-given.ensures.gathers c.given_told.result
    c.given_told.ensures
