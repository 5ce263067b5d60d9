use Rattle.std.proofs.Common.{◌≡◌, Ok, sym}
use Rattle.std.proofs.lemmas.Result.{err_from_is_err_and}
use Rattle.block_template.specs.Blocks.{plan_of}
use Rattle.class_weaving.specs.declared.woven.Woven.{Woven}
use Rattle.class_weaving.specs.Woven.{woven}
use Rattle.inliner_tool.specs.Expected.{IsMadeOf}
use Rattle.inliner_tool.proofs.MadeOf.{client_chosen, client_laid_out, client_links, client_typed, few_made, kept_of, listing_same, made_of}
use Rattle.inliner_tool.proofs.Planned.{fits_so, given_fails, typed_so}
use Rattle.inliner_tool.proofs.Remade.{planned}
use Rattle.inliner_tool.proofs.inline.plan.Goals as goal

pub returns-in_err-given-clause-plans : goal.returns-in_err-given-clause-plans
returns-in_err-given-clause-plans c =
    let p = err_from_is_err_and c.from_residual-in_err-given.result c.from_residual-in_err-given.ensures.1 in
    rw (p.1, p.2) (given_fails c.args.main.now c.args.folder.now c.args.weaving c.args.inputs c.in_ok-client.client c.in_ok-client.ensures.is c.in_err-given.field-0.0 c.in_err-given.ensures.gathers)

pub rewoven-requires-clause-policy : goal.rewoven-requires-clause-policy
rewoven-requires-clause-policy c =
    kept_of c.args.inputs c.in_ok-client.client c.in_ok-given.given c.in_ok-given.ensures.gathered c.policies_tell_types.ensures.tell c.kinds_are_told.ensures.arguments c.kinds_are_told.ensures.results c.requires
    c.in_ok-client.ensures.listing (c.in_ok-given.ensures.sound c.args.inputs.listing c.requires.policy.sound)

pub rewoven-requires-clause-expected : goal.rewoven-requires-clause-expected
rewoven-requires-clause-expected c = λ made weaves fits.
    let of = made_of c.args.inputs c.in_ok-client.client c.in_ok-given.given c.in_ok-given.ensures.gathered c.policies_tell_types.ensures.tell c.kinds_are_told.ensures.arguments c.kinds_are_told.ensures.results c.requires c.args.main.now
    (sym c.in_ok-client.ensures.is) c.in_ok-client.ensures.sound c.in_ok-client.ensures.links c.in_ok-client.ensures.listing (c.in_ok-given.ensures.sound c.args.inputs.listing c.requires.policy.sound)
    made weaves in
    let typed = client_typed c.args.inputs c.in_ok-client.client c.in_ok-given.given c.in_ok-given.ensures.gathered
    (typed_so c.args.main.now c.args.folder.now c.args.weaving c.args.inputs c.in_ok-client.client c.in_ok-client.ensures.is c.in_ok-given.given c.in_ok-given.ensures.gathers).0 in
    let laid_out = client_laid_out c.args.inputs c.in_ok-client.client c.in_ok-given.given c.in_ok-given.ensures.gathered in
    c.woven_is_expected.ensures.expected c.args.inputs c.args.main.now c.in_ok-given.given made of typed.typed laid_out fits
    (few_made c.args.inputs c.in_ok-client.client c.in_ok-given.given c.in_ok-given.ensures.gathered c.in_ok-client.ensures.few made weaves)

pub returns-clause-plans : goal.returns-clause-plans
returns-clause-plans c =
    fits_so c.args.main.now c.args.folder.now c.args.weaving c.args.inputs c.in_ok-client.client c.in_ok-client.ensures.is c.in_ok-given.given c.in_ok-given.ensures.gathers
    c.rewoven.result c.rewoven.ensures.steps

pub returns-clause-planned : goal.returns-clause-planned
returns-clause-planned c =
    let main = c.args.main.now in
    let inputs = c.args.inputs in
    let client = c.in_ok-client.client in
    let given = c.in_ok-given.given in
    let gathered = c.in_ok-given.ensures.gathered in
    let so = typed_so main c.args.folder.now c.args.weaving inputs client c.in_ok-client.ensures.is given c.in_ok-given.ensures.gathers in
    let of : (made : Woven) → woven given.client (plan_of given.policy given.mode) given.policy.vars ≡ Ok made → IsMadeOf inputs main given made = λ made weaves.
    made_of inputs client given gathered c.policies_tell_types.ensures.tell c.kinds_are_told.ensures.arguments c.kinds_are_told.ensures.results c.requires main
    (sym c.in_ok-client.ensures.is) c.in_ok-client.ensures.sound c.in_ok-client.ensures.links c.in_ok-client.ensures.listing (c.in_ok-given.ensures.sound inputs.listing c.requires.policy.sound)
    made weaves in
    planned main c.args.folder.now c.args.weaving inputs given (client_links inputs client given gathered main (sym c.in_ok-client.ensures.is)) (client_typed inputs client given gathered so.0) gathered.policy
    (client_chosen inputs client given gathered c.args.weaving so.1) (listing_same inputs client given gathered c.in_ok-client.ensures.listing)
    (λ made weaves. c.woven_is_expected.ensures.links inputs main given made (of made weaves))
    (λ made weaves new. c.woven_is_transparent.ensures inputs main given made (of made weaves) (client_typed inputs client given gathered so.0).typed new)
    c.rewoven.result c.rewoven.ensures.rewoven
