use Rattle.std.proofs.Common.{◌≡◌, refl, subst, true}
use Rattle.std.specs.Prelude.{filter, Contains, List}
use Rattle.bytecode_model.specs.declared.program.Handler.{Handler}
use Rattle.bytecode_model.specs.InsnPlace.{InsnPlace}
use Rattle.bytecode_model.specs.Rules.{covers, is_handled}
use Rattle.code_typing.specs.Catching.{takes_thrown}
use Rattle.code_typing.proofs.Covering.{all_among, same_passed}
use Rattle.code_typing.proofs.handlers.is_caught.Goals as goal

pub loop-handler-init : goal.loop-handler-init
loop-handler-init c =
    let place = c.args.place.now in
    let same : filter (covers place.at) c.near-near.result ≡ filter (covers place.at) place.method.handlers =
    subst (λ (p : InsnPlace). filter (covers p.at) c.near-near.result ≡ filter (covers p.at) p.method.handlers) c.place.view_is c.near-near.ensures.covering in
    let among : (handler : Handler) → Contains c.near-near.result handler → Contains place.method.handlers handler =
    subst (λ (p : InsnPlace). (handler : Handler) → Contains c.near-near.result handler → Contains p.method.handlers handler) c.place.view_is c.near-near.ensures.among in
    record {
      same = same_passed (is_handled c.args.frames.now place c.args.frame.now) (covers place.at) c.near-near.result place.method.handlers (λ handler fails. rw fails refl) same;
      known = λ is_known. all_among (takes_thrown place.program) c.near-near.result place.method.handlers among (c.handlers_known-known.ensures is_known);
    }
