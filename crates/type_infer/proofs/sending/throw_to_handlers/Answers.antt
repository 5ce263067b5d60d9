use Rattle.std.proofs.Common.{◌≡◌, ◌⊎◌, true, ◌∷◌, [], List, inl, inr, subst, sym, ap, arith, rules}
use Rattle.std.specs.Prelude.{Contains, filter}
use Rattle.bytecode_model.specs.declared.program.Handler.{Handler}
use Rattle.bytecode_model.specs.InsnPlace.{InsnPlace}
use Rattle.bytecode_model.specs.Rules.{covers}
use Rattle.type_infer.specs.Solving.{IsSent, Scope, thrown_to}
use Rattle.type_infer.proofs.Delivering.{stays_over, sent_before, sent_after}
use Rattle.type_infer.proofs.Kept.{among_first, among_later, among_same, first_or_among}
use Rattle.type_infer.proofs.Stepping.{grows_over}
use Rattle.type_infer.proofs.sending.throw_to_handlers.Goals as goal

pub loop-handler-init : goal.loop-handler-init
loop-handler-init c =
    let scope = c.args.body.now in
    let place = c.args.place.now in
    let near = c.near-near.result in
    let table = c.body.inside.method.now.handlers in
    let told : table ≡ scope.method.handlers = ap (λ (s : Scope). s.method.handlers) c.body.view_is in
    let same : filter (covers place.at) near ≡ filter (covers place.at) table =
    subst (λ (p : InsnPlace). filter (covers p.at) near ≡ filter (covers p.at) table) c.place.view_is c.near-near.ensures.covering in
    record {
      each = search rules;
      among = λ handler among. subst (λ (hs : List Handler). Contains hs handler) told (c.near-near.ensures.among handler among);
      grows = search rules;
      found = search rules;
      sent = λ ready handler among covered. inl (among_same (covers place.at) table near handler same (subst (λ (hs : List Handler). Contains hs handler) (sym told) among) covered);
    }

pub loop-handler-preserved : goal.loop-handler-preserved
loop-handler-preserved c =
    let scope = c.args.body.now in
    let place = c.args.place.now in
    let old = c.args.worklist.now in
    let middle = c.loop-handler.worklist in
    let new = c.throw.new.worklist in
    let handlers = scope.method.handlers in
    let this = c.in-Some.handler.now in
    let later = c.next.new.self in
    let before = c.loop-handler.invariant in
    let now = c.in_ok-throw.ensures.sends in
    let split : c.loop-handler.near ≡ this ∷ later = c.in-Some.ensures in
    let inside : Contains handlers this = before.among this (rw split (among_first this later)) in
    record {
      each = c.in_ok-throw.ensures.each;
      among = λ handler more. before.among handler (rw split (among_later this later handler more));
      grows = λ ready.
          let laws = c.laws_hold.ensures scope.program ready.order in
          grows_over scope.program laws.itself laws.over old middle new (before.grows ready) (now ready).grows;
      found = λ ready. stays_over scope (c.laws_hold.ensures scope.program ready.order) place.at old middle new (before.found ready) ((now ready).found inside);
      sent = λ ready handler among covered.
          let laws = c.laws_hold.ensures scope.program ready.order in
          elim (before.sent ready handler among covered) [
            | inl waiting ↦
                let first : (this ≡ handler) ⊎ Contains later handler = first_or_among this later handler (subst (λ (hs : List Handler). Contains hs handler) split waiting) in
                elim first [
                  | inl is ↦
                      let covers_this = subst (λ (h : Handler). covers place.at h ≡ true) (sym is) covered in
                      inr
                      (subst (λ (h : Handler). IsSent scope place.at h.at (thrown_to h) old new) is
                      (sent_after scope laws place.at old middle new this.at (thrown_to this) (before.found ready) ((now ready).sent inside covers_this)))
                  | inr rest ↦ inl rest
                ]
            | inr earlier ↦ inr (sent_before scope laws place.at old middle new handler.at (thrown_to handler) earlier (now ready).grows)
          ];
    }

pub returns-clause-sends : goal.returns-clause-sends
returns-clause-sends c ready = record {
  grows = c.loop-handler.invariant.grows ready;
  found = λ may. c.loop-handler.invariant.found ready;
  sent = λ may handler among covered.
      elim (c.loop-handler.invariant.sent ready handler among covered) [
        | inl waiting ↦
            let none : Contains [] handler = subst (λ (hs : List Handler). Contains hs handler) c.in_default.ensures waiting in
            absurd (omega (arith, none.1))
        | inr sent ↦ sent
      ];
}
