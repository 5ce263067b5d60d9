use Rattle.std.proofs.lemmas.List.{length-replicate}
use Rattle.std.proofs.Common.{◌≡◌, ◌∙◌, ℕ, ◌≤◌, false, [], List, length, replicate, None, Some, subst, sym, ap, arith, ◌<◌}
use Rattle.std.specs.Prelude.{slice_get}
use Rattle.std.proofs.lemmas.Option.{slice_get_within}
use Rattle.cert_format.specs.declared.typing.VType.{VType}
use Rattle.bytecode_model.specs.Makes.{type_at}
use Rattle.bytecode_model.specs.Rules.{entry_locals}
use Rattle.bytecode_model.specs.Order.{IsInOrder}
use Rattle.type_infer.specs.Solving.{Left, Scope, State, Holds, IsRaisedBy, begun, place_of, put}
use Rattle.type_infer.proofs.Flowing.{insn_there, place_is}
use Rattle.type_infer.proofs.Solutions.{begun_holds, entered, nothing, nothing_holds}
use Rattle.type_infer.proofs.Stepping.{put_count, same_raised, state_is}
use Rattle.type_infer.proofs.solving.begun.Goals as goal

pub returns-in_default-clause-holds : goal.returns-in_default-clause-holds
returns-in_default-clause-holds c limit above met =
    let scope = c.args.body.now in
    let laws = c.laws_hold.ensures scope.program met.ready.order in
    let count : c.len.result ≡ length scope.method.insns = c.len.ensures ∙ ap (λ (s : Scope). length s.method.insns) c.body.view_is in
    let is : c.in_ok-worklist.worklist ≡ nothing scope laws =
    state_is c.in_ok-worklist.worklist (replicate (length scope.method.insns) None) (replicate (length scope.method.insns) false)
    (c.in_ok-worklist.ensures.frames ∙ ap (λ (n : ℕ). replicate n None) count) (c.in_ok-worklist.ensures.marks ∙ ap (λ (n : ℕ). replicate n false) count) in
    let none : place_of scope 0 ≡ None = sym c.place.ensures ∙ c.in_default.is in
    subst (Holds scope limit above) (sym is) (nothing_holds scope laws limit above none)

pub returns-clause-holds : goal.returns-clause-holds
returns-clause-holds c limit above met =
    let scope = c.args.body.now in
    let place = c.in-Some.place in
    let first = c.in_ok-first.first in
    let laws = c.laws_hold.ensures scope.program met.ready.order in
    let count : c.len.result ≡ length scope.method.insns = c.len.ensures ∙ ap (λ (s : Scope). length s.method.insns) c.body.view_is in
    let is : c.in_ok-worklist.worklist ≡ nothing scope laws =
    state_is c.in_ok-worklist.worklist (replicate (length scope.method.insns) None) (replicate (length scope.method.insns) false)
    (c.in_ok-worklist.ensures.frames ∙ ap (λ (n : ℕ). replicate n None) count) (c.in_ok-worklist.ensures.marks ∙ ap (λ (n : ℕ). replicate n false) count) in
    let there : place_of scope 0 ≡ Some place = sym c.place.ensures ∙ c.in-Some.is in
    let entry = entered scope laws limit above place met there in
    let types : c.in_ok-types.types ≡ entry_locals place = c.in_ok-types.ensures in
    let stack : c.new-3.result ≡ [] = c.new-3.ensures in
    let few : length c.in_ok-locals.locals ≤ place.method.max_locals = omega (arith, c.in_ok-locals.ensures.within, ap length types, entry.within) in
    let low : length c.new-3.result ≤ place.method.max_stack = omega (arith, ap length stack) in
    let order = subst IsInOrder (sym (place_is scope 0 place there).0) met.ready.order in
    let raised = c.in_ok-first.ensures.raised order few low (λ frame e. absurd cc) in
    let came : Left = record { locals = type_at c.in_ok-locals.locals; operands = c.new-3.result } in
    let entering : IsRaisedBy place None (begun place) first =
    same_raised place None came (begun place) stack (λ j. c.in_ok-locals.ensures.same j ∙ ap (λ (l : List VType). type_at l j) types) first raised in
    subst (Holds scope limit above) (sym (c.put.ensures ∙ ap (λ (s : State). put s 0 first) is)) (begun_holds scope laws limit above place first there entry entering)

pub returns-clause-frames : goal.returns-clause-frames
returns-clause-frames c =
    ap (λ (s : State). length s.frames) c.put.ensures ∙ (put_count c.in_ok-worklist.worklist 0 c.in_ok-first.first).0
    ∙ ap length c.in_ok-worklist.ensures.frames ∙ length-replicate c.len.result None ∙ c.len.ensures ∙ ap (λ (s : Scope). length s.method.insns) c.body.view_is

pub returns-clause-marks : goal.returns-clause-marks
returns-clause-marks c =
    ap (λ (s : State). length s.marks) c.put.ensures ∙ (put_count c.in_ok-worklist.worklist 0 c.in_ok-first.first).1
    ∙ ap length c.in_ok-worklist.ensures.marks ∙ length-replicate c.len.result false ∙ c.len.ensures ∙ ap (λ (s : Scope). length s.method.insns) c.body.view_is

pub put-requires-clause-frames : goal.put-requires-clause-frames
put-requires-clause-frames c =
    let scope = c.args.body.now in
    let there : place_of scope 0 ≡ Some c.in-Some.place = sym c.place.ensures ∙ c.in-Some.is in
    let h = insn_there _ (slice_get scope.method.insns 0) c.in-Some.place there in
    let count : length c.in_ok-worklist.worklist.frames ≡ length scope.method.insns =
    ap length c.in_ok-worklist.ensures.frames ∙ length-replicate c.len.result None ∙ c.len.ensures ∙ ap (λ (s : Scope). length s.method.insns) c.body.view_is in
    subst (λ (n : ℕ). 0 < n) (sym count) (slice_get_within scope.method.insns 0 h.0 h.1)

pub returns-in_default-clause-frames : goal.returns-in_default-clause-frames
returns-in_default-clause-frames c =
    ap length c.in_ok-worklist.ensures.frames ∙ length-replicate c.len.result None ∙ c.len.ensures ∙ ap (λ (s : Scope). length s.method.insns) c.body.view_is

pub put-requires-clause-marks : goal.put-requires-clause-marks
put-requires-clause-marks c =
    let scope = c.args.body.now in
    let there : place_of scope 0 ≡ Some c.in-Some.place = sym c.place.ensures ∙ c.in-Some.is in
    let h = insn_there _ (slice_get scope.method.insns 0) c.in-Some.place there in
    let count : length c.in_ok-worklist.worklist.marks ≡ length scope.method.insns =
    ap length c.in_ok-worklist.ensures.marks ∙ length-replicate c.len.result false ∙ c.len.ensures ∙ ap (λ (s : Scope). length s.method.insns) c.body.view_is in
    subst (λ (n : ℕ). 0 < n) (sym count) (slice_get_within scope.method.insns 0 h.0 h.1)

pub returns-in_default-clause-marks : goal.returns-in_default-clause-marks
returns-in_default-clause-marks c =
    ap length c.in_ok-worklist.ensures.marks ∙ length-replicate c.len.result false ∙ c.len.ensures ∙ ap (λ (s : Scope). length s.method.insns) c.body.view_is
