use Rattle.std.proofs.Common.{◌≡◌, ◌∙◌, ◌<◌, ℕ, List, Some, ap, length, refl, subst, sym, arith}
use Rattle.std.specs.Prelude.{slice_get}
use Rattle.std.proofs.lemmas.Bool.{ltb-true}
use Rattle.std.proofs.lemmas.Option.{slice_get_read}
use Rattle.bytecode_model.specs.declared.program.LinkedClass.{LinkedClass}
use Rattle.bytecode_model.specs.declared.program.Method.{Method}
use Rattle.bytecode_model.specs.declared.program.Program.{Program}
use Rattle.bytecode_model.specs.Sound.{IsSoundClass, IsSoundMethod}
use Rattle.type_infer.specs.Untyped.{CannotBeMet}
use Rattle.type_infer.proofs.Flowing.{some_one}
use Rattle.type_infer.proofs.Lists.{all_at}
use Rattle.type_infer.proofs.inferring.untyped.Goals as goal

pub returns : goal.returns
returns c =
    let program = c.args.program.now in
    let fault = c.args.fault in
    let class = c.in-Some.class.now in
    let method = c.in-Some-get.method.now in
    let found = c.in-Some.ensures.lookup in
    let of = c.in-Some-get.ensures.lookup in
    let classes = c.as_slice.result.now in
    let methods = c.as_slice-2.result.now in
    let class_there : slice_get program.classes fault.class ≡ Some class =
    subst (λ (xs : List LinkedClass). slice_get xs fault.class ≡ Some class) (c.as_slice.ensures ∙ ap (λ (p : Program). p.classes) c.program.ensures)
    (slice_get_read classes (length classes) fault.class class refl (ltb-true fault.class (length classes) (sym found.0)) found.1) in
    let method_there : slice_get class.methods fault.method ≡ Some method =
    subst (λ (xs : List Method). slice_get xs fault.method ≡ Some method) c.as_slice-2.ensures
    (slice_get_read methods (length methods) fault.method method refl (ltb-true fault.method (length methods) (sym of.0)) of.1) in
    let sound = all_at IsSoundMethod class.methods fault.method method (all_at IsSoundClass program.classes fault.class class c.requires.sound.classes class_there).methods method_there in
    let none = subst (λ (n : ℕ). CannotBeMet program fault.class class method n) (sym c.len.ensures) (c.requires.unmet class method class_there method_there) in
    record {
      of = class;
      class_there = class_there;
      body = method;
      method_there = method_there;
      within = omega (arith, c.in_ok-at.ensures.within);
      earlier = c.requires.earlier;
      before = c.in_ok-at.ensures.met;
      fails = c.in_ok-at.ensures.unmet (record { order = c.requires.order; sound = sound }) none;
    }

pub first_failing-requires : goal.first_failing-requires
first_failing-requires c =
    let program = c.args.program.now in
    let fault = c.args.fault in
    let class = c.in-Some.class.now in
    let method = c.in-Some-get.method.now in
    let found = c.in-Some.ensures.lookup in
    let of = c.in-Some-get.ensures.lookup in
    let classes = c.as_slice.result.now in
    let methods = c.as_slice-2.result.now in
    let class_there : slice_get program.classes fault.class ≡ Some class =
    subst (λ (xs : List LinkedClass). slice_get xs fault.class ≡ Some class) (c.as_slice.ensures ∙ ap (λ (p : Program). p.classes) c.program.ensures)
    (slice_get_read classes (length classes) fault.class class refl (ltb-true fault.class (length classes) (sym found.0)) found.1) in
    let method_there : slice_get class.methods fault.method ≡ Some method =
    subst (λ (xs : List Method). slice_get xs fault.method ≡ Some method) c.as_slice-2.ensures
    (slice_get_read methods (length methods) fault.method method refl (ltb-true fault.method (length methods) (sym of.0)) of.1) in
    let placed = c.requires.placed in
    let same = some_one placed.0 class (sym placed.1.1.0 ∙ class_there) in
    let there = ap (λ (x : LinkedClass). slice_get x.methods fault.method) (sym same) ∙ placed.1.1.1 in
    let filled = subst (λ (x : Method). 0 < length x.insns) (some_one placed.1.0 method (sym there ∙ method_there)) placed.1.1.2 in
    subst (λ (n : ℕ). 0 < n) (sym c.len.ensures) filled
