use Rattle.std.proofs.Common.{◌≡◌, ◌∙◌, List, Some, None, length, refl, ap, sym, rules}
use Rattle.std.specs.Prelude.{slice_get}
use Rattle.std.proofs.lemmas.Option.{slice_get_past, slice_get_read}
use Rattle.insn_codec.specs.declared.insn.Insn.{Insn}
use Rattle.bytecode_model.specs.declared.program.Target.{Target}
use Rattle.guest_model.specs.Places.{method_at}
use Rattle.guest_step.proofs.Standing.{insn_found, place_few, ref_missing}
use Rattle.guest_step.proofs.stepping.insn_at.Goals as goal

pub returns-in_err-target-clause-is : goal.returns-in_err-target-clause-is
returns-in_err-target-clause-is c =
    let there : method_at c.args.guest.now c.args.frame.now.class c.args.frame.now.method ≡ Some c.in_ok-method.method.now = grind rules in
    let insn : slice_get c.in_ok-method.method.now.insns c.args.frame.now.at ≡ Some c.in_ok-insn.insn.now =
    ap (λ (insns : List Insn). slice_get insns c.args.frame.now.at) (sym c.as_slice.ensures) ∙ slice_get_read c.as_slice.result.now (length c.as_slice.result.now) c.args.frame.now.at c.in_ok-insn.insn.now refl c.in_ok-insn.ensures.lookup.3.0 c.in_ok-insn.ensures.lookup.1 in
    let ref : slice_get c.in_ok-method.method.now.refs c.args.frame.now.at ≡ None =
    ap (λ (refs : List Target). slice_get refs c.args.frame.now.at) (sym c.as_slice-2.ensures) ∙ slice_get_past c.as_slice-2.result.now c.args.frame.now.at c.in_err-target.ensures.lookup.3 in
    let none : c.from_residual-in_err-target.result ≡ None = grind rules in
    rw none (ref_missing c.args.guest.now c.args.frame.now c.in_ok-method.method.now c.in_ok-insn.insn.now there insn ref)

pub returns-clause-is : goal.returns-clause-is
returns-clause-is c =
    let there : method_at c.args.guest.now c.args.frame.now.class c.args.frame.now.method ≡ Some c.in_ok-method.method.now = grind rules in
    let insn : slice_get c.in_ok-method.method.now.insns c.args.frame.now.at ≡ Some c.in_ok-insn.insn.now =
    ap (λ (insns : List Insn). slice_get insns c.args.frame.now.at) (sym c.as_slice.ensures) ∙ slice_get_read c.as_slice.result.now (length c.as_slice.result.now) c.args.frame.now.at c.in_ok-insn.insn.now refl c.in_ok-insn.ensures.lookup.3.0 c.in_ok-insn.ensures.lookup.1 in
    let ref : slice_get c.in_ok-method.method.now.refs c.args.frame.now.at ≡ Some c.in_ok-target.target.now =
    ap (λ (refs : List Target). slice_get refs c.args.frame.now.at) (sym c.as_slice-2.ensures) ∙ slice_get_read c.as_slice-2.result.now (length c.as_slice-2.result.now) c.args.frame.now.at c.in_ok-target.target.now refl c.in_ok-target.ensures.lookup.3.0 c.in_ok-target.ensures.lookup.1 in
    insn_found c.args.guest.now c.args.frame.now c.in_ok-method.method.now c.in_ok-insn.insn.now there insn c.in_ok-target.target.now ref

pub returns-clause-few : goal.returns-clause-few
returns-clause-few c =
    let there : method_at c.args.guest.now c.args.frame.now.class c.args.frame.now.method ≡ Some c.in_ok-method.method.now = grind rules in
    let insn : slice_get c.in_ok-method.method.now.insns c.args.frame.now.at ≡ Some c.in_ok-insn.insn.now =
    ap (λ (insns : List Insn). slice_get insns c.args.frame.now.at) (sym c.as_slice.ensures) ∙ slice_get_read c.as_slice.result.now (length c.as_slice.result.now) c.args.frame.now.at c.in_ok-insn.insn.now refl c.in_ok-insn.ensures.lookup.3.0 c.in_ok-insn.ensures.lookup.1 in
    place_few c.args.guest.now c.indexed.ensures.ready.sound c.args.frame.now.class c.args.frame.now.method c.args.frame.now.at c.in_ok-method.method.now c.in_ok-insn.insn.now there insn
