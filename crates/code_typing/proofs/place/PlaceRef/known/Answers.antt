use Rattle.std.proofs.Common.{◌≡◌, List, Option, Some, sym, ap, ◌∙◌}
use Rattle.std.specs.Prelude.{option_copied, option_map, slice_get}
use Rattle.insn_codec.specs.declared.insn.Insn.{Insn}
use Rattle.bytecode_model.specs.declared.program.Target.{Target}
use Rattle.bytecode_model.specs.InsnPlace.{InsnPlace, target_or_none}
use Rattle.bytecode_model.specs.Typed.{place_at}
use Rattle.mon_base.proofs.Lists.{got}
use Rattle.code_typing.proofs.place.PlaceRef.known.Goals as goal

pub returns : goal.returns
returns c =
    let at = c.args.at in
    let method = c.args.method.now in
    let seen : Option Target → InsnPlace = λ target. record {
      program = c.args.program.now;
      own = c.args.own;
      class = c.args.class.now;
      method = method;
      at = at;
      insn = c.in_ok-insn.insn.now;
      ref = target_or_none target;
    } in
    let there : slice_get method.insns at ≡ Some c.in_ok-insn.insn.now =
    ap (λ (insns : List Insn). slice_get insns at) (sym c.as_slice.ensures)
    ∙ sym (got c.get.result c.as_slice.result.now at c.get.ensures.lookup.3 c.get.ensures.lookup.1) ∙ ap option_copied c.in_ok-insn.was in
    let named : option_copied c.get-target.result ≡ slice_get method.refs at =
    got c.get-target.result c.as_slice-2.result.now at c.get-target.ensures.lookup.3 c.get-target.ensures.lookup.1
    ∙ ap (λ (refs : List Target). slice_get refs at) c.as_slice-2.ensures in
    ap (λ (target : Option Target). Some (seen target)) named
    ∙ sym (ap (option_map (place_at c.args.program.now c.args.own c.args.class.now method at)) there)
