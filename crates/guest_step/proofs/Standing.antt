-- Where an instruction of a linked program stands.
use Rattle.std.proofs.Common.{◌≡◌, ℕ, ◌^◌, ◌<◌, Some, None, sym, ap, ◌∙◌, arith}
use Rattle.std.specs.Prelude.{length, option_and_then, option_map, slice_get}
use Rattle.std.proofs.lemmas.Option.{slice_get_within}
use Rattle.insn_codec.specs.declared.insn.Insn.{Insn}
use Rattle.bytecode_model.specs.declared.program.LinkedClass.{LinkedClass}
use Rattle.bytecode_model.specs.declared.program.Method.{Method}
use Rattle.bytecode_model.specs.declared.program.Program.{Program}
use Rattle.bytecode_model.specs.declared.program.Target.{Target}
use Rattle.bytecode_model.specs.Sound.{IsSound, IsSoundClass, IsSoundMethod}
use Rattle.guest_heap.specs.declared.frame.Frame.{Frame}
use Rattle.guest_model.specs.Places.{insn_at, insn_in, method_at}
use Rattle.guest_model.proofs.Options.{all_get, and_then_of}

-- Its place is below the number of instructions, of which there are few.
pub place_few : (program : Program) → IsSound program → (class index at : ℕ) (method : Method) (insn : Insn) → method_at program class index ≡ Some method
    → slice_get method.insns at ≡ Some insn → at < 2 ^ 16
place_few program sound class index at method insn there here =
    let c = and_then_of (λ (c : LinkedClass). slice_get c.methods index) (slice_get program.classes class) method there in
    let well : IsSoundClass c.0 = all_get IsSoundClass program.classes class c.0 sound.classes c.1 in
    let m : IsSoundMethod method = all_get IsSoundMethod c.0.methods index method well.methods c.2 in
    let few : length method.insns < 2 ^ 16 = m.few in
    let within : at < length method.insns = slice_get_within method.insns at insn here in
    omega (arith, few, within)

-- ---- what comes next in a frame

module _ (program : Program) (frame : Frame) (method : Method) (insn : Insn) (there : method_at program frame.class frame.method ≡ Some method)
    (here : slice_get method.insns frame.at ≡ Some insn) where
  in_method : insn_at program frame ≡ option_map (λ (ref : Target). (insn, ref)) (slice_get method.refs frame.at)
  in_method =
      ap (option_and_then (λ (m : Method). insn_in m frame.at)) there
      ∙ ap (option_and_then (λ (i : Insn). option_map (λ (ref : Target). (i, ref)) (slice_get method.refs frame.at))) here

  pub insn_found : (ref : Target) → slice_get method.refs frame.at ≡ Some ref → Some (insn, ref) ≡ insn_at program frame
  insn_found ref is = sym (in_method ∙ ap (option_map (λ (r : Target). (insn, r))) is)

  pub ref_missing : slice_get method.refs frame.at ≡ None → None ≡ insn_at program frame
  ref_missing is = sym (in_method ∙ ap (option_map (λ (r : Target). (insn, r))) is)
