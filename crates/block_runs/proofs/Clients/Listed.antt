-- An instruction that names a method of the library calls it.
use Rattle.std.proofs.Common.{◌≡◌, Bool, true, false, Some, refl, sym, ap, ◌∙◌}
use Rattle.std.specs.Prelude.{slice_get}
use Rattle.insn_codec.specs.declared.shape.Heap.{Heap}
use Rattle.insn_codec.specs.declared.shape.Heap.TheVariants as heap
use Rattle.insn_codec.specs.declared.shape.How.{How}
use Rattle.insn_codec.specs.declared.shape.Shape.{Shape}
use Rattle.insn_codec.specs.declared.shape.Shape.TheVariants as shapes
use Rattle.insn_codec.specs.Fits.{IsInsn}
use Rattle.insn_codec.specs.Shapes.{shape_of}
use Rattle.bytecode_model.specs.declared.operand.Use.{Use}
use Rattle.bytecode_model.specs.declared.operand.Use.TheVariants as uses
use Rattle.bytecode_model.specs.declared.program.LinkedClass.{LinkedClass}
use Rattle.bytecode_model.specs.declared.program.Program.{Program}
use Rattle.bytecode_model.specs.declared.program.Target.TheVariants as target
use Rattle.bytecode_model.specs.Sound.{IsSound, IsSoundClass, IsSoundMethod}
use Rattle.bytecode_model.specs.Targets.{AreNamed, Calls}
use Rattle.bytecode_model.specs.Uses.{UsesAreShaped, use_on_heap, use_shaped}
use Rattle.guest_model.specs.Stepping.{heap_in}
use Rattle.guest_model.proofs.Insns.{has_insn}
use Rattle.guest_model.proofs.Options.{all_get, and_then_of}
use Rattle.block_runs.specs.Joining.{ListedAreCalled}

abbrev is_call : Use → Bool
is_call (uses.Call static of_interface) = true
is_call uses.Nothing = false
is_call uses.Load = false
is_call (uses.Field static writes) = false
is_call uses.New = false
is_call uses.Type = false

-- What uses its constant as a call does is a call.
call_on_heap : (what : Heap) → is_call (use_on_heap what) ≡ true → (how : How) × (what ≡ heap.Call how)
call_on_heap (heap.Call how) e = (how, refl)
call_on_heap heap.Constant e = absurd cc
call_on_heap (heap.ReadItem item) e = absurd cc
call_on_heap (heap.WriteItem item) e = absurd cc
call_on_heap (heap.Divide remainder) e = absurd cc
call_on_heap heap.ReadStatic e = absurd cc
call_on_heap heap.WriteStatic e = absurd cc
call_on_heap heap.ReadField e = absurd cc
call_on_heap heap.WriteField e = absurd cc
call_on_heap heap.New e = absurd cc
call_on_heap (heap.NewArray kind) e = absurd cc
call_on_heap heap.NewArrayOf e = absurd cc
call_on_heap heap.Length e = absurd cc
call_on_heap heap.Throw e = absurd cc
call_on_heap heap.Cast e = absurd cc
call_on_heap heap.IsInstance e = absurd cc
call_on_heap heap.Enter e = absurd cc
call_on_heap heap.Exit e = absurd cc
call_on_heap (heap.Return kind) e = absurd cc

call_shaped : (shape : Shape) → is_call (use_shaped shape) ≡ true → (how : How) × (heap_in shape ≡ Some (heap.Call how))
call_shaped (shapes.Heap what) e =
    let h = call_on_heap what e in
    (h.0, ap (λ (w : Heap). Some w) h.1)
call_shaped shapes.Nothing e = absurd cc
call_shaped (shapes.Push n) e = absurd cc
call_shaped shapes.PushNull e = absurd cc
call_shaped (shapes.Load kind slot) e = absurd cc
call_shaped (shapes.Store kind slot) e = absurd cc
call_shaped (shapes.Move form) e = absurd cc
call_shaped (shapes.Two op) e = absurd cc
call_shaped (shapes.One op) e = absurd cc
call_shaped (shapes.Increment slot by) e = absurd cc
call_shaped (shapes.Test relation to) e = absurd cc
call_shaped (shapes.Compare relation to) e = absurd cc
call_shaped (shapes.CompareReferences same to) e = absurd cc
call_shaped (shapes.TestNull null to) e = absurd cc
call_shaped (shapes.Goto to) e = absurd cc
call_shaped shapes.Switch e = absurd cc

module _ (shaped : UsesAreShaped) (client : Program) (sound : IsSound client) (named : AreNamed client) where
  pub listed_called : ListedAreCalled client
  listed_called class method old e index listed insn there =
      let c = and_then_of (λ (c : LinkedClass). slice_get c.methods method) (slice_get client.classes class) old e in
      let i = has_insn old index insn (target.ApiMethod listed) there in
      let calls : Calls client c.0 insn (target.ApiMethod listed) =
      named class method index c.0 old insn (target.ApiMethod listed) c.1 c.2 i.insn_there i.ref_there in
      let sound_class = all_get IsSoundClass client.classes class c.0 sound.classes c.1 in
      let sound_method = all_get IsSoundMethod c.0.methods method old sound_class.methods c.2 in
      let good : IsInsn insn = all_get IsInsn old.insns index insn sound_method.insns i.insn_there in
      let does : uses.Call calls.static calls.of_interface ≡ use_shaped (shape_of insn) = sym calls.calls ∙ shaped insn good in
      call_shaped (shape_of insn) (sym (ap is_call does))
