-- The instructions of a linked program are ones of the table.
use Rattle.std.proofs.Common.{◌≡◌, ℕ, Some, ap, ◌∙◌}
use Rattle.std.specs.Prelude.{option_map, slice_get}
use Rattle.insn_codec.specs.declared.insn.Insn.{Insn}
use Rattle.insn_codec.specs.Fits.{IsInsn}
use Rattle.bytecode_model.specs.declared.program.LinkedClass.{LinkedClass}
use Rattle.bytecode_model.specs.declared.program.Method.{Method}
use Rattle.bytecode_model.specs.declared.program.Program.{Program}
use Rattle.bytecode_model.specs.declared.program.Target.{Target}
use Rattle.bytecode_model.specs.Sound.{IsSound, IsSoundClass, IsSoundMethod}
use Rattle.guest_model.specs.Places.{insn_in, method_at}
use Rattle.guest_model.specs.ClosedPlaces.{HasInsns}
use Rattle.guest_model.proofs.Options.{and_then_of, map_of, all_get}

-- an instruction of a method, and what its operand names
pub record HasInsn (of : Method) (at : ℕ) (insn : Insn) (ref : Target) : Type 0 where
  pub insn_there : slice_get of.insns at ≡ Some insn
  pub ref_there : slice_get of.refs at ≡ Some ref

pub has_insn : (of : Method) (at : ℕ) (insn : Insn) (ref : Target) → insn_in of at ≡ Some (insn, ref) → HasInsn of at insn ref
has_insn of at insn ref e =
    let i = and_then_of (λ (i : Insn). option_map (λ (r : Target). (i, r)) (slice_get of.refs at)) (slice_get of.insns at)
    (insn, ref) e in
    let r = map_of (λ (r : Target). (i.0, r)) (slice_get of.refs at) (insn, ref) i.2 in
    let same_insn : i.0 ≡ insn = ap (λ (p : Insn × Target). p.0) r.2 in
    let same_ref : r.0 ≡ ref = ap (λ (p : Insn × Target). p.1) r.2 in
    record { insn_there = i.1 ∙ ap Some same_insn; ref_there = r.1 ∙ ap Some same_ref }

module _ (program : Program) (sound : IsSound program) where
  -- a method of the program, in its class
  record Found (class method : ℕ) (m : Method) : Type 0 where
    pub c : LinkedClass
    pub class_there : slice_get program.classes class ≡ Some c
    pub in_class : slice_get c.methods method ≡ Some m
    pub well : IsSoundClass c

  found : (class method : ℕ) (m : Method) → method_at program class method ≡ Some m → Found class method m
  found class method m e =
      let h = and_then_of (λ (c : LinkedClass). slice_get c.methods method) (slice_get program.classes class) m e in
      record { c = h.0; class_there = h.1; in_class = h.2; well = all_get IsSoundClass program.classes class h.0 sound.classes h.1 }

  pub has_insns : HasInsns program
  has_insns class method at insn ref there =
      let f = found class method there.of there.there in
      let m : IsSoundMethod there.of = all_get IsSoundMethod f.c.methods method there.of f.well.methods f.in_class in
      all_get IsInsn there.of.insns at insn m.insns (has_insn there.of at insn ref there.is).insn_there
