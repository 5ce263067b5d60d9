-- What a call is made on is of the class that declares its method, where that is above the class that is named, or an interface.
use Rattle.std.proofs.Common.{◌≡◌, ◌⊎◌, ℕ, suc, Bool, true, false, cond, List, length, Option, Some, None, refl, sym, subst, ◌∙◌, inl, inr}
use Rattle.std.specs.Prelude.{bytes_eq, slice_get, is_some, ◌||◌}
use Rattle.std.proofs.lemmas.Bool.{and_parts, or_cases, or_right, true≢false}
use Rattle.cert_format.specs.declared.typing.Typing.{Typing}
use Rattle.cert_format.specs.declared.typing.VType.{VType}
use Rattle.cert_format.specs.declared.typing.VType.TheVariants as types
use Rattle.insn_codec.specs.declared.shape.Heap.TheVariants as heaps
use Rattle.insn_codec.specs.declared.shape.How.{How}
use Rattle.insn_codec.specs.declared.shape.Shape.TheVariants as shapes
use Rattle.insn_codec.specs.Shapes.{shape_of}
use Rattle.bytecode_model.specs.declared.program.LinkedClass.{LinkedClass}
use Rattle.bytecode_model.specs.declared.program.Program.{Program}
use Rattle.bytecode_model.specs.declared.program.Target.{Target}
use Rattle.bytecode_model.specs.Assigning.{assignable}
use Rattle.bytecode_model.specs.Classes.{classes_of, is_below, is_interface}
use Rattle.bytecode_model.specs.Heads.{head_of}
use Rattle.bytecode_model.specs.Makes.{class_made, new_at}
use Rattle.bytecode_model.specs.InsnPlace.{InsnPlace, calls_maker, class_referred}
use Rattle.bytecode_model.specs.SearchOrder.{Name}
use Rattle.bytecode_model.specs.Targets.{Calls}
use Rattle.bytecode_model.specs.Uses.{UsesAreShaped}
use Rattle.bytecode_model.specs.Wants.{to_own}
use Rattle.bytecode_model.proofs.Upwards.{is_up, same_of, one_named, up_from}
use Rattle.guest_heap.specs.declared.frame.Frame.{Frame}
use Rattle.guest_heap.specs.declared.object.Object.{Object}
use Rattle.guest_heap.specs.declared.value.Value.{Value}
use Rattle.guest_frames.specs.Values.{is_null}
use Rattle.typed_runs.specs.Fitting.{fits_made, fits_type, is_of}
use Rattle.typed_runs.specs.Frames.{IsReady}
use Rattle.typed_runs.specs.Programs.{IsTypedProgram}
use Rattle.typed_runs.proofs.Above.{interface_fits, below_fits}
use Rattle.typed_runs.proofs.Listed.{given_head, given_parent}
use Rattle.typed_runs.proofs.Calling.Passed.{Received, maker_makes, referred_class, spot}
use Rattle.typed_runs.proofs.Types.{is_of_over, just_is_of, type_fits_over}

-- what fits a class, and is not null, is an object of it
pub not_null : (program : Program) (heap : List Object) (v : Value) (name : Name) → is_null v ≡ false
    → fits_made program heap v (types.Ref name) ≡ true → is_of program heap name v ≡ true
not_null program heap v name some h =
    elim (or_cases (is_null v) _ h) [
      | inl null ↦ absurd (true≢false (sym null ∙ some))
      | inr is ↦ is
    ]

-- ---- what is above the superclass is above the class

module _ (program : Program) (typing : Typing) (ok : IsTypedProgram program typing) where
  parent_below : (own : ℕ) (class : LinkedClass) (above : Name) → slice_get program.classes own ≡ Some class
      → is_below program class.parent above ≡ true → is_below program class.name above ≡ true
  parent_below own class above there e =
      let n = length (classes_of program) in
      let next : is_up (classes_of program) (suc n) class.name above ≡ true =
      subst (λ o. one_named above (up_from (classes_of program) o n) ≡ true) (sym (given_head program typing ok own class there))
      (or_right (bytes_eq (head_of class.file).name above) _
      (subst (λ (parent : Name). is_up (classes_of program) n parent above ≡ true) (sym (given_parent program typing ok own class there)) e)) in
      subst (λ list. one_named above list ≡ true) (ok.links.order.ends class.name) next

-- ---- the receiver

module _ (program : Program) (typing : Typing) (ok : IsTypedProgram program typing) (shaped : UsesAreShaped) (heap : List Object) (frame : Frame)
    (r : IsReady program typing heap frame) (how : How) (shape : shape_of r.stands.insn ≡ shapes.Heap (heaps.Call how)) (ref : Target)
    (u : Calls program r.stands.class r.stands.insn ref) (declaring : Name)
    (looked : (is_below program u.told.class declaring ≡ true) ⊎ (is_interface program declaring ≡ true)) where
  abbrev place : InsnPlace
  place = spot program typing ok shaped heap frame r how shape

  class_told : class_referred place ≡ u.told.class
  class_told = referred_class program typing ok shaped heap frame r how shape ref u

  told_reaches : assignable program (types.Ref u.told.class) (types.Ref declaring) ≡ true
  told_reaches =
      elim looked [
        | inl up ↦ below_fits program typing ok u.told.class declaring up
        | inr is ↦ interface_fits program typing ok u.told.class declaring is
      ]

  parent_reaches : u.told.class ≡ r.stands.class.parent → assignable program (types.Ref r.stands.class.name) (types.Ref declaring) ≡ true
  parent_reaches same =
      elim looked [
        | inl up ↦
            below_fits program typing ok r.stands.class.name declaring
            (parent_below program typing ok frame.class r.stands.class declaring r.stands.there
            (subst (λ (n : Name). is_below program n declaring ≡ true) same up))
        | inr is ↦ interface_fits program typing ok r.stands.class.name declaring is
      ]

  chosen : (b : Bool) (name : Name) → is_some (cond b (Some name) None) ≡ true → b ≡ true
  chosen true name e = refl
  chosen false name e = absurd cc

  this_reaches : (v : Value) → is_of program heap r.stands.class.name v ≡ true
      → (bytes_eq (class_referred place) r.stands.class.name || bytes_eq (class_referred place) r.stands.class.parent) ≡ true
      → is_of program heap declaring v ≡ true
  this_reaches v h e =
      elim (or_cases (bytes_eq (class_referred place) r.stands.class.name) _ e) [
        | inl own ↦
            let same : u.told.class ≡ r.stands.class.name = sym class_told ∙ same_of (class_referred place) r.stands.class.name own in
            is_of_over program ok.links.order heap r.stands.class.name declaring v
            (subst (λ (n : Name). assignable program (types.Ref n) (types.Ref declaring) ≡ true) same told_reaches) h
        | inr up ↦
            is_of_over program ok.links.order heap r.stands.class.name declaring v
            (parent_reaches (sym class_told ∙ same_of (class_referred place) r.stands.class.parent up)) h
      ]

  -- an object that is not made yet
  made_reaches : (v : Value) (t : VType) → fits_type program heap r.stands.class r.stands.method v t ≡ true
      → is_some (class_made place t) ≡ true → is_of program heap declaring v ≡ true
  made_reaches v types.Top h e = absurd cc
  made_reaches v types.Int h e = absurd cc
  made_reaches v types.Null h e = absurd cc
  made_reaches v (types.Ref name) h e = absurd cc
  made_reaches v types.UninitThis h e = this_reaches v h (chosen _ r.stands.class.name e)
  made_reaches v (types.Uninit at) h e =
      let same = same_of (class_referred place) (new_at r.stands.method at) (chosen _ (class_referred place) e) in
      let is : is_of program heap u.told.class v ≡ true =
      subst (λ (n : Name). is_of program heap n v ≡ true) (sym same ∙ class_told) (just_is_of program heap (new_at r.stands.method at) v h) in
      is_of_over program ok.links.order heap u.told.class declaring v told_reaches is

  -- What such a call is made on is null, or an object of the class.
  pub reaches : (receiver : Option Value) (v : Received program typing ok shaped heap frame r how shape receiver) → is_null v.value ≡ false
      → is_of program heap declaring v.value ≡ true
  reaches receiver v some =
      elim (or_cases (calls_maker place) _ v.met) [
        | inl is ↦
            made_reaches v.value v.type v.fits
            (subst (λ (t : VType). is_some (class_made place t) ≡ true) v.first (maker_makes program typing ok shaped heap frame r how shape is))
        | inr both ↦
            let up = (and_parts (assignable program v.type (types.Ref (class_referred place))) (to_own place how v.type) both).0 in
            let is = not_null program heap v.value (class_referred place) some
            (type_fits_over program ok.links.order heap r.stands.class r.stands.method v.value v.type (types.Ref (class_referred place)) up v.fits) in
            is_of_over program ok.links.order heap (class_referred place) declaring v.value
            (subst (λ (n : Name). assignable program (types.Ref n) (types.Ref declaring) ≡ true) (sym class_told) told_reaches) is
      ]
