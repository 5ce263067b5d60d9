-- What becomes of the types that stay, in a lower frame and in a higher one.
use Rattle.std.proofs.Common.{◌≡◌, ℕ, Bool, true, false, cond, List, Option, Some, None, ◌⊎◌, refl, sym, ap, subst, ◌∙◌, inl, inr}
use Rattle.std.specs.Prelude.{not, ◌&&◌, ◌||◌, is_some}
use Rattle.std.specs.Option.{option_map_or}
use Rattle.std.proofs.lemmas.Bool.{and_parts, cases_Bool, eq-eqb, eqb-true, false≢true}
use Rattle.cert_format.specs.declared.typing.FrameType.{FrameType}
use Rattle.cert_format.specs.declared.typing.VType.{VType}
use Rattle.cert_format.specs.declared.typing.VType.TheVariants as types
use Rattle.insn_codec.specs.declared.shape.Heap.TheVariants as heap
use Rattle.insn_codec.specs.declared.shape.Shape.{Shape}
use Rattle.insn_codec.specs.declared.shape.Shape.TheVariants as shapes
use Rattle.insn_codec.specs.declared.shape.How.{How}
use Rattle.bytecode_model.specs.declared.program.Program.{Program}
use Rattle.bytecode_model.specs.Assigning.{assignable}
use Rattle.type_lattice.proofs.Orders.{itself}
use Rattle.bytecode_model.specs.Makes.{type_at, class_made, is_same_object, when_made, when_called, changed_by}
use Rattle.bytecode_model.specs.InsnPlace.{InsnPlace, has_receiver, calls_maker}
use Rattle.bytecode_model.specs.Rules.{taken, makes_receiver, made_well}
use Rattle.code_typing.proofs.OrderWants.{below_this, below_new}

-- ---- objects that are not made yet

module _ (program : Program) where
  -- Below an object that is not made yet is only that object.
  object_lower : (o u t : VType) → assignable program t u ≡ true → is_same_object o u ≡ true → is_same_object o t ≡ true
  object_lower types.UninitThis types.UninitThis t e f = ap (is_same_object types.UninitThis) (below_this program t e)
  object_lower (types.Uninit i) (types.Uninit j) t e f = ap (is_same_object (types.Uninit i)) (below_new program t j e) ∙ f
  object_lower o u t e f = absurd cc

  -- Above it are only that object and Top.
  object_upper : (o t u : VType) → assignable program t u ≡ true → is_same_object o t ≡ true → (is_same_object o u ≡ true) ⊎ (u ≡ types.Top)
  object_upper types.UninitThis types.UninitThis types.Top e f = inr refl
  object_upper types.UninitThis types.UninitThis types.UninitThis e f = inl refl
  object_upper (types.Uninit i) (types.Uninit j) types.Top e f = inr refl
  object_upper (types.Uninit i) (types.Uninit j) (types.Uninit k) e f = inl (eq-eqb i k (eqb-true i j f ∙ eqb-true j k e))
  object_upper o t u e f = absurd cc

  -- Where another type stands for the object, it stands for it in both.
  replaced_by : (o r t u : VType) (b c : Bool) → is_same_object o t ≡ b → is_same_object o u ≡ c → assignable program t u ≡ true → assignable program (cond b r t) (cond c r u) ≡ true
  replaced_by o r t u true true e f h = itself program r
  replaced_by o r t u true false e f h =
      elim (object_upper o t u h e) [
        | inl is ↦ absurd (false≢true (sym f ∙ is))
        | inr top ↦ subst (λ (x : VType). assignable program r x ≡ true) (sym top) refl
      ]
  replaced_by o r t u false true e f h = absurd (false≢true (sym e ∙ object_lower o u t h f))
  replaced_by o r t u false false e f h = h

  replaced : (o r t u : VType) → assignable program t u ≡ true → assignable program (cond (is_same_object o t) r t) (cond (is_same_object o u) r u) ≡ true
  replaced o r t u h = replaced_by o r t u _ _ refl refl h

  unchanged : (b c : Bool) (t u : VType) → assignable program t u ≡ true → assignable program (cond b t t) (cond c u u) ≡ true
  unchanged true true t u h = h
  unchanged true false t u h = h
  unchanged false true t u h = h
  unchanged false false t u h = h

  -- the object of a constructor that is called
  made_from : (r t u : VType) (class : Option (List ℕ)) → assignable program t u ≡ true
      → assignable program (cond (is_same_object r t) (option_map_or (λ (c : List ℕ). types.Ref c) class t) t) (cond (is_same_object r u) (option_map_or (λ (c : List ℕ). types.Ref c) class u) u) ≡ true
  made_from r t u None h = unchanged (is_same_object r t) (is_same_object r u) t u h
  made_from r t u (Some c) h = replaced r (types.Ref c) t u h

-- A receiver that a constructor may make is above itself alone.
same_receiver : (place : InsnPlace) (r s : VType) → assignable place.program r s ≡ true → is_some (class_made place s) ≡ true → r ≡ s
same_receiver place r types.UninitThis e f = below_this place.program r e
same_receiver place r (types.Uninit i) e f = below_new place.program r i e
same_receiver place r s e f = absurd cc

-- ---- an instruction

either_made : (maker receives some : Bool) → (not maker || (receives && some)) ≡ true → maker ≡ true → some ≡ true
either_made true receives some e f = (and_parts receives some e).1
either_made false receives some e f = absurd cc

module _ (place : InsnPlace) (low high : FrameType) (under : assignable place.program (type_at (taken place low) 0) (type_at (taken place high) 0) ≡ true) where
  receivers : (how : How) → makes_receiver place how high ≡ true → calls_maker place ≡ true → type_at (taken place low) 0 ≡ type_at (taken place high) 0
  receivers how e is = same_receiver place _ _ under (either_made (calls_maker place) (has_receiver how) _ e is)

  pub makes_lower : (how : How) → makes_receiver place how high ≡ true → makes_receiver place how low ≡ true
  makes_lower how e =
      elim (cases_Bool (calls_maker place)) [
        | inl is ↦
            subst (λ (r : VType). (not (calls_maker place) || (has_receiver how && is_some (class_made place r))) ≡ true) (sym (receivers how e is)) e
        | inr other ↦ rw other refl
      ]

  called_below : (how : How) → makes_receiver place how high ≡ true → (t u : VType) → assignable place.program t u ≡ true
      → assignable place.program (when_called place (taken place low) t) (when_called place (taken place high) u) ≡ true
  called_below how e t u h =
      elim (cases_Bool (calls_maker place)) [
        | inl is ↦
            let r = type_at (taken place high) 0 in
            let made : assignable place.program (when_made place r t) (when_made place r u) ≡ true = made_from place.program r t u (class_made place r) h in
            rw is (subst (λ (s : VType). assignable place.program (when_made place s t) (when_made place r u) ≡ true) (sym (receivers how e is)) made)
        | inr other ↦ rw other h
      ]

  pub changed_below : (shape : Shape) → made_well place high shape ≡ true → (t u : VType) → assignable place.program t u ≡ true
      → assignable place.program (changed_by place (taken place low) shape t) (changed_by place (taken place high) shape u) ≡ true
  changed_below (shapes.Heap heap.New) e t u h = replaced place.program (types.Uninit place.at) types.Top t u h
  changed_below (shapes.Heap (heap.Call how)) e t u h = called_below how e t u h
  changed_below shape e t u h = h
