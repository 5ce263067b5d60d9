-- The certificate of a woven program can be encoded.
use Rattle.std.proofs.Common.{◌≡◌, ℕ, zero, suc, ◌<◌, ◌≤◌, ◌^◌, Bool, true, false, cond, List, [], ◌∷◌, length, map, drop, Option, Some, None, refl, sym, ap, subst, ◌∙◌, arith}
use Rattle.std.specs.Prelude.{slice_get}
use Rattle.std.specs.List.{AllByRecursion, zip}
use Rattle.block_template.specs.Good.{HasNumbers}
use Rattle.bytecode_model.specs.declared.program.LinkedClass.{LinkedClass}
use Rattle.bytecode_model.specs.declared.program.Method.{Method}
use Rattle.bytecode_model.specs.declared.program.Program.{Program}
use Rattle.bytecode_model.specs.Rules.{Frames}
use Rattle.bytecode_model.specs.Layout.{IsLaidOut, coded, has_code}
use Rattle.bytecode_model.specs.Sound.{IsSound, IsSoundClass, IsSoundMethod}
use Rattle.bytecode_model.specs.LinkedClasses.{AreLinkedClasses}
use Rattle.bytecode_model.specs.Typed.{list_at}
use Rattle.cert_format.specs.declared.certificate.Mode.{Mode}
use Rattle.cert_format.specs.declared.note.Note.{Note}
use Rattle.cert_format.specs.declared.typing.FrameType.{FrameType}
use Rattle.cert_format.specs.declared.typing.Typing.{Typing}
use Rattle.cert_format.specs.Fits.{IsEncodable, FitClasses, FitsClass, FitsInstruction, FitsMethod, FitsNote}
use Rattle.cert_maker.specs.Noting.{certificate_of, class_notes, if_typed, method_notes, notes_of, parts_notes, where_typed}
use Rattle.conspec_automaton.specs.declared.policy.Policy.{Policy}
use Rattle.conspec_automaton.specs.Sound.{IsPolicy}
use Rattle.command_outputs.specs.Outputs.{is_written}
use Rattle.cert_maker.specs.Canonical.{FitsIfSome, FitsTyping}
use Rattle.inliner_tool.proofs.Bases.{few_locals}
use Rattle.inliner_tool.proofs.Names.{fit_names}
use Rattle.inliner_tool.proofs.Notes.{parts_fit}

-- ---- lists

map_long : {A B : Type 0} (f : A → B) (list : List A) → length (map f list) ≡ length list
map_long f [] = refl
map_long f (x ∷ list) = ap suc (map_long f list)

-- lists of as many items at each place have as many items
as_many : {A B : Type 0} (xs : List (List A)) (ys : List (List B)) → map length xs ≡ map length ys → length xs ≡ length ys
as_many xs ys e = sym (map_long length xs) ∙ ap length e ∙ map_long length ys

-- the methods of a program have so many instructions
few_insns : (methods : List Method) → AllByRecursion IsSoundMethod methods → AllByRecursion (λ (n : ℕ). n < 2 ^ 16) (map (λ (m : Method). length m.insns) (coded methods))
few_insns [] sound = tt
few_insns (m ∷ methods) sound = by (has_code m) (few_insns methods sound.1) where
  by : (b : Bool) → AllByRecursion (λ (n : ℕ). n < 2 ^ 16) (map (λ (x : Method). length x.insns) (coded methods))
      → AllByRecursion (λ (n : ℕ). n < 2 ^ 16) (map (λ (x : Method). length x.insns) (cond b (m ∷ coded methods) (coded methods)))
  by true rest = (sound.0.few, rest)
  by false rest = rest

few_coded : (methods : List Method) → length (coded methods) ≤ length methods
few_coded [] = omega arith
few_coded (m ∷ methods) = by (has_code m) (few_coded methods) where
  by : (b : Bool) → length (coded methods) ≤ length methods → length (cond b (m ∷ coded methods) (coded methods)) ≤ suc (length methods)
  by true rest = omega (arith, rest)
  by false rest = omega (arith, rest)

module _ (vars : ℕ) where
  -- ---- a method

  instruction_fits : (frame : Option FrameType) (note : Note) → FitsIfSome frame → FitsNote vars note → FitsInstruction vars (frame, if_typed frame note)
  instruction_fits None note canonical fits = refl
  instruction_fits (Some f) note canonical fits = (canonical, fits)

  instructions_fit : (canonical : List Note) (frames : Frames) → AllByRecursion FitsIfSome frames → AllByRecursion (FitsNote vars) canonical → AllByRecursion (FitsInstruction vars) (zip frames (where_typed canonical frames))
  instructions_fit [] [] fit noted = tt
  instructions_fit [] (f ∷ frames) fit noted = tt
  instructions_fit (note ∷ canonical) [] fit noted = tt
  instructions_fit (note ∷ canonical) (f ∷ frames) fit noted = (instruction_fits f note fit.0 noted.0, instructions_fit canonical frames fit.1 noted.1)

  -- ---- a class

  module _ (policy : Policy) (mode : Mode) (noted : (method : Method) → method.max_locals < 2 ^ 16 → AllByRecursion (FitsNote vars) (parts_notes policy mode method.max_locals method.refs)) where
    -- of each method with code
    abbrev Small : Method → Type 0
    Small method = has_code method ≡ true → method.max_locals < 2 ^ 16

    methods_fit : (methods : List Method) → AllByRecursion Small methods → (frames : List Frames) → AllByRecursion (λ (fs : Frames). AllByRecursion FitsIfSome fs) frames → AllByRecursion (λ (fs : Frames). length fs < 2 ^ 16) frames
        → map length (class_notes policy mode methods frames) ≡ map length frames → AllByRecursion (FitsMethod vars) (zip frames (class_notes policy mode methods frames))
    methods_fit [] small [] fit few e = tt
    methods_fit [] small (fs ∷ frames) fit few e = tt
    methods_fit (m ∷ methods) small frames fit few e = by (has_code m) refl frames fit few e (methods_fit methods small.1) where
      by : (b : Bool) → has_code m ≡ b → (frames : List Frames) → AllByRecursion (λ (fs : Frames). AllByRecursion FitsIfSome fs) frames → AllByRecursion (λ (fs : Frames). length fs < 2 ^ 16) frames
          → map length (cond b (method_notes policy mode m (list_at frames 0) ∷ class_notes policy mode methods (drop 1 frames)) (class_notes policy mode methods frames)) ≡ map length frames
          → ((later : List Frames) → AllByRecursion (λ (fs : Frames). AllByRecursion FitsIfSome fs) later → AllByRecursion (λ (fs : Frames). length fs < 2 ^ 16) later
          → map length (class_notes policy mode methods later) ≡ map length later → AllByRecursion (FitsMethod vars) (zip later (class_notes policy mode methods later)))
          → AllByRecursion (FitsMethod vars) (zip frames (cond b (method_notes policy mode m (list_at frames 0) ∷ class_notes policy mode methods (drop 1 frames)) (class_notes policy mode methods frames)))
      by false is frames fit few e rest = rest frames fit few e
      by true is [] fit few e rest = tt
      by true is (fs ∷ frames) fit few e rest =
          let first : length (method_notes policy mode m fs) ≡ length fs = cc in
          let others : map length (class_notes policy mode methods frames) ≡ map length frames = cc in (
            (omega (arith, few.0), (first, instructions_fit (parts_notes policy mode m.max_locals m.refs) fs fit.0 (noted m (small.0 is)))),
            rest frames fit.1 few.1 others,
          )

    classes_fit : (classes : List LinkedClass) → AllByRecursion (λ (c : LinkedClass). AllByRecursion Small c.methods) classes → (frames : List (List Frames))
        → AllByRecursion (λ (fs : List Frames). AllByRecursion (λ (f : Frames). AllByRecursion FitsIfSome f) fs) frames
        → AllByRecursion (λ (fs : List Frames). (length fs < 2 ^ 16) × AllByRecursion (λ (f : Frames). length f < 2 ^ 16) fs) frames
        → map (map length) (notes_of policy mode classes frames) ≡ map (map length) frames → AllByRecursion (FitsClass vars) (zip frames (notes_of policy mode classes frames))
    classes_fit [] small [] fit few e = tt
    classes_fit [] small (fs ∷ frames) fit few e =
        let first : [] ≡ map length fs = cc in
        let none : length fs ≡ 0 = sym (map_long length fs) ∙ ap length (sym first) in (
          (few.0.0, (sym none, no_methods fs)),
          no_more frames,
        )
      where
        no_methods : (fs : List Frames) → AllByRecursion (FitsMethod vars) (zip fs [])
        no_methods [] = tt
        no_methods (f ∷ fs) = tt

        no_more : (frames : List (List Frames)) → AllByRecursion (FitsClass vars) (zip frames [])
        no_more [] = tt
        no_more (fs ∷ frames) = tt
    classes_fit (c ∷ classes) small [] fit few e = tt
    classes_fit (c ∷ classes) small (fs ∷ frames) fit few e =
        let first : map length (class_notes policy mode c.methods fs) ≡ map length fs = cc in
        let others : map (map length) (notes_of policy mode classes frames) ≡ map (map length) frames = cc in (
          (few.0.0, (as_many (class_notes policy mode c.methods fs) fs first, methods_fit c.methods small.0 fs fit.0 few.0.1 first)),
          classes_fit classes small.1 frames fit.1 few.1 others,
        )

-- ---- the program

-- what holds of the lengths of lists
all_lengths : {A : Type 0} (P : ℕ → Type 0) (lists : List (List A)) (sizes : List ℕ) → map length lists ≡ sizes → AllByRecursion P sizes → AllByRecursion (λ (l : List A). P (length l)) lists
all_lengths P [] sizes e all = tt
all_lengths P (l ∷ lists) [] e all = absurd cc
all_lengths P (l ∷ lists) (n ∷ sizes) e all =
    let first : length l ≡ n = cc in
    let others : map length lists ≡ sizes = cc in
    (subst P (sym first) all.0, all_lengths P lists sizes others all.1)

few_in : (classes : List LinkedClass) → AllByRecursion IsSoundClass classes → (frames : List (List Frames)) → map (map length) frames ≡ map (λ (c : LinkedClass). map (λ (m : Method). length m.insns) (coded c.methods)) classes
    → AllByRecursion (λ (fs : List Frames). (length fs < 2 ^ 16) × AllByRecursion (λ (f : Frames). length f < 2 ^ 16) fs) frames
few_in [] sound [] e = tt
few_in [] sound (fs ∷ frames) e = absurd cc
few_in (c ∷ classes) sound [] e = absurd cc
few_in (c ∷ classes) sound (fs ∷ frames) e =
    let first : map length fs ≡ map (λ (m : Method). length m.insns) (coded c.methods) = cc in
    let others : map (map length) frames ≡ map (λ (c : LinkedClass). map (λ (m : Method). length m.insns) (coded c.methods)) classes = cc in
    let many : length fs ≡ length (coded c.methods) = sym (map_long length fs) ∙ ap length first ∙ map_long (λ (m : Method). length m.insns) (coded c.methods) in (
      (omega (arith, many, few_coded c.methods, sound.0.few), all_lengths (λ (n : ℕ). n < 2 ^ 16) fs (map (λ (m : Method). length m.insns) (coded c.methods)) first (few_insns c.methods sound.0.methods)),
      few_in classes sound.1 frames others,
    )

-- what holds of each item by its place
all_by : {A : Type 0} (P : A → Type 0) (list : List A) → ((i : ℕ) (x : A) → slice_get list i ≡ Some x → P x) → AllByRecursion P list
all_by P [] each = tt
all_by P (x ∷ list) each = (each zero x refl, all_by P list (λ i y e. each (suc i) y e))

module _ (old new : Program) (policy : Policy) (mode : Mode) (typing : Typing) (is : IsPolicy policy) (numbers : HasNumbers policy) (sound : IsSound old) (standing : AreLinkedClasses old) (new_sound : IsSound new)
    (frames_shaped : IsLaidOut new typing.frames) (notes_shaped : IsLaidOut new (certificate_of old.classes policy mode typing).notes) (fits : FitsTyping typing)
    (written : is_written (certificate_of old.classes policy mode typing) ≡ true) where
  small : AllByRecursion (λ (c : LinkedClass). AllByRecursion (Small (length policy.vars) policy mode (λ method few. parts_fit policy is numbers mode method.max_locals few method.refs)) c.methods) old.classes
  small = all_by _ old.classes (λ own class class_there. all_by _ class.methods (λ index method method_there code. few_locals old sound standing own index class method class_there method_there code))

  same_shape : map (map length) (notes_of policy mode old.classes typing.frames) ≡ map (map length) typing.frames
  same_shape = notes_shaped ∙ sym frames_shaped

  classes : FitClasses (length policy.vars) (typing.frames, notes_of policy mode old.classes typing.frames)
  classes =
      let count : length typing.frames ≡ length new.classes = sym (map_long (map length) typing.frames) ∙ ap length frames_shaped ∙ map_long _ new.classes in
      let many : length (notes_of policy mode old.classes typing.frames) ≡ length typing.frames =
      sym (map_long (map length) (notes_of policy mode old.classes typing.frames)) ∙ ap length same_shape ∙ map_long (map length) typing.frames in (
        omega (arith, count, new_sound.few),
        (
          many,
          classes_fit (length policy.vars) policy mode (λ method few. parts_fit policy is numbers mode method.max_locals few method.refs) old.classes small typing.frames fits
              (few_in new.classes new_sound.classes typing.frames frames_shaped) same_shape,
        ),
      )

  pub is_encodable : IsEncodable (length policy.vars) (certificate_of old.classes policy mode typing)
  is_encodable = record { names = fit_names (certificate_of old.classes policy mode typing) written; classes = classes }
