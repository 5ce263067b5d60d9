-- What the rules ask at the place where a frame stands.
use Rattle.std.proofs.Common.{◌≡◌, ℕ, ◌<◌, Bool, true, false, cond, List, length, Option, Some, None, refl, ap, sym, ◌∙◌, arith}
use Rattle.std.specs.Prelude.{IsTrue, ◌&&◌, ◌||◌, not, nat_le, slice_get}
use Rattle.std.specs.List.{Contains, list_all}
use Rattle.std.specs.Option.{option_map_or}
use Rattle.std.proofs.lemmas.List.Elements.{All-contains}
use Rattle.std.proofs.lemmas.List.Sums.{AllPass-from_list_all}
use Rattle.std.proofs.lemmas.Option.{slice_get-get_or, slice_get_within}
use Rattle.cert_format.specs.declared.typing.FrameType.{FrameType}
use Rattle.cert_format.specs.declared.typing.Typing.{Typing}
use Rattle.insn_codec.specs.declared.insn.Insn.{Insn}
use Rattle.insn_codec.specs.declared.insn.Insn.TheVariants as insns
use Rattle.insn_codec.specs.Control.{successors}
use Rattle.insn_codec.specs.Fits.{AimsWithin, IsInsn}
use Rattle.bytecode_model.specs.declared.program.Handler.{Handler}
use Rattle.bytecode_model.specs.declared.program.LinkedClass.{LinkedClass}
use Rattle.bytecode_model.specs.declared.program.Method.{Method}
use Rattle.bytecode_model.specs.declared.program.Program.{Program}
use Rattle.bytecode_model.specs.declared.program.Target.{Target}
use Rattle.bytecode_model.specs.Classes.{is_below}
use Rattle.bytecode_model.specs.InsnPlace.{InsnPlace, target_or_none}
use Rattle.bytecode_model.specs.Rules.{
  Frames,
  frame_of,
  covers,
  class_caught,
  is_handled,
  goes_well,
  catches_well,
  Entry,
  Depth,
  Operand,
  Local,
  Made,
  Successor,
  Caught,
  rule_failing,
  row_failing,
}
use Rattle.bytecode_model.specs.Sound.{IsSoundClass, IsSoundMethod, IsWithin}
use Rattle.bytecode_model.specs.LinkedClasses.{IsLinkedMethod}
use Rattle.bytecode_model.specs.Targets.{Names}
use Rattle.bytecode_model.specs.Typed.{frames_in, frames_told, place_at, row_fault}
use Rattle.frame_types.proofs.Choices.{passed}
use Rattle.api_listing.specs.BuiltIn.{throwable}
use Rattle.guest_heap.specs.declared.frame.Frame.{Frame}
use Rattle.guest_heap.specs.declared.value.Value.{Value}
use Rattle.guest_model.specs.Places.{insn_at, method_at}
use Rattle.guest_frames.specs.Stepping.{moved_to}
use Rattle.guest_model.proofs.Options.{all_get}
use Rattle.typed_runs.specs.Frames.{Stands, stands_at}
use Rattle.typed_runs.specs.Programs.{IsTypedProgram}
use Rattle.typed_runs.proofs.Within.{among, successor_within}

-- ---- the rules at a place

-- the rules from 2 on
pub record MeetsRules (frames : Frames) (place : InsnPlace) (type : FrameType) : Type 0 where
  pub depth : IsTrue (Depth place type)
  pub operand : IsTrue (Operand place type)
  pub local : IsTrue (Local place type)
  pub made : IsTrue (Made place type)
  pub successor : IsTrue (Successor frames place type)
  pub caught : IsTrue (Caught frames place type)

rules_met : (frames : Frames) (place : InsnPlace) (type : FrameType) → rule_failing frames place type ≡ None → MeetsRules frames place type
rules_met frames place type e =
    let depth = passed (Depth place type) 2 _ e in
    let operand = passed (Operand place type) 3 _ depth.1 in
    let local = passed (Local place type) 4 _ operand.1 in
    let made = passed (Made place type) 5 _ local.1 in
    let successor = passed (Successor frames place type) 6 _ made.1 in
    let caught = passed (Caught frames place type) 7 _ successor.1 in
    record { depth = depth.0; operand = operand.0; local = local.0; made = made.0; successor = successor.0; caught = caught.0 }

after_entry : (b : Bool) (rest : Option ℕ) → cond b (Some 1) rest ≡ None → rest ≡ None
after_entry true rest e = absurd cc
after_entry false rest e = e

contained : {A : Type 0} (p : A → Bool) (xs : List A) (x : A) → list_all p xs ≡ true → Contains xs x → p x ≡ true
contained p xs x h c = All-contains (λ y. p y ≡ true) xs x (AllPass-from_list_all p xs h) c

-- what is told, where it passes a test
told_well : (o : Option FrameType) (test : FrameType → Bool) → option_map_or test o false ≡ true → (type : FrameType) × (o ≡ Some type) × IsTrue (test type)
told_well None test e = absurd cc
told_well (Some type) test e = (type, refl, e)

insn_there : (list : List Insn) (at : ℕ) → at < length list → (insn : Insn) × (slice_get list at ≡ Some insn)
insn_there list at less = (_, slice_get-get_or list at (insns.Plain 0) less)

-- ---- where a frame stands

-- the frame types of its method
abbrev pub frames_at : {program : Program} {typing : Typing} {frame : Frame} → Stands program typing frame → Frames
frames_at {typing = typing} {frame = frame} s = frames_in s.class.methods (frames_told typing frame.class) frame.method

-- A frame can go on to this index of its method, of which a frame type is told that takes what the instruction leaves.
pub record GoesTo (program : Program) (typing : Typing) (frame : Frame) (stands : Stands program typing frame) (to : ℕ) : Type 0 where
  pub type : FrameType
  pub insn : Insn
  pub told : frame_of (frames_at stands) to ≡ Some type
  pub next : slice_get stands.method.insns to ≡ Some insn
  pub takes : IsTrue (goes_well (stands_at stands) stands.type type)

-- The handler takes what is thrown at the instruction, if it is of the class that it catches.
pub record IsCaughtBy (program : Program) (typing : Typing) (frame : Frame) (stands : Stands program typing frame) (handler : Handler) : Type 0 where
  pub type : FrameType
  pub insn : Insn
  pub told : frame_of (frames_at stands) handler.at ≡ Some type
  pub next : slice_get stands.method.insns handler.at ≡ Some insn
  pub below : is_below program (class_caught handler) throwable ≡ true
  pub takes : IsTrue (catches_well (stands_at stands) stands.type handler type)

-- where the frame stands once it has moved to such an index
abbrev pub moved_stands : {program : Program} {typing : Typing} {frame : Frame} (s : Stands program typing frame) (to : ℕ) (type : FrameType) (insn : Insn)
    → frame_of (frames_at s) to ≡ Some type → slice_get s.method.insns to ≡ Some insn → (locals items : List Value)
    → Stands program typing (moved_to frame to locals items)
moved_stands s to type insn told next locals items = record {
  class = s.class;
  method = s.method;
  insn = insn;
  type = type;
  there = s.there;
  here = s.here;
  next = next;
  told = told;
  size = s.size;
}

-- ---- a method that begins

-- The method's first instruction has a frame type that its arguments fit.
pub record Begins (program : Program) (typing : Typing) (own index : ℕ) (class : LinkedClass) (method : Method) : Type 0 where
  pub type : FrameType
  pub insn : Insn
  pub told : frame_of (frames_in class.methods (frames_told typing own) index) 0 ≡ Some type
  pub next : slice_get method.insns 0 ≡ Some insn
  pub entry : IsTrue (Entry (place_at program own class method 0 insn) type)

module _ (program : Program) (typing : Typing) (ok : IsTypedProgram program typing) where
  -- ---- classes and methods

  pub class_sound : (own : ℕ) (class : LinkedClass) → slice_get program.classes own ≡ Some class → IsSoundClass class
  class_sound own class there = all_get IsSoundClass program.classes own class ok.links.sound.classes there

  pub method_sound : (own index : ℕ) (class : LinkedClass) (method : Method) → slice_get program.classes own ≡ Some class
      → slice_get class.methods index ≡ Some method → IsSoundMethod method
  method_sound own index class method there here = all_get IsSoundMethod class.methods index method (class_sound own class there).methods here

  pub method_stands : (own index : ℕ) (class : LinkedClass) (method : Method) → slice_get program.classes own ≡ Some class
      → slice_get class.methods index ≡ Some method → IsLinkedMethod program class method
  method_stands own index class method there here = all_get (IsLinkedMethod program class) class.methods index method (ok.links.linked.standing own class there).methods here

  begins_so : (own index : ℕ) (class : LinkedClass) (method : Method) (insn : Insn) (o : Option FrameType) → slice_get method.insns 0 ≡ Some insn
      → frame_of (frames_in class.methods (frames_told typing own) index) 0 ≡ o
      → row_failing (frames_in class.methods (frames_told typing own) index) (place_at program own class method 0 insn) o ≡ None
      → Begins program typing own index class method
  begins_so own index class method insn None next told e = absurd cc
  begins_so own index class method insn (Some type) next told e =
      record { type = type; insn = insn; told = told; next = next; entry = (passed (Entry (place_at program own class method 0 insn) type) 1 _ e).0 }

  pub begins : (own index : ℕ) (class : LinkedClass) (method : Method) → slice_get program.classes own ≡ Some class → slice_get class.methods index ≡ Some method
      → 0 < length method.insns → Begins program typing own index class method
  begins own index class method there here some =
      let i = insn_there method.insns 0 some in
      let frames = frames_in class.methods (frames_told typing own) index in
      let row : row_fault program typing own index 0 ≡ row_failing frames (place_at program own class method 0 i.0) (frame_of frames 0) = rw (there, here, i.1) refl in
      begins_so own index class method i.0 (frame_of frames 0) i.1 refl (sym row ∙ ok.typed own index 0)

  -- ---- a frame

  module _ (frame : Frame) (s : Stands program typing frame) where
    pub sound : IsSoundMethod s.method
    sound = method_sound frame.class frame.method s.class s.method s.there s.here

    row : row_fault program typing frame.class frame.method frame.at ≡ row_failing (frames_at s) (stands_at s) (Some s.type)
    row = rw (s.there, s.here, s.next, s.told) refl

    pub rules : MeetsRules (frames_at s) (stands_at s) s.type
    rules = rules_met (frames_at s) (stands_at s) s.type (after_entry _ _ (sym row ∙ ok.typed frame.class frame.method frame.at))

    pub is_insn : IsInsn s.insn
    is_insn = all_get IsInsn s.method.insns frame.at s.insn sound.insns s.next

    pub method_is : method_at program frame.class frame.method ≡ Some s.method
    method_is = rw (s.there, s.here) refl

    pub ref_there : slice_get s.method.refs frame.at ≡ Some (stands_at s).ref
    ref_there =
        let less : frame.at < length s.method.refs = omega (arith, slice_get_within s.method.insns frame.at s.insn s.next, sound.refs) in
        let is = slice_get-get_or s.method.refs frame.at (stands_at s).ref less in
        is ∙ sym (ap (λ (o : Option Target). Some (target_or_none o)) is)

    -- the instruction that comes next, and what it names
    pub insn_is : insn_at program frame ≡ Some (s.insn, (stands_at s).ref)
    insn_is = rw (s.there, s.here, s.next, ref_there) refl

    pub names : Names program s.class s.insn (stands_at s).ref
    names = ok.links.linked.named frame.class frame.method frame.at s.class s.method s.insn (stands_at s).ref s.there s.here s.next ref_there

    pub goes_to : (to : ℕ) → Contains (successors frame.at s.insn) to → GoesTo program typing frame s to
    goes_to to has =
        let t = told_well (frame_of (frames_at s) to) (goes_well (stands_at s) s.type) (contained _ (successors frame.at s.insn) to rules.successor has) in
        let aims = all_get (AimsWithin (length s.method.insns)) s.method.insns frame.at s.insn sound.targets s.next in
        let i = insn_there s.method.insns to (successor_within s.method.insns frame.at s.insn sound.ends sound.targets s.next aims to has) in
        record { type = t.0; insn = i.0; told = t.1; next = i.1; takes = t.2 }

    handled : (covered roomy below there : Bool) → (not covered || (roomy && (below && there))) ≡ true → covered ≡ true → (below ≡ true) × (there ≡ true)
    handled true true true true h c = (refl, refl)
    handled true true true false h c = absurd cc
    handled true true false there h c = absurd cc
    handled true false below there h c = absurd cc
    handled false roomy below there h c = absurd cc

    pub caught_by : (handler : Handler) → Contains s.method.handlers handler → covers frame.at handler ≡ true → IsCaughtBy program typing frame s handler
    caught_by handler has covered =
        let well = contained (is_handled (frames_at s) (stands_at s) s.type) s.method.handlers handler rules.caught has in
        let h = handled (covers frame.at handler) (nat_le 1 s.method.max_stack) (is_below program (class_caught handler) throwable) _ well covered in
        let t = told_well (frame_of (frames_at s) handler.at) (catches_well (stands_at s) s.type handler) h.1 in
        let within : IsWithin (length s.method.insns) handler = among (IsWithin (length s.method.insns)) s.method.handlers handler sound.handlers has in
        let i = insn_there s.method.insns handler.at within.at in
        record { type = t.0; insn = i.0; told = t.1; next = i.1; below = h.0; takes = t.2 }
