-- A woven program is accepted with the certificate that is made of its types.
use Rattle.std.proofs.Common.{◌≡◌, ℕ, zero, suc, ◌+◌, ◌<◌, ◌≤◌, Bool, true, false, cond, List, [], ◌∷◌, ◌++◌, length, map, take, Option, Some, None, refl, sym, ap, subst, ◌∙◌, ◌⊎◌, inl, inr, arith}
use Rattle.std.specs.Prelude.{◌==◌, ◌&&◌, is_some, nat_lt, option_and_then, slice_get, slice_index}
use Rattle.std.specs.List.{AllByRecursion}
use Rattle.std.specs.Option.{option_map_or}
use Rattle.std.proofs.lemmas.Bool.{and_from, and_parts, cases_Bool, false≢true, lt-ltb, ne_eqb}
use Rattle.std.proofs.lemmas.Option.{slice_get_past, slice_get_within}
use Rattle.insn_codec.specs.declared.insn.Insn.{Insn}
use Rattle.bytecode_model.specs.declared.program.LinkedClass.{LinkedClass}
use Rattle.bytecode_model.specs.declared.program.Method.{Method}
use Rattle.bytecode_model.specs.declared.program.Program.{Program}
use Rattle.bytecode_model.specs.declared.program.Target.{Target}
use Rattle.bytecode_model.specs.declared.program.Target.TheVariants as target
use Rattle.bytecode_model.specs.Named.{AreRightOperands, IsRightOperand}
use Rattle.bytecode_model.specs.Rules.{frame_of}
use Rattle.bytecode_model.specs.Layout.{IsLaidOut, coded, has_code}
use Rattle.bytecode_model.specs.Sound.{IsSound, IsSoundClass, IsSoundMethod}
use Rattle.bytecode_model.specs.Typed.{IsTyped, frames_in, frames_told, list_at, reached}
use Rattle.bytecode_model.proofs.Lists.{all_get}
use Rattle.cert_format.specs.declared.certificate.Certificate.{Certificate}
use Rattle.cert_format.specs.declared.certificate.Mode.{Mode}
use Rattle.cert_format.specs.declared.note.Note.{Note}
use Rattle.cert_format.specs.declared.typing.FrameType.{FrameType}
use Rattle.cert_format.specs.declared.typing.Typing.{Typing}
use Rattle.code_typing.specs.Closed.{method_at}
use Rattle.code_typing.proofs.Closed.{caught, goes_on}
use Rattle.conspec_automaton.specs.declared.policy.Policy.{Policy}
use Rattle.conspec_automaton.specs.Sound.{IsPolicy}
use Rattle.offset_patch.specs.Plan.{Plan}
use Rattle.offset_patch.specs.Splicing.{fronts_of}
use Rattle.block_template.specs.Blocks.{plan_of}
use Rattle.block_logic.specs.Annotations.{Annotations, annotations_of, held_in}
use Rattle.block_logic.specs.Accepted.{IsAccepted, fault_in_class, note_fault_at, notes_in, notes_told, reached_fault, rules_of}
use Rattle.block_logic.specs.Notes.{note_fault}
use Rattle.block_logic.specs.Obeying.{FitsListing}
use Rattle.block_logic.specs.Operands.{is_state_name, variable_named}
use Rattle.block_logic.specs.Rows.{Rules}
use Rattle.block_logic.specs.State.{state_at, state_fault}
use Rattle.class_weaving.specs.Outcome.{Each, IsFreeOfState, IsFreeTarget, IsWoven, IsWovenClass, IsWovenMethod}
use Rattle.class_weaving.specs.Woven.{sites_of}
use Rattle.cert_maker.specs.Accepting.{IsStopped, WovenIsAccepted}
use Rattle.cert_maker.specs.Noting.{certificate_of, class_notes, method_notes}
use Rattle.class_weaving.proofs.Bodies.{same_length}
use Rattle.cert_maker.proofs.Body.{Body, weaves}
use Rattle.cert_maker.proofs.ClausesAlike.{result_alike}
use Rattle.class_weaving.proofs.Lists.{each_back, slice_there}
use Rattle.cert_maker.proofs.WholeMethods.{passes}
use Rattle.cert_maker.proofs.Shape.{class_typed, class_noted, class_sizes, classes_shaped, code_stays, coded_stay, frames_long, notes_there}
use Rattle.cert_maker.proofs.Standing.{IsReady, canonical}
use Rattle.cert_maker.proofs.StateClass.{other_name, state_found, state_right}

-- ---- what was woven of what

-- a class of the woven program is that of a class, or conspec/State
class_of : (plan : Plan) (count : ℕ) (olds news : List LinkedClass) (state : LinkedClass) → Each (IsWovenClass plan count) olds news
    → (own : ℕ) (x : LinkedClass) → slice_get (news ++ state ∷ []) own ≡ Some x
    → ((class : LinkedClass) × (slice_get olds own ≡ Some class) × IsWovenClass plan count class x) ⊎ (x ≡ state)
class_of plan count [] [] state each zero x e = inr cc
class_of plan count [] [] state each (suc own) x e = absurd cc
class_of plan count [] (y ∷ news) state each own x e = absurd each
class_of plan count (class ∷ olds) [] state each own x e = absurd each
class_of plan count (class ∷ olds) (y ∷ news) state each zero x e =
    let same : y ≡ x = cc in
    inl (class, refl, subst (IsWovenClass plan count class) same each.0)
class_of plan count (class ∷ olds) (y ∷ news) state each (suc own) x e = class_of plan count olds news state each.1 own x e

-- ---- what names nothing of conspec/State

free_name : (ref : Target) → IsFreeTarget ref → is_state_name ref ≡ false
free_name (target.ClassName name) free = other_name name free
free_name target.None free = refl
free_name (target.Builtin i) free = refl
free_name (target.Method c m) free = refl
free_name (target.Field c f) free = refl
free_name (target.ApiMethod i) free = refl
free_name (target.ApiField i) free = refl
free_name (target.Number n) free = refl
free_name (target.Literal i) free = refl

free_field : (state : ℕ) (ref : Target) → ((of index : ℕ) → ref ≡ target.Field of index → of < state) → is_some (variable_named state ref) ≡ false
free_field state (target.Field c f) within =
    let other : (c == state) ≡ false = ne_eqb c state (λ e. absurd (omega (arith, e, within c f refl))) in
    ap (λ (b : Bool). is_some (cond b (Some f) None)) other
free_field state (target.ClassName name) within = refl
free_field state target.None within = refl
free_field state (target.Builtin i) within = refl
free_field state (target.Method c m) within = refl
free_field state (target.ApiMethod i) within = refl
free_field state (target.ApiField i) within = refl
free_field state (target.Number n) within = refl
free_field state (target.Literal i) within = refl

last_sound : (news : List LinkedClass) (state : LinkedClass) → AllByRecursion IsSoundClass (news ++ state ∷ []) → IsSoundClass state
last_sound [] state all = all.0
last_sound (x ∷ news) state all = last_sound news state all.1

-- ---- a program

module _ (old new : Program) (policy : Policy) (mode : Mode) (typing : Typing) (read : IsPolicy policy)
    (listed : AllByRecursion (FitsListing old.listing) policy.clauses) (sound : IsSound old) (sound_new : IsSound new) (right : AreRightOperands old)
    (free : IsFreeOfState old) (is : IsWoven old (plan_of policy mode) policy.vars new) (typed : IsTyped new typing) (shaped : IsLaidOut new typing.frames)
    (stopped : IsStopped old policy mode new typing) where
  abbrev plan : Plan
  plan = plan_of policy mode

  abbrev state : ℕ
  state = length old.classes

  abbrev certificate : Certificate
  certificate = certificate_of old.classes policy mode typing

  abbrev annotations : Annotations
  annotations = annotations_of certificate

  abbrev rules : Rules
  rules = record { held = held_in mode; policy = policy; state = state }

  -- conspec/State stands after the classes.
  state_is : state_at new.classes ≡ Some state
  state_is =
      let at : 0 + state ≡ state = omega arith in
      ap state_at is.are ∙ state_found plan state old.classes is.own is.state 0 is.classes free.classes is.last.name ∙ ap Some at

  rules_are : rules_of new policy annotations ≡ rules
  rules_are =
      ap (λ (o : Option ℕ). record { held = held_in mode; policy = policy; state = option_map_or (λ (at : ℕ). at) o (length new.classes) }) state_is

  state_fits : state_fault new.classes policy ≡ None
  state_fits =
      ap (λ (cs : List LinkedClass). state_fault cs policy) is.are
      ∙ state_right plan state policy old.classes is.own is.state read.few_vars is.classes free.classes is.last
      (last_sound is.own is.state (subst (AllByRecursion IsSoundClass) is.are sound_new.classes))

  frames_shaped : map (map length) typing.frames ≡ map class_sizes (is.own ++ is.state ∷ [])
  frames_shaped = shaped ∙ ap (map class_sizes) is.are

  notes_shaped : IsLaidOut new certificate.notes
  notes_shaped =
      classes_shaped policy mode policy.vars state old.classes is.own is.state is.last is.classes sound.classes typing.frames frames_shaped
      ∙ ap (map class_sizes) (sym is.are)

  -- ---- a method

  module _ (own index : ℕ) (class other : LinkedClass) (method woven : Method) (class_there : slice_get old.classes own ≡ Some class)
      (other_there : slice_get new.classes own ≡ Some other) (of_class : IsWovenClass plan state class other)
      (method_there : slice_get class.methods index ≡ Some method) (woven_there : slice_get other.methods index ≡ Some woven)
      (of_method : IsWovenMethod plan state other.file.pool method woven) where
    abbrev frames : List (Option FrameType)
    frames = frames_in other.methods (frames_told typing own) index

    sound_class : IsSoundClass class
    sound_class = all_get IsSoundClass old.classes own class sound.classes class_there

    abbrev body : Body
    body = record {
      policy = policy;
      mode = mode;
      state = state;
      pool = other.file.pool;
      method = method;
      made = woven;
      of_method = of_method;
      sound = all_get IsSoundMethod class.methods index method sound_class.methods method_there;
    }

    at_is : method_at new own index ≡ Some woven
    at_is = ap (option_and_then (λ (c : LinkedClass). slice_get c.methods index)) other_there ∙ woven_there

    reached_is : (at : ℕ) → reached new typing own index at ≡ (has_code woven && is_some (frame_of frames at))
    reached_is at = rw (other_there, woven_there) refl

    module _ (has : has_code woven ≡ true) where
      to_reached : (at : ℕ) → is_some (frame_of frames at) ≡ true → reached new typing own index at ≡ true
      to_reached at e = reached_is at ∙ and_from (has_code woven) (is_some (frame_of frames at)) has e

      of_reached : (at : ℕ) → reached new typing own index at ≡ true → is_some (frame_of frames at) ≡ true
      of_reached at e = (and_parts (has_code woven) (is_some (frame_of frames at)) (sym (reached_is at) ∙ e)).1

      right_at : (i : ℕ) (ref : Target) → slice_get method.refs i ≡ Some ref → (insn : Insn) × IsRightOperand old class insn ref
      right_at i ref e =
          let insn = slice_there method.insns i (omega (arith, slice_get_within method.refs i ref e, same_length (weaves body))) in
          (insn.0, right own index i class method insn.0 ref class_there method_there insn.1 e)

      ready : IsReady body frames
      ready = record {
        read = read;
        unnamed = λ i ref e.
            let in_class = all_get (λ (c : LinkedClass). AllByRecursion (λ (m : Method). AllByRecursion IsFreeTarget m.refs) c.methods) old.classes own class free.operands class_there in
            let in_method = all_get (λ (m : Method). AllByRecursion IsFreeTarget m.refs) class.methods index method in_class method_there in
            free_name ref (all_get IsFreeTarget method.refs i ref in_method e);
        untouched = λ i ref e. free_field state ref (right_at i ref e).1.field;
        few = λ i callee e.
            let call = (right_at i (target.ApiMethod callee) e).1.listed callee refl in
            omega (arith, sound.listed.methods, slice_get_within old.listing.methods callee call.method call.there);
        calls = λ i callee insn there e.
            let call = (right own index i class method insn (target.ApiMethod callee) class_there method_there there e).listed callee refl in
            (call.how, call.calls);
        alike = λ i callee e has_clause p c found.
            let call = (right_at i (target.ApiMethod callee) e).1.listed callee refl in
            result_alike old.listing policy listed callee call.method call.there p c found has_clause;
        long = frames_long (frames_told typing own) other.methods index woven
            (class_typed typing.frames new.classes own other shaped other_there) woven_there has;
        next = λ at insn there e to c. of_reached to (goes_on new typing typed own index at woven insn at_is there (to_reached at e) to c);
        caught = λ at insn handler there e c from to.
            of_reached handler.at (caught new typing typed own index at woven insn handler at_is there (to_reached at e) c from to);
        stopped = λ i callee k item e has_clause there role.
            let at : ℕ = slice_index (fronts_of (sites_of plan method.max_locals method)) i + k in
            elim (cases_Bool (is_some (frame_of frames at))) [
              | inl typed_here ↦
                  absurd (false≢true (sym (stopped own index i callee k class method item class_there method_there e has_clause there role) ∙ to_reached at typed_here))
              | inr none ↦ none
            ];
      }

      notes_are : notes_in other.methods (notes_told annotations own) index ≡ canonical body frames ready
      notes_are =
          let same = coded_stay policy mode state other.file.pool class.methods other.methods of_class.methods sound_class.methods index in
          let old_has : has_code method ≡ true = code_stays body ∙ has in
          ap (λ (ns : List (List Note)). list_at ns (length (coded (take index other.methods)))) (class_noted policy mode old.classes typing.frames own class class_there)
          ∙ subst (λ (k : ℕ). list_at (class_notes policy mode class.methods (list_at typing.frames own)) k ≡ method_notes policy mode method (list_at (list_at typing.frames own) k))
          same (notes_there policy mode class.methods (list_at typing.frames own) index method method_there old_has)

      coded_passes : (at : ℕ) → reached_fault rules frames (notes_in other.methods (notes_told annotations own) index) woven at ≡ None
      coded_passes at =
          subst (λ (ns : List Note). reached_fault rules frames ns woven at ≡ None) (sym notes_are) (by (is_some (frame_of frames at)) refl)
        where
          by : (b : Bool) → is_some (frame_of frames at) ≡ b → cond b (note_fault rules (canonical body frames ready) woven at) None ≡ None
          by false e = refl
          by true e = passes body frames ready at e

    -- a method without code has no instruction
    bare_passes : has_code woven ≡ false → (at : ℕ) → reached_fault rules frames (notes_in other.methods (notes_told annotations own) index) woven at ≡ None
    bare_passes none at = by (is_some (frame_of frames at))
      where
        no_insn : slice_get woven.insns at ≡ None
        no_insn = slice_get_past woven.insns at (no_more (length woven.insns) none)
          where
            no_more : (n : ℕ) → nat_lt 0 n ≡ false → n ≤ at
            no_more zero e = omega arith
            no_more (suc n) e = absurd (false≢true (sym e ∙ lt-ltb 0 (suc n) (omega arith)))

        by : (b : Bool) → cond b (note_fault rules (notes_in other.methods (notes_told annotations own) index) woven at) None ≡ None
        by false = refl
        by true = rw no_insn refl

    method_passes : (at : ℕ) → reached_fault rules frames (notes_in other.methods (notes_told annotations own) index) woven at ≡ None
    method_passes at =
        elim (cases_Bool (has_code woven)) [
          | inl has ↦ coded_passes has at
          | inr none ↦ bare_passes none at
        ]

  -- ---- all methods

  no_fault : (own index at : ℕ) → note_fault_at new policy annotations own index at ≡ None
  no_fault own index at =
      ap (λ (r : Rules). option_and_then (λ (c : LinkedClass). fault_in_class r annotations own c index at) (slice_get new.classes own)) rules_are
      ∙ by (slice_get new.classes own) refl
    where
      in_class : (class other : LinkedClass) → slice_get old.classes own ≡ Some class → slice_get new.classes own ≡ Some other
          → IsWovenClass plan state class other → (o : Option Method) → slice_get other.methods index ≡ o
          → option_and_then (λ (m : Method). reached_fault rules (frames_in other.methods (frames_told typing own) index) (notes_in other.methods (notes_told annotations own) index) m at) o ≡ None
      in_class class other there other_there of_class None e = refl
      in_class class other there other_there of_class (Some woven) e =
          let m = each_back (IsWovenMethod plan state other.file.pool) class.methods other.methods index woven of_class.methods e in
          method_passes own index class other m.0 woven there other_there of_class m.1 e m.2 at

      by : (o : Option LinkedClass) → slice_get new.classes own ≡ o → option_and_then (λ (c : LinkedClass). fault_in_class rules annotations own c index at) o ≡ None
      by None e = refl
      by (Some other) e =
          elim (class_of plan state old.classes is.own is.state is.classes own other (ap (λ (cs : List LinkedClass). slice_get cs own) (sym is.are) ∙ e)) [
            | inl found ↦ in_class found.0 other found.1 e found.2 (slice_get other.methods index) refl
            | inr same ↦
                let none : other.methods ≡ [] = ap (λ (c : LinkedClass). c.methods) same ∙ is.last.methods in
                ap (λ (ms : List Method). option_and_then (λ (m : Method). reached_fault rules (frames_in other.methods (frames_told typing own) index) (notes_in other.methods (notes_told annotations own) index) m at) (slice_get ms index)) none
          ]

  pub all_conditions : IsAccepted new policy certificate
  all_conditions = record { frames = shaped; notes = notes_shaped; typed = typed; state = state_fits; noted = no_fault }

pub accepted : WovenIsAccepted
accepted old new policy mode typing read listed sound sound_new right free is typed shaped stopped =
    all_conditions old new policy mode typing read listed sound sound_new right free is typed shaped stopped
