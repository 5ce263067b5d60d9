-- Frames of methods that begin, and threads that rest.
use Rattle.std.proofs.Common.{◌≡◌, ℕ, zero, suc, ◌+◌, ◌-◌, ◌≤◌, ◌<◌, Bool, true, cond, List, [], ◌∷◌, ◌++◌, length, map, replicate, reverse, Option, Some, None, refl, sym, ap, subst, ◌∙◌, arith, ◌⊎◌, inl, inr}
use Rattle.std.specs.Prelude.{◌==◌, codes, if◌then◌else◌, nat_le, slice_get}
use Rattle.std.specs.List.{AllByRecursion, range_with_len}
use Rattle.std.specs.Option.{option_to_list}
use Rattle.std.proofs.lemmas.Bool.{and_parts, eqb-true, leb-true, or_right}
use Rattle.std.proofs.lemmas.List.{nil_from_length}
use Rattle.api_listing.specs.Descriptor.{after_first, arguments_at, class_at, element_at, method_type, result_of, type_at as descriptor_type_at}
use Rattle.cert_format.specs.declared.typing.Typing.{Typing}
use Rattle.cert_format.specs.declared.typing.VType.{VType}
use Rattle.cert_format.specs.declared.typing.VType.TheVariants as types
use Rattle.insn_codec.specs.Following.{Paired}
use Rattle.bytecode_model.specs.declared.program.LinkedClass.{LinkedClass}
use Rattle.bytecode_model.specs.declared.program.Method.{Method}
use Rattle.bytecode_model.specs.declared.program.Program.{Program}
use Rattle.bytecode_model.specs.Described.{arguments, result_type, type_described, types_at}
use Rattle.bytecode_model.specs.Heads.{is_static, main_desc, takes_nothing}
use Rattle.bytecode_model.specs.Makes.{type_at}
use Rattle.bytecode_model.specs.InsnPlace.{is_maker}
use Rattle.bytecode_model.specs.Rules.{arguments_typed, locals_fit}
use Rattle.bytecode_model.specs.SearchOrder.{Name}
use Rattle.frame_types.specs.Moving.{padded}
use Rattle.guest_heap.specs.declared.frame.Frame.{Frame}
use Rattle.guest_heap.specs.declared.object.Object.{Object}
use Rattle.guest_heap.specs.declared.value.Value.{Value}
use Rattle.guest_heap.specs.declared.value.Value.TheVariants as values
use Rattle.guest_model.specs.Calls.{arity}
use Rattle.guest_model.specs.Parts.{main_argument}
use Rattle.guest_frames.specs.Values.{is_null}
use Rattle.guest_model.proofs.Options.{and_then_of}
use Rattle.guest_model.specs.Changes.{frame_begun, frame_of, rests}
use Rattle.guest_model.specs.Finding.{Given}
use Rattle.typed_runs.specs.Fitting.{fits_made, fits_type}
use Rattle.typed_runs.specs.Frames.{AreRunning, AreWaiting}
use Rattle.typed_runs.specs.Machines.{BeginsRight, CanBegin, ThreadFits}
use Rattle.typed_runs.specs.Programs.{IsTypedProgram}
use Rattle.typed_runs.proofs.Changed.{ended_fits}
use Rattle.typed_runs.proofs.Going.{locals_widen}
use Rattle.typed_runs.proofs.Pairs.{paired_length, places_widen, widened}
use Rattle.typed_runs.proofs.Rows.{begins}
use Rattle.typed_runs.proofs.Types.{just_is_of}

-- ---- locals

module _ (of : Value → VType → Bool) (any : of values.Null types.Top ≡ true) where
  nulls_padded : (f : ℕ → VType) (k n : ℕ) → ((j : ℕ) → f (k + j) ≡ types.Top) → Paired of (replicate n values.Null) (map f (range_with_len k n))
  nulls_padded f k zero top = tt
  nulls_padded f k (suc n) top =
      let here : k + zero ≡ k = omega arith in
      let first : of values.Null (f k) ≡ true =
      subst (λ (i : ℕ). of values.Null (f i) ≡ true) here (subst (λ (t : VType). of values.Null t ≡ true) (sym (top zero)) any) in
      (first, nulls_padded f (k + 1) n (λ j. let on : k + 1 + j ≡ k + suc j = omega arith in ap f on ∙ top (suc j)))

  padded_from : (f : ℕ → VType) (vs : List Value) (ts : List VType) (k c n : ℕ) → c + length ts ≡ n → ((j : ℕ) → f (k + j) ≡ type_at ts j) → Paired of vs ts
      → Paired of (vs ++ replicate c values.Null) (map f (range_with_len k n))
  padded_from f [] [] k c n long each p =
      let same : c ≡ n = omega (arith, long) in
      subst (λ (m : ℕ). Paired of (replicate m values.Null) (map f (range_with_len k n))) (sym same) (nulls_padded f k n each)
  padded_from f [] (t ∷ ts) k c n long each p = absurd p
  padded_from f (v ∷ vs) [] k c n long each p = absurd p
  padded_from f (v ∷ vs) (t ∷ ts) k c zero long each p = absurd (omega (arith, long))
  padded_from f (v ∷ vs) (t ∷ ts) k c (suc n) long each p =
      let here : k + zero ≡ k = omega arith in
      let is : f k ≡ t = ap f (sym here) ∙ each zero in (
        subst (λ (u : VType). of v u ≡ true) (sym is) p.0,
        padded_from f vs ts (k + 1) c n (omega (arith, long)) (λ j. let on : k + 1 + j ≡ k + suc j = omega arith in ap f on ∙ each (suc j)) p.1,
      )

  -- values of these types, and null after them
  pub padded_fits : (vs : List Value) (ts : List VType) (n : ℕ) → length ts ≤ n → Paired of vs ts
      → Paired of (vs ++ replicate (n - length vs) values.Null) (padded n (type_at ts))
  padded_fits vs ts n room p =
      let many = paired_length of vs ts p in
      padded_from (type_at ts) vs ts 0 (n - length vs) n (omega (arith, many, room)) (λ j. let same : 0 + j ≡ j = omega arith in ap (type_at ts) same) p

-- ---- a method with code that begins

-- the types of what a method finds in its first locals
abbrev pub entry_types : LinkedClass → Method → List VType
entry_types class method =
    if is_static method.flags then arguments_typed method
    else (if is_maker method then types.UninitThis else types.Ref class.name) ∷ arguments_typed method

module _ (program : Program) (typing : Typing) (ok : IsTypedProgram program typing) (heap : List Object) (to : Given) (class : LinkedClass) (method : Method)
    (there : slice_get program.classes to.0 ≡ Some class) (here : slice_get class.methods to.1 ≡ Some method) (code : 0 < length method.insns) where
  -- The frame runs, in front of those that wait for what the method gives.
  pub entered_runs : (receiver : Option Value) (passed : List Value)
      → Paired (fits_type program heap class method) (option_to_list receiver ++ passed) (entry_types class method)
      → (below : List Frame) → AreWaiting program typing heap (result_type method.desc) below
      → AreRunning program typing heap (frame_of program to method receiver passed ∷ below)
  entered_runs receiver passed p below waiting =
      let of : Value → VType → Bool = fits_type program heap class method in
      let taken : List Value = option_to_list receiver ++ passed in
      let b = begins program typing ok to.0 to.1 class method there here code in
      let types_in = entry_types class method in
      let e = and_parts (nat_le (length types_in) method.max_locals) _ b.entry in
      let q = and_parts (locals_fit program (type_at types_in) 0 b.type.locals) (length b.type.stack == 0) e.1 in
      let room : length types_in ≤ method.max_locals = leb-true (length types_in) method.max_locals e.0 in
      let empty : b.type.stack ≡ [] = nil_from_length b.type.stack (eqb-true (length b.type.stack) 0 q.1) in (
        record {
          stands = record {
            class = class;
            method = method;
            insn = b.insn;
            type = b.type;
            there = there;
            here = here;
            next = b.next;
            told = b.told;
            size = refl;
          };
          locals =
              widened of (taken ++ replicate (method.max_locals - length taken) values.Null) (padded method.max_locals (type_at types_in)) _
              (places_widen of (type_at types_in) (type_at b.type.locals) (range_with_len 0 method.max_locals)
              (locals_widen program ok.links.order heap class method (type_at types_in) b.type.locals q.0))
              (padded_fits of refl taken types_in method.max_locals room p);
          operands = subst (λ (ts : List VType). Paired of [] (reverse ts)) (sym empty) tt;
          room = omega arith;
        },
        waiting,
      )

-- ---- methods that are begun without a call

nothing_arity : arity takes_nothing ≡ 0
unfolding method_type after_first arguments_at result_of
nothing_arity = refl

main_arity : arity main_desc ≡ 1
unfolding method_type after_first arguments_at descriptor_type_at element_at class_at result_of
main_arity = refl

nothing_taken : map type_described (arguments takes_nothing) ≡ []
unfolding types_at
nothing_taken = refl

main_taken : map type_described (arguments main_desc) ≡ types.Ref (codes "[Ljava/lang/String;") ∷ []
unfolding types_at
main_taken = refl

module _ (program : Program) (typing : Typing) (ok : IsTypedProgram program typing) (heap : List Object) (first : BeginsRight program heap) where
  given_fit : (class : LinkedClass) (method : Method) → is_static method.flags ≡ true → (method.desc ≡ takes_nothing) ⊎ (method.desc ≡ main_desc)
      → Paired (fits_type program heap class method) (if arity method.desc == 0 then [] else main_argument program ∷ []) (entry_types class method)
  given_fit class method static (inl nothing) =
      let is : entry_types class method ≡ [] = ap (λ (b : Bool). cond b (arguments_typed method) ((if is_maker method then types.UninitThis else types.Ref class.name) ∷ arguments_typed method)) static
      ∙ ap (λ (d : Name). map type_described (arguments d)) nothing ∙ nothing_taken in
      let none : arity method.desc ≡ 0 = ap arity nothing ∙ nothing_arity in
      rw (is, none) tt
  given_fit class method static (inr main) =
      let is : entry_types class method ≡ types.Ref (codes "[Ljava/lang/String;") ∷ [] = ap (λ (b : Bool). cond b (arguments_typed method) ((if is_maker method then types.UninitThis else types.Ref class.name) ∷ arguments_typed method)) static
      ∙ ap (λ (d : Name). map type_described (arguments d)) main ∙ main_taken in
      let one : arity method.desc ≡ 1 = ap arity main ∙ main_arity in
      let fits : fits_made program heap (main_argument program) (types.Ref (codes "[Ljava/lang/String;")) ≡ true =
      or_right (is_null (main_argument program)) _ (just_is_of program heap (codes "[Ljava/lang/String;") (main_argument program) first.main) in
      rw (is, one) (fits, tt)

  -- The frame of such a method runs alone.
  pub begun_runs : (to : Given) → CanBegin program to → (f : Frame) × (frame_begun program to ≡ Some f) × AreRunning program typing heap (f ∷ [])
  begun_runs to can =
      let m = and_then_of (λ (c : LinkedClass). slice_get c.methods to.1) (slice_get program.classes to.0) can.method can.there in
      let passed : List Value = if arity can.method.desc == 0 then [] else main_argument program ∷ [] in (
        frame_of program to can.method None passed,
        rw can.there refl,
        entered_runs program typing ok heap to m.0 can.method m.1 m.2 can.code None passed (given_fit m.0 can.method can.static can.takes) [] tt,
      )

  -- A thread whose frames are left goes on with what it has still to begin.
  pub rests_fits : (to_begin : List Given) → AllByRecursion (CanBegin program) to_begin → ThreadFits program typing heap (rests program to_begin)
  rests_fits [] all = ended_fits program typing heap
  rests_fits (next ∷ to_begin) all =
      let b = begun_runs next all.0 in
      record { frames = subst (λ (o : Option Frame). AreRunning program typing heap (option_to_list o)) (sym b.1) b.2; to_begin = all.1 }
