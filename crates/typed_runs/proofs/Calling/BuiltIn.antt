-- Calls of built-in methods: what they need is passed, and what they leave fits.
use Rattle.std.proofs.Common.{◌≡◌, ℕ, ℤ, pos, zero, suc, Bool, true, false, List, [], ◌∷◌, length, map, Option, Some, None, refl, sym, ap, subst, ◌∙◌, arith, inl, inr}
use Rattle.std.specs.Prelude.{IsSomeAnd, bytes_eq, codes, not, ◌&&◌, ◌||◌, option_and_then, option_map, slice_get}
use Rattle.std.specs.Bool.{beq}
use Rattle.std.specs.List.{AllByRecursion, list_all}
use Rattle.std.specs.Option.{option_map_or, option_or}
use Rattle.std.proofs.lemmas.Bool.{and_parts, or_cases}
use Rattle.std.proofs.lemmas.Slice.Eq.{bytes_eq-Decides}
use Rattle.mon_base.specs.declared.method.MethodId.{MethodId}
use Rattle.api_listing.specs.BuiltIn.{MethodRow, method_rows}
use Rattle.cert_format.specs.declared.typing.Typing.{Typing}
use Rattle.cert_format.specs.declared.typing.VType.{VType}
use Rattle.cert_format.specs.declared.typing.VType.TheVariants as types
use Rattle.insn_codec.specs.declared.shape.Heap.TheVariants as heaps
use Rattle.insn_codec.specs.declared.shape.How.{How}
use Rattle.insn_codec.specs.declared.shape.How.TheVariants as hows
use Rattle.insn_codec.specs.declared.shape.Shape.TheVariants as shapes
use Rattle.insn_codec.specs.Following.{Paired}
use Rattle.insn_codec.specs.Shapes.{shape_of}
use Rattle.bytecode_model.specs.declared.program.Program.{Program}
use Rattle.bytecode_model.specs.declared.program.Target.TheVariants as target
use Rattle.bytecode_model.specs.Described.{arguments, result_type, type_described, types_at}
use Rattle.bytecode_model.specs.InsnPlace.{desc_referred, has_receiver}
use Rattle.bytecode_model.specs.SearchOrder.{Name}
use Rattle.bytecode_model.specs.Targets.{Calls}
use Rattle.bytecode_model.specs.Uses.{UsesAreShaped}
use Rattle.guest_heap.specs.declared.frame.Frame.{Frame}
use Rattle.guest_heap.specs.declared.object.Object.{Object}
use Rattle.guest_heap.specs.declared.object.Object.TheVariants as objects
use Rattle.guest_heap.specs.declared.thread.Thread.{Thread}
use Rattle.guest_heap.specs.declared.value.Value.{Value}
use Rattle.guest_heap.specs.declared.value.Value.TheVariants as values
use Rattle.guest_model.specs.declared.machine.Machine.{Machine}
use Rattle.guest_model.specs.Parts.{number_in}
use Rattle.guest_model.proofs.Options.{IfThere, if_either, if_none, if_some, if_then, map_of, some_and, some_is}
use Rattle.guest_model.specs.declared.builtin.Builtin.{Builtin}
use Rattle.guest_model.specs.declared.builtin.Builtin.TheVariants as builtins
use Rattle.guest_model.specs.Builtins.{builtin_at, builtin_of_row, characters}
use Rattle.guest_model.specs.Calling.{Calling, aimed_at, aims, begun_thread, built_in, goes_past, has_ended, joined, joins, on_receiver, run_of, runs, runs_object, runs_target, second_start, started, started_as, starts, stopped_by, target_of, thread_of_value, with_begun, with_changed}
use Rattle.guest_model.specs.Changes.{Change, World, with_heap, world_of}
use Rattle.guest_model.specs.Finding.{Given}
use Rattle.guest_model.specs.Kinds.{class_of_object}
use Rattle.guest_model.specs.Moving.{HasOne, IsNumber, IsObject, IsOnObject, IsReadyToRun, IsReference}
use Rattle.guest_model.specs.Seen.{string_of}
use Rattle.typed_runs.specs.Fitting.{ObjectFits, fits_made}
use Rattle.typed_runs.specs.Frames.{AreWaiting, IsReady, stands_at}
use Rattle.typed_runs.specs.Machines.{CanBegin, MachineFits, ThreadFits}
use Rattle.typed_runs.specs.Programs.{IsTypedProgram}
use Rattle.typed_runs.proofs.Calling.Calls.{IfFits, MayRun, begun_fits, may_run, past_fits, past_nothing, receiver_fits_of, runs_fit, shared_fits, target_runs, thrown_fits}
use Rattle.typed_runs.proofs.Changed.{ChangeFits, WorldFits}
use Rattle.typed_runs.proofs.Growing.{Keeps, changed_keeps, statics_grown, thread_grown}
use Rattle.typed_runs.proofs.Calling.Passed.{Passing, Received, received_by, received_object, receiver_reference}
use Rattle.typed_runs.proofs.Calling.Returning.{ResultFits}
use Rattle.typed_runs.proofs.Types.{number_is, reference_is, wanted_reference}

-- ---- the table

-- whether the descriptor is one of such a method
abbrev has_desc : Builtin → Name → Bool
has_desc builtins.Make desc = bytes_eq desc (codes "()V") || bytes_eq desc (codes "(Ljava/lang/String;)V")
has_desc builtins.MakeOn desc = bytes_eq desc (codes "(Ljava/lang/Runnable;)V")
has_desc builtins.Start desc = bytes_eq desc (codes "()V")
has_desc builtins.Run desc = bytes_eq desc (codes "()V")
has_desc builtins.Join desc = bytes_eq desc (codes "()V")
has_desc builtins.Exit desc = bytes_eq desc (codes "(I)V")
has_desc builtins.Length desc = bytes_eq desc (codes "()I")

-- whether it has no receiver
abbrev is_alone : Builtin → Bool
is_alone builtins.Exit = true
is_alone builtins.Make = false
is_alone builtins.MakeOn = false
is_alone builtins.Start = false
is_alone builtins.Run = false
is_alone builtins.Join = false
is_alone builtins.Length = false

abbrev is_right : MethodRow → Bool
is_right row = has_desc (builtin_of_row row) row.2 && beq row.3 (is_alone (builtin_of_row row))

all_right : list_all is_right method_rows ≡ true
unfolding method_rows
all_right = refl

passes_at : {A : Type 0} (p : A → Bool) (xs : List A) (i : ℕ) (x : A) → list_all p xs ≡ true → slice_get xs i ≡ Some x → p x ≡ true
passes_at p [] i x all e = absurd cc
passes_at p (y ∷ xs) zero x all e = subst (λ (z : _). p z ≡ true) (some_is y x e) (and_parts (p y) (list_all p xs) all).0
passes_at p (y ∷ xs) (suc i) x all e = passes_at p xs i x (and_parts (p y) (list_all p xs) all).1 e

same_bool : (a b : Bool) → beq a b ≡ true → a ≡ b
same_bool true true e = refl
same_bool true false e = absurd cc
same_bool false true e = absurd cc
same_bool false false e = refl

-- ---- descriptors

runnable_taken : map type_described (arguments (codes "(Ljava/lang/Runnable;)V")) ≡ types.Ref (codes "java/lang/Runnable") ∷ []
unfolding types_at
runnable_taken = refl

number_taken : map type_described (arguments (codes "(I)V")) ≡ types.Int ∷ []
unfolding types_at
number_taken = refl

none_made : (desc : Name) → has_desc builtins.Make desc ≡ true → result_type desc ≡ None
none_made desc e =
    elim (or_cases (bytes_eq desc (codes "()V")) _ e) [
      | inl is ↦ ap result_type ((bytes_eq-Decides desc (codes "()V")).0 is)
      | inr is ↦ ap result_type ((bytes_eq-Decides desc (codes "(Ljava/lang/String;)V")).0 is)
    ]

-- ---- objects that are aimed or started

module _ (program : Program) where
  aimed_keeps : (to : Value) → Keeps program (aimed_at to)
  aimed_keeps to = record { class = same; fits = keeps } where
    same : (object : Object) → class_of_object (aimed_at to object) ≡ class_of_object object
    same (objects.Plain class fields on thread) = refl
    same (objects.Array desc items) = refl
    same (objects.Text text) = refl

    keeps : (heap : List Object) (object : Object) → ObjectFits program heap object → ObjectFits program heap (aimed_at to object)
    keeps heap (objects.Plain class fields on thread) f = f
    keeps heap (objects.Array desc items) f = f
    keeps heap (objects.Text text) f = f

  started_keeps : (number : ℕ) → Keeps program (started_as number)
  started_keeps number = record { class = same; fits = keeps } where
    same : (object : Object) → class_of_object (started_as number object) ≡ class_of_object object
    same (objects.Plain class fields on thread) = refl
    same (objects.Array desc items) = refl
    same (objects.Text text) = refl

    keeps : (heap : List Object) (object : Object) → ObjectFits program heap object → ObjectFits program heap (started_as number object)
    keeps heap (objects.Plain class fields on thread) f = f
    keeps heap (objects.Array desc items) f = f
    keeps heap (objects.Text text) f = f

  one_argument : (P : Value → Type 0) (heap : List Object) (args : List Value) (t : VType) (ts : List VType) → ts ≡ t ∷ []
      → ((v : Value) → fits_made program heap v t ≡ true → P v) → Paired (fits_made program heap) args ts → HasOne P args
  one_argument P heap args t ts is each p = by args (subst (λ (list : List VType). Paired (fits_made program heap) args list) is p) where
    by : (list : List Value) → Paired (fits_made program heap) list (t ∷ []) → HasOne P list
    by [] q = absurd q
    by (v ∷ list) q = each v q.0

  made_reference : (heap : List Object) (name : Name) (v : Value) → fits_made program heap v (types.Ref name) ≡ true → IsReference v
  made_reference heap name (values.Int n) e = absurd cc
  made_reference heap name values.Null e = tt
  made_reference heap name (values.Ref at) e = tt
  made_reference heap name (values.Class index) e = tt
  made_reference heap name (values.Lit index) e = tt

on_object : (how : How) → has_receiver how ≡ true → IsOnObject how
on_object hows.Virtual e = tt
on_object hows.Special e = tt
on_object hows.Interface e = tt
on_object hows.Static e = absurd cc

-- ---- a call

module _ (program : Program) (typing : Typing) (ok : IsTypedProgram program typing) (shaped : UsesAreShaped) (machine : Machine)
    (fit : MachineFits program typing machine) (number : ℕ) (thread : Thread) (later : AllByRecursion (CanBegin program) thread.to_begin)
    (frame : Frame) (below : List Frame) (r : IsReady program typing machine.heap frame)
    (under : AreWaiting program typing machine.heap (result_type r.stands.method.desc) below) (how : How)
    (shape : shape_of r.stands.insn ≡ shapes.Heap (heaps.Call how)) (index : ℕ)
    (p : Passing program typing ok shaped machine.heap frame r how shape (target.Builtin index))
    (u : Calls program r.stands.class r.stands.insn (target.Builtin index)) (static : u.static ≡ not (has_receiver how)) where
  abbrev FitsSo : Option Change → Type 0
  FitsSo o = IfFits program typing ok shaped machine fit number thread later frame below r under how shape (target.Builtin index) p o

  abbrev desc : Name
  desc = desc_referred (stands_at r.stands)

  abbrev call : Calling
  call = record { number = number; thread = thread; frame = frame; below = below; passed = p.passed }

  abbrev world : World
  world = world_of machine

  -- what the table tells of it
  record Told (what : Builtin) : Type 0 where
    pub desc_is : has_desc what desc ≡ true
    pub alone : is_alone what ≡ not (has_receiver how)

  told : (what : Builtin) → builtin_at index ≡ Some what → Told what
  told what e =
      let row : MethodRow = (u.declaring, u.told.name, u.told.desc, u.static) in
      let right = passes_at is_right method_rows index row all_right u.declared in
      let same : builtin_of_row row ≡ what = some_is (builtin_of_row row) what (sym (ap (option_map builtin_of_row) u.declared) ∙ e) in
      let now : (has_desc what u.told.desc && beq u.static (is_alone what)) ≡ true =
      subst (λ (b : Builtin). (has_desc b u.told.desc && beq u.static (is_alone b)) ≡ true) same right in
      let a = and_parts (has_desc what u.told.desc) (beq u.static (is_alone what)) now in
      let refers : desc ≡ u.told.desc = ap (λ (o : Option MethodId). option_map_or (λ (id : MethodId). id.desc) o []) u.refers in
      record {
        desc_is = subst (λ (d : Name). has_desc what d ≡ true) (sym refers) a.0;
        alone = sym (same_bool u.static (is_alone what) a.1) ∙ static;
      }

  is_desc : (text : Name) → bytes_eq desc text ≡ true → desc ≡ text
  is_desc text e = (bytes_eq-Decides desc text).0 e

  gives_none : bytes_eq desc (codes "()V") ≡ true → result_type desc ≡ None
  gives_none e = ap result_type (is_desc (codes "()V") e)

  has_one : (what : Builtin) → is_alone what ≡ false → Told what → has_receiver how ≡ true
  has_one what e t = by (has_receiver how) (sym t.alone ∙ e) where
    by : (b : Bool) → not b ≡ false → b ≡ true
    by true h = refl
    by false h = absurd cc

  if_made : (f : Change → Change) (o : Option Change)
      → ((c : Change) → ChangeFits program typing machine.heap c → ChangeFits program typing machine.heap (f c)) → FitsSo o → FitsSo (option_map f o)
  unfolding IfThere
  if_made f o each h change e =
      let c = map_of f o change e in
      subst (ChangeFits program typing machine.heap) c.2 (each c.0 (h c.0 c.1))

  past : (new : World) → WorldFits program machine.heap new → result_type desc ≡ None → FitsSo (goes_past new call [])
  past new fits none = past_nothing program typing ok shaped machine fit number thread later frame below r under how shape (target.Builtin index) p new fits none

  same_world : WorldFits program machine.heap world
  same_world = shared_fits program typing ok shaped machine fit number thread later frame below r under how shape (target.Builtin index) p

  -- the same with an object of the heap changed that keeps what it holds
  changed_world : (v : Value) (f : Object → Object) → Keeps program f → WorldFits program machine.heap (with_heap world (with_changed machine.heap v f))
  changed_world v f keeps =
      let c = changed_keeps program machine.heap v f keeps fit.heap in
      record { grows = c.0; objects = c.1; statics = statics_grown machine.heap (with_changed machine.heap v f) c.0 program machine.statics fit.statics }

  -- ---- threads

  either_run : (o q : Option (Given × Value)) → MayRun program typing ok machine.heap o → MayRun program typing ok machine.heap q
      → MayRun program typing ok machine.heap (option_or o q)
  either_run None q m n = n
  either_run (Some run) q m n = m

  begins_so : (begun : Thread) → ThreadFits program typing machine.heap begun → (c : Change) → ChangeFits program typing machine.heap c
      → ChangeFits program typing machine.heap (with_begun c begun)
  begins_so begun fits c f = record {
    world = f.world;
    thread = f.thread;
    begins = (thread_grown machine.heap c.world.heap f.world.grows program typing begun fits, tt);
    seen = f.seen;
  }

  started_fits : result_type desc ≡ None → (on : Value) (was : Option ℕ) → FitsSo (started program machine call on was)
  started_fits none on (Some n) =
      if_some _ _ (thrown_fits program typing ok shaped machine fit number thread later frame below r under how shape (target.Builtin index) p second_start (7, omega arith, refl))
  started_fits none on None =
      let own = run_of program machine.heap on in
      let aimed = run_of program machine.heap (target_of machine.heap on) in
      let begun = begun_thread program (option_or own aimed) in
      if_made (λ (c : Change). with_begun c begun) (goes_past (with_heap world (with_changed machine.heap on (started_as (length machine.threads)))) call [])
      (begins_so begun (begun_fits program typing ok machine.heap (option_or own aimed)
      (either_run own aimed (may_run program typing ok machine.heap on) (may_run program typing ok machine.heap (target_of machine.heap on)))))
      (past _ (changed_world on (started_as (length machine.threads)) (started_keeps program (length machine.threads))) none)

  joined_fits : result_type desc ≡ None → (was : Option ℕ) → FitsSo (joined machine call was)
  joined_fits none None = past world same_world none
  joined_fits none (Some n) = if_either _ (has_ended machine n) _ _ (past world same_world none) (if_none _)

  -- ---- `run`

  own_or : result_type desc ≡ None → (on : Value) (run : Option (Given × Value)) → MayRun program typing ok machine.heap run
      → FitsSo (option_map_or (λ run. runs program world call (Some run)) run (runs_target program world call on))
  own_or none on None m = target_runs program typing ok shaped machine fit number thread later frame below r under how shape (target.Builtin index) p none on
  own_or none on (Some run) m =
      runs_fit program typing ok shaped machine fit number thread later frame below r under how shape (target.Builtin index) p none (Some run) m

  object_fits : result_type desc ≡ None → (h : How) (on : Value) → FitsSo (runs_object program world call h on)
  object_fits none hows.Special on = target_runs program typing ok shaped machine fit number thread later frame below r under how shape (target.Builtin index) p none on
  object_fits none hows.Virtual on = own_or none on (run_of program machine.heap on) (may_run program typing ok machine.heap on)
  object_fits none hows.Interface on = own_or none on (run_of program machine.heap on) (may_run program typing ok machine.heap on)
  object_fits none hows.Static on = if_none _

  -- ---- all of them

  on_it : (f : Value → Option Change) → ((v : Value) → FitsSo (f v)) → FitsSo (on_receiver program world call f)
  on_it f each =
      receiver_fits_of program typing ok shaped machine fit number thread later frame below r under how shape (target.Builtin index) p f (λ v e null. each v)

  exit_fits : result_type desc ≡ None → (n : ℤ) → FitsSo (stopped_by world call n)
  exit_fits none n =
      if_made (λ (c : Change). record { world = c.world; thread = c.thread; begins = None; stops = Some n; event = None }) (goes_past world call [])
      (λ c f. record { world = f.world; thread = f.thread; begins = tt; seen = tt }) (past world same_world none)

  -- What a built-in method leaves fits.
  built_in_fits : (what : Builtin) → builtin_at index ≡ Some what → FitsSo (built_in program machine call how what)
  built_in_fits builtins.Make e = past world same_world (none_made desc (told builtins.Make e).desc_is)
  built_in_fits builtins.MakeOn e =
      let none : result_type desc ≡ None = ap result_type (is_desc (codes "(Ljava/lang/Runnable;)V") (told builtins.MakeOn e).desc_is) in
      on_it (aims world call)
      (λ v. if_then _ _ (slice_get p.passed.arguments 0) (λ to f. past _ (changed_world v (aimed_at to) (aimed_keeps program to)) none))
  built_in_fits builtins.Start e =
      let none = gives_none (told builtins.Start e).desc_is in
      on_it (starts program machine call) (λ v. if_then _ _ (thread_of_value machine.heap v) (λ was f. started_fits none v was))
  built_in_fits builtins.Run e = on_it (runs_object program world call how) (λ v. object_fits (gives_none (told builtins.Run e).desc_is) how v)
  built_in_fits builtins.Join e =
      let none = gives_none (told builtins.Join e).desc_is in
      on_it (joins machine call) (λ v. if_then _ _ (thread_of_value machine.heap v) (λ was f. joined_fits none was))
  built_in_fits builtins.Exit e =
      let none : result_type desc ≡ None = ap result_type (is_desc (codes "(I)V") (told builtins.Exit e).desc_is) in
      if_then _ (stopped_by world call) (option_and_then number_in (slice_get p.passed.arguments 0)) (λ n f. exit_fits none n)
  built_in_fits builtins.Length e =
      let one : result_type desc ≡ Some types.Int = ap result_type (is_desc (codes "()I") (told builtins.Length e).desc_is) in
      on_it _
      (λ v. past_fits program typing ok shaped machine fit number thread later frame below r under how shape (target.Builtin index) p world same_world
      (Some (values.Int (pos (characters (string_of program machine.heap v)))))
      (subst (λ (t : Option VType). ResultFits program machine.heap t (Some (values.Int (pos (characters (string_of program machine.heap v)))))) (sym one) refl))

  -- ---- what they need

  received : has_receiver how ≡ true → Received program typing ok shaped machine.heap frame r how shape p.passed.receiver
  received has = received_by program typing ok shaped machine.heap frame r how shape (target.Builtin index) p has

  object_received : has_receiver how ≡ true → IsSomeAnd p.passed.receiver (IsObject machine.heap)
  object_received has = received_object program typing ok shaped machine.heap frame r how shape p.passed.receiver (received has)

  reference_received : has_receiver how ≡ true → IsSomeAnd p.passed.receiver IsReference
  reference_received has =
      let v = received has in
      some_and IsReference p.passed.receiver v.value v.is
      (reference_is program v.value (wanted_reference program machine.heap r.stands.class r.stands.method v.value v.type v.fits
      (receiver_reference program typing ok shaped machine.heap frame r how shape p.passed.receiver v)))

  first_argument : (P : Value → Type 0) (text : Name) (t : VType) → desc ≡ text → map type_described (arguments text) ≡ t ∷ []
      → ((v : Value) → fits_made program machine.heap v t ≡ true → P v) → HasOne P p.passed.arguments
  first_argument P text t e is each =
      one_argument program P machine.heap p.passed.arguments t (map type_described (arguments desc)) (ap (λ (d : Name). map type_described (arguments d)) e ∙ is) each
      p.told_arguments

  -- What a built-in method needs is passed.
  built_in_ready : (what : Builtin) → builtin_at index ≡ Some what → IsReadyToRun machine.heap how what p.passed
  built_in_ready builtins.Make e = tt
  built_in_ready builtins.MakeOn e =
      let t = told builtins.MakeOn e in (
        reference_received (has_one builtins.MakeOn refl t),
        first_argument IsReference (codes "(Ljava/lang/Runnable;)V") (types.Ref (codes "java/lang/Runnable")) (is_desc (codes "(Ljava/lang/Runnable;)V") t.desc_is)
            runnable_taken (made_reference program machine.heap (codes "java/lang/Runnable")),
      )
  built_in_ready builtins.Start e = object_received (has_one builtins.Start refl (told builtins.Start e))
  built_in_ready builtins.Run e =
      let has = has_one builtins.Run refl (told builtins.Run e) in
      (on_object how has, object_received has)
  built_in_ready builtins.Join e = object_received (has_one builtins.Join refl (told builtins.Join e))
  built_in_ready builtins.Exit e =
      first_argument IsNumber (codes "(I)V") types.Int (is_desc (codes "(I)V") (told builtins.Exit e).desc_is) number_taken (λ v h. number_is program v h)
  built_in_ready builtins.Length e = reference_received (has_one builtins.Length refl (told builtins.Length e))

  -- The call of one is ready, and what it leaves fits.
  pub built_in_operates : IsSomeAnd (builtin_at index) (λ (what : Builtin). IsReadyToRun machine.heap how what p.passed)
      × FitsSo (option_and_then (built_in program machine call how) (builtin_at index))
  built_in_operates =
      let row : MethodRow = (u.declaring, u.told.name, u.told.desc, u.static) in
      let is : builtin_at index ≡ Some (builtin_of_row row) = ap (option_map builtin_of_row) u.declared in (
        some_and (λ (what : Builtin). IsReadyToRun machine.heap how what p.passed) (builtin_at index) (builtin_of_row row) is (built_in_ready (builtin_of_row row) is),
        if_then _ (built_in program machine call how) (builtin_at index) built_in_fits,
      )
