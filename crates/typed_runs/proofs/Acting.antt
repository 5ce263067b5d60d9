-- What a thread does that runs: each of its instructions leaves what fits.
use Rattle.std.proofs.Common.{◌≡◌, ℕ, ◌+◌, Bool, true, false, List, length, [], ◌∷◌, drop, reverse, Option, Some, None, Ok, Err, refl, sym, ap, subst, ◌∙◌, arith, inl, inr}
use Rattle.std.specs.Prelude.{IsTrue, IsSomeAnd, ◌||◌, option_and_then, slice_get}
use Rattle.std.specs.List.{AllByRecursion}
use Rattle.std.specs.Option.{option_map_or, option_to_list}
use Rattle.std.proofs.lemmas.Bool.{or_cases}
use Rattle.api_listing.specs.BuiltIn.{throwable}
use Rattle.cert_format.specs.declared.typing.Typing.{Typing}
use Rattle.cert_format.specs.declared.typing.VType.{VType}
use Rattle.cert_format.specs.declared.typing.VType.TheVariants as types
use Rattle.insn_codec.specs.declared.insn.Insn.{Insn}
use Rattle.insn_codec.specs.declared.shape.Heap.{Heap}
use Rattle.insn_codec.specs.declared.shape.Heap.TheVariants as heap_shapes
use Rattle.insn_codec.specs.declared.shape.How.{How}
use Rattle.insn_codec.specs.declared.shape.ValueKind.{ValueKind}
use Rattle.insn_codec.specs.declared.shape.Shape.{Shape}
use Rattle.insn_codec.specs.declared.shape.Shape.TheVariants as shapes
use Rattle.insn_codec.specs.Following.{Paired}
use Rattle.insn_codec.specs.Shapes.{shape_of}
use Rattle.insn_codec.specs.Table.{ends, is_heap}
use Rattle.bytecode_model.specs.declared.program.Program.{Program}
use Rattle.bytecode_model.specs.declared.program.Target.{Target}
use Rattle.bytecode_model.specs.Described.{result_type}
use Rattle.bytecode_model.specs.Makes.{below, type_at, yields, yields_of}
use Rattle.bytecode_model.specs.Rules.{taken}
use Rattle.bytecode_model.specs.SearchOrder.{Name}
use Rattle.bytecode_model.specs.Uses.{UsesAreShaped}
use Rattle.bytecode_model.specs.Wants.{Want, is_made, takes, takes_of, to_class}
use Rattle.frame_types.specs.Moving.{padded}
use Rattle.guest_heap.specs.declared.frame.Frame.{Frame}
use Rattle.guest_heap.specs.declared.object.Monitor.{Monitor}
use Rattle.guest_heap.specs.declared.object.Object.{Object}
use Rattle.guest_heap.specs.declared.thread.Thread.{Thread}
use Rattle.guest_heap.specs.declared.value.Value.{Value}
use Rattle.guest_heap.specs.declared.value.Value.TheVariants as values
use Rattle.guest_model.specs.declared.machine.Machine.{Machine}
use Rattle.guest_model.specs.Answers.{may_throw}
use Rattle.guest_model.specs.Calls.{Taken}
use Rattle.guest_model.specs.Monitors.{all_given_up, entered, left}
use Rattle.guest_model.specs.Places.{insn_at}
use Rattle.guest_frames.specs.Stepping.{after, moved_to, frame_stepped}
use Rattle.guest_model.specs.Parts.{bad_monitor, null_pointer}
use Rattle.guest_frames.specs.Values.{is_null}
use Rattle.guest_model.proofs.Options.{IfThere, if_either, if_mapped, if_none, if_some, if_then}
use Rattle.guest_model.specs.Calling.{calls}
use Rattle.guest_model.specs.Changes.{Change, World, goes, returned, with_monitors, world_of}
use Rattle.guest_model.specs.Enabled.{passed_by}
use Rattle.guest_model.specs.Kinds.{class_of_value}
use Rattle.guest_model.specs.Moving.{IsReadyToCall}
use Rattle.guest_model.specs.Stepping.{Acting, acts_on, acts_throwing, comes_to, enters, heap_in, heap_stepped, insn_stepped, leaves, left_with, returns, throws_top, operates as operates_on}
use Rattle.guest_model.specs.HeapOperations.{HeapResult, heap_result}
use Rattle.typed_runs.specs.Fitting.{fits_type, is_of}
use Rattle.typed_runs.specs.Frames.{AreWaiting, IsReady, stands_at}
use Rattle.typed_runs.specs.Machines.{CanBegin, MachineFits}
use Rattle.typed_runs.specs.Programs.{IsTypedProgram}
use Rattle.typed_runs.proofs.Changed.{ChangeFits, OperationFits, WorldFits, goes_fits}
use Rattle.typed_runs.proofs.Going.{AfterInsn, heap_holds, locals_stay, runs_after, stack_following, steps_alone, went}
use Rattle.typed_runs.proofs.Growing.{all_waiting_grown, grows_itself, type_grown}
use Rattle.typed_runs.proofs.Pairs.{paired_also}
use Rattle.typed_runs.proofs.Calling.Returning.{gives, returned_fits}
use Rattle.typed_runs.proofs.Rows.{insn_is}
use Rattle.typed_runs.proofs.Taken.{One}
use Rattle.typed_runs.proofs.Throwing.{AreLeft, throws_fits, throws_new_fits}
use Rattle.typed_runs.proofs.Thrown.{IsThrown, built_in_thrown}
use Rattle.typed_runs.proofs.Topmost.{one_taken}
use Rattle.typed_runs.proofs.Types.{type_fits_over}
use Rattle.typed_runs.proofs.HeapResult.{heap_operates, operates_here}

-- ---- what is proved of calls

-- A call is ready, and what it leaves fits.
abbrev pub CallsOperate : Program → Typing → Type 0
CallsOperate program typing =
    (machine : Machine) → MachineFits program typing machine → (number : ℕ) (thread : Thread) → AllByRecursion (CanBegin program) thread.to_begin
    → (frame : Frame) (below : List Frame) (r : IsReady program typing machine.heap frame)
    → AreWaiting program typing machine.heap (result_type r.stands.method.desc) below
    → (how : How) → shape_of r.stands.insn ≡ shapes.Heap (heap_shapes.Call how)
    → IsSomeAnd (passed_by program frame how (stands_at r.stands).ref) (λ (passed : Taken). IsReadyToCall machine.heap how (stands_at r.stands).ref passed)
    × ((change : Change) → calls program machine number thread frame below how (stands_at r.stands).ref ≡ Some change
    → ChangeFits program typing machine.heap change)

-- ---- shapes

pub stays_after : (what : Heap) → operates_here what ≡ true → ends (shapes.Heap what) ≡ false
stays_after heap_shapes.Throw e = absurd cc
stays_after (heap_shapes.Return kind) e = absurd cc
stays_after what e = refl

pub heap_shape : (shape : Shape) (what : Heap) → heap_in shape ≡ Some what → shape ≡ shapes.Heap what
heap_shape (shapes.Heap other) what e = let same : other ≡ what = cc in ap shapes.Heap same
heap_shape shape what e = absurd cc

pub alone_shape : (shape : Shape) → heap_in shape ≡ None → is_heap shape ≡ false
alone_shape (shapes.Heap what) e = absurd cc
alone_shape shape e = refl

null_no_class : (heap : List Object) (v : Value) (class : Name) → is_null v ≡ true → class_of_value heap v ≡ Some class → ⊥
null_no_class heap (values.Int n) class e f = absurd cc
null_no_class heap values.Null class e f = absurd cc
null_no_class heap (values.Ref at) class e f = absurd cc
null_no_class heap (values.Class index) class e f = absurd cc
null_no_class heap (values.Lit index) class e f = absurd cc

-- ---- a thread that runs in these frames

module _ (program : Program) (typing : Typing) (ok : IsTypedProgram program typing) (machine : Machine) (m : MachineFits program typing machine)
    (number : ℕ) (thread : Thread) (later : AllByRecursion (CanBegin program) thread.to_begin)
    (frame : Frame) (under : List Frame) (r : IsReady program typing machine.heap frame)
    (waiting : AreWaiting program typing machine.heap (result_type r.stands.method.desc) under) where
  abbrev pub acting : Acting
  acting = record { number = number; thread = thread; frame = frame; below = under }

  abbrev pub Fits : Change → Type 0
  Fits change = ChangeFits program typing machine.heap change

  abbrev world : World
  world = world_of machine

  abbrev of_frame : List Object → Value → VType → Bool
  of_frame heap v t = fits_type program heap r.stands.class r.stands.method v t

  same_fits : WorldFits program machine.heap world
  same_fits = record { grows = grows_itself machine.heap; objects = m.heap; statics = m.statics }

  held_fits : (held : List Monitor) → WorldFits program machine.heap (with_monitors world held)
  held_fits held = record { grows = grows_itself machine.heap; objects = m.heap; statics = m.statics }

  frames_left : AreLeft program typing machine.heap (frame ∷ under)
  frames_left = (r.stands, r.locals, waiting)

  -- ---- throwing

  throws_here : (class : Name) → IsTrue (may_throw program class) → Fits (acts_throwing program world acting class)
  throws_here class may = throws_new_fits program typing ok machine.heap world number thread (frame ∷ under) class None tt same_fits later frames_left may

  throws_null : Fits (acts_throwing program world acting null_pointer)
  throws_null = throws_here null_pointer (built_in_thrown program typing ok null_pointer (0, omega arith, refl))

  -- ---- going on

  pub goes_on : (new : World) (items : List Value) → WorldFits program machine.heap new → ends (shape_of r.stands.insn) ≡ false
      → AfterInsn program typing ok new.heap frame r.stands frame.locals items → IfThere Fits (acts_on new acting (after frame items))
  goes_on new items fits stays h =
      let f = moved_to frame (frame.at + 1) frame.locals items in
      let runs = runs_after program typing ok new.heap frame r.stands items under stays h
      (all_waiting_grown machine.heap new.heap fits.grows program typing (result_type r.stands.method.desc) under waiting) in
      subst (λ (o : Option Frame). IfThere Fits (acts_on new acting o)) (sym (went program typing ok new.heap frame r.stands (frame.at + 1) frame.locals items h))
      (if_some Fits (goes new thread (f ∷ under)) (goes_fits program typing machine.heap new thread (f ∷ under) fits later runs))

  pub alone_fits : is_heap (shape_of r.stands.insn) ≡ false → IfThere Fits (acts_on world acting (frame_stepped r.stands.insn frame))
  alone_fits alone =
      let l = steps_alone program typing ok machine.heap frame r alone in
      subst (λ (o : Option Frame). IfThere Fits (acts_on world acting o)) (sym l.1)
      (if_some Fits (goes world thread (l.0 ∷ under)) (goes_fits program typing machine.heap world thread (l.0 ∷ under) same_fits later (l.2 under waiting)))

  -- ---- the heap, static fields, division

  module _ (what : Heap) (shape : shape_of r.stands.insn ≡ shapes.Heap what) where
    locals_after_growing : (new : World) → WorldFits program machine.heap new
        → Paired (of_frame new.heap) frame.locals (padded r.stands.method.max_locals (type_at r.stands.type.locals))
    locals_after_growing new fits =
        paired_also (of_frame machine.heap) (of_frame new.heap) frame.locals _ (type_grown machine.heap new.heap fits.grows program r.stands.class r.stands.method) r.locals

    comes_by : (o : HeapResult) → operates_here what ≡ true
        → OperationFits program r.stands.class r.stands.method machine.heap (stack_following (stands_at r.stands) r.stands.type) o
        → IfThere Fits (option_and_then (comes_to program world acting) o)
    comes_by None does w = if_none Fits
    comes_by (Some (Ok made)) does w =
        goes_on made.0 made.1 w.0 (ap ends shape ∙ stays_after what does) (record {
          locals_hold = locals_stay program made.0.heap (stands_at r.stands) r.stands.type what shape frame.locals (locals_after_growing made.0 w.0);
          items_hold = w.1;
        })
    comes_by (Some (Err class)) does w = if_some Fits (acts_throwing program world acting class) (throws_here class w)

    operates_fit : UsesAreShaped → operates_here what ≡ true → IfThere Fits (operates_on program world acting what (stands_at r.stands).ref)
    operates_fit shaped does =
        comes_by (heap_result program world what (stands_at r.stands).ref frame.stack.items) does (heap_operates program typing ok shaped world m.heap m.first m.statics frame r what shape does).fits

    -- ---- monitors

    -- after an instruction that takes the topmost operand and pushes none
    less_after : (want : Want) → takes (stands_at r.stands) ≡ want ∷ []
        → yields_of (stands_at r.stands) r.stands.type.locals (taken (stands_at r.stands) r.stands.type) (shapes.Heap what) ≡ []
        → AfterInsn program typing ok machine.heap frame r.stands frame.locals (drop 1 frame.stack.items)
    less_after want takes_one none =
        let place = stands_at r.stands in
        let one = one_taken program typing ok machine.heap frame r want takes_one in
        let pushes_none : yields place r.stands.type.locals (taken place r.stands.type) ≡ [] =
        ap (yields_of place r.stands.type.locals (taken place r.stands.type)) shape ∙ none in
        let h = heap_holds program machine.heap place r.stands.type what shape frame.locals one.below [] r.locals one.left
        (subst (λ (ts : List VType). Paired (of_frame machine.heap) [] (reverse ts)) (sym pushes_none) tt) in
        subst (λ (items : List Value). AfterInsn program typing ok machine.heap frame r.stands frame.locals items) (sym (ap (drop 1) one.items_are)) h

  enters_fits : shape_of r.stands.insn ≡ shapes.Heap heap_shapes.Enter → (on : Value) → IfThere Fits (enters program world acting on)
  enters_fits shape on =
      if_either Fits (is_null on) _ _ (if_some Fits (acts_throwing program world acting null_pointer) throws_null)
      (if_then Fits _ (entered machine.monitors number on)
      (λ held e. goes_on (with_monitors world held) (drop 1 frame.stack.items) (held_fits held) (ap ends shape)
      (less_after heap_shapes.Enter shape is_made (ap (takes_of (stands_at r.stands)) shape) refl)))

  left_fits : shape_of r.stands.insn ≡ shapes.Heap heap_shapes.Exit → (held : Option (List Monitor)) → IfThere Fits (left_with program world acting held)
  left_fits shape None =
      if_some Fits (acts_throwing program world acting bad_monitor) (throws_here bad_monitor (built_in_thrown program typing ok bad_monitor (1, omega arith, refl)))
  left_fits shape (Some held) =
      goes_on (with_monitors world held) (drop 1 frame.stack.items) (held_fits held) (ap ends shape)
      (less_after heap_shapes.Exit shape is_made (ap (takes_of (stands_at r.stands)) shape) refl)

  leaves_fits : shape_of r.stands.insn ≡ shapes.Heap heap_shapes.Exit → (on : Value) → IfThere Fits (leaves program world acting on)
  leaves_fits shape on =
      if_either Fits (is_null on) _ _ (if_some Fits (acts_throwing program world acting null_pointer) throws_null)
      (left_fits shape (left machine.monitors number on))

  -- ---- throwing what is on top

  thrown_so : (v : Value) (class : Name) → (is_null v || is_of program machine.heap throwable v) ≡ true → class_of_value machine.heap v ≡ Some class
      → IsThrown program machine.heap v class
  thrown_so v class e is =
      elim (or_cases (is_null v) _ e) [
        | inl null ↦ absurd (null_no_class machine.heap v class null is)
        | inr of ↦ record { class_is = is; thrown = of }
      ]

  throws_top_fits : (v : Value) → (is_null v || is_of program machine.heap throwable v) ≡ true → IfThere Fits (throws_top program world acting v)
  throws_top_fits v e =
      if_either Fits (is_null v) _ _ (if_some Fits (acts_throwing program world acting null_pointer) throws_null)
      (if_mapped Fits _ (class_of_value machine.heap v)
      (λ class is. throws_fits program typing ok machine.heap world number thread (frame ∷ under) v class None tt same_fits later frames_left (thrown_so v class e is)))

  top_thrown : shape_of r.stands.insn ≡ shapes.Heap heap_shapes.Throw
      → (one : One (of_frame machine.heap) (to_class program throwable) (taken (stands_at r.stands) r.stands.type) (reverse (below (length (takes (stands_at r.stands))) r.stands.type.stack)) frame.stack.items) × ((is_null one.value || is_of program machine.heap throwable one.value) ≡ true)
  top_thrown shape =
      let one = one_taken program typing ok machine.heap frame r (to_class program throwable) (ap (takes_of (stands_at r.stands)) shape) in (
        one,
        type_fits_over program ok.links.order machine.heap r.stands.class r.stands.method one.value one.type (types.Ref throwable) one.met one.fits,
      )

  throw_fits : shape_of r.stands.insn ≡ shapes.Heap heap_shapes.Throw
      → IfThere Fits (option_and_then (throws_top program world acting) (slice_get frame.stack.items 0))
  throw_fits shape =
      let t = top_thrown shape in
      subst (λ (items : List Value). IfThere Fits (option_and_then (throws_top program world acting) (slice_get items 0))) (sym t.0.items_are)
      (throws_top_fits t.0.value t.1)

  -- ---- returns

  returns_fit : (kind : Option ValueKind) → shape_of r.stands.insn ≡ shapes.Heap (heap_shapes.Return kind) → IfThere Fits (returns program world acting kind)
  returns_fit kind shape =
      let g = gives program typing ok machine.heap frame r kind shape in
      let held = all_given_up world.monitors number (option_to_list frame.lock) in
      let f = returned_fits program typing ok machine.heap (with_monitors world held) thread under (result_type r.stands.method.desc) g.result None tt
      (held_fits held) m.first later waiting g.fits_result in
      let is : returns program world acting kind ≡ Some f.0 =
      ap (option_and_then (λ result. returned program (with_monitors world held) thread under result None)) g.is ∙ f.1 in
      subst (IfThere Fits) (sym is) (if_some Fits f.0 f.2)

  -- ---- instructions

  module _ (shaped : UsesAreShaped) (calls_operate : CallsOperate program typing) where
    abbrev ref : Target
    ref = (stands_at r.stands).ref

    heap_fits : (what : Heap) → shape_of r.stands.insn ≡ shapes.Heap what → IfThere Fits (heap_stepped program machine acting what ref)
    unfolding IfThere
    heap_fits (heap_shapes.Call how) shape = (calls_operate machine m number thread later frame under r waiting how shape).1
    heap_fits heap_shapes.Throw shape = throw_fits shape
    heap_fits heap_shapes.Enter shape = if_then Fits (enters program world acting) (slice_get frame.stack.items 0) (λ on e. enters_fits shape on)
    heap_fits heap_shapes.Exit shape = if_then Fits (leaves program world acting) (slice_get frame.stack.items 0) (λ on e. leaves_fits shape on)
    heap_fits (heap_shapes.Return kind) shape = returns_fit kind shape
    heap_fits heap_shapes.Constant shape = operates_fit heap_shapes.Constant shape shaped refl
    heap_fits (heap_shapes.ReadItem item) shape = operates_fit (heap_shapes.ReadItem item) shape shaped refl
    heap_fits (heap_shapes.WriteItem item) shape = operates_fit (heap_shapes.WriteItem item) shape shaped refl
    heap_fits (heap_shapes.Divide remainder) shape = operates_fit (heap_shapes.Divide remainder) shape shaped refl
    heap_fits heap_shapes.ReadStatic shape = operates_fit heap_shapes.ReadStatic shape shaped refl
    heap_fits heap_shapes.WriteStatic shape = operates_fit heap_shapes.WriteStatic shape shaped refl
    heap_fits heap_shapes.ReadField shape = operates_fit heap_shapes.ReadField shape shaped refl
    heap_fits heap_shapes.WriteField shape = operates_fit heap_shapes.WriteField shape shaped refl
    heap_fits heap_shapes.New shape = operates_fit heap_shapes.New shape shaped refl
    heap_fits (heap_shapes.NewArray kind) shape = operates_fit (heap_shapes.NewArray kind) shape shaped refl
    heap_fits heap_shapes.NewArrayOf shape = operates_fit heap_shapes.NewArrayOf shape shaped refl
    heap_fits heap_shapes.Length shape = operates_fit heap_shapes.Length shape shaped refl
    heap_fits heap_shapes.Cast shape = operates_fit heap_shapes.Cast shape shaped refl
    heap_fits heap_shapes.IsInstance shape = operates_fit heap_shapes.IsInstance shape shaped refl

    by_shape : (o : Option Heap) → heap_in (shape_of r.stands.insn) ≡ o
        → IfThere Fits (option_map_or (λ what. heap_stepped program machine acting what ref) o (acts_on world acting (frame_stepped r.stands.insn frame)))
    by_shape None e = alone_fits (alone_shape (shape_of r.stands.insn) e)
    by_shape (Some what) e = heap_fits what (heap_shape (shape_of r.stands.insn) what e)

    -- A step of the thread leaves what fits.
    pub frames_fit : IfThere Fits (option_and_then (insn_stepped program machine acting) (insn_at program frame))
    frames_fit =
        subst (λ (o : Option (Insn × Target)). IfThere Fits (option_and_then (insn_stepped program machine acting) o)) (sym (insn_is program typing ok frame r.stands))
        (by_shape (heap_in (shape_of r.stands.insn)) refl)
