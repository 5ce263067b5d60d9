-- Calls of a ready frame: each is ready, and what it comes to fits.
use Rattle.std.proofs.Common.{◌≡◌, ℕ, List, Some, refl, sym, ap, subst, ◌∙◌}
use Rattle.std.specs.Prelude.{IsSomeAnd, not, option_and_then}
use Rattle.std.specs.List.{AllByRecursion}
use Rattle.cert_format.specs.declared.typing.Typing.{Typing}
use Rattle.insn_codec.specs.declared.shape.Heap.TheVariants as heaps
use Rattle.insn_codec.specs.declared.shape.How.{How}
use Rattle.insn_codec.specs.declared.shape.Shape.TheVariants as shapes
use Rattle.insn_codec.specs.Shapes.{shape_of}
use Rattle.bytecode_model.specs.declared.program.Program.{Program}
use Rattle.bytecode_model.specs.declared.program.Target.{Target}
use Rattle.bytecode_model.specs.declared.program.Target.TheVariants as target
use Rattle.bytecode_model.specs.Described.{result_type}
use Rattle.bytecode_model.specs.InsnPlace.{has_receiver}
use Rattle.bytecode_model.specs.SearchOrder.{Name}
use Rattle.bytecode_model.specs.Targets.{Calls}
use Rattle.bytecode_model.specs.Uses.{UsesAreShaped}
use Rattle.guest_heap.specs.declared.frame.Frame.{Frame}
use Rattle.guest_heap.specs.declared.thread.Thread.{Thread}
use Rattle.guest_model.specs.declared.machine.Machine.{Machine}
use Rattle.guest_model.specs.Calls.{Taken, arity, taken}
use Rattle.guest_model.specs.Places.{method_at}
use Rattle.guest_model.proofs.Options.{IfThere, and_then_of, if_some, some_and}
use Rattle.guest_model.specs.Calling.{calls, calls_given, calls_named, desc_named, is_static_call}
use Rattle.guest_model.specs.Changes.{Change}
use Rattle.guest_model.specs.Enabled.{passed_by}
use Rattle.guest_model.specs.Moving.{IsReadyToCall}
use Rattle.typed_runs.specs.Frames.{AreWaiting, IsReady, stands_at}
use Rattle.typed_runs.specs.Machines.{CanBegin, MachineFits}
use Rattle.typed_runs.specs.Programs.{IsTypedProgram}
use Rattle.typed_runs.proofs.Changed.{ChangeFits}
use Rattle.typed_runs.proofs.Acting.{CallsOperate}
use Rattle.typed_runs.proofs.Calling.BuiltIn.{built_in_operates}
use Rattle.typed_runs.proofs.Calling.Calls.{IfFits, call_here, shared}
use Rattle.typed_runs.proofs.Calling.GivenCalls.{given_fits, given_received}
use Rattle.typed_runs.proofs.Library.{library_fits}
use Rattle.typed_runs.proofs.Calling.Passed.{MethodNamed, built_in as built_in_named, given, given_at, listed, named_here, Passing, passing, told_built_in, told_given, told_listed}

module _ (program : Program) (typing : Typing) (ok : IsTypedProgram program typing) (shaped : UsesAreShaped) (machine : Machine)
    (fit : MachineFits program typing machine) (number : ℕ) (thread : Thread) (later : AllByRecursion (CanBegin program) thread.to_begin)
    (frame : Frame) (below : List Frame) (r : IsReady program typing machine.heap frame)
    (under : AreWaiting program typing machine.heap (result_type r.stands.method.desc) below) (how : How)
    (shape : shape_of r.stands.insn ≡ shapes.Heap (heaps.Call how)) where
  -- The call of what is named is ready, and what it comes to fits.
  abbrev Operates : Target → Type 0
  Operates ref =
      (p : Passing program typing ok shaped machine.heap frame r how shape ref)
      × IsReadyToCall machine.heap how ref p.passed
      × IfFits program typing ok shaped machine fit number thread later frame below r under how shape ref p
      (calls_named program machine (call_here program typing ok shaped machine fit number thread later frame below r under how shape ref p) how ref)

  listed_operates : (index : ℕ) → Calls program r.stands.class r.stands.insn (target.ApiMethod index) → Operates (target.ApiMethod index)
  listed_operates index u =
      let p = passing program typing ok shaped machine.heap frame r how shape (target.ApiMethod index) (told_listed program typing ok shaped machine.heap frame r how shape index u) in
      (p, tt, if_some _ _ (library_fits program typing ok shaped machine fit number thread later frame below r under how shape index u p))

  given_operates : (of index : ℕ) (u : Calls program r.stands.class r.stands.insn (target.Method of index)) → u.static ≡ not (has_receiver how)
      → Operates (target.Method of index)
  given_operates of index u static =
      let p = passing program typing ok shaped machine.heap frame r how shape (target.Method of index) (told_given program typing ok shaped machine.heap frame r how shape of index u) in
      let call = call_here program typing ok shaped machine fit number thread later frame below r under how shape (target.Method of index) p in
      let world = shared program typing ok shaped machine fit number thread later frame below r under how shape (target.Method of index) p in
      let there : option_and_then (calls_given program world call how (of, index)) (method_at program of index)
      ≡ calls_given program world call how (of, index) u.declared.method =
      ap (option_and_then (calls_given program world call how (of, index))) (given_at program typing ok shaped machine.heap frame r how shape of index u) in (
        p,
        given_received program typing ok shaped machine fit number thread later frame below r under how shape of index u static p,
        subst (IfFits program typing ok shaped machine fit number thread later frame below r under how shape (target.Method of index) p) (sym there)
            (given_fits program typing ok shaped machine fit number thread later frame below r under how shape of index u static p),
      )

  own_operates : (index : ℕ) (u : Calls program r.stands.class r.stands.insn (target.Builtin index)) → u.static ≡ not (has_receiver how)
      → Operates (target.Builtin index)
  own_operates index u static =
      let p = passing program typing ok shaped machine.heap frame r how shape (target.Builtin index)
      (told_built_in program typing ok shaped machine.heap frame r how shape index u) in
      let b = built_in_operates program typing ok shaped machine fit number thread later frame below r under how shape index p u static in
      (p, b.0, b.1)

  named_operates : (ref : Target) → MethodNamed program r.stands.class r.stands.insn (not (has_receiver how)) ref → Operates ref
  named_operates ref (listed index e u static) = subst Operates (sym e) (listed_operates index u)
  named_operates ref (built_in_named index e u static) = subst Operates (sym e) (own_operates index u static)
  named_operates ref (given of index e u static) = subst Operates (sym e) (given_operates of index u static)

  -- ---- the call itself

  called_by : (ref : Target) (passed : Taken) → passed_by program frame how ref ≡ Some passed
      → calls program machine number thread frame below how ref
      ≡ calls_named program machine (record { number = number; thread = thread; frame = frame; below = below; passed = passed }) how ref
  called_by ref passed e =
      let a = and_then_of (λ (desc : Name). taken (is_static_call how) (arity desc) frame.stack.items) (desc_named program ref) passed e in
      rw (a.1, a.2) refl

  operates_so : (ref : Target) → Operates ref
      → IsSomeAnd (passed_by program frame how ref) (λ (passed : Taken). IsReadyToCall machine.heap how ref passed)
      × ((change : Change) → calls program machine number thread frame below how ref ≡ Some change
      → ChangeFits program typing machine.heap change)
  unfolding IfThere
  operates_so ref w = (
    some_and (λ (passed : Taken). IsReadyToCall machine.heap how ref passed) (passed_by program frame how ref) w.0.passed w.0.is w.1,
    λ change e. w.2 change (sym (called_by ref w.0.passed w.0.is) ∙ e),
  )

  pub call_operates : IsSomeAnd (passed_by program frame how (stands_at r.stands).ref) (λ (passed : Taken). IsReadyToCall machine.heap how (stands_at r.stands).ref passed)
      × ((change : Change) → calls program machine number thread frame below how (stands_at r.stands).ref ≡ Some change
      → ChangeFits program typing machine.heap change)
  call_operates = operates_so (stands_at r.stands).ref (named_operates (stands_at r.stands).ref (named_here program typing ok shaped machine.heap frame r how shape))

-- ---- every call

module _ (program : Program) (typing : Typing) (ok : IsTypedProgram program typing) (shaped : UsesAreShaped) where
  -- A call of a ready frame is ready, and what it leaves fits.
  pub calls_operate : CallsOperate program typing
  calls_operate machine fit number thread later frame below r under how shape =
      call_operates program typing ok shaped machine fit number thread later frame below r under how shape
