-- What calls take from the operands, and objects that are run, started and aimed: none of it is the lock.
use Rattle.std.proofs.Common.{◌≡◌, ℕ, ◌+◌, Bool, true, false, List, length, take, Option, Some, None, refl, subst}
use Rattle.std.specs.Prelude.{IfSome, nat_le, slice_get, slice_set}
use Rattle.std.specs.Option.{option_or}
use Rattle.bytecode_model.specs.declared.program.Program.{Program}
use Rattle.guest_heap.specs.declared.object.Object.{Object}
use Rattle.guest_heap.specs.declared.object.Object.TheVariants as objects
use Rattle.guest_heap.specs.declared.value.Value.{Value}
use Rattle.guest_heap.specs.declared.value.Value.TheVariants as values
use Rattle.guest_model.specs.Calling.{aimed_at, run_of, started_as, target_in, target_of, with_changed}
use Rattle.guest_model.specs.Calls.{Taken, taken}
use Rattle.guest_model.specs.Finding.{client_run}
use Rattle.guest_model.specs.Kinds.{class_of_value}
use Rattle.guest_model.proofs.Options.{IfThere, all_drop, all_get, all_reverse, all_set, all_take, if_either, if_mapped, if_none, if_some, if_then, is_there, some_is, there_or}
use Rattle.block_logic.specs.Fitting.{ArePassed, IsCleanObject}
use Rattle.block_logic.specs.Meaning.{AreClean, IsClean}
use Rattle.block_logic.proofs.Client.Begins.{RunsClean}
use Rattle.block_logic.proofs.Client.Values.{IsCleanHeap}

pub some_of : {A : Type 0} (P : A → Type 0) (o : Option A) → IfThere P o → IfSome o P
some_of P None h = tt
some_of P (Some x) h = is_there P (Some x) x h refl

pub there_is : {A : Type 0} (P : A → Type 0) (o : Option A) (x : A) → IfSome o P → o ≡ Some x → P x
there_is P None x h e = absurd cc
there_is P (Some y) x h e = subst P (some_is y x e) h

some_or : {A : Type 0} (P : A → Type 0) (o q : Option A) → IfSome o P → IfSome q P → IfSome (option_or o q) P
some_or P None q h k = k
some_or P (Some x) q h k = h

module _ (program : Program) where
  -- ---- what a call takes

  -- What it passes, and what stays beneath, is not the lock.
  pub record PassesClean (t : Taken) : Type 0 where
    pub passed : ArePassed program t.receiver t.arguments
    pub beneath : AreClean program t.beneath

  pub taken_clean : (static : Bool) (n : ℕ) (stack : List Value) → AreClean program stack → IfThere PassesClean (taken static n stack)
  taken_clean true n stack all =
      if_either PassesClean (nat_le n (length stack)) _ _
      (if_some PassesClean _ (record {
        passed = (tt, all_reverse (IsClean program) (take n stack) (all_take (IsClean program) n stack all));
        beneath = all_drop (IsClean program) n stack all;
      })) (if_none PassesClean)
  taken_clean false n stack all =
      if_mapped PassesClean _ (slice_get stack n)
      (λ v e. record {
        passed = (all_get (IsClean program) stack n v all e, all_reverse (IsClean program) (take n stack) (all_take (IsClean program) n stack all));
        beneath = all_drop (IsClean program) (n + 1) stack all;
      })

  -- ---- objects that are run, started and aimed

  aim_clean : (object : Object) → IsCleanObject program object → IsClean program (target_in object)
  aim_clean (objects.Plain class fields target thread) h = h.1
  aim_clean (objects.Array desc items) h = refl
  aim_clean (objects.Text text) h = refl

  pub target_clean : (heap : List Object) (on : Value) → IsCleanHeap program heap → IsClean program (target_of heap on)
  target_clean heap (values.Int n) all = refl
  target_clean heap values.Null all = refl
  target_clean heap (values.Ref at) all =
      there_or (IsClean program) target_in (slice_get heap at) values.Null refl
      (λ object e. aim_clean object (all_get (IsCleanObject program) heap at object all e))
  target_clean heap (values.Class index) all = refl
  target_clean heap (values.Lit index) all = refl

  pub started_clean : (number : ℕ) (object : Object) → IsCleanObject program object → IsCleanObject program (started_as number object)
  started_clean number (objects.Plain class fields target thread) h = h
  started_clean number (objects.Array desc items) h = h
  started_clean number (objects.Text text) h = h

  pub aimed_clean : (on : Value) → IsClean program on → (object : Object) → IsCleanObject program object → IsCleanObject program (aimed_at on object)
  aimed_clean on clean (objects.Plain class fields target thread) h = (h.0, clean)
  aimed_clean on clean (objects.Array desc items) h = h
  aimed_clean on clean (objects.Text text) h = h

  pub changed_clean : (heap : List Object) (on : Value) (f : Object → Object)
      → ((object : Object) → IsCleanObject program object → IsCleanObject program (f object)) → IsCleanHeap program heap
      → IsCleanHeap program (with_changed heap on f)
  changed_clean heap (values.Int n) f each all = all
  changed_clean heap values.Null f each all = all
  changed_clean heap (values.Ref at) f each all =
      there_or (IsCleanHeap program) (λ (object : Object). slice_set heap at (f object)) (slice_get heap at) heap all
      (λ object e. all_set (IsCleanObject program) heap at (f object) all (each object (all_get (IsCleanObject program) heap at object all e)))
  changed_clean heap (values.Class index) f each all = all
  changed_clean heap (values.Lit index) f each all = all

  -- ---- what is to be run

  pub run_clean : (heap : List Object) (on : Value) → IsClean program on → IfThere (RunsClean program) (run_of program heap on)
  run_clean heap on clean =
      if_then (RunsClean program) _ (class_of_value heap on)
      (λ class e. if_then (RunsClean program) _ (client_run program class) (λ to f. if_some (RunsClean program) (to, on) clean))

  -- an object's own, or else that of its target
  pub own_or_target : (heap : List Object) (on : Value) → IsClean program on → IsCleanHeap program heap
      → IfSome (option_or (run_of program heap on) (run_of program heap (target_of heap on))) (RunsClean program)
  own_or_target heap on clean all =
      some_or (RunsClean program) (run_of program heap on) (run_of program heap (target_of heap on)) (some_of (RunsClean program) _ (run_clean heap on clean))
      (some_of (RunsClean program) _ (run_clean heap (target_of heap on) (target_clean heap on all)))
