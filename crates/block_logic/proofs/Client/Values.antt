-- Values that are not the lock, and a world that holds it nowhere: what is written into it leaves the lock and the policy's variables alone.
use Rattle.std.proofs.Common.{◌≡◌, ◌≢◌, ℕ, ℤ, zero, suc, Bool, true, false, cond, List, [], ◌∷◌, ◌++◌, pos, Some, refl, sym, ap, subst, ◌∙◌, inl, inr}
use Rattle.std.specs.Prelude.{slice_get, slice_set}
use Rattle.std.specs.List.{AllByRecursion}
use Rattle.std.proofs.lemmas.Bool.{cases_eq}
use Rattle.insn_codec.specs.declared.shape.Shape.{Shape}
use Rattle.insn_codec.specs.declared.shape.Shape.TheVariants as shapes
use Rattle.bytecode_model.specs.declared.program.Program.{Program}
use Rattle.bytecode_model.specs.SearchOrder.{Name}
use Rattle.guest_heap.specs.declared.object.Monitor.{Monitor}
use Rattle.guest_heap.specs.declared.object.Object.{Object}
use Rattle.guest_heap.specs.declared.value.Value.{Value}
use Rattle.guest_heap.specs.declared.value.Value.TheVariants as values
use Rattle.guest_frames.specs.Values.{values_moved}
use Rattle.guest_model.specs.Changes.{World, with_heap, with_monitors, with_object, with_statics}
use Rattle.guest_model.specs.Layout.{first_value, is_of_references}
use Rattle.guest_model.proofs.Effects.{IsKeptBy, NamesOnly}
use Rattle.guest_model.proofs.Options.{all_append, some_is}
use Rattle.block_logic.specs.Fitting.{IsCleanObject, IsCleanWorld, held_locks}
use Rattle.block_logic.specs.Meaning.{AreClean, IsClean}

-- ---- lists with an item set

pub set_same : {A : Type 0} (xs : List A) (i : ℕ) (x y : A) → slice_get xs i ≡ Some y → slice_get (slice_set xs i x) i ≡ Some x
set_same [] i x y e = absurd cc
set_same (z ∷ xs) zero x y e = refl
set_same (z ∷ xs) (suc i) x y e = set_same xs i x y e

pub set_other : {A : Type 0} (xs : List A) (i j : ℕ) (x : A) → i ≢ j → slice_get (slice_set xs i x) j ≡ slice_get xs j
set_other [] i j x apart = refl
set_other (z ∷ xs) zero zero x apart = absurd (apart refl)
set_other (z ∷ xs) zero (suc j) x apart = refl
set_other (z ∷ xs) (suc i) zero x apart = refl
set_other (z ∷ xs) (suc i) (suc j) x apart = set_other xs i j x (λ e. apart (ap suc e))

module _ (program : Program) where
  -- ---- values

  -- what instructions make of such values on their frame alone
  pub clean_kept : IsKeptBy values_moved (IsClean program)
  clean_kept = record { none = refl; of_two = λ op v w is also. refl; of_one = λ op v is. refl }

  -- numbers that an instruction names
  pub names_clean : (shape : Shape) → NamesOnly (λ (n : ℤ). IsClean program (values.Int n)) shape
  names_clean shapes.Nothing = tt
  names_clean (shapes.Push n) = refl
  names_clean shapes.PushNull = tt
  names_clean (shapes.Load kind slot) = tt
  names_clean (shapes.Store kind slot) = tt
  names_clean (shapes.Move form) = tt
  names_clean (shapes.Two op) = tt
  names_clean (shapes.One op) = tt
  names_clean (shapes.Increment slot by) = refl
  names_clean (shapes.Test relation to) = tt
  names_clean (shapes.Compare relation to) = tt
  names_clean (shapes.CompareReferences same to) = tt
  names_clean (shapes.TestNull null to) = tt
  names_clean (shapes.Goto to) = tt
  names_clean shapes.Switch = tt
  names_clean (shapes.Heap what) = tt

  -- ---- objects

  first_or : (b : Bool) → IsClean program (cond b values.Null (values.Int (pos 0)))
  first_or true = refl
  first_or false = refl

  pub first_clean : (desc : Name) → IsClean program (first_value desc)
  first_clean desc = first_or (is_of_references desc)

  abbrev pub IsCleanHeap : List Object → Type 0
  IsCleanHeap heap = AllByRecursion (IsCleanObject program) heap

  -- ---- what all share

  -- The world holds the lock nowhere, and the lock and the variables of the class of this number are as in the other.
  pub record KeepsLock (state : ℕ) (shared world : World) : Type 0 where
    pub clean : IsCleanWorld program state world
    pub locks : held_locks program world.monitors ≡ held_locks program shared.monitors
    pub variables : slice_get world.statics state ≡ slice_get shared.statics state

  module _ (state : ℕ) (shared : World) where
    pub lock_kept : IsCleanWorld program state shared → KeepsLock state shared shared
    lock_kept clean = record { clean = clean; locks = refl; variables = refl }

    module _ (world : World) (k : KeepsLock state shared world) where
      pub kept_monitors : (held : List Monitor) → held_locks program held ≡ held_locks program world.monitors
          → KeepsLock state shared (with_monitors world held)
      kept_monitors held same = record {
        clean = record { heap = k.clean.heap; statics = k.clean.statics };
        locks = same ∙ k.locks;
        variables = k.variables;
      }

      pub kept_heap : (heap : List Object) → IsCleanHeap heap → KeepsLock state shared (with_heap world heap)
      kept_heap heap clean = record { clean = record { heap = clean; statics = k.clean.statics }; locks = k.locks; variables = k.variables }

      pub kept_object : (object : Object) → IsCleanObject program object → KeepsLock state shared (with_object world object)
      kept_object object clean =
          kept_heap (world.heap ++ object ∷ []) (all_append (IsCleanObject program) world.heap (object ∷ []) k.clean.heap (clean, tt))

      -- the static fields of another class
      pub kept_statics : (class : ℕ) (old fields : List Value) → class ≢ state → slice_get world.statics class ≡ Some old → AreClean program fields
          → KeepsLock state shared (with_statics world (slice_set world.statics class fields))
      kept_statics class old fields apart there clean = record {
        clean = record { heap = k.clean.heap; statics = each };
        locks = k.locks;
        variables = set_other world.statics class state fields apart ∙ k.variables;
      } where
        each : (other : ℕ) (found : List Value) → other ≢ state → slice_get (slice_set world.statics class fields) other ≡ Some found → AreClean program found
        each other found away e = elim (cases_eq class other) [
          | inl same ↦
              let set : slice_get (slice_set world.statics class fields) class ≡ Some fields = set_same world.statics class fields old there in
              let is : slice_get (slice_set world.statics class fields) class ≡ Some found = subst (λ (i : ℕ). slice_get (slice_set world.statics class fields) i ≡ Some found) (sym same) e in
              subst (AreClean program) (some_is fields found (sym set ∙ is)) clean
          | inr differ ↦ k.clean.statics other found away (sym (set_other world.statics class other fields differ) ∙ e)
        ]
