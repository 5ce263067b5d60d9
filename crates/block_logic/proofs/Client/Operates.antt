-- What instructions come to that work on the heap, on static fields, or divide: where no value is the lock, none is afterwards.
use Rattle.std.proofs.Common.{◌≡◌, ◌≢◌, ℕ, Bool, true, false, cond, Some, None, refl, ap, sym, ◌∙◌}
use Rattle.std.specs.Prelude.{◌==◌}
use Rattle.std.proofs.lemmas.Bool.{eq-eqb, false≢true}
use Rattle.bytecode_model.specs.declared.program.Program.{Program}
use Rattle.bytecode_model.specs.declared.program.Target.{Target}
use Rattle.bytecode_model.specs.declared.program.Target.TheVariants as target
use Rattle.bytecode_model.specs.SearchOrder.{Name}
use Rattle.guest_heap.specs.declared.value.Value.{Value}
use Rattle.guest_heap.specs.declared.value.Value.TheVariants as values
use Rattle.guest_model.specs.Changes.{World}
use Rattle.guest_model.specs.HeapOperations.{kept, truth}
use Rattle.guest_model.proofs.HeapResults.{IsOpenTo, Lasts}
use Rattle.block_logic.specs.Fitting.{IsCleanObject}
use Rattle.block_logic.specs.Meaning.{IsClean}
use Rattle.block_logic.specs.Operands.{variable_named}
use Rattle.block_logic.proofs.Client.Values.{KeepsLock, first_clean, kept_heap, kept_statics}

-- what names no variable of the class names another class
apart_from : (class state : ℕ) (field : ℕ) → variable_named state (target.Field class field) ≡ None → class ≢ state
apart_from class state field none same = by (class == state) (eq-eqb class state same) none where
  by : (b : Bool) → b ≡ true → cond b (Some field) None ≡ None → ⊥
  by true e none = absurd cc
  by false e none = false≢true e

pub names_apart : (state : ℕ) (ref : Target) → variable_named state ref ≡ None → IsOpenTo (λ class. class ≢ state) ref
names_apart state ref none class field named = apart_from class state field (sym (ap (variable_named state) named) ∙ none)

module _ (program : Program) (state : ℕ) (shared : World) where
  kept_clean : (desc : Name) (v : Value) → IsClean program v → IsClean program (kept desc v)
  kept_clean desc (values.Int n) h = refl
  kept_clean desc values.Null h = refl
  kept_clean desc (values.Ref at) h = h
  kept_clean desc (values.Class index) h = h
  kept_clean desc (values.Lit index) h = h

  truth_clean : (b : Bool) → IsClean program (truth b)
  truth_clean true = refl
  truth_clean false = refl

  pub clean_lasts : Lasts (IsClean program) (IsCleanObject program) (KeepsLock program state shared) (λ class. class ≢ state)
  clean_lasts = record {
    reference = λ at. refl;
    truths = truth_clean;
    first = first_clean program;
    item = kept_clean;
    quotients = λ remainder x y e h. refl;
    new = λ class list all. (all, refl);
    fields = λ class list on thread h. h.0;
    fields_set = λ class old list on thread all h. (all, h.1);
    items = λ desc list all. (all, refl);
    array = λ desc list all count. all;
    on_heap = λ world k. k.clean.heap;
    heap_set = λ world list all k. kept_heap program state shared world k list all;
    statics = λ world class list apart k e. k.clean.statics class list apart e;
    statics_set = λ world class old list apart e all k. kept_statics program state shared world k class old list apart e all;
  }
