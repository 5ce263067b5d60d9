-- Locals one after the other, and those that are absent.
use Rattle.std.proofs.Common.{◌≡◌, ℕ, zero, suc, ◌+◌, ◌<◌, ◌≤◌, Bool, true, false, cond, List, [], ◌∷◌, ◌++◌, length, refl, sym, ap, ◌∙◌, inl, inr, arith, below_more}
use Rattle.std.proofs.lemmas.Bool.{cases_lt}
use Rattle.std.proofs.lemmas.Option.{slice_get_past}
use Rattle.std.proofs.lemmas.List.{length-append}
use Rattle.cert_format.specs.declared.typing.VType.{VType}
use Rattle.cert_format.specs.declared.typing.VType.TheVariants as types
use Rattle.insn_codec.specs.declared.shape.Heap.TheVariants as heap
use Rattle.insn_codec.specs.declared.shape.Shape.{Shape}
use Rattle.insn_codec.specs.declared.shape.Shape.TheVariants as shapes
use Rattle.insn_codec.specs.Shapes.{shape_of}
use Rattle.code_typing.specs.declared.change.Change.{Change}
use Rattle.code_typing.specs.Changing.{change_told, local_told}
use Rattle.bytecode_model.specs.Makes.{type_at, is_same_object, when_made, when_called, changed_by, changed, stores, local_after}
use Rattle.bytecode_model.specs.InsnPlace.{InsnPlace, calls_maker}

pub before_pushed : (xs : List VType) (t : VType) (k : ℕ) → k < length xs → type_at (xs ++ t ∷ []) k ≡ type_at xs k
before_pushed [] t k less = absurd (omega arith)
before_pushed (x ∷ xs) t zero less = refl
before_pushed (x ∷ xs) t (suc k) less = before_pushed xs t k (omega (arith, less))

pub at_pushed : (xs : List VType) (t : VType) → type_at (xs ++ t ∷ []) (length xs) ≡ t
at_pushed [] t = refl
at_pushed (x ∷ xs) t = at_pushed xs t

pub absent : (xs : List VType) (j : ℕ) → length xs ≤ j → type_at xs j ≡ types.Top
absent xs j less = rw (slice_get_past xs j less) refl

either_same : (b : Bool) (t : VType) → cond b t t ≡ t
either_same true t = refl
either_same false t = refl

no_object : (t : VType) → is_same_object t types.Top ≡ false
no_object types.Top = refl
no_object types.Int = refl
no_object types.Null = refl
no_object (types.Ref name) = refl
no_object types.UninitThis = refl
no_object (types.Uninit i) = refl

top_called : (place : InsnPlace) (taken : List VType) → when_called place taken types.Top ≡ types.Top
top_called place taken =
    let made : when_made place (type_at taken 0) types.Top ≡ types.Top = rw (no_object (type_at taken 0)) refl in
    ap (λ (t : VType). cond (calls_maker place) t types.Top) made ∙ either_same (calls_maker place) types.Top

top_changed : (place : InsnPlace) (taken : List VType) (shape : Shape) → changed_by place taken shape types.Top ≡ types.Top
top_changed place taken (shapes.Heap heap.New) = refl
top_changed place taken (shapes.Heap (heap.Call how)) = top_called place taken
top_changed place taken other = refl

-- a local after all that there are
pub after_all : (place : InsnPlace) (locals taken : List VType) (j : ℕ) → length locals ≤ j → stores (shape_of place.insn) j ≡ false → local_after place locals taken j ≡ types.Top
after_all place locals taken j less e =
    rw e (ap (changed place taken) (absent locals j less) ∙ top_changed place taken (shape_of place.insn))

pub local_same : (place : InsnPlace) (change : Change) (locals taken : List VType) (j : ℕ) → ((t : VType) → change_told change t ≡ changed place taken t)
    → local_told (shape_of place.insn) change locals taken j ≡ local_after place locals taken j
local_same place change locals taken j told = ap (λ (t : VType). cond (stores (shape_of place.insn) j) (type_at taken 0) t) (told (type_at locals j))

-- each local, where those below a place are told and there are none after it
pub each_local : (place : InsnPlace) (locals taken found : List VType) (n : ℕ) → length found ≡ n → length locals ≤ n → ((j : ℕ) → n ≤ j → stores (shape_of place.insn) j ≡ false)
    → ((k : ℕ) → k < n → type_at found k ≡ local_after place locals taken k) → (j : ℕ) → type_at found j ≡ local_after place locals taken j
each_local place locals taken found n e less stored told j =
    elim (cases_lt j n) [
      | inl below ↦ told j below
      | inr above ↦ absent found j (omega (arith, e, above)) ∙ sym (after_all place locals taken j (omega (arith, less, above)) (stored j above))
    ]

-- one local more
pub pushed_each : (f : ℕ → VType) (xs new : List VType) (t : VType) (j : ℕ) → new ≡ xs ++ t ∷ [] → length xs ≡ j → t ≡ f j → ((k : ℕ) → k < j → type_at xs k ≡ f k)
    → (length new ≡ j + 1) × ((k : ℕ) → k < j + 1 → type_at new k ≡ f k)
pushed_each f xs new t j e n is before =
    let last : type_at new j ≡ f j = ap (λ (l : List VType). type_at l j) e ∙ ap (type_at (xs ++ t ∷ [])) (sym n) ∙ at_pushed xs t ∙ is in
    let lower : (k : ℕ) → k < j → type_at new k ≡ f k = λ k less. ap (λ (l : List VType). type_at l k) e ∙ before_pushed xs t k (omega (arith, less, n)) ∙ before k less in
    (ap length e ∙ length-append xs (t ∷ []) ∙ omega (arith, n), below_more (λ (k : ℕ). type_at new k ≡ f k) j lower last)
