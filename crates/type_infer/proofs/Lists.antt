-- What holds of each of a list.
use Rattle.std.proofs.Common.{◌≡◌, Result, Ok, Err, ℕ, zero, suc, ◌<◌, ◌≤◌, Bool, true, false, List, [], ◌∷◌, ◌++◌, map, length, replicate, set, get_or, min, ltb, inl, inr, Option, Some, None, refl, sym, ap, subst, ◌∙◌, arith}
use Rattle.std.specs.Prelude.{slice_get, is_some, IfSome, IfOk, OnOk}
use Rattle.std.specs.List.{AllByRecursion}
use Rattle.std.specs.Option.{option_map_or}
use Rattle.std.proofs.lemmas.Option.{slice_get_read}
use Rattle.std.proofs.lemmas.Bool.{cases_Bool, false≢true, ltb-true, ltb-false}
use Rattle.bytecode_model.specs.declared.program.Program.{Program}
use Rattle.cert_format.specs.declared.typing.FrameType.{FrameType}
use Rattle.cert_format.specs.declared.typing.VType.{VType}
use Rattle.cert_format.specs.declared.typing.VType.TheVariants as types
use Rattle.type_lattice.specs.Merging.{merged}
use Rattle.bytecode_model.specs.Makes.{type_at}
use Rattle.bytecode_model.specs.Rules.{Frames, frame_of}
use Rattle.type_infer.specs.Solving.{is_marked}

pub all_at : {X : Type 0} (P : X → Type 0) (xs : List X) (i : ℕ) (x : X) → AllByRecursion P xs → slice_get xs i ≡ Some x → P x
all_at P [] i x h e = absurd cc
all_at P (y ∷ xs) zero x h e =
    let same : y ≡ x = cc in
    subst P same h.0
all_at P (y ∷ xs) (suc i) x h e = all_at P xs i x h.1 e

pub not_some : {A : Type 0} (o : Option A) → is_some o ≡ false → o ≡ None
not_some None e = refl
not_some (Some x) e = absurd cc

-- ---- one of a list is set

pub slice_get-set_same : {A : Type 0} (xs : List A) (i : ℕ) (x : A) → i < length xs → slice_get (set xs i x) i ≡ Some x
slice_get-set_same [] i x h = absurd (omega arith)
slice_get-set_same (y ∷ xs) zero x h = refl
slice_get-set_same (y ∷ xs) (suc i) x h = slice_get-set_same xs i x (omega arith)

pub slice_get-set_other : {A : Type 0} (xs : List A) (i j : ℕ) (x : A) → (j ≡ i → ⊥) → slice_get (set xs i x) j ≡ slice_get xs j
slice_get-set_other [] i j x h = refl
slice_get-set_other (y ∷ xs) zero zero x h = absurd (h refl)
slice_get-set_other (y ∷ xs) zero (suc j) x h = refl
slice_get-set_other (y ∷ xs) (suc i) zero x h = refl
slice_get-set_other (y ∷ xs) (suc i) (suc j) x h = slice_get-set_other xs i j x (λ e. h (ap suc e))

pub frame_of-set_same : (frames : Frames) (i : ℕ) (o : Option FrameType) → i < length frames → frame_of (set frames i o) i ≡ o
frame_of-set_same frames i o h = ap (λ (x : Option (Option FrameType)). option_map_or (λ (f : Option FrameType). f) x None) (slice_get-set_same frames i o h)

pub frame_of-set_other : (frames : Frames) (i j : ℕ) (o : Option FrameType) → (j ≡ i → ⊥) → frame_of (set frames i o) j ≡ frame_of frames j
frame_of-set_other frames i j o h = ap (λ (x : Option (Option FrameType)). option_map_or (λ (f : Option FrameType). f) x None) (slice_get-set_other frames i j o h)

pub is_marked-set_same : (marks : List Bool) (i : ℕ) (b : Bool) → i < length marks → is_marked (set marks i b) i ≡ b
is_marked-set_same marks i b h = ap (λ (x : Option Bool). option_map_or (λ (marked : Bool). marked) x false) (slice_get-set_same marks i b h)

pub is_marked-set_other : (marks : List Bool) (i j : ℕ) (b : Bool) → (j ≡ i → ⊥) → is_marked (set marks i b) j ≡ is_marked marks j
is_marked-set_other marks i j b h = ap (λ (x : Option Bool). option_map_or (λ (marked : Bool). marked) x false) (slice_get-set_other marks i j b h)

pub frame_of-replicate : (n i : ℕ) → frame_of (replicate n None) i ≡ None
frame_of-replicate zero i = refl
frame_of-replicate (suc n) zero = refl
frame_of-replicate (suc n) (suc i) = frame_of-replicate n i

-- ---- types in their places

pub type_at-map : (f : VType → VType) → f types.Top ≡ types.Top → (xs : List VType) (j : ℕ) → type_at (map f xs) j ≡ f (type_at xs j)
type_at-map f e [] j = sym e
type_at-map f e (x ∷ xs) zero = refl
type_at-map f e (x ∷ xs) (suc j) = type_at-map f e xs j

pub type_at-past : (xs : List VType) (j : ℕ) → length xs ≤ j → type_at xs j ≡ types.Top
type_at-past [] j h = refl
type_at-past (x ∷ xs) zero h = absurd (omega arith)
type_at-past (x ∷ xs) (suc j) h = type_at-past xs j (omega arith)

pub slice_get-type_at : (xs : List VType) (j : ℕ) (t : VType) → slice_get xs j ≡ Some t → type_at xs j ≡ t
slice_get-type_at xs j t e = ap (λ (x : Option VType). option_map_or (λ (u : VType). u) x types.Top) e

pub type_at-read : (xs : List VType) (j : ℕ) (t : VType) → j < length xs → t ≡ get_or xs j t → type_at xs j ≡ t
type_at-read xs j t h e = slice_get-type_at xs j t (slice_get_read xs (length xs) j t refl h e)

pub type_at-append : (xs ys : List VType) (j : ℕ) → j < length xs → type_at (xs ++ ys) j ≡ type_at xs j
type_at-append [] ys j h = absurd (omega arith)
type_at-append (x ∷ xs) ys zero h = refl
type_at-append (x ∷ xs) ys (suc j) h = type_at-append xs ys j (omega arith)

pub type_at-seam : (xs : List VType) (y : VType) (ys : List VType) → type_at (xs ++ y ∷ ys) (length xs) ≡ y
type_at-seam [] y ys = refl
type_at-seam (x ∷ xs) y ys = type_at-seam xs y ys

merged-top : (program : Program) (t : VType) → merged program t types.Top ≡ types.Top
merged-top program types.Top = refl
merged-top program types.Int = refl
merged-top program types.Null = refl
merged-top program (types.Ref name) = refl
merged-top program types.UninitThis = refl
merged-top program (types.Uninit at) = refl

-- past the end of one list nothing has a merge but Top
pub merged-past : (program : Program) (a b : List VType) (j : ℕ) → min (length a) (length b) ≤ j → merged program (type_at a j) (type_at b j) ≡ types.Top
merged-past program a b j h =
    elim (cases_Bool (ltb j (length a))) [
      | inl inside ↦
          let lt = ltb-true j (length a) inside in
          ap (merged program (type_at a j)) (type_at-past b j (omega arith)) ∙ merged-top program (type_at a j)
      | inr past ↦
          let ge = ltb-false j (length a) past in
          ap (λ (t : VType). merged program t (type_at b j)) (type_at-past a j (omega arith))
    ]

pub if_some : {A : Type 0} (o : Option A) (P Q : A → Type 0) → ((x : A) → P x → Q x) → IfSome o P → IfSome o Q
if_some None P Q f h = h
if_some (Some x) P Q f h = f x h

pub if_ok : {A E : Type 0} (r : Result A E) (P Q : A → Type 0) → ((x : A) → P x → Q x) → IfOk r P → IfOk r Q
if_ok (Ok x) P Q f h = f x h
if_ok (Err e) P Q f h = h

pub on_ok : {A E P Q : Type 0} (r : Result A E) → (P → Q) → OnOk r P → OnOk r Q
on_ok (Ok x) f h = f h
on_ok (Err e) f h = h

pub filled : {A : Type 0} (xs : List A) (b : Bool) → (xs ≡ [] → b ≡ true) → b ≡ false → 0 < length xs
filled [] b h e = absurd (false≢true (sym e ∙ h refl))
filled (x ∷ xs) b h e = omega arith
