-- What an instruction that works on its frame alone does to the types, shape by shape.
use Rattle.std.proofs.Common.{◌≡◌, ℕ, ℤ, ◌-◌, ◌<◌, ◌≤◌, Bool, true, false, cond, List, [], ◌∷◌, ◌++◌, length, get_or, map, reverse, Option, Some, refl, sym, ap, subst, ◌∙◌, inl, inr, arith}
use Rattle.std.specs.Prelude.{◌==◌, nat_lt, nat_le, slice_get, slice_set}
use Rattle.std.specs.List.{range_with_len}
use Rattle.std.proofs.lemmas.Bool.{and_parts, cases_eq, eq-eqb, ne_eqb, lt-ltb, ltb-true, le-leb}
use Rattle.std.proofs.lemmas.List.{reverse-append, take-append-drop, length-set, get_or-set_same, get_or-set_other}
use Rattle.std.proofs.lemmas.List.FromFn.{length-map-range_with_len, get_or-map-range_with_len, fill_by_all}
use Rattle.std.proofs.lemmas.Option.{slice_get-get_or}
use Rattle.cert_format.specs.declared.typing.VType.{VType}
use Rattle.cert_format.specs.declared.typing.VType.TheVariants as types
use Rattle.insn_codec.specs.declared.forms.StackForm.{StackForm}
use Rattle.insn_codec.specs.declared.forms.StackForm.TheVariants.{Pop, Pop2, Dup, DupX1, DupX2, Dup2, Dup2X1, Dup2X2, Swap}
use Rattle.insn_codec.specs.declared.shape.ValueKind.{ValueKind}
use Rattle.insn_codec.specs.declared.shape.ValueKind.TheVariants as kinds
use Rattle.insn_codec.specs.declared.shape.Shape.{Shape}
use Rattle.insn_codec.specs.declared.shape.Shape.TheVariants as shapes
use Rattle.insn_codec.specs.Effect.{effect}
use Rattle.insn_codec.specs.Forms.{depth_of}
use Rattle.insn_codec.specs.Shapes.{shape_of}
use Rattle.insn_codec.specs.Table.{is_heap}
use Rattle.bytecode_model.specs.declared.program.Method.{Method}
use Rattle.bytecode_model.specs.Makes.{type_at, stores, changed_by, yields_of, below}
use Rattle.frame_types.specs.Moving.{types_moved, padded, IsEffectTyped}
use Rattle.bytecode_model.specs.InsnPlace.{InsnPlace}
use Rattle.bytecode_model.specs.Rules.{taken, uses_local}
use Rattle.bytecode_model.specs.Wants.{Want, takes, takes_of, all_met, of_kind, is_number, is_made, is_reference, returns_well}
use Rattle.frame_types.proofs.Counting.{any_decides, map_same}

-- ---- locals

module _ (n : ℕ) (f : ℕ → VType) where
  padded_length : length (padded n f) ≡ n
  padded_length = length-map-range_with_len f 0 n

  at_place : (i : ℕ) (d : VType) → i < n → get_or (padded n f) i d ≡ f i
  at_place i d less = get_or-map-range_with_len f 0 n i i d less (omega arith)

  slot_there : (i : ℕ) → i < n → slice_get (padded n f) i ≡ Some (f i)
  slot_there i less = slice_get-get_or (padded n f) i (f i) (omega (arith, padded_length, less)) ∙ ap Some (at_place i (f i) less)

  set_there : (i : ℕ) (v : VType) → i < n → slice_set (padded n f) i v ≡ padded n (λ (j : ℕ). cond (j == i) v (f j))
  set_there i v less =
      fill_by_all (λ (j : ℕ). cond (j == i) v (f j)) (slice_set (padded n f) i v) n v (length-set (padded n f) i v ∙ padded_length)
      (λ k inside.
      elim (cases_eq k i) [
        | inl same ↦
            rw same (get_or-set_same (padded n f) i v v (omega (arith, padded_length, less)) ∙ ap (λ (b : Bool). cond b v (f i)) (sym (eq-eqb i i refl)))
        | inr other ↦
            get_or-set_other (padded n f) i k v v other ∙ at_place k v inside ∙ ap (λ (b : Bool). cond b v (f k)) (sym (ne_eqb k i other))
      ])

  set_same : (i : ℕ) (v : VType) → i < n → f i ≡ v → slice_set (padded n f) i v ≡ padded n f
  set_same i v less e =
      set_there i v less
      ∙ map_same (λ (j : ℕ). cond (j == i) v (f j)) f
      (λ j.
      elim (cases_eq j i) [
        | inl same ↦ rw same (ap (λ (b : Bool). cond b v (f i)) (eq-eqb i i refl) ∙ sym e)
        | inr other ↦ ap (λ (b : Bool). cond b v (f j)) (ne_eqb j i other)
      ])
      (range_with_len 0 n)

-- ---- operands

stays : (f : VType → VType) → ((t : VType) → f t ≡ t) → (b : List VType) → map f b ≡ b
stays f same [] = refl
stays f same (t ∷ b) = rw (same t, stays f same b) refl

-- a list that is what is wanted
none_met : (t : List VType) → all_met [] t ≡ true → t ≡ []
none_met [] e = refl
none_met (x ∷ t) e = absurd cc

next_met : (w : Want) (ws : List Want) (t : List VType) → all_met (w ∷ ws) t ≡ true
    → (x : VType) × (rest : List VType) × (t ≡ x ∷ rest) × (w x ≡ true) × (all_met ws rest ≡ true)
next_met w ws [] e = absurd cc
next_met w ws (x ∷ t) e =
    let h = and_parts (w x) (all_met ws t) e in
    (x, t, refl, h.0, h.1)

one_met : (w : Want) (t : List VType) → all_met (w ∷ []) t ≡ true → (x : VType) × (t ≡ x ∷ []) × (w x ≡ true)
one_met w t e =
    let h = next_met w [] t e in
    (h.0, h.2 ∙ ap (λ (r : List VType). h.0 ∷ r) (none_met h.1 h.4), h.3)

two_met : (w v : Want) (t : List VType) → all_met (w ∷ v ∷ []) t ≡ true → (x y : VType) × (t ≡ x ∷ y ∷ []) × (w x ≡ true) × (v y ≡ true)
two_met w v t e =
    let h = next_met w (v ∷ []) t e in
    let k = one_met v h.1 h.4 in
    (h.0, k.0, h.2 ∙ ap (λ (r : List VType). h.0 ∷ r) k.1, h.3, k.2)

number_is : (t : VType) → is_number t ≡ true → t ≡ types.Int
number_is types.Top e = absurd cc
number_is types.Int e = refl
number_is types.Null e = absurd cc
number_is (types.Ref name) e = absurd cc
number_is types.UninitThis e = absurd cc
number_is (types.Uninit at) e = absurd cc

made_is_reference : (t : VType) → is_made t ≡ true → is_reference t ≡ true
made_is_reference types.Top e = absurd cc
made_is_reference types.Int e = absurd cc
made_is_reference types.Null e = refl
made_is_reference (types.Ref name) e = refl
made_is_reference types.UninitThis e = absurd cc
made_is_reference (types.Uninit at) e = absurd cc

-- ---- shapes

module _ (place : InsnPlace) (n : ℕ) (locals b : List VType) where
  abbrev old : List VType
  old = padded n (type_at locals)

  abbrev local_told : Shape → List VType → ℕ → VType
  local_told shape t j = cond (stores shape j) (type_at t 0) (changed_by place t shape (type_at locals j))

  abbrev after : Shape → List VType → List VType → List VType × List VType
  after shape t stack = (padded n (local_told shape t), stack)

  abbrev Goal : Shape → List VType → Type 0
  Goal shape t =
      effect types_moved shape old (reverse t ++ reverse b)
      ≡ Some (after shape t (reverse (map (changed_by place t shape) b ++ yields_of place locals t shape)))

  out : (shape : Shape) (t : List VType) → ((x : VType) → changed_by place t shape x ≡ x)
      → ◌≡◌ {A = Option (List VType × List VType)} (Some (after shape t (reverse (yields_of place locals t shape) ++ reverse b)))
      (Some (after shape t (reverse (map (changed_by place t shape) b ++ yields_of place locals t shape))))
  out shape t same =
      let ys = yields_of place locals t shape in
      let stack : reverse (map (changed_by place t shape) b ++ ys) ≡ reverse ys ++ reverse b =
      ap (λ (s : List VType). reverse (s ++ ys)) (stays (changed_by place t shape) same b) ∙ reverse-append b ys in
      ap (λ (s : List VType). Some (after shape t s)) (sym stack)

  in_range : (slot : ℕ) → slot < n → nat_lt slot (length old) ≡ true
  in_range slot less = lt-ltb slot (length old) (omega (arith, padded_length n (type_at locals), less))

  load : (kind : ValueKind) (slot : ℕ) → slot < n → of_kind kind (type_at locals slot) ≡ true → Goal (shapes.Load kind slot) []
  load kind slot less fits = rw (slot_there n (type_at locals) slot less, fits) (out (shapes.Load kind slot) [] (λ x. refl))

  store : (kind : ValueKind) (slot : ℕ) (x : VType) → slot < n → of_kind kind x ≡ true → Goal (shapes.Store kind slot) (x ∷ [])
  store kind slot x less fits =
      let set = set_there n (type_at locals) slot x less in
      rw (fits, in_range slot less) (ap (λ (l : List VType). Some (l, reverse b)) set ∙ out (shapes.Store kind slot) (x ∷ []) (λ y. refl))

  increment : (slot : ℕ) (by : ℤ) → slot < n → of_kind kinds.Int (type_at locals slot) ≡ true → Goal (shapes.Increment slot by) []
  increment slot by less fits =
      let set = set_same n (type_at locals) slot types.Int less (number_is (type_at locals slot) fits) in
      rw (slot_there n (type_at locals) slot less, fits, in_range slot less) (ap (λ (l : List VType). Some (l, reverse b)) set ∙ out (shapes.Increment slot by) [] (λ y. refl))

  enough : (k : ℕ) (s : List VType) → k ≤ length s → nat_le k (length s) ≡ true
  enough k s less = le-leb k (length s) less

  form : (f : StackForm) (t : List VType) → length t ≡ depth_of f → Goal (shapes.Move f) t
  form Pop (x ∷ []) e = rw (enough 1 (x ∷ reverse b) (omega arith)) (out (shapes.Move Pop) (x ∷ []) (λ y. refl))
  form Pop [] e = absurd (omega arith)
  form Pop (x ∷ y ∷ t) e = absurd (omega arith)
  form Pop2 (x ∷ y ∷ []) e = rw (enough 2 (y ∷ x ∷ reverse b) (omega arith)) (out (shapes.Move Pop2) (x ∷ y ∷ []) (λ y. refl))
  form Pop2 [] e = absurd (omega arith)
  form Pop2 (x ∷ []) e = absurd (omega arith)
  form Pop2 (x ∷ y ∷ z ∷ t) e = absurd (omega arith)
  form Dup (x ∷ []) e = rw (enough 1 (x ∷ reverse b) (omega arith)) (out (shapes.Move Dup) (x ∷ []) (λ y. refl))
  form Dup [] e = absurd (omega arith)
  form Dup (x ∷ y ∷ t) e = absurd (omega arith)
  form DupX1 (x ∷ y ∷ []) e = rw (enough 2 (y ∷ x ∷ reverse b) (omega arith)) (out (shapes.Move DupX1) (x ∷ y ∷ []) (λ y. refl))
  form DupX1 [] e = absurd (omega arith)
  form DupX1 (x ∷ []) e = absurd (omega arith)
  form DupX1 (x ∷ y ∷ z ∷ t) e = absurd (omega arith)
  form DupX2 (x ∷ y ∷ z ∷ []) e = rw (enough 3 (z ∷ y ∷ x ∷ reverse b) (omega arith)) (out (shapes.Move DupX2) (x ∷ y ∷ z ∷ []) (λ y. refl))
  form DupX2 [] e = absurd (omega arith)
  form DupX2 (x ∷ []) e = absurd (omega arith)
  form DupX2 (x ∷ y ∷ []) e = absurd (omega arith)
  form DupX2 (x ∷ y ∷ z ∷ w ∷ t) e = absurd (omega arith)
  form Dup2 (x ∷ y ∷ []) e = rw (enough 2 (y ∷ x ∷ reverse b) (omega arith)) (out (shapes.Move Dup2) (x ∷ y ∷ []) (λ y. refl))
  form Dup2 [] e = absurd (omega arith)
  form Dup2 (x ∷ []) e = absurd (omega arith)
  form Dup2 (x ∷ y ∷ z ∷ t) e = absurd (omega arith)
  form Dup2X1 (x ∷ y ∷ z ∷ []) e = rw (enough 3 (z ∷ y ∷ x ∷ reverse b) (omega arith)) (out (shapes.Move Dup2X1) (x ∷ y ∷ z ∷ []) (λ y. refl))
  form Dup2X1 [] e = absurd (omega arith)
  form Dup2X1 (x ∷ []) e = absurd (omega arith)
  form Dup2X1 (x ∷ y ∷ []) e = absurd (omega arith)
  form Dup2X1 (x ∷ y ∷ z ∷ w ∷ t) e = absurd (omega arith)
  form Dup2X2 (x ∷ y ∷ z ∷ w ∷ []) e = rw (enough 4 (w ∷ z ∷ y ∷ x ∷ reverse b) (omega arith)) (out (shapes.Move Dup2X2) (x ∷ y ∷ z ∷ w ∷ []) (λ y. refl))
  form Dup2X2 [] e = absurd (omega arith)
  form Dup2X2 (x ∷ []) e = absurd (omega arith)
  form Dup2X2 (x ∷ y ∷ []) e = absurd (omega arith)
  form Dup2X2 (x ∷ y ∷ z ∷ []) e = absurd (omega arith)
  form Dup2X2 (x ∷ y ∷ z ∷ w ∷ v ∷ t) e = absurd (omega arith)
  form Swap (x ∷ y ∷ []) e = rw (enough 2 (y ∷ x ∷ reverse b) (omega arith)) (out (shapes.Move Swap) (x ∷ y ∷ []) (λ y. refl))
  form Swap [] e = absurd (omega arith)
  form Swap (x ∷ []) e = absurd (omega arith)
  form Swap (x ∷ y ∷ z ∷ t) e = absurd (omega arith)

  -- one operand, and two
  by_one : (w : Want) (shape : Shape) (t : List VType) → ((x : VType) → w x ≡ true → Goal shape (x ∷ [])) → all_met (w ∷ []) t ≡ true → Goal shape t
  by_one w shape t each met =
      let h = one_met w t met in
      subst (λ (s : List VType). Goal shape s) (sym h.1) (each h.0 h.2)

  by_two : (w v : Want) (shape : Shape) (t : List VType) → ((x y : VType) → w x ≡ true → v y ≡ true → Goal shape (x ∷ y ∷ [])) → all_met (w ∷ v ∷ []) t ≡ true → Goal shape t
  by_two w v shape t each met =
      let h = two_met w v t met in
      subst (λ (s : List VType). Goal shape s) (sym h.2) (each h.0 h.1 h.3 h.4)

  by_none : (shape : Shape) (t : List VType) → Goal shape [] → all_met [] t ≡ true → Goal shape t
  by_none shape t none met = subst (λ (s : List VType). Goal shape s) (sym (none_met t met)) none

  moves : (m : Method) (shape : Shape) (t : List VType) → m.max_locals ≡ n → is_heap shape ≡ false → all_met (takes_of place shape) t ≡ true → uses_local m locals shape ≡ true → Goal shape t
  moves m shapes.Nothing t size plain met uses = by_none shapes.Nothing t (out shapes.Nothing [] (λ x. refl)) met
  moves m (shapes.Push k) t size plain met uses = by_none (shapes.Push k) t (out (shapes.Push k) [] (λ x. refl)) met
  moves m shapes.PushNull t size plain met uses = by_none shapes.PushNull t (out shapes.PushNull [] (λ x. refl)) met
  moves m (shapes.Load kind slot) t size plain met uses =
      let u = and_parts (nat_lt slot m.max_locals) (of_kind kind (type_at locals slot)) uses in
      by_none (shapes.Load kind slot) t (load kind slot (omega (arith, ltb-true slot m.max_locals u.0, size)) u.1) met
  moves m (shapes.Store kind slot) t size plain met uses =
      by_one (of_kind kind) (shapes.Store kind slot) t (λ x fits. store kind slot x (omega (arith, ltb-true slot m.max_locals uses, size)) fits) met
  moves m (shapes.Move f) t size plain met uses = form f t ((any_decides (depth_of f) t).0 met)
  moves m (shapes.Two op) t size plain met uses = by_two is_number is_number (shapes.Two op) t (λ x y e f. rw (f, e) (out (shapes.Two op) (x ∷ y ∷ []) (λ z. refl))) met
  moves m (shapes.One op) t size plain met uses = by_one is_number (shapes.One op) t (λ x e. rw e (out (shapes.One op) (x ∷ []) (λ z. refl))) met
  moves m (shapes.Increment slot by) t size plain met uses =
      let u = and_parts (nat_lt slot m.max_locals) (of_kind kinds.Int (type_at locals slot)) uses in
      by_none (shapes.Increment slot by) t (increment slot by (omega (arith, ltb-true slot m.max_locals u.0, size)) u.1) met
  moves m (shapes.Test relation to) t size plain met uses = by_one is_number (shapes.Test relation to) t (λ x e. rw e (out (shapes.Test relation to) (x ∷ []) (λ z. refl))) met
  moves m (shapes.Compare relation to) t size plain met uses =
      by_two is_number is_number (shapes.Compare relation to) t (λ x y e f. rw (f, e) (out (shapes.Compare relation to) (x ∷ y ∷ []) (λ z. refl))) met
  moves m (shapes.CompareReferences same to) t size plain met uses =
      by_two is_made is_made (shapes.CompareReferences same to) t
      (λ x y e f. rw (made_is_reference y f, f, made_is_reference x e, e) (out (shapes.CompareReferences same to) (x ∷ y ∷ []) (λ z. refl))) met
  moves m (shapes.TestNull null to) t size plain met uses =
      by_one is_made (shapes.TestNull null to) t (λ x e. rw (made_is_reference x e, e) (out (shapes.TestNull null to) (x ∷ []) (λ z. refl))) met
  moves m (shapes.Goto to) t size plain met uses = by_none (shapes.Goto to) t (out (shapes.Goto to) [] (λ x. refl)) met
  moves m shapes.Switch t size plain met uses = by_one is_number shapes.Switch t (λ x e. rw e (out shapes.Switch (x ∷ []) (λ z. refl))) met
  moves m (shapes.Heap what) t size plain met uses = absurd cc

-- ---- an instruction

pub effect_typed : IsEffectTyped
effect_typed place frame plain depth operand local =
    let n = length (takes place) in
    let shape = shape_of place.insn in
    let t = taken place frame in
    let b = below n frame.stack in
    let stack : reverse frame.stack ≡ reverse t ++ reverse b = ap reverse (sym (take-append-drop (length frame.stack - n) frame.stack)) ∙ reverse-append b t in
    let met = (and_parts (all_met (takes place) t) (returns_well place shape) operand).0 in
    let uses = (and_parts (nat_le (length frame.locals) place.method.max_locals) (uses_local place.method frame.locals shape) local).1 in
    ap (effect types_moved shape (padded place.method.max_locals (type_at frame.locals))) stack
    ∙ moves place place.method.max_locals frame.locals b place.method shape t refl plain met uses
