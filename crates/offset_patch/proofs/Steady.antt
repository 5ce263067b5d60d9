-- An entry that was added stays where it is: what is added later stands after it.
use Rattle.std.proofs.Common.{◌≡◌, cond, ℕ, ◌+◌, Bool, true, false, List, [], ◌∷◌, ◌++◌, length, Option, Some, None, refl, sym, ap, subst, ◌∙◌, append_assoc, append-nil, zero-add, arith}
use Rattle.std.specs.Prelude.{codes}
use Rattle.std.specs.List.{position_from}
use Rattle.class_codec.specs.declared.tree.Const.{Const}
use Rattle.class_codec.specs.declared.tree.Const.TheVariants as constants
use Rattle.offset_patch.specs.declared.block.PoolWant.{PoolWant}
use Rattle.offset_patch.specs.declared.block.PoolWant.TheVariants as wants
use Rattle.offset_patch.specs.declared.constants.Added.{Added}
use Rattle.offset_patch.specs.declared.constants.Added.TheVariants.{Text, Class, NameAndType, Field, Method, Integer}
use Rattle.offset_patch.specs.Added.{const_of}
use Rattle.offset_patch.specs.Entries.{same, Placed, placed, place_of, entry, text, class, name_and_type, state_name, variable_name, variable_type, wanted}
use Rattle.offset_patch.proofs.Same.{same_self}

-- the first that passes stays the first
pub place_stays : {X : Type 0} (p : X → Bool) (at : ℕ) (xs ys : List X) (i : ℕ) → position_from p at xs ≡ Some i → position_from p at (xs ++ ys) ≡ Some i
place_stays p at [] ys i e = absurd cc
place_stays p at (x ∷ xs) ys i e = by (p x) (place_stays p (at + 1) xs ys i) e
  where
    by : (b : Bool) → (position_from p (at + 1) xs ≡ Some i → position_from p (at + 1) (xs ++ ys) ≡ Some i)
        → cond b (Some at) (position_from p (at + 1) xs) ≡ Some i → cond b (Some at) (position_from p (at + 1) (xs ++ ys)) ≡ Some i
    by true others f = f
    by false others f = others f

-- what none passed, one more does
pub place_new : {X : Type 0} (p : X → Bool) (at : ℕ) (xs : List X) (x : X) → p x ≡ true → position_from p at xs ≡ None → position_from p at (xs ++ x ∷ []) ≡ Some (at + length xs)
place_new p at [] x passes e =
    let n : at ≡ at + 0 = omega arith in
    rw passes (ap Some n)
place_new p at (y ∷ ys) x passes e = by (p y) (place_new p (at + 1) ys x passes) e
  where
    by : (b : Bool) → (position_from p (at + 1) ys ≡ None → position_from p (at + 1) (ys ++ x ∷ []) ≡ Some (at + 1 + length ys))
        → cond b (Some at) (position_from p (at + 1) ys) ≡ None → cond b (Some at) (position_from p (at + 1) (ys ++ x ∷ [])) ≡ Some (at + length (y ∷ ys))
    by true others f = absurd cc
    by false others f =
        let n : at + 1 + length ys ≡ at + length (y ∷ ys) = omega arith in
        others f ∙ ap Some n

-- What a step adds is after, and once it is there, the step finds it again.
pub record IsSteady (f : List Const → Placed) : Type 0 where
  pub grows : (p : List Const) → (xs : List Const) × ((f p).0 ≡ p ++ xs)
  pub settles : (p : List Const) → f (f p).0 ≡ f p
  pub stays : (p xs : List Const) (i : ℕ) → f p ≡ (p, i) → f (p ++ xs) ≡ (p ++ xs, i)

-- the entry that names what two steps leave, one after the other
abbrev pub pair : (ℕ → ℕ → Const) → (List Const → Placed) → (List Const → Placed) → List Const → Placed
pair make f g p = entry (make (f p).1 (g (f p).0).1) (g (f p).0).0

-- ---- one constant

entry_at : (c : Const) (p : List Const) (i : ℕ) → place_of c p ≡ Some i → entry c p ≡ (p, i)
entry_at c p i e = ap (placed p c) e

entry_new : (c : Const) (p : List Const) → place_of c p ≡ None → entry c p ≡ (p ++ c ∷ [], length p)
entry_new c p e = ap (placed p c) e

longer : (p : List Const) (c : Const) → p ++ c ∷ [] ≡ p → ⊥
longer [] c e = absurd cc
longer (x ∷ p) c e = longer p c cc

module _ (c : Const) (self : same c c ≡ true) where
  grows_one : (p : List Const) → (xs : List Const) × ((entry c p).0 ≡ p ++ xs)
  grows_one p = by (place_of c p)
    where
      by : (o : Option ℕ) → (xs : List Const) × ((placed p c o).0 ≡ p ++ xs)
      by None = (c ∷ [], refl)
      by (Some i) = ([], sym (append-nil p))

  settles_one : (p : List Const) → entry c (entry c p).0 ≡ entry c p
  settles_one p = by (place_of c p) refl
    where
      by : (o : Option ℕ) → place_of c p ≡ o → entry c (entry c p).0 ≡ entry c p
      by None e =
          let new = entry_new c p e in
          let there : entry c (p ++ c ∷ []) ≡ (p ++ c ∷ [], length p) = entry_at c (p ++ c ∷ []) (length p) (place_new (same c) 0 p c self e ∙ ap Some (zero-add (length p))) in
          subst (λ (z : Placed). entry c z.0 ≡ z) (sym new) there
      by (Some i) e =
          let old = entry_at c p i e in
          subst (λ (z : Placed). entry c z.0 ≡ z) (sym old) old

  stays_one : (p xs : List Const) (i : ℕ) → entry c p ≡ (p, i) → entry c (p ++ xs) ≡ (p ++ xs, i)
  stays_one p xs i e = by (place_of c p) refl
    where
      by : (o : Option ℕ) → place_of c p ≡ o → entry c (p ++ xs) ≡ (p ++ xs, i)
      by None n =
          let same_pool : p ++ c ∷ [] ≡ p = ap (λ (z : Placed). z.0) (sym (entry_new c p n) ∙ e) in
          absurd (longer p c same_pool)
      by (Some j) n =
          let same_place : j ≡ i = ap (λ (z : Placed). z.1) (sym (entry_at c p j n) ∙ e) in
          entry_at c (p ++ xs) i (place_stays (same c) 0 p xs i (n ∙ ap Some same_place))

  pub steady_entry : IsSteady (entry c)
  steady_entry = record { grows = grows_one; settles = settles_one; stays = stays_one }

-- ---- one step and then another, which depends on where the first found its constant

module _ (f : List Const → Placed) (g : ℕ → List Const → Placed) (first : IsSteady f) (second : (j : ℕ) → IsSteady (g j)) where
  abbrev then : List Const → Placed
  then p = g (f p).1 (f p).0

  grows_both : (p : List Const) → (xs : List Const) × ((then p).0 ≡ p ++ xs)
  grows_both p =
      let a = first.grows p in
      let b = (second (f p).1).grows (f p).0 in
      (a.0 ++ b.0, b.1 ∙ ap (λ (z : List Const). z ++ b.0) a.1 ∙ append_assoc p a.0 b.0)

  again : (p : List Const) → f (then p).0 ≡ ((then p).0, (f p).1)
  again p =
      let b = (second (f p).1).grows (f p).0 in
      let kept : f ((f p).0 ++ b.0) ≡ ((f p).0 ++ b.0, (f p).1) = first.stays (f p).0 b.0 (f p).1 (first.settles p) in
      subst (λ (z : List Const). f z ≡ (z, (f p).1)) (sym b.1) kept

  settles_both : (p : List Const) → then (then p).0 ≡ then p
  settles_both p = ap (λ (z : Placed). g z.1 z.0) (again p) ∙ (second (f p).1).settles (f p).0

  nothing_new : (p xs ys : List Const) → p ≡ (p ++ xs) ++ ys → p ++ xs ≡ p
  nothing_new [] [] ys e = refl
  nothing_new [] (x ∷ xs) ys e = absurd cc
  nothing_new (x ∷ p) xs ys e = ap (λ (z : List Const). x ∷ z) (nothing_new p xs ys cc)

  stays_both : (p xs : List Const) (i : ℕ) → then p ≡ (p, i) → then (p ++ xs) ≡ (p ++ xs, i)
  stays_both p xs i e =
      let a = first.grows p in
      let b = (second (f p).1).grows (f p).0 in
      let all : p ≡ (p ++ a.0) ++ b.0 = sym (ap (λ (z : Placed). z.0) e) ∙ b.1 ∙ ap (λ (z : List Const). z ++ b.0) a.1 in
      let same_pool : (f p).0 ≡ p = a.1 ∙ nothing_new p a.0 b.0 all in
      let one : f p ≡ (p, (f p).1) = ap (λ (z : List Const). (z, (f p).1)) same_pool in
      let kept : f (p ++ xs) ≡ (p ++ xs, (f p).1) = first.stays p xs (f p).1 one in
      let two : g (f p).1 p ≡ (p, i) = sym (ap (g (f p).1) same_pool) ∙ e in
      ap (λ (z : Placed). g z.1 z.0) kept ∙ (second (f p).1).stays p xs i two

  pub steady_then : IsSteady then
  steady_then = record { grows = grows_both; settles = settles_both; stays = stays_both }

-- ---- what blocks want

steady_added : (a : Added) → IsSteady (entry (const_of a))
steady_added a = steady_entry (const_of a) (same_self a)

pub steady_text : (bytes : List ℕ) → IsSteady (text bytes)
steady_text bytes = steady_added (Text bytes)

pub steady_class_at : (j : ℕ) → IsSteady (entry (constants.Class j))
steady_class_at j = steady_added (Class j)

pub steady_class : (name : List ℕ) → IsSteady (class name)
steady_class name = steady_then (text name) (λ j. entry (constants.Class j)) (steady_text name) steady_class_at

pub steady_name_and_type_at : (i j : ℕ) → IsSteady (entry (constants.NameAndType i j))
steady_name_and_type_at i j = steady_added (NameAndType i j)

pub steady_field_at : (i j : ℕ) → IsSteady (entry (constants.Field i j))
steady_field_at i j = steady_added (Field i j)

pub steady_method_at : (i j : ℕ) → IsSteady (entry (constants.Method i j))
steady_method_at i j = steady_added (Method i j)

steady_pair : (make : ℕ → ℕ → Const) → ((i j : ℕ) → IsSteady (entry (make i j))) → (f g : List Const → Placed) → IsSteady f → IsSteady g → IsSteady (pair make f g)
steady_pair make at f g first second = steady_then f (λ i p. entry (make i (g p).1) (g p).0) first (λ i. steady_then g (λ j. entry (make i j)) second (at i))

pub steady_name_and_type : (name desc : List ℕ) → IsSteady (name_and_type name desc)
steady_name_and_type name desc = steady_pair constants.NameAndType steady_name_and_type_at (text name) (text desc) (steady_text name) (steady_text desc)

steady_member : (make : ℕ → ℕ → Const) → ((i j : ℕ) → IsSteady (entry (make i j))) → (owner name desc : List ℕ) → IsSteady (pair make (class owner) (name_and_type name desc))
steady_member make at owner name desc = steady_pair make at (class owner) (name_and_type name desc) (steady_class owner) (steady_name_and_type name desc)

pub steady_wanted : (want : PoolWant) → IsSteady (wanted want)
steady_wanted wants.StateClass = steady_class (codes "conspec/State")
steady_wanted (wants.StateField var is_bool) = steady_member constants.Field steady_field_at state_name (variable_name var) (variable_type is_bool)
steady_wanted (wants.Integer n) = steady_added (Integer n)
steady_wanted wants.Exit = steady_member constants.Method steady_method_at (codes "java/lang/System") (codes "exit") (codes "(I)V")
