-- Objects of classes that are not the lock: that of a class of another name, and that of a class which has a method.
use Rattle.std.proofs.Common.{◌≡◌, ℕ, zero, suc, ◌+◌, ◌-◌, ◌≤◌, ◌<◌, Bool, true, false, cond, List, [], ◌∷◌, ◌++◌, length, map, Option, Some, None, refl, sym, ap, subst, ◌∙◌, arith}
use Rattle.std.specs.Prelude.{◌==◌, bytes_eq, slice_get, option_map}
use Rattle.std.specs.List.{position_from}
use Rattle.std.specs.Option.{option_map_or, option_or}
use Rattle.std.proofs.lemmas.Bool.{and_parts, ne_eqb}
use Rattle.std.proofs.lemmas.Option.{none-some, slice_get-map, slice_get_within}
use Rattle.std.proofs.lemmas.Slice.Eq.{bytes_eq-Decides}
use Rattle.api_listing.specs.declared.types.ListedClass.{ListedClass}
use Rattle.block_logic.specs.Annotations.{Annotations}
use Rattle.conspec_tree.specs.declared.types.Var.{Var}
use Rattle.bytecode_model.specs.declared.program.LinkedClass.{LinkedClass}
use Rattle.bytecode_model.specs.declared.program.Method.{Method}
use Rattle.bytecode_model.specs.declared.program.Program.{Program}
use Rattle.bytecode_model.specs.Classes.{classes_of}
use Rattle.bytecode_model.specs.Heads.{head_of}
use Rattle.bytecode_model.specs.SearchOrder.{Name}
use Rattle.bytecode_model.specs.Sound.{IsSoundClass}
use Rattle.conspec_automaton.specs.declared.policy.Policy.{Policy}
use Rattle.guest_heap.specs.declared.value.Value.TheVariants as values
use Rattle.guest_model.specs.Places.{class_index, method_at}
use Rattle.guest_model.proofs.Options.{IfThere, all_get, and_then_of, if_mapped, some_is}
use Rattle.block_logic.specs.Meaning.{IsClean}
use Rattle.block_logic.specs.Obeying.{IsObeying}
use Rattle.block_logic.specs.Operands.{state_name}
use Rattle.block_logic.specs.State.{class_fault, has_no_more, has_none, state_at, wrong_field}

-- ---- the first place that passes

-- what stands at this place of a list that begins at place `from`
pub record StandsAt {X : Type 0} (test : X → Bool) (from : ℕ) (xs : List X) (at : ℕ) : Type 0 where
  pub item : X
  pub following : from ≤ at
  pub there : slice_get xs (at - from) ≡ Some item
  pub passes : test item ≡ true

one_stands : {X : Type 0} (test : X → Bool) (from : ℕ) (x : X) (xs : List X) (at : ℕ)
    → (position_from test (from + 1) xs ≡ Some at → StandsAt test (from + 1) xs at) → position_from test from (x ∷ xs) ≡ Some at
    → StandsAt test from (x ∷ xs) at
one_stands test from x xs at later h = by (test x) refl h where
  by : (b : Bool) → test x ≡ b → cond b (Some from) (position_from test (from + 1) xs) ≡ Some at → StandsAt test from (x ∷ xs) at
  by true is h =
      let same : from ≡ at = some_is from at h in
      let first : at - from ≡ 0 = omega (arith, same) in
      record { item = x; following = omega (arith, same); there = rw first refl; passes = is }
  by false is h =
      let s = later h in
      let next : at - from ≡ suc (at - (from + 1)) = omega (arith, s.following) in
      record { item = s.item; following = omega (arith, s.following); there = rw next s.there; passes = s.passes }

pub stands : {X : Type 0} (test : X → Bool) (from : ℕ) (xs : List X) (at : ℕ) → position_from test from xs ≡ Some at → StandsAt test from xs at
stands test from [] at h = absurd cc
stands test from (x ∷ xs) at h = one_stands test from x xs at (stands test (from + 1) xs at) h

-- the first that passes stands no later than any that does
one_first : {X : Type 0} (test : X → Bool) (from : ℕ) (x : X) (xs : List X) (at i : ℕ) (y : X) → position_from test from (x ∷ xs) ≡ Some at
    → test y ≡ true → (position_from test (from + 1) xs ≡ Some at → at ≤ from + 1 + i) → at ≤ from + suc i
one_first test from x xs at i y h passes later = by (test x) h where
  by : (b : Bool) → cond b (Some from) (position_from test (from + 1) xs) ≡ Some at → at ≤ from + suc i
  by true h = omega (arith, some_is from at h)
  by false h = omega (arith, later h)

front_first : {X : Type 0} (test : X → Bool) (from : ℕ) (x : X) (xs : List X) (at : ℕ) → position_from test from (x ∷ xs) ≡ Some at
    → test x ≡ true → at ≤ from
front_first test from x xs at h passes = by (test x) passes h where
  by : (b : Bool) → b ≡ true → cond b (Some from) (position_from test (from + 1) xs) ≡ Some at → at ≤ from
  by true is h = omega (arith, some_is from at h)
  by false is h = absurd cc

pub comes_first : {X : Type 0} (test : X → Bool) (from : ℕ) (xs : List X) (at i : ℕ) (y : X) → position_from test from xs ≡ Some at
    → slice_get xs i ≡ Some y → test y ≡ true → at ≤ from + i
comes_first test from [] at i y h there passes = absurd cc
comes_first test from (x ∷ xs) at zero y h there passes =
    let same : x ≡ y = some_is x y there in
    omega (arith, front_first test from x xs at h (ap test same ∙ passes))
comes_first test from (x ∷ xs) at (suc i) y h there passes =
    one_first test from x xs at i y h passes (λ later. comes_first test (from + 1) xs at i y later there passes)

pub get_after : {A : Type 0} (xs ys : List A) (i : ℕ) → slice_get (xs ++ ys) (length xs + i) ≡ slice_get ys i
get_after [] ys i = let same : 0 + i ≡ i = omega arith in rw same refl
get_after (x ∷ xs) ys i = let same : suc (length xs) + i ≡ suc (length xs + i) = omega arith in rw same (get_after xs ys i)

same_name : (a b : Name) → bytes_eq a b ≡ true → a ≡ b
same_name a b e = (bytes_eq-Decides a b).0 e

module _ (program : Program) where
  -- ---- names

  record IsNamed (name : Name) (index : ℕ) : Type 0 where
    pub class : ListedClass
    pub there : slice_get (classes_of program) index ≡ Some class
    pub named : class.name ≡ name

  named_at : (name : Name) (index : ℕ) → class_index program name ≡ Some index → IsNamed name index
  named_at name index e =
      let s = stands (λ (c : ListedClass). bytes_eq c.name name) 0 (classes_of program) index e in
      let from : index - 0 ≡ index = omega arith in
      record {
        class = s.item;
        there = subst (λ (i : ℕ). slice_get (classes_of program) i ≡ Some s.item) from s.there;
        named = same_name s.item.name name s.passes;
      }

  -- An object of a class is not the lock, if the class is one, and not that of the lock.
  apart_clean : (index : ℕ) → index < length (classes_of program) → (class_index program state_name ≡ Some index → ⊥) → IsClean program (values.Class index)
  apart_clean index within differs = by (class_index program state_name) differs where
    by : (o : Option ℕ) → (o ≡ Some index → ⊥) → (index == option_map_or (λ (at : ℕ). at) o (length (classes_of program))) ≡ false
    by None differs = ne_eqb index (length (classes_of program)) (λ e. omega (arith, within, e))
    by (Some at) differs = ne_eqb index at (λ e. differs (ap Some (sym e)))

  -- that of a class of another name
  pub named_clean : (name : Name) → (name ≡ state_name → ⊥) → IfThere (IsClean program) (option_map values.Class (class_index program name))
  named_clean name other =
      if_mapped (IsClean program) values.Class (class_index program name)
      (λ index e. let n = named_at name index e in
      apart_clean index (slice_get_within (classes_of program) index n.class n.there)
      (λ f. let m = named_at state_name index f in
      let same : n.class ≡ m.class = some_is n.class m.class (sym n.there ∙ m.there) in
      other (sym n.named ∙ ap (λ (c : ListedClass). c.name) same ∙ m.named)))

  -- ---- given classes

  given_at : (class : ℕ) (c : LinkedClass) → slice_get program.classes class ≡ Some c
      → slice_get (classes_of program) (length program.listing.classes + class) ≡ Some (head_of c.file)
  given_at class c there =
      get_after program.listing.classes (map (λ (x : LinkedClass). head_of x.file) program.classes) class
      ∙ slice_get-map (λ (x : LinkedClass). head_of x.file) program.classes class ∙ ap (option_map (λ (x : LinkedClass). head_of x.file)) there

  module _ (policy : Policy) (annotations : Annotations) (o : IsObeying program policy annotations) where
    none_there : {A : Type 0} (xs : List A) → has_none xs ≡ true → xs ≡ []
    none_there [] e = refl
    none_there (x ∷ xs) e = absurd cc

    -- the class of the policy's variables has no methods
    no_methods : (vars : List Var) (c : LinkedClass) → class_fault vars c ≡ None → c.methods ≡ []
    no_methods vars c e = by (wrong_field c.file.pool 0 vars c.file.fields) e where
      more : (b : Bool) → cond b None (Some (length vars)) ≡ None → b ≡ true
      more true e = refl
      more false e = absurd cc

      by : (wrong : Option ℕ) → option_or wrong (cond (has_no_more vars c) None (Some (length vars))) ≡ None → c.methods ≡ []
      by (Some at) e = absurd cc
      by None e =
          let flags = and_parts (c.file.flags == 0x0021) _ (more (has_no_more vars c) e) in
          let a = and_parts (bytes_eq c.parent _) _ flags.1 in
          let b = and_parts (has_none c.file.interfaces) _ a.1 in
          none_there c.methods (and_parts (has_none c.methods) _ b.1).0

    module _ (class : ℕ) (c : LinkedClass) (there : slice_get program.classes class ≡ Some c)
        (e : class_index program state_name ≡ Some (length program.listing.classes + class)) where
      head_named : (at : ℕ) (d : LinkedClass) → slice_get program.classes at ≡ Some d → (head_of d.file).name ≡ d.name
      head_named at d is = let sound = all_get IsSoundClass program.classes at d o.sound.classes is in sym sound.name

      named_state : c.name ≡ state_name
      named_state =
          let n = named_at state_name (length program.listing.classes + class) e in
          let same : n.class ≡ head_of c.file = some_is n.class (head_of c.file) (sym n.there ∙ given_at class c there) in
          sym (head_named class c there) ∙ ap (λ (x : ListedClass). x.name) (sym same) ∙ n.named

      passes : bytes_eq c.name state_name ≡ true
      passes = (bytes_eq-Decides c.name state_name).1 named_state

      -- it is the first of its name
      first_at : (at : ℕ) → state_at program.classes ≡ Some at → at ≡ class
      first_at at f =
          let s = stands (λ (x : LinkedClass). bytes_eq x.name state_name) 0 program.classes at f in
          let from : at - 0 ≡ at = omega arith in
          let is : slice_get program.classes at ≡ Some s.item = subst (λ (i : ℕ). slice_get program.classes i ≡ Some s.item) from s.there in
          let head : bytes_eq (head_of s.item.file).name state_name ≡ true = ap (λ (name : Name). bytes_eq name state_name) (head_named at s.item is) ∙ s.passes in
          let later = comes_first (λ (x : ListedClass). bytes_eq x.name state_name) 0 (classes_of program) (length program.listing.classes + class)
          (length program.listing.classes + at) (head_of s.item.file) e (given_at at s.item is) head in
          let before = comes_first (λ (x : LinkedClass). bytes_eq x.name state_name) 0 program.classes at class c f there passes in
          omega (arith, later, before)

      lacks_methods : c.methods ≡ []
      lacks_methods = by (state_at program.classes) refl o.accepted.state where
        by : (at : Option ℕ) → state_at program.classes ≡ at
            → option_map_or (λ (i : ℕ). option_map_or (class_fault policy.vars) (slice_get program.classes i) (Some (length policy.vars))) at (Some (length policy.vars)) ≡ None
            → c.methods ≡ []
        by None f fault = absurd cc
        by (Some at) f fault =
            let here : slice_get program.classes at ≡ Some c = ap (slice_get program.classes) (first_at at f) ∙ there in
            no_methods policy.vars c
            (subst (λ (d : Option LinkedClass). option_map_or (class_fault policy.vars) d (Some (length policy.vars)) ≡ None) here fault)

    -- that of a class that has a method
    pub class_clean : (class method : ℕ) (of : Method) → method_at program class method ≡ Some of
        → IsClean program (values.Class (length program.listing.classes + class))
    class_clean class method of e =
        let a = and_then_of (λ (c : LinkedClass). slice_get c.methods method) (slice_get program.classes class) of e in
        let within = slice_get_within (classes_of program) (length program.listing.classes + class) (head_of a.0.file) (given_at class a.0 a.1) in
        apart_clean (length program.listing.classes + class) within
        (λ f. let none = lacks_methods class a.0 a.1 f in
        let lacks : slice_get a.0.methods method ≡ None = ap (λ (methods : List Method). slice_get methods method) none in
        none-some of (sym lacks ∙ a.2))
