-- Which given method a call on an object runs: one with code, of the class of the object or of one above it.
use Rattle.std.proofs.Common.{◌≡◌, ℕ, zero, suc, ◌+◌, ◌<◌, ◌≤◌, Bool, true, false, cond, List, [], ◌∷◌, ◌⊎◌, length, map, Option, Some, None, refl, sym, ap, subst, ◌∙◌, inl, inr, arith}
use Rattle.std.specs.Prelude.{bytes_eq, nat_lt, not, slice_get, option_map, option_and_then, ◌&&◌, ◌||◌}
use Rattle.std.specs.List.{filter_map, position_from}
use Rattle.std.specs.Option.{option_map_or, option_or}
use Rattle.std.proofs.lemmas.Bool.{and_parts, cases_Bool, ltb-true, not-true, or_left, or_right}
use Rattle.std.proofs.lemmas.List.{length-append, length-map}
use Rattle.std.proofs.lemmas.Option.{cond_some}
use Rattle.api_listing.specs.declared.types.ListedClass.{ListedClass}
use Rattle.api_listing.specs.BuiltIn.{built_in_classes, class_rows}
use Rattle.api_listing.specs.Listing.{class_declared}
use Rattle.cert_format.specs.declared.typing.Typing.{Typing}
use Rattle.cert_format.specs.declared.typing.VType.TheVariants as types
use Rattle.bytecode_model.specs.declared.program.LinkedClass.{LinkedClass}
use Rattle.bytecode_model.specs.declared.program.Method.{Method}
use Rattle.bytecode_model.specs.declared.program.Program.{Program}
use Rattle.bytecode_model.specs.Assigning.{assignable}
use Rattle.bytecode_model.specs.Classes.{classes_of}
use Rattle.bytecode_model.specs.Heads.{head_of, is_static, maker}
use Rattle.bytecode_model.specs.SearchOrder.{Name}
use Rattle.bytecode_model.proofs.Lists.{some_is}
use Rattle.bytecode_model.proofs.Upwards.{is_up, one_named, of_same, same_of, up_from}
use Rattle.guest_model.specs.Places.{method_at}
use Rattle.guest_model.proofs.Options.{and_then_of, map_of}
use Rattle.guest_model.specs.Finding.{Given, declared_in, declared_up, given_index, if_run, is_above, is_run_by_objects, method_itself, method_of_class, nearest_given}
use Rattle.typed_runs.specs.Programs.{IsTypedProgram}
use Rattle.typed_runs.proofs.Above.{below_fits}
use Rattle.typed_runs.proofs.Listed.{count, given_head, given_name, given_parent, up_below}

-- ---- what is found

-- an item of the list at the place, of which the test holds
pub record FoundAt {A : Type 0} (p : A → Bool) (xs : List A) (from i : ℕ) : Type 0 where
  pub at : ℕ
  pub place : i ≡ from + at
  pub item : A
  pub there : slice_get xs at ≡ Some item
  pub passes : p item ≡ true

pub position_found : {A : Type 0} (p : A → Bool) (from : ℕ) (xs : List A) (i : ℕ) → position_from p from xs ≡ Some i → FoundAt p xs from i
position_found p from [] i e = absurd cc
position_found p from (x ∷ xs) i e =
    elim (cases_Bool (p x)) [
      | inl is ↦
          let h : ◌≡◌ {A = Option ℕ} (Some from) (Some i) = rw is at e in
          let same : from ≡ i = some_is from i h in
          record { at = 0; place = omega (arith, same); item = x; there = refl; passes = is }
      | inr fails ↦
          let h : position_from p (from + 1) xs ≡ Some i = rw fails at e in
          let f = position_found p (from + 1) xs i h in
          record { at = suc f.at; place = omega (arith, f.place); item = f.item; there = f.there; passes = f.passes }
    ]

-- one of the two
either_or : {A : Type 0} (o q : Option A) (x : A) → option_or o q ≡ Some x → (o ≡ Some x) ⊎ (q ≡ Some x)
either_or None q x e = inr e
either_or (Some y) q x e = inl e

built_in_many : length built_in_classes ≡ 20
unfolding class_rows
built_in_many = refl

module _ (program : Program) (typing : Typing) (ok : IsTypedProgram program typing) where
  abbrev classes : List ListedClass
  classes = classes_of program

  -- ---- the nearest that a given class declares

  -- a method of the name and the descriptor, of a given class above this one by at most n classes
  pub record Nearest (n : ℕ) (name desc class : Name) (to : Given) : Type 0 where
    pub owner : LinkedClass
    pub method : Method
    pub there : slice_get program.classes to.0 ≡ Some owner
    pub here : slice_get owner.methods to.1 ≡ Some method
    pub named : method.name ≡ name
    pub described : method.desc ≡ desc
    pub above : is_up classes n class owner.name ≡ true

  -- the given class of the index has the name
  class_at_index : (name : Name) (index : ℕ) → given_index program name ≡ Some index
      → (c : LinkedClass) × (slice_get program.classes index ≡ Some c) × (c.name ≡ name)
  class_at_index name index e =
      let f = position_found (λ (c : LinkedClass). bytes_eq c.name name) 0 program.classes index e in
      let same : f.at ≡ index = omega (arith, f.place) in
      (f.item, ap (slice_get program.classes) (sym same) ∙ f.there, same_of f.item.name name f.passes)

  method_at_index : (name desc : Name) (class : LinkedClass) (index : ℕ) → declared_in name desc class ≡ Some index
      → (m : Method) × (slice_get class.methods index ≡ Some m) × (m.name ≡ name) × (m.desc ≡ desc)
  method_at_index name desc class index e =
      let f = position_found (λ (m : Method). bytes_eq m.name name && bytes_eq m.desc desc) 0 class.methods index e in
      let same : f.at ≡ index = omega (arith, f.place) in
      let a = and_parts (bytes_eq f.item.name name) (bytes_eq f.item.desc desc) f.passes in
      (f.item, ap (slice_get class.methods) (sym same) ∙ f.there, same_of f.item.name name a.0, same_of f.item.desc desc a.1)

  -- one class more
  up_once : (own : ℕ) (class : LinkedClass) (n : ℕ) (above : Name) → slice_get program.classes own ≡ Some class
      → (bytes_eq class.name above || is_up classes n class.parent above) ≡ true → is_up classes (suc n) class.name above ≡ true
  up_once own class n above there e =
      let head : one_named above (up_from classes (Some (head_of class.file)) n) ≡ true =
      subst (λ (name : Name). (bytes_eq name above || is_up classes n (head_of class.file).parent above) ≡ true) (sym (given_name program typing ok own class there))
      (subst (λ (parent : Name). (bytes_eq class.name above || is_up classes n parent above) ≡ true) (sym (given_parent program typing ok own class there)) e) in
      subst (λ (o : Option ListedClass). one_named above (up_from classes o n) ≡ true) (sym (given_head program typing ok own class there)) head

  nearest_here : (n : ℕ) (name desc class : Name) (to : Given) (index : ℕ) (of : LinkedClass) → slice_get program.classes index ≡ Some of → of.name ≡ class
      → (method : ℕ) → declared_in name desc of ≡ Some method → (index, method) ≡ to → Nearest (suc n) name desc class to
  nearest_here n name desc class to index of there is method e same =
      let m = method_at_index name desc of method e in
      subst (Nearest (suc n) name desc class) same
      (record {
        owner = of;
        method = m.0;
        there = there;
        here = m.1;
        named = m.2;
        described = m.3;
        above =
            subst (λ (c : Name). is_up classes (suc n) c of.name ≡ true) is
            (up_once index of n of.name there (or_left (bytes_eq of.name of.name) _ (of_same of.name of.name refl)));
      })

  nearest_above : (n : ℕ) (name desc class : Name) (to : Given) (index : ℕ) (of : LinkedClass) → slice_get program.classes index ≡ Some of → of.name ≡ class
      → Nearest n name desc of.parent to → Nearest (suc n) name desc class to
  nearest_above n name desc class to index of there is up = record {
    owner = up.owner;
    method = up.method;
    there = up.there;
    here = up.here;
    named = up.named;
    described = up.described;
    above =
        subst (λ (c : Name). is_up classes (suc n) c up.owner.name ≡ true) is
        (up_once index of n up.owner.name there (or_right (bytes_eq of.name up.owner.name) _ up.above));
  }

  pub declared_found : (n : ℕ) (name desc class : Name) (to : Given) → declared_up n program name desc class ≡ Some to → Nearest n name desc class to
  declared_found zero name desc class to e = absurd cc
  declared_found (suc n) name desc class to e =
      let looks : LinkedClass → ℕ → Option Given =
      λ of index. option_or (option_map (λ (method : ℕ). (index, method)) (declared_in name desc of)) (declared_up n program name desc of.parent) in
      let a = and_then_of (λ (index : ℕ). option_and_then (λ (of : LinkedClass). looks of index) (slice_get program.classes index)) (given_index program class) to e in
      let b = and_then_of (λ (of : LinkedClass). looks of a.0) (slice_get program.classes a.0) to a.2 in
      let c = class_at_index class a.0 a.1 in
      let same : c.0 ≡ b.0 = some_is c.0 b.0 (sym c.1 ∙ b.1) in
      let is : b.0.name ≡ class = subst (λ (k : LinkedClass). k.name ≡ class) same c.2 in
      elim (either_or (option_map (λ (method : ℕ). (a.0, method)) (declared_in name desc b.0)) (declared_up n program name desc b.0.parent) to b.2) [
        | inl here ↦
            let m = map_of (λ (method : ℕ). (a.0, method)) (declared_in name desc b.0) to here in
            nearest_here n name desc class to a.0 b.0 b.1 is m.0 m.1 m.2
        | inr up ↦ nearest_above n name desc class to a.0 b.0 b.1 is (declared_found n name desc b.0.parent to up)
      ]

  -- so many classes are given that one more are at most all
  more_than_given : suc (length program.classes) ≤ count program typing ok
  more_than_given =
      let listed : length program.listing.classes ≡ 20 + length (filter_map class_declared ok.links.listed.said) =
      ap (λ l. length l.classes) ok.links.listed.listed ∙ length-append built_in_classes _ ∙ ap (λ (k : ℕ). k + length (filter_map class_declared ok.links.listed.said)) built_in_many in
      let all = length-append program.listing.classes (map (λ (c : LinkedClass). head_of c.file) program.classes) in
      let given = length-map program.classes (λ (c : LinkedClass). head_of c.file) in
      omega (arith, listed, all, given)

  -- ---- what runs

  -- a method with code that an object runs
  pub record Runs (to : Given) : Type 0 where
    pub owner : LinkedClass
    pub method : Method
    pub there : slice_get program.classes to.0 ≡ Some owner
    pub here : slice_get owner.methods to.1 ≡ Some method
    pub apart : is_static method.flags ≡ false
    pub code : 0 < length method.insns

  run_at : (to : Given) (o : Option Method) → method_at program to.0 to.1 ≡ o
      → option_map_or (λ (m : Method). not (is_static m.flags) && nat_lt 0 (length m.insns)) o false ≡ true
      → (m : Method) × (method_at program to.0 to.1 ≡ Some m) × (is_static m.flags ≡ false) × (0 < length m.insns)
  run_at to None e f = absurd cc
  run_at to (Some m) e f =
      let a = and_parts (not (is_static m.flags)) (nat_lt 0 (length m.insns)) f in
      (m, e, not-true (is_static m.flags) a.0, ltb-true 0 (length m.insns) a.1)

  pub runs_so : (to : Given) → is_run_by_objects program to ≡ true → Runs to
  runs_so to e =
      let m = run_at to (method_at program to.0 to.1) refl e in
      let c = and_then_of (λ (c : LinkedClass). slice_get c.methods to.1) (slice_get program.classes to.0) m.0 m.1 in
      record { owner = c.0; method = m.0; there = c.1; here = c.2; apart = m.2; code = m.3 }

  pub if_runs : (found : Option Given) (to : Given) → if_run program found ≡ Some to → (found ≡ Some to) × Runs to
  if_runs found to e =
      let a = and_then_of (λ (x : Given). cond (is_run_by_objects program x) (Some x) None) found to e in
      let b = cond_some (is_run_by_objects program a.0) a.0 to a.2 in
      (a.1 ∙ ap (λ (x : Given). Some x) b.1, runs_so to (subst (λ (x : Given). is_run_by_objects program x ≡ true) b.1 b.0))

  -- a method that runs on objects of a class
  pub record RunsOn (name desc class : Name) (to : Given) : Type 0 where
    pub runs : Runs to
    pub named : runs.method.name ≡ name
    pub described : runs.method.desc ≡ desc
    pub reaches : assignable program (types.Ref class) (types.Ref runs.owner.name) ≡ true

  pub same_owner : (to : Given) (r : Runs to) (owner : LinkedClass) → slice_get program.classes to.0 ≡ Some owner → owner ≡ r.owner
  same_owner to r owner there = some_is owner r.owner (sym there ∙ r.there)

  pub same_method : (to : Given) (r : Runs to) (owner : LinkedClass) (method : Method) → slice_get program.classes to.0 ≡ Some owner
      → slice_get owner.methods to.1 ≡ Some method → method ≡ r.method
  same_method to r owner method there here =
      some_is method r.method (sym here ∙ ap (λ (c : LinkedClass). slice_get c.methods to.1) (same_owner to r owner there) ∙ r.here)

  nearest_runs : (n : ℕ) (name desc class : Name) (to : Given) → n ≤ count program typing ok → Nearest n name desc class to → Runs to → RunsOn name desc class to
  nearest_runs n name desc class to few near r =
      let method = same_method to r near.owner near.method near.there near.here in
      let owner = same_owner to r near.owner near.there in
      record {
        runs = r;
        named = ap (λ (m : Method). m.name) (sym method) ∙ near.named;
        described = ap (λ (m : Method). m.desc) (sym method) ∙ near.described;
        reaches =
            subst (λ (c : LinkedClass). assignable program (types.Ref class) (types.Ref c.name) ≡ true) owner
            (below_fits program typing ok class near.owner.name (up_below program typing ok n class near.owner.name few near.above));
      }

  pub class_runs : (name desc class : Name) (to : Given) → method_of_class program name desc class ≡ Some to → RunsOn name desc class to
  class_runs name desc class to e =
      let a = if_runs (nearest_given program name desc class) to e in
      let few = more_than_given in
      nearest_runs (length program.classes) name desc class to (omega (arith, few)) (declared_found (length program.classes) name desc class to a.0) a.1

  -- from the superclass of a given class on
  pub above_runs : (own : ℕ) (class : LinkedClass) (name desc : Name) (to : Given) → slice_get program.classes own ≡ Some class
      → nearest_given program name desc class.parent ≡ Some to → Runs to → RunsOn name desc class.name to
  above_runs own class name desc to there e r =
      let near = declared_found (length program.classes) name desc class.parent to e in
      nearest_runs (suc (length program.classes)) name desc class.name to more_than_given
      (nearest_above (length program.classes) name desc class.name to own class there refl near) r

  -- what a call of the very method runs, from the code of a class
  pub itself_runs : (own : ℕ) (class : LinkedClass) (to found : Given) (method : Method) → slice_get program.classes own ≡ Some class
      → if_run program (method_itself program own to method) ≡ Some found
      → (RunsOn method.name method.desc class.name found × (bytes_eq method.name maker ≡ false)) ⊎ ((to ≡ found) × Runs found)
  itself_runs own class to found method there e =
      let a = if_runs (method_itself program own to method) found e in
      elim (cases_Bool (not (bytes_eq method.name maker) && is_above program to.0 own)) [
        | inl is ↦
            let h : option_and_then (λ (c : LinkedClass). nearest_given program method.name method.desc c.parent) (slice_get program.classes own) ≡ Some found = rw is at a.0 in
            let b = and_then_of (λ (c : LinkedClass). nearest_given program method.name method.desc c.parent) (slice_get program.classes own) found h in
            let same : b.0 ≡ class = some_is b.0 class (sym b.1 ∙ there) in
            let near : nearest_given program method.name method.desc class.parent ≡ Some found =
            subst (λ (c : LinkedClass). nearest_given program method.name method.desc c.parent ≡ Some found) same b.2 in
            inl (above_runs own class method.name method.desc found there near a.1, not-true (bytes_eq method.name maker) (and_parts (not (bytes_eq method.name maker)) _ is).0)
        | inr fails ↦
            let h : ◌≡◌ {A = Option Given} (Some to) (Some found) = rw fails at a.0 in
            inr (some_is to found h, a.1)
      ]
