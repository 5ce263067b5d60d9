-- Fields of objects, gathered and counted.
use Rattle.std.proofs.Common.{◌≡◌, ℕ, zero, suc, ◌+◌, ◌≤◌, Bool, true, false, cond, List, [], ◌∷◌, ◌++◌, length, map, take, Option, Some, None, refl, sym, ap, ◌∙◌, arith, length-append, append_assoc}
use Rattle.std.specs.Prelude.{filter, slice_get, slice_index_or, reverse}
use Rattle.std.specs.Option.{option_map, option_map_or}
use Rattle.std.proofs.lemmas.Option.{slice_get-map}
use Rattle.std.proofs.lemmas.List.{length-map, map-append, reverse-append}
use Rattle.std.proofs.lemmas.List.Elements.{filter-append}
use Rattle.class_codec.specs.declared.tree.Const.{Const}
use Rattle.class_codec.specs.declared.tree.Member.{Member}
use Rattle.bytecode_model.specs.declared.program.LinkedClass.{LinkedClass}
use Rattle.bytecode_model.specs.declared.program.Program.{Program}
use Rattle.bytecode_model.specs.Heads.{desc_of}
use Rattle.bytecode_model.proofs.Lists.{some_is}
use Rattle.guest_heap.specs.declared.value.Value.{Value}
use Rattle.guest_model.specs.Layout.{class_given, fields_of, fields_up, first_value, is_in_objects, own_fields}
use Rattle.guest_tables.specs.Layout.{begins_of, counts_from, own_count}

-- ---- upwards

pub up_none : (program : Program) (n : ℕ) (name : List ℕ) → class_given program name ≡ None → fields_up n program name ≡ []
up_none program zero name e = refl
up_none program (suc n) name e = ap (λ (o : Option LinkedClass). option_map_or (λ (c : LinkedClass). fields_up n program c.parent ++ own_fields c.file) o []) e

pub up_some : (program : Program) (m n : ℕ) (name : List ℕ) (class : LinkedClass) → m ≡ suc n → class_given program name ≡ Some class
    → fields_up m program name ≡ fields_up n program class.parent ++ own_fields class.file
up_some program m n name class same e =
    ap (λ k. fields_up k program name) same ∙ ap (λ (o : Option LinkedClass). option_map_or (λ (c : LinkedClass). fields_up n program c.parent ++ own_fields c.file) o []) e

-- one class more, gathered backwards
pub gathered : (program : Program) (m n : ℕ) (name : List ℕ) (class : LinkedClass) (old new all : List Value) → m ≡ suc n → class_given program name ≡ Some class
    → new ≡ old ++ reverse (own_fields class.file) → old ++ reverse (fields_up m program name) ≡ all → new ++ reverse (fields_up n program class.parent) ≡ all
gathered program m n name class old new all same e is so_far =
    rw (is, append_assoc)
    (ap (λ xs. old ++ xs) (sym (reverse-append (fields_up n program class.parent) (own_fields class.file)))
    ∙ ap (λ xs. old ++ reverse xs) (sym (up_some program m n name class same e)) ∙ so_far)

-- one class more, counted
pub counted : (program : Program) (m n : ℕ) (name : List ℕ) (class : LinkedClass) (old own new all : ℕ) → m ≡ suc n → class_given program name ≡ Some class
    → own ≡ own_count class.file → new ≡ old + own → old + length (fields_up m program name) ≡ all → new + length (fields_up n program class.parent) ≡ all
counted program m n name class old own new all same e mine is so_far =
    let both : length (fields_up m program name) ≡ length (fields_up n program class.parent) + length (own_fields class.file) = ap length (up_some program m n name class same e) ∙ length-append _ _ in
    let few : length (own_fields class.file) ≡ own_count class.file = length-map _ _ in
    omega arith

-- ---- places

pub count_at : (fields : List Member) (n k : ℕ) → k ≤ length fields → slice_index_or (counts_from n fields) k 0 ≡ n + length (filter is_in_objects (take k fields))
count_at [] n zero h = omega arith
count_at [] n (suc k) h = absurd (omega arith)
count_at (f ∷ fields) n zero h = omega arith
count_at (f ∷ fields) n (suc k) h = by (is_in_objects f) (count_at fields (cond (is_in_objects f) (n + 1) n) k (omega arith)) where
  by : (b : Bool) → slice_index_or (counts_from (cond b (n + 1) n) fields) k 0 ≡ cond b (n + 1) n + length (filter is_in_objects (take k fields))
      → slice_index_or (counts_from (cond b (n + 1) n) fields) k 0 ≡ n + length (cond b (f ∷ filter is_in_objects (take k fields)) (filter is_in_objects (take k fields)))
  by true e =
      let more : (n + 1) + length (filter is_in_objects (take k fields)) ≡ n + suc (length (filter is_in_objects (take k fields))) = omega arith in
      e ∙ more
  by false e = e

pub counts_length : (fields : List Member) (n : ℕ) → length (counts_from n fields) ≡ length fields + 1
counts_length [] n = refl
counts_length (f ∷ fields) n =
    let rest : length (counts_from (cond (is_in_objects f) (n + 1) n) fields) ≡ length fields + 1 = counts_length fields (cond (is_in_objects f) (n + 1) n) in
    omega arith

pub none_before : (n : ℕ) → 0 + n ≡ n
none_before n = omega arith

pub take_past : {A : Type 0} (xs : List A) (k : ℕ) → length xs ≤ k → take k xs ≡ xs
take_past [] zero h = refl
take_past [] (suc k) h = refl
take_past (x ∷ xs) zero h = absurd (omega arith)
take_past (x ∷ xs) (suc k) h = ap (λ ys. x ∷ ys) (take_past xs k (omega arith))

-- ---- tables

pub begin_is : (program : Program) (begins : List ℕ) (k b : ℕ) (class : LinkedClass) → begins ≡ begins_of program → Some class ≡ slice_get program.classes k
    → Some b ≡ slice_get begins k → b ≡ length (fields_of program class.parent)
begin_is program begins k b class is at e =
    some_is _ _ (e ∙ ap (λ bs. slice_get bs k) is ∙ slice_get-map (λ (c : LinkedClass). length (fields_of program c.parent)) program.classes k
    ∙ ap (option_map (λ (c : LinkedClass). length (fields_of program c.parent))) (sym at))

-- ---- the own fields of a class, from the last on

front : (pool : List Const) (member : Member) (b : Bool) → is_in_objects member ≡ b
    → reverse (map (λ (m : Member). first_value (desc_of pool m)) (filter is_in_objects (member ∷ []))) ≡ cond b (first_value (desc_of pool member) ∷ []) []
front pool member true e = ap (λ (b : Bool). reverse (map (λ (m : Member). first_value (desc_of pool m)) (cond b (member ∷ []) []))) e
front pool member false e = ap (λ (b : Bool). reverse (map (λ (m : Member). first_value (desc_of pool m)) (cond b (member ∷ []) []))) e

pub own_last : (pool : List Const) (all before : List Member) (member : Member) (old new total : List Value) → all ≡ before ++ member ∷ []
    → new ≡ old ++ cond (is_in_objects member) (first_value (desc_of pool member) ∷ []) []
    → old ++ reverse (map (λ (m : Member). first_value (desc_of pool m)) (filter is_in_objects all)) ≡ total
    → new ++ reverse (map (λ (m : Member). first_value (desc_of pool m)) (filter is_in_objects before)) ≡ total
own_last pool all before member old new total split is so_far =
    rw (is, append_assoc) (ap (λ xs. old ++ xs) (sym (last (is_in_objects member) refl)) ∙ ap (λ xs. old ++ reverse (map (λ (m : Member). first_value (desc_of pool m)) (filter is_in_objects xs))) (sym split) ∙ so_far) where
      last : (b : Bool) → is_in_objects member ≡ b → reverse (map (λ (m : Member). first_value (desc_of pool m)) (filter is_in_objects (before ++ member ∷ [])))
          ≡ cond b (first_value (desc_of pool member) ∷ []) [] ++ reverse (map (λ (m : Member). first_value (desc_of pool m)) (filter is_in_objects before))
      last b e =
          ap (λ (xs : List Member). reverse (map (λ (m : Member). first_value (desc_of pool m)) xs)) (filter-append is_in_objects before (member ∷ []))
          ∙ ap reverse (map-append (λ (m : Member). first_value (desc_of pool m)) (filter is_in_objects before) (filter is_in_objects (member ∷ [])))
          ∙ reverse-append (map (λ (m : Member). first_value (desc_of pool m)) (filter is_in_objects before)) (map (λ (m : Member). first_value (desc_of pool m)) (filter is_in_objects (member ∷ [])))
          ∙ ap (λ (xs : List Value). xs ++ reverse (map (λ (m : Member). first_value (desc_of pool m)) (filter is_in_objects before))) (front pool member b e)

pub nil_after : (xs : List Value) → xs ≡ xs ++ []
nil_after [] = refl
nil_after (x ∷ xs) = ap (λ ys. x ∷ ys) (nil_after xs)
