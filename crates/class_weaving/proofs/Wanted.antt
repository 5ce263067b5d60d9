-- What stands at the places that blocks name: the class conspec/State, its fields, the method that stops the program, and
-- numbers.
use Rattle.std.proofs.Common.{◌≡◌, ℕ, zero, suc, Bool, List, [], ◌∷◌, ◌++◌, Option, Some, refl, ap, subst, ◌∙◌, arith}
use Rattle.std.specs.Prelude.{ℤ, slice_get}
use Rattle.std.specs.List.{AllByRecursion, Contains}
use Rattle.std.specs.Option.{option_map_or}
use Rattle.class_codec.specs.declared.tree.Const.{Const}
use Rattle.class_codec.specs.declared.tree.Const.TheVariants as constants
use Rattle.class_codec.specs.Pool.{utf8_at, text_of, class_name_at, class_name_of, name_and_type_at, name_and_type_of, both, reference_at, reference_of, member_id}
use Rattle.bytecode_model.specs.Heads.{text_at}
use Rattle.bytecode_model.specs.Operands.{id_at}
use Rattle.offset_patch.specs.declared.block.PoolWant.{PoolWant}
use Rattle.offset_patch.specs.declared.block.PoolWant.TheVariants as wants
use Rattle.offset_patch.specs.Entries.{Placed, entry, text, class, name_and_type, state_name, variable_name, variable_type, wanted, place_in, IsThere}
use Rattle.offset_patch.specs.Splicing.{way_out}
use Rattle.offset_patch.proofs.EntryFits.{entry_is}
use Rattle.offset_patch.proofs.PoolFits.{get_on}
use Rattle.offset_patch.proofs.Steady.{IsSteady, steady_text, steady_class_at, steady_name_and_type_at, steady_name_and_type, steady_field_at, steady_method_at, steady_wanted}

-- ---- an entry

get_later : (f : List Const → Placed) → IsSteady f → (pool : List Const) (i : ℕ) (c : Const) → slice_get pool i ≡ Some c → slice_get (f pool).0 i ≡ Some c
get_later f steady pool i c e =
    let more = steady.grows pool in
    ap (λ (p : List Const). slice_get p i) more.1 ∙ get_on pool more.0 i c e

-- ---- a class and a method

pub record IsClass (pool : List Const) (i : ℕ) (name : List ℕ) : Type 0 where
  pub at : ℕ
  pub there : slice_get pool i ≡ Some (constants.Class at)
  pub named : slice_get pool at ≡ Some (constants.Utf8 name)

pub record IsMember (pool : List Const) (i : ℕ) (name desc : List ℕ) : Type 0 where
  pub at : ℕ
  pub desc_at : ℕ
  pub there : slice_get pool i ≡ Some (constants.NameAndType at desc_at)
  pub named : slice_get pool at ≡ Some (constants.Utf8 name)
  pub described : slice_get pool desc_at ≡ Some (constants.Utf8 desc)

-- a field or a method, as `c` makes it of the indices
pub record IsOf (c : ℕ → ℕ → Const) (pool : List Const) (i : ℕ) (owner name desc : List ℕ) : Type 0 where
  pub class_at : ℕ
  pub member_at : ℕ
  pub there : slice_get pool i ≡ Some (c class_at member_at)
  pub class : IsClass pool class_at owner
  pub member : IsMember pool member_at name desc

class_is : (name : List ℕ) (pool : List Const) → IsClass (class name pool).0 (class name pool).1 name
class_is name pool =
    let one = text name pool in
    let c = constants.Class one.1 in
    record { at = one.1; there = entry_is c one.0; named = get_later (entry c) (steady_class_at one.1) one.0 one.1 (constants.Utf8 name) (entry_is (constants.Utf8 name) pool) }

member_is : (name desc : List ℕ) (pool : List Const) → IsMember (name_and_type name desc pool).0 (name_and_type name desc pool).1 name desc
member_is name desc pool =
    let one = text name pool in
    let two = text desc one.0 in
    let c = constants.NameAndType one.1 two.1 in
    let steady = steady_name_and_type_at one.1 two.1 in
    record {
      at = one.1;
      desc_at = two.1;
      there = entry_is c two.0;
      named = get_later (entry c) steady two.0 one.1 (constants.Utf8 name) (get_later (text desc) (steady_text desc) one.0 one.1 (constants.Utf8 name) (entry_is (constants.Utf8 name) pool));
      described = get_later (entry c) steady two.0 two.1 (constants.Utf8 desc) (entry_is (constants.Utf8 desc) one.0);
    }

class_later : (f : List Const → Placed) → IsSteady f → (pool : List Const) (i : ℕ) (name : List ℕ) → IsClass pool i name → IsClass (f pool).0 i name
class_later f steady pool i name h = record {
  at = h.at;
  there = get_later f steady pool i (constants.Class h.at) h.there;
  named = get_later f steady pool h.at (constants.Utf8 name) h.named;
}

member_later : (f : List Const → Placed) → IsSteady f → (pool : List Const) (i : ℕ) (name desc : List ℕ) → IsMember pool i name desc → IsMember (f pool).0 i name desc
member_later f steady pool i name desc h = record {
  at = h.at;
  desc_at = h.desc_at;
  there = get_later f steady pool i (constants.NameAndType h.at h.desc_at) h.there;
  named = get_later f steady pool h.at (constants.Utf8 name) h.named;
  described = get_later f steady pool h.desc_at (constants.Utf8 desc) h.described;
}

module _ (c : ℕ → ℕ → Const) (steady : (i j : ℕ) → IsSteady (entry (c i j))) where
  abbrev of : List ℕ → List ℕ → List ℕ → List Const → Placed
  of owner name desc pool = entry (c (class owner pool).1 (name_and_type name desc (class owner pool).0).1) (name_and_type name desc (class owner pool).0).0

  of_is : (owner name desc : List ℕ) (pool : List Const) → IsOf c (of owner name desc pool).0 (of owner name desc pool).1 owner name desc
  of_is owner name desc pool =
      let one = class owner pool in
      let two = name_and_type name desc one.0 in
      let last = c one.1 two.1 in
      record {
        class_at = one.1;
        member_at = two.1;
        there = entry_is last two.0;
        class = class_later (entry last) (steady one.1 two.1) two.0 one.1 owner (class_later (name_and_type name desc) (steady_name_and_type name desc) one.0 one.1 owner (class_is owner pool));
        member = member_later (entry last) (steady one.1 two.1) two.0 two.1 name desc (member_is name desc one.0);
      }

-- ---- what is told of them

pub text_told : (pool : List Const) (i : ℕ) (text : List ℕ) → slice_get pool i ≡ Some (constants.Utf8 text) → utf8_at pool i ≡ Some text
unfolding utf8_at
text_told pool i text e = ap text_of e

pub name_told : (pool : List Const) (i : ℕ) (text : List ℕ) → slice_get pool i ≡ Some (constants.Utf8 text) → text_at pool i ≡ text
name_told pool i text e = ap (λ (o : Option (List ℕ)). option_map_or (λ (x : List ℕ). x) o []) (text_told pool i text e)

class_told : (pool : List Const) (i : ℕ) (name : List ℕ) → IsClass pool i name → class_name_at pool i ≡ Some name
unfolding class_name_at
class_told pool i name h = ap (class_name_of pool) h.there ∙ text_told pool h.at name h.named

member_told : (pool : List Const) (i : ℕ) (name desc : List ℕ) → IsMember pool i name desc → name_and_type_at pool i ≡ Some (name, desc)
unfolding name_and_type_at
member_told pool i name desc h =
    ap (name_and_type_of pool) h.there ∙ ap (λ (o : Option (List ℕ)). both o (utf8_at pool h.desc_at)) (text_told pool h.at name h.named) ∙ ap (both (Some name)) (text_told pool h.desc_at desc h.described)

pub id_told : (c : ℕ → ℕ → Const) (pool : List Const) (i : ℕ) (owner name desc : List ℕ) (h : IsOf c pool i owner name desc) → id_at pool h.class_at h.member_at ≡ record { class = owner; name = name; desc = desc }
id_told c pool i owner name desc h = rw (class_told pool h.class_at owner h.class, member_told pool h.member_at name desc h.member) refl

pub reference_told : (pool : List Const) (i : ℕ) (owner name desc : List ℕ) → IsOf constants.Method pool i owner name desc → reference_at pool i ≡ Some (record { class = owner; name = name; desc = desc })
unfolding reference_at
reference_told pool i owner name desc h =
    ap (reference_of pool) h.there ∙ ap (λ (o : Option (List ℕ)). member_id o (name_and_type_at pool h.member_at)) (class_told pool h.class_at owner h.class)
    ∙ ap (member_id (Some owner)) (member_told pool h.member_at name desc h.member)

pub field_told : (pool : List Const) (i : ℕ) (owner name desc : List ℕ) → IsOf constants.Field pool i owner name desc → reference_at pool i ≡ Some (record { class = owner; name = name; desc = desc })
unfolding reference_at
field_told pool i owner name desc h =
    ap (reference_of pool) h.there ∙ ap (λ (o : Option (List ℕ)). member_id o (name_and_type_at pool h.member_at)) (class_told pool h.class_at owner h.class)
    ∙ ap (member_id (Some owner)) (member_told pool h.member_at name desc h.member)

-- ---- the entries that blocks name

pub state_there : (pool : List Const) → IsThere pool wants.StateClass → IsClass pool (place_in pool wants.StateClass) state_name
state_there pool there = subst (λ (p : List Const). IsClass p (place_in pool wants.StateClass) state_name) there.same (class_is state_name pool)

pub field_there : (pool : List Const) (var : ℕ) (is_bool : Bool) → IsThere pool (wants.StateField var is_bool)
    → IsOf constants.Field pool (place_in pool (wants.StateField var is_bool)) state_name (variable_name var) (variable_type is_bool)
field_there pool var is_bool there =
    subst (λ (p : List Const). IsOf constants.Field p (place_in pool (wants.StateField var is_bool)) state_name (variable_name var) (variable_type is_bool)) there.same
    (of_is constants.Field steady_field_at state_name (variable_name var) (variable_type is_bool) pool)

pub exit_there : (pool : List Const) → IsThere pool wants.Exit → IsOf constants.Method pool (place_in pool wants.Exit) way_out.class way_out.name way_out.desc
exit_there pool there =
    subst (λ (p : List Const). IsOf constants.Method p (place_in pool wants.Exit) way_out.class way_out.name way_out.desc) there.same
    (of_is constants.Method steady_method_at way_out.class way_out.name way_out.desc pool)

pub number_there : (pool : List Const) (n : ℤ) → IsThere pool (wants.Integer n) → slice_get pool (place_in pool (wants.Integer n)) ≡ Some (constants.Integer n)
number_there pool n there = subst (λ (p : List Const). slice_get p (place_in pool (wants.Integer n)) ≡ Some (constants.Integer n)) there.same (entry_is (constants.Integer n) pool)

-- they are there in each longer pool
pub there_on : (want : PoolWant) (pool more : List Const) → IsThere pool want → IsThere (pool ++ more) want
there_on want pool more there =
    let here : wanted want pool ≡ (pool, place_in pool want) = ap (λ (p : List Const). (p, place_in pool want)) there.same in
    record { same = ap (λ (z : Placed). z.0) ((steady_wanted want).stays pool more (place_in pool want) here) }

-- what holds of each holds of one of them
pub all_of : {X : Type 0} (P : X → Type 0) (xs : List X) (x : X) → AllByRecursion P xs → Contains xs x → P x
all_of P [] x h c = absurd (omega (arith, c.1))
all_of P (y ∷ xs) x h (zero, few, is) = subst P is h.0
all_of P (y ∷ xs) x h (suc k, few, is) = all_of P xs x h.1 (k, omega arith, is)
