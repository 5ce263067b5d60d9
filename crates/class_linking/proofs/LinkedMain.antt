-- The program begins with the first main of its class.
use Rattle.std.proofs.Common.{◌≡◌, ℕ, zero, suc, ◌+◌, ◌<◌, Bool, true, false, cond, List, [], ◌∷◌, Option, Some, None, refl, subst, arith}
use Rattle.std.specs.Prelude.{slice_get, bytes_eq}
use Rattle.class_codec.specs.declared.tree.Const.{Const}
use Rattle.class_codec.specs.declared.tree.Member.{Member}
use Rattle.class_codec.specs.declared.tree.ClassFile.{ClassFile}
use Rattle.bytecode_model.specs.Heads.{class_at, is_static, is_member, main_name, main_desc}
use Rattle.class_linking.specs.Linking.{if_static, static_main, main_from}
use Rattle.class_linking.proofs.Beginning.{pair_first, pair_second}
use Rattle.bytecode_model.proofs.Lists.{some_is}
use Rattle.bytecode_model.proofs.Placing.{same_name}

abbrev IsNoMain : List Const → Member → Type 0
IsNoMain pool member = is_member pool main_name main_desc member ≡ false

-- none of the first so many members is a main
abbrev NoneBefore : List Const → List Member → ℕ → Type 0
NoneBefore pool members place = (j : ℕ) (other : Member) → j < place → slice_get members j ≡ Some other → IsNoMain pool other

-- The member that this index names is the first main, and static; the first of the members has another index.
pub record IsFirst (pool : List Const) (members : List Member) (at index : ℕ) : Type 0 where
  pub place : ℕ
  pub member : Member
  pub is : index ≡ at + place
  pub found : slice_get members place ≡ Some member
  pub main : is_member pool main_name main_desc member ≡ true
  pub static : is_static member.flags ≡ true
  pub before : NoneBefore pool members place

none_more : (pool : List Const) (member : Member) (members : List Member) (place : ℕ) → IsNoMain pool member → NoneBefore pool members place → NoneBefore pool (member ∷ members) (suc place)
none_more pool member members place is none zero other lt e = subst (IsNoMain pool) (some_is member other e) is
none_more pool member members place is none (suc j) other lt e = none j other (omega (arith, lt)) e

none_yet : (pool : List Const) (members : List Member) → NoneBefore pool members 0
none_yet pool members j other lt e = absurd (omega (arith, lt))

first_at : (class : ℕ) (pool : List Const) (at : ℕ) (members : List Member) (c m : ℕ) → static_main class pool at members ≡ Some (c, m) → (class ≡ c) × IsFirst pool members at m
first_at class pool at [] c m e = absurd cc
first_at class pool at (member ∷ members) c m e = by (is_member pool main_name main_desc member) refl e (first_at class pool (at + 1) members c m) where
  one : (b : Bool) → is_static member.flags ≡ b → is_member pool main_name main_desc member ≡ true → cond {A = Option (ℕ × ℕ)} b (Some (class, at)) None ≡ Some (c, m)
      → (class ≡ c) × IsFirst pool (member ∷ members) at m
  one true s is e =
      let same : at ≡ m = pair_second class at c m e in
      (pair_first class at c m e, record { place = 0; member = member; is = omega (arith, same); found = refl; main = is; static = s; before = none_yet pool (member ∷ members) })
  one false s is e = absurd cc

  by : (b : Bool) → is_member pool main_name main_desc member ≡ b → cond b (if_static class at member) (static_main class pool (at + 1) members) ≡ Some (c, m)
      → (static_main class pool (at + 1) members ≡ Some (c, m) → (class ≡ c) × IsFirst pool members (at + 1) m) → (class ≡ c) × IsFirst pool (member ∷ members) at m
  by true is e later = one (is_static member.flags) refl is e
  by false is e later =
      let l = later e in
      (l.0, record { place = suc l.1.place; member = l.1.member; is = omega (arith, l.1.is); found = l.1.found; main = l.1.main; static = l.1.static; before = none_more pool member members l.1.place is l.1.before })

-- The class that this index names has it.
pub record IsMainIn (files : List ClassFile) (main : List ℕ) (at class method : ℕ) : Type 0 where
  pub place : ℕ
  pub file : ClassFile
  pub is : class ≡ at + place
  pub found : slice_get files place ≡ Some file
  pub named : class_at file.pool file.this_class ≡ main
  pub first : IsFirst file.pool file.methods 0 method

pub main_at : (at : ℕ) (files : List ClassFile) (main : List ℕ) (c m : ℕ) → main_from at files main ≡ Some (c, m) → IsMainIn files main at c m
main_at at [] main c m e = absurd cc
main_at at (file ∷ files) main c m e = by (bytes_eq (class_at file.pool file.this_class) main) refl e (main_at (at + 1) files main c m) where
  by : (b : Bool) → bytes_eq (class_at file.pool file.this_class) main ≡ b → cond b (static_main at file.pool 0 file.methods) (main_from (at + 1) files main) ≡ Some (c, m)
      → (main_from (at + 1) files main ≡ Some (c, m) → IsMainIn files main (at + 1) c m) → IsMainIn (file ∷ files) main at c m
  by true is e later =
      let s = first_at at file.pool 0 file.methods c m e in
      record { place = 0; file = file; is = omega (arith, s.0); found = refl; named = same_name (class_at file.pool file.this_class) main is; first = s.1 }
  by false is e later =
      let l = later e in
      record { place = suc l.place; file = l.file; is = omega (arith, l.is); found = l.found; named = l.named; first = l.first }
