-- Descriptors of classes, and arrays of classes.
use Rattle.std.proofs.Common.{◌≡◌, ℕ, ◌+◌, ◌-◌, Bool, true, false, cond, List, [], ◌∷◌, ◌++◌, length, take, Option, Some, None, refl, sym, ap, subst, ◌∙◌, arith}
use Rattle.std.specs.Prelude.{bytes_eq, ◌==◌, ◌&&◌, ◌||◌, nat_lt, slice_index}
use Rattle.std.specs.Option.{option_map_or}
use Rattle.std.proofs.Math.Seq.{take-append_seam}
use Rattle.std.proofs.lemmas.Bool.{lt-ltb, eq-eqb}
use Rattle.std.proofs.lemmas.List.{length-append, get_or-append-add}
use Rattle.std.proofs.lemmas.Slice.Eq.{bytes_eq-Decides}
use Rattle.api_listing.specs.BuiltIn.{object}
use Rattle.bytecode_model.specs.declared.program.Program.{Program}
use Rattle.bytecode_model.specs.Classes.{is_interface}
use Rattle.bytecode_model.specs.Arrays.{is_array}
use Rattle.bytecode_model.specs.Assigning.{class_name, named, leaf_fits, class_fits, component_fits, array_fits, name_fits}
use Rattle.bytecode_model.specs.Arrays.{described, array_of}

last_of : (name : List ℕ) → slice_index (name ++ 59 ∷ []) (length (name ++ 59 ∷ []) - 1) ≡ 59
last_of name =
    let at : length (name ++ 59 ∷ []) - 1 ≡ length name + 0 = omega (arith, length-append name (59 ∷ [])) in
    rw at (get_or-append-add name (59 ∷ []) 0 0)

before_last : (name : List ℕ) → take (length (name ++ 59 ∷ []) - 1) (name ++ 59 ∷ []) ≡ name
before_last name =
    let at : length (name ++ 59 ∷ []) - 1 ≡ length name = omega (arith, length-append name (59 ∷ [])) in
    rw at (take-append_seam name (59 ∷ []))

some_there : (name : List ℕ) → nat_lt 0 (length (name ++ 59 ∷ [])) ≡ true
some_there name = lt-ltb 0 _ (omega (arith, length-append name (59 ∷ [])))

chosen : (a b : Bool) (x y : Option (List ℕ)) → a ≡ true → b ≡ true → x ≡ y → cond (a && b) x None ≡ y
chosen true true x y e f same = same
chosen true false x y e f same = absurd cc
chosen false b x y e f same = absurd cc

class_so : (name : List ℕ) → is_array name ≡ false → class_name name ≡ Some name
class_so name e = rw e refl

-- the name in the descriptor of a class
pub named_described : (name : List ℕ) → is_array name ≡ false → named (76 ∷ (name ++ 59 ∷ [])) ≡ Some name
named_described name apart =
    chosen _ _ _ (Some name) (some_there name) (eq-eqb _ 59 (last_of name)) (ap class_name (before_last name) ∙ class_so name apart)

-- ---- what is assignable to itself

equal_itself : (xs : List ℕ) → bytes_eq xs xs ≡ true
equal_itself xs = (bytes_eq-Decides xs xs).1 refl

or_true : (a b : Bool) → a ≡ true → (a || b) ≡ true
or_true true b e = refl
or_true false b e = absurd cc

pub class_itself : (program : Program) (name : List ℕ) → class_fits program name name ≡ true
class_itself program name = or_true (bytes_eq name name) _ (equal_itself name)

leaf_itself : (program : Program) (name : List ℕ) → leaf_fits program name name ≡ true
leaf_itself program name = or_true (bytes_eq name name) _ (equal_itself name)

either_skip : (b : Bool) (x y : Bool) → x ≡ true → y ≡ true → cond b x y ≡ true
either_skip true x y e f = e
either_skip false x y e f = f

pub component_itself : (program : Program) (c : List ℕ) → component_fits program c c ≡ true
component_itself program [] = leaf_itself program []
component_itself program (b ∷ c) = either_skip ((b == 91) && (b == 91)) _ _ (component_itself program c) (leaf_itself program (b ∷ c))

array_itself : (program : Program) (item to : List ℕ) → bytes_eq (array_of item) to ≡ true → array_fits program (array_of item) to ≡ true
array_itself program item to e =
    let same = (bytes_eq-Decides (array_of item) to).0 e in
    subst (λ (t : List ℕ). array_fits program (array_of item) t ≡ true) same (component_itself program (described item))

-- ---- arrays of items

absorbed : (a b : Bool) → (a ≡ true → b ≡ true) → (a || b) ≡ b
absorbed true b h = sym (h refl)
absorbed false b h = refl

-- a class, where the item of an array is told
pub item_class : (program : Program) (item to : List ℕ) → is_array item ≡ false
    → component_fits program (described item) to ≡ option_map_or (λ above. class_fits program item above) (named to) false
item_class program item [] e = rw e refl
item_class program item (d ∷ to) e =
    let text : List ℕ = 76 ∷ (item ++ 59 ∷ []) in
    let leaf : leaf_fits program text (d ∷ to) ≡ (bytes_eq text (d ∷ to) || option_map_or (λ above. class_fits program item above) (named (d ∷ to)) false)
    = ap (λ (o : Option (List ℕ)). bytes_eq text (d ∷ to) || option_map_or (λ above. option_map_or (λ below. class_fits program below above) o false) (named (d ∷ to)) false) (named_described item e) in
    let itself : bytes_eq text (d ∷ to) ≡ true → option_map_or (λ above. class_fits program item above) (named (d ∷ to)) false ≡ true
    = λ same. subst (λ (t : List ℕ). option_map_or (λ above. class_fits program item above) (named t) false ≡ true) ((bytes_eq-Decides text (d ∷ to)).0 same)
    (ap (λ (o : Option (List ℕ)). option_map_or (λ above. class_fits program item above) o false) (named_described item e) ∙ class_itself program item) in
    ap (λ (b : Bool). component_fits program (cond b item text) (d ∷ to)) e ∙ leaf ∙ absorbed _ _ itself

-- an array where anything is wanted: its own type needs no test of its own
either_array : (same is_object interface array : Bool) → (same ≡ true → array ≡ true) → ((same || (is_object || (interface || false))) || array) ≡ (is_object || (interface || array))
either_array true true interface array h = refl
either_array true false true array h = refl
either_array true false false array h = sym (h refl)
either_array false true interface array h = refl
either_array false false true array h = refl
either_array false false false array h = refl

pub array_of_item : (program : Program) (item to : List ℕ)
    → name_fits program (array_of item) to ≡ (bytes_eq to object || (is_interface program to || array_fits program (array_of item) to))
array_of_item program item to = either_array (bytes_eq (array_of item) to) (bytes_eq to object) (is_interface program to) (array_fits program (array_of item) to) (array_itself program item to)

pub neither_first : (a b c : Bool) → a ≡ false → b ≡ false → (a || (b || c)) ≡ c
neither_first a b c e f = rw (e, f) refl
