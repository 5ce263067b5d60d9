-- An instruction that stands elsewhere: what stays of its place.
use Rattle.std.proofs.Common.{◌≡◌, ℕ, ◌≤◌, Bool, true, false, cond, List, [], ◌∷◌, map, Option, Some, None, refl, ap, ◌∙◌}
use Rattle.std.specs.Prelude.{◌&&◌, ◌||◌, ◌==◌, slice_get, option_map}
use Rattle.std.specs.Option.{option_map_or}
use Rattle.std.proofs.lemmas.Option.{slice_get-map}
use Rattle.mon_base.specs.declared.method.MethodId.{MethodId}
use Rattle.cert_format.specs.declared.typing.VType.{VType}
use Rattle.cert_format.specs.declared.typing.VType.TheVariants as types
use Rattle.insn_codec.specs.Encoding.{opcode_of}
use Rattle.insn_codec.specs.declared.shape.Heap.TheVariants as heap
use Rattle.insn_codec.specs.declared.shape.Shape.{Shape}
use Rattle.insn_codec.specs.declared.shape.Shape.TheVariants as shapes
use Rattle.insn_codec.specs.Shapes.{shape_of}
use Rattle.bytecode_model.specs.Assigning.{assignable}
use Rattle.bytecode_model.specs.Described.{type_described}
use Rattle.bytecode_model.specs.Makes.{type_at, new_at}
use Rattle.bytecode_model.specs.InsnPlace.{InsnPlace, referred, class_referred, name_referred, desc_referred}
use Rattle.woven_typing.specs.Renaming.{renamed}

-- ---- shapes

-- the shape with its target elsewhere
abbrev pub retargeted : (ℕ → ℕ) → Shape → Shape
retargeted to (shapes.Test relation from) = shapes.Test relation (to from)
retargeted to (shapes.Compare relation from) = shapes.Compare relation (to from)
retargeted to (shapes.CompareReferences same from) = shapes.CompareReferences same (to from)
retargeted to (shapes.TestNull null from) = shapes.TestNull null (to from)
retargeted to (shapes.Goto from) = shapes.Goto (to from)
retargeted to other = other

-- ---- places

-- The one place is that of the instruction of the other, which stands elsewhere in a method with as much room; a `new` stands where
-- its index has moved to.
pub record IsKept (moved : ℕ → ℕ) (p q : InsnPlace) : Type 0 where
  pub once : (i j : ℕ) → moved i ≡ moved j → i ≡ j
  pub assigns : (t u : VType) → assignable p.program t u ≡ true → assignable q.program (renamed moved t) (renamed moved u) ≡ true
  pub own : q.own ≡ p.own
  pub class : q.class.name ≡ p.class.name
  pub parent : q.class.parent ≡ p.class.parent
  pub name : q.method.name ≡ p.method.name
  pub desc : q.method.desc ≡ p.method.desc
  pub flags : q.method.flags ≡ p.method.flags
  pub stack : p.method.max_stack ≤ q.method.max_stack
  pub locals : p.method.max_locals ≤ q.method.max_locals
  pub news : (i : ℕ) → new_at q.method (moved i) ≡ new_at p.method i
  pub at : shape_of p.insn ≡ shapes.Heap heap.New → q.at ≡ moved p.at
  pub opcode : opcode_of q.insn ≡ opcode_of p.insn
  pub to : ℕ → ℕ
  pub shape : shape_of q.insn ≡ retargeted to (shape_of p.insn)
  pub reference : referred q ≡ referred p
  pub ref : q.ref ≡ p.ref

module _ (moved : ℕ → ℕ) (p q : InsnPlace) (kept : IsKept moved p q) where
  pub same_class : class_referred q ≡ class_referred p
  same_class = ap (λ (r : Option MethodId). option_map_or (λ (id : MethodId). id.class) r []) kept.reference

  pub same_name : name_referred q ≡ name_referred p
  same_name = ap (λ (r : Option MethodId). option_map_or (λ (id : MethodId). id.name) r []) kept.reference

  pub same_desc : desc_referred q ≡ desc_referred p
  same_desc = ap (λ (r : Option MethodId). option_map_or (λ (id : MethodId). id.desc) r []) kept.reference

-- ---- types that stay

module _ (moved : ℕ → ℕ) where
  choice_stays : (b : Bool) (x y : VType) → renamed moved x ≡ x → renamed moved y ≡ y → renamed moved (cond b x y) ≡ cond b x y
  choice_stays true x y e f = e
  choice_stays false x y e f = f

  pub described_stays : (desc : List ℕ) → renamed moved (type_described desc) ≡ type_described desc
  described_stays [] = refl
  described_stays (b ∷ text) =
      choice_stays (b == 91) _ _ refl (choice_stays (b == 76) _ _ refl refl)

  pub described_all_stay : (descs : List (List ℕ)) → map (renamed moved) (map type_described descs) ≡ map type_described descs
  described_all_stay [] = refl
  described_all_stay (d ∷ descs) = rw (described_stays d, described_all_stay descs) refl

  or_top : (o : Option VType) → option_map_or (λ (t : VType). t) (option_map (renamed moved) o) types.Top ≡ renamed moved (option_map_or (λ (t : VType). t) o types.Top)
  or_top None = refl
  or_top (Some t) = refl

  pub type_renamed : (list : List VType) (i : ℕ) → type_at (map (renamed moved) list) i ≡ renamed moved (type_at list i)
  type_renamed list i =
      ap (λ (o : Option VType). option_map_or (λ (t : VType). t) o types.Top) (slice_get-map (renamed moved) list i) ∙ or_top (slice_get list i)

-- ---- tests that stay

pub or_kept : (a b c d : Bool) → (a ≡ true → c ≡ true) → (b ≡ true → d ≡ true) → (a || b) ≡ true → (c || d) ≡ true
or_kept true b c d f g e = rw (f refl) refl
or_kept false b true d f g e = refl
or_kept false b false d f g e = g e

pub and_kept : (a b c d : Bool) → (a ≡ true → c ≡ true) → (b ≡ true → d ≡ true) → (a && b) ≡ true → (c && d) ≡ true
and_kept true b c d f g e = rw (f refl, g e) refl
and_kept false b c d f g e = absurd cc
