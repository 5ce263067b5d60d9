-- One domain follows another: what works on the types works on the values, and leaves values of the types.
-- (The Java Virtual Machine Specification, section 6.5)
use Rattle.std.specs.Prelude.{◌≡◌, ℤ, Bool, IsTrue, List, [], ◌∷◌, Some}
use Rattle.insn_codec.specs.declared.shape.ValueKind.{ValueKind}
use Rattle.insn_codec.specs.declared.shape.ValueKind.TheVariants as kinds
use Rattle.insn_codec.specs.declared.shape.One.{One}
use Rattle.insn_codec.specs.declared.shape.Shape.{Shape}
use Rattle.insn_codec.specs.declared.shape.Two.{Two}
use Rattle.insn_codec.specs.Effect.{Domain, Moved, effect}

-- The lists are as long as each other, and each value is of the type in its place.
abbrev pub Paired : {V T : Type 0} → (V → T → Bool) → List V → List T → Type 0
Paired of [] [] = Unit {0}
Paired of [] (t ∷ types) = ⊥
Paired of (v ∷ values) [] = ⊥
Paired of (v ∷ values) (t ∷ types) = IsTrue (of v t) × Paired of values types

-- A value fits where its type does, and what is made of values is of the type that is made of theirs.
pub record Respects {V T : Type 0} (values : Domain V) (types : Domain T) (of : V → T → Bool) : Type 0 where
  pub kind : (k : ValueKind) (v : V) (t : T) → IsTrue (of v t) → IsTrue (types.fits k t) → IsTrue (values.fits k v)
  pub whole : (v : V) (t : T) → IsTrue (of v t) → IsTrue (types.made t) → IsTrue (values.made v)
  pub number : (n : ℤ) → IsTrue (of (values.int n) (types.int n))
  pub none : IsTrue (of values.null types.null)
  pub fits_number : (n : ℤ) → IsTrue (types.fits kinds.Int (types.int n))
  pub from_two : (op : Two) (v w : V) (t u : T) → IsTrue (of v t) → IsTrue (of w u) → IsTrue (types.fits kinds.Int t) → IsTrue (types.fits kinds.Int u)
      → IsTrue (of (values.two op v w) (types.two op t u))
  pub from_one : (op : One) (v : V) (t : T) → IsTrue (of v t) → IsTrue (types.fits kinds.Int t) → IsTrue (of (values.one op v) (types.one op t))

-- What a shape makes of the types it makes of the values, and these are of the types again.
abbrev pub Follows : {V T : Type 0} → Domain V → Domain T → (V → T → Bool) → Type 0
Follows {V = V} {T = T} values types of =
    (shape : Shape) (locals stack : List V) (local_types stack_types : List T) (after : Moved T) → Paired of locals local_types → Paired of stack stack_types
    → effect types shape local_types stack_types ≡ Some after
    → (moved : Moved V) × (effect values shape locals stack ≡ Some moved) × Paired of moved.0 after.0 × Paired of moved.1 after.1
