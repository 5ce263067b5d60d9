-- Stacks that are joined, and locals by their places.
use Rattle.std.proofs.Common.{◌≡◌, ℕ, zero, suc, ◌+◌, ◌<◌, Bool, true, false, cond, List, [], ◌∷◌, ◌++◌, length, take, drop, map, replicate, refl, ap, ◌∙◌, arith}
use Rattle.std.specs.Prelude.{◌&&◌, ◌==◌}
use Rattle.std.specs.Bool.{Decides}
use Rattle.std.proofs.lemmas.Bool.Decides.{same_from_decides, Decides-eqb}
use Rattle.cert_format.specs.declared.typing.VType.{VType}
use Rattle.bytecode_model.specs.declared.program.Program.{Program}
use Rattle.bytecode_model.specs.Assigning.{assignable}
use Rattle.bytecode_model.specs.Makes.{type_at, changed, yields, stores, local_after, below, stack_after}
use Rattle.bytecode_model.specs.Rules.{locals_fit, stack_fits, taken, goes_well}
use Rattle.bytecode_model.specs.Wants.{all_met, anything, takes}
use Rattle.cert_format.specs.declared.typing.FrameType.{FrameType}
use Rattle.insn_codec.specs.Shapes.{shape_of}
use Rattle.frame_types.proofs.Counting.{any_decides, map_same}
use Rattle.code_typing.specs.declared.change.Change.{Change}
use Rattle.code_typing.specs.Changing.{change_told, local_told, frame_takes}
use Rattle.bytecode_model.specs.InsnPlace.{InsnPlace}

and_assoc : (a b c : Bool) → (a && (b && c)) ≡ ((a && b) && c)
and_assoc true b c = refl
and_assoc false b c = refl

and_false : (a b : Bool) → b ≡ false → (a && b) ≡ false
and_false true b e = e
and_false false b e = refl

pub locals_fit-same : (program : Program) (f g : ℕ → VType) → ((j : ℕ) → f j ≡ g j) → (j : ℕ) (to : List VType) → locals_fit program f j to ≡ locals_fit program g j to
locals_fit-same program f g same j [] = refl
locals_fit-same program f g same j (t ∷ to) = rw (same j, locals_fit-same program f g same (j + 1) to) refl

pub type_at-following : (x : VType) (xs : List VType) (j : ℕ) → type_at (x ∷ xs) (j + 1) ≡ type_at xs j
type_at-following x xs j =
    let next : j + 1 ≡ suc j = omega arith in
    rw next refl

-- After the first local stand the others.
pub locals_fit-following : (program : Program) (x : VType) (xs : List VType) (j : ℕ) (to : List VType)
    → locals_fit program (type_at (x ∷ xs)) (j + 1) to ≡ locals_fit program (type_at xs) j to
locals_fit-following program x xs j [] = refl
locals_fit-following program x xs j (t ∷ to) = rw (type_at-following x xs j, locals_fit-following program x xs (j + 1) to) refl

-- Where anything is wanted only the number counts.
pub any_met : (n : ℕ) (types : List VType) → all_met (replicate n anything) types ≡ (length types == n)
any_met n types = same_from_decides _ _ (any_decides n types) (Decides-eqb (length types) n)

-- Operands that stay, and others upon them.
pub joined : (program : Program) (f : VType → VType) (below pushed to : List VType)
    → stack_fits program (map f below ++ pushed) to
    ≡ (stack_fits program (map f below) (take (length below) to) && stack_fits program pushed (drop (length below) to))
joined program f [] pushed to = refl
joined program f (t ∷ below) pushed [] = refl
joined program f (t ∷ below) pushed (u ∷ to) =
    ap (λ x. assignable program (f t) u && x) (joined program f below pushed to) ∙ and_assoc (assignable program (f t) u) _ _

pub too_short : (program : Program) (f : VType → VType) (below pushed to : List VType) → length to < length below → stack_fits program (map f below ++ pushed) to ≡ false
too_short program f [] pushed to less = absurd (omega arith)
too_short program f (t ∷ below) pushed [] less = refl
too_short program f (t ∷ below) pushed (u ∷ to) less = and_false (assignable program (f t) u) _ (too_short program f below pushed to (omega (arith, less)))

-- the frame afterwards, by what is told of the change
pub goes_told : (place : InsnPlace) (frame to : FrameType) (change : Change) → ((t : VType) → change_told change t ≡ changed place (taken place frame) t)
    → frame_takes place change frame.locals (below (length (takes place)) frame.stack) (taken place frame) to ≡ goes_well place frame to
goes_told place frame to change told =
    let n = length (takes place) in
    let kept = map_same (change_told change) (changed place (taken place frame)) told (below n frame.stack) in
    let each : (j : ℕ) → local_told (shape_of place.insn) change frame.locals (taken place frame) j ≡ local_after place frame.locals (taken place frame) j
    = λ j. ap (λ (t : VType). cond (stores (shape_of place.insn) j) (type_at (taken place frame) 0) t) (told (type_at frame.locals j)) in
    let locals = locals_fit-same place.program (local_told (shape_of place.insn) change frame.locals (taken place frame)) (local_after place frame.locals (taken place frame)) each 0 to.locals in
    ap (λ (stack : List VType). stack_fits place.program (stack ++ yields place frame.locals (taken place frame)) to.stack
    && locals_fit place.program (local_told (shape_of place.insn) change frame.locals (taken place frame)) 0 to.locals) kept
    ∙ ap (λ (b : Bool). stack_fits place.program (stack_after place frame.locals n frame.stack) to.stack && b) locals
