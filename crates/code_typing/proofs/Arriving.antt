-- What an instruction leaves, told in two ways.
use Rattle.std.proofs.Common.{◌≡◌, ℕ, Bool, false, List, [], ◌∷◌, length, map, Option, Some, None, refl, ap, ◌∙◌}
use Rattle.std.specs.List.{list_all}
use Rattle.std.specs.Option.{option_map_or}
use Rattle.cert_format.specs.declared.typing.FrameType.{FrameType}
use Rattle.cert_format.specs.declared.typing.VType.{VType}
use Rattle.bytecode_model.specs.Makes.{below, changed}
use Rattle.bytecode_model.specs.InsnPlace.{InsnPlace}
use Rattle.bytecode_model.specs.Rules.{Frames, frame_of, goes_well, taken}
use Rattle.bytecode_model.specs.Wants.{takes}
use Rattle.code_typing.specs.declared.change.Change.{Change}
use Rattle.code_typing.specs.declared.change.Change.TheVariants.{Nothing}
use Rattle.code_typing.specs.Changing.{change_told, frame_takes}
use Rattle.code_typing.proofs.Fitting.{goes_told}

-- Types that nothing becomes of.
pub unchanged : (types : List VType) → map (change_told Nothing) types ≡ types
unchanged [] = refl
unchanged (t ∷ types) = ap (λ (l : List VType). t ∷ l) (unchanged types)

-- what is left of the frame, by the operands that the instruction takes
pub left_goes : (place : InsnPlace) (frame : FrameType) (change : Change) (locals kept top : List VType) → locals ≡ frame.locals
    → kept ≡ below (length (takes place)) frame.stack → top ≡ taken place frame → ((t : VType) → change_told change t ≡ changed place top t)
    → (to : FrameType) → frame_takes place change locals kept top to ≡ goes_well place frame to
left_goes place frame change locals kept top same rest taken_same told to =
    ap (λ (l : List VType). frame_takes place change l kept top to) same
    ∙ ap (λ (l : List VType). frame_takes place change frame.locals l top to) rest
    ∙ ap (λ (l : List VType). frame_takes place change frame.locals (below (length (takes place)) frame.stack) l to) taken_same
    ∙ goes_told place frame to change (λ t. told t ∙ ap (λ (s : List VType). changed place s t) taken_same)

same_there : {A : Type 0} (f g : A → Bool) → ((x : A) → f x ≡ g x) → (o : Option A) → option_map_or f o false ≡ option_map_or g o false
same_there f g same None = refl
same_there f g same (Some x) = same x

-- Each of the instructions that are gone to takes what is left.
pub arrive_same : (frames : Frames) (f g : FrameType → Bool) → ((to : FrameType) → f to ≡ g to) → (at : List ℕ)
    → list_all (λ to. option_map_or f (frame_of frames to) false) at ≡ list_all (λ to. option_map_or g (frame_of frames to) false) at
arrive_same frames f g same [] = refl
arrive_same frames f g same (to ∷ later) = rw (same_there f g same (frame_of frames to), arrive_same frames f g same later) refl
