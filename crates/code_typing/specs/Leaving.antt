-- What an instruction leaves, and the frames that take it. (docs/TYPING.md)
use Rattle.std.specs.Prelude.{ℕ, Bool, false}
use Rattle.std.specs.Option.{option_map_or}
use Rattle.cert_format.specs.declared.typing.FrameType.{FrameType}
use Rattle.bytecode_model.specs.InsnPlace.{InsnPlace}
use Rattle.bytecode_model.specs.Rules.{Frames, frame_of}
use Rattle.code_typing.specs.declared.following.Left.{Left}
use Rattle.code_typing.specs.Changing.{frame_takes}

-- What is left is assignable to the frame.
abbrev pub left_fits : InsnPlace → Left → FrameType → Bool
left_fits place left to = frame_takes place left.change left.locals.now left.kept.now left.taken.now to

-- The instruction that is gone to has a frame that takes what is left.
abbrev pub arrives : Frames → InsnPlace → Left → ℕ → Bool
arrives frames place left to = option_map_or (left_fits place left) (frame_of frames to) false
