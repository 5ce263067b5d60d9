-- Types of instructions that stand elsewhere: an object that is not made yet is told by the index of its `new`. (docs/BLOCKS.md)
use Rattle.std.specs.Prelude.{ℕ, map}
use Rattle.cert_format.specs.declared.typing.FrameType.{FrameType}
use Rattle.cert_format.specs.declared.typing.VType.{VType}
use Rattle.cert_format.specs.declared.typing.VType.TheVariants as types

-- the type, where each index has become another
abbrev pub renamed : (ℕ → ℕ) → VType → VType
renamed moved (types.Uninit at) = types.Uninit (moved at)
renamed moved t = t

abbrev pub frame_renamed : (ℕ → ℕ) → FrameType → FrameType
frame_renamed moved frame = record { locals = map (renamed moved) frame.locals; stack = map (renamed moved) frame.stack }
