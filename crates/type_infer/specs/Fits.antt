-- What a certificate asks of the frames that it tells. (docs/TYPING.md)
use Rattle.std.specs.Prelude.{List, Option, Some, None, ⊤}
use Rattle.std.specs.List.{AllByRecursion}
use Rattle.cert_format.specs.declared.typing.FrameType.{FrameType}
use Rattle.cert_format.specs.declared.typing.Typing.{Typing}
use Rattle.cert_format.specs.Fits.{FitsFrame}

abbrev pub FitsTold : Option FrameType → Type 0
FitsTold None = ⊤
FitsTold (Some frame) = FitsFrame frame

abbrev pub FitFrames : List (Option FrameType) → Type 0
FitFrames frames = AllByRecursion FitsTold frames

-- Each frame of the typing can be told.
abbrev pub FitsTyping : Typing → Type 0
FitsTyping typing = AllByRecursion (λ (methods : List (List (Option FrameType))). AllByRecursion FitFrames methods) typing.frames
