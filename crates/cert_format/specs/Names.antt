-- The names that the types of a certificate use: each once, in the order of their first use. (docs/CERTIFICATES.md)
use Rattle.std.specs.Prelude.{◌≡◌, ℕ, suc, ◌<◌, List, [], ◌∷◌, ◌++◌, length, get_or, Option, Some, None, bytes_eq, nat_lt, if◌then◌else◌}
use Rattle.std.specs.List.{flat_map, fold}
use Rattle.cert_format.specs.declared.typing.VType.{VType}
use Rattle.cert_format.specs.declared.typing.VType.TheVariants as types
use Rattle.cert_format.specs.declared.typing.FrameType.{FrameType}
use Rattle.cert_format.specs.declared.typing.Typing.{Typing}

abbrev pub Name : Type 0
Name = List ℕ

-- the first place at which the name stands, or the length where it stands nowhere
abbrev pub name_index : List Name → Name → ℕ
name_index [] name = 0
name_index (first ∷ names) name = if bytes_eq first name then 0 else suc (name_index names name)

-- no name stands twice
abbrev pub StandOnce : List Name → Type 0
StandOnce names = (i : ℕ) → i < length names → name_index names (get_or names i []) ≡ i

-- the names, and then this one if it is new
abbrev pub with_name : List Name → Name → List Name
with_name names name = if nat_lt (name_index names name) (length names) then names else names ++ name ∷ []

-- the names, and then those of more that are new
abbrev pub with_names : List Name → List Name → List Name
with_names names more = fold with_name names more

-- ---- the names in order of use

abbrev pub type_names : VType → List Name
type_names types.Top = []
type_names types.Int = []
type_names types.Null = []
type_names (types.Ref name) = name ∷ []
type_names types.UninitThis = []
type_names (types.Uninit at) = []

abbrev pub frame_names : Option FrameType → List Name
frame_names None = []
frame_names (Some frame) = flat_map type_names frame.locals ++ flat_map type_names frame.stack

abbrev pub method_names : List (Option FrameType) → List Name
method_names frames = flat_map frame_names frames

abbrev pub class_names : List (List (Option FrameType)) → List Name
class_names methods = flat_map method_names methods

abbrev pub typing_names : Typing → List Name
typing_names typing = flat_map class_names typing.frames

-- each once, in the order of their first use
abbrev pub names_of : Typing → List Name
names_of typing = with_names [] (typing_names typing)
