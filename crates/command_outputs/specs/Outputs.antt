-- The files that are written of a program and its certificate. (docs/COMMANDS.md)
use Rattle.std.specs.Prelude.{ℕ, ◌&&◌, nat_le, nat_lt, Bool, true, if◌then◌else◌, List, [], ◌∷◌, ◌++◌, length, codes, map, Option, Some, None, Result, Ok, Err}
use Rattle.std.specs.List.{list_all}
use Rattle.bytecode_model.specs.declared.program.LinkedClass.{LinkedClass}
use Rattle.bytecode_model.specs.declared.program.Program.{Program}
use Rattle.cert_format.specs.declared.certificate.Certificate.{Certificate as Told}
use Rattle.cert_format.specs.declared.fault.CertLong.{CertLong}
use Rattle.cert_format.specs.declared.fault.CertLong.TheVariants.{Certificate}
use Rattle.cert_format.specs.declared.typing.FrameType.{FrameType}
use Rattle.cert_format.specs.declared.typing.Typing.{Typing}
use Rattle.cert_format.specs.declared.typing.VType.{VType}
use Rattle.cert_format.specs.declared.typing.VType.TheVariants as types
use Rattle.cert_format.specs.Encoding.{encode_certificate}
use Rattle.class_codec.specs.Encoding.{encoding}
use Rattle.mon_store.specs.declared.outputs.Output.{Output}

-- ---- names

-- FOLDER/NAME.class
abbrev pub file_name : List ℕ → List ℕ → List ℕ
file_name folder name = folder ++ 47 ∷ name ++ codes ".class"

abbrev pub class_name : List ℕ → LinkedClass → List ℕ
class_name folder class = file_name folder class.name

abbrev pub certificate_name : List ℕ → List ℕ
certificate_name folder = folder ++ codes "/certificate"

-- ---- what is written

abbrev pub class_output : List ℕ → LinkedClass → Output
class_output folder class = record { name = class_name folder class; bytes = encoding class.file }

abbrev pub certificate_output : List ℕ → List ℕ → Output
certificate_output folder bytes = record { name = certificate_name folder; bytes = bytes }

-- the classes in their order, and last the certificate
abbrev pub outputs_of : List ℕ → Program → Told → List Output
outputs_of folder program certificate = map (class_output folder) program.classes ++ certificate_output folder (encode_certificate certificate) ∷ []

-- ---- whether it is written

-- two bytes tell the length of a name
abbrev pub is_type_short : VType → Bool
is_type_short (types.Ref name) = nat_lt (length name) 65536
is_type_short types.Top = true
is_type_short types.Int = true
is_type_short types.Null = true
is_type_short types.UninitThis = true
is_type_short (types.Uninit at) = true

abbrev pub is_frame_short : Option FrameType → Bool
is_frame_short None = true
is_frame_short (Some frame) = list_all is_type_short frame.locals && list_all is_type_short frame.stack

abbrev pub are_short : Typing → Bool
are_short typing = list_all (λ class. list_all (λ method. list_all is_frame_short method) class) typing.frames

-- A certificate can tell the names of its types, and has at most 64 MiB.
abbrev pub is_written : Told → Bool
is_written certificate = are_short certificate.typing && nat_le (length (encode_certificate certificate)) 67108864

-- what is written, or how many bytes the certificate would have
abbrev pub outputs_told : List ℕ → Program → Told → Result (List Output) CertLong
outputs_told folder program certificate =
    if is_written certificate then Ok (outputs_of folder program certificate) else Err (Certificate (length (encode_certificate certificate)))
