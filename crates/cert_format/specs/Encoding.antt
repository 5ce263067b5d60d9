-- The bytes of a certificate: the one encoding of each. (docs/CERTIFICATES.md)
use Rattle.std.specs.Prelude.{ℕ, ℤ, Bool, true, false, List, ◌++◌, length, Option, Some, None}
use Rattle.std.specs.List.{flat_map, zip}
use Rattle.std.specs.Int.{w32, cast_unsigned}
use Rattle.mon_base.specs.Widths.{u1, u2, u4}
use Rattle.cert_format.specs.declared.typing.VType.{VType}
use Rattle.cert_format.specs.declared.typing.VType.TheVariants as types
use Rattle.cert_format.specs.declared.typing.FrameType.{FrameType}
use Rattle.cert_format.specs.declared.note.Phase8.{Phase8}
use Rattle.cert_format.specs.declared.note.Phase8.TheVariants as phases
use Rattle.cert_format.specs.declared.note.Site.{Site}
use Rattle.cert_format.specs.declared.note.Term.{Term}
use Rattle.cert_format.specs.declared.note.Term.TheVariants as terms
use Rattle.cert_format.specs.declared.note.Note.{Note}
use Rattle.cert_format.specs.declared.note.Note.TheVariants as notes
use Rattle.cert_format.specs.declared.certificate.Mode.{Mode}
use Rattle.cert_format.specs.declared.certificate.Mode.TheVariants as modes
use Rattle.cert_format.specs.declared.certificate.Certificate.{Certificate}
use Rattle.cert_format.specs.Names.{Name, name_index, names_of}

abbrev pub i4 : ℤ → List ℕ
i4 n = u4 (cast_unsigned w32 n)

abbrev pub flag : Bool → List ℕ
flag false = u1 0
flag true = u1 1

-- ---- frame types

abbrev pub encode_type : List Name → VType → List ℕ
encode_type names types.Top = u1 0
encode_type names types.Int = u1 1
encode_type names types.Null = u1 2
encode_type names (types.Ref name) = u1 3 ++ u4 (name_index names name)
encode_type names types.UninitThis = u1 4
encode_type names (types.Uninit at) = u1 5 ++ u4 at

abbrev pub encode_types : List Name → List VType → List ℕ
encode_types names types = u2 (length types) ++ flat_map (encode_type names) types

-- whether it is reached, and its frame if so
abbrev pub encode_frame : List Name → Option FrameType → List ℕ
encode_frame names None = u1 0
encode_frame names (Some frame) = u1 1 ++ (encode_types names frame.locals ++ encode_types names frame.stack)

-- ---- notes

abbrev pub encode_term : Term → List ℕ
encode_term (terms.Const n) = u1 0 ++ i4 n
encode_term (terms.Var v) = u1 1 ++ u1 v
encode_term (terms.VarAdd v n) = u1 2 ++ u1 v ++ i4 n
encode_term (terms.Arg a) = u1 3 ++ u1 a
encode_term terms.Result = u1 4
encode_term terms.Lock = u1 5

-- one byte of count, and the terms
abbrev pub encode_terms : List Term → List ℕ
encode_terms stack = u1 (length stack) ++ flat_map encode_term stack

abbrev pub encode_phase : Phase8 → List ℕ
encode_phase phases.Before = u1 0
encode_phase phases.After = u1 1
encode_phase phases.Exceptional = u1 2

abbrev pub encode_site : Site → List ℕ
encode_site site = u2 site.method ++ (encode_phase site.phase ++ u2 site.base)

-- a map has no count before it: it has one term for each variable
abbrev pub encode_note : Note → List ℕ
encode_note notes.Free = u1 0
encode_note (notes.Taking site) = u1 1 ++ encode_site site
encode_note (notes.Held site failed holding stack map) =
    u1 2 ++ (encode_site site ++ (u1 failed ++ (u1 holding ++ (encode_terms stack ++ flat_map encode_term map))))
encode_note (notes.Granted site locked loaded top) = u1 3 ++ (encode_site site ++ (flag locked ++ (u1 loaded ++ flag top)))
encode_note (notes.Owed site stage kept top) = u1 4 ++ (encode_site site ++ (u1 stage ++ (flag kept ++ flag top)))
encode_note (notes.Stop site place) = u1 5 ++ (encode_site site ++ u1 place)

-- ---- the whole

-- an instruction: its frame and its note
abbrev pub encode_instruction : List Name → Option FrameType × Note → List ℕ
encode_instruction names instruction = encode_frame names instruction.0 ++ encode_note instruction.1

-- the frames and the notes of a method's instructions
abbrev pub encode_method : List Name → List (Option FrameType) × List Note → List ℕ
encode_method names method = u4 (length method.0) ++ flat_map (encode_instruction names) (zip method.0 method.1)

abbrev pub encode_class : List Name → List (List (Option FrameType)) × List (List Note) → List ℕ
encode_class names class = u2 (length class.0) ++ flat_map (encode_method names) (zip class.0 class.1)

abbrev pub encode_classes : List Name → List (List (List (Option FrameType))) × List (List (List Note)) → List ℕ
encode_classes names classes = u2 (length classes.0) ++ flat_map (encode_class names) (zip classes.0 classes.1)

abbrev pub encode_name : Name → List ℕ
encode_name name = u2 (length name) ++ name

abbrev pub encode_names : List Name → List ℕ
encode_names names = u4 (length names) ++ flat_map encode_name names

abbrev pub encode_mode : Mode → List ℕ
encode_mode modes.Hold = u1 0
encode_mode modes.Release = u1 1

-- "CSPC", the version 1, the mode
abbrev pub encode_head : Mode → List ℕ
encode_head mode = u4 0x43535043 ++ (u2 1 ++ encode_mode mode)

abbrev pub encode_certificate : Certificate → List ℕ
encode_certificate c =
    encode_head c.mode ++ (encode_names (names_of c.typing) ++ encode_classes (names_of c.typing) (c.typing.frames, c.notes))
