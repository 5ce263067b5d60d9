-- Which certificates can be encoded, and with how many variables. (docs/CERTIFICATES.md)
use Rattle.std.specs.Prelude.{◌≡◌, ℕ, ◌-◌, Bool, true, false, List, length, slice_get, Option, Some, None, FitsSigned, ⊤}
use Rattle.std.specs.List.{AllByRecursion, zip}
use Rattle.std.specs.Int.{w32}
use Rattle.mon_base.specs.Widths.{IsU1, IsU2, IsU4}
use Rattle.cert_format.specs.declared.typing.VType.{VType}
use Rattle.cert_format.specs.declared.typing.VType.TheVariants as types
use Rattle.cert_format.specs.declared.typing.FrameType.{FrameType}
use Rattle.cert_format.specs.declared.note.Site.{Site}
use Rattle.cert_format.specs.declared.note.Term.{Term}
use Rattle.cert_format.specs.declared.note.Term.TheVariants as terms
use Rattle.cert_format.specs.declared.note.Note.{Note}
use Rattle.cert_format.specs.declared.note.Note.TheVariants as notes
use Rattle.cert_format.specs.declared.certificate.Certificate.{Certificate}
use Rattle.cert_format.specs.Names.{Name, names_of}
use Rattle.cert_format.specs.Encoding.{encode_certificate}

-- ---- frame types

abbrev pub FitsType : VType → Type 0
FitsType (types.Uninit at) = IsU4 at
FitsType other = ⊤

abbrev pub is_top : Option VType → Bool
is_top (Some types.Top) = true
is_top other = false

-- the last of the types, if there is one, is Top
abbrev pub ends_with_top : List VType → Bool
ends_with_top types = is_top (slice_get types (length types - 1))

abbrev pub FitTypes : List VType → Type 0
FitTypes types = IsU2 (length types) × AllByRecursion FitsType types

pub record FitsFrame (frame : FrameType) : Type 0 where
  pub locals : FitTypes frame.locals
  pub last : ends_with_top frame.locals ≡ false
  pub stack : FitTypes frame.stack

-- ---- notes

abbrev pub FitsTerm : Term → Type 0
FitsTerm (terms.Const n) = FitsSigned w32 n
FitsTerm (terms.Var v) = IsU1 v
FitsTerm (terms.VarAdd v n) = IsU1 v × FitsSigned w32 n
FitsTerm (terms.Arg a) = IsU1 a
FitsTerm terms.Result = ⊤
FitsTerm terms.Lock = ⊤

abbrev pub FitsSite : Site → Type 0
FitsSite site = IsU2 site.method × IsU2 site.base

-- The map of what is held has a term for each of so many variables.
abbrev pub FitsNote : ℕ → Note → Type 0
FitsNote vars notes.Free = ⊤
FitsNote vars (notes.Taking site) = FitsSite site
FitsNote vars (notes.Held site failed holding stack map) =
    FitsSite site × (IsU1 failed × (IsU1 holding × ((IsU1 (length stack) × AllByRecursion FitsTerm stack) × ((length map ≡ vars) × AllByRecursion FitsTerm map))))
FitsNote vars (notes.Granted site locked loaded top) = FitsSite site × IsU1 loaded
FitsNote vars (notes.Owed site stage kept top) = FitsSite site × IsU1 stage
FitsNote vars (notes.Stop site place) = FitsSite site × IsU1 place

-- ---- the whole

-- An instruction that is not reached has the note Free.
abbrev pub FitsInstruction : ℕ → Option FrameType × Note → Type 0
FitsInstruction vars (None, note) = note ≡ notes.Free
FitsInstruction vars (Some frame, note) = FitsFrame frame × FitsNote vars note

-- There is a note for each frame, and each pair of them fits.
abbrev pub FitPaired : {F N : Type 0} → (F × N → Type 0) → List F × List N → Type 0
FitPaired FitsPair lists = (length lists.1 ≡ length lists.0) × AllByRecursion FitsPair (zip lists.0 lists.1)

abbrev pub FitsMethod : ℕ → List (Option FrameType) × List Note → Type 0
FitsMethod vars method = IsU4 (length method.0) × FitPaired (FitsInstruction vars) method

abbrev pub FitsClass : ℕ → List (List (Option FrameType)) × List (List Note) → Type 0
FitsClass vars class = IsU2 (length class.0) × FitPaired (FitsMethod vars) class

abbrev pub FitClasses : ℕ → List (List (List (Option FrameType))) × List (List (List Note)) → Type 0
FitClasses vars classes = IsU2 (length classes.0) × FitPaired (FitsClass vars) classes

abbrev pub FitNames : List Name → Type 0
FitNames names = IsU4 (length names) × AllByRecursion (λ name. IsU2 (length name)) names

-- Some bytes, of whatever length, are those of the certificate for a policy of so many variables.
pub record IsEncodable (vars : ℕ) (c : Certificate) : Type 0 where
  pub names : FitNames (names_of c.typing)
  pub classes : FitClasses vars (c.typing.frames, c.notes)

-- The bytes are those of the certificate.
pub record EncodesCertificate (bytes : List ℕ) (vars : ℕ) (c : Certificate) : Type 0 where
  pub is : bytes ≡ encode_certificate c
  pub fits : IsEncodable vars c
