-- Reading a certificate from left to right: what stands there and the place after it, or where the first item that
-- fits none begins.
--
-- The types have to use the names of the table in its order. So what reads types is given how many names were used
-- before, and answers beside the value how many are used after it: a type may use one of these, or the next.
-- (docs/CERTIFICATES.md)
use Rattle.std.specs.Prelude.{◌≡◌, ℕ, ℤ, zero, suc, ◌+◌, ◌-◌, ◌==◌, ◌&&◌, not, Bool, true, false, List, [], ◌∷◌, ◌++◌, length, get_or, map, Option, Some, None, Result, Ok, Err, ok_or, nat_lt, nat_le, if◌then◌else◌}
use Rattle.std.specs.Int.{w32, cast_signed}
use Rattle.mon_base.specs.Reading.{Place, ◌>>=◌, need, bytes_at, number_at, counted, whole}
use Rattle.cert_format.specs.declared.fault.CertForm.{CertForm}
use Rattle.cert_format.specs.declared.fault.CertForm.TheVariants.{Form, Memory}
use Rattle.cert_format.specs.declared.typing.VType.{VType}
use Rattle.cert_format.specs.declared.typing.VType.TheVariants as types
use Rattle.cert_format.specs.declared.typing.FrameType.{FrameType}
use Rattle.cert_format.specs.declared.note.Phase8.{Phase8}
use Rattle.cert_format.specs.declared.note.Phase8.TheVariants as phases
use Rattle.cert_format.specs.declared.note.Site.{Site}
use Rattle.cert_format.specs.declared.note.Term.{Term}
use Rattle.cert_format.specs.declared.note.Term.TheVariants as terms
use Rattle.cert_format.specs.declared.note.Note.{Note}
use Rattle.cert_format.specs.declared.note.Note.TheVariants as notes
use Rattle.cert_format.specs.declared.certificate.Mode.{Mode}
use Rattle.cert_format.specs.declared.certificate.Mode.TheVariants as modes
use Rattle.cert_format.specs.declared.certificate.Certificate.{Certificate}
use Rattle.mon_base.specs.Answer.{Fails}
use Rattle.cert_format.specs.Names.{Name, name_index}
use Rattle.cert_format.specs.Fits.{ends_with_top}

-- What the reader of X answers: the value and the place after it, or the fault.
abbrev pub Decoded : Type 0 → Type 0
Decoded X = Result (X × Place) CertForm

-- What a call answered, how many names are used after it, and the place where it left, are what reading gives; unless memory ran out.
abbrev pub Uses : {X : Type 0} → Result X CertForm → Decoded (X × ℕ) → ℕ → Place → Type 0
Uses (Ok x) read used new = read ≡ Ok ((x, used), new)
Uses (Err e) read used new = Fails Memory e read

-- ---- numbers and bytes

unfoldable pub u1_at : Place → Decoded ℕ
u1_at p = ok_or (number_at 1 p) (Form p.at)

unfoldable pub u2_at : Place → Decoded ℕ
u2_at p = ok_or (number_at 2 p) (Form p.at)

unfoldable pub u4_at : Place → Decoded ℕ
u4_at p = ok_or (number_at 4 p) (Form p.at)

unfoldable pub i4_at : Place → Decoded ℤ
i4_at p = do
  n ← u4_at p
  Ok (cast_signed w32 n.0, n.1)

unfoldable pub taken_at : ℕ → Place → Decoded (List ℕ)
taken_at n p = ok_or (bytes_at n p) (Form p.at)

-- the flag that the number is, which stands at `at`
abbrev pub flag_of : ℕ → ℕ → Result Bool CertForm
flag_of at n = if n == 0 then Ok false else if n == 1 then Ok true else Err (Form at)

unfoldable pub flag_at : Place → Decoded Bool
flag_at p = do
  number ← u1_at p
  is ← flag_of p.at number.0
  Ok (is, number.1)

-- ---- the head and the names

unfoldable pub mode_of : ℕ → ℕ → Result Mode CertForm
mode_of at n = if n == 0 then Ok modes.Hold else if n == 1 then Ok modes.Release else Err (Form at)

unfoldable pub head_at : Place → Decoded Mode
head_at p = do
  magic ← u4_at p
  known ← need (magic.0 == 0x43535043) (Form p.at)
  version ← u2_at magic.1
  first ← need (version.0 == 1) (Form magic.1.at)
  number ← u1_at version.1
  mode ← mode_of version.1.at number.0
  Ok (mode, number.1)

-- a name that is none of these
unfoldable pub told_name : List Name → Place → Decoded Name
told_name before p = do
  len ← u2_at p
  name ← taken_at len.0 len.1
  new ← need (not (nat_lt (name_index before name.0) (length before))) (Form len.1.at)
  Ok name

-- these, and so many more
unfoldable pub more_names_at : ℕ → List Name → Place → Decoded (List Name)
more_names_at zero before p = Ok (before, p)
more_names_at (suc n) before p = do
  name ← told_name before p
  more_names_at n (before ++ name.0 ∷ []) name.1

unfoldable pub names_at : Place → Decoded (List Name)
names_at p = do
  count ← u4_at p
  more_names_at count.0 [] count.1

-- ---- items that use names, one after another

unfoldable pub several_at : {X : Type 0} → (ℕ → Place → Decoded (X × ℕ)) → ℕ → ℕ → Place → Decoded (List X × ℕ)
several_at item zero used p = Ok (([], used), p)
several_at item (suc n) used p = do
  first ← item used p
  others ← several_at item n first.0.1 first.1
  Ok ((first.0.0 ∷ others.0.0, others.0.1), others.1)

-- two bytes of count, and the items; or four
unfoldable pub short_list_at : {X : Type 0} → (ℕ → Place → Decoded (X × ℕ)) → ℕ → Place → Decoded (List X × ℕ)
short_list_at item used p = do
  count ← u2_at p
  several_at item count.0 used count.1

unfoldable pub long_list_at : {X : Type 0} → (ℕ → Place → Decoded (X × ℕ)) → ℕ → Place → Decoded (List X × ℕ)
long_list_at item used p = do
  count ← u4_at p
  several_at item count.0 used count.1

-- pairs as two lists
abbrev pub unzipped : {F N : Type 0} → List (F × N) → List F × List N
unzipped pairs = (map (λ pair. pair.0) pairs, map (λ pair. pair.1) pairs)

-- pairs that are read, as two lists
abbrev pub as_lists : {F N : Type 0} → Decoded (List (F × N) × ℕ) → Decoded ((List F × List N) × ℕ)
as_lists read = read >>= λ pairs. Ok ((unzipped pairs.0.0, pairs.0.1), pairs.1)

-- ---- frame types

-- how many names are used once the one at this place is used too
abbrev pub used_with : ℕ → ℕ → ℕ
used_with used place = if place == used then used + 1 else used

-- the reference of a type that begins at `at`
unfoldable pub reference_at : List Name → ℕ → ℕ → Place → Decoded (VType × ℕ)
reference_at names at used p = do
  place ← u4_at p
  known ← need (nat_le place.0 used && nat_lt place.0 (length names)) (Form at)
  Ok ((types.Ref (get_or names place.0 []), used_with used place.0), place.1)

-- a type that begins at `at`, after its kind
unfoldable pub type_of_kind : List Name → ℕ → ℕ → ℕ → Place → Decoded (VType × ℕ)
type_of_kind names at used kind p =
    if kind == 0 then Ok ((types.Top, used), p)
    else if kind == 1 then Ok ((types.Int, used), p)
    else if kind == 2 then Ok ((types.Null, used), p)
    else if kind == 3 then reference_at names at used p
    else if kind == 4 then Ok ((types.UninitThis, used), p)
    else if kind == 5 then (u4_at p >>= λ index. Ok ((types.Uninit index.0, used), index.1))
    else Err (Form at)

unfoldable pub told_type : List Name → ℕ → Place → Decoded (VType × ℕ)
told_type names used p = do
  kind ← u1_at p
  type_of_kind names p.at used kind.0 kind.1

unfoldable pub types_at : List Name → ℕ → Place → Decoded (List VType × ℕ)
types_at names used p = short_list_at (told_type names) used p

-- A last local that is Top is the last byte before the place.
unfoldable pub locals_at : List Name → ℕ → Place → Decoded (List VType × ℕ)
locals_at names used p = do
  locals ← types_at names used p
  shortest ← need (not (ends_with_top locals.0.0)) (Form (locals.1.at - 1))
  Ok locals

unfoldable pub frame_at : List Name → ℕ → Place → Decoded (FrameType × ℕ)
frame_at names used p = do
  locals ← locals_at names used p
  stack ← types_at names locals.0.1 locals.1
  Ok ((record { locals = locals.0.0; stack = stack.0.0 }, stack.0.1), stack.1)

-- ---- notes

unfoldable pub pair_at : {A B : Type 0} → (Place → Decoded A) → (Place → Decoded B) → Place → Decoded (A × B)
pair_at first second p = do
  a ← first p
  b ← second a.1
  Ok ((a.0, b.0), b.1)

-- a term that begins at `at`, after its kind
unfoldable pub term_of_kind : ℕ → ℕ → Place → Decoded Term
term_of_kind at kind p =
    if kind == 0 then (i4_at p >>= λ n. Ok (terms.Const n.0, n.1))
    else if kind == 1 then (u1_at p >>= λ v. Ok (terms.Var v.0, v.1))
    else if kind == 2 then (pair_at u1_at i4_at p >>= λ x. Ok (terms.VarAdd x.0.0 x.0.1, x.1))
    else if kind == 3 then (u1_at p >>= λ a. Ok (terms.Arg a.0, a.1))
    else if kind == 4 then Ok (terms.Result, p)
    else if kind == 5 then Ok (terms.Lock, p)
    else Err (Form at)

unfoldable pub term_at : Place → Decoded Term
term_at p = do
  kind ← u1_at p
  term_of_kind p.at kind.0 kind.1

-- one byte of count, and the terms
unfoldable pub terms_at : Place → Decoded (List Term)
terms_at p = do
  count ← u1_at p
  counted term_at count.0 count.1

unfoldable pub phase_of : ℕ → ℕ → Result Phase8 CertForm
phase_of at n =
    if n == 0 then Ok phases.Before
    else if n == 1 then Ok phases.After
    else if n == 2 then Ok phases.Exceptional
    else Err (Form at)

unfoldable pub phase_at : Place → Decoded Phase8
phase_at p = do
  number ← u1_at p
  phase ← phase_of p.at number.0
  Ok (phase, number.1)

unfoldable pub site_at : Place → Decoded Site
site_at p = do
  x ← pair_at u2_at (pair_at phase_at u2_at) p
  Ok (record { method = x.0.0; phase = x.0.1.0; base = x.0.1.1 }, x.1)

unfoldable pub held_at : ℕ → Place → Decoded Note
held_at vars p = do
  x ← pair_at site_at (pair_at u1_at (pair_at u1_at (pair_at terms_at (counted term_at vars)))) p
  Ok (notes.Held x.0.0 x.0.1.0 x.0.1.1.0 x.0.1.1.1.0 x.0.1.1.1.1, x.1)

unfoldable pub granted_at : Place → Decoded Note
granted_at p = do
  x ← pair_at site_at (pair_at flag_at (pair_at u1_at flag_at)) p
  Ok (notes.Granted x.0.0 x.0.1.0 x.0.1.1.0 x.0.1.1.1, x.1)

unfoldable pub owed_at : Place → Decoded Note
owed_at p = do
  x ← pair_at site_at (pair_at u1_at (pair_at flag_at flag_at)) p
  Ok (notes.Owed x.0.0 x.0.1.0 x.0.1.1.0 x.0.1.1.1, x.1)

unfoldable pub stop_at : Place → Decoded Note
stop_at p = do
  x ← pair_at site_at u1_at p
  Ok (notes.Stop x.0.0 x.0.1, x.1)

-- a note that begins at `at`, after its kind
unfoldable pub note_of_kind : ℕ → ℕ → ℕ → Place → Decoded Note
note_of_kind vars at kind p =
    if kind == 0 then Ok (notes.Free, p)
    else if kind == 1 then (site_at p >>= λ site. Ok (notes.Taking site.0, site.1))
    else if kind == 2 then held_at vars p
    else if kind == 3 then granted_at p
    else if kind == 4 then owed_at p
    else if kind == 5 then stop_at p
    else Err (Form at)

unfoldable pub note_at : ℕ → Place → Decoded Note
note_at vars p = do
  kind ← u1_at p
  note_of_kind vars p.at kind.0 kind.1

-- the note of an instruction that is not reached
unfoldable pub free_at : Place → Decoded Note
free_at p = do
  kind ← u1_at p
  free ← need (kind.0 == 0) (Form p.at)
  Ok (notes.Free, kind.1)

-- ---- instructions

unfoldable pub not_reached_at : ℕ → Place → Decoded ((Option FrameType × Note) × ℕ)
not_reached_at used p = do
  note ← free_at p
  Ok (((None, note.0), used), note.1)

unfoldable pub reached_at : ℕ → List Name → ℕ → Place → Decoded ((Option FrameType × Note) × ℕ)
reached_at vars names used p = do
  frame ← frame_at names used p
  note ← note_at vars frame.1
  Ok (((Some frame.0.0, note.0), frame.0.1), note.1)

unfoldable pub instruction_at : ℕ → List Name → ℕ → Place → Decoded ((Option FrameType × Note) × ℕ)
instruction_at vars names used p = do
  reached ← flag_at p
  if reached.0 then reached_at vars names used reached.1 else not_reached_at used reached.1

unfoldable pub told_method : ℕ → List Name → ℕ → Place → Decoded ((List (Option FrameType) × List Note) × ℕ)
told_method vars names used p = as_lists (long_list_at (instruction_at vars names) used p)

unfoldable pub told_class : ℕ → List Name → ℕ → Place → Decoded ((List (List (Option FrameType)) × List (List Note)) × ℕ)
told_class vars names used p = as_lists (short_list_at (told_method vars names) used p)

unfoldable pub classes_at : ℕ → List Name → ℕ → Place → Decoded ((List (List (List (Option FrameType))) × List (List (List Note))) × ℕ)
classes_at vars names used p = as_lists (short_list_at (told_class vars names) used p)

-- ---- the whole

-- the classes, whose types use each of the names
unfoldable pub body_at : ℕ → Mode → List Name → Place → Decoded Certificate
body_at vars mode names p = do
  classes ← classes_at vars names 0 p
  all ← need (classes.0.1 == length names) (Form classes.1.at)
  Ok (record { mode = mode; typing = record { frames = classes.0.0.0 }; notes = classes.0.0.1 }, classes.1)

unfoldable pub certificate_at : ℕ → Place → Decoded Certificate
certificate_at vars p = do
  mode ← head_at p
  names ← names_at mode.1
  body_at vars mode.0 names.0 names.1

-- All the bytes are read.
unfoldable pub certificate_of : ℕ → List ℕ → Result Certificate CertForm
certificate_of vars bytes = whole (certificate_at vars) (λ p. Form p.at) bytes
