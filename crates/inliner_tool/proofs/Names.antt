-- The names of a certificate that is written.
use Rattle.std.proofs.Common.{◌≡◌, ◌≤◌, Bool, true, false, cond, List, [], ◌∷◌, ◌++◌, length, Option, Some, None, refl, arith, length-append}
use Rattle.std.specs.Prelude.{nat_le, nat_lt}
use Rattle.std.specs.List.{AllByRecursion, flat_map, list_all}
use Rattle.std.proofs.lemmas.Bool.{and_parts, leb-true, ltb-true}
use Rattle.mon_base.specs.Widths.{IsU2}
use Rattle.bytecode_model.proofs.Lists.{all_append}
use Rattle.cert_format.specs.declared.certificate.Certificate.{Certificate}
use Rattle.cert_format.specs.declared.typing.FrameType.{FrameType}
use Rattle.cert_format.specs.declared.typing.Typing.{Typing}
use Rattle.cert_format.specs.declared.typing.VType.{VType}
use Rattle.cert_format.specs.declared.typing.VType.TheVariants as types
use Rattle.cert_format.specs.Fits.{FitNames}
use Rattle.cert_format.specs.Names.{Name, class_names, frame_names, method_names, name_index, names_of, type_names, typing_names, with_name, with_names}
use Rattle.mon_base.specs.Widths.{u2, u4}
use Rattle.cert_format.specs.Encoding.{encode_certificate, encode_classes, encode_head, encode_name, encode_names}
use Rattle.command_outputs.specs.Outputs.{are_short, is_frame_short, is_type_short, is_written}

-- ---- names that are short

abbrev Short : Name → Type 0
Short name = IsU2 (length name)

-- what holds of the parts of a list holds of what they are made of
all_flat : {A : Type 0} (p : A → Bool) (f : A → List Name) → ((x : A) → p x ≡ true → AllByRecursion Short (f x)) → (list : List A) → list_all p list ≡ true → AllByRecursion Short (flat_map f list)
all_flat p f each [] e = tt
all_flat p f each (x ∷ list) e =
    let both = and_parts (p x) (list_all p list) e in
    all_append Short (f x) (flat_map f list) (each x both.0) (all_flat p f each list both.1)

type_short : (t : VType) → is_type_short t ≡ true → AllByRecursion Short (type_names t)
type_short (types.Ref name) e = (ltb-true (length name) 65536 e, tt)
type_short types.Top e = tt
type_short types.Int e = tt
type_short types.Null e = tt
type_short types.UninitThis e = tt
type_short (types.Uninit at) e = tt

frame_short : (f : Option FrameType) → is_frame_short f ≡ true → AllByRecursion Short (frame_names f)
frame_short None e = tt
frame_short (Some f) e =
    let both = and_parts (list_all is_type_short f.locals) (list_all is_type_short f.stack) e in
    all_append Short (flat_map type_names f.locals) (flat_map type_names f.stack) (all_flat is_type_short type_names type_short f.locals both.0) (all_flat is_type_short type_names type_short f.stack both.1)

typing_short : (typing : Typing) → are_short typing ≡ true → AllByRecursion Short (typing_names typing)
typing_short typing e =
    all_flat (λ class. list_all (λ method. list_all is_frame_short method) class) class_names (all_flat (λ method. list_all is_frame_short method) method_names (all_flat is_frame_short frame_names frame_short)) typing.frames e

-- ---- each name once

one_short : (names : List Name) (name : Name) → AllByRecursion Short names → Short name → AllByRecursion Short (with_name names name)
one_short names name all one = by (nat_lt (name_index names name) (length names)) where
  by : (b : Bool) → AllByRecursion Short (cond b names (names ++ name ∷ []))
  by true = all
  by false = all_append Short names (name ∷ []) all (one, tt)

each_short : (names more : List Name) → AllByRecursion Short names → AllByRecursion Short more → AllByRecursion Short (with_names names more)
each_short names [] all others = all
each_short names (name ∷ more) all others = each_short (with_name names name) more (one_short names name all others.0) others.1

-- ---- how many there are

encoded_long : (names : List Name) → length names ≤ length (flat_map encode_name names)
encoded_long [] = omega arith
encoded_long (name ∷ names) =
    let two : length (u2 (length name)) ≡ 2 = refl in
    omega (arith, length-append (encode_name name) (flat_map encode_name names), length-append (u2 (length name)) name, two, encoded_long names)

few_names : (c : Certificate) → length (names_of c.typing) ≤ length (encode_certificate c)
few_names c =
    let names = names_of c.typing in
    let rest = encode_classes names (c.typing.frames, c.notes) in
    omega (
      arith,
      length-append (encode_head c.mode) (encode_names names ++ rest),
      length-append (encode_names names) rest,
      length-append (u4 (length names)) (flat_map encode_name names),
      encoded_long names,
    )

pub fit_names : (c : Certificate) → is_written c ≡ true → FitNames (names_of c.typing)
fit_names c e =
    let both = and_parts (are_short c.typing) (nat_le (length (encode_certificate c)) 67108864) e in
    (omega (arith, few_names c, leb-true (length (encode_certificate c)) 67108864 both.1), each_short [] (typing_names c.typing) tt (typing_short c.typing both.0))
