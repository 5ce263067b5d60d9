-- Certificates are read exactly as they are encoded.
use Rattle.std.proofs.Common.{◌≡◌, ℕ, zero, suc, ◌+◌, ◌<◌, Bool, true, false, not, eqb, List, [], ◌∷◌, ◌++◌, length, get_or, Option, Result, Ok, Err, refl, sym, ap, subst, ◌∙◌, append_assoc, IfOk, arith}
use Rattle.std.specs.Prelude.{◌==◌}
use Rattle.std.specs.List.{flat_map, AllByRecursion}
use Rattle.std.proofs.lemmas.Bool.{eqb-true, eq-eqb, ltb-true, ltb-false}
use Rattle.std.proofs.lemmas.List.{append-nil, length-append}
use Rattle.mon_base.specs.Reading.{Place, IsBytes, ◌>>=◌, need}
use Rattle.mon_base.proofs.Reading.{bind_ok, need_ok, need_holds, ok_is, after, Took, Took-then, IsTail, IsReader, then, then_same, said, last, bytes_is, encoded, whole_takes, whole_again}
use Rattle.mon_base.proofs.Readers.{checked}
use Rattle.cert_format.specs.declared.fault.CertForm.{CertForm}
use Rattle.cert_format.specs.declared.typing.FrameType.{FrameType}
use Rattle.cert_format.specs.declared.note.Note.{Note}
use Rattle.cert_format.specs.declared.certificate.Mode.{Mode}
use Rattle.cert_format.specs.declared.certificate.Mode.TheVariants as modes
use Rattle.cert_format.specs.declared.certificate.Certificate.{Certificate}
use Rattle.cert_format.specs.Names.{Name, name_index, StandOnce, class_names, typing_names, names_of}
use Rattle.cert_format.specs.Index.{stands}
use Rattle.mon_base.specs.Widths.{u1, u4}
use Rattle.cert_format.specs.Encoding.{encode_name, encode_names, encode_mode, encode_head, encode_classes, encode_certificate}
use Rattle.mon_base.specs.Widths.{IsU2, IsU4}
use Rattle.cert_format.specs.Fits.{FitNames, FitClasses, IsEncodable, EncodesCertificate}
use Rattle.mon_base.specs.Answer.{Answers}
use Rattle.cert_format.specs.declared.fault.CertForm.TheVariants.{Form, Memory}
use Rattle.cert_format.specs.Reading.{u1_at, u4_at, taken_at, mode_of, head_at, told_name, more_names_at, names_at, classes_at, body_at, certificate_at, certificate_of}
use Rattle.cert_format.proofs.Places.{place-append}
use Rattle.cert_format.proofs.Order.{InOrder, once-push, once-all, once-none, makes_order, table_of}
use Rattle.cert_format.proofs.Readers.{u2_is, u4_is, IsCode, coded, chosen}
use Rattle.cert_format.proofs.TypeLaws.{classes_is}

-- ---- the head

mode_code : Mode → ℕ
mode_code modes.Hold = 0
mode_code modes.Release = 1

mode_codes : IsCode mode_of mode_code
unfolding mode_of mode_code
mode_codes = record {
  told = λ at n x e.
      chosen (eqb n 0) modes.Hold x _ (mode_code x ≡ n) e (λ is same. ap mode_code (sym same) ∙ sym (eqb-true n 0 is)) (λ e1.
      chosen (eqb n 1) modes.Release x _ (mode_code x ≡ n) e1 (λ is same. ap mode_code (sym same) ∙ sym (eqb-true n 1 is)) (λ e2. absurd cc));
  back = λ at x. back at x;
  small = λ x. small x;
} where
  back : (at : ℕ) (x : Mode) → mode_of at (mode_code x) ≡ Ok x
  back at modes.Hold = refl
  back at modes.Release = refl

  small : (x : Mode) → mode_code x < 256
  small modes.Hold = omega arith
  small modes.Release = omega arith

mode_encoded : (x : Mode) → u1 (mode_code x) ≡ encode_mode x
unfolding mode_code
mode_encoded modes.Hold = refl
mode_encoded modes.Release = refl

mode_is : IsReader (λ p. u1_at p >>= λ n. mode_of p.at n.0 >>= λ x. Ok (x, n.1)) encode_mode (λ x. Unit {0})
mode_is = encoded (coded mode_of mode_code mode_codes) (λ x k. mode_encoded x)

head_is : IsReader head_at encode_head (λ m. Unit {0})
unfolding head_at
head_is = then_same (λ p x. Form p.at) u4_is 0x43535043 (omega arith) (then_same (λ p x. Form p.at) u2_is 1 (omega arith) mode_is)

-- ---- names

not_true : (b : Bool) → not b ≡ true → b ≡ false
not_true true h = sym h
not_true false h = refl

taken_is : (n : ℕ) → IsTail (taken_at n) (λ bytes. bytes) (λ bytes. Unit {0}) (λ bytes. length bytes ≡ n)
unfolding taken_at
taken_is n = bytes_is n (λ p. Form p.at)

abbrev FitsName : Name → Type 0
FitsName name = IsU2 (length name)

name_is : (before : List Name) → IsReader (told_name before) encode_name (λ name. FitsName name × (stands before name ≡ false))
unfolding told_name
name_is before = said (then {Fits = λ name. Unit {0} × (stands before name ≡ false)} {known = λ _. Unit {0}} _ u2_is length (λ name k. tt)
    (λ n k. checked (λ name. stands before name ≡ false) (λ p name. need (not (stands before name)) (Form p.at)) (last (taken_is n))
    (λ p name e. not_true (stands before name) (need_holds (not (stands before name)) (Form p.at) e))
    (λ p name h. rw h refl)))
    (λ name f k. ((f.0, f.1.1), tt))
    (λ name f k. ((f.0, (tt, f.1)), tt))

-- what is read after the names of before
record More (before : List Name) (n : ℕ) (place : Place) (all : List Name) (next : Place) : Type 0 where
  names : List Name
  parts : all ≡ before ++ names
  took : Took place (flat_map encode_name names) next
  fits : AllByRecursion FitsName names
  once : StandOnce all
  count : length names ≡ n

more_takes : (n : ℕ) (before : List Name) (place : Place) (all : List Name) (next : Place) → IsBytes place.rest → StandOnce before
    → more_names_at n before place ≡ Ok (all, next) → More before n place all next
unfolding more_names_at
more_takes zero before place all next fits once e =
    let made : List Name × Place = (before, place) in
    subst (λ (y : List Name × Place). More before 0 place y.0 y.1) (ok_is CertForm made (all, next) e) (record {
      names = [];
      parts = sym (append-nil before);
      took = record { parts = refl; moved = omega arith; fits = fits };
      fits = tt;
      once = once;
      count = refl;
    })
more_takes (suc n) before place all next fits once e =
    let b = bind_ok (told_name before place) (λ name. more_names_at n (before ++ name.0 ∷ []) name.1) (all, next) e in
    let x = b.0.0 in
    let t = (name_is before).takes place x b.0.1 fits b.1 in
    let later = more_takes n (before ++ x ∷ []) b.0.1 all next t.0.fits (once-push before x (ltb-false _ _ t.1.1) once) b.2 in
    record {
      names = x ∷ later.names;
      parts = later.parts ∙ append_assoc before (x ∷ []) later.names;
      took = Took-then place (encode_name x) b.0.1 (flat_map encode_name later.names) next t.0 later.took;
      fits = (t.1.0, later.fits);
      once = later.once;
      count = ap suc later.count;
    }

at_length : (a : List Name) (x : Name) (b : List Name) → get_or (a ++ x ∷ b) (length a) [] ≡ x
at_length [] x b = refl
at_length (y ∷ a) x b = at_length a x b

-- what stands after these names is none of them, where none stands twice
is_new : (before : List Name) (x : Name) (others : List Name) → StandOnce (before ++ x ∷ others) → stands before x ≡ false
is_new before x others once = by (stands before x) refl where
  by : (b : Bool) → stands before x ≡ b → stands before x ≡ false
  by false e = e
  by true e =
      let lt : name_index before x < length before = ltb-true _ _ e in
      let here = place-append before (x ∷ others) x lt in
      let own : name_index (before ++ x ∷ others) (get_or (before ++ x ∷ others) (length before) []) ≡ length before = once (length before) (omega (arith, length-append before (x ∷ others))) in
      let same : name_index (before ++ x ∷ others) x ≡ length before = ap (name_index (before ++ x ∷ others)) (sym (at_length before x others)) ∙ own in
      absurd (omega (arith, here, same, lt))

more_again : (names before : List Name) (place : Place) (rest : List ℕ) → AllByRecursion FitsName names → StandOnce (before ++ names)
    → place.rest ≡ flat_map encode_name names ++ rest
    → more_names_at (length names) before place ≡ Ok (before ++ names, after place (flat_map encode_name names) rest)
unfolding more_names_at
more_again [] before place rest fits once e =
    let n : place.at + 0 ≡ place.at = omega arith in
    rw (n, append-nil before, ← e) refl
more_again (x ∷ names) before place rest fits once e =
    let s = encode_name x in
    let t = flat_map encode_name names in
    let mid = after place s (t ++ rest) in
    let first = (name_is before).again place x (t ++ rest) (fits.0, is_new before x names once) tt (e ∙ append_assoc s t rest) in
    let second = more_again names (before ++ x ∷ []) mid rest fits.1 (subst StandOnce (sym (append_assoc before (x ∷ []) names)) once) refl in
    let far : place.at + length s + length t ≡ place.at + length (s ++ t) = omega (arith, length-append s t) in
    rw (first, second, append_assoc before (x ∷ []) names, far) refl

names_is : IsReader names_at encode_names (λ names. FitNames names × StandOnce names)
unfolding names_at
names_is = record {
  takes = λ place names next fits e.
      let c = bind_ok (u4_at place) (λ count. more_names_at count.0 [] count.1) (names, next) e in
      let t = u4_is.takes place c.0.0 c.0.1 fits c.1 in
      let m = more_takes c.0.0 [] c.0.1 names next t.0.fits once-none c.2 in
      let len : length names ≡ c.0.0 = ap length m.parts ∙ m.count in (
        subst (λ (k : ℕ). Took place (u4 k ++ flat_map encode_name names) next) (sym len) (Took-then place (u4 c.0.0) c.0.1 (flat_map encode_name names) next t.0 (subst (λ (ns : List Name). Took c.0.1 (flat_map encode_name ns) next) (sym m.parts) m.took)),
        ((subst IsU4 (sym len) t.1, subst (AllByRecursion FitsName) (sym m.parts) m.fits), m.once),
        tt,
      );
  again = λ place names rest fits h e.
      let x = u4 (length names) in
      let y = flat_map encode_name names in
      let first = u4_is.again place (length names) (y ++ rest) fits.0.0 tt (e ∙ append_assoc x y rest) in
      let second = more_again names [] (after place x (y ++ rest)) rest fits.0.1 fits.1 refl in
      let far : place.at + length x + length y ≡ place.at + length (x ++ y) = omega (arith, length-append x y) in
      rw (first, second, far) refl;
}

-- ---- the whole

abbrev made : Mode → List (List (List (Option FrameType))) → List (List (List Note)) → Certificate
made mode frames all_notes = record { mode = mode; typing = record { frames = frames }; notes = all_notes }

-- what stands after the names, with the table of names
abbrev encode_body : List Name → Certificate → List ℕ
encode_body names c = encode_classes names (c.typing.frames, c.notes)

record FitsBody (vars : ℕ) (mode : Mode) (names : List Name) (c : Certificate) : Type 0 where
  classes : FitClasses vars (c.typing.frames, c.notes)
  mode_is : c.mode ≡ mode
  table : names_of c.typing ≡ names

body_is : (vars : ℕ) (mode : Mode) (names : List Name) → StandOnce names → IsU4 (length names) → IsReader (body_at vars mode names) (encode_body names) (FitsBody vars mode names)
unfolding body_at
body_is vars mode names once small = record {
  takes = λ place c next fits e.
      let k = bind_ok (classes_at vars names 0 place) (λ classes. need (classes.0.1 == length names) (Form classes.1.at) >>= λ _. Ok (made mode classes.0.0.0 classes.0.0.1, classes.1)) (c, next) e in
      let g = need_ok (k.0.0.1 == length names) (Form k.0.1.at) (λ _. Ok (made mode k.0.0.0.0 k.0.0.0.1, k.0.1)) (c, next) k.2 in
      let t = ((classes_is names once small vars).reads 0).takes place k.0.0 k.0.1 fits k.1 in
      let all : k.0.0.1 ≡ length names = eqb-true _ _ g.0 in
      let order : InOrder names 0 (flat_map class_names k.0.0.0.0) (length names) = subst (λ (n : ℕ). InOrder names 0 (flat_map class_names k.0.0.0.0) n) all t.1.1 in
      let whole : Certificate × Place = (made mode k.0.0.0.0 k.0.0.0.1, k.0.1) in
      subst (λ (y : Certificate × Place). Took place (encode_body names y.0) y.1 × FitsBody vars mode names y.0 × Unit {0}) (ok_is CertForm whole (c, next) g.1)
      (t.0, record { classes = t.1.0; mode_is = refl; table = table_of names (flat_map class_names k.0.0.0.0) order }, tt);
  again = λ place c rest fits h e.
      let order = makes_order names (typing_names c.typing) 0 (omega arith) fits.table in
      let one = ((classes_is names once small vars).reads 0).again place ((c.typing.frames, c.notes), length names) rest (fits.classes, order) tt e in
      rw (one, eq-eqb (length names) (length names) refl, ← fits.mode_is) refl;
}

abbrev encode_both : List Name → Certificate → List ℕ
encode_both names c = encode_head c.mode ++ (encode_names names ++ encode_body names c)

certificate_is : (vars : ℕ) → IsReader (certificate_at vars) encode_certificate (IsEncodable vars)
unfolding certificate_at
certificate_is vars = record {
  takes = λ place c next fits e.
      let m = bind_ok (head_at place) (λ mode. names_at mode.1 >>= λ names. body_at vars mode.0 names.0 names.1) (c, next) e in
      let n = bind_ok (names_at m.0.1) (λ names. body_at vars m.0.0 names.0 names.1) (c, next) m.2 in
      let t = head_is.takes place m.0.0 m.0.1 fits m.1 in
      let u = names_is.takes m.0.1 n.0.0 n.0.1 t.0.fits n.1 in
      let v = (body_is vars m.0.0 n.0.0 u.1.1 u.1.0.0).takes n.0.1 c next u.0.fits n.2 in
      let text : encode_head m.0.0 ++ (encode_names n.0.0 ++ encode_body n.0.0 c) ≡ encode_certificate c = ap (λ (x : Mode). encode_head x ++ (encode_names n.0.0 ++ encode_body n.0.0 c)) (sym v.1.mode_is) ∙ ap (λ (ns : List Name). encode_both ns c) (sym v.1.table) in (
        subst (λ (w : List ℕ). Took place w next) text (Took-then place (encode_head m.0.0) m.0.1 (encode_names n.0.0 ++ encode_body n.0.0 c) next t.0 (Took-then m.0.1 (encode_names n.0.0) n.0.1 (encode_body n.0.0 c) next u.0 v.0)),
        record { names = subst FitNames (sym v.1.table) u.1.0; classes = v.1.classes },
        tt,
      );
  again = λ place c rest fits h e.
      let names = names_of c.typing in
      let x = encode_head c.mode in
      let y = encode_names names in
      let z = encode_body names c in
      let once : StandOnce names = once-all (typing_names c.typing) [] once-none in
      let start : place.rest ≡ x ++ (y ++ (z ++ rest)) = e ∙ append_assoc x (y ++ z) rest ∙ ap (λ (w : List ℕ). x ++ w) (append_assoc y z rest) in
      let first = head_is.again place c.mode (y ++ (z ++ rest)) tt tt start in
      let second = names_is.again (after place x (y ++ (z ++ rest))) names (z ++ rest) (fits.names, once) tt refl in
      let third = (body_is vars c.mode names once fits.names.0).again (after (after place x (y ++ (z ++ rest))) y (z ++ rest)) c rest (record { classes = fits.classes; mode_is = refl; table = refl }) tt refl in
      let far : place.at + length x + length y + length z ≡ place.at + length (x ++ (y ++ z)) = omega (arith, length-append x (y ++ z), length-append y z) in
      rw (first, second, third, far) refl;
}

-- ---- what the calls promise

pub is_found : (vars : ℕ) (bytes : List ℕ) (r : Result Certificate CertForm) → IsBytes bytes → Answers Memory r (certificate_of vars bytes)
    → IfOk r (λ c. EncodesCertificate bytes vars c)
unfolding certificate_of
is_found vars bytes (Ok c) fits given =
    let t = whole_takes (certificate_is vars) (λ p. Form p.at) bytes c fits given in
    record { is = t.0; fits = t.1 }
is_found vars bytes (Err e) fits given = tt

encoded_is_read : (vars : ℕ) (bytes : List ℕ) (c : Certificate) → EncodesCertificate bytes vars c → certificate_of vars bytes ≡ Ok c
unfolding certificate_of
encoded_is_read vars bytes c h =
    let t = whole_again (certificate_is vars) (λ p. Form p.at) c h.fits in
    rw h.is t

pub is_only : (vars : ℕ) (bytes : List ℕ) (r : Result Certificate CertForm) (c : Certificate) → Answers Memory r (certificate_of vars bytes) → EncodesCertificate bytes vars c
    → Answers Memory r (Ok c)
is_only vars bytes r c given h = subst (λ (read : Result Certificate CertForm). Answers Memory r read) (encoded_is_read vars bytes c h) given

pub same_certificate : (bytes : List ℕ) (vars : ℕ) (c d : Certificate) → EncodesCertificate bytes vars c → EncodesCertificate bytes vars d → c ≡ d
same_certificate bytes vars c d h k = ok_is CertForm c d (sym (encoded_is_read vars bytes c h) ∙ encoded_is_read vars bytes d k)
