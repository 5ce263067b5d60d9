-- Notes are read exactly as they are encoded.
use Rattle.std.proofs.Common.{◌≡◌, ℕ, ◌<◌, Bool, true, false, eqb, List, ◌++◌, length, Ok, refl, sym, ap, subst, ◌∙◌, FitsSigned, arith}
use Rattle.std.specs.List.{flat_map, AllByRecursion}
use Rattle.std.specs.Int.{w32}
use Rattle.std.proofs.lemmas.Bool.{eqb-true}
use Rattle.mon_base.specs.Reading.{Place, ◌>>=◌, need, counted}
use Rattle.mon_base.proofs.Reading.{bind_ok, need_ok, ok_is, after, Took, IsReader, then, said, last, encoded, items}
use Rattle.cert_format.specs.declared.fault.CertForm.{CertForm}
use Rattle.cert_format.specs.declared.fault.CertForm.TheVariants.{Form}
use Rattle.cert_format.specs.declared.note.Phase8.{Phase8}
use Rattle.cert_format.specs.declared.note.Phase8.TheVariants as phases
use Rattle.cert_format.specs.declared.note.Site.{Site}
use Rattle.cert_format.specs.declared.note.Term.{Term}
use Rattle.cert_format.specs.declared.note.Term.TheVariants as terms
use Rattle.cert_format.specs.declared.note.Note.{Note}
use Rattle.cert_format.specs.declared.note.Note.TheVariants as notes
use Rattle.mon_base.specs.Widths.{u1}
use Rattle.cert_format.specs.Encoding.{i4, flag, encode_term, encode_terms, encode_phase, encode_site, encode_note}
use Rattle.mon_base.specs.Widths.{IsU1}
use Rattle.cert_format.specs.Fits.{FitsTerm, FitsSite, FitsNote}
use Rattle.cert_format.specs.Reading.{u1_at, u2_at, i4_at, flag_of, flag_at, pair_at, term_of_kind, term_at, terms_at, phase_of, phase_at, site_at, held_at, granted_at, owed_at, stop_at, note_of_kind, note_at, free_at}
use Rattle.cert_format.proofs.Readers.{u1_is, u2_is, i4_is, pair_is, IsCode, coded, chosen, Takes, form, plain, never, kind_or, tagged, kind_again, plain_again}

-- ---- flags and phases

flag_code : Bool → ℕ
flag_code false = 0
flag_code true = 1

flag_codes : IsCode flag_of flag_code
unfolding flag_code
flag_codes = record {
  told = λ at n x e.
      chosen (eqb n 0) false x _ (flag_code x ≡ n) e (λ is same. ap flag_code (sym same) ∙ sym (eqb-true n 0 is)) (λ e1.
      chosen (eqb n 1) true x _ (flag_code x ≡ n) e1 (λ is same. ap flag_code (sym same) ∙ sym (eqb-true n 1 is)) (λ e2. absurd cc));
  back = λ at x. back at x;
  small = λ x. small x;
} where
  back : (at : ℕ) (x : Bool) → flag_of at (flag_code x) ≡ Ok x
  back at false = refl
  back at true = refl

  small : (x : Bool) → flag_code x < 256
  small false = omega arith
  small true = omega arith

flag_encoded : (x : Bool) → u1 (flag_code x) ≡ flag x
unfolding flag_code
flag_encoded false = refl
flag_encoded true = refl

pub flag_is : IsReader flag_at flag (λ x. Unit {0})
unfolding flag_at
flag_is = encoded (coded flag_of flag_code flag_codes) (λ x k. flag_encoded x)

phase_code : Phase8 → ℕ
phase_code phases.Before = 0
phase_code phases.After = 1
phase_code phases.Exceptional = 2

phase_codes : IsCode phase_of phase_code
unfolding phase_of phase_code
phase_codes = record {
  told = λ at n x e.
      chosen (eqb n 0) phases.Before x _ (phase_code x ≡ n) e (λ is same. ap phase_code (sym same) ∙ sym (eqb-true n 0 is)) (λ e1.
      chosen (eqb n 1) phases.After x _ (phase_code x ≡ n) e1 (λ is same. ap phase_code (sym same) ∙ sym (eqb-true n 1 is)) (λ e2.
      chosen (eqb n 2) phases.Exceptional x _ (phase_code x ≡ n) e2 (λ is same. ap phase_code (sym same) ∙ sym (eqb-true n 2 is)) (λ e3. absurd cc)));
  back = λ at x. back at x;
  small = λ x. small x;
} where
  back : (at : ℕ) (x : Phase8) → phase_of at (phase_code x) ≡ Ok x
  back at phases.Before = refl
  back at phases.After = refl
  back at phases.Exceptional = refl

  small : (x : Phase8) → phase_code x < 256
  small phases.Before = omega arith
  small phases.After = omega arith
  small phases.Exceptional = omega arith

phase_encoded : (x : Phase8) → u1 (phase_code x) ≡ encode_phase x
unfolding phase_code
phase_encoded phases.Before = refl
phase_encoded phases.After = refl
phase_encoded phases.Exceptional = refl

phase_is : IsReader phase_at encode_phase (λ x. Unit {0})
unfolding phase_at
phase_is = encoded (coded phase_of phase_code phase_codes) (λ x k. phase_encoded x)

-- ---- terms

var_add_is : IsReader (pair_at u1_at i4_at) (λ x. u1 x.0 ++ i4 x.1) (λ x. IsU1 x.0 × FitsSigned w32 x.1)
var_add_is = pair_is u1_is i4_is

term_takes : (at kind : ℕ) → Takes (term_of_kind at kind) (u1 kind) encode_term FitsTerm
unfolding term_of_kind
term_takes at kind =
    kind_or kind 0 (form terms.Const i4_is (λ n f. (refl, f)))
    (kind_or kind 1 (form terms.Var u1_is (λ v f. (refl, f)))
    (kind_or kind 2 (form (λ x. terms.VarAdd x.0 x.1) var_add_is (λ x f. (refl, f)))
    (kind_or kind 3 (form terms.Arg u1_is (λ a f. (refl, f)))
    (kind_or kind 4 (plain terms.Result refl tt)
    (kind_or kind 5 (plain terms.Lock refl tt)
    (never at))))))

term_again : (place : Place) (t : Term) (rest : List ℕ) → FitsTerm t → place.rest ≡ encode_term t ++ rest
    → (u1_at place >>= λ kind. term_of_kind place.at kind.0 kind.1) ≡ Ok (t, after place (encode_term t) rest)
unfolding term_of_kind
term_again place (terms.Const n) rest f e = kind_again term_of_kind 0 (omega arith) terms.Const i4_is (λ at p. refl) place n rest f e
term_again place (terms.Var v) rest f e = kind_again term_of_kind 1 (omega arith) terms.Var u1_is (λ at p. refl) place v rest f e
term_again place (terms.VarAdd v n) rest f e = kind_again term_of_kind 2 (omega arith) (λ x. terms.VarAdd x.0 x.1) var_add_is (λ at p. refl) place (v, n) rest f e
term_again place (terms.Arg a) rest f e = kind_again term_of_kind 3 (omega arith) terms.Arg u1_is (λ at p. refl) place a rest f e
term_again place terms.Result rest f e = plain_again term_of_kind 4 (omega arith) terms.Result (λ at p. refl) place rest e
term_again place terms.Lock rest f e = plain_again term_of_kind 5 (omega arith) terms.Lock (λ at p. refl) place rest e

term_is : IsReader term_at encode_term FitsTerm
unfolding term_at
term_is = tagged term_takes term_again

terms_is : IsReader terms_at encode_terms (λ ts. IsU1 (length ts) × AllByRecursion FitsTerm ts)
unfolding terms_at
terms_is = said (then {known = λ _. Unit {0}} _ u1_is length (λ ts k. tt) λ count k. last (items term_is count))
    (λ ts f k. (f, tt)) (λ ts f k. (f, tt))

map_is : (vars : ℕ) → IsReader (counted term_at vars) (λ ts. flat_map encode_term ts) (λ ts. (length ts ≡ vars) × AllByRecursion FitsTerm ts)
map_is vars = said (items term_is vars) (λ ts f k. ((k, f), tt)) (λ ts f k. (f.1, f.0))

-- ---- notes

pub site_is : IsReader site_at encode_site FitsSite
unfolding site_at
site_is = record {
  takes = λ place x next fits e.
      let parts = pair_is u2_is (pair_is phase_is u2_is) in
      let b = bind_ok (pair_at u2_at (pair_at phase_at u2_at) place) (λ x. Ok (record { method = x.0.0; phase = x.0.1.0; base = x.0.1.1 }, x.1)) (x, next) e in
      let t = parts.takes place b.0.0 b.0.1 fits b.1 in
      let made : Site × Place = (record { method = b.0.0.0; phase = b.0.0.1.0; base = b.0.0.1.1 }, b.0.1) in
      subst (λ (y : Site × Place). Took place (encode_site y.0) y.1 × FitsSite y.0 × Unit {0}) (ok_is CertForm made (x, next) b.2) (t.0, (t.1.0, t.1.1.1), tt);
  again = λ place x rest fits h e.
      let parts = pair_is u2_is (pair_is phase_is u2_is) in
      let t = parts.again place (x.method, (x.phase, x.base)) rest (fits.0, (tt, fits.1)) tt e in
      rw t refl;
}

held_is : (vars : ℕ) → IsReader (pair_at site_at (pair_at u1_at (pair_at u1_at (pair_at terms_at (counted term_at vars)))))
    (λ x. encode_site x.0 ++ (u1 x.1.0 ++ (u1 x.1.1.0 ++ (encode_terms x.1.1.1.0 ++ flat_map encode_term x.1.1.1.1))))
    (λ x. FitsSite x.0 × (IsU1 x.1.0 × (IsU1 x.1.1.0 × ((IsU1 (length x.1.1.1.0) × AllByRecursion FitsTerm x.1.1.1.0) × ((length x.1.1.1.1 ≡ vars) × AllByRecursion FitsTerm x.1.1.1.1)))))
held_is vars = pair_is site_is (pair_is u1_is (pair_is u1_is (pair_is terms_is (map_is vars))))

granted_is : IsReader (pair_at site_at (pair_at flag_at (pair_at u1_at flag_at))) (λ x. encode_site x.0 ++ (flag x.1.0 ++ (u1 x.1.1.0 ++ flag x.1.1.1)))
    (λ x. FitsSite x.0 × (Unit {0} × (IsU1 x.1.1.0 × Unit {0})))
granted_is = pair_is site_is (pair_is flag_is (pair_is u1_is flag_is))

owed_is : IsReader (pair_at site_at (pair_at u1_at (pair_at flag_at flag_at))) (λ x. encode_site x.0 ++ (u1 x.1.0 ++ (flag x.1.1.0 ++ flag x.1.1.1)))
    (λ x. FitsSite x.0 × (IsU1 x.1.0 × (Unit {0} × Unit {0})))
owed_is = pair_is site_is (pair_is u1_is (pair_is flag_is flag_is))

stop_is : IsReader (pair_at site_at u1_at) (λ x. encode_site x.0 ++ u1 x.1) (λ x. FitsSite x.0 × IsU1 x.1)
stop_is = pair_is site_is u1_is

note_takes : (vars at kind : ℕ) → Takes (note_of_kind vars at kind) (u1 kind) encode_note (FitsNote vars)
unfolding note_of_kind held_at granted_at owed_at stop_at
note_takes vars at kind =
    kind_or kind 0 (plain notes.Free refl tt)
    (kind_or kind 1 (form notes.Taking site_is (λ x f. (refl, f)))
    (kind_or kind 2 (form (λ x. notes.Held x.0 x.1.0 x.1.1.0 x.1.1.1.0 x.1.1.1.1) (held_is vars) (λ x f. (refl, f)))
    (kind_or kind 3 (form (λ x. notes.Granted x.0 x.1.0 x.1.1.0 x.1.1.1) granted_is (λ x f. (refl, (f.0, f.1.1.0))))
    (kind_or kind 4 (form (λ x. notes.Owed x.0 x.1.0 x.1.1.0 x.1.1.1) owed_is (λ x f. (refl, (f.0, f.1.0))))
    (kind_or kind 5 (form (λ x. notes.Stop x.0 x.1) stop_is (λ x f. (refl, f)))
    (never at))))))

note_again : (vars : ℕ) (place : Place) (n : Note) (rest : List ℕ) → FitsNote vars n → place.rest ≡ encode_note n ++ rest
    → (u1_at place >>= λ kind. note_of_kind vars place.at kind.0 kind.1) ≡ Ok (n, after place (encode_note n) rest)
unfolding note_of_kind held_at granted_at owed_at stop_at
note_again vars place notes.Free rest f e = plain_again (note_of_kind vars) 0 (omega arith) notes.Free (λ at p. refl) place rest e
note_again vars place (notes.Taking site) rest f e = kind_again (note_of_kind vars) 1 (omega arith) notes.Taking site_is (λ at p. refl) place site rest f e
note_again vars place (notes.Held site failed holding stack map) rest f e =
    kind_again (note_of_kind vars) 2 (omega arith) (λ x. notes.Held x.0 x.1.0 x.1.1.0 x.1.1.1.0 x.1.1.1.1) (held_is vars) (λ at p. refl) place (site, (failed, (holding, (stack, map)))) rest f e
note_again vars place (notes.Granted site locked loaded top) rest f e =
    kind_again (note_of_kind vars) 3 (omega arith) (λ x. notes.Granted x.0 x.1.0 x.1.1.0 x.1.1.1) granted_is (λ at p. refl) place (site, (locked, (loaded, top))) rest (f.0, (tt, (f.1, tt))) e
note_again vars place (notes.Owed site stage kept top) rest f e =
    kind_again (note_of_kind vars) 4 (omega arith) (λ x. notes.Owed x.0 x.1.0 x.1.1.0 x.1.1.1) owed_is (λ at p. refl) place (site, (stage, (kept, top))) rest (f.0, (f.1, (tt, tt))) e
note_again vars place (notes.Stop site place_in) rest f e =
    kind_again (note_of_kind vars) 5 (omega arith) (λ x. notes.Stop x.0 x.1) stop_is (λ at p. refl) place (site, place_in) rest f e

pub note_is : (vars : ℕ) → IsReader (note_at vars) encode_note (FitsNote vars)
unfolding note_at
note_is vars = tagged (note_takes vars) (note_again vars)

pub free_is : IsReader free_at encode_note (λ n. n ≡ notes.Free)
unfolding free_at
free_is = record {
  takes = λ place n next fits e.
      let k = bind_ok (u1_at place) (λ kind. need (eqb kind.0 0) (Form place.at) >>= λ _. Ok (notes.Free, kind.1)) (n, next) e in
      let g = need_ok (eqb k.0.0 0) (Form place.at) (λ _. Ok (notes.Free, k.0.1)) (n, next) k.2 in
      let t = u1_is.takes place k.0.0 k.0.1 fits k.1 in
      let zero : k.0.0 ≡ 0 = eqb-true k.0.0 0 g.0 in
      let made : Note × Place = (notes.Free, k.0.1) in
      subst (λ (y : Note × Place). Took place (encode_note y.0) y.1 × (y.0 ≡ notes.Free) × Unit {0}) (ok_is CertForm made (n, next) g.1) (subst (λ (i : ℕ). Took place (u1 i) k.0.1) zero t.0, refl, tt);
  again = λ place n rest fits h e.
      let start : place.rest ≡ u1 0 ++ rest = e ∙ ap (λ (m : Note). encode_note m ++ rest) fits in
      rw (u1_is.again place 0 rest (omega arith) tt start, fits) refl;
}
