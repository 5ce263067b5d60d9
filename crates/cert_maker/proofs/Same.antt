-- A note is the same as itself.
use Rattle.std.proofs.Common.{◌≡◌, ℕ, ℤ, Bool, true, false, List, [], ◌∷◌, refl}
use Rattle.std.specs.Bool.{beq}
use Rattle.std.specs.Prelude.{◌==◌}
use Rattle.std.specs.Ordering.{int_eq}
use Rattle.std.proofs.lemmas.Bool.{eq-eqb}
use Rattle.std.proofs.lemmas.Bool.Decides.{Decides-int_eq}
use Rattle.cert_format.specs.declared.note.Note.{Note}
use Rattle.cert_format.specs.declared.note.Note.TheVariants as notes
use Rattle.cert_format.specs.declared.note.Phase8.{Phase8}
use Rattle.cert_format.specs.declared.note.Phase8.TheVariants as sites
use Rattle.cert_format.specs.declared.note.Site.{Site}
use Rattle.cert_format.specs.declared.note.Term.{Term}
use Rattle.cert_format.specs.declared.note.Term.TheVariants as terms
use Rattle.block_logic.specs.Weakening.{same_note, same_phase, same_site}
use Rattle.block_logic.specs.Terms.{same_term, same_terms}

pub same_number : (n : ℕ) → (n == n) ≡ true
same_number n = eq-eqb n n refl

pub same_int : (n : ℤ) → int_eq n n ≡ true
same_int n = (Decides-int_eq n n).1 refl

pub same_bool : (b : Bool) → beq b b ≡ true
same_bool true = refl
same_bool false = refl

pub term_itself : (t : Term) → same_term t t ≡ true
term_itself (terms.Const n) = same_int n
term_itself (terms.Var i) = same_number i
term_itself (terms.VarAdd i n) = rw (same_number i, same_int n) refl
term_itself (terms.Arg i) = same_number i
term_itself terms.Result = refl
term_itself terms.Lock = refl

pub terms_itself : (ts : List Term) → same_terms ts ts ≡ true
terms_itself [] = refl
terms_itself (t ∷ ts) = rw (term_itself t, terms_itself ts) refl

phase_itself : (p : Phase8) → same_phase p p ≡ true
phase_itself sites.Before = refl
phase_itself sites.After = refl
phase_itself sites.Exceptional = refl

site_itself : (s : Site) → same_site s s ≡ true
site_itself s = rw (same_number s.method, phase_itself s.phase, same_number s.base) refl

pub note_itself : (n : Note) → same_note n n ≡ true
note_itself notes.Free = refl
note_itself (notes.Taking s) = site_itself s
note_itself (notes.Held s failed holding list map) =
    rw (site_itself s, same_number failed, same_number holding, terms_itself list, terms_itself map) refl
note_itself (notes.Granted s locked loaded top) = rw (site_itself s, same_bool locked, same_number loaded, same_bool top) refl
note_itself (notes.Owed s stage kept top) = rw (site_itself s, same_number stage, same_bool kept, same_bool top) refl
note_itself (notes.Stop s place) = rw (site_itself s, same_number place) refl
