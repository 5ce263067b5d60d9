use Rattle.std.proofs.Common.{◌≡◌, Bool, true, false, nat_eq, refl, sym, ◌∙◌, arith}
use Rattle.std.proofs.lemmas.Bool.{eq-eqb, eqb-true, false≢true}
use Rattle.race_free_check.specs.Distinct.{are_alike}
use Rattle.race_free_check.proofs.Alike.{same_digest}
use Rattle.race_free_check.proofs.distinct.is_like.Goals as goal

-- Values with different digests are not alike.
pub returns-else-known-digest : goal.returns-else-known-digest
returns-else-known-digest c = by (nat_eq c.args.known c.args.digest) (are_alike c.args.atoms.now c.args.value.now c.args.other.now) refl refl where
  by : (n b : Bool) → nat_eq c.args.known c.args.digest ≡ n → are_alike c.args.atoms.now c.args.value.now c.args.other.now ≡ b → n ≡ b
  by true true e alike = refl
  by false false e alike = refl
  by true false e alike = let same = eqb-true c.args.known c.args.digest e in absurd (omega arith)
  by false true e alike =
      let same = same_digest c.args.atoms.now c.args.value.now c.args.other.now 0 alike in
      let known = c.requires.known ∙ sym same ∙ sym c.requires.digest in
      absurd (false≢true (sym e ∙ eq-eqb c.args.known c.args.digest known))
