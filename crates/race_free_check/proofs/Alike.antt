-- Values that atoms do not tell apart.
use Rattle.std.proofs.Common.{◌≡◌, inl, inr, ℕ, Bool, true, false, List, [], ◌∷◌, refl, sym, ap, ◌∙◌}
use Rattle.std.specs.Bool.{beq}
use Rattle.std.proofs.lemmas.Bool.{and_parts, false≢true}
use Rattle.api_listing.specs.declared.events.ApiValue.{ApiValue}
use Rattle.conspec_tree.specs.declared.types.Atom.{Atom}
use Rattle.race_free_check.specs.Distinct.{are_alike, digest_from, holds_of, mixed}
use Rattle.race_free_check.proofs.Members.{Has}

beq_itself : (b : Bool) → beq b b ≡ true
beq_itself true = refl
beq_itself false = refl

beq_true : (a b : Bool) → beq a b ≡ true → a ≡ b
beq_true true true e = refl
beq_true true false e = absurd (false≢true e)
beq_true false true e = absurd (false≢true e)
beq_true false false e = refl

pub alike_itself : (atoms : List Atom) (value : ApiValue) → are_alike atoms value value ≡ true
alike_itself [] value = refl
alike_itself (a ∷ atoms) value = rw (beq_itself (holds_of value a)) (alike_itself atoms value)

-- An atom among those that do not tell two values apart holds of both or of neither.
pub holds_alike : (atoms : List Atom) (x y : ApiValue) (a : Atom) → are_alike atoms x y ≡ true → Has atoms a → holds_of x a ≡ holds_of y a
holds_alike [] x y a alike h = absurd h
holds_alike (b ∷ atoms) x y a alike (inl same) =
    let first = (and_parts (beq (holds_of x b) (holds_of y b)) (are_alike atoms x y) alike).0 in
    ap (holds_of x) (sym same) ∙ beq_true (holds_of x b) (holds_of y b) first ∙ ap (holds_of y) same
holds_alike (b ∷ atoms) x y a alike (inr later) = holds_alike atoms x y a (and_parts (beq (holds_of x b) (holds_of y b)) (are_alike atoms x y) alike).1 later

pub same_digest : (atoms : List Atom) (x y : ApiValue) (digest : ℕ) → are_alike atoms x y ≡ true → digest_from digest atoms x ≡ digest_from digest atoms y
same_digest [] x y digest alike = refl
same_digest (a ∷ atoms) x y digest alike =
    let parts = and_parts (beq (holds_of x a) (holds_of y a)) (are_alike atoms x y) alike in
    ap (λ (b : Bool). digest_from (mixed digest b) atoms x) (beq_true (holds_of x a) (holds_of y a) parts.0) ∙ same_digest atoms x y (mixed digest (holds_of y a)) parts.1
