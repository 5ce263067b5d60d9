-- What clauses name, of one clause or two.
use Rattle.std.proofs.Common.{◌≡◌, ℤ, List, [], ◌∷◌, ◌++◌, Option, sym, ap, ◌∙◌}
use Rattle.std.specs.Prelude.{flat_map}
use Rattle.std.specs.List.{filter_map}
use Rattle.std.proofs.lemmas.List.{append-nil, append_assoc}
use Rattle.std.proofs.lemmas.List.Elements.{filter_map-append}
use Rattle.conspec_tree.specs.declared.types.Atom.{Atom}
use Rattle.conspec_tree.specs.declared.types.Base.{Base}
use Rattle.conspec_tree.specs.declared.types.Update.{Update}
use Rattle.conspec_automaton.specs.declared.policy.Branch.{Branch}
use Rattle.conspec_automaton.specs.declared.policy.Clause.{Clause}
use Rattle.conspec_automaton.specs.Points.{atoms_in, compared_with, constants_of, updates_in}

-- ---- one clause, or two

abbrev atoms_of : Clause → List Atom
atoms_of c = flat_map (λ (b : Branch). b.atoms) c.branches

abbrev updates_of : Clause → List Update
updates_of c = flat_map (λ (b : Branch). b.updates) c.branches

atoms_alone : (c : Clause) → atoms_in (c ∷ []) ≡ atoms_of c
atoms_alone c = append-nil (atoms_of c)

pub updates_alone : (c : Clause) → updates_in (c ∷ []) ≡ updates_of c
updates_alone c = append-nil (updates_of c)

atoms_both : (c d : Clause) → atoms_in (c ∷ d ∷ []) ≡ atoms_in (c ∷ []) ++ atoms_in (d ∷ [])
atoms_both c d = ap (λ (atoms : List Atom). atoms ++ atoms_in (d ∷ [])) (sym (atoms_alone c))

updates_both : (c d : Clause) → updates_in (c ∷ d ∷ []) ≡ updates_in (c ∷ []) ++ updates_in (d ∷ [])
updates_both c d = ap (λ (us : List Update). us ++ updates_in (d ∷ [])) (sym (updates_alone c))

pub constants_both : (base : Base) (c d : Clause) → constants_of base (c ∷ d ∷ []) ≡ constants_of base (c ∷ []) ++ constants_of base (d ∷ [])
constants_both base c d = ap (filter_map (compared_with base)) (atoms_both c d) ∙ filter_map-append (compared_with base) (atoms_in (c ∷ [])) (atoms_in (d ∷ []))

pub kept_both : (h : Update → Option ℤ) (c d : Clause) → filter_map h (updates_in (c ∷ d ∷ [])) ≡ filter_map h (updates_in (c ∷ [])) ++ filter_map h (updates_in (d ∷ []))
kept_both h c d = ap (filter_map h) (updates_both c d) ∙ filter_map-append h (updates_in (c ∷ [])) (updates_in (d ∷ []))

-- ---- what is added for one clause, and for two

module _ (name : List Clause → List ℤ) (both : (c d : Clause) → name (c ∷ d ∷ []) ≡ name (c ∷ []) ++ name (d ∷ [])) where
  pub all_added : (c d : Clause) (cs : List Clause) (before between now : List ℤ) → c ∷ d ∷ [] ≡ cs → between ≡ before ++ name (c ∷ []) → now ≡ between ++ name (d ∷ []) → now ≡ before ++ name cs
  all_added c d cs before between now is e f =
      f ∙ ap (λ (ns : List ℤ). ns ++ name (d ∷ [])) e
      ∙ append_assoc before (name (c ∷ [])) (name (d ∷ []))
      ∙ ap (λ (ns : List ℤ). before ++ ns) (sym (both c d) ∙ ap name is)
