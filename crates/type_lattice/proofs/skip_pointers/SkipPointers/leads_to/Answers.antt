use Rattle.std.proofs.Common.{◌≡◌, ℕ, ◌-◌, Bool, true, false, Option, Some, None, sym, ap, ap₂, ◌∙◌, inl, inr, arith}
use Rattle.std.specs.Prelude.{slice_get, nat_eq}
use Rattle.std.specs.Option.{option_eq}
use Rattle.std.proofs.lemmas.Bool.{cases_Bool, false≢true, eq-eqb, eqb-true}
use Rattle.type_lattice.specs.SkipPointers.{path_up}
use Rattle.type_lattice.proofs.Ascending.{below_it, is_there, is_not_there, some_is}
use Rattle.type_lattice.proofs.skip_pointers.SkipPointers.leads_to.Goals as goal

pub returns-then-low-high : goal.returns-then-low-high
returns-then-low-high c =
    let low = c.kept-low.ensures.path_up.height in
    let high = c.kept-high.ensures.path_up.height in
    sym (below_it c.args.self.now c.kept-low.ensures.parents c.args.at c.args.above (omega arith))

same_as : (o : Option ℕ) (n : ℕ) (b : Bool) → (o ≡ Some n → b ≡ true) → ((o ≡ Some n → ⊥) → b ≡ false) → option_eq nat_eq o (Some n) ≡ b
same_as None n b is differs = sym (differs (λ (e : ◌≡◌ {A = Option ℕ} None (Some n)). absurd cc))
same_as (Some m) n b is differs =
    elim (cases_Bool (nat_eq m n)) [
      | inl same ↦ same ∙ sym (is (ap Some (eqb-true m n same)))
      | inr other ↦ other ∙ sym (differs (λ e. false≢true (sym other ∙ eq-eqb m n (some_is m n e))))
    ]

pub returns : goal.returns
returns c =
    let ps = c.args.self.now in
    let parents = c.kept-low.ensures.parents in
    let steps = ap₂ (λ (x y : ℕ). x - y) c.kept-low.ensures.path_up.height c.kept-high.ensures.path_up.height in
    let up = c.up.ensures ∙ ap (slice_get (path_up ps c.args.at)) steps in
    c.eq.ensures ∙ ap (λ (o : Option ℕ). option_eq nat_eq o (Some c.args.above)) up
    ∙ same_as _ c.args.above _ (is_there ps parents c.args.at c.args.above) (is_not_there ps parents c.args.at c.args.above)
