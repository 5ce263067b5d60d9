use Rattle.std.proofs.Common.{◌≡◌, ℕ, ◌<◌, List, length, Option, Some, None, sym, subst, ap, ◌∙◌}
use Rattle.api_listing.specs.declared.types.ListedClass.{ListedClass}
use Rattle.type_lattice.specs.Hierarchy.{is_up}
use Rattle.bytecode_model.specs.Places.{class_place}
use Rattle.type_lattice.specs.SkipPointers.{has_place, path_up}
use Rattle.type_lattice.proofs.OnNames.{place_within, up_is, nothing_below, nothing_above}
use Rattle.type_lattice.proofs.hierarchy.Hierarchy.is_below.Goals as goal

pub returns-in_default : goal.returns-in_default
returns-in_default c =
    let none : class_place c.self.inside.classes c.args.class.now ≡ None = sym (c.in_default.ensures ∙ c.self.invariant.placed c.args.class.now) in
    sym (nothing_below c.self.inside.classes c.self.invariant.ends c.args.class.now c.args.above.now none)
    ∙ ap (λ (cs : List ListedClass). is_up cs c.args.class.now c.args.above.now) c.self.view_is

pub leads_to-requires-clause-at : goal.leads_to-requires-clause-at
leads_to-requires-clause-at c =
    let at : class_place c.self.inside.classes c.args.class.now ≡ Some c.in-Some.class = sym (c.in-Some.ensures ∙ c.self.invariant.placed c.args.class.now) in
    subst (λ (l : List (Option ℕ)). c.in-Some.class < length l) (sym c.self.invariant.parents) (place_within c.self.inside.classes c.self.invariant.ends c.args.class.now c.in-Some.class at)

pub leads_to-requires-clause-above : goal.leads_to-requires-clause-above
leads_to-requires-clause-above c =
    let at : class_place c.self.inside.classes c.args.above.now ≡ Some c.in-Some-noted.above = sym (c.in-Some-noted.ensures ∙ c.self.invariant.placed c.args.above.now) in
    subst (λ (l : List (Option ℕ)). c.in-Some-noted.above < length l) (sym c.self.invariant.parents) (place_within c.self.inside.classes c.self.invariant.ends c.args.above.now c.in-Some-noted.above at)

pub returns-in-None : goal.returns-in-None
returns-in-None c =
    let none : class_place c.self.inside.classes c.args.above.now ≡ None = sym (c.in-None.ensures ∙ c.self.invariant.placed c.args.above.now) in
    sym (nothing_above c.self.inside.classes c.self.invariant.ends c.args.class.now c.args.above.now none)
    ∙ ap (λ (cs : List ListedClass). is_up cs c.args.class.now c.args.above.now) c.self.view_is

pub returns-in-Some-noted : goal.returns-in-Some-noted
returns-in-Some-noted c =
    let classes = c.self.inside.classes in
    let at : class_place classes c.args.class.now ≡ Some c.in-Some.class = sym (c.in-Some.ensures ∙ c.self.invariant.placed c.args.class.now) in
    let up : class_place classes c.args.above.now ≡ Some c.in-Some-noted.above = sym (c.in-Some-noted.ensures ∙ c.self.invariant.placed c.args.above.now) in
    c.leads_to.ensures ∙ ap (λ (l : List (Option ℕ)). has_place (path_up l c.in-Some.class) c.in-Some-noted.above) c.self.invariant.parents
    ∙ sym (up_is classes c.self.invariant.ends c.args.class.now c.args.above.now c.in-Some.class c.in-Some-noted.above at up)
    ∙ ap (λ (cs : List ListedClass). is_up cs c.args.class.now c.args.above.now) c.self.view_is
