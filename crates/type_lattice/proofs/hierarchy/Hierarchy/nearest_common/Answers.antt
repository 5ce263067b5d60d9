use Rattle.std.proofs.Common.{◌≡◌, ℕ, ◌<◌, List, length, Option, Some, None, sym, subst, ap, ◌∙◌}
use denote.Ref.{Bor}
use Rattle.std.specs.Prelude.{slice_get, option_copied, option_map}
use Rattle.api_listing.specs.declared.types.ListedClass.{ListedClass}
use Rattle.type_lattice.specs.Hierarchy.{nearest_common, parents_in}
use Rattle.bytecode_model.specs.Places.{class_place}
use Rattle.type_lattice.specs.SkipPointers.{meeting}
use Rattle.type_lattice.proofs.OnNames.{place_within, common_is, none_common_first, none_common_second, name_at}
use Rattle.type_lattice.proofs.hierarchy.Hierarchy.nearest_common.Goals as goal

pub returns-in_err-class : goal.returns-in_err-class
returns-in_err-class c =
    let none : class_place c.self.inside.classes c.args.class.now ≡ None = sym (sym c.in_err-class.was ∙ c.noted.ensures ∙ c.self.invariant.placed c.args.class.now) in
    ap (λ (o : Option (Bor (List ℕ))). option_copied o) c.from_residual.ensures
    ∙ sym (none_common_first c.self.inside.classes c.self.invariant.ends c.args.class.now c.args.other.now none)
    ∙ ap (λ (cs : List ListedClass). nearest_common cs c.args.class.now c.args.other.now) c.self.view_is

pub returns-in_err-other : goal.returns-in_err-other
returns-in_err-other c =
    let none : class_place c.self.inside.classes c.args.other.now ≡ None = sym (sym c.in_err-other.was ∙ c.noted-2.ensures ∙ c.self.invariant.placed c.args.other.now) in
    ap (λ (o : Option (Bor (List ℕ))). option_copied o) c.from_residual-in_err-other.ensures
    ∙ sym (none_common_second c.self.inside.classes c.self.invariant.ends c.args.class.now c.args.other.now none)
    ∙ ap (λ (cs : List ListedClass). nearest_common cs c.args.class.now c.args.other.now) c.self.view_is

pub meeting-requires-clause-a : goal.meeting-requires-clause-a
meeting-requires-clause-a c =
    let at : class_place c.self.inside.classes c.args.class.now ≡ Some c.in_ok-class.class = sym (sym c.in_ok-class.was ∙ c.noted.ensures ∙ c.self.invariant.placed c.args.class.now) in
    subst (λ (l : List (Option ℕ)). c.in_ok-class.class < length l) (sym c.self.invariant.parents) (place_within c.self.inside.classes c.self.invariant.ends c.args.class.now c.in_ok-class.class at)

pub meeting-requires-clause-b : goal.meeting-requires-clause-b
meeting-requires-clause-b c =
    let at : class_place c.self.inside.classes c.args.other.now ≡ Some c.in_ok-other.other = sym (sym c.in_ok-other.was ∙ c.noted-2.ensures ∙ c.self.invariant.placed c.args.other.now) in
    subst (λ (l : List (Option ℕ)). c.in_ok-other.other < length l) (sym c.self.invariant.parents) (place_within c.self.inside.classes c.self.invariant.ends c.args.other.now c.in_ok-other.other at)

pub returns-in_err-place : goal.returns-in_err-place
returns-in_err-place c =
    let classes = c.self.inside.classes in
    let at : class_place classes c.args.class.now ≡ Some c.in_ok-class.class = sym (sym c.in_ok-class.was ∙ c.noted.ensures ∙ c.self.invariant.placed c.args.class.now) in
    let up : class_place classes c.args.other.now ≡ Some c.in_ok-other.other = sym (sym c.in_ok-other.was ∙ c.noted-2.ensures ∙ c.self.invariant.placed c.args.other.now) in
    let met : None ≡ meeting (parents_in classes) c.in_ok-class.class c.in_ok-other.other = sym c.in_err-place.was ∙ c.meeting.ensures ∙ ap (λ (l : List (Option ℕ)). meeting l c.in_ok-class.class c.in_ok-other.other) c.self.invariant.parents in
    ap (λ (o : Option (Bor (List ℕ))). option_copied o) c.from_residual-in_err-place.ensures
    ∙ ap (name_at classes) met
    ∙ sym (common_is classes c.self.invariant.ends c.args.class.now c.args.other.now c.in_ok-class.class c.in_ok-other.other at up)
    ∙ ap (λ (cs : List ListedClass). nearest_common cs c.args.class.now c.args.other.now) c.self.view_is

pub returns : goal.returns
returns c =
    let classes = c.self.inside.classes in
    let at : class_place classes c.args.class.now ≡ Some c.in_ok-class.class = sym (sym c.in_ok-class.was ∙ c.noted.ensures ∙ c.self.invariant.placed c.args.class.now) in
    let up : class_place classes c.args.other.now ≡ Some c.in_ok-other.other = sym (sym c.in_ok-other.was ∙ c.noted-2.ensures ∙ c.self.invariant.placed c.args.other.now) in
    let met : Some c.in_ok-place.place ≡ meeting (parents_in classes) c.in_ok-class.class c.in_ok-other.other = sym c.in_ok-place.was ∙ c.meeting.ensures ∙ ap (λ (l : List (Option ℕ)). meeting l c.in_ok-class.class c.in_ok-other.other) c.self.invariant.parents in
    c.name_at.ensures
    ∙ ap (λ (cs : List ListedClass). option_map (λ (x : ListedClass). x.name) (slice_get cs c.in_ok-place.place)) c.as_slice.ensures
    ∙ ap (name_at classes) met
    ∙ sym (common_is classes c.self.invariant.ends c.args.class.now c.args.other.now c.in_ok-class.class c.in_ok-other.other at up)
    ∙ ap (λ (cs : List ListedClass). nearest_common cs c.args.class.now c.args.other.now) c.self.view_is
