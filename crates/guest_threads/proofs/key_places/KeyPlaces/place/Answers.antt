use Rattle.std.proofs.Common.{◌≡◌, ◌∙◌, ℕ, List, Some, None, Ok, Err, sym, ap, subst}
use Rattle.std.specs.List.{position_from}
use Rattle.std.specs.List.Sorted.{IsBinarySearchResult}
use Rattle.std.specs.Option.{option_copied}
use Rattle.std.specs.Ordering.{nat_cmp}
use Rattle.guest_threads.specs.KeyPlaces.{is_key, number_of}
use Rattle.guest_threads.proofs.Numbered.{halved, no_place}
use Rattle.guest_threads.proofs.key_places.KeyPlaces.place.Goals as goal

pub returns-in_default : goal.returns-in_default
returns-in_default c =
    let own = c.self.inside in
    let known : number_of c.args.key own.keys own.numbers ≡ None = sym (sym (ap option_copied c.in_default.is) ∙ c.get.ensures.value ∙ c.self.invariant.known c.args.key) in
    sym (no_place 0 c.args.key own.keys own.numbers c.self.invariant.paired known) ∙ ap (position_from (is_key c.args.key) 0) c.self.view_is

pub returns-in-Ok : goal.returns-in-Ok
returns-in-Ok c =
    let own = c.self.inside in
    let known : number_of c.args.key own.keys own.numbers ≡ Some c.in-Some.number.now = sym (c.in-Some.ensures.value ∙ c.self.invariant.known c.args.key) in
    let found = subst (λ (ns : List ℕ). IsBinarySearchResult (λ y. nat_cmp y c.in-Some.number.now) ns (Ok c.in-Ok.place)) c.as_slice.ensures c.in-Ok.ensures.position in
    halved c.args.key own.keys own.numbers own.next c.in-Some.number.now (Ok c.in-Ok.place) c.self.invariant.rise known found
    ∙ ap (position_from (is_key c.args.key) 0) c.self.view_is

pub returns-in-Err : goal.returns-in-Err
returns-in-Err c =
    let own = c.self.inside in
    let known : number_of c.args.key own.keys own.numbers ≡ Some c.in-Some.number.now = sym (c.in-Some.ensures.value ∙ c.self.invariant.known c.args.key) in
    let found = subst (λ (ns : List ℕ). IsBinarySearchResult (λ y. nat_cmp y c.in-Some.number.now) ns (Err c.in-Err.field-0)) c.as_slice.ensures c.in-Err.ensures.position in
    absurd (halved c.args.key own.keys own.numbers own.next c.in-Some.number.now (Err c.in-Err.field-0) c.self.invariant.rise known found)
