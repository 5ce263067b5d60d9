use Rattle.std.proofs.Common.{◌<◌, ◌-◌, ◌/◌, ◌%◌, ◌∷◌, List, length, get_or, drop, take, sym, ap, subst, ◌∙◌}
use Rattle.api_listing.specs.declared.events.ApiValue.{ApiValue}
use Rattle.race_free_check.specs.Choosing.{chosen}
use Rattle.race_free_check.proofs.Grown.{front_is}
use Rattle.race_free_check.proofs.Numbered.{count_left, inside, number_left, told}
use Rattle.race_free_check.proofs.choices.Choosing.next.Goals as goal

pub bounds-as_slice-at : goal.bounds-as_slice-at
bounds-as_slice-at c =
    let left = c.self.inside.left.now in
    let rest = take (length left - 1) (drop 1 left) in
    let front = front_is left c.list-item.result c.list-item.result c.in-len1-up.len_at_least c.list-item.is in
    subst (λ (ns : List ApiValue). c.self.inside.number / (c.self.inside.count / c.len.result) < length ns) (sym c.as_slice.ensures)
    (inside left rest c.list-item.result c.self.inside.number c.self.inside.count c.len.result front c.self.invariant.0 c.self.invariant.1 c.len.ensures)

pub invariant_of-self : goal.invariant_of-self
invariant_of-self c =
    let left = c.self.inside.left.now in
    let rest = take (length left - 1) (drop 1 left) in
    let front = front_is left c.list-item.result c.list-item.result c.in-len1-up.len_at_least c.list-item.is in (
      count_left left rest c.list-item.result c.self.inside.number c.self.inside.count c.len.result front c.self.invariant.0 c.self.invariant.1 c.len.ensures,
      number_left left rest c.list-item.result c.self.inside.number c.self.inside.count c.len.result front c.self.invariant.0 c.self.invariant.1 c.len.ensures,
    )

pub returns : goal.returns
returns c =
    let left = c.self.inside.left.now in
    let rest = take (length left - 1) (drop 1 left) in
    let front = front_is left c.list-item.result c.list-item.result c.in-len1-up.len_at_least c.list-item.is in
    let at = c.self.inside.number / (c.self.inside.count / c.len.result) in
    let others = chosen rest (c.self.inside.number % (c.self.inside.count / c.len.result)) in
    let item = c.index-as_slice-at.result in
    sym c.self.view_is
    ∙ told left rest c.list-item.result c.self.inside.number c.self.inside.count c.len.result front c.self.invariant.0 c.self.invariant.1 c.len.ensures item
    ∙ ap (λ (values : List ApiValue). get_or values at item ∷ others) (sym c.as_slice.ensures)
    ∙ ap (λ (value : ApiValue). value ∷ others) (sym c.index-as_slice-at.is)
