use Rattle.std.proofs.Common.{◌≡◌, ap, ◌∙◌, map, length, None, ◌++◌, ◌∷◌, [], cond}
use Rattle.std.specs.Result.{is_ok}
use Rattle.cert_format.specs.Index.{found}
use Rattle.cert_format.proofs.Places.{known_next, found_last, places_more}
use Rattle.cert_format.proofs.index.Index.add_new.Goals as goal

pub invariant_of-self-2 : goal.invariant_of-self-2
invariant_of-self-2 c =
    let names = c.self.inside.names.items in
    let all = c.push.new.self.items in
    let x = c.args.name in
    let is : all ≡ names ++ x ∷ [] = c.push.ensures.items ∙ ap (λ r. cond (is_ok r) (c.reserve.new.self.items ++ x ∷ []) c.reserve.new.self.items) c.unwrap.ensures ∙ ap (λ ns. ns ++ x ∷ []) c.reserve.ensures.items in
    let new : found (map (λ name. name.now) names) c.args.name.now ≡ None = ap (λ ns. found ns c.args.name.now) c.self.view_is ∙ c.requires in
    let updates = c.in_ok-insert.ensures.updates.0 in
    let len = ap length c.as_slice-place.ensures.value in (
      places_more names all c.args.name new is c.self.inside.places c.insert.new.self (length c.as_slice-place.result.now) c.self.invariant.0 len updates,
      c.keep.ensures (map (λ name. name.now) all) (known_next names all c.args.name new is c.self.inside.slots c.self.invariant.1)
          (found_last names all c.args.name new is (length c.as_slice-place.result.now) len),
    )
