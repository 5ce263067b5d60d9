-- The first that passes among what lists have together, told by its name.
use Rattle.std.proofs.Common.{◌≡◌, Bool, true, false, List, ◌++◌, Option, Some, None, refl, sym, ap, ◌∙◌}
use Rattle.std.specs.Prelude.{find, is_some, option_map}
use Rattle.std.specs.Option.{option_or}
use Rattle.std.proofs.lemmas.Bool.{false≢true}
use Rattle.std.proofs.lemmas.List.Folds.{find-append}

module _ {X Y : Type 0} (name : X → Y) (p : X → Bool) where
  abbrev first : List X → Option Y
  first xs = option_map name (find p xs)

  -- one of the front
  pub found_here : (xs ys : List X) (o : Option Y) → o ≡ first xs → is_some o ≡ true → o ≡ first (xs ++ ys)
  found_here xs ys o is some = by (find p xs) is ∙ sym (ap (option_map name) (find-append p xs ys)) where
    by : (f : Option X) → o ≡ option_map name f → o ≡ option_map name (option_or f (find p ys))
    by (Some x) e = e
    by None e = absurd (false≢true (sym (ap is_some e) ∙ some))

  -- none of the front
  pub found_later : (xs ys : List X) (o : Option Y) → o ≡ first xs → is_some o ≡ false → first (xs ++ ys) ≡ first ys
  found_later xs ys o is none = ap (option_map name) (find-append p xs ys) ∙ by (find p xs) is where
    by : (f : Option X) → o ≡ option_map name f → option_map name (option_or f (find p ys)) ≡ option_map name (find p ys)
    by (Some x) e = absurd (false≢true (sym none ∙ ap is_some e))
    by None e = refl
