-- The rows of the built-in methods.
use Rattle.std.proofs.Common.{◌≡◌, ℕ, List, map, Option, refl, sym, ap, ◌∙◌}
use Rattle.std.specs.Prelude.{slice_get, option_map}
use Rattle.std.proofs.lemmas.Option.{slice_get-map}
use Rattle.api_listing.specs.BuiltIn.{MethodRow, method_rows}
use Rattle.api_listing.specs.Descriptor.{after_first, arguments_at, class_at, element_at, method_type, result_of, type_at, whole_type}
use Rattle.guest_model.specs.Calls.{arity}
use Rattle.guest_model.specs.Builtins.{builtin_of_row}
use Rattle.guest_model.specs.declared.builtin.TheConstants.{BUILTINS}
use Rattle.guest_model.specs.declared.arities.TheConstants.{ARITIES}

-- what is got from a table that has an item for each row
pub row_got : {X : Type 0} (f : MethodRow → X) (table slice : List X) → map f method_rows ≡ table → slice ≡ table → (i : ℕ) (o : Option X)
    → o ≡ slice_get slice i → o ≡ option_map f (slice_get method_rows i)
row_got {X = X} f table slice rows same i o e =
    e ∙ ap (λ (xs : List X). slice_get xs i) (same ∙ sym rows) ∙ slice_get-map f method_rows i

pub arities_are : map (λ (row : MethodRow). arity row.2) method_rows ≡ ARITIES
unfolding method_rows method_type after_first arguments_at type_at element_at class_at whole_type result_of
arities_are = refl

pub builtins_are : map builtin_of_row method_rows ≡ BUILTINS
unfolding method_rows
builtins_are = refl
