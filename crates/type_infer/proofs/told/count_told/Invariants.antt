use Rattle.std.proofs.Common.{◌≡◌, ℕ, ◌≤◌, ◌<◌, false, take}
use Rattle.cert_format.specs.Fits.{ends_with_top}
use Rattle.cert_format.specs.declared.typing.VType.TheVariants as types
use Rattle.bytecode_model.specs.Makes.{type_at}
use Rattle.type_infer.proofs.told.count_told.Given as goal

abbrev pub invariant-loop-i : goal.invariant-loop-i
invariant-loop-i l =
    (l.count ≤ l.i) × (ends_with_top (take l.count l.types) ≡ false) × ((j : ℕ) → l.count ≤ j → j < l.i → type_at l.types j ≡ types.Top)
