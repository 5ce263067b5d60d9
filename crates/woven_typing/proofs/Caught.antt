-- Locals as a handler finds them, up to where the client's end.
use Rattle.std.proofs.Common.{◌≡◌, ℕ, zero, suc, ◌-◌, List, ◌∷◌, ◌++◌, length, map, refl, sym, ap, ◌∙◌}
use Rattle.std.specs.Prelude.{replicate}
use Rattle.std.proofs.lemmas.List.{map-append}
use Rattle.cert_format.specs.declared.typing.VType.{VType}
use Rattle.cert_format.specs.declared.typing.VType.TheVariants as types
use Rattle.bytecode_model.specs.Rules.{when_thrown}
use Rattle.block_template.specs.Frames.{padded}

tops_thrown : (n : ℕ) → map when_thrown (replicate n types.Top) ≡ replicate n types.Top
tops_thrown zero = refl
tops_thrown (suc n) = ap (λ (ts : List VType). types.Top ∷ ts) (tops_thrown n)

-- What is unknown stays so.
pub thrown_padded : (base : ℕ) (locals : List VType)
    → map when_thrown locals ++ replicate (base - length locals) types.Top ≡ map when_thrown (padded base locals)
thrown_padded base locals =
    ap (λ (ts : List VType). map when_thrown locals ++ ts) (sym (tops_thrown (base - length locals)))
    ∙ sym (map-append when_thrown locals (replicate (base - length locals) types.Top))
