use Rattle.std.proofs.Common.{◌≡◌, ◌≤◌, ℕ, List, [], ◌∷◌, length, get_or, drop, sym, ap, refl, arith}
use Rattle.std.specs.Prelude.{◌||◌}
use Rattle.conspec_parse.specs.declared.signature.Param.{Param}
use Rattle.conspec_parse.specs.Methods.{is_named, is_parameter}
use Rattle.conspec_parse.proofs.signature.is_parameter.Goals as goal

is_parameter-first : (params : List Param) (name : List ℕ) (first : Param) → 1 ≤ length params → first ≡ get_or params 0 first → is_parameter params name ≡ (is_named first.name name || is_parameter (drop 1 params) name)
is_parameter-first [] name first some is = absurd (omega arith)
is_parameter-first (p ∷ params) name first some is = ap (λ x. is_named x.name name || is_parameter params name) (sym is)

pub returns-then-is_named : goal.returns-then-is_named
returns-then-is_named c =
    let so_far : is_parameter c.loop-left.left.now c.args.name.now ≡ is_parameter c.args.params.now c.args.name.now = c.loop-left.invariant in
    rw (← so_far, is_parameter-first c.loop-left.left.now c.args.name.now c.first-item.result c.in-len1-up.len_at_least c.first-item.is, ← c.if-is_named.ensures) refl
