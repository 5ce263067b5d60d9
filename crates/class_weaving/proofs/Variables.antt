-- The fields of variables, one after another.
use Rattle.std.proofs.Common.{◌≡◌, ℕ, ◌+◌, List, [], ◌∷◌, ◌++◌, ap, sym, ◌∙◌}
use Rattle.class_codec.specs.declared.tree.Member.{Member}
use Rattle.conspec_tree.specs.declared.types.Var.{Var}
use Rattle.bytecode_model.proofs.Climbing.{pushed}
use Rattle.class_weaving.specs.State.{field, fields_from}

pub field_more : (at : ℕ) (var : Var) (all rest : List Var) (one : Member) (xs new total : List Member) → all ≡ var ∷ rest → one ≡ field at var
    → new ≡ xs ++ one ∷ [] → xs ++ fields_from at all ≡ total → new ++ fields_from (at + 1) rest ≡ total
field_more at var all rest one xs new total split is push so_far =
    pushed xs new (fields_from (at + 1) rest) (fields_from at all) total one push
    (ap (fields_from at) split ∙ ap (λ first. first ∷ fields_from (at + 1) rest) (sym is)) so_far
