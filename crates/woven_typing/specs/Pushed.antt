-- What a block has pushed, as types; and what its types are told of. (docs/BLOCKS.md)
use Rattle.std.specs.Prelude.{codes, List, [], ◌∷◌}
use Rattle.cert_format.specs.declared.typing.VType.{VType}
use Rattle.cert_format.specs.declared.typing.VType.TheVariants as types
use Rattle.block_template.specs.Blocks.{Clauses}
use Rattle.block_template.specs.Frames.{Around}
use Rattle.woven_typing.specs.declared.roles.Pushed.{Pushed}
use Rattle.woven_typing.specs.declared.roles.Pushed.TheVariants as pushes

abbrev pub types_pushed : Pushed → List VType
types_pushed pushes.Nothing = []
types_pushed pushes.Class = types.Ref (codes "java/lang/Class") ∷ []
types_pushed pushes.Null = types.Null ∷ []
types_pushed pushes.Number = types.Int ∷ []

-- the clauses of the method of a call, and the types before it and after it
pub record CallTypes : Type 0 where
  pub clauses : Clauses
  pub around : Around
