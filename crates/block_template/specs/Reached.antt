-- Control comes to no instruction of a block that is told to be unreached. (docs/BLOCKS.md)
use Rattle.std.specs.Prelude.{◌≡◌, ◌≢◌, ℕ, ◌+◌, Bool, true, List, Some, slice_get, IfSome}
use Rattle.cert_format.specs.declared.certificate.Mode.{Mode}
use Rattle.block_template.specs.declared.item.Item.{Item}
use Rattle.block_template.specs.declared.item.Role.{Role}
use Rattle.block_template.specs.declared.item.Role.TheVariants as roles
use Rattle.block_template.specs.Blocks.{Clauses, lets_pass, handler_at, items}
use Rattle.block_template.specs.Flow.{AreForPhases, jump_of, may_pass, role_at}

abbrev pub IsReached : Role → Type 0
IsReached role = role ≢ roles.Unreached

-- From an instruction that is reached control comes to such alone.
pub record GoesOn (there : ℕ → Role) (at : ℕ) (i : Item) : Type 0 where
  pub passes : may_pass i.insn ≡ true → IsReached (there (at + 1))
  pub lands : IfSome (jump_of i.insn) (λ place. IsReached (there place))

-- So it is in each block, of which the front is reached, and the handler where control may come to the call.
pub record IsReachedWell (mode : Mode) (bools : List Bool) (base : ℕ) (clauses : Clauses) : Type 0 where
  pub begins : IsReached (role_at (items mode bools base clauses) 0)
  pub goes : (at : ℕ) (i : Item) → slice_get (items mode bools base clauses) at ≡ Some i → IsReached i.role
      → GoesOn (role_at (items mode bools base clauses)) at i
  pub caught : lets_pass clauses.before ≡ true
      → IfSome (handler_at mode bools base clauses) (λ place. IsReached (role_at (items mode bools base clauses) place))

abbrev pub BlocksAreReached : Type 0
BlocksAreReached =
    (mode : Mode) (bools : List Bool) (base : ℕ) (clauses : Clauses) → AreForPhases clauses → IsReachedWell mode bools base clauses
