-- What a program is judged by: of which methods the lock is held round each call, the types of its code, and the notes of its
-- instructions. A certificate gives them. (docs/CERTIFICATES.md)
use Rattle.std.specs.Prelude.{ℕ, Bool, true, false, List}
use Rattle.cert_format.specs.declared.certificate.Certificate.{Certificate}
use Rattle.cert_format.specs.declared.certificate.Mode.{Mode}
use Rattle.cert_format.specs.declared.certificate.Mode.TheVariants as modes
use Rattle.cert_format.specs.declared.note.Note.{Note}
use Rattle.cert_format.specs.declared.typing.Typing.{Typing}
use Rattle.block_logic.specs.declared.held_calls.HeldCalls.{HeldCalls}
use Rattle.block_logic.specs.declared.held_calls.HeldCalls.TheVariants.{Always, Never}

abbrev pub holds_round : HeldCalls → ℕ → Bool
holds_round Always method = true
holds_round Never method = false

-- It is held round each call that has a clause.
abbrev pub is_always : HeldCalls → Bool
is_always Always = true
is_always Never = false

-- In mode hold the lock is held round each call that has a clause, and in mode release round none.
abbrev pub held_in : Mode → HeldCalls
held_in modes.Hold = Always
held_in modes.Release = Never

pub record Annotations : Type 0 where
  pub held : HeldCalls
  pub typing : Typing
  pub notes : List (List (List Note))

abbrev pub annotations_of : Certificate → Annotations
annotations_of certificate = record { held = held_in certificate.mode; typing = certificate.typing; notes = certificate.notes }
