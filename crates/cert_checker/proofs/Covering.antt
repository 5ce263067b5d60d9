-- The handlers that cover an instruction, found among those near it.
use Rattle.std.proofs.Common.{◌≡◌, ℕ, List, [], ◌∷◌, refl, sym, ap, ◌∙◌, inl, inr}
use Rattle.std.specs.Prelude.{filter, is_some, if◌then◌else◌}
use Rattle.std.proofs.lemmas.Bool.{cases_Bool}
use Rattle.bytecode_model.specs.declared.program.Handler.{Handler}
use Rattle.bytecode_model.specs.Rules.{covers}
use Rattle.block_logic.specs.Notes.{handlers_of}

those_covering : (at : ℕ) (table : List Handler) → handlers_of at (filter (covers at) table) ≡ handlers_of at table
those_covering at [] = refl
those_covering at (handler ∷ later) =
    let others = those_covering at later in
    elim (cases_Bool (covers at handler)) [
      | inl holds ↦
          let kept : filter (covers at) (handler ∷ later) ≡ handler ∷ filter (covers at) later = rw holds refl in
          ap (handlers_of at) kept
          ∙ ap (λ (places : List ℕ). if covers at handler then handler.at ∷ (if is_some handler.class then places else []) else places) others
      | inr fails ↦
          let left_out : filter (covers at) (handler ∷ later) ≡ filter (covers at) later = rw fails refl in
          let passed : handlers_of at (handler ∷ later) ≡ handlers_of at later = rw fails refl in
          ap (handlers_of at) left_out ∙ others ∙ sym passed
    ]

-- Tables with the same handlers that cover an instruction have the same handlers of it.
pub same_covering : (at : ℕ) (near table : List Handler) → filter (covers at) near ≡ filter (covers at) table → handlers_of at near ≡ handlers_of at table
same_covering at near table same = sym (those_covering at near) ∙ ap (handlers_of at) same ∙ those_covering at table
