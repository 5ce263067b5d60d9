-- What a call passes and gives, as a block finds it on the operand stack and as the policy sees it. (docs/BLOCKS.md)
use Rattle.std.specs.Prelude.{◌≡◌, ⊤, ℕ, true, List, [], ◌∷◌, ◌++◌, Option, Some, None, option_and_then, reverse, slice_get}
use Rattle.api_listing.specs.declared.events.Event.{Event}
use Rattle.conspec_tree.specs.declared.types.Kind.{Kind}
use Rattle.conspec_automaton.specs.Next.{argument, returned}
use Rattle.block_template.specs.Typed.{operand_of}
use Rattle.guest_heap.specs.declared.value.Value.{Value}
use Rattle.guest_frames.specs.Values.{fits}
use Rattle.guest_model.specs.Parts.{number_in}

-- a value for each kind, a number or a reference as the kind tells
abbrev pub AreOfKinds : List Kind → List Value → Type 0
AreOfKinds [] [] = ⊤
AreOfKinds [] (v ∷ values) = ⊥
AreOfKinds (kind ∷ kinds) [] = ⊥
AreOfKinds (kind ∷ kinds) (v ∷ values) = (fits (operand_of kind) v ≡ true) × AreOfKinds kinds values

-- The arguments stand on the stack, the last on top, and the policy sees the numbers among them.
pub record ArePassed (kinds : List Kind) (event : Event) (items : List Value) : Type 0 where
  pub arguments : List Value
  pub beneath : List Value
  pub there : items ≡ reverse arguments ++ beneath
  pub of_kinds : AreOfKinds kinds arguments
  pub seen : (i : ℕ) → argument event i ≡ option_and_then number_in (slice_get arguments i)

-- The result stands on top, if the method gives one, and the policy sees its number.
pub record IsGivenOf (kind : Kind) (event : Event) (items : List Value) : Type 0 where
  pub value : Value
  pub beneath : List Value
  pub there : items ≡ value ∷ beneath
  pub of_kind : fits (operand_of kind) value ≡ true
  pub seen : returned event ≡ number_in value

abbrev pub IsGiven : Option Kind → Event → List Value → Type 0
IsGiven None event items = ⊤
IsGiven (Some kind) event items = IsGivenOf kind event items
