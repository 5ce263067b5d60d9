-- What writing into an array comes to, where the operands and the place are there.
use Rattle.std.proofs.Common.{◌≡◌, ℕ, ℤ, List, Option, Some, Err, length, drop, ap, ◌∙◌}
use Rattle.std.specs.Prelude.{option_and_then, slice_get}
use Rattle.std.specs.Option.{option_map_or}
use Rattle.insn_codec.specs.declared.shape.Item.{Item}
use Rattle.bytecode_model.specs.declared.program.Program.{Program}
use Rattle.guest_heap.specs.declared.value.Value.{Value}
use Rattle.guest_model.specs.Changes.{World}
use Rattle.guest_model.specs.HeapOperations.{ArrayAt, HeapResult, bad_place, item_kind, item_written, number_operand, on_items, operand_of, place_among, writes_item}

module _ (item : Item) (program : Program) (world : World) (operands : List Value) where
  abbrev into : Value → ℤ → ArrayAt → HeapResult
  into value index a =
      option_map_or (λ place. item_written program world a place value (drop 3 operands)) (place_among (length a.items) index) (Some (Err bad_place))

  abbrev at_array : Value → ℤ → Option Value → HeapResult
  at_array value index = option_and_then (λ (array : Value). on_items item world.heap array (into value index))

  abbrev at_index : Value → Option ℤ → HeapResult
  at_index value = option_and_then (λ (index : ℤ). at_array value index (slice_get operands 2))

  pub item_goes : (value : Value) (index : ℤ) (array : Value) (a : ArrayAt) (place : ℕ) (told : HeapResult)
      → operand_of (item_kind item) operands 0 ≡ Some value → number_operand operands 1 ≡ Some index → slice_get operands 2 ≡ Some array
      → ((f : ArrayAt → HeapResult) → on_items item world.heap array f ≡ f a) → place_among (length a.items) index ≡ Some place
      → item_written program world a place value (drop 3 operands) ≡ told → writes_item item program world operands ≡ told
  item_goes value index array a place told v i o led p is =
      ap (option_and_then (λ (value : Value). at_index value (number_operand operands 1))) v
      ∙ ap (at_index value) i
      ∙ ap (at_array value index) o
      ∙ led (into value index)
      ∙ ap (λ (x : Option ℕ). option_map_or (λ place. item_written program world a place value (drop 3 operands)) x (Some (Err bad_place))) p
      ∙ is
