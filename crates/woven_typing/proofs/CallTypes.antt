-- The types after a call are those that the rules tell.
use Rattle.std.proofs.Common.{◌≡◌, ℕ, ◌+◌, Bool, true, false, cond, List, ◌∷◌, ◌++◌, length, map, Option, Some, None, refl, sym, ap, ◌∙◌, arith}
use Rattle.std.specs.Prelude.{option_map, slice_get}
use Rattle.std.specs.Option.{option_map_or}
use Rattle.std.proofs.lemmas.List.{length-map}
use Rattle.std.proofs.lemmas.Option.{slice_get-map}
use Rattle.cert_format.specs.declared.typing.FrameType.{FrameType}
use Rattle.cert_format.specs.declared.typing.VType.{VType}
use Rattle.cert_format.specs.declared.typing.VType.TheVariants as types
use Rattle.insn_codec.specs.declared.shape.Heap.TheVariants as heap
use Rattle.insn_codec.specs.declared.shape.How.{How}
use Rattle.insn_codec.specs.declared.shape.Shape.{Shape}
use Rattle.insn_codec.specs.declared.shape.Shape.TheVariants as shapes
use Rattle.insn_codec.specs.Shapes.{shape_of}
use Rattle.bytecode_model.specs.Described.{arguments}
use Rattle.bytecode_model.specs.Makes.{below, changed_by, class_made, is_same_object, local_after, stack_after, stores, topmost, type_at, when_called, when_made, yields_of}
use Rattle.bytecode_model.specs.InsnPlace.{InsnPlace, calls_maker, desc_referred, has_receiver}
use Rattle.bytecode_model.specs.Rules.{taken}
use Rattle.bytecode_model.specs.Wants.{call_takes, takes, takes_of, to_arguments, to_described, to_receiver}
use Rattle.woven_typing.specs.Following.{arguments_count, call_operands, count_of, count_taken, given, stack_following, types_after}

module _ (place : InsnPlace) (how : How) (calls : shape_of place.insn ≡ shapes.Heap (heap.Call how)) where
  pub takes_call : takes place ≡ call_takes place how
  takes_call = ap (takes_of place) calls

  many : (b : Bool) → cond b (arguments_count place + 1) (arguments_count place)
      ≡ length (cond b (to_receiver place how ∷ to_arguments place) (to_arguments place))
  many true = omega (arith, length-map (arguments (desc_referred place)) (to_described place.program))
  many false = omega (arith, length-map (arguments (desc_referred place)) (to_described place.program))

  pub counts : count_taken place ≡ length (takes place)
  counts = ap (count_of place) calls ∙ many (has_receiver how) ∙ sym (ap length takes_call)

  pub operands_are : (frame : FrameType) → call_operands place frame.stack ≡ taken place frame
  operands_are frame = ap (λ (n : ℕ). topmost n frame.stack) counts

  pub stack_is : (locals stack : List VType) → stack_following place stack ≡ stack_after place locals (length (takes place)) stack
  stack_is locals stack =
      ap (λ (n : ℕ). types_after place (topmost n stack) (below n stack) ++ given place) counts
      ∙ sym
      (ap (λ (s : Shape). map (changed_by place (topmost (length (takes place)) stack) s) (below (length (takes place)) stack)
      ++ yields_of place locals (topmost (length (takes place)) stack) s) calls)

  -- ---- locals

  same_top : (r : VType) → is_same_object r types.Top ≡ false
  same_top types.Top = refl
  same_top types.Int = refl
  same_top types.Null = refl
  same_top (types.Ref name) = refl
  same_top types.UninitThis = refl
  same_top (types.Uninit i) = refl

  pub top_stays : (ts : List VType) → when_called place ts types.Top ≡ types.Top
  top_stays ts = by (calls_maker place)
    where
      made : when_made place (type_at ts 0) types.Top ≡ types.Top
      made =
          ap (λ (b : Bool). cond b (option_map_or (λ (class : List ℕ). types.Ref class) (class_made place (type_at ts 0)) types.Top) types.Top)
          (same_top (type_at ts 0))

      by : (b : Bool) → cond b (when_made place (type_at ts 0) types.Top) types.Top ≡ types.Top
      by true = made
      by false = refl

  or_top : (ts : List VType) (o : Option VType)
      → option_map_or (λ (t : VType). t) (option_map (when_called place ts) o) types.Top
      ≡ when_called place ts (option_map_or (λ (t : VType). t) o types.Top)
  or_top ts None = sym (top_stays ts)
  or_top ts (Some t) = refl

  pub type_after : (ts locals : List VType) (j : ℕ) → type_at (types_after place ts locals) j ≡ when_called place ts (type_at locals j)
  type_after ts locals j =
      ap (λ (o : Option VType). option_map_or (λ (t : VType). t) o types.Top) (slice_get-map (when_called place ts) locals j)
      ∙ or_top ts (slice_get locals j)

  pub local_is : (frame : FrameType) (j : ℕ)
      → type_at (types_after place (call_operands place frame.stack) frame.locals) j ≡ local_after place frame.locals (taken place frame) j
  local_is frame j =
      let ts : List VType = taken place frame in
      ap (λ (operands : List VType). type_at (types_after place operands frame.locals) j) (operands_are frame)
      ∙ type_after ts frame.locals j
      ∙ sym (ap (λ (s : Shape). cond (stores s j) (type_at ts 0) (changed_by place ts s (type_at frame.locals j))) calls)
