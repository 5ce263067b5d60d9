-- What a form leaves is read from the four topmost operands.
use Rattle.std.proofs.Common.{◌≡◌, ℕ, zero, suc, ◌+◌, ◌<◌, ◌≤◌, List, [], ◌∷◌, ◌++◌, length, drop, Some, refl, ap, sym, ◌∙◌, arith}
use Rattle.std.specs.Prelude.{slice_get}
use Rattle.std.specs.List.{filter_map}
use Rattle.std.specs.Option.{option_map_or}
use Rattle.std.proofs.lemmas.Bool.{le-leb, le-ltb}
use Rattle.std.proofs.lemmas.List.{length-append, length-drop}
use Rattle.insn_codec.specs.declared.forms.StackForm.{StackForm}
use Rattle.insn_codec.specs.declared.forms.StackForm.TheVariants.{Pop, Pop2, Dup, DupX1, DupX2, Dup2, Dup2X1, Dup2X2, Swap}
use Rattle.insn_codec.specs.Effect.{moved_by}
use Rattle.insn_codec.specs.Forms.{depth_of, order_of}
use Rattle.guest_heap.specs.Stack.{Operands}
use Rattle.guest_heap.specs.declared.value.Value.{Value}
use Rattle.guest_heap.specs.declared.value.Value.TheVariants as values
use Rattle.guest_frames.specs.Room.{left_on}

abbrev pub at_depth : List Value → ℕ → Value
at_depth items depth = option_map_or (λ (v : Value). v) (slice_get items depth) values.Null

found : (items : List Value) (depth : ℕ) → depth < length items → slice_get items depth ≡ Some (at_depth items depth)
found [] depth lt = absurd (omega (arith, lt))
found (x ∷ items) zero lt = refl
found (x ∷ items) (suc depth) lt = found items depth (omega (arith, lt))

-- these stand on top, null where there are not so many
pub record AreTop (items : List Value) (a b c d : Value) : Type 0 where
  pub first : a ≡ at_depth items 0
  pub second : b ≡ at_depth items 1
  pub third : c ≡ at_depth items 2
  pub fourth : d ≡ at_depth items 3

reads : (items : List Value) (depth : ℕ) (v : Value) → v ≡ at_depth items depth → depth < length items → slice_get items depth ≡ Some v
reads items depth v is lt = found items depth lt ∙ ap Some (sym is)

-- a form reads no deeper than it takes
read : (form : StackForm) (items : List Value) (a b c d : Value) → AreTop items a b c d → depth_of form ≤ length items
    → filter_map (slice_get items) (order_of form) ≡ filter_map (slice_get (a ∷ b ∷ c ∷ d ∷ [])) (order_of form)
read Pop items a b c d top le = refl
read Pop2 items a b c d top le = refl
read Dup items a b c d top le = rw (reads items 0 a top.first (omega (arith, le))) refl
read DupX1 items a b c d top le = rw (reads items 0 a top.first (omega (arith, le))) (rw (reads items 1 b top.second (omega (arith, le))) refl)
read DupX2 items a b c d top le = rw (reads items 0 a top.first (omega (arith, le))) (rw (reads items 1 b top.second (omega (arith, le))) (rw (reads items 2 c top.third (omega (arith, le))) refl))
read Dup2 items a b c d top le = rw (reads items 0 a top.first (omega (arith, le))) (rw (reads items 1 b top.second (omega (arith, le))) refl)
read Dup2X1 items a b c d top le = rw (reads items 0 a top.first (omega (arith, le))) (rw (reads items 1 b top.second (omega (arith, le))) (rw (reads items 2 c top.third (omega (arith, le))) refl))
read Dup2X2 items a b c d top le =
    rw (reads items 0 a top.first (omega (arith, le))) (rw (reads items 1 b top.second (omega (arith, le))) (rw (reads items 2 c top.third (omega (arith, le))) (rw (reads items 3 d top.fourth (omega (arith, le))) refl)))
read Swap items a b c d top le = rw (reads items 0 a top.first (omega (arith, le))) (rw (reads items 1 b top.second (omega (arith, le))) refl)

-- of four operands each that a form names is there
counted : (form : StackForm) (a b c d : Value) → length (filter_map (slice_get (a ∷ b ∷ c ∷ d ∷ [])) (order_of form)) ≡ length (order_of form)
counted Pop a b c d = refl
counted Pop2 a b c d = refl
counted Dup a b c d = refl
counted DupX1 a b c d = refl
counted DupX2 a b c d = refl
counted Dup2 a b c d = refl
counted Dup2X1 a b c d = refl
counted Dup2X2 a b c d = refl
counted Swap a b c d = refl

pub formed : (form : StackForm) (stack : Operands) (a b c d : Value) → AreTop stack.items a b c d → depth_of form ≤ length stack.items
    → length stack.items + length (order_of form) ≤ stack.size + depth_of form
    → left_on stack (moved_by form stack.items)
    ≡ Some (record { items = filter_map (slice_get (a ∷ b ∷ c ∷ d ∷ [])) (order_of form) ++ drop (depth_of form) stack.items; size = stack.size })
formed form stack a b c d top le room =
    let put : List Value = filter_map (slice_get (a ∷ b ∷ c ∷ d ∷ [])) (order_of form) in
    let rest : List Value = drop (depth_of form) stack.items in
    let few : length (put ++ rest) ≤ stack.size =
    omega (arith, le, room, counted form a b c d, length-append put rest, length-drop (depth_of form) stack.items) in
    rw (le-leb (depth_of form) (length stack.items) le) (rw (read form stack.items a b c d top le) (rw (le-ltb stack.size (length (put ++ rest)) few) refl))
