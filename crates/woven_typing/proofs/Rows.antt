-- The rules that an instruction meets it meets elsewhere.
use Rattle.std.proofs.Common.{◌≡◌, ℕ, suc, ◌+◌, ◌≤◌, Bool, true, false, cond, List, [], ◌∷◌, length, map, Option, refl, sym, ap, ◌∙◌, arith, Some, None}
use Rattle.std.specs.Prelude.{◌&&◌, ◌==◌, not, nat_le, nat_lt, bytes_eq}
use Rattle.std.specs.Option.{option_map_or}
use Rattle.std.proofs.lemmas.List.{length-map}
use Rattle.std.proofs.lemmas.Bool.Decides.{nat_tests}
use Rattle.cert_format.specs.declared.typing.FrameType.{FrameType}
use Rattle.cert_format.specs.declared.typing.VType.{VType}
use Rattle.cert_format.specs.declared.typing.VType.TheVariants as types
use Rattle.insn_codec.specs.declared.shape.Heap.TheVariants as heap
use Rattle.insn_codec.specs.declared.shape.ValueKind.{ValueKind}
use Rattle.insn_codec.specs.declared.shape.ValueKind.TheVariants as kinds
use Rattle.insn_codec.specs.declared.shape.Shape.{Shape}
use Rattle.insn_codec.specs.declared.shape.Shape.TheVariants as shapes
use Rattle.insn_codec.specs.Shapes.{shape_of}
use Rattle.insn_codec.specs.declared.shape.How.{How}
use Rattle.bytecode_model.specs.declared.program.Handler.{Handler}
use Rattle.api_listing.specs.BuiltIn.{throwable}
use Rattle.bytecode_model.specs.Heads.{is_static, maker}
use Rattle.bytecode_model.specs.Assigning.{assignable}
use Rattle.bytecode_model.specs.Described.{type_described, result_type, arguments}
use Rattle.bytecode_model.specs.Makes.{type_at, class_made, local_after, stack_after}
use Rattle.bytecode_model.specs.InsnPlace.{InsnPlace, is_maker}
use Rattle.bytecode_model.specs.Rules.{locals_fit, stack_fits, this_type, arguments_typed, entry_locals, Entry, Depth, taken, Operand, uses_local, Local, has_object, makes_receiver, leaves_made, made_well, Made, goes_well, class_caught, when_thrown, local_caught, is_reference_to, is_alone, catches_well}
use Rattle.bytecode_model.specs.Wants.{Want, takes, all_met, of_kind, is_result_of, returns_well}
use Rattle.woven_typing.specs.Renaming.{renamed, frame_renamed}
use Rattle.woven_typing.proofs.Kept.{IsKept, retargeted, described_all_stay, type_renamed, and_kept}
use Rattle.woven_typing.proofs.Taking.{WantsKept, wants_met, kind, same_maker, takes_kept}
use Rattle.woven_typing.proofs.Yielding.{same_object, made_same, local_left, stack_left, topmost_renamed}

pub le_more : (a b c : ℕ) → nat_le a b ≡ true → b ≤ c → nat_le a c ≡ true
le_more a b c e le = grind (arith, nat_tests)

pub lt_more : (a b c : ℕ) → nat_lt a b ≡ true → b ≤ c → nat_lt a c ≡ true
lt_more a b c e le = grind (arith, nat_tests)

module _ (moved : ℕ → ℕ) (p q : InsnPlace) (kept : IsKept moved p q) where
  abbrev new : VType → VType
  new t = renamed moved t

  abbrev pub again : FrameType → FrameType
  again f = frame_renamed moved f

  -- ---- lists

  pub stacks_fit : (from to : List VType) → stack_fits p.program from to ≡ true → stack_fits q.program (map new from) (map new to) ≡ true
  stacks_fit [] [] e = refl
  stacks_fit [] (t ∷ to) e = absurd cc
  stacks_fit (t ∷ from) [] e = absurd cc
  stacks_fit (t ∷ from) (u ∷ to) e = and_kept (assignable p.program t u) (stack_fits p.program from to) _ _ (kept.assigns t u) (stacks_fit from to) e

  pub locals_also : (f g : ℕ → VType) → ((j : ℕ) → g j ≡ new (f j)) → (j : ℕ) (to : List VType) → locals_fit p.program f j to ≡ true → locals_fit q.program g j (map new to) ≡ true
  locals_also f g same j [] e = refl
  locals_also f g same j (t ∷ to) e =
      and_kept (assignable p.program (f j) t) (locals_fit p.program f (j + 1) to) _ _
      (λ fits. ap (λ (u : VType). assignable q.program u (new t)) (same j) ∙ kept.assigns (f j) t fits)
      (locals_also f g same (j + 1) to) e

  kept_length : (ws vs : List Want) → WantsKept moved p q kept ws vs → length vs ≡ length ws
  kept_length [] [] k = refl
  kept_length [] (v ∷ vs) k = absurd k
  kept_length (w ∷ ws) [] k = absurd k
  kept_length (w ∷ ws) (v ∷ vs) k = ap suc (kept_length ws vs k.1)

  pub same_count : length (takes q) ≡ length (takes p)
  same_count = kept_length (takes p) (takes q) (takes_kept moved p q kept)

  pub taken_renamed : (f : FrameType) → taken q (again f) ≡ map new (taken p f)
  taken_renamed f = rw (same_count) (topmost_renamed moved p q kept (length (takes p)) f.stack)

  pub stack_renamed : (f : FrameType) → stack_after q (map new f.locals) (length (takes q)) (map new f.stack) ≡ map new (stack_after p f.locals (length (takes p)) f.stack)
  stack_renamed f = rw (same_count) (stack_left moved p q kept f.locals (length (takes p)) f.stack)

  -- ---- 2: depth

  pub depth_kept : (f : FrameType) → Depth p f ≡ true → Depth q (again f) ≡ true
  depth_kept f =
      and_kept (nat_le (length (takes p)) (length f.stack)) (nat_le (length (stack_after p f.locals (length (takes p)) f.stack)) p.method.max_stack) _ _
      (λ e. rw (same_count, length-map f.stack new) e)
      (λ e.
      let more = le_more _ p.method.max_stack q.method.max_stack e kept.stack in
      let same : length (stack_after q (map new f.locals) (length (takes q)) (map new f.stack)) ≡ length (stack_after p f.locals (length (takes p)) f.stack) =
      ap length (stack_renamed f) ∙ length-map (stack_after p f.locals (length (takes p)) f.stack) new in
      ap (λ (n : ℕ). nat_le n q.method.max_stack) same ∙ more)

  -- ---- 3: operands

  returns_shape : (to : ℕ → ℕ) (shape : Shape) → returns_well q (retargeted to shape) ≡ returns_well p shape
  returns_shape to (shapes.Heap (heap.Return k)) = ap (λ (d : List ℕ). is_result_of k (result_type d)) kept.desc
  returns_shape to (shapes.Heap heap.Constant) = refl
  returns_shape to (shapes.Heap (heap.ReadItem item)) = refl
  returns_shape to (shapes.Heap (heap.WriteItem item)) = refl
  returns_shape to (shapes.Heap (heap.Divide remainder)) = refl
  returns_shape to (shapes.Heap heap.ReadStatic) = refl
  returns_shape to (shapes.Heap heap.WriteStatic) = refl
  returns_shape to (shapes.Heap heap.ReadField) = refl
  returns_shape to (shapes.Heap heap.WriteField) = refl
  returns_shape to (shapes.Heap (heap.Call how)) = refl
  returns_shape to (shapes.Heap heap.New) = refl
  returns_shape to (shapes.Heap (heap.NewArray k)) = refl
  returns_shape to (shapes.Heap heap.NewArrayOf) = refl
  returns_shape to (shapes.Heap heap.Length) = refl
  returns_shape to (shapes.Heap heap.Throw) = refl
  returns_shape to (shapes.Heap heap.Cast) = refl
  returns_shape to (shapes.Heap heap.IsInstance) = refl
  returns_shape to (shapes.Heap heap.Enter) = refl
  returns_shape to (shapes.Heap heap.Exit) = refl
  returns_shape to shapes.Nothing = refl
  returns_shape to (shapes.Push n) = refl
  returns_shape to shapes.PushNull = refl
  returns_shape to (shapes.Load k slot) = refl
  returns_shape to (shapes.Store k slot) = refl
  returns_shape to (shapes.Move form) = refl
  returns_shape to (shapes.Two op) = refl
  returns_shape to (shapes.One op) = refl
  returns_shape to (shapes.Increment slot by) = refl
  returns_shape to (shapes.Test relation from) = refl
  returns_shape to (shapes.Compare relation from) = refl
  returns_shape to (shapes.CompareReferences same from) = refl
  returns_shape to (shapes.TestNull null from) = refl
  returns_shape to (shapes.Goto from) = refl
  returns_shape to shapes.Switch = refl

  pub operand_kept : (f : FrameType) → Operand p f ≡ true → Operand q (again f) ≡ true
  operand_kept f =
      and_kept (all_met (takes p) (taken p f)) (returns_well p (shape_of p.insn)) _ _
      (λ e. ap (λ (ts : List VType). all_met (takes q) ts) (taken_renamed f) ∙ wants_met moved p q kept (takes p) (takes q) (takes_kept moved p q kept) (taken p f) e)
      (λ e. ap (returns_well q) kept.shape ∙ returns_shape kept.to (shape_of p.insn) ∙ e)

  -- ---- 4: locals

  local_met : (k : ValueKind) (locals : List VType) (slot : ℕ) → (nat_lt slot p.method.max_locals && of_kind k (type_at locals slot)) ≡ true
      → (nat_lt slot q.method.max_locals && of_kind k (type_at (map new locals) slot)) ≡ true
  local_met k locals slot =
      and_kept (nat_lt slot p.method.max_locals) (of_kind k (type_at locals slot)) _ _
      (λ e. lt_more slot p.method.max_locals q.method.max_locals e kept.locals)
      (λ e. ap (of_kind k) (type_renamed moved locals slot) ∙ kind moved p q kept k (type_at locals slot) e)

  uses_kept : (locals : List VType) (to : ℕ → ℕ) (shape : Shape) → uses_local p.method locals shape ≡ true → uses_local q.method (map new locals) (retargeted to shape) ≡ true
  uses_kept locals to (shapes.Load k slot) = local_met k locals slot
  uses_kept locals to (shapes.Store k slot) = λ e. lt_more slot p.method.max_locals q.method.max_locals e kept.locals
  uses_kept locals to (shapes.Increment slot by) = local_met kinds.Int locals slot
  uses_kept locals to (shapes.Heap what) = λ e. e
  uses_kept locals to shapes.Nothing = λ e. e
  uses_kept locals to (shapes.Push n) = λ e. e
  uses_kept locals to shapes.PushNull = λ e. e
  uses_kept locals to (shapes.Move form) = λ e. e
  uses_kept locals to (shapes.Two op) = λ e. e
  uses_kept locals to (shapes.One op) = λ e. e
  uses_kept locals to (shapes.Test relation from) = λ e. e
  uses_kept locals to (shapes.Compare relation from) = λ e. e
  uses_kept locals to (shapes.CompareReferences same from) = λ e. e
  uses_kept locals to (shapes.TestNull null from) = λ e. e
  uses_kept locals to (shapes.Goto from) = λ e. e
  uses_kept locals to shapes.Switch = λ e. e

  pub local_kept : (f : FrameType) → Local p f ≡ true → Local q (again f) ≡ true
  local_kept f =
      and_kept (nat_le (length f.locals) p.method.max_locals) (uses_local p.method f.locals (shape_of p.insn)) _ _
      (λ e. ap (λ (n : ℕ). nat_le n q.method.max_locals) (length-map f.locals new) ∙ le_more (length f.locals) p.method.max_locals q.method.max_locals e kept.locals)
      (λ e. ap (uses_local q.method (map new f.locals)) kept.shape ∙ uses_kept f.locals kept.to (shape_of p.insn) e)

  -- ---- 5: objects that are not made yet

  pub object_same : (o : VType) (list : List VType) → has_object (new o) (map new list) ≡ has_object o list
  object_same o [] = refl
  object_same o (t ∷ list) = rw (same_object moved p q kept o t, object_same o list) refl

  receiver_same : (how : How) (f : FrameType) → makes_receiver q how (again f) ≡ makes_receiver p how f
  receiver_same how f =
      let receiver : type_at (taken q (again f)) 0 ≡ new (type_at (taken p f) 0) = ap (λ (ts : List VType). type_at ts 0) (taken_renamed f) ∙ type_renamed moved (taken p f) 0 in
      let made : class_made q (type_at (taken q (again f)) 0) ≡ class_made p (type_at (taken p f) 0) = ap (class_made q) receiver ∙ made_same moved p q kept (type_at (taken p f) 0) in
      rw (same_maker moved p q kept, made) refl

  same_making : is_maker q.method ≡ is_maker p.method
  same_making = ap (λ (name : List ℕ). bytes_eq name maker) kept.name

  leaves_same : (f : FrameType) → leaves_made q (again f) ≡ leaves_made p f
  leaves_same f = rw (same_making, object_same types.UninitThis f.locals, object_same types.UninitThis f.stack) refl

  new_same : q.at ≡ moved p.at → (f : FrameType) → has_object (types.Uninit q.at) (map new f.stack) ≡ has_object (types.Uninit p.at) f.stack
  new_same at f = ap (λ (i : ℕ). has_object (types.Uninit i) (map new f.stack)) at ∙ object_same (types.Uninit p.at) f.stack

  made_shape : (f : FrameType) (to : ℕ → ℕ) (shape : Shape) → shape_of p.insn ≡ shape → made_well q (again f) (retargeted to shape) ≡ made_well p f shape
  made_shape f to (shapes.Heap (heap.Call how)) is = receiver_same how f
  made_shape f to (shapes.Heap heap.New) is = ap not (new_same (kept.at is) f)
  made_shape f to (shapes.Heap (heap.Return None)) is = leaves_same f
  made_shape f to (shapes.Heap (heap.Return (Some k))) is = refl
  made_shape f to (shapes.Heap heap.Constant) is = refl
  made_shape f to (shapes.Heap (heap.ReadItem item)) is = refl
  made_shape f to (shapes.Heap (heap.WriteItem item)) is = refl
  made_shape f to (shapes.Heap (heap.Divide remainder)) is = refl
  made_shape f to (shapes.Heap heap.ReadStatic) is = refl
  made_shape f to (shapes.Heap heap.WriteStatic) is = refl
  made_shape f to (shapes.Heap heap.ReadField) is = refl
  made_shape f to (shapes.Heap heap.WriteField) is = refl
  made_shape f to (shapes.Heap (heap.NewArray k)) is = refl
  made_shape f to (shapes.Heap heap.NewArrayOf) is = refl
  made_shape f to (shapes.Heap heap.Length) is = refl
  made_shape f to (shapes.Heap heap.Throw) is = refl
  made_shape f to (shapes.Heap heap.Cast) is = refl
  made_shape f to (shapes.Heap heap.IsInstance) is = refl
  made_shape f to (shapes.Heap heap.Enter) is = refl
  made_shape f to (shapes.Heap heap.Exit) is = refl
  made_shape f to shapes.Nothing is = refl
  made_shape f to (shapes.Push n) is = refl
  made_shape f to shapes.PushNull is = refl
  made_shape f to (shapes.Load k slot) is = refl
  made_shape f to (shapes.Store k slot) is = refl
  made_shape f to (shapes.Move form) is = refl
  made_shape f to (shapes.Two op) is = refl
  made_shape f to (shapes.One op) is = refl
  made_shape f to (shapes.Increment slot by) is = refl
  made_shape f to (shapes.Test relation from) is = refl
  made_shape f to (shapes.Compare relation from) is = refl
  made_shape f to (shapes.CompareReferences same from) is = refl
  made_shape f to (shapes.TestNull null from) is = refl
  made_shape f to (shapes.Goto from) is = refl
  made_shape f to shapes.Switch is = refl

  pub made_kept : (f : FrameType) → Made q (again f) ≡ Made p f
  made_kept f = ap (made_well q (again f)) kept.shape ∙ made_shape f kept.to (shape_of p.insn) refl

  -- ---- 6: successors

  pub goes_kept : (f to : FrameType) → goes_well p f to ≡ true → goes_well q (again f) (again to) ≡ true
  goes_kept f to =
      and_kept (stack_fits p.program (stack_after p f.locals (length (takes p)) f.stack) to.stack) (locals_fit p.program (local_after p f.locals (taken p f)) 0 to.locals) _ _
      (λ e. ap (λ (s : List VType). stack_fits q.program s (map new to.stack)) (stack_renamed f) ∙ stacks_fit _ to.stack e)
      (locals_also (local_after p f.locals (taken p f)) (local_after q (map new f.locals) (taken q (again f)))
      (λ j. ap (λ (ts : List VType). local_after q (map new f.locals) ts j) (taken_renamed f) ∙ local_left moved p q kept f.locals (taken p f) j)
      0 to.locals)

  -- ---- 7: handlers

  thrown_same : (t : VType) → when_thrown (new t) ≡ new (when_thrown t)
  thrown_same types.Top = refl
  thrown_same types.Int = refl
  thrown_same types.Null = refl
  thrown_same (types.Ref name) = refl
  thrown_same types.UninitThis = refl
  thrown_same (types.Uninit i) = refl

  pub caught_same : (locals : List VType) (j : ℕ) → local_caught (map new locals) j ≡ new (local_caught locals j)
  caught_same locals j = ap when_thrown (type_renamed moved locals j) ∙ thrown_same (type_at locals j)

  refers_same : (class : List ℕ) (t : VType) → is_reference_to class (new t) ≡ is_reference_to class t
  refers_same class types.Top = refl
  refers_same class types.Int = refl
  refers_same class types.Null = refl
  refers_same class (types.Ref name) = refl
  refers_same class types.UninitThis = refl
  refers_same class (types.Uninit i) = refl

  alone_same : (class : List ℕ) (stack : List VType) → is_alone class (map new stack) ≡ is_alone class stack
  alone_same class [] = refl
  alone_same class (t ∷ []) = refers_same class t
  alone_same class (t ∷ u ∷ stack) = refl

  -- What is caught of locals is caught elsewhere of these, whatever else there is.
  pub catches_kept : (from locals : List VType) (f g to : FrameType) (h k : Handler) → f.locals ≡ locals → g.locals ≡ map new locals → k.class ≡ h.class
      → catches_well p f h to ≡ true → catches_well q g k (again to) ≡ true
  catches_kept from locals f g to h k left right class =
      and_kept (is_alone (class_caught h) to.stack) (locals_fit p.program (local_caught f.locals) 0 to.locals) _ _
      (λ e. ap (λ (c : Option (List ℕ)). is_alone (option_map_or (λ (name : List ℕ). name) c throwable) (map new to.stack)) class ∙ alone_same (class_caught h) to.stack ∙ e)
      (locals_also (local_caught f.locals) (local_caught g.locals)
      (λ j. ap (λ (ls : List VType). local_caught ls j) right ∙ caught_same locals j ∙ ap (λ (ls : List VType). new (local_caught ls j)) (sym left))
      0 to.locals)

  -- ---- 1: entry

  this_same : this_type q ≡ this_type p
  this_same = rw (same_making, kept.class) refl

  this_stays : (b : Bool) (name : List ℕ) → new (cond b types.UninitThis (types.Ref name)) ≡ cond b types.UninitThis (types.Ref name)
  this_stays true name = refl
  this_stays false name = refl

  arguments_same : arguments_typed q.method ≡ map new (arguments_typed p.method)
  arguments_same = ap (λ (d : List ℕ). map type_described (arguments d)) kept.desc ∙ sym (described_all_stay moved (arguments p.method.desc))

  entry_of : (b : Bool) → cond b (arguments_typed q.method) (this_type q ∷ arguments_typed q.method) ≡ map new (cond b (arguments_typed p.method) (this_type p ∷ arguments_typed p.method))
  entry_of true = arguments_same
  entry_of false =
      ap (λ (t : VType). t ∷ arguments_typed q.method) (this_same ∙ sym (this_stays (is_maker p.method) p.class.name))
      ∙ ap (λ (ts : List VType). new (this_type p) ∷ ts) arguments_same

  entry_same : entry_locals q ≡ map new (entry_locals p)
  entry_same = ap (λ (n : ℕ). cond (is_static n) (arguments_typed q.method) (this_type q ∷ arguments_typed q.method)) kept.flags ∙ entry_of (is_static p.method.flags)

  pub entry_kept : (f : FrameType) → Entry p f ≡ true → Entry q (again f) ≡ true
  entry_kept f =
      and_kept (nat_le (length (entry_locals p)) p.method.max_locals) (locals_fit p.program (type_at (entry_locals p)) 0 f.locals && (length f.stack == 0)) _ _
      (λ e.
      let same : length (entry_locals q) ≡ length (entry_locals p) = ap length entry_same ∙ length-map (entry_locals p) new in
      ap (λ (n : ℕ). nat_le n q.method.max_locals) same ∙ le_more (length (entry_locals p)) p.method.max_locals q.method.max_locals e kept.locals)
      (and_kept (locals_fit p.program (type_at (entry_locals p)) 0 f.locals) (length f.stack == 0) _ _
      (locals_also (type_at (entry_locals p)) (type_at (entry_locals q)) (λ j. ap (λ (ts : List VType). type_at ts j) entry_same ∙ type_renamed moved (entry_locals p) j) 0 f.locals)
      (λ e. ap (λ (n : ℕ). n == 0) (length-map f.stack new) ∙ e))
