-- What instructions leave: what is pushed, and what becomes of locals and operands that stay. Lists of operands are from
-- the bottom. (The Java Virtual Machine Specification, sections 4.10.2.4 and 6.5.)
use Rattle.std.specs.Prelude.{ℕ, ◌-◌, Bool, true, false, ◌==◌, ◌||◌, bytes_eq, codes, if◌then◌else◌, List, [], ◌∷◌, ◌++◌, length, map, reverse, take, drop, Option, Some, None, slice_get}
use Rattle.std.specs.Option.{option_map_or}
use Rattle.cert_format.specs.declared.typing.VType.{VType}
use Rattle.cert_format.specs.declared.typing.VType.TheVariants as types
use Rattle.insn_codec.specs.declared.insn.Insn.{Insn}
use Rattle.insn_codec.specs.declared.forms.StackForm.{StackForm}
use Rattle.insn_codec.specs.declared.shape.Heap.{Heap}
use Rattle.insn_codec.specs.declared.shape.Heap.TheVariants as heap
use Rattle.insn_codec.specs.declared.shape.Item.{Item}
use Rattle.insn_codec.specs.declared.shape.Item.TheVariants as items
use Rattle.insn_codec.specs.declared.shape.Shape.{Shape}
use Rattle.insn_codec.specs.declared.shape.Shape.TheVariants as shapes
use Rattle.insn_codec.specs.Forms.{depth_of, order_of}
use Rattle.insn_codec.specs.Shapes.{shape_of}
use Rattle.bytecode_model.specs.declared.program.Method.{Method}
use Rattle.bytecode_model.specs.declared.program.Target.{Target}
use Rattle.bytecode_model.specs.declared.program.Target.TheVariants as target
use Rattle.bytecode_model.specs.Arrays.{array_of}
use Rattle.bytecode_model.specs.Described.{type_described, result_type}
use Rattle.bytecode_model.specs.InsnPlace.{InsnPlace, class_referred, desc_referred, class_of, calls_maker}

-- the type in a place, where one that is absent is Top
abbrev pub type_at : List VType → ℕ → VType
type_at list i = option_map_or (λ (t : VType). t) (slice_get list i) types.Top

-- ---- what is pushed

-- the operand that is pushed, among those taken, for one that a form counts from the top
abbrev pub moved_from : ℕ → List VType → ℕ → VType
moved_from depth taken i = type_at taken (depth - 1 - i)

abbrev pub form_yields : StackForm → List VType → List VType
form_yields form taken = map (moved_from (depth_of form) taken) (reverse (order_of form))

-- the type of a constant
abbrev pub constant_type : Target → VType
constant_type (target.Number n) = types.Int
constant_type (target.Literal index) = types.Ref (codes "java/lang/String")
constant_type (target.ClassName name) = types.Ref (codes "java/lang/Class")
constant_type other = types.Top

-- the type of an item of an array of references
abbrev pub item_type : VType → VType
item_type types.Null = types.Null
item_type (types.Ref []) = types.Top
item_type (types.Ref (b ∷ item)) = type_described item
item_type other = types.Top

abbrev pub read_type : Item → List VType → VType
read_type items.Reference taken = item_type (type_at taken 0)
read_type other taken = types.Int

-- the array that `newarray` makes
abbrev pub array_named : ℕ → List ℕ
array_named kind =
    if kind == 4 then codes "[Z"
    else if kind == 5 then codes "[C"
    else if kind == 8 then codes "[B"
    else if kind == 9 then codes "[S"
    else codes "[I"

abbrev pub call_yields : Option VType → List VType
call_yields None = []
call_yields (Some t) = t ∷ []

abbrev pub heap_yields : InsnPlace → List VType → Heap → List VType
heap_yields place taken heap.Constant = constant_type place.ref ∷ []
heap_yields place taken (heap.ReadItem item) = read_type item taken ∷ []
heap_yields place taken (heap.Divide remainder) = types.Int ∷ []
heap_yields place taken heap.ReadStatic = type_described (desc_referred place) ∷ []
heap_yields place taken heap.ReadField = type_described (desc_referred place) ∷ []
heap_yields place taken (heap.Call how) = call_yields (result_type (desc_referred place))
heap_yields place taken heap.New = types.Uninit place.at ∷ []
heap_yields place taken (heap.NewArray kind) = types.Ref (array_named kind) ∷ []
heap_yields place taken heap.NewArrayOf = types.Ref (array_of (class_of place.ref)) ∷ []
heap_yields place taken heap.Length = types.Int ∷ []
heap_yields place taken heap.Cast = types.Ref (class_of place.ref) ∷ []
heap_yields place taken heap.IsInstance = types.Int ∷ []
heap_yields place taken other = []

abbrev pub yields_of : InsnPlace → List VType → List VType → Shape → List VType
yields_of place locals taken (shapes.Push n) = types.Int ∷ []
yields_of place locals taken shapes.PushNull = types.Null ∷ []
yields_of place locals taken (shapes.Load kind slot) = type_at locals slot ∷ []
yields_of place locals taken (shapes.Move form) = form_yields form taken
yields_of place locals taken (shapes.Two op) = types.Int ∷ []
yields_of place locals taken (shapes.One op) = types.Int ∷ []
yields_of place locals taken (shapes.Heap what) = heap_yields place taken what
yields_of place locals taken other = []

-- what is pushed, by the locals and by what is taken
abbrev pub yields : InsnPlace → List VType → List VType → List VType
yields place locals taken = yields_of place locals taken (shape_of place.insn)

-- ---- objects that are made

-- what a `new` makes, and nothing for other instructions
abbrev pub made_by : Shape → Target → List ℕ
made_by (shapes.Heap heap.New) ref = class_of ref
made_by other ref = []

abbrev pub new_in : Option Insn → Option Target → List ℕ
new_in (Some insn) (Some ref) = made_by (shape_of insn) ref
new_in insn ref = []

-- the class of the `new` at an index
abbrev pub new_at : Method → ℕ → List ℕ
new_at method i = new_in (slice_get method.insns i) (slice_get method.refs i)

-- the class of the object that a call of a constructor makes of this receiver, if it may
abbrev pub class_made : InsnPlace → VType → Option (List ℕ)
class_made place (types.Uninit i) = if bytes_eq (class_referred place) (new_at place.method i) then Some (class_referred place) else None
class_made place types.UninitThis =
    if bytes_eq (class_referred place) place.class.name || bytes_eq (class_referred place) place.class.parent then Some place.class.name else None
class_made place other = None

-- whether the types are of one object that is not made yet
abbrev pub is_same_object : VType → VType → Bool
is_same_object types.UninitThis types.UninitThis = true
is_same_object (types.Uninit i) (types.Uninit j) = i == j
is_same_object t u = false

-- the type, where the receiver is made
abbrev pub when_made : InsnPlace → VType → VType → VType
when_made place receiver t = if is_same_object receiver t then option_map_or (λ (class : List ℕ). types.Ref class) (class_made place receiver) t else t

-- What `new` made before is forgotten.
abbrev pub when_new : ℕ → VType → VType
when_new at t = if is_same_object (types.Uninit at) t then types.Top else t

abbrev pub when_called : InsnPlace → List VType → VType → VType
when_called place taken t = if calls_maker place then when_made place (type_at taken 0) t else t

-- what becomes of the type of a local or an operand that stays
abbrev pub changed_by : InsnPlace → List VType → Shape → VType → VType
changed_by place taken (shapes.Heap heap.New) t = when_new place.at t
changed_by place taken (shapes.Heap (heap.Call how)) t = when_called place taken t
changed_by place taken other t = t

abbrev pub changed : InsnPlace → List VType → VType → VType
changed place taken t = changed_by place taken (shape_of place.insn) t

-- ---- afterwards

-- whether the shape stores into the local
abbrev pub stores : Shape → ℕ → Bool
stores (shapes.Store kind slot) j = j == slot
stores other j = false

-- the type of a local afterwards
abbrev pub local_after : InsnPlace → List VType → List VType → ℕ → VType
local_after place locals taken j = if stores (shape_of place.insn) j then type_at taken 0 else changed place taken (type_at locals j)

-- the n topmost operands, and those below them
abbrev pub topmost : ℕ → List VType → List VType
topmost n stack = drop (length stack - n) stack

abbrev pub below : ℕ → List VType → List VType
below n stack = take (length stack - n) stack

-- the operands afterwards, where n are taken
abbrev pub stack_after : InsnPlace → List VType → ℕ → List VType → List VType
stack_after place locals n stack = map (changed place (topmost n stack)) (below n stack) ++ yields place locals (topmost n stack)
