-- What instructions take from the operand stack. Lists of operands are from the bottom: the first pushed stands first.
-- (The Java Virtual Machine Specification, section 6.5.)
use Rattle.std.specs.Prelude.{ℕ, Bool, true, false, ◌&&◌, ◌||◌, codes, if◌then◌else◌, List, [], ◌∷◌, map, replicate, Option, Some, None}
use Rattle.std.specs.Option.{option_map_or}
use Rattle.api_listing.specs.BuiltIn.{object, throwable}
use Rattle.cert_format.specs.declared.typing.VType.{VType}
use Rattle.cert_format.specs.declared.typing.VType.TheVariants as types
use Rattle.insn_codec.specs.declared.shape.Heap.{Heap}
use Rattle.insn_codec.specs.declared.shape.Heap.TheVariants as heap
use Rattle.insn_codec.specs.declared.shape.How.{How}
use Rattle.insn_codec.specs.declared.shape.How.TheVariants as hows
use Rattle.insn_codec.specs.declared.shape.Item.{Item}
use Rattle.insn_codec.specs.declared.shape.Item.TheVariants as items
use Rattle.insn_codec.specs.declared.shape.ValueKind.{ValueKind}
use Rattle.insn_codec.specs.declared.shape.ValueKind.TheVariants as kinds
use Rattle.insn_codec.specs.declared.shape.Shape.{Shape}
use Rattle.insn_codec.specs.declared.shape.Shape.TheVariants as shapes
use Rattle.insn_codec.specs.Forms.{depth_of}
use Rattle.insn_codec.specs.Shapes.{shape_of}
use Rattle.bytecode_model.specs.declared.program.Program.{Program}
use Rattle.bytecode_model.specs.Arrays.{is_array}
use Rattle.bytecode_model.specs.Assigning.{assignable}
use Rattle.bytecode_model.specs.Described.{arguments, type_described, result_type}
use Rattle.bytecode_model.specs.InsnPlace.{InsnPlace, class_referred, desc_referred, has_receiver, calls_maker, is_own_field}

-- what is wanted of an operand or a local
abbrev pub Want : Type 0
Want = VType → Bool

-- ---- wants

abbrev pub anything : Want
anything t = true

abbrev pub is_number : Want
is_number types.Int = true
is_number other = false

-- a reference, also to an object that is not made yet
abbrev pub is_reference : Want
is_reference types.Top = false
is_reference types.Int = false
is_reference other = true

-- a reference to an object that is made, or null
abbrev pub is_made : Want
is_made types.Null = true
is_made (types.Ref name) = true
is_made other = false

abbrev pub is_array_type : Want
is_array_type types.Null = true
is_array_type (types.Ref name) = is_array name
is_array_type other = false

-- the object that this constructor makes, before it is made
abbrev pub is_this : Want
is_this types.UninitThis = true
is_this other = false

abbrev pub of_kind : ValueKind → Want
of_kind kinds.Int t = is_number t
of_kind kinds.Reference t = is_reference t

abbrev pub to_type : Program → VType → Want
to_type program wanted t = assignable program t wanted

abbrev pub to_class : Program → List ℕ → Want
to_class program name t = assignable program t (types.Ref name)

-- ---- arrays

-- an array of these items
abbrev pub to_array : Program → Item → Want
to_array program items.Int t = to_class program (codes "[I") t
to_array program items.Reference t = to_class program (codes "[Ljava/lang/Object;") t
to_array program items.Byte t = to_class program (codes "[B") t || to_class program (codes "[Z") t
to_array program items.Char t = to_class program (codes "[C") t
to_array program items.Short t = to_class program (codes "[S") t

abbrev pub to_item : Program → Item → Want
to_item program items.Reference t = to_class program object t
to_item program other t = is_number t

-- ---- fields, calls and returns

-- the object whose field is written: one's own field may be written before the object is made
abbrev pub to_written : InsnPlace → Want
to_written place t = (is_own_field place.own place.ref && is_this t) || to_class place.program (class_referred place) t

-- A call by invokespecial begins at the class of the code or above it, of which its receiver has to be.
abbrev pub to_own : InsnPlace → How → Want
to_own place hows.Virtual t = true
to_own place hows.Special t = to_class place.program place.class.name t
to_own place hows.Static t = true
to_own place hows.Interface t = true

-- the receiver of a call; that of a constructor is asked for apart
abbrev pub to_receiver : InsnPlace → How → Want
to_receiver place how t = calls_maker place || (to_class place.program (class_referred place) t && to_own place how t)

abbrev pub to_described : Program → List ℕ → Want
to_described program desc t = to_type program (type_described desc) t

abbrev pub to_arguments : InsnPlace → List Want
to_arguments place = map (to_described place.program) (arguments (desc_referred place))

abbrev pub call_takes : InsnPlace → How → List Want
call_takes place how = if has_receiver how then to_receiver place how ∷ to_arguments place else to_arguments place

abbrev pub to_result : InsnPlace → Want
to_result place t = option_map_or (λ (r : VType). to_type place.program r t) (result_type place.method.desc) false

-- ---- what is taken

abbrev pub heap_takes : InsnPlace → Heap → List Want
heap_takes place heap.Constant = []
heap_takes place (heap.ReadItem item) = to_array place.program item ∷ is_number ∷ []
heap_takes place (heap.WriteItem item) = to_array place.program item ∷ is_number ∷ to_item place.program item ∷ []
heap_takes place (heap.Divide remainder) = is_number ∷ is_number ∷ []
heap_takes place heap.ReadStatic = []
heap_takes place heap.WriteStatic = to_described place.program (desc_referred place) ∷ []
heap_takes place heap.ReadField = to_class place.program (class_referred place) ∷ []
heap_takes place heap.WriteField = to_written place ∷ to_described place.program (desc_referred place) ∷ []
heap_takes place (heap.Call how) = call_takes place how
heap_takes place heap.New = []
heap_takes place (heap.NewArray kind) = is_number ∷ []
heap_takes place heap.NewArrayOf = is_number ∷ []
heap_takes place heap.Length = is_array_type ∷ []
heap_takes place heap.Throw = to_class place.program throwable ∷ []
heap_takes place heap.Cast = is_made ∷ []
heap_takes place heap.IsInstance = is_made ∷ []
heap_takes place heap.Enter = is_made ∷ []
heap_takes place heap.Exit = is_made ∷ []
heap_takes place (heap.Return None) = []
heap_takes place (heap.Return (Some kind)) = to_result place ∷ []

abbrev pub takes_of : InsnPlace → Shape → List Want
takes_of place shapes.Nothing = []
takes_of place (shapes.Push n) = []
takes_of place shapes.PushNull = []
takes_of place (shapes.Load kind slot) = []
takes_of place (shapes.Store kind slot) = of_kind kind ∷ []
takes_of place (shapes.Move form) = replicate (depth_of form) anything
takes_of place (shapes.Two op) = is_number ∷ is_number ∷ []
takes_of place (shapes.One op) = is_number ∷ []
takes_of place (shapes.Increment slot by) = []
takes_of place (shapes.Test relation to) = is_number ∷ []
takes_of place (shapes.Compare relation to) = is_number ∷ is_number ∷ []
takes_of place (shapes.CompareReferences same to) = is_made ∷ is_made ∷ []
takes_of place (shapes.TestNull null to) = is_made ∷ []
takes_of place (shapes.Goto to) = []
takes_of place shapes.Switch = is_number ∷ []
takes_of place (shapes.Heap what) = heap_takes place what

-- what is wanted of each operand that the instruction takes
abbrev pub takes : InsnPlace → List Want
takes place = takes_of place (shape_of place.insn)

-- The lists are as long as each other, and each type is what is wanted in its place.
abbrev pub all_met : List Want → List VType → Bool
all_met [] [] = true
all_met [] (t ∷ types) = false
all_met (want ∷ wants) [] = false
all_met (want ∷ wants) (t ∷ types) = want t && all_met wants types

-- ---- returns

abbrev pub is_result_of : Option ValueKind → Option VType → Bool
is_result_of None None = true
is_result_of (Some kinds.Int) (Some types.Int) = true
is_result_of (Some kinds.Reference) (Some (types.Ref name)) = true
is_result_of kind result = false

-- A return is that of a method with such a result.
abbrev pub returns_well : InsnPlace → Shape → Bool
returns_well place (shapes.Heap (heap.Return kind)) = is_result_of kind (result_type place.method.desc)
returns_well place other = true
