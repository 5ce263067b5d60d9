-- What the rules of the notes ask of an instruction and of what its operand names. (docs/CERTIFICATES.md)
use Rattle.std.specs.Prelude.{ℕ, ℤ, ◌==◌, ◌&&◌, if◌then◌else◌, Bool, true, false, bytes_eq, codes, List, Option, Some, None}
use Rattle.std.specs.Ordering.{int_eq}
use Rattle.std.specs.Option.{option_map_or}
use Rattle.insn_codec.specs.declared.shape.Heap.TheVariants as heap
use Rattle.insn_codec.specs.declared.shape.ValueKind.TheVariants as kinds
use Rattle.insn_codec.specs.declared.shape.Relation.{Relation}
use Rattle.insn_codec.specs.declared.shape.Two.TheVariants as two
use Rattle.insn_codec.specs.declared.shape.Shape.{Shape}
use Rattle.insn_codec.specs.declared.shape.Shape.TheVariants as shapes
use Rattle.bytecode_model.specs.declared.program.Target.{Target}
use Rattle.bytecode_model.specs.declared.program.Target.TheVariants as target
use Rattle.conspec_automaton.specs.declared.policy.Policy.{Policy}
use Rattle.conspec_automaton.specs.Next.{has_clauses}
use Rattle.guest_model.specs.declared.builtin.Builtin.{Builtin}
use Rattle.guest_model.specs.declared.builtin.Builtin.TheVariants as builtins
use Rattle.guest_model.specs.Builtins.{builtin_at}

-- the class that holds the policy's variables, and whose monitor is the lock
abbrev pub state_name : List ℕ
state_name = codes "conspec/State"

-- ---- shapes

abbrev pub loads_constant : Shape → Bool
loads_constant (shapes.Heap heap.Constant) = true
loads_constant other = false

abbrev pub calls : Shape → Bool
calls (shapes.Heap (heap.Call how)) = true
calls other = false

abbrev pub enters : Shape → Bool
enters (shapes.Heap heap.Enter) = true
enters other = false

abbrev pub leaves : Shape → Bool
leaves (shapes.Heap heap.Exit) = true
leaves other = false

abbrev pub writes_static : Shape → Bool
writes_static (shapes.Heap heap.WriteStatic) = true
writes_static other = false

abbrev pub pushes_null : Shape → Bool
pushes_null shapes.PushNull = true
pushes_null other = false

abbrev pub throws : Shape → Bool
throws (shapes.Heap heap.Throw) = true
throws other = false

abbrev pub reads_static : Shape → Bool
reads_static (shapes.Heap heap.ReadStatic) = true
reads_static other = false

abbrev pub adds : Shape → Bool
adds (shapes.Two two.Add) = true
adds other = false

abbrev pub goes : Shape → Bool
goes (shapes.Goto to) = true
goes other = false

-- the relation by which two numbers are compared
abbrev pub compared : Shape → Option Relation
compared (shapes.Compare relation to) = Some relation
compared other = None

-- the local that is loaded, the one that a number is loaded from, and the one that is stored into
abbrev pub loaded : Shape → Option ℕ
loaded (shapes.Load kind slot) = Some slot
loaded other = None

abbrev pub loaded_number : Shape → Option ℕ
loaded_number (shapes.Load kinds.Int slot) = Some slot
loaded_number other = None

abbrev pub stored : Shape → Option ℕ
stored (shapes.Store kind slot) = Some slot
stored other = None

-- ---- operands

abbrev pub is_state_name : Target → Bool
is_state_name (target.ClassName name) = bytes_eq name state_name
is_state_name other = false

-- The instruction pushes the object of the class that holds the policy's variables.
abbrev pub pushes_state : Shape → Target → Bool
pushes_state shape ref = loads_constant shape && is_state_name ref

-- the policy's variable that is named, where the class of this number holds them
abbrev pub variable_named : ℕ → Target → Option ℕ
variable_named state (target.Field class field) = if class == state then Some field else None
variable_named state other = None

-- The operand names a method that the policy has a clause for.
abbrev pub has_clause : Policy → Target → Bool
has_clause policy (target.ApiMethod method) = has_clauses policy method
has_clause policy other = false

-- The built-in method stops the program.
abbrev pub stops : Builtin → Bool
stops builtins.Exit = true
stops builtins.Make = false
stops builtins.MakeOn = false
stops builtins.Start = false
stops builtins.Run = false
stops builtins.Join = false
stops builtins.Length = false

-- The operand names the method that stops the program.
abbrev pub is_way_out : Target → Bool
is_way_out (target.Builtin index) = option_map_or stops (builtin_at index) false
is_way_out other = false

abbrev pub number_named : Target → Option ℤ
number_named (target.Number n) = Some n
number_named other = None

-- the number that the instruction pushes
abbrev pub number_pushed : Shape → Target → Option ℤ
number_pushed (shapes.Push n) ref = Some n
number_pushed (shapes.Heap heap.Constant) ref = number_named ref
number_pushed other ref = None

abbrev pub pushes : ℤ → Shape → Target → Bool
pushes n shape ref = option_map_or (λ m. int_eq m n) (number_pushed shape ref) false
