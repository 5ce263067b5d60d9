-- Which given method a call on an object runs: the nearest that is declared, from the object's class upwards.
-- (The Java Virtual Machine Specification, section 6.5, invokevirtual and invokespecial.)
use Rattle.std.specs.Prelude.{ℕ, zero, suc, ◌==◌, ◌&&◌, Bool, false, not, bytes_eq, nat_lt, if◌then◌else◌, length, slice_get, Option, Some, None, option_map, option_and_then}
use Rattle.std.specs.List.{position_from}
use Rattle.std.specs.Option.{option_map_or, option_or}
use Rattle.insn_codec.specs.declared.shape.How.{How}
use Rattle.insn_codec.specs.declared.shape.How.TheVariants as hows
use Rattle.bytecode_model.specs.declared.program.LinkedClass.{LinkedClass}
use Rattle.bytecode_model.specs.declared.program.Method.{Method}
use Rattle.bytecode_model.specs.declared.program.Program.{Program}
use Rattle.bytecode_model.specs.Classes.{is_below}
use Rattle.bytecode_model.specs.Heads.{is_static, maker, run_name, takes_nothing}
use Rattle.bytecode_model.specs.SearchOrder.{Name}
use Rattle.guest_model.specs.Places.{method_at}
use Rattle.guest_model.specs.Options.{◌>>=◌}

-- a given method, by the indices of its class and of it there
abbrev pub Given : Type 0
Given = ℕ × ℕ

-- the first method of the name and descriptor that the very class declares
abbrev pub declared_in : Name → Name → LinkedClass → Option ℕ
declared_in name desc class = position_from (λ (m : Method). bytes_eq m.name name && bytes_eq m.desc desc) 0 class.methods

abbrev pub given_index : Program → Name → Option ℕ
given_index program name = position_from (λ (c : LinkedClass). bytes_eq c.name name) 0 program.classes

-- that of the nearest of at most n given classes, from this one upwards
abbrev pub declared_up : ℕ → Program → Name → Name → Name → Option Given
declared_up zero program name desc class = None
declared_up (suc n) program name desc class = do
  index ← given_index program class
  of ← slice_get program.classes index
  option_or (option_map (λ method. (index, method)) (declared_in name desc of)) (declared_up n program name desc of.parent)

abbrev pub nearest_given : Program → Name → Name → Name → Option Given
nearest_given program name desc class = declared_up (length program.classes) program name desc class

-- An object runs it where it is no static method, and has code.
abbrev pub is_run_by_objects : Program → Given → Bool
is_run_by_objects program to =
    option_map_or (λ (m : Method). not (is_static m.flags) && nat_lt 0 (length m.insns)) (method_at program to.0 to.1) false

abbrev pub if_run : Program → Option Given → Option Given
if_run program found = option_and_then (λ (to : Given). if is_run_by_objects program to then Some to else None) found

-- what a call of the method on an object of the class runs
abbrev pub method_of_class : Program → Name → Name → Name → Option Given
method_of_class program name desc class = if_run program (nearest_given program name desc class)

-- the `run` that the program gives the class
abbrev pub client_run : Program → Name → Option Given
client_run program class = method_of_class program run_name takes_nothing class

abbrev pub is_run : Method → Bool
is_run method = bytes_eq method.name run_name && bytes_eq method.desc takes_nothing

-- whether one given class is above another
abbrev pub is_above : Program → ℕ → ℕ → Bool
is_above program above own = not (above == own)
    && option_map_or (λ (c : LinkedClass). option_map_or (λ (a : LinkedClass). is_below program c.name a.name) (slice_get program.classes above) false) (slice_get program.classes own) false

-- what a call of the very method runs, from the code of the class `own`: one of a class above, which makes no object, is
-- looked for from the superclass on
abbrev pub method_itself : Program → ℕ → Given → Method → Option Given
method_itself program own to method =
    if not (bytes_eq method.name maker) && is_above program to.0 own
    then option_and_then (λ (c : LinkedClass). nearest_given program method.name method.desc c.parent) (slice_get program.classes own)
    else Some to

-- what a call of the method `to` runs, from the code of the class `own`, on an object of the class
abbrev pub method_run : Program → ℕ → How → Given → Method → Name → Option Given
method_run program own hows.Virtual to method class = method_of_class program method.name method.desc class
method_run program own hows.Interface to method class = method_of_class program method.name method.desc class
method_run program own hows.Special to method class = if_run program (method_itself program own to method)
method_run program own hows.Static to method class = Some to
