-- Which classes have methods.
use Rattle.std.proofs.Common.{◌≡◌, ℕ, ◌^◌, ◌<◌, ◌≤◌, Option, Some, None, IfSome, length, sym, arith}
use Rattle.std.specs.Prelude.{slice_get}
use Rattle.std.proofs.lemmas.Option.{slice_get_within}
use Rattle.bytecode_model.specs.declared.program.LinkedClass.{LinkedClass}
use Rattle.bytecode_model.specs.declared.program.Method.{Method}
use Rattle.bytecode_model.specs.declared.program.Program.{Program}
use Rattle.guest_model.specs.Places.{method_at}
use Rattle.guest_model.specs.Ready.{IsReady}
use Rattle.guest_model.proofs.Options.{and_then_of}

-- a class that has a method is one of the program's, of which there are few
pub class_few : (program : Program) → IsReady program → (class index : ℕ) (o : Option Method) → o ≡ method_at program class index
    → IfSome o (λ (method : Method). class < 2 ^ 16)
class_few program ready class index None is = tt
class_few program ready class index (Some method) is =
    let c = and_then_of (λ (c : LinkedClass). slice_get c.methods index) (slice_get program.classes class) method (sym is) in
    let within : class < length program.classes = slice_get_within program.classes class c.0 c.1 in
    let few : length program.classes ≤ 1001 = ready.sound.few in
    omega (arith, within, few)
