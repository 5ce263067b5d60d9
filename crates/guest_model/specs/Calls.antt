-- What calls take from the operands. (docs/MACHINE.md)
use Rattle.std.specs.Prelude.{ℕ, ◌+◌, Bool, true, false, nat_le, if◌then◌else◌, List, [], length, take, drop, reverse, Option, Some, None, Ok, Err, option_map, slice_get}
use Rattle.std.specs.Option.{option_map_or}
use Rattle.api_listing.specs.declared.descriptor.MethodType.{MethodType}
use Rattle.api_listing.specs.declared.types.ListedClass.{ListedClass}
use Rattle.api_listing.specs.Descriptor.{method_type}
use Rattle.api_listing.specs.Fault.{Read}
use Rattle.guest_heap.specs.declared.value.Value.{Value}

-- ---- descriptors

abbrev pub types_read : Read MethodType → MethodType
types_read (Ok types) = types
types_read (Err e) = record { arguments = []; result = None }

-- the types of a method's arguments and result
abbrev pub types_of : List ℕ → MethodType
types_of desc = types_read (method_type desc)

abbrev pub arity : List ℕ → ℕ
arity desc = length (types_of desc).arguments

-- ---- the operands of a call

pub record Taken : Type 0 where
  pub receiver : Option Value
  pub arguments : List Value
  pub beneath : List Value

abbrev pub taken_static : ℕ → List Value → Option Taken
taken_static n stack =
    if nat_le n (length stack) then Some (record { receiver = None; arguments = reverse (take n stack); beneath = drop n stack }) else None

abbrev pub taken_instance : ℕ → List Value → Option Taken
taken_instance n stack =
    option_map (λ receiver. record { receiver = Some receiver; arguments = reverse (take n stack); beneath = drop (n + 1) stack }) (slice_get stack n)

-- what a call of a method with so many arguments takes, the first argument first
abbrev pub taken : Bool → ℕ → List Value → Option Taken
taken true n stack = taken_static n stack
taken false n stack = taken_instance n stack

-- ---- classes

-- the name of the class with this index
abbrev pub name_at : List ListedClass → ℕ → List ℕ
name_at classes index = option_map_or (λ (c : ListedClass). c.name) (slice_get classes index) []
