-- A method with blocks as the machine sees it, and what two programs tell alike of the client's names. (docs/TRANSPARENCY.md)
use Rattle.std.specs.Prelude.{◌≡◌, ◌≤◌, ◌<◌, ℕ, Bool, false, bytes_eq, if◌then◌else◌, nat_lt, [], length, slice_get, Some}
use Rattle.std.specs.Option.{option_map_or}
use Rattle.std.specs.List.{AllByRecursion}
use Rattle.api_listing.specs.Listing.{own_class}
use Rattle.insn_codec.specs.declared.insn.Insn.{Insn}
use Rattle.insn_codec.specs.Control.{jump_targets}
use Rattle.bytecode_model.specs.declared.program.Handler.{Handler}
use Rattle.bytecode_model.specs.declared.program.LinkedClass.{LinkedClass}
use Rattle.bytecode_model.specs.declared.program.Method.{Method}
use Rattle.bytecode_model.specs.declared.program.Program.{Program}
use Rattle.bytecode_model.specs.declared.program.Target.{Target}
use Rattle.bytecode_model.specs.Arrays.{is_array}
use Rattle.bytecode_model.specs.Classes.{classes_of, is_below, is_interface}
use Rattle.bytecode_model.specs.Conditions.{holds}
use Rattle.bytecode_model.specs.SearchOrder.{Name}
use Rattle.offset_patch.specs.Fits.{IsSite}
use Rattle.offset_patch.specs.Splicing.{aimed, fronts_of, handlers_with}
use Rattle.guest_model.specs.Calls.{name_at}
use Rattle.guest_model.specs.Finding.{given_index, is_above, nearest_given}
use Rattle.guest_model.specs.HeapOperations.{place_named}
use Rattle.guest_model.specs.Kinds.{is_kind_of}
use Rattle.guest_model.specs.Layout.{fields_of}
use Rattle.guest_model.specs.Places.{class_index, method_at}
use Rattle.guest_erasing.specs.Places.{Sites, stand}

-- ---- methods

-- the handler covers instructions of so many, and goes to one of them
pub record IsWithin (count : ℕ) (handler : Handler) : Type 0 where
  pub from : handler.from ≤ count
  pub to : handler.to ≤ count
  pub at : handler.at < count

-- The new method is the old one with a block for each site: each instruction of the client stands in its part, with its targets at
-- their fronts, and names what it named; its handlers cover the same parts; and there is as much room, or more.
pub record IsLaid (sites : Sites) (old new : Method) : Type 0 where
  pub flags : new.flags ≡ old.flags
  pub name : new.name ≡ old.name
  pub desc : new.desc ≡ old.desc
  pub stack : old.max_stack ≤ new.max_stack
  pub locals : old.max_locals ≤ new.max_locals
  pub count : length sites ≡ length old.insns
  pub blocks : AllByRecursion IsSite sites
  pub insns : (i : ℕ) (insn : Insn) → slice_get old.insns i ≡ Some insn → slice_get new.insns (stand sites i) ≡ Some (aimed (fronts_of sites) insn)
  pub refs : (i : ℕ) (ref : Target) → slice_get old.refs i ≡ Some ref → slice_get new.refs (stand sites i) ≡ Some ref
  pub handlers : new.handlers ≡ handlers_with sites old.handlers
  pub code : nat_lt 0 (length new.insns) ≡ nat_lt 0 (length old.insns)
  pub jumps : (i : ℕ) (insn : Insn) → slice_get old.insns i ≡ Some insn → AllByRecursion (λ to. to < length old.insns) (jump_targets insn)
  pub within : AllByRecursion (IsWithin (length old.insns)) old.handlers

-- ---- programs

-- the superclass of the class of this index, or no name
abbrev pub parent_at : Program → ℕ → Name
parent_at program class = option_map_or (λ (c : LinkedClass). c.parent) (slice_get program.classes class) []

-- whether the name is conspec/State, or an array's in which something names that
abbrev pub names_state : Name → Bool
names_state name = if is_array name then holds own_class name else bytes_eq name own_class

-- It has nothing to do with conspec/State.
abbrev pub IsClientName : Name → Type 0
IsClientName name = names_state name ≡ false

-- A method of the client has its counterpart in the woven program.
pub record HasCounterpart (sites_of : Method → Sites) (woven : Program) (class method : ℕ) (old : Method) : Type 0 where
  pub new : Method
  pub there : method_at woven class method ≡ Some new
  pub laid : IsLaid (sites_of old) old new

-- Of the names of the client the two programs tell the same.
pub record TellAlike (sites_of : Method → Sites) (client woven : Program) : Type 0 where
  pub listing : woven.listing ≡ client.listing
  pub literals : woven.literals ≡ client.literals
  pub main_class : woven.main_class ≡ client.main_class
  pub main_method : woven.main_method ≡ client.main_method
  pub methods : (class method : ℕ) (old : Method) → method_at client class method ≡ Some old → HasCounterpart sites_of woven class method old
  pub indices : (name : Name) → IsClientName name → class_index woven name ≡ class_index client name
  pub names : (index : ℕ) → index < length (classes_of client) → name_at (classes_of woven) index ≡ name_at (classes_of client) index
  pub below : (name other : Name) → IsClientName name → is_below woven name other ≡ is_below client name other
  pub interfaces : (name : Name) → is_interface woven name ≡ is_interface client name
  pub kinds : (name other : Name) → IsClientName name → is_kind_of woven name other ≡ is_kind_of client name other
  pub fields : (name : Name) → IsClientName name → fields_of woven name ≡ fields_of client name
  pub places : (ref : Target) (place : ℕ) → place_named client ref ≡ Some place → place_named woven ref ≡ Some place
  pub given : (name : Name) → IsClientName name → given_index woven name ≡ given_index client name
  pub nearest : (name desc class : Name) → IsClientName class → nearest_given woven name desc class ≡ nearest_given client name desc class
  pub parents : (class : ℕ) → class < length client.classes → parent_at woven class ≡ parent_at client class
  pub parent_names : (class : ℕ) → IsClientName (parent_at client class)
  pub above : (above own : ℕ) → above < length client.classes → own < length client.classes → is_above woven above own ≡ is_above client above own
