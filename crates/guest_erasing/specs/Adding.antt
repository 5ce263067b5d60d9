-- The woven program is the client's with blocks in its methods, and with conspec/State after its classes. (docs/TRANSPARENCY.md)
use Rattle.std.specs.Prelude.{◌≡◌, ◌≢◌, ℕ, false, List, [], ◌∷◌, ◌++◌, filter, length, take}
use Rattle.std.specs.List.{AllByRecursion}
use Rattle.api_listing.specs.declared.types.ListedClass.{ListedClass}
use Rattle.api_listing.specs.BuiltIn.{object}
use Rattle.api_listing.specs.Listing.{EncodesListing, own_class}
use Rattle.bytecode_model.specs.declared.program.LinkedClass.{LinkedClass}
use Rattle.bytecode_model.specs.declared.program.Method.{Method}
use Rattle.bytecode_model.specs.declared.program.Program.{Program}
use Rattle.bytecode_model.specs.declared.program.Side.TheVariants as sides
use Rattle.bytecode_model.specs.Classes.{classes_of}
use Rattle.bytecode_model.specs.Files.{unlinked}
use Rattle.bytecode_model.specs.Heads.{head_of, heads_of}
use Rattle.bytecode_model.specs.LinkedClasses.{IsLinkedOf}
use Rattle.bytecode_model.specs.Order.{EachWayEnds, IsInOrder}
use Rattle.bytecode_model.specs.Sound.{IsSound}
use Rattle.guest_model.specs.Layout.{is_in_objects, own_fields}
use Rattle.guest_erasing.specs.Laid.{IsClientName, IsLaid, TellAlike}
use Rattle.guest_erasing.specs.Mirrors.{AreAlike}
use Rattle.guest_erasing.specs.Places.{Sites}

-- The class is the old one but for the blocks in its methods: it has its name, what is above it, and its fields.
pub record ClassIsLaid (sites_of : Method → Sites) (old new : LinkedClass) : Type 0 where
  pub name : new.name ≡ old.name
  pub parent : new.parent ≡ old.parent
  pub head : head_of new.file ≡ head_of old.file
  pub fields : own_fields new.file ≡ own_fields old.file
  pub places : (field : ℕ) → length (filter is_in_objects (take field new.file.fields))
      ≡ length (filter is_in_objects (take field old.file.fields))
  pub methods : AreAlike (λ (m n : Method). IsLaid (sites_of m) m n) old.methods new.methods

-- It is conspec/State, which stands under Object alone, is no interface, and has no method.
pub record IsState (state : LinkedClass) : Type 0 where
  pub name : state.name ≡ own_class
  pub parent : state.parent ≡ object
  pub head_name : (head_of state.file).name ≡ own_class
  pub head_parent : (head_of state.file).parent ≡ object
  pub head_interfaces : (head_of state.file).interfaces ≡ []
  pub head_class : (head_of state.file).is_interface ≡ false
  pub no_methods : state.methods ≡ []

pub record AddsState (sites_of : Method → Sites) (client woven : Program) : Type 0 where
  pub others : List LinkedClass
  pub state : LinkedClass
  pub classes : woven.classes ≡ others ++ state ∷ []
  pub alike : AreAlike (ClassIsLaid sites_of) client.classes others
  pub is_state : IsState state
  pub listing : woven.listing ≡ client.listing
  pub literals : woven.literals ≡ client.literals
  pub main_class : woven.main_class ≡ client.main_class
  pub main_method : woven.main_method ≡ client.main_method

-- ---- what is asked of the client; that it is linked of a compiler's files gives it

-- The class is named, and stands below another, as its file says, and neither name has to do with conspec/State.
pub record IsNamedClass (c : LinkedClass) : Type 0 where
  pub name : c.name ≡ (head_of c.file).name
  pub parent : c.parent ≡ (head_of c.file).parent
  pub own : IsClientName c.name
  pub above : IsClientName c.parent

-- Each given class is so named, no class of the listing is below conspec/State, and each way up ends: among all classes, and among
-- the given ones.
pub record IsNamedClient (client : Program) : Type 0 where
  pub given : AllByRecursion IsNamedClass client.classes
  pub listed : AllByRecursion (λ (c : ListedClass). c.parent ≢ own_class) client.listing.classes
  pub ends : EachWayEnds (classes_of client)
  pub leaves : EachWayEnds (heads_of (unlinked client))

-- ---- the law

-- Of the names of such a client the program with conspec/State tells the same.
abbrev pub AddedStateIsNotSeen : Type 0
AddedStateIsNotSeen =
    (sites_of : Method → Sites) (client woven : Program) → AddsState sites_of client woven → IsNamedClient client
    → TellAlike sites_of client woven

-- What a compiler's files link to, over a listing that was read, is such a client.
abbrev pub LinkedClientsAreNamed : Type 0
LinkedClientsAreNamed =
    (text main : List ℕ) (client : Program) → EncodesListing text client.listing → IsLinkedOf sides.Original client.listing main client
    → IsSound client → IsInOrder client → IsNamedClient client
