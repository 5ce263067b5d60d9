-- What is known of what weaving makes of a linked client.
use Rattle.std.proofs.Common.{◌≡◌, ◌∙◌, ℕ, ◌+◌, List, [], ◌∷◌, length, map, Bool, true, false, cond, Option, Some, None, refl, ap, arith, subst}
use Rattle.std.specs.Prelude.{◌||◌, bytes_eq}
use Rattle.std.specs.List.{AllByRecursion, list_any, position_from}
use Rattle.std.specs.Option.{option_or}
use Rattle.std.proofs.lemmas.List.{length-append, length-map}
use Rattle.std.proofs.lemmas.List.Folds.{list_any-append}
use Rattle.api_listing.specs.declared.types.ListedClass.{ListedClass}
use Rattle.api_listing.specs.BuiltIn.{object}
use Rattle.api_listing.specs.Listing.{own_class}
use Rattle.bytecode_model.specs.declared.program.LinkedClass.{LinkedClass}
use Rattle.bytecode_model.specs.declared.program.Program.{Program}
use Rattle.bytecode_model.specs.declared.program.Side.{Side}
use Rattle.bytecode_model.specs.Classes.{classes_of}
use Rattle.bytecode_model.specs.LinkedClasses.{IsLinkedOf}
use Rattle.bytecode_model.specs.Heads.{head_of}
use Rattle.bytecode_model.specs.Uses.{UsesAreShaped}
use Rattle.bytecode_model.proofs.Placing.{place_pushed}
use Rattle.bytecode_model.proofs.Upwards.{of_same}
use Rattle.cert_format.specs.declared.certificate.Mode.{Mode}
use Rattle.conspec_automaton.specs.declared.policy.Policy.{Policy}
use Rattle.conspec_automaton.specs.Sound.{IsPolicy}
use Rattle.offset_patch.specs.Plan.{IsGood}
use Rattle.class_weaving.specs.Outcome.{IsWoven}
use Rattle.block_template.specs.Blocks.{bools_of, plan_of}
use Rattle.block_template.specs.Good.{PlansAreGood}
use Rattle.guest_model.specs.Places.{class_index}
use Rattle.guest_erasing.specs.Adding.{AddsState, IsNamedClass, IsNamedClient}
use Rattle.guest_erasing.proofs.Clients.{client_named}
use Rattle.guest_erasing.proofs.Given.{classes_more}
use Rattle.guest_erasing.proofs.Listings.{unknown}
use Rattle.guest_erasing.proofs.Names.{client_other, other_name}
use Rattle.guest_erasing.proofs.Telling.{tell_alike}
use Rattle.class_weaving.specs.Woven.{AllLocalsFit}
use Rattle.block_runs.specs.Joining.{IsWovenBy, sites, state_of}
use Rattle.block_runs.specs.WovenClients.{IsLinkedClient, IsWovenClient, WovenClientsAreKnown, WovenClientsHaveRoom, WovenStartsInFirst}
use Rattle.block_runs.proofs.Adding.{adds}
use Rattle.block_runs.proofs.Fitting.{locals_fit, state_parent}
use Rattle.block_runs.proofs.Clients.Listed.{listed_called}
use Rattle.block_runs.proofs.Putting.{blocks_put}
use Rattle.block_runs.proofs.Starting.{starts_first}

-- The plan is good, and the program is the client with the plan's blocks, whose locals fit, and with conspec/State.
record IsWovenFrom (policy : Policy) (mode : Mode) (client woven : Program) : Type 0 where
  pub sound : IsPolicy policy
  pub kinds : List Bool
  pub good : IsGood kinds (plan_of policy mode)
  pub room : AllLocalsFit (plan_of policy mode) client
  pub is : IsWoven client (plan_of policy mode) policy.vars woven
  pub parent : is.state.parent ≡ object

-- ---- where conspec/State stands

none_placed : {X : Type 0} (test : X → Bool) (xs : List X) (at : ℕ) → list_any test xs ≡ false → position_from test at xs ≡ None
none_placed test [] at none = refl
none_placed test (x ∷ xs) at none = by (test x) none (none_placed test xs (at + 1)) where
  by : (b : Bool) → (b || list_any test xs) ≡ false → (list_any test xs ≡ false → position_from test (at + 1) xs ≡ None)
      → cond b (Some at) (position_from test (at + 1) xs) ≡ None
  by true h later = absurd cc
  by false h later = later h

abbrev is_own : ListedClass → Bool
is_own c = bytes_eq c.name own_class

none_given : (classes : List LinkedClass) → AllByRecursion IsNamedClass classes
    → list_any is_own (map (λ (c : LinkedClass). head_of c.file) classes) ≡ false
none_given [] named = refl
none_given (c ∷ classes) named =
    let fails : bytes_eq (head_of c.file).name own_class ≡ false =
    other_name (head_of c.file).name own_class (λ e. client_other c.name named.0.own (named.0.name ∙ e)) in
    rw (fails, none_given classes named.1) refl

module _ (policy : Policy) (mode : Mode) (client woven : Program) (links : IsLinkedClient client)
    (from : IsWovenFrom policy mode client woven) where
  named : IsNamedClient client
  named =
      client_named client links.links.main
      (subst (λ (side : Side). IsLinkedOf side client.listing links.links.main client) links.original links.links.linked)
      links.links.sound links.links.text links.links.listed links.links.order

  added : AddsState (sites policy mode) client woven
  added = adds client woven (plan_of policy mode) from.kinds policy.vars links.links.sound from.good from.room from.is from.parent

  abbrev heads : List ListedClass
  heads = map (λ (c : LinkedClass). head_of c.file) client.classes

  none_there : list_any is_own (classes_of client) ≡ false
  none_there =
      list_any-append is_own client.listing.classes heads
      ∙ ap (λ (b : Bool). b || list_any is_own heads) (unknown links.links.text client.listing links.links.listed)
      ∙ none_given client.classes named.given

  abbrev last : ListedClass
  last = head_of added.state.file

  state_there : class_index woven own_class ≡ Some (state_of client).number
  state_there =
      let is : is_own last ≡ true = of_same last.name own_class added.is_state.head_name in
      let many : (state_of client).number ≡ 0 + length (classes_of client) =
      omega (arith, length-append client.listing.classes heads, length-map client.classes (λ (c : LinkedClass). head_of c.file)) in
      ap (λ (cs : List ListedClass). position_from is_own 0 cs) (classes_more (sites policy mode) client woven added)
      ∙ place_pushed is_own (classes_of client) 0 (state_of client).number last many
      ∙ ap (λ (o : Option ℕ). option_or o (cond (is_own last) (Some (state_of client).number) None))
      (none_placed is_own (classes_of client) 0 none_there)
      ∙ ap (λ (b : Bool). option_or None (cond b (Some (state_of client).number) None)) is

  woven_by : UsesAreShaped → IsWovenBy policy mode client woven
  woven_by shaped = record {
    sound = from.sound;
    tell = tell_alike (sites policy mode) client woven added named;
    state = state_there;
    put = blocks_put policy mode client woven from.kinds from.good policy.vars links.links.sound from.room from.is;
    called = listed_called shaped client links.links.sound links.links.linked.named;
  }

-- what the linking of the woven files tells
-- Where woven files link, the locals of blocks fit.
pub woven_fits : WovenClientsHaveRoom
woven_fits policy mode client woven links made =
    locals_fit (plan_of policy mode) policy.vars client woven made.woven_is links.links.sound links.links.linked.standing made.sound made.linked.standing

from_linked : PlansAreGood → (policy : Policy) (mode : Mode) (client woven : Program) → IsLinkedClient client
    → IsWovenClient policy mode client woven → IsWovenFrom policy mode client woven
from_linked good policy mode client woven links made = record {
  sound = made.policy_is;
  kinds = bools_of policy;
  good = good policy mode made.policy_is made.numbers;
  room = woven_fits policy mode client woven links made;
  is = made.woven_is;
  parent =
      state_parent (plan_of policy mode) policy.vars client woven made.woven_is links.links.sound links.links.linked.standing made.sound
      made.linked.standing;
}

pub woven_known : PlansAreGood → UsesAreShaped → WovenClientsAreKnown
woven_known good shaped policy mode client woven links made =
    woven_by policy mode client woven links (from_linked good policy mode client woven links made) shaped

pub woven_starts : PlansAreGood → WovenStartsInFirst
woven_starts good policy mode client woven links constants made = record {
  adds = added policy mode client woven links (from_linked good policy mode client woven links made);
  statics = starts_first policy mode client woven made.policy_is links.links.sound constants made.woven_is;
}
