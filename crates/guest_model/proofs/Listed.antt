-- Each event is of a method of the listing.
use Rattle.std.proofs.Common.{◌≡◌, ℕ, true, List, [], ◌∷◌, Option, Some, None, refl}
use Rattle.std.specs.Prelude.{IsSome, slice_get}
use Rattle.std.specs.List.{AllByRecursion}
use Rattle.api_listing.specs.declared.events.Event.{Event}
use Rattle.insn_codec.specs.declared.insn.Insn.{Insn}
use Rattle.bytecode_model.specs.declared.program.LinkedClass.{LinkedClass}
use Rattle.bytecode_model.specs.declared.program.Program.{Program}
use Rattle.bytecode_model.specs.declared.program.Target.TheVariants as target
use Rattle.bytecode_model.specs.Sound.{IsSound}
use Rattle.bytecode_model.specs.Targets.{AreNamed}
use Rattle.guest_model.specs.Runs.{trace}
use Rattle.guest_model.specs.Seeing.{IsOfListed, SeesListed}
use Rattle.guest_model.specs.ClosedPlaces.{IsAt, IsCalled, IsClosed, Places, method_of}
use Rattle.guest_model.proofs.Insns.{has_insn, has_insns}
use Rattle.guest_model.proofs.Options.{and_then_of}
use Rattle.guest_model.proofs.ClosedPlaces.{sees_only_called}

-- all places
abbrev anywhere : Places
anywhere class method at = true

some_there : {A : Type 0} (o : Option A) (x : A) → o ≡ Some x → IsSome o
some_there None x e = absurd cc
some_there (Some y) x e = refl

module _ (program : Program) (sound : IsSound program) (named : AreNamed program) where
  closed : IsClosed program anywhere
  closed = record {
    begin = λ class method of there coded. refl;
    next = λ class method at insn ref inside there to goes. refl;
    caught = λ class method at of handler inside there has from to. refl;
  }

  -- the target of an instruction that is a method of the listing
  listed_there : (class method at : ℕ) (insn : Insn) (index : ℕ) → IsAt program class method at insn (target.ApiMethod index)
      → IsSome (slice_get program.listing.methods index)
  listed_there class method at insn index is =
      let c = and_then_of (λ (c : LinkedClass). slice_get c.methods method) (slice_get program.classes class) is.of is.there in
      let i = has_insn is.of at insn (target.ApiMethod index) is.is in
      let calls = named class method at c.0 is.of insn (target.ApiMethod index) c.1 c.2 i.insn_there i.ref_there in
      some_there (slice_get program.listing.methods index) _ calls.declared

  each_listed : (events : List Event) → AllByRecursion (λ (event : Event). IsCalled program anywhere (method_of event)) events
      → AllByRecursion (IsOfListed program) events
  each_listed [] all = tt
  each_listed (event ∷ events) all =
      let c = all.0 in
      (listed_there c.class c.method c.at c.insn (method_of event) c.there, each_listed events all.1)

  pub sees_listed : SeesListed program
  sees_listed steps =
      each_listed (trace program steps) (sees_only_called program anywhere (has_insns program sound) closed steps)
