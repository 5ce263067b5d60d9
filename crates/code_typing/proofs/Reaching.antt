-- What a row that does not fail says of the frames to which control goes.
use Rattle.std.proofs.Common.{◌≡◌, ℕ, ◌<◌, ◌≤◌, Bool, true, false, cond, List, Option, Some, None}
use Rattle.std.specs.Prelude.{Contains, is_some, not, ◌&&◌, ◌||◌}
use Rattle.std.specs.List.{list_all}
use Rattle.std.proofs.lemmas.Bool.{le-leb, lt-ltb, and_from}
use Rattle.std.proofs.lemmas.List.Elements.{All-contains}
use Rattle.std.proofs.lemmas.List.Sums.{AllPass-from_list_all}
use Rattle.cert_format.specs.declared.typing.FrameType.{FrameType}
use Rattle.insn_codec.specs.Control.{successors}
use Rattle.bytecode_model.specs.declared.program.Handler.{Handler}
use Rattle.bytecode_model.specs.InsnPlace.{InsnPlace}
use Rattle.bytecode_model.specs.Rules.{Frames, frame_of, covers, is_handled, goes_well, catches_well, Successor, Caught, Depth, Operand, Local, Made, rule_failing, row_failing}
use Rattle.frame_types.proofs.Choices.{passed, is_there}

-- what is among those that all pass a test passes it
contained : {A : Type 0} (p : A → Bool) (xs : List A) (x : A) → list_all p xs ≡ true → Contains xs x → p x ≡ true
contained p xs x h c = All-contains (λ y. p y ≡ true) xs x (AllPass-from_list_all p xs h) c

module _ (frames : Frames) (place : InsnPlace) (frame : FrameType) where
  pub record Passes : Type 0 where
    pub successor : Successor frames place frame ≡ true
    pub caught : Caught frames place frame ≡ true

  rules_passed : rule_failing frames place frame ≡ None → Passes
  rules_passed e =
      let depth = passed (Depth place frame) 2 _ e in
      let operand = passed (Operand place frame) 3 _ depth.1 in
      let local = passed (Local place frame) 4 _ operand.1 in
      let made = passed (Made place frame) 5 _ local.1 in
      let successor = passed (Successor frames place frame) 6 _ made.1 in
      let caught = passed (Caught frames place frame) 7 _ successor.1 in
      record { successor = successor.0; caught = caught.0 }

  after_entry : (b : Bool) (rest : Option ℕ) → cond b (Some 1) rest ≡ None → rest ≡ None
  after_entry true rest e = absurd cc
  after_entry false rest e = e

  pub row_passed : row_failing frames place (Some frame) ≡ None → Passes
  row_passed e = rules_passed (after_entry _ _ e)

  pub goes_to_frame : Passes → (to : ℕ) → Contains (successors place.at place.insn) to → is_some (frame_of frames to) ≡ true
  goes_to_frame p to c = is_there (goes_well place frame) (frame_of frames to) (contained _ (successors place.at place.insn) to p.successor c)

  handled_there : (covered roomy below there : Bool) → (not covered || (roomy && (below && there))) ≡ true → covered ≡ true → there ≡ true
  handled_there true true true there h c = h
  handled_there true true false there h c = absurd cc
  handled_there true false below there h c = absurd cc
  handled_there false roomy below there h c = absurd cc

  pub caught_at_frame : Passes → (handler : Handler) → Contains place.method.handlers handler → handler.from ≤ place.at → place.at < handler.to
      → is_some (frame_of frames handler.at) ≡ true
  caught_at_frame p handler c from to =
      let covered : covers place.at handler ≡ true = and_from _ _ (le-leb handler.from place.at from) (lt-ltb place.at handler.to to) in
      is_there (catches_well place frame handler) (frame_of frames handler.at)
      (handled_there _ _ _ _ (contained (is_handled frames place frame) place.method.handlers handler p.caught c) covered)
