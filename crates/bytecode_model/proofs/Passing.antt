-- A row that does not fail: each of its rules is met.
use Rattle.std.proofs.Common.{◌≡◌, ℕ, Bool, true, false, cond, Option, Some, None, refl, ◌∙◌}
use Rattle.std.specs.Prelude.{◌&&◌, ◌==◌, not}
use Rattle.cert_format.specs.declared.typing.FrameType.{FrameType}
use Rattle.bytecode_model.specs.InsnPlace.{InsnPlace}
use Rattle.bytecode_model.specs.Rules.{Frames, Entry, Depth, Operand, Local, Made, Successor, Caught, rule_failing, row_failing}

pub record Passes (frames : Frames) (place : InsnPlace) (frame : FrameType) : Type 0 where
  pub entry : (place.at == 0) ≡ true → Entry place frame ≡ true
  pub depth : Depth place frame ≡ true
  pub operand : Operand place frame ≡ true
  pub local : Local place frame ≡ true
  pub made : Made place frame ≡ true
  pub successor : Successor frames place frame ≡ true
  pub caught : Caught frames place frame ≡ true

passed : (b : Bool) (x : ℕ) (rest : Option ℕ) → cond (not b) (Some x) rest ≡ None → (b ≡ true) × (rest ≡ None)
passed true x rest e = (refl, e)
passed false x rest e = absurd cc

entered : (zero entry : Bool) (rest : Option ℕ) → cond (zero && not entry) (Some 1) rest ≡ None → (zero ≡ true → entry ≡ true) × (rest ≡ None)
entered true true rest e = (λ z. refl, e)
entered true false rest e = absurd cc
entered false entry rest e = (λ z. absurd cc, e)

module _ (frames : Frames) (place : InsnPlace) (frame : FrameType) where
  pub passes : row_failing frames place (Some frame) ≡ None → Passes frames place frame
  passes e =
      let entry = entered (place.at == 0) (Entry place frame) _ e in
      let depth = passed (Depth place frame) 2 _ entry.1 in
      let operand = passed (Operand place frame) 3 _ depth.1 in
      let local = passed (Local place frame) 4 _ operand.1 in
      let made = passed (Made place frame) 5 _ local.1 in
      let successor = passed (Successor frames place frame) 6 _ made.1 in
      let caught = passed (Caught frames place frame) 7 _ successor.1 in
      record { entry = entry.0; depth = depth.0; operand = operand.0; local = local.0; made = made.0; successor = successor.0; caught = caught.0 }

  after_entry : (zero entry : Bool) (rest : Option ℕ) → (zero ≡ true → entry ≡ true) → cond (zero && not entry) (Some 1) rest ≡ rest
  after_entry true true rest f = refl
  after_entry true false rest f =
      let no : false ≡ true = f refl in
      absurd cc
  after_entry false entry rest f = refl

  pass : (b : Bool) (x : ℕ) (rest : Option ℕ) → b ≡ true → rest ≡ None → cond (not b) (Some x) rest ≡ None
  pass true x rest e f = f
  pass false x rest e f = absurd cc

  pub row_met : Passes frames place frame → row_failing frames place (Some frame) ≡ None
  row_met p =
      after_entry (place.at == 0) (Entry place frame) (rule_failing frames place frame) p.entry
      ∙ pass (Depth place frame) 2 _ p.depth (pass (Operand place frame) 3 _ p.operand (pass (Local place frame) 4 _ p.local (pass (Made place frame) 5 _ p.made
      (pass (Successor frames place frame) 6 _ p.successor (pass (Caught frames place frame) 7 None p.caught refl)))))
