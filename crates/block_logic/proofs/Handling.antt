-- Which of a method's handlers takes what is thrown at an instruction, and where those begin that may.
use Rattle.std.proofs.Common.{◌≡◌, ℕ, Bool, true, false, List, [], ◌∷◌, Option, Some, None, refl, sym, subst, inl, inr}
use Rattle.std.specs.Prelude.{find, is_some, if◌then◌else◌}
use Rattle.std.specs.List.{list_all}
use Rattle.std.specs.Option.{option_map_or}
use Rattle.std.proofs.lemmas.Bool.{and_from, and_parts, and_left, cases_Bool}
use Rattle.std.proofs.lemmas.Option.{same_Some}
use Rattle.bytecode_model.specs.declared.program.Handler.{Handler}
use Rattle.bytecode_model.specs.declared.program.Program.{Program}
use Rattle.bytecode_model.specs.Classes.{is_below}
use Rattle.bytecode_model.specs.Rules.{covers}
use Rattle.bytecode_model.specs.SearchOrder.{Name}
use Rattle.guest_model.specs.Throwing.{catches, takes}
use Rattle.block_logic.specs.Notes.{first_handler, handlers_of}

module _ (program : Program) (at : ℕ) (class : Name) where
  -- a handler that takes what is thrown here covers the instruction
  pub catching_covers : (handler : Handler) → catches program at class handler ≡ true → covers at handler ≡ true
  catching_covers handler e = (and_parts (covers at handler) (takes program class handler) e).0

  -- one that does not cover it takes nothing here
  pub not_catching : (handler : Handler) → covers at handler ≡ false → catches program at class handler ≡ false
  not_catching handler e = and_left (covers at handler) (takes program class handler) e

  -- one that covers it and takes any class takes what is thrown
  pub catching_any : (handler : Handler) → covers at handler ≡ true → is_some handler.class ≡ false → catches program at class handler ≡ true
  catching_any handler e none = and_from (covers at handler) (takes program class handler) e (of_none handler.class none) where
    of_none : (caught : Option Name) → is_some caught ≡ false → option_map_or (λ (c : Name). is_below program class c) caught true ≡ true
    of_none None e = refl
    of_none (Some c) e = absurd cc

  -- Where the first handler that covers it takes any class, there is a handler that takes what is thrown.
  pub first_takes : (handlers : List Handler) (first : Handler) → first_handler at handlers ≡ Some first → is_some first.class ≡ false
      → (handler : Handler) × (find (catches program at class) handlers ≡ Some handler)
  first_takes [] first e none = absurd cc
  first_takes (h ∷ later) first e none =
      elim (cases_Bool (covers at h)) [
        | inl holds ↦
            let same : h ≡ first = same_Some h first (rw holds at e) in
            let any : is_some h.class ≡ false = subst (λ (x : Handler). is_some x.class ≡ false) (sym same) none in
            (h, rw (catching_any h holds any) refl)
        | inr fails ↦
            let l = first_takes later first (rw fails at e) none in
            (l.0, rw (not_catching h fails) l.1)
      ]

  -- A test that all handlers pass that may take what is thrown here is passed by the one that takes it.
  pub taking_passes : (test : ℕ → Bool) (handlers : List Handler) (handler : Handler) → list_all test (handlers_of at handlers) ≡ true
      → find (catches program at class) handlers ≡ Some handler → test handler.at ≡ true
  taking_passes test [] handler all e = absurd cc
  taking_passes test (h ∷ later) handler all e =
      elim (cases_Bool (covers at h)) [
        | inl holds ↦
            let here : list_all test (h.at ∷ (if is_some h.class then handlers_of at later else [])) ≡ true = rw holds at all in
            let both = and_parts (test h.at) (list_all test (if is_some h.class then handlers_of at later else [])) here in
            elim (cases_Bool (catches program at class h)) [
              | inl takes_it ↦
                  let same : h ≡ handler = same_Some h handler (rw takes_it at e) in
                  subst (λ (x : Handler). test x.at ≡ true) same both.0
              | inr leaves_it ↦
                  elim (cases_Bool (is_some h.class)) [
                    | inl some ↦ taking_passes test later handler (rw some at both.1) (rw leaves_it at e)
                    | inr none ↦ let any = catching_any h holds none in absurd cc
                  ]
            ]
        | inr fails ↦ taking_passes test later handler (rw fails at all) (rw (not_catching h fails) at e)
      ]
