-- Events that are granted, made, returned and recorded in one order lead where they lead in another, where they may turn.
use Rattle.std.proofs.Common.{◌≡◌, Bool, List, [], ◌∷◌, ◌++◌, Option, Some, None, refl, sym, ap, subst, ◌∙◌, append-nil, append_assoc}
use Rattle.std.specs.Prelude.{IsSome, IsTrue, option_and_then}
use Rattle.std.specs.List.{AllByRecursion}
use Rattle.conspec_automaton.specs.Obeys.{after}
use Rattle.conspec_automaton.specs.Turning.{IsTaken, Keeps, Turns}
use Rattle.conspec_automaton.proofs.Turned.{run_keeps, runs_join}
use Rattle.guest_model.proofs.Options.{and_then_of, some_is}

module _ {S E : Type 0} (next : S → E → Option S) (ok : S → Bool) (keeps : Keeps next ok) where
  abbrev pub Leads : S → List E → S → Type 0
  Leads s events end = after next s events ≡ Some end

  -- through a state between
  pub record Through (s : S) (first second : List E) (end : S) : Type 0 where
    pub between : S
    pub ranged : IsTrue (ok between)
    pub to : Leads s first between
    pub from : Leads between second end

  pub parted : (s : S) (first second : List E) (end : S) → IsTrue (ok s) → Leads s (first ++ second) end → Through s first second end
  parted s first second end in_range leads =
      let m = and_then_of (λ (reached : S). after next reached second) (after next s first) end (sym (runs_join next s first second) ∙ leads) in
      record { between = m.0; ranged = run_keeps next ok keeps s m.0 first in_range m.1; to = m.1; from = m.2 }

  pub joins : (s between end : S) (first second : List E) → Leads s first between → Leads between second end → Leads s (first ++ second) end
  joins s between end first second to from = runs_join next s first second ∙ ap (option_and_then (λ (reached : S). after next reached second)) to ∙ from

  -- each of these may turn with the event, or the event with each of these
  abbrev pub TurnWith : List E → E → Type 0
  TurnWith ds e = AllByRecursion (λ d. Turns next ok d e) ds

  abbrev pub TurnsWith : E → List E → Type 0
  TurnsWith e ds = AllByRecursion (λ d. Turns next ok e d) ds

  -- an event comes first that came after these
  pub comes_first : (s end : S) (ds : List E) (e : E) (rest : List E) → IsTrue (ok s) → TurnWith ds e → Leads s (ds ++ e ∷ rest) end → Leads s (e ∷ (ds ++ rest)) end
  comes_first s end [] e rest in_range turn leads = leads
  comes_first s end (d ∷ ds) e rest in_range turn leads =
      let first = parted s (d ∷ []) (ds ++ e ∷ rest) end in_range leads in
      let later = comes_first first.between end ds e rest first.ranged turn.1 first.from in
      let second = parted first.between (e ∷ []) (ds ++ rest) end first.ranged later in
      let both : Leads s (d ∷ e ∷ []) second.between = joins s first.between second.between (d ∷ []) (e ∷ []) first.to second.to in
      joins s second.between end (e ∷ d ∷ []) (ds ++ rest) (turn.0 s second.between in_range both) second.from

  -- an event comes last that came before these
  pub comes_last : (s end : S) (e : E) (ds : List E) → IsTrue (ok s) → TurnsWith e ds → Leads s (e ∷ ds) end → Leads s (ds ++ e ∷ []) end
  comes_last s end e [] in_range turn leads = leads
  comes_last s end e (d ∷ ds) in_range turn leads =
      let two = parted s (e ∷ d ∷ []) ds end in_range leads in
      let turned : Leads s (d ∷ e ∷ []) two.between = turn.0 s two.between in_range two.to in
      let first = parted s (d ∷ []) (e ∷ []) two.between in_range turned in
      let others : Leads first.between (e ∷ ds) end = joins first.between two.between end (e ∷ []) ds first.from two.from in
      joins s first.between end (d ∷ []) (ds ++ e ∷ []) first.to (comes_last first.between end e ds first.ranged turn.1 others)

  -- ---- what happened and what is recorded

  -- Both lead to one state.
  pub record Agrees (first : S) (traced : List E) (recorded : S) (granted owed : List E) : Type 0 where
    pub end : S
    pub happened : Leads first (traced ++ granted) end
    pub due : Leads recorded owed end

  module _ (first : S) (first_in : IsTrue (ok first)) (traced : List E) (recorded : S) (recorded_in : IsTrue (ok recorded)) where
    -- A call is granted, and recorded.
    pub grants : (g h owed : List E) (c : E) (now : S) → next recorded c ≡ Some now → (end : S) → Leads now owed end → TurnsWith c owed → TurnWith h c
        → Agrees first traced recorded (g ++ h) owed → Agrees first traced now (g ++ c ∷ h) owed
    grants g h owed c now taken end leads across among a =
        let one : Leads recorded (c ∷ []) now = ap (option_and_then (λ (s : S). Some s)) taken in
        let last = comes_last recorded end c owed recorded_in across (joins recorded now end (c ∷ []) owed one leads) in
        let p = parted recorded owed (c ∷ []) end recorded_in last in
        let same : p.between ≡ a.end = some_is p.between a.end (sym p.to ∙ a.due) in
        let then_c : Leads a.end (c ∷ []) end = subst (λ (s : S). Leads s (c ∷ []) end) same p.from in
        let all : Leads first ((traced ++ (g ++ h)) ++ c ∷ []) end = joins first a.end end (traced ++ (g ++ h)) (c ∷ []) a.happened then_c in
        let regrouped : (traced ++ (g ++ h)) ++ c ∷ [] ≡ (traced ++ g) ++ (h ++ c ∷ []) =
        append_assoc traced (g ++ h) (c ∷ []) ∙ ap (λ (es : List E). traced ++ es) (append_assoc g h (c ∷ [])) ∙ sym (append_assoc traced g (h ++ c ∷ [])) in
        let q = parted first (traced ++ g) (h ++ c ∷ []) end first_in (subst (λ (es : List E). Leads first es end) regrouped all) in
        let turned : Leads q.between (c ∷ (h ++ [])) end = comes_first q.between end h c [] q.ranged among q.from in
        let whole : Leads first ((traced ++ g) ++ (c ∷ h)) end = joins first q.between end (traced ++ g) (c ∷ h) q.to (subst (λ (es : List E). Leads q.between (c ∷ es) end) (append-nil h) turned) in
        record { end = end; happened = subst (λ (es : List E). Leads first es end) (append_assoc traced g (c ∷ h)) whole; due = leads }

    -- A call that was granted is made.
    pub calls : (g h owed : List E) (c : E) → TurnWith g c → Agrees first traced recorded (g ++ c ∷ h) owed → Agrees first (traced ++ c ∷ []) recorded (g ++ h) owed
    calls g h owed c among a =
        let p = parted first traced (g ++ c ∷ h) a.end first_in a.happened in
        let turned = comes_first p.between a.end g c h p.ranged among p.from in
        let whole : Leads first (traced ++ (c ∷ (g ++ h))) a.end = joins first p.between a.end traced (c ∷ (g ++ h)) p.to turned in
        record { end = a.end; happened = subst (λ (es : List E). Leads first es a.end) (sym (append_assoc traced (c ∷ []) (g ++ h))) whole; due = a.due }

    -- A call ends, which is owed then.
    pub ends : (granted o p : List E) (r : E) → IsTaken next ok r → TurnWith granted r → TurnWith p r
        → Agrees first traced recorded granted (o ++ p) → Agrees first (traced ++ r ∷ []) recorded granted (o ++ r ∷ p)
    ends granted o p r taken across among a =
        let end_in : IsTrue (ok a.end) = run_keeps next ok keeps recorded a.end (o ++ p) recorded_in a.due in
        by (next a.end r) refl (taken a.end end_in) where
          by : (answer : Option S) → next a.end r ≡ answer → IsSome answer → Agrees first (traced ++ r ∷ []) recorded granted (o ++ r ∷ p)
          by None is some = absurd cc
          by (Some end) is some =
              let one : Leads a.end (r ∷ []) end = ap (option_and_then (λ (s : S). Some s)) is in
              let all : Leads first (traced ++ (granted ++ r ∷ [])) end =
              subst (λ (es : List E). Leads first es end) (append_assoc traced granted (r ∷ [])) (joins first a.end end (traced ++ granted) (r ∷ []) a.happened one) in
              let q = parted first traced (granted ++ r ∷ []) end first_in all in
              let turned : Leads q.between (r ∷ (granted ++ [])) end = comes_first q.between end granted r [] q.ranged across q.from in
              let happened : Leads first (traced ++ (r ∷ granted)) end =
              joins first q.between end traced (r ∷ granted) q.to (subst (λ (es : List E). Leads q.between (r ∷ es) end) (append-nil granted) turned) in
              let owed : Leads recorded (o ++ (p ++ r ∷ [])) end =
              subst (λ (es : List E). Leads recorded es end) (append_assoc o p (r ∷ [])) (joins recorded a.end end (o ++ p) (r ∷ []) a.due one) in
              let u = parted recorded o (p ++ r ∷ []) end recorded_in owed in
              let later : Leads u.between (r ∷ (p ++ [])) end = comes_first u.between end p r [] u.ranged among u.from in
              let due : Leads recorded (o ++ (r ∷ p)) end = joins recorded u.between end o (r ∷ p) u.to (subst (λ (es : List E). Leads u.between (r ∷ es) end) (append-nil p) later) in
              record { end = end; happened = subst (λ (es : List E). Leads first es end) (sym (append_assoc traced (r ∷ []) granted)) happened; due = due }

    -- What is owed is recorded.
    pub records : (granted o p : List E) (r : E) (now : S) → next recorded r ≡ Some now → TurnWith o r
        → Agrees first traced recorded granted (o ++ r ∷ p) → Agrees first traced now granted (o ++ p)
    records granted o p r now taken among a =
        let turned = comes_first recorded a.end o r p recorded_in among a.due in
        let m = and_then_of (λ (s : S). after next s (o ++ p)) (next recorded r) a.end turned in
        let same : m.0 ≡ now = some_is m.0 now (sym m.1 ∙ taken) in
        record { end = a.end; happened = a.happened; due = subst (λ (s : S). Leads s (o ++ p) a.end) same m.2 }
