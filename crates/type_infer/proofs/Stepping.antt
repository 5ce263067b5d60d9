-- What a frame that is put before an instruction does to the frames that are found.
use Rattle.std.proofs.Common.{◌≡◌, ◌⊎◌, ℕ, ◌<◌, ◌≤◌, Bool, true, false, eqb, List, length, set, Option, Some, None, refl, sym, ap, subst, ◌∙◌, inl, inr, arith}
use Rattle.std.specs.Prelude.{slice_get}
use Rattle.std.specs.Option.{option_or}
use Rattle.std.proofs.lemmas.Bool.{cases_Bool, false≢true}
use Rattle.std.proofs.lemmas.Bool.Decides.{Decides-eqb}
use Rattle.std.proofs.lemmas.List.{length-set}
use Rattle.std.proofs.lemmas.Option.{slice_get_within}
use Rattle.cert_format.specs.declared.typing.FrameType.{FrameType}
use Rattle.cert_format.specs.declared.typing.VType.{VType}
use Rattle.bytecode_model.specs.declared.program.Method.{Method}
use Rattle.bytecode_model.specs.declared.program.Program.{Program}
use Rattle.bytecode_model.specs.Assigning.{assignable}
use Rattle.bytecode_model.specs.Makes.{type_at}
use Rattle.code_typing.specs.Order.{IsFrameBelow, is_settled, StackBelow}
use Rattle.bytecode_model.specs.InsnPlace.{InsnPlace}
use Rattle.bytecode_model.specs.Rules.{Frames, frame_of}
use Rattle.type_infer.specs.Laws.{Laws}
use Rattle.type_infer.specs.Solving.{Scope, State, place_of, put, is_marked, AreFound, IsFound, Left, AreBelow, OldIsBelow, IsRaisedBy, IsKept, IsOfHeight, HasCome, HasGone, IsDone, Grows}
use Rattle.type_infer.proofs.Below.{below_over, stack_height}
use Rattle.type_infer.proofs.Flowing.{Fits, place_is, insn_there, some_one}
use Rattle.type_infer.proofs.Lists.{frame_of-set_same, frame_of-set_other, is_marked-set_same, is_marked-set_other}

-- ---- two lefts with the same types

module _ (place : InsnPlace) (old : Option FrameType) (a b : Left) (operands : a.operands ≡ b.operands) (locals : (j : ℕ) → a.locals j ≡ b.locals j) where
  to_other : (program : Program) (frame : FrameType) → AreBelow program a frame → AreBelow program b frame
  to_other program frame h = record {
    operands = subst (λ (s : List VType). StackBelow program s frame.stack) operands h.operands;
    locals = λ j. subst (λ (t : VType). assignable program t (type_at frame.locals j) ≡ true) (locals j) (h.locals j);
  }

  from_other : (program : Program) (frame : FrameType) → AreBelow program b frame → AreBelow program a frame
  from_other program frame h = record {
    operands = subst (λ (s : List VType). StackBelow program s frame.stack) (sym operands) h.operands;
    locals = λ j. subst (λ (t : VType). assignable program t (type_at frame.locals j) ≡ true) (sym (locals j)) (h.locals j);
  }

  pub same_raised : (told : Option FrameType) → IsRaisedBy place old a told → IsRaisedBy place old b told
  same_raised told (now, (e, r)) = (
    now,
    (
      e,
      record {
        came = to_other place.program now r.came;
        kept = r.kept;
        least = λ high settled below over. r.least high settled (from_other place.program high below) over;
        settled = r.settled;
        within = r.within;
      },
    ),
  )

-- ---- a frame that is put

pub equal_or : (i j : ℕ) → (i ≡ j) ⊎ (i ≡ j → ⊥)
equal_or i j =
    elim (cases_Bool (eqb i j)) [
      | inl same ↦ inl ((Decides-eqb i j).0 same)
      | inr other ↦ inr (λ e. false≢true (sym other ∙ (Decides-eqb i j).1 e))
    ]

pub put_here : (state : State) (to : ℕ) (told : Option FrameType) → to < length state.frames → frame_of (put state to told).frames to ≡ option_or told (frame_of state.frames to)
put_here state to None h = refl
put_here state to (Some frame) h = frame_of-set_same state.frames to (Some frame) h

pub put_there : (state : State) (to : ℕ) (told : Option FrameType) (at : ℕ) → (at ≡ to → ⊥) → frame_of (put state to told).frames at ≡ frame_of state.frames at
put_there state to None at h = refl
put_there state to (Some frame) at h = frame_of-set_other state.frames to at (Some frame) h

-- where an instruction is not marked afterwards, it was not before, and its frame is the same
pub put_unmarked : (state : State) (to : ℕ) (told : Option FrameType) → to < length state.marks → (at : ℕ) → is_marked (put state to told).marks at ≡ false
    → (is_marked state.marks at ≡ false) × (frame_of (put state to told).frames at ≡ frame_of state.frames at)
put_unmarked state to None h at e = (e, refl)
put_unmarked state to (Some frame) h at e =
    elim (equal_or at to) [
      | inl same ↦ absurd (false≢true (sym e ∙ ap (is_marked (set state.marks to true)) same ∙ is_marked-set_same state.marks to true h))
      | inr other ↦ (sym (is_marked-set_other state.marks to at true other) ∙ e, frame_of-set_other state.frames to at (Some frame) other)
    ]

pub put_count : (state : State) (to : ℕ) (told : Option FrameType) → (length (put state to told).frames ≡ length state.frames) × (length (put state to told).marks ≡ length state.marks)
put_count state to None = (refl, refl)
put_count state to (Some frame) = (length-set state.frames to (Some frame), length-set state.marks to true)

is_told : (o : Option FrameType) → (o ≡ None) ⊎ ((x : FrameType) × (o ≡ Some x))
is_told None = inl refl
is_told (Some x) = inr (x, refl)

module _ (program : Program) (itself : (frame : FrameType) → IsFrameBelow program frame frame) (over : (a b c : FrameType) → IsFrameBelow program a b → IsFrameBelow program b c → IsFrameBelow program a c) where
  pub grows_over : (a b c : State) → Grows program a b → Grows program b c → Grows program a c
  grows_over a b c g h = record {
    raised = λ at low e.
        let first = g.raised at low e in
        let second = h.raised at first.0 first.1.0 in
        (second.0, (second.1.0, over low first.0 second.0 first.1.1 second.1.1));
    unmarked = λ at e.
        let later = h.unmarked at e in
        let earlier = g.unmarked at later.0 in
        (earlier.0, later.1 ∙ earlier.1);
  }

  pub put_grows : (state : State) (to : ℕ) (told : Option FrameType) → to < length state.frames → to < length state.marks → IsKept program (frame_of state.frames to) told
      → Grows program state (put state to told)
  put_grows state to told f m k = record {
    raised = λ at low e.
        elim (equal_or at to) [
          | inl same ↦
              let there : frame_of state.frames to ≡ Some low = subst (λ (n : ℕ). frame_of state.frames n ≡ Some low) same e in
              let here : frame_of (put state to told).frames at ≡ option_or told (Some low) =
              ap (frame_of (put state to told).frames) same ∙ put_here state to told f ∙ ap (option_or told) there in
              elim (is_told told) [
                | inl none ↦ (low, (here ∙ ap (λ (x : Option FrameType). option_or x (Some low)) none, itself low))
                | inr (frame, some) ↦ (frame, (here ∙ ap (λ (x : Option FrameType). option_or x (Some low)) some, k frame some low there))
              ]
          | inr other ↦ (low, (put_there state to told at other ∙ e, itself low))
        ];
    unmarked = λ at e. put_unmarked state to told m at e;
  }

  module _ (transitive : (t u v : VType) → assignable program t u ≡ true → assignable program u v ≡ true → assignable program t v ≡ true) where
    pub come_grows : (old new : State) → Grows program old new → (to : ℕ) (left : Left) → HasCome program old.frames to left → HasCome program new.frames to left
    come_grows old new g to left h =
        let up = g.raised to h.frame h.there in
        record { frame = up.0; there = up.1.0; below = below_over program transitive left h.frame up.0 h.below up.1.1 }

module _ (scope : Scope) (laws : Laws scope.program) where
  pub gone_grows : (old new : State) → Grows scope.program old new → (at to : ℕ) (left : InsnPlace → FrameType → Left) → HasGone scope old at to left → HasGone scope new at to left
  gone_grows old new g at to left h e place frame there is =
      let before = g.unmarked at e in
      come_grows scope.program laws.itself laws.over laws.transitive old new g to (left place frame) (h before.0 place frame there (sym before.1 ∙ is))

  pub done_grows : (old new : State) → Grows scope.program old new → (at : ℕ) → IsDone scope old at → IsDone scope new at
  done_grows old new g at d = record {
    goes = λ place there to c. gone_grows old new g at to _ (d.goes place there to c);
    throws = λ handler c covered. gone_grows old new g at handler.at _ (d.throws handler c covered);
  }

  -- ---- what comes to an instruction

  pub is_place : (at : ℕ) (place : InsnPlace) → place_of scope at ≡ Some place → at < length scope.method.insns
  is_place at place e =
      let h = insn_there _ (slice_get scope.method.insns at) place e in
      slice_get_within scope.method.insns at h.0 h.1

  module _ (above : Frames) (old : State) (found : AreFound scope above old) (to : ℕ) (place : InsnPlace) (there : place_of scope to ≡ Some place) (left : Left) (fits : Fits scope laws above to left) where
    pub of_height : IsOfHeight (frame_of old.frames to) (length left.operands)
    of_height frame e =
        let f = found.found to frame e in
        let same : f.high ≡ fits.high = some_one f.high fits.high (sym f.there ∙ fits.there) in
        f.height ∙ ap (λ (h : FrameType). length h.stack) same ∙ sym (stack_height scope.program left.operands fits.high.stack fits.below.operands)

    module _ (told : Option FrameType) (r : IsRaisedBy place (frame_of old.frames to) left told) where
      now_there : frame_of (put old to told).frames to ≡ Some r.0
      now_there = put_here old to told (omega (arith, is_place to place there, found.frames)) ∙ r.1.0

      pub has_come : HasCome scope.program (put old to told).frames to left
      has_come =
          let p = place_is scope to place there in
          record { frame = r.0; there = now_there; below = subst (λ (q : Program). AreBelow q left r.0) p.0 r.1.1.came }

      is_found : IsFound scope above to r.0
      is_found =
          let p = place_is scope to place there in
          let came = subst (λ (q : Program). AreBelow q left r.0) p.0 r.1.1.came in
          let old_place = λ (frame : FrameType) (e : frame_of old.frames to ≡ Some frame). some_one (found.found to frame e).place place (sym (found.found to frame e).placed ∙ there) in
          let old_high = λ (frame : FrameType) (e : frame_of old.frames to ≡ Some frame). some_one (found.found to frame e).high fits.high (sym (found.found to frame e).there ∙ fits.there) in
          record {
            place = place;
            placed = there;
            high = fits.high;
            there = fits.there;
            height = sym (stack_height scope.program left.operands r.0.stack came.operands) ∙ stack_height scope.program left.operands fits.high.stack fits.below.operands;
            below = λ settled h is.
                let under = below_over scope.program laws.transitive left fits.high settled fits.below h in
                let stands = λ (frame : FrameType) (e : frame_of old.frames to ≡ Some frame).
                (found.found to frame e).below settled (subst (λ (f : FrameType). IsFrameBelow scope.program f settled) (sym (old_high frame e)) h)
                (subst (λ (q : InsnPlace). is_settled q settled ≡ true) (sym (old_place frame e)) is) in
                let least = r.1.1.least settled is (subst (λ (q : Program). AreBelow q left settled) (sym p.0) under)
                (subst (λ (q : Program). OldIsBelow q (frame_of old.frames to) settled) (sym p.0) stands) in
                subst (λ (q : Program). IsFrameBelow q r.0 settled) p.0 least;
            settled = r.1.1.settled (λ frame e. subst (λ (q : InsnPlace). is_settled q frame ≡ true) (old_place frame e) (found.found to frame e).settled);
            within =
                subst (λ (m : Method). length r.0.locals ≤ m.max_locals) p.1
                (r.1.1.within (λ frame e. subst (λ (m : Method). length frame.locals ≤ m.max_locals) (sym p.1) (found.found to frame e).within));
          }

      pub put_found : AreFound scope above (put old to told)
      put_found = record {
        frames = (put_count old to told).0 ∙ found.frames;
        marks = (put_count old to told).1 ∙ found.marks;
        found = λ at low e.
            elim (equal_or at to) [
              | inl same ↦
                  let now : low ≡ r.0 = some_one low r.0 (sym e ∙ ap (frame_of (put old to told).frames) same ∙ now_there) in
                  subst (λ (n : ℕ). IsFound scope above n low) (sym same) (subst (λ (f : FrameType). IsFound scope above to f) (sym now) is_found)
              | inr other ↦ found.found at low (sym (put_there old to told at other) ∙ e)
            ];
      }

      -- what an instruction left has come, unless its frame is raised by that
      pub has_gone : (at : ℕ) (from : InsnPlace) (low : FrameType) (of : InsnPlace → FrameType → Left) → place_of scope at ≡ Some from → frame_of old.frames at ≡ Some low → of from low ≡ left
          → HasGone scope (put old to told) at to of
      has_gone at from low of p f is e other frame there' is' =
          let same = put_unmarked old to told (omega (arith, is_place to place there, found.marks)) at e in
          let one : from ≡ other = some_one from other (sym p ∙ there') in
          let two : low ≡ frame = some_one low frame (sym f ∙ sym same.1 ∙ is') in
          subst (λ (q : InsnPlace). HasCome scope.program (put old to told).frames to (of q frame)) one
          (subst (λ (g : FrameType). HasCome scope.program (put old to told).frames to (of from g)) two
          (subst (λ (l : Left). HasCome scope.program (put old to told).frames to l) (sym is) has_come))

pub state_is : (s : State) (frames : Frames) (marks : List Bool) → s.frames ≡ frames → s.marks ≡ marks → s ≡ record { frames = frames; marks = marks }
state_is s frames marks e g =
    subst (λ (f : Frames). s ≡ record { frames = f; marks = marks }) e (subst (λ (m : List Bool). s ≡ record { frames = s.frames; marks = m }) g refl)
