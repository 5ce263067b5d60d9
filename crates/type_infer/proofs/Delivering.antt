-- What is sent from an instruction.
use Rattle.std.proofs.Common.{◌≡◌, ℕ, ◌<◌, ◌≤◌, true, List, [], ◌∷◌, ◌++◌, length, Option, Some, None, refl, sym, ap, subst, ◌∙◌, inl, inr, arith}
use Rattle.std.specs.Prelude.{Contains, slice_get, option_map}
use Rattle.std.proofs.lemmas.List.Elements.{Contains-append_cases, Contains-append_left, Contains-append_right}
use Rattle.std.proofs.lemmas.Option.{slice_get-get_or}
use Rattle.cert_format.specs.declared.typing.FrameType.{FrameType}
use Rattle.insn_codec.specs.declared.insn.Insn.{Insn}
use Rattle.insn_codec.specs.declared.insn.Insn.TheVariants as insns
use Rattle.insn_codec.specs.Control.{successors}
use Rattle.bytecode_model.specs.declared.program.Handler.{Handler}
use Rattle.bytecode_model.specs.declared.program.Method.{Method}
use Rattle.bytecode_model.specs.declared.program.Program.{Program}
use Rattle.bytecode_model.specs.Order.{IsInOrder}
use Rattle.bytecode_model.specs.InsnPlace.{InsnPlace}
use Rattle.bytecode_model.specs.Rules.{Frames, frame_of, covers}
use Rattle.bytecode_model.specs.Typed.{place_at}
use Rattle.type_infer.specs.Laws.{Laws}
use Rattle.type_infer.specs.Sending.{AreSuccessors, KeepsOld, RaisesLeft, RaisesThrown, Sends, SendsTo, ThrowsTo, ThrowsToAll}
use Rattle.type_infer.specs.Solving.{Scope, State, IsReady, place_of, put, AreFound, RowIsMet, StaysFound, IsSent, Left, IsKept, IsRaisedBy, Grows, HasGone, IsDone, left_by, thrown_to}
use Rattle.type_infer.proofs.Flowing.{some_one, Fits, is_under, left_fits, thrown_fits, place_is, insn_there}
use Rattle.type_infer.proofs.Kept.{among_first}
use Rattle.type_infer.proofs.Staying.{successor_within, handler_within, none_of, one_of}
use Rattle.type_infer.proofs.Stepping.{gone_grows, grows_over, is_place, put_grows, put_found, has_gone, of_height}

module _ (scope : Scope) (ready : IsReady scope) where
  place_there : (to : ℕ) → to < length scope.method.insns → place_of scope to ≡ None → ⊥
  place_there to h e =
      let is = slice_get-get_or scope.method.insns to (insns.Plain 0) h in
      let some = ap (option_map (λ (insn : Insn). place_at scope.program scope.own scope.class scope.method to insn)) is in
      absurd cc

  pub successor_there : (at : ℕ) (place : InsnPlace) (to : ℕ) → place_of scope at ≡ Some place → Contains (successors at place.insn) to → place_of scope to ≡ None → ⊥
  successor_there at place to there c =
      let h = insn_there _ (slice_get scope.method.insns at) place there in
      let insn : h.0 ≡ place.insn = ap (λ (p : InsnPlace). p.insn) h.2 in
      place_there to (successor_within scope.method at place.insn to ready.sound (h.1 ∙ ap (λ (i : Insn). Some i) insn) c)

  pub handler_there : (handler : Handler) → Contains scope.method.handlers handler → place_of scope handler.at ≡ None → ⊥
  handler_there handler c = place_there handler.at (handler_within scope.method handler ready.sound c)

module _ (scope : Scope) (laws : Laws scope.program) (old : State) (at : ℕ) (place : InsnPlace) (here : place_of scope at ≡ Some place) (low : FrameType) (is : frame_of old.frames at ≡ Some low)
    (to : ℕ) (there : InsnPlace) (placed : place_of scope to ≡ Some there) (told : Option FrameType) where
  pub put_kept : length old.frames ≡ length scope.method.insns → length old.marks ≡ length scope.method.insns
      → KeepsOld place (frame_of old.frames to) told → Grows scope.program old (put old to told)
  put_kept f m k =
      let p = place_is scope at place here in
      let within = is_place scope laws to there placed in
      put_grows scope.program laws.itself laws.over old to told (omega arith) (omega arith)
      (subst (λ (q : Program). IsKept q (frame_of old.frames to) told) p.0 (k (subst IsInOrder (sym p.0) laws.order)))

  -- ---- to another instruction

  module _ (raised : RaisesLeft place low there (frame_of old.frames to) told) (c : Contains (successors at place.insn) to) where
    left_raised : (above : Frames) → RowIsMet scope above at → AreFound scope above old
        → Fits scope laws above to (left_by place low) × IsRaisedBy there (frame_of old.frames to) (left_by place low) told
    left_raised above row found =
        let p = place_is scope at place here in
        let u = is_under scope laws above at place low row here (found.found at low is) in
        let fits = left_fits scope laws above at place low here u to c in
        (fits, raised (subst IsInOrder (sym p.0) laws.order) u.alone (of_height scope laws above old found to there placed (left_by place low) fits))

    pub left_stays : StaysFound scope at old (put old to told)
    left_stays above row found =
        let r = left_raised above row found in
        put_found scope laws above old found to there placed (left_by place low) r.0 told r.1

    pub left_sent : IsSent scope at to left_by old (put old to told)
    left_sent above row found =
        let r = left_raised above row found in
        has_gone scope laws above old found to there placed (left_by place low) r.0 told r.1 at place low left_by here is refl

module _ (scope : Scope) (laws : Laws scope.program) (old : State) (at : ℕ) (place : InsnPlace) (here : place_of scope at ≡ Some place) (low : FrameType) (is : frame_of old.frames at ≡ Some low)
    (handler : Handler) (there : InsnPlace) (placed : place_of scope handler.at ≡ Some there) (told : Option FrameType) where
  -- ---- to a handler

  module _ (raised : RaisesThrown handler place low there (frame_of old.frames handler.at) told) (c : Contains scope.method.handlers handler) (covered : covers at handler ≡ true) where
    thrown_raised : (above : Frames) → RowIsMet scope above at → AreFound scope above old
        → Fits scope laws above handler.at (thrown_to handler place low) × IsRaisedBy there (frame_of old.frames handler.at) (thrown_to handler place low) told
    thrown_raised above row found =
        let p = place_is scope at place here in
        let f = found.found at low is in
        let u = is_under scope laws above at place low row here f in
        let t = thrown_fits scope laws above at place low here u handler c covered in
        let fits : Fits scope laws above handler.at (thrown_to handler place low) = record { high = t.high; there = t.there; below = t.below } in
        let within = subst (λ (m : Method). length low.locals ≤ m.max_locals) (sym p.1) f.within in
        (fits, raised (subst IsInOrder (sym p.0) laws.order) within t.room (of_height scope laws above old found handler.at there placed (thrown_to handler place low) fits))

    pub thrown_stays : StaysFound scope at old (put old handler.at told)
    thrown_stays above row found =
        let r = thrown_raised above row found in
        put_found scope laws above old found handler.at there placed (thrown_to handler place low) r.0 told r.1

    pub thrown_sent : IsSent scope at handler.at (thrown_to handler) old (put old handler.at told)
    thrown_sent above row found =
        let r = thrown_raised above row found in
        has_gone scope laws above old found handler.at there placed (thrown_to handler place low) r.0 told r.1 at place low (thrown_to handler) here is refl

-- ---- one after the other

module _ (scope : Scope) (laws : Laws scope.program) (at : ℕ) (old middle new : State) where
  pub stays_over : StaysFound scope at old middle → StaysFound scope at middle new → StaysFound scope at old new
  stays_over first second above row found = second above row (first above row found)

  pub sent_before : (to : ℕ) (left : InsnPlace → FrameType → Left) → IsSent scope at to left old middle → Grows scope.program middle new → IsSent scope at to left old new
  sent_before to left sent grows above row found = gone_grows scope laws middle new grows at to left (sent above row found)

  pub sent_after : (to : ℕ) (left : InsnPlace → FrameType → Left) → StaysFound scope at old middle → IsSent scope at to left middle new → IsSent scope at to left old new
  sent_after to left first sent above row found = sent above row (first above row found)

-- ---- what a call sends

module _ (scope : Scope) (laws : Laws scope.program) (place : InsnPlace) where
  -- all stays as it is
  pub sends_nothing : (may gone : Type 0) (state : State) → (may → gone) → Sends scope place.at may gone state state
  sends_nothing may gone state sent = record {
    grows = record { raised = λ at low is. (low, (is, laws.itself low)); unmarked = λ at e. (e, refl) };
    found = λ m above row found. found;
    sent = sent;
  }

  -- an instruction that is not reached leaves and throws nothing
  pub unreached : (to : ℕ) (left : InsnPlace → FrameType → Left) (state : State) → frame_of state.frames place.at ≡ None → IsSent scope place.at to left state state
  unreached to left state none above row found unmarked from frame there is =
      let h : None ≡ Some frame = sym none ∙ is in
      absurd cc

  pub sends_nowhere : (state : State) → SendsTo scope place [] state state
  sends_nowhere state = sends_nothing (AreSuccessors place []) _ state (λ may to among. absurd (none_of to among))

  pub sends_over : (xs ys : List ℕ) (old middle new : State) → SendsTo scope place xs old middle → SendsTo scope place ys middle new → SendsTo scope place (xs ++ ys) old new
  sends_over xs ys old middle new first second = record {
    grows = grows_over scope.program laws.itself laws.over old middle new first.grows second.grows;
    found = λ may. stays_over scope laws place.at old middle new (first.found (front may)) (second.found (following may));
    sent = λ may to among.
        elim (Contains-append_cases xs ys to among) [
          | inl earlier ↦ sent_before scope laws place.at old middle new to left_by (first.sent (front may) to earlier) second.grows
          | inr later ↦ sent_after scope laws place.at old middle new to left_by (first.found (front may)) (second.sent (following may) to later)
        ];
  } where
    front : AreSuccessors place (xs ++ ys) → AreSuccessors place xs
    front may to among = may to (Contains-append_left xs ys to among)

    following : AreSuccessors place (xs ++ ys) → AreSuccessors place ys
    following may to among = may to (Contains-append_right xs ys to among)

  module _ (old : State) (here : place_of scope place.at ≡ Some place) (low : FrameType) (is : frame_of old.frames place.at ≡ Some low)
      (frames : length old.frames ≡ length scope.method.insns) (marks : length old.marks ≡ length scope.method.insns) (there : InsnPlace) (told : Option FrameType) where
    pub left_sends : (to : ℕ) → place_of scope to ≡ Some there → KeepsOld place (frame_of old.frames to) told → RaisesLeft place low there (frame_of old.frames to) told
        → SendsTo scope place (to ∷ []) old (put old to told)
    left_sends to placed kept raised = record {
      grows = put_kept scope laws old place.at place here low is to there placed told frames marks kept;
      found = λ may. left_stays scope laws old place.at place here low is to there placed told raised (may to (among_first to []));
      sent = λ may other among.
          subst (λ (n : ℕ). IsSent scope place.at n left_by old (put old to told)) (one_of to other among)
          (left_sent scope laws old place.at place here low is to there placed told raised (may to (among_first to [])));
    }

    pub thrown_sends : (handler : Handler) → place_of scope handler.at ≡ Some there → KeepsOld place (frame_of old.frames handler.at) told
        → RaisesThrown handler place low there (frame_of old.frames handler.at) told → covers place.at handler ≡ true → ThrowsTo scope place handler old (put old handler.at told)
    thrown_sends handler placed kept raised covered = record {
      grows = put_kept scope laws old place.at place here low is handler.at there placed told frames marks kept;
      found = λ among. thrown_stays scope laws old place.at place here low is handler there placed told raised among covered;
      sent = λ among passes. thrown_sent scope laws old place.at place here low is handler there placed told raised among covered;
    }

-- ---- all that an instruction leaves and throws

module _ (scope : Scope) (laws : Laws scope.program) (at : ℕ) (place : InsnPlace) (there : place_of scope at ≡ Some place) (old second new : State)
    (lefts : SendsTo scope place (successors place.at place.insn) old second) (throws : ThrowsToAll scope place second new) where
  same : place.at ≡ at
  same = (place_is scope at place there).2

  pub whole_grows : Grows scope.program old new
  whole_grows = grows_over scope.program laws.itself laws.over old second new lefts.grows throws.grows

  pub whole_stays : StaysFound scope at old new
  whole_stays =
      subst (λ (n : ℕ). StaysFound scope n old new) same (stays_over scope laws place.at old second new (lefts.found (λ to among. among)) (throws.found tt))

  module _ (above : Frames) (row : RowIsMet scope above at) (found : AreFound scope above old) where
    to_here : (to : ℕ) (left : InsnPlace → FrameType → Left) → IsSent scope place.at to left old new → HasGone scope new at to left
    to_here to left sent =
        subst (λ (n : ℕ). HasGone scope new n to left) same (sent above (subst (RowIsMet scope above) (sym same) row) found)

    pub all_done : IsDone scope new at
    all_done = record {
      goes = λ other is to among.
          let one : place ≡ other = some_one place other (sym there ∙ is) in
          let from = subst (λ (n : ℕ). Contains (successors n place.insn) to) (sym same) (subst (λ (p : InsnPlace). Contains (successors at p.insn) to) (sym one) among) in
          to_here to left_by (sent_before scope laws place.at old second new to left_by (lefts.sent (λ to among. among) to from) throws.grows);
      throws = λ handler among covered.
          to_here handler.at (thrown_to handler)
          (sent_after scope laws place.at old second new handler.at (thrown_to handler) (lefts.found (λ to among. among))
          (throws.sent tt handler among (subst (λ (n : ℕ). covers n handler ≡ true) (sym same) covered)));
    }
