-- The frames that are found while a method is looked through, from its begin to its end.
use Rattle.std.proofs.Common.{◌≡◌, ℕ, ◌<◌, ◌≤◌, Bool, true, false, cond, List, [], ◌∷◌, length, replicate, Option, Some, None, refl, sym, ap, subst, ◌∙◌, inl, inr, arith}
use Rattle.std.specs.Prelude.{not, ◌&&◌, ◌==◌, nat_le, if◌then◌else◌}
use Rattle.std.proofs.lemmas.Bool.{and_parts, leb-true}
use Rattle.std.proofs.lemmas.Bool.Decides.{Decides-eqb}
use Rattle.std.proofs.lemmas.List.{length-set, length-replicate}
use Rattle.cert_format.specs.declared.typing.FrameType.{FrameType}
use Rattle.cert_format.specs.declared.typing.VType.{VType}
use Rattle.bytecode_model.specs.declared.program.Program.{Program}
use Rattle.bytecode_model.specs.Assigning.{assignable}
use Rattle.bytecode_model.specs.Makes.{type_at}
use Rattle.bytecode_model.specs.InsnPlace.{InsnPlace}
use Rattle.bytecode_model.specs.Rules.{Frames, frame_of, entry_locals, Entry, rule_failing, row_failing}
use Rattle.type_infer.specs.Laws.{Laws}
use Rattle.type_infer.specs.Solving.{Scope, State, place_of, is_marked, put, unmarked, AreFound, AreBelow, IsRaisedBy, HasCome, IsDone, Grows, Holds, IsMetBy, begun}
use Rattle.type_infer.proofs.Below.{locals_below, stack_below}
use Rattle.type_infer.proofs.Flowing.{Fits, row_of, place_is, some_one}
use Rattle.type_infer.proofs.Lists.{frame_of-replicate, is_marked-set_other}
use Rattle.type_infer.proofs.Stepping.{put_found, has_come, put_unmarked, is_place, done_grows, come_grows, equal_or}

-- ---- helpers

entry_met : (b : Bool) (rest : Option ℕ) → cond (not b) (Some 1) rest ≡ None → b ≡ true
entry_met true rest e = refl
entry_met false rest e = absurd cc

empty_at : (program : Program) (xs : List VType) (j : ℕ) → length xs ≡ 0 → assignable program (type_at [] j) (type_at xs j) ≡ true
empty_at program [] j e = refl
empty_at program (x ∷ xs) j e = absurd (omega arith)

some_none : {A : Type 0} (x : A) → ◌≡◌ {A = Option A} None (Some x) → ⊥
some_none x e = absurd cc

-- ---- the begin

module _ (scope : Scope) (laws : Laws scope.program) where
  pub record IsEntered (above : Frames) (place : InsnPlace) : Type 0 where
    pub fits : Fits scope laws above 0 (begun place)
    pub within : length (entry_locals place) ≤ place.method.max_locals

  entered_from : (above : Frames) (place : InsnPlace) → place_of scope 0 ≡ Some place → (frame : Option FrameType) → frame_of above 0 ≡ frame → row_failing above place frame ≡ None → IsEntered above place
  entered_from above place there None is row =
      let at : place.at ≡ 0 = (place_is scope 0 place there).2 in
      let fails : row_failing above place None ≡ Some 1 = ap (λ (n : ℕ). if n == 0 then Some 1 else None) at in
      absurd cc
  entered_from above place there (Some high) is row =
      let p = place_is scope 0 place there in
      let e : cond (not (Entry place high)) (Some 1) (rule_failing above place high) ≡ None =
      subst (λ (n : ℕ). cond ((n == 0) && not (Entry place high)) (Some 1) (rule_failing above place high) ≡ None) p.2 row in
      let met = entry_met (Entry place high) _ e in
      let parts = and_parts (nat_le (length (entry_locals place)) place.method.max_locals) _ met in
      let more = and_parts _ (length high.stack == 0) parts.1 in
      let low : length high.stack ≡ 0 = (Decides-eqb (length high.stack) 0).0 more.1 in
      let below : AreBelow place.program (begun place) high =
      record { operands = stack_below place.program [] high.stack (sym low) (λ j. empty_at place.program high.stack j low); locals = locals_below place.program _ high.locals more.0 } in
      record {
        fits = record { high = high; there = is; below = subst (λ (q : Program). AreBelow q (begun place) high) p.0 below };
        within = leb-true (length (entry_locals place)) place.method.max_locals parts.0;
      }

  pub entered : (limit : ℕ) (above : Frames) (place : InsnPlace) → IsMetBy scope limit above → place_of scope 0 ≡ Some place → IsEntered above place
  entered limit above place m there = entered_from above place there (frame_of above 0) refl (row_of scope above 0 place (m.met 0 m.some) there)

  -- before anything is found
  abbrev pub nothing : State
  nothing = record { frames = replicate (length scope.method.insns) None; marks = replicate (length scope.method.insns) false }

  none_found : (above : Frames) → AreFound scope above nothing
  none_found above = record {
    frames = length-replicate (length scope.method.insns) None;
    marks = length-replicate (length scope.method.insns) false;
    found = λ at low e.
        let none = frame_of-replicate (length scope.method.insns) at in
        absurd cc;
  }

  pub nothing_holds : (limit : ℕ) (above : Frames) → place_of scope 0 ≡ None → Holds scope limit above nothing
  nothing_holds limit above none = record {
    found = none_found above;
    begun = λ place e. absurd cc;
    done = λ at h. record {
      goes = λ place there to c e other frame is at_frame.
          let no = frame_of-replicate (length scope.method.insns) at in
          absurd cc;
      throws = λ handler c covered e other frame is at_frame.
          let no = frame_of-replicate (length scope.method.insns) at in
          absurd cc;
    };
  }

  pub begun_holds : (limit : ℕ) (above : Frames) (place : InsnPlace) (told : Option FrameType) → place_of scope 0 ≡ Some place → IsEntered above place → IsRaisedBy place None (begun place) told
      → Holds scope limit above (put nothing 0 told)
  begun_holds limit above place told there entry raised =
      let found = none_found above in
      let none = frame_of-replicate (length scope.method.insns) 0 in
      let r : IsRaisedBy place (frame_of nothing.frames 0) (begun place) told = subst (λ (o : Option FrameType). IsRaisedBy place o (begun place) told) (sym none) raised in
      let come = has_come scope laws above nothing found 0 place there (begun place) entry.fits told r in
      let within : 0 < length nothing.marks = omega (arith, is_place scope laws 0 place there, found.marks) in
      let absent = λ (at : ℕ) (frame : FrameType) (e : is_marked (put nothing 0 told).marks at ≡ false) (is : frame_of (put nothing 0 told).frames at ≡ Some frame).
      some_none frame (sym (frame_of-replicate (length scope.method.insns) at) ∙ sym (put_unmarked nothing 0 told within at e).1 ∙ is) in
      record {
        found = put_found scope laws above nothing found 0 place there (begun place) entry.fits told r;
        begun = λ other is. subst (λ (p : InsnPlace). HasCome scope.program (put nothing 0 told).frames 0 (begun p)) (some_one place other (sym there ∙ is)) come;
        done = λ at h. record {
          goes = λ other at_place to c e q frame is at_frame. absurd (absent at frame e at_frame);
          throws = λ handler c covered e q frame is at_frame. absurd (absent at frame e at_frame);
        };
      }

  -- ---- an instruction that is looked at

  same_done : (old : State) (at other : ℕ) → (other ≡ at → ⊥) → IsDone scope old other → IsDone scope (unmarked old at) other
  same_done old at other differs d = record {
    goes = λ place there to c e. d.goes place there to c (sym (is_marked-set_other old.marks at other false differs) ∙ e);
    throws = λ handler c covered e. d.throws handler c covered (sym (is_marked-set_other old.marks at other false differs) ∙ e);
  }

  pub unmarked_found : (above : Frames) (old : State) (at : ℕ) → AreFound scope above old → AreFound scope above (unmarked old at)
  unmarked_found above old at f = record { frames = f.frames; marks = length-set old.marks at false ∙ f.marks; found = f.found }

  pub step_holds : (limit : ℕ) (above : Frames) (old new : State) (at : ℕ) → Holds scope limit above old → Grows scope.program (unmarked old at) new
      → (AreFound scope above (unmarked old at) → AreFound scope above new) → (AreFound scope above (unmarked old at) → IsDone scope new at) → Holds scope limit above new
  step_holds limit above old new at h g f d =
      let found = unmarked_found above old at h.found in
      record {
        found = f found;
        begun = λ place e. come_grows scope.program laws.itself laws.over laws.transitive (unmarked old at) new g 0 (begun place) (h.begun place e);
        done = λ k within.
            elim (equal_or k at) [
              | inl same ↦ subst (IsDone scope new) (sym same) (d found)
              | inr other ↦ done_grows scope laws (unmarked old at) new g k (same_done old at k other (h.done k within))
            ];
      }
