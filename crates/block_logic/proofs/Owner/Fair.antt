-- What is known of the part of a thread in a block: it is of events that a program can make, and of methods round whose calls the lock is
-- not held where the thread does not hold it.
use Rattle.std.proofs.Common.{◌≡◌, ℕ, zero, suc, Bool, true, false, List, [], ◌∷◌, Option, Some, None, refl, sym, ap, subst, ◌∙◌}
use Rattle.api_listing.specs.declared.events.Event.{Event}
use Rattle.bytecode_model.specs.declared.program.Program.{Program}
use Rattle.cert_format.specs.declared.note.Note.{Note}
use Rattle.cert_format.specs.declared.note.Note.TheVariants as notes
use Rattle.cert_format.specs.declared.note.Phase8.{Phase8}
use Rattle.cert_format.specs.declared.note.Phase8.TheVariants.{Before, After, Exceptional}
use Rattle.cert_format.specs.declared.note.Site.{Site}
use Rattle.conspec_automaton.specs.declared.policy.Clause.{Clause}
use Rattle.conspec_automaton.specs.declared.policy.Policy.{Policy}
use Rattle.conspec_automaton.specs.Next.{Values}
use Rattle.guest_heap.specs.declared.frame.Frame.{Frame}
use Rattle.guest_heap.specs.declared.thread.Doing.{Doing}
use Rattle.guest_heap.specs.declared.thread.Doing.TheVariants as doings
use Rattle.guest_heap.specs.declared.value.Value.{Value}
use Rattle.block_logic.specs.Agreement.{Clear, Granted, Owed, Part}
use Rattle.block_logic.specs.Annotations.{Annotations, holds_round}
use Rattle.block_logic.specs.Clauses.{clause_at, clause_of}
use Rattle.block_logic.specs.Fitting.{AreBlockCall, AreBlockFrames, IsBlockDoing}
use Rattle.block_logic.specs.Meaning.{IsDue, IsEventOf, IsGranted, IsOwed, IsRefused, Means}
use Rattle.block_logic.specs.Weakening.{in_phase, is_before}
use Rattle.block_logic.proofs.Owner.Events.{is_call, is_end, is_of_site}
use Rattle.block_logic.proofs.Racing.{IsLoose, IsLooseEvent}
use Rattle.block_logic.proofs.Steps.{IsFair, IsFit}

module _ (program : Program) (policy : Policy) (annotations : Annotations) where
  abbrev Fair : Part → Type 0
  Fair = IsFair program policy annotations

  pub clear_fair : Fair Clear
  clear_fair = tt

  fair_if : (part : Part) → part ≡ Clear → Fair part
  fair_if part clear = subst Fair (sym clear) clear_fair

  -- a return of a site
  pub owed_fair : (site : Site) (e : Event) → is_before site.phase ≡ false → IsEventOf site e → IsFit program policy annotations e → Fair (Owed e)
  owed_fair site e following of fit = (fit, is_end site e of following)

  held_fair : (phase : Phase8) (site : Site) (e : Event) (part : Part) → site.phase ≡ phase → IsEventOf site e → IsFit program policy annotations e → IsDue phase e part → Fair part
  held_fair Before site e part is of fit due = fair_if part due
  held_fair After site e part is of fit due = subst Fair (sym due) (owed_fair site e (ap is_before is) of fit)
  held_fair Exceptional site e part is of fit due = subst Fair (sym due) (owed_fair site e (ap is_before is) of fit)

  granted_fair : (site : Site) (clause : Option Clause) (part : Part) (locals : List Value) → IsGranted program policy annotations.held site clause part locals → Fair part
  granted_fair site None part locals clear = fair_if part clear
  granted_fair site (Some clause) part locals c =
      subst Fair (sym c.is) (c.formed, is_call (in_phase Before site) c.event c.of refl)

  owes_fair : (mine : Bool) (site : Site) (stage : ℕ) (clause : Option Clause) (part : Part) (kept : Bool) (locals rest : List Value)
      → is_before site.phase ≡ false → IsOwed program policy annotations.held mine site stage clause part kept locals rest → Fair part
  owes_fair false site zero None part kept locals rest following owed = absurd owed
  owes_fair false site zero (Some clause) part kept locals rest following p = subst Fair (sym p.is) (owed_fair site p.event following p.of p.formed)
  owes_fair false site (suc n) clause part kept locals rest following owed = absurd owed
  owes_fair true site zero clause part kept locals rest following owed = absurd owed
  owes_fair true site (suc zero) None part kept locals rest following clear = fair_if part clear
  owes_fair true site (suc zero) (Some clause) part kept locals rest following p = subst Fair (sym p.is) (owed_fair site p.event following p.of p.formed)
  owes_fair true site (suc (suc zero)) clause part kept locals rest following clear = fair_if part clear
  owes_fair true site (suc (suc (suc n))) clause part kept locals rest following owed = absurd owed

  refused_fair : (part : Part) → IsRefused program policy annotations.held part → Fair part
  refused_fair Clear r = clear_fair
  refused_fair (Granted call) r = absurd r
  refused_fair (Owed end) r = (r.formed, r.ends)

  pub means_fair : (mine : Bool) (recorded : Values) (fields : List Value) (frame : Frame) (note : Note) (part : Part)
      → Means program policy annotations.held mine recorded fields frame note part → Fair part
  means_fair mine recorded fields frame notes.Free part m = absurd m
  means_fair mine recorded fields frame (notes.Taking site) part m = absurd m
  means_fair mine recorded fields frame (notes.Held site failed holding list map) part m = held_fair site.phase site m.1.event part refl m.1.of m.1.formed m.1.due
  means_fair mine recorded fields frame (notes.Granted site locked count top) part m = granted_fair site (clause_at policy site.method Before) part frame.locals m.granted
  means_fair mine recorded fields frame (notes.Owed site stage kept top) part m =
      owes_fair mine site stage (clause_of policy site) part kept frame.locals m.above.rest m.following m.owed
  means_fair mine recorded fields frame (notes.Stop site place) part m = refused_fair part m.1.refused

  -- ---- what is loose

  abbrev Loose : Part → Type 0
  Loose = IsLoose policy annotations.held (IsFit program policy annotations)

  -- an event of the site
  pub event_loose : (site : Site) (e : Event) → IsEventOf site e → holds_round annotations.held site.method ≡ false → IsLooseEvent policy annotations.held (IsFit program policy annotations) e
  event_loose site e of round = ap (holds_round annotations.held) (is_of_site site e of) ∙ round

  granted_loose : (site : Site) (clause : Option Clause) (part : Part) (locals : List Value) → holds_round annotations.held site.method ≡ false
      → IsGranted program policy annotations.held site clause part locals → Loose part
  granted_loose site None part locals round clear = subst Loose (sym clear) tt
  granted_loose site (Some clause) part locals round c = subst Loose (sym c.is) (event_loose (in_phase Before site) c.event c.of round)

  owes_loose : (site : Site) (stage : ℕ) (clause : Option Clause) (part : Part) (kept : Bool) (locals rest : List Value) → holds_round annotations.held site.method ≡ false
      → IsOwed program policy annotations.held false site stage clause part kept locals rest → Loose part
  owes_loose site zero None part kept locals rest round owed = absurd owed
  owes_loose site zero (Some clause) part kept locals rest round p = subst Loose (sym p.is) (event_loose site p.event p.of round)
  owes_loose site (suc n) clause part kept locals rest round owed = absurd owed

  pub means_loose : (recorded : Values) (fields : List Value) (frame : Frame) (note : Note) (part : Part)
      → Means program policy annotations.held false recorded fields frame note part → Loose part
  means_loose recorded fields frame notes.Free part m = absurd m
  means_loose recorded fields frame (notes.Taking site) part m = absurd m
  means_loose recorded fields frame (notes.Held site failed holding list map) part m = let no = m.0 in absurd cc
  means_loose recorded fields frame (notes.Granted site locked count top) part m = granted_loose site (clause_at policy site.method Before) part frame.locals m.round m.granted
  means_loose recorded fields frame (notes.Owed site stage kept top) part m = owes_loose site stage (clause_of policy site) part kept frame.locals m.above.rest m.round m.owed
  means_loose recorded fields frame (notes.Stop site place) part m = let no = m.0 in absurd cc

  -- ---- of threads

  frames_fair : (mine : Bool) (recorded : Values) (fields : List Value) (frames : List Frame) (part : Part) → AreBlockFrames program policy annotations mine recorded fields frames part → Fair part
  frames_fair mine recorded fields [] part b = absurd b
  frames_fair mine recorded fields (frame ∷ below) part b = means_fair mine recorded fields frame b.0.note part b.0.means

  call_clear : (mine : Bool) (recorded : Values) (fields : List Value) (method : ℕ) (frames : List Frame) (part : Part)
      → AreBlockCall program policy annotations mine recorded fields method frames part → part ≡ Clear
  call_clear mine recorded fields method [] part b = absurd b
  call_clear mine recorded fields method (frame ∷ below) part b = b.0.clear

  pub block_fair : (mine : Bool) (recorded : Values) (fields : List Value) (frames : List Frame) (doing : Doing) (part : Part)
      → IsBlockDoing program policy annotations mine recorded fields frames doing part → Fair part
  block_fair mine recorded fields frames doings.Running part b = frames_fair mine recorded fields frames part b
  block_fair mine recorded fields frames (doings.InCall method receiver arguments) part b = fair_if part (call_clear mine recorded fields method frames part b.1)
  block_fair mine recorded fields frames doings.Ended part b = absurd b

  frames_loose : (recorded : Values) (fields : List Value) (frames : List Frame) (part : Part) → AreBlockFrames program policy annotations false recorded fields frames part → Loose part
  frames_loose recorded fields [] part b = absurd b
  frames_loose recorded fields (frame ∷ below) part b = means_loose recorded fields frame b.0.note part b.0.means

  pub block_loose : (recorded : Values) (fields : List Value) (frames : List Frame) (doing : Doing) (part : Part)
      → IsBlockDoing program policy annotations false recorded fields frames doing part → Loose part
  block_loose recorded fields frames doings.Running part b = frames_loose recorded fields frames part b
  block_loose recorded fields frames (doings.InCall method receiver arguments) part b = subst Loose (sym (call_clear false recorded fields method frames part b.1)) tt
  block_loose recorded fields frames doings.Ended part b = absurd b

  -- ---- the variables are none of the concern of a thread that does not hold the lock

  module _ (recorded now : Values) (fields fields_now : List Value) where
    pub means_anywhere : (frame : Frame) (note : Note) (part : Part) → Means program policy annotations.held false recorded fields frame note part
        → Means program policy annotations.held false now fields_now frame note part
    means_anywhere frame notes.Free part m = absurd m
    means_anywhere frame (notes.Taking site) part m = absurd m
    means_anywhere frame (notes.Held site failed holding list map) part m = let no = m.0 in absurd cc
    means_anywhere frame (notes.Granted site locked count top) part m =
        record { holds = m.holds; round = m.round; granted = m.granted; variables = tt; few = m.few; loaded = m.loaded; are = m.are; above = m.above }
    means_anywhere frame (notes.Owed site stage kept top) part m = record { following = m.following; round = m.round; variables = tt; above = m.above; owed = m.owed }
    means_anywhere frame (notes.Stop site place) part m = let no = m.0 in absurd cc

    frames_anywhere : (frames : List Frame) (part : Part) → AreBlockFrames program policy annotations false recorded fields frames part → AreBlockFrames program policy annotations false now fields_now frames part
    frames_anywhere [] part b = absurd b
    frames_anywhere (frame ∷ below) part b =
        (record { well = b.0.well; note = b.0.note; told = b.0.told; means = means_anywhere frame b.0.note part b.0.means }, b.1)

    call_anywhere : (method : ℕ) (frames : List Frame) (part : Part) → AreBlockCall program policy annotations false recorded fields method frames part
        → AreBlockCall program policy annotations false now fields_now method frames part
    call_anywhere method [] part b = absurd b
    call_anywhere method (frame ∷ below) part b =
        (record { round = b.0.round; well = b.0.well; site = b.0.site; of = b.0.of; at_call = b.0.at_call; clear = b.0.clear; variables = tt }, b.1)

    pub block_anywhere : (frames : List Frame) (doing : Doing) (part : Part) → IsBlockDoing program policy annotations false recorded fields frames doing part
        → IsBlockDoing program policy annotations false now fields_now frames doing part
    block_anywhere frames doings.Running part b = frames_anywhere frames part b
    block_anywhere frames (doings.InCall method receiver arguments) part b = (b.0, call_anywhere method frames part b.1, b.2)
    block_anywhere frames doings.Ended part b = absurd b
