-- A step at an instruction without a block is lifted to itself, and the policy's state and the lock stay.
use Rattle.std.proofs.Common.{◌≡◌, ◌∙◌, ℕ, zero, suc, Bool, true, false, cond, List, [], ◌∷◌, length, drop, Option, Some, None, refl, sym, ap, subst}
use Rattle.std.specs.Prelude.{IfSome, is_some, option_map, slice_get, slice_set}
use Rattle.std.specs.Option.{option_map_or}
use Rattle.std.proofs.lemmas.Option.{slice_get-map}
use Rattle.api_listing.specs.declared.events.Event.{Event}
use Rattle.insn_codec.specs.declared.insn.Insn.{Insn}
use Rattle.bytecode_model.specs.declared.program.Method.{Method}
use Rattle.bytecode_model.specs.declared.program.Program.{Program}
use Rattle.bytecode_model.specs.declared.program.Target.{Target}
use Rattle.bytecode_model.specs.declared.program.Target.TheVariants as target
use Rattle.cert_format.specs.declared.certificate.Mode.{Mode}
use Rattle.conspec_automaton.specs.declared.policy.Policy.{Policy}
use Rattle.conspec_automaton.specs.Next.{Values, has_clauses, method_of, next}
use Rattle.offset_patch.specs.declared.block.Block.{Block}
use Rattle.block_template.specs.Blocks.{block_with, bools_of, clauses_of, site}
use Rattle.guest_heap.specs.declared.frame.Frame.{Frame}
use Rattle.guest_heap.specs.declared.object.Monitor.{Monitor}
use Rattle.guest_heap.specs.declared.thread.Doing.{Doing}
use Rattle.guest_heap.specs.declared.thread.Doing.TheVariants as doings
use Rattle.guest_heap.specs.declared.thread.Thread.{Thread}
use Rattle.guest_heap.specs.declared.value.Value.{Value}
use Rattle.guest_model.specs.declared.machine.Choice.{Choice}
use Rattle.guest_model.specs.declared.machine.Choice.TheVariants as choices
use Rattle.guest_model.specs.declared.machine.Machine.{Machine}
use Rattle.guest_model.specs.declared.machine.Step.{Step}
use Rattle.guest_model.specs.Changes.{Change, applied}
use Rattle.guest_model.specs.Places.{insn_at, insn_in, method_at}
use Rattle.guest_model.specs.Stepping.{changed, doing_stepped, stepped}
use Rattle.guest_model.proofs.Options.{all_get, and_then_of, if_either, if_none, if_then, is_there, map_of, some_is}
use Rattle.guest_erasing.specs.Places.{has_block}
use Rattle.guest_erasing.specs.Steps.{AreRoomy, IsAlone, KeepsState, is_alone}
use Rattle.guest_erasing.proofs.Resting.{client_lifts}
use Rattle.guest_erasing.proofs.Steps.{client_steps_alike, lone}
use Rattle.block_runs.specs.Joining.{Accepts, AllWait, IsAllowed, IsLifted, IsWovenBy, LockIs, MirrorsIn, StandsAtCall, callers, is_calling, sites, state_of}
use Rattle.block_runs.specs.Steps.{is_lock, locks_in}
use Rattle.block_runs.proofs.Callers.{callers_more, callers_set, next_same, twice_not}
use Rattle.block_runs.proofs.Quiet.{IsUnclaused, Still, StillIf, call_still, frames_still}

-- ---- lists

drop_get : {X : Type 0} (xs : List X) (n : ℕ) → slice_get xs n ≡ slice_get (drop n xs) 0
drop_get [] zero = refl
drop_get [] (suc n) = refl
drop_get (x ∷ xs) zero = refl
drop_get (x ∷ xs) (suc n) = drop_get xs n

-- ---- what conspec/State holds stays

module _ (client : Program) (before after : Machine) (keeps : KeepsState client before after) where
  pub fields_kept : slice_get after.statics (state_of client).class ≡ slice_get before.statics (state_of client).class
  fields_kept =
      drop_get after.statics (length client.classes) ∙ ap (λ (xs : List (List Value)). slice_get xs 0) keeps.fields
      ∙ sym (drop_get before.statics (length client.classes))

  pub locks_kept : locks_in (state_of client).number after.monitors ≡ locks_in (state_of client).number before.monitors
  locks_kept =
      sym (twice_not (is_lock (state_of client).number) after.monitors) ∙ keeps.monitor ∙ twice_not
      (is_lock (state_of client).number) before.monitors

-- ---- instructions without a block

-- an instruction's operand names what stands beside it
pub insn_ref : (method : Method) (at : ℕ) (next : Insn × Target) → insn_in method at ≡ Some next → slice_get method.refs at ≡ Some next.1
insn_ref method at next e =
    let i = and_then_of (λ (insn : Insn). option_map (λ (ref : Target). (insn, ref)) (slice_get method.refs at))
    (slice_get method.insns at) next e in
    let r = map_of (λ (ref : Target). (i.0, ref)) (slice_get method.refs at) next i.2 in
    r.1 ∙ ap (λ (n : Insn × Target). Some n.1) r.2

module _ (policy : Policy) (mode : Mode) where
  pub site_is : (old : Method) (i : ℕ) (ref : Target) → slice_get old.refs i ≡ Some ref
      → slice_get (sites policy mode old) i ≡ Some (site policy mode old.max_locals ref)
  site_is old i ref e = slice_get-map (site policy mode old.max_locals) old.refs i ∙ ap (option_map (site policy mode old.max_locals)) e

  site_free : (program : Program) (base : ℕ) (ref : Target) → is_some (site policy mode base ref) ≡ false → IsUnclaused program policy ref
  site_free program base (target.ApiMethod index) e = by (has_clauses policy index) refl e
    where
      by : (b : Bool) → has_clauses policy index ≡ b
          → is_some (cond b (Some (block_with mode (bools_of policy) base (clauses_of policy index))) None) ≡ false
          → has_clauses policy index ≡ false
      by true is e = absurd cc
      by false is e = is
  site_free program base target.None e = tt
  site_free program base (target.Builtin index) e = tt
  site_free program base (target.Method class method) e = tt
  site_free program base (target.Field class field) e = tt
  site_free program base (target.ApiField index) e = tt
  site_free program base (target.ClassName name) e = tt
  site_free program base (target.Number n) e = tt
  site_free program base (target.Literal index) e = tt

  -- What it names has no clauses.
  alone_free : (client woven : Program) (frame : Frame) (next : Insn × Target) → is_alone (sites policy mode) client frame ≡ true
      → insn_at client frame ≡ Some next
      → IsUnclaused client policy next.1
  alone_free client woven frame next alone at =
      let a = and_then_of (λ (method : Method). insn_in method frame.at) (method_at client frame.class frame.method) next at in
      let none : has_block (sites policy mode a.0) frame.at ≡ false = lone (sites policy mode) client woven frame a.0 a.1 alone in
      site_free client a.0.max_locals next.1
      (sym (ap (λ (o : Option (Option Block)). option_map_or is_some o false)
      (site_is a.0 frame.at next.1 (insn_ref a.0 frame.at next a.2))) ∙ none)

module _ (policy : Policy) (mode : Mode) (client woven : Program) (machine : Machine) (number : ℕ) (thread : Thread) (frame : Frame)
    (top : slice_get thread.frames 0 ≡ Some frame) (alone : is_alone (sites policy mode) client frame ≡ true) where
  call_free : (method : ℕ) (receiver : Option Value) (arguments : List Value) (frames : List Frame) → slice_get frames 0 ≡ Some frame
      → StandsAtCall client (doings.InCall method receiver arguments) frames → has_clauses policy method ≡ false
  call_free method receiver arguments [] e stands = absurd stands
  call_free method receiver arguments (first ∷ below) e stands =
      let same : first ≡ frame = cc in
      alone_free policy mode client woven first (stands.0, target.ApiMethod method)
      (ap (is_alone (sites policy mode) client) same ∙ alone) stands.1

  not_calling : (doing : Doing) → StandsAtCall client doing thread.frames → is_calling policy doing ≡ false
  not_calling doings.Running stands = refl
  not_calling (doings.InCall method receiver arguments) stands = call_free method receiver arguments thread.frames top stands
  not_calling doings.Ended stands = refl

  does_still : (doing : Doing) (choice : Choice) → StandsAtCall client doing thread.frames
      → StillIf client policy (doing_stepped client machine number thread doing choice)
  does_still doings.Running choices.Plain stands =
      frames_still client policy machine number thread thread.frames
      (λ f next is at. let same : f ≡ frame = cc in alone_free policy mode client woven f next
      (ap (is_alone (sites policy mode) client) same ∙ alone) at)
  does_still doings.Running (choices.Answer answer) stands = if_none (Still client policy)
  does_still (doings.InCall method receiver arguments) choice stands =
      call_still client policy machine number thread method
      (call_free method receiver arguments thread.frames top stands) receiver arguments choice
  does_still doings.Ended choice stands = if_none (Still client policy)

-- ---- the step

module _ (policy : Policy) (mode : Mode) (client woven : Program) (w : IsWovenBy policy mode client woven) (roomy : AreRoomy client)
    (now new : Values) (machine other : Machine) (step : Step) (made : Machine × Option Event)
    (m : MirrorsIn policy mode client woven now machine other)
    (is : stepped client machine step ≡ Some made) (allowed : IsAllowed policy mode client now machine step made new)
    (waits : AllWait client machine) (alone : IsAlone (sites policy mode) client machine step) where
  stands_at : (thread : Thread) → slice_get machine.threads step.thread ≡ Some thread → StandsAtCall client thread.doing thread.frames
  stands_at thread e = all_get (λ (t : Thread). StandsAtCall client t.doing t.frames) machine.threads step.thread thread waits e

  step_still : StillIf client policy (changed client machine step)
  step_still =
      if_either (Still client policy) (is_some machine.stopped) _ _ (if_none (Still client policy))
      (if_then (Still client policy) _ (slice_get machine.threads step.thread)
      (λ thread e.
      let same : alone.thread ≡ thread = some_is alone.thread thread (sym alone.there ∙ e) in
      does_still policy mode client woven machine step.thread thread alone.frame
      (ap (λ (t : Thread). slice_get t.frames 0) (sym same) ∙ alone.top) alone.alone
      thread.doing step.choice (stands_at thread e)))

  same_state : (event : Option Event) → IfSome event (λ (e : Event). has_clauses policy (method_of e) ≡ false)
      → Accepts policy now event new → new ≡ now
  same_state None free accepts = accepts
  same_state (Some event) free accepts = some_is new now (sym accepts ∙ next_same event policy now free)

  pub alone_lifted : IsLifted policy mode client woven other step made new
  alone_lifted =
      let alike = client_steps_alike
      (sites policy mode) client woven w.tell roomy machine other m.mirrors allowed.ours step made alone is in
      let its = map_of (λ (change : Change). (applied step.thread machine change, change.event)) (changed client machine step) made is in
      let still = is_there (Still client policy) (changed client machine step) its.0 step_still its.1 in
      let event_is : its.0.event ≡ made.1 = ap (λ (p : Machine × Option Event). p.1) its.2 in
      let machine_is : applied step.thread machine its.0 ≡ made.0 = ap (λ (p : Machine × Option Event). p.0) its.2 in
      let free : IfSome made.1 (λ (e : Event). has_clauses policy (method_of e) ≡ false) =
      subst (λ (o : Option Event). IfSome o (λ (e : Event). has_clauses policy (method_of e) ≡ false)) event_is still.event in
      let same : new ≡ now = same_state made.1 free allowed.accepts in
      let silent : is_calling policy alone.thread.doing ≡ false =
      not_calling policy mode client woven machine step.thread alone.thread alone.frame alone.top alone.alone alone.thread.doing
      (stands_at alone.thread alone.there) in
      let calls : callers policy 0 made.0.threads ≡ callers policy 0 machine.threads =
      ap (λ (n : Machine). callers policy 0 n.threads) (sym machine_is)
      ∙ callers_more policy 0 (slice_set machine.threads step.thread its.0.thread) its.0.begins still.begins
      ∙ callers_set policy 0 machine.threads step.thread alone.thread its.0.thread alone.there (still.thread ∙ sym silent) in
      let locks = locks_kept client other alike.after alike.keeps in
      record {
        after = alike.after;
        lifts = client_lifts (sites policy mode) client woven machine other m.mirrors step alone made alike;
        mirrors = subst (λ (state : Values). MirrorsIn policy mode client woven state made.0 alike.after) (sym same)
            (record {
              mirrors = alike.mirrors;
              fields = fields_kept client other alike.after alike.keeps ∙ m.fields;
              ranged = m.ranged;
              lock =
                  subst (λ (ns : List ℕ). LockIs (state_of client).number mode ns (locks_in (state_of client).number alike.after.monitors))
                  (sym calls)
                  (subst (λ (ls : List Monitor). LockIs (state_of client).number mode (callers policy 0 machine.threads) ls)
                  (sym locks) m.lock);
            });
      }
