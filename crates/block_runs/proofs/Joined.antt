-- What a machine is once one thread has changed, and when two such machines mirror each other.
use Rattle.std.proofs.Common.{◌≡◌, ◌∙◌, ℕ, true, List, ◌∷◌, ◌++◌, length, map, take, Option, Some, None, refl, sym, ap, subst, append-nil}
use Rattle.std.specs.Prelude.{filter, if◌then◌else◌, is_some, option_map, option_and_then, slice_get, slice_set}
use Rattle.std.specs.Option.{option_map_or, option_to_list}
use Rattle.api_listing.specs.declared.events.Event.{Event}
use Rattle.insn_codec.specs.declared.insn.Insn.{Insn}
use Rattle.insn_codec.specs.declared.shape.Heap.{Heap}
use Rattle.insn_codec.specs.declared.shape.Heap.TheVariants as heap
use Rattle.insn_codec.specs.declared.shape.How.{How}
use Rattle.insn_codec.specs.Shapes.{shape_of}
use Rattle.bytecode_model.specs.declared.program.Program.{Program}
use Rattle.bytecode_model.specs.declared.program.Target.TheVariants as target
use Rattle.bytecode_model.specs.SearchOrder.{Name}
use Rattle.cert_format.specs.declared.certificate.Mode.{Mode}
use Rattle.conspec_automaton.specs.declared.policy.Policy.{Policy}
use Rattle.conspec_automaton.specs.Next.{Values}
use Rattle.conspec_automaton.specs.Range.{in_range}
use Rattle.guest_heap.specs.declared.frame.Frame.{Frame}
use Rattle.guest_heap.specs.declared.thread.Thread.{Thread}
use Rattle.guest_heap.specs.declared.value.Value.TheVariants as values
use Rattle.guest_frames.specs.Stepping.{frame_stepped}
use Rattle.guest_model.specs.declared.machine.Machine.{Machine}
use Rattle.guest_model.specs.declared.machine.Step.{Step}
use Rattle.guest_model.specs.Calling.{Calling, calls, calls_library, calls_named, desc_named, is_static_call}
use Rattle.guest_model.specs.Calls.{Taken, arity, taken}
use Rattle.guest_model.specs.Changes.{Change, applied, world_of}
use Rattle.guest_model.specs.Places.{insn_at}
use Rattle.guest_model.specs.Stepping.{Acting, acts_on, changed, doing_stepped, frames_stepped, heap_in, heap_stepped, insn_stepped, stepped}
use Rattle.guest_model.proofs.Options.{and_then_of, some_is}
use Rattle.guest_erasing.specs.Erasing.{is_clients}
use Rattle.guest_erasing.specs.Mirrors.{AreAlike, Mirrors, ThreadMirrors}
use Rattle.guest_erasing.proofs.Steps.{set_alike}
use Rattle.block_runs.specs.Joining.{LockIs, MirrorsIn, callers, sites, state_of}
use Rattle.block_runs.specs.Steps.{locks_in}

-- ---- a step of one thread

module _ (program : Program) (machine : Machine) where
  pub not_stopped : (step : Step) (made : Machine × Option Event) → stepped program machine step ≡ Some made → machine.stopped ≡ None
  not_stopped step made is = by machine.stopped refl
    where
      by : (o : Option _) → machine.stopped ≡ o → machine.stopped ≡ None
      by None e = e
      by (Some n) e =
          let none : stepped program machine step ≡ None =
          ap (λ (o : Option _). option_map (λ (change : Change). (applied step.thread machine change, change.event))
          (if is_some o then None else option_and_then
          (λ (thread : Thread). doing_stepped program machine step.thread thread thread.doing step.choice)
          (slice_get machine.threads step.thread))) e in
          absurd cc

  pub changed_is : (step : Step) (thread : Thread) → machine.stopped ≡ None → slice_get machine.threads step.thread ≡ Some thread
      → changed program machine step ≡ doing_stepped program machine step.thread thread thread.doing step.choice
  changed_is step thread on there =
      ap (λ (o : Option _). if is_some o then None
      else option_and_then (λ (t : Thread). doing_stepped program machine step.thread t t.doing step.choice)
      (slice_get machine.threads step.thread)) on
      ∙ ap (option_and_then (λ (t : Thread). doing_stepped program machine step.thread t t.doing step.choice)) there

  pub stepped_is : (step : Step) (change : Change) → changed program machine step ≡ Some change
      → stepped program machine step ≡ Some (applied step.thread machine change, change.event)
  stepped_is step change e = ap (option_map (λ (c : Change). (applied step.thread machine c, c.event))) e

  -- ---- a call of a method of the library

  module _ (number : ℕ) (thread : Thread) (frame : Frame) (below : List Frame) (insn : Insn) (how : How) (listed : ℕ)
      (at : insn_at program frame ≡ Some (insn, target.ApiMethod listed)) (calls_it : heap_in (shape_of insn) ≡ Some (heap.Call how)) where
    abbrev acting : Acting
    acting = record { number = number; thread = thread; frame = frame; below = below }

    abbrev pub passing : Taken → Calling
    passing passed = record { number = number; thread = thread; frame = frame; below = below; passed = passed }

    pub record IsCall (change : Change) : Type 0 where
      pub desc : Name
      pub named : desc_named program (target.ApiMethod listed) ≡ Some desc
      pub passed : Taken
      pub takes : taken (is_static_call how) (arity desc) frame.stack.items ≡ Some passed
      pub is : calls_library program (world_of machine) (passing passed) listed ≡ change

    calls_are : frames_stepped program machine number thread (frame ∷ below) ≡ calls program machine number thread frame below how
        (target.ApiMethod listed)
    calls_are =
        ap (option_and_then (insn_stepped program machine acting)) at
        ∙ ap (λ (o : Option Heap). option_map_or (λ what. heap_stepped program machine acting what (target.ApiMethod listed)) o
        (acts_on (world_of machine) acting (frame_stepped insn frame))) calls_it

    pub call_made : (change : Change) → frames_stepped program machine number thread (frame ∷ below) ≡ Some change → IsCall change
    call_made change e =
        let d = and_then_of
        (λ (desc : Name). option_and_then (λ (passed : Taken). calls_named program machine (passing passed) how (target.ApiMethod listed))
        (taken (is_static_call how) (arity desc) frame.stack.items)) (desc_named program (target.ApiMethod listed)) change
        (sym calls_are ∙ e) in
        let p = and_then_of (λ (passed : Taken). calls_named program machine (passing passed) how (target.ApiMethod listed))
        (taken (is_static_call how) (arity d.0) frame.stack.items) change d.2 in
        record { desc = d.0; named = d.1; passed = p.0; takes = p.1; is = some_is _ change p.2 }

    pub call_steps : (desc : Name) (passed : Taken) → desc_named program (target.ApiMethod listed) ≡ Some desc
        → taken (is_static_call how) (arity desc) frame.stack.items ≡ Some passed
        → frames_stepped program machine number thread (frame ∷ below) ≡ Some
        (calls_library program (world_of machine) (passing passed) listed)
    call_steps desc passed named takes =
        calls_are
        ∙ ap (option_and_then
        (λ (d : Name). option_and_then (λ (p : Taken). calls_named program machine (passing p) how (target.ApiMethod listed))
        (taken (is_static_call how) (arity d) frame.stack.items))) named
        ∙ ap (option_and_then (λ (p : Taken). calls_named program machine (passing p) how (target.ApiMethod listed))) takes

-- ---- machines that mirror each other

module _ (policy : Policy) (mode : Mode) (client woven : Program) (machine other : Machine)
    (m : Mirrors (sites policy mode) client woven machine other)
    (number : ℕ) where
  -- What the client's thread changes, and the machine to which the woven one comes.
  pub record Joins (new : Values) (change : Change) (end : Machine) : Type 0 where
    pub its : Thread
    pub begins : change.begins ≡ None
    pub heap : end.heap ≡ change.world.heap
    pub statics : take (length client.classes) end.statics ≡ change.world.statics
    pub classes : length change.world.statics ≡ length client.classes
    pub monitors : filter (is_clients client) end.monitors ≡ change.world.monitors
    pub threads : end.threads ≡ slice_set other.threads number its
    pub thread : ThreadMirrors (sites policy mode) client woven change.thread its
    pub stopped : end.stopped ≡ change.stops
    pub fields : slice_get end.statics (state_of client).class ≡ Some (map values.Int new)
    pub ranged : in_range policy new ≡ true
    pub lock : LockIs (state_of client).number mode (callers policy 0 (slice_set machine.threads number change.thread))
        (locks_in (state_of client).number end.monitors)

  abbrev Alike : List Thread → List Thread → Type 0
  Alike = AreAlike (ThreadMirrors (sites policy mode) client woven)

  pub joined : (new : Values) (change : Change) (end : Machine) → Joins new change end
      → MirrorsIn policy mode client woven new (applied number machine change) end
  joined new change end j =
      let all : slice_set machine.threads number change.thread
      ++ option_to_list change.begins ≡ slice_set machine.threads number change.thread =
      ap (λ (o : Option Thread). slice_set machine.threads number change.thread ++ option_to_list o) j.begins
      ∙ append-nil (slice_set machine.threads number change.thread) in
      let set : Alike (slice_set machine.threads number change.thread) (slice_set other.threads number j.its) =
      set_alike (ThreadMirrors
      (sites policy mode) client woven) machine.threads other.threads number change.thread j.its m.threads j.thread in
      record {
        mirrors = record {
          heap = j.heap;
          statics = j.statics;
          classes = j.classes;
          monitors = j.monitors;
          threads = subst (λ (ts : List Thread). Alike ts end.threads) (sym all)
              (subst (λ (ts : List Thread). Alike (slice_set machine.threads number change.thread) ts) (sym j.threads) set);
          stopped = j.stopped;
        };
        fields = j.fields;
        ranged = j.ranged;
        lock = subst (λ (ts : List Thread). LockIs (state_of client).number mode (callers policy 0 ts)
            (locks_in (state_of client).number end.monitors)) (sym all) j.lock;
      }
