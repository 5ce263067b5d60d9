-- In the machine a block reaches its call, its end, and where it throws on.
use Rattle.std.proofs.Common.{
  ◌≡◌,
  ◌≢◌,
  ℕ,
  ◌+◌,
  ◌<◌,
  ◌≤◌,
  Bool,
  false,
  List,
  ◌∷◌,
  length,
  Option,
  Some,
  None,
  refl,
  sym,
  ap,
  ◌∙◌,
  subst,
  inl,
  inr,
}
use Rattle.std.specs.Prelude.{◌⊎◌, if◌then◌else◌, is_some, option_map, option_and_then, slice_get}
use Rattle.std.proofs.lemmas.Option.{slice_get_within}
use Rattle.bytecode_model.specs.declared.program.Method.{Method}
use Rattle.conspec_automaton.specs.Next.{Values}
use Rattle.offset_patch.specs.declared.block.BlockInsn.{BlockInsn}
use Rattle.offset_patch.specs.Splicing.{call_place}
use Rattle.guest_heap.specs.declared.frame.Frame.{Frame}
use Rattle.guest_heap.specs.declared.thread.Thread.{Thread}
use Rattle.guest_heap.specs.declared.value.Value.{Value}
use Rattle.guest_frames.specs.Stepping.{moved_to}
use Rattle.guest_model.specs.declared.machine.Machine.{Machine}
use Rattle.guest_model.specs.Changes.{throws, world_of}
use Rattle.guest_model.specs.Kinds.{class_of_value}
use Rattle.guest_model.specs.Parts.{running}
use Rattle.guest_model.specs.Places.{insn_at, insn_in}
use Rattle.guest_model.specs.Stepping.{Acting, changed, doing_stepped, insn_stepped}
use Rattle.block_template.specs.Blocks.{is_locked}
use Rattle.block_runs.specs.Made.{EndsAfter, EndsWith, HasCome, IsIn, IsMade, LeadsTo, acting, ended_by, plain_step}
use Rattle.block_runs.specs.Reaching.{CallsAreReached, EndsAreReached, InBlock, IsInBlock, Reaches, ReachesThrow, ThrowsAreReached}
use Rattle.block_runs.specs.Running.{Called, End, Left, Lost, Thrown, run_from}
use Rattle.block_runs.specs.Spots.{Calls, Goes, Spot, Stops, Stuck, Throws, Went, block_insn_stepped}
use Rattle.block_runs.specs.Steps.{placed_insn}
use Rattle.block_runs.specs.Transparent.{IsAfter}
use Rattle.block_runs.proofs.Locals.{set_there}
use Rattle.block_runs.proofs.Made.{runs_are_made}
use Rattle.block_runs.proofs.Throwing.{throws_are_made}
use Rattle.block_runs.proofs.Whole.{reach_calls, return_well, throw_on}

-- ---- how a run ended

called_last : (at place : ℕ) (after spot : Spot) (went : Went) → Called at after ≡ ended_by place spot went → (place ≡ at) × (spot
    ≡ after)
called_last at place after spot Calls e = (cc, cc)
called_last at place after spot (Goes to s) e = absurd cc
called_last at place after spot (Throws v) e = absurd cc
called_last at place after spot (Stops status) e = absurd cc
called_last at place after spot Stuck e = absurd cc

left_never : (place : ℕ) (after spot : Spot) (went : Went) → Left after ≡ ended_by place spot went → ⊥
left_never place after spot Calls e = cc
left_never place after spot (Goes to s) e = cc
left_never place after spot (Throws v) e = cc
left_never place after spot (Stops status) e = cc
left_never place after spot Stuck e = cc

thrown_last : (place : ℕ) (v : Value) (after spot : Spot) (went : Went) → Thrown v after ≡ ended_by place spot went → (went
    ≡ Throws v) × (spot ≡ after)
thrown_last place v after spot (Throws w) e =
    let same : w ≡ v = cc in
    (ap Throws same, cc)
thrown_last place v after spot Calls e = absurd cc
thrown_last place v after spot (Goes to s) e = absurd cc
thrown_last place v after spot (Stops status) e = absurd cc
thrown_last place v after spot Stuck e = absurd cc

module _ (b : InBlock) (from : ℕ) (spot : Spot) (is : IsInBlock b from spot) where
  abbrev run : End
  run = run_from b.state.number b.made.insns from spot

  abbrev Makes : End → Type 0
  Makes end = IsMade b.program b.state b.made.insns b.begin from b.number b.frame b.below b.to_begin b.machine end

  made_of : (end : End) → run ≡ end → end ≢ Lost → Makes end
  made_of end e found =
      subst Makes e (runs_are_made b.program b.state is.known b.made.insns b.begin from b.number b.frame b.below b.to_begin b.machine
      spot is.code is.stands
      (λ lost. found (sym e ∙ lost)))

  -- the frame that has come to a place stands there
  has_come : (place : ℕ) (end : Machine) (after : Spot) → HasCome b.state b.begin place b.number b.frame b.below b.to_begin b.machine
      end after
      → IsIn b.state b.begin place b.number (moved_to b.frame
      (b.begin + place) after.locals after.stack.items) b.below b.to_begin end after
  has_come place end after come =
      let own : Thread = running (moved_to b.frame (b.begin + place) after.locals after.stack.items ∷ b.below) b.to_begin in
      let within : b.number < length b.machine.threads = slice_get_within b.machine.threads b.number (running
      (b.frame ∷ b.below) b.to_begin) is.stands.thread in
      let inside : b.state.class < length b.machine.statics = slice_get_within b.machine.statics b.state.class spot.fields
      is.stands.stands.fields in
      record {
        thread = ap (λ (ts : List Thread). slice_get ts b.number) come.threads ∙ set_there b.machine.threads b.number own within;
        goes_on = come.goes_on;
        stands = record {
          place = refl;
          stack = ap (λ (size : ℕ). record { items = after.stack.items; size = size }) (sym come.size);
          locals = refl;
          fields = ap (λ (st : List (List Value)). slice_get st b.state.class) come.statics
              ∙ set_there b.machine.statics b.state.class after.fields inside;
          lock = come.lock;
        };
      }

  -- the step at an instruction that throws
  throws_there : (place : ℕ) (end : Machine) (after : Spot) (v : Value) (insn : BlockInsn) → slice_get b.made.insns place ≡ Some insn
      → block_insn_stepped b.state.number (place + 1) after insn ≡ Throws v
      → HasCome b.state b.begin place b.number b.frame b.below b.to_begin b.machine end after
      → changed b.program end (plain_step b.number)
      ≡ option_map
      (λ (class : List ℕ). throws b.program (world_of end) b.number (running (moved_to b.frame
      (b.begin + place) after.locals after.stack.items ∷ b.below) b.to_begin)
      (moved_to b.frame (b.begin + place) after.locals after.stack.items ∷ b.below) v class None)
      (class_of_value end.heap v)
  throws_there place end after v insn there e come =
      let in_it = has_come place end after come in
      let code = is.code in
      let frame : Frame = moved_to b.frame (b.begin + place) after.locals after.stack.items in
      let a : Acting = acting b.number frame b.below b.to_begin in
      let coded : insn_at b.program frame ≡ Some (placed_insn code.pool code.fronts b.begin code.own b.state code.ref insn) =
      ap (option_and_then (λ (m : Method). insn_in m frame.at)) code.there ∙ code.each place insn there in
      ap (λ (o : Option _). if is_some o then None
      else option_and_then (λ (t : Thread). doing_stepped b.program end b.number t t.doing (plain_step b.number).choice)
      (slice_get end.threads b.number)) in_it.goes_on
      ∙ ap (option_and_then (λ (t : Thread). doing_stepped b.program end b.number t t.doing (plain_step b.number).choice)) in_it.thread
      ∙ ap (option_and_then (insn_stepped b.program end a)) coded
      ∙ throws_are_made b.program b.state code.pool code.fronts b.begin place code.own code.ref insn end a after in_it.stands v e

  -- ---- where a run ended

  abbrev reaches : (end : End) (m : Makes end) (place : ℕ) (after : Spot) (new : Values) (held : Bool) → m.place ≡ place → m.spot ≡ after
      → IsAfter b.base new held spot after → Reaches b from place spot new held
  reaches end m place after new held at_place at_spot so = record {
    after = m.spot;
    is = subst (IsAfter b.base new held spot) (sym at_spot) so;
    count = m.count;
    few = subst (λ (p : ℕ). from + m.count ≤ p) at_place m.few;
    end = m.after;
    steps = subst (λ (p : ℕ). LeadsTo b.program b.number b.frame.class b.frame.method (b.begin + from)
        (b.begin + p) m.count b.machine m.after) at_place m.steps;
    come = subst (λ (p : ℕ). HasCome b.state b.begin p b.number b.frame b.below b.to_begin b.machine m.after m.spot) at_place m.come;
  }

  at_call : (at : ℕ) (after : Spot) (m : Makes (Called at after)) → (m.place ≡ at) × (m.spot ≡ after)
  at_call at after m = by m.last
    where
      by : EndsWith b.state b.made.insns m.place m.spot (Called at after) ⊎ EndsAfter b.made.insns m.place m.spot (Called at after)
          → (m.place ≡ at) × (m.spot ≡ after)
      by (inl l) = called_last at m.place after m.spot (block_insn_stepped b.state.number (m.place + 1) m.spot l.insn) l.is
      by (inr l) =
          let e : Called at after ≡ Left m.spot = l.is in
          absurd cc

  at_end : (after : Spot) (m : Makes (Left after)) → (m.place ≡ length b.made.insns) × (m.spot ≡ after)
  at_end after m = by m.last
    where
      by : EndsWith b.state b.made.insns m.place m.spot (Left after) ⊎ EndsAfter b.made.insns m.place m.spot (Left after)
          → (m.place ≡ length b.made.insns) × (m.spot ≡ after)
      by (inl l) = absurd (left_never m.place after m.spot (block_insn_stepped b.state.number (m.place + 1) m.spot l.insn) l.is)
      by (inr l) =
          let e : Left after ≡ Left m.spot = l.is in
          (l.past, cc)

  at_throw : (v : Value) (after : Spot) (new : Values) (m : Makes (Thrown v after)) → IsAfter b.base new false spot after
      → ReachesThrow b from spot new v
  at_throw v after new m so = by m.last
    where
      by : EndsWith b.state b.made.insns m.place m.spot (Thrown v after) ⊎ EndsAfter b.made.insns m.place m.spot (Thrown v after)
          → ReachesThrow b from spot new v
      by (inl l) =
          let is_throw = thrown_last m.place v after m.spot (block_insn_stepped b.state.number (m.place + 1) m.spot l.insn) l.is in
          record {
            place = m.place;
            reaches = record {
              after = m.spot;
              is = subst (IsAfter b.base new false spot) (sym is_throw.1) so;
              count = m.count;
              few = m.few;
              end = m.after;
              steps = m.steps;
              come = m.come;
            };
            insn = l.insn;
            there = l.there;
            thrown = is_throw.0;
            throws_on = throws_there m.place m.after m.spot v l.insn l.there is_throw.0 m.come;
          }
      by (inr l) =
          let e : Thrown v after ≡ Left m.spot = l.is in
          absurd cc

-- ---- the laws

pub calls_are_reached : CallsAreReached
calls_are_reached b spot is event now new of holds passed accepts =
    let at : ℕ = call_place b.made.insns in
    let j = (reach_calls b.policy b.mode b.method b.base b.state.number b.made is.sound is.is_block event now of spot holds
    passed).accepts new accepts in
    let m = made_of b 0 spot is (Called at j.0) j.1 (λ e. cc) in
    let there = at_call b 0 spot is at j.0 m in
    reaches b 0 spot is (Called at j.0) m at j.0 new (is_locked b.mode) there.0 there.1 j.2

pub ends_are_reached : EndsAreReached
ends_are_reached b spot is event now new of holds given accepts =
    let from : ℕ = call_place b.made.insns + 1 in
    let j = (return_well b.policy b.mode b.method b.base b.state.number b.made is.sound is.is_block event now of spot holds
    given).accepts new accepts in
    let m = made_of b from spot is (Left j.0) j.1 (λ e. cc) in
    let there = at_end b from spot is j.0 m in
    reaches b from spot is (Left j.0) m (length b.made.insns) j.0 new false there.0 there.1 j.2

pub throws_are_reached : ThrowsAreReached
throws_are_reached b from spot is has event now new of v holds caught there accepts =
    let j = (throw_on b.policy b.mode b.method b.base b.state.number from b.made is.sound is.is_block has event now of spot v holds
    caught there).accepts new accepts in
    at_throw b from spot is v j.0 new (made_of b from spot is (Thrown v j.0) j.1 (λ e. cc)) j.2
