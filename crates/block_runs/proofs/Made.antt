-- The machine makes the run of a block, step by step.
use Rattle.std.proofs.Common.{
  ◌≡◌,
  ◌≢◌,
  ℕ,
  zero,
  suc,
  ◌+◌,
  ◌-◌,
  ◌<◌,
  ◌≤◌,
  Bool,
  true,
  false,
  List,
  [],
  ◌∷◌,
  length,
  Option,
  Some,
  None,
  refl,
  sym,
  ap,
  ◌∙◌,
  subst,
  arith,
  inl,
  inr,
}
use Rattle.std.specs.Prelude.{◌⊎◌, if◌then◌else◌, is_some, nat_lt, option_map, option_and_then, slice_get, slice_set}
use Rattle.std.specs.List.{AllByRecursion}
use Rattle.std.proofs.lemmas.Bool.Decides.{nat_tests}
use Rattle.std.proofs.lemmas.List.{append-nil}
use Rattle.std.proofs.lemmas.Option.{slice_get_within}
use Rattle.bytecode_model.specs.declared.program.Method.{Method}
use Rattle.bytecode_model.specs.declared.program.Program.{Program}
use Rattle.offset_patch.specs.declared.block.BlockInsn.{BlockInsn}
use Rattle.offset_patch.specs.Entries.{state_name}
use Rattle.offset_patch.specs.Fits.{IsBlockInsn}
use Rattle.guest_heap.specs.Stack.{Operands}
use Rattle.guest_heap.specs.declared.frame.Frame.{Frame}
use Rattle.guest_heap.specs.declared.thread.Thread.{Thread}
use Rattle.guest_heap.specs.declared.value.Value.{Value}
use Rattle.guest_frames.specs.Stepping.{moved_to}
use Rattle.guest_model.specs.declared.machine.Machine.{Machine}
use Rattle.guest_model.specs.Changes.{Change, applied, goes}
use Rattle.guest_model.specs.Parts.{running}
use Rattle.guest_model.specs.Places.{class_index, insn_at, insn_in}
use Rattle.guest_model.specs.Stepping.{Acting, changed, doing_stepped, insn_stepped, stepped}
use Rattle.block_runs.specs.Made.{EndsAfter, EndsWith, HasCome, IsCodeOf, IsIn, LeadsTo, RunsAreMade, acting, ended_by, plain_step}
use Rattle.block_runs.specs.Running.{End, Left, Lost, block_run, gone}
use Rattle.block_runs.specs.Spots.{Calls, Goes, Spot, Stops, Stuck, Throws, Went, block_insn_stepped}
use Rattle.block_runs.specs.Steps.{StateIndex, placed_insn}
use Rattle.block_runs.proofs.Locals.{set_there}
use Rattle.block_runs.proofs.Making.{moves_are_made, set_same}

pub set_twice : {X : Type 0} (xs : List X) (n : ℕ) (x y : X) → slice_set (slice_set xs n x) n y ≡ slice_set xs n y
set_twice [] n x y = refl
set_twice (z ∷ xs) zero x y = refl
set_twice (z ∷ xs) (suc n) x y = ap (λ (zs : List _). z ∷ zs) (set_twice xs n x y)

item_is : {X : Type 0} (P : X → Type 0) (xs : List X) (k : ℕ) (x : X) → AllByRecursion P xs → slice_get xs k ≡ Some x → P x
item_is P [] k x all there = absurd cc
item_is P (y ∷ xs) zero x all there =
    let same : y ≡ x = cc in
    subst P same all.0
item_is P (y ∷ xs) (suc k) x all there = item_is P xs k x all.1 there

-- ---- one step

module _ (program : Program) (state : StateIndex) (known : class_index program state_name
    ≡ Some state.number) (insns : List BlockInsn) (begin number : ℕ)
    (below : List Frame) (to_begin : List (ℕ × ℕ)) where
  abbrev In : ℕ → Frame → Machine → Spot → Type 0
  In at frame machine spot = IsIn state begin at number frame below to_begin machine spot

  abbrev Code : Frame → Type 0
  Code frame = IsCodeOf program state frame.class frame.method begin insns

  abbrev moved : Frame → ℕ → Spot → Frame
  moved frame place spot = moved_to frame (begin + place) spot.locals spot.stack.items

  -- What the step leads to, where an instruction goes on.
  record Steps (frame : Frame) (place : ℕ) (machine : Machine) (spot : Spot) : Type 0 where
    next : Machine
    is : stepped program machine (plain_step number) ≡ Some (next, None)
    come : HasCome state begin place number frame below to_begin machine next spot
    stands : In place (moved frame place spot) next spot

  step_made : (at : ℕ) (frame : Frame) (machine : Machine) (spot : Spot) (insn : BlockInsn) → Code frame → In at frame machine spot
      → slice_get insns at ≡ Some insn
      → (place : ℕ) (after : Spot) → block_insn_stepped state.number (at + 1) spot insn ≡ Goes place after
      → Steps frame place machine after
  step_made at frame machine spot insn code is there place after e =
      let a : Acting = acting number frame below to_begin in
      let c = moves_are_made program state known code.pool code.fronts begin at code.own code.ref insn
      (item_is IsBlockInsn insns at insn code.are there) machine a spot is.stands place after e in
      let change : Change = goes c.world a.thread (moved frame place after ∷ below) in
      let next : Machine = applied number machine change in
      let stood : frame.at ≡ begin + at = is.stands.place in
      let coded : insn_at program frame ≡ Some (placed_insn code.pool code.fronts begin code.own state code.ref insn) =
      ap (option_and_then (λ (m : Method). insn_in m frame.at)) code.there ∙ ap (insn_in code.code) stood ∙ code.each at insn there in
      let made : changed program machine (plain_step number) ≡ Some change =
      ap (λ (o : Option _). if is_some o then None else option_and_then (λ
      (t : Thread). doing_stepped program machine number t t.doing (plain_step number).choice)
      (slice_get machine.threads number)) is.goes_on
      ∙ ap (option_and_then (λ (t : Thread). doing_stepped program machine number t t.doing (plain_step number).choice)) is.thread
      ∙ ap (option_and_then (insn_stepped program machine a)) coded ∙ c.is in
      let own : Thread = running (moved frame place after ∷ below) to_begin in
      let all_threads : next.threads ≡ slice_set machine.threads number own = append-nil (slice_set machine.threads number own) in
      let within : number < length machine.threads = slice_get_within machine.threads number (running
      (frame ∷ below) to_begin) is.thread in
      let inside : state.class < length machine.statics = slice_get_within machine.statics state.class spot.fields is.stands.fields in
      record {
        next = next;
        is = ap (option_map (λ (ch : Change). (applied number machine ch, ch.event))) made;
        come = record {
          threads = all_threads;
          size = c.size;
          goes_on = refl;
          heap = c.heap;
          statics = c.statics;
          lock = c.lock;
          others
              = c.others;
        };
        stands = record {
          thread = ap (λ (ts : List Thread). slice_get ts number) all_threads ∙ set_there machine.threads number own within;
          goes_on = refl;
          stands = record {
            place = refl;
            stack = ap (λ (size : ℕ). record { items = after.stack.items; size = size }) (sym c.size);
            locals = refl;
            fields = ap (λ (st : List (List Value)). slice_get st state.class) c.statics
                ∙ set_there machine.statics state.class after.fields inside;
            lock = c.lock;
          };
        };
      }

  -- ---- where it stands already

  stays_there : (at : ℕ) (frame : Frame) (machine : Machine) (spot : Spot) → In at frame machine spot
      → HasCome state begin at number frame below to_begin machine machine spot
  stays_there at frame machine spot is =
      let s = is.stands in
      let same : moved frame at spot ≡ frame =
      ap (λ (n : ℕ). moved_to frame n spot.locals spot.stack.items) (sym s.place)
      ∙ ap (λ (l : List Value). moved_to frame frame.at l spot.stack.items) (sym s.locals)
      ∙ ap (λ (o : Operands). moved_to frame frame.at frame.locals o.items) (sym s.stack) in
      record {
        threads = sym (ap (λ (f : Frame). slice_set machine.threads number (running (f ∷ below) to_begin)) same
            ∙ set_same machine.threads number (running (frame ∷ below) to_begin) is.thread);
        size = ap (λ (o : Operands). o.size) (sym s.stack);
        goes_on = is.goes_on;
        heap = refl;
        statics = sym (set_same machine.statics state.class spot.fields s.fields);
        lock = s.lock;
        others = refl;
      }

  -- after one step, and then more
  comes_on : (frame : Frame) (middle place : ℕ) (machine next end : Machine) (first last : Spot)
      → HasCome state begin middle number frame below to_begin machine next first
      → HasCome state begin place number (moved frame middle first) below to_begin next end last
      → HasCome state begin place number frame below to_begin machine end last
  comes_on frame middle place machine next end first last one other = record {
    threads = other.threads
        ∙ ap (λ (ts : List Thread). slice_set ts number (running (moved frame place last ∷ below) to_begin)) one.threads
        ∙ set_twice machine.threads number (running (moved frame middle first ∷ below) to_begin) (running
        (moved frame place last ∷ below) to_begin);
    size = other.size;
    goes_on = other.goes_on;
    heap = other.heap ∙ one.heap;
    statics = other.statics ∙ ap (λ (st : List (List Value)). slice_set st state.class last.fields) one.statics
        ∙ set_twice machine.statics state.class first.fields last.fields;
    lock = other.lock;
    others = other.others ∙ one.others;
  }

  -- ---- the run of what stands from a place on

  -- Steps lead to where it ends; `low` is where they began.
  record Made (low from : ℕ) (frame : Frame) (machine : Machine) (end : End) : Type 0 where
    place : ℕ
    spot : Spot
    last : EndsWith state insns place spot end ⊎ EndsAfter insns place spot end
    count : ℕ
    few : from + count ≤ place
    after : Machine
    steps : LeadsTo program number frame.class frame.method (begin + low) (begin + place) count machine after
    come : HasCome state begin place number frame below to_begin machine after spot

  -- These are the instructions from the place on.
  abbrev IsRest : List BlockInsn → ℕ → Type 0
  IsRest list at = ((k : ℕ) → slice_get list k ≡ slice_get insns (at + k)) × (at + length list ≡ length insns)

  rest_on : (insn : BlockInsn) (list : List BlockInsn) (at : ℕ) → IsRest (insn ∷ list) at → IsRest list (at + 1)
  rest_on insn list at is = (
    λ k. let next : at + suc k ≡ at + 1 + k = omega arith in is.0 (suc k) ∙ ap (slice_get insns) next,
    omega (arith, is.1),
  )

  first_is : (insn : BlockInsn) (list : List BlockInsn) (at : ℕ) → IsRest (insn ∷ list) at → slice_get insns at ≡ Some insn
  first_is insn list at is =
      let here : at + 0 ≡ at = omega arith in
      sym (is.0 0 ∙ ap (slice_get insns) here)

  ends_here : (low at : ℕ) (frame : Frame) (machine : Machine) (spot : Spot) (end : End) → In at frame machine spot
      → EndsWith state insns at spot end ⊎ EndsAfter insns at spot end → Made low at frame machine end
  ends_here low at frame machine spot end is last =
      record {
        place = at;
        spot = spot;
        last = last;
        count = 0;
        few = omega arith;
        after = machine;
        steps = refl;
        come = stays_there at
            frame machine spot is;
      }

  one_more : (low at to : ℕ) (frame : Frame) (machine : Machine) (spot : Spot) (end : End) → low ≤ at → at + 1 ≤ to → (before : Spot)
      → In at frame machine before
      → (s : Steps frame to machine spot) → Made low to (moved frame to spot) s.next end → Made low at frame machine end
  one_more low at to frame machine spot end least forward before is s later = record {
    place = later.place;
    spot = later.spot;
    last = later.last;
    count = suc later.count;
    few = omega (arith, forward, later.few);
    after = later.after;
    steps = (
      record {
        frame = frame;
        in_class = refl;
        in_method = refl;
        below = below;
        to_begin = to_begin;
        thread = is.thread;
        least = omega (arith, is.stands.place, least);
        most = omega (arith, is.stands.place, forward, later.few);
      },
      (s.next, (s.is, later.steps)),
    );
    come = comes_on frame to later.place machine s.next later.after spot later.spot s.come later.come;
  }

  -- the run of the others, once the instruction at `at` has gone on
  abbrev Later : ℕ → List BlockInsn → ℕ → Type 0
  Later low list at =
      (skip place : ℕ) (frame : Frame) (machine : Machine) (spot : Spot) → place ≡ at + 1 + skip → Code frame
      → In place frame machine spot → low ≤ place
      → block_run state.number list (at + 1) skip spot ≢ Lost → Made low place frame machine (block_run state.number list
      (at + 1) skip spot)

  insn_made : (low at : ℕ) (insn : BlockInsn) (list : List BlockInsn) (frame : Frame) (machine : Machine) (spot : Spot)
      → slice_get insns at ≡ Some insn → Code frame
      → In at frame machine spot → low ≤ at → Later low list at → (went : Went) → block_insn_stepped state.number (at + 1) spot insn
      ≡ went
      → gone (block_run state.number list (at + 1)) at spot went ≢ Lost
      → Made low at frame machine (gone (block_run state.number list (at + 1)) at spot went)
  insn_made low at insn list frame machine spot there code is least later (Goes place after) e found = by (nat_lt at place) refl found
    where
      on : ℕ → Spot → End
      on = block_run state.number list (at + 1)

      by : (b : Bool) → nat_lt at place ≡ b → (if b then on (place - (at + 1)) after else Lost) ≢ Lost
          → Made low at frame machine (if b then on (place - (at + 1)) after else Lost)
      by false back found = absurd (found refl)
      by true forward found =
          let ahead : at < place = grind (arith, nat_tests) in
          let far : place ≡ at + 1 + (place - (at + 1)) = omega (arith, ahead) in
          let s = step_made at frame machine spot insn code is there place after e in
          one_more low at place frame machine after (on (place - (at + 1)) after) least (omega (arith, ahead)) spot is s
          (later (place - (at + 1)) place (moved frame place after) s.next after far code s.stands (omega (arith, ahead, least)) found)
  insn_made low at insn list frame machine spot there code is least later Calls e found =
      ends_here low at frame machine spot _ is (inl (record { insn = insn; there = there; is = ap (ended_by at spot) (sym e) }))
  insn_made low at insn list frame machine spot there code is least later (Throws v) e found =
      ends_here low at frame machine spot _ is (inl (record { insn = insn; there = there; is = ap (ended_by at spot) (sym e) }))
  insn_made low at insn list frame machine spot there code is least later (Stops status) e found =
      ends_here low at frame machine spot _ is (inl (record { insn = insn; there = there; is = ap (ended_by at spot) (sym e) }))
  insn_made low at insn list frame machine spot there code is least later Stuck e found = absurd (found refl)

  list_made : (low : ℕ) (list : List BlockInsn) (at skip place : ℕ) (frame : Frame) (machine : Machine) (spot : Spot)
      → IsRest list at → place ≡ at + skip → Code frame
      → In place frame machine spot → low ≤ place → block_run state.number list at skip spot ≢ Lost
      → Made low place frame machine (block_run state.number list at skip spot)
  unfolding block_run
  list_made low [] at zero place frame machine spot rest same code is least found =
      ends_here low place frame machine spot (Left spot) is (inr (record { past = omega (arith, rest.1, same); is = refl }))
  list_made low [] at (suc skip) place frame machine spot rest same code is least found = absurd (found refl)
  list_made low (insn ∷ list) at (suc skip) place frame machine spot rest same code is least found =
      list_made low list (at + 1) skip place frame machine spot (rest_on insn list at rest) (omega (arith, same)) code is least found
  list_made low (insn ∷ list) at zero place frame machine spot rest same code is least found =
      let here : at ≡ place = omega (arith, same) in
      subst (λ (p : ℕ). Made low p frame machine (block_run state.number (insn ∷ list) at zero spot)) here
      (insn_made low at insn list frame machine spot (first_is insn list at rest) code (subst (λ (p : ℕ). In p frame machine spot)
      (sym here) is) (omega (arith, here, least))
      (λ skip to f m s far coded stands low_is more. list_made low list (at + 1) skip to f m s
      (rest_on insn list at rest) far coded stands low_is more)
      (block_insn_stepped state.number (at + 1) spot insn) refl found)

pub runs_are_made : RunsAreMade
runs_are_made program state known insns begin from number frame below to_begin machine spot code is found =
    let zero_on : (k : ℕ) → 0 + k ≡ k = λ k. omega arith in
    let m = list_made program state known insns begin number below to_begin from insns 0 from from frame machine spot
    (λ k. ap (slice_get insns) (sym (zero_on k)), zero_on (length insns)) (sym (zero_on from)) code is (omega arith) found in
    record {
      place = m.place;
      spot = m.spot;
      last = m.last;
      count = m.count;
      few = m.few;
      after = m.after;
      steps = m.steps;
      come =
          m.come;
    }
