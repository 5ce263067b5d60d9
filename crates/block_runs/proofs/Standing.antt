-- A frame at a call with a block, in both programs: where the places of the block are, and what lifting makes of them.
use Rattle.std.proofs.Common.{◌≡◌, ◌∙◌, ◌<◌, ◌≤◌, ℕ, zero, suc, ◌+◌, Bool, true, false, cond, List, [], ◌∷◌, length, Option, Some, None, refl, sym, ap, subst, arith}
use Rattle.std.specs.Prelude.{◌==◌, ◌-◌, is_some, nat_lt, not, option_map, option_and_then, slice_get}
use Rattle.std.specs.Option.{option_map_or}
use Rattle.insn_codec.specs.declared.insn.Insn.{Insn}
use Rattle.insn_codec.specs.declared.shape.Heap.TheVariants as heap
use Rattle.insn_codec.specs.declared.shape.How.{How}
use Rattle.insn_codec.specs.Shapes.{shape_of}
use Rattle.bytecode_model.specs.declared.program.Method.{Method}
use Rattle.bytecode_model.specs.declared.program.Program.{Program}
use Rattle.bytecode_model.specs.declared.program.Target.{Target}
use Rattle.bytecode_model.specs.declared.program.Target.TheVariants as target
use Rattle.cert_format.specs.declared.certificate.Mode.{Mode}
use Rattle.conspec_automaton.specs.declared.policy.Policy.{Policy}
use Rattle.conspec_automaton.specs.Next.{has_clauses}
use Rattle.offset_patch.specs.declared.block.Block.{Block}
use Rattle.offset_patch.specs.Fits.{IsBlock, IsSite}
use Rattle.offset_patch.specs.Splicing.{call_place, count_of}
use Rattle.block_template.specs.Blocks.{block, block_with, bools_of, clauses_of, site}
use Rattle.guest_heap.specs.declared.frame.Frame.{Frame}
use Rattle.guest_heap.specs.declared.thread.Thread.{Thread}
use Rattle.guest_model.specs.declared.machine.Machine.{Machine}
use Rattle.guest_model.specs.Parts.{running}
use Rattle.guest_model.specs.Places.{insn_at, insn_in, method_at}
use Rattle.guest_model.specs.Stepping.{heap_in}
use Rattle.guest_model.proofs.Options.{all_get, and_then_of, map_of, some_is}
use Rattle.guest_erasing.specs.Climbing.{Climbs}
use Rattle.guest_erasing.specs.Lifting.{frame_run, frame_run_by, goes_out, goes_up, most_steps, sites_at}
use Rattle.guest_erasing.specs.Mirrors.{FrameMirrors}
use Rattle.guest_erasing.specs.Places.{Sites, front, has_block, is_before_call, is_inside, own, stand}
use Rattle.guest_erasing.proofs.Erased.{call_within}
use Rattle.guest_erasing.proofs.Inside.{count_part, front_part, own_part, stand_part}
use Rattle.block_runs.specs.Joining.{IsPut, IsWovenBy, sites}
use Rattle.block_runs.specs.Made.{IsBetween, LeadsTo}
use Rattle.block_runs.proofs.Alone.{insn_ref, site_is}

-- The frame stands at a call of this method of the library, which has clauses, and so a block.
pub record IsAtBlock (policy : Policy) (mode : Mode) (client woven : Program) (frame other : Frame)
    (m : FrameMirrors (sites policy mode) client woven frame other)
    (listed : ℕ) : Type 0 where
  pub insn : Insn
  pub how : How
  pub made : Block
  pub at : insn_at client frame ≡ Some (insn, target.ApiMethod listed)
  pub insn_there : slice_get m.old.insns frame.at ≡ Some insn
  pub ref_there : slice_get m.old.refs frame.at ≡ Some (target.ApiMethod listed)
  pub calls : heap_in (shape_of insn) ≡ Some (heap.Call how)
  pub clauses : has_clauses policy listed ≡ true
  pub is : block policy mode listed m.old.max_locals ≡ Some made
  pub site : slice_get (sites policy mode m.old) frame.at ≡ Some (Some made)
  pub is_block : IsBlock made
  pub put : IsPut policy mode client woven frame.class frame.method m.old m.new frame.at listed made

module _ (policy : Policy) (mode : Mode) (client woven : Program) (w : IsWovenBy policy mode client woven) (frame other : Frame)
    (m : FrameMirrors (sites policy mode) client woven frame other) where
  -- the instruction of the method at which the frame stands
  in_old : (next : Insn × Target) → insn_at client frame ≡ Some next → insn_in m.old frame.at ≡ Some next
  in_old next at =
      let a = and_then_of (λ (method : Method). insn_in method frame.at) (method_at client frame.class frame.method) next at in
      let same : a.0 ≡ m.old = some_is a.0 m.old (sym a.1 ∙ m.there) in
      subst (λ (method : Method). insn_in method frame.at ≡ Some next) same a.2

  insn_first : (method : Method) (at : ℕ) (next : Insn × Target) → insn_in method at ≡ Some next → slice_get method.insns at ≡ Some next.0
  insn_first method at next e =
      let i = and_then_of (λ (insn : Insn). option_map (λ (ref : Target). (insn, ref)) (slice_get method.refs at))
      (slice_get method.insns at) next e in
      let r = map_of (λ (ref : Target). (i.0, ref)) (slice_get method.refs at) next i.2 in
      i.1 ∙ ap (λ (n : Insn × Target). Some n.0) r.2

  pub at_block : (insn : Insn) (listed : ℕ) → insn_at client frame ≡ Some (insn, target.ApiMethod listed) → has_clauses policy listed ≡ true
      → IsAtBlock policy mode client woven frame other m listed
  at_block insn listed at clauses =
      let here = in_old (insn, target.ApiMethod listed) at in
      let ref = insn_ref m.old frame.at (insn, target.ApiMethod listed) here in
      let made : Block = block_with mode (bools_of policy) m.old.max_locals (clauses_of policy listed) in
      let is : block policy mode listed m.old.max_locals ≡ Some made = ap (λ (b : Bool). cond b (Some made) None) clauses in
      let site_there : slice_get (sites policy mode m.old) frame.at ≡ Some (Some made) = site_is policy mode m.old frame.at
      (target.ApiMethod listed) ref ∙ ap Some is in
      let called = w.called frame.class frame.method m.old m.there frame.at listed insn here in
      record {
        insn = insn;
        how = called.0;
        made = made;
        at = at;
        insn_there = insn_first m.old frame.at (insn, target.ApiMethod listed) here;
        ref_there = ref;
        calls = called.1;
        clauses = clauses;
        is = is;
        site = site_there;
        is_block = all_get IsSite (sites policy mode m.old) frame.at (Some made) m.laid.blocks site_there;
        put = w.put frame.class frame.method m.old m.new m.there m.woven_there frame.at listed made ref is;
      }

  -- A frame at an instruction with a block is such a frame.
  pub at_some : (next : Insn × Target) → insn_at client frame ≡ Some next → has_block (sites policy mode m.old) frame.at ≡ true
      → (listed : ℕ) × IsAtBlock policy mode client woven frame other m listed
  at_some next at has =
      by next.1 refl (sym (ap (λ (o : Option (Option Block)). option_map_or is_some o false)
      (site_is policy mode m.old frame.at next.1 (insn_ref m.old frame.at next (in_old next at)))) ∙ has)
    where
      clauses_by : (listed : ℕ) (b : Bool) → has_clauses policy listed ≡ b
          → is_some (cond b (Some (block_with mode (bools_of policy) m.old.max_locals (clauses_of policy listed))) None) ≡ true
          → has_clauses policy listed ≡ true
      clauses_by listed true e some = e
      clauses_by listed false e some = absurd cc

      by : (ref : Target) → next.1 ≡ ref → is_some (site policy mode m.old.max_locals ref) ≡ true
          → (listed : ℕ) × IsAtBlock policy mode client woven frame other m listed
      by (target.ApiMethod listed) e some = (
        listed,
        at_block next.0 listed (at ∙ ap (λ (ref : Target). Some (next.0, ref)) e)
            (clauses_by listed (has_clauses policy listed) refl some),
      )
      by target.None e some = absurd cc
      by (target.Builtin index) e some = absurd cc
      by (target.Method class method) e some = absurd cc
      by (target.Field class field) e some = absurd cc
      by (target.ApiField index) e some = absurd cc
      by (target.ClassName name) e some = absurd cc
      by (target.Number n) e some = absurd cc
      by (target.Literal index) e some = absurd cc

-- ---- steps while a thread goes on

module _ (woven : Program) (goes : Machine → ℕ → Bool) (number class method low high : ℕ)
    (on : (machine : Machine) → IsBetween number class method low high machine → goes machine number ≡ true) where
  -- steps between two places, and what comes after them
  pub climbs_on : (count k n : ℕ) (machine end last : Machine) → n ≡ count + k
      → LeadsTo woven number class method low high count machine end
      → Climbs woven goes number k end last → Climbs woven goes number n machine last
  climbs_on zero k n machine end last e leads later =
      let same : k ≡ n = omega (arith, e) in
      subst (λ (j : ℕ). Climbs woven goes number j machine last) same
      (subst (λ (x : Machine). Climbs woven goes number k x last) (sym leads) later)
  climbs_on (suc count) k zero machine end last e leads later = absurd (omega (arith, e))
  climbs_on (suc count) k (suc n) machine end last e (between, (next, (is, leads))) later =
      (on machine between, (next, (is, climbs_on count k n next end last (omega (arith, e)) leads later)))

-- ---- numbers

before_by : (begin n k : ℕ) → k < n → nat_lt (begin + k) (begin + n) ≡ true
before_by begin n k less = grind (arith)

not_before : (n : ℕ) → nat_lt n n ≡ false
not_before n = grind (arith)

other_place : (begin k : ℕ) → 0 < k → not ((begin + k) == begin) ≡ true
other_place begin k some = grind (arith)

-- ---- places of the block

module _ (policy : Policy) (mode : Mode) (client woven : Program) (frame other : Frame)
    (m : FrameMirrors (sites policy mode) client woven frame other)
    (listed : ℕ) (b : IsAtBlock policy mode client woven frame other m listed) where
  abbrev pub its_sites : Sites
  its_sites = sites policy mode m.old

  abbrev pub begin : ℕ
  begin = front its_sites frame.at

  abbrev pub place : ℕ
  place = call_place b.made.insns

  pub stand_is : stand its_sites frame.at ≡ begin + place
  stand_is = stand_part its_sites frame.at (Some b.made) b.site

  pub end_is : front its_sites (suc frame.at) ≡ begin + length b.made.insns
  end_is = front_part its_sites frame.at (Some b.made) b.site

  pub call_inside : place < length b.made.insns
  call_inside = call_within b.made.insns b.is_block.once

  pub few_steps : length b.made.insns ≤ count_of its_sites
  few_steps = count_part its_sites frame.at (Some b.made) b.site

  pub own_is : (k : ℕ) → k < length b.made.insns → own its_sites (begin + k) ≡ frame.at
  own_is k less = own_part its_sites frame.at k (Some b.made) b.site less

  -- the sites of a frame of the same method
  pub sites_are : (g : Frame) → g.class ≡ other.class → g.method ≡ other.method → sites_at (sites policy mode) client woven g ≡ its_sites
  sites_are g class method =
      ap (λ (c : ℕ). option_map_or (sites policy mode) (method_at client c g.method) []) (class ∙ m.class)
      ∙ ap (λ (n : ℕ). option_map_or (sites policy mode) (method_at client frame.class n) []) (method ∙ m.method)
      ∙ ap (λ (o : Option Method). option_map_or (sites policy mode) o []) m.there

  pub up_there : (k : ℕ) → k < place → is_before_call its_sites (begin + k) ≡ true
  up_there k less =
      ap (λ (i : ℕ). nat_lt (begin + k) (stand its_sites i)) (own_is k (omega (arith, less, call_inside)))
      ∙ ap (λ (n : ℕ). nat_lt (begin + k) n) stand_is ∙ before_by begin place k less

  pub up_ends : is_before_call its_sites (begin + place) ≡ false
  up_ends =
      ap (λ (i : ℕ). nat_lt (begin + place) (stand its_sites i)) (own_is place call_inside)
      ∙ ap (λ (n : ℕ). nat_lt (begin + place) n) stand_is ∙ not_before (begin + place)

  pub out_there : (k : ℕ) → 0 < k → k < length b.made.insns → is_inside its_sites (begin + k) ≡ true
  out_there k some less =
      ap (λ (i : ℕ). not ((begin + k) == front its_sites i)) (own_is k less) ∙ other_place begin k some

  -- ---- a thread between two places

  run_is : (number : ℕ) (machine : Machine) (g : Frame) (below : List Frame) (to_begin : List (ℕ × ℕ))
      → slice_get machine.threads number ≡ Some (running (g ∷ below) to_begin)
      → frame_run_by machine number ≡ Some g
  run_is number machine g below to_begin there = ap (option_and_then (λ (t : Thread). frame_run t.doing t.frames)) there

  pub most_are : (number : ℕ) (machine : Machine) (g : Frame) (below : List Frame) (to_begin : List (ℕ × ℕ))
      → slice_get machine.threads number ≡ Some (running (g ∷ below) to_begin)
      → g.class ≡ other.class → g.method ≡ other.method → most_steps (sites policy mode) client woven machine number ≡ count_of its_sites
  most_are number machine g below to_begin there class method =
      ap (λ (o : Option Frame). option_map_or (λ (f : Frame). count_of (sites_at (sites policy mode) client woven f)) o zero)
      (run_is number machine g below to_begin there)
      ∙ ap count_of (sites_are g class method)

  pub up_is : (number : ℕ) (machine : Machine) (g : Frame) (below : List Frame) (to_begin : List (ℕ × ℕ))
      → slice_get machine.threads number ≡ Some (running (g ∷ below) to_begin)
      → g.class ≡ other.class → g.method ≡ other.method
      → goes_up (sites policy mode) client woven machine number ≡ is_before_call its_sites g.at
  up_is number machine g below to_begin there class method =
      ap (λ (o : Option Frame). option_map_or (λ (f : Frame). is_before_call (sites_at (sites policy mode) client woven f) f.at) o false)
      (run_is number machine g below to_begin there)
      ∙ ap (λ (ss : Sites). is_before_call ss g.at) (sites_are g class method)

  pub out_is : (number : ℕ) (machine : Machine) (g : Frame) (below : List Frame) (to_begin : List (ℕ × ℕ))
      → slice_get machine.threads number ≡ Some (running (g ∷ below) to_begin)
      → g.class ≡ other.class → g.method ≡ other.method
      → goes_out (sites policy mode) client woven machine number ≡ is_inside its_sites g.at
  out_is number machine g below to_begin there class method =
      ap (λ (o : Option Frame). option_map_or (λ (f : Frame). is_inside (sites_at (sites policy mode) client woven f) f.at) o false)
      (run_is number machine g below to_begin there)
      ∙ ap (λ (ss : Sites). is_inside ss g.at) (sites_are g class method)

  -- the place of a frame from the front on
  from_front : (at low : ℕ) → begin + low ≤ at → (k : ℕ) × (at ≡ begin + k) × (low ≤ k)
  from_front at low le = (at - begin, omega (arith, le), omega (arith, le))

  pub goes_up_between : (number high : ℕ) (machine : Machine) → high ≤ place
      → IsBetween number other.class other.method (begin + 0) (begin + high) machine
      → goes_up (sites policy mode) client woven machine number ≡ true
  goes_up_between number high machine within i =
      let k = from_front i.frame.at 0 i.least in
      up_is number machine i.frame i.below i.to_begin i.thread i.in_class i.in_method
      ∙ ap (is_before_call its_sites) k.1 ∙ up_there k.0 (omega (arith, k.1, i.most, within))

  pub goes_out_between : (number low high : ℕ) (machine : Machine) → 0 < low → high ≤ length b.made.insns
      → IsBetween number other.class other.method (begin + low) (begin + high) machine
      → goes_out (sites policy mode) client woven machine number ≡ true
  goes_out_between number low high machine some within i =
      let k = from_front i.frame.at low i.least in
      out_is number machine i.frame i.below i.to_begin i.thread i.in_class i.in_method
      ∙ ap (is_inside its_sites) k.1 ∙ out_there k.0 (omega (arith, some, k.2)) (omega (arith, k.1, i.most, within))
