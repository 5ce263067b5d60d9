-- Frames of the client's code and those of the woven program: they go on alike.
use Rattle.std.proofs.Common.{◌≡◌, ℕ, suc, ◌+◌, ◌<◌, ◌≤◌, Bool, true, false, cond, List, length, take, Option, Some, None, refl, sym, ap, ◌∙◌, subst, add-one, arith}
use Rattle.std.specs.Prelude.{nat_lt, slice_get, option_map}
use Rattle.std.specs.List.{AllByRecursion}
use Rattle.std.proofs.lemmas.Bool.{ltb-true, ltb-false}
use Rattle.insn_codec.specs.declared.insn.Insn.{Insn}
use Rattle.insn_codec.specs.Control.{goes_to, jump_targets, next_of}
use Rattle.insn_codec.specs.Effect.{Moved, effect}
use Rattle.insn_codec.specs.Shapes.{shape_of}
use Rattle.bytecode_model.specs.declared.program.Method.{Method}
use Rattle.bytecode_model.specs.declared.program.Program.{Program}
use Rattle.bytecode_model.specs.declared.program.Target.{Target}
use Rattle.guest_heap.specs.declared.frame.Frame.{Frame}
use Rattle.guest_heap.specs.declared.value.Value.{Value}
use Rattle.guest_frames.specs.Stepping.{after, fitted, frame_stepped, moved_to}
use Rattle.guest_frames.specs.Values.{values_moved, values_seen}
use Rattle.guest_model.specs.Places.{insn_at, insn_in, method_at}
use Rattle.guest_model.proofs.Options.{and_then_of, map_of, some_is}
use Rattle.offset_patch.specs.Splicing.{aimed, fronts_of}
use Rattle.guest_erasing.specs.Mirrors.{FrameMirrors, IsAtFront, IsBelow}
use Rattle.guest_erasing.specs.Places.{Sites, front, has_block, stand}
use Rattle.guest_erasing.proofs.Aiming.{aimed_goes, effect_aimed}
use Rattle.guest_erasing.proofs.Alike.{Alike, alike_none, alike_some, alike_then}
use Rattle.guest_erasing.proofs.Moving.{MovedAlike, effect_alike}
use Rattle.guest_erasing.proofs.Placing.{front_is, front_next, stands_at_front}

-- an instruction of a method, and what its operand names
insn_parts : (method : Method) (at : ℕ) (next : Insn × Target) → insn_in method at ≡ Some next
    → (slice_get method.insns at ≡ Some next.0) × (slice_get method.refs at ≡ Some next.1)
insn_parts method at next e =
    let i = and_then_of (λ (insn : Insn). option_map (λ (ref : Target). (insn, ref)) (slice_get method.refs at))
    (slice_get method.insns at) next e in
    let r = map_of (λ (ref : Target). (i.0, ref)) (slice_get method.refs at) next i.2 in
    subst (λ (n : Insn × Target). (slice_get method.insns at ≡ Some n.0) × (slice_get method.refs at ≡ Some n.1)) r.2 (i.1, r.1)

module _ (sites_of : Method → Sites) (client woven : Program) where
  abbrev Front : Frame → Frame → Type 0
  Front = IsAtFront sites_of client woven

  abbrev Below : Frame → Frame → Type 0
  Below = IsBelow sites_of client woven

  -- a frame that has moved, with these locals and operands
  abbrev pub moved_mirrors : (frame other : Frame) (m : FrameMirrors sites_of client woven frame other) (at to : ℕ)
      (locals others items : List Value)
      → take m.old.max_locals others ≡ locals → length locals ≡ m.old.max_locals → length others ≡ m.new.max_locals
      → FrameMirrors sites_of client woven (moved_to frame at locals items) (moved_to other to others items)
  moved_mirrors frame other m at to locals others items same many wide = record {
    old = m.old;
    new = m.new;
    there = m.there;
    woven_there = m.woven_there;
    laid = m.laid;
    class = m.class;
    method = m.method;
    lock = m.lock;
    locals = same;
    many = many;
    wide = wide;
    items = refl;
    size = m.size;
    room = m.room;
  }

  pub moved_front : (frame other : Frame) (m : FrameMirrors sites_of client woven frame other) (at to : ℕ)
      (locals others items : List Value)
      → take m.old.max_locals others ≡ locals → length locals ≡ m.old.max_locals → length others ≡ m.new.max_locals
      → to ≡ front (sites_of m.old) at
      → Front (moved_to frame at locals items) (moved_to other to others items)
  moved_front frame other m at to locals others items same many wide is = record {
    mirrors = moved_mirrors frame other m at to locals others items same many wide;
    at = is;
  }

  -- where the client's operands fit, so do the others
  pub fitted_alike : (frame other : Frame) (m : FrameMirrors sites_of client woven frame other) (at to : ℕ)
      (locals others items : List Value)
      → take m.old.max_locals others ≡ locals → length locals ≡ m.old.max_locals → length others ≡ m.new.max_locals
      → to ≡ front (sites_of m.old) at
      → Alike Front (fitted frame at locals items) (fitted other to others items)
  fitted_alike frame other m at to locals others items same many wide is =
      by (nat_lt frame.stack.size (length items)) (nat_lt other.stack.size (length items)) refl refl where
        by : (b c : Bool) → nat_lt frame.stack.size (length items) ≡ b → nat_lt other.stack.size (length items) ≡ c
            → Alike Front (cond b None (Some (moved_to frame at locals items))) (cond c None (Some (moved_to other to others items)))
        by true c e k = alike_none Front _
        by false false e k = alike_some Front _ _ (moved_front frame other m at to locals others items same many wide is)
        by false true e k =
            absurd (let few : length items ≤ frame.stack.size = ltb-false frame.stack.size (length items) e in
            let more : other.stack.size < length items = ltb-true other.stack.size (length items) k in
            let s : frame.stack.size ≡ m.old.max_stack = m.size in
            let r : other.stack.size ≡ m.new.max_stack = m.room in
            let l : m.old.max_stack ≤ m.new.max_stack = m.laid.stack in omega arith)

  -- the next instruction's front
  pub next_front : (frame other : Frame) (b : Below frame other) → other.at + 1 ≡ front (sites_of b.mirrors.old) (frame.at + 1)
  next_front frame other b =
      let sites = sites_of b.mirrors.old in
      let here : stand sites frame.at ≡ front sites frame.at = stands_at_front sites frame.at b.alone in
      let next : front sites (suc frame.at) ≡ suc (front sites frame.at) = front_next sites frame.at b.alone in
      let is : other.at ≡ stand sites frame.at = b.at in
      let one : frame.at + 1 ≡ suc frame.at = add-one frame.at in
      let there : front sites (frame.at + 1) ≡ front sites (suc frame.at) = ap (front sites) one in
      omega arith

  pub after_alike : (frame other : Frame) → Below frame other → (items more : List Value) → more ≡ items
      → Alike Front (after frame items) (after other more)
  after_alike frame other b items more same =
      subst (λ (zs : List Value). Alike Front (after frame items) (after other zs)) (sym same)
      (fitted_alike frame other b.mirrors (frame.at + 1) (other.at + 1) frame.locals other.locals items b.mirrors.locals b.mirrors.many b.mirrors.wide
      (next_front frame other b))

  -- a frame that runs at an instruction without a block, or waits at one
  pub front_below : (frame other : Frame) (f : Front frame other) → has_block (sites_of f.mirrors.old) frame.at ≡ false → Below frame other
  front_below frame other f alone = record {
    mirrors = f.mirrors;
    at = f.at ∙ sym (stands_at_front (sites_of f.mirrors.old) frame.at alone);
    alone = alone;
  }

  -- ---- its instruction

  -- the same instruction with its targets at their fronts, and it names the same
  pub record NextAlike (frame other : Frame) (m : FrameMirrors sites_of client woven frame other) (next : Insn × Target) : Type 0 where
    pub there : insn_at woven other ≡ Some (aimed (fronts_of (sites_of m.old)) next.0, next.1)
    pub in_method : insn_in m.old frame.at ≡ Some next
    pub insn : slice_get m.old.insns frame.at ≡ Some next.0
    pub ref : slice_get m.old.refs frame.at ≡ Some next.1

  pub next_alike : (frame other : Frame) (b : Below frame other) (next : Insn × Target) → insn_at client frame ≡ Some next
      → NextAlike frame other b.mirrors next
  next_alike frame other b next e =
      let m = b.mirrors in
      let a = and_then_of (λ (method : Method). insn_in method frame.at) (method_at client frame.class frame.method) next e in
      let same : a.0 ≡ m.old = some_is a.0 m.old (sym a.1 ∙ m.there) in
      let here : insn_in m.old frame.at ≡ Some next = subst (λ (method : Method). insn_in method frame.at ≡ Some next) same a.2 in
      let parts = insn_parts m.old frame.at next here in
      let insn : slice_get m.old.insns frame.at ≡ Some next.0 = parts.0 in
      let ref : slice_get m.old.refs frame.at ≡ Some next.1 = parts.1 in
      record {
        there = rw (m.class, m.method, m.woven_there, b.at, m.laid.insns frame.at next.0 insn, m.laid.refs frame.at next.1 ref) refl;
        in_method = here;
        insn = insn;
        ref = ref;
      }

  -- ---- an instruction that works on its frame alone

  module _ (frame other : Frame) (b : Below frame other) (insn : Insn) (here : slice_get b.mirrors.old.insns frame.at ≡ Some insn) where
    abbrev m : FrameMirrors sites_of client woven frame other
    m = b.mirrors

    abbrev sites : Sites
    sites = sites_of b.mirrors.old

    within : AllByRecursion (λ to. to < length sites) (jump_targets insn)
    within = subst (λ (n : ℕ). AllByRecursion (λ to. to < n) (jump_targets insn)) (sym m.laid.count) (m.laid.jumps frame.at insn here)

    goes : next_of values_seen (aimed (fronts_of sites) insn) other.at other.stack.items ≡ front sites
        (next_of values_seen insn frame.at frame.stack.items)
    goes =
        ap (λ (items : List Value). next_of values_seen (aimed (fronts_of sites) insn) other.at items) m.items
        ∙ ap (λ (next : ℕ). goes_to values_seen (aimed (fronts_of sites) insn)
        (shape_of (aimed (fronts_of sites) insn)) next frame.stack.items) (next_front frame other b)
        ∙ aimed_goes (fronts_of sites) (front sites) (length sites) (λ to h. front_is sites to (omega (arith, h))) values_seen insn
        (frame.at + 1) frame.stack.items within

    effects : effect values_moved (shape_of (aimed (fronts_of sites) insn)) other.locals other.stack.items ≡ effect values_moved
        (shape_of insn) other.locals frame.stack.items
    effects =
        ap (λ (items : List Value). effect values_moved (shape_of (aimed (fronts_of sites) insn)) other.locals items) m.items
        ∙ effect_aimed (fronts_of sites) values_moved (length sites) insn other.locals frame.stack.items within

    made : Alike (MovedAlike values_moved m.old.max_locals m.new.max_locals) (effect values_moved (shape_of insn) frame.locals frame.stack.items)
        (effect values_moved (shape_of (aimed (fronts_of sites) insn)) other.locals other.stack.items)
    made =
        subst (λ (o : Option (Moved Value)). Alike (MovedAlike values_moved m.old.max_locals m.new.max_locals)
        (effect values_moved (shape_of insn) frame.locals frame.stack.items) o) (sym effects)
        (subst (λ (locals : List Value). Alike (MovedAlike values_moved m.old.max_locals m.new.max_locals)
        (effect values_moved (shape_of insn) locals frame.stack.items)
        (effect values_moved (shape_of insn) other.locals frame.stack.items)) m.locals
        (effect_alike values_moved m.old.max_locals m.new.max_locals other.locals frame.stack.items (ap length m.locals ∙ m.many) m.wide (shape_of insn)))

    pub stepped_alike : Alike Front (frame_stepped insn frame) (frame_stepped (aimed (fronts_of sites) insn) other)
    stepped_alike = alike_then (MovedAlike values_moved m.old.max_locals m.new.max_locals) Front _ _ _ _ made
        (λ moved more e f alike.
        subst (λ (items : List Value). Alike Front (fitted frame (next_of values_seen insn frame.at frame.stack.items) moved.0 moved.1)
        (fitted other (next_of values_seen (aimed (fronts_of sites) insn) other.at other.stack.items) more.0 items)) (sym alike.stack)
        (fitted_alike frame other m (next_of values_seen insn frame.at frame.stack.items)
        (next_of values_seen (aimed (fronts_of sites) insn) other.at other.stack.items) moved.0 more.0 moved.1 alike.locals alike.many alike.wide
        goes))
