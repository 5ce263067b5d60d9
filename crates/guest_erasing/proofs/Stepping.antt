-- A step of the client at an instruction without a block is a step of the woven program.
use Rattle.std.proofs.Common.{◌≡◌, ℕ, List, ◌∷◌, length, drop, Option, Some, None, Result, Ok, Err, refl, sym, ap, ◌∙◌, subst}
use Rattle.std.specs.Prelude.{slice_get, option_map, option_and_then}
use Rattle.std.specs.List.{AllByRecursion}
use Rattle.std.specs.Option.{option_to_list}
use Rattle.insn_codec.specs.declared.insn.Insn.{Insn}
use Rattle.insn_codec.specs.declared.shape.Heap.{Heap}
use Rattle.insn_codec.specs.declared.shape.Heap.TheVariants as heap
use Rattle.insn_codec.specs.declared.shape.How.TheVariants as hows
use Rattle.insn_codec.specs.declared.shape.Shape.{Shape}
use Rattle.insn_codec.specs.declared.shape.Shape.TheVariants as shapes
use Rattle.insn_codec.specs.declared.shape.ValueKind.{ValueKind}
use Rattle.insn_codec.specs.Shapes.{shape_of}
use Rattle.bytecode_model.specs.declared.program.Method.{Method}
use Rattle.bytecode_model.specs.declared.program.Program.{Program}
use Rattle.bytecode_model.specs.declared.program.Target.{Target}
use Rattle.bytecode_model.specs.declared.program.Target.TheVariants as target
use Rattle.bytecode_model.specs.SearchOrder.{Name}
use Rattle.guest_heap.specs.declared.frame.Frame.{Frame}
use Rattle.guest_heap.specs.declared.object.Monitor.{Monitor}
use Rattle.guest_heap.specs.declared.object.Object.{Object}
use Rattle.guest_heap.specs.declared.thread.Thread.{Thread}
use Rattle.guest_heap.specs.declared.value.Value.{Value}
use Rattle.guest_frames.specs.Stepping.{after}
use Rattle.guest_frames.specs.Values.{is_null}
use Rattle.guest_model.specs.declared.machine.Machine.{Machine}
use Rattle.guest_model.specs.Changes.{Change, World, throws, with_monitors, world_of}
use Rattle.guest_model.specs.Finding.{Given}
use Rattle.guest_model.specs.HeapOperations.{heap_result}
use Rattle.guest_model.specs.Kinds.{class_of_value}
use Rattle.guest_model.specs.Monitors.{all_given_up, left}
use Rattle.guest_model.specs.Parts.{bad_monitor, null_pointer, result_of}
use Rattle.guest_model.specs.Places.{insn_at}
use Rattle.guest_model.specs.Stepping.{Acting, acts_on, acts_throwing, comes_to, enters, frames_stepped, heap_in, heap_stepped, insn_stepped, leaves, left_with, operates, returns, throws_top}
use Rattle.guest_model.proofs.Options.{all_get, some_is}
use Rattle.offset_patch.specs.Splicing.{aimed, fronts_of}
use Rattle.guest_erasing.specs.Laid.{IsClientName, TellAlike}
use Rattle.guest_erasing.specs.Mirrors.{AreBelow, CanBegin, HoldsClientValues, IsAtFront, IsBelow, IsClientMachine, IsClientValue, Mirrors, TakesCalls}
use Rattle.guest_erasing.specs.Places.{Sites}
use Rattle.guest_erasing.specs.Steps.{AreRoomy, NamesNoState}
use Rattle.guest_erasing.proofs.Aiming.{heap_aimed}
use Rattle.guest_erasing.proofs.Alike.{Alike, alike_some, alike_then, alike_told, like_or, like_then, same_if, same_map}
use Rattle.guest_erasing.proofs.Beginning.{returned_alike}
use Rattle.guest_erasing.proofs.Calling.{are_clients, calls_alike, world_goes}
use Rattle.guest_erasing.proofs.Changing.{Changed, Made, all_of_option, throws_mirror, throws_new_mirrors, went_on}
use Rattle.guest_erasing.proofs.Framing.{NextAlike, after_alike, next_alike, stepped_alike}
use Rattle.guest_erasing.proofs.Operating.{AreClients, ResultAlike, class_is_client, result_alike}
use Rattle.guest_erasing.proofs.Worlds.{Goes, HeldAlike, entered_alike, given_up_alike, held_goes, left_held, left_is, of_client}
use Rattle.guest_erasing.proofs.Holding.{sifted}

-- ---- shapes

heap_shape : (shape : Shape) (what : Heap) → heap_in shape ≡ Some what → shape ≡ shapes.Heap what
heap_shape (shapes.Heap h) what e = ap shapes.Heap (some_is h what e)
heap_shape shapes.Nothing what e = absurd cc
heap_shape (shapes.Push n) what e = absurd cc
heap_shape shapes.PushNull what e = absurd cc
heap_shape (shapes.Load kind slot) what e = absurd cc
heap_shape (shapes.Store kind slot) what e = absurd cc
heap_shape (shapes.Move form) what e = absurd cc
heap_shape (shapes.Two op) what e = absurd cc
heap_shape (shapes.One op) what e = absurd cc
heap_shape (shapes.Increment slot by) what e = absurd cc
heap_shape (shapes.Test relation to) what e = absurd cc
heap_shape (shapes.Compare relation to) what e = absurd cc
heap_shape (shapes.CompareReferences same to) what e = absurd cc
heap_shape (shapes.TestNull null to) what e = absurd cc
heap_shape (shapes.Goto to) what e = absurd cc
heap_shape shapes.Switch what e = absurd cc

module _ (sites_of : Method → Sites) (client woven : Program) (tell : TellAlike sites_of client woven) (roomy : AreRoomy client)
    (machine other : Machine) (m : Mirrors sites_of client woven machine other) (ours : IsClientMachine client machine) where
  abbrev Does : Option Change → Option Change → Type 0
  Does = Made sites_of client woven (world_of other)

  abbrev Moves : Change → Change → Type 0
  Moves = Changed sites_of client woven (world_of other)

  abbrev goes_here : Goes client (world_of other) (world_of machine) (world_of other)
  goes_here = world_goes sites_of client woven machine other m

  abbrev clients : AreClients machine.heap
  clients = are_clients client machine.heap ours.objects

  -- ---- the thread runs, and its frame stands at an instruction without a block

  module _ (number : ℕ) (thread more : Thread) (same : more.to_begin ≡ thread.to_begin)
      (begins : AllByRecursion (CanBegin client) thread.to_begin)
      (frame next : Frame) (b : IsBelow sites_of client woven frame next) (below others : List Frame)
      (bs : AreBelow sites_of client woven below others)
      (holds : HoldsClientValues client frame) (holding : AllByRecursion (HoldsClientValues client) below) where
    abbrev a : Acting
    a = record { number = number; thread = thread; frame = frame; below = below }

    abbrev o : Acting
    o = record { number = number; thread = more; frame = next; below = others }

    throwing : (class : Name) → IsClientName class
        → Moves (acts_throwing client (world_of machine) a class) (acts_throwing woven (world_of other) o class)
    throwing class own =
        throws_new_mirrors sites_of client woven tell (world_of other) (world_of machine) (world_of other) goes_here thread more same number
        (frame ∷ below) (next ∷ others) (b, bs) (holds, holding) class None own

    throws_here : (class : Name) → IsClientName class
        → Does (Some (acts_throwing client (world_of machine) a class)) (Some (acts_throwing woven (world_of other) o class))
    throws_here class own = alike_some Moves _ _ (throwing class own)

    acts_alike : (world new : World) → Goes client (world_of other) world new → (f g : Option Frame)
        → Alike (IsAtFront sites_of client woven) f g
        → Does (acts_on world a f) (acts_on new o g)
    acts_alike world new g f h alike = went_on sites_of client woven (world_of other) world new g thread more same below others bs f h alike

    after_here : (world new : World) → Goes client (world_of other) world new → (items rest : List Value) → rest ≡ items
        → Does (acts_on world a (after frame items)) (acts_on new o (after next rest))
    after_here world new g items rest e = acts_alike world new g _ _ (after_alike sites_of client woven frame next b items rest e)

    beneath : drop 1 next.stack.items ≡ drop 1 frame.stack.items
    beneath = ap (drop 1) b.mirrors.items

    operand_own : (i : ℕ) (v : Value) → slice_get frame.stack.items i ≡ Some v → IsClientValue client v
    operand_own i v e = all_get (IsClientValue client) frame.stack.items i v holds.items e

    -- what is done with the topmost operand
    on_top : (f h : Value → Option Change) → ((v : Value) → IsClientValue client v → Does (f v) (h v))
        → Does (option_and_then f (slice_get frame.stack.items 0)) (option_and_then h (slice_get next.stack.items 0))
    on_top f h each =
        like_then Moves f h (slice_get frame.stack.items 0) (slice_get next.stack.items 0)
        (ap (λ (items : List Value). slice_get items 0) b.mirrors.items)
        (λ v e. each v (operand_own 0 v e))

    -- ---- the heap

    comes_alike : (made new : Result (World × List Value) Name)
        → ResultAlike client (world_of other) made new
        → Does (comes_to client (world_of machine) a made) (comes_to woven (world_of other) o new)
    comes_alike (Ok made) (Ok new) r = after_here made.0 new.0 r.0 made.1 new.1 r.1
    comes_alike (Ok made) (Err class) r = absurd r
    comes_alike (Err class) (Ok new) r = absurd r
    comes_alike (Err class) (Err name) r =
        subst (λ (n : Name). Does (Some (acts_throwing client (world_of machine) a class))
        (Some (acts_throwing woven (world_of other) o n))) (sym r.0) (throws_here class r.1)

    operates_alike : (what : Heap) (ref : Target) → NamesNoState ref
        → Does (operates client (world_of machine) a what ref) (operates woven (world_of other) o what ref)
    operates_alike what ref own =
        subst (λ (items : List Value). Does (operates client (world_of machine) a what ref)
        (option_and_then (comes_to woven (world_of other) o) (heap_result woven (world_of other) what ref items))) (sym b.mirrors.items)
        (alike_then (ResultAlike client (world_of other)) Moves _ _ _ _
        (result_alike sites_of client woven tell (world_of other) (world_of machine)
        (world_of other) goes_here clients what ref frame.stack.items own)
        (λ made new e f r. comes_alike made new r))

    -- ---- throwing

    throws_top_alike : (v : Value) → Does (throws_top client (world_of machine) a v) (throws_top woven (world_of other) o v)
    throws_top_alike v =
        same_if Moves (is_null v) _ _ _ _ (λ e. throws_here null_pointer refl)
        (λ e. subst (λ (h : List Object). Does
        (option_map (λ class. throws client (world_of machine) number thread (frame ∷ below) v class None) (class_of_value machine.heap v))
        (option_map (λ class. throws woven (world_of other) number more (next ∷ others) v class None) (class_of_value h v))) (sym m.heap)
        (same_map Moves _ _ (class_of_value machine.heap v)
        (λ class f. throws_mirror sites_of client woven tell (world_of other) (world_of machine)
        (world_of other) goes_here thread more same number
        (frame ∷ below) (next ∷ others) (b, bs) (holds, holding) v class None (class_is_client machine.heap clients v class f))))

    -- ---- monitors

    abbrev Held : List Monitor → List Monitor → Type 0
    Held = HeldAlike client (world_of other) (world_of machine) (world_of other) goes_here

    held_here : (held new : List Monitor) → Held held new
        → Goes client (world_of other) (with_monitors (world_of machine) held) (with_monitors (world_of other) new)
    held_here held new h = held_goes client (world_of other) (world_of machine) (world_of other) goes_here held new h

    enters_monitor : (v : Value) → IsClientValue client v → Does (enters client (world_of machine) a v) (enters woven (world_of other) o v)
    enters_monitor v own =
        same_if Moves (is_null v) _ _ _ _ (λ e. throws_here null_pointer refl)
        (λ e. alike_then Held Moves _ _ _ _
        (entered_alike client (world_of other) (world_of machine) (world_of other) goes_here number v own)
        (λ held new f g h. after_here _ _ (held_here held new h) (drop 1 frame.stack.items) (drop 1 next.stack.items) beneath))

    left_alike : (p q : Option (List Monitor)) → p ≡ option_map (sifted (of_client client)) q
        → ((held : List Monitor) → q ≡ Some held → Held (sifted (of_client client) held) held)
        → Does (left_with client (world_of machine) a p) (left_with woven (world_of other) o q)
    left_alike p None e h = rw e (throws_here bad_monitor refl)
    left_alike p (Some held) e h =
        rw e (after_here _ _ (held_here (sifted (of_client client) held) held (h held refl)) (drop 1 frame.stack.items)
        (drop 1 next.stack.items) beneath)

    leaves_monitor : (v : Value) → IsClientValue client v → Does (leaves client (world_of machine) a v) (leaves woven (world_of other) o v)
    leaves_monitor v own =
        same_if Moves (is_null v) _ _ _ _ (λ e. throws_here null_pointer refl)
        (λ e. left_alike (left machine.monitors number v) (left other.monitors number v)
        (left_is client (world_of other) (world_of machine) (world_of other) goes_here number v own)
        (left_held client (world_of other) (world_of machine) (world_of other) goes_here number v own))

    -- ---- returns

    returns_alike : (kind : Option ValueKind) → Does (returns client (world_of machine) a kind) (returns woven (world_of other) o kind)
    returns_alike kind =
        like_then Moves _ _ (result_of kind frame.stack.items) (result_of kind next.stack.items) (ap (result_of kind) b.mirrors.items)
        (λ result e.
        returned_alike sites_of client woven tell (world_of other)
        (with_monitors (world_of machine) (all_given_up machine.monitors number (option_to_list frame.lock)))
        (with_monitors (world_of other) (all_given_up other.monitors number (option_to_list next.lock)))
        (subst (λ (lock : Option Value). Goes client (world_of other)
        (with_monitors (world_of machine) (all_given_up machine.monitors number (option_to_list frame.lock)))
        (with_monitors (world_of other) (all_given_up other.monitors number (option_to_list lock)))) (sym b.mirrors.lock)
        (held_here (all_given_up machine.monitors number (option_to_list frame.lock))
        (all_given_up other.monitors number (option_to_list frame.lock))
        (given_up_alike client (world_of other) (world_of machine) (world_of other) goes_here number (option_to_list frame.lock)
        (all_of_option client frame.lock holds.lock))))
        thread more same begins below others bs result None)

    -- ---- instructions

    heap_alike : (what : Heap) (ref : Target) → NamesNoState ref
        → ((to : Given) → ref ≡ target.Method to.0 to.1 → what ≡ heap.Call hows.Static → TakesCalls client to)
        → Does (heap_stepped client machine a what ref) (heap_stepped woven other o what ref)
    heap_alike (heap.Call how) ref own takes =
        calls_alike sites_of client woven tell roomy machine other m ours.objects number thread more same frame next b below others bs holds
        holding how ref
        (λ to is static. takes to is (ap heap.Call static))
    heap_alike heap.Throw ref own takes = on_top _ _ (λ v owned. throws_top_alike v)
    heap_alike heap.Enter ref own takes = on_top _ _ enters_monitor
    heap_alike heap.Exit ref own takes = on_top _ _ leaves_monitor
    heap_alike (heap.Return kind) ref own takes = returns_alike kind
    heap_alike heap.Constant ref own takes = operates_alike heap.Constant ref own
    heap_alike (heap.ReadItem item) ref own takes = operates_alike (heap.ReadItem item) ref own
    heap_alike (heap.WriteItem item) ref own takes = operates_alike (heap.WriteItem item) ref own
    heap_alike (heap.Divide remainder) ref own takes = operates_alike (heap.Divide remainder) ref own
    heap_alike heap.ReadStatic ref own takes = operates_alike heap.ReadStatic ref own
    heap_alike heap.WriteStatic ref own takes = operates_alike heap.WriteStatic ref own
    heap_alike heap.ReadField ref own takes = operates_alike heap.ReadField ref own
    heap_alike heap.WriteField ref own takes = operates_alike heap.WriteField ref own
    heap_alike heap.New ref own takes = operates_alike heap.New ref own
    heap_alike (heap.NewArray kind) ref own takes = operates_alike (heap.NewArray kind) ref own
    heap_alike heap.NewArrayOf ref own takes = operates_alike heap.NewArrayOf ref own
    heap_alike heap.Length ref own takes = operates_alike heap.Length ref own
    heap_alike heap.Cast ref own takes = operates_alike heap.Cast ref own
    heap_alike heap.IsInstance ref own takes = operates_alike heap.IsInstance ref own

    insn_alike : (insn : Insn × Target) → NextAlike sites_of client woven frame next b.mirrors insn
        → Does (insn_stepped client machine a insn) (insn_stepped woven other o (aimed (fronts_of (sites_of b.mirrors.old)) insn.0, insn.1))
    insn_alike insn n =
        let its = roomy.methods frame.class frame.method b.mirrors.old b.mirrors.there in
        let own : NamesNoState insn.1 = all_get NamesNoState b.mirrors.old.refs frame.at insn.1 its.names n.ref in
        like_or Moves _ _ (heap_in (shape_of insn.0)) (heap_in (shape_of (aimed (fronts_of (sites_of b.mirrors.old)) insn.0))) _ _
        (heap_aimed (fronts_of (sites_of b.mirrors.old)) (length b.mirrors.old.insns) insn.0 (b.mirrors.laid.jumps frame.at insn.0 n.insn))
        (λ e. acts_alike (world_of machine) (world_of other) goes_here _ _ (stepped_alike sites_of client woven frame next b insn.0 n.insn))
        (λ what e. heap_alike what insn.1 own
        (λ to is static.
        its.calls frame.at insn.0 to (n.in_method ∙ ap (λ (r : Target). Some (insn.0, r)) is)
        (heap_shape (shape_of insn.0) what e ∙ ap shapes.Heap static)))

    pub frames_alike : Does (frames_stepped client machine number thread (frame ∷ below))
        (frames_stepped woven other number more (next ∷ others))
    frames_alike =
        alike_then (λ (x y : Insn × Target). (NextAlike sites_of client woven frame next b.mirrors x)
        × (y ≡ (aimed (fronts_of (sites_of b.mirrors.old)) x.0, x.1))) Moves _ _
        (insn_at client frame) (insn_at woven next)
        (alike_told _ _ _ (λ x e. let n = next_alike sites_of client woven frame next b x e in
        ((aimed (fronts_of (sites_of b.mirrors.old)) x.0, x.1), n.there, (n, refl))))
        (λ x y e f r. subst (λ (z : Insn × Target). Does (insn_stepped client machine a x) (insn_stepped woven other o z)) (sym r.1)
        (insn_alike x r.0))
