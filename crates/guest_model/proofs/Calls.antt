-- Calls that are ready are made.
use Rattle.std.proofs.Common.{
  ◌≡◌,
  ℕ,
  zero,
  suc,
  ◌+◌,
  ◌<◌,
  ◌≤◌,
  Bool,
  true,
  false,
  cond,
  List,
  [],
  ◌∷◌,
  length,
  drop,
  Option,
  Some,
  None,
  refl,
  sym,
  subst,
  ap,
  ◌∙◌,
  arith,
}
use Rattle.std.specs.Prelude.{◌&&◌, ◌||◌, IsSome, IsSomeAnd, is_some, nat_le, not, bytes_eq, slice_get, option_map, option_and_then}
use Rattle.std.specs.List.{AllByRecursion, position_from}
use Rattle.std.specs.Option.{option_map_or, option_or}
use Rattle.std.proofs.lemmas.Option.{cond_some, same_Some}
use Rattle.insn_codec.specs.declared.shape.How.{How}
use Rattle.insn_codec.specs.declared.shape.How.TheVariants as hows
use Rattle.bytecode_model.specs.declared.program.LinkedClass.{LinkedClass}
use Rattle.bytecode_model.specs.declared.program.Method.{Method}
use Rattle.bytecode_model.specs.declared.program.Program.{Program}
use Rattle.bytecode_model.specs.declared.program.Target.{Target}
use Rattle.bytecode_model.specs.declared.program.Target.TheVariants as target
use Rattle.bytecode_model.specs.Heads.{initialiser, is_synchronized, run_name, takes_nothing}
use Rattle.bytecode_model.specs.SearchOrder.{Name}
use Rattle.bytecode_model.specs.LinkedClasses.{AreLinkedClasses, IsLinkedMethod, is_main}
use Rattle.guest_heap.specs.declared.frame.Frame.{Frame}
use Rattle.guest_heap.specs.declared.object.Monitor.{Monitor}
use Rattle.guest_heap.specs.declared.object.Object.{Object}
use Rattle.guest_heap.specs.declared.thread.Thread.{Thread}
use Rattle.guest_heap.specs.declared.value.Value.{Value}
use Rattle.guest_heap.specs.declared.value.Value.TheVariants as values
use Rattle.guest_model.specs.declared.machine.Machine.{Machine}
use Rattle.guest_model.specs.Calls.{Taken, arity, taken}
use Rattle.guest_model.specs.Places.{method_at}
use Rattle.guest_frames.specs.Stepping.{after}
use Rattle.guest_model.specs.Parts.{number_in}
use Rattle.guest_frames.specs.Values.{is_null}
use Rattle.guest_model.proofs.Options.{and_then_of, map_of}
use Rattle.guest_model.specs.declared.builtin.Builtin.{Builtin}
use Rattle.guest_model.specs.declared.builtin.Builtin.TheVariants as builtins
use Rattle.guest_model.specs.Builtins.{builtin_at}
use Rattle.guest_model.specs.Calling.{
  Calling,
  aimed_at,
  aims,
  built_in,
  calls_given,
  calls_named,
  desc_named,
  enters_of,
  enters_on,
  goes_past,
  has_ended,
  is_static_call,
  joined,
  joins,
  lacked,
  on_receiver,
  run_of,
  runs,
  runs_object,
  runs_target,
  started,
  started_as,
  starts,
  stopped_by,
  target_of,
  thread_in,
  thread_of_value,
  waiting,
  with_changed,
}
use Rattle.guest_model.specs.Changes.{Change, World, enters_method, lock_of, lock_taken, with_heap, world_of}
use Rattle.guest_model.specs.Enabled.{
  call_waits,
  is_held_by_other,
  lock_of_call,
  lock_on,
  lock_wanted,
  thread_awaited,
  waits_for_monitor,
  waits_for_thread,
}
use Rattle.guest_model.specs.Finding.{
  Given,
  client_run,
  if_run,
  declared_in,
  declared_up,
  given_index,
  is_run,
  is_run_by_objects,
  method_itself,
  method_run,
  nearest_given,
}
use Rattle.guest_model.specs.Kinds.{class_of_value, is_thread}
use Rattle.guest_model.specs.Moving.{
  CallingSteps,
  HasOne,
  IsNumber,
  IsObject,
  IsOnObject,
  IsReadyToCall,
  IsReadyToRun,
  IsReceived,
  IsReference,
}
use Rattle.guest_model.proofs.Enabled.{IsOf, receiver_of}
use Rattle.guest_model.proofs.Moving.{after_some, free_entered, null_or, object_class, one_there}
use Rattle.guest_model.proofs.There.{cond_either, get_some, holds_there, map_some, then_some}
use Rattle.guest_model.proofs.HeapOperations.{number_some}

-- no other thread holds the lock, if there is one
abbrev IsFree : List Monitor → ℕ → Option Value → Type 0
IsFree monitors number lock = option_map_or (is_held_by_other monitors number) lock false ≡ false

-- ---- which methods are found

record Stands {A : Type 0} (p : A → Bool) (xs : List A) (k : ℕ) : Type 0 where
  pub item : A
  pub there : slice_get xs k ≡ Some item
  pub holds : p item ≡ true

later : {A : Type 0} (p : A → Bool) (x : A) (xs : List A) (j : ℕ) → Stands p xs j → Stands p (x ∷ xs) (suc j)
later p x xs j s = record { item = s.item; there = s.there; holds = s.holds }

found_or : {A : Type 0} (b : Bool) (p : A → Bool) (i : ℕ) (x : A) (xs : List A) (k : ℕ) → p x ≡ b
    → cond b (Some i) (position_from p (i + 1) xs) ≡ Some k
    → (position_from p (i + 1) xs ≡ Some k → (j : ℕ) × (k ≡ i + 1 + j) × Stands p xs j) → (j : ℕ) × (k ≡ i + j) × Stands p (x ∷ xs) j
found_or true p i x xs k is e rest =
    let same : i ≡ k = same_Some i k e in (0, omega (arith, same), record { item = x; there = refl; holds = is })
found_or false p i x xs k is e rest = let r = rest e in (suc r.0, omega (arith, r.1), later p x xs r.0 r.2)

found_at : {A : Type 0} (p : A → Bool) (i : ℕ) (xs : List A) (k : ℕ) → position_from p i xs ≡ Some k → (j : ℕ) × (k ≡ i + j) × Stands p xs j
found_at p i [] k e = absurd cc
found_at p i (x ∷ xs) k e = found_or (p x) p i x xs k refl e (found_at p (i + 1) xs k)

stands : {A : Type 0} (p : A → Bool) (xs : List A) (k : ℕ) → position_from p 0 xs ≡ Some k → Stands p xs k
stands p xs k e = let f = found_at p 0 xs k e in let same : f.0 ≡ k = omega (arith, f.1) in subst (Stands p xs) same f.2

-- the method of these indices, which has the name and the descriptor
record Named (program : Program) (name desc : Name) (to : Given) : Type 0 where
  pub method : Method
  pub there : method_at program to.0 to.1 ≡ Some method
  pub named : (bytes_eq method.name name && bytes_eq method.desc desc) ≡ true

module _ (program : Program) where
  up_or : (name desc : Name) (index : ℕ) (of : LinkedClass) (o : Option ℕ) (rest : Option Given) (to : Given)
      → slice_get program.classes index ≡ Some of
      → declared_in name desc of ≡ o → option_or (option_map (λ (method : ℕ). (index, method)) o) rest ≡ Some to
      → (rest ≡ Some to → Named program name desc to) → Named program name desc to
  up_or name desc index of None rest to there e f each = each f
  up_or name desc index of (Some k) rest to there e f each =
      let s : Stands _ of.methods k = stands _ of.methods k e in
      subst (Named program name desc) (same_Some {A = Given} (index, k) to f)
      (record { method = s.item; there = rw there s.there; named = s.holds })

  up_named : (n : ℕ) (name desc class : Name) (to : Given) → declared_up n program name desc class ≡ Some to → Named program name desc to
  up_named zero name desc class to e = absurd cc
  up_named (suc n) name desc class to e =
      let i = and_then_of _ (given_index program class) to e in
      let c = and_then_of _ (slice_get program.classes i.0) to i.2 in
      up_or name desc i.0 c.0 (declared_in name desc c.0) (declared_up n program name desc c.0.parent) to c.1 refl c.2
      (up_named n name desc c.0.parent to)

  counted_is : (o : Option Given) (to : Given) → if_run program o ≡ Some to → (o ≡ Some to) × (is_run_by_objects program to ≡ true)
  counted_is o to e =
      let f = and_then_of _ o to e in
      let c = cond_some (is_run_by_objects program f.0) f.0 to f.2 in
      (f.1 ∙ ap Some c.1, subst (λ (g : Given). is_run_by_objects program g ≡ true) c.1 c.0)

  counted_there : (o : Option Given) (to : Given) → if_run program o ≡ Some to → IsSome (method_at program to.0 to.1)
  counted_there o to e = holds_there _ (method_at program to.0 to.1) (counted_is o to e).1

  run_named : (class : Name) (to : Given) → client_run program class ≡ Some to → Named program run_name takes_nothing to
  run_named class to e =
      up_named (length program.classes) run_name takes_nothing class to
      (counted_is (nearest_given program run_name takes_nothing class) to e).0

  -- ---- methods that are entered

  enter_lock : (monitors : List Monitor) (number : ℕ) (lock : Option Value)
      → option_map_or (is_held_by_other monitors number) lock false ≡ false
      → IsSome (lock_taken monitors number lock)
  enter_lock monitors number None e = refl
  enter_lock monitors number (Some on) e = free_entered monitors number on e

  -- a method whose lock no other thread holds
  enters_free : (world : World) (number : ℕ) (thread : Thread) (frames : List Frame)
      → (to : Given) (receiver : Option Value) (arguments : List Value)
      → IsSome (method_at program to.0 to.1)
      → IsFree world.monitors number (lock_wanted program to receiver)
      → IsSome (enters_method program world number thread frames to receiver arguments)
  enters_free world number thread frames to receiver arguments there free =
      then_some _ (method_at program to.0 to.1) there
      (λ method e. then_some _ (lock_taken world.monitors number (lock_of program to.0 method receiver))
      (enter_lock world.monitors number (lock_of program to.0 method receiver)
      (subst (λ (o : Option Method). IsFree world.monitors number (option_and_then (λ (m : Method). lock_of program to.0 m receiver) o))
      e free))
      (λ held h. refl))

  all_get : (class : LinkedClass) (methods : List Method) (i : ℕ) (m : Method) → AllByRecursion (IsLinkedMethod program class) methods
      → slice_get methods i ≡ Some m
      → IsLinkedMethod program class m
  all_get class [] i m all e = absurd cc
  all_get class (n ∷ methods) zero m all e = subst (IsLinkedMethod program class) (same_Some n m e) all.0
  all_get class (n ∷ methods) (suc i) m all e = all_get class methods i m all.1 e

  unlocked_of : (s x y z : Bool) → (s && (x || (y || z))) ≡ false → z ≡ true → s ≡ false
  unlocked_of false x y z e h = refl
  unlocked_of true true y z e h = absurd cc
  unlocked_of true false true z e h = absurd cc
  unlocked_of true false false z e h = absurd cc

  lock_none : (b : Bool) (monitors : List Monitor) (number : ℕ) (on : Value) → b ≡ false
      → option_map_or (is_held_by_other monitors number) (cond b (Some on) None) false ≡ false
  lock_none true monitors number on e = absurd cc
  lock_none false monitors number on e = refl

  -- a `run` takes no lock
  run_free : (monitors : List Monitor) (number : ℕ) (to : Given) (receiver : Option Value) → AreLinkedClasses program
      → Named program run_name takes_nothing to
      → option_map_or (is_held_by_other monitors number) (lock_wanted program to receiver) false ≡ false
  run_free monitors number to receiver standing named =
      let c = and_then_of (λ (c : LinkedClass). slice_get c.methods to.1) (slice_get program.classes to.0) named.method named.there in
      let allowed = (all_get c.0 c.0.methods to.1 named.method (standing to.0 c.0 c.1).methods c.2).allowed in
      let unlocked = unlocked_of (is_synchronized named.method.flags) (is_main named.method)
      (bytes_eq named.method.name initialiser) _ allowed.unlocked named.named in
      rw named.there (lock_none (is_synchronized named.method.flags) monitors number _ unlocked)

  run_enters : (world : World) (number : ℕ) (thread : Thread) (frames : List Frame) (class : Name)
      → (to : Given) (receiver : Option Value) (arguments : List Value)
      → AreLinkedClasses program → client_run program class ≡ Some to
      → IsSome (enters_method program world number thread frames to receiver arguments)
  run_enters world number thread frames class to receiver arguments standing e =
      enters_free world number thread frames to receiver arguments (counted_there (nearest_given program run_name takes_nothing class) to e)
      (run_free world.monitors number to receiver standing (run_named class to e))

-- ---- receivers

received : (P : Value → Type 0) (o : Option Value) (thrown : Option Change) (f : Value → Option Change) → IsSome thrown → IsSomeAnd o P
    → ((v : Value) → o ≡ Some v → P v → is_null v ≡ false → IsSome (f v))
    → IsSome (option_and_then (λ (v : Value). cond (is_null v) thrown (f v)) o)
received P None thrown f t h each = absurd h
received P (Some v) thrown f t h each = null_or (is_null v) thrown (f v) t (λ e. each v refl h e)

thread_there : (heap : List Object) (v : Value) → IsObject heap v → is_null v ≡ false → IsSome (thread_of_value heap v)
thread_there heap (values.Int n) h e = absurd h
thread_there heap values.Null h e = absurd cc
thread_there heap (values.Ref at) h e = map_some thread_in (slice_get heap at) (get_some heap at h)
thread_there heap (values.Class index) h e = refl
thread_there heap (values.Lit index) h e = refl

module _ (program : Program) (machine : Machine) (standing : AreLinkedClasses program) (c : Calling)
    (room : length c.passed.beneath ≤ c.frame.stack.size) where
  past : (world : World) → IsSome (goes_past world c [])
  past world = map_some _ (after c.frame c.passed.beneath) (after_some c.frame c.passed.beneath room)

  -- ---- calls of `run`

  run_case : (world : World) (on : Value) (o : Option (Given × Value)) → run_of program world.heap on ≡ o → IsSome (runs program world c o)
  run_case world on None e = past world
  run_case world on (Some r) e =
      let k = and_then_of _ (class_of_value world.heap on) r e in
      let t = and_then_of _ (client_run program k.0) r k.2 in
      let same : t.0 ≡ r.0 = ap (λ (x : Given × Value). x.0) (same_Some {A = Given × Value} (t.0, on) r t.2) in
      run_enters program world c.number c.thread (waiting c) k.0 r.0 (Some r.1) [] standing (t.1 ∙ ap Some same)

  runs_target_some : (world : World) (on : Value) → IsSome (runs_target program world c on)
  runs_target_some world on =
      cond_either (option_map_or (is_thread program) (class_of_value world.heap on) false) _ _
      (run_case world (target_of world.heap on) (run_of program world.heap (target_of world.heap on)) refl) (past world)

  own_or : (world : World) (on : Value) (o : Option (Given × Value)) → run_of program world.heap on ≡ o
      → IsSome (option_map_or (λ (run : Given × Value). runs program world c (Some run)) o (runs_target program world c on))
  own_or world on None e = runs_target_some world on
  own_or world on (Some r) e = run_case world on (Some r) e

  runs_object_some : (world : World) (how : How) (on : Value) → IsOnObject how → IsSome (runs_object program world c how on)
  runs_object_some world hows.Special on h = runs_target_some world on
  runs_object_some world hows.Virtual on h = own_or world on (run_of program world.heap on) refl
  runs_object_some world hows.Interface on h = own_or world on (run_of program world.heap on) refl
  runs_object_some world hows.Static on h = absurd h

  -- ---- calls of given methods

  lacked_some : (world : World) (how : How) (method : Method) (on : Value) → IsOnObject how → IsSome (lacked program world c how method on)
  lacked_some world hows.Virtual method on h = cond_either (is_run method) _ _ (runs_target_some world on) refl
  lacked_some world hows.Interface method on h = cond_either (is_run method) _ _ (runs_target_some world on) refl
  lacked_some world hows.Special method on h = refl
  lacked_some world hows.Static method on h = absurd h

  method_there : (how : How) (to : Given) (method : Method) (class : Name) (f : Given) → IsOnObject how
      → method_run program c.frame.class how to method class ≡ Some f → IsSome (method_at program f.0 f.1)
  method_there hows.Virtual to method class f h e = counted_there program (nearest_given program method.name method.desc class) f e
  method_there hows.Interface to method class f h e = counted_there program (nearest_given program method.name method.desc class) f e
  method_there hows.Special to method class f h e = counted_there program (method_itself program c.frame.class to method) f e
  method_there hows.Static to method class f h e = absurd h

  abbrev enters_found : Given → Option Change
  enters_found f = enters_method program (world_of machine) c.number c.thread (waiting c) f c.passed.receiver c.passed.arguments

  found_enters : (how : How) (method : Method) (on : Value) (o : Option Given) → IsOnObject how → c.passed.receiver ≡ Some on
      → ((f : Given) → o ≡ Some f → IsSome (method_at program f.0 f.1))
      → IsFree machine.monitors c.number (option_and_then (λ (f : Given). lock_wanted program f (Some on)) o)
      → IsSome (option_map_or enters_found o (lacked program (world_of machine) c how method on))
  found_enters how method on None h r there free = lacked_some (world_of machine) how method on h
  found_enters how method on (Some f) h r there free =
      enters_free program (world_of machine) c.number c.thread (waiting c) f c.passed.receiver c.passed.arguments (there f refl)
      (subst (λ (receiver : Option Value). IsFree machine.monitors c.number (lock_wanted program f receiver)) (sym r) free)

  live_free : (b : Bool) (o : Option Value) → b ≡ false → waits_for_monitor machine c.number (cond b None o) ≡ false
      → waits_for_monitor machine c.number o ≡ false
  live_free true o e free = absurd cc
  live_free false o e free = free

  -- the lock of the method that is found
  abbrev lock_found : How → Given → Method → Value → Name → Option Value
  lock_found how to method on class =
      option_and_then (λ (f : Given). lock_wanted program f (Some on)) (method_run program c.frame.class how to method class)

  -- the lock of a call on this receiver is free
  abbrev CallIsFree : How → Given → Method → Option Value → Type 0
  CallIsFree how to method receiver =
      IsFree machine.monitors c.number (lock_of_call program machine.heap c.frame.class how to method receiver)

  free_of : (how : How) (to : Given) (method : Method) (on : Value) (class : Name) → class_of_value machine.heap on ≡ Some class
      → is_null on ≡ false
      → waits_for_monitor machine c.number (lock_of_call program machine.heap c.frame.class how to method (Some on)) ≡ false
      → IsFree machine.monitors c.number (lock_found how to method on class)
  free_of how to method on class k lives free =
      subst
      (λ (o : Option Name). IsFree machine.monitors c.number (option_and_then (lock_found how to method on) o))
      k (live_free (is_null on) (lock_on program machine.heap c.frame.class how to method on) lives free)

  instance_enters : (how : How) (to : Given) (method : Method) → IsOnObject how → IsSomeAnd c.passed.receiver (IsObject machine.heap)
      → waits_for_monitor machine c.number (lock_of_call program machine.heap c.frame.class how to method c.passed.receiver) ≡ false
      → IsSome (on_receiver program (world_of machine) c (enters_on program (world_of machine) c how to method))
  instance_enters how to method h r free =
      received (IsObject machine.heap) c.passed.receiver _ (enters_on program (world_of machine) c how to method) refl r
      (λ on e is lives. then_some (enters_of program (world_of machine) c how to method on) (class_of_value machine.heap on)
      (object_class machine.heap on is lives)
      (λ class k. found_enters how method on (method_run program c.frame.class how to method class) h e
      (λ f g. method_there how to method class f h g)
      (free_of how to method on class k lives (subst (CallIsFree how to method) e free))))

  given_enters : (how : How) (to : Given) (method : Method) → IsSome (method_at program to.0 to.1) → IsReceived machine.heap how c.passed
      → IsOf program machine how c
      → waits_for_monitor machine c.number (lock_of_call program machine.heap c.frame.class how to method c.passed.receiver) ≡ false
      → IsSome (calls_given program (world_of machine) c how to method)
  given_enters hows.Static to method there r none free =
      enters_free program (world_of machine) c.number c.thread (waiting c) to None c.passed.arguments there
      (subst (CallIsFree hows.Static to method) none free)
  given_enters hows.Virtual to method there r none free = instance_enters hows.Virtual to method tt r free
  given_enters hows.Special to method there r none free = instance_enters hows.Special to method tt r free
  given_enters hows.Interface to method there r none free = instance_enters hows.Interface to method tt r free

  -- ---- calls of built-in methods

  started_some : (on : Value) (o : Option ℕ) → IsSome (started program machine c on o)
  started_some on (Some number) = refl
  started_some on None =
      map_some _ (goes_past (with_heap (world_of machine) (with_changed machine.heap on (started_as (length machine.threads)))) c [])
      (past _)

  ended_or : (b : Bool) (o : Option Change) → not b ≡ false → IsSome o → IsSome (cond b o None)
  ended_or true o e h = h
  ended_or false o e h = absurd cc

  joined_some : (o : Option ℕ) → waits_for_thread machine o ≡ false → IsSome (joined machine c o)
  joined_some None e = past (world_of machine)
  joined_some (Some n) e = ended_or (has_ended machine n) _ e (past (world_of machine))

  exit_some : (arguments : List Value) → HasOne IsNumber arguments
      → IsSome (option_and_then (stopped_by (world_of machine) c) (option_and_then number_in (slice_get arguments 0)))
  exit_some [] h = absurd h
  exit_some (v ∷ others) h =
      then_some (stopped_by (world_of machine) c) (number_in v) (number_some v h)
      (λ n e. map_some _ (goes_past (world_of machine) c []) (past (world_of machine)))

  aims_some : (on : Value) → HasOne IsReference c.passed.arguments → IsSome (aims (world_of machine) c on)
  aims_some on h =
      then_some _ (slice_get c.passed.arguments 0) (one_there IsReference c.passed.arguments h)
      (λ to e. past (with_heap (world_of machine) (with_changed machine.heap on (aimed_at to))))

  awaited_free : (on : Value) (o : Option ℕ) → thread_of_value machine.heap on ≡ Some o
      → waits_for_thread machine (thread_awaited machine.heap builtins.Join (Some on)) ≡ false → waits_for_thread machine o ≡ false
  awaited_free on o k free =
      subst (λ (t : Option (Option ℕ)). waits_for_thread machine (option_and_then (λ (number : Option ℕ). number) t) ≡ false) k free

  -- the thread that `join` waits for on this receiver has ended
  abbrev JoinIsFree : Option Value → Type 0
  JoinIsFree receiver = waits_for_thread machine (thread_awaited machine.heap builtins.Join receiver) ≡ false

  module _ (one : (v : Value) → c.passed.receiver ≡ Some v → length c.passed.beneath < c.frame.stack.size) where
    built_in_some : (how : How) (what : Builtin) → IsReadyToRun machine.heap how what c.passed
        → waits_for_thread machine (thread_awaited machine.heap what c.passed.receiver) ≡ false
        → IsSome (built_in program machine c how what)
    built_in_some how builtins.Make h free = past (world_of machine)
    built_in_some how builtins.MakeOn h free =
        received IsReference c.passed.receiver _ (aims (world_of machine) c) refl h.0 (λ on e is lives. aims_some on h.1)
    built_in_some how builtins.Start h free =
        received (IsObject machine.heap) c.passed.receiver _ (starts program machine c) refl h
        (λ on e is lives. then_some (started program machine c on) (thread_of_value machine.heap on) (thread_there machine.heap on is lives)
        (λ o k. started_some on o))
    built_in_some how builtins.Run h free =
        received (IsObject machine.heap) c.passed.receiver _ (runs_object program (world_of machine) c how) refl h.1
        (λ on e is lives. runs_object_some (world_of machine) how on h.0)
    built_in_some how builtins.Join h free =
        received (IsObject machine.heap) c.passed.receiver _ (joins machine c) refl h
        (λ on e is lives. then_some (joined machine c) (thread_of_value machine.heap on) (thread_there machine.heap on is lives)
        (λ o k. joined_some o (awaited_free on o k (subst JoinIsFree e free))))
    built_in_some how builtins.Exit h free = exit_some c.passed.arguments h
    built_in_some how builtins.Length h free =
        received IsReference c.passed.receiver _ _ refl h
        (λ on e is lives. map_some _ (after c.frame (_ ∷ c.passed.beneath))
        (after_some c.frame (_ ∷ c.passed.beneath) (omega (arith, one on e))))

-- ---- what a call leaves on the stack

drop_le : (n : ℕ) (xs : List Value) → length (drop n xs) ≤ length xs
drop_le zero xs = omega arith
drop_le (suc n) [] = omega arith
drop_le (suc n) (x ∷ xs) = omega (arith, drop_le n xs)

drop_past : (n : ℕ) (xs : List Value) (v : Value) → slice_get xs n ≡ Some v → length (drop (suc n) xs) < length xs
drop_past n [] v e = absurd cc
drop_past zero (x ∷ xs) v e = omega arith
drop_past (suc n) (x ∷ xs) v e = omega (arith, drop_past n xs v e)

past_one : (n : ℕ) (xs : List Value) (v : Value) → slice_get xs n ≡ Some v → length (drop (n + 1) xs) < length xs
past_one n xs v e = let next : suc n ≡ n + 1 = omega arith in subst (λ (k : ℕ). length (drop k xs) < length xs) next (drop_past n xs v e)

static_left : (n : ℕ) (stack : List Value) (passed : Taken) → taken true n stack ≡ Some passed → length passed.beneath ≤ length stack
static_left n stack passed e =
    subst (λ (t : Taken). length t.beneath ≤ length stack) (cond_some (nat_le n (length stack)) _ passed e).1 (drop_le n stack)

static_without : (n : ℕ) (stack : List Value) (passed : Taken) → taken true n stack ≡ Some passed → passed.receiver ≡ None
static_without n stack passed e = ap (λ (t : Taken). t.receiver) (sym (cond_some (nat_le n (length stack)) _ passed e).1)

instance_left : (n : ℕ) (stack : List Value) (passed : Taken) → taken false n stack ≡ Some passed → length passed.beneath < length stack
instance_left n stack passed e =
    let r = map_of _ (slice_get stack n) passed e in
    subst (λ (t : Taken). length t.beneath < length stack) r.2 (past_one n stack r.0 r.1)

room_of : (b : Bool) (n size : ℕ) (stack : List Value) (passed : Taken) → length stack ≤ size → taken b n stack ≡ Some passed
    → length passed.beneath ≤ size
room_of true n size stack passed within e = omega (arith, static_left n stack passed e)
room_of false n size stack passed within e = omega (arith, instance_left n stack passed e)

one_of : (b : Bool) (n size : ℕ) (stack : List Value) (passed : Taken) (v : Value) → length stack ≤ size → taken b n stack ≡ Some passed
    → passed.receiver ≡ Some v → length passed.beneath < size
one_of true n size stack passed v within e r = let none : passed.receiver ≡ None = static_without n stack passed e in absurd cc
one_of false n size stack passed v within e r = omega (arith, instance_left n stack passed e)

-- ---- calls by what they name

both_then : {A B : Type 0} (P : A → Type 0) (q : A → Bool) (o : Option A) (f : A → Option B) → IsSomeAnd o P
    → option_map_or q o false ≡ false
    → ((x : A) → P x → q x ≡ false → IsSome (f x)) → IsSome (option_and_then f o)
both_then P q None f h e each = absurd h
both_then P q (Some x) f h e each = each x h e

map_there : {A B : Type 0} (f : A → B) (o : Option A) → IsSome (option_map f o) → IsSome o
map_there f None h = absurd cc
map_there f (Some x) h = refl

pub then_at : {A B : Type 0} (f : A → Option B) (o : Option A) (x : A) → o ≡ Some x → IsSome (f x) → IsSome (option_and_then f o)
then_at f o x e h = subst (λ (p : Option _). IsSome (option_and_then f p)) (sym e) h

is_there : {A : Type 0} (o : Option A) (x : A) → o ≡ Some x → IsSome o
is_there o x e = ap is_some e

module _ (program : Program) (machine : Machine) (standing : AreLinkedClasses program) (c : Calling)
    (room : length c.passed.beneath ≤ c.frame.stack.size)
    (one : (v : Value) → c.passed.receiver ≡ Some v → length c.passed.beneath < c.frame.stack.size) where
  -- a call of this method on this receiver waits
  abbrev method_waits : How → Given → Method → Option Value → Bool
  method_waits how to m receiver = waits_for_monitor machine c.number (lock_of_call program machine.heap c.frame.class how to m receiver)

  named_some : (how : How) (ref : Target) → IsSome (desc_named program ref) → IsReadyToCall machine.heap how ref c.passed
      → IsOf program machine how c
      → call_waits program machine c.number c.frame.class how ref c.passed ≡ false → IsSome (calls_named program machine c how ref)
  named_some how (target.ApiMethod index) d h of free = refl
  named_some how (target.Builtin index) d h of free =
      both_then (λ (what : Builtin). IsReadyToRun machine.heap how what c.passed) _ (builtin_at index)
      (built_in program machine c how) h free
      (λ what ready waits. built_in_some program machine standing c room one how what ready waits)
  named_some how (target.Method class method) d h of free =
      let there : IsSome (method_at program class method) = map_there _ (method_at program class method) d in
      then_some (calls_given program (world_of machine) c how (class, method)) (method_at program class method) there
      (λ m e. given_enters program machine standing c room how (class, method) m there h of
      (subst
      (λ (o : Option Method). option_map_or (λ (m : Method). method_waits how (class, method) m c.passed.receiver) o false ≡ false)
      e free))
  named_some how target.None d h of free = absurd h
  named_some how (target.Field class field) d h of free = absurd h
  named_some how (target.ApiField index) d h of free = absurd h
  named_some how (target.ClassName name) d h of free = absurd h
  named_some how (target.Number n) d h of free = absurd h
  named_some how (target.Literal index) d h of free = absurd h

pub calling_steps : CallingSteps
calling_steps program machine a how ref passed standing within p h free =
    let d = and_then_of _ (desc_named program ref) passed p in
    let c : Calling = record { number = a.number; thread = a.thread; frame = a.frame; below = a.below; passed = passed } in
    let waits : call_waits program machine a.number a.frame.class how ref passed ≡ false =
    subst (λ (o : Option Taken). option_map_or (call_waits program machine a.number a.frame.class how ref) o false ≡ false) p free in
    then_at _ (desc_named program ref) d.0 d.1
    (then_at _ (taken (is_static_call how) (arity d.0) a.frame.stack.items) passed d.2
    (named_some program machine standing c
    (room_of (is_static_call how) (arity d.0) a.frame.stack.size a.frame.stack.items passed within d.2)
    (λ v r. one_of (is_static_call how) (arity d.0) a.frame.stack.size a.frame.stack.items passed v within d.2 r)
    how ref (is_there (desc_named program ref) d.0 d.1) h (receiver_of program machine how (arity d.0) c a.frame.stack.items d.2) waits))
