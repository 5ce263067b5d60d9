-- Arguments fit the locals of a typed client's methods, a frame under a handler has room, and nothing that is named is conspec/State.
use Rattle.std.proofs.Common.{
  ◌≡◌,
  ℕ,
  ◌+◌,
  ◌<◌,
  ◌≤◌,
  Bool,
  true,
  false,
  List,
  [],
  ◌∷◌,
  length,
  Some,
  ◌⊎◌,
  inl,
  inr,
  refl,
  sym,
  ap,
  ◌∙◌,
  arith,
  cond,
}
use Rattle.std.specs.Prelude.{Contains, find, nat_le, not, slice_get, ◌&&◌, ◌||◌}
use Rattle.std.specs.List.{list_all}
use Rattle.std.proofs.lemmas.Bool.{and_from, and_parts, le-leb, leb-true, lt-ltb}
use Rattle.std.proofs.lemmas.List.{length-map}
use Rattle.std.proofs.lemmas.List.Elements.{All-contains}
use Rattle.std.proofs.lemmas.List.Sums.{AllPass-from_list_all}
use Rattle.std.proofs.lemmas.Option.{slice_get-get_or, slice_get_within}
use Rattle.cert_format.specs.declared.typing.Typing.{Typing}
use Rattle.cert_format.specs.declared.typing.VType.{VType}
use Rattle.insn_codec.specs.declared.insn.Insn.{Insn}
use Rattle.insn_codec.specs.declared.insn.Insn.TheVariants as insns
use Rattle.insn_codec.specs.declared.shape.Heap.TheVariants as heap
use Rattle.insn_codec.specs.declared.shape.How.TheVariants as hows
use Rattle.insn_codec.specs.declared.shape.Shape.TheVariants as shapes
use Rattle.insn_codec.specs.Fits.{IsInsn}
use Rattle.insn_codec.specs.Shapes.{shape_of}
use Rattle.bytecode_model.specs.declared.operand.Use.{Use}
use Rattle.bytecode_model.specs.declared.operand.Use.TheVariants as uses
use Rattle.bytecode_model.specs.declared.program.LinkedClass.{LinkedClass}
use Rattle.bytecode_model.specs.declared.program.Method.{Method}
use Rattle.bytecode_model.specs.declared.program.Program.{Program}
use Rattle.bytecode_model.specs.declared.program.Target.{Target}
use Rattle.bytecode_model.specs.declared.program.Target.TheVariants as target
use Rattle.bytecode_model.specs.Described.{arguments}
use Rattle.bytecode_model.specs.Heads.{is_static}
use Rattle.bytecode_model.specs.Rules.{arguments_typed, covers, entry_locals, is_handled}
use Rattle.bytecode_model.specs.Targets.{Calls, IsMethodAt}
use Rattle.bytecode_model.specs.Typed.{place_at}
use Rattle.bytecode_model.specs.Uses.{UsesAreShaped, use_shaped}
use Rattle.guest_heap.specs.declared.frame.Frame.{Frame}
use Rattle.guest_model.specs.Calls.{arity}
use Rattle.guest_model.specs.Finding.{Given}
use Rattle.guest_model.specs.Places.{insn_in, method_at}
use Rattle.guest_model.specs.Throwing.{catches}
use Rattle.guest_model.proofs.Catching.{caught_at}
use Rattle.guest_model.proofs.Insns.{has_insn}
use Rattle.guest_model.proofs.Options.{all_get, and_then_of, some_is}
use Rattle.guest_erasing.specs.Mirrors.{HasRoomToCatch, TakesCalls, taken_locals}
use Rattle.guest_erasing.specs.Steps.{AreRoomy, IsRoomy, NamesNoState}
use Rattle.guest_erasing.proofs.Clients.{all_by_place}
use Rattle.guest_erasing.proofs.Names.{free_client}
use Rattle.typed_runs.specs.Frames.{Stands, stands_at}
use Rattle.typed_runs.specs.Programs.{IsTypedProgram}
use Rattle.typed_runs.proofs.Beginning.{static_has_code}
use Rattle.typed_runs.proofs.Calling.Passed.{many_arguments}
use Rattle.typed_runs.proofs.Rows.{begins, frames_at, method_is, method_sound, method_stands, rules}
use Rattle.block_runs.specs.Clients.{IsTypedClient}
use Rattle.block_runs.proofs.Clients.Linked.{listed_named, names_free}

-- what passes each test of a list passes the test of one of it
contained : {A : Type 0} (p : A → Bool) (xs : List A) (x : A) → list_all p xs ≡ true → Contains xs x → p x ≡ true
contained p xs x h c = All-contains (λ y. p y ≡ true) xs x (AllPass-from_list_all p xs h) c

insn_there : (list : List Insn) (at : ℕ) → at < length list → (insn : Insn) × (slice_get list at ≡ Some insn)
insn_there list at less = (_, slice_get-get_or list at (insns.Plain 0) less)

abbrev static_use : Use → Bool
static_use (uses.Call static of_interface) = static
static_use uses.Nothing = false
static_use uses.Load = false
static_use (uses.Field static writes) = false
static_use uses.New = false
static_use uses.Type = false

roomy_if : (covered roomy rest : Bool) → (not covered || (roomy && rest)) ≡ true → covered ≡ true → roomy ≡ true
roomy_if true true rest h c = refl
roomy_if true false rest h c = h
roomy_if false roomy rest h c = absurd cc

module _ (client : Program) (typing : Typing) (is : IsTypedClient client typing) where
  abbrev ok : IsTypedProgram client typing
  ok = is.program

  -- a method of the client, in its class
  in_class : (class method : ℕ) (m : Method) → method_at client class method ≡ Some m
      → (c : LinkedClass) × (slice_get client.classes class ≡ Some c) × (slice_get c.methods method ≡ Some m)
  in_class class method m e = and_then_of (λ (c : LinkedClass). slice_get c.methods method) (slice_get client.classes class) m e

  -- ---- arguments

  taken_so : (method : Method) (own : VType) → arity method.desc ≡ length (arguments method.desc)
      → taken_locals method ≡ length (cond (is_static method.flags) (arguments_typed method) (own ∷ arguments_typed method))
  taken_so method own many = by (is_static method.flags) where
    many_typed : arity method.desc ≡ length (arguments_typed method)
    many_typed = many ∙ sym (length-map (arguments method.desc) Rattle.bytecode_model.specs.Described.type_described)

    by : (b : Bool) → cond b (arity method.desc) (arity method.desc + 1) ≡ length
        (cond b (arguments_typed method) (own ∷ arguments_typed method))
    by true = many_typed
    by false = omega (arith, many_typed)

  -- arguments fit the locals of a method with code
  pub takes_calls : (class method : ℕ) (m : Method) → method_at client class method ≡ Some m → 0 < length m.insns
      → taken_locals m ≤ m.max_locals
  takes_calls class method m e code =
      let c = in_class class method m e in
      let b = begins client typing ok class method c.0 m c.1 c.2 code in
      let place = place_at client class c.0 m 0 b.insn in
      let fit : length (entry_locals place) ≤ m.max_locals = leb-true (length (entry_locals place)) m.max_locals
      (and_parts (nat_le (length (entry_locals place)) m.max_locals) _ b.entry).0 in
      let many = many_arguments m.desc (method_stands client typing ok class method c.0 m c.1 c.2).allowed.described in
      let same : taken_locals m ≡ length (entry_locals place) = taken_so m _ many in
      omega (arith, fit, same)

  code_or : (class method : ℕ) (m : Method) (insns : List Insn) → m.insns ≡ insns → method_at client class method ≡ Some m
      → (m.insns ≡ []) ⊎ (taken_locals m ≤ m.max_locals)
  code_or class method m [] none e = inl none
  code_or class method m (insn ∷ insns) some e =
      let long : length m.insns ≡ length (insn ∷ insns) = ap length some in
      inr (takes_calls class method m e (omega (arith, long)))

  module _ (shaped : UsesAreShaped) where
    -- what is called as static is static, so it has code
    static_called : (class method : ℕ) (m : Method) → method_at client class method ≡ Some m → (at : ℕ) (insn : Insn) (to : Given)
        → insn_in m at ≡ Some (insn, target.Method to.0 to.1) → shape_of insn ≡ shapes.Heap (heap.Call hows.Static) → TakesCalls client to
    static_called class method m e at insn to there shape callee f =
        let c = in_class class method m e in
        let i = has_insn m at insn (target.Method to.0 to.1) there in
        let calls : Calls client c.0 insn (target.Method to.0 to.1) =
        ok.links.linked.named class method at c.0 m insn (target.Method to.0 to.1) c.1 c.2 i.insn_there i.ref_there in
        let good : IsInsn insn = all_get IsInsn m.insns at insn
        (method_sound client typing ok class method c.0 m c.1 c.2).insns i.insn_there in
        let static : calls.static ≡ true = ap static_use (sym calls.calls ∙ shaped insn good ∙ ap use_shaped shape) in
        let declared : IsMethodAt client to.0 to.1 _ calls.static = calls.declared in
        let d = in_class to.0 to.1 callee f in
        let same_class : declared.class ≡ d.0 = some_is declared.class d.0 (sym declared.there ∙ d.1) in
        let same : declared.method ≡ callee =
        some_is declared.method callee (sym declared.here ∙ ap (λ (k : LinkedClass). slice_get k.methods to.1) same_class ∙ d.2) in
        let flags : is_static callee.flags ≡ true = ap (λ (x : Method). is_static x.flags) (sym same) ∙ declared.flags ∙ static in
        takes_calls to.0 to.1 callee f (static_has_code client typing ok to.0 to.1 d.0 callee d.1 d.2 flags)

    -- ---- names

    named_so : (class method : ℕ) (m : Method) → method_at client class method ≡ Some m → (at : ℕ) (insn : Insn) (ref : Target)
        → insn_in m at ≡ Some (insn, ref) → NamesNoState ref
    named_so class method m e at insn (target.ClassName name) there =
        free_client name (names_free client ok.links is.original class method at insn name (record { of = m; there = e; is = there }))
    named_so class method m e at insn target.None there = tt
    named_so class method m e at insn (target.ApiMethod index) there = tt
    named_so class method m e at insn (target.Builtin index) there = tt
    named_so class method m e at insn (target.Method of index) there = tt
    named_so class method m e at insn (target.Field of index) there = tt
    named_so class method m e at insn (target.ApiField index) there = tt
    named_so class method m e at insn (target.Number n) there = tt
    named_so class method m e at insn (target.Literal index) there = tt

    refs_named : (class method : ℕ) (m : Method) → method_at client class method ≡ Some m → (at : ℕ) (ref : Target)
        → slice_get m.refs at ≡ Some ref
        → NamesNoState ref
    refs_named class method m e at ref there =
        let c = in_class class method m e in
        let many = (method_sound client typing ok class method c.0 m c.1 c.2).refs in
        let within : at < length m.insns = omega (arith, slice_get_within m.refs at ref there, many) in
        let insn = insn_there m.insns at within in
        named_so class method m e at insn.0 ref (rw (insn.1, there) refl)

    method_roomy : (class method : ℕ) (m : Method) → method_at client class method ≡ Some m → IsRoomy client m
    method_roomy class method m e = record {
      arguments = code_or class method m m.insns refl e;
      calls = static_called class method m e;
      names = all_by_place NamesNoState m.refs (refs_named class method m e);
    }

    pub client_roomy : AreRoomy client
    client_roomy = record { methods = method_roomy; listed = listed_named client ok.links is.original }

  -- ---- handlers

  -- A frame that stands under a handler has room for what is caught.
  pub has_room : (frame : Frame) → Stands client typing frame → HasRoomToCatch client frame
  has_room frame s class handler e =
      let a = and_then_of (λ (m : Method). find (catches client frame.at class) m.handlers)
      (method_at client frame.class frame.method) handler e in
      let same : a.0 ≡ s.method = some_is a.0 s.method (sym a.1 ∙ method_is client typing ok frame s) in
      let found = ap (λ (m : Method). find (catches client frame.at class) m.handlers) (sym same) ∙ a.2 in
      let c = caught_at client frame.at class s.method.handlers handler found in
      let covered : covers frame.at handler ≡ true =
      and_from (nat_le handler.from frame.at) _ (le-leb handler.from frame.at c.1) (lt-ltb frame.at handler.to c.2) in
      let well = contained (is_handled (frames_at s) (stands_at s) s.type) s.method.handlers handler
      (rules client typing ok frame s).caught c.0 in
      let room : 1 ≤ s.method.max_stack =
      leb-true 1 s.method.max_stack (roomy_if (covers frame.at handler) (nat_le 1 s.method.max_stack) _ well covered) in
      let size : frame.stack.size ≡ s.method.max_stack = s.size in
      omega (arith, room, size)
