-- The places of a woven method, the frames at their fronts, and the rows of the client's instructions without a block.
use Rattle.std.proofs.Common.{◌≡◌, ℕ, zero, suc, ◌+◌, ◌<◌, ◌≤◌, Bool, true, false, cond, List, [], ◌∷◌, length, map, Option, Some, None, refl, sym, ap, ◌∙◌, inl, inr, arith}
use Rattle.std.specs.Prelude.{◌==◌, nat_le, slice_get, option_map, option_and_then}
use Rattle.std.specs.List.{list_all}
use Rattle.std.specs.Option.{option_map_or}
use Rattle.std.proofs.lemmas.Bool.{cases_Bool, leb-true, le-leb, eqb-true, and_parts}
use Rattle.std.proofs.lemmas.Option.{slice_get_within}
use Rattle.class_codec.specs.Pool.{reference_at}
use Rattle.cert_format.specs.declared.typing.FrameType.{FrameType}
use Rattle.cert_format.specs.declared.typing.VType.{VType}
use Rattle.insn_codec.specs.declared.insn.Insn.{Insn}
use Rattle.insn_codec.specs.declared.shape.Heap.TheVariants as heap
use Rattle.insn_codec.specs.declared.shape.Shape.TheVariants as shapes
use Rattle.insn_codec.specs.Fits.{AimsWithin}
use Rattle.insn_codec.specs.Control.{successors}
use Rattle.insn_codec.specs.Shapes.{shape_of}
use Rattle.bytecode_model.specs.declared.program.Program.{Program}
use Rattle.bytecode_model.specs.declared.program.Target.{Target}
use Rattle.bytecode_model.specs.declared.program.Target.TheVariants as target
use Rattle.bytecode_model.specs.Makes.{stack_after}
use Rattle.bytecode_model.specs.InsnPlace.{InsnPlace, target_or_none}
use Rattle.bytecode_model.specs.Rules.{Entry, Frames, Successor, frame_of, goes_well, is_alone, row_failing, stack_fits}
use Rattle.bytecode_model.specs.Typed.{row_in, place_at}
use Rattle.bytecode_model.specs.Wants.{takes}
use Rattle.bytecode_model.proofs.Lists.{all_get}
use Rattle.conspec_automaton.specs.Next.{has_clauses}
use Rattle.offset_patch.specs.Splicing.{aimed}
use Rattle.block_template.specs.declared.item.Item.{Item}
use Rattle.block_template.specs.declared.item.Role.TheVariants as roles
use Rattle.block_template.specs.Blocks.{bools_of, clauses_of, has_block}
use Rattle.block_template.specs.Flow.{entered}
use Rattle.block_template.specs.Frames.{Around, frame_at}
use Rattle.block_template.proofs.BlockFlows.{blocks_flow}
use Rattle.block_template.proofs.ItemsTyped.{clauses_are_asked}
use Rattle.woven_typing.specs.Framing.{around_of, frames_woven, items_of, low, insn_place}
use Rattle.woven_typing.specs.Renaming.{frame_renamed}
use Rattle.class_weaving.proofs.Bodies.{next_front, same_length}
use Rattle.woven_typing.proofs.Aiming.{has_shape, opcode_stays, index_stays, successors_moved}
use Rattle.woven_typing.proofs.Body as of
use Rattle.woven_typing.proofs.Body.{Body}
use Rattle.block_template.proofs.Calling.{count_is}
use Rattle.woven_typing.proofs.Frames as frames
use Rattle.woven_typing.proofs.Fronts.{IsFrontOf, entered_is, entry_front, front_itself, goes_front}
use Rattle.woven_typing.proofs.Kept.{IsKept, and_kept}
use Rattle.woven_typing.proofs.Larger.{assigns_kept}
use Rattle.class_weaving.proofs.Lists.{slice_there}
use Rattle.woven_typing.proofs.News.{news}
use Rattle.bytecode_model.proofs.Passing.{Passes, passes}
use Rattle.woven_typing.proofs.Rows.{entry_kept, goes_kept}

-- ---- lists and tests

same_height : (program : Program) (from to : List VType) → stack_fits program from to ≡ true → length from ≡ length to
same_height program [] [] e = refl
same_height program [] (t ∷ to) e = absurd cc
same_height program (t ∷ from) [] e = absurd cc
same_height program (t ∷ from) (u ∷ to) e = ap suc (same_height program from to (and_parts _ (stack_fits program from to) e).1)

pub alone_height : (class : List ℕ) (stack : List VType) → is_alone class stack ≡ true → length stack ≡ 1
alone_height class [] e = absurd cc
alone_height class (t ∷ []) e = refl
alone_height class (t ∷ u ∷ stack) e = absurd cc

all_map : {A B : Type 0} (p : A → Bool) (q : B → Bool) (f : A → B) → ((x : A) → p x ≡ true → q (f x) ≡ true) → (xs : List A)
    → list_all p xs ≡ true → list_all q (map f xs) ≡ true
all_map p q f also [] e = refl
all_map p q f also (x ∷ xs) e = and_kept (p x) (list_all p xs) _ _ (also x) (all_map p q f also xs) e

-- A method of a typed program.
pub record Typed : Type 0 where
  pub body : Body
  pub frames : Frames
  pub told : length frames ≡ length body.method.insns
  pub met : (at : ℕ) → at < length body.method.insns → row_in body.old body.own body.class body.method frames at ≡ None

frame_is : (frames : Frames) (i : ℕ) (f : FrameType) → frame_of frames i ≡ Some f → slice_get frames i ≡ Some (Some f)
frame_is [] i f e = absurd cc
frame_is (x ∷ frames) zero f e = ap Some e
frame_is (x ∷ frames) (suc i) f e = frame_is frames i f e

module _ (t : Typed) where
  abbrev pub b : Body
  b = t.body

  abbrev pub moved : ℕ → ℕ
  moved i = of.moved b i

  abbrev pub woven : Frames
  woven = frames_woven (of.client b) t.frames

  abbrev pub here : ℕ → Insn → Target → InsnPlace
  here at x r = record { program = b.new; own = b.own; class = b.other; method = b.made; at = at; insn = x; ref = r }

  abbrev pub old : ℕ → Insn → Target → InsnPlace
  old at x r = insn_place (of.client b) at x r

  -- the client's instruction, with its targets at their fronts
  abbrev pub aim : Insn → Insn
  aim insn = aimed (of.fronts b) insn

  pub row_here : (at : ℕ) (x : Insn) (r : Target) (y : Option FrameType) → slice_get b.made.insns at ≡ Some x → slice_get b.made.refs at ≡ Some r
      → frame_of woven at ≡ y → row_failing woven (here at x r) y ≡ None → row_in b.new b.own b.other b.made woven at ≡ None
  row_here at x r y e f g row =
      ap (option_and_then (λ (i : Insn). row_failing woven (place_at b.new b.own b.other b.made at i) (frame_of woven at))) e
      ∙ ap (λ (s : Target). row_failing woven (here at x s) (frame_of woven at)) (ap target_or_none f)
      ∙ ap (row_failing woven (here at x r)) g ∙ row

  pub row_of : (i : ℕ) (insn : Insn) (ref : Target) (f : FrameType) → slice_get b.method.insns i ≡ Some insn → slice_get b.method.refs i ≡ Some ref
      → frame_of t.frames i ≡ Some f → Passes t.frames (old i insn ref) f
  row_of i insn ref f e r g =
      passes t.frames (old i insn ref) f
      (sym
      (ap (option_and_then (λ (x : Insn). row_failing t.frames (place_at b.old b.own b.class b.method i x) (frame_of t.frames i))) e
      ∙ ap (λ (s : Target). row_failing t.frames (old i insn s) (frame_of t.frames i)) (ap target_or_none r)
      ∙ ap (row_failing t.frames (old i insn ref)) g)
      ∙ t.met i (slice_get_within b.method.insns i insn e))

  -- ---- the client's instruction, elsewhere

  pub kept_at : (i m : ℕ) (insn : Insn) (ref : Target) → slice_get b.method.insns i ≡ Some insn
      → (shape_of insn ≡ shapes.Heap heap.New → m ≡ moved i) → IsKept moved (old i insn ref) (here m (aim insn) ref)
  kept_at i m insn ref e at =
      let shape = has_shape (of.fronts b) insn in
      record {
        once = of.moved_once b;
        assigns = assigns_kept b.old b.new b.larger moved;
        own = refl;
        class = b.of_class.name;
        parent = b.of_class.parent;
        name = b.of_method.name;
        desc = b.of_method.desc;
        flags = b.of_method.flags;
        stack = of.stack_more b;
        locals = of.locals_more b;
        news = news b;
        at = at;
        opcode = opcode_stays (of.fronts b) insn;
        to = shape.to;
        shape = shape.is;
        reference = ap (reference_at b.other.file.pool) (index_stays (of.fronts b) insn) ∙ b.references i insn e;
        ref = refl;
      }

  -- ---- frames at fronts

  abbrev pub again : FrameType → FrameType
  again f = frame_renamed moved f

  pub low_is : (f : FrameType) → length f.stack ≤ b.method.max_stack → low b.method.max_stack (Some f) ≡ Some f
  low_is f le = ap (λ (c : Bool). cond c (Some f) None) (le-leb (length f.stack) b.method.max_stack le)

  -- A front, with the types that are there.
  pub record FrontAt (i : ℕ) (f : FrameType) : Type 0 where
    pub types : FrameType
    pub told : frame_of woven (of.front b i + 0) ≡ Some types
    pub front : IsFrontOf (again f) types

  module _ (i : ℕ) (insn : Insn) (f : FrameType) (there : slice_get b.method.insns i ≡ Some insn)
      (typed_here : slice_get t.frames i ≡ Some (Some f)) (few : length f.stack ≤ b.method.max_stack) where
    front_alone : (ref : Target) → slice_get b.method.refs i ≡ Some ref → has_block b.policy ref ≡ false → FrontAt i f
    front_alone ref names none = record {
      types = again f;
      told =
          frames.frame_alone b t.frames i insn ref (Some f) there names typed_here none (of.some b ref)
          ∙ ap (option_map (frame_renamed moved)) (low_is f few);
      front = front_itself (again f);
    }

    -- the types around a call
    abbrev around : Target → Around
    around ref = around_of moved (old i insn ref) f

    front_block : (callee : ℕ) → slice_get b.method.refs i ≡ Some (target.ApiMethod callee) → has_clauses b.policy callee ≡ true → FrontAt i f
    front_block callee names has =
        let ref : Target = target.ApiMethod callee in
        let clauses = clauses_of b.policy callee in
        let flows = blocks_flow b.mode (bools_of b.policy) (of.base b) clauses (clauses_are_asked b.policy callee b.read).phases in
        let some : 0 < length (items_of b.policy b.mode (of.base b) callee) =
        omega (arith, count_is b.mode (bools_of b.policy) (of.base b) clauses) in
        let first = slice_there (items_of b.policy b.mode (of.base b) callee) 0 some in
        let role : first.0.role ≡ entered b.mode clauses.before =
        sym (ap (λ (o : Option Item). option_map_or (λ (x : Item). x.role) o roles.Leave) first.1) ∙ flows.begins in
        let enters = entered_is clauses (around ref) b.mode in
        record {
          types = enters.types;
          told =
              frames.frame_item b t.frames i callee insn (Some f) there names typed_here has 0 first.0 first.1
              ∙ ap (λ (o : Option FrameType). option_and_then (λ g. frame_at clauses (around_of moved (old i insn ref) g) first.0.role) o) (low_is f few)
              ∙ ap (frame_at clauses (around ref)) role ∙ enters.told;
          front = enters.front;
        }

    front_of : (ref : Target) → slice_get b.method.refs i ≡ Some ref → FrontAt i f
    front_of (target.ApiMethod callee) names =
        elim (cases_Bool (has_clauses b.policy callee)) [
          | inl has ↦ front_block callee names has
          | inr none ↦ front_alone (target.ApiMethod callee) names none
        ]
    front_of target.None names = front_alone target.None names refl
    front_of (target.Builtin j) names = front_alone (target.Builtin j) names refl
    front_of (target.Method c m) names = front_alone (target.Method c m) names refl
    front_of (target.Field c g) names = front_alone (target.Field c g) names refl
    front_of (target.ApiField j) names = front_alone (target.ApiField j) names refl
    front_of (target.ClassName name) names = front_alone (target.ClassName name) names refl
    front_of (target.Number n) names = front_alone (target.Number n) names refl
    front_of (target.Literal j) names = front_alone (target.Literal j) names refl

  -- Before an instruction that is reached stands what it had.
  pub frame_front : (i : ℕ) (f : FrameType) → frame_of t.frames i ≡ Some f → length f.stack ≤ b.method.max_stack → FrontAt i f
  frame_front i f e few =
      let there : slice_get t.frames i ≡ Some (Some f) = frame_is t.frames i f e in
      let lt : i < of.n b = omega (arith, t.told, slice_get_within t.frames i (Some f) there) in
      let x = slice_there b.method.insns i lt in
      let r = slice_there b.method.refs i (omega (arith, lt, same_length (of.weaves b))) in
      front_of i x.0 f x.1 there few r.0 r.1

  -- the front of an instruction that is reached, where control goes
  pub front_moved : (i : ℕ) (f : FrameType) → frame_of t.frames i ≡ Some f → (front : FrontAt i f)
      → frame_of woven (moved i) ≡ Some front.types
  front_moved i f e front =
      let there : slice_get t.frames i ≡ Some (Some f) = frame_is t.frames i f e in
      let lt : i < of.n b = omega (arith, t.told, slice_get_within t.frames i (Some f) there) in
      let at : moved i ≡ of.front b i + 0 = of.moved_is b i lt ∙ omega arith in
      ap (frame_of woven) at ∙ front.told

  -- ---- where control goes from the client's instruction, wherever it stands

  module _ (i m : ℕ) (insn : Insn) (ref : Target) (there : slice_get b.method.insns i ≡ Some insn)
      (at_new : shape_of insn ≡ shapes.Heap heap.New → m ≡ moved i) (f : FrameType) (row : Passes t.frames (old i insn ref) f) where
    abbrev p : InsnPlace
    p = old i insn ref

    abbrev q : InsnPlace
    q = here m (aim insn) ref

    kept : IsKept moved p q
    kept = kept_at i m insn ref there at_new

    -- What takes what the instruction leaves is no higher than the stack may be.
    pub low_next : (to : FrameType) → goes_well p f to ≡ true → length to.stack ≤ b.method.max_stack
    low_next to e =
        let left : List VType = stack_after p f.locals (length (takes p)) f.stack in
        let depth = and_parts _ (nat_le (length left) b.method.max_stack) row.depth in
        let fits = and_parts (stack_fits b.old left to.stack) _ e in
        omega (arith, same_height b.old left to.stack fits.0, leb-true _ _ depth.1)

    arrives_by : (to : ℕ) (o : Option FrameType) → frame_of t.frames to ≡ o → option_map_or (goes_well p f) o false ≡ true
        → option_map_or (goes_well q (again f)) (frame_of woven (moved to)) false ≡ true
    arrives_by to None is e = absurd cc
    arrives_by to (Some h) is e =
        let front = frame_front to h is (low_next h e) in
        ap (λ (o : Option FrameType). option_map_or (goes_well q (again f)) o false) (front_moved to h is front)
        ∙ goes_front (again h) front.types front.front q (again f) (goes_kept moved p q kept f h e)

    pub arrives : (to : ℕ) → option_map_or (goes_well p f) (frame_of t.frames to) false ≡ true
        → option_map_or (goes_well q (again f)) (frame_of woven (moved to)) false ≡ true
    arrives to e = arrives_by to (frame_of t.frames to) refl e

    pub successors_kept : successors m (aim insn) ≡ map moved (successors i insn) → Successor woven q (again f) ≡ true
    successors_kept go =
        ap (list_all (λ to. option_map_or (goes_well q (again f)) (frame_of woven to) false)) go
        ∙ all_map (λ to. option_map_or (goes_well p f) (frame_of t.frames to) false)
        (λ to. option_map_or (goes_well q (again f)) (frame_of woven to) false) moved arrives (successors i insn) row.successor

  -- Control goes on from the last instruction of a part to the front of the next one.
  pub goes_to_fronts : (i m : ℕ) (insn : Insn) (ref : Target) → slice_get b.method.insns i ≡ Some insn → slice_get b.method.refs i ≡ Some ref
      → m + 1 ≡ of.front b i + length (of.part b ref) → successors m (aim insn) ≡ map moved (successors i insn)
  goes_to_fronts i m insn ref there names last =
      let lt : i < of.n b = slice_get_within b.method.insns i insn there in
      successors_moved (of.fronts b) (of.n b) moved (of.front_of b) i insn m
      (all_get (AimsWithin (of.n b)) b.method.insns i insn b.sound.targets there)
      (omega (arith, last, of.moved_next b i lt, next_front (of.weaves b) i ref names))

  -- ---- the first instruction

  -- At the front of the code what is there takes the arguments.
  pub entry_there : (i at : ℕ) (insn : Insn) (ref : Target) (x : Insn) (r : Target) (f g : FrameType)
      → slice_get b.method.insns i ≡ Some insn → Passes t.frames (old i insn ref) f → IsFrontOf (again f) g
      → at ≡ of.front b i → (at == 0) ≡ true → Entry (here at x r) g ≡ true
  entry_there i at insn ref x r f g there row front is begins =
      let first : at ≡ 0 = eqb-true at 0 begins in
      let lt : i < of.n b = slice_get_within b.method.insns i insn there in
      let none : i ≡ 0 = omega (arith, is, first, of.least b i (omega (arith, lt))) in
      let own : (i == 0) ≡ true = rw none refl in
      entry_front (again f) g front (here at x r)
      (entry_kept moved (old i insn ref) (here (moved i) (aim insn) ref) (kept_at i (moved i) insn ref there (λ new. refl)) f (row.entry own))
