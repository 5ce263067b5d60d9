-- Each instruction of a block meets the rules in the woven method.
use Rattle.std.proofs.Common.{◌≡◌, ◌≢◌, ℕ, ◌+◌, ◌<◌, ◌≤◌, Bool, true, false, cond, List, [], ◌∷◌, ◌++◌, length, Option, Some, None, is_some, refl, sym, ap, subst, ◌∙◌, inl, inr, arith}
use Rattle.std.specs.Prelude.{IfSome, ◌==◌, not, nat_lt, option_and_then, slice_get}
use Rattle.std.specs.List.{list_all}
use Rattle.std.specs.Option.{option_map_or}
use Rattle.std.proofs.lemmas.Bool.{cases_Bool, and_from, and_parts, eqb-true, false≢true, ltb-true}
use Rattle.std.proofs.lemmas.Bool.Decides.{nat_tests}
use Rattle.std.proofs.lemmas.Option.{slice_get_past, slice_get_within}
use Rattle.cert_format.specs.declared.certificate.Mode.{Mode}
use Rattle.cert_format.specs.declared.certificate.Mode.TheVariants.{Hold, Release}
use Rattle.cert_format.specs.declared.typing.FrameType.{FrameType}
use Rattle.cert_format.specs.declared.typing.VType.{VType}
use Rattle.cert_format.specs.declared.typing.VType.TheVariants as types
use Rattle.class_codec.specs.declared.tree.Const.{Const}
use Rattle.insn_codec.specs.declared.insn.Insn.{Insn}
use Rattle.insn_codec.specs.declared.opcodes.TheConstants.{ATHROW, GOTO}
use Rattle.insn_codec.specs.declared.shape.Shape.{Shape}
use Rattle.insn_codec.specs.Control.{successors}
use Rattle.insn_codec.specs.Fits.{IsInsn}
use Rattle.insn_codec.specs.Opcodes.{goes_on, opcode_at}
use Rattle.bytecode_model.specs.declared.program.Program.{Program}
use Rattle.bytecode_model.specs.declared.program.Target.{Target}
use Rattle.bytecode_model.specs.Assigning.{assignable}
use Rattle.bytecode_model.specs.Makes.{changed_by, local_after, stack_after, stores, type_at, when_made}
use Rattle.bytecode_model.specs.InsnPlace.{InsnPlace, calls_maker}
use Rattle.bytecode_model.specs.Rules.{frame_of, goes_well, local_caught, locals_fit, stack_fits, taken, when_thrown}
use Rattle.bytecode_model.specs.Wants.{takes}
use Rattle.bytecode_model.proofs.Lists.{all_get, some_is}
use Rattle.conspec_tree.specs.declared.types.Atom.{Atom}
use Rattle.conspec_tree.specs.declared.types.Phase.{Phase}
use Rattle.conspec_tree.specs.declared.types.Phase.TheVariants.{After, Before, Exceptional}
use Rattle.conspec_tree.specs.declared.types.Update.{Update}
use Rattle.conspec_automaton.specs.declared.policy.Branch.{Branch}
use Rattle.conspec_automaton.specs.declared.policy.Clause.{Clause}
use Rattle.offset_patch.specs.declared.block.BlockInsn.{BlockInsn}
use Rattle.offset_patch.specs.declared.block.BlockInsn.TheVariants.{Plain, Byte, Short, Local as InLocal, Want, Jump, Call}
use Rattle.offset_patch.specs.Splicing.{is_call, put}
use Rattle.block_template.specs.declared.item.Item.{Item}
use Rattle.block_template.specs.declared.item.Role.{Role}
use Rattle.block_template.specs.declared.item.Role.TheVariants as roles
use Rattle.block_template.specs.Blocks.{Clauses, bools_of}
use Rattle.block_template.specs.Flow.{AreForPhases, held, jump_of, made, may_pass, role_at, thrown, tries}
use Rattle.block_template.specs.Frames.{Around, frame, frame_at, padded}
use Rattle.block_template.specs.Reached.{IsReached}
use Rattle.block_template.specs.Typed.{GoesTo, client_locals, phase_locals}
use Rattle.block_template.proofs.CatchesTyped.{catches_are_typed}
use Rattle.block_template.proofs.ItemsTyped.{clauses_are_asked}
use Rattle.woven_typing.specs.Framing.{around_of, items_of}
use Rattle.class_weaving.proofs.Bodies.{next_front}
use Rattle.woven_typing.proofs.Body as of
use Rattle.woven_typing.proofs.Called.{CallAt, around, calls, clauses, is_call as called_there, kept, listed, p, q, ref, shape_there}
use Rattle.woven_typing.proofs.Client.{Typed, again, b, frame_front, front_moved, here, low_is, low_next, moved, woven}
use Rattle.woven_typing.proofs.Frames as frames
use Rattle.woven_typing.proofs.Fronts.{goes_front}
use Rattle.woven_typing.proofs.Leaving.{goes_next, goes_out, locals_through}
use Rattle.class_weaving.proofs.Lists.{slice_there}
use Rattle.block_template.proofs.Plans.{part_length}
use Rattle.woven_typing.proofs.Rows.{goes_kept}

-- ---- where control goes from an instruction of a block

module _ (P : ℕ → Bool) (pool : List Const) (fronts : List ℕ) (begin at : ℕ) (own : Insn) where
  on : (c : Bool) (rest : List ℕ) → (c ≡ true → P (at + 1) ≡ true) → list_all P rest ≡ true
      → list_all P (cond c ((at + 1) ∷ []) [] ++ rest) ≡ true
  on true rest next others = and_from (P (at + 1)) (list_all P rest) (next refl) others
  on false rest next others = others

  unless : (op : ℕ) (stop : ℕ) → goes_on stop ≡ false → (not (op == stop) ≡ true → P (at + 1) ≡ true) → goes_on op ≡ true → P (at + 1) ≡ true
  unless op stop ends next e =
      elim (cases_Bool (op == stop)) [
        | inl is ↦
            let same : op ≡ stop = eqb-true op stop is in
            absurd (false≢true (sym ends ∙ ap goes_on (sym same) ∙ e))
        | inr fails ↦ next (ap not fails)
      ]

  pub goes_from : (x : BlockInsn) → is_call x ≡ false → (may_pass x ≡ true → P (at + 1) ≡ true)
      → IfSome (jump_of x) (λ place. P (begin + place) ≡ true) → list_all P (successors at (put pool fronts begin own x)) ≡ true
  unfolding opcode_at
  goes_from (Plain op) other next lands = on (goes_on op) [] (unless op ATHROW refl next) refl
  goes_from (Byte n) other next lands = on (goes_on 16) [] (λ e. next refl) refl
  goes_from (Short n) other next lands = on (goes_on 17) [] (λ e. next refl) refl
  goes_from (InLocal op slot wide) other next lands = on (goes_on op) [] (λ e. next refl) refl
  goes_from (Want op want) other next lands = on (goes_on op) [] (λ e. next refl) refl
  goes_from (Jump op place) other next lands =
      on (goes_on op) ((begin + place) ∷ []) (unless op GOTO refl next) (and_from (P (begin + place)) true lands refl)
  goes_from Call other next lands = absurd cc

-- ---- what is caught after a call

-- What stands for the type before it is made stands for it once it is.
made_caught : (program : Program) (place : InsnPlace) (r u v : VType) → assignable program (when_thrown u) v ≡ true
    → assignable program (when_thrown (when_made place r u)) v ≡ true
made_caught program place r types.UninitThis types.Top e = refl
made_caught program place r types.UninitThis types.Int e = absurd cc
made_caught program place r types.UninitThis types.Null e = absurd cc
made_caught program place r types.UninitThis (types.Ref name) e = absurd cc
made_caught program place r types.UninitThis types.UninitThis e = absurd cc
made_caught program place r types.UninitThis (types.Uninit i) e = absurd cc
made_caught program place r (types.Uninit j) types.Top e = refl
made_caught program place r (types.Uninit j) types.Int e = absurd cc
made_caught program place r (types.Uninit j) types.Null e = absurd cc
made_caught program place r (types.Uninit j) (types.Ref name) e = absurd cc
made_caught program place r (types.Uninit j) types.UninitThis e = absurd cc
made_caught program place r (types.Uninit j) (types.Uninit i) e = absurd cc
made_caught program place r types.Top v e = ap (λ (t : VType). assignable program (when_thrown t) v) (stays r) ∙ e
  where
    stays : (r : VType) → when_made place r types.Top ≡ types.Top
    stays types.Top = refl
    stays types.Int = refl
    stays types.Null = refl
    stays (types.Ref name) = refl
    stays types.UninitThis = refl
    stays (types.Uninit i) = refl
made_caught program place r types.Int v e = ap (λ (t : VType). assignable program (when_thrown t) v) (stays r) ∙ e
  where
    stays : (r : VType) → when_made place r types.Int ≡ types.Int
    stays types.Top = refl
    stays types.Int = refl
    stays types.Null = refl
    stays (types.Ref name) = refl
    stays types.UninitThis = refl
    stays (types.Uninit i) = refl
made_caught program place r types.Null v e = ap (λ (t : VType). assignable program (when_thrown t) v) (stays r) ∙ e
  where
    stays : (r : VType) → when_made place r types.Null ≡ types.Null
    stays types.Top = refl
    stays types.Int = refl
    stays types.Null = refl
    stays (types.Ref name) = refl
    stays types.UninitThis = refl
    stays (types.Uninit i) = refl
made_caught program place r (types.Ref class) v e = ap (λ (t : VType). assignable program (when_thrown t) v) (stays r) ∙ e
  where
    stays : (r : VType) → when_made place r (types.Ref class) ≡ types.Ref class
    stays types.Top = refl
    stays types.Int = refl
    stays types.Null = refl
    stays (types.Ref name) = refl
    stays types.UninitThis = refl
    stays (types.Uninit i) = refl

-- ---- roles

made_not : (phase : Phase) (n u : ℕ) (branch : Branch) → made phase n u branch ≢ roles.Leave
made_not phase n u branch = by (slice_get branch.updates u)
  where
    by : (o : Option Update) → option_map_or (λ (x : Update). roles.Update phase n u 0) o (roles.Taken phase n) ≢ roles.Leave
    by None = λ e. absurd cc
    by (Some update) = λ e. absurd cc

held_not : (phase : Phase) (n a : ℕ) (branch : Branch) → held phase n a branch ≢ roles.Leave
held_not phase n a branch = by (slice_get branch.atoms a)
  where
    by : (o : Option Atom) → option_map_or (λ (x : Atom). roles.Ask phase n a 0) o (made phase n 0 branch) ≢ roles.Leave
    by None = made_not phase n 0 branch
    by (Some atom) = λ e. absurd cc

tries_not : (phase : Phase) (n : ℕ) (branches : List Branch) → tries phase n branches ≢ roles.Leave
tries_not phase n branches = by (slice_get branches n)
  where
    by : (o : Option Branch) → option_map_or (held phase n 0) o (roles.Stop phase 0) ≢ roles.Leave
    by None = λ e. absurd cc
    by (Some branch) = held_not phase n 0 branch

-- Where the call throws the block is not left.
pub thrown_not : (mode : Mode) (o : Option Clause) → thrown mode o ≢ roles.Leave
thrown_not Release None = λ e. absurd cc
thrown_not Hold None = λ e. absurd cc
thrown_not Release (Some clause) = λ e. absurd cc
thrown_not Hold (Some clause) = tries_not Exceptional 0 clause.branches

-- A role that is reached has types.
pub told_of : (these : Clauses) (near : Around) (role : Role) → IsReached role → is_some (frame_at these near role) ≡ true
told_of these near (roles.Save left) reached = refl
told_of these near (roles.Lock phase pushed) reached = refl
told_of these near (roles.Ask phase branch atom done) reached = refl
told_of these near (roles.Update phase branch update done) reached = refl
told_of these near (roles.Taken phase branch) reached = refl
told_of these near (roles.Stop phase done) reached = refl
told_of these near (roles.Unlock phase checked pushed) reached = refl
told_of these near (roles.Load n locked) reached = refl
told_of these near (roles.Call locked) reached = refl
told_of these near (roles.Keep locked) reached = refl
told_of these near roles.Give reached = refl
told_of these near roles.Leave reached = refl
told_of these near roles.Rethrow reached = refl
told_of these near roles.Unreached reached = absurd (reached refl)

-- What is so of the types of a role, where it has some, is so of those that it has where it is reached.
pub reached_to : (these : Clauses) (near : Around) (Takes : FrameType → Type 0) (role there : Role) → there ≡ role → IsReached there
    → IfSome (frame_at these near role) Takes → (to : FrameType) × (frame_at these near there ≡ Some to) × Takes to
reached_to these near Takes role there is reached takes =
    by (frame_at these near there) refl (told_of these near there reached)
    (subst (λ (r : Role). IfSome (frame_at these near r) Takes) (sym is) takes)
  where
    by : (o : Option FrameType) → frame_at these near there ≡ o → is_some o ≡ true → IfSome o Takes
        → (to : FrameType) × (frame_at these near there ≡ Some to) × Takes to
    by None e some takes = absurd cc
    by (Some to) e some takes = (to, e, takes)

module _ (t : Typed) (c : CallAt t) where
  abbrev pub mode : Mode
  mode = (b t).mode

  abbrev pub bools : List Bool
  bools = bools_of (b t).policy

  abbrev pub items : List Item
  items = items_of (b t).policy (b t).mode (of.base (b t)) c.callee

  abbrev pub start : ℕ
  start = of.front (b t) c.i

  abbrev pub told : Clauses
  told = clauses t c

  abbrev pub near : Around
  near = around t c

  pub phases : AreForPhases told
  phases = (clauses_are_asked (b t).policy c.callee (b t).read).phases

  pub is_insn : IsInsn c.insn
  is_insn = all_get IsInsn (b t).method.insns c.i c.insn (b t).sound.insns c.there

  -- ---- frames

  pub frame_there : (k : ℕ) (item : Item) → slice_get items k ≡ Some item → frame_of (woven t) (start + k) ≡ frame_at told near item.role
  frame_there k item e =
      frames.frame_item (b t) t.frames c.i c.callee c.insn (Some c.types) c.there c.names c.typed_here c.has k item e
      ∙ ap (λ (o : Option FrameType). option_and_then (λ g. frame_at told (around_of (moved t) (p t c) g) item.role) o) (low_is t c.types c.few)

  pub frame_role : (k : ℕ) → k < length items → frame_of (woven t) (start + k) ≡ frame_at told near (role_at items k)
  frame_role k lt =
      let x = slice_there items k lt in
      frame_there k x.0 x.1 ∙ ap (frame_at told near) (sym (ap (λ (o : Option Item). option_map_or (λ (i : Item). i.role) o roles.Leave) x.1))

  pub part_long : length (of.part (b t) (ref t c)) ≡ length items
  part_long = part_length (b t).policy (b t).mode (of.base (b t)) c.callee c.has

  -- ---- where the block is left

  abbrev first : ℕ
  first = moved t c.i

  leaves_by : (o : Option FrameType) → frame_of t.frames (c.i + 1) ≡ o → option_map_or (goes_well (p t c) c.types) o false ≡ true
      → (m : ℕ) (x : Insn) (r : Target) (types : FrameType)
      → goes_well (here t m x r) types (frame (padded near.base near.after.locals) near.after.stack) ≡ true
      → option_map_or (goes_well (here t m x r) types) (frame_of (woven t) (moved t (c.i + 1))) false ≡ true
  leaves_by None is e m x r types goes = absurd cc
  leaves_by (Some h) is e m x r types goes =
      let kept_there = kept t c first in
      let new : Program = (b t).new in
      let few : length h.stack ≤ (b t).method.max_stack =
      low_next t c.i first c.insn (ref t c) c.there (λ made. refl) c.types c.row h e in
      let front = frame_front t (c.i + 1) h is few in
      let left : List VType = stack_after (q t c first) (again t c.types).locals (length (takes (q t c first))) (again t c.types).stack in
      let then : ℕ → VType = local_after (q t c first) (again t c.types).locals (taken (q t c first) (again t c.types)) in
      let parts = and_parts (stack_fits new left (again t h).stack) (locals_fit new then 0 (again t h).locals)
      (goes_kept (moved t) (p t c) (q t c first) kept_there c.types h e) in
      let call = called_there t c first in
      let stack : stack_fits new near.after.stack (again t h).stack ≡ true =
      ap (λ (s : List VType). stack_fits new s (again t h).stack) call.stack ∙ parts.0 in
      let locals : locals_fit new (type_at near.after.locals) 0 (again t h).locals ≡ true =
      locals_through new then (type_at near.after.locals) (again t h).locals
      (λ j u fits. ap (λ (v : VType). assignable new v u) (call.locals j) ∙ fits) parts.1 in
      ap (λ (o : Option FrameType). option_map_or (goes_well (here t m x r) types) o false) (front_moved t (c.i + 1) h is front)
      ∙ goes_front (again t h) front.types front.front (here t m x r) types
      (goes_out (here t m x r) (b t).order near.base near.after (again t h) stack locals types goes)

  leaves : (m : ℕ) (x : Insn) (r : Target) (types : FrameType)
      → goes_well (here t m x r) types (frame (padded near.base near.after.locals) near.after.stack) ≡ true
      → option_map_or (goes_well (here t m x r) types) (frame_of (woven t) (start + length items)) false ≡ true
  leaves m x r types goes =
      let lt : c.i < of.n (b t) = slice_get_within (b t).method.insns c.i c.insn c.there in
      let following : start + length items ≡ moved t (c.i + 1) =
      omega (arith, part_long, of.moved_next (b t) c.i lt, next_front (of.weaves (b t)) c.i (ref t c) c.names) in
      let next = goes_next c.insn c.insn (listed t c).how c.i is_insn (calls t c) refl (calls t c) in
      let there = and_parts (option_map_or (goes_well (p t c) c.types) (frame_of t.frames (c.i + 1)) false) true
      (sym (ap (list_all (λ to. option_map_or (goes_well (p t c) c.types) (frame_of t.frames to) false)) next) ∙ c.row.successor) in
      ap (λ (n : ℕ). option_map_or (goes_well (here t m x r) types) (frame_of (woven t) n) false) following
      ∙ leaves_by (frame_of t.frames (c.i + 1)) refl there.0 m x r types goes

  -- Where control goes in the block, or where it leaves it, there are types that take what is left.
  pub arrives : (m : ℕ) (x : Insn) (r : Target) (types : FrameType) (k : ℕ) → k ≤ length items
      → GoesTo told near (here t m x r) types (role_at items k)
      → option_map_or (goes_well (here t m x r) types) (frame_of (woven t) (start + k)) false ≡ true
  arrives m x r types k le to =
      elim (cases_Bool (nat_lt k (length items))) [
        | inl is ↦
            ap (λ (o : Option FrameType). option_map_or (goes_well (here t m x r) types) o false)
            (frame_role k (ltb-true _ _ is) ∙ to.1)
            ∙ to.2
        | inr fails ↦
            let past : length items ≤ k = grind (arith, nat_tests) in
            let last : k ≡ length items = omega (arith, le, past) in
            let role : role_at items k ≡ roles.Leave = ap (λ (o : Option Item). option_map_or (λ (i : Item). i.role) o roles.Leave) (slice_get_past items k past) in
            let same : frame (padded near.base near.after.locals) near.after.stack ≡ to.0 =
            some_is _ _ (sym (ap (frame_at told near) role) ∙ to.1) in
            ap (λ (n : ℕ). option_map_or (goes_well (here t m x r) types) (frame_of (woven t) (start + n)) false) last
            ∙ leaves m x r types (ap (goes_well (here t m x r) types) same ∙ to.2)
      ]

  -- ---- what is caught

  after_caught : (to : List VType) → locals_fit (b t).new (local_caught near.before.locals) 0 to ≡ true
      → locals_fit (b t).new (local_caught near.after.locals) 0 to ≡ true
  after_caught to e =
      let call = called_there t c first in
      let ts : List VType = taken (q t c first) (again t c.types) in
      locals_through (b t).new (local_caught near.before.locals) (local_caught near.after.locals) to
      (λ j u fits.
      ap (λ (v : VType). assignable (b t).new (when_thrown v) u)
      (call.locals j ∙ left ts j)
      ∙ caught_by (calls_maker (q t c first)) (type_at ts 0) (type_at near.before.locals j) u fits)
      e
    where
      left : (ts : List VType) (j : ℕ) → local_after (q t c first) (again t c.types).locals ts j
          ≡ cond (calls_maker (q t c first)) (when_made (q t c first) (type_at ts 0) (type_at near.before.locals j)) (type_at near.before.locals j)
      left ts j =
          ap (λ (s : Shape). cond (stores s j) (type_at ts 0) (changed_by (q t c first) ts s (type_at near.before.locals j))) (shape_there t c first)

      caught_by : (maker : Bool) (r u v : VType) → assignable (b t).new (when_thrown u) v ≡ true
          → assignable (b t).new (when_thrown (cond maker (when_made (q t c first) r u) u)) v ≡ true
      caught_by true r u v e = made_caught (b t).new (q t c first) r u v e
      caught_by false r u v e = e

  in_phase : (phase : Phase) (to : List VType) → locals_fit (b t).new (local_caught near.before.locals) 0 to ≡ true
      → locals_fit (b t).new (local_caught (phase_locals near phase)) 0 to ≡ true
  in_phase Before to e = e
  in_phase After to e = after_caught to e
  in_phase Exceptional to e = e

  in_role : (role : Role) → IsReached role → (to : List VType) → locals_fit (b t).new (local_caught near.before.locals) 0 to ≡ true
      → locals_fit (b t).new (local_caught (client_locals near role)) 0 to ≡ true
  in_role (roles.Save left) reached to e = e
  in_role (roles.Lock phase pushed) reached to e = in_phase phase to e
  in_role (roles.Ask phase branch atom done) reached to e = in_phase phase to e
  in_role (roles.Update phase branch update done) reached to e = in_phase phase to e
  in_role (roles.Taken phase branch) reached to e = in_phase phase to e
  in_role (roles.Stop phase done) reached to e = in_phase phase to e
  in_role (roles.Unlock phase checked pushed) reached to e = in_phase phase to e
  in_role (roles.Load n locked) reached to e = e
  in_role (roles.Call locked) reached to e = e
  in_role (roles.Keep locked) reached to e = after_caught to e
  in_role roles.Give reached to e = after_caught to e
  in_role roles.Leave reached to e = after_caught to e
  in_role roles.Rethrow reached to e = e
  in_role roles.Unreached reached to e = absurd (reached refl)

  -- What is caught of the client's call is caught of each instruction that is reached.
  pub client_caught : (role : Role) (types : FrameType) → frame_at told near role ≡ Some types → IsReached role → (to : List VType)
      → locals_fit (b t).new (local_caught (again t c.types).locals) 0 to ≡ true → locals_fit (b t).new (local_caught types.locals) 0 to ≡ true
  client_caught role types is reached to e = catches_are_typed (b t).new told near role types to is (in_role role reached to e)
