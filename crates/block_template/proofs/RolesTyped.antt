-- Each instruction of a block meets the rules of typing.
use Rattle.std.proofs.Common.{
  ◌≡◌,
  ◌≢◌,
  ℕ,
  zero,
  suc,
  ◌+◌,
  ◌-◌,
  ◌<◌,
  ◌≤◌,
  ℤ,
  pos,
  Bool,
  true,
  false,
  cond,
  List,
  [],
  ◌∷◌,
  ◌++◌,
  length,
  drop,
  replicate,
  Option,
  Some,
  None,
  refl,
  sym,
  ap,
  subst,
  ◌∙◌,
  append-nil,
  append_assoc,
  arith,
  length-append,
}
use Rattle.std.specs.Prelude.{◌==◌, IfSome, codes, is_some, option_and_then, option_map, slice_get}
use Rattle.std.specs.Option.{option_map_or}
use Rattle.std.proofs.lemmas.Bool.{false≢true}
use Rattle.std.proofs.lemmas.List.{length-drop, length-map, length-replicate}
use Rattle.std.proofs.lemmas.Option.{IfSome_then}
use Rattle.api_listing.specs.BuiltIn.{throwable}
use Rattle.cert_format.specs.declared.certificate.Mode.{Mode}
use Rattle.cert_format.specs.declared.typing.FrameType.{FrameType}
use Rattle.cert_format.specs.declared.typing.VType.{VType}
use Rattle.cert_format.specs.declared.typing.VType.TheVariants as types
use Rattle.insn_codec.specs.declared.opcodes.TheConstants.{ACONST_NULL, IADD, GOTO, GETSTATIC, PUTSTATIC, INVOKESTATIC, ATHROW}
use Rattle.bytecode_model.specs.declared.program.Method.{Method}
use Rattle.bytecode_model.specs.declared.program.Program.{Program}
use Rattle.bytecode_model.specs.Makes.{below, topmost, type_at}
use Rattle.bytecode_model.specs.InsnPlace.{InsnPlace}
use Rattle.bytecode_model.specs.Rules.{locals_fit, when_thrown}
use Rattle.bytecode_model.proofs.Lists.{all_get, some_is}
use Rattle.conspec_tree.specs.declared.types.Atom.{Atom}
use Rattle.conspec_tree.specs.declared.types.Base.{Base}
use Rattle.conspec_tree.specs.declared.types.Base.TheVariants as bases
use Rattle.conspec_tree.specs.declared.types.Kind.{Kind}
use Rattle.conspec_tree.specs.declared.types.Phase.{Phase}
use Rattle.conspec_tree.specs.declared.types.Phase.TheVariants.{Before, After, Exceptional}
use Rattle.conspec_tree.specs.declared.types.Update.{Update}
use Rattle.conspec_tree.specs.declared.types.Update.TheVariants.{Set, Add}
use Rattle.conspec_tree.specs.declared.types.Var.{Var}
use Rattle.conspec_tree.specs.Tree.{IsBase, IsNumber, asked}
use Rattle.conspec_automaton.specs.declared.policy.Branch.{Branch}
use Rattle.conspec_automaton.specs.declared.policy.Clause.{Clause}
use Rattle.conspec_automaton.specs.Sound.{IsBranchIn, IsClauseIn}
use Rattle.offset_patch.specs.declared.block.BlockInsn.{BlockInsn}
use Rattle.offset_patch.specs.declared.block.BlockInsn.TheVariants.{Plain, Byte, Want, Jump, Call}
use Rattle.offset_patch.specs.declared.block.PoolWant.TheVariants.{Exit}
use Rattle.offset_patch.specs.Splicing.{is_call}
use Rattle.block_template.specs.declared.item.Role.{Role}
use Rattle.block_template.specs.declared.item.Role.TheVariants as roles
use Rattle.block_template.specs.Blocks.{Clauses, kept}
use Rattle.block_template.specs.Flow.{
  AreForPhases,
  argument_at,
  ask_goes,
  compared,
  atom_at,
  branch_at,
  branches_in,
  branches_of,
  clause_in,
  held,
  insn_of,
  jump_of,
  jumps,
  keeps_result,
  kept_by,
  leaving,
  locked_for,
  made,
  may_pass,
  next,
  result_in,
  stop_insn,
  taking,
  tries,
  update_at,
  update_goes,
  updated,
}
use Rattle.block_template.specs.Frames.{
  Around,
  class_pushed,
  frame,
  frame_at,
  kept_arguments,
  kept_types,
  padded,
  phase_frame,
  saved_locals,
  types_before,
  with_pushed,
}
use Rattle.block_template.specs.Pushing.{field, load as loads, negated, push, push_base, store}
use Rattle.block_template.specs.Steps.{ask_size, ask_steps, step_insn, update_size, update_steps}
use Rattle.block_template.specs.Typed.{AreClausesIn, BlocksAreTyped, FitsAround, HasRoom, IsTyped, Stands, kept_kind}
use Rattle.block_template.proofs.Acting.{Acts, alone, goes}
use Rattle.block_template.proofs.CheckFlows.{base_stays, load_stays, push_stays, store_stays}
use Rattle.block_template.proofs.Doing as does
use Rattle.block_template.proofs.FramesAt as at
use Rattle.block_template.proofs.Types.{
  below_few,
  below_none,
  itself,
  locals_are,
  stored_after,
  stored_new,
  topmost_few,
  type_left,
  type_right,
}
use Rattle.conspec_tree.specs.Kinds.{is_number}

kept_one : (o : Option Kind) → is_some o ≡ true → kept o ≡ 1
kept_one None e = absurd cc
kept_one (Some kind) e = refl

low_either : (b : Bool) (s : List VType) → length (cond b (below 1 s) s) ≤ length s
low_either true s = below_few 1 s
low_either false s = omega arith

module _ (mode : Mode) (bools : List Bool) (vars : List Var) (maxint : ℤ) (clauses : Clauses) (around : Around) (end to : ℕ)
    (phases : AreForPhases clauses) (known : AreClausesIn vars maxint clauses) (fits : FitsAround clauses around) where
  abbrev base : ℕ
  base = around.base

  abbrev pf : Phase → FrameType
  pf phase = phase_frame clauses around phase

  abbrev Typed : Role → BlockInsn → Type 0
  Typed role insn = (place : InsnPlace) → Stands insn place → HasRoom clauses around place.method → IsTyped mode clauses around role insn place

  -- The types of the role take these operands and locals.
  abbrev Takes : Program → List VType → (ℕ → VType) → Role → Type 0
  Takes program stack then role =
      IfSome (frame_at clauses around role) (λ f. (f.stack ≡ stack) × (locals_fit program then 0 f.locals ≡ true))

  takes : (program : Program) (locals stack : List VType) (role : Role) → frame_at clauses around role ≡ Some (frame locals stack)
      → Takes program stack (type_at locals) role
  takes program locals stack role e =
      subst (λ (o : Option FrameType). IfSome o (λ f. (f.stack ≡ stack) × (locals_fit program (type_at locals) 0 f.locals ≡ true))) (sym e)
      (refl, locals_are program (type_at locals) 0 locals (λ j lt. ap (type_at locals) (nothing j)))
    where
      nothing : (j : ℕ) → 0 + j ≡ j
      nothing j = omega arith

  step : (role : Role) (insn : BlockInsn) (place : InsnPlace) (locals s ts us : List VType) (then : ℕ → VType)
      → frame_at clauses around role ≡ Some (frame locals (s ++ ts)) → Acts place locals ts us then
      → length (s ++ us) ≤ place.method.max_stack → length locals ≤ place.method.max_locals
      → (may_pass insn ≡ true → Takes place.program (s ++ us) then (next mode clauses role))
      → (is_some (jump_of insn) ≡ true → Takes place.program (s ++ us) then (jumps mode clauses role))
      → IsTyped mode clauses around role insn place
  step role insn place locals s ts us then told acts high few passes lands =
      let met = alone place locals ts us then acts s high few in
      record {
        types = frame locals (s ++ ts);
        told = told;
        depth = met.depth;
        operand = met.operand;
        local = met.local;
        made = met.made;
        passes =
            λ e. IfSome_then (frame_at clauses around (next mode clauses role)) (passes e)
            (λ f h. goes place locals ts us then acts s f h.0 h.1);
        lands = λ e. IfSome_then (frame_at clauses around (jumps mode clauses role)) (lands e)
            (λ f h. goes place locals ts us then acts s f h.0 h.1);
      }

  never : {X : Type 0} → false ≡ true → X
  never e = absurd (false≢true e)

  -- ---- room

  module _ (method : Method) (room : HasRoom clauses around method) where
    some_locals : base ≤ method.max_locals
    some_locals = omega (arith, room.arguments)

    result_room : (kind : Kind) → result_in clauses ≡ Some kind → base < method.max_locals
    result_room kind e =
        let one : kept (result_in clauses) ≡ 1 = ap kept e in
        omega (arith, room.result, one)

    phase_high : (phase : Phase) → length (pf phase).stack + 2 ≤ method.max_stack
    phase_high Before = omega (arith, room.before, below_few (kept_arguments clauses) around.before.stack)
    phase_high After = omega (arith, room.after, low_either (keeps_result clauses) around.after.stack)
    phase_high Exceptional = omega (arith, room.before)

    result_few : (b : Bool) → keeps_result clauses ≡ b → length (cond b (topmost 1 around.after.stack) []) ≤ kept (result_in clauses)
    result_few true e =
        let one : kept (result_in clauses) ≡ 1 = kept_one (result_in clauses) (sym (at.keeps_is clauses around fits) ∙ e) in
        omega (arith, one, topmost_few 1 around.after.stack)
    result_few false e = omega arith

    phase_few : (phase : Phase) → length (pf phase).locals ≤ method.max_locals
    phase_few Before =
        omega (
          arith,
          room.arguments,
          at.padded_length clauses around fits around.before.locals fits.before,
          at.kept_length clauses around fits,
          length-append (padded base around.before.locals) (kept_types clauses around),
        )
    phase_few After =
        omega (
          arith,
          room.result,
          at.padded_length clauses around fits around.after.locals fits.after,
          result_few (keeps_result clauses) refl,
          length-append (padded base around.after.locals) (cond (keeps_result clauses) (topmost 1 around.after.stack) []),
        )
    phase_few Exceptional =
        omega (
          arith,
          some_locals,
          at.padded_length clauses around fits around.before.locals fits.before,
          length-map
              (padded base around.before.locals) when_thrown,
        )

  -- ---- locals

  nothing : (j : ℕ) → 0 + j ≡ j
  nothing j = omega arith

  saved_length : (left : ℕ) → left ≤ kept_arguments clauses → length (saved_locals clauses around left) ≡ base + kept_arguments clauses
  saved_length left le =
      omega (
        arith,
        le,
        at.padded_length clauses around fits around.before.locals fits.before,
        at.kept_length clauses around fits,
        length-append (padded base around.before.locals) (replicate left types.Top ++ drop left (kept_types clauses around)),
        length-append (replicate left types.Top) (drop left (kept_types clauses around)),
        length-replicate left types.Top,
        length-drop left (kept_types clauses around),
      )

  result_local : (t : VType) → type_at (padded base around.after.locals ++ t ∷ []) base ≡ t
  result_local t =
      let client : List VType = padded base around.after.locals in
      let at_end : base ≡ length client + 0 = omega (arith, at.padded_length clauses around fits around.after.locals fits.after) in
      ap (type_at (client ++ t ∷ [])) at_end ∙ type_right client (t ∷ []) 0

  result_stored : (t : VType) (j : ℕ)
      → cond (j == base) t (type_at (padded base around.after.locals) j) ≡ type_at (padded base around.after.locals ++ t ∷ []) j
  result_stored t j =
      let client : List VType = padded base around.after.locals in
      let at_end : base ≡ length client + 0 = omega (arith, at.padded_length clauses around fits around.after.locals fits.after) in
      ap (λ (n : ℕ). cond (j == n) t (type_at client j)) at_end
      ∙ ap (λ (xs : List VType). cond (j == length client + 0) t (type_at xs j)) (sym (append-nil client))
      ∙ stored_after client [] (t ∷ []) 0 t (stored_new t) j

  -- What comes once the result is kept.
  kept_next : (program : Program) (t : VType) (rest : List VType) → pf After ≡ frame (padded base around.after.locals ++ t ∷ []) rest
      → locals_fit program (λ j. cond (j == base) t (type_at (padded base around.after.locals) j)) 0
      (padded base around.after.locals ++ t ∷ []) ≡ true
      → (o : Option Clause) → clauses.after ≡ o
      → Takes program (rest ++ []) (λ j. cond (j == base) t (type_at (padded base around.after.locals) j)) (kept_by mode o)
  kept_next program t rest is fit None e = tt
  kept_next program t rest is fit (Some clause) e =
      subst (λ (o : Option FrameType).
      IfSome o
      (λ f. (f.stack ≡ rest ++ []) ×
      (locals_fit program (λ j. cond (j == base) t (type_at (padded base around.after.locals) j)) 0 f.locals ≡ true)))
      (sym (at.after_enters clauses around fits mode After clause ∙ ap Some is)) (sym (append-nil rest), fit)

  -- ---- within a phase

  -- The role has the types of the phase with these pushed.
  abbrev Arrives : Phase → List VType → Role → Type 0
  Arrives phase pushed role = IfSome (frame_at clauses around role) (λ f. f ≡ with_pushed (pf phase) pushed)

  arrives : (phase : Phase) (pushed : List VType) (role : Role) → frame_at clauses around role ≡ Some (with_pushed (pf phase) pushed)
      → Arrives phase pushed role
  arrives phase pushed role e = subst (λ (o : Option FrameType). IfSome o (λ f. f ≡ with_pushed (pf phase) pushed)) (sym e) refl

  enters : (phase : Phase) (role : Role) → at.Enters clauses around fits phase role → Arrives phase [] role
  enters phase role e = arrives phase [] role (e ∙ sym (at.nothing_pushed clauses around fits (pf phase)))

  in_phase : (phase : Phase) (role : Role) (insn : BlockInsn) (place : InsnPlace) (low ts us : List VType)
      → frame_at clauses around role ≡ Some (with_pushed (pf phase) (low ++ ts))
      → Acts place (pf phase).locals ts us (type_at (pf phase).locals) → HasRoom clauses around place.method → length (low ++ us) ≤ 2
      → (may_pass insn ≡ true → Arrives phase (low ++ us) (next mode clauses role))
      → (is_some (jump_of insn) ≡ true → Arrives phase (low ++ us) (jumps mode clauses role)) → IsTyped mode clauses around role insn place
  in_phase phase role insn place low ts us told acts room few passes lands =
      let locals : List VType = (pf phase).locals in
      let stack : List VType = (pf phase).stack in
      let split : ◌≡◌ {A = Option FrameType} (Some (frame locals (stack ++ (low ++ ts)))) (Some (frame locals ((stack ++ low) ++ ts))) =
      ap (λ (s : List VType). Some (frame locals s)) (sym (append_assoc stack low ts)) in
      let taken : (r : Role) → Arrives phase (low ++ us) r → Takes place.program ((stack ++ low) ++ us) (type_at locals) r =
      λ r a. IfSome_then (frame_at clauses around r) a (λ f e. (
        ap (λ (x : FrameType). x.stack) e ∙ sym (append_assoc stack low us),
        subst (λ (x : FrameType). locals_fit place.program (type_at locals) 0 x.locals ≡ true) (sym e) (fit locals place.program),
      )) in
      step role insn place locals (stack ++ low) ts us (type_at locals) (told ∙ split) acts
      (omega (
        arith,
        phase_high place.method room phase,
        few,
        length-append stack low,
        length-append
            (stack ++ low) us,
        length-append low us,
      ))
      (phase_few place.method room phase) (λ e. taken (next mode clauses role) (passes e)) (λ e. taken (jumps mode clauses role) (lands e))
    where
      nothing : (j : ℕ) → 0 + j ≡ j
      nothing j = omega arith

      fit : (locals : List VType) (program : Program) → locals_fit program (type_at locals) 0 locals ≡ true
      fit locals program = locals_are program (type_at locals) 0 locals (λ j lt. ap (type_at locals) (nothing j))

  -- ---- the lock

  no_arguments : clauses.before ≡ None → kept_arguments clauses ≡ 0
  no_arguments e = ap (λ (o : Option Clause). length (option_map_or (λ (c : Clause). c.args) o [])) e

  locked_arrives : (phase : Phase) (o : Option Clause) → clause_in clauses phase ≡ o → Arrives phase [] (locked_for o phase)
  locked_arrives phase (Some clause) e =
      enters phase (tries phase 0 clause.branches) (at.tries_enters clauses around fits phase 0 clause.branches)
  locked_arrives Before None e =
      enters Before (roles.Call true)
      (ap (λ (s : List VType). Some (frame (saved_locals clauses around 0) s))
      (sym (below_none around.before.stack) ∙ ap (λ (n : ℕ). below n around.before.stack) (sym (no_arguments e))))
  locked_arrives After None e = tt
  locked_arrives Exceptional None e = tt

  lock_class : (phase : Phase) → Typed (roles.Lock phase false) (taking false)
  lock_class phase place stands room =
      in_phase phase (roles.Lock phase false) (taking false) place [] [] (class_pushed true) refl
      (does.pushes_class place (pf phase).locals stands) room (omega arith)
      (λ p. refl) (λ e. never e)

  lock_taken : (phase : Phase) → Typed (roles.Lock phase true) (taking true)
  lock_taken phase place stands room =
      in_phase phase (roles.Lock phase true) (taking true) place [] (class_pushed true) [] refl
      (does.enters place (pf phase).locals (codes "java/lang/Class") stands) room (omega arith)
      (λ p. locked_arrives phase (clause_in clauses phase) refl) (λ e. never e)

  unlock_class : (phase : Phase) (checked : Bool) → Typed (roles.Unlock phase checked false) (leaving false)
  unlock_class phase checked place stands room =
      in_phase phase (roles.Unlock phase checked false) (leaving false) place [] [] (class_pushed true) refl
      (does.pushes_class place (pf phase).locals stands) room (omega arith)
      (λ p. refl) (λ e. never e)

  unlock_left : (phase : Phase) (checked : Bool) → Typed (roles.Unlock phase checked true) (leaving true)
  unlock_left phase checked place stands room =
      in_phase phase (roles.Unlock phase checked true) (leaving true) place [] (class_pushed true) [] refl
      (does.exits place (pf phase).locals (codes "java/lang/Class") stands) room (omega arith)
      (λ p. enters phase _ (at.unlocked_enters clauses around fits phase)) (λ e. never e)

  -- ---- the way out

  stop : (phase : Phase) (done : ℕ) (insn : BlockInsn) → stop_insn done ≡ Some insn → Typed (roles.Stop phase done) insn
  stop phase zero insn e =
      subst (Typed (roles.Stop phase 0)) (some_is _ _ e)
      (λ place stands room. in_phase phase (roles.Stop phase 0) (Byte (pos 77)) place [] [] (types.Int ∷ []) refl
      (does.pushes_byte place (pf phase).locals (pos 77) stands) room (omega arith)
      (λ p. refl) (λ j. never j))
  stop phase (suc zero) insn e =
      subst (Typed (roles.Stop phase 1)) (some_is _ _ e)
      (λ place stands room. in_phase phase (roles.Stop phase 1) (Want INVOKESTATIC Exit) place [] (types.Int ∷ []) [] refl
      (does.stops place (pf phase).locals stands) room (omega arith)
      (λ p. refl) (λ j. never j))
  stop phase (suc (suc zero)) insn e =
      subst (Typed (roles.Stop phase 2)) (some_is _ _ e)
      (λ place stands room. in_phase phase (roles.Stop phase 2) (Plain ACONST_NULL) place [] [] (types.Null ∷ []) refl
      (does.pushes_null place (pf phase).locals stands) room (omega arith)
      (λ p. refl) (λ j. never j))
  stop phase (suc (suc (suc zero))) insn e =
      subst (Typed (roles.Stop phase 3)) (some_is _ _ e)
      (λ place stands room. in_phase phase (roles.Stop phase 3) (Plain ATHROW) place [] (types.Null ∷ []) [] refl
      (does.throws place (pf phase).locals types.Null refl stands) room (omega arith)
      (λ p. never p) (λ j. never j))
  stop phase (suc (suc (suc (suc done)))) insn e = absurd cc

  -- ---- updates

  update_next : (phase : Phase) (n u done : ℕ) (branch : Branch) (x : Update) → branch_at clauses phase n ≡ Some branch
      → slice_get branch.updates u ≡ Some x
      → updated phase n u done (branch_at clauses phase n) ≡ update_goes phase n u done branch (Some x)
  update_next phase n u done branch x e f = ap (updated phase n u done) e ∙ ap (update_goes phase n u done branch) f

  update_there : (phase : Phase) (n u : ℕ) (branch : Branch) (x : Update) → branch_at clauses phase n ≡ Some branch
      → slice_get branch.updates u ≡ Some x → update_at clauses phase n u ≡ Some x
  update_there phase n u branch x e f = ap (option_and_then (λ (b : Branch). slice_get b.updates u)) e ∙ f

  update_types : (phase : Phase) (n u done : ℕ) (branch : Branch) (x : Update) → branch_at clauses phase n ≡ Some branch
      → slice_get branch.updates u ≡ Some x
      → frame_at clauses around (roles.Update phase n u done) ≡ Some (with_pushed (pf phase) (types_before (update_steps x) done))
  update_types phase n u done branch x e f =
      ap (λ (o : Option Update). Some (with_pushed (pf phase) (types_before (option_map_or update_steps o []) done)))
      (update_there phase n u branch x e f)

  -- The update goes on, with the types of the next step.
  update_on : (phase : Phase) (n u done : ℕ) (branch : Branch) (x : Update) → branch_at clauses phase n ≡ Some branch
      → slice_get branch.updates u ≡ Some x → (done + 1 == update_size x) ≡ false
      → Arrives phase (types_before (update_steps x) (done + 1)) (updated phase n u done (branch_at clauses phase n))
  update_on phase n u done branch x e f more =
      subst (Arrives phase (types_before (update_steps x) (done + 1)))
      (sym (update_next phase n u done branch x e f ∙ ap (λ (b : Bool). cond b (made phase n (u + 1) branch) (roles.Update phase n u (done + 1))) more))
      (arrives phase _ (roles.Update phase n u (done + 1)) (update_types phase n u (done + 1) branch x e f))

  -- It is done, and the next update is made.
  update_done : (phase : Phase) (n u done : ℕ) (branch : Branch) (x : Update) → branch_at clauses phase n ≡ Some branch
      → slice_get branch.updates u ≡ Some x → (done + 1 == update_size x) ≡ true
      → Arrives phase [] (updated phase n u done (branch_at clauses phase n))
  update_done phase n u done branch x e f last =
      subst (Arrives phase [])
      (sym (update_next phase n u done branch x e f ∙ ap (λ (b : Bool). cond b (made phase n (u + 1) branch) (roles.Update phase n u (done + 1))) last))
      (enters phase (made phase n (u + 1) branch) (at.made_enters clauses around fits phase n (u + 1) branch))

  update : (phase : Phase) (n u done : ℕ) (branch : Branch) (x : Update) (insn : BlockInsn) → branch_at clauses phase n ≡ Some branch
      → slice_get branch.updates u ≡ Some x
      → step_insn bools 0 0 (update_steps x) done ≡ Some insn → Typed (roles.Update phase n u done) insn
  update phase n u zero branch (Set var value) insn e f is =
      subst (Typed (roles.Update phase n u 0)) (some_is _ _ is)
      (λ place stands room. in_phase phase (roles.Update phase n u 0) (push value) place [] [] (types.Int ∷ [])
      (update_types phase n u 0 branch (Set var value) e f)
      (does.pushes place (pf phase).locals value stands) room (omega arith) (λ p. update_on phase n u 0 branch (Set var value) e f refl)
      (λ j. never (sym (ap is_some (push_stays value)) ∙ j)))
  update phase n u (suc zero) branch (Set var value) insn e f is =
      subst (Typed (roles.Update phase n u 1)) (some_is _ _ is)
      (λ place stands room. in_phase phase (roles.Update phase n u 1) (Want PUTSTATIC (field bools var)) place []
      (types.Int ∷ []) [] (update_types phase n u 1 branch (Set var value) e f)
      (does.writes place (pf phase).locals bools var stands) room (omega arith)
      (λ p. update_done phase n u 1 branch (Set var value) e f refl) (λ j. never j))
  update phase n u (suc (suc done)) branch (Set var value) insn e f is = absurd cc
  update phase n u zero branch (Add var by) insn e f is =
      subst (Typed (roles.Update phase n u 0)) (some_is _ _ is)
      (λ place stands room. in_phase phase (roles.Update phase n u 0) (Want GETSTATIC (field bools var)) place [] []
      (types.Int ∷ []) (update_types phase n u 0 branch (Add var by) e f) (does.reads place (pf phase).locals bools var stands) room (omega arith)
      (λ p. update_on phase n u 0 branch (Add var by) e f refl) (λ j. never j))
  update phase n u (suc zero) branch (Add var by) insn e f is =
      subst (Typed (roles.Update phase n u 1)) (some_is _ _ is)
      (λ place stands room. in_phase phase (roles.Update phase n u 1) (push by) place (types.Int ∷ []) [] (types.Int ∷ [])
      (update_types phase n u 1 branch (Add var by) e f)
      (does.pushes place (pf phase).locals by stands) room (omega arith) (λ p. update_on phase n u 1 branch (Add var by) e f refl)
      (λ j. never (sym (ap is_some (push_stays by)) ∙ j)))
  update phase n u (suc (suc zero)) branch (Add var by) insn e f is =
      subst (Typed (roles.Update phase n u 2)) (some_is _ _ is)
      (λ place stands room. in_phase phase (roles.Update phase n u 2) (Plain IADD) place [] (types.Int ∷ types.Int ∷ [])
      (types.Int ∷ []) (update_types phase n u 2 branch (Add var by) e f) (does.adds place (pf phase).locals stands) room (omega arith)
      (λ p. update_on phase n u 2 branch (Add var by) e f refl) (λ j. never j))
  update phase n u (suc (suc (suc zero))) branch (Add var by) insn e f is =
      subst (Typed (roles.Update phase n u 3)) (some_is _ _ is)
      (λ place stands room. in_phase phase (roles.Update phase n u 3) (Want PUTSTATIC (field bools var)) place []
      (types.Int ∷ []) [] (update_types phase n u 3 branch (Add var by) e f)
      (does.writes place (pf phase).locals bools var stands) room (omega arith)
      (λ p. update_done phase n u 3 branch (Add var by) e f refl) (λ j. never j))
  update phase n u (suc (suc (suc (suc done)))) branch (Add var by) insn e f is = absurd cc

  update_in : (phase : Phase) (n u done : ℕ) (insn : BlockInsn) (branch : Branch) → branch_at clauses phase n ≡ Some branch
      → (o : Option Update) → slice_get branch.updates u ≡ o
      → step_insn bools 0 0 (option_map_or update_steps o []) done ≡ Some insn → Typed (roles.Update phase n u done) insn
  update_in phase n u done insn branch e None f is = absurd cc
  update_in phase n u done insn branch e (Some x) f is = update phase n u done branch x insn e f is

  update_of : (phase : Phase) (n u done : ℕ) (insn : BlockInsn) (o : Option Branch) → branch_at clauses phase n ≡ o
      → step_insn bools 0 0 (option_map_or update_steps (option_and_then (λ (b : Branch). slice_get b.updates u) o) []) done ≡ Some insn
      → Typed (roles.Update phase n u done) insn
  update_of phase n u done insn None e is = absurd cc
  update_of phase n u done insn (Some branch) e is = update_in phase n u done insn branch e (slice_get branch.updates u) refl is

  -- ---- jumps

  taken : (phase : Phase) (n : ℕ) → Typed (roles.Taken phase n) (Jump GOTO to)
  taken phase n place stands room =
      in_phase phase (roles.Taken phase n) (Jump GOTO to) place [] [] [] (sym (at.nothing_pushed clauses around fits (pf phase)))
      (does.jumps place (pf phase).locals to stands) room (omega arith)
      (λ p. never p) (λ j. enters phase _ (at.checked_enters clauses around fits mode phase))

  rethrow : Typed roles.Rethrow (Plain ATHROW)
  rethrow place stands room =
      step roles.Rethrow (Plain ATHROW) place (pf Exceptional).locals [] (types.Ref throwable ∷ []) []
      (type_at (pf Exceptional).locals) refl
      (does.throws place (pf Exceptional).locals (types.Ref throwable) (itself place.program (types.Ref throwable)) stands)
      (omega (arith, room.before)) (phase_few place.method room Exceptional)
      (λ p. never p) (λ j. never j)

  -- ---- what an atom asks

  -- An atom asks a value that is there, of the clause for the phase.
  pub record Asks (phase : Phase) (asks : Base) : Type 0 where
    pub clause : Clause
    pub there : clause_in clauses phase ≡ Some clause
    pub there_is : IsBase (length vars) (asked phase clause.args clause.result) asks

  clause_phase : (phase : Phase) (clause : Clause) → clause_in clauses phase ≡ Some clause → clause.phase ≡ phase
  clause_phase Before clause e = subst (λ (o : Option Clause). IfSome o (λ c. c.phase ≡ Before)) e phases.before
  clause_phase After clause e = subst (λ (o : Option Clause). IfSome o (λ c. c.phase ≡ After)) e phases.after
  clause_phase Exceptional clause e = subst (λ (o : Option Clause). IfSome o (λ c. c.phase ≡ Exceptional)) e phases.exceptional

  asks_in : (phase : Phase) (m : ℕ) (atom : Atom) (clause : Clause) (n : ℕ) → clause_in clauses phase ≡ Some clause → (b : Option Branch)
      → slice_get clause.branches n ≡ b
      → option_and_then (λ (x : Branch). slice_get x.atoms m) b ≡ Some atom → Asks phase atom.base
  asks_in phase m atom clause n there None e f = absurd cc
  asks_in phase m atom clause n there (Some branch) e f =
      let is_in : IsClauseIn vars maxint clause = subst (λ (o : Option Clause). IfSome o (IsClauseIn vars maxint)) there (known phase) in
      let branch_in =
      all_get (IsBranchIn vars maxint (asked clause.phase clause.args clause.result)) clause.branches n branch is_in.branches e in
      let base_is =
      all_get (λ (a : Atom). IsBase (length vars)
      (asked clause.phase clause.args clause.result) a.base) branch.atoms m atom branch_in.atoms f in
      record {
        clause = clause;
        there = there;
        there_is =
            subst (λ (p : Phase). IsBase (length vars) (asked p clause.args clause.result) atom.base)
            (clause_phase phase clause there) base_is;
      }

  asks_of : (phase : Phase) (n m : ℕ) (atom : Atom) (o : Option Clause) → clause_in clauses phase ≡ o
      → option_and_then (λ (x : Branch). slice_get x.atoms m) (slice_get (branches_of o) n) ≡ Some atom → Asks phase atom.base
  asks_of phase n m atom None e f = absurd cc
  asks_of phase n m atom (Some clause) e f = asks_in phase m atom clause n e (slice_get clause.branches n) refl f

  number_of : (o : Option Kind) → IsNumber o → (kind : Kind) × (o ≡ Some kind) × (is_number kind ≡ true)
  number_of None n = absurd n
  number_of (Some kind) n = (kind, refl, n)

  -- The base of an atom is pushed, while the locals are those of the phase.
  base_pushed : (phase : Phase) (asks : Base) → Asks phase asks → (place : InsnPlace) → Stands (push_base bools base asks) place
      → HasRoom clauses around place.method
      → Acts place (pf phase).locals [] (types.Int ∷ []) (type_at (pf phase).locals)
  base_pushed phase (bases.Var var) known place stands room = does.reads place (pf phase).locals bools var stands
  base_pushed Before (bases.Arg i) known place stands room =
      let n = number_of (slice_get known.clause.args i) known.there_is in
      let there : argument_at clauses i ≡ Some n.0 = ap (option_and_then (λ (c : Clause). slice_get c.args i)) known.there ∙ n.1 in
      does.loads_number place (pf Before).locals (base + i) stands
      (omega (arith, room.arguments, at.argument_few clauses around fits i n.0 there))
      (at.argument_local clauses around fits i ∙ at.holds_number n.0 _ n.2 (at.argument_held clauses around fits i n.0 there))
  base_pushed After (bases.Arg i) known place stands room = absurd known.there_is
  base_pushed Exceptional (bases.Arg i) known place stands room = absurd known.there_is
  base_pushed Before bases.Result known place stands room = absurd known.there_is
  base_pushed After bases.Result known place stands room =
      let n = number_of known.clause.result known.there_is in
      let there : result_in clauses ≡ Some n.0 = ap (option_and_then (λ (c : Clause). c.result)) known.there ∙ n.1 in
      let result = at.result_kept clauses around fits n.0 there in
      does.loads_number place (pf After).locals base stands (result_room place.method room n.0 there)
      (ap (λ (f : FrameType). type_at f.locals base) result.phase ∙ result_local result.type
      ∙ at.holds_number n.0 result.type n.2 result.held)
  base_pushed Exceptional bases.Result known place stands room = absurd known.there_is

  -- The atom that a role names.
  atom_there : (phase : Phase) (n m : ℕ) (branch : Branch) (atom : Atom) → branch_at clauses phase n ≡ Some branch
      → slice_get branch.atoms m ≡ Some atom → atom_at clauses phase n m ≡ Some atom
  atom_there phase n m branch atom e f = ap (option_and_then (λ (b : Branch). slice_get b.atoms m)) e ∙ f

  ask_types : (phase : Phase) (n m done : ℕ) (branch : Branch) (atom : Atom) → branch_at clauses phase n ≡ Some branch
      → slice_get branch.atoms m ≡ Some atom
      → frame_at clauses around (roles.Ask phase n m done) ≡ Some (with_pushed (pf phase) (types_before (ask_steps atom) done))
  ask_types phase n m done branch atom e f =
      ap (λ (o : Option Atom). Some (with_pushed (pf phase) (types_before (option_map_or ask_steps o []) done)))
      (atom_there phase n m branch atom e f)

  ask_next : (phase : Phase) (n m done : ℕ) (branch : Branch) (atom : Atom) → branch_at clauses phase n ≡ Some branch
      → slice_get branch.atoms m ≡ Some atom
      → compared phase n m done (branch_at clauses phase n) ≡ ask_goes phase n m done branch (Some atom)
  ask_next phase n m done branch atom e f = ap (compared phase n m done) e ∙ ap (ask_goes phase n m done branch) f

  -- The comparison goes on, with the types of the next step.
  ask_on : (phase : Phase) (n m done : ℕ) (branch : Branch) (atom : Atom) → branch_at clauses phase n ≡ Some branch
      → slice_get branch.atoms m ≡ Some atom → (done + 1 == ask_size atom) ≡ false
      → Arrives phase (types_before (ask_steps atom) (done + 1)) (compared phase n m done (branch_at clauses phase n))
  ask_on phase n m done branch atom e f more =
      subst (Arrives phase (types_before (ask_steps atom) (done + 1)))
      (sym (ask_next phase n m done branch atom e f ∙ ap (λ (b : Bool). cond b (held phase n (m + 1) branch) (roles.Ask phase n m (done + 1))) more))
      (arrives phase _ (roles.Ask phase n m (done + 1)) (ask_types phase n m (done + 1) branch atom e f))

  -- It is done, and the next atom is compared.
  ask_done : (phase : Phase) (n m done : ℕ) (branch : Branch) (atom : Atom) → branch_at clauses phase n ≡ Some branch
      → slice_get branch.atoms m ≡ Some atom → (done + 1 == ask_size atom) ≡ true
      → Arrives phase [] (compared phase n m done (branch_at clauses phase n))
  ask_done phase n m done branch atom e f last =
      subst (Arrives phase [])
      (sym (ask_next phase n m done branch atom e f ∙ ap (λ (b : Bool). cond b (held phase n (m + 1) branch) (roles.Ask phase n m (done + 1))) last))
      (enters phase (held phase n (m + 1) branch) (at.held_enters clauses around fits phase n (m + 1) branch))

  ask : (phase : Phase) (n m done : ℕ) (branch : Branch) (atom : Atom) (insn : BlockInsn) → branch_at clauses phase n ≡ Some branch
      → slice_get branch.atoms m ≡ Some atom
      → step_insn bools base to (ask_steps atom) done ≡ Some insn → Typed (roles.Ask phase n m done) insn
  ask phase n m zero branch atom insn e f is =
      subst (Typed (roles.Ask phase n m 0)) (some_is _ _ is)
      (λ place stands room. in_phase phase (roles.Ask phase n m 0) (push_base bools base atom.base) place [] [] (types.Int ∷ [])
      (ask_types phase n m 0 branch atom e f)
      (base_pushed phase atom.base (asks_of phase n m atom (clause_in clauses phase) refl (atom_there phase n m branch atom e f)) place stands room) room
      (omega arith)
      (λ p. ask_on phase n m 0 branch atom e f refl)
      (λ j. never (sym (ap is_some (base_stays bools base atom.base)) ∙ j)))
  ask phase n m (suc zero) branch atom insn e f is =
      subst (Typed (roles.Ask phase n m 1)) (some_is _ _ is)
      (λ place stands room. in_phase phase (roles.Ask phase n m 1) (push atom.value) place (types.Int ∷ []) [] (types.Int ∷ [])
      (ask_types phase n m 1 branch atom e f)
      (does.pushes place (pf phase).locals atom.value stands) room (omega arith) (λ p. ask_on phase n m 1 branch atom e f refl)
      (λ j. never (sym (ap is_some (push_stays atom.value)) ∙ j)))
  ask phase n m (suc (suc zero)) branch atom insn e f is =
      subst (Typed (roles.Ask phase n m 2)) (some_is _ _ is)
      (λ place stands room. in_phase phase (roles.Ask phase n m 2) (Jump (negated atom.rel) to) place []
      (types.Int ∷ types.Int ∷ []) [] (ask_types phase n m 2 branch atom e f)
      (does.compares place (pf phase).locals atom.rel to stands) room (omega arith)
      (λ p. ask_done phase n m 2 branch atom e f refl)
      (λ j. enters phase _ (at.tries_enters clauses around fits phase (n + 1) (branches_in clauses phase))))
  ask phase n m (suc (suc (suc done))) branch atom insn e f is = absurd cc

  ask_in : (phase : Phase) (n m done : ℕ) (insn : BlockInsn) (branch : Branch) → branch_at clauses phase n ≡ Some branch
      → (o : Option Atom) → slice_get branch.atoms m ≡ o
      → step_insn bools base to (option_map_or ask_steps o []) done ≡ Some insn → Typed (roles.Ask phase n m done) insn
  ask_in phase n m done insn branch e None f is = absurd cc
  ask_in phase n m done insn branch e (Some atom) f is = ask phase n m done branch atom insn e f is

  ask_of : (phase : Phase) (n m done : ℕ) (insn : BlockInsn) (o : Option Branch) → branch_at clauses phase n ≡ o
      → step_insn bools base to (option_map_or ask_steps (option_and_then (λ (b : Branch). slice_get b.atoms m) o) []) done ≡ Some insn
      → Typed (roles.Ask phase n m done) insn
  ask_of phase n m done insn None e is = absurd cc
  ask_of phase n m done insn (Some branch) e is = ask_in phase n m done insn branch e (slice_get branch.atoms m) refl is

  -- ---- arguments

  save : (n : ℕ) (kind : Kind) → argument_at clauses n ≡ Some kind → Typed (roles.Save (suc n)) (store kind (base + n))
  save n kind e place stands room =
      let count : ℕ = kept_arguments clauses in
      let t : VType = type_at (kept_types clauses around) n in
      let lt : n < count = at.argument_few clauses around fits n kind e in
      let locals : List VType = saved_locals clauses around (suc n) in
      let rest : List VType = below (count - n) around.before.stack in
      let told : frame_at clauses around (roles.Save (suc n)) ≡ Some (frame locals (rest ++ t ∷ [])) =
      ap (λ (s : List VType). Some (frame locals s)) (at.argument_pushed clauses around fits n lt) in
      let long : length locals ≤ place.method.max_locals =
      omega (arith, saved_length (suc n) (omega (arith, lt)), room.arguments) in
      let fit : locals_fit place.program (λ j. cond (j == base + n) t (type_at locals j)) 0 (saved_locals clauses around n) ≡ true =
      locals_are place.program (λ j. cond (j == base + n) t (type_at locals j)) 0 (saved_locals clauses around n)
      (λ j less. ap (λ (i : ℕ). cond (i == base + n) t (type_at locals i)) (nothing j) ∙ at.argument_saved clauses around fits n lt j) in
      step (roles.Save (suc n)) (store kind (base + n)) place locals rest (t ∷ []) [] (λ j. cond (j == base + n) t (type_at locals j)) told
      (does.stores_one place locals kind (base + n) t stands (omega (arith, room.arguments, lt))
      (at.argument_held clauses around fits n kind e))
      (omega (arith, room.before, length-append rest [], below_few (count - n) around.before.stack)) long
      (λ p. subst
      (λ (o : Option FrameType). IfSome o
      (λ f. (f.stack ≡ rest ++ []) × (locals_fit place.program (λ j. cond (j == base + n) t (type_at locals j)) 0 f.locals ≡ true)))
      (sym (at.saving_frame clauses around fits n)) (sym (append-nil rest), fit))
      (λ j. never (sym (ap is_some (store_stays kind (base + n))) ∙ j))

  load : (n : ℕ) (locked : Bool) (kind : Kind) → argument_at clauses n ≡ Some kind → Typed (roles.Load n locked) (loads kind (base + n))
  load n locked kind e place stands room =
      let count : ℕ = kept_arguments clauses in
      let t : VType = type_at (kept_types clauses around) n in
      let lt : n < count = at.argument_few clauses around fits n kind e in
      let locals : List VType = saved_locals clauses around 0 in
      let rest : List VType = below (count - n) around.before.stack in
      let there : type_at locals (base + n) ≡ t = at.argument_local clauses around fits n in
      let more : count - suc n ≡ count - (n + 1) = omega arith in
      let next_stack : below (count - (n + 1)) around.before.stack ≡ rest ++ t ∷ [] =
      ap (λ (m : ℕ). below m around.before.stack) (sym more) ∙ at.argument_pushed clauses around fits n lt in
      let told : frame_at clauses around (roles.Load n locked) ≡ Some (frame locals (rest ++ [])) =
      ap (λ (s : List VType). Some (frame locals s)) (sym (append-nil rest)) in
      let goes_on : frame_at clauses around (next mode clauses (roles.Load n locked)) ≡ Some (frame locals (rest ++ t ∷ [])) =
      at.loading_frame clauses around fits (n + 1) locked ∙ ap (λ (s : List VType). Some (frame locals s)) next_stack in
      let acts : Acts place locals [] (t ∷ []) (type_at locals) =
      subst (λ (u : VType). Acts place locals [] (u ∷ []) (type_at locals)) there
      (does.loads place locals kind (base + n) stands (omega (arith, room.arguments, lt))
      (ap (kept_kind kind) there ∙ at.argument_held clauses around fits n kind e)) in
      step (roles.Load n locked) (loads kind (base + n)) place locals rest [] (t ∷ []) (type_at locals) told acts
      (omega (arith, room.before, length-append rest (t ∷ []), below_few (count - n) around.before.stack))
      (phase_few place.method room Before)
      (λ p. takes place.program locals (rest ++ t ∷ []) _ goes_on)
      (λ j. never (sym (ap is_some (load_stays kind (base + n))) ∙ j))

  -- ---- results

  keep : (locked : Bool) (kind : Kind) → result_in clauses ≡ Some kind → Typed (roles.Keep locked) (store kind base)
  keep locked kind e place stands room =
      let result = at.result_kept clauses around fits kind e in
      let t : VType = result.type in
      let locals : List VType = padded base around.after.locals in
      let rest : List VType = below 1 around.after.stack in
      let long : length locals ≡ base = at.padded_length clauses around fits around.after.locals fits.after in
      let told : frame_at clauses around (roles.Keep locked) ≡ Some (frame locals (rest ++ t ∷ [])) =
      ap (λ (s : List VType). Some (frame locals s)) result.pushed in
      let fit : locals_fit place.program (λ j. cond (j == base) t (type_at locals j)) 0 (locals ++ t ∷ []) ≡ true =
      locals_are place.program (λ j. cond (j == base) t (type_at locals j)) 0 (locals ++ t ∷ [])
      (λ j less. ap (λ (i : ℕ). cond (i == base) t (type_at locals i)) (nothing j) ∙ result_stored t j) in
      step (roles.Keep locked) (store kind base) place locals rest (t ∷ []) [] (λ j. cond (j == base) t (type_at locals j)) told
      (does.stores_one place locals kind base t stands (result_room place.method room kind e) result.held)
      (omega (arith, room.after, length-append rest [], below_few 1 around.after.stack))
      (omega (arith, long, some_locals place.method room))
      (λ p. kept_next place.program t rest result.phase fit clauses.after refl)
      (λ j. never (sym (ap is_some (store_stays kind base)) ∙ j))

  give : (kind : Kind) → result_in clauses ≡ Some kind → Typed roles.Give (loads kind base)
  give kind e place stands room =
      let result = at.result_kept clauses around fits kind e in
      let t : VType = result.type in
      let client : List VType = padded base around.after.locals in
      let locals : List VType = client ++ t ∷ [] in
      let rest : List VType = below 1 around.after.stack in
      let long : length client ≡ base = at.padded_length clauses around fits around.after.locals fits.after in
      let told : frame_at clauses around roles.Give ≡ Some (frame locals (rest ++ [])) =
      ap Some result.phase ∙ ap (λ (s : List VType). Some (frame locals s)) (sym (append-nil rest)) in
      let there : type_at locals base ≡ t = result_local t in
      let acts : Acts place locals [] (t ∷ []) (type_at locals) =
      subst (λ (u : VType). Acts place locals [] (u ∷ []) (type_at locals)) there
      (does.loads place locals kind base stands (result_room place.method room kind e) (ap (kept_kind kind) there ∙ result.held)) in
      step roles.Give (loads kind base) place locals rest [] (t ∷ []) (type_at locals) told acts
      (omega (arith, room.after, length-append rest (t ∷ []), below_few 1 around.after.stack))
      (omega (arith, long, length-append client (t ∷ []), result_room place.method room kind e))
      (λ p. (
        result.pushed,
        locals_are place.program (type_at locals) 0 client
            (λ j lt. ap (type_at locals) (nothing j) ∙ type_left client (t ∷ []) j lt),
      ))
      (λ j. never (sym (ap is_some (load_stays kind base)) ∙ j))

  leave : Typed roles.Leave (Jump GOTO end)
  leave place stands room =
      let locals : List VType = padded base around.after.locals in
      let stack : List VType = around.after.stack in
      let told : frame_at clauses around roles.Leave ≡ Some (frame locals (stack ++ [])) =
      ap (λ (s : List VType). Some (frame locals s)) (sym (append-nil stack)) in
      step roles.Leave (Jump GOTO end) place locals stack [] [] (type_at locals) told (does.jumps place locals end stands)
      (omega (arith, room.after, length-append stack []))
      (omega (arith, at.padded_length clauses around fits around.after.locals fits.after, some_locals place.method room)) (λ p. never p)
      (λ j. takes place.program locals (stack ++ []) roles.Leave told)

  -- ---- all roles

  save_of : (n : ℕ) (insn : BlockInsn) (o : Option Kind) → argument_at clauses n ≡ o
      → option_map (λ (k : Kind). store k (base + n)) o ≡ Some insn → Typed (roles.Save (suc n)) insn
  save_of n insn None e is = absurd cc
  save_of n insn (Some kind) e is = subst (Typed (roles.Save (suc n))) (some_is _ _ is) (save n kind e)

  load_of : (n : ℕ) (locked : Bool) (insn : BlockInsn) (o : Option Kind) → argument_at clauses n ≡ o
      → option_map (λ (k : Kind). loads k (base + n)) o ≡ Some insn
      → Typed (roles.Load n locked) insn
  load_of n locked insn None e is = absurd cc
  load_of n locked insn (Some kind) e is = subst (Typed (roles.Load n locked)) (some_is _ _ is) (load n locked kind e)

  keep_of : (locked : Bool) (insn : BlockInsn) (o : Option Kind) → result_in clauses ≡ o
      → option_map (λ (k : Kind). store k base) o ≡ Some insn → Typed (roles.Keep locked) insn
  keep_of locked insn None e is = absurd cc
  keep_of locked insn (Some kind) e is = subst (Typed (roles.Keep locked)) (some_is _ _ is) (keep locked kind e)

  give_of : (insn : BlockInsn) (o : Option Kind) → result_in clauses ≡ o → option_map (λ (k : Kind). loads k base) o ≡ Some insn
      → Typed roles.Give insn
  give_of insn None e is = absurd cc
  give_of insn (Some kind) e is = subst (Typed roles.Give) (some_is _ _ is) (give kind e)

  so : (role : Role) (one insn : BlockInsn) → ◌≡◌ {A = Option BlockInsn} (Some one) (Some insn) → Typed role one → Typed role insn
  so role one insn e typed = subst (Typed role) (some_is one insn e) typed

  pub typed : (role : Role) (insn : BlockInsn) → insn_of bools base clauses end to role ≡ Some insn → is_call insn ≡ false → Typed role insn
  typed (roles.Save zero) insn e call = absurd cc
  typed (roles.Save (suc n)) insn e call = save_of n insn (argument_at clauses n) refl e
  typed (roles.Lock phase false) insn e call = so (roles.Lock phase false) (taking false) insn e (lock_class phase)
  typed (roles.Lock phase true) insn e call = so (roles.Lock phase true) (taking true) insn e (lock_taken phase)
  typed (roles.Ask phase n m done) insn e call = ask_of phase n m done insn (branch_at clauses phase n) refl e
  typed (roles.Update phase n u done) insn e call = update_of phase n u done insn (branch_at clauses phase n) refl e
  typed (roles.Taken phase n) insn e call = so (roles.Taken phase n) (Jump GOTO to) insn e (taken phase n)
  typed (roles.Stop phase done) insn e call = stop phase done insn e
  typed (roles.Unlock phase checked false) insn e call =
      so (roles.Unlock phase checked false) (leaving false) insn e (unlock_class phase checked)
  typed (roles.Unlock phase checked true) insn e call =
      so (roles.Unlock phase checked true) (leaving true) insn e (unlock_left phase checked)
  typed (roles.Load n locked) insn e call = load_of n locked insn (argument_at clauses n) refl e
  typed (roles.Call locked) insn e call = never (sym (subst (λ (i : BlockInsn). is_call i ≡ false) (sym (some_is Call insn e)) call))
  typed (roles.Keep locked) insn e call = keep_of locked insn (result_in clauses) refl e
  typed roles.Give insn e call = give_of insn (result_in clauses) refl e
  typed roles.Leave insn e call = so roles.Leave (Jump GOTO end) insn e leave
  typed roles.Rethrow insn e call = so roles.Rethrow (Plain ATHROW) insn e rethrow
  typed roles.Unreached insn e call = absurd cc

pub blocks_are_typed : BlocksAreTyped
blocks_are_typed mode bools vars maxint clauses around end to phases known fits role insn e call =
    typed mode bools vars maxint clauses around end to phases known fits role insn e call
