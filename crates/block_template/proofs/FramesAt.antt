-- The types before a call and after it, at the roles of a block.
use Rattle.std.proofs.Common.{◌≡◌, ℕ, zero, suc, ◌+◌, ◌-◌, ◌<◌, ◌≤◌, Bool, true, false, cond, List, [], ◌∷◌, ◌++◌, length, map, drop, replicate, Option, Some, None, refl, sym, ap, subst, ◌∙◌, append-nil, arith, length-append}
use Rattle.std.specs.Prelude.{◌==◌, IfSome, is_some, option_and_then, slice_get}
use Rattle.std.specs.Option.{option_map_or}
use Rattle.std.proofs.lemmas.Bool.{and_parts}
use Rattle.std.proofs.lemmas.List.{length-map, length-replicate}
use Rattle.std.proofs.lemmas.Option.{slice_get_within}
use Rattle.cert_format.specs.declared.certificate.Mode.{Mode}
use Rattle.cert_format.specs.declared.certificate.Mode.TheVariants.{Hold, Release}
use Rattle.cert_format.specs.declared.typing.FrameType.{FrameType}
use Rattle.cert_format.specs.declared.typing.VType.{VType}
use Rattle.cert_format.specs.declared.typing.VType.TheVariants as types
use Rattle.insn_codec.specs.declared.shape.ValueKind.TheVariants as operands
use Rattle.bytecode_model.specs.Makes.{below, topmost, type_at}
use Rattle.bytecode_model.specs.Wants.{all_met, of_kind}
use Rattle.conspec_tree.specs.declared.types.Atom.{Atom}
use Rattle.conspec_tree.specs.declared.types.Kind.{Kind}
use Rattle.conspec_tree.specs.declared.types.Kind.TheVariants as kinds
use Rattle.conspec_tree.specs.declared.types.Phase.{Phase}
use Rattle.conspec_tree.specs.declared.types.Phase.TheVariants.{Before, After, Exceptional}
use Rattle.conspec_tree.specs.declared.types.Update.{Update}
use Rattle.conspec_tree.specs.declared.types.Update.TheVariants.{Set, Add}
use Rattle.conspec_automaton.specs.declared.policy.Branch.{Branch}
use Rattle.conspec_automaton.specs.declared.policy.Clause.{Clause}
use Rattle.block_template.specs.declared.item.Role.{Role}
use Rattle.block_template.specs.declared.item.Role.TheVariants as roles
use Rattle.block_template.specs.Blocks.{Clauses}
use Rattle.block_template.specs.Flow.{
  argument_at,
  atom_at,
  check_after,
  checked_in,
  held,
  keeps_result,
  loading,
  made,
  result_in,
  saving,
  tries,
  unlocked_in,
  update_at,
}
use Rattle.block_template.specs.Frames.{
  Around,
  argument_kinds,
  frame,
  frame_at,
  kept_arguments,
  kept_types,
  padded,
  phase_frame,
  saved_locals,
  types_before,
  with_pushed,
}
use Rattle.block_template.specs.Typed.{FitsAround, kept_kind}
use Rattle.block_template.specs.Steps.{ask_steps, update_steps}
use Rattle.block_template.proofs.Acting.{met_length}
use Rattle.block_template.proofs.Types.{
  below_none,
  from_place,
  split_kept,
  split_top,
  stored_after,
  stored_last,
  topmost_there,
  type_right,
}
use Rattle.conspec_tree.specs.Kinds.{is_number}

-- ---- kinds

pub is_int : (t : VType) → of_kind operands.Int t ≡ true → t ≡ types.Int
is_int types.Int e = refl
is_int types.Top e = absurd cc
is_int types.Null e = absurd cc
is_int (types.Ref name) e = absurd cc
is_int types.UninitThis e = absurd cc
is_int (types.Uninit i) e = absurd cc

pub holds_number : (kind : Kind) (t : VType) → is_number kind ≡ true → kept_kind kind t ≡ true → t ≡ types.Int
holds_number kinds.Object t number e = absurd cc
holds_number kinds.Int t number e = is_int t e
holds_number kinds.Bool t number e = is_int t e
holds_number kinds.Byte t number e = is_int t e
holds_number kinds.Short t number e = is_int t e
holds_number kinds.Char t number e = is_int t e

pub held_at : (args : List Kind) (ts : List VType) (n : ℕ) (kind : Kind) → all_met (map kept_kind args) ts ≡ true
    → slice_get args n ≡ Some kind → kept_kind kind (type_at ts n) ≡ true
held_at [] ts n kind met e = absurd cc
held_at (k ∷ args) [] n kind met e = absurd cc
held_at (k ∷ args) (t ∷ ts) zero kind met e =
    subst (λ (x : Kind). kept_kind x t ≡ true) (same k kind e) (and_parts (kept_kind k t) (all_met (map kept_kind args) ts) met).0
  where
    same : (k kind : Kind) → ◌≡◌ {A = Option Kind} (Some k) (Some kind) → k ≡ kind
    same k kind e = cc
held_at (k ∷ args) (t ∷ ts) (suc n) kind met e = held_at args ts n kind (and_parts (kept_kind k t) (all_met (map kept_kind args) ts) met).1 e

pub past_end : (args : List Kind) (n : ℕ) → slice_get args n ≡ None → length args ≤ n
past_end [] n e = omega arith
past_end (k ∷ args) zero e = absurd cc
past_end (k ∷ args) (suc n) e = omega (arith, past_end args n e)

pub argument_is : (o : Option Clause) (n : ℕ)
    → option_and_then (λ (c : Clause). slice_get c.args n) o ≡ slice_get (option_map_or (λ (c : Clause). c.args) o []) n
argument_is None n = refl
argument_is (Some c) n = refl

-- ---- the frames of a call

module _ (clauses : Clauses) (around : Around) (fits : FitsAround clauses around) where
  abbrev pub count : ℕ
  count = kept_arguments clauses

  abbrev pub stack : List VType
  stack = around.before.stack

  abbrev pub kept : List VType
  kept = kept_types clauses around

  pub padded_length : (locals : List VType) → length locals ≤ around.base → length (padded around.base locals) ≡ around.base
  padded_length locals le =
      omega (
        arith,
        le,
        length-append locals (replicate (around.base - length locals) types.Top),
        length-replicate
            (around.base - length locals) types.Top,
      )

  pub kept_length : length kept ≡ count
  kept_length = sym (met_length (map kept_kind (argument_kinds clauses)) kept fits.arguments) ∙ length-map (argument_kinds clauses) kept_kind

  pub operands_there : count ≤ length stack
  operands_there = topmost_there count stack kept_length

  -- ---- arguments

  pub argument_there : (n : ℕ) (kind : Kind) → argument_at clauses n ≡ Some kind → slice_get (argument_kinds clauses) n ≡ Some kind
  argument_there n kind e = sym (argument_is clauses.before n) ∙ e

  pub argument_few : (n : ℕ) (kind : Kind) → argument_at clauses n ≡ Some kind → n < count
  argument_few n kind e = slice_get_within (argument_kinds clauses) n kind (argument_there n kind e)

  pub argument_held : (n : ℕ) (kind : Kind) → argument_at clauses n ≡ Some kind → kept_kind kind (type_at kept n) ≡ true
  argument_held n kind e = held_at (argument_kinds clauses) kept n kind fits.arguments (argument_there n kind e)

  pub argument_pushed : (n : ℕ) → n < count → below (count - suc n) stack ≡ below (count - n) stack ++ type_at kept n ∷ []
  argument_pushed n lt = split_kept count n stack lt operands_there

  pub argument_saved : (n : ℕ) → n < count → (j : ℕ)
      → cond (j == around.base + n) (type_at kept n) (type_at (saved_locals clauses around (suc n)) j) ≡ type_at
      (saved_locals clauses around n) j
  argument_saved n lt j =
      let client : List VType = padded around.base around.before.locals in
      let long : around.base + n ≡ length client + n = ap (λ (m : ℕ). m + n) (sym (padded_length around.before.locals fits.before)) in
      ap (λ (m : ℕ). cond (j == m) (type_at kept n) (type_at (saved_locals clauses around (suc n)) j)) long
      ∙ stored_after client (replicate (suc n) types.Top ++ drop (suc n) kept)
      (replicate n types.Top ++ type_at kept n ∷ drop (suc n) kept) n (type_at kept n)
      (stored_last n (type_at kept n) (drop (suc n) kept)) j
      ∙ ap (λ (xs : List VType). type_at (client ++ (replicate n types.Top ++ xs)) j)
      (sym (from_place n kept (omega (arith, lt, kept_length))))

  pub argument_local : (n : ℕ) → type_at (saved_locals clauses around 0) (around.base + n) ≡ type_at kept n
  argument_local n =
      let client : List VType = padded around.base around.before.locals in
      ap (λ (m : ℕ). type_at (client ++ kept) (m + n)) (sym (padded_length around.before.locals fits.before)) ∙ type_right client kept n

  -- ---- what begins a phase

  -- The role has the types of the phase.
  abbrev pub Enters : Phase → Role → Type 0
  Enters phase role = frame_at clauses around role ≡ Some (phase_frame clauses around phase)

  pub nothing_pushed : (f : FrameType) → ◌≡◌ {A = Option FrameType} (Some (with_pushed f [])) (Some f)
  nothing_pushed f = ap (λ (s : List VType). Some (frame f.locals s)) (append-nil f.stack)

  nothing_written : (o : Option Update) → types_before (option_map_or update_steps o []) 0 ≡ []
  nothing_written None = refl
  nothing_written (Some (Set var value)) = refl
  nothing_written (Some (Add var by)) = refl

  made_of : (phase : Phase) (n u : ℕ) (o : Option Update)
      → Enters phase (option_map_or (λ (x : Update). roles.Update phase n u 0) o (roles.Taken phase n))
  made_of phase n u None = refl
  made_of phase n u (Some x) =
      ap (λ (s : List VType). Some (with_pushed (phase_frame clauses around phase) s)) (nothing_written (update_at clauses phase n u))
      ∙ nothing_pushed (phase_frame clauses around phase)

  pub made_enters : (phase : Phase) (n u : ℕ) (branch : Branch) → Enters phase (made phase n u branch)
  made_enters phase n u branch = made_of phase n u (slice_get branch.updates u)

  nothing_asked : (o : Option Atom) → types_before (option_map_or ask_steps o []) 0 ≡ []
  nothing_asked None = refl
  nothing_asked (Some x) = refl

  held_of : (phase : Phase) (n a : ℕ) (branch : Branch) (o : Option Atom)
      → Enters phase (option_map_or (λ (x : Atom). roles.Ask phase n a 0) o (made phase n 0 branch))
  held_of phase n a branch None = made_enters phase n 0 branch
  held_of phase n a branch (Some x) =
      ap (λ (s : List VType). Some (with_pushed (phase_frame clauses around phase) s)) (nothing_asked (atom_at clauses phase n a))
      ∙ nothing_pushed (phase_frame clauses around phase)

  pub held_enters : (phase : Phase) (n a : ℕ) (branch : Branch) → Enters phase (held phase n a branch)
  held_enters phase n a branch = held_of phase n a branch (slice_get branch.atoms a)

  tries_of : (phase : Phase) (n : ℕ) (o : Option Branch) → Enters phase (option_map_or (held phase n 0) o (roles.Stop phase 0))
  tries_of phase n None = nothing_pushed (phase_frame clauses around phase)
  tries_of phase n (Some branch) = held_enters phase n 0 branch

  pub tries_enters : (phase : Phase) (n : ℕ) (branches : List Branch) → Enters phase (tries phase n branches)
  tries_enters phase n branches = tries_of phase n (slice_get branches n)

  pub after_enters : (mode : Mode) (phase : Phase) (clause : Clause) → Enters phase (check_after mode phase clause)
  after_enters Release phase clause = nothing_pushed (phase_frame clauses around phase)
  after_enters Hold phase clause = tries_enters phase 0 clause.branches

  -- ---- arguments that are kept or loaded

  pub saving_frame : (n : ℕ) → frame_at clauses around (saving n) ≡ Some (frame (saved_locals clauses around n) (below (count - n) stack))
  saving_frame zero =
      let all : count ≡ count - 0 = omega arith in
      nothing_pushed (phase_frame clauses around Before) ∙ ap (λ (m : ℕ). Some (frame (saved_locals clauses around 0) (below m stack))) all
  saving_frame (suc n) = refl

  loading_of : (n : ℕ) (locked : Bool) (o : Option Kind) → (o ≡ None → count ≤ n)
      → frame_at clauses around (option_map_or (λ (k : Kind). roles.Load n locked) o (roles.Call locked)) ≡ Some
      (frame (saved_locals clauses around 0) (below (count - n) stack))
  loading_of n locked None few =
      let none : 0 ≡ count - n = omega (arith, few refl) in
      ap (λ (s : List VType). Some (frame (saved_locals clauses around 0) s)) (sym (below_none stack) ∙ ap (λ (m : ℕ). below m stack) none)
  loading_of n locked (Some kind) few = refl

  pub loading_frame : (n : ℕ) (locked : Bool)
      → frame_at clauses around (loading clauses n locked) ≡ Some (frame (saved_locals clauses around 0) (below (count - n) stack))
  loading_frame n locked =
      loading_of n locked (argument_at clauses n) (λ e. past_end (argument_kinds clauses) n (sym (argument_is clauses.before n) ∙ e))

  pub loading_enters : (locked : Bool) → Enters Before (loading clauses 0 locked)
  loading_enters locked =
      let all : count - 0 ≡ count = omega arith in
      loading_frame 0 locked ∙ ap (λ (m : ℕ). Some (frame (saved_locals clauses around 0) (below m stack))) all

  -- ---- results

  result_of : (o : Option Clause)
      → option_map_or (λ (c : Clause). is_some c.result) o false ≡ is_some (option_and_then (λ (c : Clause). c.result) o)
  result_of None = refl
  result_of (Some c) = refl

  pub keeps_is : keeps_result clauses ≡ is_some (result_in clauses)
  keeps_is = result_of clauses.after

  -- With a result it is on top after the call, and kept in the local after the client's.
  pub record IsKept (kind : Kind) : Type 0 where
    pub type : VType
    pub held : kept_kind kind type ≡ true
    pub pushed : around.after.stack ≡ below 1 around.after.stack ++ type ∷ []
    pub phase : phase_frame clauses around After ≡ frame (padded around.base around.after.locals ++ type ∷ []) (below 1 around.after.stack)

  pub result_kept : (kind : Kind) → result_in clauses ≡ Some kind → IsKept kind
  result_kept kind e =
      by (topmost 1 around.after.stack) refl
      (subst (λ (o : Option Kind). IfSome o (λ k. all_met (kept_kind k ∷ []) (topmost 1 around.after.stack) ≡ true)) e fits.result)
    where
      keeps : keeps_result clauses ≡ true
      keeps = keeps_is ∙ ap is_some e

      by : (top : List VType) → topmost 1 around.after.stack ≡ top → all_met (kept_kind kind ∷ []) top ≡ true → IsKept kind
      by [] is met = absurd cc
      by (t ∷ u ∷ top) is met = absurd (omega (arith, met_length (kept_kind kind ∷ []) (t ∷ u ∷ top) met))
      by (t ∷ []) is met = record {
        type = t;
        held = (and_parts (kept_kind kind t) true met).0;
        pushed = split_top 1 around.after.stack ∙ ap (λ (top : List VType). below 1 around.after.stack ++ top) is;
        phase =
            ap (λ (b : Bool). frame (padded around.base around.after.locals ++ cond b (topmost 1 around.after.stack) [])
            (cond b (below 1 around.after.stack) around.after.stack)) keeps
            ∙ ap (λ (top : List VType). frame (padded around.base around.after.locals ++ top) (below 1 around.after.stack)) is;
      }

  -- Without a result the phase begins as the call leaves it.
  pub not_kept : keeps_result clauses ≡ false
      → phase_frame clauses around After ≡ frame (padded around.base around.after.locals) around.after.stack
  not_kept without =
      ap (λ (b : Bool). frame (padded around.base around.after.locals ++ cond b (topmost 1 around.after.stack) [])
      (cond b (below 1 around.after.stack) around.after.stack)) without
      ∙ ap (λ (locals : List VType). frame locals around.after.stack) (append-nil (padded around.base around.after.locals))

  -- ---- what comes after a check and its lock

  pub checked_enters : (mode : Mode) (phase : Phase) → Enters phase (checked_in mode clauses phase)
  checked_enters Release phase = nothing_pushed (phase_frame clauses around phase)
  checked_enters Hold Before = loading_enters true
  checked_enters Hold After = nothing_pushed (phase_frame clauses around After)
  checked_enters Hold Exceptional = nothing_pushed (phase_frame clauses around Exceptional)

  left_of : (b : Bool) → keeps_result clauses ≡ b → Enters After (cond b roles.Give roles.Leave)
  left_of true e = refl
  left_of false e = ap Some (sym (not_kept e))

  pub unlocked_enters : (phase : Phase) → Enters phase (unlocked_in clauses phase)
  unlocked_enters Before = loading_enters false
  unlocked_enters After = left_of (keeps_result clauses) refl
  unlocked_enters Exceptional = refl
