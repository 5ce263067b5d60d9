-- What a policy tells of a call is what its descriptor does: the kinds of the operands that it takes, and of what it gives.
use Rattle.std.proofs.Common.{◌≡◌, ℕ, suc, ◌-◌, ◌≤◌, Bool, true, false, cond, List, [], ◌∷◌, ◌++◌, length, map, drop, Option, Some, None, refl, sym, ap, subst, ◌∙◌, arith}
use Rattle.std.specs.Prelude.{IfSome, ◌&&◌, ◌==◌, slice_get}
use Rattle.std.proofs.lemmas.Bool.{and_from, and_parts, eqb-true}
use Rattle.std.proofs.lemmas.List.{length-map, map-append}
use Rattle.api_listing.specs.declared.types.ListedMethod.{ListedMethod}
use Rattle.api_listing.specs.declared.types.Listing.{Listing}
use Rattle.cert_format.specs.declared.typing.VType.{VType}
use Rattle.cert_format.specs.declared.typing.VType.TheVariants as types
use Rattle.insn_codec.specs.declared.shape.ValueKind.TheVariants as operands
use Rattle.bytecode_model.specs.declared.program.Program.{Program}
use Rattle.bytecode_model.specs.Assigning.{assignable}
use Rattle.bytecode_model.specs.Described.{Descriptor, result_type, type_described}
use Rattle.bytecode_model.specs.Makes.{call_yields, topmost, type_at}
use Rattle.bytecode_model.specs.Wants.{Want, all_met, of_kind, to_described}
use Rattle.conspec_tree.specs.declared.types.Kind.{Kind}
use Rattle.conspec_tree.specs.declared.types.Kind.TheVariants as kinds
use Rattle.conspec_tree.specs.declared.types.Phase.{Phase}
use Rattle.conspec_automaton.specs.declared.policy.Clause.{Clause}
use Rattle.conspec_automaton.specs.declared.policy.Policy.{Policy}
use Rattle.block_template.specs.Blocks.{clause_at, is_phase}
use Rattle.block_template.specs.Typed.{kept_kind}
use Rattle.block_template.proofs.Policies.{Found, found_is}
use Rattle.block_template.proofs.Types.{from_place, top_of}
use Rattle.woven_typing.specs.Renaming.{renamed}
use Rattle.woven_typing.specs.Telling.{AreOfKinds, ClauseTells, IsOfKind, IsOfResult, TellsKinds, TellsOf}

-- ---- the clauses of a method

pub told_of : (listing : Listing) (policy : Policy) (index : ℕ) (phase : Phase) (method : ListedMethod) → TellsKinds listing policy
    → slice_get listing.methods index ≡ Some method → IfSome (clause_at policy index phase) (λ c. TellsOf c method)
told_of listing policy index phase method tells there =
    by (clause_at policy index phase)
    (found_is (ClauseTells listing) (λ (c : Clause). (c.method == index) && is_phase phase c.phase) policy.clauses tells)
  where
    by : (o : Option Clause) → IfSome o (Found (ClauseTells listing) (λ (c : Clause). (c.method == index) && is_phase phase c.phase))
        → IfSome o (λ c. TellsOf c method)
    by None found = tt
    by (Some clause) found =
        let parts = and_parts (clause.method == index) (is_phase phase clause.phase) found.1 in
        let same : clause.method ≡ index = eqb-true clause.method index parts.0 in
        found.0 method (ap (slice_get listing.methods) same ∙ there)

-- ---- arguments

-- What is assignable to a type of the kind is held by that kind of operand.
to_object : (program : Program) (t : VType) (name : List ℕ) → assignable program t (types.Ref name) ≡ true → of_kind operands.Reference t ≡ true
to_object program types.Null name e = refl
to_object program (types.Ref n) name e = refl
to_object program types.Top name e = absurd cc
to_object program types.Int name e = absurd cc
to_object program types.UninitThis name e = absurd cc
to_object program (types.Uninit i) name e = absurd cc

to_number : (program : Program) (t : VType) → assignable program t types.Int ≡ true → of_kind operands.Int t ≡ true
to_number program types.Int e = refl
to_number program types.Top e = absurd cc
to_number program types.Null e = absurd cc
to_number program (types.Ref n) e = absurd cc
to_number program types.UninitThis e = absurd cc
to_number program (types.Uninit i) e = absurd cc

module _ (program : Program) where
  number_held : (t u : VType) → u ≡ types.Int → assignable program t u ≡ true → of_kind operands.Int t ≡ true
  number_held t u is fits = to_number program t (subst (λ (v : VType). assignable program t v ≡ true) is fits)

  held : (kind : Kind) (t u : VType) → IsOfKind kind u → assignable program t u ≡ true → kept_kind kind t ≡ true
  held kinds.Object t u is fits = to_object program t is.0 (subst (λ (v : VType). assignable program t v ≡ true) is.1 fits)
  held kinds.Int t u is fits = number_held t u is fits
  held kinds.Bool t u is fits = number_held t u is fits
  held kinds.Byte t u is fits = number_held t u is fits
  held kinds.Short t u is fits = number_held t u is fits
  held kinds.Char t u is fits = number_held t u is fits

  all_held : (args : List Kind) (descs : List Descriptor) (ts : List VType) → AreOfKinds args descs
      → all_met (map (to_described program) descs) ts ≡ true → all_met (map kept_kind args) ts ≡ true
  all_held [] [] [] are met = refl
  all_held [] [] (t ∷ ts) are met = absurd cc
  all_held [] (d ∷ descs) ts are met = absurd are
  all_held (kind ∷ args) [] ts are met = absurd are
  all_held (kind ∷ args) (d ∷ descs) [] are met = absurd cc
  all_held (kind ∷ args) (d ∷ descs) (t ∷ ts) are met =
      let parts = and_parts (to_described program d t) (all_met (map (to_described program) descs) ts) met in
      and_from (kept_kind kind t) (all_met (map kept_kind args) ts) (held kind t (type_described d) are.0 parts.0) (all_held args descs ts are.1 parts.1)

  kinds_count : (args : List Kind) (descs : List Descriptor) → AreOfKinds args descs → length descs ≡ length args
  kinds_count [] [] are = refl
  kinds_count [] (d ∷ descs) are = absurd are
  kinds_count (kind ∷ args) [] are = absurd are
  kinds_count (kind ∷ args) (d ∷ descs) are = ap suc (kinds_count args descs are.1)

  -- Of operands of which the topmost are taken, whether a receiver is below the arguments or not.
  module _ (args : List Kind) (descs : List Descriptor) (are : AreOfKinds args descs) (stack : List VType) where
    abbrev wanted : List Want
    wanted = map (to_described program) descs

    count : length wanted ≡ length args
    count = length-map descs (to_described program) ∙ kinds_count args descs are

    bare : all_met wanted (topmost (length wanted) stack) ≡ true → all_met (map kept_kind args) (topmost (length args) stack) ≡ true
    bare e = ap (λ (n : ℕ). all_met (map kept_kind args) (topmost n stack)) (sym count) ∙ all_held args descs (topmost (length wanted) stack) are e

    with_receiver : (w : Want) → length (w ∷ wanted) ≤ length stack → all_met (w ∷ wanted) (topmost (length (w ∷ wanted)) stack) ≡ true
        → all_met (map kept_kind args) (topmost (length args) stack) ≡ true
    with_receiver w le e =
        let n : ℕ = length stack - length (w ∷ wanted) in
        let lower : topmost (length (w ∷ wanted)) stack ≡ type_at stack n ∷ drop (suc n) stack = from_place n stack (omega (arith, le)) in
        let same : suc n ≡ length stack - length wanted = omega (arith, le) in
        let parts = and_parts (w (type_at stack n)) (all_met wanted (drop (suc n) stack)) (ap (all_met (w ∷ wanted)) (sym lower) ∙ e) in
        bare (ap (λ (m : ℕ). all_met wanted (drop m stack)) (sym same) ∙ parts.1)

    pub arguments_held : (b : Bool) (w : Want) → length (cond b (w ∷ wanted) wanted) ≤ length stack
        → all_met (cond b (w ∷ wanted) wanted) (topmost (length (cond b (w ∷ wanted) wanted)) stack) ≡ true
        → all_met (map kept_kind args) (topmost (length args) stack) ≡ true
    arguments_held true w le e = with_receiver w le e
    arguments_held false w le e = bare e

-- ---- results

module _ (moved : ℕ → ℕ) where
  number_given : (t : VType) → t ≡ types.Int → of_kind operands.Int (renamed moved t) ≡ true
  number_given t is = ap (λ (u : VType). of_kind operands.Int (renamed moved u)) is

  given : (kind : Kind) (t : VType) → IsOfKind kind t → kept_kind kind (renamed moved t) ≡ true
  given kinds.Object t is = ap (λ (u : VType). of_kind operands.Reference (renamed moved u)) is.1
  given kinds.Int t is = number_given t is
  given kinds.Bool t is = number_given t is
  given kinds.Byte t is = number_given t is
  given kinds.Short t is = number_given t is
  given kinds.Char t is = number_given t is

  -- What is on top of other operands after a call is what it gives.
  pub result_held : (kind : Kind) (desc : List ℕ) (below : List VType) → IsOfResult desc kind
      → all_met (kept_kind kind ∷ []) (topmost 1 (map (renamed moved) (below ++ call_yields (result_type desc)))) ≡ true
  result_held kind desc below is =
      let one : map (renamed moved) (below ++ call_yields (result_type desc)) ≡ map (renamed moved) below ++ renamed moved is.0 ∷ [] =
      ap (λ (o : Option VType). map (renamed moved) (below ++ call_yields o)) is.1 ∙ map-append (renamed moved) below (is.0 ∷ []) in
      ap (λ (s : List VType). all_met (kept_kind kind ∷ []) (topmost 1 s)) one
      ∙ ap (all_met (kept_kind kind ∷ [])) (top_of (map (renamed moved) below) (renamed moved is.0 ∷ []))
      ∙ and_from (kept_kind kind (renamed moved is.0)) true (given kind is.0 is.2) refl
