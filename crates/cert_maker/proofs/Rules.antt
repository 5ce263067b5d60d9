-- Where an instruction has a row, and what comes next meets it, no rule of the notes fails there.
use Rattle.std.proofs.Common.{◌≡◌, ℕ, ◌+◌, Bool, true, false, cond, List, [], ◌∷◌, Option, Some, None, refl, ap, ◌∙◌}
use Rattle.std.specs.Prelude.{◌==◌, ◌&&◌, ◌||◌, is_some, not, slice_get}
use Rattle.std.specs.List.{AllByRecursion, list_all}
use Rattle.std.specs.Option.{option_map_or}
use Rattle.std.proofs.lemmas.Bool.{and_from, and_parts}
use Rattle.insn_codec.specs.declared.insn.Insn.{Insn}
use Rattle.insn_codec.specs.Control.{jump_targets}
use Rattle.insn_codec.specs.Opcodes.{goes_on}
use Rattle.insn_codec.specs.Encoding.{opcode_of}
use Rattle.insn_codec.specs.Shapes.{shape_of}
use Rattle.bytecode_model.specs.declared.program.Handler.{Handler}
use Rattle.bytecode_model.specs.declared.program.Method.{Method}
use Rattle.bytecode_model.specs.declared.program.Target.{Target}
use Rattle.bytecode_model.specs.Rules.{covers}
use Rattle.cert_format.specs.declared.note.Note.{Note}
use Rattle.block_logic.specs.Notes.{
  Here,
  all_pass,
  calls_well,
  catches_well,
  first_broken,
  is_free,
  is_held,
  rules_at,
  handlers_of,
  handlers_pass,
  is_stop,
  leaves_alone,
  meets,
  next_pass,
  note_fault,
  note_passes,
  row_fault,
  stops_well,
}
use Rattle.block_logic.specs.Operands.{enters, leaves, writes_static}
use Rattle.block_logic.specs.Rows as rows
use Rattle.block_logic.specs.Rows.{Asked, Row, Rules}
use Rattle.block_logic.specs.Weakening.{is_open}

-- ---- lists

pub all_hold : {X : Type 0} (p : X → Bool) (xs : List X) → AllByRecursion (λ (x : X). p x ≡ true) xs → list_all p xs ≡ true
all_hold p [] all = refl
all_hold p (x ∷ xs) all = and_from (p x) (list_all p xs) all.0 (all_hold p xs all.1)

weaker_all : {X : Type 0} (p q : X → Bool) → ((x : X) → p x ≡ true → q x ≡ true) → (xs : List X) → list_all p xs ≡ true → list_all q xs ≡ true
weaker_all p q weaker [] e = refl
weaker_all p q weaker (x ∷ xs) e =
    let both = and_parts (p x) (list_all p xs) e in
    and_from (q x) (list_all q xs) (weaker x both.0) (weaker_all p q weaker xs both.1)

pub or_last : (x y : Bool) → y ≡ true → (x || y) ≡ true
or_last true y e = refl
or_last false y e = e

or_weaker : (x y z : Bool) → (y ≡ true → z ≡ true) → (x || y) ≡ true → (x || z) ≡ true
or_weaker true y z f e = refl
or_weaker false y z f e = f e

-- the handlers that may take what is thrown at an instruction, where each that covers it passes
pub caught_all : (p : ℕ → Bool) (at : ℕ) (handlers : List Handler) → AllByRecursion (λ (h : Handler). covers at h ≡ true → p h.at ≡ true) handlers
    → list_all p (handlers_of at handlers) ≡ true
caught_all p at [] all = refl
caught_all p at (h ∷ handlers) all = by (covers at h) refl (is_some h.class) (caught_all p at handlers all.1)
  where
    by : (b : Bool) → covers at h ≡ b → (c : Bool) → list_all p (handlers_of at handlers) ≡ true
        → list_all p (cond b (h.at ∷ cond c (handlers_of at handlers) []) (handlers_of at handlers)) ≡ true
    by true e true later = and_from (p h.at) (list_all p (handlers_of at handlers)) (all.0 e) later
    by true e false later = and_from (p h.at) true (all.0 e) refl
    by false e c later = later

-- No rule is broken where each holds.
eight : (a b c d e f g h : Bool) → a ≡ true → b ≡ true → c ≡ true → d ≡ true → e ≡ true → f ≡ true → g ≡ true → h ≡ true
    → first_broken ((1, a) ∷ (2, b) ∷ (3, c) ∷ (4, d) ∷ (5, e) ∷ (6, f) ∷ (7, g) ∷ (8, h) ∷ []) ≡ None
eight a b c d e f g h p q r s t u v w = rw (p, q, r, s, t, u, v, w) refl

-- ---- what is asked of a way out is asked at all

module _ (canonical : List Note) (method : Method) (here : Here) where
  module _ (p q : Asked → Note → Bool) (weaker : (wants : Asked) (note : Note) → p wants note ≡ true → q wants note ≡ true) where
    place_weaker : (wants : Asked) (at : ℕ) → note_passes p canonical wants at ≡ true → note_passes q canonical wants at ≡ true
    place_weaker wants at = by (slice_get canonical at)
      where
        by : (o : Option Note) → option_map_or (p wants) o false ≡ true → option_map_or (q wants) o false ≡ true
        by None e = absurd cc
        by (Some note) e = weaker wants note e

    handlers_weaker : (wants : Asked) → list_all (note_passes p canonical wants) (handlers_of here.at method.handlers) ≡ true
        → list_all (note_passes q canonical wants) (handlers_of here.at method.handlers) ≡ true
    handlers_weaker wants e =
        weaker_all (note_passes p canonical wants) (note_passes q canonical wants) (place_weaker wants) (handlers_of here.at method.handlers) e

    pass_weaker : (row : Row) → all_pass p canonical (Some row) method here ≡ true → all_pass q canonical (Some row) method here ≡ true
    pass_weaker row e =
        let both = and_parts (next_pass p canonical (Some row) here) (handlers_pass p canonical (Some row) method here) e in
        let goes : Bool = not (goes_on (opcode_of here.insn)) in
        let next = and_parts (goes || note_passes p canonical row.past (here.at + 1)) (list_all (note_passes p canonical row.jump) (jump_targets here.insn)) both.0 in
        and_from (next_pass q canonical (Some row) here) (handlers_pass q canonical (Some row) method here)
        (and_from (goes || note_passes q canonical row.past (here.at + 1)) (list_all (note_passes q canonical row.jump) (jump_targets here.insn))
        (or_weaker goes (note_passes p canonical row.past (here.at + 1)) (note_passes q canonical row.past (here.at + 1)) (place_weaker row.past (here.at + 1)) next.0)
        (weaker_all (note_passes p canonical row.jump) (note_passes q canonical row.jump) (place_weaker row.jump) (jump_targets here.insn) next.1))
        (handlers_weaker row.thrown both.1)

  -- ---- the rules

  module _ (rules : Rules) (note : Note) where
    -- What is known where no rule fails.
    pub record Holds : Type 0 where
      pub row : Row
      pub is : rows.row rules note (shape_of here.insn) here.ref ≡ Some row
      pub alone : leaves_alone rules canonical note here ≡ true
      pub called : calls_well rules note here ≡ true
      pub caught : catches_well rules canonical method note here ≡ true
      pub pass : all_pass (meets rules) canonical (Some row) method here ≡ true
      pub first : (here.at == 0) ≡ true → is_open rules.held rules.policy note ≡ true

    begins : (b : Bool) → (b ≡ true → is_open rules.held rules.policy note ≡ true) → (not b || is_open rules.held rules.policy note) ≡ true
    begins true f = f refl
    begins false f = refl

    stops_or_goes : (b c : Bool) → c ≡ true → cond b true c ≡ true
    stops_or_goes true c e = refl
    stops_or_goes false c e = e

    has_row : (x y : Bool) → (x || (y || true)) ≡ true
    has_row true y = refl
    has_row false true = refl
    has_row false false = refl

    pub no_fault : Holds → row_fault rules canonical method here note ≡ None
    no_fault h =
        let meet : Bool = all_pass (meets rules) canonical (Some h.row) method here in
        let stops : all_pass (stops_well rules) canonical (Some h.row) method here ≡ true =
        pass_weaker (meets rules) (stops_well rules) (λ wants n e. or_last _ _ e) h.row h.pass in
        ap (λ (o : Option Row). first_broken (rules_at rules canonical method note here o)) h.is
        ∙ eight (leaves_alone rules canonical note here) (calls_well rules note here) (catches_well rules canonical method note here)
        (not (enters (shape_of here.insn) || leaves (shape_of here.insn)) || (is_free note || true))
        (not (is_held note) || (writes_static (shape_of here.insn) || true))
        (not (writes_static (shape_of here.insn)) || (is_free note || true))
        (cond (is_stop note) true (all_pass (stops_well rules) canonical (Some h.row) method here))
        (true && (meet && (not (here.at == 0) || is_open rules.held rules.policy note)))
        h.alone h.called h.caught (has_row _ _) (has_row _ _) (has_row _ _) (stops_or_goes (is_stop note) _ stops)
        (and_from meet _ h.pass (begins (here.at == 0) h.first))

-- What stands at an instruction tells which note is asked.
pub fault_at : (rules : Rules) (canonical : List Note) (method : Method) (at : ℕ) (insn : Insn) (ref : Target) (note : Note) → slice_get method.insns at ≡ Some insn
    → slice_get method.refs at ≡ Some ref → slice_get canonical at ≡ Some note
    → row_fault rules canonical method (record { at = at; insn = insn; ref = ref }) note ≡ None → note_fault rules canonical method at ≡ None
fault_at rules canonical method at insn ref note e f g row = rw (e, f, g) row
