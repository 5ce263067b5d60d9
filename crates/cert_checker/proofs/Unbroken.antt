-- Where what comes next is as the table has it, no rule from the fourth on is broken.
use Rattle.std.proofs.Common.{◌≡◌, ℕ, ◌+◌, Bool, true, false, cond, List, [], ◌∷◌, Option, Some, None, refl}
use Rattle.std.specs.Prelude.{◌==◌, ◌&&◌, ◌||◌, not, drop, is_some, slice_get}
use Rattle.std.specs.List.{list_all}
use Rattle.std.specs.Option.{option_map_or}
use Rattle.bytecode_model.specs.declared.program.Method.{Method}
use Rattle.cert_format.specs.declared.note.Note.{Note}
use Rattle.insn_codec.specs.Control.{jump_targets}
use Rattle.insn_codec.specs.Opcodes.{goes_on}
use Rattle.insn_codec.specs.Shapes.{shape_of}
use Rattle.insn_codec.specs.Encoding.{opcode_of}
use Rattle.block_logic.specs.Notes.{Here, all_pass, first_broken, handlers_of, handlers_pass, is_free, is_held, is_stop, jump_of, meets}
use Rattle.block_logic.specs.Notes.{next_pass, note_passes, past_of, rules_at, stops_well, thrown_of}
use Rattle.block_logic.specs.Operands.{enters, leaves, writes_static}
use Rattle.block_logic.specs.Rows.{Asked, Row, Rules}
use Rattle.block_logic.specs.Weakening.{is_open}
use Rattle.cert_checker.specs.Testing.{goes_well}

both : (a b : Bool) → (a && b) ≡ true → (a ≡ true) × (b ≡ true)
both true b e = (refl, e)
both false b e = absurd cc

and_kept : (a b c d : Bool) → (a ≡ true → c ≡ true) → (b ≡ true → d ≡ true) → (a && b) ≡ true → (c && d) ≡ true
and_kept a b c d first second e =
    let h = both a b e in
    rw (first h.0, second h.1) refl

or_true : (a b : Bool) → b ≡ true → (a || b) ≡ true
or_true true b e = refl
or_true false b e = e

or_kept : (a b c : Bool) → (b ≡ true → c ≡ true) → (a || b) ≡ true → (a || c) ≡ true
or_kept true b c kept e = refl
or_kept false b c kept e = kept e

all_kept : (p q : ℕ → Bool) → ((n : ℕ) → p n ≡ true → q n ≡ true) → (ns : List ℕ) → list_all p ns ≡ true → list_all q ns ≡ true
all_kept p q kept [] e = refl
all_kept p q kept (n ∷ ns) e = and_kept (p n) (list_all p ns) (q n) (list_all q ns) (kept n) (all_kept p q kept ns) e

there_kept : (p q : Note → Bool) → ((n : Note) → p n ≡ true → q n ≡ true) → (o : Option Note) → option_map_or p o false ≡ true → option_map_or q o false ≡ true
there_kept p q kept None e = e
there_kept p q kept (Some n) e = kept n e

module _ (f g : Asked → Note → Bool) (weaker : (a : Asked) (n : Note) → f a n ≡ true → g a n ≡ true) where
  passes_kept : (told : List Note) (a : Asked) (at : ℕ) → note_passes f told a at ≡ true → note_passes g told a at ≡ true
  passes_kept told a at = there_kept (f a) (g a) (weaker a) (slice_get told at)

  each_kept : (told : List Note) (a : Asked) (at : List ℕ) → list_all (note_passes f told a) at ≡ true → list_all (note_passes g told a) at ≡ true
  each_kept told a at = all_kept (note_passes f told a) (note_passes g told a) (passes_kept told a) at

  next_kept : (told : List Note) (row : Option Row) (here : Here) → next_pass f told row here ≡ true → next_pass g told row here ≡ true
  next_kept told row here =
      let ends : Bool = not (goes_on (opcode_of here.insn)) in
      let past = past_of row in
      let jump = jump_of row in
      let at = here.at + 1 in
      let jumps = jump_targets here.insn in
      and_kept (ends || note_passes f told past at) (list_all (note_passes f told jump) jumps) (ends || note_passes g told past at) (list_all (note_passes g told jump) jumps)
      (or_kept ends (note_passes f told past at) (note_passes g told past at) (passes_kept told past at))
      (each_kept told jump jumps)

  handlers_kept : (told : List Note) (row : Option Row) (method : Method) (here : Here) → handlers_pass f told row method here ≡ true → handlers_pass g told row method here ≡ true
  handlers_kept told row method here = each_kept told (thrown_of row) (handlers_of here.at method.handlers)

  -- A test that a weaker one follows from.
  pub all_pass_kept : (told : List Note) (row : Option Row) (method : Method) (here : Here) → all_pass f told row method here ≡ true → all_pass g told row method here ≡ true
  all_pass_kept told row method here =
      and_kept (next_pass f told row here) (handlers_pass f told row method here) (next_pass g told row here) (handlers_pass g told row method here)
      (next_kept told row here) (handlers_kept told row method here)

first_four : (a b c d e : Bool) → a ≡ true → b ≡ true → c ≡ true → d ≡ true → e ≡ true
    → first_broken ((4, a) ∷ (5, b) ∷ (6, c) ∷ (7, d) ∷ (8, e) ∷ []) ≡ None
first_four a b c d e p q r s t = rw (p, q, r, s, t) refl

either : (b x y : Bool) → x ≡ true → y ≡ true → cond b x y ≡ true
either true x y e f = e
either false x y e f = f

pub unbroken : (rules : Rules) (told : List Note) (method : Method) (note : Note) (here : Here) (row : Option Row)
    → goes_well rules told method note here row ≡ true → first_broken (drop 3 (rules_at rules told method note here row)) ≡ None
unbroken rules told method note here row e =
    let shape = shape_of here.insn in
    let begins : Bool = not (here.at == 0) || is_open rules.held rules.policy note in
    let has_row : Bool = is_some row in
    let passes : Bool = all_pass (meets rules) told row method here in
    let stops : Bool = all_pass (stops_well rules) told row method here in
    let h = both has_row (passes && begins) e in
    let passed = both passes begins h.1 in
    let stopped : stops ≡ true = all_pass_kept (meets rules) (stops_well rules) (λ a n. or_true (not (is_stop n)) (meets rules a n)) told row method here passed.0 in
    let client : (is_free note || has_row) ≡ true = or_true (is_free note) has_row h.0 in
    let monitor : Bool = not (enters shape || leaves shape) in
    let written : Bool = not (writes_static shape) in
    let check : Bool = not (is_held note) in
    first_four (monitor || (is_free note || has_row)) (check || (writes_static shape || has_row)) (written || (is_free note || has_row)) (cond (is_stop note) has_row stops) (has_row && (passes && begins))
    (or_true monitor (is_free note || has_row) client) (or_true check (writes_static shape || has_row) (or_true (writes_static shape) has_row h.0)) (or_true written (is_free note || has_row) client)
    (either (is_stop note) has_row stops h.0 stopped) e
