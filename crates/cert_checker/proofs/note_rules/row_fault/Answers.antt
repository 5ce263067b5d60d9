use Rattle.std.proofs.Common.{◌≡◌, ℕ, Bool, true, List, ◌∷◌, Option, drop, refl, ap, sym, ◌∙◌}
use Rattle.std.specs.Prelude.{option_copied, option_map}
use Rattle.insn_codec.specs.Shapes.{shape_of}
use Rattle.block_logic.specs.Borrowed.{row_borrowed}
use Rattle.block_logic.specs.Notes.{Here, first_broken, rules_at, leaves_alone, calls_well, catches_well}
use Rattle.block_logic.specs.Rows.{Row, row}
use Rattle.cert_checker.proofs.note_rules.row_fault.Goals as goal

-- three rules that hold
after_three : (a b c : Bool) (rest : List (ℕ × Bool)) → a ≡ true → b ≡ true → c ≡ true → first_broken ((1, a) ∷ (2, b) ∷ (3, c) ∷ rest) ≡ first_broken rest
after_three a b c rest first second third = rw (first, second, third) refl

pub returns : goal.returns
returns c =
    let rules = c.args.rules.now in
    let told = c.args.told.now in
    let method = c.args.method.now in
    let here = c.args.here.now in
    let note = c.args.note.now in
    let later = λ (r : Option Row). drop 3 (rules_at rules told method note here r) in
    let insn = ap (λ (h : Here). h.insn) c.here.view_is in
    let ref = ap (λ (h : Here). h.ref) c.here.view_is in
    let there : option_copied c.as_ref.result ≡ c.row-row.result = c.as_ref.ensures.value in
    let same : option_map row_borrowed (option_copied c.as_ref.result) ≡ row rules note (shape_of here.insn) here.ref = cc (there, insn, ref, c.here.invariant) in
    c.table_fault.ensures ∙ ap (λ (r : Option Row). first_broken (later r)) same
    ∙ sym (after_three (leaves_alone rules told note here) (calls_well rules note here) (catches_well rules told method note here) (later (row rules note (shape_of here.insn) here.ref))
    (sym c.leaves_alone.ensures ∙ c.if-not-leaves_alone.false)
    (sym c.calls_well.ensures ∙ c.if-not-calls_well.false)
    (sym c.catches_well.ensures ∙ c.if-not-catches_well.false))
