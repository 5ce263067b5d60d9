use Rattle.std.proofs.Common.{◌-◌, ◌∷◌, ℕ, length, take, drop, refl, sym, ap₂, ◌∙◌}
use Rattle.offset_patch.specs.Lines.{lines_in}
use Rattle.offset_patch.proofs.Lining.{no_line, one_line}
use Rattle.offset_patch.proofs.lines.first_line.Goals as goal

pub returns-in_default-clause-none : goal.returns-in_default-clause-none
returns-in_default-clause-none c = no_line c.args.bytes.now c.in_default.len_below

pub returns-in-len4-up-clause-some : goal.returns-in-len4-up-clause-some
returns-in-len4-up-clause-some c =
    let bytes = c.args.bytes.now in
    let rest = lines_in (take (length bytes - 4) (drop 4 bytes)) in
    one_line bytes (length bytes - 4) c.in-len4-up.len_at_least refl ∙ ap₂ (λ (s n : ℕ). (s, n) ∷ rest) (sym c.read_u16-start.ensures) (sym c.read_u16-number.ensures)
