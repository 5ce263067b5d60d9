use Rattle.std.proofs.Common.{List, ℕ, Some, cond, sym, ap, ◌∙◌}
use Rattle.std.specs.Prelude.{bytes_eq, is_some}
use Rattle.bytecode_model.specs.ByName.{noted}
use Rattle.bytecode_model.proofs.ByName.{noted_added, noted_put}
use Rattle.bytecode_model.proofs.by_name.note.Goals as goal

pub returns-in_ok-insert : goal.returns-in_ok-insert
returns-in_ok-insert g c =
    let old = c.args.names.now in
    let name = c.args.name.now in
    let absent = ap (λ (n : List ℕ). is_some (noted old n)) (sym c.as_slice.ensures) ∙ sym c.contains_key.ensures ∙ c.if-not-contains_key.true in
    let copied = c.in_ok-name.ensures.items ∙ c.as_slice-then-not-contains_key.ensures in
    noted_added old c.insert.new.self name c.args.what absent
    (λ q. noted_put old c.insert.new.self c.in_ok-name.name.items (Some c.args.what) c.in_ok-insert.ensures.updates q
    ∙ ap (λ (n : List ℕ). cond (bytes_eq n q) (Some c.args.what) (noted old q)) copied)
