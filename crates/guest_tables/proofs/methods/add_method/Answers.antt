use Rattle.std.proofs.Common.{◌&&◌, List, ℕ, Some, None, cond, sym, ap, ◌∙◌}
use Rattle.std.specs.Prelude.{bytes_eq}
use Rattle.std.specs.Option.{option_or}
use Rattle.guest_tables.specs.Methods.{method_in}
use Rattle.bytecode_model.specs.ByName.{noted}
use Rattle.guest_tables.proofs.Naming.{method_added}
use Rattle.bytecode_model.proofs.ByName.{noted_put}
use Rattle.guest_tables.proofs.methods.add_method.Goals as goal

pub returns : goal.returns
returns c n d =
    let left = c.taken-same_name.new.methods in
    let after = c.note.new.names in
    method_added c.args.methods.now left c.insert.new.self c.as_slice.result.now c.args.desc.now c.args.index c.taken-same_name.result after
    c.taken-same_name.ensures.was c.in_ok-note.ensures c.taken-same_name.ensures.left
    (λ q. noted_put left c.insert.new.self c.in_ok-from_slice.field-0.items (Some after) c.in_ok-insert.ensures.updates q
    ∙ ap (λ (k : List ℕ). cond (bytes_eq k q) (Some after) (noted left q)) (c.in_ok-from_slice.ensures.items ∙ c.as_slice-2.ensures ∙ sym c.as_slice.ensures)) n d
    ∙ ap (λ (k : List ℕ). option_or (method_in c.args.methods.now n d) (cond (bytes_eq k n && bytes_eq c.args.desc.now d) (Some c.args.index) None)) c.as_slice.ensures
