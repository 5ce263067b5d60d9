use Rattle.std.proofs.Common.{◌∙◌, [], sym}
use Rattle.std.specs.Ordering.{is_eq}
use Rattle.api_listing.specs.Seen.{has_id, id_cmp}
use Rattle.bytecode_model.specs.Members.{in_class}
use Rattle.bytecode_model.proofs.Lists.{cond_or}
use Rattle.class_index.proofs.InterfaceFields.{is_kept, not_of_interface}
use Rattle.class_index.proofs.interface_fields.add_field.Goals as goal

pub returns-in_ok-insert : goal.returns-in_ok-insert
returns-in_ok-insert c =
    λ q of has.
    let key = c.in_ok-key_of.field-0 in
    is_kept c.args.fields.now c.args.id.now q key (has_id c.insert.new.self (in_class q [])) c.in_ok-key_of.ensures
    (c.in_ok-insert.ensures.updates.0 (in_class q []) ∙ cond_or (is_eq (id_cmp key (in_class q []))) (has_id c.args.fields.now (in_class q [])))
    has

pub returns-else-contains : goal.returns-else-contains
returns-else-contains c =
    λ q of has.
    not_of_interface c.args.fields.now c.args.interfaces.now c.args.id.now q (sym c.contains.ensures ∙ c.if-contains.false) of has
