use Rattle.std.proofs.Common.{◌≡◌, ◌+◌, List, Some, length, take, ap, arith, ◌∙◌}
use Rattle.std.specs.Prelude.{filter}
use Rattle.std.specs.Option.{option_map}
use Rattle.class_codec.specs.declared.tree.Member.{Member}
use Rattle.bytecode_model.specs.declared.program.LinkedClass.{LinkedClass}
use Rattle.guest_model.specs.Layout.{fields_of, is_in_objects, place_of_field}
use Rattle.guest_tables.specs.declared.fields.Places.{Places}
use Rattle.guest_tables.specs.Layout.{begins_of}
use Rattle.guest_tables.proofs.ObjectFields.{begin_is}
use Rattle.guest_tables.proofs.guest.Guest.place_of_field.Goals as goal

pub returns : goal.returns
returns c =
    let program = c.args.self.now in
    let of = c.in_ok-of.of.now in
    let begin : c.in_ok-begin.begin ≡ length (fields_of program of.parent) =
    begin_is program c.self.inside.tables.fields.begins c.args.class c.in_ok-begin.begin of (ap (λ (f : Places). f.begins) c.self.invariant.kept.fields_are ∙ ap begins_of c.self.view_is) c.in_ok-of.ensures c.in_ok-begin.ensures in
    let before : c.count_before-before.result ≡ length (filter is_in_objects (take c.args.field of.file.fields)) =
    c.count_before-before.ensures ∙ ap (λ (fields : List Member). length (filter is_in_objects (take c.args.field fields))) c.as_slice-2.ensures in
    let sum : c.in_ok-begin.begin + c.count_before-before.result ≡ place_of_field program of c.args.field = omega arith in
    ap Some sum ∙ ap (option_map (λ (class : LinkedClass). place_of_field program class c.args.field)) c.in_ok-of.ensures
