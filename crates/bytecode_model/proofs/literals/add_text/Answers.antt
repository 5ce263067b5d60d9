use Rattle.std.proofs.Common.{◌∙◌, ◌++◌, ◌∷◌, [], ap}
use Rattle.std.specs.Prelude.{is_some}
use Rattle.bytecode_model.specs.ByName.{noted}
use Rattle.bytecode_model.proofs.Placing.{with_known, with_new, is_placed, text_pushed}
use Rattle.bytecode_model.proofs.literals.add_text.Goals as goal

pub returns-else-not-contains_key : goal.returns-else-not-contains_key
returns-else-not-contains_key c =
    (c.requires, with_known c.args.texts.now c.args.text.now (is_placed c.args.places.now c.args.texts.now c.args.text.now c.contains_key.result c.requires (c.contains_key.ensures ∙ ap (λ n. is_some (noted c.args.places.now n)) c.as_slice.ensures) ∙ c.if-not-contains_key.false))

pub returns-in_ok-push : goal.returns-in_ok-push
returns-in_ok-push c = (
  text_pushed c.args.places.now c.note.new.names c.args.texts.now c.push.new.self c.args.text.now c.in_ok-copy.field-0 c.len.result c.in_ok-copy.ensures c.in_ok-push.ensures.ok c.len.ensures c.requires c.in_ok-note.ensures,
  c.in_ok-push.ensures.ok ∙ ap (λ t. c.args.texts.now ++ t ∷ []) c.in_ok-copy.ensures
      ∙ with_new c.args.texts.now c.args.text.now (is_placed c.args.places.now c.args.texts.now c.args.text.now c.contains_key.result c.requires (c.contains_key.ensures ∙ ap (λ n. is_some (noted c.args.places.now n)) c.as_slice.ensures) ∙ c.if-not-contains_key.true),
)
