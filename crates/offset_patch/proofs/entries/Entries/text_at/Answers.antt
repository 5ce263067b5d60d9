use Rattle.std.proofs.Common.{sym, ap, length, ◌∙◌, ◌<◌, ◌≤◌, ◌-◌, arith}
use Rattle.bytecode_model.specs.Heads.{text_at}
use Rattle.offset_patch.specs.Growth.{added_in, text_among}
use Rattle.offset_patch.proofs.Texts.{text_before, text_after}
use Rattle.offset_patch.proofs.entries.Entries.text_at.Goals as goal

pub returns-then-index-items : goal.returns-then-index-items
returns-then-index-items c =
    let items = c.as_slice-items.ensures in
    let few : c.args.index < length c.self.inside.items = omega (arith, ap length items, c.if-index-items.true) in
    text_before c.args.self.now c.self.inside.items c.self.inside.growth c.args.index c.text_at.result.now (sym c.self.view_is) few (c.text_at.ensures ∙ ap (λ pool. text_at pool c.args.index) items)

pub returns-else-index-items : goal.returns-else-index-items
returns-else-index-items c =
    let items = c.as_slice-items.ensures in
    let more : length c.self.inside.items ≤ c.args.index = omega (arith, ap length items, c.if-index-items.false) in
    text_after c.args.self.now c.self.inside.items c.self.inside.growth c.args.index c.text_among.result.now (sym c.self.view_is) more
    (c.text_among.ensures ∙ ap (λ added. text_among added (c.args.index - length c.as_slice-items.result.now)) c.added_in.ensures
    ∙ ap (λ pool. text_among (added_in c.self.inside.growth) (c.args.index - length pool)) items)
