use Rattle.std.proofs.Common.{◌≡◌, ℕ, List, Option, Some, None, map, sym, ap, ◌∙◌}
use Rattle.std.specs.Prelude.{option_and_then}
use Rattle.std.specs.Option.{option_copied}
use Rattle.cert_format.specs.declared.typing.FrameType.{FrameType}
use Rattle.bytecode_model.specs.InsnPlace.{InsnPlace}
use Rattle.block_template.specs.declared.item.Item.{Item}
use Rattle.block_template.specs.declared.item.Role.{Role}
use Rattle.block_template.specs.Blocks.{clauses_of}
use Rattle.block_template.specs.Frames.{frame_at}
use Rattle.block_template.proofs.Alike.{told_alike}
use Rattle.woven_typing.specs.Framing.{Client, around_of, block_typed, front_in, item_typed, items_of}
use Rattle.woven_typing.specs.Pushed.{CallTypes}
use Rattle.woven_typing.proofs.framing.put_block.Goals as goal

-- The frames are told of the items of the block that begins at local 0.
typed_so : (client : Client) (place : InsnPlace) (callee : ℕ) (items : List Item) (frame : Option FrameType)
    → items ≡ items_of client.policy client.mode 0 callee
    → block_typed client.policy client.mode (front_in client) place callee frame
    ≡ map (item_typed (clauses_of client.policy callee) (front_in client) place frame) items
typed_so client place callee items frame is =
    told_alike (λ (r : Role). option_and_then (λ f. frame_at (clauses_of client.policy callee) (around_of (front_in client) place f) r) frame)
    client.policy client.mode place.method.max_locals 0 callee
    ∙ ap (map (item_typed (clauses_of client.policy callee) (front_in client) place frame)) (sym is)

abbrev none : Item → Option FrameType
none item = None

pub returns-in-None : goal.returns-in-None
returns-in-None c =
    let client : Client = c.args.client.now in
    let place : InsnPlace = c.args.place.now in
    let items : List Item = c.args.items.now in
    let same : block_typed client.policy client.mode (front_in client) place c.args.callee (option_copied c.args.frame)
    ≡ map none items =
    ap (λ (o : Option FrameType). block_typed client.policy client.mode (front_in client) place c.args.callee o) (ap option_copied c.in-None.is)
    ∙ typed_so client place c.args.callee items None c.requires in
    rw same c.put_none.ensures

pub returns-in_ok-call-in-Some : goal.returns-in_ok-call-in-Some
returns-in_ok-call-in-Some c =
    let client : Client = c.args.client.now in
    let place : InsnPlace = c.args.place.now in
    let items : List Item = c.args.items.now in
    let call : CallTypes = c.in_ok-call-in-Some.call in
    let same : block_typed client.policy client.mode (front_in client) place c.args.callee (option_copied c.args.frame)
    ≡ map (λ (i : Item). frame_at call.clauses call.around i.role) items =
    ap (λ (o : Option FrameType). block_typed client.policy client.mode (front_in client) place c.args.callee o) (ap option_copied c.in-Some.is)
    ∙ typed_so client place c.args.callee items (Some c.in-Some.frame.now) c.requires
    ∙ ap (λ (k : CallTypes). map (λ (i : Item). frame_at k.clauses k.around i.role) items) (sym c.in_ok-call-in-Some.ensures) in
    rw same c.put_items.ensures
