use Rattle.std.proofs.Common.{◌≡◌, Bool, List, [], ◌∷◌, ◌++◌, Some, cond, length, map, sym, ap, ◌∙◌}
use Rattle.std.proofs.lemmas.List.{length-map}
use Rattle.std.specs.Option.{option_copied}
use Rattle.cert_format.specs.declared.note.Note.{Note}
use Rattle.cert_format.specs.declared.note.Note.TheVariants.{Free}
use Rattle.conspec_automaton.specs.declared.policy.Policy.{Policy}
use Rattle.block_template.specs.declared.item.Item.{Item}
use Rattle.block_template.specs.Blocks.{Planned}
use Rattle.block_template.specs.Made.{known_items}
use Rattle.block_template.proofs.Alike.{told_alike}
use Rattle.block_template.proofs.Making.{is_known}
use Rattle.cert_maker.specs.declared.called.Called.{Called}
use Rattle.cert_maker.specs.Noting.{block_notes, note_of, part_notes, where_typed}
use Rattle.bytecode_model.specs.declared.program.Target.TheVariants as target
use Rattle.cert_maker.proofs.methods.put_call.Goals as goal

-- The notes are told of the items of the block that begins at local 0.
noted_so : (of : Planned) (call : Called) (block : List Item) → Some block ≡ known_items of.policy of.mode of.policy.clauses call.callee
    → map (λ (i : Item). note_of of.policy call i.role) block ≡ part_notes of.policy of.mode call.base (target.ApiMethod call.callee)
noted_so of call block e =
    let known = is_known of.policy of.mode call.callee block e in
    ap (map (λ (i : Item). note_of of.policy call i.role)) known.1
    ∙ told_alike (note_of of.policy call) of.policy of.mode 0 call.base call.callee
    ∙ sym (ap (λ (b : Bool). cond b (block_notes of.policy of.mode call.base call.callee) (Free ∷ [])) known.0)

pub returns-in_ok-put_items-in-Some-clause-notes : goal.returns-in_ok-put_items-in-Some-clause-notes
returns-in_ok-put_items-in-Some-clause-notes c =
    let of : Planned = c.args.items.now in
    let block : List Item = c.in-Some.block.now in
    c.in_ok-put_items-in-Some.ensures
    ∙ ap (λ (p : Policy). c.args.notes.now ++ where_typed (map (λ (i : Item). note_of p c.args.call i.role) block) c.args.frames.now) c.policy.ensures
    ∙ ap (λ (ns : List Note). c.args.notes.now ++ where_typed ns c.args.frames.now)
    (noted_so of c.args.call block (sym (ap option_copied c.in-Some.is) ∙ c.of.ensures.is))

pub returns-in_ok-put_items-in-Some-clause-count : goal.returns-in_ok-put_items-in-Some-clause-count
returns-in_ok-put_items-in-Some-clause-count c =
    let of : Planned = c.args.items.now in
    let block : List Item = c.in-Some.block.now in
    sym (length-map block (λ (i : Item). note_of of.policy c.args.call i.role))
    ∙ ap length (noted_so of c.args.call block (sym (ap option_copied c.in-Some.is) ∙ c.of.ensures.is))
