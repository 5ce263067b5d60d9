use Rattle.std.proofs.Common.{◌≡◌, ◌∙◌, Ok, ap, sym, subst, length}
use Rattle.insn_codec.specs.Encoding.{starts_of}
use Rattle.bytecode_model.specs.Heads.{head_of}
use Rattle.class_linking.specs.Operands.{operands_linked}
use Rattle.class_linking.specs.Handlers.{handlers_linked}
use Rattle.bytecode_model.specs.Sound.{IsSoundMethod}
use Rattle.class_linking.proofs.Sound.{sound_code}
use Rattle.class_linking.proofs.methods.code_linked.Goals as goal

pub returns-clause-sound : goal.returns-clause-sound
returns-clause-sound c =
    let files = c.args.index.now.files in
    let listing = c.args.index.now.listing in
    let file = c.args.file.now in
    let method = c.args.method in
    let class = c.args.class.now in
    let pool = c.as_slice-pool.result.now in
    let insns = c.in_ok-insns.insns in
    let refs = c.in_ok-refs.refs in
    let handlers = c.in_ok-handlers.handlers in
    let entries = c.args.code.now.table in
    let name : (head_of file).name ≡ class = sym c.requires.name in
    let named : file.pool ≡ pool = sym c.as_slice-pool.ensures in
    let operands : operands_linked files listing (head_of file).name file.pool method insns ≡ Ok refs =
    ap (λ cl. operands_linked files listing cl file.pool method insns) name
    ∙ ap (λ p. operands_linked files listing class p method insns) named
    ∙ ap (λ xs. operands_linked files listing class pool method xs) (sym c.as_slice-2.ensures) ∙ c.in_ok-refs.ensures.answers in
    let table : handlers_linked files listing (head_of file).name file.pool method (length insns) (starts_of insns) entries ≡ Ok handlers =
    ap (λ cl. handlers_linked files listing cl file.pool method (length insns) (starts_of insns) entries) name
    ∙ ap (λ p. handlers_linked files listing class p method (length insns) (starts_of insns) entries) named
    ∙ ap (λ xs. handlers_linked files listing class pool method (length xs) (starts_of xs) entries) (sym c.as_slice-3.ensures)
    ∙ ap (λ es. handlers_linked files listing class pool method (length c.as_slice-3.result.now) (starts_of c.as_slice-3.result.now) es) (sym c.as_slice-table.ensures) ∙ c.in_ok-handlers.ensures in
    subst IsSoundMethod (sym c.in_ok-made.ensures) (sound_code files listing file method (length insns) c.args.member.now c.args.code.now insns refs handlers c.in_ok-insns.ensures.count c.in_ok-insns.ensures.fits c.requires.table operands table)
