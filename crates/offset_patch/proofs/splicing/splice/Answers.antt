use Rattle.std.proofs.Common.{◌≡◌, ℕ, ◌+◌, List, length, Ok, sym, ap, subst, ◌∙◌}
use Rattle.std.specs.List.{AllByRecursion}
use Rattle.class_codec.specs.declared.tree.Const.{Const}
use Rattle.class_codec.specs.declared.tree.TableEntry.{TableEntry}
use Rattle.insn_codec.specs.declared.insn.Insn.{Insn}
use Rattle.offset_patch.specs.declared.fault.Size.TheVariants as sizes
use Rattle.offset_patch.specs.declared.fault.SpliceFault.TheVariants as faults
use Rattle.offset_patch.specs.Entries.{IsThere}
use Rattle.mon_base.specs.Answer.{Fails}
use Rattle.offset_patch.specs.Fault.{fitted}
use Rattle.offset_patch.specs.Length.{length_of}
use Rattle.offset_patch.specs.Splicing.{wants_of, catching, grown, splice}
use Rattle.offset_patch.proofs.InsnFits.{wants_there}
use Rattle.offset_patch.proofs.Putting.{splice_too_long, too_long, told_err}
use Rattle.offset_patch.proofs.splicing.splice.Goals as goal

pub returns-in_err-fitted-3-clause-is : goal.returns-in_err-fitted-3-clause-is
returns-in_err-fitted-3-clause-is c =
    let class = c.args.class.now in
    let number = c.args.number in
    let pool = grown c.args.entries.now c.args.sites.now in
    let method = c.args.method.now in
    let code = c.args.code.now in
    let sites = c.args.sites.now in
    let fault = c.in_err-fitted-3.field-0.0 in
    let rows : fitted class number sizes.Entries (length code.table + catching sites) ≡ Ok tt =
    ap (λ (t : List TableEntry). fitted class number sizes.Entries (length t + catching sites)) (sym c.as_slice.ensures)
    ∙ ap (λ (n : ℕ). fitted class number sizes.Entries (length c.as_slice.result.now + n)) (sym c.catching.ensures.is) ∙ c.in_ok-fitted.ensures in
    let count : fitted class number sizes.Pool (length pool) ≡ Ok tt =
    ap (λ (q : List Const). fitted class number sizes.Pool (length q)) (sym c.in_ok-add_wants.ensures) ∙ ap (fitted class number sizes.Pool) (sym c.count.ensures.is) ∙ c.in_ok-fitted-2.ensures in
    let length_is : c.length_of-length.result ≡ length_of method.insns sites = c.length_of-length.ensures.is ∙ ap (λ (xs : List Insn). length_of xs sites) c.as_slice-2.ensures in
    let told : Fails faults.Memory fault (fitted class number sizes.Length (length_of method.insns sites)) = subst (λ (n : ℕ). Fails faults.Memory fault (fitted class number sizes.Length n)) length_is c.in_err-fitted-3.ensures in
    told_err c.from_residual-in_err-fitted-3.result (splice c.args.state class number pool method code c.args.locals sites) fault c.from_residual-in_err-fitted-3.ensures
    (splice_too_long class number pool method code c.args.locals sites c.args.state fault (too_long class number pool method code c.args.locals sites fault rows count told))

pub method_put-requires-clause-there : goal.method_put-requires-clause-there
method_put-requires-clause-there c =
    subst (λ (q : List Const). AllByRecursion (IsThere q) (wants_of c.args.sites.now)) (sym c.in_ok-add_wants.ensures) (wants_there c.args.sites.now c.args.entries.now)
