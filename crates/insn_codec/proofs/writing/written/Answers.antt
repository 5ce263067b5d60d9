use Rattle.std.proofs.Common.{ℕ, ◌≡◌, ◌≤◌, List, Ok, ◌++◌, ◌∙◌, ap, sym, subst}
use Rattle.std.proofs.lemmas.Result.{err_from_is_err_and}
use Rattle.insn_codec.specs.Encoding.{starts_of, len_from, bytes_from, encoding}
use Rattle.mon_base.specs.Answer.{Fails}
use Rattle.insn_codec.specs.declared.fault.CodeOverflow.TheVariants.{Memory}
use Rattle.insn_codec.specs.Writing.{reach_from}
use Rattle.insn_codec.proofs.Putting.{is_written, too_long, too_far}
use Rattle.insn_codec.proofs.writing.written.Goals as goal

pub returns-then-value-gt65535 : goal.returns-then-value-gt65535
returns-then-value-gt65535 c = rw c.len_of-value.ensures (λ is_told. too_long c.args.insns.now (rw (← c.len_of-value.ensures) c.if-value-gt65535.true))

pub returns-in_err-put_all : goal.returns-in_err-put_all
returns-in_err-put_all c =
    let p = err_from_is_err_and c.from_residual-in_err-put_all.result c.from_residual-in_err-put_all.ensures.1 in
    let short : len_from 0 c.args.insns.now ≤ 65535 = rw (← c.len_of-value.ensures) c.if-value-gt65535.false in
    let is : c.as_slice.result.now ≡ starts_of c.args.insns.now = c.as_slice.ensures ∙ c.in_ok-starts.ensures in
    let far = subst (λ (starts : List ℕ). Fails Memory c.in_err-put_all.field-0.0 (reach_from starts 0 c.args.insns.now)) is c.in_err-put_all.ensures in
    rw (p.1, p.2) (too_far c.args.insns.now c.in_err-put_all.field-0.0 short far)

pub returns : goal.returns
returns c =
    let short : len_from 0 c.args.insns.now ≤ 65535 = rw (← c.len_of-value.ensures) c.if-value-gt65535.false in
    let is : c.as_slice.result.now ≡ starts_of c.args.insns.now = c.as_slice.ensures ∙ c.in_ok-starts.ensures in
    let held : reach_from (starts_of c.args.insns.now) 0 c.args.insns.now ≡ Ok tt = subst (λ (starts : List ℕ). reach_from starts 0 c.args.insns.now ≡ Ok tt) is c.in_ok-put_all.ensures.0 in
    let put : c.put_all.new.out ≡ encoding c.args.insns.now = c.in_ok-put_all.ensures.1 ∙ ap (λ (out : List ℕ). out ++ bytes_from c.as_slice.result.now 0 c.args.insns.now) c.new-out.ensures ∙ ap (λ (starts : List ℕ). bytes_from starts 0 c.args.insns.now) is in
    is_written c.args.insns.now short held ∙ ap (λ (bytes : List ℕ). Ok bytes) (sym put)
