use Rattle.std.proofs.Common.{◌≡◌, List, Ok, subst, ap, ◌∙◌, sym}
use Rattle.std.proofs.lemmas.Result.{err_from_is_err_and}
use Rattle.insn_codec.specs.declared.insn.Insn.{Insn}
use Rattle.mon_base.specs.Answer.{Fails}
use Rattle.insn_codec.specs.declared.fault.CodeFault.TheVariants.{Memory}
use Rattle.insn_codec.specs.Reading.{Finder, among, insns_of, ended}
use Rattle.insn_codec.specs.Targets.{marks_from}
use Rattle.mon_base.proofs.Answering.{told}
use Rattle.insn_codec.proofs.Marks.{finds_among}
use Rattle.insn_codec.proofs.Sequence.{code_read, no_shapes, no_targets, no_end}
use Rattle.insn_codec.proofs.reading.all.Goals as goal

pub returns-in_err-shapes-clause-reads : goal.returns-in_err-shapes-clause-reads
returns-in_err-shapes-clause-reads c =
    let p = err_from_is_err_and c.from_residual.result c.from_residual.ensures.1 in
    rw (p.1, p.2) (no_shapes c.args.code.now c.in_err-shapes.field-0.0 c.in_err-shapes.ensures.reads)

pub returns-in_err-insns-clause-reads : goal.returns-in_err-insns-clause-reads
returns-in_err-insns-clause-reads c =
    let p = err_from_is_err_and c.from_residual-in_err-insns.result c.from_residual-in_err-insns.ensures.1 in
    let shapes = c.in_ok-shapes.shapes.items in
    let is = finds_among shapes c.in_ok-marks.field-0 (c.in_ok-marks.ensures ∙ ap (marks_from 0 0) c.deref.ensures.value) in
    let two = subst (λ (find : Finder). Fails Memory c.in_err-insns.field-0.0 (insns_of find c.args.code.now)) is c.in_err-insns.ensures.reads in
    rw (p.1, p.2) (no_targets c.args.code.now shapes c.in_err-insns.field-0.0 c.in_ok-shapes.ensures.reads two)

pub returns-in_err-check_end-clause-reads : goal.returns-in_err-check_end-clause-reads
returns-in_err-check_end-clause-reads c =
    let p = err_from_is_err_and c.from_residual-in_err-check_end.result c.from_residual-in_err-check_end.ensures.1 in
    let shapes = c.in_ok-shapes.shapes.items in
    let all = c.in_ok-insns.insns.items in
    let is = finds_among shapes c.in_ok-marks.field-0 (c.in_ok-marks.ensures ∙ ap (marks_from 0 0) c.deref.ensures.value) in
    let two : insns_of (among shapes) c.args.code.now ≡ Ok all = subst (λ (find : Finder). insns_of find c.args.code.now ≡ Ok all) is c.in_ok-insns.ensures.reads in
    let three = subst (λ (xs : List Insn). Fails Memory c.in_err-check_end.field-0.0 (ended 0 xs)) c.deref-2.ensures.value (told Memory c.in_err-check_end.field-0.0 (ended 0 c.deref-2.result.now) c.in_err-check_end.ensures) in
    rw (p.1, p.2) (no_end c.args.code.now shapes all c.in_err-check_end.field-0.0 c.in_ok-shapes.ensures.reads two three)

pub returns-clause-reads : goal.returns-clause-reads
returns-clause-reads c =
    let shapes = c.in_ok-shapes.shapes.items in
    let all = c.in_ok-insns.insns.items in
    let is = finds_among shapes c.in_ok-marks.field-0 (c.in_ok-marks.ensures ∙ ap (marks_from 0 0) c.deref.ensures.value) in
    let two : insns_of (among shapes) c.args.code.now ≡ Ok all = subst (λ (find : Finder). insns_of find c.args.code.now ≡ Ok all) is c.in_ok-insns.ensures.reads in
    let three = ap (ended 0) (sym c.deref-2.ensures.value) ∙ sym c.in_ok-check_end.ensures in
    code_read c.args.code.now shapes all c.in_ok-shapes.ensures.reads two three ∙ ap (λ (xs : List Insn). Ok xs) (sym c.from_vec.ensures)
