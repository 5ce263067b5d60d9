use Rattle.std.proofs.Common.{sym, ◌∙◌}
use Rattle.mon_base.proofs.Numbers.{none_if, not_utf8, text_is, not_parsed, other_text}
use Rattle.mon_base.proofs.number.read_number.Goals as goal

pub returns-in_err-digits-clause-none : goal.returns-in_err-digits-clause-none
returns-in_err-digits-clause-none c =
    none_if _ _ (not_utf8 c.args.text.now c.from_utf8.result _ c.in_err-digits.ensures.value c.from_utf8.ensures.cases)

pub returns-in_err-number-clause-none : goal.returns-in_err-number-clause-none
returns-in_err-number-clause-none c =
    let same = text_is c.args.text.now c.from_utf8.result c.in_ok-digits.digits _ c.in_ok-digits.ensures.value c.from_utf8.ensures.cases in
    none_if _ _ (not_parsed c.args.text.now c.in_ok-digits.digits.now c.parse.result same c.in_err-number.ensures.value c.parse.ensures.value.0)

pub returns-else-eq-clause-none : goal.returns-else-eq-clause-none
returns-else-eq-clause-none c =
    let same = text_is c.args.text.now c.from_utf8.result c.in_ok-digits.digits _ c.in_ok-digits.ensures.value c.from_utf8.ensures.cases in
    other_text c.args.text.now c.in_ok-digits.digits.now c.as_bytes.result.now c.in_ok-number.number c.parse.result same c.in_ok-number.ensures.value c.parse.ensures.value.0 (c.as_bytes.ensures.value ∙ c.format.ensures.text) (sym c.eq.ensures ∙ c.if-eq.false)
