use Rattle.std.proofs.Common.{rules, FitsSigned, arith, w64}
use Rattle.std.proofs.lemmas.Int.{ints}
use Rattle.command_inputs.proofs.Counts.{no_number, number_is}
use Rattle.command_inputs.proofs.numbers.count_of.Goals as goal
use Rattle.command_inputs.proofs.numbers.count_of.Goals.{else-number-ge1-via-then-number-ge1+else-number-most, else-number-ge1-via-else-number-ge1}

pub returns-in_err-number-clause-none : goal.returns-in_err-number-clause-none
returns-in_err-number-clause-none c = let h = no_number c.args.word.now c.args.most c.ranges.most.fits in search (h, rules)

pub returns-else-number-ge1-clause-none : goal.returns-else-number-ge1-clause-none
returns-else-number-ge1-clause-none c n count =
    let fits : FitsSigned w64 c.in_ok-number.number = search rules in
    let is = number_is c.args.word.now c.args.most c.in_ok-number.number c.ranges.most.fits fits c.in_ok-number.ensures.found n count in
    let some = count.some in
    let within = count.within in
    elim c.else-number-ge1.branch [ else-number-ge1-via-then-number-ge1+else-number-most w ↦ omega (arith, ints, is, some, within, w.if-number-most.false) | else-number-ge1-via-else-number-ge1 w ↦ omega (arith, ints, is, some, w.if-number-ge1.false) ]
