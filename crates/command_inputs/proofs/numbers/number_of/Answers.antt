use Rattle.std.proofs.Common.{rules, FitsSigned, arith, w64}
use Rattle.std.proofs.lemmas.Int.{ints}
use Rattle.command_inputs.proofs.Counts.{long_is, no_long}
use Rattle.command_inputs.proofs.numbers.number_of.Goals as goal

pub returns-in_err-number-clause-none : goal.returns-in_err-number-clause-none
returns-in_err-number-clause-none c = let h = no_long c.args.word.now in search (h, rules)

pub returns-else-number-ge0-clause-none : goal.returns-else-number-ge0-clause-none
returns-else-number-ge0-clause-none c n told =
    let fits : FitsSigned w64 c.in_ok-number.number = search rules in
    let is = long_is c.args.word.now c.in_ok-number.number fits c.in_ok-number.ensures.found n told in
    omega (arith, ints, is, c.if-number-ge0.false)
