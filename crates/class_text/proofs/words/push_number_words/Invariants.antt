use Rattle.std.proofs.Common.{◌≡◌, ◌++◌, take, map}
use Rattle.std.specs.Fmt.{signed_decimal}
use Rattle.class_text.specs.Lines.{spaced}
use Rattle.class_text.proofs.words.push_number_words.Given as goal

abbrev pub invariant-loop-n : goal.invariant-loop-n
invariant-loop-n l = l.out ≡ l.fn.out ++ spaced (map signed_decimal (take l.n-index l.numbers))
