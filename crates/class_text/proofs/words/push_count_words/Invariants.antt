use Rattle.std.proofs.Common.{◌≡◌, ◌++◌, take, map}
use Rattle.std.specs.Fmt.{decimal}
use Rattle.class_text.specs.Lines.{spaced}
use Rattle.class_text.proofs.words.push_count_words.Given as goal

abbrev pub invariant-loop-n : goal.invariant-loop-n
invariant-loop-n l = l.out ≡ l.fn.out ++ spaced (map decimal (take l.n-index l.numbers))
