use Rattle.std.proofs.Common.{◌≡◌, ◌++◌, take}
use Rattle.std.specs.List.{flat_map}
use Rattle.cert_format.specs.Encoding.{encode_term}
use Rattle.cert_format.proofs.note_writing.put_map.Given as goal

abbrev pub invariant-loop-term : goal.invariant-loop-term
invariant-loop-term l = l.out ≡ l.fn.out ++ flat_map encode_term (take l.term-index l.terms)
