use Rattle.std.proofs.Common.{arith}
use Rattle.guest_runner.proofs.Lines.{all_bytes}
use Rattle.guest_runner.proofs.book.are_bytes.Goals as goal

pub returns : goal.returns
returns c = all_bytes c.args.text.now (λ i. omega (arith, c.type_inv.text i))
