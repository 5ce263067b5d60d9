use Rattle.std.proofs.Common.{sym, ◌∙◌, arith}
use Rattle.block_logic.specs.Borrowed.{terms_borrowed}
use Rattle.block_logic.proofs.Lists.{at_end, differs_at, goes_on_at, other_length}
use Rattle.block_logic.proofs.terms.same_terms.Goals as goal

pub returns-then-count-length_of : goal.returns-then-count-length_of
returns-then-count-length_of c =
    sym (other_length (terms_borrowed c.args.terms.now) (terms_borrowed c.args.others.now) (λ e. c.if-count-length_of.true (c.length_of-count.ensures ∙ e ∙ sym c.length_of.ensures)))

pub returns-then-not-same_at : goal.returns-then-not-same_at
returns-then-not-same_at c =
    sym (differs_at (terms_borrowed c.args.terms.now) (terms_borrowed c.args.others.now) c.loop-at.at (omega arith) (omega arith) (sym c.same_at.ensures ∙ c.if-not-same_at.true))
    ∙ c.loop-at.invariant.same

pub loop-at-preserved : goal.loop-at-preserved
loop-at-preserved c = record {
  same = sym (goes_on_at (terms_borrowed c.args.terms.now) (terms_borrowed c.args.others.now) c.loop-at.at (omega arith) (omega arith) (sym c.same_at.ensures ∙ c.if-not-same_at.false))
      ∙ c.loop-at.invariant.same;
  count = c.loop-at.invariant.count;
  other = c.loop-at.invariant.other;
}

pub returns : goal.returns
returns c = sym (at_end (terms_borrowed c.args.terms.now) (terms_borrowed c.args.others.now) c.loop-at.at (omega arith) (omega arith)) ∙ c.loop-at.invariant.same
