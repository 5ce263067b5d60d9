use Rattle.std.proofs.Common.{◌++◌, ap, ◌∙◌, arith}
use Rattle.bundle_gen.proofs.Growing.{sites_more, sites_none, after_more, after_none}
use Rattle.bundle_gen.specs.Generated.{site}
use Rattle.bundle_gen.proofs.code.put_sites.Goals as goal

pub loop-left-preserved : goal.loop-left-preserved
loop-left-preserved c = record {
  so_far = sites_more c.loop-left.state c.next_state-state.result c.loop-left.left c.loop-left.code c.put_site.new.code _ (omega (arith, c.loop-left-test.true)) c.next_state-state.ensures
      (c.in_ok-put_site.ensures ∙ ap (λ d. c.loop-left.code ++ site d) c.draw.ensures) c.loop-left.invariant.so_far;
  after = after_more c.loop-left.state c.next_state-state.result c.loop-left.left _ (omega (arith, c.loop-left-test.true)) c.next_state-state.ensures c.loop-left.invariant.after;
}

pub returns-clause-is : goal.returns-clause-is
returns-clause-is c = sites_none c.loop-left.state c.loop-left.left c.loop-left.code _ (omega (arith, c.loop-left-test.false)) c.loop-left.invariant.so_far

pub returns-clause-after : goal.returns-clause-after
returns-clause-after c = after_none c.loop-left.state c.loop-left.left _ (omega (arith, c.loop-left-test.false)) c.loop-left.invariant.after
