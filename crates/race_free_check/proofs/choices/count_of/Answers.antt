use Rattle.std.proofs.Common.{◌-◌, ◌*◌, List, length, drop, take, sym, ap, ◌∙◌, arith}
use Rattle.api_listing.specs.declared.events.ApiValue.{ApiValue}
use Rattle.conspec_automaton.proofs.Ranges.{none_left}
use Rattle.conspec_automaton.specs.Points.{size_of}
use Rattle.conspec_automaton.specs.Trying.{capped}
use Rattle.race_free_check.proofs.Grown.{front_is, sizes_more}
use Rattle.race_free_check.proofs.Sizes.{count_done}
use Rattle.race_free_check.proofs.choices.count_of.Goals as goal

pub loop-left-preserved : goal.loop-left-preserved
loop-left-preserved c =
    let left = c.loop-left.left.now in
    let front = (front_is c.loop-left.left.now c.list-item.result c.list-item.result c.in-len1-up.len_at_least c.list-item.is) in
    record {
      is = sizes_more left (take (length left - 1) (drop 1 left)) c.list-item.result c.loop-left.count c.len.result c.saturating_mul-count.result (capped (size_of c.args.lists.now)) front c.loop-left.invariant.is c.len.ensures c.saturating_mul-count.ensures;
      fits = omega arith;
    }

pub returns : goal.returns
returns c =
    count_done c.loop-left.count (capped (size_of c.args.lists.now)) c.loop-left.invariant.fits
    (ap (λ (lists : List (List ApiValue)). capped (c.loop-left.count * size_of lists)) (sym (none_left c.loop-left.left.now c.in_default.len_below)) ∙ c.loop-left.invariant.is)
