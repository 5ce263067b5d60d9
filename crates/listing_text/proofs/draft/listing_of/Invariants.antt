use Rattle.std.proofs.Common.{◌≡◌, ◌+◌, length}
use Rattle.listing_text.specs.Reading.{after_lines, built_in_listing}
use Rattle.api_listing.specs.Seen.{has_name}
use Rattle.listing_text.specs.Growing.{Agrees}
use Rattle.listing_text.proofs.draft.listing_of.Given as goal

abbrev pub invariant-loop-left : goal.invariant-loop-left
invariant-loop-left l = record {
  agrees : Agrees l.draft;
  so_far : after_lines (has_name l.known) l.number l.draft.listing l.left ≡ after_lines (has_name l.known) 1 built_in_listing l.lines;
  count : l.number + length l.left ≡ length l.lines + 1;
}

abbrev pub decreases-loop-left : goal.decreases-loop-left
decreases-loop-left l = length l.left
