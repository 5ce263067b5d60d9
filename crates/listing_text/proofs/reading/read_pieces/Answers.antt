use Rattle.std.proofs.Common.{◌∙◌, ap, subst, length, arith}
use Rattle.std.specs.Prelude.{Result}
use Rattle.api_listing.specs.declared.types.Listing.{Listing}
use Rattle.listing_text.specs.declared.fault.ListFault.{ListFault}
use Rattle.api_listing.specs.Seen.{has_name}
use Rattle.mon_base.specs.Answer.{Answers}
use Rattle.listing_text.specs.declared.fault.ListFault.TheVariants as faults
use Rattle.listing_text.specs.Reading.{read_lines}
use Rattle.listing_text.proofs.Growing.{few_lines}
use Rattle.listing_text.proofs.reading.read_pieces.Goals as goal

pub returns : goal.returns
returns c =
    let few = few_lines c.in_ok-lines.lines (has_name c.in_ok-known.known) (omega (arith, c.if-count-gt20000.false, c.count_lines-count.ensures, ap length c.in_ok-lines.ensures)) (λ q. rw (← c.as_slice.ensures) (c.in_ok-known.ensures q)) in
    subst (λ (r : Result Listing ListFault). Answers faults.Memory c.listing_of.result r) (rw c.as_slice-2.ensures few ∙ ap read_lines c.in_ok-lines.ensures) c.listing_of.ensures
