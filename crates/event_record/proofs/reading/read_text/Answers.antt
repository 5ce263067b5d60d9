use Rattle.std.proofs.Common.{◌≡◌, Result, length, ap, subst, ◌∙◌, arith}
use Rattle.api_listing.specs.Words.{pieces}
use Rattle.event_record.specs.declared.fault.RecordFault.{RecordFault}
use Rattle.event_record.specs.declared.reading.Record.{Record}
use Rattle.mon_base.specs.Answer.{Answers}
use Rattle.event_record.specs.declared.fault.RecordFault.TheVariants.{Memory}
use Rattle.event_record.specs.Library.{Library, library_in, library_of}
use Rattle.event_record.specs.Record.{after_lines, empty_record, reading}
use Rattle.event_record.proofs.Cutting.{few_pieces}
use Rattle.event_record.proofs.Naming.{same_library}
use Rattle.event_record.proofs.reading.read_text.Goals as goal

pub read_lines-requires : goal.read_lines-requires
read_lines-requires c = omega (arith, few_pieces 10 c.args.text.now, ap length c.lines-lines.ensures)

pub returns : goal.returns
unfolding reading
returns c =
    let listing = c.args.listing.now in
    let library : library_in c.in_ok-names.names ≡ library_of listing = same_library listing c.in_ok-names.names c.in_ok-names.ensures in
    let is : after_lines (library_in c.in_ok-names.names) 1 empty_record c.lines-lines.result ≡ after_lines (library_of listing) 1 empty_record (pieces 10 c.args.text.now) =
    ap (λ (l : Library). after_lines l 1 empty_record c.lines-lines.result) library ∙ ap (after_lines (library_of listing) 1 empty_record) c.lines-lines.ensures in
    subst (λ (read : Result Record RecordFault). Answers Memory c.read_lines.result read) is c.read_lines.ensures
