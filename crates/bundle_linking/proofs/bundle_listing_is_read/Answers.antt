-- The text is read by evaluation.
use Rattle.std.proofs.Common.{refl}
use Rattle.api_listing.specs.BuiltIn.{class_rows, method_rows}
use Rattle.api_listing.specs.Descriptor.{after_first, arguments_at, element_at, method_type, result_of, type_at, whole_type}
use Rattle.bundle_gen.specs.Generated.{listing_text}
use Rattle.bundle_gen.specs.Linked.{net_listing}
use Rattle.listing_text.specs.Reading.{reading}
use Rattle.listing_text.specs.Saying.{class_line, form_of, four_words, method_line}
use Rattle.bundle_linking.proofs.bundle_listing_is_read.Goals as goal

pub returns : goal.returns
unfolding after_first arguments_at class_line class_rows element_at form_of four_words listing_text method_line method_rows method_type net_listing reading result_of type_at whole_type
returns c = refl
