-- How words and bytes are read. (docs/LISTINGS.md)
use Rattle.std.specs.Prelude.{Result}
use Rattle.api_listing.specs.declared.fault.FormFault.{FormFault}

-- what is read of words or bytes, or that they have no form
abbrev pub Read : Type 0 → Type 0
Read X = Result X FormFault
