-- A listing that grows with the sets of what it has. (docs/LISTINGS.md)
use Rattle.std.specs.Prelude.{◌≡◌, ℕ, List, Result, Ok, Err}
use Rattle.mon_base.specs.declared.method.MethodId.{MethodId}
use Rattle.api_listing.specs.declared.types.Listing.{Listing}
use Rattle.listing_text.specs.declared.draft.Draft.{Draft}
use Rattle.listing_text.specs.declared.fault.ListFault.{ListFault}
use Rattle.mon_base.specs.Answer.{Fails}
use Rattle.listing_text.specs.declared.fault.ListFault.TheVariants as faults
use Rattle.api_listing.specs.Listing.{is_known, has_method, has_field}
use Rattle.api_listing.specs.Seen.{has_name, has_id}

-- The sets have what the listing has.
pub record Agrees (draft : Draft) : Type 0 where
  pub names : (q : List ℕ) → has_name draft.names q ≡ is_known draft.listing.classes q
  pub methods : (q : MethodId) → has_id draft.methods q ≡ has_method draft.listing.methods q
  pub fields : (q : MethodId) → has_id draft.fields q ≡ has_field draft.listing.fields q

-- A call made of the draft what reading gives, unless memory ran out.
abbrev pub Grows : Result (Unit {0}) ListFault → Result Listing ListFault → Draft → Type 0
Grows (Ok x) read draft = Agrees draft × (read ≡ Ok draft.listing)
Grows (Err e) read draft = Fails faults.Memory e read
