-- What the library's answer to a call does: the caller goes on, or the library throws.
use Rattle.std.proofs.Common.{◌≡◌, ◌∙◌, ℕ, Bool, true, false, cond, List, Option, Some, None, refl, ap, inl, inr}
use Rattle.std.specs.Prelude.{◌⊎◌, option_and_then, slice_get}
use Rattle.std.specs.Option.{option_map_or}
use Rattle.api_listing.specs.declared.events.ApiAnswer.{ApiAnswer}
use Rattle.api_listing.specs.declared.events.Event.TheVariants as events
use Rattle.api_listing.specs.declared.types.ListedMethod.{ListedMethod}
use Rattle.bytecode_model.specs.declared.program.Program.{Program}
use Rattle.bytecode_model.specs.SearchOrder.{Name}
use Rattle.guest_heap.specs.declared.thread.Thread.{Thread}
use Rattle.guest_heap.specs.declared.value.Value.{Value}
use Rattle.guest_model.specs.Answering.{answer_fits, answered, answered_well, given, returned_by, thrown_by, thrown_by_library}
use Rattle.guest_model.specs.Calls.{types_of}
use Rattle.guest_model.specs.Changes.{Change, World, throws_new}
use Rattle.guest_model.proofs.Options.{and_then_of, some_is}

module _ (program : Program) (world : World) (number : ℕ) (thread : Thread) (method : ℕ) (receiver : Option Value) (arguments : List Value)
    (answer : ApiAnswer) where
  abbrev fits_of : ListedMethod → Bool
  fits_of listed = answer_fits program world.heap (types_of listed.id.desc).result receiver arguments answer

  -- The answer fits what the listing says of the method.
  pub record Fits : Type 0 where
    pub listed : ListedMethod
    pub there : slice_get program.listing.methods method ≡ Some listed
    pub fits : answer_fits program world.heap (types_of listed.id.desc).result receiver arguments answer ≡ true

  pub record Returns (change : Change) : Type 0 where
    pub fit : Fits
    pub none : thrown_by answer ≡ None
    pub gave : World × Option Value
    pub gives : given world receiver arguments answer ≡ Some gave
    pub is : returned_by program number thread method gave ≡ Some change

  pub record Throws (change : Change) : Type 0 where
    pub fit : Fits
    pub class : Name
    pub throws : thrown_by answer ≡ Some class
    pub is : throws_new program world number thread thread.frames class (Some (events.Except number method)) ≡ change

  well_is : Fits → (o : Option Name) → thrown_by answer ≡ o → (change : Change)
      → option_map_or (thrown_by_library program world number thread method) o
      (option_and_then (returned_by program number thread method) (given world receiver arguments answer)) ≡ Some change
      → Returns change ⊎ Throws change
  well_is fit None e change is =
      let a = and_then_of (returned_by program number thread method) (given world receiver arguments answer) change is in
      inl (record { fit = fit; none = e; gave = a.0; gives = a.1; is = a.2 })
  well_is fit (Some class) e change is = inr (record { fit = fit; class = class; throws = e; is = some_is _ change is })

  pub answered_is : (change : Change) → answered program world number thread method receiver arguments answer ≡ Some change
      → Returns change ⊎ Throws change
  answered_is change e =
      let l = and_then_of (λ (listed : ListedMethod). cond (fits_of listed)
      (answered_well program world number thread method receiver arguments answer) None)
      (slice_get program.listing.methods method) change e in
      by l.0 l.1 (fits_of l.0) refl l.2
    where
      by : (listed : ListedMethod) → slice_get program.listing.methods method ≡ Some listed → (b : Bool) → fits_of listed ≡ b
          → cond b (answered_well program world number thread method receiver arguments answer) None ≡ Some change
          → Returns change ⊎ Throws change
      by listed there true fits is = well_is (record { listed = listed; there = there; fits = fits }) (thrown_by answer) refl change is
      by listed there false fits is = absurd cc

  answers_well : Fits → answered program world number thread method receiver arguments answer
      ≡ answered_well program world number thread method receiver arguments answer
  answers_well fit =
      ap (option_and_then (λ (listed : ListedMethod). cond (fits_of listed)
      (answered_well program world number thread method receiver arguments answer) None)) fit.there
      ∙ ap (λ (b : Bool). cond b (answered_well program world number thread method receiver arguments answer) None) fit.fits

  pub answer_returns : Fits → thrown_by answer ≡ None → (gave : World × Option Value) → given world receiver arguments answer ≡ Some gave
      → answered program world number thread method receiver arguments answer ≡ returned_by program number thread method gave
  answer_returns fit none gave gives =
      answers_well fit
      ∙ ap (λ (o : Option Name). option_map_or (thrown_by_library program world number thread method) o
      (option_and_then (returned_by program number thread method) (given world receiver arguments answer))) none
      ∙ ap (option_and_then (returned_by program number thread method)) gives

  pub answer_throws : Fits → (class : Name) → thrown_by answer ≡ Some class
      → answered program world number thread method receiver arguments answer
      ≡ Some (throws_new program world number thread thread.frames class (Some (events.Except number method)))
  answer_throws fit class throws =
      answers_well fit
      ∙ ap (λ (o : Option Name). option_map_or (thrown_by_library program world number thread method) o
      (option_and_then (returned_by program number thread method) (given world receiver arguments answer))) throws
