-- Blocks that were made before stay where they are as more are made.
use Rattle.std.proofs.Common.{◌≡◌, ℕ, Bool, true, false, cond, List, [], ◌∷◌, ◌++◌, length, Option, Some, None, Result, Ok, Err, refl, sym, ap, subst, ◌∙◌}
use Rattle.std.specs.Prelude.{IfOk, option_and_then, slice_get}
use Rattle.std.specs.BTreeMap.{BTreeMap, get}
use Rattle.std.specs.Cmp.{unsigned_tied, unsigned_Decides}
use Rattle.std.specs.List.{AllByRecursion}
use Rattle.std.specs.Ordering.{is_eq, nat_cmp}
use Rattle.std.proofs.lemmas.Option.{slice_get_within}
use Rattle.bytecode_model.specs.declared.program.Target.{Target}
use Rattle.bytecode_model.specs.declared.program.Target.TheVariants.{ApiMethod}
use Rattle.bytecode_model.proofs.Lists.{all_get}
use Rattle.offset_patch.specs.declared.block.Block.{Block}
use Rattle.offset_patch.specs.Fits.{IsSite}
use Rattle.offset_patch.proofs.EntryFits.{get_last}
use Rattle.class_weaving.specs.Known.{AreMade}
use Rattle.class_weaving.proofs.Lists.{get_left}

-- one site more
known_on : (block : Target → Option Block) (sites : List (Option Block)) (site : Option Block) (places : BTreeMap ℕ ℕ) → AreMade block sites places → AreMade block (sites ++ site ∷ []) places
known_on block sites site places known = record {
  there = λ method at e.
      let here = known.there method at e in
      get_left sites (site ∷ []) at (slice_get_within sites at (block (ApiMethod method)) here) ∙ here;
}

pub known_still : {E : Type 0} (block : Target → Option Block) (sites : List (Option Block)) (places : BTreeMap ℕ ℕ) (r : Result (Option Block) E) → AreMade block sites places
    → IfOk r (λ site. AreMade block (sites ++ site ∷ []) places)
known_still block sites places (Ok site) known = known_on block sites site places known
known_still block sites places (Err e) known = tt

-- one site more, whose place is noted
pub known_more : (block : Target → Option Block) (sites : List (Option Block)) (site : Option Block) (places after : BTreeMap ℕ ℕ) (method : ℕ) → AreMade block sites places → site ≡ block (ApiMethod method)
    → ((q : ℕ) → get nat_cmp after q ≡ cond (is_eq (nat_cmp method q)) (Some (length sites)) (get nat_cmp places q)) → AreMade block (sites ++ site ∷ []) after
known_more block sites site places after method known is puts = record { there = λ q at e. by q at (is_eq (nat_cmp method q)) refl (sym (puts q) ∙ e) }
  where
    by : (q at : ℕ) (b : Bool) → is_eq (nat_cmp method q) ≡ b → cond (is_eq (nat_cmp method q)) (Some (length sites)) (get nat_cmp places q) ≡ Some at
        → slice_get (sites ++ site ∷ []) at ≡ Some (block (ApiMethod q))
    by q at true same e =
        let place : Some (length sites) ≡ Some at = sym (ap (λ (b : Bool). cond b (Some (length sites)) (get nat_cmp places q)) same) ∙ e in
        let at_is : length sites ≡ at = cc in
        let method_is : method ≡ q = (unsigned_Decides method q).0 (sym (unsigned_tied method q) ∙ same) in
        ap (slice_get (sites ++ site ∷ [])) (sym at_is) ∙ get_last sites site ∙ ap Some (is ∙ ap (λ (m : ℕ). block (ApiMethod m)) method_is)
    by q at false other e =
        let before : get nat_cmp places q ≡ Some at = sym (ap (λ (b : Bool). cond b (Some (length sites)) (get nat_cmp places q)) other) ∙ e in
        (known_on block sites site places known).there q at before

-- a site that was found, and a copy of it
found_fits : (sites : List (Option Block)) (site : Option Block) (o : Option ℕ) → AllByRecursion IsSite sites → Some site ≡ option_and_then (slice_get sites) o → IsSite site
found_fits sites site None fits e = absurd cc
found_fits sites site (Some at) fits e = all_get IsSite sites at site fits (sym e)

pub copy_fits : {E : Type 0} (sites : List (Option Block)) (site : Option Block) (o : Option ℕ) (r : Result (Option Block) E) → AllByRecursion IsSite sites → Some site ≡ option_and_then (slice_get sites) o
    → IfOk r (λ copy. copy ≡ site) → IfOk r IsSite
copy_fits sites site o (Ok copy) fits e is = subst IsSite (sym is) (found_fits sites site o fits e)
copy_fits sites site o (Err e') fits e is = tt
