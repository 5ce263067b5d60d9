-- What a granted call passes: the arguments that were loaded from locals, in their order, so that the policy sees the call of which
-- the check told.
use Rattle.std.proofs.Common.{◌≡◌, ℕ, zero, suc, ◌<◌, ◌+◌, Bool, true, false, cond, List, [], ◌∷◌, ◌++◌, length, map, reverse, take, drop, Option, Some, None, refl, sym, ap, ◌∙◌, subst, arith, inl, inr}
use Rattle.std.specs.Prelude.{◌⊎◌, ℤ, IfSome, is_some, nat_le, option_and_then, option_map, slice_get}
use Rattle.std.specs.Option.{option_map_or}
use Rattle.std.proofs.lemmas.Bool.{cases_lt}
use Rattle.std.proofs.lemmas.Grind.{reverse_onto}
use Rattle.std.proofs.lemmas.List.{length-map, length-reverse}
use Rattle.std.proofs.lemmas.Option.{cond_some, slice_get-map}
use Rattle.api_listing.specs.declared.events.ApiValue.{ApiValue}
use Rattle.api_listing.specs.declared.events.ApiValue.TheVariants as api
use Rattle.api_listing.specs.declared.events.Event.{Event}
use Rattle.api_listing.specs.declared.events.Event.TheVariants as events
use Rattle.bytecode_model.specs.declared.program.Program.{Program}
use Rattle.bytecode_model.specs.Classes.{is_below}
use Rattle.cert_format.specs.declared.note.Phase8.TheVariants.{Before}
use Rattle.cert_format.specs.declared.note.Site.{Site}
use Rattle.conspec_tree.specs.declared.types.Kind.{Kind}
use Rattle.conspec_tree.specs.declared.types.Kind.TheVariants as kinds
use Rattle.conspec_automaton.specs.declared.policy.Clause.{Clause}
use Rattle.conspec_tree.specs.Kinds.{number_range}
use Rattle.conspec_automaton.specs.Events.{FitsClause, IsNumberOf}
use Rattle.conspec_automaton.specs.Next.{number_in as shown_number}
use Rattle.conspec_automaton.specs.Sight.{sight_of}
use Rattle.guest_heap.specs.declared.object.Object.{Object}
use Rattle.guest_heap.specs.declared.object.Object.TheVariants as objects
use Rattle.guest_heap.specs.declared.value.Value.{Value}
use Rattle.guest_heap.specs.declared.value.Value.TheVariants as values
use Rattle.guest_model.specs.Calls.{Taken, taken}
use Rattle.guest_model.specs.Kinds.{string}
use Rattle.guest_model.specs.Parts.{number_in}
use Rattle.guest_model.specs.Seen.{object_shown, value_shown, values_shown}
use Rattle.guest_model.proofs.Options.{all_drop, all_get, all_reverse, all_take, map_of, some_is}
use Rattle.block_logic.specs.Meaning.{AreClean, IsClean, IsEventOf, TellsArguments, TellsOne, loads}
use Rattle.block_logic.specs.Weakening.{in_phase}
use Rattle.block_logic.proofs.Owner.Weakening.{slice_get_there, some_there}

-- ---- lists

get_before : {X : Type 0} (xs ys : List X) (i : ℕ) → i < length xs → slice_get (xs ++ ys) i ≡ slice_get xs i
get_before [] ys i inside = absurd (omega arith)
get_before (x ∷ xs) ys zero inside = refl
get_before (x ∷ xs) ys (suc i) inside = get_before xs ys i (omega arith)

get_after : {X : Type 0} (xs : List X) (x : X) (ys : List X) (n : ℕ) → length xs ≡ n → slice_get (xs ++ x ∷ ys) n ≡ Some x
get_after [] x ys zero e = refl
get_after [] x ys (suc n) e = absurd (omega arith)
get_after (y ∷ xs) x ys zero e = absurd (omega arith)
get_after (y ∷ xs) x ys (suc n) e = get_after xs x ys n (omega arith)

same_lists : {X : Type 0} (xs ys : List X) → length xs ≡ length ys → ((i : ℕ) → i < length xs → slice_get xs i ≡ slice_get ys i) → xs ≡ ys
same_lists [] [] many each = refl
same_lists [] (y ∷ ys) many each = absurd (omega arith)
same_lists (x ∷ xs) [] many each = absurd (omega arith)
same_lists (x ∷ xs) (y ∷ ys) many each =
    let first : x ≡ y = some_is x y (each 0 (omega arith)) in
    rw (first, same_lists xs ys (omega arith) (λ i inside. each (suc i) (omega arith))) refl

-- ---- what is loaded

module _ (program : Program) (base : ℕ) (locals : List Value) where
  pub loaded_many : (n : ℕ) (loaded : List Value) → map Some loaded ≡ loads base locals n → length loaded ≡ n
  loaded_many zero [] e = refl
  loaded_many zero (v ∷ loaded) e = absurd cc
  loaded_many (suc n) [] e = absurd cc
  loaded_many (suc n) (v ∷ loaded) e = let later : map Some loaded ≡ loads base locals n = cc in ap suc (loaded_many n loaded later)

  -- it is no lock
  pub loaded_clean : (n : ℕ) (loaded : List Value) → AreClean program locals → map Some loaded ≡ loads base locals n → AreClean program loaded
  loaded_clean n [] clean e = tt
  loaded_clean zero (v ∷ loaded) clean e = absurd cc
  loaded_clean (suc n) (v ∷ loaded) clean e =
      let first : slice_get locals (base + n) ≡ Some v = cc in
      let later : map Some loaded ≡ loads base locals n = cc in
      (all_get (IsClean program) locals (base + n) v clean first, loaded_clean n loaded clean later)

  -- the first that was loaded lies lowest
  loaded_at : (n : ℕ) (loaded : List Value) (i : ℕ) → map Some loaded ≡ loads base locals n → i < n → slice_get (reverse loaded) i ≡ slice_get locals (base + i)
  loaded_at zero loaded i e less = absurd (omega arith)
  loaded_at (suc n) [] i e less = absurd cc
  loaded_at (suc n) (v ∷ loaded) i e less =
      let first : slice_get locals (base + n) ≡ Some v = cc in
      let later : map Some loaded ≡ loads base locals n = cc in
      let many : length (reverse loaded) ≡ n = length-reverse loaded ∙ loaded_many n loaded later in
      let joined : slice_get (reverse (v ∷ loaded)) i ≡ slice_get (reverse loaded ++ v ∷ []) i = ap (λ (vs : List Value). slice_get vs i) (reverse_onto loaded v []) in
      elim (cases_lt i n) [
        | inl before ↦ joined ∙ get_before (reverse loaded) (v ∷ []) i (omega (arith, many)) ∙ loaded_at n loaded i later before
        | inr last ↦
            let here : i ≡ n = omega arith in
            joined ∙ ap (slice_get (reverse loaded ++ v ∷ [])) here ∙ get_after (reverse loaded) v [] n many ∙ sym first ∙ ap (λ (k : ℕ). slice_get locals (base + k)) (sym here)
      ]

-- ---- what the library sees

module _ (program : Program) (heap : List Object) where
  shown_object : (at : ℕ) (object : Object) → shown_number (object_shown program at object) ≡ None
  shown_object at (objects.Plain class fields target thread) = by (is_below program class string) where
    by : (b : Bool) → shown_number (cond b (api.Text []) (api.Obj class at)) ≡ None
    by true = refl
    by false = refl
  shown_object at (objects.Array desc items) = refl
  shown_object at (objects.Text text) = refl

  -- of a number the number, and of any other value none
  pub shown_as : (v : Value) → shown_number (value_shown program heap v) ≡ number_in v
  shown_as (values.Int n) = refl
  shown_as values.Null = refl
  shown_as (values.Ref at) = by (slice_get heap at) where
    by : (o : Option Object) → shown_number (option_map_or (object_shown program at) o api.Null) ≡ None
    by None = refl
    by (Some object) = shown_object at object
  shown_as (values.Class index) = refl
  shown_as (values.Lit index) = refl

  -- ---- the call

  module _ (site : Site) (locals loaded : List Value) (number count : ℕ) (are : map Some loaded ≡ loads site.base locals count) where
    abbrev pub call : Event
    call = events.Call number site.method (values_shown program heap (reverse loaded))

    numbers_same : (args : List ApiValue) → length (map shown_number args) ≡ count
        → ((i : ℕ) → i < count → option_and_then number_in (slice_get locals (site.base + i)) ≡ option_and_then shown_number (slice_get args i))
        → map shown_number args ≡ map shown_number (values_shown program heap (reverse loaded))
    numbers_same args many each =
        let shown = values_shown program heap (reverse loaded) in
        let as_many : length (map shown_number shown) ≡ count =
        length-map shown shown_number ∙ length-map (reverse loaded) (value_shown program heap) ∙ length-reverse loaded ∙ loaded_many program site.base locals count loaded are in
        same_lists (map shown_number args) (map shown_number shown) (many ∙ sym as_many) (λ i inside. same i (omega (arith, many))) where
          same : (i : ℕ) → i < count → slice_get (map shown_number args) i ≡ slice_get (map shown_number (values_shown program heap (reverse loaded))) i
          same i inside =
              let x = slice_get_there args i (omega (arith, many, length-map args shown_number)) in
              let v = slice_get_there (reverse loaded) i (omega (arith, length-reverse loaded, loaded_many program site.base locals count loaded are)) in
              let local : slice_get locals (site.base + i) ≡ Some v.0 = sym (loaded_at program site.base locals count loaded i are inside) ∙ v.1 in
              let told = each i inside in
              at_both v.0 x.0 local x.1 told ∙ sym (there i v.0 v.1)
            where
              at_both : (v : Value) (x : ApiValue) → slice_get locals (site.base + i) ≡ Some v → slice_get args i ≡ Some x
                  → option_and_then number_in (slice_get locals (site.base + i)) ≡ option_and_then shown_number (slice_get args i)
                  → slice_get (map shown_number args) i ≡ Some (number_in v)
              at_both v x local arg told =
                  let numbers : number_in v ≡ shown_number x = rw (local, arg) at told in
                  slice_get-map shown_number args i ∙ ap (option_map shown_number) arg ∙ ap Some (sym numbers)

              there : (i : ℕ) (v : Value) → slice_get (reverse loaded) i ≡ Some v → slice_get (map shown_number (values_shown program heap (reverse loaded))) i ≡ Some (number_in v)
              there i v is =
                  slice_get-map shown_number (values_shown program heap (reverse loaded)) i
                  ∙ ap (option_map shown_number) (slice_get-map (value_shown program heap) (reverse loaded) i ∙ ap (option_map (value_shown program heap)) is)
                  ∙ ap Some (shown_as v)

    -- a number that is to be passed is known
    number_passed : (clause : Clause) (i : ℕ) (kind : Kind) → i < count → FitsClause clause call → slice_get clause.args i ≡ Some kind → is_some (number_range kind) ≡ true
        → option_and_then number_in (slice_get locals (site.base + i)) ≡ None → ⊥
    number_passed clause i kind inside fits there numeric unknown =
        let r = some_there (number_range kind) numeric in
        let passed : IsNumberOf (number_range kinds.Int) (slice_get (values_shown program heap (reverse loaded)) i) =
        subst (λ (range : Option (ℤ × ℤ)). IsNumberOf (option_and_then (λ own. number_range kinds.Int) range) (slice_get (values_shown program heap (reverse loaded)) i)) r.1 (fits i kind there) in
        let v = slice_get_there (reverse loaded) i (omega (arith, length-reverse loaded, loaded_many program site.base locals count loaded are)) in
        let local : slice_get locals (site.base + i) ≡ Some v.0 = sym (loaded_at program site.base locals count loaded i are inside) ∙ v.1 in
        let none : number_in v.0 ≡ None = rw local at unknown in
        let shown : slice_get (values_shown program heap (reverse loaded)) i ≡ Some (value_shown program heap v.0) =
        slice_get-map (value_shown program heap) (reverse loaded) i ∙ ap (option_map (value_shown program heap)) v.1 in
        let value : value_shown program heap v.0 ≡ api.Int passed.0 = some_is _ _ (sym shown ∙ passed.1) in
        let number : Some passed.0 ≡ number_in v.0 = ap shown_number (sym value) ∙ shown_as v.0 in
        let nothing : Some passed.0 ≡ None = number ∙ none in
        absurd cc

    -- The call is to the policy the one of which the locals tell.
    pub seen_same : (clause : Clause) → length clause.args ≡ count → (e : Event) → IsEventOf (in_phase Before site) e → (strict : Bool) → TellsArguments strict site.base clause.args locals e
        → (strict ≡ true) ⊎ FitsClause clause call
        → sight_of (events.Call number site.method (values_shown program heap (reverse loaded))) ≡ sight_of e
    seen_same clause many (events.Call thread method args) of strict told known =
        let numbers = numbers_same args (told.many ∙ many) exact in
        rw (of.method, ← numbers) refl
      where
        one : (i : ℕ) (kind : Kind) → i < count → slice_get clause.args i ≡ Some kind
            → TellsOne strict kind (option_and_then number_in (slice_get locals (site.base + i))) (option_and_then shown_number (slice_get args i))
            → option_and_then number_in (slice_get locals (site.base + i)) ≡ option_and_then shown_number (slice_get args i)
        one i kind inside there (inl same) = same
        one i kind inside there (inr other) = by known where
          by : (strict ≡ true) ⊎ FitsClause clause call → option_and_then number_in (slice_get locals (site.base + i)) ≡ option_and_then shown_number (slice_get args i)
          by (inl is) = let no : true ≡ false = sym is ∙ other.0 in absurd cc
          by (inr fits) = absurd (number_passed clause i kind inside fits there other.2 other.1)

        exact : (i : ℕ) → i < count → option_and_then number_in (slice_get locals (site.base + i)) ≡ option_and_then shown_number (slice_get args i)
        exact i inside =
            let kind = slice_get_there clause.args i (omega (arith, inside, many)) in
            one i kind.0 inside kind.1 (told.each i kind.0 kind.1)
    seen_same clause many (events.Return thread method value) of strict told known = let not_so : false ≡ true = of.phase in absurd cc
    seen_same clause many (events.Except thread method) of strict told known = let not_so : false ≡ true = of.phase in absurd cc

-- ---- what is taken from the operands

-- Of operands of which none is the lock, none that is taken or left is.
pub record TakesClean (program : Program) (n : ℕ) (stack : List Value) (p : Taken) : Type 0 where
  pub arguments_are : p.arguments ≡ reverse (take n stack)
  pub receiver : IfSome p.receiver (IsClean program)
  pub arguments : AreClean program p.arguments
  pub beneath : AreClean program p.beneath

pub takes_clean : (program : Program) (static : Bool) (n : ℕ) (stack : List Value) (p : Taken) → AreClean program stack → taken static n stack ≡ Some p
    → TakesClean program n stack p
takes_clean program true n stack p clean e =
    let c = cond_some (nat_le n (length stack)) (record { receiver = None; arguments = reverse (take n stack); beneath = drop n stack }) p e in
    subst (TakesClean program n stack) c.1 (record {
      arguments_are = refl;
      receiver = tt;
      arguments = all_reverse (IsClean program) (take n stack) (all_take (IsClean program) n stack clean);
      beneath = all_drop (IsClean program) n stack clean;
    })
takes_clean program false n stack p clean e =
    let m = map_of (λ (v : Value). record { receiver = Some v; arguments = reverse (take n stack); beneath = drop (n + 1) stack }) (slice_get stack n) p e in
    subst (TakesClean program n stack) m.2 (record {
      arguments_are = refl;
      receiver = all_get (IsClean program) stack n m.0 clean m.1;
      arguments = all_reverse (IsClean program) (take n stack) (all_take (IsClean program) n stack clean);
      beneath = all_drop (IsClean program) (n + 1) stack clean;
    })
