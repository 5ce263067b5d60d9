-- Which texts have the same fault: those that agree up to its line.
use Rattle.std.proofs.Common.{◌≡◌, ◌≢◌, ℕ, suc, ◌+◌, ◌-◌, ◌<◌, ◌≤◌, Bool, true, false, cond, ltb, List, [], ◌∷◌, ◌++◌, length, take, map, Option, Some, None, Result, Ok, Err, refl, sym, ap, subst, ◌∙◌, append_assoc, arith}
use Rattle.std.specs.List.{list_all, slice_index_or}
use Rattle.std.proofs.Math.Path.{fun_ext}
use Rattle.std.proofs.lemmas.Bool.{false≢true, le-ltb}
use Rattle.mon_base.specs.Reading.{◌>>=◌}
use Rattle.api_listing.specs.declared.descriptor.Element.{Element}
use Rattle.api_listing.specs.declared.descriptor.Element.TheVariants as elements
use Rattle.api_listing.specs.declared.descriptor.FieldType.{FieldType}
use Rattle.api_listing.specs.declared.types.ListedClass.{ListedClass}
use Rattle.api_listing.specs.declared.types.Listing.{Listing}
use Rattle.api_listing.specs.declared.declaration.Declaration.{Declaration}
use Rattle.api_listing.specs.declared.declaration.Declaration.TheVariants.{Class, Method, Field}
use Rattle.listing_text.specs.declared.lines.Said.{Said}
use Rattle.listing_text.specs.declared.lines.Said.TheVariants.{Nothing, NoForm, Says}
use Rattle.listing_text.specs.declared.fault.ListFault.{ListFault}
use Rattle.listing_text.specs.declared.fault.ListFault.TheVariants as faults
use Rattle.api_listing.specs.Words.{pieces, IsLines}
use Rattle.listing_text.specs.Saying.{ending, said, said_lines}
use Rattle.listing_text.specs.Reading.{after_line, after_lines, built_in_listing, classes_in, declared, read_lines, reading, with_declaration}
use Rattle.api_listing.specs.Listing.{element_is_known, is_known, names_known, result_is_known, stands_already, types_are_known}
use Rattle.listing_text.specs.FirstFault.{EndsInClass, IsShort, IsToldBy, knows, lines_said}
use Rattle.api_listing.proofs.DescriptorLaws.{both}
use Rattle.api_listing.proofs.Pieces.{HasPiece, pieces_of_lines, some_piece}
use Rattle.listing_text.proofs.TextLaws.{length-map, snoc_is}

abbrev listed : Listing → Result Listing ListFault
listed l = Ok l

abbrev refused : ListFault → Result Listing ListFault
refused e = Err e

refused_is : (a b : ListFault) → refused a ≡ refused b → a ≡ b
refused_is a b h = cc

apart : (l : Listing) (e : ListFault) → listed l ≡ refused e → ⊥
apart l e h = cc

-- the line of a fault
abbrev line_of : ListFault → ℕ
line_of (faults.Line line) = line
line_of (faults.Twice line) = line
line_of (faults.NoSuper line) = line
line_of (faults.TooMany count) = 0
line_of faults.Memory = 0

at_line : (k : List ℕ → Bool) (number : ℕ) (l : Listing) (x : Said) (f : ListFault) → after_line k number l x ≡ refused f → line_of f ≡ number
at_line k number l Nothing f h = absurd (apart l f h)
at_line k number l NoForm f h = ap line_of (sym (refused_is (faults.Line number) f h))
at_line k number l (Says d) f h = by (stands_already l d) (names_known k l d) h where
  by : (stands named : Bool) → cond stands (Err (faults.Twice number)) (cond named (Ok (with_declaration l d)) (Err (faults.NoSuper number))) ≡ refused f → line_of f ≡ number
  by true named h = ap line_of (sym (refused_is (faults.Twice number) f h))
  by false true h = absurd (apart (with_declaration l d) f h)
  by false false h = ap line_of (sym (refused_is (faults.NoSuper number) f h))

at_least : (k : List ℕ → Bool) (xs : List Said) (number : ℕ) (l : Listing) (f : ListFault) → after_lines k number l xs ≡ refused f → number ≤ line_of f
at_least k [] number l f h = absurd (apart l f h)
at_least k (x ∷ xs) number l f h = by (at_least k xs (number + 1)) (after_line k number l x) refl h where
  by : ((next : Listing) (g : ListFault) → after_lines k (number + 1) next xs ≡ refused g → number + 1 ≤ line_of g)
      → (read : Result Listing ListFault) → after_line k number l x ≡ read → (read >>= λ next. after_lines k (number + 1) next xs) ≡ refused f → number ≤ line_of f
  by others (Ok next) is h = omega (arith, others next f h)
  by others (Err e) is h = omega (arith, at_line k number l x f (is ∙ h))

-- ---- the same classes are known

same_stays : (k : List ℕ → Bool) (f : ListFault) (xs ys zs : List Said) (number : ℕ) (l : Listing) → line_of f < number + length xs
    → after_lines k number l (xs ++ ys) ≡ refused f → after_lines k number l (xs ++ zs) ≡ refused f
same_stays k f [] ys zs number l before h = absurd (omega (arith, before, at_least k ys number l f h))
same_stays k f (x ∷ xs) ys zs number l before h = by (λ next. same_stays k f xs ys zs (number + 1) next (omega (arith, before))) (after_line k number l x) refl h where
  by : ((next : Listing) → after_lines k (number + 1) next (xs ++ ys) ≡ refused f → after_lines k (number + 1) next (xs ++ zs) ≡ refused f)
      → (read : Result Listing ListFault) → after_line k number l x ≡ read → (read >>= λ next. after_lines k (number + 1) next (xs ++ ys)) ≡ refused f
      → (after_line k number l x >>= λ next. after_lines k (number + 1) next (xs ++ zs)) ≡ refused f
  by others (Ok next) is h = rw is (others next h)
  by others (Err e) is h = rw is h

-- ---- more classes are known

abbrev IsClass : Said → Type 0
IsClass x = (c : ListedClass) × (x ≡ Says (Class c))

abbrev LastIsClass : List Said → Type 0
LastIsClass [] = ⊥
LastIsClass (x ∷ []) = IsClass x
LastIsClass (x ∷ y ∷ ys) = LastIsClass (y ∷ ys)

-- the fault is one that the lines tell
abbrev IsTold : ListFault → ℕ → List Said → Type 0
IsTold (faults.Line line) n xs = line ≡ n
IsTold (faults.Twice line) n xs = line ≡ n
IsTold (faults.NoSuper line) n xs = (line ≡ n) × LastIsClass xs
IsTold (faults.TooMany count) n xs = ⊥
IsTold faults.Memory n xs = ⊥

told_at : (f : ListFault) (n : ℕ) (xs : List Said) → IsTold f n xs → line_of f ≡ n
told_at (faults.Line line) n xs told = told
told_at (faults.Twice line) n xs told = told
told_at (faults.NoSuper line) n xs told = told.0
told_at (faults.TooMany count) n xs told = absurd told
told_at faults.Memory n xs told = absurd told

told_by_rest : (f : ListFault) (n : ℕ) (x y : Said) (ys : List Said) → IsTold f n (x ∷ y ∷ ys) → IsTold f n (y ∷ ys)
told_by_rest (faults.Line line) n x y ys told = told
told_by_rest (faults.Twice line) n x y ys told = told
told_by_rest (faults.NoSuper line) n x y ys told = told
told_by_rest (faults.TooMany count) n x y ys told = absurd told
told_by_rest faults.Memory n x y ys told = absurd told

says_is : (d e : Declaration) → Says d ≡ Says e → d ≡ e
says_is d e h = cc

module _ (k1 k2 : List ℕ → Bool) where
  abbrev KnowsMore : Type 0
  KnowsMore = (name : List ℕ) → k1 name ≡ true → k2 name ≡ true

  element_more : KnowsMore → (e : Element) → element_is_known k1 e ≡ true → element_is_known k2 e ≡ true
  element_more more elements.Boolean is = refl
  element_more more elements.Byte is = refl
  element_more more elements.Char is = refl
  element_more more elements.Short is = refl
  element_more more elements.Int is = refl
  element_more more (elements.Class name) is = more name is

  arguments_more : KnowsMore → (ts : List FieldType) → list_all (λ t. element_is_known k1 t.element) ts ≡ true → list_all (λ t. element_is_known k2 t.element) ts ≡ true
  arguments_more more [] is = refl
  arguments_more more (t ∷ ts) is =
      let parts = both (element_is_known k1 t.element) (list_all (λ u. element_is_known k1 u.element) ts) is in
      rw (element_more more t.element parts.0, arguments_more more ts parts.1) refl

  result_more : KnowsMore → (r : Option FieldType) → result_is_known k1 r ≡ true → result_is_known k2 r ≡ true
  result_more more None is = refl
  result_more more (Some t) is = element_more more t.element is

  names_more : KnowsMore → (l : Listing) (d : Declaration) → names_known k1 l d ≡ true → names_known k2 l d ≡ true
  names_more more l (Class c) is = is
  names_more more l (Method m types) is =
      let parts = both (k1 m.id.class) (types_are_known k1 types) is in
      let inner = both (list_all (λ t. element_is_known k1 t.element) types.arguments) (result_is_known k1 types.result) parts.1 in
      rw (more m.id.class parts.0, arguments_more more types.arguments inner.0, result_more more types.result inner.1) refl
  names_more more l (Field id class) is =
      let parts = both (k1 id.class) (k1 class) is in
      rw (more id.class parts.0, more class parts.1) refl

  class_alike : (l : Listing) (d : Declaration) → IsClass (Says d) → names_known k1 l d ≡ names_known k2 l d
  class_alike l d is = subst (λ (e : Declaration). names_known k1 l e ≡ names_known k2 l e) (sym (says_is d (Class is.0) is.1)) refl

  -- a fault of lines, which is the given one where more is known
  record Stays (f : ListFault) (number : ℕ) (l : Listing) (lines : List Said) : Type 0 where
    fault : ListFault
    is : after_lines k2 number l lines ≡ refused fault
    same : KnowsMore → fault ≡ f

  module _ (n : ℕ) (f : ListFault) (ys zs : List Said) where
    abbrev Later : List Said → Type 0
    Later xs = (number : ℕ) (l : Listing) → n + 1 ≡ number + length xs → IsTold f n xs → after_lines k1 number l (xs ++ ys) ≡ refused f → Stays f number l (xs ++ zs)

    -- a line that is good is not the last
    passes : (x : Said) (xs : List Said) → Later xs → (number : ℕ) (l : Listing) → n + 1 ≡ number + length (x ∷ xs) → IsTold f n (x ∷ xs)
        → after_lines k1 (number + 1) l (xs ++ ys) ≡ refused f → Stays f (number + 1) l (xs ++ zs)
    passes x [] later number l count told h = absurd (omega (arith, count, told_at f n (x ∷ []) told, at_least k1 ys (number + 1) l f h))
    passes x (y ∷ xs) later number l count told h = later (number + 1) l (omega (arith, count)) (told_by_rest f n x y xs told) h

    -- a line whose class is missing there
    missing : (d : Declaration) (xs : List Said) (number : ℕ) (l : Listing) → n + 1 ≡ number + length (Says d ∷ xs) → IsTold (faults.NoSuper number) n (Says d ∷ xs)
        → names_known k1 l d ≡ false → names_known k2 l d ≡ false
    missing d [] number l count told none = sym (class_alike l d told.1) ∙ none
    missing d (y ∷ xs) number l count told none = absurd (omega (arith, count, told.0))

    declares : (d : Declaration) (xs : List Said) → Later xs → (number : ℕ) (l : Listing) → n + 1 ≡ number + length (Says d ∷ xs) → IsTold f n (Says d ∷ xs)
        → (declared k1 number l d >>= λ next. after_lines k1 (number + 1) next (xs ++ ys)) ≡ refused f → Stays f number l (Says d ∷ (xs ++ zs))
    declares d xs later number l count told h = by (stands_already l d) refl h where
      knows_here : (b : Bool) → stands_already l d ≡ false → names_known k1 l d ≡ true → names_known k2 l d ≡ b → after_lines k1 (number + 1) (with_declaration l d) (xs ++ ys) ≡ refused f → Stays f number l (Says d ∷ (xs ++ zs))
      knows_here true new there here h =
          let rest = passes (Says d) xs later number (with_declaration l d) count told h in
          record { fault = rest.fault; is = rw (new, here) rest.is; same = rest.same }
      knows_here false new there here h =
          record { fault = faults.NoSuper number; is = rw (new, here) refl; same = λ more. absurd (false≢true (sym here ∙ names_more more l d there)) }

      knows_there : (b : Bool) → stands_already l d ≡ false → names_known k1 l d ≡ b
          → (cond b (Ok (with_declaration l d)) (Err (faults.NoSuper number)) >>= λ next. after_lines k1 (number + 1) next (xs ++ ys)) ≡ refused f → Stays f number l (Says d ∷ (xs ++ zs))
      knows_there true new there h = knows_here (names_known k2 l d) new there refl h
      knows_there false new there h =
          let is : faults.NoSuper number ≡ f = refused_is (faults.NoSuper number) f h in
          let here = missing d xs number l count (subst (λ (g : ListFault). IsTold g n (Says d ∷ xs)) (sym is) told) there in
          record { fault = faults.NoSuper number; is = rw (new, here) refl; same = λ more. is }

      by : (b : Bool) → stands_already l d ≡ b
          → (cond b (Err (faults.Twice number)) (cond (names_known k1 l d) (Ok (with_declaration l d)) (Err (faults.NoSuper number))) >>= λ next. after_lines k1 (number + 1) next (xs ++ ys)) ≡ refused f → Stays f number l (Says d ∷ (xs ++ zs))
      by true stands h = record { fault = faults.Twice number; is = rw stands refl; same = λ more. refused_is (faults.Twice number) f h }
      by false new h = knows_there (names_known k1 l d) new refl h

    stays : (xs : List Said) → Later xs
    stays [] number l count told h = absurd (omega (arith, count, told_at f n [] told, at_least k1 ys number l f h))
    stays (Nothing ∷ xs) number l count told h =
        let rest = passes Nothing xs (stays xs) number l count told h in
        record { fault = rest.fault; is = rest.is; same = rest.same }
    stays (NoForm ∷ xs) number l count told h = record { fault = faults.Line number; is = refl; same = λ more. refused_is (faults.Line number) f h }
    stays (Says d ∷ xs) number l count told h = declares d xs (stays xs) number l count told h

-- ---- the lines of a text

said_more : (line : List ℕ) (parts : List (List ℕ)) → HasPiece parts → said_lines (line ∷ parts) ≡ said line ∷ said_lines parts
said_more line parts some = by parts some.is where
  by : (ps : List (List ℕ)) → ps ≡ some.first ∷ some.rest → said_lines (line ∷ ps) ≡ said line ∷ said_lines ps
  by [] e = absurd cc
  by (p ∷ ps) e =
      let count : length (line ∷ p ∷ ps) - 1 ≡ suc (length (p ∷ ps) - 1) = omega arith in
      ap (λ (n : ℕ). map said (take n (line ∷ p ∷ ps)) ++ ending (slice_index_or (line ∷ p ∷ ps) n [])) count

said_after : (lines parts : List (List ℕ)) → HasPiece parts → said_lines (lines ++ parts) ≡ map said lines ++ said_lines parts
said_after [] parts some = refl
said_after (line ∷ lines) parts some = said_more line (lines ++ parts) (by lines) ∙ ap (λ (ss : List Said). said line ∷ ss) (said_after lines parts some) where
  by : (ls : List (List ℕ)) → HasPiece (ls ++ parts)
  by [] = some
  by (l ∷ ls) = record { first = l; rest = ls ++ parts; is = refl }

text_said : (n : ℕ) (front following : List ℕ) (is : IsLines n front) → lines_said (front ++ following) ≡ map said is.lines ++ lines_said following
text_said n front following is = ap said_lines (pieces_of_lines 10 front following is.lines is.ended) ∙ said_after is.lines (pieces 10 following) (some_piece 10 following)

last_said : (before : List (List ℕ)) (line : List ℕ) → IsClass (said line) → LastIsClass (map said (before ++ line ∷ []))
last_said [] line is = is
last_said (b ∷ []) line is = is
last_said (b ∷ c ∷ before) line is = last_said (c ∷ before) line is

ends_in_class : (n : ℕ) (front : List ℕ) (is : IsLines n front) → EndsInClass front → LastIsClass (map said is.lines)
ends_in_class n front is ends =
    let parts = snoc_is (ends.before ++ ends.line ∷ []) is.lines [] [] (append_assoc ends.before (ends.line ∷ []) ([] ∷ []) ∙ sym ends.ended ∙ is.ended) in
    subst (λ (ls : List (List ℕ)). LastIsClass (map said ls)) parts.0 (last_said ends.before ends.line (ends.class, ends.declares))

told_of : (n : ℕ) (front : List ℕ) (f : ListFault) (is : IsLines n front) → IsToldBy n front f → IsTold f n (map said is.lines)
told_of n front (faults.Line line) is told = told
told_of n front (faults.Twice line) is told = told
told_of n front (faults.NoSuper line) is told = (told.0, ends_in_class n front is told.1)
told_of n front (faults.TooMany count) is told = absurd told
told_of n front faults.Memory is told = absurd told

many_not_told : (count n : ℕ) (xs : List Said) (f : ListFault) → faults.TooMany count ≡ f → IsTold f n xs → ⊥
many_not_told count n xs f is told = subst (λ (g : ListFault). IsTold g n xs) (sym is) told

-- ---- reading lines

abbrev read_after : List Said → List Said → Result Listing ListFault
read_after all lines = after_lines (is_known (classes_in all)) 1 built_in_listing lines

few_read : (xs : List Said) → length xs ≤ 20000 → read_lines xs ≡ read_after xs xs
few_read xs few = rw (le-ltb 20000 (length xs) few) refl

-- what is read of lines that are not too many
not_many : (xs : List Said) (r : Result Listing ListFault) → read_lines xs ≡ r → (refused (faults.TooMany (length xs)) ≡ r → ⊥) → read_after xs xs ≡ r
not_many xs r h other = by (ltb 20000 (length xs)) h where
  by : (b : Bool) → cond b (Err (faults.TooMany (length xs))) (read_after xs xs) ≡ r → read_after xs xs ≡ r
  by true h = absurd (other h)
  by false h = h

module _ (n : ℕ) (front a b : List ℕ) (is : IsLines n front) where
  abbrev first_lines : List Said
  first_lines = map said is.lines

  abbrev known_in : List ℕ → List ℕ → Bool
  known_in following = is_known (classes_in (lines_said (front ++ following)))

  abbrev reads : List ℕ → Result Listing ListFault → Type 0
  reads following r = after_lines (known_in following) 1 built_in_listing (first_lines ++ lines_said following) ≡ r

  counted : n + 1 ≡ 1 + length first_lines
  counted = omega (arith, is.count, length-map said is.lines)

  by_lines : (following : List ℕ) (r : Result Listing ListFault) → read_lines (lines_said (front ++ following)) ≡ r → (refused (faults.TooMany (length (lines_said (front ++ following)))) ≡ r → ⊥) → reads following r
  by_lines following r h other =
      subst (λ (xs : List Said). after_lines (known_in following) 1 built_in_listing xs ≡ r) (text_said n front following is) (not_many (lines_said (front ++ following)) r h other)

  of_lines : (following : List ℕ) (r : Result Listing ListFault) → IsShort (front ++ following) → reads following r → read_lines (lines_said (front ++ following)) ≡ r
  of_lines following r short h =
      few_read (lines_said (front ++ following)) short ∙ ap (after_lines (known_in following) 1 built_in_listing) (text_said n front following is) ∙ h

  told_stays : (f : ListFault) → IsToldBy n front f → read_lines (lines_said (front ++ a)) ≡ refused f → Stays (known_in a) (known_in b) f 1 built_in_listing (first_lines ++ lines_said b)
  told_stays f told h =
      let here = told_of n front f is told in
      stays (known_in a) (known_in b) n f (lines_said a) (lines_said b) first_lines 1 built_in_listing counted here
      (by_lines a (refused f) h (λ many. many_not_told (length (lines_said (front ++ a))) n first_lines f (refused_is (faults.TooMany (length (lines_said (front ++ a)))) f many) here))

pub fault_stays : (n : ℕ) (front a b : List ℕ) (f : ListFault) → IsLines n front → IsToldBy n front f → IsShort (front ++ b)
    → ((name : List ℕ) → knows (front ++ a) name ≡ true → knows (front ++ b) name ≡ true)
    → reading (front ++ a) ≡ Err f → reading (front ++ b) ≡ Err f
unfolding reading
fault_stays n front a b f is told short more h =
    let stay = told_stays n front a b is f told h in
    of_lines n front a b is b (refused f) short (stay.is ∙ ap refused (stay.same more))

pub fault_is_final : (n : ℕ) (front a b : List ℕ) (f : ListFault) (l : Listing) → IsLines n front → IsToldBy n front f → reading (front ++ a) ≡ Err f → reading (front ++ b) ≢ Ok l
unfolding reading
fault_is_final n front a b f l is told h good =
    let stay = told_stays n front a b is f told h in
    let read = by_lines n front a b is b (listed l) good (λ many. apart l (faults.TooMany (length (lines_said (front ++ b)))) (sym many)) in
    apart l stay.fault (sym read ∙ stay.is)

pub missing_stays : (n : ℕ) (front a b : List ℕ) → IsLines n front → IsShort (front ++ b)
    → ((name : List ℕ) → knows (front ++ a) name ≡ knows (front ++ b) name)
    → reading (front ++ a) ≡ Err (faults.NoSuper n) → reading (front ++ b) ≡ Err (faults.NoSuper n)
unfolding reading
missing_stays n front a b is short same h =
    let f = faults.NoSuper n in
    let known : known_in n front a b is a ≡ known_in n front a b is b = fun_ext same in
    let there = by_lines n front a b is a (refused f) h (λ many. too_many (length (lines_said (front ++ a))) many) in
    let stay = same_stays (known_in n front a b is a) f (first_lines n front a b is) (lines_said a) (lines_said b) 1 built_in_listing (omega (arith, counted n front a b is)) there in
    of_lines n front a b is b (refused f) short (subst (λ (k : List ℕ → Bool). after_lines k 1 built_in_listing (first_lines n front a b is ++ lines_said b) ≡ refused f) known stay) where
      too_many : (count : ℕ) → refused (faults.TooMany count) ≡ refused (faults.NoSuper n) → ⊥
      too_many count h = cc
