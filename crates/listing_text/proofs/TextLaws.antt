-- What is read of a text is encoded so, and what is encoded so is read.
use Rattle.std.proofs.Common.{◌≡◌, ℕ, ◌+◌, ◌-◌, ◌≤◌, Bool, true, false, not, cond, ltb, List, [], ◌∷◌, ◌++◌, length, take, map, Option, Some, None, Result, Ok, Err, refl, sym, ap, subst, ◌∙◌, append_assoc, arith, length-append, eqb}
use Rattle.std.specs.Prelude.{filter, IfOk, MatchResult}
use Rattle.std.specs.List.{list_all, filter_map, slice_index_or}
use Rattle.std.proofs.lemmas.Bool.{false≢true, le-ltb, ltb-false}
use Rattle.std.proofs.lemmas.List.{append-nil, take_all, take_more}
use Rattle.std.proofs.lemmas.List.Elements.{filter_map-append}
use Rattle.std.proofs.lemmas.List.Splits.{length-slice_split}
use Rattle.mon_base.specs.Reading.{◌>>=◌}
use Rattle.api_listing.specs.declared.types.ListedClass.{ListedClass}
use Rattle.api_listing.specs.declared.types.Listing.{Listing}
use Rattle.api_listing.specs.declared.declaration.Declaration.{Declaration}
use Rattle.api_listing.specs.declared.declaration.Declaration.TheVariants.{Class, Method, Field}
use Rattle.listing_text.specs.declared.lines.Said.{Said}
use Rattle.listing_text.specs.declared.lines.Said.TheVariants.{Nothing, NoForm, Says}
use Rattle.listing_text.specs.declared.fault.ListFault.{ListFault}
use Rattle.listing_text.specs.declared.fault.ListFault.TheVariants as faults
use Rattle.api_listing.specs.Words.{pieces}
use Rattle.api_listing.specs.BuiltIn.{built_in_classes, class_rows}
use Rattle.mon_base.specs.Answer.{Answers, Fails}
use Rattle.api_listing.specs.Fault.{Read}
use Rattle.api_listing.specs.Lines.{says_something}
use Rattle.listing_text.specs.Saying.{form_of, said_as, said, ending, said_lines}
use Rattle.api_listing.specs.Listing.{is_known, stands_already, names_known, class_declared, method_declared, field_declared, listing_of, AreSaid, EncodesListing, IsFew}
use Rattle.listing_text.specs.Reading.{with_declaration, built_in_listing, declared, after_lines, class_said, classes_in, read_lines, reading}
use Rattle.listing_text.proofs.Lists.{not_true}
use Rattle.api_listing.proofs.DescriptorLaws.{both}
use Rattle.listing_text.proofs.LineLaws.{line_found, line_again}

abbrev listed : Listing → Result Listing ListFault
listed l = Ok l

none_listed : (fault : ListFault) (l : Listing) → ◌≡◌ {A = Result Listing ListFault} (Err fault) (Ok l) → ⊥
none_listed fault l h = cc

listed_is : (a b : Listing) → listed a ≡ listed b → a ≡ b
listed_is a b h = cc

-- ---- declarations among lines

abbrev declaration_in : Said → Option Declaration
declaration_in Nothing = None
declaration_in NoForm = None
declaration_in (Says d) = Some d

abbrev is_formed : Said → Bool
is_formed Nothing = true
is_formed NoForm = false
is_formed (Says d) = true

abbrev declarations : List Said → List Declaration
declarations lines = filter_map declaration_in lines

classes_said : (lines : List Said) → filter_map class_said lines ≡ filter_map class_declared (declarations lines)
classes_said [] = refl
classes_said (Nothing ∷ lines) = classes_said lines
classes_said (NoForm ∷ lines) = classes_said lines
classes_said (Says (Class c) ∷ lines) = ap (λ (cs : List ListedClass). c ∷ cs) (classes_said lines)
classes_said (Says (Method m types) ∷ lines) = classes_said lines
classes_said (Says (Field id class) ∷ lines) = classes_said lines

-- ---- one declaration more

listing_more : (front : List Declaration) (d : Declaration) → with_declaration (listing_of front) d ≡ listing_of (front ++ d ∷ [])
listing_more front (Class c) =
    rw (filter_map-append class_declared front (Class c ∷ []), filter_map-append method_declared front (Class c ∷ []), filter_map-append field_declared front (Class c ∷ []), append-nil (filter_map method_declared front), append-nil (filter_map field_declared front), append_assoc built_in_classes (filter_map class_declared front) (c ∷ [])) refl
listing_more front (Method m types) =
    rw (filter_map-append class_declared front (Method m types ∷ []), filter_map-append method_declared front (Method m types ∷ []), filter_map-append field_declared front (Method m types ∷ []), append-nil (filter_map class_declared front), append-nil (filter_map field_declared front)) refl
listing_more front (Field id class) =
    rw (filter_map-append class_declared front (Field id class ∷ []), filter_map-append method_declared front (Field id class ∷ []), filter_map-append field_declared front (Field id class ∷ []), append-nil (filter_map class_declared front), append-nil (filter_map method_declared front)) refl

-- ---- each after those before it

module _ (known : List ℕ → Bool) where
  abbrev Goes : List Declaration → List Declaration → Type 0
  Goes front [] = Unit {0}
  Goes front (d ∷ ds) = (stands_already (listing_of front) d ≡ false) × (names_known known (listing_of front) d ≡ true) × Goes (front ++ d ∷ []) ds

  abbrev IsGood : List Declaration → Declaration → Type 0
  IsGood front d = (stands_already (listing_of front) d ≡ false) × (names_known known (listing_of front) d ≡ true)

  goes_split : (front ds : List Declaration) → Goes front ds → (before after : List Declaration) (d : Declaration) → ds ≡ before ++ d ∷ after → IsGood (front ++ before) d
  goes_split front [] g [] after d e = absurd cc
  goes_split front [] g (b ∷ before) after d e = absurd cc
  goes_split front (x ∷ ds) g [] after d e =
      let same : x ≡ d = cc in
      let here : IsGood front d = subst (IsGood front) same (g.0, g.1) in
      subst (λ (f : List Declaration). IsGood f d) (sym (append-nil front)) here
  goes_split front (x ∷ ds) g (b ∷ before) after d e =
      let same : x ≡ b = cc in
      let rest : ds ≡ before ++ d ∷ after = cc in
      let later = goes_split (front ++ x ∷ []) ds g.2 before after d rest in
      subst (λ (f : List Declaration). IsGood f d) (append_assoc front (x ∷ []) before ∙ ap (λ (y : Declaration). front ++ y ∷ before) same) later

  goes_of : (front ds : List Declaration) → ((before after : List Declaration) (d : Declaration) → ds ≡ before ++ d ∷ after → IsGood (front ++ before) d) → Goes front ds
  goes_of front [] each = tt
  goes_of front (x ∷ ds) each =
      let here : IsGood front x = subst (λ (f : List Declaration). IsGood f x) (append-nil front) (each [] ds x refl) in
      (here.0, here.1, goes_of (front ++ x ∷ []) ds (λ before after d e. subst (λ (f : List Declaration). IsGood f d) (sym (append_assoc front (x ∷ []) before)) (each (x ∷ before) after d (ap (λ (t : List Declaration). x ∷ t) e))))

  abbrev Fits : List Said → List Declaration → Listing → Type 0
  Fits lines front l = (list_all is_formed lines ≡ true) × (l ≡ listing_of (front ++ declarations lines)) × Goes front (declarations lines)

  -- a line that declares
  declares : (number : ℕ) (front : List Declaration) (d : Declaration) (lines : List Said) (l : Listing)
      → (after_lines known (number + 1) (listing_of (front ++ d ∷ [])) lines ≡ listed l → Fits lines (front ++ d ∷ []) l)
      → (declared known number (listing_of front) d >>= λ next. after_lines known (number + 1) next lines) ≡ listed l → Fits (Says d ∷ lines) front l
  declares number front d lines l others h = by (stands_already (listing_of front) d) refl h where
    knows : (b : Bool) → stands_already (listing_of front) d ≡ false → names_known known (listing_of front) d ≡ b
        → (cond b (Ok (with_declaration (listing_of front) d)) (Err (faults.NoSuper number)) >>= λ next. after_lines known (number + 1) next lines) ≡ listed l → Fits (Says d ∷ lines) front l
    knows false new is h = absurd (none_listed (faults.NoSuper number) l h)
    knows true new is h =
        let fits = others (ap (λ (next : Listing). after_lines known (number + 1) next lines) (sym (listing_more front d)) ∙ h) in
        (fits.0, fits.1 ∙ ap listing_of (append_assoc front (d ∷ []) (declarations lines)), (new, is, fits.2))

    by : (b : Bool) → stands_already (listing_of front) d ≡ b
        → (cond b (Err (faults.Twice number)) (cond (names_known known (listing_of front) d) (Ok (with_declaration (listing_of front) d)) (Err (faults.NoSuper number))) >>= λ next. after_lines known (number + 1) next lines) ≡ listed l
        → Fits (Says d ∷ lines) front l
    by true is h = absurd (none_listed (faults.Twice number) l h)
    by false is h = knows (names_known known (listing_of front) d) is refl h

  lines_found : (lines : List Said) (number : ℕ) (front : List Declaration) (l : Listing) → after_lines known number (listing_of front) lines ≡ listed l → Fits lines front l
  lines_found [] number front l h = (refl, sym (listed_is (listing_of front) l h) ∙ ap listing_of (sym (append-nil front)), tt)
  lines_found (Nothing ∷ lines) number front l h = lines_found lines (number + 1) front l h
  lines_found (NoForm ∷ lines) number front l h = absurd (none_listed (faults.Line number) l h)
  lines_found (Says d ∷ lines) number front l h = declares number front d lines l (lines_found lines (number + 1) (front ++ d ∷ []) l) h

  lines_again : (lines : List Said) (number : ℕ) (front : List Declaration) → list_all is_formed lines ≡ true → Goes front (declarations lines)
      → after_lines known number (listing_of front) lines ≡ listed (listing_of (front ++ declarations lines))
  lines_again [] number front formed goes = ap (λ (f : List Declaration). listed (listing_of f)) (sym (append-nil front))
  lines_again (Nothing ∷ lines) number front formed goes = lines_again lines (number + 1) front formed goes
  lines_again (NoForm ∷ lines) number front formed goes = absurd (false≢true formed)
  lines_again (Says d ∷ lines) number front formed goes =
      let later = lines_again lines (number + 1) (front ++ d ∷ []) formed goes.2 in
      rw (goes.0, goes.1) (ap (λ (next : Listing). after_lines known (number + 1) next lines) (listing_more front d) ∙ later ∙ ap (λ (f : List Declaration). listed (listing_of f)) (append_assoc front (d ∷ []) (declarations lines)))

-- ---- lines

line_said : (line : List ℕ) (rest : List (List ℕ)) (others : List Said) → AreSaid (filter says_something rest) (declarations others) → is_formed (said line) ≡ true
    → AreSaid (filter says_something (line ∷ rest)) (declarations (said line ∷ others))
line_said line rest others later formed = by (says_something line) refl where
  by_form : (read : Read Declaration) → form_of (pieces 32 line) ≡ read → is_formed (said_as read) ≡ true → AreSaid (line ∷ filter says_something rest) (declarations (said_as read ∷ others))
  by_form (Err e) is good = absurd (false≢true good)
  by_form (Ok d) is good = (line_found (pieces 32 line) d is, later)

  by : (b : Bool) → says_something line ≡ b → AreSaid (filter says_something (line ∷ rest)) (declarations (said line ∷ others))
  by false is = rw is later
  by true is =
      let good : is_formed (said_as (form_of (pieces 32 line))) ≡ true = rw is at formed in
      rw is (by_form (form_of (pieces 32 line)) refl good)

said_found : (lines : List (List ℕ)) → list_all is_formed (map said lines) ≡ true → AreSaid (filter says_something lines) (declarations (map said lines))
said_found [] formed = tt
said_found (line ∷ lines) formed =
    let p = both (is_formed (said line)) (list_all is_formed (map said lines)) formed in
    line_said line lines (map said lines) (said_found lines p.1) p.0

abbrev AreRead : List (List ℕ) → List Declaration → Type 0
AreRead lines ds = (list_all is_formed (map said lines) ≡ true) × (declarations (map said lines) ≡ ds)

line_read : (line : List ℕ) (rest : List (List ℕ)) (ds : List Declaration) → ((es : List Declaration) → AreSaid (filter says_something rest) es → AreRead rest es)
    → AreSaid (filter says_something (line ∷ rest)) ds → AreRead (line ∷ rest) ds
line_read line rest ds others are = by (says_something line) refl where
  shown : (es : List Declaration) → says_something line ≡ true → AreSaid (line ∷ filter says_something rest) es → AreRead (line ∷ rest) es
  shown [] is are = absurd are
  shown (d ∷ es) is are =
      let later = others es are.1 in
      let read : said line ≡ Says d = rw (is, line_again (pieces 32 line) d are.0) refl in
      (rw (read, later.0) refl, rw read (ap (λ (t : List Declaration). d ∷ t) later.1))

  by : (b : Bool) → says_something line ≡ b → AreRead (line ∷ rest) ds
  by false is =
      let later = others ds (rw is at are) in
      let read : said line ≡ Nothing = rw is refl in
      (rw (read, later.0) refl, rw read later.1)
  by true is = shown ds is (rw is at are)

said_again : (lines : List (List ℕ)) (ds : List Declaration) → AreSaid (filter says_something lines) ds → AreRead lines ds
said_again [] [] are = (refl, refl)
said_again [] (d ∷ ds) are = absurd are
said_again (line ∷ lines) ds are = line_read line lines ds (said_again lines) are

-- ---- the last line

last_split : (parts : List (List ℕ)) → 1 ≤ length parts → parts ≡ take (length parts - 1) parts ++ slice_index_or parts (length parts - 1) [] ∷ []
last_split parts long =
    let n : (length parts - 1) + 1 ≡ length parts = omega arith in
    sym (take_all (length parts) parts (omega arith)) ∙ ap (λ (k : ℕ). take k parts) (sym n) ∙ take_more parts (length parts - 1) [] (omega arith)

pub snoc_is : (xs ys : List (List ℕ)) (x y : List ℕ) → xs ++ x ∷ [] ≡ ys ++ y ∷ [] → (xs ≡ ys) × (x ≡ y)
snoc_is [] [] x y e = (refl, cc)
snoc_is [] (b ∷ []) x y e = absurd cc
snoc_is [] (b ∷ c ∷ ys) x y e = absurd cc
snoc_is (a ∷ []) [] x y e = absurd cc
snoc_is (a ∷ c ∷ xs) [] x y e = absurd cc
snoc_is (a ∷ xs) (b ∷ ys) x y e =
    let first : a ≡ b = cc in
    let rest : xs ++ x ∷ [] ≡ ys ++ y ∷ [] = cc in
    let later = snoc_is xs ys x y rest in
    let tails : xs ≡ ys = later.0 in
    (cc, later.1)

all_in_front : (xs ys : List Said) → list_all is_formed (xs ++ ys) ≡ true → list_all is_formed ys ≡ true
all_in_front [] ys e = e
all_in_front (x ∷ xs) ys e = all_in_front xs ys (both (is_formed x) (list_all is_formed (xs ++ ys)) e).1

some_part : (byte : ℕ) (text : List ℕ) → 1 ≤ length (pieces byte text)
some_part byte text = omega (arith, length-slice_split (λ b. eqb b byte) text)

lines_end : (parts : List (List ℕ)) → 1 ≤ length parts → list_all is_formed (said_lines parts) ≡ true → slice_index_or parts (length parts - 1) [] ≡ []
lines_end parts long formed = by (slice_index_or parts (length parts - 1) []) (all_in_front (map said (take (length parts - 1) parts)) (ending (slice_index_or parts (length parts - 1) [])) formed) where
  by : (last : List ℕ) → list_all is_formed (ending last) ≡ true → last ≡ []
  by [] e = refl
  by (b ∷ bytes) e = absurd (false≢true e)

said_of_lines : (lines : List (List ℕ)) → said_lines (lines ++ [] ∷ []) ≡ map said lines
said_of_lines lines =
    let parts = lines ++ [] ∷ [] in
    let long : 1 ≤ length parts = omega (arith, length-append lines ([] ∷ [])) in
    let same = snoc_is lines (take (length parts - 1) parts) [] (slice_index_or parts (length parts - 1) []) (last_split parts long) in
    rw (← same.0, ← same.1) (append-nil (map said lines))

-- ---- the text

abbrev bare : List ListedClass → Listing
bare cs = record { classes = cs; methods = []; fields = [] }

nothing_declared : listing_of [] ≡ built_in_listing
nothing_declared = ap bare (append-nil built_in_classes)

classes_are : (lines : List Said) → classes_in lines ≡ (listing_of (declarations lines)).classes
classes_are lines = ap (λ (cs : List ListedClass). built_in_classes ++ cs) (classes_said lines)

few_are_read : (lines : List Said) (l : Listing) → read_lines lines ≡ listed l → (length lines ≤ 20000) × Fits (is_known (classes_in lines)) lines [] l
few_are_read lines l h = by (ltb 20000 (length lines)) refl h where
  by : (b : Bool) → ltb 20000 (length lines) ≡ b → cond b (Err (faults.TooMany (length lines))) (after_lines (is_known (classes_in lines)) 1 built_in_listing lines) ≡ listed l
      → (length lines ≤ 20000) × Fits (is_known (classes_in lines)) lines [] l
  by true is h = absurd (none_listed (faults.TooMany (length lines)) l h)
  by false is h = (ltb-false 20000 (length lines) is, lines_found (is_known (classes_in lines)) lines 1 [] l (ap (λ (x : Listing). after_lines (is_known (classes_in lines)) 1 x lines) nothing_declared ∙ h))

pub length-map : {X Y : Type 0} (f : X → Y) (xs : List X) → length (map f xs) ≡ length xs
length-map f [] = refl
length-map f (x ∷ xs) = omega (arith, length-map f xs)

pub text_found : (text : List ℕ) (l : Listing) → reading text ≡ Ok l → EncodesListing text l
unfolding reading
text_found text l h =
    let parts = pieces 10 text in
    let lines = take (length parts - 1) parts in
    let long = some_part 10 text in
    let all = few_are_read (said_lines parts) l h in
    let last = lines_end parts long all.1.0 in
    let ended : parts ≡ lines ++ [] ∷ [] = last_split parts long ∙ ap (λ (x : List ℕ). lines ++ x ∷ []) last in
    let are : said_lines parts ≡ map said lines = ap said_lines ended ∙ said_of_lines lines in
    let ds = declarations (map said lines) in
    let fits = subst (λ (s : List Said). (length s ≤ 20000) × Fits (is_known (classes_in s)) s [] l) are all in
    let classes : is_known (classes_in (map said lines)) ≡ is_known l.classes = ap is_known (classes_are (map said lines) ∙ ap (λ (x : Listing). x.classes) (sym fits.1.1)) in
    let goes = subst (λ (k : List ℕ → Bool). Goes k [] ds) classes fits.1.2 in
    record {
      lines = lines;
      said = ds;
      ended = ended;
      few = omega (arith, fits.0, length-map said lines);
      encoded = said_found lines fits.1.0;
      listed = fits.1.1;
      once = λ before after d e. ap not (goes_split (is_known l.classes) [] ds goes before after d e).0;
      named = λ before after d e. (goes_split (is_known l.classes) [] ds goes before after d e).1;
    }

pub text_again : (text : List ℕ) (l : Listing) → EncodesListing text l → reading text ≡ Ok l
unfolding reading
text_again text l s =
    let read = said_again s.lines s.said s.encoded in
    let are : said_lines (pieces 10 text) ≡ map said s.lines = ap said_lines s.ended ∙ said_of_lines s.lines in
    let classes : is_known l.classes ≡ is_known (classes_in (map said s.lines)) =
    ap is_known (ap (λ (x : Listing). x.classes) s.listed ∙ ap (λ (ds : List Declaration). (listing_of ds).classes) (sym read.1) ∙ sym (classes_are (map said s.lines))) in
    let goes : Goes (is_known l.classes) [] s.said = goes_of (is_known l.classes) [] s.said (λ before after d e. (not_true (stands_already (listing_of before) d) (s.once before after d e), s.named before after d e)) in
    let going : Goes (is_known (classes_in (map said s.lines))) [] (declarations (map said s.lines)) =
    subst (λ (ds : List Declaration). Goes (is_known (classes_in (map said s.lines))) [] ds) (sym read.1) (subst (λ (k : List ℕ → Bool). Goes k [] s.said) classes goes) in
    let few : ltb 20000 (length (map said s.lines)) ≡ false = le-ltb 20000 (length (map said s.lines)) (omega (arith, s.few, length-map said s.lines)) in
    let last : read_lines (map said s.lines) ≡ listed (listing_of (declarations (map said s.lines))) = rw few (ap (λ (x : Listing). after_lines (is_known (classes_in (map said s.lines))) 1 x (map said s.lines)) (sym nothing_declared) ∙ lines_again (is_known (classes_in (map said s.lines))) (map said s.lines) 1 [] read.0 going) in
    ap read_lines are ∙ last ∙ ap (λ (ds : List Declaration). listed (listing_of ds)) read.1 ∙ ap listed (sym s.listed)

-- ---- a call that answers what is read

pub answer_found : (text : List ℕ) (result : Result Listing ListFault) → Answers faults.Memory result (reading text) → IfOk result (λ l. EncodesListing text l)
answer_found text (Ok l) h = text_found text l h
answer_found text (Err e) h = tt

refused : (e : ListFault) (l : Listing) (read : Result Listing ListFault) → Fails faults.Memory e read → read ≡ listed l → e ≡ faults.Memory
refused faults.Memory l read h is = refl
refused (faults.Line line) l read h is = absurd (none_listed (faults.Line line) l (sym (h (λ same. cc)) ∙ is))
refused (faults.Twice line) l read h is = absurd (none_listed (faults.Twice line) l (sym (h (λ same. cc)) ∙ is))
refused (faults.NoSuper line) l read h is = absurd (none_listed (faults.NoSuper line) l (sym (h (λ same. cc)) ∙ is))
refused (faults.TooMany count) l read h is = absurd (none_listed (faults.TooMany count) l (sym (h (λ same. cc)) ∙ is))

pub answer_only : (text : List ℕ) (result : Result Listing ListFault) → Answers faults.Memory result (reading text) → (l : Listing) → EncodesListing text l → MatchResult result (λ r. r ≡ l) (λ e. e ≡ faults.Memory)
answer_only text (Ok r) h l s = listed_is r l (sym h ∙ text_again text l s)
answer_only text (Err e) h l s = refused e l (reading text) h (text_again text l s)

-- ---- few are declared

few_given : {X Y : Type 0} (h : X → Option Y) (xs : List X) → length (filter_map h xs) ≤ length xs
few_given h [] = omega arith
few_given h (x ∷ xs) = by (h x) refl (few_given h xs) where
  by : (o : Option _) → h x ≡ o → length (filter_map h xs) ≤ length xs → length (filter_map h (x ∷ xs)) ≤ length (x ∷ xs)
  by None is less = rw is (omega arith)
  by (Some y) is less = rw is (omega arith)

few_left : (p : List ℕ → Bool) (xs : List (List ℕ)) → length (filter p xs) ≤ length xs
few_left p [] = omega arith
few_left p (x ∷ xs) = by (p x) refl (few_left p xs) where
  by : (b : Bool) → p x ≡ b → length (filter p xs) ≤ length xs → length (filter p (x ∷ xs)) ≤ length (x ∷ xs)
  by false is less = rw is (omega arith)
  by true is less = rw is (omega arith)

one_each : (lines : List (List ℕ)) (ds : List Declaration) → AreSaid lines ds → length ds ≡ length lines
one_each [] [] are = refl
one_each [] (d ∷ ds) are = absurd are
one_each (line ∷ lines) [] are = absurd are
one_each (line ∷ lines) (d ∷ ds) are = omega (arith, one_each lines ds are.1)

built_in_count : length built_in_classes ≡ 20
unfolding class_rows
built_in_count = refl

few_encoded : (text : List ℕ) (l : Listing) → EncodesListing text l → IsFew l
few_encoded text l s =
    let count : length s.said ≤ 20000 = omega (arith, s.few, few_left says_something s.lines, one_each (filter says_something s.lines) s.said s.encoded) in
    let few : IsFew (listing_of s.said) = record {
      classes = omega (arith, count, built_in_count, few_given class_declared s.said, length-append built_in_classes (filter_map class_declared s.said));
      methods = omega (arith, count, few_given method_declared s.said);
      fields = omega (arith, count, few_given field_declared s.said);
    } in
    subst IsFew (sym s.listed) few

pub answer_few : (text : List ℕ) (result : Result Listing ListFault) → Answers faults.Memory result (reading text) → IfOk result (λ l. IsFew l)
answer_few text (Ok l) h = few_encoded text l (text_found text l h)
answer_few text (Err e) h = tt
