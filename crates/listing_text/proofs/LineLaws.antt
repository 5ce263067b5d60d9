-- What is read of a line is encoded so, and what is encoded so is read.
use Rattle.std.proofs.Common.{◌≡◌, ℕ, Bool, true, false, not, cond, ◌&&◌, List, [], ◌∷◌, length, Option, Some, None, Ok, Err, refl, ap, subst, ◌∙◌, eqb}
use Rattle.std.specs.Prelude.{bytes_eq, codes, ok_or}
use Rattle.std.specs.List.{onto_first}
use Rattle.std.proofs.lemmas.Slice.Eq.{bytes_eq-Decides}
use Rattle.mon_base.specs.Reading.{◌>>=◌, need}
use Rattle.mon_base.specs.declared.method.MethodId.{MethodId}
use Rattle.api_listing.specs.declared.descriptor.MethodType.{MethodType}
use Rattle.api_listing.specs.declared.fault.FormFault.TheVariants.{NoForm}
use Rattle.api_listing.specs.declared.types.ListedClass.{ListedClass}
use Rattle.api_listing.specs.declared.declaration.Declaration.{Declaration}
use Rattle.api_listing.specs.declared.declaration.Declaration.TheVariants.{Class, Method, Field}
use Rattle.api_listing.specs.Words.{pieces, is_class_name}
use Rattle.api_listing.specs.Fault.{Read}
use Rattle.api_listing.specs.Descriptor.{method_type, class_described, EncodesDescriptor}
use Rattle.listing_text.specs.Saying.{interface_named, member, class_line, method_line, class_of, field_line, two_words, four_words, six_words, form_of}
use Rattle.api_listing.specs.Lines.{are_class_names, EncodesAbove, EncodesInterface, EncodesBelow, EncodesKind, EncodesClassLine, verb_of, EncodesMember, EncodesLine}
use Rattle.api_listing.proofs.DescriptorLaws.{both, method_found, method_again, class_descriptor_found, class_descriptor_again}

none_declared : (d : Declaration) → ◌≡◌ {A = Read Declaration} (Err NoForm) (Ok d) → ⊥
none_declared d h = cc

text_is : (a b : List ℕ) → bytes_eq a b ≡ true → a ≡ b
text_is a b e = (bytes_eq-Decides a b).0 e

abbrev class_declared : List ℕ → List ℕ → List (List ℕ) → ListedClass
class_declared name parent interfaces = record { name = name; parent = parent; interfaces = interfaces; is_interface = false }

-- ---- found

class_line_found : (words above interfaces : List (List ℕ)) (name parent : List ℕ) (d : Declaration) → words ≡ codes "class" ∷ name ∷ codes "extends" ∷ parent ∷ above → EncodesAbove above interfaces
    → class_line name parent interfaces ≡ Ok d → EncodesLine words d
unfolding class_line
class_line_found words above interfaces name parent d encoded over h = by (is_class_name name && (is_class_name parent && are_class_names interfaces)) refl h where
  by : (b : Bool) → (is_class_name name && (is_class_name parent && are_class_names interfaces)) ≡ b → (need b NoForm >>= λ named. Ok (Class (class_declared name parent interfaces))) ≡ Ok d → EncodesLine words d
  by false is h = absurd cc
  by true is h =
      let p = both (is_class_name name) (is_class_name parent && are_class_names interfaces) is in
      let q = both (is_class_name parent) (are_class_names interfaces) p.1 in
      let same : Class (class_declared name parent interfaces) ≡ d = cc in
      let below : EncodesBelow words (class_declared name parent interfaces) = record { above = above; encoded = encoded; interfaces = over } in
      let line : EncodesClassLine words (class_declared name parent interfaces) = record { encoded = below; name = p.0; parent = q.0; names = q.1 } in
      subst (EncodesLine words) same line

abbrev method_declared : Bool → List ℕ → List ℕ → List ℕ → MethodType → Declaration
method_declared is_static class name desc types = Method (record { id = member class name desc; is_static = is_static }) types

method_line_found : (words : List (List ℕ)) (is_static : Bool) (class name desc : List ℕ) (d : Declaration) → words ≡ verb_of is_static ∷ class ∷ name ∷ desc ∷ [] → method_line is_static class name desc ≡ Ok d → EncodesLine words d
unfolding method_line
method_line_found words is_static class name desc d encoded h = by (is_class_name class && not (eqb (length name) 0)) refl h where
  typed : (read : Read MethodType) → (is_class_name class && not (eqb (length name) 0)) ≡ true → method_type desc ≡ read → (read >>= λ types. Ok (method_declared is_static class name desc types)) ≡ Ok d → EncodesLine words d
  typed (Err e) named is h = absurd cc
  typed (Ok types) named is h =
      let same : method_declared is_static class name desc types ≡ d = cc in
      let line : EncodesLine words (method_declared is_static class name desc types) = (record { encoded = encoded; named = named }, method_found desc types is) in
      subst (EncodesLine words) same line

  by : (b : Bool) → (is_class_name class && not (eqb (length name) 0)) ≡ b → (need b NoForm >>= λ named. method_type desc >>= λ types. Ok (method_declared is_static class name desc types)) ≡ Ok d → EncodesLine words d
  by false is h = absurd cc
  by true is h = typed (method_type desc) is refl h

field_line_found : (words : List (List ℕ)) (class name desc : List ℕ) (d : Declaration) → words ≡ codes "field" ∷ class ∷ name ∷ desc ∷ [] → field_line class name desc ≡ Ok d → EncodesLine words d
unfolding field_line
field_line_found words class name desc d encoded h = by (is_class_name class && not (eqb (length name) 0)) refl h where
  typed : (read : Option (List ℕ)) → (is_class_name class && not (eqb (length name) 0)) ≡ true → class_described desc ≡ read → (ok_or read NoForm >>= λ of. Ok (Field (member class name desc) of)) ≡ Ok d → EncodesLine words d
  typed None named is h = absurd cc
  typed (Some of) named is h =
      let same : Field (member class name desc) of ≡ d = cc in
      let line : EncodesLine words (Field (member class name desc) of) = (record { encoded = encoded; named = named }, class_descriptor_found desc of is) in
      subst (EncodesLine words) same line

  by : (b : Bool) → (is_class_name class && not (eqb (length name) 0)) ≡ b → (need b NoForm >>= λ named. class_of desc >>= λ of. Ok (Field (member class name desc) of)) ≡ Ok d → EncodesLine words d
  by false is h = absurd cc
  by true is h = typed (class_described desc) is refl h

two_found : (verb name : List ℕ) (d : Declaration) → two_words verb name ≡ Ok d → EncodesLine (verb ∷ name ∷ []) d
unfolding two_words
two_found verb name d h = by (bytes_eq verb (codes "interface") && is_class_name name) refl h where
  by : (b : Bool) → (bytes_eq verb (codes "interface") && is_class_name name) ≡ b → (need b NoForm >>= λ named. Ok (Class (interface_named name))) ≡ Ok d → EncodesLine (verb ∷ name ∷ []) d
  by false is h = absurd cc
  by true is h =
      let p = both (bytes_eq verb (codes "interface")) (is_class_name name) is in
      let same : Class (interface_named name) ≡ d = cc in
      let kind : EncodesInterface (verb ∷ name ∷ []) (interface_named name) = record { encoded = ap (λ (v : List ℕ). v ∷ name ∷ []) (text_is verb (codes "interface") p.0); below = refl; alone = refl } in
      let line : EncodesClassLine (verb ∷ name ∷ []) (interface_named name) = record { encoded = kind; name = p.1; parent = refl; names = refl } in
      subst (EncodesLine (verb ∷ name ∷ [])) same line

four_found : (verb class third last : List ℕ) (d : Declaration) → four_words verb class third last ≡ Ok d → EncodesLine (verb ∷ class ∷ third ∷ last ∷ []) d
unfolding four_words
four_found verb class third last d h = first (bytes_eq verb (codes "class") && bytes_eq third (codes "extends")) refl h where
  fourth : (b : Bool) → bytes_eq verb (codes "field") ≡ b → cond b (field_line class third last) (Err NoForm) ≡ Ok d → EncodesLine (verb ∷ class ∷ third ∷ last ∷ []) d
  fourth false is h = absurd cc
  fourth true is h = field_line_found (verb ∷ class ∷ third ∷ last ∷ []) class third last d (ap (λ (v : List ℕ). v ∷ class ∷ third ∷ last ∷ []) (text_is verb (codes "field") is)) h

  third_form : (b : Bool) → bytes_eq verb (codes "static") ≡ b → cond b (method_line true class third last) (cond (bytes_eq verb (codes "field")) (field_line class third last) (Err NoForm)) ≡ Ok d → EncodesLine (verb ∷ class ∷ third ∷ last ∷ []) d
  third_form false is h = fourth (bytes_eq verb (codes "field")) refl h
  third_form true is h = method_line_found (verb ∷ class ∷ third ∷ last ∷ []) true class third last d (ap (λ (v : List ℕ). v ∷ class ∷ third ∷ last ∷ []) (text_is verb (codes "static") is)) h

  second : (b : Bool) → bytes_eq verb (codes "method") ≡ b
      → cond b (method_line false class third last) (cond (bytes_eq verb (codes "static")) (method_line true class third last) (cond (bytes_eq verb (codes "field")) (field_line class third last) (Err NoForm))) ≡ Ok d → EncodesLine (verb ∷ class ∷ third ∷ last ∷ []) d
  second false is h = third_form (bytes_eq verb (codes "static")) refl h
  second true is h = method_line_found (verb ∷ class ∷ third ∷ last ∷ []) false class third last d (ap (λ (v : List ℕ). v ∷ class ∷ third ∷ last ∷ []) (text_is verb (codes "method") is)) h

  first : (b : Bool) → (bytes_eq verb (codes "class") && bytes_eq third (codes "extends")) ≡ b
      → cond b (class_line class last []) (cond (bytes_eq verb (codes "method")) (method_line false class third last) (cond (bytes_eq verb (codes "static")) (method_line true class third last) (cond (bytes_eq verb (codes "field")) (field_line class third last) (Err NoForm)))) ≡ Ok d
      → EncodesLine (verb ∷ class ∷ third ∷ last ∷ []) d
  first false is h = second (bytes_eq verb (codes "method")) refl h
  first true is h =
      let p = both (bytes_eq verb (codes "class")) (bytes_eq third (codes "extends")) is in
      class_line_found (verb ∷ class ∷ third ∷ last ∷ []) [] [] class last d (ap (λ (v : List ℕ). v ∷ class ∷ third ∷ last ∷ []) (text_is verb (codes "class") p.0) ∙ ap (λ (v : List ℕ). codes "class" ∷ class ∷ v ∷ last ∷ []) (text_is third (codes "extends") p.1)) refl h

over_is : (list : List ℕ) (interfaces : List (List ℕ)) → pieces 44 list ≡ interfaces → (interfaces ≡ [] → ⊥) → EncodesAbove (codes "implements" ∷ list ∷ []) interfaces
over_is list [] is some = absurd (some refl)
over_is list (i ∷ interfaces) is some = (list, (refl, is))

some_piece : (byte : ℕ) (list : List ℕ) → pieces byte list ≡ [] → ⊥
some_piece byte [] h = absurd cc
some_piece byte (b ∷ bytes) h = by (eqb b byte) (pieces byte bytes) h where
  by : (t : Bool) (ps : List (List ℕ)) → cond t ([] ∷ ps) (onto_first b ps) ≡ [] → ⊥
  by true ps h = absurd cc
  by false [] h = absurd cc
  by false (p ∷ ps) h = absurd cc

six_found : (verb class extends parent implements list : List ℕ) (d : Declaration) → six_words verb class extends parent implements list ≡ Ok d → EncodesLine (verb ∷ class ∷ extends ∷ parent ∷ implements ∷ list ∷ []) d
unfolding six_words
six_found verb class extends parent implements list d h = by (bytes_eq verb (codes "class") && (bytes_eq extends (codes "extends") && bytes_eq implements (codes "implements"))) refl h where
  by : (b : Bool) → (bytes_eq verb (codes "class") && (bytes_eq extends (codes "extends") && bytes_eq implements (codes "implements"))) ≡ b
      → cond b (class_line class parent (pieces 44 list)) (Err NoForm) ≡ Ok d → EncodesLine (verb ∷ class ∷ extends ∷ parent ∷ implements ∷ list ∷ []) d
  by false is h = absurd cc
  by true is h =
      let p = both (bytes_eq verb (codes "class")) (bytes_eq extends (codes "extends") && bytes_eq implements (codes "implements")) is in
      let q = both (bytes_eq extends (codes "extends")) (bytes_eq implements (codes "implements")) p.1 in
      let encoded : (verb ∷ class ∷ extends ∷ parent ∷ implements ∷ list ∷ []) ≡ codes "class" ∷ class ∷ codes "extends" ∷ parent ∷ codes "implements" ∷ list ∷ [] =
      ap (λ (v : List ℕ). v ∷ class ∷ extends ∷ parent ∷ implements ∷ list ∷ []) (text_is verb (codes "class") p.0)
      ∙ ap (λ (v : List ℕ). codes "class" ∷ class ∷ v ∷ parent ∷ implements ∷ list ∷ []) (text_is extends (codes "extends") q.0)
      ∙ ap (λ (v : List ℕ). codes "class" ∷ class ∷ codes "extends" ∷ parent ∷ v ∷ list ∷ []) (text_is implements (codes "implements") q.1) in
      class_line_found (verb ∷ class ∷ extends ∷ parent ∷ implements ∷ list ∷ []) (codes "implements" ∷ list ∷ []) (pieces 44 list) class parent d encoded (over_is list (pieces 44 list) refl (some_piece 44 list)) h

pub line_found : (words : List (List ℕ)) (d : Declaration) → form_of words ≡ Ok d → EncodesLine words d
unfolding form_of
line_found [] d h = absurd (none_declared d h)
line_found (a ∷ []) d h = absurd (none_declared d h)
line_found (a ∷ b ∷ []) d h = two_found a b d h
line_found (a ∷ b ∷ c ∷ []) d h = absurd (none_declared d h)
line_found (a ∷ b ∷ c ∷ e ∷ []) d h = four_found a b c e d h
line_found (a ∷ b ∷ c ∷ e ∷ f ∷ []) d h = absurd (none_declared d h)
line_found (a ∷ b ∷ c ∷ e ∷ f ∷ g ∷ []) d h = six_found a b c e f g d h
line_found (a ∷ b ∷ c ∷ e ∷ f ∷ g ∷ i ∷ words) d h = absurd (none_declared d h)

-- ---- again

kind_again : (is_interface : Bool) (words : List (List ℕ)) (name parent : List ℕ) (interfaces : List (List ℕ))
    → EncodesKind is_interface words (record { name = name; parent = parent; interfaces = interfaces; is_interface = is_interface })
    → is_class_name name ≡ true → is_class_name parent ≡ true → are_class_names interfaces ≡ true
    → form_of words ≡ Ok (Class (record { name = name; parent = parent; interfaces = interfaces; is_interface = is_interface }))
unfolding form_of two_words four_words six_words class_line
kind_again true words name parent interfaces s named below over =
    rw (s.encoded, named, s.below, s.alone) refl
kind_again false words name parent [] s named below over =
    rw (s.encoded, s.interfaces, named, below) refl
kind_again false words name parent (i ∷ interfaces) s named below over =
    let list = s.interfaces.0 in
    rw (s.encoded, s.interfaces.1.0, s.interfaces.1.1, named, below, over) refl

pub line_again : (words : List (List ℕ)) (d : Declaration) → EncodesLine words d → form_of words ≡ Ok d
unfolding form_of four_words method_line field_line
line_again words (Class c) s = kind_again c.is_interface words c.name c.parent c.interfaces s.encoded s.name s.parent s.names
line_again words (Method m types) s = by m.is_static m.id s.0 s.1 where
  by : (is_static : Bool) (id : MethodId) → EncodesMember words (verb_of is_static) id → EncodesDescriptor id.desc types → form_of words ≡ Ok (Method (record { id = id; is_static = is_static }) types)
  by true id line desc = rw (line.encoded, line.named, method_again id.desc types desc) refl
  by false id line desc = rw (line.encoded, line.named, method_again id.desc types desc) refl
line_again words (Field id class) s = rw (s.0.encoded, s.0.named, class_descriptor_again id.desc class s.1) refl
