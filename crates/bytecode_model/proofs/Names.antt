-- Names of methods and fields in their order.
use Rattle.std.proofs.Common.{◌≡◌, ℕ, true, List, ap, refl, ◌∙◌, ap₂, ◌&&◌}
use Rattle.std.specs.Prelude.{bytes_eq}
use Rattle.std.specs.declared.cmp.Ordering.{Ordering}
use Rattle.std.specs.declared.cmp.Ordering.TheVariants.{Less, Equal, Greater}
use Rattle.std.specs.Ordering.{is_eq, nat_cmp, ordering_then}
use Rattle.std.specs.Cmp.Lexicographic.{slice_cmp}
use Rattle.std.proofs.lemmas.Map.Text.{is_eq-slice_cmp}
use Rattle.std.proofs.lemmas.Slice.Eq.{bytes_eq-Decides}
use Rattle.std.proofs.lemmas.Bool.Decides.{Decides-and}
use Rattle.mon_base.specs.declared.method.MethodId.{MethodId}
use Rattle.api_listing.specs.BuiltIn.{is_method}
use Rattle.api_listing.specs.Seen.{id_cmp}

then_is : (o p : Ordering) → is_eq (ordering_then o p) ≡ (is_eq o && is_eq p)
then_is Less p = refl
then_is Equal p = refl
then_is Greater p = refl

id_is : (a b : MethodId) → a.class ≡ b.class → a.name ≡ b.name → a.desc ≡ b.desc → a ≡ b
id_is a b c n d =
    let made : List ℕ → List ℕ → List ℕ → MethodId = λ x y z. record { class = x; name = y; desc = z } in
    ap (λ x. made x a.name a.desc) c ∙ ap (λ y. made b.class y a.desc) n ∙ ap (λ z. made b.class b.name z) d

-- methods are equal in the order exactly where they are one
pub id_cmp-is : (a b : MethodId) → is_eq (id_cmp a b) ≡ is_method b.class b.name b.desc a
id_cmp-is a b =
    then_is (slice_cmp nat_cmp a.class b.class) (ordering_then (slice_cmp nat_cmp a.name b.name) (slice_cmp nat_cmp a.desc b.desc))
    ∙ ap₂ ◌&&◌ (is_eq-slice_cmp a.class b.class)
    (then_is (slice_cmp nat_cmp a.name b.name) (slice_cmp nat_cmp a.desc b.desc) ∙ ap₂ ◌&&◌ (is_eq-slice_cmp a.name b.name) (is_eq-slice_cmp a.desc b.desc))

pub same_id : (a b : MethodId) → is_method b.class b.name b.desc a ≡ true → a ≡ b
same_id a b t =
    let inner = Decides-and (bytes_eq a.name b.name) (bytes_eq a.desc b.desc) (bytes_eq-Decides a.name b.name) (bytes_eq-Decides a.desc b.desc) in
    let all = (Decides-and (bytes_eq a.class b.class) (bytes_eq a.name b.name && bytes_eq a.desc b.desc) (bytes_eq-Decides a.class b.class) inner).0 t in
    id_is a b all.0 all.1.0 all.1.1
