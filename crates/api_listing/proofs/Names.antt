-- Tests of names tell whether they are the same.
use Rattle.std.proofs.Common.{◌≡◌, ℕ, true, List, refl, ◌∙◌, ap₂, ◌&&◌}
use Rattle.std.specs.Prelude.{bytes_eq}
use Rattle.std.specs.declared.cmp.Ordering.{Ordering}
use Rattle.std.specs.declared.cmp.Ordering.TheVariants.{Less, Equal, Greater}
use Rattle.std.specs.Ordering.{is_eq, nat_cmp, ordering_then}
use Rattle.std.specs.Cmp.Lexicographic.{slice_cmp}
use Rattle.std.proofs.lemmas.Map.Text.{is_eq-slice_cmp}
use Rattle.std.proofs.lemmas.Slice.Eq.{bytes_eq-Decides}
use Rattle.std.proofs.lemmas.Bool.Decides.{Decides-and}
use Rattle.mon_base.specs.declared.method.MethodId.{MethodId}
use Rattle.api_listing.specs.BuiltIn.{is_method}
use Rattle.api_listing.specs.Seen.{id_cmp}

then_is : (o p : Ordering) → is_eq (ordering_then o p) ≡ (is_eq o && is_eq p)
then_is Less p = refl
then_is Equal p = refl
then_is Greater p = refl

pub method_is : (class name desc : List ℕ) (id : MethodId) → is_method class name desc id ≡ true → (id.class ≡ class) × (id.name ≡ name) × (id.desc ≡ desc)
method_is class name desc id t =
    let inner = Decides-and (bytes_eq id.name name) (bytes_eq id.desc desc) (bytes_eq-Decides id.name name) (bytes_eq-Decides id.desc desc) in
    let all = (Decides-and (bytes_eq id.class class) (bytes_eq id.name name && bytes_eq id.desc desc) (bytes_eq-Decides id.class class) inner).0 t in
    (all.0, all.1.0, all.1.1)

pub is_method_of : (class name desc : List ℕ) (id : MethodId) → id.class ≡ class → id.name ≡ name → id.desc ≡ desc → is_method class name desc id ≡ true
is_method_of class name desc id c n d =
    let inner = Decides-and (bytes_eq id.name name) (bytes_eq id.desc desc) (bytes_eq-Decides id.name name) (bytes_eq-Decides id.desc desc) in
    (Decides-and (bytes_eq id.class class) (bytes_eq id.name name && bytes_eq id.desc desc) (bytes_eq-Decides id.class class) inner).1 (c, (n, d))

-- methods are equal in the order exactly where they are one
pub id_cmp-is : (a b : MethodId) → is_eq (id_cmp a b) ≡ is_method b.class b.name b.desc a
id_cmp-is a b =
    then_is (slice_cmp nat_cmp a.class b.class) (ordering_then (slice_cmp nat_cmp a.name b.name) (slice_cmp nat_cmp a.desc b.desc))
    ∙ ap₂ ◌&&◌ (is_eq-slice_cmp a.class b.class)
    (then_is (slice_cmp nat_cmp a.name b.name) (slice_cmp nat_cmp a.desc b.desc) ∙ ap₂ ◌&&◌ (is_eq-slice_cmp a.name b.name) (is_eq-slice_cmp a.desc b.desc))
