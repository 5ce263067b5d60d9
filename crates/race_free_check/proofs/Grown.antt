-- One step of a loop: what is found of one item more, and what is left after the first item.
use Rattle.std.proofs.Common.{◌≡◌, ℕ, ◌+◌, ◌-◌, ◌*◌, ◌<◌, ◌≤◌, min, ℤ, pos, ◌+ℤ◌, List, [], ◌∷◌, ◌++◌, length, drop, take, get_or, map, Option, refl, sym, ap, subst, ◌∙◌, arith}
use Rattle.std.specs.Prelude.{◌-ℤ◌, filter, flat_map}
use Rattle.std.specs.List.{cons_option, enumerate_from, filter_map}
use Rattle.std.proofs.lemmas.List.{append-nil, append_assoc, take_more}
use Rattle.std.proofs.lemmas.List.Concat.{flat_map-append}
use Rattle.std.proofs.lemmas.List.Elements.{filter-append, filter_map-append}
use Rattle.conspec_automaton.proofs.Ranges.{front_at}
use Rattle.conspec_automaton.specs.Points.{around, near, size_of}
use Rattle.conspec_automaton.specs.Range.{is_between}
use Rattle.conspec_automaton.specs.Trying.{capped, most}
use Rattle.race_free_check.specs.Small.{AreSmall, IsSmall}
use Rattle.race_free_check.proofs.Bounded.{small_pushed}
use Rattle.race_free_check.proofs.Sizes.{count_more}

-- ---- one item more

pub kept_more : {X Y : Type 0} (h : X → Option Y) (xs : List X) (i : ℕ) (d : X) (before found now : List Y) (item : Option Y) → i < length xs → found ≡ before ++ filter_map h (take i xs) → now ≡ found ++ cons_option item [] → item ≡ h (get_or xs i d)
    → now ≡ before ++ filter_map h (take (i + 1) xs)
kept_more h xs i d before found now item below e f is =
    f ∙ ap (λ (ys : List _). ys ++ cons_option item []) e
    ∙ ap (λ (o : Option _). (before ++ filter_map h (take i xs)) ++ cons_option o []) is
    ∙ append_assoc before (filter_map h (take i xs)) (cons_option (h (get_or xs i d)) [])
    ∙ ap (λ (ys : List _). before ++ ys) (sym (ap (filter_map h) (take_more xs i d below) ∙ filter_map-append h (take i xs) (get_or xs i d ∷ [])))

joined_more : {X Y : Type 0} (f : X → List Y) (xs : List X) (i : ℕ) (d : X) → i < length xs → flat_map f (take (i + 1) xs) ≡ flat_map f (take i xs) ++ f (get_or xs i d)
joined_more f xs i d below =
    ap (flat_map f) (take_more xs i d below)
    ∙ flat_map-append f (take i xs) (get_or xs i d ∷ [])
    ∙ ap (λ (ys : List _). flat_map f (take i xs) ++ ys) (append-nil (f (get_or xs i d)))

pub listed_more : {X Y : Type 0} (f : X → List Y) (xs : List X) (i : ℕ) (d : X) (before found now ys : List Y) → i < length xs → found ≡ before ++ flat_map f (take i xs) → now ≡ found ++ ys → ys ≡ f (get_or xs i d) → now ≡ before ++ flat_map f (take (i + 1) xs)
listed_more f xs i d before found now ys below e g is =
    g ∙ ap (λ (zs : List _). zs ++ ys) e
    ∙ ap (λ (zs : List _). (before ++ flat_map f (take i xs)) ++ zs) is
    ∙ append_assoc before (flat_map f (take i xs)) (f (get_or xs i d))
    ∙ ap (λ (zs : List _). before ++ zs) (sym (joined_more f xs i d below))

-- the same of what is kept of a branch's atoms or updates
pub branch_more : {X Y Z : Type 0} (h : Y → Option Z) (f : X → List Y) (xs items : List X) (i : ℕ) (x : X) (before found now : List Z) (ys : List Y) → items ≡ xs → i < length items → x ≡ get_or items i x
    → found ≡ before ++ filter_map h (flat_map f (take i xs)) → now ≡ found ++ filter_map h ys → ys ≡ f x → now ≡ before ++ filter_map h (flat_map f (take (i + 1) xs))
branch_more h f xs items i x before found now ys same below at e g is =
    let inside = subst (λ (zs : List _). i < length zs) same below in
    let here = at ∙ ap (λ (zs : List _). get_or zs i x) same in
    g ∙ ap (λ (zs : List _). zs ++ filter_map h ys) e
    ∙ ap (λ (zs : List _). (before ++ filter_map h (flat_map f (take i xs))) ++ filter_map h zs) (is ∙ ap f here)
    ∙ append_assoc before (filter_map h (flat_map f (take i xs))) (filter_map h (f (get_or xs i x)))
    ∙ ap (λ (zs : List _). before ++ zs) (sym (ap (filter_map h) (joined_more f xs i x inside) ∙ filter_map-append h (flat_map f (take i xs)) (f (get_or xs i x))))

map_pushed : {Y : Type 0} (f : ℤ → Y) (ns : List ℤ) (n : ℤ) → map f (ns ++ n ∷ []) ≡ map f ns ++ f n ∷ []
map_pushed f [] n = refl
map_pushed f (m ∷ ns) n = ap (λ (zs : List _). f m ∷ zs) (map_pushed f ns n)

pub mapped_more : {Y : Type 0} (f : ℤ → Y) (ns : List ℤ) (i : ℕ) (before found now : List Y) (n : Y) → i < length ns → found ≡ before ++ map f (take i ns) → now ≡ found ++ n ∷ [] → n ≡ f (get_or ns i (pos 0)) → now ≡ before ++ map f (take (i + 1) ns)
mapped_more f ns i before found now n below e g is =
    g ∙ ap (λ (zs : List _). zs ++ n ∷ []) e
    ∙ ap (λ (m : _). (before ++ map f (take i ns)) ++ m ∷ []) is
    ∙ append_assoc before (map f (take i ns)) (f (get_or ns i (pos 0)) ∷ [])
    ∙ ap (λ (zs : List _). before ++ zs) (sym (ap (map f) (take_more ns i (pos 0) below) ∙ map_pushed f (take i ns) (get_or ns i (pos 0))))

pub small_more : (bound : ℕ) (found now : List ℤ) (n : ℤ) → AreSmall bound found → now ≡ found ++ n ∷ [] → IsSmall bound n → AreSmall bound now
small_more bound found now n all e small = subst (λ (ns : List ℤ). AreSmall bound ns) (sym e) (small_pushed bound found n all small)

-- the numbers beside one more, as far as they lie between two others
module _ (low high : ℤ) where
  abbrev kept : List ℤ → List ℤ
  kept ms = filter (is_between low high) ms

  pub near_more : (ns : List ℤ) (i : ℕ) (found first second third : List ℤ) (n less more : ℤ) → i < length ns → n ≡ get_or ns i (pos 0) → less ≡ get_or ns i (pos 0) -ℤ pos 1 → more ≡ get_or ns i (pos 0) +ℤ pos 1
      → found ≡ near low high (take i ns) → first ≡ found ++ kept (less ∷ []) → second ≡ first ++ kept (n ∷ []) → third ≡ second ++ kept (more ∷ []) → third ≡ near low high (take (i + 1) ns)
  near_more ns i found first second third n less more below is under over e f g h =
      let m = get_or ns i (pos 0) in
      h ∙ ap (λ (zs : List ℤ). zs ++ kept (more ∷ [])) (g ∙ ap (λ (zs : List ℤ). zs ++ kept (n ∷ [])) f)
      ∙ append_assoc (found ++ kept (less ∷ [])) (kept (n ∷ [])) (kept (more ∷ []))
      ∙ append_assoc found (kept (less ∷ [])) (kept (n ∷ []) ++ kept (more ∷ []))
      ∙ ap (λ (zs : List ℤ). found ++ (kept (less ∷ []) ++ zs)) (sym (filter-append (is_between low high) (n ∷ []) (more ∷ [])))
      ∙ ap (λ (zs : List ℤ). found ++ zs) (sym (filter-append (is_between low high) (less ∷ []) (n ∷ more ∷ [])))
      ∙ ap (λ (zs : List ℤ). zs ++ kept (less ∷ n ∷ more ∷ [])) e
      ∙ sym (filter-append (is_between low high) (flat_map around (take i ns)) (less ∷ n ∷ more ∷ []))
      ∙ ap (λ (k : ℤ). kept (flat_map around (take i ns) ++ k ∷ n ∷ more ∷ [])) under
      ∙ ap (λ (k : ℤ). kept (flat_map around (take i ns) ++ (m -ℤ pos 1) ∷ k ∷ more ∷ [])) is
      ∙ ap (λ (k : ℤ). kept (flat_map around (take i ns) ++ (m -ℤ pos 1) ∷ m ∷ k ∷ [])) over
      ∙ ap kept (sym (joined_more around ns i (pos 0) below))

-- ---- what is left after the first item

pub front_is : {X : Type 0} (left : List X) (x d : X) → 1 ≤ length left → x ≡ get_or left 0 d → left ≡ x ∷ take (length left - 1) (drop 1 left)
front_is left x d some is = front_at left d some ∙ ap (λ (y : _). y ∷ take (length left - 1) (drop 1 left)) (sym is)

-- the items left, each with its place, when the first goes to what is found
pub placed_more : {X Y : Type 0} (f : ℕ × X → Y) (place : ℕ) (left rest : List X) (x : X) (found now all : List Y) (y : Y) → left ≡ x ∷ rest → found ++ map f (enumerate_from place left) ≡ all → now ≡ found ++ y ∷ [] → y ≡ f (place, x)
    → now ++ map f (enumerate_from (place + 1) rest) ≡ all
placed_more f place left rest x found now all y front e g is =
    ap (λ (ys : List _). ys ++ map f (enumerate_from (place + 1) rest)) (g ∙ ap (λ (z : _). found ++ z ∷ []) is)
    ∙ append_assoc found (f (place, x) ∷ []) (map f (enumerate_from (place + 1) rest))
    ∙ ap (λ (xs : List _). found ++ map f (enumerate_from place xs)) (sym front)
    ∙ e

pub one_less : {X : Type 0} (place : ℕ) (left rest : List X) (x : X) (n : ℕ) → left ≡ x ∷ rest → place + length left ≡ n → place + 1 + length rest ≡ n
one_less place left rest x n front e =
    let same : length left ≡ length (x ∷ rest) = ap length front in
    omega arith

pub sizes_more : {X : Type 0} (left rest : List (List X)) (x : List X) (count size now n : ℕ) → left ≡ x ∷ rest → capped (count * size_of left) ≡ n → size ≡ length x → now ≡ min (count * size) most → capped (now * size_of rest) ≡ n
sizes_more left rest x count size now n front e is g =
    ap (λ (k : ℕ). capped (k * size_of rest)) (g ∙ ap (λ (k : ℕ). min (count * k) most) is)
    ∙ count_more count (length x) (size_of rest) n (ap (λ (xs : List (List _)). capped (count * size_of xs)) (sym front) ∙ e)

pub placed_sizes_more : {X Y : Type 0} (f : ℕ × X → List Y) (place : ℕ) (left rest : List X) (x : X) (count size now n : ℕ) → left ≡ x ∷ rest → capped (count * size_of (map f (enumerate_from place left))) ≡ n → size ≡ length (f (place, x)) → now ≡ min (count * size) most
    → capped (now * size_of (map f (enumerate_from (place + 1) rest))) ≡ n
placed_sizes_more f place left rest x count size now n front e is g =
    sizes_more (map f (enumerate_from place left)) (map f (enumerate_from (place + 1) rest)) (f (place, x)) count size now n (ap (λ (xs : List _). map f (enumerate_from place xs)) front) e is g
