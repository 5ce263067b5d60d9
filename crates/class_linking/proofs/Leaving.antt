-- How far below a class that is not given a given one stands.
use Rattle.std.proofs.Common.{◌≡◌, ℕ, zero, suc, ◌+◌, ◌≤◌, ◌<◌, Bool, true, false, cond, List, length, Option, Some, None, refl, sym, ap, subst, ◌∙◌, arith}
use Rattle.std.specs.Prelude.{bytes_eq, nat_lt, IfSome, Vec}
use Rattle.std.specs.Option.{option_map_or, option_or}
use Rattle.std.specs.BTreeMap.{BTreeMap}
use Rattle.std.specs.Global.{Global}
use Rattle.std.proofs.lemmas.Bool.{false≢true}
use Rattle.std.proofs.lemmas.Bool.Decides.{nat_tests}
use Rattle.api_listing.specs.declared.types.ListedClass.{ListedClass}
use Rattle.api_listing.specs.Nearest.{class_named}
use Rattle.bytecode_model.specs.Conditions.{stays_within, runs_in_circle}
use Rattle.bytecode_model.specs.ByName.{noted}
use Rattle.class_linking.specs.Heights.{LeavesAfter, AreHeights}
use Rattle.bytecode_model.proofs.Lists.{some_is}
use Rattle.bytecode_model.proofs.Placing.{test_cases, same_name}

-- a way that stays long enough stays as long as any shorter one
stays_less : (n m : ℕ) (heads : List ListedClass) (name : List ℕ) → m ≤ n → stays_within n heads name ≡ true → stays_within m heads name ≡ true
stays_less n zero heads name le e = refl
stays_less zero (suc m) heads name le e = absurd (omega arith)
stays_less (suc n) (suc m) heads name le e = by (class_named heads name) (λ parent. stays_less n m heads parent (omega arith)) e where
  by : (o : Option ListedClass) → ((parent : List ℕ) → stays_within n heads parent ≡ true → stays_within m heads parent ≡ true)
      → option_map_or (λ (c : ListedClass). stays_within n heads c.parent) o false ≡ true → option_map_or (λ (c : ListedClass). stays_within m heads c.parent) o false ≡ true
  by None less e = e
  by (Some c) less e = less c.parent e

-- a way that leaves the given classes runs in no circle, as far as there are so many of them
pub circle_is : (heads : List ListedClass) (name : List ℕ) (h : ℕ) → LeavesAfter heads name h → nat_lt (length heads) h ≡ runs_in_circle heads name
circle_is heads name h leaves =
    test_cases (runs_in_circle heads name) (λ b. nat_lt (length heads) h ≡ b)
    (λ e. test_cases (nat_lt (length heads) h) (λ b. b ≡ true) (λ t. refl)
    (λ f.
    let le : h ≤ length heads = grind (arith, nat_tests) in
    absurd (false≢true (sym leaves.1 ∙ stays_less (suc (length heads)) (h + 1) heads name (omega (arith, le)) e))))
    (λ e. test_cases (nat_lt (length heads) h) (λ b. b ≡ false)
    (λ t.
    let lt : length heads < h = grind (arith, nat_tests) in
    absurd (false≢true (sym e ∙ stays_less h (suc (length heads)) heads name (omega (arith, lt)) leaves.0)))
    (λ f. refl))

-- the way from a class, gone some steps
abbrev pub Gone : List ListedClass → List ℕ → List ℕ → ℕ → Type 0
Gone heads name at steps = (m : ℕ) → stays_within (steps + m) heads name ≡ stays_within m heads at

one_up : (n : ℕ) (heads : List ListedClass) (at : List ℕ) (c : ListedClass) → class_named heads at ≡ Some c → stays_within (suc n) heads at ≡ stays_within n heads c.parent
one_up n heads at c some = ap (λ (o : Option ListedClass). option_map_or (λ (x : ListedClass). stays_within n heads x.parent) o false) some

-- one class further up
pub gone_up : (heads : List ListedClass) (name at : List ℕ) (steps : ℕ) (c : ListedClass) → class_named heads at ≡ Some c → Gone heads name at steps → Gone heads name c.parent (steps + 1)
gone_up heads name at steps c some gone m =
    let n : steps + 1 + m ≡ steps + suc m = omega arith in
    ap (λ (k : ℕ). stays_within k heads name) n ∙ gone (suc m) ∙ one_up m heads at c some

-- the way comes to a class whose height is known
pub leaves_known : (heads : List ListedClass) (name at : List ℕ) (steps h : ℕ) → LeavesAfter heads at h → Gone heads name at steps → LeavesAfter heads name (steps + h)
leaves_known heads name at steps h leaves gone =
    let n : steps + h + 1 ≡ steps + (h + 1) = omega arith in
    (gone h ∙ leaves.0, ap (λ (k : ℕ). stays_within k heads name) n ∙ gone (h + 1) ∙ leaves.1)

-- the class above leaves one sooner
pub leaves_sooner : (heads : List ListedClass) (at : List ℕ) (h less : ℕ) (c : ListedClass) → class_named heads at ≡ Some c → h ≡ less + 1 → LeavesAfter heads at h → LeavesAfter heads c.parent less
leaves_sooner heads at h less c some is leaves =
    let n : h ≡ suc less = omega (arith, is) in
    let m : h + 1 ≡ suc (less + 1) = omega (arith, is) in (
      sym (one_up less heads at c some) ∙ ap (λ (k : ℕ). stays_within k heads at) (sym n) ∙ leaves.0,
      sym (one_up (less + 1) heads at c some) ∙ ap (λ (k : ℕ). stays_within k heads at) (sym m) ∙ leaves.1,
    )

-- one height more
pub with_height : (heads : List ListedClass) (old new : BTreeMap (Vec ℕ Global) ℕ) (name : List ℕ) (h : ℕ) → AreHeights old heads → LeavesAfter heads name h
    → ((q : List ℕ) → noted new q ≡ option_or (noted old q) (cond (bytes_eq name q) (Some h) None)) → AreHeights new heads
with_height heads old new name h known leaves puts q n found = by (noted old q) (bytes_eq name q) refl refl (sym (puts q) ∙ found) where
  by : (o : Option ℕ) (b : Bool) → noted old q ≡ o → bytes_eq name q ≡ b → option_or o (cond b (Some h) None) ≡ Some n → LeavesAfter heads q n
  by (Some m) b was same e =
      let is : m ≡ n = some_is m n e in
      known q n (was ∙ ap Some is)
  by None true was same e =
      let is : h ≡ n = some_is h n e in
      subst (λ (k : ℕ). LeavesAfter heads q k) is (subst (λ (x : List ℕ). LeavesAfter heads x h) (same_name name q same) leaves)
  by None false was same e = absurd cc

-- the sum of the steps and a height
pub sum_leaves : (heads : List ListedClass) (name : List ℕ) (steps h : ℕ) (r : Option (ℕ × ℕ)) → IfSome r (λ found. (found.0 ≡ steps) × (found.1 ≡ steps + h)) → LeavesAfter heads name (steps + h)
    → IfSome r (λ found. LeavesAfter heads name found.1)
sum_leaves heads name steps h None is leaves = tt
sum_leaves heads name steps h (Some found) is leaves = subst (λ (n : ℕ). LeavesAfter heads name n) (sym is.1) leaves
