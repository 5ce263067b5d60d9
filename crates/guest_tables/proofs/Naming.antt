-- Maps by names and descriptors.
use Rattle.std.proofs.Math.Seq.{take-suc}
use Rattle.std.proofs.Common.{◌≡◌, ℕ, zero, suc, ◌+◌, ◌<◌, add-one, get_or, length, take, ◌&&◌, cond, List, [], ◌∷◌, ◌++◌, Option, Some, None, refl, sym, ap, ◌∙◌}
use Rattle.std.specs.Prelude.{bytes_eq, Vec, slice_get}
use Rattle.std.specs.declared.alloc.Global.{Global}
use Rattle.std.specs.Option.{option_or, option_and_then}
use Rattle.std.specs.BTreeMap.{BTreeMap}
use Rattle.bytecode_model.specs.declared.program.LinkedClass.{LinkedClass}
use Rattle.bytecode_model.proofs.Lists.{or_none}
use Rattle.bytecode_model.proofs.Placing.{test_cases, same_name}
use Rattle.guest_model.specs.Finding.{declared_in}
use Rattle.guest_tables.specs.Methods.{method_in, Methods, HasMethods, AreMethods}
use Rattle.bytecode_model.specs.ByName.{noted}
use Rattle.bytecode_model.proofs.ByName.{empty_noted}

pub method_added : (old taken new : Methods) (name desc : List ℕ) (index : ℕ) (before after : BTreeMap (Vec ℕ Global) ℕ)
    → ((d : List ℕ) → noted before d ≡ method_in old name d)
    → ((d : List ℕ) → noted after d ≡ option_or (noted before d) (cond (bytes_eq desc d) (Some index) None))
    → ((q : List ℕ) → noted taken q ≡ cond (bytes_eq name q) None (noted old q))
    → ((q : List ℕ) → noted new q ≡ cond (bytes_eq name q) (Some after) (noted taken q))
    → (n d : List ℕ) → method_in new n d ≡ option_or (method_in old n d) (cond (bytes_eq name n && bytes_eq desc d) (Some index) None)
method_added old taken new name desc index before after was more takes puts n d =
    test_cases (bytes_eq name n) (λ b. method_in new n d ≡ option_or (method_in old n d) (cond (b && bytes_eq desc d) (Some index) None))
    (λ e.
    ap (option_and_then (λ (m : BTreeMap (Vec ℕ Global) ℕ). noted m d)) (puts n ∙ ap (λ b. cond b (Some after) (noted taken n)) e) ∙ more d
    ∙ ap (λ (o : Option ℕ). option_or o (cond (bytes_eq desc d) (Some index) None)) (was d ∙ ap (λ (q : List ℕ). method_in old q d) (same_name name n e)))
    (λ e.
    ap (option_and_then (λ (m : BTreeMap (Vec ℕ Global) ℕ). noted m d))
    (puts n ∙ ap (λ b. cond b (Some after) (noted taken n)) e ∙ takes n ∙ ap (λ b. cond b None (noted old n)) e)
    ∙ sym (or_none (method_in old n d)))

pub no_method : (table : Methods) (n d : List ℕ) (o : Option ℕ) → table.entries ≡ [] → option_or (method_in table n d) o ≡ o
no_method table n d o empty = ap (λ (p : Option (BTreeMap (Vec ℕ Global) ℕ)). option_or (option_and_then (λ (m : BTreeMap (Vec ℕ Global) ℕ). noted m d) p) o) (empty_noted table n empty)

-- ---- a map of each class

pub methods_pushed : (tables : List Methods) (classes : List LinkedClass) (table : Methods) (class : LinkedClass) → AreMethods tables classes → HasMethods table class.methods
    → AreMethods (tables ++ table ∷ []) (classes ++ class ∷ [])
methods_pushed [] [] table class are has = (has, tt)
methods_pushed [] (c ∷ classes) table class are has = absurd are
methods_pushed (t ∷ tables) [] table class are has = absurd are
methods_pushed (t ∷ tables) (c ∷ classes) table class are has = (are.0, methods_pushed tables classes table class are.1 has)

pub methods_at : (tables : List Methods) (classes : List LinkedClass) (k : ℕ) (name desc : List ℕ) → AreMethods tables classes
    → option_and_then (λ (t : Methods). method_in t name desc) (slice_get tables k) ≡ option_and_then (declared_in name desc) (slice_get classes k)
methods_at [] [] k name desc are = refl
methods_at [] (c ∷ classes) k name desc are = absurd are
methods_at (t ∷ tables) [] k name desc are = absurd are
methods_at (t ∷ tables) (c ∷ classes) zero name desc are = are.0 name desc
methods_at (t ∷ tables) (c ∷ classes) (suc k) name desc are = methods_at tables classes k name desc are.1

-- one class more
pub methods_more : (tables new : List Methods) (classes items : List LinkedClass) (i : ℕ) (table : Methods) (class : LinkedClass) → items ≡ classes → i < length items
    → class ≡ get_or items i class → new ≡ tables ++ table ∷ [] → HasMethods table class.methods → AreMethods tables (take i classes) → AreMethods new (take (i + 1) classes)
methods_more tables new classes items i table class same within at is has are =
    let less : i < length classes = rw (← same) within in
    let here : class ≡ get_or classes i class = rw (← same) at in
    let front : take (i + 1) classes ≡ take i classes ++ class ∷ [] =
    ap (λ k. take k classes) (add-one i) ∙ take-suc classes i class less ∙ ap (λ (x : LinkedClass). take i classes ++ x ∷ []) (sym here) in
    rw (is, front) (methods_pushed tables (take i classes) table class are has)
