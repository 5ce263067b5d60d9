-- The classes of a generated bundle meet the conditions of classes.
use Rattle.std.proofs.Common.{◌≡◌, ℕ, zero, suc, ◌+◌, ◌<◌, ◌≤◌, Bool, true, false, not, ◌||◌, List, ◌∷◌, ◌++◌, Ok, refl, ap, arith}
use Rattle.std.specs.Prelude.{bytes_eq}
use Rattle.std.specs.List.{list_any}
use Rattle.std.proofs.lemmas.Bool.{or_from}
use Rattle.class_codec.specs.declared.tree.Const.{Const}
use Rattle.class_codec.specs.Pool.{class_name_at, utf8_at}
use Rattle.api_listing.specs.declared.types.ListedClass.{ListedClass}
use Rattle.api_listing.specs.BuiltIn.{class_rows}
use Rattle.api_listing.specs.Listing.{is_known, own_class}
use Rattle.bytecode_model.specs.declared.program.Side.TheVariants.{Original}
use Rattle.bytecode_model.specs.Conditions.{holds, is_free, names_own_class}
use Rattle.class_linking.specs.declared.fault.LinkFault.TheVariants as faults
use Rattle.class_linking.specs.ClassConditions.{class_linked, classes_linked}
use Rattle.bundle_gen.specs.Draws.{state_after}
use Rattle.bundle_gen.specs.Generated.{classes_from, main_class, main_name, named, named_from, thread_class, thread_name}
use Rattle.bundle_gen.specs.Linked.{net_listing}
use Rattle.bundle_linking.proofs.Heads.{files_from, heads_from, main_has_supers, main_head, thread_has_supers, thread_head}
use Rattle.bundle_linking.proofs.Lists.{four_tests, then_ok}
use Rattle.bundle_linking.proofs.Names.{thread_is_free, thread_is_name, threads_differ}

-- ---- constants name nothing of this tool's own class

-- One text that is free of the name, before others that are.
free_first : (text : Bool) → text ≡ false → not (text || false) ≡ true
free_first text e = ap (λ (b : Bool). not (b || false)) e

-- The class of a thread is free of it.
thread_free : (index state sites : ℕ) → index < 200 → is_free Original (thread_class index state sites) ≡ true
unfolding thread_class
thread_free index state sites few = free_first (holds own_class (thread_name index)) (thread_is_free index (omega arith))

-- So are the constants for one thread, before others.
one_free : (index : ℕ) (rest : List Const) → index < 200 → list_any names_own_class rest ≡ false → list_any names_own_class (named index ++ rest) ≡ false
unfolding named
one_free index rest few e = or_from (holds own_class (thread_name index)) (list_any names_own_class rest) (thread_is_free index (omega arith)) e

-- So are those for so many threads.
named_free : (index n : ℕ) → index + n ≤ 200 → list_any names_own_class (named_from index n) ≡ false
unfolding named_from
named_free index zero few = refl
named_free index (suc n) few = one_free index (named_from (index + 1) n) (omega arith) (named_free (index + 1) n (omega arith))

-- So is the main class.
main_free : (classes : ℕ) → classes ≤ 200 → is_free Original (main_class classes) ≡ true
unfolding main_class
main_free classes few = ap not (named_free 0 classes (omega arith))

-- ---- a class

-- The class of a thread meets its conditions, if its name is new.
thread_class_linked : (n index state sites : ℕ) (taken : Bool) → index < 200 → taken ≡ false
    → class_linked Original (heads_from 0 n) taken (thread_head index) (thread_class index state sites) ≡ Ok tt
unfolding thread_class
thread_class_linked n index state sites taken few new =
    four_tests _ taken _ _ (faults.Name (thread_name index)) (faults.Twice (thread_name index)) (faults.NameTaken (thread_name index)) (faults.SuperLeftOut (thread_name index))
    (thread_is_name index (omega arith)) new (thread_free index state sites few) (thread_has_supers n index)

-- So does the main class.
main_class_linked : (n classes : ℕ) (taken : Bool) → classes ≤ 200 → taken ≡ false → class_linked Original (heads_from 0 n) taken main_head (main_class classes) ≡ Ok tt
unfolding main_class
main_class_linked n classes taken few new =
    four_tests true taken _ _ (faults.Name main_name) (faults.Twice main_name) (faults.NameTaken main_name) (faults.SuperLeftOut main_name)
    refl new (main_free classes few) (main_has_supers n)

-- ---- all classes

-- The names of the classes from this one on are not taken.
record AreNew (taken : List ListedClass) (index : ℕ) : Type 0 where
  threads : (i : ℕ) → index ≤ i → i < 200 → is_known taken (thread_name i) ≡ false
  main : is_known taken main_name ≡ false

-- The name of a thread's class is no name of a later one.
one_taken : (taken : List ListedClass) (index : ℕ) → AreNew taken index → AreNew (thread_head index ∷ taken) (index + 1)
one_taken taken index new = record {
  threads = λ i low high. or_from (bytes_eq (thread_name index) (thread_name i)) (is_known taken (thread_name i)) (threads_differ index i (omega arith) (omega arith)) (new.threads i (omega arith) high);
  main = new.main;
}

-- The classes from this one on meet their conditions.
each_linked : (all index state sites n classes : ℕ) (taken : List ListedClass) → index + n ≤ 200 → classes ≤ 200 → AreNew taken index
    → classes_linked Original (heads_from 0 all) taken (files_from index state sites n classes) ≡ Ok tt
unfolding classes_from class_name_at utf8_at thread_class main_class
each_linked all index state sites zero classes taken few few_classes new =
    then_ok _ (λ _. Ok tt) tt tt (main_class_linked all classes (is_known taken main_name) few_classes new.main) refl
each_linked all index state sites (suc n) classes taken few few_classes new =
    then_ok _ (λ _. classes_linked Original (heads_from 0 all) (thread_head index ∷ taken) (files_from (index + 1) (state_after state sites) sites n classes)) tt tt
    (thread_class_linked all index state sites (is_known taken (thread_name index)) (omega arith) (new.threads index (omega arith) (omega arith)))
    (each_linked all (index + 1) (state_after state sites) sites n classes (thread_head index ∷ taken) (omega arith) few_classes (one_taken taken index new))

-- No name is taken by the listing.
new_at_first : AreNew net_listing.classes 0
unfolding net_listing class_rows
new_at_first = record { threads = λ i low high. refl; main = refl }

-- All classes meet their conditions.
pub all_linked : (state sites n : ℕ) → n ≤ 200 → classes_linked Original (heads_from 0 n) net_listing.classes (files_from 0 state sites n n) ≡ Ok tt
all_linked state sites n few = each_linked n 0 state sites n n net_listing.classes (omega arith) few new_at_first
