-- What a generated bundle links to.
use Rattle.std.proofs.Common.{◌≡◌, ℕ, zero, suc, ◌+◌, ◌≤◌, Bool, not, List, [], ◌∷◌, ◌++◌, length, Some, Ok, refl, ap, ◌∙◌, arith}
use Rattle.std.specs.List.{filter_map, flat_map, fold}
use Rattle.std.proofs.lemmas.Bool.{le-ltb}
use Rattle.std.proofs.lemmas.List.{length-append}
use Rattle.mon_base.specs.Reading.{◌>>=◌, need}
use Rattle.class_codec.specs.declared.tree.Const.{Const}
use Rattle.class_codec.specs.Pool.{class_name_at, utf8_at}
use Rattle.bytecode_model.specs.declared.program.LinkedClass.{LinkedClass}
use Rattle.bytecode_model.specs.declared.program.Method.{Method}
use Rattle.bytecode_model.specs.declared.program.Side.TheVariants.{Original}
use Rattle.bytecode_model.specs.Files.{max_files}
use Rattle.bytecode_model.specs.Operands.{literals_of, strings_in, text_of_string}
use Rattle.bytecode_model.specs.SearchOrder.{with_name}
use Rattle.class_linking.specs.declared.fault.LinkFault.TheVariants as faults
use Rattle.class_linking.specs.ClassConditions.{classes_linked}
use Rattle.class_linking.specs.Fault.{linked_from}
use Rattle.class_linking.specs.Linking.{assembled, classes_with, linked, main_from, main_of, methods_linked}
use Rattle.bundle_gen.specs.Draws.{state_after}
use Rattle.bundle_gen.specs.Generated.{classes_from, files_of, main_class, main_name, named, named_from, thread_class}
use Rattle.bundle_gen.specs.Linked.{generated_program, linked_init, linked_main, linked_run, linked_starter, linked_thread, net_listing}
use Rattle.bundle_gen.specs.Linked as program
use Rattle.bundle_linking.proofs.Classes.{main_class_links, thread_links}
use Rattle.bundle_linking.proofs.Conditions.{all_linked}
use Rattle.bundle_linking.proofs.Heads.{files_from, heads_are}
use Rattle.bundle_linking.proofs.Lists.{linked_more}

-- ---- methods

-- those of so many classes of threads, from this state on, and of the main class
abbrev methods_from : ℕ → ℕ → ℕ → ℕ → List (List Method)
methods_from state sites classes zero = (linked_main classes ∷ []) ∷ []
methods_from state sites classes (suc n) = (linked_init ∷ linked_run state sites ∷ []) ∷ methods_from (state_after state sites) sites classes n

-- the program with so many threads, from this state on
module _ (seed sites classes : ℕ) (few : classes ≤ 200) where
  -- The methods of the classes from this one on link to those.
  each_links : (index state n at : ℕ) → linked_from (λ (place : ℕ). methods_linked (files_of seed classes sites) net_listing) at (files_from index state sites n classes) ≡ Ok (methods_from state sites classes n)
  unfolding classes_from
  each_links index state zero at =
      linked_more (λ (place : ℕ). methods_linked (files_of seed classes sites) net_listing) at (main_class classes) [] (linked_main classes ∷ []) []
      (main_class_links seed sites classes few) refl
  each_links index state (suc n) at =
      linked_more (λ (place : ℕ). methods_linked (files_of seed classes sites) net_listing) at (thread_class index state sites) (files_from (index + 1) (state_after state sites) sites n classes)
      (linked_init ∷ linked_run state sites ∷ []) (methods_from (state_after state sites) sites classes n)
      (thread_links seed sites classes few index state sites) (each_links (index + 1) (state_after state sites) n (at + 1))

-- ---- classes

-- The classes with their methods.
with_methods : (index state sites classes n : ℕ) → classes_with (files_from index state sites n classes) (methods_from state sites classes n) ≡ program.linked_from index state sites n ++ linked_starter classes ∷ []
unfolding classes_from program.linked_from linked_thread linked_starter thread_class main_class class_name_at utf8_at
with_methods index state sites classes zero = refl
with_methods index state sites classes (suc n) =
    ap (λ (cs : List LinkedClass). linked_thread index state sites ∷ cs) (with_methods (index + 1) (state_after state sites) sites classes n)

-- ---- literals

-- The constants for one thread are no strings.
one_textless : (pool : List Const) (index : ℕ) (rest : List Const) → filter_map (text_of_string pool) rest ≡ [] → filter_map (text_of_string pool) (named index ++ rest) ≡ []
unfolding named
one_textless pool index rest e = e

-- Nor are those for so many threads.
named_textless : (pool : List Const) (index n : ℕ) → filter_map (text_of_string pool) (named_from index n) ≡ []
unfolding named_from
named_textless pool index zero = refl
named_textless pool index (suc n) = one_textless pool index (named_from (index + 1) n) (named_textless pool (index + 1) n)

-- The main class has no string.
main_textless : (classes : ℕ) → strings_in (main_class classes) ≡ []
unfolding main_class
main_textless classes = named_textless (main_class classes).pool 0 classes

-- No class has one.
no_strings : (index state sites n classes : ℕ) → flat_map strings_in (files_from index state sites n classes) ≡ []
unfolding classes_from thread_class
no_strings index state sites zero classes = ap (λ (texts : List (List ℕ)). texts ++ []) (main_textless classes)
no_strings index state sites (suc n) classes = no_strings (index + 1) (state_after state sites) sites n classes

-- So there are no literals.
no_literals : (state sites n : ℕ) → literals_of (files_of state n sites) ≡ []
no_literals state sites n = ap (fold with_name []) (no_strings 0 state sites n n)

-- ---- the main class

-- The main class is the last, and `main` its first method.
main_is : (index state sites n classes : ℕ) → main_from index (files_from index state sites n classes) main_name ≡ Some (index + n, 0)
unfolding classes_from thread_class main_class class_name_at utf8_at
main_is index state sites zero classes =
    let same : index ≡ index + 0 = omega arith in
    ap (λ (i : ℕ). Some (i, 0)) same
main_is index state sites (suc n) classes =
    let same : (index + 1) + n ≡ index + suc n = omega arith in
    main_is (index + 1) (state_after state sites) sites n classes ∙ ap (λ (i : ℕ). Some (i, 0)) same

-- So it is in the whole program.
main_is_last : (state sites n : ℕ) → main_of (files_of state n sites) main_name ≡ Some (n, 0)
main_is_last state sites n =
    let same : 0 + n ≡ n = omega arith in
    main_is 0 state sites n n ∙ ap (λ (i : ℕ). Some (i, 0)) same

-- ---- the whole

-- There are so many classes of threads.
classes_count : (index state sites n : ℕ) → length (classes_from index state sites n) ≡ n
unfolding classes_from
classes_count index state sites zero = refl
classes_count index state sites (suc n) = ap suc (classes_count (index + 1) (state_after state sites) sites n)

-- There is one file more.
files_count : (state sites n : ℕ) → length (files_of state n sites) ≡ n + 1
files_count state sites n = omega (arith, length-append (classes_from 0 state sites n) (main_class n ∷ []), classes_count 0 state sites n)

-- What the files link to, however many.
assembled_is : (seed sites classes : ℕ) → classes ≤ 200 → assembled (files_of seed classes sites) net_listing main_name Original ≡ Ok (generated_program seed classes sites)
unfolding generated_program
assembled_is seed sites classes few =
    let heads = heads_are 0 seed sites classes classes in
    let sound = ap (λ (hs : _). classes_linked Original hs net_listing.classes (files_of seed classes sites)) heads ∙ all_linked seed sites classes few in
    let each = each_links seed sites classes few 0 seed classes 0 in
    rw (sound, each, main_is_last seed sites classes, no_literals seed sites classes, with_methods 0 seed sites classes classes) refl

-- They are few enough.
pub bundle_links : (seed classes sites : ℕ) → classes ≤ 200 → linked (files_of seed classes sites) net_listing main_name Original ≡ Ok (generated_program seed classes sites)
bundle_links seed classes sites few =
    let within = le-ltb max_files (length (files_of seed classes sites)) (omega (arith, files_count seed sites classes)) in
    ap (λ (b : Bool). need (not b) (faults.TooMany (length (files_of seed classes sites))) >>= λ _. assembled (files_of seed classes sites) net_listing main_name Original) within
    ∙ assembled_is seed sites classes few
