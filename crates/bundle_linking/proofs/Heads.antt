-- What the class files of a generated bundle say of their classes.
use Rattle.std.proofs.Common.{◌≡◌, ℕ, zero, suc, ◌+◌, ◌<◌, ◌≤◌, Bool, true, false, cond, not, ◌&&◌, ◌||◌, List, [], ◌∷◌, ◌++◌, length, Option, Some, None, refl, ap, subst, ◌∙◌, inl, inr, arith}
use Rattle.std.specs.Prelude.{bytes_eq, codes}
use Rattle.std.specs.List.{AllByRecursion}
use Rattle.std.specs.Option.{option_map_or}
use Rattle.std.proofs.lemmas.Bool.{cases_lt, or_right}
use Rattle.class_codec.specs.declared.tree.ClassFile.{ClassFile}
use Rattle.class_codec.specs.Pool.{class_name_at, utf8_at}
use Rattle.api_listing.specs.declared.types.ListedClass.{ListedClass}
use Rattle.api_listing.specs.BuiltIn.{object, thread, class_rows}
use Rattle.api_listing.specs.Listing.{is_known}
use Rattle.api_listing.specs.Nearest.{class_named}
use Rattle.bytecode_model.specs.Conditions.{has_supers, runs_in_circle, stays_within}
use Rattle.bytecode_model.specs.Heads.{all_classes, head_of, heads_of}
use Rattle.bundle_gen.specs.Draws.{state_after}
use Rattle.bundle_gen.specs.Generated.{classes_from, main_class, main_name, thread_class, thread_name}
use Rattle.bundle_gen.specs.Linked.{net_listing}
use Rattle.bundle_linking.proofs.Lists.{found_one}
use Rattle.bundle_linking.proofs.Names.{same_name, threads_differ}

-- ---- heads

-- the head of a thread's class
abbrev pub thread_head : ℕ → ListedClass
thread_head index = record { name = thread_name index; parent = thread; interfaces = []; is_interface = false }

-- the head of the main class
abbrev pub main_head : ListedClass
main_head = record { name = main_name; parent = object; interfaces = []; is_interface = false }

-- those of so many classes of threads, the first with this index, and of the main class
unfoldable pub heads_from : ℕ → ℕ → List ListedClass
heads_from index zero = main_head ∷ []
heads_from index (suc n) = thread_head index ∷ heads_from (index + 1) n

-- so many class files, the first with this index, and that of the main class
abbrev pub files_from : ℕ → ℕ → ℕ → ℕ → ℕ → List ClassFile
files_from index state sites n classes = classes_from index state sites n ++ main_class classes ∷ []

-- The file of a thread's class says that of it.
pub head_of_thread : (index state sites : ℕ) → head_of (thread_class index state sites) ≡ thread_head index
unfolding thread_class class_name_at utf8_at
head_of_thread index state sites = refl

-- So does the file of the main class.
pub head_of_main : (classes : ℕ) → head_of (main_class classes) ≡ main_head
unfolding main_class class_name_at utf8_at
head_of_main classes = refl

-- The files say that of their classes.
pub heads_are : (index state sites n classes : ℕ) → heads_of (files_from index state sites n classes) ≡ heads_from index n
unfolding classes_from heads_from
heads_are index state sites zero classes = ap (λ (c : ListedClass). c ∷ []) (head_of_main classes)
heads_are index state sites (suc n) classes =
    ap (λ (c : ListedClass). c ∷ heads_of (files_from (index + 1) (state_after state sites) sites n classes)) (head_of_thread index state sites)
    ∙ ap (λ (cs : List ListedClass). thread_head index ∷ cs) (heads_are (index + 1) (state_after state sites) sites n classes)

-- ---- classes by their names

-- A name of no class of a thread, nor of the main class.
pub record IsOther (name : List ℕ) : Type 0 where
  pub threads : (index : ℕ) → bytes_eq (thread_name index) name ≡ false
  pub main : bytes_eq main_name name ≡ false

-- No class has such a name.
pub other_named : (name : List ℕ) (index n : ℕ) → IsOther name → class_named (heads_from index n) name ≡ None
unfolding heads_from
other_named name index zero other = ap (λ (b : Bool). cond b (Some main_head) None) other.main
other_named name index (suc n) other =
    ap (λ (b : Bool). cond b (Some (thread_head index)) (class_named (heads_from (index + 1) n) name)) (other.threads index) ∙ other_named name (index + 1) n other

-- `java/lang/Thread` is such a name.
pub thread_other : IsOther thread
thread_other = record { threads = λ index. refl; main = refl }

-- So is `java/lang/Object`.
pub object_other : IsOther object
object_other = record { threads = λ index. refl; main = refl }

-- So is `api/Net`.
pub net_other : IsOther (codes "api/Net")
net_other = record { threads = λ index. refl; main = refl }

-- The class of a thread is found by its name.
pub thread_named : (index n i : ℕ) → index ≤ i → i < index + n → index + n ≤ 200 → class_named (heads_from index n) (thread_name i) ≡ Some (thread_head i)
unfolding heads_from
thread_named index zero i low high few = absurd (omega arith)
thread_named index (suc n) i low high few =
    elim (cases_lt index i) [
      | inl less ↦
          ap (λ (b : Bool). cond b (Some (thread_head index)) (class_named (heads_from (index + 1) n) (thread_name i))) (threads_differ index i less (omega arith))
          ∙ thread_named (index + 1) n i (omega arith) (omega arith) (omega arith)
      | inr same ↦
          let is : index ≡ i = omega arith in
          subst (λ (j : ℕ). class_named (heads_from index (suc n)) (thread_name j) ≡ Some (thread_head j)) is
          (ap (λ (b : Bool). cond b (Some (thread_head index)) (class_named (heads_from (index + 1) n) (thread_name index))) (same_name (thread_name index)))
    ]

-- ---- superclasses

-- Each superclass is none of the classes.
each_parent : (heads : List ListedClass) (index n : ℕ) → class_named heads thread ≡ None → class_named heads object ≡ None
    → AllByRecursion (λ (c : ListedClass). class_named heads c.parent ≡ None) (heads_from index n)
unfolding heads_from
each_parent heads index zero first second = (second, tt)
each_parent heads index (suc n) first second = (first, each_parent heads (index + 1) n first second)

-- From a name of none of them there is no way up.
leaves : (n : ℕ) (heads : List ListedClass) (name : List ℕ) → 1 ≤ n → class_named heads name ≡ None → stays_within n heads name ≡ false
leaves zero heads name some e = absurd (omega arith)
leaves (suc n) heads name some e = ap (λ (o : Option ListedClass). option_map_or (λ (c : ListedClass). stays_within n heads c.parent) o false) e

-- Where no class stands below another of them, the way up is short.
no_circle : (heads : List ListedClass) (name : List ℕ) → 1 ≤ length heads → AllByRecursion (λ (c : ListedClass). class_named heads c.parent ≡ None) heads
    → runs_in_circle heads name ≡ false
no_circle heads name some all = by (class_named heads name) refl where
  by : (o : Option ListedClass) → class_named heads name ≡ o → option_map_or (λ (c : ListedClass). stays_within (length heads) heads c.parent) o false ≡ false
  by None e = refl
  by (Some c) e = leaves (length heads) heads c.parent some (found_one (λ (d : ListedClass). bytes_eq d.name name) (λ (d : ListedClass). class_named heads d.parent ≡ None) heads c all e)

-- There is a class.
some_heads : (index n : ℕ) → 1 ≤ length (heads_from index n)
unfolding heads_from
some_heads index zero = omega arith
some_heads index (suc n) = omega arith

-- No class of a bundle runs in a circle.
pub none_in_circle : (n : ℕ) (name : List ℕ) → runs_in_circle (heads_from 0 n) name ≡ false
none_in_circle n name =
    no_circle (heads_from 0 n) name (some_heads 0 n)
    (each_parent (heads_from 0 n) 0 n (other_named thread 0 n thread_other) (other_named object 0 n object_other))

-- The three conditions, of which two are tests of the name.
may_stand : (a circle : Bool) → circle ≡ false → (((a || true) && (true && not circle)) && (true && true)) ≡ true
may_stand a circle e = rw (e, or_right a true refl) refl

-- The superclasses are as they may be.
pub thread_has_supers : (n index : ℕ) → has_supers (heads_from 0 n) (thread_head index) [] ≡ true
thread_has_supers n index = may_stand (is_known (heads_from 0 n) thread) (runs_in_circle (heads_from 0 n) (thread_name index)) (none_in_circle n (thread_name index))

-- So they are of the main class.
pub main_has_supers : (n : ℕ) → has_supers (heads_from 0 n) main_head [] ≡ true
main_has_supers n = may_stand (is_known (heads_from 0 n) object) (runs_in_circle (heads_from 0 n) main_name) (none_in_circle n main_name)

-- ---- all classes

-- one that is neither of the listing nor built in
pub all_named : (files : List ClassFile) (index : ℕ) → class_named (all_classes net_listing files) (thread_name index) ≡ class_named (heads_of files) (thread_name index)
unfolding net_listing class_rows
all_named files index = refl
