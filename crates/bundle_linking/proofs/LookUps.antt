-- What methods are found in the classes of a generated bundle and in its listing.
use Rattle.std.proofs.Common.{◌≡◌, ℕ, zero, suc, ◌+◌, ◌<◌, ◌≤◌, Bool, true, false, cond, List, [], ◌∷◌, ◌++◌, length, Option, Some, None, refl, ap, subst, ◌∙◌, inl, inr, arith}
use Rattle.std.specs.Prelude.{bytes_eq, codes}
use Rattle.std.proofs.lemmas.Bool.{cases_lt}
use Rattle.std.proofs.lemmas.List.{length-append}
use Rattle.mon_base.specs.declared.method.MethodId.{MethodId}
use Rattle.class_codec.specs.declared.tree.ClassFile.{ClassFile}
use Rattle.class_codec.specs.Pool.{class_name_at, utf8_at}
use Rattle.api_listing.specs.declared.types.ListedClass.{ListedClass}
use Rattle.api_listing.specs.BuiltIn.{object, thread, runnable, class_rows, method_rows, is_method}
use Rattle.api_listing.specs.Nearest.{class_named}
use Rattle.bytecode_model.specs.declared.members.Found.{Found}
use Rattle.bytecode_model.specs.declared.members.MemberKind.TheVariants as kinds
use Rattle.bytecode_model.specs.declared.program.Target.TheVariants as target
use Rattle.bytecode_model.specs.Heads.{all_classes, heads_of, main_desc, maker, run_name, takes_nothing}
use Rattle.bytecode_model.specs.Heads as words
use Rattle.bytecode_model.specs.Members.{Declared, first_of, given_from, listed_from, method_of, methods_declared, rows_from}
use Rattle.bytecode_model.specs.SearchOrder.{Name}
use Rattle.bundle_gen.specs.Draws.{state_after}
use Rattle.bundle_gen.specs.Generated.{classes_from, files_of, main_class, main_name, thread_class, thread_name}
use Rattle.bundle_gen.specs.Linked.{net_class, net_listing}
use Rattle.bundle_linking.proofs.Heads.{IsOther, all_named, files_from, heads_are, net_other, thread_head, thread_named, thread_other}
use Rattle.bundle_linking.proofs.Lists.{passed_on}
use Rattle.bundle_linking.proofs.Names.{same_name, threads_differ}
use Rattle.bundle_linking.proofs.Upwards.{found_in_first, found_in_second}

-- ---- what the files declare

-- a method of this class, name and descriptor
abbrev pub id : Name → Name → Name → MethodId
id class name desc = record { class = class; name = name; desc = desc }

-- a method of objects of the class of this index
abbrev pub own : ℕ → ℕ → Found
own class index = record { target = target.Method class index; is_static = false }

-- the methods of so many classes of threads, the first with this index, and of the main class
unfoldable methods_from : ℕ → ℕ → List Declared
methods_from index zero = (id main_name words.main_name main_desc, record { target = target.Method index 0; is_static = true }) ∷ []
methods_from index (suc n) =
    (id (thread_name index) maker takes_nothing, own index 0) ∷ (id (thread_name index) run_name takes_nothing, own index 1) ∷ methods_from (index + 1) n

-- The files declare those.
given_are : (index state sites n classes : ℕ) → given_from kinds.Method index (files_from index state sites n classes) ≡ methods_from index n
unfolding classes_from methods_from thread_class main_class class_name_at utf8_at
given_are index state sites zero classes = refl
given_are index state sites (suc n) classes =
    ap (λ (ds : List Declared). (id (thread_name index) maker takes_nothing, own index 0) ∷ (id (thread_name index) run_name takes_nothing, own index 1) ∷ ds)
    (given_are (index + 1) (state_after state sites) sites n classes)

-- none of another class
none_of : (class name desc : Name) (index n : ℕ) → IsOther class → first_of (methods_from index n) (id class name desc) ≡ None
unfolding methods_from
none_of class name desc index zero other = rw other.main refl
none_of class name desc index (suc n) other = rw (other.threads index, none_of class name desc (index + 1) n other) refl

-- none of the name `start`
no_start : (class : Name) (index n : ℕ) → first_of (methods_from index n) (id class (codes "start") takes_nothing) ≡ None
unfolding methods_from
no_start class index zero = passed_on (bytes_eq main_name class) (Some (record { target = target.Method index 0; is_static = true })) None
no_start class index (suc n) =
    passed_on (bytes_eq (thread_name index) class) (Some (own index 0)) _ ∙ passed_on (bytes_eq (thread_name index) class) (Some (own index 1)) _ ∙ no_start class (index + 1) n

-- `<init>` of the class of a thread
init_of : (index n i : ℕ) → index ≤ i → i < index + n → index + n ≤ 200 → first_of (methods_from index n) (id (thread_name i) maker takes_nothing) ≡ Some (own i 0)
unfolding methods_from
init_of index zero i low high few = absurd (omega arith)
init_of index (suc n) i low high few =
    elim (cases_lt index i) [
      | inl less ↦ rw (threads_differ index i less (omega arith), init_of (index + 1) n i (omega arith) (omega arith) (omega arith)) refl
      | inr same ↦
          let is : index ≡ i = omega arith in
          subst (λ (j : ℕ). first_of (methods_from index (suc n)) (id (thread_name j) maker takes_nothing) ≡ Some (own j 0)) is (rw (same_name (thread_name index)) refl)
    ]

-- ---- what is declared in all

-- Where the first declarations have none, the others are asked.
after_none : (xs ys : List Declared) (q : MethodId) → first_of xs q ≡ None → first_of (xs ++ ys) q ≡ first_of ys q
after_none [] ys q e = refl
after_none (x ∷ xs) ys q e = by (is_method q.class q.name q.desc x.0) e (after_none xs ys q) where
  by : (b : Bool) → cond b (Some x.1) (first_of xs q) ≡ None → (first_of xs q ≡ None → first_of (xs ++ ys) q ≡ first_of ys q)
      → cond b (Some x.1) (first_of (xs ++ ys) q) ≡ first_of ys q
  by true f others = absurd cc
  by false f others = others f

-- What the first declarations have is found.
in_front : (xs ys : List Declared) (q : MethodId) (f : Found) → first_of xs q ≡ Some f → first_of (xs ++ ys) q ≡ Some f
in_front [] ys q f e = absurd cc
in_front (x ∷ xs) ys q f e = by (is_method q.class q.name q.desc x.0) e (in_front xs ys q f) where
  by : (b : Bool) → cond b (Some x.1) (first_of xs q) ≡ Some f → (first_of xs q ≡ Some f → first_of (xs ++ ys) q ≡ Some f)
      → cond b (Some x.1) (first_of (xs ++ ys) q) ≡ Some f
  by true g others = g
  by false g others = others g

-- the methods of the listing, and the built-in ones
abbrev of_library : List Declared
of_library = listed_from 0 net_listing.methods ++ rows_from 0 method_rows

-- `<init>` of Thread is built in.
library_init : first_of of_library (id thread maker takes_nothing) ≡ Some (record { target = target.Builtin 1; is_static = false })
unfolding net_listing method_rows
library_init = refl

-- So is its `start`.
library_start : first_of of_library (id thread (codes "start") takes_nothing) ≡ Some (record { target = target.Builtin 3; is_static = false })
unfolding net_listing method_rows
library_start = refl

-- `send` is the first method of the listing.
library_send : first_of of_library (id (codes "api/Net") (codes "send") (codes "(I)V")) ≡ Some (record { target = target.ApiMethod 0; is_static = true })
unfolding net_listing method_rows
library_send = refl

-- `read` is the second.
library_read : first_of of_library (id (codes "api/Net") (codes "read") (codes "()I")) ≡ Some (record { target = target.ApiMethod 1; is_static = true })
unfolding net_listing method_rows
library_read = refl

-- The library has no `start` of the class of a thread.
library_has_none : (index : ℕ) → first_of of_library (id (thread_name index) (codes "start") takes_nothing) ≡ None
unfolding net_listing method_rows
library_has_none index = refl

-- ---- methods of the whole program

-- the classes of the listing and of these files
abbrev pub known_classes : List ClassFile → List ListedClass
known_classes files = all_classes net_listing files

-- what is declared of a method
abbrev look : List ClassFile → MethodId → Option Found
look files = first_of (methods_declared files net_listing)

-- There are two classes or more.
many : (files : List ClassFile) → 2 ≤ length (known_classes files)
unfolding net_listing class_rows
many files = omega (arith, length-append net_listing.classes (heads_of files))

some : (files : List ClassFile) → 1 ≤ length (known_classes files)
some files = omega (arith, many files)

-- the built-in class Thread
abbrev listed_thread : ListedClass
listed_thread = record { name = thread; parent = object; interfaces = runnable ∷ []; is_interface = false }

-- It is found by its name.
thread_listed : (files : List ClassFile) → class_named (known_classes files) thread ≡ Some listed_thread
unfolding net_listing class_rows
thread_listed files = refl

-- So is `api/Net`.
net_listed : (files : List ClassFile) → class_named (known_classes files) (codes "api/Net") ≡ Some net_class
unfolding net_listing class_rows
net_listed files = refl

-- the program with so many threads, from this state on
module _ (state sites n : ℕ) (few : n ≤ 200) where
  -- what the files declare of it, and else the library
  looked : (q : MethodId) → look (files_of state n sites) q ≡ first_of (methods_from 0 n ++ of_library) q
  looked q = ap (λ (ds : List Declared). first_of (ds ++ of_library) q) (given_are 0 state sites n n)

  -- What the library has, where the files have none.
  in_library : (q : MethodId) (f : Option Found) → first_of (methods_from 0 n) q ≡ None → first_of of_library q ≡ f → look (files_of state n sites) q ≡ f
  in_library q f none is = looked q ∙ after_none (methods_from 0 n) of_library q none ∙ is

  -- ---- classes

  -- The class of a thread is found among all.
  pub thread_is : (i : ℕ) → i < n → class_named (known_classes (files_of state n sites)) (thread_name i) ≡ Some (thread_head i)
  thread_is i less =
      all_named (files_of state n sites) i ∙ ap (λ (heads : List ListedClass). class_named heads (thread_name i)) (heads_are 0 state sites n n)
      ∙ thread_named 0 n i (omega arith) (omega arith) (omega arith)

  -- ---- methods

  -- `<init>` of Thread is found.
  pub super_init_is : method_of (files_of state n sites) net_listing (id thread maker takes_nothing) ≡ Some (record { target = target.Builtin 1; is_static = false })
  super_init_is =
      found_in_first (look (files_of state n sites)) (id thread maker takes_nothing) (known_classes (files_of state n sites)) listed_thread (record { target = target.Builtin 1; is_static = false }) (some (files_of state n sites)) (thread_listed (files_of state n sites))
      (in_library (id thread maker takes_nothing) _ (none_of thread maker takes_nothing 0 n thread_other) library_init)

  -- `send` is found.
  pub send_is : method_of (files_of state n sites) net_listing (id (codes "api/Net") (codes "send") (codes "(I)V")) ≡ Some (record { target = target.ApiMethod 0; is_static = true })
  send_is =
      found_in_first (look (files_of state n sites)) (id (codes "api/Net") (codes "send") (codes "(I)V")) (known_classes (files_of state n sites)) net_class (record { target = target.ApiMethod 0; is_static = true }) (some (files_of state n sites)) (net_listed (files_of state n sites))
      (in_library (id (codes "api/Net") (codes "send") (codes "(I)V")) _ (none_of (codes "api/Net") (codes "send") (codes "(I)V") 0 n net_other) library_send)

  -- `read` is found.
  pub read_is : method_of (files_of state n sites) net_listing (id (codes "api/Net") (codes "read") (codes "()I")) ≡ Some (record { target = target.ApiMethod 1; is_static = true })
  read_is =
      found_in_first (look (files_of state n sites)) (id (codes "api/Net") (codes "read") (codes "()I")) (known_classes (files_of state n sites)) net_class (record { target = target.ApiMethod 1; is_static = true }) (some (files_of state n sites)) (net_listed (files_of state n sites))
      (in_library (id (codes "api/Net") (codes "read") (codes "()I")) _ (none_of (codes "api/Net") (codes "read") (codes "()I") 0 n net_other) library_read)

  -- `<init>` of the class of a thread is found there.
  pub init_is : (i : ℕ) → i < n → method_of (files_of state n sites) net_listing (id (thread_name i) maker takes_nothing) ≡ Some (own i 0)
  init_is i less =
      found_in_first (look (files_of state n sites)) (id (thread_name i) maker takes_nothing) (known_classes (files_of state n sites)) (thread_head i) (own i 0) (some (files_of state n sites)) (thread_is i less)
      (looked (id (thread_name i) maker takes_nothing)
      ∙ in_front (methods_from 0 n) of_library (id (thread_name i) maker takes_nothing) (own i 0) (init_of 0 n i (omega arith) (omega arith) (omega arith)))

  -- Its `start` is found in Thread.
  pub start_is : (i : ℕ) → i < n → method_of (files_of state n sites) net_listing (id (thread_name i) (codes "start") takes_nothing) ≡ Some (record { target = target.Builtin 3; is_static = false })
  start_is i less =
      found_in_second (look (files_of state n sites)) (id (thread_name i) (codes "start") takes_nothing) (known_classes (files_of state n sites)) (thread_head i) listed_thread (record { target = target.Builtin 3; is_static = false }) (many (files_of state n sites)) (thread_is i less) (thread_listed (files_of state n sites))
      (in_library (id (thread_name i) (codes "start") takes_nothing) None (no_start (thread_name i) 0 n) (library_has_none i))
      (in_library (id thread (codes "start") takes_nothing) _ (no_start thread 0 n) library_start)
