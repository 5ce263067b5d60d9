-- The class files that are made can be encoded.
use Rattle.std.proofs.Common.{◌≡◌, ℕ, zero, suc, ◌+◌, ◌*◌, ◌<◌, ◌≤◌, ◌^◌, Bool, true, false, List, [], ◌∷◌, ◌++◌, length, Some, refl, sym, ap, subst, ◌∙◌, append_assoc, arith}
use Rattle.std.specs.Prelude.{codes, decimal, slice_get, nat_lt, ◌&&◌, ⊤}
use Rattle.std.specs.List.{AllByRecursion, list_all}
use Rattle.std.specs.Str.Parse.{AllDigits}
use Rattle.std.proofs.lemmas.Bool.{and_parts}
use Rattle.std.proofs.lemmas.Bool.Decides.{nat_tests}
use Rattle.std.proofs.lemmas.Fmt.{decimal_is_IsNumeral, length-decimal-le}
use Rattle.std.proofs.lemmas.List.{length-append}
use Rattle.std.proofs.lemmas.Str.Parse.{digit_from_value}
use Rattle.byteorder.specs.Numbers.{length-bytes_high_first}
use Rattle.mon_base.specs.Widths.{u2, u4}
use Rattle.class_codec.specs.declared.pool.ConstKind.{ConstKind}
use Rattle.class_codec.specs.declared.pool.ConstKind.TheVariants as kinds
use Rattle.class_codec.specs.declared.tree.ClassFile.{ClassFile}
use Rattle.class_codec.specs.declared.tree.Const.{Const}
use Rattle.class_codec.specs.declared.tree.Const.TheVariants as constants
use Rattle.class_codec.specs.declared.tree.Member.{Member}
use Rattle.class_codec.specs.Encoding.{contents}
use Rattle.class_codec.specs.Fits.{FitsConst, FitsMember, FitsPool, HasSeconds, IsEncodable, IsIndex, IsNamed, IsTextByte, is_read_as_code}
use Rattle.class_codec.specs.Pool.{class_name_at, is_code, is_of, is_one_of, names, utf8_at}
use Rattle.insn_codec.specs.declared.insn.Insn.{Insn}
use Rattle.insn_codec.specs.Encoding as insns
use Rattle.bundle_gen.specs.declared.members.Head.{Head}
use Rattle.bundle_gen.specs.Draws.{state_after}
use Rattle.bundle_gen.specs.Generated.{HasName, class_file, classes_from, files_of, init_code, init_method, library, main_class, main_code, main_method, main_name, main_own, method, named, named_from, constants_place, run_code, run_method, thread_class, thread_name, thread_own}
use Rattle.bundle_gen.proofs.ShortCodes.{IsShort, few_bytes, init_short, main_short, run_short, some_bytes}

-- ---- texts

abbrev is_text_byte : ℕ → Bool
is_text_byte b = nat_lt 0 b && nat_lt b 240

text_bytes : (bytes : List ℕ) → list_all is_text_byte bytes ≡ true → AllByRecursion IsTextByte bytes
text_bytes [] e = tt
text_bytes (b ∷ bytes) e =
    let parts = and_parts (is_text_byte b) (list_all is_text_byte bytes) e in
    let ends = and_parts (nat_lt 0 b) (nat_lt b 240) parts.0 in
    let low = ends.0 in
    let high = ends.1 in
    ((grind (arith, nat_tests), grind (arith, nat_tests)), text_bytes bytes parts.1)

digits_text : (ds : List ℕ) → AllDigits 10 ds → AllByRecursion IsTextByte ds
digits_text [] d = tt
digits_text (c ∷ cs) d =
    let range = digit_from_value c d.0 in
    ((omega (arith, range), omega (arith, range)), digits_text cs d.1)

name_fits : (index : ℕ) → index < 200 → FitsConst (constants.Utf8 (thread_name index))
name_fits index few =
    let len = length-decimal-le 10 index (omega arith) (omega arith) (omega arith) in (
      omega (arith, len),
      ((omega arith, omega arith), ((omega arith, omega arith), ((omega arith, omega arith), digits_text (decimal index) (decimal_is_IsNumeral index (omega arith)).0.1))),
    )

known : (text : List ℕ) → length text < 2 ^ 16 → list_all is_text_byte text ≡ true → FitsConst (constants.Utf8 text)
known text few e = (few, text_bytes text e)

-- ---- methods

-- the constants that a method names
record IsHead (pool : List Const) (head : Head) : Type 0 where
  flags : head.flags < 2 ^ 16
  name : IsIndex kinds.Utf8 pool head.name
  desc : IsIndex kinds.Utf8 pool 6
  code : IsIndex kinds.Utf8 pool head.code
  is_code : utf8_at pool head.code ≡ Some (codes "Code")
  max_stack : head.max_stack < 2 ^ 16

pub contents_few : (head : Head) (code : List Insn) → length (insns.encoding code) ≤ 65535
    → length (contents (record { name = head.code; max_stack = head.max_stack; max_locals = 1; code = insns.encoding code; table = []; attrs = [] })) < 2 ^ 32
contents_few head code few =
    let bytes = insns.encoding code in
    omega (
      arith,
      length-append (u2 head.max_stack) (u2 1 ++ ((u4 (length bytes) ++ bytes) ++ ((u2 0 ++ []) ++ (u2 0 ++ [])))),
      length-append (u2 1) ((u4 (length bytes) ++ bytes) ++ ((u2 0 ++ []) ++ (u2 0 ++ []))),
      length-append (u4 (length bytes) ++ bytes) ((u2 0 ++ []) ++ (u2 0 ++ [])),
      length-append (u4 (length bytes)) bytes,
      length-append (u2 0 ++ []) (u2 0 ++ []),
      length-append (u2 0) [],
      length-bytes_high_first 2 head.max_stack,
      length-bytes_high_first 2 1,
      length-bytes_high_first 2 0,
      length-bytes_high_first 4 (length bytes),
    )

code_named : (pool : List Const) (at : ℕ) → utf8_at pool at ≡ Some (codes "Code") → is_read_as_code pool true at ≡ true
code_named pool at e = ap is_code e

method_fits : (pool : List Const) (head : Head) (code : List Insn) → IsHead pool head → (bytes : ℕ) → bytes ≤ 65535 → IsShort code bytes → FitsMember pool true (method head code)
method_fits pool head code h bytes most short =
    let few : length (insns.encoding code) ≤ 65535 = omega (arith, few_bytes code bytes short, most) in
    record {
      flags = h.flags;
      name = h.name;
      desc = h.desc;
      attrs = record {
        count = omega arith;
        each = (
          (
            code_named pool head.code h.is_code,
            record {
              name = h.code;
              max_stack = h.max_stack;
              max_locals = omega arith;
              some = some_bytes code bytes short;
              short = few;
              table = record { count = omega arith; each = tt };
              attrs = record { count = omega arith; each = tt };
              len = contents_few head code few;
            },
          ),
          tt,
        );
      };
    }

-- ---- classes

-- the constants that a class names
record IsClassPool (pool : List Const) : Type 0 where
  fits : FitsPool pool
  this : names kinds.Class pool 2 ≡ true
  super : names kinds.Class pool 4 ≡ true

file_fits : (pool : List Const) (methods : List Member) → IsClassPool pool → length methods < 2 ^ 16 → AllByRecursion (FitsMember pool true) methods → IsEncodable (class_file pool methods)
file_fits pool methods h few each = record {
  minor = omega arith;
  pool = h.fits;
  flags = omega arith;
  this_class = record { fits = omega arith; named = h.this };
  super_class = record { fits = omega arith; named = h.super };
  interfaces = record { count = omega arith; each = tt };
  fields = record { count = omega arith; each = tt };
  methods = record { count = few; each = each };
  attrs = record { count = omega arith; each = tt };
}

-- ---- the threads

each_of_library : AllByRecursion FitsConst library
each_of_library = (
  known (codes "api/Net") (omega arith) refl,
  (
    omega arith,
    (
      known (codes "send") (omega arith) refl,
      (
        known (codes "(I)V") (omega arith) refl,
        (
          (omega arith, omega arith),
          (
            (omega arith, omega arith),
            (known (codes "read") (omega arith) refl, (known (codes "()I") (omega arith) refl, ((omega arith, omega arith), ((omega arith, omega arith), tt)))),
          ),
        ),
      ),
    ),
  ),
)

pub each_of_thread : (index : ℕ) → index < 200 → AllByRecursion FitsConst (thread_own index ++ library)
each_of_thread index few = (
  tt,
  (
    name_fits index few,
    (
      omega arith,
      (
        known (codes "java/lang/Thread") (omega arith) refl,
        (
          omega arith,
          (
            known (codes "<init>") (omega arith) refl,
            (
              known (codes "()V") (omega arith) refl,
              (
                (omega arith, omega arith),
                ((omega arith, omega arith), (known (codes "run") (omega arith) refl, (known (codes "Code") (omega arith) refl, each_of_library))),
              ),
            ),
          ),
        ),
      ),
    ),
  ),
)

thread_named : (index : ℕ) → AllByRecursion (IsNamed (thread_own index ++ library)) (thread_own index ++ library)
unfolding names
thread_named index = (
  tt,
  (
    tt,
    (
      refl,
      (
        tt,
        (
          refl,
          (
            tt,
            (
              tt,
              (
                (refl, refl),
                (
                  (refl, refl),
                  (tt, (tt, (tt, (refl, (tt, (tt, ((refl, refl), ((refl, refl), (tt, (tt, ((refl, refl), ((refl, refl), tt)))))))))))),
                ),
              ),
            ),
          ),
        ),
      ),
    ),
  ),
)

thread_seconds : (index : ℕ) → HasSeconds true (thread_own index ++ library)
thread_seconds index = (
  refl,
  (
    refl,
    (refl, (refl, (refl, (refl, (refl, (refl, (refl, (refl, (refl, (refl, (refl, (refl, (refl, (refl, (refl, (refl, (refl, (refl, (refl, refl))))))))))))))))))),
  ),
)

thread_pool : (index : ℕ) → index < 200 → IsClassPool (thread_own index ++ library)
unfolding names
thread_pool index few = record {
  fits = record { count = omega arith; each = each_of_thread index few; seconds = thread_seconds index; named = thread_named index };
  this = refl;
  super = refl;
}

init_head : (index : ℕ) → IsHead (thread_own index ++ library) (record { flags = 0x0001; name = 5; code = 10; max_stack = 1 })
unfolding names utf8_at
init_head index = record {
  flags = omega arith;
  name = record { fits = omega arith; named = refl };
  desc = record { fits = omega arith; named = refl };
  code = record { fits = omega arith; named = refl };
  is_code = refl;
  max_stack = omega arith;
}

run_head : (index : ℕ) → IsHead (thread_own index ++ library) (record { flags = 0x0001; name = 9; code = 10; max_stack = 1 })
unfolding names utf8_at
run_head index = record {
  flags = omega arith;
  name = record { fits = omega arith; named = refl };
  desc = record { fits = omega arith; named = refl };
  code = record { fits = omega arith; named = refl };
  is_code = refl;
  max_stack = omega arith;
}

thread_fits : (index state sites : ℕ) → index < 200 → sites ≤ 500 → IsEncodable (thread_class index state sites)
unfolding thread_class
thread_fits index state sites few sites_few =
    file_fits (thread_own index ++ library) (init_method ∷ run_method state sites ∷ []) (thread_pool index few) (omega arith) (
      method_fits (thread_own index ++ library) (record { flags = 0x0001; name = 5; code = 10; max_stack = 1 }) init_code (init_head index) 5 (omega arith) init_short,
      (
        method_fits (thread_own index ++ library) (record { flags = 0x0001; name = 9; code = 10; max_stack = 1 }) (run_code state sites) (run_head index) (6 * sites + 1) (omega arith) (run_short state sites),
        tt,
      ),
    )

threads_fit : (index state sites n : ℕ) → index + n ≤ 200 → sites ≤ 500 → AllByRecursion IsEncodable (classes_from index state sites n)
unfolding classes_from
threads_fit index state sites zero few sites_few = tt
threads_fit index state sites (suc n) few sites_few =
    (thread_fits index state sites (omega arith) sites_few, threads_fit (index + 1) (state_after state sites) sites n (omega arith) sites_few)

-- ---- the main class

-- The pool has the name and the class of each thread's class at their places; the first of them has this index.
abbrev HasThreads : List Const → ℕ → ℕ → Type 0
HasThreads pool index zero = ⊤
HasThreads pool index (suc n) =
    (slice_get pool (constants_place index) ≡ Some (constants.Utf8 (thread_name index))) × (slice_get pool (constants_place index + 1) ≡ Some (constants.Class (constants_place index)))
    × HasThreads pool (index + 1) n

get_after : {X : Type 0} (xs : List X) (x : X) (ys : List X) → slice_get (xs ++ x ∷ ys) (length xs) ≡ Some x
get_after [] x ys = refl
get_after (z ∷ xs) x ys = get_after xs x ys

named_count : (index : ℕ) → length (named index) ≡ 4
unfolding named
named_count index = refl

first_stands : (front rest : List Const) (index : ℕ) → length front ≡ constants_place index → slice_get (front ++ (named index ++ rest)) (constants_place index) ≡ Some (constants.Utf8 (thread_name index))
unfolding named
first_stands front rest index e =
    let others : List Const = constants.Class (constants_place index) ∷ constants.Method (constants_place index + 1) 10 ∷ constants.Method (constants_place index + 1) 12 ∷ rest in
    ap (slice_get (front ++ constants.Utf8 (thread_name index) ∷ others)) (sym e) ∙ get_after front (constants.Utf8 (thread_name index)) others

second_stands : (front rest : List Const) (index : ℕ) → length front ≡ constants_place index → slice_get (front ++ (named index ++ rest)) (constants_place index + 1) ≡ Some (constants.Class (constants_place index))
unfolding named
second_stands front rest index e =
    let name = constants.Utf8 (thread_name index) in
    let others : List Const = constants.Method (constants_place index + 1) 10 ∷ constants.Method (constants_place index + 1) 12 ∷ rest in
    let count : constants_place index + 1 ≡ length (front ++ name ∷ []) = omega (arith, length-append front (name ∷ []), e) in
    ap (slice_get (front ++ name ∷ constants.Class (constants_place index) ∷ others)) count
    ∙ ap (λ (p : List Const). slice_get p (length (front ++ name ∷ []))) (sym (append_assoc front (name ∷ []) (constants.Class (constants_place index) ∷ others)))
    ∙ get_after (front ++ name ∷ []) (constants.Class (constants_place index)) others

threads_stand : (front : List Const) (index n : ℕ) → length front ≡ constants_place index → HasThreads (front ++ named_from index n) index n
unfolding named_from
threads_stand front index zero e = tt
threads_stand front index (suc n) e =
    let rest = named_from (index + 1) n in
    let count : length (front ++ named index) ≡ constants_place (index + 1) = omega (arith, length-append front (named index), named_count index, e) in (
      first_stands front rest index e,
      second_stands front rest index e,
      subst (λ (p : List Const). HasThreads p (index + 1) n) (append_assoc front (named index) rest) (threads_stand (front ++ named index) (index + 1) n count),
    )

thread_fit : (index : ℕ) (rest : List Const) → index < 200 → AllByRecursion FitsConst rest → AllByRecursion FitsConst (named index ++ rest)
unfolding named
thread_fit index rest few h = (name_fits index few, (omega arith, ((omega arith, omega arith), ((omega arith, omega arith), h))))

pub each_named : (index n : ℕ) → index + n ≤ 200 → AllByRecursion FitsConst (named_from index n)
unfolding named_from
each_named index zero few = tt
each_named index (suc n) few = thread_fit index (named_from (index + 1) n) (omega arith) (each_named (index + 1) n (omega arith))

named_seconds : (index : ℕ) (rest : List Const) → HasSeconds false rest → HasSeconds false (named index ++ rest)
unfolding named
named_seconds index rest h = (refl, (refl, (refl, (refl, h))))

seconds_from : (index n : ℕ) → HasSeconds false (named_from index n)
unfolding named_from
seconds_from index zero = refl
seconds_from index (suc n) = named_seconds index (named_from (index + 1) n) (seconds_from (index + 1) n)

pub named_length : (index n : ℕ) → length (named_from index n) ≡ 4 * n
unfolding named_from
named_length index zero = refl
named_length index (suc n) = omega (arith, length-append (named index) (named_from (index + 1) n), named_count index, named_length (index + 1) n)

-- after the constants for the class itself
module _ (rest : List Const) where
  pub own_fit : AllByRecursion FitsConst rest → AllByRecursion FitsConst (main_own ++ rest)
  own_fit h = (
    tt,
    (
      known (codes "g/Main") (omega arith) refl,
      (
        omega arith,
        (
          known (codes "java/lang/Object") (omega arith) refl,
          (
            omega arith,
            (
              known (codes "main") (omega arith) refl,
              (
                known (codes "([Ljava/lang/String;)V") (omega arith) refl,
                (
                  known (codes "Code") (omega arith) refl,
                  (
                    known (codes "<init>") (omega arith) refl,
                    (
                      known (codes "()V") (omega arith) refl,
                      ((omega arith, omega arith), (known (codes "start") (omega arith) refl, ((omega arith, omega arith), h))),
                    ),
                  ),
                ),
              ),
            ),
          ),
        ),
      ),
    ),
  )

  own_seconds : HasSeconds false rest → HasSeconds true (main_own ++ rest)
  own_seconds h = (refl, (refl, (refl, (refl, (refl, (refl, (refl, (refl, (refl, (refl, (refl, (refl, (refl, h)))))))))))))

  own_named : AllByRecursion (IsNamed (main_own ++ rest)) rest → AllByRecursion (IsNamed (main_own ++ rest)) (main_own ++ rest)
  unfolding names
  own_named h = (tt, (tt, (refl, (tt, (refl, (tt, (tt, (tt, (tt, (tt, ((refl, refl), (tt, ((refl, refl), h)))))))))))))

  first_type : names kinds.NameAndType (main_own ++ rest) 10 ≡ true
  unfolding names
  first_type = refl

  second_type : names kinds.NameAndType (main_own ++ rest) 12 ≡ true
  unfolding names
  second_type = refl

  main_head : IsHead (main_own ++ rest) (record { flags = 0x0009; name = 5; code = 7; max_stack = 2 })
  unfolding names utf8_at
  main_head = record {
    flags = omega arith;
    name = record { fits = omega arith; named = refl };
    desc = record { fits = omega arith; named = refl };
    code = record { fits = omega arith; named = refl };
    is_code = refl;
    max_stack = omega arith;
  }

  this_named : names kinds.Class (main_own ++ rest) 2 ≡ true
  unfolding names
  this_named = refl

  super_named : names kinds.Class (main_own ++ rest) 4 ≡ true
  unfolding names
  super_named = refl

found : (kind : ConstKind) (pool : List Const) (at : ℕ) (constant : Const) → slice_get pool at ≡ Some constant → is_of kind constant ≡ true → names kind pool at ≡ true
unfolding names
found kind pool at constant there is = ap (is_one_of kind) there ∙ is

thread_is_named : (pool : List Const) (index : ℕ) (rest : List Const) → names kinds.Utf8 pool (constants_place index) ≡ true → names kinds.Class pool (constants_place index + 1) ≡ true
    → names kinds.NameAndType pool 10 ≡ true → names kinds.NameAndType pool 12 ≡ true → AllByRecursion (IsNamed pool) rest → AllByRecursion (IsNamed pool) (named index ++ rest)
unfolding named
thread_is_named pool index rest name class first second h = (tt, (name, ((class, first), ((class, second), h))))

threads_are_named : (pool : List Const) (index n : ℕ) → names kinds.NameAndType pool 10 ≡ true → names kinds.NameAndType pool 12 ≡ true → HasThreads pool index n
    → AllByRecursion (IsNamed pool) (named_from index n)
unfolding named_from
threads_are_named pool index zero first second h = tt
threads_are_named pool index (suc n) first second h =
    thread_is_named pool index (named_from (index + 1) n) (found kinds.Utf8 pool (constants_place index) (constants.Utf8 (thread_name index)) h.0 refl)
    (found kinds.Class pool (constants_place index + 1) (constants.Class (constants_place index)) h.1 refl) first second (threads_are_named pool (index + 1) n first second h.2)

main_pool : (classes : ℕ) → classes ≤ 200 → IsClassPool (main_own ++ named_from 0 classes)
main_pool classes few =
    let rest = named_from 0 classes in
    record {
      fits = record {
        count = omega (arith, length-append main_own rest, named_length 0 classes);
        each = own_fit rest (each_named 0 classes (omega arith));
        seconds = own_seconds rest (seconds_from 0 classes);
        named = own_named rest (threads_are_named (main_own ++ rest) 0 classes (first_type rest) (second_type rest) (threads_stand main_own 0 classes refl));
      };
      this = this_named rest;
      super = super_named rest;
    }

main_fits : (classes : ℕ) → classes ≤ 200 → IsEncodable (main_class classes)
unfolding main_class
main_fits classes few =
    file_fits (main_own ++ named_from 0 classes) (main_method classes ∷ []) (main_pool classes few) (omega arith) (
      method_fits (main_own ++ named_from 0 classes) (record { flags = 0x0009; name = 5; code = 7; max_stack = 2 }) (main_code classes) (main_head (named_from 0 classes)) (10 * classes + 1) (omega arith) (main_short classes few),
      tt,
    )

-- ---- names

pub thread_has_name : (index state sites : ℕ) → HasName (thread_class index state sites) (thread_name index)
unfolding thread_class class_name_at utf8_at
thread_has_name index state sites = refl

pub main_has_name : (classes : ℕ) → HasName (main_class classes) main_name
unfolding main_class class_name_at utf8_at
main_has_name classes = refl

-- ---- all files

one_more : (files : List ClassFile) (last : ClassFile) → AllByRecursion IsEncodable files → IsEncodable last → AllByRecursion IsEncodable (files ++ last ∷ [])
one_more [] last h l = (l, tt)
one_more (file ∷ files) last h l = (h.0, one_more files last h.1 l)

pub files_fit : (seed classes sites : ℕ) → classes ≤ 200 → sites ≤ 500 → AllByRecursion IsEncodable (files_of seed classes sites)
files_fit seed classes sites few sites_few =
    one_more (classes_from 0 seed sites classes) (main_class classes) (threads_fit 0 seed sites classes (omega arith) sites_few) (main_fits classes few)
