-- The class files of a generated bundle have at most 16 MiB in all.
use Rattle.std.proofs.Common.{◌≡◌, ℕ, zero, suc, ◌+◌, ◌*◌, ◌<◌, ◌≤◌, List, [], ◌∷◌, ◌++◌, length, refl, arith}
use Rattle.std.specs.List.{AllByRecursion, flat_map}
use Rattle.std.proofs.lemmas.Fmt.{length-decimal-le}
use Rattle.std.proofs.lemmas.List.{length-append}
use Rattle.mon_base.specs.Widths.{u2}
use Rattle.class_codec.specs.declared.tree.ClassFile.{ClassFile}
use Rattle.class_codec.specs.declared.tree.Const.{Const}
use Rattle.class_codec.specs.declared.tree.Const.TheVariants as constants
use Rattle.class_codec.specs.declared.tree.Member.{Member}
use Rattle.class_codec.specs.Encoding.{constant, encoding, member}
use Rattle.insn_codec.specs.declared.insn.Insn.{Insn}
use Rattle.insn_codec.specs.Encoding as insns
use Rattle.bundle_gen.specs.declared.members.Head.{Head}
use Rattle.bundle_gen.specs.Draws.{state_after}
use Rattle.bundle_gen.specs.Generated.{class_file, classes_from, files_of, init_code, init_method, library, main_class, main_code, main_method, main_own, method, named, named_from, run_code, run_method, thread_class, thread_name, thread_own}
use Rattle.bundle_gen.specs.Sizes.{bytes_of}
use Rattle.bundle_gen.proofs.ShortCodes.{few_bytes, init_short, main_short, run_short}

-- ---- pools

-- a constant of at most 60 bytes
abbrev IsShort : Const → Type 0
IsShort c = length (constant c) ≤ 60

-- The name of a thread's class is such a one.
name_short : (index : ℕ) → index < 200 → IsShort (constants.Utf8 (thread_name index))
name_short index few = omega (arith, length-decimal-le 10 index (omega arith) (omega arith) (omega arith))

-- The bytes of such constants.
pool_len : (pool : List Const) → AllByRecursion IsShort pool → length (flat_map constant pool) ≤ 60 * length pool
pool_len [] h = omega arith
pool_len (c ∷ pool) h = omega (arith, length-append (constant c) (flat_map constant pool), h.0, pool_len pool h.1)

-- The constants for the methods of the library are such.
each_of_library : AllByRecursion IsShort library
each_of_library = (omega arith, (omega arith, (omega arith, (omega arith, (omega arith, (omega arith, (omega arith, (omega arith, (omega arith, (omega arith, tt))))))))))

-- So are those of a thread's class.
each_of_thread : (index : ℕ) → index < 200 → AllByRecursion IsShort (thread_own index ++ library)
each_of_thread index few = (omega arith, (name_short index few, (omega arith, (omega arith, (omega arith, (omega arith, (omega arith, (omega arith, (omega arith, (omega arith, (omega arith, each_of_library)))))))))))

-- So are those of the main class, if those for the threads are.
each_of_main : (rest : List Const) → AllByRecursion IsShort rest → AllByRecursion IsShort (main_own ++ rest)
each_of_main rest h = (omega arith, (omega arith, (omega arith, (omega arith, (omega arith, (omega arith, (omega arith, (omega arith, (omega arith, (omega arith, (omega arith, (omega arith, (omega arith, h)))))))))))))

-- Those for one thread, before others.
one_named : (index : ℕ) (rest : List Const) → index < 200 → AllByRecursion IsShort rest → AllByRecursion IsShort (named index ++ rest)
unfolding named
one_named index rest few h = (name_short index few, (omega arith, (omega arith, (omega arith, h))))

-- Those for so many threads.
each_named : (index n : ℕ) → index + n ≤ 200 → AllByRecursion IsShort (named_from index n)
unfolding named_from
each_named index zero few = tt
each_named index (suc n) few = one_named index (named_from (index + 1) n) (omega arith) (each_named (index + 1) n (omega arith))

-- There are four for each.
pub four_named : (index : ℕ) → length (named index) ≡ 4
unfolding named
four_named index = refl

-- So many are there for all.
named_length : (index n : ℕ) → length (named_from index n) ≡ 4 * n
unfolding named_from
named_length index zero = refl
named_length index (suc n) = omega (arith, length-append (named index) (named_from (index + 1) n), four_named index, named_length (index + 1) n)

-- ---- methods

-- A method has 26 bytes more than its code.
method_len : (head : Head) (code : List Insn) → length (member (method head code)) ≡ 26 + length (insns.encoding code)
method_len head code =
    let bytes = insns.encoding code in
    let rest : List ℕ = (u2 0 ++ []) ++ (u2 0 ++ []) in
    omega (arith, length-append (bytes ++ rest) [], length-append bytes rest)

-- ---- class files

-- A class file has 24 bytes more than its constants and methods.
file_len : (pool : List Const) (methods : List Member) → length (encoding (class_file pool methods)) ≡ 24 + length (flat_map constant pool) + length (flat_map member methods)
file_len pool methods =
    let items = flat_map constant pool in
    let members = flat_map member methods in
    let rest = u2 0x0021 ++ u2 2 ++ u2 4 ++ ((u2 0 ++ []) ++ ((u2 0 ++ []) ++ ((u2 (length methods) ++ members) ++ (u2 0 ++ [])))) in
    omega (arith, length-append items rest, length-append members (u2 0 ++ []))

-- The class of a thread has at most 4,400 bytes.
thread_len : (index state sites : ℕ) → index < 200 → sites ≤ 500 → length (encoding (thread_class index state sites)) ≤ 4400
unfolding thread_class
thread_len index state sites few sites_few =
    let pool = thread_own index ++ library in
    let init = init_method in
    let run = run_method state sites in
    let constants_few : length (flat_map constant pool) ≤ 60 * 21 = pool_len pool (each_of_thread index few) in
    let init_few : length (member init) ≡ 26 + length (insns.encoding init_code) = method_len (record { flags = 0x0001; name = 5; code = 10; max_stack = 1 }) init_code in
    let run_few : length (member run) ≡ 26 + length (insns.encoding (run_code state sites)) = method_len (record { flags = 0x0001; name = 9; code = 10; max_stack = 1 }) (run_code state sites) in
    let methods : length (flat_map member (init ∷ run ∷ [])) ≡ length (member init) + (length (member run) + 0) =
    omega (arith, length-append (member init) (member run ++ []), length-append (member run) []) in
    omega (arith, file_len pool (init ∷ run ∷ []), constants_few, methods, init_few, run_few, few_bytes init_code 5 init_short, few_bytes (run_code state sites) (6 * sites + 1) (run_short state sites))

-- The main class has at most 51,000.
main_len : (classes : ℕ) → classes ≤ 200 → length (encoding (main_class classes)) ≤ 51000
unfolding main_class
main_len classes few =
    let rest = named_from 0 classes in
    let pool = main_own ++ rest in
    let main = main_method classes in
    let constants_few = pool_len pool (each_of_main rest (each_named 0 classes (omega arith))) in
    let count : length pool ≤ 813 = omega (arith, length-append main_own rest, named_length 0 classes, few) in
    let main_few : length (member main) ≡ 26 + length (insns.encoding (main_code classes)) = method_len (record { flags = 0x0009; name = 5; code = 7; max_stack = 2 }) (main_code classes) in
    let methods : length (flat_map member (main ∷ [])) ≡ length (member main) + 0 = omega (arith, length-append (member main) []) in
    omega (arith, file_len pool (main ∷ []), constants_few, count, methods, main_few, few_bytes (main_code classes) (10 * classes + 1) (main_short classes few))

-- ---- all files

-- One file more.
bytes_on : (files : List ClassFile) (last : ClassFile) → bytes_of (files ++ last ∷ []) ≡ bytes_of files + length (encoding last)
unfolding bytes_of
bytes_on [] last = omega arith
bytes_on (file ∷ files) last = omega (arith, bytes_on files last)

-- The bytes of so many classes of threads.
threads_len : (index state sites n : ℕ) → index + n ≤ 200 → sites ≤ 500 → bytes_of (classes_from index state sites n) ≤ n * 4400
unfolding classes_from bytes_of
threads_len index state sites zero few sites_few = omega arith
threads_len index state sites (suc n) few sites_few =
    omega (arith, thread_len index state sites (omega arith) sites_few, threads_len (index + 1) (state_after state sites) sites n (omega arith) sites_few)

-- The bytes of all files.
pub bytes_few : (seed classes sites : ℕ) → classes ≤ 200 → sites ≤ 500 → bytes_of (files_of seed classes sites) ≤ 16777216
bytes_few seed classes sites few sites_few =
    omega (
      arith,
      bytes_on (classes_from 0 seed sites classes) (main_class classes),
      threads_len 0 seed sites classes (omega arith) sites_few,
      main_len classes few,
      few,
    )
