-- The class files that are made are not too many bytes to be counted.
use Rattle.std.proofs.Common.{◌≡◌, ℕ, zero, suc, ◌+◌, ◌*◌, ◌<◌, ◌≤◌, ◌^◌, List, [], ◌∷◌, ◌++◌, length, arith}
use Rattle.std.specs.Int.{w32, w64, cast_unsigned}
use Rattle.std.specs.List.{AllByRecursion, flat_map}
use Rattle.std.proofs.lemmas.List.{length-append}
use Rattle.byteorder.specs.Numbers.{length-bytes_high_first}
use Rattle.mon_base.specs.Widths.{u1, u2, u4, u8}
use Rattle.class_codec.specs.declared.tree.ClassFile.{ClassFile}
use Rattle.class_codec.specs.declared.tree.Code.{Code}
use Rattle.class_codec.specs.declared.tree.Const.{Const}
use Rattle.class_codec.specs.declared.tree.Const.TheVariants as constants
use Rattle.class_codec.specs.declared.tree.Member.{Member}
use Rattle.class_codec.specs.Encoding.{body, constant, contents, encoding, member, with_count}
use Rattle.class_codec.specs.Fits.{FitsConst}
use Rattle.insn_codec.specs.declared.insn.Insn.{Insn}
use Rattle.insn_codec.specs.Encoding as insns
use Rattle.bundle_gen.specs.declared.members.Head.{Head}
use Rattle.bundle_gen.specs.Draws.{state_after}
use Rattle.bundle_gen.specs.Generated.{class_file, classes_from, files_of, init_code, init_method, library, main_class, main_code, main_method, main_own, method, named_from, run_code, run_method, thread_class, thread_own}
use Rattle.bundle_gen.specs.Sizes.{bytes_of}
use Rattle.bundle_gen.proofs.ShortCodes.{IsShort, few_bytes, init_short, main_short, run_short}
use Rattle.bundle_gen.proofs.Files.{contents_few, each_named, each_of_thread, named_length, own_fit}

-- ---- pools

pair_len : (tag a b : ℕ) → length (u1 tag ++ u2 a ++ u2 b) ≤ 70000
pair_len tag a b =
    omega (arith, length-append (u1 tag) (u2 a ++ u2 b), length-append (u2 a) (u2 b), length-bytes_high_first 1 tag, length-bytes_high_first 2 a, length-bytes_high_first 2 b)

index_len : (tag a : ℕ) → length (u1 tag ++ u2 a) ≤ 70000
index_len tag a = omega (arith, length-append (u1 tag) (u2 a), length-bytes_high_first 1 tag, length-bytes_high_first 2 a)

constant_len : (c : Const) → FitsConst c → length (constant c) ≤ 70000
constant_len (constants.Utf8 text) fits =
    let few = fits.0 in
    omega (arith, length-append (u1 1) (u2 (length text) ++ text), length-append (u2 (length text)) text, length-bytes_high_first 1 1, length-bytes_high_first 2 (length text), few)
constant_len (constants.Integer n) fits =
    let bits = cast_unsigned w32 n in
    omega (arith, length-append (u1 3) (u4 bits), length-bytes_high_first 1 3, length-bytes_high_first 4 bits)
constant_len (constants.Float bits) fits = omega (arith, length-append (u1 4) (u4 bits), length-bytes_high_first 1 4, length-bytes_high_first 4 bits)
constant_len (constants.Long n) fits =
    let bits = cast_unsigned w64 n in
    omega (arith, length-append (u1 5) (u8 bits), length-bytes_high_first 1 5, length-bytes_high_first 8 bits)
constant_len (constants.Double bits) fits = omega (arith, length-append (u1 6) (u8 bits), length-bytes_high_first 1 6, length-bytes_high_first 8 bits)
constant_len (constants.Class name) fits = index_len 7 name
constant_len (constants.Str text) fits = index_len 8 text
constant_len (constants.Field class name) fits = pair_len 9 class name
constant_len (constants.Method class name) fits = pair_len 10 class name
constant_len (constants.IMethod class name) fits = pair_len 11 class name
constant_len (constants.NameAndType name desc) fits = pair_len 12 name desc
constant_len constants.Second fits = omega arith

pool_len : (pool : List Const) → AllByRecursion FitsConst pool → length (flat_map constant pool) ≤ 70000 * length pool
pool_len [] h = omega arith
pool_len (c ∷ pool) h = omega (arith, length-append (constant c) (flat_map constant pool), constant_len c h.0, pool_len pool h.1)

-- ---- methods

counted_len : {X : Type 0} (item : X → List ℕ) (items : List X) → length (with_count item items) ≡ 2 + length (flat_map item items)
counted_len item items = omega (arith, length-append (u2 (length items)) (flat_map item items), length-bytes_high_first 2 (length items))

abbrev code_of : Head → List Insn → Code
code_of head code = record { name = head.code; max_stack = head.max_stack; max_locals = 1; code = insns.encoding code; table = []; attrs = [] }

method_len : (head : Head) (code : List Insn) (bytes : ℕ) → bytes ≤ 65535 → IsShort code bytes → length (member (method head code)) ≤ 2 ^ 33
method_len head code bytes most short =
    let inner = contents (code_of head code) in
    let few : length inner < 2 ^ 32 = contents_few head code (omega (arith, few_bytes code bytes short, most)) in
    let attrs = u2 1 ++ ((u2 head.code ++ (u4 (length inner) ++ inner)) ++ []) in
    omega (
      arith,
      few,
      length-append (u2 head.flags) (u2 head.name ++ u2 6 ++ attrs),
      length-append (u2 head.name) (u2 6 ++ attrs),
      length-append (u2 6) attrs,
      length-append (u2 1) ((u2 head.code ++ (u4 (length inner) ++ inner)) ++ []),
      length-append (u2 head.code ++ (u4 (length inner) ++ inner)) [],
      length-append (u2 head.code) (u4 (length inner) ++ inner),
      length-append (u4 (length inner)) inner,
      length-bytes_high_first 2 head.flags,
      length-bytes_high_first 2 head.name,
      length-bytes_high_first 2 6,
      length-bytes_high_first 2 1,
      length-bytes_high_first 2 head.code,
      length-bytes_high_first 4 (length inner),
    )

-- ---- class files

body_len : (pool : List Const) (methods : List Member) → length (body (class_file pool methods)) ≡ 14 + length (flat_map member methods)
body_len pool methods =
    let end = with_count member methods ++ (u2 0 ++ []) in
    let members = (u2 0 ++ []) ++ ((u2 0 ++ []) ++ end) in
    omega (
      arith,
      length-append (u2 0x0021) (u2 2 ++ u2 4 ++ members),
      length-append (u2 2) (u2 4 ++ members),
      length-append (u2 4) members,
      length-append (u2 0 ++ []) ((u2 0 ++ []) ++ end),
      length-append (u2 0 ++ []) end,
      length-append (with_count member methods) (u2 0 ++ []),
      length-append (u2 0) [],
      counted_len member methods,
      length-bytes_high_first 2 0x0021,
      length-bytes_high_first 2 2,
      length-bytes_high_first 2 4,
      length-bytes_high_first 2 0,
    )

file_len : (pool : List Const) (methods : List Member) → length (encoding (class_file pool methods)) ≡ 24 + length (flat_map constant pool) + length (flat_map member methods)
file_len pool methods =
    let end = body (class_file pool methods) in
    omega (
      arith,
      length-append (u4 0xCAFEBABE) (u2 0 ++ u2 49 ++ (with_count constant pool ++ end)),
      length-append (u2 0) (u2 49 ++ (with_count constant pool ++ end)),
      length-append (u2 49) (with_count constant pool ++ end),
      length-append (with_count constant pool) end,
      counted_len constant pool,
      body_len pool methods,
      length-bytes_high_first 4 0xCAFEBABE,
      length-bytes_high_first 2 0,
      length-bytes_high_first 2 49,
    )

thread_len : (index state sites : ℕ) → index < 200 → sites ≤ 500 → length (encoding (thread_class index state sites)) ≤ 2 ^ 35
unfolding thread_class
thread_len index state sites few sites_few =
    let pool = thread_own index ++ library in
    let init = init_method in
    let run = run_method state sites in
    let init_few : length (member init) ≤ 2 ^ 33 = method_len (record { flags = 0x0001; name = 5; code = 10; max_stack = 1 }) init_code 5 (omega arith) init_short in
    let run_few : length (member run) ≤ 2 ^ 33 = method_len (record { flags = 0x0001; name = 9; code = 10; max_stack = 1 }) (run_code state sites) (6 * sites + 1) (omega arith) (run_short state sites) in
    let constants_few : length (flat_map constant pool) ≤ 70000 * 21 = pool_len pool (each_of_thread index few) in
    let methods : length (flat_map member (init ∷ run ∷ [])) ≡ length (member init) + (length (member run) + 0) =
    omega (arith, length-append (member init) (member run ++ []), length-append (member run) []) in
    omega (arith, file_len pool (init ∷ run ∷ []), constants_few, methods, init_few, run_few)

main_len : (classes : ℕ) → classes ≤ 200 → length (encoding (main_class classes)) ≤ 2 ^ 35
unfolding main_class
main_len classes few =
    let rest = named_from 0 classes in
    let pool = main_own ++ rest in
    let main = main_method classes in
    let main_few : length (member main) ≤ 2 ^ 33 = method_len (record { flags = 0x0009; name = 5; code = 7; max_stack = 2 }) (main_code classes) (10 * classes + 1) (omega arith) (main_short classes few) in
    let constants_few = pool_len pool (own_fit rest (each_named 0 classes (omega arith))) in
    let count : length pool ≤ 813 = omega (arith, length-append main_own rest, named_length 0 classes, few) in
    let methods : length (flat_map member (main ∷ [])) ≡ length (member main) + 0 = omega (arith, length-append (member main) []) in
    omega (arith, file_len pool (main ∷ []), constants_few, count, methods, main_few)

-- ---- all files

bytes_on : (files : List ClassFile) (last : ClassFile) → bytes_of (files ++ last ∷ []) ≡ bytes_of files + length (encoding last)
unfolding bytes_of
bytes_on [] last = omega arith
bytes_on (file ∷ files) last = omega (arith, bytes_on files last)

threads_len : (index state sites n : ℕ) → index + n ≤ 200 → sites ≤ 500 → bytes_of (classes_from index state sites n) ≤ n * 2 ^ 35
unfolding classes_from bytes_of
threads_len index state sites zero few sites_few = omega arith
threads_len index state sites (suc n) few sites_few =
    omega (arith, thread_len index state sites (omega arith) sites_few, threads_len (index + 1) (state_after state sites) sites n (omega arith) sites_few)

pub bytes_few : (seed classes sites : ℕ) → classes ≤ 200 → sites ≤ 500 → bytes_of (files_of seed classes sites) < 2 ^ 48
bytes_few seed classes sites few sites_few =
    omega (
      arith,
      bytes_on (classes_from 0 seed sites classes) (main_class classes),
      threads_len 0 seed sites classes (omega arith) sites_few,
      main_len classes few,
      few,
    )
