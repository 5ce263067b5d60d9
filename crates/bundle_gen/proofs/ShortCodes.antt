-- The codes of a generated bundle can be encoded, in few bytes.
use Rattle.std.proofs.Common.{◌≡◌, ℕ, zero, suc, ◌+◌, ◌*◌, ◌/◌, ◌%◌, ◌<◌, ◌≤◌, pos, Bool, true, false, cond, List, [], ◌∷◌, ◌++◌, length, Result, Ok, Err, refl, sym, subst, append_assoc, arith}
use Rattle.std.specs.Prelude.{◌==◌}
use Rattle.std.specs.List.{AllByRecursion}
use Rattle.std.proofs.lemmas.Int.{ints}
use Rattle.mon_base.specs.Answer.{Answers}
use Rattle.mon_base.specs.Widths.{IsU1, IsU2}
use Rattle.insn_codec.specs.declared.fault.CodeOverflow.{CodeOverflow}
use Rattle.insn_codec.specs.declared.fault.CodeOverflow.TheVariants as faults
use Rattle.insn_codec.specs.declared.insn.Insn.{Insn}
use Rattle.insn_codec.specs.declared.insn.Insn.TheVariants.{Plain, Short, Pool}
use Rattle.insn_codec.specs.declared.opcode.Operands.TheVariants as ops
use Rattle.insn_codec.specs.declared.opcodes.TheConstants.{ALOAD_0, DUP, INVOKESPECIAL, INVOKESTATIC, INVOKEVIRTUAL, NEW, POP, RETURN}
use Rattle.insn_codec.specs.Encoding.{encoding, len_from, size, starts_of}
use Rattle.insn_codec.specs.Fits.{AimsWithin, EncodesCode, Ends, IsEncodable, IsInsn, ReachFrom, Reaches}
use Rattle.insn_codec.specs.Opcodes.{opcode_at, operands_of}
use Rattle.insn_codec.specs.Reading.{code_of}
use Rattle.insn_codec.proofs.CodeLaws.{encoded_code}
use Rattle.insn_codec.proofs.Standing.{len_first, len_none, size-some}
use Rattle.insn_codec.proofs.WriteLaws.{len_is}
use Rattle.bundle_gen.specs.Code.{IsShortCode}
use Rattle.bundle_gen.specs.Draws.{draw, next_state}
use Rattle.bundle_gen.specs.Generated.{begun_from, constants_place, init_code, main_code, run_code, site, sites_from, thread_begun}

-- ---- a code that is written whole

abbrev refused : CodeOverflow → Result (List ℕ) CodeOverflow
refused e = Err e

not_both : (bytes : List ℕ) (e : CodeOverflow) → Ok bytes ≡ refused e → ⊥
not_both bytes e h = cc

-- It fails for want of memory alone.
pub no_fault : (insns : List Insn) (e : CodeOverflow) → IsShortCode insns → ((bytes : List ℕ) → EncodesCode bytes insns → length bytes ≤ 65535 → Answers faults.Memory (Err e) (Ok bytes))
    → (e ≡ faults.Memory → ⊥) → ⊥
no_fault insns e code back other =
    let len : length (encoding insns) ≤ 65535 = omega (arith, len_is (starts_of insns) 0 insns code.encodable.each, code.short) in
    not_both (encoding insns) e (back (encoding insns) (record { fits = code.encodable; is = refl }) len other)

-- A code without jumps, of at most so many bytes.
pub record IsShort (insns : List Insn) (bytes : ℕ) : Type 0 where
  each : AllByRecursion IsInsn insns
  aims : (n : ℕ) → AllByRecursion (AimsWithin n) insns
  reaches : (starts : List ℕ) (at : ℕ) → ReachFrom starts at insns
  ends : Ends insns
  some : 1 ≤ length insns
  few : (at : ℕ) → len_from at insns ≤ bytes

-- ---- what such a code is

-- It can be encoded.
encodes : {bytes : ℕ} (insns : List Insn) → IsShort insns bytes → IsEncodable insns
encodes insns h = record { each = h.each; targets = h.aims (length insns); offsets = h.reaches (starts_of insns) 0; ends = h.ends }

-- It is written whole.
whole : (insns : List Insn) (bytes : ℕ) → bytes ≤ 65535 → IsShort insns bytes → IsShortCode insns
whole insns bytes most h = record { encodable = encodes insns h; short = omega (arith, h.few 0, most) }

-- It is read as it is encoded.
pub read_again : {bytes : ℕ} (insns : List Insn) → IsShort insns bytes → code_of (encoding insns) ≡ Ok insns
read_again insns h = encoded_code (encoding insns) insns (record { fits = encodes insns h; is = refl })

-- It has so few bytes.
pub few_bytes : (insns : List Insn) (bytes : ℕ) → IsShort insns bytes → length (encoding insns) ≤ bytes
few_bytes insns bytes h = omega (arith, len_is (starts_of insns) 0 insns h.each, h.few 0)

-- It has some.
pub some_bytes : (insns : List Insn) (bytes : ℕ) → IsShort insns bytes → 1 ≤ length (encoding insns)
some_bytes [] bytes h = absurd (omega (arith, h.some))
some_bytes (x ∷ xs) bytes h = omega (arith, len_is (starts_of (x ∷ xs)) 0 (x ∷ xs) h.each, len_first 0 x xs, size-some 0 x)

-- ---- one instruction more

-- What ends, ends after one more.
ends_more : (x : Insn) (xs : List Insn) → 1 ≤ length xs → Ends xs → Ends (x ∷ xs)
ends_more x [] some h = absurd (omega arith)
ends_more x (y ∷ ys) some h = h

-- Such a code, after an instruction of at most n bytes.
one_more : {bytes : ℕ} {insns : List Insn} (insn : Insn) (n : ℕ) → IsInsn insn → ((most : ℕ) → AimsWithin most insn) → ((starts : List ℕ) (at : ℕ) → Reaches starts at insn)
    → ((at : ℕ) → size at insn ≤ n) → IsShort insns bytes → IsShort (insn ∷ insns) (n + bytes)
one_more {bytes} {insns} insn n is aims reaches short others = record {
  each = (is, others.each);
  aims = λ most. (aims most, others.aims most);
  reaches = λ starts at. (reaches starts at, others.reaches starts (at + size at insn));
  ends = ends_more insn insns others.some others.ends;
  some = omega arith;
  few = λ at. omega (arith, len_first at insn insns, short at, others.few (at + size at insn));
}

-- after one without an operand
plain : {bytes : ℕ} {insns : List Insn} (op : ℕ) → IsU1 op → operands_of op ≡ ops.Plain → IsShort insns bytes → IsShort (Plain op ∷ insns) (1 + bytes)
plain op small is others = one_more (Plain op) 1 (small, is) (λ most. tt) (λ starts at. tt) (λ at. omega arith) others

-- after one with a constant
pool : {bytes : ℕ} {insns : List Insn} (op index : ℕ) → IsU1 op → operands_of op ≡ ops.Pool → IsU2 index → IsShort insns bytes → IsShort (Pool op index ∷ insns) (3 + bytes)
pool op index small is within others = one_more (Pool op index) 3 (small, is, within) (λ most. tt) (λ starts at. tt) (λ at. omega arith) others

-- after a number
number : {bytes : ℕ} {insns : List Insn} (n : ℕ) → n < 1000 → IsShort insns bytes → IsShort (Short (pos n) ∷ insns) (3 + bytes)
number n within others = one_more (Short (pos n)) 3 (grind (arith, ints)) (λ most. tt) (λ starts at. tt) (λ at. omega arith) others

-- More bytes are allowed.
allowed : {insns : List Insn} (a b : ℕ) → a ≤ b → IsShort insns a → IsShort insns b
allowed a b more h = record { each = h.each; aims = h.aims; reaches = h.reaches; ends = h.ends; some = h.some; few = λ at. omega (arith, h.few at) }

-- Lists that are joined otherwise are the same.
regrouped : {bytes : ℕ} (xs ys zs : List Insn) → IsShort (xs ++ (ys ++ zs)) bytes → IsShort ((xs ++ ys) ++ zs) bytes
regrouped {bytes} xs ys zs h = subst (λ (insns : List Insn). IsShort insns bytes) (sym (append_assoc xs ys zs)) h

-- ---- the codes

-- the last instruction
returns : IsShort (Plain RETURN ∷ []) 1
unfolding opcode_at
returns = record {
  each = ((omega arith, refl), tt);
  aims = λ n. (tt, tt);
  reaches = λ starts at. (tt, tt);
  ends = refl;
  some = omega arith;
  few = λ at. omega (arith, len_first at (Plain RETURN) [], len_none (at + 1));
}

-- the code of `<init>`
pub init_short : IsShort init_code 5
unfolding opcode_at
init_short = allowed (1 + (3 + 1)) 5 (omega arith) (plain ALOAD_0 (omega arith) refl (pool INVOKESPECIAL 8 (omega arith) refl (omega arith) returns))

-- a site, before others
site_short : (drawn : ℕ) (insns : List Insn) (bytes : ℕ) → IsShort insns bytes → IsShort (site drawn ++ insns) (6 + bytes)
unfolding opcode_at site
site_short drawn insns bytes others = by (drawn % 2 == 0) where
  by : (b : Bool) → IsShort (cond b (Short (pos (drawn / 2 % 1000)) ∷ Pool INVOKESTATIC 16 ∷ []) (Pool INVOKESTATIC 20 ∷ Plain POP ∷ []) ++ insns) (6 + bytes)
  by true = allowed (3 + (3 + bytes)) (6 + bytes) (omega arith) (number (drawn / 2 % 1000) (omega arith) (pool INVOKESTATIC 16 (omega arith) refl (omega arith) others))
  by false = allowed (3 + (1 + bytes)) (6 + bytes) (omega arith) (pool INVOKESTATIC 20 (omega arith) refl (omega arith) (plain POP (omega arith) refl others))

-- the code of `run`
pub run_short : (state sites : ℕ) → IsShort (run_code state sites) (6 * sites + 1)
unfolding sites_from
run_short state zero = allowed 1 (6 * zero + 1) (omega arith) returns
run_short state (suc n) =
    let drawn = draw (next_state state) in
    let insns = sites_from (next_state state) n in
    allowed (6 + (6 * n + 1)) (6 * suc n + 1) (omega arith)
    (regrouped (site drawn) insns (Plain RETURN ∷ []) (site_short drawn (insns ++ Plain RETURN ∷ []) (6 * n + 1) (run_short (next_state state) n)))

-- what begins a thread, before others
begun_short : (index : ℕ) (insns : List Insn) (bytes : ℕ) → index < 200 → IsShort insns bytes → IsShort (thread_begun index ++ insns) (10 + bytes)
unfolding opcode_at thread_begun
begun_short index insns bytes within others =
    allowed (3 + (1 + (3 + (3 + bytes)))) (10 + bytes) (omega arith)
    (pool NEW (constants_place index + 1) (omega arith) refl (omega arith)
    (plain DUP (omega arith) refl
    (pool INVOKESPECIAL (constants_place index + 2) (omega arith) refl (omega arith)
    (pool INVOKEVIRTUAL (constants_place index + 3) (omega arith) refl (omega arith) others))))

-- what begins so many threads, the first of this index
each_begun : (index n : ℕ) → index + n ≤ 200 → IsShort (begun_from index n ++ Plain RETURN ∷ []) (10 * n + 1)
unfolding begun_from
each_begun index zero within = allowed 1 (10 * zero + 1) (omega arith) returns
each_begun index (suc n) within =
    let insns = begun_from (index + 1) n in
    allowed (10 + (10 * n + 1)) (10 * suc n + 1) (omega arith)
    (regrouped (thread_begun index) insns (Plain RETURN ∷ []) (begun_short index (insns ++ Plain RETURN ∷ []) (10 * n + 1) (omega arith) (each_begun (index + 1) n (omega arith))))

-- the code of `main`
pub main_short : (classes : ℕ) → classes ≤ 200 → IsShort (main_code classes) (10 * classes + 1)
main_short classes few = each_begun 0 classes (omega arith)

-- ---- these are written whole

pub init_whole : IsShortCode init_code
init_whole = whole init_code 5 (omega arith) init_short

pub run_whole : (state sites : ℕ) → sites ≤ 500 → IsShortCode (run_code state sites)
run_whole state sites few = whole (run_code state sites) (6 * sites + 1) (omega arith) (run_short state sites)

pub main_whole : (classes : ℕ) → classes ≤ 200 → IsShortCode (main_code classes)
main_whole classes few = whole (main_code classes) (10 * classes + 1) (omega arith) (main_short classes few)
