-- The code of a method with its blocks can be encoded.
use Rattle.std.proofs.Common.{◌≡◌, ℕ, zero, suc, ◌+◌, ◌-◌, ◌*◌, ◌<◌, ◌≤◌, ◌^◌, Bool, true, false, List, [], ◌∷◌, ◌++◌, length, Option, Some, None, option_map, Result, Ok, Err, refl, sym, ap, subst, ◌∙◌, arith}
use Rattle.std.specs.Prelude.{slice_index, nat_le, nat_lt, bytes_eq, codes, if◌then◌else◌, pos}
use Rattle.std.specs.List.{AllByRecursion, flat_map, filter_map, cons_option}
use Rattle.std.proofs.lemmas.Bool.Decides.{nat_tests}
use Rattle.std.proofs.lemmas.List.{length-append}
use Rattle.byteorder.specs.Endian.{big_bytes}
use Rattle.byteorder.specs.Numbers.{length-bytes_high_first}
use Rattle.mon_base.specs.Reading.{◌>>=◌, need}
use Rattle.mon_base.proofs.Reading.{bind_ok, ok_is, need_ok}
use Rattle.class_codec.specs.declared.tree.Code.{Code}
use Rattle.class_codec.specs.declared.tree.Const.{Const}
use Rattle.class_codec.specs.declared.tree.TableEntry.{TableEntry}
use Rattle.class_codec.specs.declared.tree.Other.{Other}
use Rattle.mon_base.specs.Widths.{u2, u4}
use Rattle.class_codec.specs.Encoding as encode
use Rattle.class_codec.specs.declared.pool.ConstKind.TheVariants as kinds
use Rattle.class_codec.specs.Fits.{IsIndex, FitsTableEntry, FitsOther, FitsCode}
use Rattle.bytecode_model.specs.Heads.{text_at}
use Rattle.insn_codec.specs.declared.fault.CodeOverflow.{CodeOverflow}
use Rattle.insn_codec.specs.declared.fault.CodeOverflow.TheVariants as codes
use Rattle.insn_codec.specs.declared.insn.Insn.{Insn}
use Rattle.insn_codec.specs.Fits.{IsInsn}
use Rattle.insn_codec.specs.Encoding.{size, starts_of, starts_from, len_from, encoding}
use Rattle.insn_codec.specs.Writing.{written, reach_from}
use Rattle.insn_codec.proofs.Standing.{len_first, size-some}
use Rattle.insn_codec.proofs.WriteLaws.{len_is}
use Rattle.bytecode_model.specs.declared.program.Handler.{Handler}
use Rattle.bytecode_model.specs.declared.program.Method.{Method}
use Rattle.offset_patch.specs.declared.block.Block.{Block}
use Rattle.offset_patch.specs.declared.fault.Size.{Size}
use Rattle.offset_patch.specs.declared.fault.Size.TheVariants as sizes
use Rattle.offset_patch.specs.declared.fault.SpliceFault.{SpliceFault}
use Rattle.offset_patch.specs.declared.fault.SpliceFault.TheVariants as faults
use Rattle.offset_patch.specs.Fault.{fitted, code_fitted}
use Rattle.offset_patch.specs.Splicing.{fronts_of, spliced, table_moved, call_place, caught_by, own_entries, handler_of, catching, begins, room, code_with, code_spliced}
use Rattle.offset_patch.specs.Lines.{attr_kept, each_kept, are_within, attrs_kept, start_moved}
use Rattle.offset_patch.specs.Lines as lines
use Rattle.offset_patch.proofs.Lists.{all_append}

-- ---- sizes that fit

pub fitted_is : (class : List ℕ) (method : ℕ) (what : Size) (value : ℕ) → fitted class method what value ≡ Ok tt → value ≤ 65535
fitted_is class method what value e = by (nat_le value 65535) refl e
  where
    by : (b : Bool) → nat_le value 65535 ≡ b → need b (faults.Overflow class method what (pos value)) ≡ Ok tt → value ≤ 65535
    by true n f = grind (arith, nat_tests)
    by false n f = absurd cc

pub room_is : (class : List ℕ) (method : ℕ) (code : Code) (locals : ℕ) → room class method code locals ≡ Ok tt → (code.max_stack + 3 ≤ 65535) × (code.max_locals + locals ≤ 65535)
room_is class method code locals e =
    let one = bind_ok (fitted class method sizes.Stack (code.max_stack + 3)) (λ stack. fitted class method sizes.Locals (code.max_locals + locals)) tt e in
    (fitted_is class method sizes.Stack (code.max_stack + 3) one.1, fitted_is class method sizes.Locals (code.max_locals + locals) one.2)

code_is : (class : List ℕ) (method : ℕ) (r : Result (List ℕ) CodeOverflow) (bytes : List ℕ) → code_fitted class method r ≡ Ok bytes → r ≡ Ok bytes
code_is class method (Ok x) bytes e = ap Ok (ok_is SpliceFault x bytes e)
code_is class method (Err (codes.Length value)) bytes e = absurd cc
code_is class method (Err (codes.Branch value)) bytes e = absurd cc
code_is class method (Err codes.Memory) bytes e = absurd cc

-- what is written is short, and encodes the instructions
pub written_is : (insns : List Insn) (bytes : List ℕ) → written insns ≡ Ok bytes → (len_from 0 insns ≤ 65535) × (encoding insns ≡ bytes)
unfolding written
written_is insns bytes e =
    let one = need_ok (nat_le (len_from 0 insns) 65535) (codes.Length (len_from 0 insns)) (λ short. reach_from (starts_of insns) 0 insns >>= λ held. Ok (encoding insns)) bytes e in
    let short = one.0 in
    let two = bind_ok (reach_from (starts_of insns) 0 insns) (λ held. Ok (encoding insns)) bytes one.1 in
    (grind (arith, nat_tests), ok_is CodeOverflow (encoding insns) bytes two.2)

len_some : (insns : List Insn) → 1 ≤ length insns → 1 ≤ len_from 0 insns
len_some [] h = absurd (omega arith)
len_some (x ∷ xs) h = omega (arith, len_first 0 x xs, size-some 0 x)

-- ---- the exception table

starts_within : (xs : List Insn) (at i : ℕ) → slice_index (starts_from at xs) i ≤ at + len_from at xs
unfolding starts_from
starts_within [] at zero = omega arith
starts_within [] at (suc i) = omega arith
starts_within (x ∷ xs) at zero = omega arith
starts_within (x ∷ xs) at (suc i) = omega (arith, len_first at x xs, starts_within xs (at + size at x) i)

starts_few : (insns : List Insn) (i : ℕ) → len_from 0 insns ≤ 65535 → slice_index (starts_of insns) i < 2 ^ 16
starts_few insns i short = omega (arith, starts_within insns 0 i)

table_fits : (pool : List Const) (insns : List Insn) (fronts : List ℕ) (handlers : List Handler) (entries : List TableEntry) → len_from 0 insns ≤ 65535
    → AllByRecursion (FitsTableEntry pool) entries → AllByRecursion (FitsTableEntry pool) (table_moved (starts_of insns) fronts handlers entries)
table_fits pool insns fronts [] entries short h = tt
table_fits pool insns fronts (handler ∷ handlers) [] short h = tt
table_fits pool insns fronts (handler ∷ handlers) (entry ∷ entries) short h = (
  record {
    from = starts_few insns (slice_index fronts handler.from) short;
    to = starts_few insns (slice_index fronts handler.to) short;
    at = starts_few insns (slice_index fronts handler.at) short;
    class = h.0.class;
    named = h.0.named;
  },
  table_fits pool insns fronts handlers entries short h.1,
)

table_count : (starts fronts : List ℕ) (handlers : List Handler) (entries : List TableEntry) → length (table_moved starts fronts handlers entries) ≤ length entries
table_count starts fronts [] entries = omega arith
table_count starts fronts (handler ∷ handlers) [] = omega arith
table_count starts fronts (handler ∷ handlers) (entry ∷ entries) = omega (arith, table_count starts fronts handlers entries)

-- entries of blocks catch anything, at places of the code
own_fit : (pool : List Const) (insns : List Insn) (begin : ℕ) (sites : List (Option Block)) → len_from 0 insns ≤ 65535 → AllByRecursion (FitsTableEntry pool) (own_entries (starts_of insns) begin sites)
own_fit pool insns begin [] short = tt
own_fit pool insns begin (None ∷ sites) short = own_fit pool insns (begin + 1) sites short
own_fit pool insns begin (Some block ∷ sites) short =
    all_append (FitsTableEntry pool) (caught_by (starts_of insns) begin block.insns block.handler) (own_entries (starts_of insns) (begin + length block.insns) sites) (by block.handler)
    (own_fit pool insns (begin + length block.insns) sites short)
  where
    by : (handler : Option ℕ) → AllByRecursion (FitsTableEntry pool) (caught_by (starts_of insns) begin block.insns handler)
    by None = tt
    by (Some place) = (
      record {
        from = starts_few insns (begin + call_place block.insns) short;
        to = starts_few insns (begin + call_place block.insns + 1) short;
        at = starts_few insns (begin + place) short;
        class = omega arith;
        named = refl;
      },
      tt,
    )

own_count : (starts : List ℕ) (begin : ℕ) (sites : List (Option Block)) → length (own_entries starts begin sites) ≡ catching sites
own_count starts begin [] = refl
own_count starts begin (None ∷ sites) = own_count starts (begin + 1) sites
own_count starts begin (Some block ∷ sites) = by block.handler (own_count starts (begin + length block.insns) sites)
  where
    rest : List TableEntry
    rest = own_entries starts (begin + length block.insns) sites

    by : (handler : Option ℕ) → length rest ≡ catching sites → length (caught_by starts begin block.insns handler ++ rest) ≡ length (cons_option handler (filter_map handler_of sites))
    by None others = others
    by (Some place) others = ap suc others

-- ---- line numbers

kept_names : (pool : List Const) (moved : ℕ → Option ℕ) (attrs : List Other) → AllByRecursion (FitsOther pool) attrs → AllByRecursion (λ o. IsIndex kinds.Utf8 pool o.name) (each_kept pool moved attrs)
kept_names pool moved [] h = tt
kept_names pool moved (attr ∷ attrs) h = by (bytes_eq (text_at pool attr.name) (codes "LineNumberTable")) (lines.table_moved moved attr.bytes) (kept_names pool moved attrs h.1)
  where
    Named : Other → Type 0
    Named o = IsIndex kinds.Utf8 pool o.name

    by : (b : Bool) (o : Option (List ℕ)) → AllByRecursion Named (each_kept pool moved attrs) → AllByRecursion Named (cons_option (if b then option_map (λ bytes. record { name = attr.name; bytes = bytes }) o else None) (each_kept pool moved attrs))
    by true None others = others
    by true (Some bytes) others = (h.0.name, others)
    by false o others = others

kept_count : (pool : List Const) (moved : ℕ → Option ℕ) (attrs : List Other) → length (each_kept pool moved attrs) ≤ length attrs
kept_count pool moved [] = omega arith
kept_count pool moved (attr ∷ attrs) = by (attr_kept pool moved attr) (kept_count pool moved attrs)
  where
    by : (o : Option Other) → length (each_kept pool moved attrs) ≤ length attrs → length (cons_option o (each_kept pool moved attrs)) ≤ length (attr ∷ attrs)
    by None few = omega (arith, few)
    by (Some other) few = omega (arith, few)

-- each that is within so many bytes has no more
within_first : (room : ℕ) (attr : Other) (attrs : List Other) → are_within room (attr ∷ attrs) ≡ true → (6 + length attr.bytes ≤ room) × (are_within (room - (6 + length attr.bytes)) attrs ≡ true)
within_first room attr attrs = by (nat_lt room (6 + length attr.bytes)) refl
  where
    by : (b : Bool) → nat_lt room (6 + length attr.bytes) ≡ b → (if b then false else are_within (room - (6 + length attr.bytes)) attrs) ≡ true
        → (6 + length attr.bytes ≤ room) × (are_within (room - (6 + length attr.bytes)) attrs ≡ true)
    by true n e = absurd cc
    by false n e = (grind (arith, nat_tests), e)

within_fit : (pool : List Const) (room : ℕ) (attrs : List Other) → room ≤ 2 ^ 31 → are_within room attrs ≡ true → AllByRecursion (λ o. IsIndex kinds.Utf8 pool o.name) attrs → AllByRecursion (FitsOther pool) attrs
within_fit pool room [] few w h = tt
within_fit pool room (attr ∷ attrs) few w h =
    let first = within_first room attr attrs w in
    (record { name = h.0; bytes = omega (arith, first.0) }, within_fit pool (room - (6 + length attr.bytes)) attrs (omega arith) first.1 h.1)

within_len : (room : ℕ) (attrs : List Other) → are_within room attrs ≡ true → length (flat_map encode.other attrs) ≤ room
within_len room [] w = omega arith
within_len room (attr ∷ attrs) w =
    let first = within_first room attr attrs w in
    let rest = within_len (room - (6 + length attr.bytes)) attrs first.1 in
    omega (
      arith,
      first.0,
      rest,
      length-append (encode.other attr) (flat_map encode.other attrs),
      length-append (u2 attr.name) (encode.block attr.bytes),
      length-append (u4 (length attr.bytes)) attr.bytes,
      length-bytes_high_first 2 attr.name,
      length-bytes_high_first 4 (length attr.bytes),
    )

-- what is kept of the attributes can be encoded
record AreKept (pool : List Const) (olds attrs : List Other) : Type 0 where
  count : length attrs ≤ length olds
  each : AllByRecursion (FitsOther pool) attrs
  len : length (flat_map encode.other attrs) ≤ 2 ^ 31

attrs_are : (pool : List Const) (moved : ℕ → Option ℕ) (attrs : List Other) → AllByRecursion (FitsOther pool) attrs → AreKept pool attrs (attrs_kept pool moved attrs)
attrs_are pool moved attrs h = by (are_within (2 ^ 31) made) refl
  where
    made : List Other
    made = each_kept pool moved attrs

    by : (b : Bool) → are_within (2 ^ 31) made ≡ b → AreKept pool attrs (if b then made else [])
    by true w =
        record { count = kept_count pool moved attrs; each = within_fit pool (2 ^ 31) made (omega arith) w (kept_names pool moved attrs h); len = within_len (2 ^ 31) made w }
    by false w = record { count = omega arith; each = tt; len = omega arith }

-- ---- how long the attribute is

entries_len : (entries : List TableEntry) → length (flat_map encode.table_entry entries) ≤ 8 * length entries
entries_len [] = omega arith
entries_len (e ∷ entries) =
    let a = big_bytes 2 e.from in
    let b = big_bytes 2 e.to in
    let c = big_bytes 2 e.at in
    let d = big_bytes 2 e.class in
    omega (
      arith,
      length-append (encode.table_entry e) (flat_map encode.table_entry entries),
      length-append (a ++ b ++ c) d,
      length-append (a ++ b) c,
      length-append a b,
      length-bytes_high_first 2 e.from,
      length-bytes_high_first 2 e.to,
      length-bytes_high_first 2 e.at,
      length-bytes_high_first 2 e.class,
      entries_len entries,
    )

contents_len : (c : Code) → length c.code ≤ 65535 → length c.table < 2 ^ 16 → length (flat_map encode.other c.attrs) ≤ 2 ^ 31 → length (encode.contents c) < 2 ^ 32
contents_len c short few lines =
    let head = u2 c.max_stack ++ u2 c.max_locals in
    let code = encode.block c.code in
    let table = encode.with_count encode.table_entry c.table in
    let attrs = encode.with_count encode.other c.attrs in
    omega (
      arith,
      lines,
      length-append head (code ++ (table ++ attrs)),
      length-append code (table ++ attrs),
      length-append table attrs,
      length-append (u2 (length c.attrs)) (flat_map encode.other c.attrs),
      length-bytes_high_first 2 (length c.attrs),
      length-append (u2 c.max_stack) (u2 c.max_locals),
      length-bytes_high_first 2 c.max_stack,
      length-bytes_high_first 2 c.max_locals,
      length-append (u4 (length c.code)) c.code,
      length-bytes_high_first 4 (length c.code),
      length-append (u2 (length c.table)) (flat_map encode.table_entry c.table),
      length-bytes_high_first 2 (length c.table),
      entries_len c.table,
    )

-- ---- the code

with_fits : (pool : List Const) (method : Method) (code : Code) (locals : ℕ) (sites : List (Option Block)) (insns : List Insn) (bytes : List ℕ) → FitsCode pool code
    → code.max_stack + 3 ≤ 65535 → code.max_locals + locals ≤ 65535 → length code.table + catching sites ≤ 65535 → AllByRecursion IsInsn insns → 1 ≤ length insns → len_from 0 insns ≤ 65535
    → encoding insns ≡ bytes → FitsCode pool (code_with pool method code locals sites insns bytes)
with_fits pool method code locals sites insns bytes h stack slots rows each some short is =
    let starts = starts_of insns in
    let len : length bytes ≡ len_from 0 insns = sym (ap length is) ∙ len_is starts 0 insns each in
    let own = own_entries starts 0 sites in
    let others = table_moved starts (fronts_of sites) method.handlers code.table in
    let count : length (own ++ others) ≤ 65535 = omega (arith, length-append own others, own_count starts 0 sites, table_count starts (fronts_of sites) method.handlers code.table) in
    let kept = attrs_are pool (start_moved (begins method.insns) (fronts_of sites) starts) code.attrs h.attrs.each in
    let many = h.attrs.count in
    record {
      name = h.name;
      max_stack = omega arith;
      max_locals = omega arith;
      some = omega (arith, len_some insns some);
      short = omega arith;
      table = record {
        count = omega (arith, count);
        each = all_append (FitsTableEntry pool) own others (own_fit pool insns 0 sites short) (table_fits pool insns (fronts_of sites) method.handlers code.table short h.table.each);
      };
      attrs = record { count = omega (arith, kept.count, many); each = kept.each };
      len = contents_len (code_with pool method code locals sites insns bytes) (omega arith) (omega (arith, count)) kept.len;
    }

pub code_fits : (class : List ℕ) (number : ℕ) (pool : List Const) (method : Method) (code : Code) (locals : ℕ) (sites : List (Option Block)) (new : Code) → FitsCode pool code
    → room class number code locals ≡ Ok tt → code_spliced class number pool method code locals sites ≡ Ok new → AllByRecursion IsInsn (spliced pool method.insns sites)
    → 1 ≤ length (spliced pool method.insns sites) → FitsCode pool new
code_fits class number pool method code locals sites new h roomy e each some =
    let insns = spliced pool method.insns sites in
    let made : List ℕ → Code = λ bytes. code_with pool method code locals sites insns bytes in
    let fits = room_is class number code locals roomy in
    let one = bind_ok (fitted class number sizes.Entries (length code.table + catching sites)) (λ entries. fitted class number sizes.Pool (length pool) >>= λ count. code_fitted class number (written insns) >>= λ bytes. Ok (made bytes)) new e in
    let two = bind_ok (fitted class number sizes.Pool (length pool)) (λ count. code_fitted class number (written insns) >>= λ bytes. Ok (made bytes)) new one.2 in
    let three = bind_ok (code_fitted class number (written insns)) (λ bytes. Ok (made bytes)) new two.2 in
    let bytes = three.0 in
    let rows = fitted_is class number sizes.Entries (length code.table + catching sites) one.1 in
    let facts = written_is insns bytes (code_is class number (written insns) bytes three.1) in
    let is : made bytes ≡ new = ok_is SpliceFault (made bytes) new three.2 in
    subst (FitsCode pool) is (with_fits pool method code locals sites insns bytes h fits.0 fits.1 rows each some facts.0 facts.1)

-- the pool of a method that was spliced is not too long
pub pool_short : (class : List ℕ) (number : ℕ) (pool : List Const) (method : Method) (code : Code) (locals : ℕ) (sites : List (Option Block)) (new : Code)
    → code_spliced class number pool method code locals sites ≡ Ok new → length pool ≤ 65535
pool_short class number pool method code locals sites new e =
    let insns = spliced pool method.insns sites in
    let made : List ℕ → Code = λ bytes. code_with pool method code locals sites insns bytes in
    let one = bind_ok (fitted class number sizes.Entries (length code.table + catching sites)) (λ entries. fitted class number sizes.Pool (length pool) >>= λ count. code_fitted class number (written insns) >>= λ bytes. Ok (made bytes)) new e in
    let two = bind_ok (fitted class number sizes.Pool (length pool)) (λ count. code_fitted class number (written insns) >>= λ bytes. Ok (made bytes)) new one.2 in
    fitted_is class number sizes.Pool (length pool) two.1

-- the name of the attribute stays
pub code_named : (class : List ℕ) (number : ℕ) (pool : List Const) (method : Method) (code : Code) (locals : ℕ) (sites : List (Option Block)) (new : Code)
    → code_spliced class number pool method code locals sites ≡ Ok new → new.name ≡ code.name
code_named class number pool method code locals sites new e =
    let insns = spliced pool method.insns sites in
    let made : List ℕ → Code = λ bytes. code_with pool method code locals sites insns bytes in
    let one = bind_ok (fitted class number sizes.Entries (length code.table + catching sites)) (λ entries. fitted class number sizes.Pool (length pool) >>= λ count. code_fitted class number (written insns) >>= λ bytes. Ok (made bytes)) new e in
    let two = bind_ok (fitted class number sizes.Pool (length pool)) (λ count. code_fitted class number (written insns) >>= λ bytes. Ok (made bytes)) new one.2 in
    let three = bind_ok (code_fitted class number (written insns)) (λ bytes. Ok (made bytes)) new two.2 in
    ap (λ (c : Code). c.name) (sym (ok_is SpliceFault (made three.0) new three.2))

-- the exception table of a method that was spliced is not too long
pub rows_short : (class : List ℕ) (number : ℕ) (pool : List Const) (method : Method) (code : Code) (locals : ℕ) (sites : List (Option Block)) (new : Code)
    → code_spliced class number pool method code locals sites ≡ Ok new → length new.table ≤ 65535
rows_short class number pool method code locals sites new e =
    let insns = spliced pool method.insns sites in
    let made : List ℕ → Code = λ bytes. code_with pool method code locals sites insns bytes in
    let one = bind_ok (fitted class number sizes.Entries (length code.table + catching sites)) (λ entries. fitted class number sizes.Pool (length pool) >>= λ count. code_fitted class number (written insns) >>= λ bytes. Ok (made bytes)) new e in
    let two = bind_ok (fitted class number sizes.Pool (length pool)) (λ count. code_fitted class number (written insns) >>= λ bytes. Ok (made bytes)) new one.2 in
    let three = bind_ok (code_fitted class number (written insns)) (λ bytes. Ok (made bytes)) new two.2 in
    let rows = fitted_is class number sizes.Entries (length code.table + catching sites) one.1 in
    let starts = starts_of insns in
    let own = own_entries starts 0 sites in
    let others = table_moved starts (fronts_of sites) method.handlers code.table in
    let count : length (own ++ others) ≤ 65535 =
    omega (arith, rows, length-append own others, own_count starts 0 sites, table_count starts (fronts_of sites) method.handlers code.table) in
    subst (λ (c : Code). length c.table ≤ 65535) (ok_is SpliceFault (made three.0) new three.2) count
