-- Whole tables of line numbers stay.
use Rattle.std.proofs.Common.{◌≡◌, ℕ, zero, suc, ◌+◌, ◌-◌, ◌*◌, ◌≤◌, ◌^◌, Bool, true, false, List, [], ◌∷◌, ◌++◌, length, Option, Some, None, option_map, refl, sym, ap, subst, ◌∙◌, arith, length-append}
use Rattle.std.specs.Prelude.{◌==◌, bytes_eq, codes, cond, if◌then◌else◌, nat_lt, option_and_then, slice_get, slice_index, Contains}
use Rattle.std.specs.Cmp.{unsigned_Decides}
use Rattle.std.specs.List.{AllByRecursion, cons_option, flat_map, position_from}
use Rattle.std.proofs.lemmas.Bool.Decides.{nat_tests}
use Rattle.std.proofs.lemmas.Slice.Eq.{bytes_eq-Decides}
use Rattle.byteorder.specs.Endian.{big_bytes, big_number}
use Rattle.byteorder.specs.Numbers.{length-bytes_high_first}
use Rattle.class_codec.specs.declared.tree.Attr.TheVariants as attributes
use Rattle.class_codec.specs.declared.tree.ClassFile.{ClassFile}
use Rattle.class_codec.specs.declared.tree.Code.{Code}
use Rattle.class_codec.specs.declared.tree.Const.{Const}
use Rattle.class_codec.specs.declared.tree.Member.{Member}
use Rattle.class_codec.specs.declared.tree.Other.{Other}
use Rattle.class_codec.specs.Encoding as encode
use Rattle.mon_base.specs.Widths.{u2, u4}
use Rattle.insn_codec.specs.Encoding.{starts_of}
use Rattle.bytecode_model.specs.declared.program.Method.{Method}
use Rattle.bytecode_model.specs.Heads.{text_at}
use Rattle.offset_patch.specs.Lines.{Line, are_within, attr_kept, attrs_kept, before, each_kept, line, line_moved, lines_in, lines_moved, lines_of, start_moved, table, table_moved}
use Rattle.offset_patch.specs.Plan.{Plan}
use Rattle.offset_patch.specs.Splicing.{begins, fronts_of}
use Rattle.class_weaving.specs.LinesStay.{IsLineMoved, LinesStay}
use Rattle.class_weaving.specs.Outcome.{Each, insns_woven}
use Rattle.class_weaving.specs.Woven.{sites_of}

-- ---- what a list contains

contains_later : {X : Type 0} (xs : List X) (x y : X) → Contains xs x → Contains (y ∷ xs) x
contains_later xs x y c = (suc c.0, omega (arith, c.1), c.2)

-- the encoding of an item is no longer than that of all
part_short : {X : Type 0} (f : X → List ℕ) (xs : List X) (x : X) → Contains xs x → length (f x) ≤ length (flat_map f xs)
part_short f [] x c = absurd (omega (arith, c.1))
part_short f (y ∷ xs) x (zero, few, is) = omega (arith, length-append (f y) (flat_map f xs), ap (λ z. length (f z)) is)
part_short f (y ∷ xs) x (suc k, few, is) = omega (arith, length-append (f y) (flat_map f xs), part_short f xs x (k, omega (arith, few), is))

after_short : (xs ys : List ℕ) → length ys ≤ length (xs ++ ys)
after_short xs ys = omega (arith, length-append xs ys)

-- ---- the attributes of a code are no longer than the file

attrs_short : (code : Code) → length (flat_map encode.other code.attrs) ≤ length (encode.attribute (attributes.Code code))
attrs_short code =
    let others = flat_map encode.other code.attrs in
    let one = after_short (u2 (length code.attrs)) others in
    let two = after_short (encode.with_count encode.table_entry code.table) (encode.with_count encode.other code.attrs) in
    let three = after_short (encode.block code.code) (encode.with_count encode.table_entry code.table ++ encode.with_count encode.other code.attrs) in
    let four = after_short (u2 code.max_stack ++ u2 code.max_locals) (encode.block code.code ++ (encode.with_count encode.table_entry code.table ++ encode.with_count encode.other code.attrs)) in
    let five = after_short (u4 (length (encode.contents code))) (encode.contents code) in
    let six = after_short (u2 code.name) (encode.block (encode.contents code)) in
    omega (arith, one, two, three, four, five, six)

member_short : (member : Member) → length (flat_map encode.attribute member.attrs) ≤ length (encode.member member)
member_short member =
    let one = after_short (u2 (length member.attrs)) (flat_map encode.attribute member.attrs) in
    let two = after_short (u2 member.flags ++ u2 member.name ++ u2 member.desc) (encode.with_count encode.attribute member.attrs) in
    omega (arith, one, two)

methods_short : (file : ClassFile) → length (flat_map encode.member file.methods) ≤ length (encode.encoding file)
methods_short file =
    let rest = encode.with_count encode.attribute file.attrs in
    let methods = encode.with_count encode.member file.methods in
    let fields = encode.with_count encode.member file.fields in
    let one = after_short (u2 (length file.methods)) (flat_map encode.member file.methods) in
    let two = length-append methods rest in
    let three = after_short fields (methods ++ rest) in
    let four = after_short (encode.with_count u2 file.interfaces) (fields ++ (methods ++ rest)) in
    let five = after_short (u2 file.flags ++ u2 file.this_class ++ u2 file.super_class) (encode.with_count u2 file.interfaces ++ (fields ++ (methods ++ rest))) in
    let six = after_short (encode.with_count encode.constant file.pool) (encode.body file) in
    let seven = after_short (u4 0xCAFEBABE ++ u2 file.minor ++ u2 49) (encode.with_count encode.constant file.pool ++ encode.body file) in
    omega (arith, one, two, three, four, five, six, seven)

-- ---- a table that is moved

-- an instruction begins at a position that is one of these
found : (olds : List ℕ) (at q : ℕ) → Contains olds q → (i : ℕ) × (position_from (λ (n : ℕ). n == q) at olds ≡ Some (at + i)) × (slice_get olds i ≡ Some q)
found [] at q c = absurd (omega (arith, c.1))
found (n ∷ olds) at q c = by (n == q) refl c (λ later. found olds (at + 1) q later)
  where
    first : at ≡ at + 0
    first = omega arith

    by : (b : Bool) → (n == q) ≡ b → Contains (n ∷ olds) q
        → (Contains olds q → (i : ℕ) × (position_from (λ (m : ℕ). m == q) (at + 1) olds ≡ Some (at + 1 + i)) × (slice_get olds i ≡ Some q))
        → (i : ℕ) × (cond b (Some at) (position_from (λ (m : ℕ). m == q) (at + 1) olds) ≡ Some (at + i)) × (slice_get (n ∷ olds) i ≡ Some q)
    by true e c again = (0, ap Some first, ap Some ((unsigned_Decides n q).0 e))
    by false e (zero, few, is) again = absurd (cc (e, (unsigned_Decides n q).1 is))
    by false e (suc k, few, is) again =
        let later = again (k, omega (arith, few), is) in
        let place : at + 1 + later.0 ≡ at + suc later.0 = omega arith in
        (suc later.0, later.1 ∙ ap Some place, later.2)

module _ (plan : Plan) (pool : List Const) (method : Method) where
  abbrev moved_to : ℕ → Option ℕ
  moved_to start = start_moved (begins method.insns) (fronts_of (sites_of plan method.max_locals method)) (starts_of (insns_woven plan pool method)) start

  -- What becomes of lines that begin at instructions.
  record AreMoved (lines : List Line) : Type 0 where
    moved : List Line
    are : lines_moved moved_to lines ≡ Some moved
    each : Each (IsLineMoved plan pool method) lines moved
    count : length moved ≡ length lines

  one_moved : (f : ℕ → Option ℕ) (one : Line) (rest made : List Line) (start : ℕ) → f one.0 ≡ Some start → lines_moved f rest ≡ Some made
      → lines_moved f (one ∷ rest) ≡ Some ((start, one.1) ∷ made)
  unfolding lines_moved
  one_moved f one rest made start at others =
      ap (λ (o : Option ℕ). option_and_then (λ first. before first (lines_moved f rest)) (option_map (λ (n : ℕ). (n, one.1)) o)) at
      ∙ ap (before (start, one.1)) others

  none_moved : (f : ℕ → Option ℕ) → lines_moved f [] ≡ Some []
  unfolding lines_moved
  none_moved f = refl

  all_moved : (lines : List Line) → AllByRecursion (λ (one : Line). Contains (begins method.insns) one.0) lines → AreMoved lines
  all_moved [] begin = record { moved = []; are = none_moved moved_to; each = tt; count = refl }
  all_moved (one ∷ lines) begin =
      let rest = all_moved lines begin.1 in
      let at = found (begins method.insns) 0 one.0 begin.0 in
      let index : 0 + at.0 ≡ at.0 = omega arith in
      let start : ℕ = slice_index (starts_of (insns_woven plan pool method)) (slice_index (fronts_of (sites_of plan method.max_locals method)) at.0) in
      let goes : moved_to one.0 ≡ Some start =
      ap (option_map (λ (i : ℕ). slice_index (starts_of (insns_woven plan pool method)) (slice_index (fronts_of (sites_of plan method.max_locals method)) i)))
      (at.1 ∙ ap Some index) in
      record {
        moved = (start, one.1) ∷ rest.moved;
        are = one_moved moved_to one lines rest.moved start goes rest.are;
        each = (record { index = at.0; began = at.2; begins_now = refl; number = refl }, rest.each);
        count = ap suc rest.count;
      }

-- ---- how long what is kept is

lines_few : (bytes : List ℕ) → 4 * length (lines_in bytes) ≤ length bytes
unfolding lines_in
lines_few [] = omega arith
lines_few (a ∷ []) = omega arith
lines_few (a ∷ b ∷ []) = omega arith
lines_few (a ∷ b ∷ c ∷ []) = omega arith
lines_few (a ∷ b ∷ c ∷ d ∷ bytes) = omega (arith, lines_few bytes)

table_read : (bytes : List ℕ) (lines : List Line) → lines_of bytes ≡ Some lines → 2 + 4 * length lines ≤ length bytes
table_read [] lines e = absurd cc
table_read (a ∷ []) lines e = absurd cc
table_read (a ∷ b ∷ bytes) lines e = by (length bytes == big_number 2 (a ∷ b ∷ []) * 4) e
  where
    by : (t : Bool) → (if t then Some (lines_in bytes) else None) ≡ Some lines → 2 + 4 * length lines ≤ length (a ∷ b ∷ bytes)
    by true is =
        let same : lines_in bytes ≡ lines = cc in
        omega (arith, lines_few bytes, ap length same)
    by false is = absurd cc

lines_long : (lines : List Line) → length (flat_map line lines) ≡ 4 * length lines
lines_long [] = refl
lines_long (one ∷ lines) =
    omega (
      arith,
      length-append (line one) (flat_map line lines),
      length-append (big_bytes 2 one.0) (big_bytes 2 one.1),
      length-bytes_high_first 2 one.0,
      length-bytes_high_first 2 one.1,
      lines_long lines,
    )

table_long : (lines : List Line) → length (table lines) ≡ 2 + 4 * length lines
table_long lines = omega (arith, length-append (big_bytes 2 (length lines)) (flat_map line lines), length-bytes_high_first 2 (length lines), lines_long lines)

moved_long : (f : ℕ → Option ℕ) (lines made : List Line) → lines_moved f lines ≡ Some made → length made ≡ length lines
unfolding lines_moved
moved_long f [] made e =
    let same : [] ≡ made = cc in
    sym (ap length same)
moved_long f (one ∷ lines) made e = by (line_moved f one) (lines_moved f lines) (λ others r. moved_long f lines others r) refl e
  where
    by : (o : Option Line) (rest : Option (List Line)) → ((others : List Line) → lines_moved f lines ≡ Some others → length others ≡ length lines)
        → lines_moved f lines ≡ rest → option_and_then (λ first. before first rest) o ≡ Some made
        → length made ≡ length (one ∷ lines)
    by None rest again r is = absurd cc
    by (Some first) None again r is = absurd cc
    by (Some first) (Some others) again r is =
        let same : first ∷ others ≡ made = cc in
        sym (ap length same) ∙ ap suc (again others r)

table_short : (f : ℕ → Option ℕ) (bytes made : List ℕ) → table_moved f bytes ≡ Some made → length made ≤ length bytes
table_short f bytes made e = by (lines_of bytes) refl e
  where
    by : (o : Option (List Line)) → lines_of bytes ≡ o → option_map table (option_and_then (lines_moved f) o) ≡ Some made → length made ≤ length bytes
    by None r is = absurd cc
    by (Some lines) r is = again (lines_moved f lines) refl is
      where
        again : (m : Option (List Line)) → lines_moved f lines ≡ m → option_map table m ≡ Some made → length made ≤ length bytes
        again None s is = absurd cc
        again (Some moved) s is =
            let same : table moved ≡ made = cc in
            omega (arith, ap length same, table_long moved, moved_long f lines moved s, table_read bytes lines r)

other_long : (attr : Other) → length (encode.other attr) ≡ 6 + length attr.bytes
other_long attr =
    omega (
      arith,
      length-append (u2 attr.name) (encode.block attr.bytes),
      length-append (u4 (length attr.bytes)) attr.bytes,
      length-bytes_high_first 2 attr.name,
      length-bytes_high_first 4 (length attr.bytes),
    )

kept_short : (pool : List Const) (f : ℕ → Option ℕ) (attrs : List Other) → length (flat_map encode.other (each_kept pool f attrs)) ≤ length (flat_map encode.other attrs)
kept_short pool f [] = omega arith
kept_short pool f (attr ∷ attrs) = by (bytes_eq (text_at pool attr.name) (codes "LineNumberTable")) (table_moved f attr.bytes) refl (kept_short pool f attrs)
  where
    rest : List Other
    rest = each_kept pool f attrs

    by : (b : Bool) (o : Option (List ℕ)) → table_moved f attr.bytes ≡ o → length (flat_map encode.other rest) ≤ length (flat_map encode.other attrs)
        → length (flat_map encode.other (cons_option (if b then option_map (λ bytes. record { name = attr.name; bytes = bytes }) o else None) rest))
        ≤ length (flat_map encode.other (attr ∷ attrs))
    by true None e others = omega (arith, others, length-append (encode.other attr) (flat_map encode.other attrs))
    by true (Some made) e others =
        let one : Other = record { name = attr.name; bytes = made } in
        omega (
          arith,
          others,
          length-append (encode.other attr) (flat_map encode.other attrs),
          length-append (encode.other one) (flat_map encode.other rest),
          other_long attr,
          other_long one,
          table_short f attr.bytes made e,
        )
    by false o e others = omega (arith, others, length-append (encode.other attr) (flat_map encode.other attrs))

within : (room : ℕ) (attrs : List Other) → length (flat_map encode.other attrs) ≤ room → are_within room attrs ≡ true
within room [] few = refl
within room (attr ∷ attrs) few = by (nat_lt room (6 + length attr.bytes)) refl (λ less. within (room - (6 + length attr.bytes)) attrs less)
  where
    long : 6 + length attr.bytes + length (flat_map encode.other attrs) ≤ room
    long = omega (arith, few, length-append (encode.other attr) (flat_map encode.other attrs), other_long attr)

    by : (b : Bool) → nat_lt room (6 + length attr.bytes) ≡ b
        → (length (flat_map encode.other attrs) ≤ room - (6 + length attr.bytes) → are_within (room - (6 + length attr.bytes)) attrs ≡ true) → (if b then false else are_within (room - (6 + length attr.bytes)) attrs) ≡ true
    by true n again = absurd (grind (arith, nat_tests, long))
    by false n again = again (omega (arith, long))

-- ---- the law

kept_there : (pool : List Const) (f : ℕ → Option ℕ) (attrs : List Other) (attr made : Other) → Contains attrs attr → attr_kept pool f attr ≡ Some made
    → Contains (each_kept pool f attrs) made
kept_there pool f [] attr made c e = absurd (omega (arith, c.1))
kept_there pool f (a ∷ attrs) attr made (zero, few, is) e =
    let here : attr_kept pool f a ≡ Some made = ap (attr_kept pool f) is ∙ e in
    subst (λ (o : Option Other). Contains (cons_option o (each_kept pool f attrs)) made) (sym here) (0, omega arith, refl)
kept_there pool f (a ∷ attrs) attr made (suc k, few, is) e = by (attr_kept pool f a) (kept_there pool f attrs attr made (k, omega (arith, few), is) e)
  where
    by : (o : Option Other) → Contains (each_kept pool f attrs) made → Contains (cons_option o (each_kept pool f attrs)) made
    by None c = c
    by (Some first) c = contains_later (each_kept pool f attrs) made first c

pub lines_stay : LinesStay
lines_stay bytes file member code attr lines plan pool method encodes short method_there code_there attr_there named whole =
    let f = moved_to plan pool method in
    let m = all_moved plan pool method lines whole.begin in
    let made : Other = record { name = attr.name; bytes = table m.moved } in
    let moved : table_moved f attr.bytes ≡ Some (table m.moved) = ap (λ (o : Option (List Line)). option_map table (option_and_then (lines_moved f) o)) whole.are ∙ ap (option_map table) m.are in
    let is_lines : bytes_eq (text_at pool attr.name) (codes "LineNumberTable") ≡ true = (bytes_eq-Decides (text_at pool attr.name) (codes "LineNumberTable")).1 named in
    let kept : attr_kept pool f attr ≡ Some made =
    ap (λ (b : Bool). if b then option_map (λ bs. record { name = attr.name; bytes = bs }) (table_moved f attr.bytes) else None) is_lines
    ∙ ap (option_map (λ bs. record { name = attr.name; bytes = bs })) moved in
    let small : length (flat_map encode.other (each_kept pool f code.attrs)) ≤ 2 ^ 31 =
    omega (
      arith,
      kept_short pool f code.attrs,
      attrs_short code,
      part_short encode.attribute member.attrs (attributes.Code code) code_there,
      member_short member,
      part_short encode.member file.methods member method_there,
      methods_short file,
      ap length encodes.is,
      short,
    ) in
    let all : attrs_kept pool f code.attrs ≡ each_kept pool f code.attrs =
    ap (λ (b : Bool). if b then each_kept pool f code.attrs else []) (within (2 ^ 31) (each_kept pool f code.attrs) small) in
    (m.moved, m.each, subst (λ (attrs : List Other). Contains attrs made) (sym all) (kept_there pool f code.attrs attr made attr_there kept))
