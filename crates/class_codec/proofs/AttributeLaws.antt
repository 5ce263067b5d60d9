-- Attributes, fields and methods are read exactly as they are encoded.
use Rattle.std.proofs.Common.{◌≡◌, ℕ, ◌<◌, ◌≤◌, ◌^◌, Bool, true, false, List, ◌++◌, length, refl, sym, subst, arith}
use Rattle.std.specs.Prelude.{◌||◌, ◌&&◌, nat_le, ◌==◌}
use Rattle.std.proofs.lemmas.Bool.{false≢true}
use Rattle.std.proofs.lemmas.Bool.Decides.{nat_tests}
use Rattle.mon_base.specs.Reading.{need}
use Rattle.mon_base.proofs.Reading.{IsTail, IsReader, need_holds, holds_need, then, said, encoded_where}
use Rattle.mon_base.proofs.Readers.{checked, wrapped, enclosed}
use Rattle.class_codec.specs.declared.fault.ClassFault.TheVariants.{Short, Index, Tail}
use Rattle.class_codec.specs.declared.pool.ConstKind.TheVariants as kinds
use Rattle.class_codec.specs.declared.tree.Const.{Const}
use Rattle.class_codec.specs.declared.tree.TableEntry.{TableEntry}
use Rattle.class_codec.specs.declared.tree.Other.{Other}
use Rattle.class_codec.specs.declared.tree.Code.{Code}
use Rattle.class_codec.specs.declared.tree.Attr.{Attr}
use Rattle.class_codec.specs.declared.tree.Attr.TheVariants as attributes
use Rattle.class_codec.specs.declared.tree.Member.{Member}
use Rattle.class_codec.specs.Pool.{names}
use Rattle.class_codec.specs.Encoding as encoding
use Rattle.mon_base.specs.Widths.{IsU2, IsU4, u2, u4}
use Rattle.class_codec.specs.Fits.{IsIndex, FitsBlock, FitCounted, FitsTableEntry, FitsOther, FitsAttr, FitsMember, is_read_as_code}
use Rattle.class_codec.specs.Reading.{other_at, caught_at, table_entry_at, code_len_at, instructions_at, contents_at, code_at, named_at, attribute_at, member_at}
use Rattle.class_codec.proofs.Numbers.{u2_is, u4_is, rest_is, block_is, index_is, counted_is}

pub other_is : (pool : List Const) → IsReader (other_at pool) encoding.other (FitsOther pool)
unfolding other_at
other_is pool = said (then {known = λ _. Unit {0}} _ (index_is kinds.Utf8 pool) (λ o. o.name) (λ a k. tt)
    (λ name k. wrapped {A = Other} (λ bytes. record { name = name; bytes = bytes }) block_is
    (λ bytes f k. (refl, f, (tt, refl)))
    (λ o f k. (o.bytes, rw (← k.1) refl, f, tt))))
    (λ o f k. (record { name = f.0; bytes = f.1 }, tt))
    (λ o f k. ((f.name, f.bytes), tt))

caught_is : (pool : List Const) → IsReader (caught_at pool) u2 (λ n. IsU2 n × ((n == 0) || names kinds.Class pool n ≡ true))
unfolding caught_at
caught_is pool = checked (λ n. (n == 0) || names kinds.Class pool n ≡ true) (λ p n. need ((n == 0) || names kinds.Class pool n) (Index p.at)) u2_is
    (λ p n e. need_holds ((n == 0) || names kinds.Class pool n) (Index p.at) e)
    (λ p n h. holds_need ((n == 0) || names kinds.Class pool n) (Index p.at) h)

pub table_entry_is : (pool : List Const) → IsReader (table_entry_at pool) encoding.table_entry (FitsTableEntry pool)
unfolding table_entry_at
table_entry_is pool = said (then {known = λ _. Unit {0}} _ u2_is (λ e. e.from) (λ e k. tt)
    (λ from k. then _ u2_is (λ e. e.to) (λ e k. tt)
    (λ to k. then _ u2_is (λ e. e.at) (λ e k. tt)
    (λ at k. wrapped {A = TableEntry} (λ class. record { from = from; to = to; at = at; class = class }) (caught_is pool)
    (λ class f k. (refl, f, (((tt, refl), refl), refl)))
    (λ e f k. (e.class, rw (← k.0.0.1, ← k.0.1, ← k.1) refl, f, tt))))))
    (λ e f k. (record { from = f.0; to = f.1.0; at = f.1.1.0; class = f.1.1.1.0; named = f.1.1.1.1 }, tt))
    (λ e f k. ((f.from, (f.to, (f.at, (f.class, f.named)))), tt))

-- ---- code

right_len : (n : ℕ) → (nat_le 1 n && nat_le n 65535) ≡ true → (1 ≤ n) × (n ≤ 65535)
right_len n e = grind (arith, nat_tests)

len_right : (n : ℕ) → (1 ≤ n) × (n ≤ 65535) → (nat_le 1 n && nat_le n 65535) ≡ true
len_right n h = grind (arith, nat_tests)

code_len_is : IsReader code_len_at u4 (λ n. IsU4 n × ((1 ≤ n) × (n ≤ 65535)))
unfolding code_len_at
code_len_is = checked (λ n. (1 ≤ n) × (n ≤ 65535)) (λ p n. need (nat_le 1 n && nat_le n 65535) (Index p.at)) u4_is
    (λ p n e. right_len n (need_holds (nat_le 1 n && nat_le n 65535) (Index p.at) e))
    (λ p n h. holds_need (nat_le 1 n && nat_le n 65535) (Index p.at) (len_right n h))

small_len : (bytes : List ℕ) → length bytes ≤ 65535 → length bytes < 2 ^ 32
small_len bytes h = omega arith

instructions_is : IsReader instructions_at encoding.block (λ bytes. (1 ≤ length bytes) × (length bytes ≤ 65535))
unfolding instructions_at
instructions_is = said (then {known = λ _. Unit {0}} _ code_len_is length (λ a k. tt) (λ n k. rest_is n))
    (λ a f k. (f.0.1, tt)) (λ a f k. (((small_len a f.1, f), tt), tt))

-- what fits in a Code attribute with a name
record FitsContents (pool : List Const) (c : Code) : Type 0 where
  max_stack : IsU2 c.max_stack
  max_locals : IsU2 c.max_locals
  some : 1 ≤ length c.code
  short : length c.code ≤ 65535
  table : FitCounted (FitsTableEntry pool) c.table
  attrs : FitCounted (FitsOther pool) c.attrs

contents_is : (pool : List Const) (name : ℕ) → IsTail (contents_at pool name) encoding.contents (FitsContents pool) (λ c. c.name ≡ name)
unfolding contents_at
contents_is pool name = said (then {known = λ c. c.name ≡ name} _ u2_is (λ c. c.max_stack) (λ c k. tt)
    (λ stack k. then _ u2_is (λ c. c.max_locals) (λ c k. tt)
    (λ locals k. then _ instructions_is (λ c. c.code) (λ c k. tt)
    (λ code k. then _ (counted_is (table_entry_is pool)) (λ c. c.table) (λ c k. tt)
    (λ table k. wrapped {A = Code}
    (λ attrs. record { name = name; max_stack = stack; max_locals = locals; code = code; table = table; attrs = attrs })
    (counted_is (other_is pool))
    (λ attrs f k. (refl, f, ((((refl, refl), refl), refl), refl)))
    (λ c f k. (c.attrs, rw (← k.0.0.0.0, ← k.0.0.0.1, ← k.0.0.1, ← k.0.1, ← k.1) refl, f, tt)))))))
    (λ c f k. (record { max_stack = f.0; max_locals = f.1.0; some = f.1.1.0.0; short = f.1.1.0.1; table = f.1.1.1.0; attrs = f.1.1.1.1 }, k))
    (λ c f k. ((f.max_stack, (f.max_locals, ((f.some, f.short), (f.table, f.attrs)))), k))

code_is : (pool : List Const) (name : ℕ) → IsTail (code_at pool name) (λ c. encoding.block (encoding.contents c))
    (λ c. IsU4 (length (encoding.contents c)) × FitsContents pool c) (λ c. c.name ≡ name)
unfolding code_at
code_is pool name = then {known = λ c. c.name ≡ name} _ u4_is (λ c. length (encoding.contents c)) (λ c k. tt)
    (λ n k. enclosed n (λ code. Tail code.1.at) (λ code. Short code.1.at) (contents_is pool name))

-- ---- attributes

abbrev name_of : Attr → ℕ
name_of (attributes.Code c) = c.name
name_of (attributes.Other o) = o.name

-- what follows the name
abbrev after_name : Attr → List ℕ
after_name (attributes.Code c) = encoding.block (encoding.contents c)
after_name (attributes.Other o) = encoding.block o.bytes

-- an attribute after its name, which is read as Code or is not
abbrev FitsNamed : List Const → Bool → Attr → Type 0
FitsNamed pool is_code (attributes.Code c) = (is_code ≡ true) × (IsU4 (length (encoding.contents c)) × FitsContents pool c)
FitsNamed pool is_code (attributes.Other o) = (is_code ≡ false) × FitsBlock o.bytes

code_of : (pool : List Const) (name : ℕ) (a : Attr) → FitsNamed pool true a → Unit {0} × (name_of a ≡ name)
    → (c : Code) × (attributes.Code c ≡ a) × (IsU4 (length (encoding.contents c)) × FitsContents pool c) × (c.name ≡ name)
code_of pool name (attributes.Code c) f k = (c, refl, f.1, k.1)
code_of pool name (attributes.Other o) f k = absurd (false≢true (sym f.0))

other_of : (pool : List Const) (name : ℕ) (a : Attr) → FitsNamed pool false a → Unit {0} × (name_of a ≡ name)
    → (bytes : List ℕ) × (attributes.Other (record { name = name; bytes = bytes }) ≡ a) × FitsBlock bytes × Unit {0}
other_of pool name (attributes.Code c) f k = absurd (false≢true f.0)
other_of pool name (attributes.Other o) f k = (o.bytes, rw (← k.1) refl, f.1, tt)

named_is : (pool : List Const) (is_code : Bool) (name : ℕ)
    → IsTail (named_at is_code pool name) after_name (FitsNamed pool is_code) (λ a. Unit {0} × (name_of a ≡ name))
unfolding named_at
named_is pool true name = wrapped (λ c. attributes.Code c) (code_is pool name) (λ c f k. (refl, (refl, f), (tt, k))) (λ a f k. code_of pool name a f k)
named_is pool false name = wrapped {A = Attr} (λ bytes. attributes.Other (record { name = name; bytes = bytes })) block_is (λ bytes f k. (refl, (refl, f), (tt, refl))) (λ a f k. other_of pool name a f k)

attribute_fits : (pool : List Const) (of_method : Bool) (a : Attr) → IsIndex kinds.Utf8 pool (name_of a)
    → FitsNamed pool (is_read_as_code pool of_method (name_of a)) a → FitsAttr pool of_method a
attribute_fits pool of_method (attributes.Code c) i f = (f.0, record { name = i; max_stack = f.1.1.max_stack; max_locals = f.1.1.max_locals; some = f.1.1.some; short = f.1.1.short; table = f.1.1.table; attrs = f.1.1.attrs; len = f.1.0 })
attribute_fits pool of_method (attributes.Other o) i f = (f.0, record { name = i; bytes = f.1 })

fits_attribute : (pool : List Const) (of_method : Bool) (a : Attr) → FitsAttr pool of_method a
    → IsIndex kinds.Utf8 pool (name_of a) × FitsNamed pool (is_read_as_code pool of_method (name_of a)) a
fits_attribute pool of_method (attributes.Code c) f = (f.1.name, (f.0, (f.1.len, record { max_stack = f.1.max_stack; max_locals = f.1.max_locals; some = f.1.some; short = f.1.short; table = f.1.table; attrs = f.1.attrs })))
fits_attribute pool of_method (attributes.Other o) f = (f.1.name, (f.0, f.1.bytes))

after_name_is : (a : Attr) → u2 (name_of a) ++ after_name a ≡ encoding.attribute a
after_name_is (attributes.Code c) = refl
after_name_is (attributes.Other o) = refl

pub attribute_is : (pool : List Const) (of_method : Bool)
    → IsReader (attribute_at pool of_method) encoding.attribute (FitsAttr pool of_method)
unfolding attribute_at
attribute_is pool of_method = said (encoded_where {encode = λ a. u2 (name_of a) ++ after_name a} (then {known = λ _. Unit {0}} _ (index_is kinds.Utf8 pool) name_of (λ a k. tt)
    (λ name k. said {Fits' = λ a. FitsNamed pool (is_read_as_code pool of_method (name_of a)) a} (named_is pool (is_read_as_code pool of_method name) name)
    (λ a f k. (subst (λ (n : ℕ). FitsNamed pool (is_read_as_code pool of_method n) a) (sym k.1) f, k))
    (λ a f k. (subst (λ (n : ℕ). FitsNamed pool (is_read_as_code pool of_method n) a) k.1 f, k))))
    (λ a f k. after_name_is a))
    (λ a f k. (attribute_fits pool of_method a f.0 f.1, tt))
    (λ a f k. (fits_attribute pool of_method a f, tt))

-- ---- fields and methods

pub member_is : (pool : List Const) (of_method : Bool) → IsReader (member_at pool of_method) encoding.member (FitsMember pool of_method)
unfolding member_at
member_is pool of_method = said (then {known = λ _. Unit {0}} _ u2_is (λ m. m.flags) (λ m k. tt)
    (λ flags k. then _ (index_is kinds.Utf8 pool) (λ m. m.name) (λ m k. tt)
    (λ name k. then _ (index_is kinds.Utf8 pool) (λ m. m.desc) (λ m k. tt)
    (λ desc k. wrapped {A = Member} (λ attrs. record { flags = flags; name = name; desc = desc; attrs = attrs }) (counted_is (attribute_is pool of_method))
    (λ attrs f k. (refl, f, (((tt, refl), refl), refl)))
    (λ m f k. (m.attrs, rw (← k.0.0.1, ← k.0.1, ← k.1) refl, f, tt))))))
    (λ m f k. (record { flags = f.0; name = f.1.0; desc = f.1.1.0; attrs = f.1.1.1 }, tt))
    (λ m f k. ((f.flags, (f.name, (f.desc, f.attrs))), tt))
