-- Class files are read exactly as they are encoded.
use Rattle.std.proofs.Common.{◌≡◌, ℕ, ◌<◌, ◌≤◌, true, false, List, [], ◌∷◌, ◌++◌, length, Result, Ok, Err, refl, sym, ap, subst, ◌∙◌, arith}
use Rattle.std.specs.Prelude.{◌==◌, nat_le, IfOk}
use Rattle.std.proofs.lemmas.Bool.{false≢true}
use Rattle.std.proofs.lemmas.Bool.Decides.{nat_tests}
use Rattle.mon_base.specs.Reading.{IsBytes, ◌>>=◌, need, whole}
use Rattle.mon_base.specs.Answer.{Answers}
use Rattle.mon_base.proofs.Reading.{need_ok, ok_is, IsTail, IsReader, then, then_same, done, said, whole_takes, whole_again}
use Rattle.mon_base.proofs.Readers.{wrapped}
use Rattle.class_codec.specs.declared.fault.ClassFault.{ClassFault}
use Rattle.class_codec.specs.declared.fault.ClassFault.TheVariants.{Magic, Version, Tail, TooLong, Memory}
use Rattle.class_codec.specs.declared.pool.ConstKind.TheVariants as kinds
use Rattle.class_codec.specs.declared.tree.Const.{Const}
use Rattle.class_codec.specs.declared.tree.ClassFile.{ClassFile}
use Rattle.class_codec.specs.Pool.{names}
use Rattle.class_codec.specs.Encoding as encoding
use Rattle.mon_base.specs.Widths.{IsU2, u2, u4}
use Rattle.class_codec.specs.Fits.{IsIndex, FitCounted, FitsAttr, FitsMember, IsEncodable, EncodesClass}
use Rattle.class_codec.specs.Reading.{u2_at, head_at, body_at, file_at, class_of}
use Rattle.class_codec.proofs.Numbers.{u2_is, u4_is, index_is, counted_is}
use Rattle.class_codec.proofs.PoolLaws.{IsPool, pool_is, whole_pool, pool_whole}
use Rattle.class_codec.proofs.AttributeLaws.{attribute_is, member_is}

-- ---- the head

version_is : IsReader (λ p. u2_at p >>= λ minor. u2_at minor.1 >>= λ major. need (major.0 == 49) (Version major.0) >>= λ _. Ok
    (minor.0, major.1)) (λ minor. u2 minor ++ (u2 49 ++ [])) IsU2
version_is = said (then {known = λ _. Unit {0}} _ u2_is (λ n. n) (λ n k. tt)
    (λ minor k. then_same (λ p x. Version x.0) u2_is 49 (omega arith) (done {known = λ n. Unit {0} × (n ≡ minor)} minor (tt, refl) (λ n k. k.1))))
    (λ n f k. (f.0, tt)) (λ n f k. ((f, tt), tt))

head_is : IsReader head_at (λ minor. u4 0xCAFEBABE ++ (u2 minor ++ (u2 49 ++ []))) IsU2
unfolding head_at
head_is = then_same (λ p x. Magic) u4_is 0xCAFEBABE (omega arith) version_is

-- ---- what stands after the pool

record FitsBody (pool : List Const) (f : ClassFile) : Type 0 where
  flags : IsU2 f.flags
  this_class : IsIndex kinds.Class pool f.this_class
  super_class : IsIndex kinds.Class pool f.super_class
  interfaces : FitCounted (IsIndex kinds.Class pool) f.interfaces
  fields : FitCounted (FitsMember pool false) f.fields
  methods : FitCounted (FitsMember pool true) f.methods
  attrs : FitCounted (FitsAttr pool false) f.attrs

body_is : (minor : ℕ) (pool : List Const)
    → IsTail (body_at minor pool) encoding.body (FitsBody pool) (λ f. (Unit {0} × (f.minor ≡ minor)) × (f.pool ≡ pool))
unfolding body_at
body_is minor pool = said (then {known = λ f. (Unit {0} × (f.minor ≡ minor)) × (f.pool ≡ pool)} _ u2_is (λ f. f.flags) (λ f k. tt)
    (λ flags k. then _ (index_is kinds.Class pool) (λ f. f.this_class) (λ f k. tt)
    (λ this k. then _ (index_is kinds.Class pool) (λ f. f.super_class) (λ f k. tt)
    (λ super k. then _ (counted_is (index_is kinds.Class pool)) (λ f. f.interfaces) (λ f k. tt)
    (λ interfaces k. then _ (counted_is (member_is pool false)) (λ f. f.fields) (λ f k. tt)
    (λ fields k. then _ (counted_is (member_is pool true)) (λ f. f.methods) (λ f k. tt)
    (λ methods k. wrapped {A = ClassFile}
    (λ attrs. record { minor = minor; pool = pool; flags = flags; this_class = this; super_class = super; interfaces = interfaces; fields = fields; methods = methods; attrs = attrs })
    (counted_is (attribute_is pool false))
    (λ attrs f k. (refl, f, ((((((((tt, refl), refl), refl), refl), refl), refl), refl), refl)))
    (λ f h k. (f.attrs, rw (← k.0.0.0.0.0.0.0.1, ← k.0.0.0.0.0.0.1, ← k.0.0.0.0.0.1, ← k.0.0.0.0.1, ← k.0.0.0.1, ← k.0.0.1, ← k.0.1, ← k.1) refl, h, tt)))))))))
    (λ f h k. (record { flags = h.0; this_class = h.1.0; super_class = h.1.1.0; interfaces = h.1.1.1.0; fields = h.1.1.1.1.0; methods = h.1.1.1.1.1.0; attrs = h.1.1.1.1.1.1 }, k))
    (λ f h k. ((h.flags, (h.this_class, (h.super_class, (h.interfaces, (h.fields, (h.methods, h.attrs)))))), k))

-- ---- the file

-- A class of its pool has a place there.
some_place : (pool : List Const) (index : ℕ) → names kinds.Class pool index ≡ true → 0 < length pool
unfolding names
some_place [] index e = absurd (false≢true e)
some_place (c ∷ pool) index e = omega arith

class_fits : (f : ClassFile) → IsU2 f.minor → IsPool f.pool → FitsBody f.pool f → IsEncodable f
class_fits f minor pool h = record {
  minor = minor;
  pool = whole_pool f.pool (some_place f.pool f.this_class h.this_class.named) pool;
  flags = h.flags;
  this_class = h.this_class;
  super_class = h.super_class;
  interfaces = h.interfaces;
  fields = h.fields;
  methods = h.methods;
  attrs = h.attrs;
}

fits_class : (f : ClassFile) → IsEncodable f → FitsBody f.pool f
fits_class f h = record {
  flags = h.flags;
  this_class = h.this_class;
  super_class = h.super_class;
  interfaces = h.interfaces;
  fields = h.fields;
  methods = h.methods;
  attrs = h.attrs;
}

class_is : IsReader file_at encoding.encoding IsEncodable
unfolding file_at
class_is = said (then {known = λ _. Unit {0}} _ head_is (λ f. f.minor) (λ f k. tt)
    (λ minor k. then _ pool_is (λ f. f.pool) (λ f k. tt)
    (λ pool k. said {Fits' = λ f. FitsBody f.pool f} (body_is minor pool)
    (λ f h k. (subst (λ (p : List Const). FitsBody p f) (sym k.1) h, k))
    (λ f h k. (subst (λ (p : List Const). FitsBody p f) k.1 h, k)))))
    (λ f h k. (class_fits f h.0 h.1.0 h.1.1, tt))
    (λ f h k. ((h.minor, (pool_whole f.pool h.pool, fits_class f h)), tt))

class_takes : (bytes : List ℕ) (f : ClassFile) → IsBytes bytes → class_of bytes ≡ Ok f → EncodesClass bytes f
unfolding class_of
class_takes bytes f fits e =
    let b = need_ok (nat_le (length bytes) 1048576) (TooLong (length bytes)) (λ _. whole file_at (λ p. Tail p.at) bytes) f e in
    let t = whole_takes class_is (λ p. Tail p.at) bytes f fits b.1 in
    record { is = t.0; fits = t.1 }

class_again : (bytes : List ℕ) (f : ClassFile) → EncodesClass bytes f → length bytes ≤ 1048576 → class_of bytes ≡ Ok f
unfolding class_of
class_again bytes f h short =
    let t = whole_again class_is (λ p. Tail p.at) f h.fits in
    let b : nat_le (length bytes) 1048576 ≡ true = grind (arith, nat_tests) in
    rw (b, h.is) t

pub is_found : (bytes : List ℕ) (r : Result ClassFile ClassFault) → IsBytes bytes → Answers Memory r (class_of bytes)
    → IfOk r (λ f. EncodesClass bytes f)
is_found bytes (Ok f) fits given = class_takes bytes f fits given
is_found bytes (Err e) fits given = tt

pub is_only : (bytes : List ℕ) (r : Result ClassFile ClassFault) (f : ClassFile) → Answers Memory r (class_of bytes) → EncodesClass bytes f
    → length bytes ≤ 1048576 → Answers Memory r (Ok f)
is_only bytes r f given h short = subst (λ (read : Result ClassFile ClassFault). Answers Memory r read) (class_again bytes f h short) given

pub same_tree : (bytes : List ℕ) (f g : ClassFile) → EncodesClass bytes f → EncodesClass bytes g → f ≡ g
same_tree bytes f g encodes_f encodes_g =
    let one = whole_again class_is (λ p. Tail p.at) f encodes_f.fits in
    let two = whole_again class_is (λ p. Tail p.at) g encodes_g.fits in
    let same : encoding.encoding f ≡ encoding.encoding g = sym encodes_f.is ∙ encodes_g.is in
    ok_is ClassFault f g (sym one ∙ ap (λ (b : List ℕ). whole file_at (λ p. Tail p.at) b) same ∙ two)

pub is_long : (bytes : List ℕ) (r : Result ClassFile ClassFault) → Answers Memory r (class_of bytes) → 1048576 < length bytes
    → Answers Memory r (Err (TooLong (length bytes)))
unfolding class_of
is_long bytes r given long =
    let b : nat_le (length bytes) 1048576 ≡ false = grind (arith, nat_tests) in
    let same : class_of bytes ≡ Err (TooLong (length bytes)) = rw b refl in
    subst (λ (read : Result ClassFile ClassFault). Answers Memory r read) same given
