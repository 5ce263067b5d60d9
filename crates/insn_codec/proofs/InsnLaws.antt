-- An instruction is read exactly as it is encoded.
use Rattle.std.proofs.Common.{◌≡◌, ℕ, ◌<◌, ◌^◌, true, false, List, [], ◌∷◌, ◌++◌, replicate, Ok, refl, sym, ap, subst, ◌∙◌, append_assoc, FitsSigned, inl, inr, arith}
use Rattle.std.specs.Prelude.{◌==◌, ◌&&◌, ◌⊎◌, nat_le}
use Rattle.std.specs.Int.{w8, w16, w32}
use Rattle.std.specs.List.{AllByRecursion}
use Rattle.std.proofs.lemmas.Bool.{false≢true}
use Rattle.std.proofs.lemmas.Bool.Decides.{nat_tests}
use Rattle.std.proofs.lemmas.List.{append-nil}
use Rattle.mon_base.specs.Reading.{Place, ◌>>=◌, need}
use Rattle.mon_base.proofs.Reading.{bind_ok, ok_is, need_ok, after, Took, IsTail, IsReader, then, said, done, encoded, refuse}
use Rattle.mon_base.proofs.Readers.{tested, wrapped}
use Rattle.insn_codec.specs.declared.fault.CodeFault.TheVariants as faults
use Rattle.insn_codec.specs.declared.opcode.Operands.{Operands}
use Rattle.insn_codec.specs.declared.opcode.Operands.TheVariants as ops
use Rattle.insn_codec.specs.declared.insn.Insn.{Insn}
use Rattle.insn_codec.specs.declared.insn.Insn.TheVariants.{Plain, Byte, Short, Ldc, Pool, Iface, Local, Inc, Branch, GotoW, NewArray, Table, Lookup}
use Rattle.insn_codec.specs.Opcodes.{operands_of}
use Rattle.mon_base.specs.Widths.{u1}
use Rattle.insn_codec.specs.Encoding.{offset, padding, bytes_of}
use Rattle.mon_base.specs.Widths.{IsU1}
use Rattle.insn_codec.specs.Fits.{is_item_type, IsInsn}
use Rattle.insn_codec.specs.Reading.{Finder, u1_at, iface_at, new_array_at, inc_at, wide_inc_at, widened_at, wide_at, operands_at, insn_at}
use Rattle.insn_codec.proofs.Laws.{Leads, FitsFar, u1_is, u2_is, i1_is, i2_is, near_is, far_is}
use Rattle.insn_codec.proofs.SwitchLaws.{is_table, is_lookup, FitsRanged, FitsKeyed, after_padding, after_zeros, table_is, lookup_is}
use Rattle.insn_codec.proofs.InsnForms.{number, known_opcode, equal_numbers, only_byte, byte_code, only_short, short_code, only_ldc, ldc_code, only_inc, inc_code, only_gotow, gotow_code, only_table, table_code, only_lookup, lookup_code, only_iface, iface_code, only_newarray, newarray_code, only_wide, wide_code, form_of, first_byte, after_first, FitsInsn, Known, is_plain, is_byte, is_short, is_ldc, is_pool, is_local, is_branch, is_goto_w, is_new_array, table_form, lookup_form, none_left_out, none_unknown, slot_of, by_of, index_of, count_of, inner_of, after_inner, inc_made, iface_made}
use Rattle.insn_codec.specs.declared.opcodes.TheConstants.{IINC, TABLESWITCH, LOOKUPSWITCH, NEWARRAY, WIDE}

-- ---- each form

small : (o : Operands) → (number o == 15) ≡ false → (op : ℕ) → operands_of op ≡ o → op < 2 ^ 8
small o known op is =
    let less = known_opcode op (ap (λ (x : Operands). number x == 15) is ∙ known) in
    omega arith

plain_made : (op : ℕ) (a : Insn) → Known ops.Plain op a → a ≡ Plain op
plain_made op a k = sym (is_plain a k.1) ∙ ap (λ (m : ℕ). Plain m) k.0

abbrev IsForm : Finder → List ℕ → ℕ → ℕ → Operands → ℕ → Type 0
IsForm find starts n at o op = IsTail (operands_at o find at op) (after_first starts at) (FitsInsn starts n at) (Known o op)

plain_form : (find : Finder) (starts : List ℕ) (n at op : ℕ) → operands_of op ≡ ops.Plain → IsForm find starts n at ops.Plain op
plain_form find starts n at op is =
    said (encoded (done {known = Known ops.Plain op} (Plain op) (refl, refl) (λ a k. plain_made op a k))
    (λ a k. ap (after_first starts at) (sym (plain_made op a k))))
    (λ a f k. (subst (FitsInsn starts n at) (sym (plain_made op a k)) ((small ops.Plain refl op is, is), (tt, tt)), k))
    (λ a f k. (tt, k))

byte_form : (find : Finder) (starts : List ℕ) (n at op : ℕ) → operands_of op ≡ ops.Byte → IsForm find starts n at ops.Byte op
byte_form find starts n at op is = wrapped {A = Insn} (λ x. Byte x) (i1_is at)
    (λ x f k. (refl, (f, (tt, tt)), (sym (only_byte op is), refl)))
    (λ a f k. let g = is_byte a k.1 in (g.0, g.1, subst IsInsn (sym g.1) f.0, tt))

short_form : (find : Finder) (starts : List ℕ) (n at op : ℕ) → operands_of op ≡ ops.Short → IsForm find starts n at ops.Short op
short_form find starts n at op is = wrapped {A = Insn} (λ x. Short x) (i2_is at)
    (λ x f k. (refl, (f, (tt, tt)), (sym (only_short op is), refl)))
    (λ a f k. let g = is_short a k.1 in (g.0, g.1, subst IsInsn (sym g.1) f.0, tt))

ldc_form : (find : Finder) (starts : List ℕ) (n at op : ℕ) → operands_of op ≡ ops.Ldc → IsForm find starts n at ops.Ldc op
ldc_form find starts n at op is = wrapped {A = Insn} (λ x. Ldc x) (u1_is at)
    (λ x f k. (refl, (f, (tt, tt)), (sym (only_ldc op is), refl)))
    (λ a f k. let g = is_ldc a k.1 in (g.0, g.1, subst IsInsn (sym g.1) f.0, tt))

pool_form : (find : Finder) (starts : List ℕ) (n at op : ℕ) → operands_of op ≡ ops.Pool → IsForm find starts n at ops.Pool op
pool_form find starts n at op is = wrapped {A = Insn} (λ x. Pool op x) (u2_is at)
    (λ x f k. (refl, ((small ops.Pool refl op is, is, f), (tt, tt)), (refl, refl)))
    (λ a f k. let g = is_pool a k.1 in
    let made : Pool op g.0 ≡ a = ap (λ (m : ℕ). Pool m g.0) (sym k.0) ∙ g.1 in
    let h : IsInsn (Pool op g.0) = subst IsInsn (sym made) f.0 in
    (g.0, made, h.2, tt))

local_form : (find : Finder) (starts : List ℕ) (n at op : ℕ) → operands_of op ≡ ops.Local → IsForm find starts n at ops.Local op
local_form find starts n at op is = wrapped {A = Insn} (λ x. Local op x false) (u1_is at)
    (λ x f k. (refl, ((small ops.Local refl op is, is, f), (tt, tt)), (refl, refl)))
    (λ a f k. let g = is_local a k.1 in
    let made : Local op g.0 false ≡ a = ap (λ (m : ℕ). Local m g.0 false) (sym k.0) ∙ g.1 in
    let h : IsInsn (Local op g.0 false) = subst IsInsn (sym made) f.0 in
    (g.0, made, h.2, tt))

branch_form : (find : Finder) (starts : List ℕ) (n at op : ℕ) → Leads find starts n → operands_of op ≡ ops.Branch → IsForm find starts n at ops.Branch op
branch_form find starts n at op leads is = wrapped {A = Insn} (λ to. Branch op to) (near_is find starts n at leads)
    (λ to f k. (refl, ((small ops.Branch refl op is, is), (f.0, f.1)), (refl, refl)))
    (λ a f k. let g = is_branch a k.1 in
    let made : Branch op g.0 ≡ a = ap (λ (m : ℕ). Branch m g.0) (sym k.0) ∙ g.1 in
    let h : FitsInsn starts n at (Branch op g.0) = subst (FitsInsn starts n at) (sym made) f in
    (g.0, made, (h.1.0, h.1.1), tt))

goto_w_form : (find : Finder) (starts : List ℕ) (n at op : ℕ) → Leads find starts n → operands_of op ≡ ops.GotoW → IsForm find starts n at ops.GotoW op
goto_w_form find starts n at op leads is = wrapped {A = Insn} (λ to. GotoW to) (far_is find starts n at leads)
    (λ to f k. (refl, (tt, (f.0, f.1)), (sym (only_gotow op is), refl)))
    (λ a f k. let g = is_goto_w a k.1 in
    let h : FitsInsn starts n at (GotoW g.0) = subst (FitsInsn starts n at) (sym g.1) f in
    (g.0, g.1, (h.1.0, h.1.1), tt))

inc_form : (find : Finder) (starts : List ℕ) (n at op : ℕ) → operands_of op ≡ ops.Inc → IsForm find starts n at ops.Inc op
unfolding inc_at
inc_form find starts n at op is = said (encoded (then {Fits = λ a. FitsSigned w8 (by_of a)} {known = Known ops.Inc op} _ (u1_is at) slot_of (λ a k. tt)
    (λ slot k. wrapped {A = Insn} (λ by. Inc slot by false) (i1_is at)
    (λ by f k. (refl, f, ((sym (only_inc op is), refl), refl)))
    (λ a f k. (by_of a, ap (λ (m : ℕ). Inc m (by_of a) false) (sym k.1) ∙ inc_made a k.0.1, f, tt))))
    (λ a k. ap (after_first starts at) (inc_made a k.1)))
    (λ a f k. (subst (FitsInsn starts n at) (inc_made a k.1) (f, (tt, tt)), k))
    (λ a f k. let h : FitsInsn starts n at (Inc (slot_of a) (by_of a) false) = subst (FitsInsn starts n at) (sym (inc_made a k.1)) f in (h.0, k))

iface_form : (find : Finder) (starts : List ℕ) (n at op : ℕ) → operands_of op ≡ ops.Iface → IsForm find starts n at ops.Iface op
unfolding iface_at
iface_form find starts n at op is = said (encoded (then {Fits = λ a. IsU1 (count_of a) × Unit {0}} {known = Known ops.Iface op} _ (u2_is at) index_of (λ a k. tt)
    (λ index k. then {Fits = λ a. Unit {0}} _ (u1_is at) count_of (λ a k. tt)
    (λ count k. tested {A = Insn} (λ z. z == 0) (faults.Form at) (λ z. Iface index count) (u1_is at)
    (λ z f k e. (ap u1 (equal_numbers z 0 e), tt, (((sym (only_iface op is), refl), refl), refl)))
    (λ a f k. (0, ap (λ (m : ℕ). Iface m count) (sym k.0.1) ∙ ap (λ (m : ℕ). Iface (index_of a) m) (sym k.1) ∙ iface_made a k.0.0.1, omega arith, tt, refl)))))
    (λ a k. ap (after_first starts at) (iface_made a k.1)))
    (λ a f k. (subst (FitsInsn starts n at) (iface_made a k.1) ((f.0, f.1.0), (tt, tt)), k))
    (λ a f k. let h : FitsInsn starts n at (Iface (index_of a) (count_of a)) = subst (FitsInsn starts n at) (sym (iface_made a k.1)) f in ((h.0.0, (h.0.1, tt)), k))

-- the types of an array's items: two tests
kind_tests : (kind : ℕ) → is_item_type kind ≡ true → (nat_le 4 kind && nat_le kind 11) ≡ true
kind_tests kind h = grind (arith, nat_tests)

kind_small : (kind : ℕ) → is_item_type kind ≡ true → IsU1 kind
kind_small kind h = grind (arith, nat_tests)

new_array_form : (find : Finder) (starts : List ℕ) (n at op : ℕ) → operands_of op ≡ ops.NewArray → IsForm find starts n at ops.NewArray op
unfolding new_array_at
new_array_form find starts n at op is = record {
  takes = λ place a next fits e.
      let b = bind_ok (u1_at at place) (λ kind. need (nat_le 4 kind.0 && nat_le kind.0 11) (faults.Form at) >>= λ _. need (is_item_type kind.0) (faults.LeftOut at NEWARRAY) >>= λ _. Ok (NewArray kind.0, kind.1)) (a, next) e in
      let g = need_ok (nat_le 4 b.0.0 && nat_le b.0.0 11) (faults.Form at) (λ _. need (is_item_type b.0.0) (faults.LeftOut at NEWARRAY) >>= λ _. Ok (NewArray b.0.0, b.0.1)) (a, next) b.2 in
      let d = need_ok (is_item_type b.0.0) (faults.LeftOut at NEWARRAY) (λ _. Ok (NewArray b.0.0, b.0.1)) (a, next) g.1 in
      let t = (u1_is at).takes place b.0.0 b.0.1 fits b.1 in
      let made : Insn × Place = (NewArray b.0.0, b.0.1) in
      subst (λ (x : Insn × Place). Took place (after_first starts at x.0) x.1 × FitsInsn starts n at x.0 × Known ops.NewArray op x.0) (ok_is _ made (a, next) d.1) (t.0, (d.0, (tt, tt)), (sym (only_newarray op is), refl));
  again = λ place a rest fits k e.
      let g = is_new_array a k.1 in
      let held : is_item_type g.0 ≡ true = subst IsInsn (sym g.1) fits.0 in
      let same : u1 g.0 ≡ after_first starts at a = ap (after_first starts at) g.1 in
      let one = (u1_is at).again place g.0 rest (kind_small g.0 held) tt (e ∙ ap (λ (x : List ℕ). x ++ rest) (sym same)) in
      rw (one, kind_tests g.0 held, held) (ap (λ (x : Insn). Ok (x, after place (after_first starts at x) rest)) g.1);
}

-- ---- after wide

wide_after : (starts : List ℕ) (at : ℕ) (a : Insn) → form_of a ≡ ops.Wide → u1 (inner_of a) ++ after_inner a ≡ after_first starts at a
wide_after starts at (Plain op) e = absurd cc
wide_after starts at (Byte n) e = absurd cc
wide_after starts at (Short n) e = absurd cc
wide_after starts at (Ldc index) e = absurd cc
wide_after starts at (Pool op index) e = absurd cc
wide_after starts at (Iface index count) e = absurd cc
wide_after starts at (Local op slot false) e = absurd cc
wide_after starts at (Local op slot true) e = refl
wide_after starts at (Inc slot by false) e = absurd cc
wide_after starts at (Inc slot by true) e = refl
wide_after starts at (Branch op to) e = absurd cc
wide_after starts at (GotoW to) e = absurd cc
wide_after starts at (NewArray kind) e = absurd cc
wide_after starts at (Table other low targets) e = absurd cc
wide_after starts at (Lookup other keys targets) e = absurd cc

wide_fits : (starts : List ℕ) (most at : ℕ) (a : Insn) → form_of a ≡ ops.Wide → IsInsn a → FitsInsn starts most at a
wide_fits starts most at (Plain op) e f = absurd cc
wide_fits starts most at (Byte n) e f = absurd cc
wide_fits starts most at (Short n) e f = absurd cc
wide_fits starts most at (Ldc index) e f = absurd cc
wide_fits starts most at (Pool op index) e f = absurd cc
wide_fits starts most at (Iface index count) e f = absurd cc
wide_fits starts most at (Local op slot false) e f = absurd cc
wide_fits starts most at (Local op slot true) e f = (f, (tt, tt))
wide_fits starts most at (Inc slot by false) e f = absurd cc
wide_fits starts most at (Inc slot by true) e f = (f, (tt, tt))
wide_fits starts most at (Branch op to) e f = absurd cc
wide_fits starts most at (GotoW to) e f = absurd cc
wide_fits starts most at (NewArray kind) e f = absurd cc
wide_fits starts most at (Table other low targets) e f = absurd cc
wide_fits starts most at (Lookup other keys targets) e f = absurd cc

inner_small : (a : Insn) → form_of a ≡ ops.Wide → IsInsn a → IsU1 (inner_of a)
inner_small (Plain op) e f = absurd cc
inner_small (Byte n) e f = absurd cc
inner_small (Short n) e f = absurd cc
inner_small (Ldc index) e f = absurd cc
inner_small (Pool op index) e f = absurd cc
inner_small (Iface index count) e f = absurd cc
inner_small (Local op slot false) e f = absurd cc
inner_small (Local op slot true) e f = f.0
inner_small (Inc slot by false) e f = absurd cc
inner_small (Inc slot by true) e f = omega arith
inner_small (Branch op to) e f = absurd cc
inner_small (GotoW to) e f = absurd cc
inner_small (NewArray kind) e f = absurd cc
inner_small (Table other low targets) e f = absurd cc
inner_small (Lookup other keys targets) e f = absurd cc

inner_operands : (a : Insn) → form_of a ≡ ops.Wide → IsInsn a → (operands_of (inner_of a) ≡ ops.Local) ⊎ (operands_of (inner_of a) ≡ ops.Inc)
inner_operands (Plain op) e f = absurd cc
inner_operands (Byte n) e f = absurd cc
inner_operands (Short n) e f = absurd cc
inner_operands (Ldc index) e f = absurd cc
inner_operands (Pool op index) e f = absurd cc
inner_operands (Iface index count) e f = absurd cc
inner_operands (Local op slot false) e f = absurd cc
inner_operands (Local op slot true) e f = inl f.1
inner_operands (Inc slot by false) e f = absurd cc
inner_operands (Inc slot by true) e f = inr inc_code
inner_operands (Branch op to) e f = absurd cc
inner_operands (GotoW to) e f = absurd cc
inner_operands (NewArray kind) e f = absurd cc
inner_operands (Table other low targets) e f = absurd cc
inner_operands (Lookup other keys targets) e f = absurd cc

not_both : (x : Operands) → x ≡ ops.Local → x ≡ ops.Inc → ⊥
not_both x e f = absurd (false≢true (sym (ap (λ (o : Operands). number o == 6) e) ∙ ap (λ (o : Operands). number o == 6) f))

wide_local : (a : Insn) → form_of a ≡ ops.Wide → operands_of (inner_of a) ≡ ops.Local → Local (inner_of a) (slot_of a) true ≡ a
wide_local (Plain op) e f = absurd cc
wide_local (Byte n) e f = absurd cc
wide_local (Short n) e f = absurd cc
wide_local (Ldc index) e f = absurd cc
wide_local (Pool op index) e f = absurd cc
wide_local (Iface index count) e f = absurd cc
wide_local (Local op slot false) e f = absurd cc
wide_local (Local op slot true) e f = refl
wide_local (Inc slot by false) e f = absurd cc
wide_local (Inc slot by true) e f = absurd (not_both (operands_of IINC) f inc_code)
wide_local (Branch op to) e f = absurd cc
wide_local (GotoW to) e f = absurd cc
wide_local (NewArray kind) e f = absurd cc
wide_local (Table other low targets) e f = absurd cc
wide_local (Lookup other keys targets) e f = absurd cc

wide_inc : (a : Insn) → form_of a ≡ ops.Wide → IsInsn a → operands_of (inner_of a) ≡ ops.Inc → Inc (slot_of a) (by_of a) true ≡ a
wide_inc (Plain op) e f g = absurd cc
wide_inc (Byte n) e f g = absurd cc
wide_inc (Short n) e f g = absurd cc
wide_inc (Ldc index) e f g = absurd cc
wide_inc (Pool op index) e f g = absurd cc
wide_inc (Iface index count) e f g = absurd cc
wide_inc (Local op slot false) e f g = absurd cc
wide_inc (Local op slot true) e f g = absurd (not_both (operands_of op) f.1 g)
wide_inc (Inc slot by false) e f g = absurd cc
wide_inc (Inc slot by true) e f g = refl
wide_inc (Branch op to) e f g = absurd cc
wide_inc (GotoW to) e f g = absurd cc
wide_inc (NewArray kind) e f g = absurd cc
wide_inc (Table other low targets) e f g = absurd cc
wide_inc (Lookup other keys targets) e f g = absurd cc

never_wide : (o : Operands) → (number o == 5) ≡ false → (number o == 6) ≡ false → (a : Insn) → form_of a ≡ ops.Wide → IsInsn a
    → operands_of (inner_of a) ≡ o → ⊥
never_wide o no_local no_inc a form fits e =
    elim (inner_operands a form fits) [
      | inl x ↦ absurd (false≢true (sym no_local ∙ ap (λ (y : Operands). number y == 5) (sym e ∙ x)))
      | inr x ↦ absurd (false≢true (sym no_inc ∙ ap (λ (y : Operands). number y == 6) (sym e ∙ x)))
    ]

abbrev KnownWide : ℕ → ℕ → Insn → Type 0
KnownWide first op a = Known ops.Wide first a × (inner_of a ≡ op)

abbrev IsWidened : ℕ → ℕ → Operands → ℕ → Type 0
IsWidened at first o op = IsTail (widened_at o at op) after_inner IsInsn (KnownWide first op)

widened_local : (at first op : ℕ) → first ≡ WIDE → operands_of op ≡ ops.Local → IsWidened at first ops.Local op
widened_local at first op here is = wrapped {A = Insn} (λ slot. Local op slot true) (u2_is at)
    (λ slot f k. (refl, (small ops.Local refl op is, is, f), ((sym here, refl), refl)))
    (λ a f k. let made : Local op (slot_of a) true ≡ a = ap (λ (m : ℕ). Local m (slot_of a) true) (sym k.1) ∙ wide_local a k.0.1 (ap operands_of k.1 ∙ is) in
    let h : IsInsn (Local op (slot_of a) true) = subst IsInsn (sym made) f in
    (slot_of a, made, h.2, tt))

abbrev KnownInc : ℕ → ℕ → Insn → Type 0
KnownInc first op a = KnownWide first op a × (Inc (slot_of a) (by_of a) true ≡ a)

widened_inc : (at first op : ℕ) → first ≡ WIDE → operands_of op ≡ ops.Inc → IsWidened at first ops.Inc op
unfolding wide_inc_at
widened_inc at first op here is = said (encoded (then {Fits = λ a. FitsSigned w16 (by_of a)} {known = KnownInc first op} _ (u2_is at) slot_of (λ a k. tt)
    (λ slot k. wrapped {A = Insn} (λ by. Inc slot by true) (i2_is at)
    (λ by f k. (refl, f, ((((sym here, refl), sym (only_inc op is)), refl), refl)))
    (λ a f k. (by_of a, ap (λ (m : ℕ). Inc m (by_of a) true) (sym k.1) ∙ k.0.1, f, tt))))
    (λ a k. ap after_inner k.1))
    (λ a f k. (subst IsInsn k.1 f, k.0))
    (λ a f k. let made = wide_inc a k.0.1 f (ap operands_of k.1 ∙ is) in
    let h : IsInsn (Inc (slot_of a) (by_of a) true) = subst IsInsn (sym made) f in (h, (k, made)))

widened_is : (at first : ℕ) → first ≡ WIDE → (o : Operands) (op : ℕ) → operands_of op ≡ o → IsWidened at first o op
widened_is at first here ops.Local op is = widened_local at first op here is
widened_is at first here ops.Inc op is = widened_inc at first op here is
widened_is at first here o op is = refuse (λ p. faults.Form at) (λ a f k. never_wide o refl refl a k.0.1 f (ap operands_of k.1 ∙ is))

wide_form : (find : Finder) (starts : List ℕ) (n at op : ℕ) → operands_of op ≡ ops.Wide → IsForm find starts n at ops.Wide op
unfolding wide_at
wide_form find starts n at first is = said (encoded (then {Fits = IsInsn} {known = Known ops.Wide first} _ (u1_is at) inner_of (λ a k. tt)
    (λ op k. widened_is at first (only_wide first is) (operands_of op) op refl))
    (λ a k. wide_after starts at a k.1))
    (λ a f k. (wide_fits starts n at a k.1 f.1, k))
    (λ a f k. ((inner_small a k.1 f.0, f.0), k))

-- ---- switches

all_near : (starts : List ℕ) (n at : ℕ) (ts : List ℕ) → AllByRecursion (FitsFar starts n at) ts → AllByRecursion (λ to. to < n) ts
all_near starts n at [] h = tt
all_near starts n at (t ∷ ts) h = (h.0.0, all_near starts n at ts h.1)

all_held : (starts : List ℕ) (n at : ℕ) (ts : List ℕ) → AllByRecursion (FitsFar starts n at) ts → AllByRecursion (λ to. FitsSigned w32 (offset starts at to)) ts
all_held starts n at [] h = tt
all_held starts n at (t ∷ ts) h = (h.0.1, all_held starts n at ts h.1)

all_far : (starts : List ℕ) (n at : ℕ) (ts : List ℕ) → AllByRecursion (λ to. to < n) ts → AllByRecursion (λ to. FitsSigned w32 (offset starts at to)) ts
    → AllByRecursion (FitsFar starts n at) ts
all_far starts n at [] a b = tt
all_far starts n at (t ∷ ts) a b = ((a.0, b.0), all_far starts n at ts a.1 b.1)

table_known : (a : Insn) → is_table a ≡ true → (first_byte a ≡ TABLESWITCH) × (form_of a ≡ ops.Table)
table_known (Table other low targets) h = (refl, refl)
table_known a h = absurd (false≢true h)

table_after : (starts : List ℕ) (at : ℕ) (a : Insn) → is_table a ≡ true → replicate (padding at) 0 ++ after_padding starts at a ≡ after_first starts at a
table_after starts at (Table other low targets) h = refl
table_after starts at a h = absurd (false≢true h)

table_to : (starts : List ℕ) (n at : ℕ) (a : Insn) → is_table a ≡ true → FitsRanged starts n at a → FitsInsn starts n at a
table_to starts n at (Table other low targets) h f = (record { least = f.1.0.least; some = f.1.0.some; most = f.1.0.most }, ((f.0.0, all_near starts n at targets f.1.1), (f.0.1, all_held starts n at targets f.1.1)))
table_to starts n at a h f = absurd (false≢true h)

table_from : (starts : List ℕ) (n at : ℕ) (a : Insn) → is_table a ≡ true → FitsInsn starts n at a → FitsRanged starts n at a
table_from starts n at (Table other low targets) h f = ((f.1.0.0, f.1.1.0), (record { least = f.0.least; some = f.0.some; most = f.0.most }, all_far starts n at targets f.1.0.1 f.1.1.1))
table_from starts n at a h f = absurd (false≢true h)

table_op : (find : Finder) (starts : List ℕ) (n at op : ℕ) → Leads find starts n → operands_of op ≡ ops.Table → IsForm find starts n at ops.Table op
table_op find starts n at op leads is = said (encoded (table_is find starts n at leads) (λ a k. table_after starts at a k))
    (λ a f k. let h = table_known a k in (table_to starts n at a k f.1, (h.0 ∙ sym (only_table op is), h.1)))
    (λ a f k. let h = table_form a k.1 in ((tt, table_from starts n at a h f), h))

lookup_known : (a : Insn) → is_lookup a ≡ true → (first_byte a ≡ LOOKUPSWITCH) × (form_of a ≡ ops.Lookup)
lookup_known (Lookup other keys targets) h = (refl, refl)
lookup_known a h = absurd (false≢true h)

lookup_after : (starts : List ℕ) (at : ℕ) (a : Insn) → is_lookup a ≡ true → replicate (padding at) 0 ++ after_zeros starts at a ≡ after_first starts at a
lookup_after starts at (Lookup other keys targets) h = refl
lookup_after starts at a h = absurd (false≢true h)

lookup_to : (starts : List ℕ) (n at : ℕ) (a : Insn) → is_lookup a ≡ true → FitsKeyed starts n at a → FitsInsn starts n at a
lookup_to starts n at (Lookup other keys targets) h f = (f.1.0, ((f.0.0, all_near starts n at targets f.1.1), (f.0.1, all_held starts n at targets f.1.1)))
lookup_to starts n at a h f = absurd (false≢true h)

lookup_from : (starts : List ℕ) (n at : ℕ) (a : Insn) → is_lookup a ≡ true → FitsInsn starts n at a → FitsKeyed starts n at a
lookup_from starts n at (Lookup other keys targets) h f = ((f.1.0.0, f.1.1.0), (f.0, all_far starts n at targets f.1.0.1 f.1.1.1))
lookup_from starts n at a h f = absurd (false≢true h)

lookup_op : (find : Finder) (starts : List ℕ) (n at op : ℕ) → Leads find starts n → operands_of op ≡ ops.Lookup → IsForm find starts n at ops.Lookup op
lookup_op find starts n at op leads is = said (encoded (lookup_is find starts n at leads) (λ a k. lookup_after starts at a k))
    (λ a f k. let h = lookup_known a k in (lookup_to starts n at a k f.1, (h.0 ∙ sym (only_lookup op is), h.1)))
    (λ a f k. let h = lookup_form a k.1 in ((tt, lookup_from starts n at a h f), h))

-- ---- all forms

operands_is : (find : Finder) (starts : List ℕ) (n at : ℕ) → Leads find starts n → (o : Operands) (op : ℕ) → operands_of op ≡ o
    → IsForm find starts n at o op
operands_is find starts n at leads ops.Plain op is = plain_form find starts n at op is
operands_is find starts n at leads ops.Byte op is = byte_form find starts n at op is
operands_is find starts n at leads ops.Short op is = short_form find starts n at op is
operands_is find starts n at leads ops.Ldc op is = ldc_form find starts n at op is
operands_is find starts n at leads ops.Pool op is = pool_form find starts n at op is
operands_is find starts n at leads ops.Local op is = local_form find starts n at op is
operands_is find starts n at leads ops.Inc op is = inc_form find starts n at op is
operands_is find starts n at leads ops.Branch op is = branch_form find starts n at op leads is
operands_is find starts n at leads ops.GotoW op is = goto_w_form find starts n at op leads is
operands_is find starts n at leads ops.Table op is = table_op find starts n at op leads is
operands_is find starts n at leads ops.Lookup op is = lookup_op find starts n at op leads is
operands_is find starts n at leads ops.Iface op is = iface_form find starts n at op is
operands_is find starts n at leads ops.NewArray op is = new_array_form find starts n at op is
operands_is find starts n at leads ops.Wide op is = wide_form find starts n at op is
operands_is find starts n at leads ops.LeftOut op is = refuse (λ p. faults.LeftOut at op) (λ a f k. none_left_out a k.1)
operands_is find starts n at leads ops.Unknown op is = refuse (λ p. faults.Opcode at op) (λ a f k. none_unknown a k.1)

-- An instruction stands with the operands of its first byte.
fits_form : (a : Insn) → IsInsn a → operands_of (first_byte a) ≡ form_of a
fits_form (Plain op) f = f.1
fits_form (Byte n) f = byte_code
fits_form (Short n) f = short_code
fits_form (Ldc index) f = ldc_code
fits_form (Pool op index) f = f.1
fits_form (Iface index count) f = iface_code
fits_form (Local op slot false) f = f.1
fits_form (Local op slot true) f = wide_code
fits_form (Inc slot by false) f = inc_code
fits_form (Inc slot by true) f = wide_code
fits_form (Branch op to) f = f.1
fits_form (GotoW to) f = gotow_code
fits_form (NewArray kind) f = newarray_code
fits_form (Table other low targets) f = table_code
fits_form (Lookup other keys targets) f = lookup_code

first_small : (a : Insn) → IsInsn a → IsU1 (first_byte a)
first_small (Plain op) f = f.0
first_small (Byte n) f = omega arith
first_small (Short n) f = omega arith
first_small (Ldc index) f = omega arith
first_small (Pool op index) f = f.0
first_small (Iface index count) f = omega arith
first_small (Local op slot false) f = f.0
first_small (Local op slot true) f = omega arith
first_small (Inc slot by false) f = omega arith
first_small (Inc slot by true) f = omega arith
first_small (Branch op to) f = f.0
first_small (GotoW to) f = omega arith
first_small (NewArray kind) f = omega arith
first_small (Table other low targets) f = omega arith
first_small (Lookup other keys targets) f = omega arith

first_after : (starts : List ℕ) (at : ℕ) (a : Insn) → u1 (first_byte a) ++ after_first starts at a ≡ bytes_of starts at a
first_after starts at (Plain op) = append-nil (u1 op)
first_after starts at (Byte n) = refl
first_after starts at (Short n) = refl
first_after starts at (Ldc index) = refl
first_after starts at (Pool op index) = refl
first_after starts at (Iface index count) = refl
first_after starts at (Local op slot false) = refl
first_after starts at (Local op slot true) = refl
first_after starts at (Inc slot by false) = refl
first_after starts at (Inc slot by true) = refl
first_after starts at (Branch op to) = refl
first_after starts at (GotoW to) = refl
first_after starts at (NewArray kind) = refl
first_after starts at (Table other low targets) = simp append_assoc
first_after starts at (Lookup other keys targets) = simp append_assoc

pub insn_is : (find : Finder) (starts : List ℕ) (n at : ℕ) → Leads find starts n
    → IsReader (insn_at find at) (bytes_of starts at) (FitsInsn starts n at)
unfolding insn_at
insn_is find starts n at leads = said (encoded (then {Fits = FitsInsn starts n at} {known = λ _. Unit {0}} _ (u1_is at) first_byte (λ a k. tt)
    (λ op k. said (operands_is find starts n at leads (operands_of op) op refl)
    (λ a f k. (f, (tt, k.0)))
    (λ a f k. (f, (k.1, sym (fits_form a f.0) ∙ ap operands_of k.1)))))
    (λ a k. first_after starts at a))
    (λ a f k. (f.1, tt))
    (λ a f k. ((first_small a f.0, f), tt))
