-- Frame types, and all that uses names, are read exactly as they are encoded.
use Rattle.std.proofs.Common.{◌≡◌, ℕ, suc, ◌+◌, ◌-◌, ◌<◌, ◌≤◌, ◌^◌, Bool, true, false, not, cond, List, [], ◌∷◌, ◌++◌, length, get_or, Option, Some, None, Ok, refl, sym, ap, subst, ◌∙◌, append_assoc, arith}
use Rattle.std.specs.Prelude.{nat_le, nat_lt, ◌&&◌}
use Rattle.std.specs.List.{flat_map, zip, AllByRecursion}
use Rattle.std.proofs.lemmas.Bool.Decides.{nat_tests}
use Rattle.std.proofs.lemmas.List.{length-append}
use Rattle.std.proofs.lemmas.Slice.Zip.{firsts-zip, seconds-zip}
use Rattle.mon_base.specs.Reading.{Place, ◌>>=◌, need}
use Rattle.mon_base.proofs.Reading.{bind_ok, need_ok, ok_is, after, Took, Took-then}
use Rattle.cert_format.specs.declared.fault.CertForm.{CertForm}
use Rattle.cert_format.specs.declared.fault.CertForm.TheVariants.{Form}
use Rattle.cert_format.specs.declared.typing.VType.{VType}
use Rattle.cert_format.specs.declared.typing.VType.TheVariants as types
use Rattle.cert_format.specs.declared.typing.FrameType.{FrameType}
use Rattle.cert_format.specs.declared.note.Note.{Note}
use Rattle.cert_format.specs.Names.{Name, name_index, StandOnce, type_names, frame_names, method_names, class_names}
use Rattle.mon_base.specs.Widths.{u1, u2, u4}
use Rattle.cert_format.specs.Encoding.{flag, encode_type, encode_types, encode_note, encode_instruction, encode_method, encode_class, encode_classes}
use Rattle.mon_base.specs.Widths.{IsU2, IsU4}
use Rattle.cert_format.specs.Fits.{FitsType, FitTypes, ends_with_top, FitsFrame, FitsInstruction, FitsMethod, FitsClass, FitClasses}
use Rattle.cert_format.specs.Reading.{Decoded, u1_at, u4_at, flag_at, used_with, reference_at, type_of_kind, told_type, types_at, locals_at, frame_at, note_at, not_reached_at, reached_at, instruction_at, unzipped, as_lists, told_method, told_class, classes_at}
use Rattle.cert_format.proofs.Places.{get_or-place}
use Rattle.cert_format.proofs.Order.{IsTurn, InOrder, join, split}
use Rattle.cert_format.proofs.Readers.{u1_is, u4_is, Takes, form, plain, never, kind_or, tagged, kind_again, plain_again, IsItem, short_list_is, long_list_is}
use Rattle.cert_format.proofs.NoteLaws.{flag_is, note_is, free_is}

not_true : (b : Bool) → not b ≡ true → b ≡ false
not_true true h = sym h
not_true false h = refl

in_turn : (place used len : ℕ) → (nat_le place used && nat_lt place len) ≡ true → (place ≤ used) × (place < len)
in_turn place used len e = grind (arith, nat_tests)

turn_test : (place used len : ℕ) → (place ≤ used) × (place < len) → (nat_le place used && nat_lt place len) ≡ true
turn_test place used len h = grind (arith, nat_tests)

-- ---- pairs, taken apart

zip-unzip : {F N : Type 0} (pairs : List (F × N)) → zip (unzipped pairs).0 (unzipped pairs).1 ≡ pairs
zip-unzip [] = refl
zip-unzip {F = F} {N = N} (p ∷ pairs) = ap (λ (t : List (F × N)). p ∷ t) (zip-unzip pairs)

length-firsts : {F N : Type 0} (pairs : List (F × N)) → length (unzipped pairs).0 ≡ length pairs
length-firsts [] = refl
length-firsts (p ∷ pairs) = ap suc (length-firsts pairs)

length-seconds : {F N : Type 0} (pairs : List (F × N)) → length (unzipped pairs).1 ≡ length pairs
length-seconds [] = refl
length-seconds (p ∷ pairs) = ap suc (length-seconds pairs)

names-firsts : {F N : Type 0} (g : F → List Name) (pairs : List (F × N)) → flat_map g (unzipped pairs).0 ≡ flat_map (λ (p : F × N). g p.0) pairs
names-firsts g [] = refl
names-firsts g (p ∷ pairs) = ap (λ (t : List Name). g p.0 ++ t) (names-firsts g pairs)

-- a list of pairs that is read, as two lists
pub paired_is : {F N : Type 0} (names : List Name) {lists : ℕ → Place → Decoded (List (F × N) × ℕ)} (count : ℕ → List ℕ) (FitsCount : ℕ → Type 0) (encode : F × N → List ℕ) (Fits : F × N → Type 0) (g : F → List Name)
    → IsItem names lists (λ xs. count (length xs) ++ flat_map encode xs) (λ xs. FitsCount (length xs) × AllByRecursion Fits xs) (flat_map (λ (p : F × N). g p.0))
    → IsItem names (λ used p. as_lists (lists used p)) (λ (l : List F × List N). count (length l.0) ++ flat_map encode (zip l.0 l.1))
    (λ (l : List F × List N). FitsCount (length l.0) × ((length l.1 ≡ length l.0) × AllByRecursion Fits (zip l.0 l.1))) (λ (l : List F × List N). flat_map g l.0)
paired_is {F = F} {N = N} names {lists = lists} count FitsCount encode Fits g is = record {
  reads = λ used. record {
    takes = λ place a next fits e.
        let b = bind_ok (lists used place) (λ pairs. Ok ((unzipped pairs.0.0, pairs.0.1), pairs.1)) (a, next) e in
        let xs = b.0.0.0 in
        let t = (is.reads used).takes place b.0.0 b.0.1 fits b.1 in
        let made : ((List F × List N) × ℕ) × Place = ((unzipped xs, b.0.0.1), b.0.1) in
        let text : count (length (unzipped xs).0) ++ flat_map encode (zip (unzipped xs).0 (unzipped xs).1) ≡ count (length xs) ++ flat_map encode xs = rw (length-firsts xs, zip-unzip xs) refl in
        subst (λ (y : ((List F × List N) × ℕ) × Place).
        Took place (count (length y.0.0.0) ++ flat_map encode (zip y.0.0.0 y.0.0.1)) y.1
        × ((FitsCount (length y.0.0.0) × ((length y.0.0.1 ≡ length y.0.0.0) × AllByRecursion Fits (zip y.0.0.0 y.0.0.1))) × InOrder names used (flat_map g y.0.0.0) y.0.1) × Unit {0}) (ok_is CertForm made (a, next) b.2) (
          subst (λ (w : List ℕ). Took place w b.0.1) (sym text) t.0,
          (
            (subst FitsCount (sym (length-firsts xs)) t.1.0.0, (length-seconds xs ∙ sym (length-firsts xs), subst (AllByRecursion Fits) (sym (zip-unzip xs)) t.1.0.1)),
            subst (λ (ns : List Name). InOrder names used ns b.0.0.1) (sym (names-firsts g xs)) t.1.1,
          ),
          tt,
        );
    again = λ place a rest fits h e.
        let xs = zip a.0.0 a.0.1 in
        let same : length a.0.1 ≡ length a.0.0 = fits.0.1.0 in
        let firsts : (unzipped xs).0 ≡ a.0.0 = firsts-zip a.0.0 a.0.1 same in
        let seconds : (unzipped xs).1 ≡ a.0.1 = seconds-zip a.0.0 a.0.1 same in
        let len : length xs ≡ length a.0.0 = sym (length-firsts xs) ∙ ap length firsts in
        let order : InOrder names used (flat_map (λ (p : F × N). g p.0) xs) a.1 = subst (λ (ns : List Name). InOrder names used ns a.1) (ap (flat_map g) (sym firsts) ∙ names-firsts g xs) fits.1 in
        let text : count (length xs) ++ flat_map encode xs ≡ count (length a.0.0) ++ flat_map encode xs = ap (λ (n : ℕ). count n ++ flat_map encode xs) len in
        let one = (is.reads used).again place (xs, a.1) rest ((subst FitsCount (sym len) fits.0.0, fits.0.1.1), order) tt (e ∙ ap (λ (w : List ℕ). w ++ rest) (sym text)) in
        rw (one, firsts, seconds, text) refl;
  };
}

module _ (names : List Name) (once : StandOnce names) (small : length names < 2 ^ 32) where
  -- ---- types

  abbrev FitsUsed : ℕ → VType × ℕ → Type 0
  FitsUsed used t = FitsType t.0 × InOrder names used (type_names t.0) t.1

  reference_takes : (at used : ℕ) → Takes (reference_at names at used) (u1 3) (λ (t : VType × ℕ). encode_type names t.0) (FitsUsed used)
  unfolding reference_at
  reference_takes at used = record {
    takes = λ place t next fits e.
        let b = bind_ok (u4_at place) (λ i. need (nat_le i.0 used && nat_lt i.0 (length names)) (Form at) >>= λ _. Ok ((types.Ref (get_or names i.0 []), used_with used i.0), i.1)) (t, next) e in
        let i = b.0.0 in
        let g = need_ok (nat_le i used && nat_lt i (length names)) (Form at) (λ _. Ok ((types.Ref (get_or names i []), used_with used i), b.0.1)) (t, next) b.2 in
        let turn = in_turn i used (length names) g.0 in
        let own : name_index names (get_or names i []) ≡ i = once i turn.1 in
        let u = u4_is.takes place i b.0.1 fits b.1 in
        let made : (VType × ℕ) × Place = ((types.Ref (get_or names i []), used_with used i), b.0.1) in
        subst (λ (y : (VType × ℕ) × Place). (text : List ℕ) × Took place text y.1 × (encode_type names y.0.0 ≡ u1 3 ++ text) × FitsUsed used y.0) (ok_is CertForm made (t, next) g.1)
        (u4 i, u.0, ap (λ (n : ℕ). u1 3 ++ u4 n) own, (tt, (record { known = rw own turn.1; turn = rw own turn.0 }, rw own refl)));
  }

  type_takes : (used at kind : ℕ) → Takes (type_of_kind names at used kind) (u1 kind) (λ (t : VType × ℕ). encode_type names t.0) (FitsUsed used)
  unfolding type_of_kind
  type_takes used at kind =
      kind_or kind 0 (plain (types.Top, used) refl (tt, refl))
      (kind_or kind 1 (plain (types.Int, used) refl (tt, refl))
      (kind_or kind 2 (plain (types.Null, used) refl (tt, refl))
      (kind_or kind 3 (reference_takes at used)
      (kind_or kind 4 (plain (types.UninitThis, used) refl (tt, refl))
      (kind_or kind 5 (form (λ index. (types.Uninit index, used)) u4_is (λ index f. (refl, (f, refl))))
      (never at))))))

  abbrev others : ℕ → ℕ → ℕ → Place → Decoded (VType × ℕ)
  others used at kind p = type_of_kind names at used kind p

  abbrev after_kind : ℕ → Place → Decoded (VType × ℕ)
  after_kind used place = u1_at place >>= λ kind. type_of_kind names place.at used kind.0 kind.1

  reference_again : (used : ℕ) (place : Place) (name : Name) (rest : List ℕ) → IsTurn names used name → place.rest ≡ (u1 3 ++ u4 (name_index names name)) ++ rest
      → after_kind used place ≡ Ok ((types.Ref name, used_with used (name_index names name)), after place (u1 3 ++ u4 (name_index names name)) rest)
  unfolding type_of_kind reference_at
  reference_again used place name rest turn e =
      let i = name_index names name in
      let mid = after place (u1 3) (u4 i ++ rest) in
      let first = u1_is.again place 3 (u4 i ++ rest) (omega arith) tt (e ∙ append_assoc (u1 3) (u4 i) rest) in
      let second = u4_is.again mid i rest (omega (arith, turn.known, small)) tt refl in
      let test = turn_test i used (length names) (turn.turn, turn.known) in
      let is = get_or-place names name turn.known in
      let far : place.at + length (u1 3) + length (u4 i) ≡ place.at + length (u1 3 ++ u4 i) = omega (arith, length-append (u1 3) (u4 i)) in
      rw (first, second, test, is, far) refl

  -- the same, where the count of names is told otherwise
  told : (used last : ℕ) (t : VType) (place next : Place) → used ≡ last → after_kind used place ≡ Ok ((t, used), next) → after_kind used place ≡ Ok ((t, last), next)
  told used last t place next same e = subst (λ (n : ℕ). after_kind used place ≡ Ok ((t, n), next)) same e

  type_again : (used : ℕ) (place : Place) (t : VType) (last : ℕ) (rest : List ℕ) → FitsUsed used (t, last) → place.rest ≡ encode_type names t ++ rest
      → after_kind used place ≡ Ok ((t, last), after place (encode_type names t) rest)
  unfolding type_of_kind
  type_again used place types.Top last rest f e = told used last types.Top place (after place (u1 0) rest) f.1 (plain_again (others used) 0 (omega arith) (types.Top, used) (λ at p. refl) place rest e)
  type_again used place types.Int last rest f e = told used last types.Int place (after place (u1 1) rest) f.1 (plain_again (others used) 1 (omega arith) (types.Int, used) (λ at p. refl) place rest e)
  type_again used place types.Null last rest f e = told used last types.Null place (after place (u1 2) rest) f.1 (plain_again (others used) 2 (omega arith) (types.Null, used) (λ at p. refl) place rest e)
  type_again used place (types.Ref name) last rest f e =
      subst (λ (n : ℕ). after_kind used place ≡ Ok ((types.Ref name, n), after place (u1 3 ++ u4 (name_index names name)) rest)) f.1.1 (reference_again used place name rest f.1.0 e)
  type_again used place types.UninitThis last rest f e = told used last types.UninitThis place (after place (u1 4) rest) f.1 (plain_again (others used) 4 (omega arith) (types.UninitThis, used) (λ at p. refl) place rest e)
  type_again used place (types.Uninit index) last rest f e =
      told used last (types.Uninit index) place (after place (u1 5 ++ u4 index) rest) f.1 (kind_again (others used) 5 (omega arith) (λ i. (types.Uninit i, used)) u4_is (λ at p. refl) place index rest f.0 e)

  type_is : IsItem names (told_type names) (encode_type names) FitsType type_names
  unfolding told_type
  type_is = record { reads = λ used. tagged (type_takes used) (λ place t rest f e. type_again used place t.0 t.1 rest f e) }

  types_is : IsItem names (types_at names) (encode_types names) FitTypes (flat_map type_names)
  unfolding types_at
  types_is = short_list_is names type_is

  -- ---- frames

  abbrev FitLocals : List VType → Type 0
  FitLocals locals = FitTypes locals × (ends_with_top locals ≡ false)

  locals_is : IsItem names (locals_at names) (encode_types names) FitLocals (flat_map type_names)
  unfolding locals_at
  locals_is = record {
    reads = λ used. record {
      takes = λ place a next fits e.
          let b = bind_ok (types_at names used place) (λ locals. need (not (ends_with_top locals.0.0)) (Form (locals.1.at - 1)) >>= λ _. Ok locals) (a, next) e in
          let g = need_ok (not (ends_with_top b.0.0.0)) (Form (b.0.1.at - 1)) (λ _. Ok b.0) (a, next) b.2 in
          let t = (types_is.reads used).takes place b.0.0 b.0.1 fits b.1 in
          subst (λ (y : (List VType × ℕ) × Place). Took place (encode_types names y.0.0) y.1 × (FitLocals y.0.0 × InOrder names used (flat_map type_names y.0.0) y.0.1) × Unit {0}) (ok_is CertForm b.0 (a, next) g.1)
          (t.0, ((t.1.0, not_true _ g.0), t.1.1), tt);
      again = λ place a rest fits h e. rw ((types_is.reads used).again place a rest (fits.0.0, fits.1) tt e, fits.0.1) refl;
    };
  }

  abbrev encode_both : FrameType → List ℕ
  encode_both frame = encode_types names frame.locals ++ encode_types names frame.stack

  abbrev names_both : FrameType → List Name
  names_both frame = flat_map type_names frame.locals ++ flat_map type_names frame.stack

  frame_is : IsItem names (frame_at names) encode_both FitsFrame names_both
  unfolding frame_at
  frame_is = record {
    reads = λ used. record {
      takes = λ place a next fits e.
          let l = bind_ok (locals_at names used place) (λ locals. types_at names locals.0.1 locals.1 >>= λ stack. Ok ((record { locals = locals.0.0; stack = stack.0.0 }, stack.0.1), stack.1)) (a, next) e in
          let s = bind_ok (types_at names l.0.0.1 l.0.1) (λ stack. Ok ((record { locals = l.0.0.0; stack = stack.0.0 }, stack.0.1), stack.1)) (a, next) l.2 in
          let t = (locals_is.reads used).takes place l.0.0 l.0.1 fits l.1 in
          let u = (types_is.reads l.0.0.1).takes l.0.1 s.0.0 s.0.1 t.0.fits s.1 in
          let made : (FrameType × ℕ) × Place = ((record { locals = l.0.0.0; stack = s.0.0.0 }, s.0.0.1), s.0.1) in
          subst (λ (y : (FrameType × ℕ) × Place). Took place (encode_both y.0.0) y.1 × (FitsFrame y.0.0 × InOrder names used (names_both y.0.0) y.0.1) × Unit {0}) (ok_is CertForm made (a, next) s.2) (
            Took-then place (encode_types names l.0.0.0) l.0.1 (encode_types names s.0.0.0) s.0.1 t.0 u.0,
            (record { locals = t.1.0.0; last = t.1.0.1; stack = u.1.0 }, join names (flat_map type_names l.0.0.0) (flat_map type_names s.0.0.0) used l.0.0.1 s.0.0.1 t.1.1 u.1.1),
            tt,
          );
      again = λ place a rest fits h e.
          let frame = a.0 in
          let x = encode_types names frame.locals in
          let y = encode_types names frame.stack in
          let o = split names (flat_map type_names frame.locals) (flat_map type_names frame.stack) used a.1 fits.1 in
          let mid = after place x (y ++ rest) in
          let first = (locals_is.reads used).again place (frame.locals, o.between) (y ++ rest) ((fits.0.locals, fits.0.last), o.first) tt (e ∙ append_assoc x y rest) in
          let second = (types_is.reads o.between).again mid (frame.stack, a.1) rest (fits.0.stack, o.second) tt refl in
          let far : place.at + length x + length y ≡ place.at + length (x ++ y) = omega (arith, length-append x y) in
          rw (first, second, far) refl;
    };
  }

  -- ---- instructions

  module _ (vars : ℕ) where
    abbrev Instruction : Type 0
    Instruction = Option FrameType × Note

    abbrev encode_used : Instruction × ℕ → List ℕ
    encode_used i = encode_instruction names i.0

    abbrev FitsInstructionUsed : ℕ → Instruction × ℕ → Type 0
    FitsInstructionUsed used i = FitsInstruction vars i.0 × InOrder names used (frame_names i.0.0) i.1

    abbrev rest_at : ℕ → Bool → Place → Decoded (Instruction × ℕ)
    rest_at used reached p = cond reached (reached_at vars names used p) (not_reached_at used p)

    reached_takes : (used : ℕ) → Takes (reached_at vars names used) (u1 1) encode_used (FitsInstructionUsed used)
    unfolding reached_at
    reached_takes used = record {
      takes = λ place a next fits e.
          let f = bind_ok (frame_at names used place) (λ frame. note_at vars frame.1 >>= λ note. Ok (((Some frame.0.0, note.0), frame.0.1), note.1)) (a, next) e in
          let n = bind_ok (note_at vars f.0.1) (λ note. Ok (((Some f.0.0.0, note.0), f.0.0.1), note.1)) (a, next) f.2 in
          let t = (frame_is.reads used).takes place f.0.0 f.0.1 fits f.1 in
          let u = (note_is vars).takes f.0.1 n.0.0 n.0.1 t.0.fits n.1 in
          let made : (Instruction × ℕ) × Place = (((Some f.0.0.0, n.0.0), f.0.0.1), n.0.1) in
          subst (λ (y : (Instruction × ℕ) × Place). (text : List ℕ) × Took place text y.1 × (encode_used y.0 ≡ u1 1 ++ text) × FitsInstructionUsed used y.0) (ok_is CertForm made (a, next) n.2) (
            encode_both f.0.0.0 ++ encode_note n.0.0,
            Took-then place (encode_both f.0.0.0) f.0.1 (encode_note n.0.0) n.0.1 t.0 u.0,
            append_assoc (u1 1) (encode_both f.0.0.0) (encode_note n.0.0),
            ((t.1.0, u.1), t.1.1),
          );
    }

    rest_takes : (used : ℕ) (reached : Bool) → Takes (rest_at used reached) (flag reached) encode_used (FitsInstructionUsed used)
    unfolding not_reached_at
    rest_takes used true = reached_takes used
    rest_takes used false = form (λ note. ((None, note), used)) free_is (λ note f. (refl, (f, refl)))

    not_reached_again : (used : ℕ) (place : Place) (note : Note) (last : ℕ) (rest : List ℕ) → FitsInstructionUsed used ((None, note), last)
        → place.rest ≡ (u1 0 ++ encode_note note) ++ rest → (flag_at place >>= λ reached. rest_at used reached.0 reached.1) ≡ Ok (((None, note), last), after place (u1 0 ++ encode_note note) rest)
    unfolding not_reached_at
    not_reached_again used place note last rest f e =
        let y = encode_note note in
        let first = flag_is.again place false (y ++ rest) tt tt (e ∙ append_assoc (u1 0) y rest) in
        let second = free_is.again (after place (u1 0) (y ++ rest)) note rest f.0 tt refl in
        let far : place.at + length (u1 0) + length y ≡ place.at + length (u1 0 ++ y) = omega (arith, length-append (u1 0) y) in
        rw (first, second, far, f.1) refl

    reached_again : (used : ℕ) (place : Place) (frame : FrameType) (note : Note) (last : ℕ) (rest : List ℕ) → FitsInstructionUsed used ((Some frame, note), last)
        → place.rest ≡ ((u1 1 ++ encode_both frame) ++ encode_note note) ++ rest
        → (flag_at place >>= λ reached. rest_at used reached.0 reached.1) ≡ Ok (((Some frame, note), last), after place ((u1 1 ++ encode_both frame) ++ encode_note note) rest)
    unfolding reached_at
    reached_again used place frame note last rest f e =
        let x = encode_both frame in
        let y = encode_note note in
        let start : place.rest ≡ u1 1 ++ (x ++ (y ++ rest)) = e ∙ append_assoc (u1 1 ++ x) y rest ∙ append_assoc (u1 1) x (y ++ rest) in
        let first = flag_is.again place true (x ++ (y ++ rest)) tt tt start in
        let second = (frame_is.reads used).again (after place (u1 1) (x ++ (y ++ rest))) (frame, last) (y ++ rest) (f.0.0, f.1) tt refl in
        let third = (note_is vars).again (after (after place (u1 1) (x ++ (y ++ rest))) x (y ++ rest)) note rest f.0.1 tt refl in
        let far : place.at + length (u1 1) + length x + length y ≡ place.at + length ((u1 1 ++ x) ++ y) = omega (arith, length-append (u1 1 ++ x) y, length-append (u1 1) x) in
        rw (first, second, third, far) refl

    again_is : (used : ℕ) (place : Place) (frame : Option FrameType) (note : Note) (last : ℕ) (rest : List ℕ) → FitsInstructionUsed used ((frame, note), last)
        → place.rest ≡ encode_instruction names (frame, note) ++ rest
        → (flag_at place >>= λ reached. rest_at used reached.0 reached.1) ≡ Ok (((frame, note), last), after place (encode_instruction names (frame, note)) rest)
    again_is used place None note last rest f e = not_reached_again used place note last rest f e
    again_is used place (Some frame) note last rest f e = reached_again used place frame note last rest f e

    instruction_is : IsItem names (instruction_at vars names) (encode_instruction names) (FitsInstruction vars) (λ (i : Instruction). frame_names i.0)
    unfolding instruction_at
    instruction_is = record {
      reads = λ used. record {
        takes = λ place a next fits e.
            let r = bind_ok (flag_at place) (λ reached. rest_at used reached.0 reached.1) (a, next) e in
            let t = flag_is.takes place r.0.0 r.0.1 fits r.1 in
            let u = (rest_takes used r.0.0).takes r.0.1 a next t.0.fits r.2 in
            (subst (λ (w : List ℕ). Took place w next) (sym u.2) (Took-then place (flag r.0.0) r.0.1 u.0 next t.0 u.1), u.3, tt);
        again = λ place a rest fits h e. again_is used place a.0.0 a.0.1 a.1 rest fits e;
      };
    }

    -- ---- methods and classes

    method_is : IsItem names (told_method vars names) (encode_method names) (FitsMethod vars) (λ (m : List (Option FrameType) × List Note). method_names m.0)
    unfolding told_method
    method_is = paired_is names u4 IsU4 (encode_instruction names) (FitsInstruction vars) frame_names (long_list_is names instruction_is)

    class_is : IsItem names (told_class vars names) (encode_class names) (FitsClass vars) (λ (c : List (List (Option FrameType)) × List (List Note)). class_names c.0)
    unfolding told_class
    class_is = paired_is names u2 IsU2 (encode_method names) (FitsMethod vars) method_names (short_list_is names method_is)

    pub classes_is : IsItem names (classes_at vars names) (encode_classes names) (FitClasses vars) (λ (c : List (List (List (Option FrameType))) × List (List (List Note))). flat_map class_names c.0)
    unfolding classes_at
    classes_is = paired_is names u2 IsU2 (encode_class names) (FitsClass vars) class_names (short_list_is names class_is)
