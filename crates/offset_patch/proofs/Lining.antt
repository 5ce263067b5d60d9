-- Lines that are read, moved and written, and where instructions began.
use Rattle.std.proofs.Common.{◌≡◌, ℕ, zero, suc, ◌+◌, ◌-◌, ◌<◌, ◌≤◌, Bool, true, false, List, [], ◌∷◌, ◌++◌, length, get_or, take, drop, Option, Some, None, option_map, Ok, Err, refl, ap, ◌∙◌, append_assoc, append-nil, zero-add, sym, arith}
use Rattle.std.specs.Prelude.{slice_index, ◌==◌, option_and_then}
use Rattle.std.specs.Ordering.{nat_cmp}
use Rattle.std.specs.Cmp.{unsigned_Decides}
use Rattle.std.specs.List.{position_from}
use Rattle.std.specs.List.Sorted.{IsBinarySearchResult}
use Rattle.std.proofs.lemmas.List.{take_all}
use Rattle.std.proofs.lemmas.List.Sorted.{searched}
use Rattle.byteorder.specs.Endian.{big_number}
use Rattle.insn_codec.specs.declared.insn.Insn.{Insn}
use Rattle.insn_codec.specs.Encoding.{size, starts_from}
use Rattle.insn_codec.proofs.Standing.{size-some}
use Rattle.offset_patch.specs.Lines.{Line, lines_in, line_moved, before, lines_moved, start_moved, RiseFrom}

-- ---- bytes that are lines

pub no_line : (bytes : List ℕ) → length bytes < 4 → lines_in bytes ≡ []
unfolding lines_in
no_line [] few = refl
no_line (a ∷ []) few = refl
no_line (a ∷ b ∷ []) few = refl
no_line (a ∷ b ∷ c ∷ []) few = refl
no_line (a ∷ b ∷ c ∷ d ∷ bytes) few = absurd (omega arith)

pub one_line : (bytes : List ℕ) (n : ℕ) → 4 ≤ length bytes → n ≡ length bytes - 4
    → lines_in bytes ≡ (big_number 2 (slice_index bytes 0 ∷ slice_index bytes 1 ∷ []), big_number 2 (slice_index bytes 2 ∷ slice_index bytes 3 ∷ [])) ∷ lines_in (take n (drop 4 bytes))
unfolding lines_in
one_line [] n more e = absurd (omega arith)
one_line (a ∷ []) n more e = absurd (omega arith)
one_line (a ∷ b ∷ []) n more e = absurd (omega arith)
one_line (a ∷ b ∷ c ∷ []) n more e = absurd (omega arith)
one_line (a ∷ b ∷ c ∷ d ∷ bytes) n more e =
    let all : take n bytes ≡ bytes = take_all n bytes (omega (arith, e)) in
    ap (λ (rest : List ℕ). (big_number 2 (a ∷ b ∷ []), big_number 2 (c ∷ d ∷ [])) ∷ lines_in rest) (sym all)

-- ---- lines that are moved

made_step : (made : List Line) (one : Line) (o : Option (List Line))
    → option_map (λ (others : List Line). (made ++ one ∷ []) ++ others) o ≡ option_map (λ (others : List Line). made ++ others) (before one o)
made_step made one None = refl
made_step made one (Some others) = ap Some (append_assoc made (one ∷ []) others)

pub moved_step : (f : ℕ → Option ℕ) (made new left rest : List Line) (line one : Line) (total : Option (List Line)) → left ≡ line ∷ rest → Some one ≡ line_moved f line → new ≡ made ++ one ∷ []
    → option_map (λ (others : List Line). made ++ others) (lines_moved f left) ≡ total → option_map (λ (others : List Line). new ++ others) (lines_moved f rest) ≡ total
unfolding lines_moved
moved_step f made new left rest line one total is at pushed so_far =
    ap (λ (xs : List Line). option_map (λ (others : List Line). xs ++ others) (lines_moved f rest)) pushed ∙ made_step made one (lines_moved f rest)
    ∙ ap (λ (o : Option Line). option_map (λ (others : List Line). made ++ others) (option_and_then (λ (first : Line). before first (lines_moved f rest)) o)) at
    ∙ ap (λ (xs : List Line). option_map (λ (others : List Line). made ++ others) (lines_moved f xs)) (sym is) ∙ so_far

-- a line that begins at no instruction
pub moved_none : (f : ℕ → Option ℕ) (made left rest : List Line) (line : Line) (total : Option (List Line)) → left ≡ line ∷ rest → None ≡ line_moved f line
    → option_map (λ (others : List Line). made ++ others) (lines_moved f left) ≡ total → None ≡ total
unfolding lines_moved
moved_none f made left rest line total is at so_far =
    ap (λ (o : Option Line). option_map (λ (others : List Line). made ++ others) (option_and_then (λ (first : Line). before first (lines_moved f rest)) o)) at
    ∙ ap (λ (xs : List Line). option_map (λ (others : List Line). made ++ others) (lines_moved f xs)) (sym is) ∙ so_far

pub moved_done : (f : ℕ → Option ℕ) (made left : List Line) (total : Option (List Line)) → left ≡ []
    → option_map (λ (others : List Line). made ++ others) (lines_moved f left) ≡ total → Some made ≡ total
unfolding lines_moved
moved_done f made left total is so_far =
    ap Some (sym (append-nil made)) ∙ ap (λ (xs : List Line). option_map (λ (others : List Line). made ++ others) (lines_moved f xs)) (sym is) ∙ so_far

-- ---- where the client's instructions began

pub starts_count : (at : ℕ) (xs : List Insn) → length (starts_from at xs) ≡ length xs + 1
unfolding starts_from
starts_count at [] = refl
starts_count at (x ∷ xs) = omega (arith, starts_count (at + size at x) xs)

rise_less : (most least : ℕ) (xs : List ℕ) → least ≤ most → RiseFrom most xs → RiseFrom least xs
rise_less most least [] less rise = tt
rise_less most least (x ∷ xs) less rise = (omega (arith, rise.0), rise.1)

starts_rise : (at : ℕ) (xs : List Insn) → RiseFrom at (starts_from at xs)
unfolding starts_from
starts_rise at [] = (omega arith, tt)
starts_rise at (x ∷ xs) =
    let next : at + 1 ≤ at + size at x = omega (arith, size-some at x) in
    (omega arith, rise_less (at + size at x) (at + 1) (starts_from (at + size at x) xs) next (starts_rise (at + size at x) xs))

rise_taken : (n least : ℕ) (xs : List ℕ) → RiseFrom least xs → RiseFrom least (take n xs)
rise_taken zero least xs rise = tt
rise_taken (suc n) least [] rise = tt
rise_taken (suc n) least (x ∷ xs) rise = (rise.0, rise_taken n (x + 1) xs rise.1)

-- each instruction begins after the one before it
pub begins_rise : (n : ℕ) (xs : List Insn) → RiseFrom 0 (take n (starts_from 0 xs))
begins_rise n xs = rise_taken n 0 (starts_from 0 xs) (starts_rise 0 xs)

-- ---- a position among those that rise

least_is : (least : ℕ) (xs : List ℕ) (i : ℕ) → RiseFrom least xs → i < length xs → least ≤ get_or xs i 0
least_is least [] i rise within = absurd (omega arith)
least_is least (x ∷ xs) zero rise within = rise.0
least_is least (x ∷ xs) (suc i) rise within =
    let later = least_is (x + 1) xs i rise.1 (omega arith) in
    omega (arith, later, rise.0)

pub none_falls : (least : ℕ) (xs : List ℕ) (i j : ℕ) → RiseFrom least xs → i ≤ j → j < length xs → get_or xs i 0 ≤ get_or xs j 0
none_falls least [] i j rise before within = absurd (omega arith)
none_falls least (x ∷ xs) zero zero rise before within = omega arith
none_falls least (x ∷ xs) zero (suc j) rise before within =
    let later = least_is (x + 1) xs j rise.1 (omega arith) in
    omega (arith, later)
none_falls least (x ∷ xs) (suc i) zero rise before within = absurd (omega arith)
none_falls least (x ∷ xs) (suc i) (suc j) rise before within = none_falls (x + 1) xs i j rise.1 (omega arith) (omega arith)

differs : (n q : ℕ) → (n ≡ q → ⊥) → (n == q) ≡ false
differs n q f = by (n == q) refl
  where
    by : (b : Bool) → (n == q) ≡ b → (n == q) ≡ false
    by true e = absurd (f ((unsigned_Decides n q).0 e))
    by false e = e

-- the one that is there is the first
found_at : (at least : ℕ) (xs : List ℕ) (q i : ℕ) → RiseFrom least xs → i < length xs → get_or xs i 0 ≡ q → position_from (λ (n : ℕ). n == q) at xs ≡ Some (at + i)
found_at at least [] q i rise within is = absurd (omega arith)
found_at at least (x ∷ xs) q zero rise within is =
    let here : at ≡ at + 0 = omega arith in
    rw ((unsigned_Decides x q).1 is) (ap Some here)
found_at at least (x ∷ xs) q (suc i) rise within is =
    let later = least_is (x + 1) xs i rise.1 (omega arith) in
    let other : (x == q) ≡ false = differs x q (λ e. omega (arith, later, is, e)) in
    let place : at + 1 + i ≡ at + suc i = omega arith in
    rw other (found_at (at + 1) (x + 1) xs q i rise.1 (omega arith) is ∙ ap Some place)

found_none : (at : ℕ) (xs : List ℕ) (q : ℕ) → ((k : ℕ) → k < length xs → get_or xs k 0 ≡ q → ⊥) → position_from (λ (n : ℕ). n == q) at xs ≡ None
found_none at [] q none = refl
found_none at (x ∷ xs) q none =
    let other : (x == q) ≡ false = differs x q (none 0 (omega arith)) in
    rw other (found_none (at + 1) xs q (λ k within. none (suc k) (omega arith)))

pub move_found : (olds fronts news : List ℕ) (q i : ℕ) → RiseFrom 0 olds → IsBinarySearchResult (λ (n : ℕ). nat_cmp n q) olds (Ok i)
    → start_moved olds fronts news q ≡ Some (slice_index news (slice_index fronts i))
move_found olds fronts news q i rise found =
    let at = searched olds q (Ok i) found (λ a b before within. none_falls 0 olds a b rise before within) in
    ap (option_map (λ (index : ℕ). slice_index news (slice_index fronts index))) (found_at 0 0 olds q i rise at.0 at.1 ∙ ap Some (zero-add i))

pub move_none : (olds fronts news : List ℕ) (q i : ℕ) → RiseFrom 0 olds → IsBinarySearchResult (λ (n : ℕ). nat_cmp n q) olds (Err i) → start_moved olds fronts news q ≡ None
move_none olds fronts news q i rise found =
    let at = searched olds q (Err i) found (λ a b before within. none_falls 0 olds a b rise before within) in
    ap (option_map (λ (index : ℕ). slice_index news (slice_index fronts index)))
    (found_none 0 olds q (λ k within is.
    let following : k < i → ⊥ = λ less. omega (arith, at.1 k less, is) in
    let more : i ≤ k = omega (arith, following) in
    omega (arith, at.2 k more within, is)))
