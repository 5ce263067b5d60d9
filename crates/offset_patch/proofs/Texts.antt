-- Texts of a pool with what is added after it.
use Rattle.std.proofs.Common.{◌≡◌, ℕ, zero, suc, ◌-◌, ◌<◌, ◌≤◌, List, [], ◌∷◌, ◌++◌, length, map, Option, Some, None, option_map, refl, sym, ap, ◌∙◌, append-nil, arith}
use Rattle.std.specs.Prelude.{slice_get}
use Rattle.std.specs.Option.{option_map_or}
use Rattle.class_codec.specs.declared.tree.Const.{Const}
use Rattle.class_codec.specs.Pool.{utf8_at}
use Rattle.class_codec.specs.Pool as pools
use Rattle.bytecode_model.specs.Heads.{text_at}
use Rattle.offset_patch.specs.declared.constants.Added.{Added}
use Rattle.offset_patch.specs.declared.constants.Added.TheVariants.{Text, Class, NameAndType, Field, Method, Integer}
use Rattle.offset_patch.specs.declared.growth.Growth.{Growth}
use Rattle.offset_patch.specs.Added.{const_of, with_added}
use Rattle.offset_patch.specs.Growth.{added_in, with_growth, text_of, text_among}

pub growth_is : (pool : List Const) (growth : Option Growth) → with_growth pool growth ≡ with_added pool (added_in growth)
growth_is pool None = sym (append-nil pool)
growth_is pool (Some growth) = refl

-- ---- places before and after the end

get_before : {X : Type 0} (xs ys : List X) (i : ℕ) → i < length xs → slice_get (xs ++ ys) i ≡ slice_get xs i
get_before [] ys i few = absurd (omega arith)
get_before (x ∷ xs) ys zero few = refl
get_before (x ∷ xs) ys (suc i) few = get_before xs ys i (omega arith)

get_after : {X : Type 0} (xs ys : List X) (i : ℕ) → length xs ≤ i → slice_get (xs ++ ys) i ≡ slice_get ys (i - length xs)
get_after [] ys i more =
    let n : i ≡ i - 0 = omega arith in
    ap (slice_get ys) n
get_after (x ∷ xs) ys zero more = absurd (omega arith)
get_after (x ∷ xs) ys (suc i) more =
    let n : i - length xs ≡ suc i - suc (length xs) = omega arith in
    get_after xs ys i (omega arith) ∙ ap (slice_get ys) n

get_map : {X Y : Type 0} (f : X → Y) (xs : List X) (i : ℕ) → slice_get (map f xs) i ≡ option_map f (slice_get xs i)
get_map f [] i = refl
get_map f (x ∷ xs) zero = refl
get_map f (x ∷ xs) (suc i) = get_map f xs i

-- ---- texts

abbrev told : Option Const → List ℕ
told o = option_map_or (λ (text : List ℕ). text) (pools.text_of o) []

text_is : (pool : List Const) (i : ℕ) → text_at pool i ≡ told (slice_get pool i)
unfolding utf8_at
text_is pool i = refl

told_is : (o : Option Added) → told (option_map const_of o) ≡ text_of o
told_is None = refl
told_is (Some (Text bytes)) = refl
told_is (Some (Class name)) = refl
told_is (Some (NameAndType name desc)) = refl
told_is (Some (Field class member)) = refl
told_is (Some (Method class member)) = refl
told_is (Some (Integer n)) = refl

-- one that stands in the pool
pub text_before : (all pool : List Const) (growth : Option Growth) (i : ℕ) (text : List ℕ) → all ≡ with_growth pool growth → i < length pool → text ≡ text_at pool i → text ≡ text_at all i
text_before all pool growth i text is few e =
    let whole : all ≡ with_added pool (added_in growth) = is ∙ growth_is pool growth in
    e ∙ text_is pool i ∙ ap told (sym (get_before pool (map const_of (added_in growth)) i few)) ∙ sym (text_is (with_added pool (added_in growth)) i)
    ∙ ap (λ (p : List Const). text_at p i) (sym whole)

-- one that was added
pub text_after : (all pool : List Const) (growth : Option Growth) (i : ℕ) (text : List ℕ) → all ≡ with_growth pool growth → length pool ≤ i → text ≡ text_among (added_in growth) (i - length pool)
    → text ≡ text_at all i
text_after all pool growth i text is more e =
    let added = added_in growth in
    let whole : all ≡ with_added pool added = is ∙ growth_is pool growth in
    e ∙ sym (told_is (slice_get added (i - length pool))) ∙ ap told (sym (get_map const_of added (i - length pool))) ∙ ap told (sym (get_after pool (map const_of added) i more))
    ∙ sym (text_is (with_added pool added) i) ∙ ap (λ (p : List Const). text_at p i) (sym whole)
