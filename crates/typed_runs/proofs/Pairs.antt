-- Lists of values and of their types, one beside the other.
use Rattle.std.proofs.Common.{◌≡◌, ℕ, zero, suc, Bool, true, List, [], ◌∷◌, ◌++◌, length, map, reverse, take, drop, Some, refl, sym, ap, subst}
use Rattle.std.specs.Prelude.{slice_get}
use Rattle.std.proofs.lemmas.Grind.{reverse_onto}
use Rattle.insn_codec.specs.Following.{Paired}

module _ {V T : Type 0} (of : V → T → Bool) where
  pub paired_length : (vs : List V) (ts : List T) → Paired of vs ts → length vs ≡ length ts
  paired_length [] [] p = refl
  paired_length [] (t ∷ ts) p = absurd p
  paired_length (v ∷ vs) [] p = absurd p
  paired_length (v ∷ vs) (t ∷ ts) p = ap suc (paired_length vs ts p.1)

  pub paired_get : (vs : List V) (ts : List T) (i : ℕ) (t : T) → Paired of vs ts → slice_get ts i ≡ Some t
      → (v : V) × (slice_get vs i ≡ Some v) × (of v t ≡ true)
  paired_get [] [] i t p e = absurd cc
  paired_get [] (u ∷ ts) i t p e = absurd p
  paired_get (v ∷ vs) [] i t p e = absurd p
  paired_get (v ∷ vs) (u ∷ ts) zero t p e = let same : u ≡ t = cc in (v, refl, subst (λ (x : T). of v x ≡ true) same p.0)
  paired_get (v ∷ vs) (u ∷ ts) (suc i) t p e = paired_get vs ts i t p.1 e

  pub paired_append : (vs ws : List V) (ts us : List T) → Paired of vs ts → Paired of ws us → Paired of (vs ++ ws) (ts ++ us)
  paired_append [] ws [] us p q = q
  paired_append [] ws (t ∷ ts) us p q = absurd p
  paired_append (v ∷ vs) ws [] us p q = absurd p
  paired_append (v ∷ vs) ws (t ∷ ts) us p q = (p.0, paired_append vs ws ts us p.1 q)

  dropped : (xs ys : List T) (vs : List V) → Paired of vs (xs ++ ys) → Paired of (drop (length xs) vs) ys
  dropped [] ys vs p = p
  dropped (x ∷ xs) ys [] p = absurd p
  dropped (x ∷ xs) ys (v ∷ vs) p = dropped xs ys vs p.1

  -- what is left after so many
  pub paired_drop : (n : ℕ) (xs ys : List T) (vs : List V) → length xs ≡ n → Paired of vs (xs ++ ys) → Paired of (drop n vs) ys
  paired_drop n xs ys vs e p = subst (λ (k : ℕ). Paired of (drop k vs) ys) e (dropped xs ys vs p)

  took : (xs ys : List T) (vs : List V) → Paired of vs (xs ++ ys) → Paired of (take (length xs) vs) xs
  took [] ys vs p = tt
  took (x ∷ xs) ys [] p = absurd p
  took (x ∷ xs) ys (v ∷ vs) p = (p.0, took xs ys vs p.1)

  -- so many in front
  pub paired_take : (n : ℕ) (xs ys : List T) (vs : List V) → length xs ≡ n → Paired of vs (xs ++ ys) → Paired of (take n vs) xs
  paired_take n xs ys vs e p = subst (λ (k : ℕ). Paired of (take k vs) xs) e (took xs ys vs p)

  pub paired_reverse : (vs : List V) (ts : List T) → Paired of vs ts → Paired of (reverse vs) (reverse ts)
  paired_reverse [] [] p = tt
  paired_reverse [] (t ∷ ts) p = absurd p
  paired_reverse (v ∷ vs) [] p = absurd p
  paired_reverse (v ∷ vs) (t ∷ ts) p =
      let a : Paired of (reverse vs ++ v ∷ []) (reverse ts ++ t ∷ []) = paired_append (reverse vs) (v ∷ []) (reverse ts) (t ∷ [])
      (paired_reverse vs ts p.1) (p.0, tt) in
      let b : Paired of (reverse (v ∷ vs)) (reverse ts ++ t ∷ []) = subst (λ (x : List V). Paired of x (reverse ts ++ t ∷ []))
      (sym (reverse_onto vs v [])) a in
      subst (λ (x : List T). Paired of (reverse (v ∷ vs)) x) (sym (reverse_onto ts t [])) b

  -- ---- types that take as much

  abbrev pub Widens : T → T → Type 0
  Widens t u = (v : V) → of v t ≡ true → of v u ≡ true

  abbrev pub AllWiden : List T → List T → Type 0
  AllWiden [] [] = Unit {0}
  AllWiden [] (u ∷ us) = ⊥
  AllWiden (t ∷ ts) [] = ⊥
  AllWiden (t ∷ ts) (u ∷ us) = Widens t u × AllWiden ts us

  append_widens : (ts us xs ys : List T) → AllWiden ts us → AllWiden xs ys → AllWiden (ts ++ xs) (us ++ ys)
  append_widens [] [] xs ys p q = q
  append_widens [] (u ∷ us) xs ys p q = absurd p
  append_widens (t ∷ ts) [] xs ys p q = absurd p
  append_widens (t ∷ ts) (u ∷ us) xs ys p q = (p.0, append_widens ts us xs ys p.1 q)

  pub reverse_widens : (ts us : List T) → AllWiden ts us → AllWiden (reverse ts) (reverse us)
  reverse_widens [] [] p = tt
  reverse_widens [] (u ∷ us) p = absurd p
  reverse_widens (t ∷ ts) [] p = absurd p
  reverse_widens (t ∷ ts) (u ∷ us) p =
      let a : AllWiden (reverse ts ++ t ∷ []) (reverse us ++ u ∷ []) = append_widens (reverse ts) (reverse us) (t ∷ []) (u ∷ [])
      (reverse_widens ts us p.1) (p.0, tt) in
      let b : AllWiden (reverse (t ∷ ts)) (reverse us ++ u ∷ []) = subst (λ (x : List T). AllWiden x (reverse us ++ u ∷ []))
      (sym (reverse_onto ts t [])) a in
      subst (λ (x : List T). AllWiden (reverse (t ∷ ts)) x) (sym (reverse_onto us u [])) b

  pub widened : (vs : List V) (ts us : List T) → AllWiden ts us → Paired of vs ts → Paired of vs us
  widened [] [] [] p q = tt
  widened [] [] (u ∷ us) p q = absurd p
  widened [] (t ∷ ts) us p q = absurd q
  widened (v ∷ vs) [] us p q = absurd q
  widened (v ∷ vs) (t ∷ ts) [] p q = absurd p
  widened (v ∷ vs) (t ∷ ts) (u ∷ us) p q = (p.0 v q.0, widened vs ts us p.1 q.1)

  pub map_widens : (f : T → T) (ts : List T) → ((t : T) → Widens t (f t)) → AllWiden ts (map f ts)
  map_widens f [] each = tt
  map_widens f (t ∷ ts) each = (each t, map_widens f ts each)

  pub places_widen : (f g : ℕ → T) (places : List ℕ) → ((j : ℕ) → Widens (f j) (g j)) → AllWiden (map f places) (map g places)
  places_widen f g [] each = tt
  places_widen f g (j ∷ places) each = (each j, places_widen f g places each)

-- where each value that fits by one test fits by the other
pub paired_also : {V T : Type 0} (of other : V → T → Bool) (vs : List V) (ts : List T) → ((v : V) (t : T) → of v t ≡ true → other v t ≡ true)
    → Paired of vs ts → Paired other vs ts
paired_also of other [] [] each p = tt
paired_also of other [] (t ∷ ts) each p = absurd p
paired_also of other (v ∷ vs) [] each p = absurd p
paired_also of other (v ∷ vs) (t ∷ ts) each p = (each v t p.0, paired_also of other vs ts each p.1)
