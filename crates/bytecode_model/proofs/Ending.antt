-- Ways up that end.
use Rattle.std.proofs.Common.{◌≡◌, ℕ, zero, suc, Bool, true, false, List, [], ◌∷◌, ◌⊎◌, drop, Option, Some, None, refl, sym, ap, subst, ◌∙◌, inl, inr}
use Rattle.std.specs.Prelude.{bytes_eq}
use Rattle.std.specs.Option.{option_map_or}
use Rattle.std.proofs.lemmas.Bool.{cases_Bool, false≢true}
use Rattle.api_listing.specs.declared.types.ListedClass.{ListedClass}
use Rattle.api_listing.specs.Nearest.{class_named, upwards}
use Rattle.bytecode_model.specs.Conditions.{stays_within}
use Rattle.bytecode_model.proofs.Upwards.{either_of, named_so, is_up, up_from, one_named, same_of, of_same}

module _ (classes : List ListedClass) where
  abbrev stays_from : Option ListedClass → ℕ → Bool
  stays_from found n = option_map_or (λ (c : ListedClass). stays_within n classes c.parent) found false

  -- ---- a way up that is long enough

  less_from : (n : ℕ) (found : Option ListedClass) → ((c : ListedClass) → stays_within (suc n) classes c.parent ≡ true → stays_within n classes c.parent ≡ true)
      → stays_from found (suc n) ≡ true → stays_from found n ≡ true
  less_from n None more e = absurd cc
  less_from n (Some c) more e = more c e

  pub stays_less : (n : ℕ) (name : List ℕ) → stays_within (suc n) classes name ≡ true → stays_within n classes name ≡ true
  stays_less zero name e = refl
  stays_less (suc n) name e = less_from n (class_named classes name) (λ c h. stays_less n c.parent h) e

  -- a class below another has a longer one than that
  longer_from : (n m : ℕ) (class above : List ℕ) (found : Option ListedClass) → class_named classes class ≡ found
      → ((c : ListedClass) → is_up classes n c.parent above ≡ true → (c.parent ≡ above) ⊎ (stays_within (suc m) classes c.parent ≡ true))
      → one_named above (up_from classes found n) ≡ true → stays_within m classes above ≡ true → (class ≡ above) ⊎ (stays_within (suc m) classes class ≡ true)
  longer_from n m class above None same more e f = absurd cc
  longer_from n m class above (Some c) same more e f =
      let next : stays_within m classes c.parent ≡ true → stays_within (suc m) classes class ≡ true
      = λ h. subst (λ (o : Option ListedClass). stays_from o m ≡ true) (sym same) h in
      elim (either_of (bytes_eq c.name above) (is_up classes n c.parent above) e) [
        | inl is ↦ inl (sym (named_so classes class c same) ∙ same_of c.name above is)
        | inr later ↦ inr (next (elim (more c later) [
          | inl here ↦ subst (λ (name : List ℕ). stays_within m classes name ≡ true) (sym here) f
          | inr up ↦ stays_less m c.parent up
        ]))
      ]

  longer : (n m : ℕ) (class above : List ℕ) → is_up classes n class above ≡ true → stays_within m classes above ≡ true → (class ≡ above) ⊎ (stays_within (suc m) classes class ≡ true)
  longer zero m class above e f = absurd cc
  longer (suc n) m class above e f =
      longer_from n m class above (class_named classes class) refl (λ c later. longer n m c.parent above later f) e f

  otherwise : (A B : Type 0) → (A → ⊥) → A ⊎ B → B
  otherwise A B not_so (inl a) = absurd (not_so a)
  otherwise A B not_so (inr b) = b

  -- two classes, each below the other, have one of every length
  every_length : (n k : ℕ) (class other : List ℕ) → (class ≡ other → ⊥) → is_up classes n class other ≡ true → is_up classes n other class ≡ true → stays_within k classes class ≡ true
  every_length n zero class other apart e f = refl
  every_length n (suc k) class other apart e f =
      let there = otherwise _ _ (λ same. apart (sym same)) (longer n k other class f (every_length n k class other apart e f)) in
      stays_less (suc k) class (otherwise _ _ apart (longer n (suc k) class other e there))

  -- ---- a way up that ends

  settled_from : (n : ℕ) (found : Option ListedClass) → ((c : ListedClass) → upwards (suc n) classes c.parent ≡ upwards n classes c.parent → stays_within (suc n) classes c.parent ≡ true → ⊥)
      → up_from classes found (suc n) ≡ up_from classes found n → stays_from found (suc n) ≡ true → ⊥
  settled_from n None more e f = absurd cc
  settled_from n (Some c) more e f = more c (ap (drop 1) e) f

  begun : (found : Option ListedClass) → up_from classes found 0 ≡ [] → stays_from found 0 ≡ true → ⊥
  begun None e f = absurd cc
  begun (Some c) e f = absurd cc

  settled : (n : ℕ) (name : List ℕ) → upwards (suc n) classes name ≡ upwards n classes name → stays_within (suc n) classes name ≡ true → ⊥
  settled zero name e f = begun (class_named classes name) e f
  settled (suc n) name e f = settled_from n (class_named classes name) (λ c g h. settled n c.parent g h) e f

  pub one_of_both : (n : ℕ) (class other : List ℕ) → upwards (suc n) classes class ≡ upwards n classes class → is_up classes n class other ≡ true → is_up classes n other class ≡ true → class ≡ other
  one_of_both n class other ends e f =
      elim (cases_Bool (bytes_eq class other)) [
        | inl is ↦ same_of class other is
        | inr differs ↦ absurd (settled n class ends (every_length n (suc n) class other (λ same. false≢true (sym differs ∙ of_same class other same)) e f))
      ]

  ended_from : (n : ℕ) (found : Option ListedClass) → ((c : ListedClass) → stays_within (suc n) classes c.parent ≡ false → upwards (suc n) classes c.parent ≡ upwards n classes c.parent)
      → stays_from found (suc n) ≡ false → up_from classes found (suc n) ≡ up_from classes found n
  ended_from n None more e = refl
  ended_from n (Some c) more e = ap (λ (l : List ListedClass). c ∷ l) (more c e)

  begun_none : (found : Option ListedClass) → stays_from found 0 ≡ false → up_from classes found 0 ≡ []
  begun_none None e = refl
  begun_none (Some c) e = absurd cc

  pub ended : (n : ℕ) (name : List ℕ) → stays_within (suc n) classes name ≡ false → upwards (suc n) classes name ≡ upwards n classes name
  ended zero name e = begun_none (class_named classes name) e
  ended (suc n) name e = ended_from n (class_named classes name) (λ c h. ended n c.parent h) e

  pub unnamed_up : (n : ℕ) (class above : List ℕ) → class_named classes class ≡ None → is_up classes n class above ≡ true → ⊥
  unnamed_up zero class above none e = absurd cc
  unnamed_up (suc n) class above none e =
      let h : false ≡ true = subst (λ (o : Option ListedClass). one_named above (up_from classes o n) ≡ true) none e in
      absurd cc
