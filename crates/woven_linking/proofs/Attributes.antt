-- What becomes of the attributes of a member, and of those of its code.
use Rattle.std.proofs.Common.{◌≡◌, ℕ, ◌≤◌, true, List, [], ◌∷◌, ◌++◌, length, map, Option, Some, None, refl, sym, ap, subst, ◌∙◌, append_assoc, arith}
use Rattle.std.specs.Prelude.{bytes_eq, codes, if◌then◌else◌, option_map}
use Rattle.std.specs.List.{AllByRecursion, cons_option, filter_map}
use Rattle.class_codec.specs.declared.pool.ConstKind.TheVariants as kinds
use Rattle.class_codec.specs.declared.tree.Attr.{Attr}
use Rattle.class_codec.specs.declared.tree.Attr.TheVariants as attributes
use Rattle.class_codec.specs.declared.tree.Code.{Code}
use Rattle.class_codec.specs.declared.tree.Const.{Const}
use Rattle.class_codec.specs.declared.tree.Other.{Other}
use Rattle.class_codec.specs.Fits.{FitsOther}
use Rattle.class_codec.specs.Pool.{names}
use Rattle.bytecode_model.specs.declared.program.Method.{Method}
use Rattle.bytecode_model.specs.Conditions.{code_in}
use Rattle.bytecode_model.specs.Heads.{text_at}
use Rattle.offset_patch.specs.Lines.{attr_kept, attrs_kept, each_kept, few_attrs, table_moved}
use Rattle.offset_patch.specs.Plan.{Plan}
use Rattle.class_weaving.specs.Outcome.{Each, IsWovenAttr, IsWovenBody}
use Rattle.class_weaving.specs.Woven.{attr_with, first_code}
use Rattle.woven_linking.proofs.Texts.{text_on}

-- ---- line numbers in a pool that grew

module _ (old front ys : List Const) (moved : ℕ → Option ℕ) where
  text_same : (i : ℕ) → names kinds.Utf8 old i ≡ true → text_at (old ++ front) i ≡ text_at ((old ++ front) ++ ys) i
  text_same i e =
      let more : (old ++ front) ++ ys ≡ old ++ (front ++ ys) = append_assoc old front ys in
      text_on old front i e ∙ sym (text_on old (front ++ ys) i e) ∙ ap (λ (p : List Const). text_at p i) (sym more)

  attr_same : (attr : Other) → FitsOther old attr → attr_kept (old ++ front) moved attr ≡ attr_kept ((old ++ front) ++ ys) moved attr
  attr_same attr fits =
      ap (λ (text : List ℕ). if bytes_eq text (codes "LineNumberTable") then option_map (λ bytes. record { name = attr.name; bytes = bytes }) (table_moved moved attr.bytes) else None)
      (text_same attr.name fits.name.named)

  each_same : (attrs : List Other) → AllByRecursion (FitsOther old) attrs → each_kept (old ++ front) moved attrs ≡ each_kept ((old ++ front) ++ ys) moved attrs
  each_same [] fits = refl
  each_same (attr ∷ attrs) fits =
      ap (λ (o : Option Other). cons_option o (each_kept (old ++ front) moved attrs)) (attr_same attr fits.0)
      ∙ ap (λ (others : List Other). cons_option (attr_kept ((old ++ front) ++ ys) moved attr) others) (each_same attrs fits.1)

  pub lines_same : (attrs : List Other) → AllByRecursion (FitsOther old) attrs → attrs_kept (old ++ front) moved attrs ≡ attrs_kept ((old ++ front) ++ ys) moved attrs
  lines_same attrs fits = ap few_attrs (each_same attrs fits)

-- ---- the attributes of a member

module _ (plan : Plan) (pool : List Const) (m : Method) where
  pub attrs_same : (attrs : List Attr) → first_code attrs ≡ None → Each (IsWovenAttr plan pool m) attrs attrs
  attrs_same [] none = tt
  attrs_same (attributes.Code code ∷ attrs) none = absurd cc
  attrs_same (attributes.Other other ∷ attrs) none = (refl, attrs_same attrs none)

  others_same : (new : Code) (attrs : List Attr) → length (filter_map code_in attrs) ≤ 0 → Each (IsWovenAttr plan pool m) attrs (map (attr_with new) attrs)
  others_same new [] none = tt
  others_same new (attributes.Code code ∷ attrs) none = absurd (omega (arith, none))
  others_same new (attributes.Other other ∷ attrs) none = (refl, others_same new attrs none)

  -- A member has one code at most.
  pub attrs_with : (new code : Code) (attrs : List Attr) → first_code attrs ≡ Some code → length (filter_map code_in attrs) ≤ 1 → IsWovenBody plan pool m code new
      → Each (IsWovenAttr plan pool m) attrs (map (attr_with new) attrs)
  attrs_with new code [] first one body = absurd cc
  attrs_with new code (attributes.Code old ∷ attrs) first one body =
      let is : code ≡ old = cc in
      (subst (λ (c : Code). IsWovenBody plan pool m c new) is body, others_same new attrs (omega (arith, one)))
  attrs_with new code (attributes.Other other ∷ attrs) first one body = (refl, attrs_with new code attrs first one body)
