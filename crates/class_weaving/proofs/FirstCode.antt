-- The first code among attributes, and attributes of which each code is another.
use Rattle.std.proofs.Common.{◌≡◌, List, [], ◌∷◌, ◌++◌, true, map, None, Some, refl, sym, ap, subst, ◌∙◌, append_assoc}
use Rattle.std.specs.List.{AllByRecursion}
use Rattle.class_codec.specs.declared.tree.Attr.{Attr}
use Rattle.class_codec.specs.declared.tree.Attr.TheVariants as attributes
use Rattle.class_codec.specs.declared.tree.Code.{Code}
use Rattle.class_codec.specs.declared.tree.Const.{Const}
use Rattle.class_codec.specs.Fits.{FitsAttr}
use Rattle.class_weaving.specs.Woven.{attr_with, first_code}

pub first_fits : (pool : List Const) (attrs : List Attr) (code : Code) → AllByRecursion (FitsAttr pool true) attrs → first_code attrs ≡ Some code → FitsAttr pool true (attributes.Code code)
first_fits pool [] code h e = absurd cc
first_fits pool (attributes.Code c ∷ attrs) code h e =
    let is : c ≡ code = cc in
    subst (λ (x : Code). FitsAttr pool true (attributes.Code x)) is h.0
first_fits pool (attributes.Other o ∷ attrs) code h e = first_fits pool attrs code h.1 e

-- where none is a code, each is as it was
others_stay : (code : Code) (attrs : List Attr) → first_code attrs ≡ None → map (attr_with code) attrs ≡ attrs
others_stay code [] e = refl
others_stay code (attributes.Code c ∷ attrs) e = absurd cc
others_stay code (attributes.Other o ∷ attrs) e = ap (λ (xs : List Attr). attributes.Other o ∷ xs) (others_stay code attrs e)

-- after the last code the others are as they were
pub last_code : (code : Code) (made next last left rest all : List Attr) (attr : Attr) → left ≡ attr ∷ rest → attr_with code attr ≡ attributes.Code code → first_code rest ≡ None
    → next ≡ made ++ attributes.Code code ∷ [] → last ≡ next ++ rest → made ++ map (attr_with code) left ≡ all → last ≡ all
last_code code made next last left rest all attr split is none pushed put so_far =
    put ∙ ap (λ (xs : List Attr). xs ++ rest) pushed ∙ append_assoc made (attributes.Code code ∷ []) rest
    ∙ ap (λ (xs : List Attr). made ++ attributes.Code code ∷ xs) (sym (others_stay code rest none))
    ∙ ap (λ (x : Attr). made ++ x ∷ map (attr_with code) rest) (sym is)
    ∙ ap (λ (xs : List Attr). made ++ map (attr_with code) xs) (sym split) ∙ so_far
