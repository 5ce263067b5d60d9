-- Two bytes tell how many locals a method of a linked program has.
use Rattle.std.proofs.Common.{◌≡◌, ℕ, zero, suc, ◌<◌, ◌^◌, Bool, true, false, cond, List, [], ◌∷◌, length, Some, refl, sym, ap, subst, ◌∙◌, arith}
use Rattle.std.specs.Prelude.{not, slice_get}
use Rattle.std.specs.List.{AllByRecursion, filter_map}
use Rattle.std.proofs.lemmas.Bool.{eqb-true}
use Rattle.std.proofs.lemmas.Option.{slice_get_within}
use Rattle.bytecode_model.specs.declared.program.LinkedClass.{LinkedClass}
use Rattle.bytecode_model.specs.declared.program.Method.{Method}
use Rattle.bytecode_model.specs.declared.program.Program.{Program}
use Rattle.bytecode_model.specs.Conditions.{code_in, codes_of}
use Rattle.bytecode_model.specs.Heads.{is_abstract}
use Rattle.bytecode_model.specs.Layout.{has_code}
use Rattle.bytecode_model.specs.Sound.{IsSound, IsSoundClass}
use Rattle.bytecode_model.specs.LinkedClasses.{AreLinkedClasses, IsLinkedMethod}
use Rattle.bytecode_model.proofs.Lists.{all_get}
use Rattle.class_codec.specs.declared.tree.Attr.{Attr}
use Rattle.class_codec.specs.declared.tree.Attr.TheVariants as attributes
use Rattle.class_codec.specs.declared.tree.Const.{Const}
use Rattle.class_codec.specs.Fits.{FitsAttr, FitsCode, FitsMember}

there : {A : Type 0} (list : List A) (at : ℕ) → at < length list → (x : A) × (slice_get list at ≡ Some x)
there [] at lt = absurd (omega (arith, lt))
there (x ∷ list) zero lt = (x, refl)
there (x ∷ list) (suc at) lt = there list at (omega (arith, lt))

codes_fit : (pool : List Const) (attrs : List Attr) → AllByRecursion (FitsAttr pool true) attrs → AllByRecursion (FitsCode pool) (filter_map code_in attrs)
codes_fit pool [] fit = tt
codes_fit pool (attributes.Code c ∷ attrs) fit = (fit.0.1, codes_fit pool attrs fit.1)
codes_fit pool (attributes.Other o ∷ attrs) fit = codes_fit pool attrs fit.1

-- a list of one
only : {A : Type 0} (list : List A) → length list ≡ 1 → (x : A) × (list ≡ x ∷ [])
only [] e = absurd cc
only (x ∷ []) e = (x, refl)
only (x ∷ y ∷ list) e = absurd (omega (arith, e))

not_so : (b : Bool) → true ≡ not b → b ≡ false
not_so true e = absurd cc
not_so false e = refl

module _ (program : Program) (sound : IsSound program) (standing : AreLinkedClasses program) where
  pub few_locals : (own index : ℕ) (class : LinkedClass) (method : Method) → slice_get program.classes own ≡ Some class → slice_get class.methods index ≡ Some method → has_code method ≡ true
      → method.max_locals < 2 ^ 16
  few_locals own index class method class_there method_there code =
      let stands = standing own class class_there in
      let of_class = all_get IsSoundClass program.classes own class sound.classes class_there in
      let member = there class.file.methods index (omega (arith, stands.count, slice_get_within class.methods index method method_there)) in
      let of = stands.members index member.0 method member.1 method_there in
      let allowed = (all_get (IsLinkedMethod program class) class.methods index method stands.methods method_there).allowed in
      let concrete : is_abstract member.0.flags ≡ false = ap is_abstract (sym of.flags) ∙ not_so (is_abstract method.flags) (sym code ∙ allowed.code) in
      let one : length (codes_of member.0) ≡ 1 =
      eqb-true _ _ of.its ∙ ap (λ (b : Bool). cond b 0 1) concrete in
      let its = only (codes_of member.0) one in
      let own_code = of.coded its.0 its.1 in
      let fits : FitsMember class.file.pool true member.0 = all_get (FitsMember class.file.pool true) class.file.methods index member.0 of_class.fits.methods.each member.1 in
      let all = codes_fit class.file.pool member.0.attrs fits.attrs.each in
      let first : FitsCode class.file.pool its.0 = (subst (AllByRecursion (FitsCode class.file.pool)) its.1 all).0 in
      subst (λ (n : ℕ). n < 2 ^ 16) (sym own_code.max_locals) first.max_locals
