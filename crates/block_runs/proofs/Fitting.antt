-- Where woven files link, the locals of blocks fit, and conspec/State is under Object.
use Rattle.std.proofs.Common.{
  ◌≡◌,
  ◌∙◌,
  ◌<◌,
  ◌^◌,
  ℕ,
  ◌+◌,
  Bool,
  true,
  false,
  cond,
  List,
  [],
  ◌∷◌,
  length,
  Some,
  refl,
  sym,
  ap,
  subst,
  arith,
}
use Rattle.std.specs.Prelude.{not, slice_get}
use Rattle.std.specs.List.{AllByRecursion, filter_map}
use Rattle.std.proofs.lemmas.Bool.{eqb-true, lt-ltb}
use Rattle.std.proofs.lemmas.Option.{slice_get_within}
use Rattle.mon_base.proofs.Lists.{get_kept, get_pushed}
use Rattle.api_listing.specs.BuiltIn.{object}
use Rattle.class_codec.specs.declared.tree.Attr.{Attr}
use Rattle.class_codec.specs.declared.tree.Attr.TheVariants as attributes
use Rattle.class_codec.specs.declared.tree.ClassFile.{ClassFile}
use Rattle.class_codec.specs.declared.tree.Const.{Const}
use Rattle.class_codec.specs.Fits.{FitsAttr, FitsCode, FitsMember}
use Rattle.class_codec.specs.Pool.{class_name_at, utf8_at}
use Rattle.bytecode_model.specs.declared.program.LinkedClass.{LinkedClass}
use Rattle.bytecode_model.specs.declared.program.Method.{Method}
use Rattle.bytecode_model.specs.declared.program.Program.{Program}
use Rattle.bytecode_model.specs.Conditions.{code_in, codes_of}
use Rattle.bytecode_model.specs.Heads.{class_at, is_abstract}
use Rattle.bytecode_model.specs.Layout.{has_code}
use Rattle.bytecode_model.specs.LinkedClasses.{AreLinkedClasses, IsAllowed, IsLinkedMethod}
use Rattle.bytecode_model.specs.Sound.{IsSound, IsSoundClass, IsSoundMethod}
use Rattle.conspec_tree.specs.declared.types.Var.{Var}
use Rattle.offset_patch.specs.Plan.{Plan}
use Rattle.class_weaving.specs.Outcome.{IsWoven, IsWovenClass, IsWovenMethod}
use Rattle.class_weaving.specs.Woven.{AllLocalsFit, LocalsFit, is_woven, locals_of}
use Rattle.class_weaving.proofs.Lists.{each_on, slice_there}
use Rattle.class_weaving.proofs.Sites.{refs_some}
use Rattle.guest_model.proofs.Options.{all_get}
use Rattle.guest_erasing.proofs.Clients.{all_by_place}

-- ---- two bytes tell how many locals a method with code has

codes_fit : (pool : List Const) (attrs : List Attr) → AllByRecursion (FitsAttr pool true) attrs
    → AllByRecursion (FitsCode pool) (filter_map code_in attrs)
codes_fit pool [] fit = tt
codes_fit pool (attributes.Code c ∷ attrs) fit = (fit.0.1, codes_fit pool attrs fit.1)
codes_fit pool (attributes.Other o ∷ attrs) fit = codes_fit pool attrs fit.1

-- a list of one
only : {A : Type 0} (list : List A) → length list ≡ 1 → (x : A) × (list ≡ x ∷ [])
only [] e = absurd cc
only (x ∷ []) e = (x, refl)
only (x ∷ y ∷ list) e = absurd (omega (arith, e))

not_so : (b : Bool) → true ≡ not b → b ≡ false
not_so true e = absurd cc
not_so false e = refl

module _ (program : Program) (sound : IsSound program) (standing : AreLinkedClasses program) (own index : ℕ) (class : LinkedClass)
    (method : Method) (class_there : slice_get program.classes own ≡ Some class)
    (method_there : slice_get class.methods index ≡ Some method) where
  allowed : IsAllowed method
  allowed =
      let stands = standing own class class_there in
      (all_get (IsLinkedMethod program class) class.methods index method stands.methods method_there).allowed

  few_locals : has_code method ≡ true → method.max_locals < 2 ^ 16
  few_locals code =
      let stands = standing own class class_there in
      let of_class = all_get IsSoundClass program.classes own class sound.classes class_there in
      let member =
      slice_there class.file.methods index (omega (arith, stands.count, slice_get_within class.methods index method method_there)) in
      let of = stands.members index member.0 method member.1 method_there in
      let concrete : is_abstract member.0.flags ≡ false =
      ap is_abstract (sym of.flags) ∙ not_so (is_abstract method.flags) (sym code ∙ allowed.code) in
      let one : length (codes_of member.0) ≡ 1 = eqb-true _ _ of.its ∙ ap (λ (b : Bool). cond b 0 1) concrete in
      let its = only (codes_of member.0) one in
      let fits : FitsMember class.file.pool true member.0 =
      all_get (FitsMember class.file.pool true) class.file.methods index member.0 of_class.fits.methods.each member.1 in
      let all = codes_fit class.file.pool member.0.attrs fits.attrs.each in
      let first : FitsCode class.file.pool its.0 = (subst (AllByRecursion (FitsCode class.file.pool)) its.1 all).0 in
      subst (λ (n : ℕ). n < 2 ^ 16) (sym (of.coded its.0 its.1).max_locals) first.max_locals

-- ---- a woven program

module _ (plan : Plan) (vars : List Var) (client woven : Program) (is : IsWoven client plan vars woven)
    (client_sound : IsSound client) (client_stands : AreLinkedClasses client) (sound : IsSound woven)
    (stands : AreLinkedClasses woven) where
  -- a woven method has code
  has_its_code : (class method : ℕ) (c n : LinkedClass) (old new : Method) → slice_get client.classes class ≡ Some c
      → slice_get c.methods method ≡ Some old → slice_get woven.classes class ≡ Some n → slice_get n.methods method ≡ Some new
      → new.flags ≡ old.flags → is_woven plan old ≡ true → has_code new ≡ true
  has_its_code class method c n old new ct ot nt mt flags has =
      let sound_class = all_get IsSoundClass client.classes class c client_sound.classes ct in
      let sound_method = all_get IsSoundMethod c.methods method old sound_class.methods ot in
      let some : has_code old ≡ true =
      lt-ltb 0 (length old.insns) (omega (arith, refs_some plan.has_block old.refs has, sound_method.refs)) in
      let a : has_code new ≡ not (is_abstract new.flags) = (allowed woven sound stands class method n new nt mt).code in
      let b : has_code old ≡ not (is_abstract old.flags) = (allowed client client_sound client_stands class method c old ct ot).code in
      a ∙ ap (λ (f : ℕ). not (is_abstract f)) flags ∙ sym b ∙ some

  method_fits : (class method : ℕ) (c : LinkedClass) (old : Method) → slice_get client.classes class ≡ Some c
      → slice_get c.methods method ≡ Some old → LocalsFit plan old
  method_fits class method c old ct ot has =
      let n = each_on (IsWovenClass plan (length client.classes)) client.classes is.own class c is.classes ct in
      let nt : slice_get woven.classes class ≡ Some n.0 =
      ap (λ (cs : List LinkedClass). slice_get cs class) is.are ∙ get_kept is.own (is.state ∷ []) class n.0 n.1 in
      let m = each_on (IsWovenMethod plan (length client.classes) n.0.file.pool) c.methods n.0.methods method old n.2.methods ot in
      let few : m.0.max_locals < 2 ^ 16 =
      few_locals woven sound stands class method n.0 m.0 nt m.1
      (has_its_code class method c n.0 old m.0 ct ot nt m.1 m.2.flags has) in
      let many : m.0.max_locals ≡ old.max_locals + locals_of plan old =
      m.2.max_locals ∙ ap (λ (b : Bool). cond b (old.max_locals + locals_of plan old) old.max_locals) has in
      subst (λ (k : ℕ). k < 2 ^ 16) many few

  pub locals_fit : AllLocalsFit plan client
  locals_fit =
      all_by_place (λ (c : LinkedClass). AllByRecursion (LocalsFit plan) c.methods) client.classes
      (λ class c ct. all_by_place (LocalsFit plan) c.methods (λ method old ot. method_fits class method c old ct ot))

  state_file_parent : class_at is.state.file.pool is.state.file.super_class ≡ object
  unfolding class_name_at utf8_at
  state_file_parent = ap (λ (f : ClassFile). class_at f.pool f.super_class) is.last.file

  pub state_parent : is.state.parent ≡ object
  state_parent =
      let there : slice_get woven.classes (length is.own) ≡ Some is.state =
      ap (λ (cs : List LinkedClass). slice_get cs (length is.own)) is.are ∙ get_pushed is.own is.state (length is.own) refl in
      (all_get IsSoundClass woven.classes (length is.own) is.state sound.classes there).parent ∙ state_file_parent
