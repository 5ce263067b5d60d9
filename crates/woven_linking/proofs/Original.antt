-- What a compiler's files link to names nothing of conspec/State.
use Rattle.std.proofs.Common.{◌≡◌, ◌≢◌, ℕ, Bool, true, false, List, [], ◌∷◌, Option, Some, None, Ok, sym, subst, ◌∙◌}
use Rattle.std.specs.Prelude.{slice_get, if◌then◌else◌, ok_or}
use Rattle.std.specs.List.{AllByRecursion}
use Rattle.mon_base.specs.Reading.{◌>>=◌}
use Rattle.mon_base.specs.declared.method.MethodId.{MethodId}
use Rattle.mon_base.proofs.Reading.{bind_ok, ok_is}
use Rattle.class_codec.specs.declared.tree.ClassFile.{ClassFile}
use Rattle.class_codec.specs.declared.tree.Code.{Code}
use Rattle.class_codec.specs.declared.tree.Const.{Const}
use Rattle.class_codec.specs.declared.tree.Const.TheVariants as constants
use Rattle.class_codec.specs.declared.tree.Member.{Member}
use Rattle.insn_codec.specs.declared.insn.Insn.{Insn}
use Rattle.api_listing.specs.declared.types.Listing.{Listing}
use Rattle.class_linking.specs.declared.fault.LinkFault.{LinkFault}
use Rattle.class_linking.specs.declared.operand_fault.OperandFault.{OperandFault}
use Rattle.class_linking.specs.declared.operand_fault.OperandFault.TheVariants as operand
use Rattle.bytecode_model.specs.declared.operand.Use.{Use}
use Rattle.bytecode_model.specs.declared.operand.Use.TheVariants as uses
use Rattle.bytecode_model.specs.declared.program.LinkedClass.{LinkedClass}
use Rattle.bytecode_model.specs.declared.program.Method.{Method}
use Rattle.bytecode_model.specs.declared.program.Side.TheVariants as sides
use Rattle.bytecode_model.specs.declared.program.Target.{Target}
use Rattle.bytecode_model.specs.declared.program.Target.TheVariants as target
use Rattle.bytecode_model.specs.Heads.{text_at}
use Rattle.class_linking.specs.Linking.{bare, body_linked, method_linked}
use Rattle.bytecode_model.specs.Operands.{known_in, id_at, use_of, index_of}
use Rattle.class_linking.specs.Operands.{class_linked, field_linked, call_linked, used, is_nothing, operand_linked}
use Rattle.class_linking.proofs.Loop.{each_of}
use Rattle.class_linking.proofs.Parts.{class_parts}
use Rattle.offset_patch.specs.Entries.{state_name}
use Rattle.class_weaving.specs.Woven.{first_code}
use Rattle.class_weaving.specs.Outcome.{Each, IsFreeTarget}
use Rattle.woven_linking.specs.Links.{OriginalIsFree}
use Rattle.woven_linking.proofs.Found.{class_is, access_is, call_is}
use Rattle.woven_linking.proofs.Free.{IsFree, text_free, class_free}
use Rattle.woven_linking.proofs.Steps.{coded, conditions_of}
use Rattle.woven_linking.proofs.Whole.{IsOf, program_of, free_classes}

-- ---- operands

module _ (files : List ClassFile) (listing : Listing) where
  call_free : (static : Bool) (id : MethodId) (t : Target) → call_linked files listing static id ≡ Ok t → IsFreeTarget t
  call_free = call_is IsFreeTarget files listing (λ class method. tt) (λ method. tt) (λ method. tt)

  access_free : (static writes : Bool) (id : MethodId) (t : Target) → field_linked files listing static writes id ≡ Ok t → IsFreeTarget t
  access_free = access_is IsFreeTarget files listing (λ class field. tt) (λ field. tt)

  named_free : (arrays : Bool) (text : List ℕ) (t : Target) → text ≢ state_name → class_linked arrays (known_in files listing) text ≡ Ok t → IsFreeTarget t
  named_free arrays text t other e = subst IsFreeTarget (class_is arrays (known_in files listing) text t e) other

  module _ (pool : List Const) (free : IsFree pool) where
    used_free : (u : Use) (c : Const) (t : Target) → used files listing pool u c ≡ Ok t → IsFreeTarget t
    used_free uses.Nothing c t e = subst IsFreeTarget (ok_is OperandFault target.None t e) tt
    used_free uses.Load (constants.Integer n) t e = subst IsFreeTarget (ok_is OperandFault (target.Number n) t e) tt
    used_free uses.Load (constants.Str text) t e = subst IsFreeTarget (ok_is OperandFault (target.Literal _) t e) tt
    used_free uses.Load (constants.Class name) t e = named_free false (text_at pool name) t (text_free pool name free) e
    used_free uses.Load c t e = absurd cc
    used_free (uses.Field static writes) (constants.Field class member) t e = access_free static writes (id_at pool class member) t e
    used_free (uses.Field static writes) c t e = absurd cc
    used_free (uses.Call static false) (constants.Method class member) t e = call_free static (id_at pool class member) t e
    used_free (uses.Call static true) (constants.IMethod class member) t e = call_free static (id_at pool class member) t e
    used_free (uses.Call static false) c t e = absurd cc
    used_free (uses.Call static true) c t e = absurd cc
    used_free uses.New (constants.Class name) t e = named_free false (text_at pool name) t (text_free pool name free) e
    used_free uses.New c t e = absurd cc
    used_free uses.Type (constants.Class name) t e = named_free true (text_at pool name) t (text_free pool name free) e
    used_free uses.Type c t e = absurd cc

    operand_free : (x : Insn) (t : Target) → operand_linked files listing pool x ≡ Ok t → IsFreeTarget t
    operand_free x t e = by (is_nothing (use_of x)) e where
      by : (b : Bool) → (if b then Ok target.None else (ok_or (slice_get pool (index_of x)) operand.Wrong >>= used files listing pool (use_of x))) ≡ Ok t → IsFreeTarget t
      by true f = subst IsFreeTarget (ok_is OperandFault target.None t f) tt
      by false f =
          let a = bind_ok (ok_or (slice_get pool (index_of x)) operand.Wrong) (used files listing pool (use_of x)) t f in
          used_free (use_of x) a.0 t a.2

    operands_free : (xs : List Insn) (ts : List Target) → Each (λ (x : Insn) (t : Target). operand_linked files listing pool x ≡ Ok t) xs ts → AllByRecursion IsFreeTarget ts
    operands_free [] [] h = tt
    operands_free [] (t ∷ ts) h = absurd h
    operands_free (x ∷ xs) [] h = absurd h
    operands_free (x ∷ xs) (t ∷ ts) h = (operand_free x t h.0, operands_free xs ts h.1)

  -- ---- methods

  refs_free : (file : ClassFile) → IsFree file.pool → (at : ℕ) (member : Member) (m : Method) → method_linked files listing file at member ≡ Ok m → AllByRecursion IsFreeTarget m.refs
  refs_free file free at member m e = by (first_code member.attrs) (conditions_of files listing file at member m e).2 where
    by : (c : Option Code) → body_linked files listing file at member c ≡ Ok m → AllByRecursion IsFreeTarget m.refs
    by None f = subst (λ (x : Method). AllByRecursion IsFreeTarget x.refs) (ok_is LinkFault (bare file member) m f) tt
    by (Some code) f =
        let c = coded files listing file at member code m f in
        operands_free file.pool free m.insns m.refs c.refs

  classes_free : (classes : List LinkedClass) → AllByRecursion (λ (c : LinkedClass). IsFree c.file.pool) classes → AllByRecursion (IsOf files listing) classes
      → AllByRecursion (λ (c : LinkedClass). c.name ≢ state_name) classes × AllByRecursion (λ (c : LinkedClass). AllByRecursion (λ (m : Method). AllByRecursion IsFreeTarget m.refs) c.methods) classes
  classes_free [] free of = (tt, tt)
  classes_free (class ∷ classes) free of =
      let rest = classes_free classes free.1 of.1 in
      let parts = class_parts files listing class.file class.methods of.0.methods in
      let methods = each_of (method_linked files listing class.file) (λ (m : Method). AllByRecursion IsFreeTarget m.refs) (refs_free class.file free.0) 0 class.file.methods class.methods parts.each in
      ((λ e. class_free class.file.pool class.file.this_class free.0 (sym of.0.name ∙ e), rest.0), (methods, rest.1))

pub free : OriginalIsFree
free text listing files main program encoded e =
    let p = program_of files listing main sides.Original program e in
    let all = classes_free files listing program.classes (free_classes files listing main program p) p.classes in
    record { classes = all.0; operands = all.1 }
