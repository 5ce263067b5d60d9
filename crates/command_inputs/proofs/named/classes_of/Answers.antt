use Rattle.std.proofs.Common.{◌≡◌, ◌∷◌, ◌∙◌, List, ℕ, length, take, drop, ◌-◌, Ok, Err, subst, arith}
use Rattle.std.proofs.lemmas.Result.{err_from_is_err_and}
use Rattle.mon_store.specs.Store.{Files, HasFile}
use Rattle.class_codec.specs.declared.tree.ClassFile.{ClassFile}
use Rattle.class_codec.specs.Fits.{IsEncodable, EncodesClass}
use Rattle.command_inputs.specs.declared.files.Stop.{Stop}
use Rattle.command_inputs.specs.Forms.{IsRead, ReadsForm}
use Rattle.command_inputs.specs.Kinds.{class_form}
use Rattle.command_inputs.proofs.ReadFiles.{counted}
use Rattle.command_inputs.proofs.ClassFiles.{HaveRead, class_stops, one_read, taken_apart, sound_pushed}
use Rattle.command_inputs.proofs.named.classes_of.Goals as goal

pub returns-in_err-class-clause-read : goal.returns-in_err-class-clause-read
returns-in_err-class-clause-read g c =
    let p = err_from_is_err_and c.from_residual.result c.from_residual.ensures.1 in
    let files : Files = g.S.Store.files c.args.store.now in
    let left : List (List ℕ) = c.loop-rest.rest.now in
    let name : List ℕ = c.name-item.result in
    let later : List (List ℕ) = take (length left - 1) (drop 1 left) in
    let apart : left ≡ name ∷ later = taken_apart left name (omega arith) c.name-item.is in
    let had : HaveRead files c.args.names.now c.loop-rest.files.items c.loop-rest.total (name ∷ later) =
    subst (λ (l : List (List ℕ)). HaveRead files c.args.names.now c.loop-rest.files.items c.loop-rest.total l) apart c.loop-rest.invariant.read in
    let begun : ℕ = g.S.Store.faults c.loop-rest.store in
    let now : ℕ = g.S.Store.faults c.class_of.new.store in
    let last : List ℕ = g.S.Store.last c.class_of.new.store in
    let stop : Stop = c.in_err-class.field-0.0 in
    let form = subst (λ (fs : Files). ReadsForm fs (counted begun now last) name class_form (Err stop)) c.loop-rest.invariant.files c.in_err-class.ensures.form in
    rw (p.1, p.2) (class_stops files c.args.names.now c.loop-rest.files.items c.loop-rest.total name later (g.S.Store.faults c.args.store.now) begun now last stop c.loop-rest.invariant.faults had form)

pub loop-rest-preserved : goal.loop-rest-preserved
loop-rest-preserved g c =
    let files : Files = g.S.Store.files c.args.store.now in
    let left : List (List ℕ) = c.loop-rest.rest.now in
    let name : List ℕ = c.name-item.result in
    let later : List (List ℕ) = take (length left - 1) (drop 1 left) in
    let apart : left ≡ name ∷ later = taken_apart left name (omega arith) c.name-item.is in
    let class : ClassFile = c.in_ok-class.class.file in
    let len : ℕ = c.in_ok-class.class.len in
    let had : HaveRead files c.args.names.now c.loop-rest.files.items c.loop-rest.total (name ∷ later) =
    subst (λ (l : List (List ℕ)). HaveRead files c.args.names.now c.loop-rest.files.items c.loop-rest.total l) apart c.loop-rest.invariant.read in
    let one : IsRead files name class_form (Ok (record { file = class; len = len })) =
    subst (λ (fs : Files). IsRead fs name class_form (Ok (record { file = class; len = len }))) c.loop-rest.invariant.files c.in_ok-class.ensures.form in
    let encodes : HasFile files name (λ bytes. EncodesClass bytes class) =
    subst (λ (fs : Files). HasFile fs name (λ bytes. EncodesClass bytes class)) c.loop-rest.invariant.files c.in_ok-class.ensures.encodes in
    record {
      read = rw (c.in_ok-push.ensures.items, c.saturating_add-total.ensures) (one_read files c.args.names.now c.loop-rest.files.items c.loop-rest.total name later class len had one encodes);
      fits = sound_pushed IsEncodable c.loop-rest.files.items c.push.new.self.items class c.in_ok-push.ensures.items c.loop-rest.invariant.fits c.in_ok-class.ensures.fits;
      files = c.class_of.ensures.files ∙ c.loop-rest.invariant.files;
      faults = omega (arith, c.class_of.ensures.faults, c.loop-rest.invariant.faults);
    }
