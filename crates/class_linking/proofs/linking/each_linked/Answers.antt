use Rattle.std.proofs.Common.{◌+◌, ℕ}
use Rattle.std.proofs.lemmas.Result.{err_from_is_err_and}
use Rattle.mon_base.proofs.Lists.{front_is}
use Rattle.bytecode_model.proofs.Lists.{others_fit, none_left, all_push}
use Rattle.class_linking.proofs.Loop.{goes_on, ends, is_done}
use Rattle.std.specs.List.{AllByRecursion}
use Rattle.class_codec.specs.Fits.{IsEncodable}
use Rattle.class_linking.specs.Linking.{methods_linked}
use Rattle.bytecode_model.specs.Sound.{IsSoundMethod}
use Rattle.class_linking.proofs.linking.each_linked.Goals as goal

pub loop-left-preserved : goal.loop-left-preserved
loop-left-preserved c =
    let split = front_is c.loop-left.left.now c.file-item.result c.in-len1-up.len_at_least c.file-item.is in
    let one = λ (i : ℕ). methods_linked c.args.index.now.files c.args.index.now.listing in (
      c.loop-left.invariant.0 + 1,
      record {
        so_far = rw c.in_ok-push.ensures.items (goes_on one c.loop-left.classes.items _ _ _ c.in_ok-methods.methods c.loop-left.invariant.0 _ split c.in_ok-methods.ensures.answers c.loop-left.invariant.1.so_far);
        fit = (others_fit IsEncodable c.loop-left.left.now _ _ split c.loop-left.invariant.1.fit).1;
        sound = all_push (AllByRecursion IsSoundMethod) c.loop-left.classes.items _ _ c.in_ok-push.ensures.items c.loop-left.invariant.1.sound c.in_ok-methods.ensures.sound;
      },
    )

pub returns-in_err-methods-clause-answers : goal.returns-in_err-methods-clause-answers
returns-in_err-methods-clause-answers c =
    let split = front_is c.loop-left.left.now c.file-item.result c.in-len1-up.len_at_least c.file-item.is in
    let one = λ (i : ℕ). methods_linked c.args.index.now.files c.args.index.now.listing in
    let p = err_from_is_err_and c.from_residual-in_err-methods.result c.from_residual-in_err-methods.ensures.1 in
    rw (p.1, p.2) (ends one c.in_err-methods.field-0.0 c.loop-left.classes.items _ _ _ c.loop-left.invariant.0 _ split c.in_err-methods.ensures.answers c.loop-left.invariant.1.so_far)

pub returns-clause-answers : goal.returns-clause-answers
returns-clause-answers c =
    let one = λ (i : ℕ). methods_linked c.args.index.now.files c.args.index.now.listing in
    rw c.from_vec.ensures (is_done one c.loop-left.classes.items c.loop-left.left.now c.loop-left.invariant.0 _ (none_left c.loop-left.left.now c.in_default.len_below) c.loop-left.invariant.1.so_far)

pub methods_linked-requires : goal.methods_linked-requires
methods_linked-requires c =
    let split = front_is c.loop-left.left.now c.file-item.result c.in-len1-up.len_at_least c.file-item.is in
    (others_fit IsEncodable c.loop-left.left.now _ _ split c.loop-left.invariant.1.fit).0
