use Rattle.std.proofs.Common.{true, arith}
use Rattle.std.proofs.lemmas.Result.{err_from_is_err_and}
use Rattle.mon_base.proofs.Lists.{front_is}
use Rattle.bytecode_model.proofs.Lists.{others_fit, rest_length, none_left, all_push}
use Rattle.class_linking.proofs.Loop.{goes_on, ends, is_done}
use Rattle.class_codec.specs.Fits.{FitsMember}
use Rattle.class_linking.specs.Linking.{method_linked}
use Rattle.bytecode_model.specs.Sound.{IsSoundMethod}
use Rattle.class_linking.proofs.methods.each_linked.Goals as goal

pub loop-left-preserved : goal.loop-left-preserved
loop-left-preserved c =
    let split = front_is c.loop-left.left.now c.member-item.result c.in-len1-up.len_at_least c.member-item.is in
    let one = method_linked c.args.index.now.files c.args.index.now.listing c.args.file.now in
    record {
      so_far = rw c.in_ok-push.ensures.items (goes_on one c.loop-left.methods.items _ _ _ c.in_ok-method.method c.loop-left.number _ split c.in_ok-method.ensures.answers c.loop-left.invariant.so_far);
      count = omega (arith, rest_length c.loop-left.left.now _ _ split);
      fits = (others_fit (FitsMember c.args.file.now.pool true) c.loop-left.left.now _ _ split c.loop-left.invariant.fits).1;
      sound = all_push IsSoundMethod c.loop-left.methods.items _ _ c.in_ok-push.ensures.items c.loop-left.invariant.sound c.in_ok-method.ensures.sound;
      known = c.in_ok-method.ensures.known;
    }

pub returns-in_err-method-clause-answers : goal.returns-in_err-method-clause-answers
returns-in_err-method-clause-answers c =
    let split = front_is c.loop-left.left.now c.member-item.result c.in-len1-up.len_at_least c.member-item.is in
    let one = method_linked c.args.index.now.files c.args.index.now.listing c.args.file.now in
    let p = err_from_is_err_and c.from_residual-in_err-method.result c.from_residual-in_err-method.ensures.1 in
    rw (p.1, p.2) (ends one c.in_err-method.field-0.0 c.loop-left.methods.items _ _ _ c.loop-left.number _ split c.in_err-method.ensures.answers c.loop-left.invariant.so_far)

pub returns-clause-answers : goal.returns-clause-answers
returns-clause-answers c =
    let one = method_linked c.args.index.now.files c.args.index.now.listing c.args.file.now in
    rw c.from_vec.ensures (is_done one c.loop-left.methods.items c.loop-left.left.now c.loop-left.number _ (none_left c.loop-left.left.now c.in_default.len_below) c.loop-left.invariant.so_far)

pub method_linked-requires-clause-fits : goal.method_linked-requires-clause-fits
method_linked-requires-clause-fits c =
    let split = front_is c.loop-left.left.now c.member-item.result c.in-len1-up.len_at_least c.member-item.is in
    (others_fit (FitsMember c.args.file.now.pool true) c.loop-left.left.now _ _ split c.loop-left.invariant.fits).0
