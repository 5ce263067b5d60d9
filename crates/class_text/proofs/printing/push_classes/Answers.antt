use Rattle.mon_base.proofs.Lists.{front_is}
use Rattle.bytecode_model.proofs.Lists.{others_fit}
use Rattle.class_codec.specs.Fits.{IsEncodable}
use Rattle.class_text.specs.Shown.{class_shown}
use Rattle.class_text.proofs.Loop.{goes_on_there}
use Rattle.class_text.proofs.printing.push_classes.Goals as goal

pub loop-left-preserved : goal.loop-left-preserved
loop-left-preserved c =
    let split = front_is c.loop-left.left.now c.file-item.result c.in-len1-up.len_at_least c.file-item.is in
    record {
      so_far = goes_on_there (class_shown c.args.library.now) c.loop-left.out c.push_class.new.out _ _ _ _ split c.in_ok-push_class.ensures c.loop-left.invariant.so_far;
      fits = (others_fit IsEncodable c.loop-left.left.now _ _ split c.loop-left.invariant.fits).1;
    }
