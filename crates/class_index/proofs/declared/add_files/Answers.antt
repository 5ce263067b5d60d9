use Rattle.std.proofs.Common.{ap, arith}
use Rattle.class_codec.specs.Fits.{IsEncodable}
use Rattle.bytecode_model.specs.Members.{given_from, file_members}
use Rattle.mon_base.proofs.Lists.{front_is}
use Rattle.bytecode_model.proofs.Lists.{others_fit, rest_length, none_left}
use Rattle.class_index.proofs.Declaring.{goes_on, is_done}
use Rattle.class_index.proofs.declared.add_files.Goals as goal

pub add_file-requires : goal.add_file-requires
add_file-requires c =
    let split = front_is c.loop-left.left.now c.file-item.result c.in-len1-up.len_at_least c.file-item.is in
    (others_fit IsEncodable c.loop-left.left.now _ _ split c.loop-left.invariant.fits).0

pub loop-left-preserved : goal.loop-left-preserved
loop-left-preserved c =
    let split = front_is c.loop-left.left.now c.file-item.result c.in-len1-up.len_at_least c.file-item.is in
    record {
      found = λ q. goes_on _ (file_members c.args.kind c.loop-left.class c.file-item.result) _ _ _ _ q (ap (given_from c.args.kind c.loop-left.class) split) (c.in_ok-add_file.ensures q) (c.loop-left.invariant.found q);
      count = omega (arith, rest_length c.loop-left.left.now _ _ split);
      fits = (others_fit IsEncodable c.loop-left.left.now _ _ split c.loop-left.invariant.fits).1;
    }

pub returns : goal.returns
returns c = λ q. is_done _ _ _ q (ap (given_from c.args.kind c.loop-left.class) (none_left c.loop-left.left.now c.in_default.len_below)) (c.loop-left.invariant.found q)
