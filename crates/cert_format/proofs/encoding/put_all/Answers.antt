use Rattle.std.proofs.Common.{arith}
use Rattle.cert_format.proofs.Loops.{put_more, put_done}
use Rattle.cert_format.proofs.encoding.put_all.Goals as goal

pub loop-i-preserved : goal.loop-i-preserved
loop-i-preserved g c =
    put_more (g.T.Paired.encoded c.args.index.now) c.args.frames.now c.args.notes.now c.loop-i.i c.index-frames-i.result c.index-notes-i.result c.loop-i.out c.args.out.now c.put.new.out
    (omega (arith, c.loop-i-test.true, c.min-i-end.ensures)) c.index-frames-i.is c.index-notes-i.is c.loop-i.invariant c.in_ok-put.ensures

pub returns : goal.returns
returns g c =
    put_done (g.T.Paired.encoded c.args.index.now) c.args.frames.now c.args.notes.now c.loop-i.i c.loop-i.out c.args.out.now
    (omega (arith, c.loop-i-test.false, c.min-i-end.ensures)) c.loop-i.invariant
