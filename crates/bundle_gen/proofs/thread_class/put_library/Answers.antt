use Rattle.bundle_gen.proofs.Growing.{pushed}
use Rattle.bundle_gen.proofs.thread_class.put_library.Goals as goal

pub returns : goal.returns
returns c =
    let a = pushed c.args.pool.now _ _ _ _ c.in_ok-put_text.ensures c.in_ok-push.ensures.ok in
    let b = pushed c.args.pool.now _ _ _ _ a c.in_ok-put_text-2.ensures in
    let d = pushed c.args.pool.now _ _ _ _ b c.in_ok-put_text-3.ensures in
    let e = pushed c.args.pool.now _ _ _ _ d c.in_ok-push-2.ensures.ok in
    let f = pushed c.args.pool.now _ _ _ _ e c.in_ok-push-3.ensures.ok in
    let g = pushed c.args.pool.now _ _ _ _ f c.in_ok-put_text-4.ensures in
    let h = pushed c.args.pool.now _ _ _ _ g c.in_ok-put_text-5.ensures in
    let i = pushed c.args.pool.now _ _ _ _ h c.in_ok-push-4.ensures.ok in
    pushed c.args.pool.now _ _ _ _ i c.in_ok-push-5.ensures.ok
