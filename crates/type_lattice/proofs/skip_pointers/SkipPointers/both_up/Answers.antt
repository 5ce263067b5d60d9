use Rattle.std.proofs.Common.{◌≡◌, Some, sym, ap, ◌∙◌, arith}
use Rattle.std.specs.Prelude.{slice_get}
use Rattle.type_lattice.specs.SkipPointers.{path_up}
use Rattle.type_lattice.proofs.Ascending.{next_is, together, at_first}
use Rattle.type_lattice.proofs.skip_pointers.SkipPointers.both_up.Goals as goal

pub returns-then-low-high-2 : goal.returns-then-low-high-2
returns-then-low-high-2 c =
    let ps = c.args.self.now in
    let low = c.kept-low.ensures.path_up in
    let other : slice_get (path_up ps c.args.b) c.kept-low.result.steps ≡ Some c.kept-high.result.jump = ap (slice_get (path_up ps c.args.b)) c.if-low-high.true ∙ c.kept-high.ensures.path_up.jump in
    record {
      gone = c.kept-low.result.steps;
      one = low.jump;
      other = other;
      some = low.moves c.in-Some.above (sym c.kept-low.ensures.parent ∙ c.in-Some.is);
      apart = λ k x less e f. c.if-low-high-2.true (together ps c.kept-low.ensures.parents c.args.a c.args.b c.kept-low.result.steps k x _ _ less e f low.jump other);
    }

pub returns : goal.returns
returns c =
    let ps = c.args.self.now in
    let parents = c.kept-low.ensures.parents in
    record {
      gone = 1;
      one = next_is ps parents c.args.a c.in-Some.above (sym c.kept-low.ensures.parent ∙ c.in-Some.is);
      other = next_is ps parents c.args.b c.in-Some-parent.beyond (sym c.kept-high.ensures.parent ∙ c.in-Some-parent.is);
      some = omega arith;
      apart = λ k x less e f. c.requires.apart (at_first ps parents c.args.a c.args.b k x less e f);
    }
