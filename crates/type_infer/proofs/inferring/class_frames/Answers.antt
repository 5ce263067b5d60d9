use Rattle.std.proofs.Common.{◌≡◌, ◌∙◌, ℕ, ◌++◌, ◌∷◌, [], true, get_or, length, subst, sym, ap, append_assoc, append-nil, arith}
use Rattle.std.proofs.lemmas.Bool.{false≢true, lt-ltb}
use Rattle.std.proofs.lemmas.Grind.{common_steps}
use Rattle.std.proofs.lemmas.Slice.{first_rest}
use Rattle.std.specs.List.{between}
use Rattle.bytecode_model.specs.Layout.{has_code}
use Rattle.type_infer.specs.Solving.{IsSolved, MethodsAreSolved, scope_of}
use Rattle.type_infer.proofs.Firsts.{no_methods}
use Rattle.type_infer.proofs.Lists.{filled}
use Rattle.type_infer.proofs.inferring.class_frames.Goals as goal

pub loop-left-preserved-in_ok-push : goal.loop-left-preserved-in_ok-push
loop-left-preserved-in_ok-push c =
    let program = c.args.program.now in
    let class = c.args.class.now in
    let method = c.method-item.result in
    let left = c.loop-left.left.now in
    let frames = c.in_ok-frames.frames in
    let empty = c.is_empty.ensures in
    let some = c.if-not-is_empty.true in
    let has : has_code method ≡ true = lt-ltb 0 (length method.insns) (filled method.insns c.is_empty.result empty.1 some) in
    record {
      shaped = grind (arith, common_steps);
      fits = grind (arith, common_steps);
      sound = grind (arith, common_steps);
      solved = λ rest s.
          let solved : IsSolved (scope_of program c.args.own class method) (length method.insns) frames =
          subst (λ (n : ℕ). IsSolved (scope_of program c.args.own class method) n frames) c.len.ensures c.in_ok-frames.ensures.solved in
          let split = first_rest left method (omega arith) in
          let item : get_or left 0 method ≡ method = sym c.method-item.is in
          let with' : MethodsAreSolved program c.args.own class (method ∷ between 1 (length left) left) (frames ∷ rest) = (λ code. (solved, s), λ none. absurd (false≢true (sym none ∙ has))) in
          let all = c.loop-left.invariant.solved (frames ∷ rest)
          (subst (λ ms. MethodsAreSolved program c.args.own class ms (frames ∷ rest)) (sym split)
          (subst (λ m. MethodsAreSolved program c.args.own class (m ∷ between 1 (length left) left) (frames ∷ rest)) (sym item) with')) in
          subst (MethodsAreSolved program c.args.own class class.methods) (sym (ap (λ xs. xs ++ rest) c.in_ok-push.ensures.ok ∙ append_assoc c.loop-left.told (frames ∷ []) rest)) all;
    }

pub returns-clause-solved : goal.returns-clause-solved
returns-clause-solved c =
    let program = c.args.program.now in
    let class = c.args.class.now in
    let all = c.loop-left.invariant.solved [] (no_methods program c.args.own class c.loop-left.left.now [] (omega arith)) in
    subst (MethodsAreSolved program c.args.own class class.methods) (append-nil c.loop-left.told) all
