use Rattle.std.proofs.Common.{◌≡◌, ◌∙◌, true, ℤ, length, drop, nat_lt, Some, Ok, sym, ap, w32, arith}
use Rattle.std.proofs.lemmas.Grind.{common_steps}
use Rattle.std.proofs.lemmas.Int.{to_z-of_z}
use Rattle.conspec_parse.specs.Clauses.{clause_of_type, next_phase}
use Rattle.conspec_parse.specs.Types.{type_at}
use Rattle.conspec_parse.proofs.FromPhase.{clause_is}
use Rattle.conspec_parse.proofs.clause.clause_at.Goals as goal

pub returns : goal.returns
returns c =
    let few : nat_lt (length c.args.clauses.now) 64 ≡ true = grind (arith, common_steps) in
    let begun : next_phase c.args.tokens.now ≡ Some c.in-Some.phase = cc in
    let read : type_at true (drop 1 c.args.tokens.now) ≡ Ok (c.in_ok-returned.returned, c.in_ok-returned.left.now) = ap (type_at true) (sym c.rest_of.ensures) ∙ c.in_ok-returned.ensures in
    let same = sym (to_z-of_z w32 c.args.maxint c.ranges.maxint) in
    rw (clause_is c.args.methods.now c.args.vars.now c.args.maxint c.args.clauses.now c.args.tokens.now c.in_ok-returned.left.now c.in-Some.phase c.in_ok-returned.returned few begun read
    ∙ ap (λ (m : ℤ). clause_of_type c.args.methods.now c.args.vars.now m c.in-Some.phase c.in_ok-returned.returned c.args.clauses.now c.in_ok-returned.left.now) same) c.clause_of_type.ensures
