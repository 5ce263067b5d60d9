-- The plan of a policy: what has a block, the locals that blocks use, and what they name.
use Rattle.std.proofs.Common.{◌≡◌, ℕ, zero, suc, ◌≤◌, Bool, true, false, cond, List, [], ◌∷◌, map, Option, Some, None, refl, sym, ap, ◌∙◌, arith}
use Rattle.std.specs.Prelude.{max, slice_get}
use Rattle.std.specs.List.{Contains, cons_option, filter_map}
use Rattle.std.proofs.lemmas.List.Elements.{Contains-append_left, Contains-append_right}
use Rattle.bytecode_model.specs.declared.program.Target.{Target}
use Rattle.bytecode_model.specs.declared.program.Target.TheVariants as target
use Rattle.cert_format.specs.declared.certificate.Mode.{Mode}
use Rattle.conspec_automaton.specs.declared.policy.Policy.{Policy}
use Rattle.conspec_automaton.specs.Next.{has_clauses}
use Rattle.offset_patch.specs.declared.block.Block.{Block}
use Rattle.offset_patch.specs.declared.block.BlockInsn.{BlockInsn}
use Rattle.offset_patch.specs.declared.block.PoolWant.{PoolWant}
use Rattle.offset_patch.specs.Plan.{Plan}
use Rattle.offset_patch.specs.Splicing.{want_of, block_wants, wants_of}
use Rattle.block_template.specs.Blocks.{block_with, bools_of, clauses_of, plan_of, site, site_locals}
use Rattle.class_weaving.specs.Woven.{most_locals}
use Rattle.class_weaving.proofs.Parts.{part}

module _ (policy : Policy) (mode : Mode) where
  abbrev plan : Plan
  plan = plan_of policy mode

  -- What has a block is a call of a method that a clause names.
  pub record IsBlockOf (base : ℕ) (ref : Target) (block : Block) : Type 0 where
    pub callee : ℕ
    pub names : ref ≡ target.ApiMethod callee
    pub has : has_clauses policy callee ≡ true
    pub is : block ≡ block_with mode (bools_of policy) base (clauses_of policy callee)

  pub site_back : (base : ℕ) (ref : Target) (block : Block) → site policy mode base ref ≡ Some block → IsBlockOf base ref block
  site_back base (target.ApiMethod callee) block e = by (has_clauses policy callee) refl e
    where
      by : (b : Bool) → has_clauses policy callee ≡ b
          → cond b (Some (block_with mode (bools_of policy) base (clauses_of policy callee))) None ≡ Some block
          → IsBlockOf base (target.ApiMethod callee) block
      by true has e =
          let same : block ≡ block_with mode (bools_of policy) base (clauses_of policy callee) = cc in
          record { callee = callee; names = refl; has = has; is = same }
      by false has e = absurd cc
  site_back base target.None block e = absurd cc
  site_back base (target.Builtin i) block e = absurd cc
  site_back base (target.Method c m) block e = absurd cc
  site_back base (target.Field c f) block e = absurd cc
  site_back base (target.ApiField i) block e = absurd cc
  site_back base (target.ClassName name) block e = absurd cc
  site_back base (target.Number n) block e = absurd cc
  site_back base (target.Literal i) block e = absurd cc

  -- ---- locals

  max_left : (a b : ℕ) → a ≤ max a b
  max_left a b = omega arith

  max_right : (a b c : ℕ) → c ≤ b → c ≤ max a b
  max_right a b c le = omega (arith, le)

  pub most_there : (refs : List Target) (i : ℕ) (ref : Target) → slice_get refs i ≡ Some ref → site_locals policy ref ≤ most_locals plan refs
  most_there [] i ref e = absurd cc
  most_there (r ∷ refs) zero ref e =
      let same : r ≡ ref = cc in
      rw same (max_left (site_locals policy ref) (most_locals plan refs))
  most_there (r ∷ refs) (suc i) ref e =
      max_right (site_locals policy r) (most_locals plan refs) (site_locals policy ref) (most_there refs i ref e)

-- ---- what a part names

wants_here : (insns : List BlockInsn) (k : ℕ) (insn : BlockInsn) (want : PoolWant) → slice_get insns k ≡ Some insn → want_of insn ≡ Some want
    → Contains (filter_map want_of insns) want
wants_here [] k insn want e f = absurd cc
wants_here (x ∷ insns) zero insn want e f =
    let same : x ≡ insn = cc in
    by (want_of x) (ap want_of same ∙ f)
  where
    by : (o : Option PoolWant) → o ≡ Some want → Contains (cons_option o (filter_map want_of insns)) want
    by None g = absurd cc
    by (Some w) g =
        let same : w ≡ want = cc in
        (0, omega arith, same)
wants_here (x ∷ insns) (suc k) insn want e f = by (want_of x) (wants_here insns k insn want e f)
  where
    by : (o : Option PoolWant) → Contains (filter_map want_of insns) want
        → Contains (cons_option o (filter_map want_of insns)) want
    by None c = c
    by (Some w) c = (suc c.0, omega (arith, c.1), c.2)

pub wants_there : (plan : Plan) (base : ℕ) (refs : List Target) (i k : ℕ) (ref : Target) (insn : BlockInsn) (want : PoolWant)
    → slice_get refs i ≡ Some ref → slice_get (part plan base ref) k ≡ Some insn → want_of insn ≡ Some want
    → Contains (wants_of (map (plan.block base) refs)) want
wants_there plan base [] i k ref insn want e f g = absurd cc
wants_there plan base (r ∷ refs) zero k ref insn want e f g =
    let same : ref ≡ r = cc in
    Contains-append_left (block_wants (plan.block base r)) (wants_of (map (plan.block base) refs)) want
    (wants_here (part plan base r) k insn want (ap (λ (t : Target). slice_get (part plan base t) k) (sym same) ∙ f) g)
wants_there plan base (r ∷ refs) (suc i) k ref insn want e f g =
    Contains-append_right (block_wants (plan.block base r)) (wants_of (map (plan.block base) refs)) want
    (wants_there plan base refs i k ref insn want e f g)
