-- What is woven of a code: it has its blocks, where there is room for them, or it stays as it is.
use Rattle.std.proofs.Common.{◌≡◌, ℕ, Bool, true, false, List, Option, Ok, refl, ap, subst, ◌∙◌}
use Rattle.std.specs.Prelude.{if◌then◌else◌}
use Rattle.mon_base.specs.Reading.{◌>>=◌}
use Rattle.mon_base.proofs.Reading.{bind_ok, ok_is}
use Rattle.class_codec.specs.declared.tree.Code.{Code}
use Rattle.class_codec.specs.declared.tree.Const.{Const}
use Rattle.bytecode_model.specs.declared.program.Method.{Method}
use Rattle.offset_patch.specs.declared.block.Block.{Block}
use Rattle.offset_patch.specs.declared.fault.SpliceFault.{SpliceFault}
use Rattle.offset_patch.specs.declared.splicing.Spliced.{Spliced}
use Rattle.offset_patch.specs.Plan.{Plan}
use Rattle.offset_patch.specs.Splicing.{grown, room, code_spliced, as_spliced}
use Rattle.class_weaving.specs.Woven.{WovenCode, is_woven, sites_of, locals_of, as_it_is, blocks_put, code_woven}

-- the method with its blocks, where this is its code
abbrev pub with_blocks : Plan → ℕ → List Const → Method → Code → Code → WovenCode
with_blocks plan state pool method code new = record {
  made = as_spliced state (grown pool (sites_of plan code.max_locals method)) method (sites_of plan code.max_locals method) new;
  entries = grown pool (sites_of plan code.max_locals method);
}

abbrev pub unwoven : List Const → Method → Code → WovenCode
unwoven pool method code = record { made = as_it_is method code; entries = pool }

module _ (plan : Plan) (state : ℕ) (class : List ℕ) (number : ℕ) (pool : List Const) (method : Method) (code : Code) where
  abbrev sites : List (Option Block)
  sites = sites_of plan code.max_locals method

  abbrev locals : ℕ
  locals = locals_of plan method

  -- there is room for the blocks, and this is the code with them
  abbrev pub IsPut : Code → Type 0
  IsPut new = (room class number code locals ≡ Ok tt) × (code_spliced class number (grown pool sites) method code locals sites ≡ Ok new)

  module _ (P : WovenCode → Type 0) (w : WovenCode) where
    pub put_cases : ((new : Code) → IsPut new → P (with_blocks plan state pool method code new)) → blocks_put plan state class number pool method code sites ≡ Ok w → P w
    put_cases put e =
        let made : Code → WovenCode = with_blocks plan state pool method code in
        let coded = code_spliced class number (grown pool sites) method code locals sites in
        let spliced : Code → Spliced = as_spliced state (grown pool sites) method sites in
        let whole : Spliced → WovenCode = λ s. record { made = s; entries = grown pool sites } in
        let one = bind_ok (room class number code locals) (λ fits. (coded >>= λ new. Ok (spliced new)) >>= λ s. Ok (whole s)) w e in
        let two = bind_ok (coded >>= λ new. Ok (spliced new)) (λ s. Ok (whole s)) w one.2 in
        let three = bind_ok coded (λ new. Ok (spliced new)) two.0 two.1 in
        let is : made three.0 ≡ w = ap whole (ok_is SpliceFault (spliced three.0) two.0 three.2) ∙ ok_is SpliceFault (whole two.0) w two.2 in
        subst P is (put three.0 (one.1, three.1))

    pub code_cases : (is_woven plan method ≡ true → (new : Code) → IsPut new → P (with_blocks plan state pool method code new)) → (is_woven plan method ≡ false → P (unwoven pool method code))
        → code_woven plan state class number pool method code ≡ Ok w → P w
    code_cases put still = by (is_woven plan method) refl
      where
        by : (b : Bool) → is_woven plan method ≡ b → (if b then blocks_put plan state class number pool method code sites else Ok (unwoven pool method code)) ≡ Ok w → P w
        by true some e = put_cases (put some) e
        by false none e = subst P (ok_is SpliceFault (unwoven pool method code) w e) (still none)
