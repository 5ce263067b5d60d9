-- Woven methods are laid out as the origins of their instructions are.
use Rattle.std.proofs.Common.{◌≡◌, ℕ, zero, suc, ◌+◌, ◌≤◌, Bool, true, false, List, [], ◌∷◌, length, get_or, map, Option, None, Ok, refl, sym, ap, subst, ◌∙◌, arith}
use Rattle.std.specs.Prelude.{slice_index, if◌then◌else◌}
use Rattle.std.proofs.lemmas.List.{length-map}
use Rattle.class_codec.specs.declared.tree.Code.{Code}
use Rattle.class_codec.specs.declared.tree.Const.{Const}
use Rattle.insn_codec.specs.declared.insn.Insn.{Insn}
use Rattle.bytecode_model.specs.declared.program.Method.{Method}
use Rattle.bytecode_model.specs.declared.program.Target.{Target}
use Rattle.bytecode_model.specs.Sound.{IsSoundMethod}
use Rattle.offset_patch.specs.declared.block.Block.{Block}
use Rattle.offset_patch.specs.Origins.{StandAsTold}
use Rattle.offset_patch.specs.Plan.{Plan, IsGood}
use Rattle.offset_patch.specs.Splicing.{call_place, fronts_of, origins_of, part_of, spliced}
use Rattle.offset_patch.proofs.CodeFits.{room_is}
use Rattle.offset_patch.proofs.Origins.{all_stand, told_many}
use Rattle.class_weaving.specs.Outcome.{insns_woven}
use Rattle.class_weaving.specs.Woven.{WovenCode, clients_from, code_woven, is_woven, locals_of, sites_of}
use Rattle.class_weaving.proofs.CodeCases.{IsPut, code_cases}
use Rattle.class_weaving.proofs.Sites.{refs_fit}
use Rattle.class_weaving.proofs.Unwoven.{AreAlone, all_alone, front_alone}
use Rattle.woven_linking.specs.Origins.{MethodIsLaid, OriginsAreLaidOut}
use Rattle.woven_linking.proofs.Aims.{spliced_count}
use Rattle.woven_linking.proofs.Told.{program_tells}

-- ---- a method without a block

clients_many : (at : ℕ) (insns : List Insn) → length (clients_from at insns) ≡ length insns
clients_many at [] = refl
clients_many at (x ∷ insns) = ap suc (clients_many (at + 1) insns)

module _ (plan : Plan) (base : ℕ) (refs : List Target) (alone : AreAlone plan base refs) where
  abbrev sites : List (Option Block)
  sites = map (plan.block base) refs

  none_there : (refs : List Target) → AreAlone plan base refs → (i : ℕ) → get_or (map (plan.block base) refs) i None ≡ None
  none_there [] a i = refl
  none_there (ref ∷ refs) a zero = a.0
  none_there (ref ∷ refs) a (suc i) = none_there refs a.1 i

  place_alone : call_place (part_of None) ≡ 0
  unfolding call_place
  place_alone = refl

  clients_stand : (at : ℕ) (insns : List Insn) → at + length insns ≤ length refs → StandAsTold sites at (clients_from at insns)
  clients_stand at [] le = tt
  clients_stand at (x ∷ insns) le =
      let front : slice_index (fronts_of sites) at ≡ at = front_alone plan base refs alone at (omega (arith, le)) in
      let own : call_place (part_of (get_or sites at None)) ≡ 0 = ap (λ (s : Option Block). call_place (part_of s)) (none_there refs alone at) ∙ place_alone in
      (omega (arith, front, own), clients_stand (at + 1) insns (omega (arith, le)))

-- ---- a method

module _ (kinds : List Bool) (plan : Plan) (good : IsGood kinds plan) (pool : List Const) (m : Method) where
  code_laid : (state : ℕ) (class : List ℕ) (number : ℕ) (entries : List Const) (code : Code) (w : WovenCode) → IsSoundMethod m → m.max_locals ≡ code.max_locals
      → code_woven plan state class number entries m code ≡ Ok w → MethodIsLaid plan pool m w.made.origins
  code_laid state class number entries code w sound locals = code_cases plan state class number entries m code (λ x. MethodIsLaid plan pool m x.made.origins) w with_them without
    where
      own : List (Option Block)
      own = sites_of plan m.max_locals m

      with_them : is_woven plan m ≡ true → (new : Code) → IsPut plan state class number entries m code new → MethodIsLaid plan pool m (origins_of (sites_of plan code.max_locals m))
      with_them some new put =
          let roomy = room_is class number code (locals_of plan m) put.0 in
          let fit = refs_fit kinds plan good m.max_locals m.refs (omega (arith, roomy.1, locals)) in
          let count : length own ≡ length m.insns = length-map m.refs (plan.block m.max_locals) ∙ sound.refs in
          let insns : spliced pool m.insns own ≡ insns_woven plan pool m = sym (ap (λ (b : Bool). if b then spliced pool m.insns own else m.insns) some) in
          let laid : MethodIsLaid plan pool m (origins_of own) =
          record { each = told_many 0 own ∙ sym (spliced_count pool m.insns own count) ∙ ap length insns; stand = all_stand own fit } in
          subst (λ (n : ℕ). MethodIsLaid plan pool m (origins_of (sites_of plan n m))) locals laid

      without : is_woven plan m ≡ false → MethodIsLaid plan pool m (clients_from 0 m.insns)
      without none =
          let alone = all_alone plan m.max_locals (good.there m.max_locals) m.refs none in
          let insns : m.insns ≡ insns_woven plan pool m = sym (ap (λ (b : Bool). if b then spliced pool m.insns own else m.insns) none) in
          record {
            each = clients_many 0 m.insns ∙ ap length insns;
            stand = clients_stand plan m.max_locals m.refs alone 0 m.insns (omega (arith, sound.refs));
          }

pub laid_out : OriginsAreLaidOut
laid_out files listing main old plan vars made linked sound good w =
    program_tells plan (MethodIsLaid plan) (λ pool m. code_laid _ plan good pool m) files listing main vars old made linked sound w
