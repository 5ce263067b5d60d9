-- At the start a woven program has the objects and static fields of its client, and begins the same methods.
use Rattle.std.proofs.Common.{◌≡◌, ℕ, ◌+◌, List, [], ◌∷◌, ◌++◌, length, map, take, refl, sym, ap, ap₂, subst, ◌∙◌}
use Rattle.std.specs.Prelude.{bytes_eq, option_map, ◌&&◌}
use Rattle.std.specs.List.{AllByRecursion, cons_option, enumerate_from, filter_map}
use Rattle.std.proofs.lemmas.List.{length-map}
use Rattle.std.proofs.Math.Seq.{take-append_seam}
use Rattle.bytecode_model.specs.declared.program.LinkedClass.{LinkedClass}
use Rattle.bytecode_model.specs.declared.program.Method.{Method}
use Rattle.bytecode_model.specs.declared.program.Program.{Program}
use Rattle.bytecode_model.specs.Heads.{initialiser, takes_nothing}
use Rattle.guest_heap.specs.declared.value.Value.{Value}
use Rattle.guest_model.specs.Changes.{rests}
use Rattle.guest_model.specs.Finding.{Given, declared_in}
use Rattle.guest_model.specs.Layout.{starting_value, statics_of}
use Rattle.guest_model.specs.Runs.{first_heap, initialiser_of, initialisers}
use Rattle.guest_erasing.specs.Adding.{AddsState, ClassIsLaid}
use Rattle.guest_erasing.specs.Laid.{IsLaid, TellAlike}
use Rattle.guest_erasing.specs.Mirrors.{AreAlike, CanBegin, ThreadMirrors}
use Rattle.guest_erasing.specs.Places.{Sites}
use Rattle.guest_erasing.specs.Starting.{StartsMirror, StartsWith, begun_by}
use Rattle.guest_erasing.proofs.Beginning.{rests_alike}
use Rattle.guest_erasing.proofs.Pairs.{alike_place}

module _ (sites_of : Method → Sites) where
  -- ---- initialisers

  declared_same : (old new : LinkedClass) → ClassIsLaid sites_of old new
      → declared_in initialiser takes_nothing new ≡ declared_in initialiser takes_nothing old
  declared_same old new laid =
      alike_place (λ (m n : Method). IsLaid (sites_of m) m n) _ _
      (λ m n h. ap₂ (λ (name desc : List ℕ). bytes_eq name initialiser && bytes_eq desc takes_nothing) h.name h.desc)
      0 old.methods new.methods laid.methods

  initialisers_from : (state : LinkedClass) → state.methods ≡ [] → (from : ℕ) (olds news : List LinkedClass)
      → AreAlike (ClassIsLaid sites_of) olds news
      → filter_map initialiser_of (enumerate_from from (news ++ state ∷ [])) ≡ filter_map initialiser_of (enumerate_from from olds)
  initialisers_from state none from [] [] are = rw none refl
  initialisers_from state none from [] (new ∷ news) are = absurd are
  initialisers_from state none from (old ∷ olds) [] are = absurd are
  initialisers_from state none from (old ∷ olds) (new ∷ news) are =
      ap₂ cons_option (ap (option_map (λ (method : ℕ). (from, method))) (declared_same old new are.0))
      (initialisers_from state none (from + 1) olds news are.1)

  module _ (client woven : Program) (adds : AddsState sites_of client woven) (tell : TellAlike sites_of client woven) where
    begun_same : begun_by woven ≡ begun_by client
    begun_same =
        let all : initialisers woven ≡ initialisers client =
        ap (λ (cs : List LinkedClass). filter_map initialiser_of (enumerate_from 0 cs)) adds.classes
        ∙ initialisers_from adds.state adds.is_state.no_methods 0 client.classes adds.others adds.alike in
        ap (λ (gs : List Given). gs ++ (woven.main_class, woven.main_method) ∷ []) all
        ∙ ap₂ (λ (class method : ℕ). initialisers client ++ (class, method) ∷ []) tell.main_class tell.main_method

    threads_start : AllByRecursion (CanBegin client) (begun_by client)
        → ThreadMirrors sites_of client woven (rests client (begun_by client)) (rests woven (begun_by woven))
    threads_start begins =
        subst (λ (to_begin : List Given). ThreadMirrors sites_of client woven (rests client (begun_by client)) (rests woven to_begin))
        (sym begun_same)
        (rests_alike sites_of client woven tell (begun_by client) begins)

    heap_start : first_heap woven ≡ first_heap client
    heap_start = rw tell.listing refl

    -- ---- static fields

    statics_many : length (statics_of client) ≡ length client.classes
    statics_many = length-map client.classes (λ (c : LinkedClass). map (starting_value client c.file) c.file.fields)

    statics_start : StartsWith client woven → take (length client.classes) (statics_of woven) ≡ statics_of client
    statics_start starts =
        ap (λ (all : List (List Value)). take (length client.classes) all) starts.statics
        ∙ ap (λ (n : ℕ). take n (statics_of client ++ starts.told ∷ [])) (sym statics_many)
        ∙ take-append_seam (statics_of client) (starts.told ∷ [])

pub starts_mirror : StartsMirror
starts_mirror sites_of client woven adds tell starts begins = record {
  heap = heap_start sites_of client woven adds tell;
  statics = statics_start sites_of client woven adds tell starts;
  classes = statics_many sites_of client woven adds tell;
  monitors = refl;
  threads = (threads_start sites_of client woven adds tell begins, tt);
  stopped = refl;
}
