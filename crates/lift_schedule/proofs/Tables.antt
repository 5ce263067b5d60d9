-- What a table of standings tells of threads is what lifting asks: which way they have still to go, and how far at most.
use Rattle.std.proofs.Common.{◌≡◌, ◌∙◌, ℕ, zero, Bool, false, List, [], length, map, Option, Some, None, refl, sym, ap, subst}
use Rattle.std.specs.Prelude.{option_and_then, option_map, slice_get}
use Rattle.std.specs.Option.{option_map_or}
use Rattle.std.proofs.lemmas.Option.{slice_get-map}
use Rattle.bytecode_model.specs.declared.program.LinkedClass.{LinkedClass}
use Rattle.bytecode_model.specs.declared.program.Method.{Method}
use Rattle.bytecode_model.specs.declared.program.Program.{Program}
use Rattle.guest_heap.specs.declared.frame.Frame.{Frame}
use Rattle.guest_model.specs.declared.machine.Machine.{Machine}
use Rattle.guest_model.specs.Places.{method_at}
use Rattle.guest_erasing.specs.Lifting.{frame_run_by, most_steps, sites_at}
use Rattle.guest_erasing.specs.Places.{Sites, is_before_call, is_inside}
use Rattle.offset_patch.specs.Splicing.{count_of}
use Rattle.lift_schedule.specs.declared.standing.Standing.{Standing}
use Rattle.lift_schedule.specs.declared.standing.Way.{Way}
use Rattle.lift_schedule.specs.declared.standing.Way.TheVariants as ways
use Rattle.lift_schedule.specs.Running.{goes}
use Rattle.lift_schedule.specs.Standing.{Table, frame_standing, method_standings, standings, table_goes, table_of, tells, thread_count}
use Rattle.lift_schedule.proofs.Places.{before_told, inside_told, many_told, seen_at}

module _ (sites_of : Method → Sites) (client woven : Program) where
  abbrev of_methods : LinkedClass → List (List Standing)
  of_methods c = map (λ (m : Method). standings (sites_of m)) c.methods

  -- the standings of the client's method of these indices
  method_told : (class method : ℕ)
      → option_and_then (λ (told : List (List Standing)). slice_get told method) (slice_get (table_of sites_of client) class)
      ≡ option_map (λ (m : Method). standings (sites_of m)) (method_at client class method)
  method_told class method =
      ap (option_and_then (λ (told : List (List Standing)). slice_get told method)) (slice_get-map of_methods client.classes class)
      ∙ by (slice_get client.classes class)
    where
      by : (o : Option LinkedClass)
          → option_and_then (λ (told : List (List Standing)). slice_get told method) (option_map of_methods o)
          ≡ option_map (λ (m : Method). standings (sites_of m)) (option_and_then (λ (c : LinkedClass). slice_get c.methods method) o)
      by None = refl
      by (Some c) = slice_get-map (λ (m : Method). standings (sites_of m)) c.methods method

  -- how a frame at the place stands, in a method with these standings or none
  abbrev stands : (Standing → Bool) → Option (List Standing) → ℕ → Bool
  stands view told at = option_map_or view (option_and_then (λ (s : List Standing). slice_get s at) told) false

  abbrev sites_in : Option Method → Sites
  sites_in o = option_map_or sites_of o []

  method_stands : (view : Standing → Bool) (Is : Sites → ℕ → Bool) → ((sites : Sites) (at : ℕ) → seen_at view sites at ≡ Is sites at)
      → (o : Option Method) (at : ℕ) → stands view (option_map (λ (m : Method). standings (sites_of m)) o) at ≡ Is (sites_in o) at
  method_stands view Is same None at = same [] at
  method_stands view Is same (Some m) at = same (sites_of m) at

  abbrev Stands : Way → (Sites → ℕ → Bool) → Type 0
  Stands way Is = (frame : Frame)
      → option_map_or (tells way) (frame_standing (table_of sites_of client) frame) false ≡ Is (sites_at sites_of client woven frame) frame.at

  stand_so : (way : Way) (Is : Sites → ℕ → Bool) → ((sites : Sites) (at : ℕ) → seen_at (tells way) sites at ≡ Is sites at) → Stands way Is
  stand_so way Is same frame =
      ap (λ (o : Option (List Standing)). stands (tells way) o frame.at) (method_told frame.class frame.method)
      ∙ method_stands (tells way) Is same (method_at client frame.class frame.method) frame.at

  thread_goes : (way : Way) (Is : Sites → ℕ → Bool) → Stands way Is → (o : Option Frame)
      → option_map_or (tells way) (option_and_then (frame_standing (table_of sites_of client)) o) false
      ≡ option_map_or (λ (f : Frame). Is (sites_at sites_of client woven f) f.at) o false
  thread_goes way Is stand None = refl
  thread_goes way Is stand (Some frame) = stand frame

  table_told : (way : Way) (machine : Machine) (number : ℕ)
      → table_goes way (table_of sites_of client) machine number ≡ goes sites_of client woven way machine number
  table_told ways.Up machine number =
      thread_goes ways.Up is_before_call (stand_so ways.Up is_before_call before_told) (frame_run_by machine number)
  table_told ways.Out machine number =
      thread_goes ways.Out is_inside (stand_so ways.Out is_inside inside_told) (frame_run_by machine number)

  pub table_tells : (way : Way) (machine : Machine) (number : ℕ) (table : Table) → table ≡ table_of sites_of client
      → table_goes way table machine number ≡ goes sites_of client woven way machine number
  table_tells way machine number table is = ap (λ (t : Table). table_goes way t machine number) is ∙ table_told way machine number

  -- ---- how many instructions

  method_count : (o : Option Method)
      → option_map_or length (option_map (λ (m : Method). standings (sites_of m)) o) zero ≡ count_of (sites_in o)
  method_count None = refl
  method_count (Some m) = many_told (sites_of m)

  thread_counts : (o : Option Frame)
      → option_map_or length (option_and_then (method_standings (table_of sites_of client)) o) zero
      ≡ option_map_or (λ (f : Frame). count_of (sites_at sites_of client woven f)) o zero
  thread_counts None = refl
  thread_counts (Some frame) =
      ap (λ (o : Option (List Standing)). option_map_or length o zero) (method_told frame.class frame.method)
      ∙ method_count (method_at client frame.class frame.method)

  pub table_counts : (machine : Machine) (number : ℕ) (table : Table) → table ≡ table_of sites_of client
      → thread_count table machine number ≡ most_steps sites_of client woven machine number
  table_counts machine number table is =
      ap (λ (t : Table). thread_count t machine number) is ∙ thread_counts (frame_run_by machine number)
