-- What is shared, with and without what conspec/State adds, when a step changes it.
use Rattle.std.proofs.Common.{◌≡◌, ℕ, ◌+◌, ◌<◌, Bool, true, false, List, [], ◌∷◌, ◌++◌, length, map, Option, Some, None, refl, sym, ap, ◌∙◌, arith}
use Rattle.std.specs.Prelude.{◌==◌, not, slice_set, option_map}
use Rattle.std.specs.List.{AllByRecursion}
use Rattle.std.proofs.Common.{length-append}
use Rattle.std.proofs.lemmas.List.{length-map}
use Rattle.std.proofs.lemmas.Bool.{eqb-true}
use Rattle.bytecode_model.specs.declared.program.LinkedClass.{LinkedClass}
use Rattle.bytecode_model.specs.declared.program.Program.{Program}
use Rattle.bytecode_model.specs.Classes.{classes_of}
use Rattle.bytecode_model.specs.Heads.{head_of}
use Rattle.guest_heap.specs.declared.object.Monitor.{Monitor}
use Rattle.guest_heap.specs.declared.object.Object.{Object}
use Rattle.guest_heap.specs.declared.value.Value.{Value}
use Rattle.guest_heap.specs.declared.value.Value.TheVariants as values
use Rattle.guest_frames.specs.Values.{are_one}
use Rattle.guest_model.specs.Changes.{World, with_heap, with_monitors, with_object, with_statics}
use Rattle.guest_model.specs.Monitors.{all_given_up, entered, left}
use Rattle.guest_erasing.specs.Changing.{WorldKeepsState, WorldMirrors}
use Rattle.guest_erasing.specs.Erasing.{state_object}
use Rattle.guest_erasing.specs.Mirrors.{IsClientValue}
use Rattle.guest_erasing.proofs.Alike.{Alike, alike_none, alike_some}
use Rattle.guest_erasing.proofs.Holding.{all_sifted, all_unseen, entered_sifted, entered_unseen, left_sifted, left_unseen, sifted}
use Rattle.guest_erasing.proofs.Lists.{many_set, set_dropped, set_taken}

-- The worlds mirror each other, and conspec/State is as it was.
pub record Goes (client : Program) (before world other : World) : Type 0 where
  pub mirrors : WorldMirrors client world other
  pub keeps : WorldKeepsState client before other

module _ (client : Program) where
  -- how many classes there are, the library's too
  many_classes : length (classes_of client) ≡ length client.listing.classes + length client.classes
  many_classes =
      length-append client.listing.classes (map (λ (c : LinkedClass). head_of c.file) client.classes)
      ∙ ap (λ (n : ℕ). length client.listing.classes + n) (length-map client.classes (λ (c : LinkedClass). head_of c.file))

  pub given_class : (class : ℕ) → class < length client.classes
      → IsClientValue client (values.Class (length client.listing.classes + class))
  given_class class h = let m = many_classes in omega arith

  abbrev pub of_client : Value → Bool
  of_client v = not (are_one v (state_object client))

  abbrev pub of_state : Value → Bool
  of_state v = not (of_client v)

  pub is_of_client : (v : Value) → IsClientValue client v → of_client v ≡ true
  is_of_client (values.Int n) h = refl
  is_of_client values.Null h = refl
  is_of_client (values.Ref at) h = refl
  is_of_client (values.Lit index) h = refl
  is_of_client (values.Class index) h = by (index == (length client.listing.classes + length client.classes)) refl where
    by : (b : Bool) → (index == (length client.listing.classes + length client.classes)) ≡ b → not b ≡ true
    by true e = absurd (let same : index ≡ length client.listing.classes + length client.classes = eqb-true index
        (length client.listing.classes + length client.classes) e in
        let m : length (classes_of client) ≡ length client.listing.classes + length client.classes = many_classes in
        let l : index < length (classes_of client) = h in omega arith)
    by false e = refl

  not_of_state : (v : Value) → IsClientValue client v → of_state v ≡ false
  not_of_state v h = ap not (is_of_client v h)

  all_of_client : (vs : List Value) → AllByRecursion (IsClientValue client) vs → AllByRecursion (λ (v : Value). of_client v ≡ true) vs
  all_of_client [] all = tt
  all_of_client (v ∷ vs) all = (is_of_client v all.0, all_of_client vs all.1)

  none_of_state : (vs : List Value) → AllByRecursion (IsClientValue client) vs → AllByRecursion (λ (v : Value). of_state v ≡ false) vs
  none_of_state [] all = tt
  none_of_state (v ∷ vs) all = (not_of_state v all.0, none_of_state vs all.1)

  module _ (before world other : World) (g : Goes client before world other) where
    pub with_heap_goes : (heap more : List Object) → more ≡ heap → Goes client before (with_heap world heap) (with_heap other more)
    with_heap_goes heap more same = record {
      mirrors = record { heap = same; statics = g.mirrors.statics; classes = g.mirrors.classes; monitors = g.mirrors.monitors };
      keeps = record { fields = g.keeps.fields; monitor = g.keeps.monitor };
    }

    pub with_object_goes : (object : Object) → Goes client before (with_object world object) (with_object other object)
    with_object_goes object = record {
      mirrors = record {
        heap = ap (λ (heap : List Object). heap ++ object ∷ []) g.mirrors.heap;
        statics = g.mirrors.statics;
        classes = g.mirrors.classes;
        monitors = g.mirrors.monitors;
      };
      keeps = record { fields = g.keeps.fields; monitor = g.keeps.monitor };
    }

    -- a static field of a class of the client is set
    pub with_static_goes : (class : ℕ) (fields : List Value) → class < length client.classes
        → Goes client before (with_statics world (slice_set world.statics class fields))
        (with_statics other (slice_set other.statics class fields))
    with_static_goes class fields h = record {
      mirrors = record {
        heap = g.mirrors.heap;
        statics = set_taken (length client.classes) other.statics class fields
            ∙ ap (λ (s : List (List Value)). slice_set s class fields) g.mirrors.statics;
        classes = many_set world.statics class fields ∙ g.mirrors.classes;
        monitors = g.mirrors.monitors;
      };
      keeps = record {
        fields = set_dropped (length client.classes) other.statics class fields h ∙ g.keeps.fields;
        monitor = g.keeps.monitor;
      };
    }

    -- monitors that mirror each other, where that of conspec/State is as it was
    pub record HeldAlike (held others : List Monitor) : Type 0 where
      pub theirs : sifted of_client others ≡ held
      pub states : sifted of_state others ≡ sifted of_state other.monitors

    pub held_goes : (held others : List Monitor) → HeldAlike held others
        → Goes client before (with_monitors world held) (with_monitors other others)
    held_goes held others h = record {
      mirrors = record { heap = g.mirrors.heap; statics = g.mirrors.statics; classes = g.mirrors.classes; monitors = h.theirs };
      keeps = record { fields = g.keeps.fields; monitor = h.states ∙ g.keeps.monitor };
    }

    pub same_held : HeldAlike world.monitors other.monitors
    same_held = record { theirs = g.mirrors.monitors; states = refl }

    alike_of : (o p : Option (List Monitor)) → o ≡ option_map (sifted of_client) p
        → ((held : List Monitor) → p ≡ Some held → sifted of_state held ≡ sifted of_state other.monitors)
        → Alike HeldAlike o p
    alike_of o None e states = rw e (alike_none HeldAlike None)
    alike_of o (Some held) e states =
        rw e (alike_some HeldAlike (sifted of_client held) held (record { theirs = refl; states = states held refl }))

    pub entered_alike : (thread : ℕ) (on : Value) → IsClientValue client on
        → Alike HeldAlike (entered world.monitors thread on) (entered other.monitors thread on)
    entered_alike thread on c =
        alike_of (entered world.monitors thread on) (entered other.monitors thread on)
        (ap (λ (ms : List Monitor). entered ms thread on) (sym g.mirrors.monitors)
        ∙ entered_sifted of_client thread on (is_of_client on c) other.monitors)
        (entered_unseen of_state thread on (not_of_state on c) other.monitors)

    -- Both are left, or neither is.
    pub left_is : (thread : ℕ) (on : Value) → IsClientValue client on
        → left world.monitors thread on ≡ option_map (sifted of_client) (left other.monitors thread on)
    left_is thread on c = ap (λ (ms : List Monitor). left ms thread on) (sym g.mirrors.monitors)
        ∙ left_sifted of_client thread on (is_of_client on c) other.monitors

    pub left_held : (thread : ℕ) (on : Value) → IsClientValue client on → (held : List Monitor) → left other.monitors thread on ≡ Some held
        → HeldAlike (sifted of_client held) held
    left_held thread on c held e =
        record { theirs = refl; states = left_unseen of_state thread on (not_of_state on c) other.monitors held e }

    pub given_up_alike : (thread : ℕ) (ons : List Value) → AllByRecursion (IsClientValue client) ons
        → HeldAlike (all_given_up world.monitors thread ons) (all_given_up other.monitors thread ons)
    given_up_alike thread ons all = record {
      theirs = sym (all_sifted of_client ons other.monitors thread (all_of_client ons all))
          ∙ ap (λ (ms : List Monitor). all_given_up ms thread ons) g.mirrors.monitors;
      states = all_unseen of_state ons other.monitors thread (none_of_state ons all);
    }
