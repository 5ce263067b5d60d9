-- Calls run the same methods of the client in both programs, and what they pass fits the locals.
use Rattle.std.proofs.Common.{◌≡◌, ℕ, zero, suc, ◌+◌, ◌≤◌, Bool, true, false, cond, List, [], ◌∷◌, length, Option, Some, None, refl, sym, ap, ◌∙◌, subst, ◌⊎◌, inl, inr, arith}
use Rattle.std.specs.Prelude.{bytes_eq, nat_lt, not, ◌&&◌, slice_get, option_map, option_and_then}
use Rattle.std.specs.List.{position_from}
use Rattle.std.specs.Option.{option_or}
use Rattle.std.proofs.lemmas.Bool.{and_parts, false≢true}
use Rattle.std.proofs.lemmas.Option.{cond_some}
use Rattle.insn_codec.specs.declared.shape.How.{How}
use Rattle.insn_codec.specs.declared.shape.How.TheVariants as hows
use Rattle.bytecode_model.specs.declared.program.LinkedClass.{LinkedClass}
use Rattle.bytecode_model.specs.declared.program.Method.{Method}
use Rattle.bytecode_model.specs.declared.program.Program.{Program}
use Rattle.bytecode_model.specs.Heads.{is_static, maker}
use Rattle.bytecode_model.specs.InsnPlace.{has_receiver}
use Rattle.bytecode_model.specs.SearchOrder.{Name}
use Rattle.bytecode_model.proofs.Upwards.{same_of}
use Rattle.guest_model.specs.Calls.{arity}
use Rattle.guest_model.specs.Finding.{Given, declared_in, declared_up, given_index, if_run, is_above, is_run_by_objects, method_itself, method_of_class, method_run, nearest_given}
use Rattle.guest_model.specs.Places.{method_at}
use Rattle.guest_model.proofs.Options.{and_then_of, map_of, some_is}
use Rattle.guest_erasing.specs.Laid.{HasCounterpart, IsClientName, TellAlike, parent_at}
use Rattle.guest_erasing.specs.Mirrors.{taken_locals}
use Rattle.guest_erasing.specs.Places.{Sites}
use Rattle.guest_erasing.specs.Steps.{AreRoomy}
use Rattle.guest_erasing.proofs.Beginning.{class_within}

-- an item at the place, of which the test holds
record FoundAt {A : Type 0} (p : A → Bool) (xs : List A) (from i : ℕ) : Type 0 where
  at : ℕ
  place : i ≡ from + at
  item : A
  there : slice_get xs at ≡ Some item
  passes : p item ≡ true

position_found : {A : Type 0} (p : A → Bool) (from : ℕ) (xs : List A) (i : ℕ) → position_from p from xs ≡ Some i → FoundAt p xs from i
position_found p from [] i e = absurd cc
position_found {A = A} p from (x ∷ xs) i e = by (p x) refl e (position_found p (from + 1) xs i) where
  by : (b : Bool) → p x ≡ b → cond b (Some from) (position_from p (from + 1) xs) ≡ Some i
      → (position_from p (from + 1) xs ≡ Some i → FoundAt p xs (from + 1) i) → FoundAt p (x ∷ xs) from i
  by true is h later =
      let same : from ≡ i = some_is from i h in
      record { at = 0; place = omega (arith, same); item = x; there = refl; passes = is }
  by false fails h later =
      let f = later h in
      record { at = suc f.at; place = omega (arith, f.place); item = f.item; there = f.there; passes = f.passes }

-- one of the two
either_or : {A : Type 0} (o q : Option A) (x : A) → option_or o q ≡ Some x → (o ≡ Some x) ⊎ (q ≡ Some x)
either_or None q x e = inr e
either_or (Some y) q x e = inl e

-- ---- what is found is there

module _ (program : Program) where
  pub record Declared (name desc : Name) (to : Given) : Type 0 where
    pub method : Method
    pub there : method_at program to.0 to.1 ≡ Some method
    pub named : method.name ≡ name
    pub described : method.desc ≡ desc

  declared_here : (name desc : Name) (index : ℕ) (of : LinkedClass) (to : Given) → slice_get program.classes index ≡ Some of
      → option_map (λ (method : ℕ). (index, method)) (declared_in name desc of) ≡ Some to → Declared name desc to
  declared_here name desc index of to there e =
      let m = map_of (λ (method : ℕ). (index, method)) (declared_in name desc of) to e in
      let f = position_found (λ (m : Method). bytes_eq m.name name && bytes_eq m.desc desc) 0 of.methods m.0 m.1 in
      let same : f.at ≡ m.0 = omega (arith, f.place) in
      let a = and_parts (bytes_eq f.item.name name) (bytes_eq f.item.desc desc) f.passes in
      let here : slice_get of.methods m.0 ≡ Some f.item = ap (slice_get of.methods) (sym same) ∙ f.there in
      let found : method_at program index m.0 ≡ Some f.item = rw there here in
      record {
        method = f.item;
        there = subst (λ (t : Given). method_at program t.0 t.1 ≡ Some f.item) m.2 found;
        named = same_of f.item.name name a.0;
        described = same_of f.item.desc desc a.1;
      }

  declared_found : (n : ℕ) (name desc class : Name) (to : Given) → declared_up n program name desc class ≡ Some to → Declared name desc to
  declared_found zero name desc class to e = absurd cc
  declared_found (suc n) name desc class to e =
      let next : ℕ → LinkedClass → Option Given =
      λ index of. option_or (option_map (λ (method : ℕ). (index, method)) (declared_in name desc of))
      (declared_up n program name desc of.parent) in
      let a = and_then_of (λ (index : ℕ). option_and_then (next index) (slice_get program.classes index))
      (given_index program class) to e in
      let b = and_then_of (next a.0) (slice_get program.classes a.0) to a.2 in
      by a.0 b.0 b.1 (either_or _ (declared_up n program name desc b.0.parent) to b.2) (declared_found n name desc b.0.parent to) where
        by : (index : ℕ) (of : LinkedClass) → slice_get program.classes index ≡ Some of
            → (option_map (λ (method : ℕ). (index, method)) (declared_in name desc of) ≡ Some to)
            ⊎ (declared_up n program name desc of.parent ≡ Some to)
            → (declared_up n program name desc of.parent ≡ Some to → Declared name desc to) → Declared name desc to
        by index of there (inl h) later = declared_here name desc index of to there h
        by index of there (inr h) later = later h

  pub nearest_found : (name desc class : Name) (to : Given) → nearest_given program name desc class ≡ Some to → Declared name desc to
  nearest_found name desc class to e = declared_found (length program.classes) name desc class to e

  if_run_is : (found : Option Given) (to : Given) → if_run program found ≡ Some to
      → (found ≡ Some to) × (is_run_by_objects program to ≡ true)
  if_run_is None to e = absurd cc
  if_run_is (Some t) to e =
      let c = cond_some (is_run_by_objects program t) t to e in
      (ap Some c.1, subst (λ (x : Given). is_run_by_objects program x ≡ true) c.1 c.0)

module _ (sites_of : Method → Sites) (client woven : Program) (tell : TellAlike sites_of client woven) (roomy : AreRoomy client) where
  runs_alike : (to : Given) (method : Method) → method_at client to.0 to.1 ≡ Some method
      → is_run_by_objects woven to ≡ is_run_by_objects client to
  runs_alike to method there =
      let new = tell.methods to.0 to.1 method there in
      rw (there, new.there, new.laid.flags, new.laid.code) refl

  if_run_alike : (found : Option Given) → ((to : Given) → found ≡ Some to → (m : Method) × (method_at client to.0 to.1 ≡ Some m))
      → if_run woven found ≡ if_run client found
  if_run_alike None f = refl
  if_run_alike (Some to) f = let h = f to refl in ap (λ (b : Bool). cond b (Some to) None) (runs_alike to h.0 h.1)

  nearest_there : (name desc class : Name) (to : Given) → nearest_given client name desc class ≡ Some to
      → (m : Method) × (method_at client to.0 to.1 ≡ Some m)
  nearest_there name desc class to e = let d = nearest_found client name desc class to e in (d.method, d.there)

  pub class_method_alike : (name desc class : Name) → IsClientName class
      → method_of_class woven name desc class ≡ method_of_class client name desc class
  class_method_alike name desc class own =
      ap (if_run woven) (tell.nearest name desc class own)
      ∙ if_run_alike (nearest_given client name desc class) (nearest_there name desc class)

  -- an object runs it, with a receiver and what such a call passes
  pub record Runs (desc : Name) (to : Given) : Type 0 where
    pub method : Method
    pub there : method_at client to.0 to.1 ≡ Some method
    pub room : arity desc + 1 ≤ method.max_locals

  room_of : (to : Given) (method : Method) → method_at client to.0 to.1 ≡ Some method → is_run_by_objects client to ≡ true
      → arity method.desc + 1 ≤ method.max_locals
  room_of to method there e =
      by (and_parts (not (is_static method.flags)) (nat_lt 0 (length method.insns)) (rw there at e))
      (roomy.methods to.0 to.1 method there).arguments where
        by : (not (is_static method.flags) ≡ true) × (nat_lt 0 (length method.insns) ≡ true)
            → (method.insns ≡ []) ⊎ (taken_locals method ≤ method.max_locals)
            → arity method.desc + 1 ≤ method.max_locals
        by a (inl none) = absurd (false≢true (ap (λ (xs : List _). nat_lt 0 (length xs)) (sym none) ∙ a.1))
        by a (inr h) = instance (is_static method.flags) a.0 h where
          instance : (b : Bool) → not b ≡ true → cond b (arity method.desc) (arity method.desc + 1) ≤ method.max_locals
              → arity method.desc + 1 ≤ method.max_locals
          instance true e k = absurd cc
          instance false e k = k

  runs_of : (desc : Name) (to : Given) (method : Method) → method_at client to.0 to.1 ≡ Some method → method.desc ≡ desc
      → is_run_by_objects client to ≡ true → Runs desc to
  runs_of desc to method there described e = record {
    method = method;
    there = there;
    room = subst (λ (d : Name). arity d + 1 ≤ method.max_locals) described (room_of to method there e);
  }

  pub class_method_runs : (name desc class : Name) (to : Given) → method_of_class client name desc class ≡ Some to → Runs desc to
  class_method_runs name desc class to e =
      let i = if_run_is client (nearest_given client name desc class) to e in
      let d = nearest_found client name desc class to i.0 in
      runs_of desc to d.method d.there d.described i.1

  -- ---- from the code of a class of the client

  module _ (own : ℕ) (index : ℕ) (mine : Method) (standing : method_at client own index ≡ Some mine)
      (to : Given) (method : Method) (there : method_at client to.0 to.1 ≡ Some method)
      (new : HasCounterpart sites_of woven to.0 to.1 method) where
    -- the superclass of the class whose code calls
    above_of : (program : Program) (m : Method) → method_at program own index ≡ Some m
        → option_and_then (λ (c : LinkedClass). nearest_given program method.name method.desc c.parent) (slice_get program.classes own)
        ≡ nearest_given program method.name method.desc (parent_at program own)
    above_of program m e =
        let a = and_then_of (λ (c : LinkedClass). slice_get c.methods index) (slice_get program.classes own) m e in
        rw a.1 refl

    up_alike : option_and_then (λ (c : LinkedClass). nearest_given woven method.name method.desc c.parent) (slice_get woven.classes own)
        ≡ option_and_then (λ (c : LinkedClass). nearest_given client method.name method.desc c.parent) (slice_get client.classes own)
    up_alike =
        let its = tell.methods own index mine standing in
        above_of woven its.new its.there
        ∙ ap (nearest_given woven method.name method.desc) (tell.parents own (class_within client own index mine standing))
        ∙ tell.nearest method.name method.desc (parent_at client own) (tell.parent_names own)
        ∙ sym (above_of client mine standing)

    itself_by : (b : Bool) → cond b
        (option_and_then (λ (c : LinkedClass). nearest_given woven method.name method.desc c.parent) (slice_get woven.classes own))
        (Some to)
        ≡ cond b (option_and_then (λ (c : LinkedClass). nearest_given client method.name method.desc c.parent)
        (slice_get client.classes own)) (Some to)
    itself_by true = up_alike
    itself_by false = refl

    itself_alike : method_itself woven own to new.new ≡ method_itself client own to method
    itself_alike =
        let name : new.new.name ≡ method.name = new.laid.name in
        let desc : new.new.desc ≡ method.desc = new.laid.desc in
        let up : is_above woven to.0 own ≡ is_above client to.0 own =
        tell.above to.0 own (class_within client to.0 to.1 method there) (class_within client own index mine standing) in
        rw (name, desc, up) (itself_by (not (bytes_eq method.name maker) && is_above client to.0 own))

    -- what is called itself is there
    itself_there : (found : Given) → method_itself client own to method ≡ Some found
        → (m : Method) × (method_at client found.0 found.1 ≡ Some m) × (m.desc ≡ method.desc)
    itself_there found e = by (not (bytes_eq method.name maker) && is_above client to.0 own) e where
      by : (b : Bool) → cond b
          (option_and_then (λ (c : LinkedClass). nearest_given client method.name method.desc c.parent) (slice_get client.classes own))
          (Some to) ≡ Some found
          → (m : Method) × (method_at client found.0 found.1 ≡ Some m) × (m.desc ≡ method.desc)
      by true h =
          let d = nearest_found client method.name method.desc (parent_at client own) found (sym (above_of client mine standing) ∙ h) in
          (d.method, d.there, d.described)
      by false h = (method, subst (λ (t : Given). method_at client t.0 t.1 ≡ Some method) (some_is to found h) there, refl)

    pub run_alike : (how : How) (class : Name) → IsClientName class
        → method_run woven own how to new.new class ≡ method_run client own how to method class
    run_alike hows.Virtual class ours = rw (new.laid.name, new.laid.desc) (class_method_alike method.name method.desc class ours)
    run_alike hows.Interface class ours = rw (new.laid.name, new.laid.desc) (class_method_alike method.name method.desc class ours)
    run_alike hows.Special class ours =
        ap (if_run woven) itself_alike ∙ if_run_alike (method_itself client own to method) (λ t e. let h = itself_there t e in (h.0, h.1))
    run_alike hows.Static class ours = refl

    pub run_runs : (how : How) (class : Name) (found : Given) → has_receiver how ≡ true
        → method_run client own how to method class ≡ Some found → Runs method.desc found
    run_runs hows.Virtual class found h e = class_method_runs method.name method.desc class found e
    run_runs hows.Interface class found h e = class_method_runs method.name method.desc class found e
    run_runs hows.Special class found h e =
        let i = if_run_is client (method_itself client own to method) found e in
        let t = itself_there found i.0 in
        runs_of method.desc found t.0 t.1 t.2 i.1
    run_runs hows.Static class found h e = absurd cc
