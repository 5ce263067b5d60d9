-- What a shape does to types it does to values of these types.
use Rattle.std.proofs.Common.{◌≡◌, ℕ, Bool, cond, List, ◌∷◌, ◌++◌, length, drop, Option, Some, None, refl, subst}
use Rattle.std.specs.Prelude.{IsTrue, slice_get, slice_set, option_map, option_and_then, nat_lt, nat_le}
use Rattle.std.specs.List.{filter_map}
use Rattle.std.proofs.lemmas.Option.{cond_some}
use Rattle.insn_codec.specs.declared.forms.StackForm.{StackForm}
use Rattle.insn_codec.specs.declared.shape.ValueKind.{ValueKind}
use Rattle.insn_codec.specs.declared.shape.ValueKind.TheVariants as kinds
use Rattle.insn_codec.specs.declared.shape.Shape.{Shape}
use Rattle.insn_codec.specs.declared.shape.Shape.TheVariants as shapes
use Rattle.insn_codec.specs.declared.shape.Two.TheVariants as two
use Rattle.insn_codec.specs.Effect.{Domain, Moved, of_kind, operand, local, with_local, moved_by, without_one, without_two, made_reference, effect}
use Rattle.insn_codec.specs.Forms.{depth_of, order_of}
use Rattle.insn_codec.specs.Following.{Paired, Respects, Follows}
use Rattle.insn_codec.proofs.Pairs.{and_then_of, map_of, length_paired, get_paired, drop_paired, set_paired, append_paired, picked_paired}

module _ {V T : Type 0} (d : Domain V) (e : Domain T) (of : V → T → Bool) (respects : Respects d e of) where
  -- a value of a type that is of the kind, at the place where the type stands
  pub record At (values : Option V) (kind : ValueKind) (t : T) : Type 0 where
    pub value : V
    pub there : values ≡ Some value
    pub is : IsTrue (of value t)
    pub fits : IsTrue (e.fits kind t)

  kind_follows : (kind : ValueKind) (vs : List V) (ts : List T) (i : ℕ) (t : T) → Paired of vs ts → option_and_then (of_kind e kind) (slice_get ts i) ≡ Some t
      → At (option_and_then (of_kind d kind) (slice_get vs i)) kind t
  kind_follows kind vs ts i t p h =
      let a = and_then_of (of_kind e kind) (slice_get ts i) t h in
      let c = cond_some (e.fits kind a.0) a.0 t a.2 in
      let g = get_paired of vs ts i a.0 p a.1 in
      let good : IsTrue (d.fits kind g.0) = respects.kind kind g.0 a.0 g.2 c.0 in
      record {
        value = g.0;
        there = rw (g.1, good) refl;
        is = subst (λ (x : T). IsTrue (of g.0 x)) c.1 g.2;
        fits = subst (λ (x : T). IsTrue (e.fits kind x)) c.1 c.0;
      }

  set_follows : (vs : List V) (ts after : List T) (slot : ℕ) (v : V) (t : T) → Paired of vs ts → IsTrue (of v t) → with_local slot t ts ≡ Some after
      → (set : List V) × (with_local slot v vs ≡ Some set) × Paired of set after
  set_follows vs ts after slot v t p h s =
      let c = cond_some (nat_lt slot (length ts)) (slice_set ts slot t) after s in
      (slice_set vs slot v, rw (length_paired of vs ts p, c.0) refl, subst (λ (a : List T). Paired of (slice_set vs slot v) a) c.1 (set_paired of vs ts slot v t h p))

  move_follows : (form : StackForm) (vs : List V) (ts after : List T) → Paired of vs ts → moved_by form ts ≡ Some after
      → (moved : List V) × (moved_by form vs ≡ Some moved) × Paired of moved after
  move_follows form vs ts after p s =
      let c = cond_some (nat_le (depth_of form) (length ts)) (filter_map (slice_get ts) (order_of form) ++ drop (depth_of form) ts) after s in
      let moved : List V = filter_map (slice_get vs) (order_of form) ++ drop (depth_of form) vs in (
        moved,
        rw (length_paired of vs ts p, c.0) refl,
        subst (λ (a : List T). Paired of moved a) c.1
            (append_paired of _ (drop (depth_of form) vs) _ (drop (depth_of form) ts) (picked_paired of vs ts (order_of form) p) (drop_paired of (depth_of form) vs ts p)),
      )

  made_follows : (i : ℕ) (vs : List V) (ts : List T) (t : T) → Paired of vs ts → made_reference e i ts ≡ Some t
      → (v : V) × (made_reference d i vs ≡ Some v)
  made_follows i vs ts t p h =
      let a = and_then_of (λ (x : T). cond (e.made x) (Some x) None) (operand e kinds.Reference i ts) t h in
      let c = cond_some (e.made a.0) a.0 t a.2 in
      let g = kind_follows kinds.Reference vs ts i a.0 p a.1 in
      let good : IsTrue (d.made g.value) = respects.whole g.value a.0 g.is c.0 in
      (g.value, rw (g.there, good) refl)

  -- what is left of the operands
  abbrev pub Left : (values : Option (List V)) (after : List T) → Type 0
  Left values after = (left : List V) × (values ≡ Some left) × Paired of left after

  one_follows : (kind : ValueKind) (vs : List V) (ts after : List T) → Paired of vs ts → without_one e kind ts ≡ Some after → Left (without_one d kind vs) after
  one_follows kind vs ts after p h =
      let m = map_of (λ (v : T). drop 1 ts) (operand e kind 0 ts) after h in
      let g = kind_follows kind vs ts 0 m.0 p m.1 in
      (drop 1 vs, rw g.there refl, subst (λ (a : List T). Paired of (drop 1 vs) a) m.2 (drop_paired of 1 vs ts p))

  two_follow : (kind : ValueKind) (vs : List V) (ts after : List T) → Paired of vs ts → without_two e kind ts ≡ Some after → Left (without_two d kind vs) after
  two_follow kind vs ts after p h =
      let a = and_then_of (λ (v : T). option_map (λ (w : T). drop 2 ts) (operand e kind 1 ts)) (operand e kind 0 ts) after h in
      let m = map_of (λ (w : T). drop 2 ts) (operand e kind 1 ts) after a.2 in
      let g = kind_follows kind vs ts 0 a.0 p a.1 in
      let k = kind_follows kind vs ts 1 m.0 p m.1 in
      (drop 2 vs, rw (g.there, k.there) refl, subst (λ (a : List T). Paired of (drop 2 vs) a) m.2 (drop_paired of 2 vs ts p))

  -- what a shape made of the values
  abbrev pub Made : Option (Moved V) → Moved T → Type 0
  Made values after = (moved : Moved V) × (values ≡ Some moved) × Paired of moved.0 after.0 × Paired of moved.1 after.1

  made : (moved : Moved V) (values : Option (Moved V)) (types after : Moved T) → values ≡ Some moved → types ≡ after → Paired of moved.0 types.0 → Paired of moved.1 types.1 → Made values after
  made moved values types after is same locals stack =
      let both : Paired of moved.0 after.0 × Paired of moved.1 after.1 = subst (λ (a : Moved T). Paired of moved.0 a.0 × Paired of moved.1 a.1) same (locals, stack) in
      (moved, is, both.0, both.1)

  some_moved : (x y : Moved T) → ◌≡◌ {A = Option (Moved T)} (Some x) (Some y) → x ≡ y
  some_moved x y h = cc

  module _ (ls s : List V) (tls ts : List T) (after : Moved T) (pl : Paired of ls tls) (ps : Paired of s ts) where
    jump_follows : (o : Option (List V)) (q : Option (List T)) → option_map (λ (left : List T). (tls, left)) q ≡ Some after
        → ((a : List T) → q ≡ Some a → Left o a) → Made (option_map (λ (left : List V). (ls, left)) o) after
    jump_follows o q h next =
        let m = map_of (λ (left : List T). (tls, left)) q after h in
        let l = next m.0 m.1 in
        made (ls, l.0) _ (tls, m.0) after (rw l.1 refl) m.2 pl l.2

    pub by_shape : (shape : Shape) → effect e shape tls ts ≡ Some after → Made (effect d shape ls s) after
    by_shape shapes.Nothing h = made (ls, s) _ (tls, ts) after refl (some_moved (tls, ts) after h) pl ps
    by_shape (shapes.Push n) h = made (ls, d.int n ∷ s) _ (tls, e.int n ∷ ts) after refl (some_moved (tls, e.int n ∷ ts) after h) pl (respects.number n, ps)
    by_shape shapes.PushNull h = made (ls, d.null ∷ s) _ (tls, e.null ∷ ts) after refl (some_moved (tls, e.null ∷ ts) after h) pl (respects.none, ps)
    by_shape (shapes.Load kind slot) h =
        let m = map_of (λ (v : T). (tls, v ∷ ts)) (local e kind slot tls) after h in
        let g = kind_follows kind ls tls slot m.0 pl m.1 in
        made (ls, g.value ∷ s) _ (tls, m.0 ∷ ts) after (rw g.there refl) m.2 pl (g.is, ps)
    by_shape (shapes.Store kind slot) h =
        let a = and_then_of (λ (v : T). option_map (λ (set : List T). (set, drop 1 ts)) (with_local slot v tls)) (operand e kind 0 ts) after h in
        let m = map_of (λ (set : List T). (set, drop 1 ts)) (with_local slot a.0 tls) after a.2 in
        let g = kind_follows kind s ts 0 a.0 ps a.1 in
        let l = set_follows ls tls m.0 slot g.value a.0 pl g.is m.1 in
        made (l.0, drop 1 s) _ (m.0, drop 1 ts) after (rw (g.there, l.1) refl) m.2 l.2 (drop_paired of 1 s ts ps)
    by_shape (shapes.Move form) h =
        let m = map_of (λ (moved : List T). (tls, moved)) (moved_by form ts) after h in
        let l = move_follows form s ts m.0 ps m.1 in
        made (ls, l.0) _ (tls, m.0) after (rw l.1 refl) m.2 pl l.2
    by_shape (shapes.Two op) h =
        let a = and_then_of (λ (y : T). option_map (λ (x : T). (tls, e.two op x y ∷ drop 2 ts)) (operand e kinds.Int 1 ts)) (operand e kinds.Int 0 ts) after h in
        let m = map_of (λ (x : T). (tls, e.two op x a.0 ∷ drop 2 ts)) (operand e kinds.Int 1 ts) after a.2 in
        let y = kind_follows kinds.Int s ts 0 a.0 ps a.1 in
        let x = kind_follows kinds.Int s ts 1 m.0 ps m.1 in
        made (ls, d.two op x.value y.value ∷ drop 2 s) _ (tls, e.two op m.0 a.0 ∷ drop 2 ts) after (rw (y.there, x.there) refl) m.2 pl
        (respects.from_two op x.value y.value m.0 a.0 x.is y.is x.fits y.fits, drop_paired of 2 s ts ps)
    by_shape (shapes.One op) h =
        let m = map_of (λ (x : T). (tls, e.one op x ∷ drop 1 ts)) (operand e kinds.Int 0 ts) after h in
        let x = kind_follows kinds.Int s ts 0 m.0 ps m.1 in
        made (ls, d.one op x.value ∷ drop 1 s) _ (tls, e.one op m.0 ∷ drop 1 ts) after (rw x.there refl) m.2 pl (respects.from_one op x.value m.0 x.is x.fits, drop_paired of 1 s ts ps)
    by_shape (shapes.Increment slot by) h =
        let a = and_then_of (λ (x : T). option_map (λ (set : List T). (set, ts)) (with_local slot (e.two two.Add x (e.int by)) tls)) (local e kinds.Int slot tls) after h in
        let m = map_of (λ (set : List T). (set, ts)) (with_local slot (e.two two.Add a.0 (e.int by)) tls) after a.2 in
        let x = kind_follows kinds.Int ls tls slot a.0 pl a.1 in
        let l = set_follows ls tls m.0 slot (d.two two.Add x.value (d.int by)) (e.two two.Add a.0 (e.int by)) pl
        (respects.from_two two.Add x.value (d.int by) a.0 (e.int by) x.is (respects.number by) x.fits (respects.fits_number by)) m.1 in
        made (l.0, s) _ (m.0, ts) after (rw (x.there, l.1) refl) m.2 l.2 ps
    by_shape (shapes.Test relation to) h = jump_follows (without_one d kinds.Int s) (without_one e kinds.Int ts) h (λ a q. one_follows kinds.Int s ts a ps q)
    by_shape (shapes.Compare relation to) h = jump_follows (without_two d kinds.Int s) (without_two e kinds.Int ts) h (λ a q. two_follow kinds.Int s ts a ps q)
    by_shape (shapes.CompareReferences same to) h =
        let a = and_then_of (λ (y : T). option_map (λ (x : T). (tls, drop 2 ts)) (made_reference e 1 ts)) (made_reference e 0 ts) after h in
        let m = map_of (λ (x : T). (tls, drop 2 ts)) (made_reference e 1 ts) after a.2 in
        let y = made_follows 0 s ts a.0 ps a.1 in
        let x = made_follows 1 s ts m.0 ps m.1 in
        made (ls, drop 2 s) _ (tls, drop 2 ts) after (rw (y.1, x.1) refl) m.2 pl (drop_paired of 2 s ts ps)
    by_shape (shapes.TestNull null to) h =
        let m = map_of (λ (x : T). (tls, drop 1 ts)) (made_reference e 0 ts) after h in
        let x = made_follows 0 s ts m.0 ps m.1 in
        made (ls, drop 1 s) _ (tls, drop 1 ts) after (rw x.1 refl) m.2 pl (drop_paired of 1 s ts ps)
    by_shape (shapes.Goto to) h = made (ls, s) _ (tls, ts) after refl (some_moved (tls, ts) after h) pl ps
    by_shape shapes.Switch h = jump_follows (without_one d kinds.Int s) (without_one e kinds.Int ts) h (λ a q. one_follows kinds.Int s ts a ps q)
    by_shape (shapes.Heap what) h = absurd cc

  pub follows : Follows d e of
  follows shape ls s tls ts after pl ps h = by_shape ls s tls ts after pl ps shape h
