-- The rows of a call that is granted.
use Rattle.std.proofs.Common.{◌≡◌, ℕ, ◌<◌, ◌+◌, Bool, true, false, Option, Some, None, sym, ap, inl, inr, eqb-true, ltb-true}
use Rattle.std.specs.Bool.{beq}
use Rattle.std.specs.Prelude.{◌==◌, ◌⊎◌, nat_lt, not}
use Rattle.std.specs.Option.{option_map_or}
use Rattle.std.proofs.lemmas.Bool.{and_parts, not-true}
use Rattle.insn_codec.specs.declared.shape.Heap.TheVariants as heap
use Rattle.insn_codec.specs.declared.shape.ValueKind.{ValueKind}
use Rattle.insn_codec.specs.declared.shape.Shape.{Shape}
use Rattle.insn_codec.specs.declared.shape.Shape.TheVariants as shapes
use Rattle.bytecode_model.specs.declared.program.Target.{Target}
use Rattle.cert_format.specs.declared.note.Note.TheVariants as notes
use Rattle.cert_format.specs.declared.note.Site.{Site}
use Rattle.block_logic.specs.Annotations.{holds_round}
use Rattle.block_logic.specs.Clauses.{needs}
use Rattle.block_logic.specs.Operands.{loaded, pushes_state}
use Rattle.block_logic.specs.Rows.{Given, Nothing, Row, Rules, calls_of, granted_row, returned, thrown}
use Rattle.block_logic.proofs.Owner.Rows.{Asks, gives_asks, leaves_is, one_row, where_so}

loads_is : (shape : Shape) (slot : ℕ) → loaded shape ≡ Some slot → (kind : ValueKind) × (shape ≡ shapes.Load kind slot)
loads_is (shapes.Load kind place) slot e = let same : place ≡ slot = cc in (kind, ap (shapes.Load kind) same)
loads_is shape slot e = absurd cc

pub this_slot : (o : Option ℕ) (place : ℕ) → option_map_or (λ (slot : ℕ). slot == place) o false ≡ true → o ≡ Some place
this_slot None place e = absurd cc
this_slot (Some slot) place e = ap Some (eqb-true slot place e)

module _ (rules : Rules) (site : Site) (locked : Bool) (count : ℕ) (top : Bool) (shape : Shape) (ref : Target) (r : Row) where
  -- The next argument is loaded.
  pub record LoadsNext : Type 0 where
    pub bare : top ≡ false
    pub less : count < needs rules.policy site.method
    pub kind : ValueKind
    pub is : shape ≡ shapes.Load kind (site.base + count)
    pub asks : Asks r (Given (notes.Granted site locked (count + 1) false))

  -- The lock is pushed,
  pub record PushesLock : Type 0 where
    pub locks : locked ≡ true
    pub bare : top ≡ false
    pub pushes : pushes_state shape ref ≡ true
    pub asks : Asks r (Given (notes.Granted site locked count true))

  -- and left.
  pub record LeavesLock : Type 0 where
    pub locks : locked ≡ true
    pub on : top ≡ true
    pub is : shape ≡ shapes.Heap heap.Exit
    pub asks : Asks r (Given (notes.Granted site false count false))

  -- The method is called.
  pub record CallsMethod : Type 0 where
    pub bare : top ≡ false
    pub all : count ≡ needs rules.policy site.method
    pub locks : beq locked (holds_round rules.held site.method) ≡ true
    pub calls : calls_of site shape ref ≡ true
    pub is : r ≡ record { past = returned rules site; jump = Nothing; thrown = thrown rules site }

  pub granted_cases : granted_row rules site locked count top shape ref ≡ Some r → LoadsNext ⊎ (PushesLock ⊎ (LeavesLock ⊎ CallsMethod))
  granted_cases e = elim (one_row _ _ r e) [
    | inl loading ↦
        let w = where_so _ _ r loading in
        let p = and_parts (not top) _ w.0 in
        let q = and_parts (nat_lt count (needs rules.policy site.method)) _ p.1 in
        let is = loads_is shape (site.base + count) (this_slot (loaded shape) (site.base + count) q.1) in
        inl (record {
          bare = not-true top p.0;
          less = ltb-true count (needs rules.policy site.method) q.0;
          kind = is.0;
          is = is.1;
          asks = gives_asks (notes.Granted site locked (count + 1) false) r w.1;
        })
    | inr others ↦ inr (elim (one_row _ _ r others) [
      | inl pushing ↦
          let w = where_so _ _ r pushing in
          let p = and_parts locked _ w.0 in
          let q = and_parts (not top) _ p.1 in
          inl (record { locks = p.0; bare = not-true top q.0; pushes = q.1; asks = gives_asks (notes.Granted site locked count true) r w.1 })
      | inr rest ↦ inr (elim (one_row _ _ r rest) [
        | inl leaving ↦
            let w = where_so _ _ r leaving in
            let p = and_parts locked _ w.0 in
            let q = and_parts top _ p.1 in
            inl (record { locks = p.0; on = q.0; is = leaves_is shape q.1; asks = gives_asks (notes.Granted site false count false) r w.1 })
        | inr calling ↦
            let w = where_so _ _ r calling in
            let p = and_parts (not top) _ w.0 in
            let q = and_parts (count == needs rules.policy site.method) _ p.1 in
            let u = and_parts (beq locked (holds_round rules.held site.method)) _ q.1 in
            let row : record { past = returned rules site; jump = Nothing; thrown = thrown rules site } ≡ r = cc in
            inr (record { bare = not-true top p.0; all = eqb-true count (needs rules.policy site.method) q.0; locks = u.0; calls = u.1; is = sym row })
      ])
    ])
  ]
