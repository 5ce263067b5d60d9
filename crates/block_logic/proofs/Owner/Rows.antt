-- What a row of the table of notes tells, where it is there.
use Rattle.std.proofs.Common.{◌≡◌, Bool, true, false, Option, Some, None, refl, sym, ap, inl, inr}
use Rattle.std.specs.Prelude.{◌⊎◌}
use Rattle.insn_codec.specs.declared.shape.Heap.TheVariants as heap
use Rattle.insn_codec.specs.declared.shape.Shape.{Shape}
use Rattle.insn_codec.specs.declared.shape.Shape.TheVariants as shapes
use Rattle.cert_format.specs.declared.note.Note.{Note}
use Rattle.block_logic.specs.Operands.{enters, leaves}
use Rattle.block_logic.specs.Rows.{Asked, Given, Open, Row, first_row, gives, leads, only_if}

pub where_so : (test : Bool) (row : Option Row) (r : Row) → only_if test row ≡ Some r → (test ≡ true) × (row ≡ Some r)
where_so true row r e = (refl, e)
where_so false row r e = absurd cc

pub one_row : (first second : Option Row) (r : Row) → first_row first second ≡ Some r → (first ≡ Some r) ⊎ (second ≡ Some r)
one_row (Some row) second r e = inl e
one_row None second r e = inr e

-- The same is asked of each instruction that may come next, and of handlers that the thread is in no block.
pub record Asks (r : Row) (asked : Asked) : Type 0 where
  pub past : r.past ≡ asked
  pub jump : r.jump ≡ asked
  pub thrown : r.thrown ≡ Open

pub leads_asks : (asked : Asked) (r : Row) → leads asked ≡ Some r → Asks r asked
leads_asks asked r e =
    let same : record { past = asked; jump = asked; thrown = Open } ≡ r = cc in
    record { past = sym (ap (λ (x : Row). x.past) same); jump = sym (ap (λ (x : Row). x.jump) same); thrown = sym (ap (λ (x : Row). x.thrown) same) }

pub gives_asks : (note : Note) (r : Row) → gives note ≡ Some r → Asks r (Given note)
gives_asks note r e = leads_asks (Given note) r e

-- ---- shapes

pub enters_is : (shape : Shape) → enters shape ≡ true → shape ≡ shapes.Heap heap.Enter
enters_is (shapes.Heap heap.Enter) e = refl
enters_is shape e = absurd cc

pub leaves_is : (shape : Shape) → leaves shape ≡ true → shape ≡ shapes.Heap heap.Exit
leaves_is (shapes.Heap heap.Exit) e = refl
leaves_is shape e = absurd cc
