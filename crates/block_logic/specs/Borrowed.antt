-- What the code tells of terms, notes and rows without building them, and what each is. (docs/CERTIFICATES.md)
use Rattle.std.specs.Prelude.{List, [], ◌∷◌, ◌++◌, false, if◌then◌else◌, slice_set}
use Rattle.cert_format.specs.declared.note.Note.{Note}
use Rattle.cert_format.specs.declared.note.Note.TheVariants as notes
use Rattle.cert_format.specs.declared.note.Term.{Term}
use Rattle.cert_format.specs.declared.note.Term.TheVariants as terms
use Rattle.block_logic.specs.declared.borrowed.AskedRef.{AskedRef}
use Rattle.block_logic.specs.declared.borrowed.AskedRef.TheVariants as asked
use Rattle.block_logic.specs.declared.borrowed.CheckRef.{CheckRef}
use Rattle.block_logic.specs.declared.borrowed.HeldRef.{HeldRef}
use Rattle.block_logic.specs.declared.borrowed.NoteRef.{NoteRef}
use Rattle.block_logic.specs.declared.borrowed.NoteRef.TheVariants as borrowed
use Rattle.block_logic.specs.declared.borrowed.DueRef.{DueRef}
use Rattle.block_logic.specs.declared.borrowed.DueRef.TheVariants as due
use Rattle.block_logic.specs.declared.borrowed.RowRef.{RowRef}
use Rattle.block_logic.specs.declared.borrowed.RowRef.TheVariants as rows
use Rattle.block_logic.specs.declared.borrowed.TermsRef.{TermsRef}
use Rattle.block_logic.specs.declared.borrowed.TermsRef.TheVariants as lists
use Rattle.block_logic.specs.declared.borrowed.WideTerm.{WideTerm}
use Rattle.block_logic.specs.declared.borrowed.WideTerm.TheVariants as wide
use Rattle.block_logic.specs.Rows.{Asked, Check, Given, Nothing, Open, Row, Taking, failing, holding_on}
use Rattle.block_logic.specs.Terms.{after_updates}

-- ---- terms

abbrev pub term_borrowed : WideTerm → Term
term_borrowed (wide.Const n) = terms.Const n
term_borrowed (wide.Var var) = terms.Var var
term_borrowed (wide.VarAdd var n) = terms.VarAdd var n
term_borrowed (wide.Arg i) = terms.Arg i
term_borrowed wide.Result = terms.Result
term_borrowed wide.Lock = terms.Lock

abbrev pub terms_borrowed : TermsRef → List Term
terms_borrowed (lists.Told told) = told.now
terms_borrowed (lists.Pushed below top) = below.now ++ term_borrowed top ∷ []
terms_borrowed (lists.Written map var term) = slice_set map.now var (term_borrowed term)
terms_borrowed (lists.After policy updates) = after_updates policy.now updates.now

-- ---- notes

abbrev pub held_borrowed : HeldRef → Note
held_borrowed h = notes.Held h.site h.failed h.holding (terms_borrowed h.terms) (terms_borrowed h.map)

abbrev pub note_borrowed : NoteRef → Note
note_borrowed (borrowed.Held held) = held_borrowed held
note_borrowed (borrowed.Granted site locked loaded top) = notes.Granted site locked loaded top
note_borrowed (borrowed.Owed site stage kept top) = notes.Owed site stage kept top
note_borrowed (borrowed.Stop site place) = notes.Stop site place

-- ---- rows

abbrev pub asked_borrowed : AskedRef → Asked
asked_borrowed asked.Open = Open
asked_borrowed asked.Taking = Taking
asked_borrowed (asked.Given note) = Given (note_borrowed note)
asked_borrowed asked.Nothing = Nothing

abbrev pub check_borrowed : CheckRef → Check
check_borrowed c = record {
  site = c.site;
  clause = c.clause.now;
  failed = c.failed;
  holding = c.holding;
  terms = c.terms.now;
  map = c.map.now;
}

abbrev pub due_borrowed : DueRef → Asked
due_borrowed due.Open = Open
due_borrowed (due.Due site stage) = Given (notes.Owed site stage false false)

abbrev pub row_borrowed : RowRef → Row
row_borrowed (rows.Leads asked) = record { past = asked_borrowed asked; jump = asked_borrowed asked; thrown = Open }
row_borrowed (rows.Tests check jumps) =
    if jumps then record { past = Given (failing (check_borrowed check)); jump = Given (holding_on (check_borrowed check)); thrown = Open }
    else record { past = Given (holding_on (check_borrowed check)); jump = Given (failing (check_borrowed check)); thrown = Open }
row_borrowed (rows.Calls past thrown) = record { past = due_borrowed past; jump = Nothing; thrown = due_borrowed thrown }
