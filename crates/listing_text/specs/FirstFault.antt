-- Which texts have the same fault: those that agree up to its line. (docs/LISTINGS.md)
use Rattle.std.specs.Prelude.{◌≡◌, ◌≢◌, ◌≤◌, ℕ, Bool, List, [], ◌∷◌, ◌++◌, length, Ok, Err, IsTrue}
use Rattle.api_listing.specs.declared.types.ListedClass.{ListedClass}
use Rattle.api_listing.specs.declared.types.Listing.{Listing}
use Rattle.api_listing.specs.declared.declaration.Declaration.TheVariants.{Class}
use Rattle.listing_text.specs.declared.lines.Said.{Said}
use Rattle.listing_text.specs.declared.lines.Said.TheVariants.{Says}
use Rattle.listing_text.specs.declared.fault.ListFault.{ListFault}
use Rattle.listing_text.specs.declared.fault.ListFault.TheVariants as faults
use Rattle.api_listing.specs.Words.{IsLines, pieces}
use Rattle.listing_text.specs.Saying.{said, said_lines}
use Rattle.listing_text.specs.Reading.{classes_in, reading}
use Rattle.api_listing.specs.Listing.{is_known}

-- what the lines of the text say
abbrev pub lines_said : List ℕ → List Said
lines_said text = said_lines (pieces 10 text)

-- The text has at most 20,000 lines.
abbrev pub IsShort : List ℕ → Type 0
IsShort text = length (lines_said text) ≤ 20000

-- whether the class is built in, or a line of the text declares it
abbrev pub knows : List ℕ → List ℕ → Bool
knows text name = is_known (classes_in (lines_said text)) name

-- The last line of the text declares a class.
pub record EndsInClass (text : List ℕ) : Type 0 where
  pub before : List (List ℕ)
  pub line : List ℕ
  pub class : ListedClass
  pub ended : pieces 10 text ≡ before ++ line ∷ [] ∷ []
  pub declares : said line ≡ Says (Class class)

-- The fault is one that the n lines of the text tell alone: 161 or 162 at line n, or 163 there, where line n declares a class.
abbrev pub IsToldBy : ℕ → List ℕ → ListFault → Type 0
IsToldBy n text (faults.Line line) = line ≡ n
IsToldBy n text (faults.Twice line) = line ≡ n
IsToldBy n text (faults.NoSuper line) = (line ≡ n) × EndsInClass text
IsToldBy n text (faults.TooMany count) = ⊥
IsToldBy n text faults.Memory = ⊥

-- ---- the laws

-- A fault that the first n lines tell stays, whatever stands after them, if it declares each class that was declared.
abbrev pub FaultStays : Type 0
FaultStays = (n : ℕ) (front a b : List ℕ) (fault : ListFault) → IsLines n front → IsToldBy n front fault → IsShort (front ++ b)
    → ((name : List ℕ) → IsTrue (knows (front ++ a) name) → IsTrue (knows (front ++ b) name))
    → reading (front ++ a) ≡ Err fault → reading (front ++ b) ≡ Err fault

-- No listing begins with lines that tell a fault.
abbrev pub FaultIsFinal : Type 0
FaultIsFinal = (n : ℕ) (front a b : List ℕ) (fault : ListFault) (listing : Listing) → IsLines n front → IsToldBy n front fault
    → reading (front ++ a) ≡ Err fault → reading (front ++ b) ≢ Ok listing

-- 163 at line n stays, whatever stands after the first n lines, if it declares the same classes.
abbrev pub MissingStays : Type 0
MissingStays = (n : ℕ) (front a b : List ℕ) → IsLines n front → IsShort (front ++ b)
    → ((name : List ℕ) → knows (front ++ a) name ≡ knows (front ++ b) name)
    → reading (front ++ a) ≡ Err (faults.NoSuper n) → reading (front ++ b) ≡ Err (faults.NoSuper n)
