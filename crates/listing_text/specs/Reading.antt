-- How a listing is read out of its text. (docs/LISTINGS.md)
use Rattle.std.specs.Prelude.{ℕ, ◌+◌, Bool, false, List, [], ◌∷◌, ◌++◌, length, bytes_eq, Option, Some, None, Result, Ok, Err, nat_lt, if◌then◌else◌}
use Rattle.std.specs.List.{filter_map}
use Rattle.mon_base.specs.Reading.{◌>>=◌}
use Rattle.mon_base.specs.declared.method.MethodId.{MethodId}
use Rattle.api_listing.specs.declared.types.ListedClass.{ListedClass}
use Rattle.api_listing.specs.declared.types.ListedMethod.{ListedMethod}
use Rattle.api_listing.specs.declared.types.Listing.{Listing}
use Rattle.api_listing.specs.declared.declaration.Declaration.{Declaration}
use Rattle.api_listing.specs.declared.declaration.Declaration.TheVariants.{Class, Method, Field}
use Rattle.listing_text.specs.declared.lines.Said.{Said}
use Rattle.listing_text.specs.declared.lines.Said.TheVariants.{Nothing, NoForm, Says}
use Rattle.listing_text.specs.declared.fault.ListFault.{ListFault}
use Rattle.listing_text.specs.declared.fault.ListFault.TheVariants as faults
use Rattle.api_listing.specs.Words.{pieces}
use Rattle.api_listing.specs.BuiltIn.{built_in_classes}
use Rattle.listing_text.specs.Saying.{said_lines}
use Rattle.api_listing.specs.Listing.{is_known, names_known, stands_already}

-- ---- a listing that grows

abbrev pub with_class : Listing → ListedClass → Listing
with_class l c = record { classes = l.classes ++ c ∷ []; methods = l.methods; fields = l.fields }

abbrev pub with_method : Listing → ListedMethod → Listing
with_method l m = record { classes = l.classes; methods = l.methods ++ m ∷ []; fields = l.fields }

abbrev pub with_field : Listing → MethodId → Listing
with_field l id = record { classes = l.classes; methods = l.methods; fields = l.fields ++ id ∷ [] }

-- the listing with the declaration after its own
abbrev pub with_declaration : Listing → Declaration → Listing
with_declaration l (Class c) = with_class l c
with_declaration l (Method m types) = with_method l m
with_declaration l (Field id class) = with_field l id

abbrev pub built_in_listing : Listing
built_in_listing = record { classes = built_in_classes; methods = []; fields = [] }

-- ---- reading

-- the listing after the declaration of the line with this number
abbrev pub declared : (List ℕ → Bool) → ℕ → Listing → Declaration → Result Listing ListFault
declared known number listing d =
    if stands_already listing d then Err (faults.Twice number)
    else if names_known known listing d then Ok (with_declaration listing d)
    else Err (faults.NoSuper number)

-- the listing after the line with this number
abbrev pub after_line : (List ℕ → Bool) → ℕ → Listing → Said → Result Listing ListFault
after_line known number listing Nothing = Ok listing
after_line known number listing NoForm = Err (faults.Line number)
after_line known number listing (Says d) = declared known number listing d

-- the listing after the lines, of which the first has this number
abbrev pub after_lines : (List ℕ → Bool) → ℕ → Listing → List Said → Result Listing ListFault
after_lines known number listing [] = Ok listing
after_lines known number listing (line ∷ lines) = after_line known number listing line >>= λ next. after_lines known (number + 1) next lines

-- the class that a line declares
abbrev pub class_said : Said → Option ListedClass
class_said (Says (Class c)) = Some c
class_said other = None

-- whether there is a class and it has the name
abbrev pub is_named : List ℕ → Option ListedClass → Bool
is_named name None = false
is_named name (Some c) = bytes_eq c.name name

-- the built-in classes and those that the lines declare
abbrev pub classes_in : List Said → List ListedClass
classes_in lines = built_in_classes ++ filter_map class_said lines

abbrev pub read_lines : List Said → Result Listing ListFault
read_lines lines =
    if nat_lt 20000 (length lines) then Err (faults.TooMany (length lines))
    else after_lines (is_known (classes_in lines)) 1 built_in_listing lines

-- what the text gives: the listing, or the fault of its first wrong line
unfoldable pub reading : List ℕ → Result Listing ListFault
reading text = read_lines (said_lines (pieces 10 text))
