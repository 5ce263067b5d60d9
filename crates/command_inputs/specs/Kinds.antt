-- The kinds of files: how long they may be, and what they are read as. (docs/COMMANDS.md)
use Rattle.std.specs.Prelude.{ℕ, length, Result, Ok, Err}
use Rattle.listing_text.specs.declared.fault.ListFault.{ListFault}
use Rattle.api_listing.specs.declared.types.Listing.{Listing}
use Rattle.listing_text.specs.Reading.{reading}
use Rattle.cert_format.specs.declared.certificate.Certificate.{Certificate}
use Rattle.cert_format.specs.declared.fault.CertForm.{CertForm}
use Rattle.cert_format.specs.Reading.{certificate_of}
use Rattle.class_codec.specs.declared.fault.ClassFault.{ClassFault}
use Rattle.class_codec.specs.declared.tree.ClassFile.{ClassFile}
use Rattle.class_codec.specs.Reading.{class_of}
use Rattle.conspec_parse.specs.declared.fault.PolicyFault.{PolicyFault}
use Rattle.conspec_tree.specs.declared.types.PolicyTree.{PolicyTree}
use Rattle.conspec_parse.specs.Policy.{reading as policy_of}
use Rattle.event_record.specs.declared.fault.RecordFault.{RecordFault}
use Rattle.event_record.specs.declared.reading.Record.{Record}
use Rattle.event_record.specs.Record.{reading as record_of}
use Rattle.command_inputs.specs.declared.fault.InputFault.{InputFault}
use Rattle.command_inputs.specs.declared.forms.ReadClass.{ReadClass}
use Rattle.command_inputs.specs.Fault.{certificate_told, class_told, listing_told, policy_told, record_told}
use Rattle.command_inputs.specs.Forms.{Form}

-- ---- listings, of at most 1 MiB

abbrev pub listing_read : Result Listing ListFault → Result Listing InputFault
listing_read (Ok listing) = Ok listing
listing_read (Err fault) = Err (listing_told fault)

abbrev pub listing_form : Form Listing
listing_form = record { limit = 1048576; reads = λ text. listing_read (reading text) }

-- ---- policies, of at most 64 KiB, over a listing

abbrev pub policy_read : Result PolicyTree PolicyFault → Result PolicyTree InputFault
policy_read (Ok tree) = Ok tree
policy_read (Err fault) = Err (policy_told fault)

abbrev pub policy_form : Listing → Form PolicyTree
policy_form listing = record { limit = 65536; reads = λ text. policy_read (policy_of text listing) }

-- ---- certificates, of at most 64 MiB, for a number of variables

abbrev pub certificate_read : Result Certificate CertForm → Result Certificate InputFault
certificate_read (Ok certificate) = Ok certificate
certificate_read (Err fault) = Err (certificate_told fault)

abbrev pub certificate_form : ℕ → Form Certificate
certificate_form vars = record { limit = 67108864; reads = λ text. certificate_read (certificate_of vars text) }

-- ---- class files, of at most 1 MiB, with their lengths

abbrev pub class_read : ℕ → Result ClassFile ClassFault → Result ReadClass InputFault
class_read len (Ok file) = Ok (record { file = file; len = len })
class_read len (Err fault) = Err (class_told fault)

abbrev pub class_form : Form ReadClass
class_form = record { limit = 1048576; reads = λ text. class_read (length text) (class_of text) }

-- ---- records, of at most 256 MiB, over a listing

abbrev pub record_read : Result Record RecordFault → Result Record InputFault
record_read (Ok recorded) = Ok recorded
record_read (Err fault) = Err (record_told fault)

abbrev pub record_form : Listing → Form Record
record_form listing = record { limit = 268435456; reads = λ text. record_read (record_of text listing) }
