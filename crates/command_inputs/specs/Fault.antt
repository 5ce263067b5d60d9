-- How the faults of texts are those of files. (docs/COMMANDS.md)
use Rattle.listing_text.specs.declared.fault.ListFault.{ListFault}
use Rattle.listing_text.specs.declared.fault.ListFault.TheVariants as listings
use Rattle.cert_format.specs.declared.fault.CertForm.{CertForm}
use Rattle.cert_format.specs.declared.fault.CertForm.TheVariants as certificates
use Rattle.class_codec.specs.declared.fault.ClassFault.{ClassFault}
use Rattle.class_codec.specs.declared.fault.ClassFault.TheVariants as classes
use Rattle.conspec_parse.specs.declared.fault.PolicyFault.{PolicyFault}
use Rattle.conspec_parse.specs.declared.fault.PolicyFault.TheVariants as policies
use Rattle.event_record.specs.declared.fault.RecordFault.{RecordFault}
use Rattle.event_record.specs.declared.fault.RecordFault.TheVariants as records
use Rattle.command_inputs.specs.declared.fault.InputFault.{InputFault}
use Rattle.command_inputs.specs.declared.fault.InputFault.TheVariants as faults

-- the fault of a file, where want of memory is one of its own

abbrev pub listing_told : ListFault → InputFault
listing_told listings.Memory = faults.Memory
listing_told fault = faults.Listing fault

abbrev pub policy_told : PolicyFault → InputFault
policy_told policies.Memory = faults.Memory
policy_told fault = faults.Policy fault

abbrev pub certificate_told : CertForm → InputFault
certificate_told certificates.Memory = faults.Memory
certificate_told fault = faults.Certificate fault

abbrev pub class_told : ClassFault → InputFault
class_told classes.Memory = faults.Memory
class_told fault = faults.Class fault

abbrev pub record_told : RecordFault → InputFault
record_told records.Memory = faults.Memory
record_told fault = faults.Record fault
