-- Programs that are ready to run, with the tables that are kept beside them. (docs/MACHINE.md)
use Rattle.std.specs.Prelude.{◌≡◌}
use Rattle.bytecode_model.specs.declared.program.Program.{Program}
use Rattle.guest_tables.specs.declared.tables.Tables.{Tables}
use Rattle.guest_tables.specs.Arities.{arities_of}
use Rattle.guest_tables.specs.Layout.{places_of}
use Rattle.guest_tables.specs.Library.{library_of}
use Rattle.guest_tables.specs.Methods.{AreMethods}
use Rattle.guest_tables.specs.Searched.{rows_of}
use Rattle.guest_model.specs.Ready.{IsReady}

-- The tables are of the program.
pub record AreTables (program : Program) (tables : Tables) : Type 0 where
  pub rows_are : tables.rows ≡ rows_of program
  pub methods_are : AreMethods tables.methods.named program.classes
  pub arities_are : tables.methods.arities ≡ arities_of program
  pub fields_are : tables.fields ≡ places_of program
  pub library_is : tables.library ≡ library_of program.listing

-- The program is ready, and the tables that are kept beside it are of it.
pub record IsGuest (program : Program) (tables : Tables) : Type 0 where
  pub ready : IsReady program
  pub kept : AreTables program tables
