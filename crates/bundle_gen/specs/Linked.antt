-- What a generated bundle links to: its listing, and its classes with what each operand names. (docs/GENERATED.md)
use Rattle.std.specs.Prelude.{ℕ, zero, suc, ◌+◌, ◌%◌, ◌==◌, if◌then◌else◌, true, false, List, [], ◌∷◌, ◌++◌, codes}
use Rattle.api_listing.specs.BuiltIn.{built_in_classes, object, thread}
use Rattle.api_listing.specs.declared.types.ListedClass.{ListedClass}
use Rattle.api_listing.specs.declared.types.ListedMethod.{ListedMethod}
use Rattle.api_listing.specs.declared.types.Listing.{Listing}
use Rattle.bundle_gen.specs.Draws.{next_state, draw, state_after}
use Rattle.bundle_gen.specs.Generated.{init_code, main_class, main_code, main_name, run_code, thread_class, thread_name}
use Rattle.bytecode_model.specs.declared.program.LinkedClass.{LinkedClass}
use Rattle.bytecode_model.specs.declared.program.Method.{Method}
use Rattle.bytecode_model.specs.declared.program.Program.{Program}
use Rattle.bytecode_model.specs.declared.program.Target.{Target}
use Rattle.bytecode_model.specs.declared.program.Target.TheVariants as target

-- ---- the listing

abbrev pub net_class : ListedClass
net_class = record { name = codes "api/Net"; parent = object; interfaces = []; is_interface = false }

-- a static method of it
abbrev pub net_method : List ℕ → List ℕ → ListedMethod
net_method name desc = record { id = record { class = codes "api/Net"; name = name; desc = desc }; is_static = true }

-- the built-in classes and api/Net, with `send` and `read`
unfoldable pub net_listing : Listing
net_listing = record {
  classes = built_in_classes ++ net_class ∷ [];
  methods = net_method (codes "send") (codes "(I)V") ∷ net_method (codes "read") (codes "()I") ∷ [];
  fields = [];
}

-- ---- what operands name

-- `<init>` calls that of Thread.
abbrev pub init_refs : List Target
init_refs = target.None ∷ target.Builtin 1 ∷ target.None ∷ []

-- A site calls `send` or `read`.
unfoldable pub site_refs : ℕ → List Target
site_refs drawn = if drawn % 2 == 0 then target.None ∷ target.ApiMethod 0 ∷ [] else target.ApiMethod 1 ∷ target.None ∷ []

-- those of so many sites, the first with the draw after this state
unfoldable pub refs_from : ℕ → ℕ → List Target
refs_from state zero = []
refs_from state (suc n) = site_refs (draw (next_state state)) ++ refs_from (next_state state) n

abbrev pub run_refs : ℕ → ℕ → List Target
run_refs state sites = refs_from state sites ++ target.None ∷ []

-- A thread of the class of this index is made by its own `<init>`, and begun by `start` of Thread.
unfoldable pub begun_refs : ℕ → List Target
begun_refs index = target.ClassName (thread_name index) ∷ target.None ∷ target.Method index 0 ∷ target.Builtin 3 ∷ []

unfoldable pub begun_refs_from : ℕ → ℕ → List Target
begun_refs_from index zero = []
begun_refs_from index (suc n) = begun_refs index ++ begun_refs_from (index + 1) n

abbrev pub main_refs : ℕ → List Target
main_refs classes = begun_refs_from 0 classes ++ target.None ∷ []

-- ---- methods

abbrev pub linked_init : Method
linked_init = record {
  flags = 0x0001;
  name = codes "<init>";
  desc = codes "()V";
  max_stack = 1;
  max_locals = 1;
  insns = init_code;
  refs = init_refs;
  handlers = [];
}

abbrev pub linked_run : ℕ → ℕ → Method
linked_run state sites = record {
  flags = 0x0001;
  name = codes "run";
  desc = codes "()V";
  max_stack = 1;
  max_locals = 1;
  insns = run_code state sites;
  refs = run_refs state sites;
  handlers = [];
}

abbrev pub linked_main : ℕ → Method
linked_main classes = record {
  flags = 0x0009;
  name = codes "main";
  desc = codes "([Ljava/lang/String;)V";
  max_stack = 2;
  max_locals = 1;
  insns = main_code classes;
  refs = main_refs classes;
  handlers = [];
}

-- ---- classes

unfoldable pub linked_thread : ℕ → ℕ → ℕ → LinkedClass
linked_thread index state sites = record {
  name = thread_name index;
  parent = thread;
  file = thread_class index state sites;
  methods = linked_init ∷ linked_run state sites ∷ [];
}

-- so many of them, the first with this index and from this state on
unfoldable pub linked_from : ℕ → ℕ → ℕ → ℕ → List LinkedClass
linked_from index state sites zero = []
linked_from index state sites (suc n) = linked_thread index state sites ∷ linked_from (index + 1) (state_after state sites) sites n

unfoldable pub linked_starter : ℕ → LinkedClass
linked_starter classes = record { name = main_name; parent = object; file = main_class classes; methods = linked_main classes ∷ [] }

-- ---- the whole

-- The main class is the last.
unfoldable pub generated_program : ℕ → ℕ → ℕ → Program
generated_program seed classes sites = record {
  classes = linked_from 0 seed sites classes ++ linked_starter classes ∷ [];
  listing = net_listing;
  literals = [];
  main_class = classes;
  main_method = 0;
}
