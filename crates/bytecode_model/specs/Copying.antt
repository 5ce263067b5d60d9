-- Methods that are copied part by part. (docs/LINKING.md)
use Rattle.std.specs.Prelude.{[]}
use Rattle.bytecode_model.specs.declared.program.Method.{Method}

-- the method without its instructions, operands and handlers
abbrev pub codeless : Method → Method
codeless method = record {
  flags = method.flags;
  name = method.name;
  desc = method.desc;
  max_stack = method.max_stack;
  max_locals = method.max_locals;
  insns = [];
  refs = [];
  handlers = [];
}
