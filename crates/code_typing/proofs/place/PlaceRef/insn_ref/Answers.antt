use Rattle.std.proofs.Common.{ap, ◌∙◌}
use Rattle.std.specs.Prelude.{option_copied}
use Rattle.bytecode_model.specs.declared.program.Program.{Program}
use Rattle.bytecode_model.specs.InsnPlace.{InsnPlace, target_or_none}
use Rattle.code_typing.proofs.place.PlaceRef.insn_ref.Goals as goal

pub returns : goal.returns
returns c =
    let inside = c.self.inside in
    let seen : Program → InsnPlace = λ program. record {
      program = program;
      own = inside.own;
      class = inside.class.now;
      method = inside.method.now;
      at = inside.at;
      insn = inside.insn.now;
      ref = target_or_none (option_copied inside.target);
    } in
    ap seen c.program.ensures ∙ c.self.view_is
