-- The instructions of a block stand in the woven method, and their operands name what they want.
use Rattle.std.proofs.Common.{◌≡◌, ℕ, ◌+◌, Bool, [], Option, Some, refl, ap}
use Rattle.std.specs.Prelude.{IfSome, slice_get}
use Rattle.std.specs.Option.{option_map_or}
use Rattle.mon_base.specs.declared.method.MethodId.{MethodId}
use Rattle.class_codec.specs.Pool.{reference_at}
use Rattle.bytecode_model.specs.InsnPlace.{InsnPlace}
use Rattle.offset_patch.specs.declared.block.BlockInsn.{BlockInsn}
use Rattle.offset_patch.specs.declared.block.BlockInsn.TheVariants.{Plain, Byte, Short, Local, Want, Jump, Call}
use Rattle.offset_patch.specs.declared.block.PoolWant.{PoolWant}
use Rattle.offset_patch.specs.declared.block.PoolWant.TheVariants as wants
use Rattle.offset_patch.specs.Entries.{IsThere, place_in, state_name, variable_name, variable_type}
use Rattle.offset_patch.specs.Splicing.{put, want_of}
use Rattle.block_template.specs.Typed.{Names, Stands}
use Rattle.class_weaving.specs.Outcome.{part_named, way_out}
use Rattle.class_weaving.proofs.Wanted.{field_there, field_told}
use Rattle.woven_typing.proofs.Body as of
use Rattle.woven_typing.proofs.Called.{CallAt, ref}
use Rattle.woven_typing.proofs.Client.{Typed, b, here}

module _ (t : Typed) (c : CallAt t) where
  -- the place of an instruction of the block
  abbrev pub spot : ℕ → BlockInsn → InsnPlace
  spot k x =
      here t (of.front (b t) c.i + k) (put (of.pool (b t)) (of.fronts (b t)) (of.front (b t) c.i) c.insn x)
      (part_named (of.state (b t)) (ref t c) x)

  module _ (k : ℕ) where
    there_for : (insn : BlockInsn) (want : PoolWant) → slice_get (of.part (b t) (ref t c)) k ≡ Some insn → want_of insn ≡ Some want
        → IsThere (of.pool (b t)) want
    there_for insn want e f = (b t).wanted want (of.wants_here (b t) c.i k c.callee insn want c.names c.has e f)

    field_desc : (op var : ℕ) (is_bool : Bool)
        → slice_get (of.part (b t) (ref t c)) k ≡ Some (Want op (wants.StateField var is_bool))
        → Names (spot k (Want op (wants.StateField var is_bool))) (wants.StateField var is_bool)
    field_desc op var is_bool e =
        let pool = of.pool (b t) in
        let at : ℕ = place_in pool (wants.StateField var is_bool) in
        let found = field_there pool var is_bool (there_for (Want op (wants.StateField var is_bool)) (wants.StateField var is_bool) e refl) in
        ap (λ (o : Option MethodId). option_map_or (λ (id : MethodId). id.desc) o [])
        (field_told pool at state_name (variable_name var) (variable_type is_bool) found)

    exit_named : (op : ℕ) → slice_get (of.part (b t) (ref t c)) k ≡ Some (Want op wants.Exit) → Names (spot k (Want op wants.Exit)) wants.Exit
    exit_named op e =
        let out : reference_at (of.pool (b t)) (place_in (of.pool (b t)) wants.Exit) ≡ Some way_out =
        (b t).of_method.out (of.wants_here (b t) c.i k c.callee (Want op wants.Exit) wants.Exit c.names c.has e refl) in (
          ap (λ (o : Option MethodId). option_map_or (λ (id : MethodId). id.name) o []) out,
          ap (λ (o : Option MethodId). option_map_or (λ (id : MethodId). id.desc) o []) out,
        )

    want_names : (op : ℕ) (want : PoolWant) → slice_get (of.part (b t) (ref t c)) k ≡ Some (Want op want) → Names (spot k (Want op want)) want
    want_names op wants.StateClass e = (state_name, refl)
    want_names op (wants.StateField var is_bool) e = field_desc op var is_bool e
    want_names op wants.Exit e = exit_named op e
    want_names op (wants.Integer n) e = refl

    names : (insn : BlockInsn) → slice_get (of.part (b t) (ref t c)) k ≡ Some insn → IfSome (want_of insn) (Names (spot k insn))
    names (Want op want) e = want_names op want e
    names (Plain op) e = tt
    names (Byte n) e = tt
    names (Short n) e = tt
    names (Local op slot wide) e = tt
    names (Jump op place) e = tt
    names Call e = tt

    pub stands : (insn : BlockInsn) → slice_get (of.part (b t) (ref t c)) k ≡ Some insn → Stands insn (spot k insn)
    stands insn e = record {
      pool = of.pool (b t);
      fronts = of.fronts (b t);
      begin = of.front (b t) c.i;
      own = c.insn;
      is = refl;
      names = names insn e;
    }
