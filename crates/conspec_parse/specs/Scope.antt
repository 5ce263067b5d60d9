-- What names mean in a clause. (docs/POLICIES.md)
use Rattle.std.specs.Prelude.{ℕ, ◌+◌, ◌≤◌, Bool, true, false, List, [], ◌∷◌, length, Option, Some, None, if◌then◌else◌}
use Rattle.std.specs.Option.{option_or, option_map}
use Rattle.conspec_tree.specs.declared.types.Base.{Base}
use Rattle.conspec_tree.specs.declared.types.Base.TheVariants as bases
use Rattle.conspec_tree.specs.declared.types.Kind.{Kind}
use Rattle.conspec_tree.specs.declared.types.Kind.TheVariants as kinds
use Rattle.conspec_tree.specs.declared.types.Var.{Var}
use Rattle.conspec_parse.specs.declared.signature.Param.{Param}
use Rattle.conspec_tree.specs.Variables.{variable_from}
use Rattle.conspec_parse.specs.Methods.{is_named}

-- the variables, the parameters that may be asked, and the result's name, where it has one, and its kind
pub record Scope : Type 0 where
  pub vars : List Var
  pub args : List Param
  pub returned : Option (List ℕ)
  pub kind : Kind

abbrev pub as_variable : ℕ × Bool → Base × Kind
as_variable (i, true) = (bases.Var i, kinds.Bool)
as_variable (i, false) = (bases.Var i, kinds.Int)

abbrev pub argument_from : ℕ → List Param → List ℕ → Option (Base × Kind)
argument_from i [] name = None
argument_from i (p ∷ params) name = if is_named p.name name then Some (bases.Arg i, p.kind) else argument_from (i + 1) params name

abbrev pub result_named : Scope → List ℕ → Option (Base × Kind)
result_named scope name = if is_named scope.returned name then Some (bases.Result, scope.kind) else None

-- what the name means, and its kind
abbrev pub base_named : Scope → List ℕ → Option (Base × Kind)
base_named scope name =
    option_or (option_map as_variable (variable_from 0 scope.vars name)) (option_or (argument_from 0 scope.args name) (result_named scope name))

-- At most 16 variables and 255 arguments have names.
pub record HasFewNames (scope : Scope) : Type 0 where
  pub vars : length scope.vars ≤ 16
  pub args : length scope.args ≤ 255
