-- Constants that become their values.
use Rattle.std.specs.Prelude.{◌≡◌, Bool, true, false, Some}
use Rattle.rhai_base.specs.Value.{Value}
use Rattle.theory_meaning.specs.Constants.{constant_value, is_constant}
use Rattle.theory_meaning.specs.Engine.{Engine}
use Rattle.theory_meaning.specs.Tree.{Expr}
use Rattle.theory_rewriting.specs.Residue.{ExprParts}
use Rattle.theory_rewriting.specs.Steps.{Progress}
use Rattle.opt_base.specs.NodeSteps.{Puts}

-- whether a constant was put for its value; what is none, its parts being reduced, stays
abbrev pub FoldsConstant : Bool → Progress → Progress → Expr → Expr → Type 0
FoldsConstant true s s' e e' = (v : Value) × (constant_value e ≡ Some v) × Puts s s' e' v
FoldsConstant false s s' e e' = ((r : Engine) → ExprParts r e → is_constant e ≡ false) × (s' ≡ s) × (e' ≡ e)
