-- Names in modules, by the aliases of a scope.
use Rattle.std.proofs.Common.{◌≡◌, List, [], ◌∷◌, refl, arith}
use Rattle.rhai_base.specs.declared.dynamic.Dynamic.{Dynamic}
use Rattle.rhai_base.specs.Reading.{value_of, DynamicCase, str_case, dynamic_cases}
use Rattle.rhai_base.specs.Value.{Text, Value}
use Rattle.theory_meaning.specs.Act.{Act, module_name}
use Rattle.run_state.specs.declared.state.State.{State}
use Rattle.run_state.specs.Runs.{Setting, Acting, Goes}
use Rattle.run_state.specs.State.{store_of}
use Rattle.rhai_base.proofs.OtherKinds.{NoStr}
use Rattle.run_steps.specs.Variables.{in_module, qualified_in}

unnamed : {v : Dynamic} {w : Value} → DynamicCase v w → NoStr v → [] ≡ module_name w
unnamed (str_case t) h = absurd (h t refl)
unnamed _ h = refl

pub module_unnamed : (v : Dynamic) → NoStr v → [] ≡ module_name (value_of v)
module_unnamed v h = unnamed (dynamic_cases v) h

pub module_goes : (here : Setting) (ns : List Text) (x : Text) (next : Text → Act) (s : State) → Goes here (Acting (in_module ns x next)) s (Acting (next (qualified_in (store_of s).scope ns x))) s
module_goes here [] x next s = record { turns = omega arith; runs = λ d le. refl }
module_goes here (m ∷ ms) x next s = record { turns = omega arith; runs = λ d le. refl }
