-- Names in modules of the host, and modules by their paths.
use Rattle.std.proofs.Common.{◌≡◌, Bool, true, false, cond, List, [], ◌∷◌, Option, Some, None, Result, refl, sym, ap}
use Rattle.rhai_base.specs.declared.dynamic.Dynamic.{Dynamic}
use Rattle.rhai_base.specs.Reading.{value_of, DynamicCase, str_case, dynamic_cases}
use Rattle.rhai_base.specs.Value.{Text, Value, TextV}
use Rattle.theory_meaning.specs.Act.{World, Root, OfName, OfGlobal, Unbound, UnknownModule, WrongKind, Fail, Read}
use Rattle.theory_meaning.specs.ActForms.{of_constant}
use Rattle.theory_meaning.specs.Desugar.{is_global, name_root, variable}
use Rattle.theory_meaning.specs.Desugar.{in_module as in_some_module}
use Rattle.theory_meaning.specs.Meaning.{act, module_at, module_known}
use Rattle.run_host.specs.declared.report.Stuck.TheVariants as why
use Rattle.run_state.specs.declared.state.Interrupt.{Interrupt}
use Rattle.run_state.specs.declared.state.Interrupt.TheVariants.{Stuck}
use Rattle.run_state.specs.declared.state.State.{State}
use Rattle.run_state.specs.Evaluating.{RunsCore}
use Rattle.run_state.specs.Runs.{Setting, Acting, Goes, Runs, Stops, given}
use Rattle.run_state.specs.State.{store_of}
use Rattle.run_state.proofs.Goes.{gives, goes_as, goes_then, leads_then, stuck_here}
use Rattle.rhai_base.proofs.OtherKinds.{NoStr}
use Rattle.run_steps.specs.Variables.{in_module, qualified_in}
use Rattle.run_steps.proofs.NamedModules.{module_goes}
use Rattle.run_steps.proofs.Placing.{fails}

no_path : (w : World) {v : Dynamic} {u : Value} → DynamicCase v u → NoStr v → module_at w u ≡ Fail WrongKind
no_path w (str_case t) h = absurd (h t refl)
no_path w _ h = refl

variable_is : (w : World) (ns : List Text) (x : Text) → None ≡ name_root ns x → act w (variable ns x) ≡ in_module ns x (λ y. of_constant (w.host.module_value y))
variable_is w [] x h = cc
variable_is w (n ∷ []) x h = by (is_global n) h where
  by : (b : Bool) → None ≡ cond b (Some (OfGlobal x)) None → act w (in_some_module b n x) ≡ in_module (n ∷ []) x (λ y. of_constant (w.host.module_value y))
  by true q = cc
  by false q = refl
variable_is w (n ∷ m ∷ ns) x h = refl

-- a name with its modules' that has a value of its own
pub named_reads : (w : World) (ns : List Text) (x : Text) (r : Root) → name_root ns x ≡ Some r → act w (variable ns x) ≡ Read r
named_reads w [] x r h = ap Read (let z : Some (OfName x) ≡ Some r = h in cc)
named_reads w (n ∷ []) x r h = by (is_global n) h where
  by : (b : Bool) → cond b (Some (OfGlobal x)) None ≡ Some r → act w (in_some_module b n x) ≡ Read r
  by true q = ap Read (let z : Some (OfGlobal x) ≡ Some r = q in cc)
  by false q = cc
named_reads w (n ∷ m ∷ ns) x r h = cc

module _ (here : Setting) (s : State) where
  pub named_runs : (ns : List Text) (x : Text) (r : Root) (o : Result Dynamic Interrupt) (s1 : State) → Some r ≡ name_root ns x → Runs here (Acting (Read r)) s o s1 → RunsCore here (variable ns x) s o s1
  named_runs ns x r o s1 h q = leads_then here s1 o (λ v. given (value_of v)) (goes_as here _ _ s (ap Acting (named_reads here.world ns x r (sym h)))) q

  module _ (ns : List Text) (x : Text) (h : None ≡ name_root ns x) where
    abbrev whole_name : Text
    whole_name = qualified_in (store_of s).scope ns x

    to_module : Goes here (Acting (act here.world (variable ns x))) s (Acting (of_constant (here.world.host.module_value whole_name))) s
    to_module = goes_then here (goes_as here _ _ s (ap Acting (variable_is here.world ns x h))) (module_goes here ns x (λ y. of_constant (here.world.host.module_value y)) s)

    pub module_value_goes : (v : Dynamic) → here.world.host.module_value whole_name ≡ Some (value_of v) → Goes here (Acting (act here.world (variable ns x))) s (given (value_of v)) s
    module_value_goes v e = goes_then here to_module (goes_then here (goes_as here _ _ s (ap (λ o. Acting (of_constant o)) e)) (gives here _ _ s refl))

    pub module_value_stops : here.world.host.module_value whole_name ≡ None → Stops here (Acting (act here.world (variable ns x))) s (Stuck why.Unbound) s
    module_value_stops e = goes_then here to_module (goes_then here (goes_as here _ _ s (ap (λ o. Acting (of_constant o)) e)) (fails here s Unbound))

  pub path_stops : (v : Dynamic) → NoStr v → Stops here (Acting (module_at here.world (value_of v))) s (Stuck why.WrongKind) s
  path_stops v h = stuck_here here _ s (no_path here.world (dynamic_cases v) h)

  module _ (p : Text) where
    pub module_known_goes : (m : Text) → here.world.host.module_of p ≡ Some m → Goes here (Acting (module_at here.world (TextV p))) s (given (TextV m)) s
    module_known_goes m e = goes_then here (goes_as here _ _ s (ap (λ o. Acting (module_known o)) e)) (gives here _ _ s refl)

    pub module_unknown_stops : here.world.host.module_of p ≡ None → Stops here (Acting (module_at here.world (TextV p))) s (Stuck why.UnknownModule) s
    module_unknown_stops e = goes_then here (goes_as here _ _ s (ap (λ o. Acting (module_known o)) e)) (fails here s UnknownModule)
