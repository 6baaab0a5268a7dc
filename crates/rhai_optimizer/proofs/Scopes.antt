-- What the record and a scope say of names, pushed one by one.
use Rattle.std.proofs.Common.{◌≡◌, Bool, true, false, List, [], ◌∷◌, ◌++◌, map, cond, Some, None, refl, sym, ap, ◌∙◌}
use Rattle.std.proofs.lemmas.List.{append_assoc}
use Rattle.std.specs.Option.{option_map}
use Rattle.std.specs.Prelude.{Option}
use Rattle.rhai_base.specs.Reading.{value_of}
use Rattle.rhai_base.specs.declared.dynamic.Dynamic.{Dynamic}
use Rattle.rhai_base.specs.declared.scope.Scope.{Scope}
use Rattle.rhai_base.specs.declared.scope.ScopeEntry.{ScopeEntry}
use Rattle.run_host.specs.Entries.{entry_meant}
use Rattle.theory_meaning.specs.Act as act
use Rattle.theory_meaning.specs.Act.{OfName}
use Rattle.theory_meaning.specs.Desugar.{name_kind}
use Rattle.theory_meaning.specs.Engine.{Engine, Binding}
use Rattle.theory_meaning.specs.Run.{reversed}
use Rattle.theory_meaning.specs.Tree.{Script}
use Rattle.theory_rewriting.specs.Known.{Known}
use Rattle.theory_rewriting.specs.Scripts.{captures_nothing, fixed_value, known_in, known_of, known_at_top, known_in_bodies}
use Rattle.rhai_optimizer.specs.Scopes.{known_outside, known_onto, given_onto, constants_onto, start_of}

lent_value : (b : Bool) (v : Dynamic) → option_map value_of (cond b (Some v) None) ≡ fixed_value (name_kind b) (value_of v)
lent_value true v = refl
lent_value false v = refl

onto : (es : List ScopeEntry) (fs : List act.ScopeEntry) (ks : List Known) → known_onto es (known_in fs ++ ks) ≡ known_in (reversed (map entry_meant es) fs) ++ ks
onto [] fs ks = refl
onto (e ∷ es) fs ks =
    ap (λ v. known_onto es (record { root = OfName e.name; value = v } ∷ (known_in fs ++ ks))) (lent_value e.is_constant e.value)
    ∙ onto es (entry_meant e ∷ fs) ks

given : (o : Option Scope) (ks : List Known) → given_onto o ks ≡ known_in (start_of o) ++ ks
given None ks = refl
given (Some es) ks = onto es [] ks

constants : (bs : List Binding) (ks : List Known) → constants_onto bs ks ≡ known_of bs ++ ks
constants [] ks = refl
constants (b ∷ bs) ks = constants bs (record { root = OfName b.name; value = Some b.value } ∷ ks) ∙ sym (append_assoc (known_of bs) (record { root = OfName b.name; value = Some b.value } ∷ []) ks)

append_none : (ks : List Known) → ks ++ [] ≡ ks
append_none [] = refl
append_none (k ∷ ks) = ap (λ ls. k ∷ ls) (append_none ks)

pub at_top : (r : Engine) (o : Option Scope) → given_onto o (constants_onto r.constants []) ≡ known_at_top r (start_of o)
at_top r o = given o (constants_onto r.constants []) ∙ ap (λ ks. known_in (start_of o) ++ ks) (constants r.constants [] ∙ append_none (known_of r.constants))

pub in_bodies : (r : Engine) (o : Option Scope) → constants_onto r.constants (given_onto o []) ≡ known_in_bodies r (start_of o)
in_bodies r o = constants r.constants (given_onto o []) ∙ ap (λ ks. known_of r.constants ++ ks) (given o [] ∙ append_none (known_in (start_of o)))

-- what is known in bodies, from nothing
pub pushed_inside : (r : Engine) (o : Option Scope) (p : Script) (ks ks' : List Known) (d : Type 0) → captures_nothing p ≡ true → d × (ks' ≡ constants_onto r.constants (given_onto o ks)) → ks ≡ [] → ks' ≡ known_outside r (start_of o) p
pushed_inside r o p ks ks' d h e n = e.1 ∙ ap (λ ls. constants_onto r.constants (given_onto o ls)) n ∙ in_bodies r o ∙ sym (ap (λ b. cond b (known_in_bodies r (start_of o)) []) h)

pub nothing_inside : (r : Engine) (o : Option Scope) (p : Script) (ks : List Known) → captures_nothing p ≡ false → ks ≡ [] → ks ≡ known_outside r (start_of o) p
nothing_inside r o p ks h n = n ∙ sym (ap (λ b. cond b (known_in_bodies r (start_of o)) []) h)
