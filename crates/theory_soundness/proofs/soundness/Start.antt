-- What the record and a scope fix holds where a run starts: at top level in that scope, and in a body without it.
use Rattle.std.proofs.Common.{◌≡◌, Bool, true, false, cond, List, [], ◌∷◌, ◌++◌, Option, Some, None, refl, sym, ap, ◌∙◌, append_assoc}
use Rattle.std.specs.Prelude.{◌&&◌, option_map}
use Rattle.rhai_base.specs.Value.{Text, Value, same_text}
use Rattle.theory_meaning.specs.Act.{EntryKind, IsVariable, IsConstant, is_name, ScopeEntry, OfName, found}
use Rattle.theory_meaning.specs.Engine.{Engine, Binding, or_else, constant_named}
use Rattle.theory_meaning.specs.Desugar.{core_stmts}
use Rattle.theory_meaning.specs.Tree.{Script}
use Rattle.theory_rewriting.specs.Known.{Known, look, Fits, Agrees}
use Rattle.theory_rewriting.specs.Scripts.{fixed_value, known_in, known_of, known_at_top, known_in_bodies, known_globals, captures_nothing, known_inside}
use Rattle.theory_soundness.proofs.simulation.Agreement.{agrees_nothing}
use Rattle.theory_soundness.proofs.soundness.Globals.{Promises, promised, promises_as, promises_nothing, look_with_globals, globals_in_bodies}

later_wins : (o : Option Value) (b : Bool) (v : Value) (p : Option Value) → or_else o (cond b (Some v) p) ≡ or_else (or_else o (cond b (Some v) None)) p
later_wins (Some u) b v p = refl
later_wins None true v p = refl
later_wins None false v p = refl

-- the record's constants go before the names that follow
look_record : (bs : List Binding) (ks : List Known) (x : Text) → look (known_of bs ++ ks) x ≡ or_else (constant_named bs x) (look ks x)
look_record [] ks x = refl
look_record (b ∷ bs) ks x =
    let k : Known = record { root = OfName b.name; value = Some b.value } in
    ap (λ ls. look ls x) (append_assoc (known_of bs) (k ∷ []) ks) ∙ look_record bs (k ∷ ks) x ∙ later_wins (constant_named bs x) (same_text b.name x) b.value (look ks x)

-- a value of the record's
record_fits : (o p : Option Value) (x : Text) (v : Value) → or_else o p ≡ Some v → Fits v (option_map (λ u. record { name = x; kind = IsConstant; value = u }) o)
record_fits None p x v h = tt
record_fits (Some u) p x v h = (refl, let z : Some u ≡ Some v = h in cc)

-- an entry of a scope, by its kind
entry_fits : (k : EntryKind) (n : Text) (u : Value) (o : Option ScopeEntry) (p : Option Value) (x : Text) (v : Value) → (p ≡ Some v → Fits v o) → cond (same_text n x) (fixed_value k u) p ≡ Some v → Fits v (cond (is_name k && same_text n x) (Some (record { name = n; kind = k; value = u })) o)
entry_fits IsVariable n u o p x v f =
    elim (same_text n x) as (λ b. cond b None p ≡ Some v → Fits v (cond b (Some (record { name = n; kind = IsVariable; value = u })) o)) [ true ↦ λ h. absurd (let z : None ≡ Some v = h in cc) | false ↦ f ]
entry_fits IsConstant n u o p x v f =
    elim (same_text n x) as (λ b. cond b (Some u) p ≡ Some v → Fits v (cond b (Some (record { name = n; kind = IsConstant; value = u })) o)) [ true ↦ λ h. (refl, let z : Some u ≡ Some v = h in cc) | false ↦ f ]
entry_fits _ n u o p x v f = elim (same_text n x) as (λ b. cond b None p ≡ Some v → Fits v o) [ true ↦ λ h. absurd (let z : None ≡ Some v = h in cc) | false ↦ f ]

append_none : (ks : List Known) → ks ++ [] ≡ ks
append_none [] = refl
append_none (k ∷ ks) = ap (λ ls. k ∷ ls) (append_none ks)

scope_fits : (bs : List Binding) (es : List ScopeEntry) (x : Text) (v : Value) → look (known_in es ++ known_of bs) x ≡ Some v → Fits v (found bs es x)
scope_fits bs [] x v = λ h. record_fits (constant_named bs x) None x v (sym (look_record bs [] x) ∙ ap (λ ks. look ks x) (append_none (known_of bs)) ∙ h)
scope_fits bs (e ∷ es) x v = entry_fits e.kind e.name e.value (found bs es x) (look (known_in es ++ known_of bs) x) x v (scope_fits bs es x v)

-- at top level
pub agrees_at_top : (engine : Engine) (scope : List ScopeEntry) → Agrees engine.constants (known_at_top engine scope) scope
agrees_at_top engine scope = record { is = λ x v h. scope_fits engine.constants scope x v h }

-- in a body
agrees_in_bodies : (engine : Engine) (scope : List ScopeEntry) → Agrees engine.constants (known_in_bodies engine scope) []
agrees_in_bodies engine scope = record {
  is = λ x v h. record_fits (constant_named engine.constants x) (look (known_in scope) x) x v (sym (look_record engine.constants (known_in scope) x) ∙ h);
}

pub agrees_inside : (engine : Engine) (scope : List ScopeEntry) (p : Script) → Agrees engine.constants (known_inside engine scope p) []
agrees_inside engine scope p = by (captures_nothing p) where
  by : (b : Bool) → Agrees engine.constants (cond b (known_in_bodies engine scope ++ known_globals p.statements) []) []
  by true = let z = agrees_in_bodies engine scope in record { is = λ x v h. z.is x v (sym (look_with_globals (known_in_bodies engine scope) p.statements x) ∙ h) }
  by false = agrees_nothing engine.constants []

-- the script's own list declares what bodies know of its constants
pub promises_inside : (engine : Engine) (scope : List ScopeEntry) (p : Script) → Promises (known_inside engine scope p) (core_stmts false p.statements)
promises_inside engine scope p = by (captures_nothing p) where
  by : (b : Bool) → Promises (cond b (known_in_bodies engine scope ++ known_globals p.statements) []) (core_stmts false p.statements)
  by true = promises_as (known_in_bodies engine scope ++ known_globals p.statements) (known_globals p.statements) (globals_in_bodies engine scope (known_globals p.statements)) (core_stmts false p.statements) (promised false p.statements)
  by false = promises_nothing [] (λ x. refl) (core_stmts false p.statements)
