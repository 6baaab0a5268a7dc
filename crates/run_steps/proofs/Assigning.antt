-- When an operator's assignment is a host call.
use Rattle.std.proofs.Common.{◌≡◌, Bool, true, false, not, ◌&&◌, List, [], ◌∷◌, map, Option, Some, None, is_none, Result, Ok, Err, refl, sym, ap, ◌∙◌}
use Rattle.rhai_base.specs.declared.dynamic.Dynamic.{Dynamic}
use Rattle.rhai_base.specs.Value.{Value, type_name}
use Rattle.base_tokens.specs.declared.token.Token.{Token}
use Rattle.base_tokens.specs.declared.error.Fault.{Fault}
use Rattle.base_tokens.specs.declared.error.Fault.TheVariants.{Arithmetic}
use Rattle.rhai_base.specs.Builtin.{binary_at, computed_of, operator_of, row}
use Rattle.rhai_base.specs.Operators.{Operator, binary, computed}
use Rattle.theory_meaning.specs.Act.{World}
use Rattle.theory_meaning.specs.ActForms.{ask_host, choose}
use Rattle.theory_meaning.specs.Calls.{assigned, operate}
use Rattle.theory_meaning.specs.Engine.{Engine, Override, asks_assigning, assigning, has_entry, has_override, is_overridden}
use Rattle.theory_meaning.specs.Shape.{is_none as no_override}

entry_by : (r : Option (Result Dynamic Fault)) → is_none r ≡ not (has_entry (computed_of r))
entry_by None = refl
entry_by (Some (Ok v)) = refl
entry_by (Some (Err Arithmetic)) = refl

-- fast operators: where the table has no entry
pub asks_where_none : (e : Engine) (op : Token) (o : Operator) (v w : Value) (r : Option (Result Dynamic Fault)) → operator_of op ≡ Some o → is_overridden e (assigning o) (v ∷ w ∷ []) ≡ true → e.fast_operators ≡ true → computed_of r ≡ binary_at op v w → is_none r ≡ asks_assigning e o (v ∷ w ∷ [])
unfolding computed
asks_where_none e op o v w r h k f c =
    entry_by r ∙ ap (λ x. not (has_entry x)) (c ∙ ap (row (λ p. binary p v w)) h)
    ∙ sym ((λ i. k i && not (f i && has_entry (computed o (v ∷ w ∷ [])))))

-- no operator is overridden
pub asks_for_none : (e : Engine) (o : Operator) (vs : List Value) (b : Bool) → b ≡ not (no_override e.overrides) → b ≡ false → false ≡ asks_assigning e o vs
asks_for_none e o vs b h k = by e.overrides (sym h ∙ k) where
  by : (os : List Override) → not (no_override os) ≡ false → false ≡ (has_override os (assigning o) (map type_name vs) && not (e.fast_operators && has_entry (computed o vs)))
  by [] z = refl
  by (p ∷ os) z = absurd (let f : true ≡ false = z in cc)

pub assigned_asks : (w : World) (o : Operator) (old new : Value) (asks : Bool) → asks ≡ asks_assigning w.engine o (old ∷ new ∷ []) → asks ≡ true → assigned w (Some o) old new ≡ ask_host (assigning o) (old ∷ new ∷ [])
assigned_asks w o old new asks e h = ap (λ b. choose b (ask_host (assigning o) (old ∷ new ∷ [])) (operate w o (old ∷ new ∷ []))) (sym e ∙ h)
