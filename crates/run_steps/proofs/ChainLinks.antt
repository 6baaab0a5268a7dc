-- The nodes of a chain, one after another.
use Rattle.std.proofs.Common.{◌≡◌, ◌+◌, ◌≤◌, Bool, true, false, cond, refl, sym, ap, ◌∙◌, subst, arith}
use Rattle.std.specs.Prelude.{IfSome}
use Rattle.ast_types.specs.declared.expr.Expr.{Expr}
use Rattle.ast_types.specs.Reading.{chain_flags, expr_of, is_negated}
use Rattle.ast_types.proofs.Cases.{ExprCase, expr_cases, dynamic_constant_case, bool_constant_case, integer_constant_case, float_constant_case, char_constant_case, string_constant_case, interpolated_string_case, array_case, map_case, unit_case, variable_case, this_ptr_case, property_case, method_call_case, braces_case, call_case, dot_case, index_case, and_case, or_case, coalesce_case}
use Rattle.theory_meaning.specs.Core as core
use Rattle.theory_meaning.specs.Desugar.{steps_of}
use Rattle.theory_meaning.specs.Tree as tree
use Rattle.theory_meaning.specs.Weight.{expr_weight}
use Rattle.run_steps.specs.declared.nodes.links.Link.{Link}
use Rattle.run_steps.specs.declared.nodes.links.Rest.{Rest}
use Rattle.run_steps.specs.Links.{IsLast, link_steps, rest_steps, step_core, steps_on}
use Rattle.rhai_ast.specs.Nodes.{is_dot}
use Rattle.ast_types.proofs.OtherKinds.{NoDot, NoIndex}

last_by : (loop dot : Bool) (k : tree.ChainFlags) (p : core.Step) (r : tree.Expr) → k.breaks ≡ true → steps_of loop dot k p r ≡ core.last k.negated p
last_by loop dot k p (tree.Dot m a b) h = ap (λ c. cond c (core.last k.negated p) (core.more k.negated (step_core loop dot a) (steps_of loop true m (step_core loop true b) b))) h
last_by loop dot k p (tree.Index m a b) h = ap (λ c. cond c (core.last k.negated p) (core.more k.negated (step_core loop dot a) (steps_of loop false m (step_core loop false b) b))) h
last_by loop dot k p _ h = refl

end_by : (loop dot : Bool) (k : tree.ChainFlags) (q : core.Step) {x : Expr} {t : tree.Expr} → ExprCase x t → NoDot x → NoIndex x → steps_of loop dot k q t ≡ core.last k.negated q
end_by loop dot k q (dot_case x f p) h i = absurd (h x f p refl)
end_by loop dot k q (index_case x f p) h i = absurd (i x f p refl)
end_by loop dot k q (property_case n p) h i = refl
end_by loop dot k q (method_call_case f p) h i = refl
end_by loop dot k q (dynamic_constant_case v p) h i = refl
end_by loop dot k q (bool_constant_case b p) h i = refl
end_by loop dot k q (integer_constant_case n p) h i = refl
end_by loop dot k q (float_constant_case y p) h i = refl
end_by loop dot k q (char_constant_case c p) h i = refl
end_by loop dot k q (string_constant_case t p) h i = refl
end_by loop dot k q (interpolated_string_case xs p) h i = refl
end_by loop dot k q (array_case xs p) h i = refl
end_by loop dot k q (map_case m p) h i = refl
end_by loop dot k q (unit_case p) h i = refl
end_by loop dot k q (variable_case v short p) h i = refl
end_by loop dot k q (this_ptr_case p) h i = refl
end_by loop dot k q (braces_case b) h i = refl
end_by loop dot k q (call_case c p) h i = refl
end_by loop dot k q (and_case xs p) h i = refl
end_by loop dot k q (or_case xs p) h i = refl
end_by loop dot k q (coalesce_case xs p) h i = refl

module _ (rest : Rest) (l : Link) where
  last_is : (loop : Bool) → steps_of loop (is_dot rest.chain) (chain_flags rest.options) (step_core loop (is_dot rest.chain) (expr_of rest.right.now)) (expr_of rest.right.now) ≡ core.last (is_negated rest.options) (step_core loop (is_dot rest.chain) (expr_of rest.right.now)) → IsLast rest.right.now l → rest_steps loop rest ≡ link_steps loop rest l
  last_is loop h is = h ∙ (λ i. steps_on loop (is_negated rest.options) (step_core loop (is_dot rest.chain) (expr_of (sym is.0 i))) (sym is.1 i))

  pub link_ends : NoDot rest.right.now → NoIndex rest.right.now → IsLast rest.right.now l → (loop : Bool) → rest_steps loop rest ≡ link_steps loop rest l
  link_ends h i is loop = last_is loop (end_by loop (is_dot rest.chain) (chain_flags rest.options) (step_core loop (is_dot rest.chain) (expr_of rest.right.now)) (expr_cases rest.right.now) h i) is

-- a last link weighs no more than its side
pub last_weighs : (e : Expr) (l : Link) → IsLast e l → (expr_weight (expr_of l.argument.now) ≤ expr_weight (expr_of e)) × IfSome l.rest (λ r. expr_weight (expr_of r.right.now) + 1 ≤ expr_weight (expr_of e))
last_weighs e l is = (subst (λ x. expr_weight (expr_of x) ≤ expr_weight (expr_of e)) (sym is.0) (omega arith), subst (λ o. IfSome o (λ r. expr_weight (expr_of r.right.now) + 1 ≤ expr_weight (expr_of e))) (sym is.1) tt)
