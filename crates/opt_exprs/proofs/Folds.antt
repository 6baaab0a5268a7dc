-- A call that has a value over constants folds to it, by the rule of its operator or of its name.
use Rattle.std.proofs.Common.{◌≡◌, Bool, true, false, List, [], ◌∷◌, ◌++◌, Option, Some, None, refl, sym, ap, ◌∙◌, subst, if◌then◌else◌}
use Rattle.std.specs.Prelude.{codes}
use Rattle.std.specs.Option.{option_map}
use Rattle.std.proofs.lemmas.Slice.Eq.{bytes_eq-Decides}
use Rattle.rhai_base.specs.Value.{Text, Value, UnitV, TextV, PointerV, Values, no_values, items, values, same_text, is_unit}
use Rattle.base_tokens.specs.Names.{is_valid_name}
use Rattle.theory_meaning.specs.Constants.{constant_value, constant_values, value_and, constant_for}
use Rattle.theory_meaning.specs.Engine.{Engine}
use Rattle.theory_meaning.specs.Tree.{CallToken, NoToken, OfOperator, OfOther, Callee, Expr, DynamicConstant, FnCall, Exprs, no_exprs, expr, Stmt, ExprStmt, FnCallStmt}
use Rattle.theory_meaning.specs.Walk.{OfExpr}
use Rattle.theory_rewriting.specs.Answering.{AnswersNothing}
use Rattle.theory_rewriting.specs.Clear.{IsClearExpr}
use Rattle.theory_rewriting.specs.Context.{Context}
use Rattle.theory_rewriting.specs.Folding.{folded}
use Rattle.theory_rewriting.specs.Known.{Known}
use Rattle.theory_rewriting.specs.Parts.{constant_of, named}
use Rattle.theory_rewriting.specs.Residue.{IsReducedExpr}
use Rattle.theory_rewriting.specs.Rules as rule
use Rattle.theory_rewriting.specs.Rules.{ExprRule, StmtRule}
use Rattle.theory_rewriting.proofs.Firing.{stmt_fired_by}
use Rattle.theory_rewriting.specs.Steps.{Progress, here, Place, KeepsStmtParts, StmtKept}
use Rattle.theory_rewriting.proofs.Keeping.{keeps_constant_of, may_be_constant_of}
use Rattle.theory_rewriting.proofs.Plain.{is_plain_value, folded_plain}
use Rattle.opt_base.specs.declared.step.NodeStep.TheVariants as step
use Rattle.opt_base.specs.NodeSteps.{ExprStep, StmtStep}
use Rattle.opt_base.proofs.Stepping.{expr_stays, stmt_stays}
use Rattle.opt_exprs.specs.Holding.{Holds, HoldsStatement}
use Rattle.opt_exprs.specs.Words.{only, type_of, is_shared, pointer_named, curried, is_pointer, word_value, value_by, call_value, expr_value, statement_value, is_call, is_call_statement}
use Rattle.opt_exprs.proofs.Arguments.{first_of, alone}

-- ---- which rule it is

data Folds (r : Engine) : Callee → Exprs → Value → Type 0 where
  by_operator : {c : Callee} {es : Exprs} {v : Value} → folded r c es ≡ Some v → Folds r c es v
  by_type_of : {captures : Bool} {e : Expr} (v : Value) → constant_value e ≡ Some v → Folds r (named (codes "type_of") captures) (expr e no_exprs) (type_of r v)
  by_is_shared : {captures : Bool} {e : Expr} (v : Value) → constant_value e ≡ Some v → Folds r (named (codes "is_shared") captures) (expr e no_exprs) (is_shared v)
  by_fn : {captures : Bool} {e : Expr} (f : Text) → constant_value e ≡ Some (TextV f) → is_valid_name f ≡ true → Folds r (named (codes "Fn") captures) (expr e no_exprs) (PointerV f no_values)
  by_curry : {captures : Bool} {e : Expr} {es : Exprs} (f : Text) (us : Values) (vs : List Value) → constant_value e ≡ Some (PointerV f us) → constant_values es ≡ Some vs → Folds r (named (codes "curry") captures) (expr e es) (PointerV f (values (items us ++ vs)))

record Mapped (g : Value → Value) (o : Option Value) (v : Value) : Type 0 where
  pub value : Value
  pub is : o ≡ Some value
  pub made : g value ≡ v

mapped : (g : Value → Value) (o : Option Value) (v : Value) → option_map g o ≡ Some v → Mapped g o v
mapped g None v h = absurd cc
mapped g (Some u) v h = record { value = u; is = refl; made = cc }

module _ (r : Engine) (captures : Bool) (es : Exprs) where
  type_of_word : (v : Value) → option_map (type_of r) (only (constant_values es)) ≡ Some v → Folds r (named (codes "type_of") captures) es v
  type_of_word v h =
      let m = mapped (type_of r) (only (constant_values es)) v h in
      let a = alone es m.value m.is in
      subst (λ w. Folds r (named (codes "type_of") captures) es w) m.made (subst (λ xs. Folds r (named (codes "type_of") captures) xs (type_of r m.value)) (sym a.is) (by_type_of m.value a.value))

  is_shared_word : (v : Value) → option_map is_shared (only (constant_values es)) ≡ Some v → Folds r (named (codes "is_shared") captures) es v
  is_shared_word v h =
      let m = mapped is_shared (only (constant_values es)) v h in
      let a = alone es m.value m.is in
      subst (λ w. Folds r (named (codes "is_shared") captures) es w) m.made (subst (λ xs. Folds r (named (codes "is_shared") captures) xs (is_shared m.value)) (sym a.is) (by_is_shared m.value a.value))

  fn_valid : (f : Text) (v : Value) (b : Bool) → only (constant_values es) ≡ Some (TextV f) → is_valid_name f ≡ b → (if b then Some (PointerV f no_values) else None) ≡ Some v → Folds r (named (codes "Fn") captures) es v
  fn_valid f v true p q h =
      let a = alone es (TextV f) p in
      let same : PointerV f no_values ≡ v = cc in
      subst (λ w. Folds r (named (codes "Fn") captures) es w) same (subst (λ xs. Folds r (named (codes "Fn") captures) xs (PointerV f no_values)) (sym a.is) (by_fn f a.value q))
  fn_valid f v false p q h = absurd cc

  fn_word : (v : Value) (o : Option Value) → only (constant_values es) ≡ o → pointer_named o ≡ Some v → Folds r (named (codes "Fn") captures) es v
  fn_word v (Some (TextV f)) p h = fn_valid f v (is_valid_name f) p refl h
  fn_word v _ p h = absurd cc

  curry_word : (v : Value) (o : Option (List Value)) → constant_values es ≡ o → curried o ≡ Some v → Folds r (named (codes "curry") captures) es v
  curry_word v (Some (PointerV f us ∷ vs)) p h =
      let a = first_of es (PointerV f us) vs p in
      let same : PointerV f (values (items us ++ vs)) ≡ v = cc in
      subst (λ w. Folds r (named (codes "curry") captures) es w) same (subst (λ xs. Folds r (named (codes "curry") captures) xs (PointerV f (values (items us ++ vs)))) (sym a.is) (by_curry f us vs a.value a.values))
  curry_word v _ p h = absurd cc

  called : (f g : Text) (v : Value) → same_text f g ≡ true → Folds r (named g captures) es v → Folds r (named f captures) es v
  called f g v p q = subst (λ x. Folds r (named x captures) es v) (sym ((bytes_eq-Decides f g).0 p)) q

  by_last : (f : Text) (v : Value) (b : Bool) → same_text f (codes "curry") ≡ b → (if b then curried (constant_values es) else None) ≡ Some v → Folds r (named f captures) es v
  by_last f v true p h = called f (codes "curry") v p (curry_word v (constant_values es) refl h)
  by_last f v false p h = absurd cc

  by_third : (f : Text) (v : Value) (b : Bool) → same_text f (codes "Fn") ≡ b → (if b then pointer_named (only (constant_values es)) else (if same_text f (codes "curry") then curried (constant_values es) else None)) ≡ Some v → Folds r (named f captures) es v
  by_third f v true p h = called f (codes "Fn") v p (fn_word v (only (constant_values es)) refl h)
  by_third f v false p h = by_last f v (same_text f (codes "curry")) refl h

  by_second : (f : Text) (v : Value) (b : Bool) → same_text f (codes "is_shared") ≡ b → (if b then option_map is_shared (only (constant_values es)) else (if same_text f (codes "Fn") then pointer_named (only (constant_values es)) else (if same_text f (codes "curry") then curried (constant_values es) else None))) ≡ Some v → Folds r (named f captures) es v
  by_second f v true p h = called f (codes "is_shared") v p (is_shared_word v h)
  by_second f v false p h = by_third f v (same_text f (codes "Fn")) refl h

  by_first : (f : Text) (v : Value) (b : Bool) → same_text f (codes "type_of") ≡ b → (if b then option_map (type_of r) (only (constant_values es)) else (if same_text f (codes "is_shared") then option_map is_shared (only (constant_values es)) else (if same_text f (codes "Fn") then pointer_named (only (constant_values es)) else (if same_text f (codes "curry") then curried (constant_values es) else None)))) ≡ Some v → Folds r (named f captures) es v
  by_first f v true p h = called f (codes "type_of") v p (type_of_word v h)
  by_first f v false p h = by_second f v (same_text f (codes "is_shared")) refl h

  by_word : (f : Text) (v : Value) → word_value r f (constant_values es) ≡ Some v → Folds r (named f captures) es v
  by_word f v h = by_first f v (same_text f (codes "type_of")) refl h

folds : (r : Engine) (c : Callee) (es : Exprs) (v : Value) → call_value r c es ≡ Some v → Folds r c es v
folds r c es v h = by c.namespace c.name c.captures c.token h where
  by : (ns : List Text) (f : Text) (captures : Bool) (t : CallToken) → value_by r t (record { namespace = ns; name = f; captures = captures; token = t }) es ≡ Some v → Folds r (record { namespace = ns; name = f; captures = captures; token = t }) es v
  by [] f captures NoToken h = by_word r captures es f v h
  by (n ∷ ns) f captures NoToken h = absurd cc
  by ns f captures (OfOperator op) h = by_operator h
  by ns f captures OfOther h = by_operator h

-- ---- the constant that holds a value

pub held_for : (v : Value) → is_pointer v ≡ false → constant_for v ≡ constant_of v
held_for (PointerV f us) h = absurd cc
held_for _ h = refl

pub held_pointer : (v : Value) → is_pointer v ≡ true → DynamicConstant v ≡ constant_of v
held_pointer (PointerV f us) h = refl
held_pointer _ h = absurd cc

plain_held : (v : Value) → is_plain_value v ≡ true → constant_for v ≡ constant_of v
plain_held (PointerV f us) h = absurd cc
plain_held _ h = refl

plain_not_unit : (v : Value) → is_plain_value v ≡ true → is_unit v ≡ false
plain_not_unit UnitV h = absurd cc
plain_not_unit _ h = refl

not_unit : {r : Engine} {c : Callee} {es : Exprs} {v : Value} → Folds r c es v → is_unit v ≡ false
not_unit {r = r} {c = c} {es = es} {v = v} (by_operator h) = plain_not_unit v (folded_plain r c es v h)
not_unit (by_type_of v h) = refl
not_unit (by_is_shared v h) = refl
not_unit (by_fn f h valid) = refl
not_unit (by_curry f us vs h q) = refl

-- ---- the rules

expr_folds : (k : Context) {c : Callee} {es : Exprs} {v : Value} → Folds k.engine c es v → ExprRule k (FnCall c es) (constant_of v)
expr_folds k {c = c} {es = es} {v = v} (by_operator h) = subst (λ e. ExprRule k (FnCall c es) e) (plain_held v (folded_plain k.engine c es v h)) (rule.operator_folds h)
expr_folds k (by_type_of v h) = rule.type_of_folds v h
expr_folds k (by_is_shared v h) = rule.is_shared_folds v h
expr_folds k (by_fn f h valid) = rule.fn_folds f h valid
expr_folds k (by_curry f us vs h q) = rule.curry_folds f us vs h q

stmt_folds : (k : Context) (w : Bool) {c : Callee} {es : Exprs} {v : Value} → Folds k.engine c es v → StmtRule k w (FnCallStmt c es) (ExprStmt (constant_of v))
stmt_folds k w f = rule.call_statement_folds (expr_folds k f)

-- ---- the statement of a constant has parts that are reduced and clear

constant_answers : (v : Value) → AnswersNothing (OfExpr (constant_of v))
constant_answers UnitV = refl
constant_answers _ = refl

constant_reduced : (r : Engine) (v : Value) → IsReducedExpr r (constant_of v)
constant_reduced r UnitV = (tt, (tt, (tt, tt)))
constant_reduced r _ = (tt, (tt, (tt, tt)))

constant_clear : (ks : List Known) (v : Value) → IsClearExpr ks (constant_of v)
constant_clear ks UnitV = tt
constant_clear ks _ = tt

keeps_held : (x : Stmt) (v : Value) → KeepsStmtParts x (ExprStmt (constant_of v))
keeps_held x v = record { parts = λ r h. (tt, (constant_answers v, constant_reduced r v)); clear = λ ks h. constant_clear ks v }

-- ---- what came of a call

pub value_put : {r : Engine} {p : Place} {s s' : Progress} {e' : Expr} {v : Value} (e : Expr) → Some v ≡ expr_value r e → Holds s s' e' v → ExprStep true r p s s' e e'
value_put {r = r} {p = p} {s = s} {s' = s'} {v = v} (FnCall c es) h q =
    let f = folds r c es v (sym h) in
    subst (λ a. ExprStep true r p s s' (FnCall c es) a) (sym q.constant)
    (record { rule = expr_folds (here r s) f; stays = may_be_constant_of p (FnCall c es) v refl refl (not_unit f); fired = q.fired; known = q.known }, keeps_constant_of (FnCall c es) v)
value_put _ h q = absurd cc

pub value_put_as_statement : {r : Engine} {w : Bool} {s s' : Progress} {x' : Stmt} {v : Value} (x : Stmt) → Some v ≡ statement_value r x → HoldsStatement s s' x' v → StmtStep step.Rewritten r w s s' x x'
value_put_as_statement {r = r} {w = w} {s = s} {s' = s'} {v = v} (FnCallStmt c es) h q =
    let f = folds r c es v (sym h) in
    subst (λ a. StmtStep step.Rewritten r w s s' (FnCallStmt c es) a) (sym q.constant)
    (stmt_fired_by q.fired q.known (stmt_folds (here r s) w f), keeps_held (FnCallStmt c es) v)
value_put_as_statement _ h q = absurd cc

-- a call without a value has none by its operator
unfolded : (r : Engine) (c : Callee) (es : Exprs) → None ≡ call_value r c es → folded r c es ≡ None
unfolded r c es h = by c.namespace c.name c.captures c.token h where
  by : (ns : List Text) (f : Text) (captures : Bool) (t : CallToken) → None ≡ value_by r t (record { namespace = ns; name = f; captures = captures; token = t }) es → folded r (record { namespace = ns; name = f; captures = captures; token = t }) es ≡ None
  by ns f captures NoToken h = refl
  by ns f captures (OfOperator op) h = sym h
  by ns f captures OfOther h = sym h

-- nor does it fold by any rule
by_its_operator : (r : Engine) (c : Callee) (es : Exprs) (v : Value) → folded r c es ≡ Some v → call_value r c es ≡ Some v
by_its_operator r c es v h = by c.namespace c.name c.captures c.token h where
  by : (ns : List Text) (f : Text) (captures : Bool) (t : CallToken) → folded r (record { namespace = ns; name = f; captures = captures; token = t }) es ≡ Some v → value_by r t (record { namespace = ns; name = f; captures = captures; token = t }) es ≡ Some v
  by ns f captures NoToken h = absurd cc
  by ns f captures (OfOperator op) h = h
  by ns f captures OfOther h = h

has_value : {r : Engine} {c : Callee} {es : Exprs} {v : Value} → Folds r c es v → call_value r c es ≡ Some v
has_value {r = r} {c = c} {es = es} {v = v} (by_operator h) = by_its_operator r c es v h
has_value {r = r} (by_type_of v h) = ap (λ o. option_map (type_of r) (only (value_and o (Some [])))) h
has_value (by_is_shared v h) = ap (λ o. option_map is_shared (only (value_and o (Some [])))) h
has_value (by_fn f h valid) = ap (λ o. pointer_named (only (value_and o (Some [])))) h ∙ ap (λ b. if b then Some (PointerV f no_values) else None) valid
has_value {es = expr e es} (by_curry f us vs h q) = ap (λ o. curried (value_and o (constant_values es))) h ∙ ap (λ o. curried (value_and (Some (PointerV f us)) o)) q

abbrev FoldsAt : Engine → Expr → Type 0
FoldsAt r (FnCall c es) = (v : Value) × Folds r c es v
FoldsAt r _ = Unit {0}

expr_rule_folds : {k : Context} {e e' : Expr} → ExprRule k e e' → FoldsAt k.engine e
expr_rule_folds (rule.operator_folds {v = v} h) = (v, by_operator h)
expr_rule_folds (rule.type_of_folds v h) = (_, by_type_of v h)
expr_rule_folds (rule.is_shared_folds v h) = (_, by_is_shared v h)
expr_rule_folds (rule.fn_folds f h valid) = (_, by_fn f h valid)
expr_rule_folds (rule.curry_folds f us vs h q) = (_, by_curry f us vs h q)
expr_rule_folds _ = tt

stmt_rule_folds : {k : Context} {w : Bool} {c : Callee} {es : Exprs} {x' : Stmt} → StmtRule k w (FnCallStmt c es) x' → (v : Value) × Folds k.engine c es v
stmt_rule_folds (rule.call_statement_folds q) = expr_rule_folds q

none_folds : {r : Engine} {c : Callee} {es : Exprs} → None ≡ call_value r c es → (v : Value) × Folds r c es v → ⊥
none_folds h f = let value = has_value f.1 in absurd cc

pub call_stays : {r : Engine} {p : Place} {s : Progress} (e : Expr) → is_call e ≡ true → None ≡ expr_value r e → ExprStep false r p s s e e
call_stays {r = r} (FnCall c es) i h = expr_stays (unfolded r c es h) refl (λ q. refl) (λ _ e' q m. none_folds h (expr_rule_folds q))
call_stays _ i h = absurd cc

pub call_stays_as_statement : {r : Engine} {s : Progress} (x : Stmt) → is_call_statement x ≡ true → None ≡ statement_value r x → StmtKept r s s x x
call_stays_as_statement {r = r} (FnCallStmt c es) i h = stmt_stays (unfolded r c es h) (λ w x' q. none_folds h (stmt_rule_folds q))
call_stays_as_statement _ i h = absurd cc
