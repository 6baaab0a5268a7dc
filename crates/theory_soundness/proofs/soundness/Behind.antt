-- Behind a statement that stays: what it pushes is known, or nothing is, and its value is unit where it surely is.
use Rattle.std.proofs.Common.{◌≡◌, ℕ, Bool, true, false, ◌&&◌, [], ◌∷◌, Option, Some, None, refl, sym, ap, ◌∙◌, subst}
use Rattle.rhai_base.specs.Value.{Text, Value, UnitV}
use Rattle.theory_meaning.specs.Act.{IsVariable, IsConstant, IsAlias, IsExport, Store, Gives, Ended, Result, At, Act, Acts, Named, Env, and_then, run, run_all}
use Rattle.theory_meaning.specs.ActForms.{each_value, then_line}
use Rattle.theory_meaning.specs.Constants.{constant_value}
use Rattle.theory_meaning.specs.Desugar.{core_expr, core_stmt}
use Rattle.theory_meaning.specs.Meaning.{exporting, act, line}
use Rattle.theory_meaning.specs.Tree.{Expr, Stmt, Var, Import, Export}
use Rattle.theory_rewriting.specs.Context.{Context, ListContext, ListKind, known_behind}
use Rattle.theory_rewriting.specs.Evals.{keeps_names}
use Rattle.theory_rewriting.specs.SurelyUnit.{is_surely_unit}
use Rattle.theory_rewriting.proofs.Knowing.{after_knows_less}
use Rattle.theory_soundness.proofs.simulation.Setting.{Setting, Start, noted, past, knowing_fewer, world}
use Rattle.theory_soundness.proofs.simulation.Simulation.{all_equal}
use Rattle.theory_soundness.proofs.simulation.Lists.{SimulatesList, list_of_all, list_trans, list_knowing_less, list_line, list_noted, list_beside, list_exporting}
use Rattle.theory_soundness.proofs.acts.Within.{unit_first}
use Rattle.theory_soundness.proofs.acts.SurelyUnit.{no, UnitOnly, unit_of, surely_unit}
use Rattle.theory_soundness.proofs.rules.Constants.{OrWrong, is, wrong, Given, expr_given}

-- what comes after a constant has its value, or isn't reached
constant_first : {k : Context} (c : Setting k) (m : ListKind) (e : Expr) (v : Value) (f g : Value → Acts) → constant_value e ≡ Some v → f v ≡ g v → SimulatesList c m (then_line (act (world c) (core_expr c.in_loop e)) f) (then_line (act (world c) (core_expr c.in_loop e)) g)
constant_first c m e v f g h j = list_of_all m (all_equal (λ n.
    alike n.env (run (world c) n.env (act (world c) (core_expr c.in_loop e)) n.store n.turns) n.store n.turns
    (subst (λ o. Given (world c) n.env c.in_loop o (run (world c) n.env (act (world c) (core_expr c.in_loop e)) n.store n.turns) n.store n.turns) h (expr_given (world c) n.env c.in_loop e n.store n.turns)))) where
      alike : (env : Env) (r : Result) (s : Store) (t : ℕ) → OrWrong r (At (Ended (Gives v)) s t) s t → and_then r (λ x. run_all (world c) env (each_value f x)) ≡ and_then r (λ x. run_all (world c) env (each_value g x))
      alike env r s t (is q) = ap (λ z. and_then z (λ x. run_all (world c) env (each_value f x))) q ∙ ap (λ p. run_all (world c) env p s t) j ∙ sym (ap (λ z. and_then z (λ x. run_all (world c) env (each_value g x))) q)
      alike env r s t (wrong q) = ap (λ z. and_then z (λ x. run_all (world c) env (each_value f x))) q ∙ sym (ap (λ z. and_then z (λ x. run_all (world c) env (each_value g x))) q)

-- a constant
constant_line : {k : Context} (c : Setting k) (m : ListKind) (x : Text) (b : Bool) (e : Expr) (o : Option Value) (p q : Acts) → constant_value e ≡ o → SimulatesList (noted x o c) m p q → SimulatesList c m (then_line (act (world c) (core_expr c.in_loop e)) (λ v. Named x IsConstant v (exporting b x v p))) (then_line (act (world c) (core_expr c.in_loop e)) (λ v. Named x IsConstant v (exporting b x v q)))
constant_line c m x b e None p q j h = list_line m _ (λ v. list_noted m x None IsConstant v (λ w y. absurd (let z : None ≡ Some w = y in cc)) (list_exporting m b x v h))
constant_line c m x b e (Some v) p q j h =
    list_trans m (constant_first c m e v (λ u. Named x IsConstant u (exporting b x u p)) (λ u. Named x IsConstant v (exporting b x v p)) j refl)
    (list_trans m (list_line m _ (λ u. list_noted m x (Some v) IsConstant v (λ w y. (refl, let z : Some v ≡ Some w = y in cc)) (list_exporting m b x v h)))
    (constant_first c m e v (λ u. Named x IsConstant v (exporting b x v q)) (λ u. Named x IsConstant u (exporting b x u q)) j refl))

-- an act that surely gives unit, or not
act_tail : {k : Context} (c : Setting k) (m : ListKind) (a : Act) (b : Bool) {f f' : Value → Acts} → ((n : Start k) → b ≡ true → UnitOnly (world c) n.env a) → ((v : Value) → (b ≡ true → v ≡ UnitV) → SimulatesList c m (f v) (f' v)) → SimulatesList c m (then_line a f) (then_line a f')
act_tail c m a false u h = list_line m a (λ v. h v (λ z. no z))
act_tail c m a true {f = f} {f' = f'} u h =
    list_trans m {q = then_line a (λ v. f UnitV)} (list_of_all m (all_equal (λ n. unit_first (world c) n.env f (u n refl) n.store n.turns)))
    (list_trans m {q = then_line a (λ v. f' UnitV)} (list_line m a (λ v. h UnitV (λ z. refl)))
    (list_of_all m (all_equal (λ n. sym (unit_first (world c) n.env f' (u n refl) n.store n.turns)))))

-- under all that it adds
tail_knowing : {k : Context} (c : Setting k) (m : ListKind) (s : Stmt) {f f' : Value → Acts} → ((v : Value) → (is_surely_unit s ≡ true → v ≡ UnitV) → SimulatesList (knowing_fewer (known_behind s k.known) c) m (f v) (f' v)) → SimulatesList c m (line (world c) (core_stmt c.in_loop s) f) (line (world c) (core_stmt c.in_loop s) f')
tail_knowing c m (Var false b x e) h = list_line m _ (λ v. list_noted m x None IsVariable v (λ w y. absurd (let z : None ≡ Some w = y in cc)) (list_exporting m b x v (h UnitV (λ z. refl))))
tail_knowing c m (Var true b x e) h = constant_line c m x b e (constant_value e) _ _ refl (h UnitV (λ z. refl))
tail_knowing c m (Import e []) h = list_line m _ (λ v. h v (λ z. no z))
tail_knowing c m (Import e (x ∷ xs)) h = list_line m _ (λ v. list_beside m (x ∷ xs) IsAlias v refl (h UnitV (λ z. refl)))
tail_knowing c m (Export x y) h = list_line m _ (λ v. list_beside m _ IsExport v refl (h UnitV (λ z. refl)))
tail_knowing c m s h = act_tail c m _ (is_surely_unit s) (λ n z. unit_of (world c) n.env (surely_unit (world c) n.env n.unbroken c.in_loop s z)) h

pub tail_sound : (k : ListContext) (c : Setting k.context) (m : ListKind) (s : Stmt) {f f' : Value → Acts} → ((v : Value) → (is_surely_unit s ≡ true → v ≡ UnitV) → SimulatesList (past k s c) m (f v) (f' v)) → SimulatesList c m (line (world c) (core_stmt c.in_loop s) f) (line (world c) (core_stmt c.in_loop s) f')
tail_sound k c m s h = tail_knowing c m s (λ v z. list_knowing_less {c = knowing_fewer (known_behind s k.context.known) c} m (after_knows_less (k.is_open && keeps_names s) s k.context.known) (h v z))
