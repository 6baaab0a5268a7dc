-- The rules of loops, `try` and nested `if`s: a lemma each, of the rule's name.
use Rattle.std.proofs.Common.{◌≡◌, ◌<◌, ℕ, zero, suc, Bool, true, false, List, [], length, Option, Some, None, refl, sym, subst}
use Rattle.rhai_base.specs.Value.{Text, Value, UnitV, BoolV}
use Rattle.theory_meaning.specs.Act.{World, Store, WrongKind, Act, Scoped, Acts, Env, rounds, run}
use Rattle.theory_meaning.specs.ActForms.{give, unit, ◌>>=◌, truth, branch, if_true}
use Rattle.theory_meaning.specs.Constants.{constant_bool}
use Rattle.theory_meaning.specs.Control.{round}
use Rattle.theory_meaning.specs.Core as core
use Rattle.theory_meaning.specs.Desugar.{core_expr, core_exprs, core_stmts, guard_by, try_by}
use Rattle.theory_meaning.specs.Meaning.{act, both, loop, deed, acts}
use Rattle.theory_meaning.specs.Queries.{are_internally_pure}
use Rattle.theory_meaning.specs.Shape.{catch_name}
use Rattle.theory_meaning.specs.Tree.{Expr, UnitConstant, And, Exprs, no_exprs, expr, Noop, If, While, TryCatch, Share, Stmts, no_stmts, stmt}
use Rattle.theory_meaning.proofs.PureTrees.{internal_list}
use Rattle.theory_rewriting.specs.Context.{Context}
use Rattle.theory_rewriting.specs.Known.{unknown}
use Rattle.theory_rewriting.specs.Operands.{with_last}
use Rattle.theory_soundness.proofs.simulation.Laws.{simulates_assoc, simulates_unassoc, simulates_stuck, simulates_braces, calm_ending_goes}
use Rattle.theory_soundness.proofs.simulation.Setting.{Setting, world}
use Rattle.theory_soundness.proofs.simulation.Simulation.{Simulates, simulates_trans, simulates_refl, simulates_equal}
use Rattle.theory_soundness.proofs.simulation.Forms.{simulates_bind, simulates_if, stmt_refl, stmt_of_deed}
use Rattle.theory_soundness.proofs.rules.Given.{bool_core}
use Rattle.theory_rewriting.proofs.rules.Control.{outer, joined_if}
use Rattle.theory_soundness.proofs.rules.Sound.{StmtSound}

-- ---- `while`

-- a constant bool is no literal unit
guard_when : (e : Expr) (b : Bool) (x : core.Expr) → constant_bool e ≡ Some b → guard_by e x ≡ core.When x
guard_when UnitConstant b x h = absurd (let z : None ≡ Some b = h in cc)
guard_when _ b x h = refl

at_once : (n : ℕ) (w : World) (env : Env) (a : Act) (s : Store) (t : ℕ) → rounds n (run w env (give (BoolV false) >>= λ v. if_true v a unit)) s t ≡ run w env unit s t
at_once zero w env a s t = refl
at_once (suc n) w env a s t = refl

module _ {k : Context} (c : Setting k) where
  -- by what the guard is
  guarded : (e : Expr) (b : Bool) (body : Acts) (a : Act) → constant_bool e ≡ Some b → Simulates c (loop (world c) (core.When (core.Constant (BoolV b))) body) a → Simulates c (loop (world c) (guard_by e (core_expr c.in_loop e)) body) a
  guarded e b body a h j =
      subst (λ g. Simulates c (loop (world c) g body) a) (sym (guard_when e b (core_expr c.in_loop e) h))
      (subst (λ x. Simulates c (loop (world c) (core.When x) body) a) (sym (bool_core c.in_loop e b h)) j)

pub while_false : {k : Context} {w : Bool} {e : Expr} {body : Stmts} → constant_bool e ≡ Some false → StmtSound k w (While e body) Noop
while_false {e = e} {body = body} h = record {
  sound = λ c. stmt_of_deed (guarded c e false (acts (world c) false (core_stmts true body) UnitV) unit h (simulates_equal (λ m. at_once m.env.rounds (world c) m.env (round (acts (world c) false (core_stmts true body) UnitV)) m.store m.turns)));
}

pub while_true : {k : Context} {w : Bool} {e : Expr} {body : Stmts} → constant_bool e ≡ Some true → StmtSound k w (While e body) (While UnitConstant body)
while_true {e = e} {body = body} h = record {
  sound = λ c. stmt_of_deed (guarded c e true (acts (world c) false (core_stmts true body) UnitV) _ h (simulates_equal (λ m. refl)));
}

-- ---- `try`

try_goes : {k : Context} (c : Setting k) (x : Option (Option Text)) (body branch : Stmts) → are_internally_pure body ≡ true → Simulates c (deed (world c) (try_by x (core_stmts c.in_loop body) (core_stmts c.in_loop branch))) unit
try_goes c None body branch h = simulates_stuck WrongKind unit
try_goes c (Some x) body branch h = calm_ending_goes _ _ unit (internal_list (world c) c.in_loop false body h UnitV).scoped (λ v. simulates_refl)

pub pure_try : {k : Context} {w : Bool} {x : Expr} {body branch : Stmts} → are_internally_pure body ≡ true → StmtSound k w (TryCatch x body branch) Noop
pure_try {x = x} {body = body} {branch = branch} h = record {
  sound = λ c. stmt_of_deed (try_goes c (catch_name x) body branch h);
}

-- ---- `if a { if b { .. } }`

module _ {k : Context} (c : Setting k) (ss : core.Stmts) where
  abbrev empty : Act
  empty = Scoped (acts (world c) true core.no_stmts UnitV)

  abbrev chosen_block : Value → Act
  chosen_block v = if_true v (Scoped (acts (world c) true ss UnitV)) empty

  inner_if : (o : Option Bool) → Simulates c (branch o (Scoped (acts (world c) true ss UnitV)) empty) (branch o (give (BoolV true)) (give (BoolV false)) >>= chosen_block)
  inner_if None = simulates_stuck WrongKind _
  inner_if (Some true) = simulates_equal (λ m. refl)
  inner_if (Some false) = simulates_equal (λ m. refl)

  outer_if : (b : core.Expr) (o : Option Bool) → Simulates c (branch o (act (world c) b >>= chosen_block) empty) (branch o (both (world c) (core.expr b core.no_exprs)) (give (BoolV false)) >>= chosen_block)
  outer_if b None = simulates_stuck WrongKind _
  outer_if b (Some true) =
      simulates_trans {b = act (world c) b >>= λ u. if_true u (give (BoolV true)) (give (BoolV false)) >>= chosen_block} (simulates_bind simulates_refl (λ u. inner_if (truth u)))
      (simulates_unassoc (act (world c) b) (λ u. if_true u (give (BoolV true)) (give (BoolV false))) chosen_block)
  outer_if b (Some false) = simulates_equal (λ m. refl)

  if_in_if : (a b : core.Expr) → Simulates c (deed (world c) (core.If a (core.stmt (core.Does (core.If b ss core.no_stmts)) core.no_stmts) core.no_stmts)) (deed (world c) (core.If (core.And (core.expr a (core.expr b core.no_exprs))) ss core.no_stmts))
  if_in_if a b =
      simulates_trans {b = act (world c) a >>= λ v. if_true v (act (world c) b >>= chosen_block) empty}
      (simulates_bind simulates_refl (λ v. simulates_if v (simulates_braces (deed (world c) (core.If b ss core.no_stmts))) simulates_refl))
      (simulates_trans {b = act (world c) a >>= λ v. if_true v (both (world c) (core.expr b core.no_exprs)) (give (BoolV false)) >>= chosen_block}
      (simulates_bind simulates_refl (λ v. outer_if b (truth v)))
      (simulates_unassoc (act (world c) a) (λ v. if_true v (both (world c) (core.expr b core.no_exprs)) (give (BoolV false))) chosen_block))

  -- an `&&`, then what one operand more decides
  abbrev decides : core.Expr → Value → Act
  decides b v = if_true v (act (world c) b >>= chosen_block) empty

  after_operand : (b : core.Expr) (rest more : Act) → Simulates c (rest >>= decides b) (more >>= chosen_block) → (o : Option Bool) → Simulates c (branch o rest (give (BoolV false)) >>= decides b) (branch o more (give (BoolV false)) >>= chosen_block)
  after_operand b rest more h None = simulates_equal (λ m. refl)
  after_operand b rest more h (Some true) = h
  after_operand b rest more h (Some false) = simulates_equal (λ m. refl)

  last_operand : (es : Exprs) (b : Expr) → Simulates c (both (world c) (core_exprs c.in_loop es) >>= decides (core_expr c.in_loop b)) (both (world c) (core_exprs c.in_loop (with_last es b)) >>= chosen_block)
  last_operand no_exprs b = simulates_trans {b = act (world c) (core_expr c.in_loop b) >>= chosen_block} (simulates_equal (λ m. refl)) (outer_if (core_expr c.in_loop b) (Some true))
  last_operand (expr e es) b =
      let rest = both (world c) (core_exprs c.in_loop es) in
      let more = both (world c) (core_exprs c.in_loop (with_last es b)) in
      simulates_trans (simulates_assoc (act (world c) (core_expr c.in_loop e)) (λ v. if_true v rest (give (BoolV false))) (decides (core_expr c.in_loop b)))
      (simulates_trans (simulates_bind simulates_refl (λ v. after_operand (core_expr c.in_loop b) rest more (last_operand es b) (truth v)))
      (simulates_unassoc (act (world c) (core_expr c.in_loop e)) (λ v. if_true v more (give (BoolV false))) chosen_block))

  if_in_conjunction : (es : Exprs) (b : Expr) → Simulates c (deed (world c) (core.If (core.And (core_exprs c.in_loop es)) (core.stmt (core.Does (core.If (core_expr c.in_loop b) ss core.no_stmts)) core.no_stmts) core.no_stmts)) (deed (world c) (core.If (core.And (core_exprs c.in_loop (with_last es b))) ss core.no_stmts))
  if_in_conjunction es b =
      simulates_trans {b = both (world c) (core_exprs c.in_loop es) >>= decides (core_expr c.in_loop b)}
      (simulates_bind simulates_refl (λ v. simulates_if v (simulates_braces (deed (world c) (core.If (core_expr c.in_loop b) ss core.no_stmts))) simulates_refl))
      (last_operand es b)

pub nested_if : {k : Context} {w : Bool} {a b : Expr} {ss : Stmts} → StmtSound k w (outer a b ss) (joined_if a b ss)
nested_if {w = w} {a = a} {b = b} {ss = ss} = record {
  sound = λ c. stmt_of_deed (if_in_if c (core_stmts c.in_loop ss) (core_expr c.in_loop a) (core_expr c.in_loop b));
}

pub nested_if_joins : {k : Context} {w : Bool} (es : Exprs) {b : Expr} {ss : Stmts} → StmtSound k w (outer (And es) b ss) (If (And (with_last es b)) ss no_stmts)
nested_if_joins es {b = b} {ss = ss} = record {
  sound = λ c. stmt_of_deed (if_in_conjunction c (core_stmts c.in_loop ss) es b);
}

-- ---- shared names, which have no meaning here

pub share_known : {k : Context} {w : Bool} {xs : List Text} → length (unknown k.known xs) < length xs → StmtSound k w (Share xs) (Share (unknown k.known xs))
share_known h = record {
  sound = λ c. stmt_refl;
}

pub share_nothing : {k : Context} {w : Bool} → StmtSound k w (Share []) Noop
share_nothing = record {
  sound = λ c. stmt_of_deed (simulates_stuck WrongKind unit);
}
