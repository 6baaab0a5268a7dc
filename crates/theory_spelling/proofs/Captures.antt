-- Lists with a `share` run alike: nothing behind it is run.
use Rattle.std.proofs.Common.{◌≡◌, ℕ, ℤ, ◌-◌, Bool, true, false, cond, List, [], ◌∷◌, ◌++◌, length, drop, Option, Some, None, refl, sym, ap, ◌∙◌, arith, length-append, append_assoc}
use Rattle.std.proofs.lemmas.Bool.{and_parts}
use Rattle.std.specs.Prelude.{if◌then◌else◌}
use Rattle.std.specs.Option.{option_map}
use Rattle.rhai_base.specs.Operators.{UpTo, Through, computed, binary}
use Rattle.rhai_base.specs.Value.{Text, Value, UnitV, BoolV, IntV, FloatV, CharV, TextV, ArrayV, MapV, RangeV, RangeInclusiveV, is_unit, values}
use Rattle.theory_meaning.specs.Act.{ScopeEntry, IsConstant, World, Env, Store, IsStuck, WrongKind, Halted, At, Act, Fail, Scoped, Named, run_all, leave, restore, inside}
use Rattle.theory_meaning.specs.ActForms.{give, ◌>>=◌}
use Rattle.theory_meaning.specs.Core as core
use Rattle.theory_meaning.specs.Desugar.{callee_by, core_expr, core_exprs, core_pairs, core_stmts}
use Rattle.theory_meaning.specs.Elements.{fields_of}
use Rattle.theory_meaning.specs.Meaning.{act, with_args, with_pairs, acts}
use Rattle.theory_meaning.specs.Shape.{is_map, is_callable}
use Rattle.theory_meaning.specs.Tree.{CallToken, OfOperator, Callee, Expr, DynamicConstant, BoolConstant, IntegerConstant, FloatConstant, CharConstant, StringConstant, UnitConstant, ArrayOf, MapOf, FnCall, And, Exprs, no_exprs, expr, Pairs, no_pairs, pair, Stmt, Var, Block, ExprStmt, Share, Stmts, no_stmts, stmt}
use Rattle.theory_meaning.proofs.Preserves.{keeps_refl, restore_keeps}
use Rattle.theory_spelling.specs.Captures.{shared, does_nothing, grouped, is_range_sign, is_integer, are_two_integers, is_given, are_given, have_given, with_known, is_known, closure_in, captured, settled_by, settled}
use Rattle.theory_spelling.proofs.Acts.{Same, SameAll, same_refl, same_trans, same_bind, all_refl, all_line}

pub restore_self : (es : List ScopeEntry) → restore es es ≡ es
restore_self es = restore_keeps (keeps_refl es)

drop_front : (more es : List ScopeEntry) → drop (length more) (more ++ es) ≡ es
drop_front [] es = refl
drop_front (e ∷ more) es = drop_front more es

restore_more : (more es : List ScopeEntry) → restore es (more ++ es) ≡ es
restore_more more es =
    let n : length (more ++ es) - length es ≡ length more = omega (arith, length-append more es) in
    ap (λ k. drop k (more ++ es)) n ∙ drop_front more es

module _ (w : World) (env : Env) (around : Bool) where
  -- ---- literals

  abbrev stuck : Act
  stuck = Fail WrongKind

  -- an act that gives a value at once, or is stuck at once
  data AtOnce (a : Act) : Type 0 where
    gives : (v : Value) → Same w env a (give v) → AtOnce a
    is_stuck : Same w env a stuck → AtOnce a

  -- several, whatever follows
  data AllAtOnce {V : Type 0} (a : (List V → Act) → Act) : Type 0 where
    all_give : (vs : List V) → ((next : List V → Act) → Same w env (a next) (next vs)) → AllAtOnce a
    one_is_stuck : ((next : List V → Act) → Same w env (a next) stuck) → AllAtOnce a

  with_value : {a : Act} {v : Value} (f : Value → Act) → Same w env a (give v) → Same w env (a >>= f) (f v)
  with_value f h = same_trans (same_bind h (λ u. same_refl)) (record { at = λ s t. refl })

  with_none : {a : Act} (f : Value → Act) → Same w env a stuck → Same w env (a >>= f) stuck
  with_none f h = same_trans (same_bind h (λ u. same_refl)) (record { at = λ s t. refl })

  constant_given : (b : Bool) (v : Value) → AtOnce (act w (cond b core.Ill (core.Constant v)))
  constant_given true v = is_stuck same_refl
  constant_given false v = gives v same_refl

  array_given : (es : Exprs) → AllAtOnce (with_args w (core_exprs around es)) → AtOnce (act w (core_expr around (ArrayOf es)))
  array_given es (all_give vs h) = gives (ArrayV (values vs)) (h _)
  array_given es (one_is_stuck h) = is_stuck (h _)

  map_given : (b : Bool) (ps : core.Pairs) → AllAtOnce (with_pairs w ps) → AtOnce (act w (cond b (core.MapOf ps) core.Ill))
  map_given true ps (all_give vs h) = gives (MapV (fields_of vs)) (h _)
  map_given true ps (one_is_stuck h) = is_stuck (h _)
  map_given false ps h = is_stuck same_refl

  abbrev two : Expr → Expr → core.Exprs
  two a b = core.expr (core_expr around a) (core.expr (core_expr around b) core.no_exprs)

  until_given : (b : Bool) (from to : ℤ) → AtOnce (act w (cond b (core.FnCall (core.OnOperator UpTo) (two (IntegerConstant from) (IntegerConstant to))) core.Ill))
  unfolding computed binary
  until_given true from to = gives (RangeV from to) (record { at = λ s t. refl })
  until_given false from to = is_stuck same_refl

  through_given : (b : Bool) (from to : ℤ) → AtOnce (act w (cond b (core.FnCall (core.OnOperator Through) (two (IntegerConstant from) (IntegerConstant to))) core.Ill))
  unfolding computed binary
  through_given true from to = gives (RangeInclusiveV from to) (record { at = λ s t. refl })
  through_given false from to = is_stuck same_refl

  range_by : (b : Bool) (c : Callee) (k : CallToken) (from to : ℤ) → is_range_sign k ≡ true → AtOnce (act w (cond b (core.FnCall (callee_by c k) (two (IntegerConstant from) (IntegerConstant to))) core.Ill))
  range_by b c (OfOperator UpTo) from to h = until_given b from to
  range_by b c (OfOperator Through) from to h = through_given b from to
  range_by b c _ from to h = absurd (cc)

  two_given : (b : Bool) (c : Callee) (k : CallToken) (from to : Expr) → is_range_sign k ≡ true → is_integer from ≡ true → is_integer to ≡ true → AtOnce (act w (cond b (core.FnCall (callee_by c k) (two from to)) core.Ill))
  two_given b c k (IntegerConstant from) (IntegerConstant to) h i j = range_by b c k from to h
  two_given b c k (IntegerConstant from) _ h i j = absurd (cc)
  two_given b c k _ to h i j = absurd (cc)

  range_given : (c : Callee) (es : Exprs) → is_range_sign c.token ≡ true → are_two_integers es ≡ true → AtOnce (act w (core_expr around (FnCall c es)))
  range_given c (expr from (expr to no_exprs)) h k = let y = and_parts (is_integer from) (is_integer to) k in two_given (is_callable c 2) c c.token from to h y.0 y.1
  range_given c _ h k = absurd (cc)

  one_more : {V : Type 0} (make : Value → V) (a : Act) (rest : (List V → Act) → Act) → AtOnce a → AllAtOnce rest → AllAtOnce (λ next. a >>= λ v. rest (λ vs. next (make v ∷ vs)))
  one_more make a rest (gives v h) (all_give vs k) = all_give (make v ∷ vs) (λ next. same_trans (with_value _ h) (k _))
  one_more make a rest (gives v h) (one_is_stuck k) = one_is_stuck (λ next. same_trans (with_value _ h) (k _))
  one_more make a rest (is_stuck h) k = one_is_stuck (λ next. with_none _ h)

  mutual
    given : (e : Expr) → is_given e ≡ true → AtOnce (act w (core_expr around e))
    given (DynamicConstant v) h = constant_given (is_unit v) v
    given (BoolConstant b) h = gives (BoolV b) same_refl
    given (IntegerConstant n) h = gives (IntV n) same_refl
    given (FloatConstant x) h = gives (FloatV x) same_refl
    given (CharConstant c) h = gives (CharV c) same_refl
    given (StringConstant t) h = gives (TextV t) same_refl
    given UnitConstant h = gives UnitV same_refl
    given (ArrayOf es) h = array_given es (all_given es h)
    given (MapOf ps template) h = map_given (is_map template ps) (core_pairs around ps) (each_given ps h)
    given (FnCall c es) h = let y = and_parts (is_range_sign c.token) (are_two_integers es) h in range_given c es y.0 y.1
    given _ h = absurd (cc)

    all_given : (es : Exprs) → are_given es ≡ true → AllAtOnce (with_args w (core_exprs around es))
    all_given no_exprs h = all_give [] (λ next. same_refl)
    all_given (expr e es) h = let y = and_parts (is_given e) (are_given es) h in one_more (λ v. v) _ _ (given e y.0) (all_given es y.1)

    each_given : (ps : Pairs) → have_given ps ≡ true → AllAtOnce (with_pairs w (core_pairs around ps))
    each_given no_pairs h = all_give [] (λ next. same_refl)
    each_given (pair k e ps) h = let y = and_parts (is_given e) (have_given ps) h in one_more (λ v. (k, v)) _ _ (given e y.0) (each_given ps y.1)

  -- ---- lists that are stuck at a `share`

  -- with names that are taken away with the braces around them
  record Stops (ss : Stmts) (b : Bool) (v : Value) (s : Store) (t : ℕ) : Type 0 where
    names : List ScopeEntry
    stuck : run_all w env (acts w b (core_stmts around ss) v) (inside s) t ≡ At (Halted (IsStuck WrongKind)) (record (inside s) { scope = names ++ s.scope }) t

  abbrev Stopping : Stmts → Type 0
  Stopping ss = (b : Bool) (v : Value) (s : Store) (t : ℕ) → Stops ss b v s t

  shared_stops : (xs : List Text) (r : Stmt) (ss : Stmts) → Stopping (stmt (shared xs r) ss)
  shared_stops xs r ss b v s t = record { names = []; stuck = ap (λ es. At (Halted (IsStuck WrongKind)) (record (inside s) { scope = es }) t) (restore_self s.scope) }

  var_stops : (x : Text) (e : Expr) (ss : Stmts) → AtOnce (act w (core_expr around e)) → Stopping ss → Stopping (stmt (Var true false x e) ss)
  var_stops x e ss (gives u g) h b v s t =
      let entry : ScopeEntry = record { name = x; kind = IsConstant; value = u } in
      let z = h b UnitV (record s { scope = entry ∷ s.scope }) t in
      record {
        names = z.names ++ entry ∷ [];
        stuck = (all_line {k = λ u. Named x IsConstant u (acts w b (core_stmts around ss) UnitV)} g (λ u. all_refl)).at (inside s) t ∙ z.stuck ∙ ap (λ es. At (Halted (IsStuck WrongKind)) (record (inside s) { scope = es }) t) (sym (append_assoc z.names (entry ∷ []) s.scope));
      }
  var_stops x e ss (is_stuck g) h b v s t = record { names = []; stuck = (all_line {k = λ u. Named x IsConstant u (acts w b (core_stmts around ss) UnitV)} g (λ u. all_refl)).at (inside s) t }

  stops_alike : {ss rs : Stmts} → Stopping ss → Stopping rs → (b : Bool) (v : Value) → Same w env (Scoped (acts w b (core_stmts around ss) v)) (Scoped (acts w b (core_stmts around rs) v))
  stops_alike h k b v = record {
    at = λ s t.
        let y = h b v s t in
        let z = k b v s t in
        ap (leave s) y.stuck ∙ ap (λ es. At (Halted (IsStuck WrongKind)) (record s { scope = es }) t) (restore_more y.names s.scope ∙ sym (restore_more z.names s.scope)) ∙ sym (ap (leave s) z.stuck);
  }

  -- ---- constants in front of a closure

  abbrev StopsIf : Option (List Text × Stmt) → Stmts → Type 0
  StopsIf None ss = Unit {0}
  StopsIf (Some c) ss = Stopping ss

  known_stops : (s : Stmt) (ss : Stmts) → is_known s ≡ true → Stopping ss → Stopping (stmt s ss)
  known_stops (Var true false x e) ss h k = var_stops x e ss (given e h) k
  known_stops _ ss h k = absurd (cc)

  handed_stops : (b : Bool) (s : Stmt) (o : Option (List Text × Stmt)) (ss : Stmts) → is_known s ≡ b → StopsIf o ss → StopsIf (if b then option_map (with_known s) o else None) (stmt s ss)
  handed_stops false s o ss h k = tt
  handed_stops true s None ss h k = tt
  handed_stops true s (Some c) ss h k = known_stops s ss h k

  closure_stops : (s : Stmt) → StopsIf (closure_in s) (stmt s no_stmts)
  closure_stops (Block (stmt (Share xs) (stmt s no_stmts))) = shared_stops xs s no_stmts
  closure_stops _ = tt

  captured_stops : (ss : Stmts) → StopsIf (captured ss) ss
  captured_stops no_stmts = tt
  captured_stops (stmt s no_stmts) = closure_stops s
  captured_stops (stmt s (stmt t ss)) = handed_stops (is_known s) s (captured (stmt t ss)) (stmt t ss) refl (captured_stops (stmt t ss))

  settled_by_alike : (o : Option (List Text × Stmt)) (ss : Stmts) → StopsIf o ss → (b : Bool) (v : Value) → Same w env (Scoped (acts w b (core_stmts around (settled_by o ss)) v)) (Scoped (acts w b (core_stmts around ss) v))
  settled_by_alike None ss h b v = same_refl
  settled_by_alike (Some c) ss h b v = stops_alike (shared_stops c.0 c.1 no_stmts) h b v

  pub settled_alike : (ss : Stmts) (b : Bool) (v : Value) → Same w env (Scoped (acts w b (core_stmts around (settled ss)) v)) (Scoped (acts w b (core_stmts around ss) v))
  settled_alike ss b v = settled_by_alike (captured ss) ss (captured_stops ss) b v

  -- ---- a list

  nothing_alike : (b : Bool) (s t : Stmt) (ss : Stmts) (v : Value) → SameAll w env (acts w b (core_stmts around (cond (does_nothing s) (stmt t ss) (stmt s (stmt t ss)))) v) (acts w b (core_stmts around (stmt s (stmt t ss))) v)
  nothing_alike b (ExprStmt (IntegerConstant n)) t ss v = record { at = λ s t. refl }
  nothing_alike b (ExprStmt (And (expr (BoolConstant false) es))) t ss v = record { at = λ s t. refl }
  nothing_alike b _ t ss v = all_refl

  pub grouped_alike : (b : Bool) (s : Stmt) (ss : Stmts) (v : Value) → SameAll w env (acts w b (core_stmts around (grouped s ss)) v) (acts w b (core_stmts around (stmt s ss)) v)
  grouped_alike b s no_stmts v = all_refl
  grouped_alike b (Share xs) (stmt t ss) v = record { at = λ st n. ap (λ es. At (Halted (IsStuck WrongKind)) (record st { scope = es }) n) (restore_self st.scope) }
  grouped_alike b s (stmt t ss) v = nothing_alike b s t ss v
