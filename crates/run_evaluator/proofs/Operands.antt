-- Lists of expressions, from the first to the last: arguments, and operands up to the one that decides.
use Rattle.std.proofs.Common.{◌≡◌, ℕ, ◌+◌, ◌<◌, ◌≤◌, Bool, true, false, List, [], ◌∷◌, ◌++◌, map, length, drop, get_or, Option, Some, None, Ok, Err, refl, sym, ap, ◌∙◌, append_assoc, append-nil, if◌then◌else◌}
use Rattle.std.proofs.lemmas.List.{map-append, drop_all}
use Rattle.rhai_base.specs.declared.dynamic.Dynamic.{Dynamic}
use Rattle.rhai_base.specs.declared.dynamic.Dynamic.TheVariants as value
use Rattle.rhai_base.specs.Reading.{value_of, value_of-Bool, value_of-Unit}
use Rattle.rhai_base.specs.Value.{Value, BoolV}
use Rattle.ast_types.specs.declared.expr.Expr.{Expr}
use Rattle.ast_types.specs.Reading.{expr_of, exprs_of}
use Rattle.ast_types.proofs.ItemLists.{exprs_of-drop}
use Rattle.theory_meaning.specs.Desugar.{core_expr, core_exprs}
use Rattle.theory_meaning.specs.Tree as tree
use Rattle.theory_meaning.specs.Act.{Act}
use Rattle.theory_meaning.specs.ActForms.{give, choose, if_true, truth, ◌>>=◌}
use Rattle.theory_meaning.specs.Meaning.{act, both, either, first_some, with_args}
use Rattle.theory_meaning.specs.Shape.{is_unit}
use Rattle.run_state.specs.declared.state.Interrupt.{Interrupt}
use Rattle.run_state.specs.declared.state.State.{State}
use Rattle.run_state.specs.Evaluating.{or_stuck, RunsExpr, RunsExprs}
use Rattle.run_state.specs.Runs.{Setting, Task, Acting, Goes, Stops, given}
use Rattle.run_state.proofs.Goes.{gives, goes_on, goes_then, goes_as, stops_then, value_goes, value_stops, if_goes, if_stops}

item_of : (xs : List Expr) (i : ℕ) (e : Expr) → i < length xs → e ≡ get_or xs i e → exprs_of (drop i xs) ≡ tree.expr (expr_of e) (exprs_of (drop (i + 1) xs))
item_of xs i e h is = exprs_of-drop xs i e h ∙ ap (λ y. tree.expr (expr_of y) (exprs_of (drop (i + 1) xs))) (sym is)

-- a value that is not unit, and one that is
some_kept : (b : Bool) (v w : Dynamic) → Some w ≡ (if b then None else Some v) → (b ≡ false) × (w ≡ v)
some_kept true v w e = cc
some_kept false v w e = (refl, cc)

none_kept : (b : Bool) (v : Dynamic) → None ≡ (if b then None else Some v) → b ≡ true
none_kept true v e = refl
none_kept false v e = cc

module _ (here : Setting) (loop : Bool) where
  -- ---- arguments

  abbrev args : List Expr → (List Value → Act) → Task
  args xs next = Acting (with_args here.world (core_exprs loop (exprs_of xs)) next)

  -- the arguments before the rest have these values
  pub record ArgsAt (xs rest : List Expr) (s : State) (vs : List Dynamic) (s' : State) : Type 0 where
    pub so : (next : List Value → Act) → Goes here (args xs next) s (args rest (λ us. next (map value_of vs ++ us))) s'

  pub args_start : (xs : List Expr) (s : State) → ArgsAt xs xs s [] s
  args_start xs s = record { so = λ next. goes_on here _ s }

  -- to the next argument
  args_here : (xs : List Expr) (i : ℕ) (e : Expr) (s s1 : State) (vs : List Dynamic) (next : List Value → Act) → i < length xs → e ≡ get_or xs i e → ArgsAt xs (drop i xs) s vs s1 → Goes here (args xs next) s (Acting (act here.world (core_expr loop (expr_of e)) >>= λ u. with_args here.world (core_exprs loop (exprs_of (drop (i + 1) xs))) (λ us. next (map value_of vs ++ u ∷ us)))) s1
  args_here xs i e s s1 vs next h is p =
      goes_then here (p.so next) (goes_as here _ _ s1 (ap (λ es. Acting (with_args here.world (core_exprs loop es) (λ us. next (map value_of vs ++ us)))) (item_of xs i e h is)))

  pub args_next : (xs : List Expr) (i : ℕ) (e : Expr) (s s1 s2 : State) (vs : List Dynamic) (v : Dynamic) → i < length xs → e ≡ get_or xs i e → ArgsAt xs (drop i xs) s vs s1 → RunsExpr here loop (expr_of e) s1 (Ok v) s2 → ArgsAt xs (drop (i + 1) xs) s (vs ++ v ∷ []) s2
  args_next xs i e s s1 s2 vs v h is p q = record {
    so = λ next.
        goes_then here (args_here xs i e s s1 vs next h is p)
        (goes_then here (value_goes here _ q)
        (goes_as here _ _ s2 (λ i'. Acting (with_args here.world (core_exprs loop (exprs_of (drop (i + 1) xs))) (λ us. next ((sym (append_assoc (map value_of vs) (value_of v ∷ []) us) ∙ ap (λ ws. ws ++ us) (sym (map-append value_of vs (v ∷ [])))) i'))))));
  }

  pub args_stop : (xs : List Expr) (i : ℕ) (e : Expr) (s s1 s2 : State) (vs : List Dynamic) (x : Interrupt) → i < length xs → e ≡ get_or xs i e → ArgsAt xs (drop i xs) s vs s1 → RunsExpr here loop (expr_of e) s1 (Err x) s2 → RunsExprs here loop (exprs_of xs) s (Err x) s2
  args_stop xs i e s s1 s2 vs x h is p q = λ next. stops_then here s2 x (args_here xs i e s s1 vs next h is p) (value_stops here _ _ s1 s2 x q)

  pub args_end : (xs : List Expr) (i : ℕ) (s s1 : State) (vs : List Dynamic) → length xs ≤ i → ArgsAt xs (drop i xs) s vs s1 → RunsExprs here loop (exprs_of xs) s (Ok vs) s1
  args_end xs i s s1 vs h p = λ next.
      goes_then here (p.so next)
      (goes_as here _ _ s1 (ap (λ rest. args rest (λ us. next (map value_of vs ++ us))) (drop_all i xs h) ∙ ap (λ us. Acting (next us)) (append-nil (map value_of vs))))

  -- ---- operands

  -- the operands before the rest decide nothing: what the rest leads to, all lead to
  pub record OperandsAt (f : tree.Exprs → Act) (xs rest : List Expr) (s s' : State) : Type 0 where
    pub so : Goes here (Acting (f (exprs_of xs))) s (Acting (f (exprs_of rest))) s'

  pub operands_start : (f : tree.Exprs → Act) (xs : List Expr) (s : State) → OperandsAt f xs xs s s
  operands_start f xs s = record { so = goes_on here _ s }

  module _ (f : tree.Exprs → Act) (k : tree.Exprs → Value → Act) (step : (e : tree.Expr) (es : tree.Exprs) → f (tree.expr e es) ≡ (act here.world (core_expr loop e) >>= k es)) (xs : List Expr) (i : ℕ) (e : Expr) (s s1 s2 : State) (h : i < length xs) (is : e ≡ get_or xs i e) (p : OperandsAt f xs (drop i xs) s s1) where
    operand_here : Goes here (Acting (f (exprs_of xs))) s (Acting (act here.world (core_expr loop (expr_of e)) >>= k (exprs_of (drop (i + 1) xs)))) s1
    operand_here = goes_then here p.so (goes_as here _ _ s1 (ap (λ es. Acting (f es)) (item_of xs i e h is) ∙ ap Acting (step (expr_of e) (exprs_of (drop (i + 1) xs)))))

    operand_stops : (x : Interrupt) → RunsExpr here loop (expr_of e) s1 (Err x) s2 → Stops here (Acting (f (exprs_of xs))) s x s2
    operand_stops x q = stops_then here s2 x operand_here (value_stops here _ _ s1 s2 x q)

    operand_goes : (v : Dynamic) → RunsExpr here loop (expr_of e) s1 (Ok v) s2 → Goes here (Acting (f (exprs_of xs))) s (Acting (k (exprs_of (drop (i + 1) xs)) (value_of v))) s2
    operand_goes v q = goes_then here operand_here (value_goes here _ q)

    -- by a condition
    module _ (a b : tree.Exprs → Act) (cond : (es : tree.Exprs) (v : Value) → k es v ≡ if_true v (a es) (b es)) where
      operand_stuck : (v : Dynamic) (x : Interrupt) → RunsExpr here loop (expr_of e) s1 (Ok v) s2 → Err x ≡ or_stuck (truth (value_of v)) → Stops here (Acting (f (exprs_of xs))) s x s2
      operand_stuck v x q t = stops_then here s2 x (goes_then here (operand_goes v q) (goes_as here _ _ s2 (ap Acting (cond _ (value_of v))))) (if_stops here _ _ s2 (value_of v) x t)

      operand_decides : (v : Dynamic) (c : Bool) → RunsExpr here loop (expr_of e) s1 (Ok v) s2 → Ok c ≡ or_stuck (truth (value_of v)) → Goes here (Acting (f (exprs_of xs))) s (Acting (choose c (a (exprs_of (drop (i + 1) xs))) (b (exprs_of (drop (i + 1) xs))))) s2
      operand_decides v c q t = goes_then here (operand_goes v q) (goes_then here (goes_as here _ _ s2 (ap Acting (cond _ (value_of v)))) (if_goes here _ _ s2 (value_of v) c t))

  operands_end : (f : tree.Exprs → Act) (xs : List Expr) (i : ℕ) (s s1 : State) → length xs ≤ i → OperandsAt f xs (drop i xs) s s1 → Goes here (Acting (f (exprs_of xs))) s (Acting (f tree.no_exprs)) s1
  operands_end f xs i s s1 h p = goes_then here p.so (goes_as here _ _ s1 (ap (λ rest. Acting (f (exprs_of rest))) (drop_all i xs h)))

  -- ---- `&&`

  abbrev pub both_of : tree.Exprs → Act
  both_of es = both here.world (core_exprs loop es)

  abbrev both_then : tree.Exprs → Value → Act
  both_then es v = if_true v (both_of es) (give (BoolV false))

  module _ (xs : List Expr) (i : ℕ) (e : Expr) (s s1 s2 : State) (h : i < length xs) (is : e ≡ get_or xs i e) (p : OperandsAt both_of xs (drop i xs) s s1) where
    pub both_stops : (x : Interrupt) → RunsExpr here loop (expr_of e) s1 (Err x) s2 → Stops here (Acting (both_of (exprs_of xs))) s x s2
    both_stops x q = operand_stops both_of both_then (λ e es. refl) xs i e s s1 s2 h is p x q

    pub both_stuck : (v : Dynamic) (x : Interrupt) → RunsExpr here loop (expr_of e) s1 (Ok v) s2 → Err x ≡ or_stuck (truth (value_of v)) → Stops here (Acting (both_of (exprs_of xs))) s x s2
    both_stuck v x q t = operand_stuck both_of both_then (λ e es. refl) xs i e s s1 s2 h is p both_of (λ es. give (BoolV false)) (λ es v. refl) v x q t

    both_decides : (v : Dynamic) (c : Bool) → RunsExpr here loop (expr_of e) s1 (Ok v) s2 → Ok c ≡ or_stuck (truth (value_of v)) → Goes here (Acting (both_of (exprs_of xs))) s (Acting (choose c (both_of (exprs_of (drop (i + 1) xs))) (give (BoolV false)))) s2
    both_decides v c q t = operand_decides both_of both_then (λ e es. refl) xs i e s s1 s2 h is p both_of (λ es. give (BoolV false)) (λ es v. refl) v c q t

    pub both_false : (v : Dynamic) (c : Bool) → RunsExpr here loop (expr_of e) s1 (Ok v) s2 → Ok c ≡ or_stuck (truth (value_of v)) → c ≡ false → Goes here (Acting (both_of (exprs_of xs))) s (given (value_of (value.Bool false))) s2
    both_false v c q t f = goes_then here (both_decides v c q t) (goes_then here (goes_as here _ _ s2 (ap (λ d. Acting (choose d (both_of (exprs_of (drop (i + 1) xs))) (give (BoolV false)))) f)) (gives here _ _ s2 (sym (value_of-Bool false))))

    pub both_next : (v : Dynamic) (c : Bool) → RunsExpr here loop (expr_of e) s1 (Ok v) s2 → Ok c ≡ or_stuck (truth (value_of v)) → c ≡ true → OperandsAt both_of xs (drop (i + 1) xs) s s2
    both_next v c q t f = record { so = goes_then here (both_decides v c q t) (goes_as here _ _ s2 (ap (λ d. Acting (choose d (both_of (exprs_of (drop (i + 1) xs))) (give (BoolV false)))) f)) }

  pub both_end : (xs : List Expr) (i : ℕ) (s s1 : State) → length xs ≤ i → OperandsAt both_of xs (drop i xs) s s1 → Goes here (Acting (both_of (exprs_of xs))) s (given (value_of (value.Bool true))) s1
  both_end xs i s s1 h p = goes_then here (operands_end both_of xs i s s1 h p) (gives here _ _ s1 (sym (value_of-Bool true)))

  -- ---- `||`

  abbrev pub either_of : tree.Exprs → Act
  either_of es = either here.world (core_exprs loop es)

  abbrev either_then : tree.Exprs → Value → Act
  either_then es v = if_true v (give (BoolV true)) (either_of es)

  module _ (xs : List Expr) (i : ℕ) (e : Expr) (s s1 s2 : State) (h : i < length xs) (is : e ≡ get_or xs i e) (p : OperandsAt either_of xs (drop i xs) s s1) where
    pub either_stops : (x : Interrupt) → RunsExpr here loop (expr_of e) s1 (Err x) s2 → Stops here (Acting (either_of (exprs_of xs))) s x s2
    either_stops x q = operand_stops either_of either_then (λ e es. refl) xs i e s s1 s2 h is p x q

    pub either_stuck : (v : Dynamic) (x : Interrupt) → RunsExpr here loop (expr_of e) s1 (Ok v) s2 → Err x ≡ or_stuck (truth (value_of v)) → Stops here (Acting (either_of (exprs_of xs))) s x s2
    either_stuck v x q t = operand_stuck either_of either_then (λ e es. refl) xs i e s s1 s2 h is p (λ es. give (BoolV true)) either_of (λ es v. refl) v x q t

    either_decides : (v : Dynamic) (c : Bool) → RunsExpr here loop (expr_of e) s1 (Ok v) s2 → Ok c ≡ or_stuck (truth (value_of v)) → Goes here (Acting (either_of (exprs_of xs))) s (Acting (choose c (give (BoolV true)) (either_of (exprs_of (drop (i + 1) xs))))) s2
    either_decides v c q t = operand_decides either_of either_then (λ e es. refl) xs i e s s1 s2 h is p (λ es. give (BoolV true)) either_of (λ es v. refl) v c q t

    pub either_true : (v : Dynamic) (c : Bool) → RunsExpr here loop (expr_of e) s1 (Ok v) s2 → Ok c ≡ or_stuck (truth (value_of v)) → c ≡ true → Goes here (Acting (either_of (exprs_of xs))) s (given (value_of (value.Bool true))) s2
    either_true v c q t f = goes_then here (either_decides v c q t) (goes_then here (goes_as here _ _ s2 (ap (λ d. Acting (choose d (give (BoolV true)) (either_of (exprs_of (drop (i + 1) xs))))) f)) (gives here _ _ s2 (sym (value_of-Bool true))))

    pub either_next : (v : Dynamic) (c : Bool) → RunsExpr here loop (expr_of e) s1 (Ok v) s2 → Ok c ≡ or_stuck (truth (value_of v)) → c ≡ false → OperandsAt either_of xs (drop (i + 1) xs) s s2
    either_next v c q t f = record { so = goes_then here (either_decides v c q t) (goes_as here _ _ s2 (ap (λ d. Acting (choose d (give (BoolV true)) (either_of (exprs_of (drop (i + 1) xs))))) f)) }

  pub either_end : (xs : List Expr) (i : ℕ) (s s1 : State) → length xs ≤ i → OperandsAt either_of xs (drop i xs) s s1 → Goes here (Acting (either_of (exprs_of xs))) s (given (value_of (value.Bool false))) s1
  either_end xs i s s1 h p = goes_then here (operands_end either_of xs i s s1 h p) (gives here _ _ s1 (sym (value_of-Bool false)))

  -- ---- `??`

  abbrev pub first_of : tree.Exprs → Act
  first_of es = first_some here.world (core_exprs loop es)

  abbrev first_then : tree.Exprs → Value → Act
  first_then es v = choose (is_unit v) (first_of es) (give v)

  abbrev unless_unit : Dynamic → Option Dynamic
  unless_unit v = if is_unit (value_of v) then None else Some v

  module _ (xs : List Expr) (i : ℕ) (e : Expr) (s s1 s2 : State) (h : i < length xs) (is : e ≡ get_or xs i e) (p : OperandsAt first_of xs (drop i xs) s s1) where
    pub first_stops : (x : Interrupt) → RunsExpr here loop (expr_of e) s1 (Err x) s2 → Stops here (Acting (first_of (exprs_of xs))) s x s2
    first_stops x q = operand_stops first_of first_then (λ e es. refl) xs i e s s1 s2 h is p x q

    first_goes : (v : Dynamic) (b : Bool) → RunsExpr here loop (expr_of e) s1 (Ok v) s2 → is_unit (value_of v) ≡ b → Goes here (Acting (first_of (exprs_of xs))) s (Acting (choose b (first_of (exprs_of (drop (i + 1) xs))) (give (value_of v)))) s2
    first_goes v b q t = goes_then here (operand_goes first_of first_then (λ e es. refl) xs i e s s1 s2 h is p v q) (goes_as here _ _ s2 (ap (λ d. Acting (choose d (first_of (exprs_of (drop (i + 1) xs))) (give (value_of v)))) t))

    pub first_value : (v w : Dynamic) → RunsExpr here loop (expr_of e) s1 (Ok v) s2 → Some w ≡ unless_unit v → Goes here (Acting (first_of (exprs_of xs))) s (given (value_of w)) s2
    first_value v w q t =
        let two = some_kept (is_unit (value_of v)) v w t in
        goes_then here (first_goes v false q two.0) (gives here _ _ s2 (ap value_of (sym two.1)))

    pub first_next : (v : Dynamic) → RunsExpr here loop (expr_of e) s1 (Ok v) s2 → None ≡ unless_unit v → OperandsAt first_of xs (drop (i + 1) xs) s s2
    first_next v q t = record { so = first_goes v true q (none_kept (is_unit (value_of v)) v t) }

  pub first_end : (xs : List Expr) (i : ℕ) (s s1 : State) → length xs ≤ i → OperandsAt first_of xs (drop i xs) s s1 → Goes here (Acting (first_of (exprs_of xs))) s (given (value_of value.Unit)) s1
  first_end xs i s s1 h p = goes_then here (operands_end first_of xs i s s1 h p) (gives here _ _ s1 (sym value_of-Unit))
