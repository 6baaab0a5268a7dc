-- Constants give their values, or are stuck where a node has no meaning.
use Rattle.std.proofs.Common.{◌≡◌, ℕ, Bool, true, false, cond, List, ◌∷◌, Option, Some, None, refl, sym, ap, ◌∙◌, subst}
use Rattle.rhai_base.specs.Value.{Text, Value, TextV, ArrayV, MapV, PointerV, values, text_of}
use Rattle.rhai_base.specs.Operators.{Operator, Computed, NoEntry, Is, Overflows, symbol}
use Rattle.theory_meaning.specs.Engine.{built_in}
use Rattle.theory_meaning.specs.Act.{World, Store, Gives, WrongKind, IsStuck, Ended, Halted, Result, At, Act, Env, and_then, run}
use Rattle.theory_meaning.specs.ActForms.{give, value_then, branch, truth}
use Rattle.theory_meaning.specs.Calls.{of_table, called}
use Rattle.theory_meaning.specs.Constants.{computed_value, array_value, map_value, joined_value, value_and, entry_and, constant_value, constant_values, constant_entries, truth_of, constant_for, are_floatless, where_floatless}
use Rattle.theory_meaning.specs.Core.{OnOperator, Ill, Constant, InterpolatedString, ArrayOf, MapOf, FnCall}
use Rattle.theory_meaning.specs.Desugar.{callee_by, core_expr, core_exprs, core_pairs}
use Rattle.theory_meaning.specs.Shape.{is_unit, is_map}
use Rattle.theory_meaning.specs.Control.{texts_joined, text_in}
use Rattle.theory_meaning.specs.Elements.{fields_of}
use Rattle.theory_meaning.specs.Meaning.{act, with_args, with_pairs, text}
use Rattle.theory_meaning.specs.Relations.{Begins, calls_of}
use Rattle.theory_meaning.specs.Tree as tree
use Rattle.theory_meaning.proofs.Floatless.{texts_constant}
use Rattle.theory_rewriting.specs.Folding.{folded_values}
use Rattle.theory_rewriting.proofs.Plain.{is_plain_value}
use Rattle.theory_soundness.proofs.simulation.Simulation.{OrStuck, equal, is_stuck}

-- r is r', or stuck at once
pub data OrWrong (r r' : Result) (s : Store) (t : ℕ) : Type 0 where
  is : r ≡ r' → OrWrong r r' s t
  wrong : r ≡ At (Halted (IsStuck WrongKind)) s t → OrWrong r r' s t

-- after an equation
or_wrong_after : {r r1 r' : Result} {s : Store} {t : ℕ} → r ≡ r1 → OrWrong r1 r' s t → OrWrong r r' s t
or_wrong_after e (is h) = is (e ∙ h)
or_wrong_after e (wrong h) = wrong (e ∙ h)

pub or_stuck : (r r' : Result) (s : Store) (t : ℕ) → OrWrong r r' s t → Begins s.calls (calls_of r') → OrStuck r r'
or_stuck r r' s t (is h) b = subst (λ q. OrStuck q r') (sym h) equal
or_stuck r r' s t (wrong h) b = subst (λ q. OrStuck q r') (sym h) (is_stuck WrongKind t b)

some_value : Value → Option Value → Value
some_value v None = v
some_value v (Some w) = w

some_same : (v w : Value) → Some v ≡ Some w → v ≡ w
unfolding some_value
some_same v w h = ap (some_value v) h

-- the constant for a value has that value; a pointer may be the call that makes it
pub constant_means : (loop : Bool) (v : Value) → is_plain_value v ≡ true → core_expr loop (constant_for v) ≡ Constant v
constant_means loop (PointerV f vs) p = absurd cc
constant_means loop _ p = refl

module _ (w : World) (env : Env) (loop : Bool) where
  -- where there is a value, the result gives it
  abbrev pub Given : Option Value → Result → Store → ℕ → Type 0
  Given None r s t = Unit {0}
  Given (Some v) r s t = OrWrong r (At (Ended (Gives v)) s t) s t

  -- where there are values, what comes after the arguments has them
  abbrev pub GivenAll : Option (List Value) → tree.Exprs → (List Value → Act) → Store → ℕ → Type 0
  GivenAll None es next s t = Unit {0}
  GivenAll (Some vs) es next s t = OrWrong (run w env (with_args w (core_exprs loop es) next) s t) (run w env (next vs) s t) s t

  given_own : (b : Bool) (v : Value) (s : Store) (t : ℕ) → OrWrong (run w env (act w (cond b Ill (Constant v))) s t) (At (Ended (Gives v)) s t) s t
  given_own true v s t = wrong refl
  given_own false v s t = is refl

  given_array : (o : Option (List Value)) (es : tree.Exprs) (s : Store) (t : ℕ) → GivenAll o es (λ vs. give (ArrayV (values vs))) s t → Given (array_value o) (run w env (act w (ArrayOf (core_exprs loop es))) s t) s t
  given_array None es s t h = tt
  given_array (Some vs) es s t h = h

  given_text : (b : Bool) (o : Option (List Value)) (es : tree.Exprs) (s : Store) (t : ℕ) → ((vs : List Value) → where_floatless b o ≡ Some vs → texts_joined (text_in w.host) vs ≡ texts_joined text_of vs) → GivenAll o es (text w) s t → Given (joined_value (where_floatless b o)) (run w env (act w (InterpolatedString (core_exprs loop es))) s t) s t
  given_text true None es s t q h = tt
  given_text false None es s t q h = tt
  given_text false (Some vs) es s t q h = tt
  given_text true (Some vs) es s t q h = subst (λ x. OrWrong (run w env (act w (InterpolatedString (core_exprs loop es))) s t) (At (Ended (Gives (TextV x))) s t) s t) (q vs refl) h

  -- where there are entries, what comes after the pairs has them
  abbrev pub GivenPairs : Option (List (Text × Value)) → tree.Pairs → (List (Text × Value) → Act) → Store → ℕ → Type 0
  GivenPairs None ps next s t = Unit {0}
  GivenPairs (Some vs) ps next s t = OrWrong (run w env (with_pairs w (core_pairs loop ps) next) s t) (run w env (next vs) s t) s t

  given_map : (b : Bool) (o : Option (List (Text × Value))) (ps : tree.Pairs) (s : Store) (t : ℕ) → GivenPairs o ps (λ vs. give (MapV (fields_of vs))) s t → Given (map_value o) (run w env (act w (cond b (MapOf (core_pairs loop ps)) Ill)) s t) s t
  given_map b None ps s t h = tt
  given_map true (Some vs) ps s t h = h
  given_map false (Some vs) ps s t h = wrong refl

  given_then : (r : Result) (v : Value) (s : Store) (t : ℕ) (f : Value → Act) (r' : Result) → OrWrong r (At (Ended (Gives v)) s t) s t → OrWrong (run w env (f v) s t) r' s t → OrWrong (and_then r (λ e. run w env (value_then f e))) r' s t
  given_then r v s t f r' (is h) k = or_wrong_after (ap (λ q. and_then q (λ e. run w env (value_then f e))) h) k
  given_then r v s t f r' (wrong h) k = wrong (ap (λ q. and_then q (λ e. run w env (value_then f e))) h)

  given_more : (o : Option Value) (q : Option (List Value)) (e : tree.Expr) (es : tree.Exprs) (next : List Value → Act) (s : Store) (t : ℕ) → Given o (run w env (act w (core_expr loop e)) s t) s t → ((v : Value) → GivenAll q es (λ vs. next (v ∷ vs)) s t) → GivenAll (value_and o q) (tree.expr e es) next s t
  given_more None q e es next s t h k = tt
  given_more (Some v) None e es next s t h k = tt
  given_more (Some v) (Some vs) e es next s t h k = given_then (run w env (act w (core_expr loop e)) s t) v s t (λ u. with_args w (core_exprs loop es) (λ us. next (u ∷ us))) (run w env (next (v ∷ vs)) s t) h (k v)

  given_entry : (o : Option Value) (q : Option (List (Text × Value))) (n : Text) (e : tree.Expr) (ps : tree.Pairs) (next : List (Text × Value) → Act) (s : Store) (t : ℕ) → Given o (run w env (act w (core_expr loop e)) s t) s t → ((v : Value) → GivenPairs q ps (λ vs. next ((n, v) ∷ vs)) s t) → GivenPairs (entry_and n o q) (tree.pair n e ps) next s t
  given_entry None q n e ps next s t h k = tt
  given_entry (Some v) None n e ps next s t h k = tt
  given_entry (Some v) (Some vs) n e ps next s t h k = given_then (run w env (act w (core_expr loop e)) s t) v s t (λ u. with_pairs w (core_pairs loop ps) (λ us. next ((n, u) ∷ us))) (run w env (next ((n, v) ∷ vs)) s t) h (k v)

  mutual
    pub expr_given : (e : tree.Expr) (s : Store) (t : ℕ) → Given (constant_value e) (run w env (act w (core_expr loop e)) s t) s t
    expr_given (tree.DynamicConstant v) s t = given_own (is_unit v) v s t
    expr_given (tree.ArrayOf es) s t = given_array (constant_values es) es s t (exprs_given es (λ vs. give (ArrayV (values vs))) s t)
    expr_given (tree.InterpolatedString es) s t = given_text (are_floatless es) (constant_values es) es s t (λ vs q. texts_constant w.host es vs q) (exprs_given es (text w) s t)
    expr_given (tree.MapOf ps template) s t = given_map (is_map template ps) (constant_entries ps) ps s t (pairs_given ps (λ vs. give (MapV (fields_of vs))) s t)
    expr_given (tree.BoolConstant b) s t = is refl
    expr_given (tree.IntegerConstant n) s t = is refl
    expr_given (tree.FloatConstant x) s t = is refl
    expr_given (tree.CharConstant c) s t = is refl
    expr_given (tree.StringConstant x) s t = is refl
    expr_given tree.UnitConstant s t = is refl
    expr_given _ s t = tt

    pub exprs_given : (es : tree.Exprs) (next : List Value → Act) (s : Store) (t : ℕ) → GivenAll (constant_values es) es next s t
    exprs_given tree.no_exprs next s t = is refl
    exprs_given (tree.expr e es) next s t = given_more (constant_value e) (constant_values es) e es next s t (expr_given e s t) (λ v. exprs_given es (λ vs. next (v ∷ vs)) s t)

    pub pairs_given : (ps : tree.Pairs) (next : List (Text × Value) → Act) (s : Store) (t : ℕ) → GivenPairs (constant_entries ps) ps next s t
    pairs_given tree.no_pairs next s t = is refl
    pairs_given (tree.pair n e ps) next s t = given_entry (constant_value e) (constant_entries ps) n e ps next s t (expr_given e s t) (λ v. pairs_given ps (λ vs. next ((n, v) ∷ vs)) s t)

  -- a constant bool decides a branch
  pub branch_given : (o : Option Value) (r : Result) (b : Bool) (s : Store) (t : ℕ) (x y : Act) → Given o r s t → truth_of o ≡ Some b → OrWrong (and_then r (λ e. run w env (value_then (λ v. branch (truth v) x y) e))) (run w env (branch (Some b) x y) s t) s t
  branch_given None r b s t x y h e = absurd (let z : None ≡ Some b = e in cc)
  branch_given (Some v) r b s t x y h e = given_then r v s t (λ u. branch (truth u) x y) _ h (is (ap (λ o. run w env (branch o x y) s t) e))

  -- a built-in operator gives the table's value
  table_given : (f : List ℕ) (vs : List Value) (c : Computed) (v : Value) (s : Store) (t : ℕ) → computed_value c ≡ Some v → run w env (of_table f vs c) s t ≡ At (Ended (Gives v)) s t
  table_given f vs NoEntry v s t e = absurd (let z : None ≡ Some v = e in cc)
  table_given f vs (Is u) v s t e = ap (λ x. At (Ended (Gives x)) s t) (some_same u v e)
  table_given f vs Overflows v s t e = absurd (let z : None ≡ Some v = e in cc)

  operator_given : (op : Operator) (o : Option (List Value)) (es : tree.Exprs) (v : Value) (s : Store) (t : ℕ) → GivenAll o es (λ vs. called w (OnOperator op) vs) s t → folded_values w.engine (tree.OfOperator op) o ≡ Some v → OrWrong (run w env (act w (FnCall (OnOperator op) (core_exprs loop es))) s t) (At (Ended (Gives v)) s t) s t
  operator_given op None es v s t h e = absurd (let z : None ≡ Some v = e in cc)
  operator_given op (Some vs) es v s t (is h) e = is (h ∙ table_given (symbol op) vs (built_in w.engine op vs) v s t e)
  operator_given op (Some vs) es v s t (wrong h) e = wrong h

  pub call_given : (b : Bool) (c : tree.Callee) (m : tree.CallToken) (es : tree.Exprs) (v : Value) (s : Store) (t : ℕ) → folded_values w.engine m (constant_values es) ≡ Some v → OrWrong (run w env (act w (cond b (FnCall (callee_by c m) (core_exprs loop es)) Ill)) s t) (At (Ended (Gives v)) s t) s t
  call_given false c m es v s t e = wrong refl
  call_given true c tree.NoToken es v s t e = absurd (let z : None ≡ Some v = e in cc)
  call_given true c (tree.OfOperator op) es v s t e = operator_given op (constant_values es) es v s t (exprs_given es (λ vs. called w (OnOperator op) vs) s t) e
  call_given true c tree.OfOther es v s t e = absurd (let z : None ≡ Some v = e in cc)
