-- A constant does what giving its value does, and arguments that are constant give theirs.
use Rattle.std.proofs.Common.{◌≡◌, ℕ, Bool, true, false, cond, List, Option, Some, None, refl, sym, ap, ◌∙◌, subst}
use Rattle.rhai_base.specs.Value.{Text, Value, UnitV, BoolV}
use Rattle.theory_meaning.specs.Act.{Store, Gives, WrongKind, Ended, Result, At, Act, Env, and_then, run}
use Rattle.theory_meaning.specs.ActForms.{give, value_then, ◌>>=◌, branch, truth, if_true, choose}
use Rattle.theory_meaning.specs.Constants.{array_value, map_value, joined_value, constant_value, constant_values, constant_entries, constant_bool, truth_of, text_constants}
use Rattle.theory_meaning.specs.Core as core
use Rattle.theory_meaning.specs.Desugar.{core_expr, core_exprs, core_pairs}
use Rattle.theory_meaning.specs.Meaning.{act, deed, with_args, with_pairs}
use Rattle.theory_meaning.specs.Relations.{here}
use Rattle.theory_meaning.specs.Tree.{Expr, DynamicConstant, BoolConstant, InterpolatedString, MapOf, ArrayOf, Exprs, Pairs}
use Rattle.theory_meaning.proofs.Preserves.{preserves}
use Rattle.theory_rewriting.specs.Context.{Context}
use Rattle.theory_rewriting.specs.Parts.{constant_of}
use Rattle.theory_soundness.proofs.simulation.Laws.{simulates_stuck}
use Rattle.theory_soundness.proofs.simulation.Setting.{Setting, world, run_from}
use Rattle.theory_soundness.proofs.simulation.Simulation.{Simulates, simulates_trans, simulates_refl, simulates_equal, simulates_or_stuck}
use Rattle.theory_soundness.proofs.simulation.Forms.{simulates_bind}
use Rattle.theory_soundness.proofs.rules.Constants.{OrWrong, is, wrong, or_stuck, Given, GivenAll, GivenPairs, expr_given, exprs_given, pairs_given}

pub constant_gives : {k : Context} (c : Setting k) (e : Expr) (v : Value) → constant_value e ≡ Some v → Simulates c (act (world c) (core_expr c.in_loop e)) (give v)
constant_gives c e v h = simulates_or_stuck (λ m.
    let r = run_from c m (act (world c) (core_expr c.in_loop e)) in
    or_stuck r _ m.store m.turns (subst (λ o. Given (world c) m.env c.in_loop o r m.store m.turns) h (expr_given (world c) m.env c.in_loop e m.store m.turns)) here)

-- what comes after has its value
pub constant_then : {k : Context} (c : Setting k) (e : Expr) (v : Value) (f : Value → Act) → constant_value e ≡ Some v → Simulates c (act (world c) (core_expr c.in_loop e) >>= f) (f v)
constant_then c e v f h = simulates_trans {b = give v >>= f} (simulates_bind (constant_gives c e v h) (λ u. simulates_refl)) (simulates_equal (λ m. refl))

pub constants_give : {k : Context} (c : Setting k) (es : Exprs) (vs : List Value) (next : List Value → Act) → constant_values es ≡ Some vs → Simulates c (with_args (world c) (core_exprs c.in_loop es) next) (next vs)
constants_give c es vs next h = simulates_or_stuck (λ m.
    let r = run_from c m (with_args (world c) (core_exprs c.in_loop es) next) in
    or_stuck r _ m.store m.turns (subst (λ o. GivenAll (world c) m.env c.in_loop o es next m.store m.turns) h (exprs_given (world c) m.env c.in_loop es next m.store m.turns)) (preserves (world c) m.env m.adds (next vs) m.store m.turns).calls)

pub entries_give : {k : Context} (c : Setting k) (ps : Pairs) (vs : List (Text × Value)) (next : List (Text × Value) → Act) → constant_entries ps ≡ Some vs → Simulates c (with_pairs (world c) (core_pairs c.in_loop ps) next) (next vs)
entries_give c ps vs next h = simulates_or_stuck (λ m.
    let r = run_from c m (with_pairs (world c) (core_pairs c.in_loop ps) next) in
    or_stuck r _ m.store m.turns (subst (λ o. GivenPairs (world c) m.env c.in_loop o ps next m.store m.turns) h (pairs_given (world c) m.env c.in_loop ps next m.store m.turns)) (preserves (world c) m.env m.adds (next vs) m.store m.turns).calls)

-- ---- a node with a test: without meaning it is stuck

pub expr_meant : {k : Context} {c : Setting k} (b : Bool) (e : core.Expr) {a : Act} → Simulates c (act (world c) e) a → Simulates c (act (world c) (cond b e core.Ill)) a
expr_meant true e h = h
expr_meant false e {a = a} h = simulates_stuck WrongKind a

pub deed_meant : {k : Context} {c : Setting k} (b : Bool) (d : core.Deed) {a : Act} → Simulates c (deed (world c) d) a → Simulates c (deed (world c) (cond b d core.IllDeed)) a
deed_meant true d h = h
deed_meant false d {a = a} h = simulates_stuck WrongKind a

-- ---- the constant that a rule leaves

pub constant_of_means : (loop : Bool) (v : Value) → core_expr loop (constant_of v) ≡ core.Constant v
constant_of_means loop UnitV = refl
constant_of_means loop _ = refl

-- a constant bool has a value
pub bool_value : {A : Type 0} (o : Option Value) (b : Bool) → truth_of o ≡ Some b → ((v : Value) → o ≡ Some v → A) → A
bool_value None b h k = absurd (let z : None ≡ Some b = h in cc)
bool_value (Some v) b h k = k v refl

-- a constant bool decides
pub bool_then : {k : Context} (c : Setting k) (e : Expr) (b : Bool) (x y : Act) → constant_bool e ≡ Some b → Simulates c (act (world c) (core_expr c.in_loop e) >>= λ v. if_true v x y) (choose b x y)
bool_then c e b x y h = bool_value (constant_value e) b h (λ v q.
    simulates_trans (constant_then c e v (λ u. if_true u x y) q)
    (subst (λ o. Simulates c (if_true v x y) (branch o x y)) (sym (ap truth_of q) ∙ h) simulates_refl))

-- two that go on alike after it
pub constant_both : {k : Context} (c : Setting k) (e : Expr) (v : Value) (f g : Value → Act) → constant_value e ≡ Some v → ((env : Env) (s : Store) (t : ℕ) → run (world c) env (f v) s t ≡ run (world c) env (g v) s t) → Simulates c (act (world c) (core_expr c.in_loop e) >>= f) (act (world c) (core_expr c.in_loop e) >>= g)
constant_both c e v f g h j = simulates_equal (λ m.
    let r = run_from c m (act (world c) (core_expr c.in_loop e)) in
    alike m.env r m.store m.turns (subst (λ o. Given (world c) m.env c.in_loop o r m.store m.turns) h (expr_given (world c) m.env c.in_loop e m.store m.turns))) where
      alike : (env : Env) (r : Result) (s : Store) (t : ℕ) → OrWrong r (At (Ended (Gives v)) s t) s t → and_then r (λ x. run (world c) env (value_then f x)) ≡ and_then r (λ x. run (world c) env (value_then g x))
      alike env r s t (is q) = ap (λ z. and_then z (λ x. run (world c) env (value_then f x))) q ∙ j env s t ∙ sym (ap (λ z. and_then z (λ x. run (world c) env (value_then g x))) q)
      alike env r s t (wrong q) = ap (λ z. and_then z (λ x. run (world c) env (value_then f x))) q ∙ sym (ap (λ z. and_then z (λ x. run (world c) env (value_then g x))) q)

-- ---- a constant bool, as core

no_bool : {A : Type 0} (b : Bool) → None ≡ Some b → A
no_bool b h = absurd (let z : None ≡ Some b = h in cc)

bool_is : (a b : Bool) → Some a ≡ Some b → a ≡ b
bool_is true true h = refl
bool_is false false h = refl
bool_is true false h = let z : Some true ≡ Some false = h in absurd cc
bool_is false true h = let z : Some false ≡ Some true = h in absurd cc

value_core : (loop : Bool) (v : Value) (b : Bool) → truth v ≡ Some b → core_expr loop (DynamicConstant v) ≡ core.Constant (BoolV b)
value_core loop (BoolV a) b h = ap (λ x. core.Constant (BoolV x)) (bool_is a b h)
value_core loop _ b h = no_bool b h

no_array : {A : Type 0} (o : Option (List Value)) (b : Bool) → truth_of (array_value o) ≡ Some b → A
no_array None b h = no_bool b h
no_array (Some vs) b h = no_bool b h

no_text : {A : Type 0} (o : Option (List Value)) (b : Bool) → truth_of (joined_value o) ≡ Some b → A
no_text None b h = no_bool b h
no_text (Some vs) b h = no_bool b h

no_map : {A : Type 0} (o : Option (List (Text × Value))) (b : Bool) → truth_of (map_value o) ≡ Some b → A
no_map None b h = no_bool b h
no_map (Some vs) b h = no_bool b h

pub bool_core : (loop : Bool) (e : Expr) (b : Bool) → constant_bool e ≡ Some b → core_expr loop e ≡ core.Constant (BoolV b)
bool_core loop (DynamicConstant v) b h = value_core loop v b h
bool_core loop (BoolConstant a) b h = ap (λ x. core.Constant (BoolV x)) (bool_is a b h)
bool_core loop (InterpolatedString es) b h = no_text (text_constants es) b h
bool_core loop (ArrayOf es) b h = no_array (constant_values es) b h
bool_core loop (MapOf ps template) b h = no_map (constant_entries ps) b h
bool_core loop _ b h = no_bool b h

-- after it the one does what the other does, for its value alone
constant_back : {k : Context} (c : Setting k) (e : Expr) (v : Value) (g : Value → Act) → constant_value e ≡ Some v → Simulates c (act (world c) (core_expr c.in_loop e) >>= λ u. g v) (act (world c) (core_expr c.in_loop e) >>= g)
constant_back c e v g h = constant_both c e v (λ u. g v) g h (λ env s t. refl)

pub constant_alike : {k : Context} (c : Setting k) (e : Expr) (v : Value) (f g : Value → Act) → constant_value e ≡ Some v → Simulates c (f v) (g v) → Simulates c (act (world c) (core_expr c.in_loop e) >>= f) (act (world c) (core_expr c.in_loop e) >>= g)
constant_alike c e v f g h j =
    simulates_trans (constant_both c e v f (λ u. f v) h (λ env s t. refl))
    (simulates_trans (simulates_bind {f = λ u. f v} {f' = λ u. g v} simulates_refl (λ u. j)) (constant_back c e v g h))
