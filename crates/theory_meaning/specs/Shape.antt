-- Which nodes have a meaning: the tests of one node, which run nothing.
use Rattle.std.specs.Prelude.{ℕ, zero, suc, Bool, true, false, not, ◌&&◌, ◌||◌, List, [], ◌∷◌, Option, Some, None, if◌then◌else◌, ◌==◌, nat_lt}
use Rattle.rhai_base.specs.Value.{Text, same_text, is_hashable}
pub use Rattle.rhai_base.specs.Value.{is_unit}
use Rattle.rhai_base.specs.Operators.{symbol, arity}
use Rattle.base_tokens.specs.Names.{is_among, are_all, symbols, barred}
pub use Rattle.base_tokens.specs.Paths.{is_none}
use Rattle.theory_meaning.specs.Tree.{CallToken, NoToken, OfOperator, OfOther, Callee, ChainFlags, SwitchCase, SwitchTable, Expr, Pairs, Arms, BoolConstant, UnitConstant, Variable, ThisPtr, Property, MethodCall, Dot, Index, no_pairs, pair, no_arms, arm, count_arms}

-- ---- calls

-- An operator's token has its own name and its count of arguments; an operator's name has its token.
abbrev pub has_token : Callee → ℕ → CallToken → Bool
has_token c n NoToken = not (is_among c.name symbols)
has_token c n (OfOperator op) = is_none c.namespace && same_text c.name (symbol op) && n == arity op && not c.captures
has_token c n OfOther = false

-- a plain script doesn't call these
abbrev pub is_barred : Callee → Bool
is_barred c = is_none c.namespace && is_among c.name barred

abbrev pub is_callable : Callee → ℕ → Bool
is_callable c n = has_token c n c.token && not (is_barred c)

-- ---- map literals

abbrev pub keys : Pairs → List Text
keys no_pairs = []
keys (pair k e ps) = k ∷ keys ps

abbrev pub are_distinct : List Text → Bool
are_distinct [] = true
are_distinct (k ∷ ks) = not (is_among k ks) && are_distinct ks

abbrev pub are_among : List Text → List Text → Bool
are_among ks ls = are_all (λ k. is_among k ls) ks

abbrev pub is_map : List Text → Pairs → Bool
is_map template ps = are_distinct (keys ps) && are_among (keys ps) template && are_among template (keys ps)

-- ---- chains

-- what stands at the right of the last `Dot`
abbrev pub is_member : Expr → Bool
is_member (Property p) = true
is_member (MethodCall c es) = is_none c.namespace && not c.captures
is_member _ = false

abbrev pub is_argument : Bool → Expr → Bool
is_argument dot e = not dot || is_member e

-- The right side of a `Dot` (dot) or an `Index`, and the rest of the chain from there.
abbrev pub is_rest : (dot breaks : Bool) → Expr → Bool
is_rest dot breaks (Dot k l r) = if breaks then not dot else (is_argument dot l && is_rest true k.breaks r)
is_rest dot breaks (Index k l r) = if breaks then not dot else (is_argument dot l && is_rest false k.breaks r)
is_rest dot breaks e = if dot then is_member e else breaks

-- whether the outermost node of a chain has a meaning
abbrev pub is_chain : (dot : Bool) → ChainFlags → Expr → Bool
is_chain dot k r = is_rest dot k.breaks r

-- ---- the table of a `switch`

-- literally true
abbrev pub is_true : Expr → Bool
is_true (BoolConstant b) = b
is_true _ = false

abbrev pub condition_at : Arms → ℕ → Bool
condition_at no_arms i = false
condition_at (arm c a as') zero = is_true c
condition_at (arm c a as') (suc i) = condition_at as' i

abbrev pub names_arm : ℕ → List ℕ → Bool
names_arm i [] = false
names_arm i (j ∷ js) = i == j || names_arm i js

abbrev pub case_fits : ℕ → SwitchCase → Bool
case_fits n l = is_hashable l.value && are_all (λ i. nat_lt i n) l.arms

abbrev pub spares : ℕ → SwitchTable → Bool
spares d t = are_all (λ l. not (names_arm d l.arms)) t.cases && are_all (λ r. not (r.arm == d)) t.ranges

abbrev pub default_fits : Arms → SwitchTable → Option ℕ → Bool
default_fits as' t None = true
default_fits as' t (Some d) = nat_lt d (count_arms as') && condition_at as' d && spares d t

abbrev pub is_table : Arms → SwitchTable → Bool
is_table as' t =
    are_all (case_fits (count_arms as')) t.cases && are_all (λ r. nat_lt r.arm (count_arms as')) t.ranges && default_fits as' t t.default

-- ---- left sides, catch names

abbrev pub is_left_side : Expr → Bool
is_left_side (Variable p x) = true
is_left_side ThisPtr = true
is_left_side (Dot k l r) = true
is_left_side (Index k l r) = true
is_left_side _ = false

-- the catch name, if any; None: this is no catch name
abbrev pub catch_name : Expr → Option (Option Text)
catch_name UnitConstant = Some None
catch_name (Variable [] x) = Some (Some x)
catch_name _ = None
