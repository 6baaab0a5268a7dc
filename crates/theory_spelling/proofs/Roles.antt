-- What the nodes around a tree ask of it is as before: how many parts it has, their names, and its kind.
use Rattle.std.proofs.Common.{◌≡◌, ℕ, zero, suc, Bool, true, false, not, cond, ◌&&◌, List, ◌∷◌, Option, Some, None, refl, ap, ◌∙◌}
use Rattle.std.specs.Prelude.{if◌then◌else◌, nat_lt}
use Rattle.rhai_base.specs.Value.{Text}
use Rattle.base_tokens.specs.Names.{are_all}
use Rattle.theory_meaning.specs.Constants.{is_literal_unit}
use Rattle.theory_meaning.specs.Core as core
use Rattle.theory_meaning.specs.Core.{Guard, When, Step, IllStep, Steps, last, Target, IllTarget}
use Rattle.theory_meaning.specs.Desugar.{root_of, ends_in_call, guard_by, member_of, steps_of, target_of}
use Rattle.theory_meaning.specs.Shape.{keys, are_distinct, are_among, is_map, is_member, is_argument, is_rest, is_true, condition_at, case_fits, spares, default_fits, is_table, is_left_side, catch_name}
use Rattle.theory_meaning.specs.Tree.{ChainFlags, SwitchTable, Expr, BoolConstant, UnitConstant, Variable, ThisPtr, Property, MethodCall, Dot, Index, Exprs, no_exprs, expr, count_exprs, Pairs, no_pairs, pair, Arms, no_arms, arm, count_arms}
use Rattle.theory_spelling.specs.Bare.{has_role, braced_if, as_side, as_guard, as_catch, as_condition, is_last, bare_flags, bare_expr, bare_exprs, bare_pairs, bare_arms, with_condition_at, has_true_default, with_default}

no : {A : Type 0} → true ≡ false → A
no h = absurd (let z : true ≡ false = h in cc)

-- ---- numbers and names of parts

pub count_kept : (es : Exprs) → count_exprs (bare_exprs es) ≡ count_exprs es
count_kept no_exprs = refl
count_kept (expr e es) = ap suc (count_kept es)

keys_kept : (ps : Pairs) → keys (bare_pairs ps) ≡ keys ps
keys_kept no_pairs = refl
keys_kept (pair k e ps) = ap (λ ks. k ∷ ks) (keys_kept ps)

pub map_kept : (template : List Text) (ps : Pairs) → is_map template (bare_pairs ps) ≡ is_map template ps
map_kept template ps = ap (λ ks. are_distinct ks && are_among ks template && are_among template ks) (keys_kept ps)

-- ---- what has no role

pub record Plain (e : Expr) : Type 0 where
  pub root : root_of e ≡ None
  pub member : is_member e ≡ false
  pub final : (dot : Bool) → is_last dot e ≡ dot
  pub left : is_left_side e ≡ false
  pub rest : (dot breaks : Bool) → is_rest dot breaks e ≡ (if dot then false else breaks)
  pub ends : (dot breaks : Bool) → ends_in_call dot breaks e ≡ false
  pub part : (loop : Bool) → member_of loop e ≡ IllStep
  pub steps : (loop dot : Bool) (k : ChainFlags) (p : Step) → steps_of loop dot k p e ≡ last k.negated p
  pub target : (loop : Bool) → target_of loop e ≡ IllTarget

pub plain : (e : Expr) → has_role e ≡ false → Plain e
plain (Variable p x) h = no h
plain ThisPtr h = no h
plain (Property p) h = no h
plain (MethodCall c es) h = no h
plain (Dot k l r) h = no h
plain (Index k l r) h = no h
plain _ h = record { root = refl; member = refl; final = λ dot. refl; left = refl; rest = λ dot breaks. refl; ends = λ dot breaks. refl; part = λ loop. refl; steps = λ loop dot k p. refl; target = λ loop. refl }

no_role : (b : Bool) (e : Expr) → has_role e ≡ b → has_role (braced_if b e) ≡ false
no_role true e h = refl
no_role false e h = h

-- what had no role has none
pub plain_side : (e : Expr) → Plain (as_side false e)
plain_side e = plain (as_side false e) (no_role (has_role e) e refl)

-- ---- sides

abbrev pub side : Expr → Expr
side e = as_side (has_role e) (bare_expr e)

pub root_kept : (e : Expr) → root_of (side e) ≡ root_of e
root_kept (Variable p x) = refl
root_kept ThisPtr = refl
root_kept (Property p) = refl
root_kept (MethodCall c es) = refl
root_kept (Dot k l r) = refl
root_kept (Index k l r) = refl
root_kept e = (plain_side (bare_expr e)).root

member_kept : (e : Expr) → is_member (side e) ≡ is_member e
member_kept (Variable p x) = refl
member_kept ThisPtr = refl
member_kept (Property p) = refl
member_kept (MethodCall c es) = refl
member_kept (Dot k l r) = refl
member_kept (Index k l r) = refl
member_kept e = (plain_side (bare_expr e)).member

pub left_kept : (e : Expr) → is_left_side (side e) ≡ is_left_side e
left_kept (Variable p x) = refl
left_kept ThisPtr = refl
left_kept (Property p) = refl
left_kept (MethodCall c es) = refl
left_kept (Dot k l r) = refl
left_kept (Index k l r) = refl
left_kept e = (plain_side (bare_expr e)).left

argument_kept : (dot : Bool) (e : Expr) → is_argument dot (side e) ≡ is_argument dot e
argument_kept true e = member_kept e
argument_kept false e = refl

-- at the end of a chain
ended : (dot breaks is : Bool) → (if dot then is else cond dot false breaks) ≡ (if dot then is else breaks)
ended true breaks is = refl
ended false breaks is = refl

pub rest_kept : (dot : Bool) (k : ChainFlags) (r : Expr) → is_rest dot (bare_flags dot k r).breaks (side r) ≡ is_rest dot k.breaks r
rest_kept dot k (Dot m a b) = λ i. if k.breaks then not dot else (argument_kept dot a i && rest_kept true m b i)
rest_kept dot k (Index m a b) = λ i. if k.breaks then not dot else (argument_kept dot a i && rest_kept false m b i)
rest_kept dot k (Variable p x) = ended dot k.breaks false
rest_kept dot k ThisPtr = ended dot k.breaks false
rest_kept dot k (Property p) = ended dot k.breaks true
rest_kept dot k (MethodCall c es) = ended dot k.breaks (is_member (MethodCall c es))
rest_kept dot k e = (plain_side (bare_expr e)).rest dot (bare_flags dot k e).breaks ∙ ended dot k.breaks false

pub ends_kept : (dot : Bool) (k : ChainFlags) (r : Expr) → ends_in_call dot (bare_flags dot k r).breaks (side r) ≡ ends_in_call dot k.breaks r
ends_kept dot k (Dot m a b) = ap (λ c. not k.breaks && c) (ends_kept true m b)
ends_kept dot k (Index m a b) = ap (λ c. not k.breaks && c) (ends_kept false m b)
ends_kept dot k (Variable p x) = refl
ends_kept dot k ThisPtr = refl
ends_kept dot k (Property p) = refl
ends_kept dot k (MethodCall c es) = refl
ends_kept dot k e = (plain_side (bare_expr e)).ends dot (bare_flags dot k e).breaks

-- ---- guards

no_unit : (b : Bool) (e : Expr) → is_literal_unit e ≡ b → is_literal_unit (braced_if b e) ≡ false
no_unit true e h = refl
no_unit false e h = h

guarded : (e : Expr) (c : core.Expr) → is_literal_unit e ≡ false → guard_by e c ≡ When c
guarded UnitConstant c h = no h
guarded _ c h = refl

-- what was no literal unit is none
pub guard_kept : (e : Expr) (c : core.Expr) → guard_by (as_guard false e) c ≡ When c
guard_kept e c = guarded (as_guard false e) c (no_unit (is_literal_unit e) e refl)

-- ---- catch names

uncaught : (e : Expr) → has_role e ≡ false → is_literal_unit e ≡ false → catch_name e ≡ None
uncaught UnitConstant h k = no k
uncaught (Variable p x) h k = no h
uncaught _ h k = refl

roleless : (b : Bool) (e : Expr) → has_role e ≡ false → has_role (braced_if b e) ≡ false
roleless true e h = refl
roleless false e h = h

plain_catch : (e : Expr) → catch_name (as_catch false false e) ≡ None
plain_catch e =
    let s = as_side false e in
    uncaught (as_guard false s) (roleless (is_literal_unit s) s (no_role (has_role e) e refl)) (no_unit (is_literal_unit s) s refl)

pub catch_kept : (e : Expr) → catch_name (as_catch (has_role e) (is_literal_unit e) (bare_expr e)) ≡ catch_name e
catch_kept UnitConstant = refl
catch_kept (Variable p x) = refl
catch_kept ThisPtr = refl
catch_kept (Property p) = refl
catch_kept (MethodCall c es) = refl
catch_kept (Dot k l r) = refl
catch_kept (Index k l r) = refl
catch_kept e = plain_catch (bare_expr e)

-- ---- arms

not_true : (b : Bool) (e : Expr) → is_true e ≡ b → is_true (braced_if b e) ≡ false
not_true true e h = refl
not_true false e h = h

condition_kept : (c : Expr) → is_true (as_condition (is_true c) (bare_expr c)) ≡ is_true c
condition_kept (BoolConstant true) = refl
condition_kept (BoolConstant false) = refl
condition_kept c = not_true (is_true (bare_expr c)) (bare_expr c) refl

conditions_kept : (as' : Arms) (d : ℕ) → condition_at (with_condition_at (condition_at as' d) (bare_arms as') d) d ≡ condition_at as' d
conditions_kept no_arms d = refl
conditions_kept (arm c a as') zero = condition_kept c
conditions_kept (arm c a as') (suc d) = conditions_kept as' d

counted : (had : Bool) (as' : Arms) (d : ℕ) → count_arms (with_condition_at had as' d) ≡ count_arms as'
counted had no_arms d = refl
counted had (arm c a as') zero = refl
counted had (arm c a as') (suc d) = ap suc (counted had as' d)

arms_kept : (as' : Arms) → count_arms (bare_arms as') ≡ count_arms as'
arms_kept no_arms = refl
arms_kept (arm c a as') = ap suc (arms_kept as')

abbrev pub bare_table_arms : Arms → Option ℕ → Arms
bare_table_arms as' o = with_default (has_true_default as' o) (bare_arms as') o

count_with : (as' : Arms) (o : Option ℕ) → count_arms (bare_table_arms as' o) ≡ count_arms as'
count_with as' None = arms_kept as'
count_with as' (Some d) = counted (condition_at as' d) (bare_arms as') d ∙ arms_kept as'

default_kept : (as' : Arms) (t : SwitchTable) (o : Option ℕ) → default_fits (bare_table_arms as' o) t o ≡ default_fits as' t o
default_kept as' t None = refl
default_kept as' t (Some d) = λ i. nat_lt d (count_with as' (Some d) i) && conditions_kept as' d i && spares d t

pub table_kept : (as' : Arms) (t : SwitchTable) → is_table (bare_table_arms as' t.default) t ≡ is_table as' t
table_kept as' t = λ i. are_all (case_fits (count_with as' t.default i)) t.cases && are_all (λ r. nat_lt r.arm (count_with as' t.default i)) t.ranges && default_kept as' t t.default i
