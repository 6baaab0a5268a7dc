-- Trees in normal form: a node whose parts are, and at which no rule applies; and a list.
use Rattle.std.proofs.Common.{◌≡◌, List, [], ◌∷◌, cond, Bool, true, false, ◌||◌, ◌⊎◌, inl, inr, Option, Some, None, refl, sym, ap, ◌∙◌, subst}
use Rattle.std.specs.Prelude.{codes}
use Rattle.std.proofs.lemmas.Slice.Eq.{bytes_eq-Decides}
use Rattle.rhai_base.specs.Value.{Text}
use Rattle.theory_meaning.specs.Elements.{entry}
use Rattle.theory_meaning.specs.Act.{Root, OfName, OfGlobal, OfThis}
use Rattle.theory_meaning.specs.Desugar.{is_global, name_root, root_of}
use Rattle.theory_meaning.specs.Queries.{is_unit}
use Rattle.theory_meaning.specs.Tree.{ChainFlags, Callee, Expr, BoolConstant, UnitConstant, InterpolatedString, ArrayOf, MapOf, Variable, ThisPtr, MethodCall, BlockExpr, FnCall, Dot, Index, And, Or, Coalesce, Exprs, no_exprs, expr, Pairs, no_pairs, pair, no_expr, an_expr, Arms, no_arms, arm, Stmt, If, Switch, While, Do, For, Var, Assignment, Block, TryCatch, ExprStmt, FnCallStmt, BreakLoop, Return, Import, Stmts, no_stmts, stmt}
use Rattle.theory_rewriting.specs.Context.{Context, behind, ListKind, Inside, wanted, wanted_before, open_list, ListContext}
use Rattle.theory_rewriting.specs.Normal.{IsNormal, HasNormalParts, StmtHasNormalParts, AreNormalEach, AreSwept, gives_way, any_gives_way}
use Rattle.theory_rewriting.specs.Parts.{link}
use Rattle.theory_rewriting.specs.Rewriting.{ExprTo, same_expr, then_expr, by_expr_rule, in_text, in_array, in_map, in_braces, in_call, in_stray_method, in_chain, in_and, in_or, in_coalesce, ExprsTo, exprs_none, exprs_more, PairsTo, pairs_none, pairs_more, ChainTo, in_dot, in_index, BaseTo, base, ArgumentTo, same_argument, in_method, in_brackets, StepsTo, same_steps, last_method, last_index, more_dot, more_index, TargetTo, same_target, in_target, GuardTo, guard, MaybeTo, maybe_none, maybe_some, ArmsTo, arms_none, arms_more, StmtTo, same_stmt, then_stmt, by_stmt_rule, in_if, in_switch, in_while, in_do, in_for, in_var, in_assignment, in_block, in_try, in_expression, in_call_statement, in_break, in_return, in_import, RestTo, same_stmts, then_stmts, by_list_rule, in_head, in_tail, flag_forgotten}
use Rattle.theory_rewriting.specs.Rules as rule
use Rattle.theory_rewriting.specs.Rules.{ChainRule, ExprRule, StmtRule, ListRule}
use Rattle.theory_rewriting.specs.Steps.{Place, Anywhere, AsBase, AsGuard, NoExprRule, NoStmtRule, IsNormalAt, is_chain_node, is_method}
use Rattle.theory_rewriting.specs.SurelyUnit.{is_surely_unit}
use Rattle.theory_rewriting.proofs.Reducing.{root_for_value, root_of_value}
use Rattle.theory_rewriting.proofs.rules.Steps.{step_rule}

-- ---- lists of parts

pub no_exprs_normal : {k : Context} → IsNormal (ExprsTo k) no_exprs
no_exprs_normal d d' x exprs_none = refl

pub exprs_normal : {k : Context} {e : Expr} {es : Exprs} → IsNormal (ExprTo k) e → IsNormal (ExprsTo k) es → IsNormal (ExprsTo k) (expr e es)
exprs_normal {e = e} h i d d' x (exprs_more {es' = es'} p q) = ap (λ a. expr a es') (h _ _ _ p) ∙ ap (expr e) (i _ _ _ q)

pub no_pairs_normal : {k : Context} → IsNormal (PairsTo k) no_pairs
no_pairs_normal d d' x pairs_none = refl

pub pairs_normal : {k : Context} {x : Text} {e : Expr} {ps : Pairs} → IsNormal (ExprTo k) e → IsNormal (PairsTo k) ps → IsNormal (PairsTo k) (pair x e ps)
pairs_normal {x = x} {e = e} h i d d' z (pairs_more {ps' = ps'} p q) = ap (λ a. pair x a ps') (h _ _ _ p) ∙ ap (pair x e) (i _ _ _ q)

pub no_arms_normal : {k : Context} → IsNormal (ArmsTo k) no_arms
no_arms_normal d d' x arms_none = refl

pub arms_normal : {k : Context} {c a : Expr} {as' : Arms} → IsNormal (ExprTo k) c → IsNormal (ExprTo k) a → IsNormal (ArmsTo k) as' → IsNormal (ArmsTo k) (arm c a as')
arms_normal {c = c} {a = a} h i j d d' z (arms_more {a' = a'} {bs = bs} p q r) = ap (λ x. arm x a' bs) (h _ _ _ p) ∙ ap (λ x. arm c x bs) (i _ _ _ q) ∙ ap (arm c a) (j _ _ _ r)

pub no_expr_normal : {k : Context} → IsNormal (MaybeTo k) no_expr
no_expr_normal d d' x maybe_none = refl

pub an_expr_normal : {k : Context} {e : Expr} → IsNormal (ExprTo k) e → IsNormal (MaybeTo k) (an_expr e)
an_expr_normal h d d' x (maybe_some p) = ap an_expr (h _ _ _ p)

-- and back: what is a part of a list in normal form is
abbrev first_of : Exprs → Expr → Expr
first_of no_exprs e = e
first_of (expr e es) d = e

abbrev others_of : Exprs → Exprs
others_of no_exprs = no_exprs
others_of (expr e es) = es

same_exprs : {k : Context} {d : Bool} (es : Exprs) → ExprsTo k d d es es
same_exprs no_exprs = exprs_none
same_exprs (expr e es) = exprs_more same_expr (same_exprs es)

pub first_normal : {k : Context} {e : Expr} {es : Exprs} → IsNormal (ExprsTo k) (expr e es) → IsNormal (ExprTo k) e
first_normal {e = e} {es = es} h d d' x p = ap (λ l. first_of l e) (h _ _ _ (exprs_more p (same_exprs es)))

pub others_normal : {k : Context} {e : Expr} {es : Exprs} → IsNormal (ExprsTo k) (expr e es) → IsNormal (ExprsTo k) es
others_normal h d d' x p = ap others_of (h _ _ _ (exprs_more same_expr p))

-- ---- the rest of a chain

pub method_normal : {k : Context} {c : Callee} {es : Exprs} → IsNormal (ExprsTo k) es → IsNormal (ArgumentTo k true) (MethodCall c es)
method_normal h d d' x same_argument = refl
method_normal {c = c} h d d' x (in_method p) = ap (MethodCall c) (h _ _ _ p)

pub brackets_normal : {k : Context} {e : Expr} → IsNormal (ExprTo k) e → IsNormal (ArgumentTo k false) e
brackets_normal h d d' x same_argument = refl
brackets_normal h d d' x (in_brackets p) = h _ _ _ p

-- what is no method call is not opened behind a `.`
member_stays : {k : Context} {d d' : Bool} {e x : Expr} → ArgumentTo k true d d' e x → is_method e ≡ false → x ≡ e
member_stays same_argument h = refl
member_stays (in_method p) h = absurd (let z : true ≡ false = h in cc)

-- where a chain ends its right side is an argument
pub last_normal : {k : Context} {dot : Bool} {e : Expr} → IsNormal (ArgumentTo k dot) e → IsNormal (StepsTo k dot true) e
last_normal h d d' x same_steps = refl
last_normal h d d' x (last_method p) = h _ _ _ (in_method p)
last_normal h d d' x (last_index p) = h _ _ _ (in_brackets p)

-- where it goes on it is the next node
pub more_dot_normal : {k : Context} {dot : Bool} {f : ChainFlags} {l r : Expr} → IsNormal (ArgumentTo k dot) l → IsNormal (StepsTo k true f.breaks) r → IsNormal (StepsTo k dot false) (Dot f l r)
more_dot_normal h i d d' x same_steps = refl
more_dot_normal {f = f} {l = l} h i d d' x (more_dot {r' = r'} p q) = ap (λ a. Dot f a r') (h _ _ _ p) ∙ ap (Dot f l) (i _ _ _ q)

pub more_index_normal : {k : Context} {dot : Bool} {f : ChainFlags} {l r : Expr} → IsNormal (ArgumentTo k dot) l → IsNormal (StepsTo k false f.breaks) r → IsNormal (StepsTo k dot false) (Index f l r)
more_index_normal h i d d' x same_steps = refl
more_index_normal {f = f} {l = l} h i d d' x (more_index {r' = r'} p q) = ap (λ a. Index f a r') (h _ _ _ p) ∙ ap (Index f l) (i _ _ _ q)

-- or a member behind a `.`, or nothing that can stand there
steps_member : {k : Context} {d d' : Bool} {e x : Expr} → StepsTo k true false d d' e x → is_chain_node e ≡ false → IsNormal (ArgumentTo k true) e → x ≡ e
steps_member same_steps c h = refl
steps_member (last_method p) c h = h _ _ _ (in_method p)
steps_member (more_dot p q) c h = absurd (let z : true ≡ false = c in cc)
steps_member (more_index p q) c h = absurd (let z : true ≡ false = c in cc)

pub last_member_normal : {k : Context} {e : Expr} → is_chain_node e ≡ false → IsNormal (ArgumentTo k true) e → IsNormal (StepsTo k true false) e
last_member_normal c h d d' x p = steps_member p c h

steps_none : {k : Context} {d d' : Bool} {e x : Expr} → StepsTo k false false d d' e x → is_chain_node e ≡ false → x ≡ e
steps_none same_steps c = refl
steps_none (more_dot p q) c = absurd (let z : true ≡ false = c in cc)
steps_none (more_index p q) c = absurd (let z : true ≡ false = c in cc)

pub no_steps_normal : {k : Context} {e : Expr} → is_chain_node e ≡ false → IsNormal (StepsTo k false false) e
no_steps_normal c d d' x p = steps_none p c

pub member_normal : {k : Context} {e : Expr} → is_method e ≡ false → IsNormal (ArgumentTo k true) e
member_normal c d d' x p = member_stays p c

-- ---- a node by its parts

chain_stays : {k : Context} {d d' : Bool} {e x : Expr} → ChainTo k d d' e x → HasNormalParts k e → x ≡ e
chain_stays (in_dot {f = f} {l = l} {r' = r'} p q) h = ap (λ a. Dot f a r') (h.0 _ _ _ p) ∙ ap (Dot f l) (h.1 _ _ _ q)
chain_stays (in_index {f = f} {l = l} {r' = r'} p q) h = ap (λ a. Index f a r') (h.0 _ _ _ p) ∙ ap (Index f l) (h.1 _ _ _ q)

-- an expression whose parts are in normal form stays what it is, or a rule makes something of it, of which nothing leads back
stays_or : {k : Context} {d d' : Bool} {e x : Expr} (o : Expr) (G : Expr → Type 0) → HasNormalParts k o → ((y : Expr) → ExprRule k o y → G y) → ((c c' : Bool) (y z : Expr) → G y → ExprTo k c c' y z → G z) → ExprTo k d d' e x → e ≡ o → (x ≡ o) ⊎ G x
stays_or o G h n g same_expr i = inl i
stays_or {x = x} o G h n g (then_expr {d1 = d1} {d2 = d2} {e1 = y} p q) i = by (stays_or o G h n g p i) (λ j. stays_or o G h n g q j) where
  by : (y ≡ o) ⊎ G y → (y ≡ o → (x ≡ o) ⊎ G x) → (x ≡ o) ⊎ G x
  by (inl j) f = f j
  by (inr j) f = inr (g d1 d2 y x j q)
stays_or {k = k} {x = x} o G h n g (by_expr_rule r) i = inr (n x (subst (λ z. ExprRule k z x) i r))
stays_or {k = k} o G h n g (in_text p) i = inl (ap InterpolatedString (subst (HasNormalParts k) (sym i) h _ _ _ p) ∙ i)
stays_or {k = k} o G h n g (in_array p) i = inl (ap ArrayOf (subst (HasNormalParts k) (sym i) h _ _ _ p) ∙ i)
stays_or {k = k} o G h n g (in_map {template = template} p) i = inl (ap (λ ps. MapOf ps template) (subst (HasNormalParts k) (sym i) h _ _ _ p) ∙ i)
stays_or {k = k} o G h n g (in_braces p) i = inl (ap BlockExpr (subst (HasNormalParts k) (sym i) h _ _ _ p) ∙ i)
stays_or {k = k} o G h n g (in_call {c = c} p) i = inl (ap (FnCall c) (subst (HasNormalParts k) (sym i) h _ _ _ p) ∙ i)
stays_or {k = k} o G h n g (in_stray_method {c = c} p) i = inl (ap (MethodCall c) (subst (HasNormalParts k) (sym i) h _ _ _ p) ∙ i)
stays_or {k = k} o G h n g (in_chain p) i = inl (chain_stays p (subst (HasNormalParts k) (sym i) h) ∙ i)
stays_or {k = k} o G h n g (in_and p) i = inl (ap And (subst (HasNormalParts k) (sym i) h _ _ _ p) ∙ i)
stays_or {k = k} o G h n g (in_or p) i = inl (ap Or (subst (HasNormalParts k) (sym i) h _ _ _ p) ∙ i)
stays_or {k = k} o G h n g (in_coalesce p) i = inl (ap Coalesce (subst (HasNormalParts k) (sym i) h _ _ _ p) ∙ i)

or_never : {A : Type 0} → A ⊎ ⊥ → A
or_never (inl a) = a
or_never (inr n) = absurd n

pub expr_normal : {k : Context} (e : Expr) → HasNormalParts k e → ((e' : Expr) → ExprRule k e e' → ⊥) → IsNormal (ExprTo k) e
expr_normal e h n d d' x p = or_never (stays_or e (λ y. ⊥) h n (λ c c' y z b q. b) p refl)

-- no rule applies to a literal unit or bool
abbrev pub is_literal : Expr → Bool
is_literal UnitConstant = true
is_literal (BoolConstant b) = true
is_literal _ = false

literal_has_no_rule : {k : Context} {e e' : Expr} → ExprRule k e e' → is_literal e ≡ false
literal_has_no_rule (rule.array_of_constants h) = refl
literal_has_no_rule _ = refl

no : {A : Type 0} → true ≡ false → A
no h = absurd (let z : true ≡ false = h in cc)

pub literal_normal : {k : Context} (e : Expr) → is_literal e ≡ true → IsNormal (ExprTo k) e
literal_normal UnitConstant h = expr_normal UnitConstant tt (λ y r. no (literal_has_no_rule r))
literal_normal (BoolConstant b) h = expr_normal (BoolConstant b) tt (λ y r. no (literal_has_no_rule r))
literal_normal _ h = no (sym h)

unit_is_literal : (e : Expr) → is_unit e ≡ true → is_literal e ≡ true
unit_is_literal UnitConstant h = refl
unit_is_literal _ h = no (sym h)

unit_has_no_rule : {k : Context} {e e' : Expr} → ExprRule k e e' → is_unit e ≡ false
unit_has_no_rule {e = e} r = by (is_unit e) refl where
  by : (b : Bool) → is_unit e ≡ b → b ≡ false
  by false h = refl
  by true h = no (sym (unit_is_literal e h) ∙ literal_has_no_rule r)

-- ---- a guard, which no literal unit became or was; and a base, which is no place or a place that stays

-- what differs in this, and of which nothing else is made
abbrev Apart : {A : Type 0} → Context → (Expr → A) → Expr → Expr → Type 0
Apart k f o x = (f x ≡ f o → ⊥) × IsNormal (ExprTo k) x

apart_stays : {A : Type 0} {k : Context} (f : Expr → A) (o : Expr) (c c' : Bool) (y z : Expr) → Apart k f o y → ExprTo k c c' y z → Apart k f o z
apart_stays {k = k} f o c c' y z a q = subst (Apart k f o) (sym (a.1 c c' z q)) a

not_apart : {A : Type 0} {k : Context} (f : Expr → A) (o x : Expr) → (x ≡ o) ⊎ Apart k f o x → f x ≡ f o → x ≡ o
not_apart f o x (inl h) i = h
not_apart f o x (inr a) i = absurd (a.0 i)

guard_rule : {k : Context} (o x : Expr) → NoExprRule k AsGuard o → ExprRule k o x → Apart k is_unit o x
guard_rule {k = k} o x n r = by (is_unit x) refl where
  by : (b : Bool) → is_unit x ≡ b → Apart k is_unit o x
  by false h = absurd (n x r (h ∙ sym (unit_has_no_rule r)))
  by true h = (λ i. no (sym h ∙ i ∙ unit_has_no_rule r), literal_normal x (unit_is_literal x h))

guard_stays : {k : Context} (o : Expr) → HasNormalParts k o → NoExprRule k AsGuard o → {d d' : Bool} {e x : Expr} → GuardTo k d d' e x → e ≡ o → x ≡ o
guard_stays {k = k} o h n {x = x} (guard p i) j = not_apart is_unit o x (stays_or o (Apart k is_unit o) h (λ y r. guard_rule o y n r) (apart_stays is_unit o) p j) (i ∙ ap is_unit j)

-- places are told apart by their roots
abbrev tree_of : Root → Expr
tree_of (OfName x) = Variable [] x
tree_of (OfGlobal x) = Variable (codes "global" ∷ []) x
tree_of OfThis = ThisPtr

is_tree_of : (e : Expr) (q r : Root) → Some q ≡ Some r → e ≡ tree_of q → e ≡ tree_of r
is_tree_of e q r h = subst (λ p. e ≡ tree_of p) (let z : q ≡ r = cc in z)

name_back : (ns : List Text) (x : Text) (r : Root) → name_root ns x ≡ Some r → Variable ns x ≡ tree_of r
name_back [] x r h = is_tree_of _ (OfName x) r h refl
name_back (m ∷ []) x r h = by (is_global m) refl h where
  by : (b : Bool) → is_global m ≡ b → cond b (Some (OfGlobal x)) None ≡ Some r → Variable (m ∷ []) x ≡ tree_of r
  by true g k = is_tree_of _ (OfGlobal x) r k (ap (λ n. Variable (n ∷ []) x) ((bytes_eq-Decides m (codes "global")).0 g))
  by false g k = absurd (let z : None ≡ Some r = k in cc)
name_back (m ∷ n ∷ ns) x r h = absurd (let z : None ≡ Some r = h in cc)

root_back : (e : Expr) (r : Root) → root_of e ≡ Some r → e ≡ tree_of r
root_back (Variable ns x) r h = name_back ns x r h
root_back ThisPtr r h = is_tree_of _ OfThis r h refl
root_back _ r h = absurd cc

same_place : (e x : Expr) (r : Root) → root_of e ≡ Some r → root_of x ≡ Some r → x ≡ e
same_place e x r h i = root_back x r i ∙ sym (root_back e r h)

-- what is alone in braces
abbrev alone_in : Stmts → Expr → Expr
alone_in (stmt (ExprStmt e) ss) d = e
alone_in _ d = d

braced_normal : {k : Context} (e : Expr) → IsNormal (RestTo (open_list k) (Inside true) true) (stmt (ExprStmt e) no_stmts) → IsNormal (ExprTo k) e
braced_normal e h d d' x p = ap (λ l. alone_in l e) (h _ _ _ (in_head (in_expression p)))

no_place : {A : Type 0} {o : Option Root} {r : Root} → o ≡ None → o ≡ Some r → A
no_place {r = r} h i = absurd (let z : None ≡ Some r = sym h ∙ i in cc)

link_root : (dot : Bool) (m : ChainFlags) (l r : Expr) → root_of (link dot m l r) ≡ None
link_root true m l r = refl
link_root false m l r = refl

chain_root : {k : Context} {dot : Bool} {f : ChainFlags} {e a e' : Expr} → ChainRule k dot f e a e' → root_of e' ≡ None
chain_root (rule.unit_ends q) = refl
chain_root (rule.step_answers s) = (step_rule s).answer
chain_root (rule.chain_goes_on next {e' = e'} m r q s) = link_root next m e' r
chain_root (rule.known_property {p = p} fs q) = root_of_value (entry fs p.name)
chain_root (rule.known_entry fs y q t) = root_of_value (entry fs y)

-- a rule makes a place of a node by taking it out of a part, in which nothing is left to do
place_made : {k : Context} {o x : Expr} (r : Root) → HasNormalParts k o → root_of o ≡ None → ExprRule k o x → root_of x ≡ Some r → IsNormal (ExprTo k) x
place_made {x = x} r h i rule.braces_of_expression j = braced_normal x h
place_made r h i (rule.operator_folds {v = v} q) j = no_place (root_for_value v) j
place_made r h i rule.and_of_one j = first_normal h
place_made r h i rule.or_of_one j = first_normal h
place_made r h i rule.coalesce_of_one j = first_normal h
place_made r h i (rule.dot_rule s) j = no_place (chain_root s) j
place_made r h i (rule.index_rule s) j = no_place (chain_root s) j
place_made r h i (rule.known_name v q) j = no_place (root_of_value v) j
place_made r h i _ j = no_place refl j

base_rule : {k : Context} (o x : Expr) → HasNormalParts k o → NoExprRule k AsBase o → root_of o ≡ None → ExprRule k o x → Apart k root_of o x
base_rule {k = k} o x h n i r = by (root_of x) refl where
  by : (p : Option Root) → root_of x ≡ p → Apart k root_of o x
  by None j = absurd (n x r (j ∙ sym i))
  by (Some p) j = (n x r, place_made p h i r j)

base_stays : {k : Context} (o : Expr) → HasNormalParts k o → NoExprRule k AsBase o → {d d' : Bool} {e x : Expr} → BaseTo k d d' e x → e ≡ o → x ≡ o
base_stays {k = k} o h n {x = x} (base p i) j = by (root_of o) refl where
  by : (q : Option Root) → root_of o ≡ q → x ≡ o
  by None z = not_apart root_of o x (stays_or o (Apart k root_of o) h (λ y r. base_rule o y h n z r) (apart_stays root_of o) p j) (i ∙ ap root_of j)
  by (Some r) z = same_place o x r z (i ∙ ap root_of j ∙ z)

pub normal_at : {k : Context} (p : Place) (e : Expr) → HasNormalParts k e → NoExprRule k p e → IsNormalAt p k e
normal_at Anywhere e h n = expr_normal e h (λ y r. n y r tt)
normal_at AsBase e h n = λ d d' x p. base_stays e h n p refl
normal_at AsGuard e h n = λ d d' x p. guard_stays e h n p refl

-- ---- a statement by its parts

stmt_stays : {k : Context} {w d d' : Bool} {s x : Stmt} (o : Stmt) → StmtHasNormalParts k w o → NoStmtRule k o → StmtTo k w d d' s x → s ≡ o → x ≡ o
stmt_stays o h n same_stmt i = i
stmt_stays o h n (then_stmt p q) i = stmt_stays o h n q (stmt_stays o h n p i)
stmt_stays {k = k} {w = w} {x = x} o h n (by_stmt_rule r) i = absurd (n w x (subst (λ z. StmtRule k w z x) i r))
stmt_stays {k = k} {w = w} o h n (in_if {e = e} {a = a} {a' = a'} {b' = b'} p q r) i =
    let z = subst (StmtHasNormalParts k w) (sym i) h in
    ap (λ y. If y a' b') (z.0 _ _ _ p) ∙ ap (λ y. If e y b') (z.1.0 _ _ _ q) ∙ ap (If e a) (z.1.1 _ _ _ r) ∙ i
stmt_stays {k = k} {w = w} o h n (in_switch {e = e} {bs = bs} {t = t} p q) i =
    let z = subst (StmtHasNormalParts k w) (sym i) h in
    ap (λ y. Switch y bs t) (z.0 _ _ _ p) ∙ ap (λ y. Switch e y t) (z.1 _ _ _ q) ∙ i
stmt_stays {k = k} {w = w} o h n (in_while {e = e} {b' = b'} p q) i =
    let z = subst (StmtHasNormalParts k w) (sym i) h in
    ap (λ y. While y b') (z.0 _ _ _ p) ∙ ap (While e) (z.1 _ _ _ q) ∙ i
stmt_stays {k = k} {w = w} o h n (in_do {negated = negated} {exported = exported} {e = e} {b' = b'} p q) i =
    let z = subst (StmtHasNormalParts k w) (sym i) h in
    ap (λ y. Do negated exported y b') (z.0 _ _ _ p) ∙ ap (Do negated exported e) (z.1 _ _ _ q) ∙ i
stmt_stays {k = k} {w = w} o h n (in_for {x = y} {i = c} {e = e} {b' = b'} p q) i =
    let z = subst (StmtHasNormalParts k w) (sym i) h in
    ap (λ a. For y c a b') (z.0 _ _ _ p) ∙ ap (For y c e) (z.1 _ _ _ q) ∙ i
stmt_stays {k = k} {w = w} o h n (in_var {constant = constant} {exported = exported} {x = y} p) i =
    ap (Var constant exported y) (subst (StmtHasNormalParts k w) (sym i) h _ _ _ p) ∙ i
stmt_stays {k = k} {w = w} o h n (in_assignment {op = op} {l = l} {e' = e'} p q) i =
    let z = subst (StmtHasNormalParts k w) (sym i) h in
    ap (λ y. Assignment op y e') (z.0 _ _ _ p) ∙ ap (Assignment op l) (z.1 _ _ _ q) ∙ i
stmt_stays {k = k} {w = w} o h n (in_block p) i = ap Block (subst (StmtHasNormalParts k w) (sym i) h _ _ _ p) ∙ i
stmt_stays {k = k} {w = w} o h n (in_try {x = y} {a = a} {b' = b'} p q) i =
    let z = subst (StmtHasNormalParts k w) (sym i) h in
    ap (λ c. TryCatch y c b') (z.0 _ _ _ p) ∙ ap (TryCatch y a) (z.1 _ _ _ q) ∙ i
stmt_stays {k = k} {w = w} o h n (in_expression p) i = ap ExprStmt (subst (StmtHasNormalParts k w) (sym i) h _ _ _ p) ∙ i
stmt_stays {k = k} {w = w} o h n (in_call_statement {c = c} p) i = ap (FnCallStmt c) (subst (StmtHasNormalParts k w) (sym i) h _ _ _ p) ∙ i
stmt_stays {k = k} {w = w} o h n (in_break {breaks = breaks} {exported = exported} p) i =
    ap (BreakLoop breaks exported) (subst (StmtHasNormalParts k w) (sym i) h _ _ _ p) ∙ i
stmt_stays {k = k} {w = w} o h n (in_return {throws = throws} {exported = exported} p) i =
    ap (Return throws exported) (subst (StmtHasNormalParts k w) (sym i) h _ _ _ p) ∙ i
stmt_stays {k = k} {w = w} o h n (in_import {x = y} p) i = ap (λ e. Import e y) (subst (StmtHasNormalParts k w) (sym i) h _ _ _ p) ∙ i

pub stmt_normal : {k : Context} {w : Bool} (s : Stmt) → StmtHasNormalParts k w s → NoStmtRule k s → IsNormal (StmtTo k w) s
stmt_normal s h n d d' x p = stmt_stays s h n p refl

-- ---- a left side

target_stays : {k : Context} {d d' : Bool} {e x : Expr} → TargetTo k d d' e x → HasNormalParts k e → x ≡ e
target_stays same_target h = refl
target_stays (in_target p) h = chain_stays p h

pub target_normal : {k : Context} (e : Expr) → HasNormalParts k e → IsNormal (TargetTo k) e
target_normal e h d d' x p = target_stays p h

place_stays : {k : Context} {d d' : Bool} {e x : Expr} → TargetTo k d d' e x → is_chain_node e ≡ false → x ≡ e
place_stays same_target c = refl
place_stays (in_target (in_dot p q)) c = no c
place_stays (in_target (in_index p q)) c = no c

pub place_normal : {k : Context} {e : Expr} → is_chain_node e ≡ false → IsNormal (TargetTo k) e
place_normal c d d' x p = place_stays p c

-- ---- a list by its statements

-- the first one, and those behind it
abbrev pub ListHasNormalParts : ListContext → ListKind → Bool → Stmts → Type 0
ListHasNormalParts k m u no_stmts = Unit {0}
ListHasNormalParts k m u (stmt s ss) = IsNormal (StmtTo k.context (wanted_before (wanted m) ss)) s × IsNormal (RestTo (behind s k) m (is_surely_unit s)) ss

list_stays : {k : ListContext} {m : ListKind} {u d d' : Bool} {ss xs : Stmts} (o : Stmts) → ListHasNormalParts k m u o → ((x : Stmts) → ListRule k.context m u o x → ⊥) → RestTo k m u d d' ss xs → ss ≡ o → xs ≡ o
list_stays o h n same_stmts i = i
list_stays o h n (then_stmts p q) i = list_stays o h n q (list_stays o h n p i)
list_stays {k = k} {m = m} {u = u} {xs = xs} o h n (by_list_rule r) i = absurd (n xs (subst (λ z. ListRule k.context m u z xs) i r))
list_stays {k = k} {m = m} {u = u} o h n (in_head {ss = ss} p) i = ap (λ s. stmt s ss) ((subst (ListHasNormalParts k m u) (sym i) h).0 _ _ _ p) ∙ i
list_stays {k = k} {m = m} {u = u} o h n (in_tail {s = s} p) i = ap (stmt s) ((subst (ListHasNormalParts k m u) (sym i) h).1 _ _ _ p) ∙ i
list_stays o h n (flag_forgotten p) i = list_stays o h n p i

-- no rule begins at nothing
abbrev begins : Stmts → Bool
begins no_stmts = false
begins (stmt s ss) = true

rule_begins : {k : Context} {m : ListKind} {u : Bool} {ss xs : Stmts} → ListRule k m u ss xs → begins ss ≡ true
rule_begins (rule.block_gives_way h) = refl
rule_begins _ = refl

both_false : (a b : Bool) → a || b ≡ false → (a ≡ false) × (b ≡ false)
both_false true b h = no h
both_false false b h = (refl, h)

pub list_normal : (ss : Stmts) {k : ListContext} {m : ListKind} {u : Bool} → AreNormalEach k m ss → AreSwept m u ss → any_gives_way ss ≡ false → IsNormal (RestTo k m u) ss
list_normal no_stmts h n g d d' x p = list_stays no_stmts tt (λ y r. no (sym (rule_begins r))) p refl
list_normal (stmt s ss) {k = k} {m = m} h n g d d' x p =
    let z = both_false (gives_way s) (any_gives_way ss) g in
    list_stays (stmt s ss) (h.0, list_normal ss h.1 n.1 z.1) (λ y r. no (sym (n.0 k.context y r) ∙ z.0)) p refl
