-- Expressions, a node at a time.
use Rattle.std.proofs.Common.{◌≡◌, ◌≤◌, ◌<◌, ◌+◌, ◌∙◌, ℕ, zero, suc, Bool, true, false, ◌==◌, List, [], ◌∷◌, ◌++◌, drop, length, get_or, refl, sym, ap, subst, arith, codes}
use Rattle.std.proofs.lemmas.Bool.Decides.{nat_tests}
use Rattle.base_text.specs.Text.{Text}
use Rattle.ast_types.specs.declared.expr.Expr as declared_expr
use Rattle.base_tokens.specs.declared.position.Position.{Position}
use Rattle.base_tokens.specs.declared.token.Token.{Token}
use Rattle.base_tokens.specs.declared.token.Token.TheVariants as token
use Rattle.rhai_base.specs.declared.float_wrapper.FloatWrapper.{FloatWrapper}
use Rattle.ast_types.specs.declared.expr.Expr.TheVariants as expr_kind
use Rattle.ast_types.specs.declared.expr.FnCallExpr.{FnCallExpr}
use Rattle.ast_types.specs.declared.expr.BinaryExpr.{BinaryExpr}
use Rattle.base_tokens.specs.declared.flags.ASTFlags.{ASTFlags}
use Rattle.ast_types.specs.Reading.{callee_of, chain_flags, expr_of, expr_of-And, expr_of-Coalesce, expr_of-Dot, expr_of-FnCall, expr_of-Index, expr_of-Or, exprs_of}
use Rattle.ast_types.proofs.Cases.{ExprCase, float_constant_case, integer_constant_case}
use Rattle.ast_types.proofs.OtherKinds.{NoInteger}
use Rattle.ast_types.proofs.ItemLists.{exprs_of-drop}
use Rattle.theory_meaning.specs.Tree.{And, ArrayOf, BoolConstant, Callee, ChainFlags, Coalesce, Dot, Expr, Exprs, FnCall, Index, MethodCall, Or, Property, PropertyNames, StringConstant, ThisPtr, UnitConstant, Variable, expr, no_exprs}
use Rattle.theory_grammar.specs.Words.{Blanks, Letters, Next, Quoted, Sign, is_name}
use Rattle.theory_grammar.specs.Grammar.{Coalescing, Conjunction, Disjunction, Dotted, Indexed, Link, Reads, ReadsArgs, ReadsChain, ReadsItems, ReadsMember, ReadsMore, ReadsStep, Run, Spells, Closes, ReadsCallee, ReadsPath, ReadsRight, args, array, call, called, comma, dotted, ended, fails, first_level, has_any, holds, indexed, is_number, is_range, joins, no_end, Opens, right, is_method, item, last, link_flags, link_sign, linked, method, more, named, no_args, no_more, property, Spells, run_level, run_of, run_sign, step, text, this, unit, variable}
use Rattle.syntax_grammar.specs.Open.{Opened, ReadsOpen}
use Rattle.syntax_grammar.proofs.Steps.{behind_open, list_operands}

abbrev pub NoFloat : declared_expr.Expr → Type 0
NoFloat d = (x : FloatWrapper) (p : Position) → d ≡ expr_kind.FloatConstant x p → ⊥

-- ---- the first operand of a list

pub first_call : (k : Run) (c : Callee) (es : Exprs) → first_level k (FnCall c es) ≡ run_level k
first_call Conjunction c es = refl
first_call Disjunction c es = refl
first_call Coalescing c es = refl

pub first_any : (k : Run) (e : Expr) → first_level k e ≤ run_level k + 1
first_any Conjunction (And es) = omega arith
first_any Conjunction e = omega arith
first_any Disjunction (Or es) = omega arith
first_any Disjunction e = omega arith
first_any Coalescing (Coalesce es) = omega arith
first_any Coalescing e = omega arith

pub fit_call : (d : declared_expr.Expr) (c : FnCallExpr) (p : Position) (k : Run) (list level : ℕ) → d ≡ expr_kind.FnCall c p → list ≡ run_level k → list ≤ level → first_level k (expr_of d) ≤ level
fit_call d c p k list level is e h = let tree : expr_of d ≡ FnCall (callee_of c) (exprs_of c.args) = ap expr_of is ∙ expr_of-FnCall c p in
    let low : first_level k (expr_of d) ≡ run_level k = ap (first_level k) tree ∙ first_call k (callee_of c) (exprs_of c.args) in omega (arith, low, e, h)

pub fit_any : (k : Run) (e : Expr) (list level : ℕ) → list ≡ run_level k → list < level → first_level k e ≤ level
fit_any k e list level f h = let bound : first_level k e ≤ run_level k + 1 = first_any k e in omega (arith, f, h, bound)

pub no_number : {d : declared_expr.Expr} {e : Expr} → ExprCase d e → NoInteger d → NoFloat d → is_number e ≡ false
no_number (integer_constant_case n p) h k = absurd (h n p refl)
no_number (float_constant_case x p) h k = absurd (k x p refl)
no_number _ h k = refl

pub apart : (t : Token) (e : Expr) → is_number e ≡ false → joins t e ≡ false
apart token.Bang e h = refl
apart t e h = h

pub ruleset first_steps = (fit_any, apart)

-- ---- links

pub named_at : {ws rest : Text} (x : Text) (names : PropertyNames) → names.getter ≡ codes "get$" ++ x → names.setter ≡ codes "set$" ++ x → names.name ≡ x → is_name x ≡ true → Next ws (Letters x) rest → ReadsMember ws (Property names) rest
named_at {ws = ws} {rest = rest} x names g s n h w = let is : names ≡ record { getter = codes "get$" ++ x; setter = codes "set$" ++ x; name = x } = λ i. record { getter = g i; setter = s i; name = n i } in subst (λ y. ReadsMember ws (Property y) rest) (sym is) (named x h w)

append_nil : (xs : List ℕ) → xs ++ [] ≡ xs
append_nil [] = refl
append_nil (x ∷ xs) = ap (λ ys. x ∷ ys) (append_nil xs)

pub joined_of : (t a b mid end : List ℕ) → t ≡ a ++ mid → mid ≡ b ++ end → end ≡ [] → t ≡ a ++ b
joined_of t a b mid end h g e = h ∙ ap (λ x. a ++ x) (g ∙ ap (λ x. b ++ x) e ∙ append_nil b)

pub ruleset link_steps = (comma, named_at, joined_of)

-- ---- single words

pub true_at : {ws rest : Text} (l : ℕ) → Next ws (Letters (codes "true")) rest → Reads l ws (BoolConstant true) rest
true_at l w = holds w

pub false_at : {ws rest : Text} (l : ℕ) → Next ws (Letters (codes "false")) rest → Reads l ws (BoolConstant false) rest
false_at l w = fails w

pub text_at : {ws rest : Text} (t : Text) → Next ws (Quoted t) rest → (l : ℕ) → Reads l ws (StringConstant t) rest
text_at t w l = text t w

pub this_at : {ws rest : Text} → Next ws (Letters (codes "this")) rest → (l : ℕ) → Reads l ws ThisPtr rest
this_at w l = this w

pub name_at : {ws rest : Text} (path : List Text) (x : Text) → ReadsPath ws path x rest → (l : ℕ) → Reads l ws (Variable path x) rest
name_at path x r l = variable r

pub unit_open : {n : ℕ} {ws inner rest : Text} → Opened n ws inner → Next inner (Sign (codes "()")) rest → ReadsOpen n 255 ws UnitConstant rest
unit_open o w = behind_open o (λ l. unit w)

pub ruleset atom_steps = (true_at, false_at, text_at, this_at, name_at, unit_open)

-- ---- behind operators

pub left_out : {rest : Text} (t : Token) (e : Expr) → is_range t ≡ true → e ≡ UnitConstant → Closes rest → ReadsRight t rest e rest
left_out {rest = rest} t e h is c = subst (λ x. ReadsRight t rest x rest) (sym is) (no_end h c)

-- ---- nodes with parts

pub array_open : {n : ℕ} {ws inner mid rest : Text} {es : Exprs} → Opened n ws inner → Next inner (Sign (codes "[")) mid → ReadsItems (codes "]") false mid es rest → ReadsOpen n 255 ws (ArrayOf es) rest
array_open o w r = behind_open o (λ l. array w r)

pub call_open : {n : ℕ} {ws inner mid rest : Text} {es : Exprs} (c : Callee) → Opened n ws inner → ReadsCallee inner c mid → ReadsArgs mid es rest → ReadsOpen n 255 ws (FnCall c es) rest
call_open c o w r = behind_open o (λ l. call w r)

pub method_at : {ws mid rest : Text} {es : Exprs} (c : Callee) (f : Text) → c ≡ called f → is_method f ≡ true → Next ws (Letters f) mid → ReadsArgs mid es rest → ReadsMember ws (MethodCall c es) rest
method_at {ws = ws} {rest = rest} {es = es} c f is h w r = subst (λ x. ReadsMember ws (MethodCall x es) rest) (sym is) (method f h w r)

pub dot_last : {ws rest : Text} {b : Expr} (k : ChainFlags) (n : Bool) → k ≡ link_flags n false → ReadsStep (Dotted n) ws b rest → (a : Expr) → ReadsChain ws a (Dot k a b) rest
dot_last {ws = ws} {rest = rest} {b = b} k n h s a = subst (λ x. ReadsChain ws a (Dot x a b) rest) (sym h) (last (Dotted n) s)

pub dot_step : {ws mid rest : Text} {b e whole : Expr} (k : ChainFlags) (n : Bool) → k ≡ link_flags n false → whole ≡ e → ReadsStep (Dotted n) ws b mid → ReadsChain mid b e rest → (a : Expr) → ReadsChain ws a (Dot k a whole) rest
dot_step {ws = ws} {rest = rest} {e = e} k n h is s r a = subst (λ x. ReadsChain ws a (Dot k a x) rest) (sym is) (subst (λ x. ReadsChain ws a (Dot x a e) rest) (sym h) (step (Dotted n) s r))

pub index_last : {ws rest : Text} {b : Expr} (k : ChainFlags) (n : Bool) → k ≡ link_flags n true → ReadsStep (Indexed n) ws b rest → (a : Expr) → ReadsChain ws a (Index k a b) rest
index_last {ws = ws} {rest = rest} {b = b} k n h s a = subst (λ x. ReadsChain ws a (Index x a b) rest) (sym h) (last (Indexed n) s)

pub index_step : {ws mid rest : Text} {b e whole : Expr} (k : ChainFlags) (n : Bool) → k ≡ link_flags n false → whole ≡ e → ReadsStep (Indexed n) ws b mid → ReadsChain mid b e rest → (a : Expr) → ReadsChain ws a (Index k a whole) rest
index_step {ws = ws} {rest = rest} {e = e} k n h is s r a = subst (λ x. ReadsChain ws a (Index k a x) rest) (sym is) (subst (λ x. ReadsChain ws a (Index x a e) rest) (sym h) (step (Indexed n) s r))

-- ---- nodes that are looked at twice

pub dot_tree : (d : declared_expr.Expr) (x y z : BinaryExpr) (k : ASTFlags) (p : Position) → d ≡ expr_kind.Dot x k p → y ≡ x → z ≡ x → expr_of d ≡ Dot (chain_flags k) (expr_of y.lhs) (expr_of z.rhs)
dot_tree d x y z k p h e f = ap expr_of h ∙ expr_of-Dot x k p ∙ ap (λ (v : BinaryExpr). Dot (chain_flags k) (expr_of v.lhs) (expr_of x.rhs)) (sym e) ∙ ap (λ (v : BinaryExpr). Dot (chain_flags k) (expr_of y.lhs) (expr_of v.rhs)) (sym f)

pub index_tree : (d : declared_expr.Expr) (x y z : BinaryExpr) (k : ASTFlags) (p : Position) → d ≡ expr_kind.Index x k p → y ≡ x → z ≡ x → expr_of d ≡ Index (chain_flags k) (expr_of y.lhs) (expr_of z.rhs)
index_tree d x y z k p h e f = ap expr_of h ∙ expr_of-Index x k p ∙ ap (λ (v : BinaryExpr). Index (chain_flags k) (expr_of v.lhs) (expr_of x.rhs)) (sym e) ∙ ap (λ (v : BinaryExpr). Index (chain_flags k) (expr_of y.lhs) (expr_of v.rhs)) (sym f)

pub and_tree : (d : declared_expr.Expr) (xs ys : List declared_expr.Expr) (p : Position) → d ≡ expr_kind.And ys p → xs ≡ ys → expr_of d ≡ And (exprs_of xs)
and_tree d xs ys p h e = ap expr_of h ∙ expr_of-And ys p ∙ ap (λ zs. And (exprs_of zs)) (sym e)

pub or_tree : (d : declared_expr.Expr) (xs ys : List declared_expr.Expr) (p : Position) → d ≡ expr_kind.Or ys p → xs ≡ ys → expr_of d ≡ Or (exprs_of xs)
or_tree d xs ys p h e = ap expr_of h ∙ expr_of-Or ys p ∙ ap (λ zs. Or (exprs_of zs)) (sym e)

pub coalesce_tree : (d : declared_expr.Expr) (xs ys : List declared_expr.Expr) (p : Position) → d ≡ expr_kind.Coalesce ys p → xs ≡ ys → expr_of d ≡ Coalesce (exprs_of xs)
coalesce_tree d xs ys p h e = ap expr_of h ∙ expr_of-Coalesce ys p ∙ ap (λ zs. Coalesce (exprs_of zs)) (sym e)

pub as_tree : {n level : ℕ} {ws rest : Text} {e : Expr} (d : declared_expr.Expr) → expr_of d ≡ e → ReadsOpen n level ws e rest → ReadsOpen n level ws (expr_of d) rest
as_tree {n = n} {level = level} {ws = ws} {rest = rest} d is r = subst (λ x. ReadsOpen n level ws x rest) (sym is) r

no_args_by : {ws rest : Text} (xs : List declared_expr.Expr) → true ≡ (length xs == 0) → Next ws (Sign (codes "()")) rest → ReadsArgs ws (exprs_of xs) rest
no_args_by [] h w = no_args w
no_args_by (x ∷ xs) h w = absurd (grind (arith, nat_tests))

pub no_args_of : {ws rest : Text} (xs : List declared_expr.Expr) (r : Bool) → r ≡ (length xs == 0) → r ≡ true → Next ws (Sign (codes "()")) rest → ReadsArgs ws (exprs_of xs) rest
no_args_of xs r h k w = no_args_by xs (sym k ∙ h) w

pub spelled : {ws start rest ends : Text} {e : Expr} → Opens ws start → Reads zero start e rest → Blanks rest ends → ends ≡ [] → Spells ws e
spelled {start = start} {rest = rest} o r b h = record { start = start; opens = o; rest = rest; reads = r; ends = subst (λ x. Blanks rest x) h b }

-- the first of some operands, and the others
first_of : (xs : List declared_expr.Expr) (x : declared_expr.Expr) → 2 ≤ length xs → x ≡ get_or xs 0 x → exprs_of xs ≡ expr (expr_of x) (exprs_of (drop 1 xs))
first_of xs x h is = exprs_of-drop xs 0 x (omega (arith, h)) ∙ ap (λ y. expr (expr_of y) (exprs_of (drop 1 xs))) (sym is)

some_others : (xs : List declared_expr.Expr) → 2 ≤ length xs → has_any (exprs_of (drop 1 xs)) ≡ true
some_others [] h = absurd (omega (arith, h))
some_others (x ∷ []) h = absurd (omega (arith, h))
some_others (x ∷ y ∷ xs) h = refl

pub list_of : {n level : ℕ} {ws mid rest : Text} (k : Run) (own : ℕ) (xs : List declared_expr.Expr) (x : declared_expr.Expr) → own ≡ run_level k → 2 ≤ length xs → x ≡ get_or xs 0 x → first_level k (expr_of x) ≤ level → ReadsOpen n level ws (expr_of x) mid → ReadsMore k mid (exprs_of (drop 1 xs)) rest → ReadsOpen n own ws (run_of k (exprs_of xs)) rest
list_of {n = n} {ws = ws} {rest = rest} k own xs x own_is long is low o more_of_them = subst (λ l. ReadsOpen n l ws (run_of k (exprs_of xs)) rest) (sym own_is) (subst (λ es. ReadsOpen n (run_level k) ws (run_of k es) rest) (sym (first_of xs x long is)) (list_operands k low (some_others xs long) o more_of_them))

-- an item of a list, a comma before it where one is owed
pub items_next : {m place start mid rest : Text} {owed : Bool} (xs : List declared_expr.Expr) (i : ℕ) (x : declared_expr.Expr) → i < length xs → x ≡ get_or xs i x → ((m2 rest2 : Text) (es : Exprs) → ReadsItems m2 false start es rest2 → ReadsItems m2 owed place es rest2) → Reads zero start (expr_of x) mid → ReadsItems m true mid (exprs_of (drop (i + 1) xs)) rest → ReadsItems m owed place (exprs_of (drop i xs)) rest
items_next {m = m} {place = place} {rest = rest} {owed = owed} xs i x h is f r rs = subst (λ es. ReadsItems m owed place es rest) (sym (exprs_of-drop xs i x h ∙ ap (λ y. expr (expr_of y) (exprs_of (drop (i + 1) xs))) (sym is))) (f m rest _ (item r rs))

drop_all : (xs : List declared_expr.Expr) (i : ℕ) → length xs ≤ i → drop i xs ≡ []
drop_all [] zero h = refl
drop_all [] (suc i) h = refl
drop_all (x ∷ xs) zero h = absurd (omega (arith, h))
drop_all (x ∷ xs) (suc i) h = drop_all xs i (omega (arith, h))

pub items_over : {m ws rest : Text} {owed : Bool} (xs : List declared_expr.Expr) (i : ℕ) → length xs ≤ i → ReadsItems m owed ws no_exprs rest → ReadsItems m owed ws (exprs_of (drop i xs)) rest
items_over {m = m} {ws = ws} {rest = rest} {owed = owed} xs i h r = subst (λ es. ReadsItems m owed ws (exprs_of es) rest) (sym (drop_all xs i h)) r

pub more_next : {place behind mid rest : Text} (k : Run) (sign : Text) (level : ℕ) (xs : List declared_expr.Expr) (i : ℕ) (x : declared_expr.Expr) → sign ≡ run_sign k → level ≡ run_level k → i < length xs → x ≡ get_or xs i x → Next place (Sign sign) behind → Reads (level + 1) behind (expr_of x) mid → ReadsMore k mid (exprs_of (drop (i + 1) xs)) rest → ReadsMore k place (exprs_of (drop i xs)) rest
more_next {place = place} {behind = behind} {mid = mid} {rest = rest} k sign level xs i x s l h is w r rs = subst (λ es. ReadsMore k place es rest) (sym (exprs_of-drop xs i x h ∙ ap (λ y. expr (expr_of y) (exprs_of (drop (i + 1) xs))) (sym is))) (more (subst (λ y. Next place (Sign y) behind) s w) (subst (λ n. Reads (n + 1) behind (expr_of x) mid) l r) rs)

pub more_over : {ws : Text} (k : Run) (xs : List declared_expr.Expr) (i : ℕ) → length xs ≤ i → ReadsMore k ws (exprs_of (drop i xs)) ws
more_over {ws = ws} k xs i h = subst (λ es. ReadsMore k ws (exprs_of es) ws) (sym (drop_all xs i h)) no_more

pub comma_ended : {m ws mid rest : Text} → Next ws (Sign (codes ",")) mid → Next mid (Sign m) rest → ReadsItems m true ws no_exprs rest
comma_ended v w = comma v (ended w)

pub ruleset list_steps = (comma, ended, comma_ended)

pub ruleset expr_steps = (array_open, call_open, method_at, dotted, indexed, args, no_args_of, right, left_out, spelled)
