-- Lists with a `share`, and constants in front of a closure.
use Rattle.std.proofs.Common.{◌≡◌, ◌≢◌, suc, ◌<◌, ◌≤◌, Bool, true, false, cond, ◌&&◌, List, [], ◌∷◌, ◌++◌, map, length, get_or, Option, Some, None, Result, Ok, Err, is_some, refl, sym, ap, ◌∙◌, subst, append-nil, arith}
use Rattle.std.specs.Option.{option_map}
use Rattle.std.specs.Prelude.{IfOk, if◌then◌else◌, reverse}
use Rattle.std.proofs.lemmas.List.{reverse-append, reverse-reverse}
use Rattle.rhai_base.specs.Value.{Text, same_text}
use Rattle.theory_meaning.specs.Tree as abstract
use Rattle.theory_meaning.specs.Tree.{expr, no_stmts, stmt, Block, ExprStmt, Share}
use Rattle.theory_spelling.specs.Bare.{is_empty_block, is_one_empty}
use Rattle.theory_spelling.specs.Captures.{are_known, are_two_integers, captured, closure_in, does_nothing, grouped, handed, is_called, is_false, is_integer, is_known, is_share, put, put_each, put_in_call, settled, settled_by, shared, with_known, without}
use Rattle.ast_types.proofs.Cases.{ExprCase, StmtCase, expr_cases, stmt_cases, and_case, block_case, bool_constant_case, call_case, expression_case, integer_constant_case, share_case, var_case, variable_case}
use Rattle.ast_types.proofs.OtherKinds.{NoAnd, NoBlock, NoBool, NoCall, NoExpression, NoInteger, NoShare, NoVar, NoVariable}
use Rattle.ast_types.specs.declared.expr.Expr.{Expr}
use Rattle.ast_types.specs.declared.stmt.Stmt.{Stmt}
use Rattle.ast_types.specs.Reading.{expr_of, exprs_of, stmt_of, stmts_of}

-- ---- a list from its end on

pub reverse_last : {A : Type 0} (xs : List A) (x : A) → reverse (xs ++ x ∷ []) ≡ x ∷ reverse xs
reverse_last xs x = reverse-append xs (x ∷ [])

-- ---- constants in front of a closure

captured_more : (s : abstract.Stmt) (front : List Stmt) (last : Stmt) → captured (stmt s (stmts_of (front ++ last ∷ []))) ≡ (if is_known s then option_map (with_known s) (captured (stmts_of (front ++ last ∷ []))) else None)
captured_more s [] last = refl
captured_more s (f ∷ front) last = refl

none_more : {A : Type 0} (o : Option A) → o ≡ option_map (λ c. c) o
none_more None = refl
none_more (Some c) = refl

one_more_known : {A : Type 0} (a b : Bool) (f g : A → A) (o : Option A) → (if a then option_map f (if b then option_map g o else None) else None) ≡ (if (a && b) then option_map (λ c. f (g c)) o else None)
one_more_known true true f g None = refl
one_more_known true true f g (Some c) = refl
one_more_known true false f g o = refl
one_more_known false b f g o = refl

pub captured_behind : (front : List Stmt) (last : Stmt) → captured (stmts_of (front ++ last ∷ [])) ≡ (if are_known (stmts_of front) then option_map (handed (stmts_of front)) (closure_in (stmt_of last)) else None)
captured_behind [] last = none_more (closure_in (stmt_of last))
captured_behind (f ∷ front) last =
    captured_more (stmt_of f) front last
    ∙ ap (λ o. if is_known (stmt_of f) then option_map (with_known (stmt_of f)) o else None) (captured_behind front last)
    ∙ one_more_known (is_known (stmt_of f)) (are_known (stmts_of front)) (with_known (stmt_of f)) (handed (stmts_of front)) (closure_in (stmt_of last))

is_some_if : {A : Type 0} (b : Bool) (f : A → A) (o : Option A) → is_some (if b then option_map f o else None) ≡ (is_some o && b)
is_some_if true f None = refl
is_some_if true f (Some c) = refl
is_some_if false f None = refl
is_some_if false f (Some c) = refl

pub is_captured_behind : (front : List Stmt) (last : Stmt) → is_some (captured (stmts_of (front ++ last ∷ []))) ≡ (is_some (closure_in (stmt_of last)) && are_known (stmts_of front))
is_captured_behind front last = ap is_some (captured_behind front last) ∙ is_some_if (are_known (stmts_of front)) (handed (stmts_of front)) (closure_in (stmt_of last))

some_if : {A : Type 0} (b : Bool) (f : A → A) (c : A) → is_some (if b then option_map f (Some c) else None) ≡ true → (if b then option_map f (Some c) else None) ≡ Some (f c)
some_if true f c h = refl
some_if false f c h = absurd (cc)

pub settled_behind : (front : List Stmt) (last : Stmt) (c : List Text × abstract.Stmt) → closure_in (stmt_of last) ≡ Some c → is_some (captured (stmts_of (front ++ last ∷ []))) ≡ true
    → let d = handed (stmts_of front) c in stmt (shared d.0 d.1) no_stmts ≡ settled (stmts_of (front ++ last ∷ []))
settled_behind front last c is h =
    let e = captured_behind front last ∙ ap (λ o. if are_known (stmts_of front) then option_map (handed (stmts_of front)) o else None) is in
    let f = e ∙ some_if (are_known (stmts_of front)) (handed (stmts_of front)) c (sym (ap is_some e) ∙ h) in
    ap (λ o. settled_by o (stmts_of (front ++ last ∷ []))) (sym f)

pub handed_last : (others : List Stmt) (last : Stmt) (c : List Text × abstract.Stmt) → handed (stmts_of (others ++ last ∷ [])) c ≡ handed (stmts_of others) (with_known (stmt_of last) c)
handed_last [] last c = refl
handed_last (o ∷ others) last c = ap (with_known (stmt_of o)) (handed_last others last c)

pub without_more : (x y : Text) (ys : List Text) → without x (y ∷ []) ++ without x ys ≡ without x (y ∷ ys)
without_more x y ys = by_test (same_text y x)
  where
    by_test : (b : Bool) → cond b [] (y ∷ []) ++ without x ys ≡ cond b (without x ys) (y ∷ without x ys)
    by_test true = refl
    by_test false = refl

pub put_listed : (x : Text) (e : abstract.Expr) (as' : List Expr) → abstract.exprs (map (λ a. put x e (expr_of a)) as') ≡ put_each x e (exprs_of as')
put_listed x e [] = refl
put_listed x e (a ∷ as') = ap (abstract.expr (put x e (expr_of a))) (put_listed x e as')

-- ---- a block that is a closure

pub closure_pair : (a b : abstract.Stmt) → is_share a ≡ is_some (closure_in (Block (stmt a (stmt b no_stmts))))
closure_pair (Share xs) b = refl
closure_pair _ b = refl

one_closure : (s : abstract.Stmt) → None ≡ closure_in (Block (stmt s no_stmts))
one_closure (Share xs) = refl
one_closure _ = refl

three_closure : (s t u : abstract.Stmt) (ss : abstract.Stmts) → None ≡ closure_in (Block (stmt s (stmt t (stmt u ss))))
three_closure (Share xs) t u ss = refl
three_closure _ t u ss = refl

pub not_two_closure : (ss : List Stmt) → length ss ≢ 2 → None ≡ closure_in (Block (stmts_of ss))
not_two_closure [] h = refl
not_two_closure (s ∷ []) h = one_closure (stmt_of s)
not_two_closure (s ∷ t ∷ []) h = absurd (h refl)
not_two_closure (s ∷ t ∷ u ∷ ss) h = three_closure (stmt_of s) (stmt_of t) (stmt_of u) (stmts_of ss)

pub other_closure : {d : Stmt} {s : abstract.Stmt} → StmtCase d s → NoShare d → (t : abstract.Stmt) → None ≡ closure_in (Block (stmt s (stmt t no_stmts)))
other_closure (share_case xs) h t = absurd (h xs refl)
other_closure _ h t = refl

-- ---- lists of another length

pub few_integers : (es : List Expr) → length es < 2 → false ≡ are_two_integers (exprs_of es)
few_integers [] h = refl
few_integers (e ∷ []) h = refl
few_integers (e ∷ f ∷ es) h = absurd (omega (arith))

three_integers : (d e f : abstract.Expr) (es : abstract.Exprs) → false ≡ are_two_integers (expr d (expr e (expr f es)))
three_integers d e f es = refl

pub more_integers : (es : List Expr) → 3 ≤ length es → false ≡ are_two_integers (exprs_of es)
more_integers [] h = absurd (omega (arith))
more_integers (d ∷ []) h = absurd (omega (arith))
more_integers (d ∷ e ∷ []) h = absurd (omega (arith))
more_integers (d ∷ e ∷ f ∷ es) h = three_integers (expr_of d) (expr_of e) (expr_of f) (exprs_of es)

pub several_empty : (ss : List Stmt) → 2 ≤ length ss → false ≡ is_one_empty (stmts_of ss)
several_empty [] h = absurd (omega (arith))
several_empty (s ∷ []) h = absurd (omega (arith))
several_empty (s ∷ t ∷ ss) h = refl

pub some_empty : (ss : List Stmt) → 1 ≤ length ss → false ≡ is_empty_block (Block (stmts_of ss))
some_empty [] h = absurd (omega (arith))
some_empty (s ∷ ss) h = refl

-- ---- nodes of other kinds

pub no_block_closure : {d : Stmt} {s : abstract.Stmt} → StmtCase d s → NoBlock d → None ≡ closure_in s
no_block_closure (block_case b) h = absurd (h b refl)
no_block_closure _ h = refl

pub no_share : {d : Stmt} {s : abstract.Stmt} → StmtCase d s → NoShare d → false ≡ is_share s
no_share (share_case xs) h = absurd (h xs refl)
no_share _ h = refl

pub no_expression_does : {d : Stmt} {s : abstract.Stmt} → StmtCase d s → NoExpression d → false ≡ does_nothing s
no_expression_does (expression_case e) h = absurd (h e refl)
no_expression_does _ h = refl

pub no_and_does : {d : Expr} {e : abstract.Expr} → ExprCase d e → NoAnd d → NoInteger d → false ≡ does_nothing (ExprStmt e)
no_and_does (and_case xs p) h k = absurd (h xs p refl)
no_and_does (integer_constant_case n p) h k = absurd (k n p refl)
no_and_does _ h k = refl

pub no_integer : {d : Expr} {e : abstract.Expr} → ExprCase d e → NoInteger d → false ≡ is_integer e
no_integer (integer_constant_case n p) h = absurd (h n p refl)
no_integer _ h = refl

pub no_block_empty : {d : Stmt} {s : abstract.Stmt} → StmtCase d s → NoBlock d → false ≡ is_empty_block s
no_block_empty (block_case b) h = absurd (h b refl)
no_block_empty _ h = refl

pub no_bool_false : {d : Expr} {e : abstract.Expr} → ExprCase d e → NoBool d → false ≡ is_false e
no_bool_false (bool_constant_case b p) h = absurd (h b p refl)
no_bool_false _ h = refl

pub no_var_known : {d : Stmt} {s : abstract.Stmt} → StmtCase d s → NoVar d → false ≡ is_known s
no_var_known (var_case x k p) h = absurd (h x k p refl)
no_var_known _ h = refl

pub no_var_with : {d : Stmt} {s : abstract.Stmt} → StmtCase d s → NoVar d → (c : List Text × abstract.Stmt) → c ≡ with_known s c
no_var_with (var_case x k p) h c = absurd (h x k p refl)
no_var_with _ h c = refl

pub no_variable_called : {d : Expr} {e : abstract.Expr} → ExprCase d e → NoVariable d → (x : Text) → false ≡ is_called x e
no_variable_called (variable_case v i p) h x = absurd (h v i p refl)
no_variable_called _ h x = refl

pub no_expression_put : {d : Stmt} {s : abstract.Stmt} → StmtCase d s → NoExpression d → (x : Text) (e : abstract.Expr) → s ≡ put_in_call x e s
no_expression_put (expression_case y) h x e = absurd (h y refl)
no_expression_put _ h x e = refl

pub no_call_put : {d : Expr} {y : abstract.Expr} → ExprCase d y → NoCall d → (x : Text) (e : abstract.Expr) → ExprStmt y ≡ put_in_call x e (ExprStmt y)
no_call_put (call_case c p) h x e = absurd (h c p refl)
no_call_put _ h x e = refl

pub grouped_other : {d : Stmt} {s : abstract.Stmt} → StmtCase d s → NoShare d → (t : abstract.Stmt) (ss : abstract.Stmts) → cond (does_nothing s) (stmt t ss) (stmt s (stmt t ss)) ≡ grouped s (stmt t ss)
grouped_other (share_case xs) h t ss = absurd (h xs refl)
grouped_other _ h t ss = refl

-- ---- a list before which a statement comes

back_empty : {A : Type 0} (l : List A) → reverse l ≡ [] → l ≡ []
back_empty l q = sym (reverse-reverse l) ∙ ap reverse q

grouped_by : (b : Bool) (d : Stmt) (l : List Stmt) → NoShare d → does_nothing (stmt_of d) ≡ b → l ≢ [] → cond b (stmts_of l) (stmt (stmt_of d) (stmts_of l)) ≡ grouped (stmt_of d) (stmts_of l)
grouped_by b d [] other h k = absurd (k refl)
grouped_by b d (x ∷ xs) other h k = ap (λ t. cond t (stmts_of (x ∷ xs)) (stmt (stmt_of d) (stmts_of (x ∷ xs)))) (sym h) ∙ grouped_other (stmt_cases d) other (stmt_of x) (stmts_of xs)

pub nothing_grouped : (d : Stmt) (l : List Stmt) → NoShare d → does_nothing (stmt_of d) ≡ true → l ≢ [] → stmts_of (reverse l) ≡ grouped (stmt_of d) (stmts_of (reverse l))
nothing_grouped d l other h k = grouped_by true d (reverse l) other h (λ q. k (back_empty l q))

pub first_grouped : (d : Stmt) (l : List Stmt) → l ≡ [] → stmt (stmt_of d) (stmts_of (reverse l)) ≡ grouped (stmt_of d) (stmts_of (reverse l))
first_grouped d l q = subst (λ k. stmt (stmt_of d) (stmts_of (reverse k)) ≡ grouped (stmt_of d) (stmts_of (reverse k))) (sym q) refl

something_grouped : (d : Stmt) (l : List Stmt) → NoShare d → does_nothing (stmt_of d) ≡ false → stmt (stmt_of d) (stmts_of l) ≡ grouped (stmt_of d) (stmts_of l)
something_grouped d [] other h = refl
something_grouped d (x ∷ xs) other h = grouped_by false d (x ∷ xs) other h (λ q. let z : x ∷ xs ≡ [] = q in cc)

pub kept_grouped : (d : Stmt) (l : List Stmt) → NoShare d → does_nothing (stmt_of d) ≡ false → stmt (stmt_of d) (stmts_of (reverse l)) ≡ grouped (stmt_of d) (stmts_of (reverse l))
kept_grouped d l other h = something_grouped d (reverse l) other h

pub pushed_grouped : {E : Type 0} (r : Result (List Stmt) E) (d : Stmt) (l : List Stmt) → stmt (stmt_of d) (stmts_of (reverse l)) ≡ grouped (stmt_of d) (stmts_of (reverse l))
    → IfOk r (λ made. made ≡ l ++ d ∷ []) → IfOk r (λ made. stmts_of (reverse made) ≡ grouped (stmt_of d) (stmts_of (reverse l)))
pushed_grouped (Ok made) d l h k = ap (λ m. stmts_of (reverse m)) k ∙ ap stmts_of (reverse_last l d) ∙ h
pushed_grouped (Err e) d l h k = tt

-- ---- two statements

pub two_closure : (l : List Stmt) (x : Stmt) → 2 ≤ length l → length l < 3 → x ≡ get_or l 0 x → is_share (stmt_of x) ≡ is_some (closure_in (Block (stmts_of l)))
two_closure [] x h k e = absurd (let z : 2 ≤ 0 = h in omega arith)
two_closure (a ∷ []) x h k e = absurd (let z : 2 ≤ 1 = h in omega arith)
two_closure (a ∷ b ∷ []) x h k e = ap (λ y. is_share (stmt_of y)) e ∙ closure_pair (stmt_of a) (stmt_of b)
two_closure (a ∷ b ∷ d ∷ l) x h k e = absurd (let z : suc (suc (suc (length l))) < 3 = k in omega arith)

pub few_closure : (l : List Stmt) → length l < 2 → false ≡ is_some (closure_in (Block (stmts_of l)))
few_closure l h = ap is_some (not_two_closure l (λ q. let z : length l ≡ 2 = q in omega arith))

pub more_closure : (l : List Stmt) → 3 ≤ length l → false ≡ is_some (closure_in (Block (stmts_of l)))
more_closure l h = ap is_some (not_two_closure l (λ q. let z : length l ≡ 2 = q in omega arith))

-- ---- a closure and what stands in front of it

pub captured_as : (l front : List Stmt) (last : Stmt) (a b : Bool) → l ≡ front ++ last ∷ [] → a ≡ is_some (closure_in (stmt_of last)) → b ≡ are_known (stmts_of front) → (a && b) ≡ is_some (captured (stmts_of l))
captured_as l front last a b whole h k = (λ i. h i && k i) ∙ sym (is_captured_behind front last) ∙ ap (λ m. is_some (captured (stmts_of m))) (sym whole)

pub handed_more : (rest others : List Stmt) (last : Stmt) (c d : List Text × abstract.Stmt) → rest ≡ others ++ last ∷ [] → d ≡ with_known (stmt_of last) c → handed (stmts_of others) d ≡ handed (stmts_of rest) c
handed_more rest others last c d whole h = ap (handed (stmts_of others)) h ∙ sym (handed_last others last c) ∙ ap (λ l. handed (stmts_of l) c) (sym whole)

pub no_closure : (front : List Stmt) (last : Stmt) → None ≡ closure_in (stmt_of last) → is_some (captured (stmts_of (front ++ last ∷ []))) ≡ true → ⊥
no_closure front last h k =
    let z : false ≡ true = ap (λ o. is_some o && are_known (stmts_of front)) h ∙ sym (is_captured_behind front last) ∙ k in
    cc

pub settled_made : (front : List Stmt) (last : Stmt) (c d : List Text × abstract.Stmt) (made : List Stmt) (m : Stmt) → Some c ≡ closure_in (stmt_of last) → is_some (captured (stmts_of (front ++ last ∷ []))) ≡ true
    → d ≡ handed (stmts_of front) c → stmt_of m ≡ shared d.0 d.1 → made ≡ m ∷ [] → stmts_of made ≡ settled (stmts_of (front ++ last ∷ []))
settled_made front last c d made m is h k one all =
    ap stmts_of all ∙ (λ i. stmt (one i) no_stmts) ∙ (λ i. stmt (shared (k i).0 (k i).1) no_stmts) ∙ settled_behind front last c (sym is) h

-- ---- arguments

pub all_put : (x : Text) (e : abstract.Expr) (made rest args : List Expr) → rest ≡ [] → map expr_of made ++ map (λ a. put x e (expr_of a)) rest ≡ map (λ a. put x e (expr_of a)) args → exprs_of made ≡ put_each x e (exprs_of args)
all_put x e made rest args q h =
    ap abstract.exprs (sym (append-nil (map expr_of made)) ∙ ap (λ r. map expr_of made ++ map (λ a. put x e (expr_of a)) r) (sym q) ∙ h) ∙ put_listed x e args

pub default_put : {E : Type 0} (r : Result Stmt E) (d : Expr) (x : Text) (e : abstract.Expr) → NoCall d → IfOk r (λ s. stmt_of s ≡ ExprStmt (expr_of d)) → IfOk r (λ s. stmt_of s ≡ put_in_call x e (ExprStmt (expr_of d)))
default_put (Ok s) d x e other h = h ∙ no_call_put (expr_cases d) other x e
default_put (Err f) d x e other h = tt
