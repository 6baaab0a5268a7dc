-- Trees that are spelled so, and nodes that are not opened.
use Rattle.std.proofs.Common.{◌-◌, ◌≤◌, ℕ, zero, suc, drop, length, ◌≡◌, ◌↔◌, IsTrue, map, ◌++◌, Bool, true, false, List, [], ◌∷◌, Some, None, refl, sym, ap, ◌∙◌, subst, arith, length-append}
use Rattle.base_tokens.specs.declared.position.Position.{Position}
use Rattle.std.specs.declared.num.NonZeroUsize.{NonZeroUsize}
use Rattle.std.specs.Prelude.{Option, Result, IfOk}
use Rattle.std.proofs.lemmas.Result.{IfOk-weaker}
use Rattle.base_tokens.specs.declared.error.OutOfMemory.{OutOfMemory}
use Rattle.base_tokens.specs.declared.flags.ASTFlags.{ASTFlags}
use Rattle.base_tokens.specs.declared.ident.Ident.{Ident}
use Rattle.rhai_base.specs.Value.{Text}
use Rattle.ast_types.specs.declared.expr.Expr as declared_expr
use Rattle.ast_types.specs.declared.expr.BinaryExpr.{BinaryExpr}
use Rattle.rhai_base.specs.declared.dynamic.Dynamic.{Dynamic}
use Rattle.ast_types.specs.declared.expr.FnCallExpr.{FnCallExpr}
use Rattle.ast_types.specs.declared.block.StmtBlock.{StmtBlock}
use Rattle.ast_types.specs.declared.stmt.FlowControl.{FlowControl}
use Rattle.ast_types.specs.declared.switch.SwitchBlock.{SwitchBlock}
use Rattle.ast_types.specs.declared.switch.SwitchCasesCollection.{SwitchCasesCollection}
use Rattle.ast_types.specs.declared.expr.Expr.TheOpen as open_one
use Rattle.ast_types.specs.declared.expr.Expr.TheViews as views
use Rattle.ast_types.specs.declared.stmt.Stmt as declared_stmt
use Rattle.ast_types.specs.declared.stmt.Stmt.TheVariants as stmt_kind
use Rattle.ast_types.specs.Reading.{table_by, table_of, subject_of, cases_of, expressions_of, arms_of, expr_of, stmt_of, stmts_of, stmt_of-Var, is_const, is_exported, breaks, chain_flags}
use Rattle.ast_types.proofs.Cases.{ExprCase, interpolated_string_case, array_case, map_case, unit_case, variable_case, method_call_case, braces_case, call_case, dot_case, index_case, and_case, or_case, coalesce_case, expr_cases, StmtCase, if_case, switch_case, while_case, do_case, for_case, var_case, assignment_case, call_statement_case, block_case, try_catch_case, expression_case, break_loop_case, return_case, import_case, stmt_cases}
use Rattle.theory_meaning.specs.Act.{OfName}
use Rattle.theory_meaning.specs.Engine.{Engine}
use Rattle.theory_meaning.specs.Tree.{Expr, Variable, Dot, Index, Arms, MaybeExpr, no_expr, Stmt, If, Var, Stmts, Switch, SwitchTable}
use Rattle.theory_meaning.specs.Shape.{catch_name}
use Rattle.theory_rewriting.specs.Clear.{HasClearParts, IsClear}
use Rattle.ast_types.proofs.OtherKinds.{NoText, NoArray, NoMap, NoBraces, NoCall, NoDot, NoIndex, NoAnd, NoOr, NoCoalesce, NoMethod, NoVariable, NoIf, NoWhile, NoDo, NoFor, NoVar, NoAssignment, NoCallStatement, NoBlock, NoTry, NoExpression, NoBreak, NoReturn, NoImport, NoSwitch}
use Rattle.theory_rewriting.specs.Context.{knowing, known_behind}
use Rattle.theory_rewriting.specs.Known.{Known, globals_of}
use Rattle.theory_rewriting.specs.Rewriting.{StmtTo, same_expr, same_stmt}
use Rattle.theory_rewriting.specs.Steps.{Anywhere, ExprRun, ArmsRun, Progress, is_chain_node, is_method, variable, loop_front, catch_front, StepsRun, ArgumentRun, ChainRun, TargetRun, MaybeRun, SidesRun, LinkRun, ForRun, ExprPartsRun, StmtPartsRun, StmtReduced, StmtPassed, StmtRun, SubjectRun, HasReducedSubject}
use Rattle.theory_rewriting.specs.Normal.{IsNormal, HasNormalParts, StmtHasNormalParts}
use Rattle.theory_rewriting.specs.Residue.{ExprParts, StmtParts}
use Rattle.opt_base.specs.State.{Standing, known_entry, known_of, global_entry, globals_known, progress}
use Rattle.opt_rules.proofs.Kept.{nothing_left}
use Rattle.opt_base.specs.NodeSteps.{StmtDecided}
use Rattle.std.proofs.lemmas.List.{length-map, drop-map}
use Rattle.opt_reducer.specs.Parts.{StaysAnywhere, declared_value, StmtOnce}
use Rattle.theory_rewriting.proofs.Knowing.{globals_append}
use Rattle.theory_rewriting.proofs.Firing.{expr_done, expr_kept, expr_start, stmt_then, stmt_pass, stmt_again_falls, stmt_done}
use Rattle.theory_rewriting.proofs.Running.{sides_dot, sides_index, link_dot, link_index, maybe_none_run, condition_run, subject_run, arms_run}

-- ---- trees that are spelled so

pub expr_as : {r : Engine} {s s' : Progress} {e e1 e' e1' : Expr} → e ≡ e1 → e' ≡ e1' → ExprPartsRun r s s' e1 e1' → ExprPartsRun r s s' e e'
expr_as {r = r} {s = s} {s' = s'} {e1 = e1} {e' = e'} i j p = subst (λ a. ExprPartsRun r s s' a e') (sym i) (subst (λ b. ExprPartsRun r s s' e1 b) (sym j) p)

pub stmt_as : {r : Engine} {w : Bool} {s s' : Progress} {x x1 x' x1' : Stmt} → x ≡ x1 → x' ≡ x1' → StmtPartsRun r w s s' x1 x1' → StmtPartsRun r w s s' x x'
stmt_as {r = r} {w = w} {s = s} {s' = s'} {x1 = x1} {x' = x'} i j p = subst (λ a. StmtPartsRun r w s s' a x') (sym i) (subst (λ b. StmtPartsRun r w s s' x1 b) (sym j) p)

pub steps_as : {r : Engine} {dot breaks : Bool} {s s' : Progress} {e e1 e' e1' : Expr} → e ≡ e1 → e' ≡ e1' → StepsRun r dot breaks s s' e1 e1' → StepsRun r dot breaks s s' e e'
steps_as {r = r} {dot = dot} {breaks = breaks} {s = s} {s' = s'} {e1 = e1} {e' = e'} i j p = subst (λ a. StepsRun r dot breaks s s' a e') (sym i) (subst (λ b. StepsRun r dot breaks s s' e1 b) (sym j) p)

pub argument_spelled : {r : Engine} {dot : Bool} {s s' : Progress} {e e1 e' e1' : Expr} → e ≡ e1 → e' ≡ e1' → ArgumentRun r dot s s' e1 e1' → ArgumentRun r dot s s' e e'
argument_spelled {r = r} {dot = dot} {s = s} {s' = s'} {e1 = e1} {e' = e'} i j p = subst (λ a. ArgumentRun r dot s s' a e') (sym i) (subst (λ b. ArgumentRun r dot s s' e1 b) (sym j) p)

pub target_as : {r : Engine} {s s' : Progress} {e e1 e' e1' : Expr} → e ≡ e1 → e' ≡ e1' → TargetRun r s s' e1 e1' → TargetRun r s s' e e'
target_as {r = r} {s = s} {s' = s'} {e1 = e1} {e' = e'} i j p = subst (λ a. TargetRun r s s' a e') (sym i) (subst (λ b. TargetRun r s s' e1 b) (sym j) p)

pub for_as : {r : Engine} {x : Text} {i : Option Text} {s s' : Progress} {e : Expr} {b b1 : StmtBlock} {e1 e2 : declared_expr.Expr} {b' : Stmts} → b1 ≡ b → e2 ≡ e1 → ForRun r x i s s' e (stmts_of b1.block) (expr_of e1) b' → ForRun r x i s s' e (stmts_of b.block) (expr_of e2) b'
for_as {r = r} {x = x} {i = i} {s = s} {s' = s'} {e = e} {b = b} {b1 = b1} {e1 = e1} {e2 = e2} {b' = b'} h j p =
    subst (λ (y : declared_expr.Expr). ForRun r x i s s' e (stmts_of b.block) (expr_of y) b') (sym j)
    (subst (λ (y : StmtBlock). ForRun r x i s s' e (stmts_of y.block) (expr_of e1) b') h p)

pub maybe_from : {r : Engine} {s s' : Progress} {m m1 m' : MaybeExpr} → m ≡ m1 → MaybeRun r s s' m1 m' → MaybeRun r s s' m m'
maybe_from {r = r} {s = s} {s' = s'} {m' = m'} h p = subst (λ y. MaybeRun r s s' y m') (sym h) p

pub maybe_same : {r : Engine} {s : Progress} {m : MaybeExpr} → m ≡ no_expr → MaybeRun r s s m m
maybe_same {r = r} {s = s} h = subst (λ y. MaybeRun r s s y y) (sym h) maybe_none_run

-- the flags of a node as they were read
pub sides_dot_at : {r : Engine} {k k' : ASTFlags} {s s' : Progress} {l l' e e' : Expr} → k ≡ k' → SidesRun r true (breaks k) s s' l e l' e' → ChainRun r s s' (Dot (chain_flags k') l e) (Dot (chain_flags k') l' e')
sides_dot_at {r = r} {s = s} {s' = s'} {l = l} {l' = l'} {e = e} {e' = e'} h p = sides_dot (subst (λ (y : ASTFlags). SidesRun r true (breaks y) s s' l e l' e') h p)

pub sides_index_at : {r : Engine} {k k' : ASTFlags} {s s' : Progress} {l l' e e' : Expr} → k ≡ k' → SidesRun r false (breaks k) s s' l e l' e' → ChainRun r s s' (Index (chain_flags k') l e) (Index (chain_flags k') l' e')
sides_index_at {r = r} {s = s} {s' = s'} {l = l} {l' = l'} {e = e} {e' = e'} h p = sides_index (subst (λ (y : ASTFlags). SidesRun r false (breaks y) s s' l e l' e') h p)

pub link_dot_at : {r : Engine} {outer : Bool} {k k' : ASTFlags} {s s' : Progress} {l l' e e' : Expr} → k ≡ k' → LinkRun r outer true (breaks k) s s' l e l' e' → StepsRun r outer false s s' (Dot (chain_flags k') l e) (Dot (chain_flags k') l' e')
link_dot_at {r = r} {outer = outer} {s = s} {s' = s'} {l = l} {l' = l'} {e = e} {e' = e'} h p = link_dot (subst (λ (y : ASTFlags). LinkRun r outer true (breaks y) s s' l e l' e') h p)

pub link_index_at : {r : Engine} {outer : Bool} {k k' : ASTFlags} {s s' : Progress} {l l' e e' : Expr} → k ≡ k' → LinkRun r outer false (breaks k) s s' l e l' e' → StepsRun r outer false s s' (Index (chain_flags k') l e) (Index (chain_flags k') l' e')
link_index_at {r = r} {outer = outer} {s = s} {s' = s'} {l = l} {l' = l'} {e = e} {e' = e'} h p = link_index (subst (λ (y : ASTFlags). LinkRun r outer false (breaks y) s s' l e l' e') h p)

-- ---- a node that is not opened is kept as it is

-- a whole expression that is none of these has no parts
not_opened : (r : Engine) (ks : List Known) {x : declared_expr.Expr} {e : Expr} → ExprCase x e → NoText x → NoArray x → NoMap x → NoBraces x → NoCall x → NoDot x → NoIndex x → NoAnd x → NoOr x → NoCoalesce x → NoMethod x → (ExprParts r e × HasClearParts ks e) × HasNormalParts (knowing r ks) e
not_opened r ks (interpolated_string_case xs p) a b c d e f g h i j k = absurd (a xs p refl)
not_opened r ks (array_case xs p) a b c d e f g h i j k = absurd (b xs p refl)
not_opened r ks (map_case y p) a b c d e f g h i j k = absurd (c y p refl)
not_opened r ks (braces_case y) a b c d e f g h i j k = absurd (d y refl)
not_opened r ks (call_case y p) a b c d e f g h i j k = absurd (e y p refl)
not_opened r ks (dot_case y l p) a b c d e f g h i j k = absurd (f y l p refl)
not_opened r ks (index_case y l p) a b c d e f g h i j k = absurd (g y l p refl)
not_opened r ks (and_case xs p) a b c d e f g h i j k = absurd (h xs p refl)
not_opened r ks (or_case xs p) a b c d e f g h i j k = absurd (i xs p refl)
not_opened r ks (coalesce_case xs p) a b c d e f g h i j k = absurd (j xs p refl)
not_opened r ks (method_call_case y p) a b c d e f g h i j k = absurd (k y p refl)
not_opened r ks _ a b c d e f g h i j k = (((tt, (tt, tt)), tt), tt)

pub expr_stays : {r : Engine} {s : Progress} (x : declared_expr.Expr) → NoText x → NoArray x → NoMap x → NoBraces x → NoCall x → NoDot x → NoIndex x → NoAnd x → NoOr x → NoCoalesce x → NoMethod x → ExprPartsRun r s s (expr_of x) (expr_of x)
expr_stays {r = r} {s = s} x a b c d e f g h i j k =
    let z = not_opened r s.known (expr_cases x) a b c d e f g h i j k in
    record { to = same_expr; place = refl; unit = refl; parts = z.0.0; clear = z.0.1; known = refl; normal = λ i. z.1 }

-- and where no rule fires at it either, at each place
pub leaf_stays : (x : declared_expr.Expr) → NoText x → NoArray x → NoMap x → NoVariable x → NoMethod x → NoBraces x → NoCall x → NoDot x → NoIndex x → NoAnd x → NoOr x → NoCoalesce x → StaysAnywhere (expr_of x)
leaf_stays x text array map variable method braces call dot index and or coalesce r p s =
    expr_done (expr_stays x text array map braces call dot index and or coalesce method) (expr_kept expr_start (nothing_left (expr_cases x) call variable dot index and or coalesce braces array map text))

chain_by : {x : declared_expr.Expr} {e : Expr} → ExprCase x e → NoDot x → NoIndex x → is_chain_node e ≡ false
chain_by (dot_case y k p) f g = absurd (f y k p refl)
chain_by (index_case y k p) f g = absurd (g y k p refl)
chain_by _ f g = refl

pub no_chain : (x : declared_expr.Expr) → NoDot x → NoIndex x → is_chain_node (expr_of x) ≡ false
no_chain x f g = chain_by (expr_cases x) f g

method_by : {x : declared_expr.Expr} {e : Expr} → ExprCase x e → NoMethod x → is_method e ≡ false
method_by (method_call_case y p) f = absurd (f y p refl)
method_by _ f = refl

pub no_method : (x : declared_expr.Expr) → NoMethod x → is_method (expr_of x) ≡ false
no_method x f = method_by (expr_cases x) f

catch_by : (ks : List Known) {x : declared_expr.Expr} {e : Expr} → ExprCase x e → NoVariable x → ks ≡ catch_front (catch_name e) ++ ks
catch_by ks (variable_case v i p) f = absurd (f v i p refl)
catch_by ks (unit_case p) f = refl
catch_by ks _ f = refl

pub no_catch : (ks : List Known) (x : declared_expr.Expr) → NoVariable x → ks ≡ catch_front (catch_name (expr_of x)) ++ ks
no_catch ks x f = catch_by ks (expr_cases x) f

pub catch_path : (ks : List Known) (ns : List Ident) (x : Text) (b : Bool) → (IsTrue b ↔ (ns ≡ [])) → b ≡ false → ks ≡ catch_front (catch_name (Variable (map (λ i. i.name) ns) x)) ++ ks
catch_path ks [] x b h i = absurd (let k = h.1 refl in cc)
catch_path ks (n ∷ ns) x b h i = refl

pub catch_none : (ks : List Known) (ns : List Ident) (x : Text) (b : Bool) → (IsTrue b ↔ (ns ≡ [])) → b ≡ true → variable x ∷ ks ≡ catch_front (catch_name (Variable (map (λ i. i.name) ns) x)) ++ ks
catch_none ks [] x b h i = refl
catch_none ks (n ∷ ns) x b h i = let k = h.0 i in absurd cc

stmt_not_opened : (r : Engine) (w : Bool) (ks : List Known) {x : declared_stmt.Stmt} {s : Stmt} → StmtCase x s → NoIf x → NoWhile x → NoDo x → NoFor x → NoVar x → NoAssignment x → NoCallStatement x → NoBlock x → NoTry x → NoExpression x → NoBreak x → NoReturn x → NoImport x → NoSwitch x → (StmtParts r s × IsClear ks s) × StmtHasNormalParts (knowing r ks) w s
stmt_not_opened r w ks (if_case f p) na nb nc nd ne nf ng nh ni nj nk nl nm nn = absurd (na f p refl)
stmt_not_opened r w ks (while_case f p) na nb nc nd ne nf ng nh ni nj nk nl nm nn = absurd (nb f p refl)
stmt_not_opened r w ks (do_case f k p) na nb nc nd ne nf ng nh ni nj nk nl nm nn = absurd (nc f k p refl)
stmt_not_opened r w ks (for_case v p) na nb nc nd ne nf ng nh ni nj nk nl nm nn = absurd (nd v p refl)
stmt_not_opened r w ks (var_case v k p) na nb nc nd ne nf ng nh ni nj nk nl nm nn = absurd (ne v k p refl)
stmt_not_opened r w ks (assignment_case v) na nb nc nd ne nf ng nh ni nj nk nl nm nn = absurd (nf v refl)
stmt_not_opened r w ks (call_statement_case y p) na nb nc nd ne nf ng nh ni nj nk nl nm nn = absurd (ng y p refl)
stmt_not_opened r w ks (block_case y) na nb nc nd ne nf ng nh ni nj nk nl nm nn = absurd (nh y refl)
stmt_not_opened r w ks (try_catch_case f p) na nb nc nd ne nf ng nh ni nj nk nl nm nn = absurd (ni f p refl)
stmt_not_opened r w ks (expression_case y) na nb nc nd ne nf ng nh ni nj nk nl nm nn = absurd (nj y refl)
stmt_not_opened r w ks (break_loop_case y k p) na nb nc nd ne nf ng nh ni nj nk nl nm nn = absurd (nk y k p refl)
stmt_not_opened r w ks (return_case y k p) na nb nc nd ne nf ng nh ni nj nk nl nm nn = absurd (nl y k p refl)
stmt_not_opened r w ks (import_case v p) na nb nc nd ne nf ng nh ni nj nk nl nm nn = absurd (nm v p refl)
stmt_not_opened r w ks (switch_case y p) na nb nc nd ne nf ng nh ni nj nk nl nm nn = absurd (nn y p refl)
stmt_not_opened r w ks _ na nb nc nd ne nf ng nh ni nj nk nl nm nn = (((tt, (tt, tt)), tt), tt)

pub stmt_stays : {r : Engine} {w : Bool} {s : Progress} (x : declared_stmt.Stmt) → NoIf x → NoWhile x → NoDo x → NoFor x → NoVar x → NoAssignment x → NoCallStatement x → NoBlock x → NoTry x → NoExpression x → NoBreak x → NoReturn x → NoImport x → NoSwitch x → StmtPartsRun r w s s (stmt_of x) (stmt_of x)
stmt_stays {r = r} {w = w} {s = s} x na nb nc nd ne nf ng nh ni nj nk nl nm nn =
    let h = stmt_not_opened r w s.known (stmt_cases x) na nb nc nd ne nf ng nh ni nj nk nl nm nn in
    record { to = same_stmt; parts = h.0.0; clear = h.0.1; known = refl; normal = λ i. h.1 }

-- ---- what a statement declares

pub declares : (c o : Bool) (x : Text) (e : Expr) (ks : List Known) → record { root = OfName x; value = declared_value c e } ∷ ks ≡ known_behind (Var c o x e) ks
declares true o x e ks = refl
declares false o x e ks = refl

noted : (x y : Ident × declared_expr.Expr × Option NonZeroUsize) (k : ASTFlags) (p : Position) (ks : List Known) → x ≡ y → record { root = OfName x.0.name; value = declared_value (is_const k) (expr_of x.1) } ∷ ks ≡ known_behind (stmt_of (stmt_kind.Var y k p)) ks
noted x y k p ks h =
    declares (is_const k) (is_exported k) x.0.name (expr_of x.1) ks
    ∙ ap (λ (z : Ident × declared_expr.Expr × Option NonZeroUsize). known_behind (Var (is_const k) (is_exported k) z.0.name (expr_of z.1)) ks) h
    ∙ ap (λ s. known_behind s ks) (sym (stmt_of-Var y k p))

pub noted_as : (x y : Ident × declared_expr.Expr × Option NonZeroUsize) (k : ASTFlags) (p : Position) (s : declared_stmt.Stmt) (ks ks' : List Known) (d d' : Bool) → x ≡ y → s ≡ stmt_kind.Var y k p → (d' ≡ d) × (ks' ≡ record { root = OfName x.0.name; value = declared_value (is_const k) (expr_of x.1) } ∷ ks) → (d' ≡ d) × (ks' ≡ known_behind (stmt_of s) ks)
noted_as x y k p s ks ks' d d' h i q = (q.0, q.1 ∙ noted x y k p ks h ∙ ap (λ (z : declared_stmt.Stmt). known_behind (stmt_of z) ks) (sym i))

none_declared : (ks : List Known) {x : declared_stmt.Stmt} {s : Stmt} → StmtCase x s → NoVar x → ks ≡ known_behind s ks
none_declared ks (var_case v k p) h = absurd (h v k p refl)
none_declared ks _ h = refl

pub declares_nothing : (ks : List Known) (x : declared_stmt.Stmt) → NoVar x → ks ≡ known_behind (stmt_of x) ks
declares_nothing ks x h = none_declared ks (stmt_cases x) h

-- ---- the names that the state holds

abbrev Entries : Type 0
Entries = List (Text × Option Dynamic)

-- where the names and the setting are the same, so is what is known
pub same_known : (s s' : Standing) → s'.entries ≡ s.entries → s'.setting ≡ s.setting → (progress s').known ≡ (progress s).known
same_known s s' h g = λ i. known_of (h i) ++ globals_known (g i).globals

-- beside them only those of the script's own list are known
known_with : (es : Entries) (gs : Option Entries) → globals_of (known_of es ++ globals_known gs) ≡ globals_known gs
known_with [] None = refl
known_with [] (Some []) = refl
known_with [] (Some (g ∷ gs)) = ap (λ l. global_entry g ∷ l) (known_with [] (Some gs))
known_with (e ∷ es) gs = known_with es gs

pub fresh_with : (es : Entries) (gs gs' : Option Entries) → gs' ≡ gs → globals_known gs' ≡ globals_of (known_of es ++ globals_known gs)
fresh_with es gs gs' h = ap globals_known h ∙ sym (known_with es gs)

-- loops and catches add names alone
pub loop_names_alone : (x : Text) (i : Option Text) → globals_of (loop_front x i) ≡ []
loop_names_alone x None = refl
loop_names_alone x (Some y) = refl

pub catch_name_alone : (x : Option (Option Text)) → globals_of (catch_front x) ≡ []
catch_name_alone None = refl
catch_name_alone (Some None) = refl
catch_name_alone (Some (Some x)) = refl

-- which a list keeps
same_with : (es es' : Entries) (gs gs' : Option Entries) (front : List Known) → globals_of front ≡ [] → known_of es' ++ globals_known gs' ≡ front ++ (known_of es ++ globals_known gs) → globals_known gs' ≡ globals_known gs
same_with es es' gs gs' front n h =
    sym (known_with es' gs') ∙ ap globals_of h ∙ globals_append front (known_of es ++ globals_known gs)
    ∙ (λ i. n i ++ globals_of (known_of es ++ globals_known gs)) ∙ known_with es gs

drop_front : {A : Type 0} (n : ℕ) (xs ys : List A) → n ≤ length xs → drop n xs ++ ys ≡ drop n (xs ++ ys)
drop_front zero xs ys le = refl
drop_front (suc n) [] ys le = absurd (omega (arith, le))
drop_front (suc n) (x ∷ xs) ys le = drop_front n xs ys (omega (arith, le))

-- the names of before, behind a list that began with so many
pub forgotten : (n : ℕ) (es es1 es2 : Entries) (gs gs1 gs2 : Option Entries) (front : List Known) → n ≡ length es → globals_of front ≡ [] → known_of es1 ++ globals_known gs1 ≡ front ++ (known_of es ++ globals_known gs) → gs2 ≡ gs1 → es2 ≡ drop (length es1 - n) es1 → known_of es2 ++ globals_known gs2 ≡ drop (length (known_of es1 ++ globals_known gs1) - length (known_of es ++ globals_known gs)) (known_of es1 ++ globals_known gs1)
forgotten n es es1 es2 gs gs1 gs2 front c f h g e =
    let k1 = known_of es1 in
    let s = ap length (same_with es es1 gs gs1 front f h) in
    let l1 : length k1 ≡ length es1 = length-map es1 known_entry in
    let l0 : length (known_of es) ≡ length es = length-map es known_entry in
    let a1 = length-append k1 (globals_known gs1) in
    let a0 = length-append (known_of es) (globals_known gs) in
    let m : length es1 - n ≡ length (k1 ++ globals_known gs1) - length (known_of es ++ globals_known gs) = omega (arith, s, l1, l0, a1, a0, c) in
    (λ i. known_of (e i) ++ globals_known (g i))
    ∙ ap (λ l. l ++ globals_known gs1) (sym (drop-map known_entry (length es1 - n) es1))
    ∙ drop_front (length es1 - n) k1 (globals_known gs1) (omega (arith, l1))
    ∙ ap (λ k. drop k (k1 ++ globals_known gs1)) m

-- ---- a `switch` whose parts were written

abbrev SwitchLayer : Type 0
SwitchLayer = open_one.SwitchBlock-F declared_expr.Expr declared_stmt.Stmt StmtBlock BinaryExpr FnCallExpr FlowControl SwitchBlock SwitchCasesCollection

abbrev TableLayer : Type 0
TableLayer = open_one.SwitchCasesCollection-F declared_expr.Expr declared_stmt.Stmt StmtBlock BinaryExpr FnCallExpr FlowControl SwitchBlock SwitchCasesCollection

abbrev with_arms : SwitchCasesCollection → List BinaryExpr → SwitchCasesCollection
with_arms t xs = views.roll-SwitchCasesCollection (record (views.out-SwitchCasesCollection t) { expressions = xs })

abbrev with_subject : SwitchBlock → declared_expr.Expr → SwitchBlock
with_subject b e = views.roll-SwitchBlock (record (views.out-SwitchBlock b) { expr = e })

abbrev with_table : SwitchBlock → SwitchCasesCollection → SwitchBlock
with_table b t = views.roll-SwitchBlock (record (views.out-SwitchBlock b) { cases = t })

pub table_written : {r : Engine} {s s' : Progress} {as' : Arms} (t : SwitchCasesCollection) (xs : List BinaryExpr) → ArmsRun r s s' as' (arms_of xs) → (table_of (with_arms t xs) ≡ table_of t) × ArmsRun r s s' as' (arms_of (expressions_of (with_arms t xs)))
table_written {r = r} {s = s} {s' = s'} {as' = as'} t xs p =
    let o = views.out-roll-SwitchCasesCollection (record (views.out-SwitchCasesCollection t) { expressions = xs }) in
    (ap (λ (y : TableLayer). table_by y.cases y.ranges y.def_case) o, subst (λ (y : List BinaryExpr). ArmsRun r s s' as' (arms_of y)) (sym (ap (λ (y : TableLayer). y.expressions) o)) p)

pub subject_written : {r : Engine} {s s' : Progress} (b : SwitchBlock) (e : declared_expr.Expr) → ExprRun r Anywhere s s' (expr_of (subject_of b)) (expr_of e) → (cases_of (with_subject b e) ≡ cases_of b) × ExprRun r Anywhere s s' (expr_of (subject_of b)) (expr_of (subject_of (with_subject b e)))
subject_written {r = r} {s = s} {s' = s'} b e p =
    let o = views.out-roll-SwitchBlock (record (views.out-SwitchBlock b) { expr = e }) in
    (ap (λ (y : SwitchLayer). y.cases) o, subst (λ (y : declared_expr.Expr). ExprRun r Anywhere s s' (expr_of (subject_of b)) (expr_of y)) (sym (ap (λ (y : SwitchLayer). y.expr) o)) p)

pub arms_written : {r : Engine} {s s' : Progress} {as' : Arms} (b : SwitchBlock) (t : SwitchCasesCollection) → (table_of t ≡ table_of (cases_of b)) × ArmsRun r s s' as' (arms_of (expressions_of t)) → (subject_of (with_table b t) ≡ subject_of b) × ((table_of (cases_of (with_table b t)) ≡ table_of (cases_of b)) × ArmsRun r s s' as' (arms_of (expressions_of (cases_of (with_table b t)))))
arms_written {r = r} {s = s} {s' = s'} {as' = as'} b t q =
    let o = views.out-roll-SwitchBlock (record (views.out-SwitchBlock b) { cases = t }) in
    let table = ap (λ (y : SwitchLayer). y.cases) o in
    (ap (λ (y : SwitchLayer). y.expr) o, (ap table_of table ∙ q.0, subst (λ (y : SwitchCasesCollection). ArmsRun r s s' as' (arms_of (expressions_of y))) (sym table) q.1))

-- ---- a `switch` by its declared parts

pub subject_kept : {r : Engine} {s s' : Progress} {x x' : Stmt} (b b' : SwitchBlock) → x ≡ Switch (expr_of (subject_of b)) (arms_of (expressions_of (cases_of b))) (table_of (cases_of b)) → x' ≡ Switch (expr_of (subject_of b')) (arms_of (expressions_of (cases_of b'))) (table_of (cases_of b')) → cases_of b' ≡ cases_of b → ExprRun r Anywhere s s' (expr_of (subject_of b)) (expr_of (subject_of b')) → (w : Bool) → SubjectRun r w s s' x x'
subject_kept {r = r} {s = s} {s' = s'} {x = x} {x' = x'} b b' i j h p w =
    let made = j ∙ ap (λ (y : SwitchCasesCollection). Switch (expr_of (subject_of b')) (arms_of (expressions_of y)) (table_of y)) h in
    subst (λ a. SubjectRun r w s s' a x') (sym i) (subst (λ a. SubjectRun r w s s' (Switch (expr_of (subject_of b)) (arms_of (expressions_of (cases_of b))) (table_of (cases_of b))) a) (sym made) (subject_run p))

no_subject : (r : Engine) (t : Progress) {x : declared_stmt.Stmt} {s : Stmt} → StmtCase x s → NoSwitch x → NoIf x → HasReducedSubject r t s
no_subject r t (switch_case b p) h i = absurd (h b p refl)
no_subject r t (if_case f p) h i = absurd (i f p refl)
no_subject r t _ h i = tt

pub subject_none : {r : Engine} {s : Progress} (x : declared_stmt.Stmt) → NoSwitch x → NoIf x → (w : Bool) → SubjectRun r w s s (stmt_of x) (stmt_of x)
subject_none {r = r} {s = s} x h i w = record { to = same_stmt; subject = no_subject r s (stmt_cases x) h i; known = refl }

-- ---- an `if` by its declared parts

pub condition_kept : {r : Engine} {s s' : Progress} {x x' : Stmt} (f f' : FlowControl) → x ≡ If (expr_of f.expr) (stmts_of f.body.block) (stmts_of f.branch.block) → x' ≡ If (expr_of f'.expr) (stmts_of f'.body.block) (stmts_of f'.branch.block) → f'.body ≡ f.body → f'.branch ≡ f.branch → ExprRun r Anywhere s s' (expr_of f.expr) (expr_of f'.expr) → (w : Bool) → SubjectRun r w s s' x x'
condition_kept {r = r} {s = s} {s' = s'} {x = x} {x' = x'} f f' i j h k p w =
    let made = j ∙ ap (λ (b : StmtBlock). If (expr_of f'.expr) (stmts_of b.block) (stmts_of f'.branch.block)) h ∙ ap (λ (b : StmtBlock). If (expr_of f'.expr) (stmts_of f.body.block) (stmts_of b.block)) k in
    subst (λ a. SubjectRun r w s s' a x') (sym i) (subst (λ a. SubjectRun r w s s' (If (expr_of f.expr) (stmts_of f.body.block) (stmts_of f.branch.block)) a) (sym made) (condition_run p))

pub arms_kept : {r : Engine} {w : Bool} {s s' : Progress} {x x' : Stmt} {e e' : Expr} {as' bs : Arms} {t t' : SwitchTable} → x ≡ Switch e as' t → x' ≡ Switch e' bs t' → HasReducedSubject r s x → e' ≡ e → t' ≡ t → ArmsRun r s s' as' bs → StmtPartsRun r w s s' x x'
arms_kept {r = r} {w = w} {s = s} {s' = s'} {x = x} {x' = x'} {e = e} {as' = as'} {bs = bs} {t = t} {t' = t'} i j h u v q =
    let made = j ∙ ap (λ y. Switch y bs t') u ∙ ap (λ y. Switch e bs y) v in
    subst (λ a. StmtPartsRun r w s s' a x') (sym i) (subst (λ a. StmtPartsRun r w s s' (Switch e as' t) a) (sym made) (arms_run (subst (HasReducedSubject r s) i h) q))

-- what is not decided before that is as it was
pub open_still : {r : Engine} {w : Bool} {s s1 s2 : Progress} {x x1 x2 : Stmt} → StmtDecided false r w s s1 x x1 → SubjectRun r w s1 s2 x1 x2 → SubjectRun r w s s2 x x2
open_still {r = r} {w = w} {s = s} {s2 = s2} {x1 = x1} {x2 = x2} q f = subst (λ y. SubjectRun r w s s2 y x2) q.0 (subst (λ z. SubjectRun r w z s2 x1 x2) q.1 f)

-- where nothing is decided it stays
pub undecided : {r : Engine} {w : Bool} {s s1 s2 : Progress} {x x1 x2 : Stmt} → SubjectRun r w s s1 x x1 → StmtDecided false r w s1 s2 x1 x2 → SubjectRun r w s s2 x x2
undecided {r = r} {w = w} {s = s} {s2 = s2} {x = x} {x1 = x1} f q = subst (λ y. SubjectRun r w s s2 x y) (sym q.0) (subst (λ z. SubjectRun r w s z x x1) (sym q.1) f)

-- ---- a statement that was gone over once

once : {r : Engine} {w : Bool} {s s1 s2 : Progress} {x x1 x2 : Stmt} (b : Bool) → StmtPartsRun r w s s1 x x1 → StmtReduced r w b s1 s2 x1 x2 → StmtOnce b r w s s2 x x2
once true q z = record { to = stmt_then q.known q.to z.to; lighter = stmt_again_falls q z; known = z.known ∙ q.known }
once false q z = stmt_done stmt_pass q z

pub once_by : {r : Engine} {w : Bool} {s s1 : Progress} {x x1 : Stmt} (s2 : Progress) (x2 : Stmt) (o : Result Bool OutOfMemory) → StmtPartsRun r w s s1 x x1 → IfOk o (λ b. StmtReduced r w b s1 s2 x1 x2) → IfOk o (λ b. StmtOnce b r w s s2 x x2)
once_by {r = r} {w = w} {s = s} {s1 = s1} {x = x} {x1 = x1} s2 x2 o q h = IfOk-weaker o (λ b. StmtReduced r w b s1 s2 x1 x2) (λ b. StmtOnce b r w s s2 x x2) (λ b z. once b q z) h

pub once_done : {r : Engine} {w : Bool} {s s1 s2 : Progress} {x x1 x2 : Stmt} → StmtPassed r w s s1 x x1 → StmtRun r w s1 s2 x1 x2 → StmtRun r w s s2 x x2
once_done {r = r} {w = w} {x2 = x2} f q = record {
  to = stmt_then f.known f.to q.to;
  reduced = q.reduced;
  clear = subst (λ ks. IsClear ks x2) f.known q.clear;
  known = q.known ∙ f.known;
  normal = λ h. subst (λ ks. IsNormal (StmtTo (knowing r ks) w) x2) f.known (q.normal h);
}
