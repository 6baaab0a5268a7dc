-- No rule applies at a statement that stays.
use Rattle.std.proofs.Common.{◌≡◌, ◌<◌, Bool, true, false, not, ◌&&◌, ◌||◌, List, [], ◌∷◌, length, Option, Some, None, is_some, arith, refl, sym, ap, ◌∙◌, subst}
use Rattle.std.proofs.lemmas.Slice.Eq.{bytes_eq-Decides}
use Rattle.rhai_base.specs.Operators.{Operator}
use Rattle.rhai_base.specs.Value.{Text, Value, same_text}
use Rattle.theory_meaning.specs.Constants.{constant_bool}
use Rattle.theory_meaning.specs.Engine.{Engine, overrides_any, assigning}
use Rattle.theory_meaning.specs.Queries.{is_internally_pure, are_internally_pure}
use Rattle.theory_meaning.specs.Tree.{Callee, OfOperator, Expr, And, Stmt, If, While, Assignment, Block, TryCatch, ExprStmt, Share, Stmts, no_stmts, stmt}
use Rattle.theory_rewriting.specs.Context.{Context, ListContext, Inside, open_list, behind, knowing}
use Rattle.theory_rewriting.specs.Known.{Known, look, unless_known, unknown}
use Rattle.theory_rewriting.specs.Normal.{IsNormal, StmtHasNormalParts}
use Rattle.theory_rewriting.specs.Operands.{is_and, ends_false}
use Rattle.theory_rewriting.specs.Rewriting.{RestTo, by_list_rule, in_tail}
use Rattle.theory_rewriting.specs.Rules as rule
use Rattle.theory_rewriting.specs.Rules.{StmtRule}
use Rattle.theory_rewriting.specs.SelfAssign.{has_op_assignment, leaves_names}
use Rattle.theory_rewriting.specs.Answering.{is_that}
use Rattle.theory_rewriting.specs.Residue.{IsReducedNode}
use Rattle.theory_rewriting.specs.SurelyUnit.{is_surely_unit}
use Rattle.theory_rewriting.specs.Steps.{Progress, here, NoStmtRule, StmtKept}
use Rattle.theory_meaning.specs.Walk.{OfStmt}
use Rattle.opt_base.proofs.Places.{not-true}
use Rattle.opt_stmts.specs.SettledAssignments.{knows_some, shares_nothing, has_form, is_open, is_settled_assignment}
use Rattle.opt_stmts.specs.SettledChoices.{is_empty, is_settled_if, goes_on, nests}
use Rattle.opt_stmts.specs.SettledStatements.{are_settled, stays}
use Rattle.opt_stmts.proofs.Choosing.{settled_if}

first_of : (a b : Bool) → a && b ≡ true → a ≡ true
first_of true b h = refl
first_of false b h = h

second_of : (a b : Bool) → a && b ≡ true → b ≡ true
second_of true b h = h
second_of false b h = absurd cc

both : (a b : Bool) → a ≡ true → b ≡ true → a && b ≡ true
both true b h i = i
both false b h i = absurd cc

-- a statement that is spelled so stays, where its parts are in normal form
kept_if : {r : Engine} {s : Progress} {x x' : Stmt} (y : Stmt) → x ≡ y → x' ≡ x → IsReducedNode r (OfStmt y) → ((w : Bool) → StmtHasNormalParts (here r s) w y → NoStmtRule (here r s) y) → StmtKept r s s x x'
kept_if {r = r} {s = s} {x = x} {x' = x'} y e i h n =
    subst (λ a. StmtKept r s s x a) (sym i) (subst (λ a. StmtKept r s s a a) (sym e) (record { same = refl; state = refl; reduced = h; settled = n }))

-- or whatever they are
kept_as : {r : Engine} {s : Progress} {x x' : Stmt} (y : Stmt) → x ≡ y → x' ≡ x → IsReducedNode r (OfStmt y) → NoStmtRule (here r s) y → StmtKept r s s x x'
kept_as y e i h n = kept_if y e i h (λ w g. n)

-- and so does what is known
pub kept_when : {r : Engine} {s s' : Progress} {x x' : Stmt} → s' ≡ s → StmtKept r s s x x' → StmtKept r s s' x x'
kept_when {r = r} {s = s} {x = x} {x' = x'} e k = subst (λ z. StmtKept r s z x x') (sym e) k

-- ---- blocks

block_rules : {k : Context} {w : Bool} {x' : Stmt} (ss : Stmts) → are_settled ss ≡ true → StmtRule k w (Block ss) x' → ⊥
block_rules _ h rule.block_empty = let z : false ≡ true = h in cc
block_rules _ h (rule.block_of_statement d) = let z : false ≡ true = sym d ∙ h in cc

pub block_kept : {r : Engine} {s : Progress} {x x' : Stmt} (ss : Stmts) → x ≡ Block ss → x' ≡ x → are_settled ss ≡ true → StmtKept r s s x x'
block_kept ss e i h = kept_as (Block ss) e i tt (λ w x' q. block_rules ss h q)

-- ---- expression statements

expression_rules : {k : Context} {w : Bool} {x' : Stmt} (e : Expr) → stays e ≡ true → StmtRule k w (ExprStmt e) x' → ⊥
expression_rules _ h rule.statement_of_braces = let z : false ≡ true = h in cc
expression_rules _ h rule.statement_of_call = let z : false ≡ true = h in cc

pub expression_kept : {r : Engine} {s : Progress} {x x' : Stmt} (e : Expr) → x ≡ ExprStmt e → x' ≡ x → stays e ≡ true → StmtKept r s s x x'
expression_kept e y i h = kept_as (ExprStmt e) y i tt (λ w x' q. expression_rules e h q)

-- ---- loops

while_rules : {k : Context} {w : Bool} {x' : Stmt} (e : Expr) (b : Stmts) → constant_bool e ≡ None → StmtRule k w (While e b) x' → ⊥
while_rules e b h (rule.while_false d) = let z : None ≡ Some false = sym h ∙ d in cc
while_rules e b h (rule.while_true d) = let z : None ≡ Some true = sym h ∙ d in cc

pub while_kept : {r : Engine} {s : Progress} {x x' : Stmt} (e : Expr) (b : Stmts) → x ≡ While e b → x' ≡ x → constant_bool e ≡ None → StmtKept r s s x x'
while_kept e b y i h = kept_as (While e b) y i (ap (is_that false) h) (λ w x' q. while_rules e b h q)

-- ---- `try`

-- what stands behind the first one is in normal form too
tail_of : {s : Stmt} {ss ss' : Stmts} → stmt s ss' ≡ stmt s ss → ss' ≡ ss
tail_of h = cc

-- of a list in normal form whose value is not wanted the last one would go if it were pure inside
pure_body : (k : ListContext) (u : Bool) (ss : Stmts) → IsNormal (RestTo k (Inside false) u) ss → are_internally_pure ss ≡ true → is_empty ss ≡ true
pure_body k u no_stmts n p = refl
pure_body k u (stmt s no_stmts) n p =
    let goes : RestTo k (Inside false) u false true (stmt s no_stmts) no_stmts = by_list_rule (rule.pure_inside_goes refl (first_of (is_internally_pure s) true p) refl refl) in
    let z : no_stmts ≡ stmt s no_stmts = n false true no_stmts goes in
    absurd cc
pure_body k u (stmt s (stmt t ss)) n p =
    let z : is_empty (stmt t ss) ≡ true = pure_body (behind s k) (is_surely_unit s) (stmt t ss) (λ d d' x r. tail_of (n d d' (stmt s x) (in_tail r))) (second_of (is_internally_pure s) (are_internally_pure (stmt t ss)) p) in
    absurd cc

try_rules : {k j : Context} {w : Bool} {x' : Stmt} (x : Expr) (a b : Stmts) → not (is_empty a) ≡ true → IsNormal (RestTo (open_list j) (Inside false) true) a → StmtRule k w (TryCatch x a b) x' → ⊥
try_rules {j = j} x a b h n (rule.pure_try p) = let z : false ≡ true = ap not (sym (pure_body (open_list j) true a n p)) ∙ h in cc

pub try_kept : {r : Engine} {s : Progress} {x x' : Stmt} (t : Expr) (a b : Stmts) → x ≡ TryCatch t a b → x' ≡ x → not (is_empty a) ≡ true → StmtKept r s s x x'
try_kept t a b y i h = kept_if (TryCatch t a b) y i tt (λ v g w x' q. try_rules t a b h g.0 q)

-- ---- an `if`

alone_goes_on : (c : Expr) → is_and c ≡ false → goes_on c ≡ true
alone_goes_on (And es) h = absurd cc
alone_goes_on _ h = refl

if_rules : {k : Context} {w : Bool} {x' : Stmt} (c : Expr) (a b : Stmts) → is_settled_if c a b ≡ true → nests c a b ≡ false → StmtRule k w (If c a b) x' → ⊥
if_rules _ _ _ h n rule.if_without_blocks = let z : false ≡ true = h in cc
if_rules c a b h n (rule.if_decided {t} d) = let z : None ≡ Some t = sym (settled_if c a b h) ∙ d in cc
if_rules c _ _ h n (rule.nested_if i) = let z : true ≡ false = sym (both (goes_on c) true (alone_goes_on c i) refl) ∙ n in cc
if_rules _ _ _ h n (rule.nested_if_joins {es} i) = let z : true ≡ false = sym (both (not (ends_false es)) true (ap not i) refl) ∙ n in cc

pub if_kept : {r : Engine} {s : Progress} {x x' : Stmt} (c : Expr) (a b : Stmts) → x ≡ If c a b → x' ≡ x → is_settled_if c a b ≡ true → nests c a b ≡ false → StmtKept r s s x x'
if_kept c a b y i h n = kept_as (If c a b) y i (settled_if c a b h) (λ w x' q. if_rules c a b h n q)

-- ---- assignments

same_self : (x : Text) → same_text x x ≡ true
same_self x = (bytes_eq-Decides x x).1 refl

-- `x = x op e`, where op has an `op=` that is open, doesn't stay
pub assigns_so : (r : Engine) (op : Operator) (f : Callee) (x : Text) (e : Expr) → f.token ≡ OfOperator op → has_op_assignment op ≡ true → leaves_names e ≡ true → overrides_any r.overrides (assigning op) ≡ false → (same_text x x && leaves_names e) && (has_form f.token && is_open r f.token) ≡ true
assigns_so r op f x e t a l o =
    both _ _ (both _ _ (same_self x) l) (both _ _ (ap has_form t ∙ a) (ap (is_open r) t ∙ ap not o))

assignment_rules : {w : Bool} {x' : Stmt} (r : Engine) (ks : List Known) (op : Option Operator) (l e : Expr) → is_settled_assignment r (Assignment op l e) ≡ true → StmtRule (knowing r ks) w (Assignment op l e) x' → ⊥
assignment_rules r ks _ _ _ h (rule.self_assign {op} {f} {x} {e} t a l o) = let z : false ≡ true = ap not (sym (assigns_so r op f x e t a l o)) ∙ h in cc

pub assignment_kept : {r : Engine} {s : Progress} {x x' : Stmt} (op : Option Operator) (l e : Expr) → x ≡ Assignment op l e → x' ≡ x → is_settled_assignment r (Assignment op l e) ≡ true → StmtKept r s s x x'
assignment_kept {r = r} {s = s} op l e y i h = kept_as (Assignment op l e) y i tt (λ w x' q. assignment_rules r s.known op l e h q)

-- ---- shared names

left_by : (o : Option Value) (b : Bool) (x : Text) (ys xs : List Text) → is_some o || b ≡ false → (b ≡ false → ys ≡ xs) → unless_known o x ys ≡ x ∷ xs
left_by None b x ys xs h f = ap (λ (zs : List Text). x ∷ zs) (f h)
left_by (Some v) b x ys xs h f = absurd cc

-- where none is known all are left
all_left : (ks : List Known) (xs : List Text) → knows_some ks xs ≡ false → unknown ks xs ≡ xs
all_left ks [] h = refl
all_left ks (x ∷ xs) h = left_by (look ks x) (knows_some ks xs) x (unknown ks xs) xs h (all_left ks xs)

no_fewer : (ks : List Known) (xs : List Text) → not (knows_some ks xs) ≡ true → length (unknown ks xs) < length xs → ⊥
no_fewer ks xs h l = let e = ap length (all_left ks xs (not-true (knows_some ks xs) h)) in omega arith

share_rules : {w : Bool} {x' : Stmt} (k : Context) (xs : List Text) → shares_nothing (Share xs) ≡ false → not (knows_some k.known xs) ≡ true → StmtRule k w (Share xs) x' → ⊥
share_rules k xs n h (rule.share_known l) = no_fewer k.known xs h l
share_rules k _ n h rule.share_nothing = let z : true ≡ false = n in cc

pub share_kept : {r : Engine} {s : Progress} {x x' : Stmt} (xs : List Text) → x ≡ Share xs → x' ≡ x → shares_nothing (Share xs) ≡ false → knows_some s.known xs ≡ false → StmtKept r s s x x'
share_kept {r = r} {s = s} xs y i n h = kept_as (Share xs) y i tt (λ w x' q. share_rules (here r s) xs n (ap not h) q)
