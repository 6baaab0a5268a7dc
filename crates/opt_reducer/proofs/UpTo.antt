-- A list that is rewritten in its own memory, an item at a time: the first n are done, the others are to come.
use Rattle.std.proofs.Common.{◌≡◌, ◌<◌, ◌≤◌, ℕ, suc, ◌+◌, Bool, true, false, ◌&&◌, ◌||◌, List, [], ◌∷◌, ◌++◌, length, get_or, set, take, drop, refl, sym, ap, ◌∙◌, subst, arith, append_assoc, append-nil}
use Rattle.std.proofs.lemmas.List.{drop_more, drop_all, take_all, take_more_set, drop-set-lt, get_or-set_same, length-set}
use Rattle.ast_types.specs.declared.expr.Expr as declared_expr
use Rattle.ast_types.specs.declared.stmt.Stmt as declared_stmt
use Rattle.ast_types.specs.declared.stmt.Stmt.TheVariants.{Noop as noop_at}
use Rattle.ast_types.specs.Defaults.{nowhere}
use Rattle.theory_meaning.specs.Engine.{Engine}
use Rattle.ast_types.specs.Reading.{expr_of, exprs_of, pairs_of, arms_of, stmt_of, stmts_of}
use Rattle.ast_types.specs.declared.expr.BinaryExpr.{BinaryExpr}
use Rattle.theory_rewriting.proofs.rules.Arms.{arms_weight}
use Rattle.base_tokens.specs.declared.ident.Ident.{Ident}
use Rattle.rhai_base.specs.Value.{Text}
use Rattle.theory_meaning.specs.Tree.{Expr, Pairs, pair, Stmt, Stmts, no_stmts, stmt}
use Rattle.theory_meaning.specs.Walk.{total, over_pairs}
use Rattle.theory_rewriting.specs.Context.{ListContext, ListKind, wanted, wanted_before}
use Rattle.theory_rewriting.specs.Rewriting.{RestTo, same_stmts}
use Rattle.theory_rewriting.specs.Steps.{ItemRun, Progress, Anywhere, ExprRun, ExprsRun, PairsRun, ArmRun, ArmsRun, EachRun, UnknownRun}
use Rattle.theory_rewriting.specs.Evals.{keeps_names}
use Rattle.opt_reducer.specs.Going.{Going, going, known_at, item_goes, ItemGoes}
use Rattle.theory_rewriting.specs.Known.{Known, globals_of}
use Rattle.theory_rewriting.proofs.Knowing.{globals_behind, globals_twice}
use Rattle.theory_rewriting.proofs.Running.{exprs_none_run, exprs_more_run, pairs_none_run, pairs_more_run, arms_none_run, arms_more_run, each_more_run, each_ends_run, unknown_none_run, unknown_more_run, beside}
use Rattle.theory_meaning.specs.Weight.{own_weight, expr_weight, exprs_weight, stmt_weight, weight}

-- ---- for any items

-- A list is rewritten where each item is. An item's rewriting may depend on those that come after it. The states are those
-- before and after.
pub record ByItems {X S : Type 0} (weigh : X → ℕ) (weigh_all : List X → ℕ) (Item : List X → S → S → X → X → Type 0) (Items : S → S → List X → List X → Type 0) : Type 0 where
  pub none : {d : S} → Items d d [] []
  pub more : {d d1 d2 : S} {x y : X} {rest new : List X} → Item rest d d1 x y → Items d1 d2 rest new → Items d d2 (x ∷ rest) (y ∷ new)
  pub heavier : (x : X) (rest : List X) → weigh x + weigh_all rest ≤ weigh_all (x ∷ rest)

-- of all, which are now `here`, the first n are done
pub record UpTo {X S : Type 0} (weigh_all : List X → ℕ) (Items : S → S → List X → List X → Type 0) (d d1 : S) (all here : List X) (n : ℕ) : Type 0 where
  pub len : length here ≡ length all
  pub fits : weigh_all (drop n here) ≤ weigh_all all
  pub to : (d2 : S) (new : List X) → Items d1 d2 (drop n here) new → Items d d2 all (take n here ++ new)

drop-item : {X : Type 0} (xs : List X) (n : ℕ) (x : X) → n < length xs → x ≡ get_or xs n x → drop n xs ≡ x ∷ drop (n + 1) xs
drop-item xs n x lt h = drop_more xs n x lt ∙ ap (λ y. y ∷ drop (n + 1) xs) (sym h)

pub up_next : {X S : Type 0} {weigh : X → ℕ} {weigh_all : List X → ℕ} {Item : List X → S → S → X → X → Type 0} {Items : S → S → List X → List X → Type 0} {d d1 d2 : S} {all here : List X} {n : ℕ} {x : X} (y : X) → ByItems weigh weigh_all Item Items → UpTo weigh_all Items d d1 all here n → n < length all → x ≡ get_or here n x → Item (drop (n + 1) here) d1 d2 x y → UpTo weigh_all Items d d2 all (set here n y) (n + 1)
up_next {weigh_all = weigh_all} {Items = Items} {d = d} {d1 = d1} {d2 = d2} {all = all} {here = here} {n = n} {x = x} y by s lt h i =
    let l = s.len in
    let lt_here : n < length here = omega arith in
    let front = drop-item here n x lt_here h in
    let rest = drop-set-lt (n + 1) here n y (omega arith) in
    let fits : weigh_all (x ∷ drop (n + 1) here) ≤ weigh_all all = subst (λ rest. weigh_all rest ≤ weigh_all all) front s.fits in
    let lighter : weigh_all (drop (n + 1) here) ≤ weigh_all all = omega (arith, by.heavier x (drop (n + 1) here)) in
    record {
      len = length-set here n y ∙ l;
      fits = subst (λ r. weigh_all r ≤ weigh_all all) (sym rest) lighter;
      to = λ d3 new p.
          let p1 = subst (λ r. Items d2 d3 r new) rest p in
          let p2 = subst (λ r. Items d1 d3 r (y ∷ new)) (sym front) (by.more i p1) in
          let done = append_assoc (take n here) (y ∷ []) new in
          subst (λ a. Items d d3 all (a ++ new)) (sym (take_more_set here n y lt_here)) (subst (λ a. Items d d3 all a) (sym done) (s.to d3 (y ∷ new) p2));
    }

pub up_end : {X S : Type 0} {weigh : X → ℕ} {weigh_all : List X → ℕ} {Item : List X → S → S → X → X → Type 0} {Items : S → S → List X → List X → Type 0} {d d1 : S} {all here : List X} {n : ℕ} → ByItems weigh weigh_all Item Items → UpTo weigh_all Items d d1 all here n → length all ≤ n → Items d d1 all here
up_end {Items = Items} {d = d} {d1 = d1} {all = all} {here = here} {n = n} by s h =
    let l = s.len in
    let i : length here ≤ n = omega arith in
    let none = subst (λ r. Items d1 d1 r []) (sym (drop_all n here i)) by.none in
    subst (λ a. Items d d1 all a) (append-nil (take n here) ∙ take_all n here i) (s.to d1 [] none)

-- ---- expressions

abbrev pub expr_weighs : declared_expr.Expr → ℕ
expr_weighs e = expr_weight (expr_of e)

abbrev pub exprs_weigh : List declared_expr.Expr → ℕ
exprs_weigh es = exprs_weight (exprs_of es)

pub record ExprItem (r : Engine) (rest : List declared_expr.Expr) (s s' : Progress) (e e' : declared_expr.Expr) : Type 0 where
  pub run : ExprRun r Anywhere s s' (expr_of e) (expr_of e')

pub record ExprItems (r : Engine) (s s' : Progress) (es es' : List declared_expr.Expr) : Type 0 where
  pub run : ExprsRun r s s' (exprs_of es) (exprs_of es')

pub exprs_by : (r : Engine) → ByItems expr_weighs exprs_weigh (ExprItem r) (ExprItems r)
exprs_by r = record {
  none = record { run = exprs_none_run };
  more = λ i is. record { run = exprs_more_run i.run is.run };
  heavier = λ x rest. omega arith;
}

-- ---- pairs

abbrev pub pair_weighs : Ident × declared_expr.Expr → ℕ
pair_weighs p = expr_weight (expr_of p.1)

abbrev pub pairs_weigh : List (Ident × declared_expr.Expr) → ℕ
pairs_weigh ps = over_pairs (total own_weight) (pairs_of ps)

pub record PairItem (r : Engine) (rest : List (Ident × declared_expr.Expr)) (s s' : Progress) (p p' : Ident × declared_expr.Expr) : Type 0 where
  pub key : p'.0 ≡ p.0
  pub run : ExprRun r Anywhere s s' (expr_of p.1) (expr_of p'.1)

pub record PairItems (r : Engine) (s s' : Progress) (ps ps' : List (Ident × declared_expr.Expr)) : Type 0 where
  pub run : PairsRun r s s' (pairs_of ps) (pairs_of ps')

key_kept : {r : Engine} {s s' : Progress} {x x' : Text} {e e' : Expr} {ps ps' : Pairs} → x' ≡ x → PairsRun r s s' (pair x e ps) (pair x e' ps') → PairsRun r s s' (pair x e ps) (pair x' e' ps')
key_kept {r = r} {s = s} {s' = s'} {x = x} {e = e} {e' = e'} {ps = ps} {ps' = ps'} h p = subst (λ y. PairsRun r s s' (pair x e ps) (pair y e' ps')) (sym h) p

pub pairs_by : (r : Engine) → ByItems pair_weighs pairs_weigh (PairItem r) (PairItems r)
pairs_by r = record {
  none = record { run = pairs_none_run };
  more = λ i is. record { run = key_kept (ap (λ (y : Ident). y.name) i.key) (pairs_more_run i.run is.run) };
  heavier = λ x rest. omega arith;
}

-- ---- arms

abbrev pub arm_weighs : BinaryExpr → ℕ
arm_weighs b = expr_weight (expr_of b.lhs) + expr_weight (expr_of b.rhs)

abbrev pub arms_weigh : List BinaryExpr → ℕ
arms_weigh bs = arms_weight (arms_of bs)

pub record ArmItem (r : Engine) (rest : List BinaryExpr) (s s' : Progress) (b b' : BinaryExpr) : Type 0 where
  pub run : ArmRun r s s' (expr_of b.lhs) (expr_of b.rhs) (expr_of b'.lhs) (expr_of b'.rhs)

pub record ArmItems (r : Engine) (s s' : Progress) (bs bs' : List BinaryExpr) : Type 0 where
  pub run : ArmsRun r s s' (arms_of bs) (arms_of bs')

pub arms_by : (r : Engine) → ByItems arm_weighs arms_weigh (ArmItem r) (ArmItems r)
arms_by r = record {
  none = record { run = arms_none_run };
  more = λ i is. record { run = arms_more_run i.run is.run };
  heavier = λ x rest. omega arith;
}

-- ---- statements

abbrev pub stmt_weighs : declared_stmt.Stmt → ℕ
stmt_weighs s = stmt_weight (stmt_of s)

abbrev pub stmts_weigh : List declared_stmt.Stmt → ℕ
stmts_weigh ss = weight (stmts_of ss)

-- no name is known yet, and nothing has changed
pub record IsFresh (s u : Progress) : Type 0 where
  pub clear : u.is_dirty ≡ false
  pub nameless : u.known ≡ globals_of s.known

abbrev list_goes : Bool → Engine → ListKind → Going → Going → Stmts → Stmts → Type 0
list_goes true r m g g' ss ss' = IsFresh g.state g.unknown → EachRun r m g.state (beside g'.state g'.unknown) ss ss'
list_goes false r m g g' ss ss' = g.unknown.known ≡ globals_of g.unknown.known → (g'.state ≡ g.state) × UnknownRun r m g.unknown g'.unknown ss ss'

fresh_none : {k : ListContext} {m : ListKind} {u d : Bool} (b : Bool) → b ≡ false → RestTo k m u d (b || d) no_stmts no_stmts
fresh_none true h = absurd (let z : true ≡ false = h in cc)
fresh_none false h = same_stmts

goes_none : (b : Bool) (r : Engine) (m : ListKind) (g : Going) → list_goes b r m g g no_stmts no_stmts
goes_none true r m g = λ f. record { to = λ u. fresh_none g.unknown.is_dirty f.clear; reduced = tt; clear = tt; front = []; names = refl; known = refl; normal = λ h. tt }
goes_none false r m g = λ f. (refl, unknown_none_run)

-- a state of which no name is known knows none but those of the script's own list
nameless_alone : (u : Progress) (ks : List Known) → u.known ≡ globals_of ks → u.known ≡ globals_of u.known
nameless_alone u ks h = h ∙ sym (ap globals_of h ∙ globals_twice ks)

-- it is so behind a statement
fresh_behind : {r : Engine} {w : Bool} {s s1 u u1 : Progress} {x x' : Stmt} → ItemRun r w s s1 x x' → u1 ≡ u → IsFresh s u → IsFresh s1 u1
fresh_behind {s = s} {x' = x'} p h f = record {
  clear = ap (λ (v : Progress). v.is_dirty) h ∙ f.clear;
  nameless = ap (λ (v : Progress). v.known) h ∙ f.nameless ∙ sym (globals_behind x' s.known) ∙ sym (ap globals_of p.known);
}

goes_more : (b b1 : Bool) (r : Engine) (m : ListKind) (g g1 g2 : Going) (x x' : Stmt) (ss ss' : Stmts) → g1.are_known ≡ b1 → item_goes b r (wanted_before (wanted m) ss) g g1 x x' → list_goes b1 r m g1 g2 ss ss' → list_goes b r m g g2 (stmt x ss) (stmt x' ss')
goes_more true true r m g g1 g2 x x' ss ss' h p q = λ f. each_more_run p.1 (sym p.0.0 ∙ h) (q (fresh_behind p.1 p.0.1 f))
goes_more true false r m g g1 g2 x x' ss ss' h p q = λ f.
    let same : g1.unknown.known ≡ globals_of g.state.known = ap (λ (v : Progress). v.known) p.0.1 ∙ f.nameless in
    let clear : g1.unknown.is_dirty ≡ false = ap (λ (v : Progress). v.is_dirty) p.0.1 ∙ f.clear in
    let z = q (nameless_alone g1.unknown g.state.known same) in
    subst (λ t. EachRun r m g.state (beside t g2.unknown) (stmt x ss) (stmt x' ss')) (sym z.0) (each_ends_run p.1 (sym p.0.0 ∙ h) clear same z.1)
goes_more false true r m g g1 g2 x x' ss ss' h p q = absurd (let z : true ≡ false = sym h ∙ p.0.0 in cc)
goes_more false false r m g g1 g2 x x' ss ss' h p q = λ f.
    let z = q (p.1.known ∙ f ∙ sym (ap globals_of p.1.known)) in
    (z.0 ∙ p.0.1, unknown_more_run f p.1 z.1)

pub record StmtItem (r : Engine) (m : ListKind) (rest : List declared_stmt.Stmt) (g g' : Going) (x x' : declared_stmt.Stmt) : Type 0 where
  pub run : ItemGoes r (wanted_before (wanted m) (stmts_of rest)) g g' (stmt_of x) (stmt_of x')

pub record StmtItems (r : Engine) (m : ListKind) (g g' : Going) (ss ss' : List declared_stmt.Stmt) : Type 0 where
  pub run : list_goes g.are_known r m g g' (stmts_of ss) (stmts_of ss')

pub stmt_item : {r : Engine} {m : ListKind} {w : Bool} {rest : List declared_stmt.Stmt} {g g' : Going} {x x' : declared_stmt.Stmt} → w ≡ wanted_before (wanted m) (stmts_of rest) → ItemGoes r w g g' (stmt_of x) (stmt_of x') → StmtItem r m rest g g' x x'
stmt_item {r = r} {g = g} {g' = g'} {x = x} {x' = x'} h f = record { run = subst (λ w. ItemGoes r w g g' (stmt_of x) (stmt_of x')) h f }

pub stmts_by : (r : Engine) (m : ListKind) → ByItems stmt_weighs stmts_weigh (StmtItem r m) (StmtItems r m)
stmts_by r m = record {
  none = λ {d = g}. record { run = goes_none g.are_known r m g };
  more = λ {d = g} {d1 = g1} i is. record { run = goes_more g.are_known g1.are_known _ _ _ _ _ _ _ _ _ refl i.run is.run };
  heavier = λ x rest. omega arith;
}

-- of a list, which are now `here`, the first n are done; it began where names are known, with a fresh state beside
pub record EachUpTo (r : Engine) (m : ListKind) (s u : Progress) (g : Going) (all here : List declared_stmt.Stmt) (n : ℕ) : Type 0 where
  pub fresh : IsFresh s u
  pub to : UpTo stmts_weigh (StmtItems r m) (going true s u) g all here n

known_behind_it : (b : Bool) (here : List declared_stmt.Stmt) (n : ℕ) (y : declared_stmt.Stmt) → n < length here → known_at b (set here n y) (n + 1) ≡ b && keeps_names (stmt_of y)
known_behind_it b here n y lt =
    let next : n + 1 ≡ suc n = omega arith in
    ap (known_at b (set here n y)) next ∙ ap (λ x. b && keeps_names (stmt_of x)) (get_or-set_same here n y (noop_at nowhere) lt)

-- one more is done
pub each_next : {r : Engine} {m : ListKind} {s u s1 u1 s2 u2 : Progress} {all here : List declared_stmt.Stmt} {n : ℕ} {w known : Bool} {x : declared_stmt.Stmt} (b : Bool) (y : declared_stmt.Stmt) → n < length here → known ≡ known_at b here n → EachUpTo r m s u (going (known_at b here n) s1 u1) all here n → x ≡ get_or here n x → w ≡ wanted_before (wanted m) (stmts_of (drop (n + 1) here)) → ItemGoes r w (going known s1 u1) (going (known && keeps_names (stmt_of y)) s2 u2) (stmt_of x) (stmt_of y) → EachUpTo r m s u (going (known_at known (set here n y) (n + 1)) s2 u2) all (set here n y) (n + 1)
each_next {r = r} {m = m} {s = s} {u = u} {s1 = s1} {u1 = u1} {s2 = s2} {u2 = u2} {all = all} {here = here} {n = n} {w = w} {known = known} {x = x} b y lt k p h v i =
    let after : Going = going (known && keeps_names (stmt_of y)) s2 u2 in
    let now : ItemGoes r w (going (known_at b here n) s1 u1) after (stmt_of x) (stmt_of y) = subst (λ z. ItemGoes r w (going z s1 u1) after (stmt_of x) (stmt_of y)) k i in
    subst (λ z. EachUpTo r m s u (going z s2 u2) all (set here n y) (n + 1)) (sym (known_behind_it known here n y lt))
    (record { fresh = p.fresh; to = up_next y (stmts_by r m) p.to (omega (arith, lt, p.to.len)) h (stmt_item v now) })
