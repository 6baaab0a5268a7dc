-- The rules of lists at what is kept from a place on.
use Rattle.std.proofs.Common.{◌≡◌, ◌<◌, ℕ, ◌+◌, ◌-◌, Bool, true, false, length, get_or, take, drop, refl, sym, ap, ◌∙◌, subst, arith}
use Rattle.std.proofs.lemmas.List.{drop_all, drop-set, length-take}
use Rattle.ast_types.specs.Defaults.{nowhere}
use Rattle.ast_types.specs.declared.stmt.Stmt as declared_stmt
use Rattle.ast_types.specs.declared.stmt.Stmt.TheVariants.{Noop as no_statement}
use Rattle.theory_meaning.specs.Queries.{is_noop, is_control_flow_break}
use Rattle.theory_meaning.specs.Tree.{Stmt, Noop, Return, no_expr, an_expr, Stmts, no_stmts, stmt}
use Rattle.ast_types.specs.Reading.{stmt_of, stmts_of}
use Rattle.theory_rewriting.specs.Context.{Context, ListKind, Whole, Inside, wanted}
use Rattle.theory_rewriting.specs.Rules as rule
use Rattle.theory_rewriting.specs.Rules.{ListRule}
use Rattle.opt_lists.specs.declared.behind.Fading.{Fading}
use Rattle.opt_lists.specs.Steps.{Declared, BaredAt, Fires, FiresBehindUnit, MarkedAt, kept}
use Rattle.opt_lists.specs.Sweep.{FadesAlone, bared, is_nothing, returns_nothing, whole_returns_value}
use Rattle.opt_lists.proofs.Closed.{closed-stays, leaving-unmarked, nothing-is}
use Rattle.opt_lists.proofs.Deciding.{cut-item, item-is, kept-item, last-kept, last-kept-is, none-after, noop-kept}
use Rattle.opt_lists.proofs.Sweeping.{fades_at, no, noop_at}

abbrev some_statement : declared_stmt.Stmt
some_statement = no_statement nowhere

-- spelled otherwise
rule_as : {k : Context} {m : ListKind} {u : Bool} {ss ss' new new' : Stmts} → ss' ≡ ss → new' ≡ new → ListRule k m u ss new → ListRule k m u ss' new'
rule_as {k = k} {m = m} {u = u} {ss = ss} {new' = new'} e h r = subst (λ z. ListRule k m u z new') (sym e) (subst (λ z. ListRule k m u ss z) (sym h) r)

-- ---- statements behind one that leaves the list

some_after : {k : Context} {m : ListKind} {u : Bool} (s : Stmt) (rest : Stmts) → is_nothing rest ≡ false → is_control_flow_break s ≡ true → ListRule k m u (stmt s rest) (stmt s no_stmts)
some_after s no_stmts q h = no (sym q)
some_after s (stmt t rest) q h = rule.after_leave h

pub after_leave_fires : (xs new : Declared) (n : ℕ) (m : ListKind) → n < length xs → ((d : declared_stmt.Stmt) → is_control_flow_break (stmt_of (get_or xs n d)) ≡ true) → new ≡ take (n + 1) xs → is_nothing (kept m (drop (n + 1) xs)) ≡ false → Fires m n xs new
after_leave_fires xs new n m lt leaves e some =
    let s = get_or xs n some_statement in
    let h = item-is xs n some_statement lt in
    let unmarked = leaving-unmarked (stmt_of s) (leaves some_statement) in
    let here = kept-item m xs n s lt h unmarked in
    let after : kept m (drop n new) ≡ stmt (stmt_of s) no_stmts = ap (λ z. kept m (drop n z)) e ∙ ap (kept m) (cut-item xs n s lt h) ∙ closed-stays (wanted m) (stmt_of s) no_stmts unmarked in
    λ k u. rule_as here after (some_after (stmt_of s) (kept m (drop (n + 1) xs)) some (leaves some_statement))

-- ---- a last `return e`

bares : {k : Context} {u : Bool} (s : Stmt) → whole_returns_value s ≡ true → ListRule k Whole u (stmt s no_stmts) (stmt (bared s) no_stmts)
bares (Return false exported (an_expr e)) h = rule.last_return
bares (Return false exported no_expr) h = no h
bares (Return true exported e) h = no h
bares _ h = no h

value-leaves : (s : Stmt) → whole_returns_value s ≡ true → is_control_flow_break s ≡ true
value-leaves (Return throws exported e) h = refl
value-leaves _ h = no h

pub last_return_fires : (xs new : Declared) (n : ℕ) → n < length xs → ((d : declared_stmt.Stmt) → whole_returns_value (stmt_of (get_or xs n d)) ≡ true) → ((d : declared_stmt.Stmt) → BaredAt n xs new (get_or xs n d)) → is_nothing (kept Whole (drop (n + 1) xs)) ≡ true → Fires Whole n xs new
last_return_fires xs new n lt returns bare none =
    let s = get_or xs n some_statement in
    let h = item-is xs n some_statement lt in
    let b = bare some_statement in
    let value = returns some_statement in
    let behind : stmts_of (drop (n + 1) xs) ≡ no_stmts = none-after Whole (drop (n + 1) xs) refl (sym none) in
    let here : kept Whole (drop n xs) ≡ stmt (stmt_of s) no_stmts = kept-item Whole xs n s lt h (leaving-unmarked (stmt_of s) (value-leaves (stmt_of s) value)) ∙ ap (stmt (stmt_of s)) (nothing-is _ (sym none)) in
    let after : kept Whole (drop n new) ≡ stmt (bared (stmt_of s)) no_stmts =
    ap (λ z. kept Whole (drop n z)) b.put ∙ ap (kept Whole) (drop-set xs n b.expression lt) ∙ last-kept Whole (stmt_of b.expression) (drop (n + 1) xs) refl behind ∙ ap (λ z. stmt z no_stmts) b.reads in
    λ k u. rule_as here after (bares (stmt_of s) value)

-- ---- a last statement that goes behind unit, and else does nothing

pub last_goes_fires : (xs new : Declared) (len : ℕ) (x : Fading) (m : ListKind) → new ≡ take len xs → FadesAlone m x (kept m (drop len xs)) → FiresBehindUnit m len xs new
last_goes_fires xs new len x m e z =
    let none : kept m (drop len new) ≡ no_stmts = ap (λ y. kept m (drop len y)) e ∙ ap (kept m) (drop_all len (take len xs) (omega (arith, length-take len xs))) in
    λ k. rule_as refl none (fades_at x m refl z)

pub return-acts : (m : ListKind) (t : Stmt) → returns_nothing m t ≡ true → is_noop t ≡ false
return-acts Whole Noop h = no h
return-acts (Inside b) t h = no h
return-acts Whole _ h = refl

pub last_noop_fires : (xs new : Declared) (x : Fading) (m : ListKind) (n : ℕ) → MarkedAt (length xs - 1) xs new → (z : FadesAlone m x (kept m (drop n xs))) → is_noop z.1.0 ≡ false → Fires m n xs new
last_noop_fires xs new x m n p z acts =
    let after : kept m (drop n new) ≡ stmt Noop no_stmts = ap (λ y. kept m (drop n y)) p.put ∙ noop-kept m xs n z.1.0 p.position z.0 z.1.1 in
    λ k u. rule_as refl after (noop_at x m z.1.1 z.1.2 acts)

-- the last one kept acts where the last one does
pub last-acts : (xs : Declared) (x : Fading) (m : ListKind) (n : ℕ) (z : FadesAlone m x (kept m (drop n xs))) → ((d : declared_stmt.Stmt) → is_noop (stmt_of (get_or xs (length xs - 1) d)) ≡ false) → is_noop z.1.0 ≡ false
last-acts xs x m n z q = ap is_noop (sym (last-kept-is m xs n z.1.0 some_statement z.0 z.1.1)) ∙ q some_statement
