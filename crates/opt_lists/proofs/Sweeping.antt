-- What each decision of a sweep does to what is kept.
use Rattle.std.proofs.Common.{◌≡◌, ◌<◌, ℕ, ◌+◌, List, Bool, true, false, Option, Some, None, refl, sym, ◌∙◌, subst}
use Rattle.std.specs.Prelude.{◌&&◌, ◌||◌, not}
use Rattle.theory_meaning.specs.Queries.{is_pure, is_noop, is_control_flow_break}
use Rattle.theory_meaning.specs.Tree.{Expr, Variable, Stmt, Noop, Var, ExprStmt, BreakLoop, Return, no_expr, an_expr, Stmts, no_stmts, stmt}
use Rattle.theory_rewriting.specs.Clear.{AreClear}
use Rattle.theory_rewriting.specs.Known.{Known}
use Rattle.theory_rewriting.proofs.Clearing.{claimed, unclaimed, within, pure_clear}
use Rattle.theory_rewriting.proofs.Evals.{pure_keeps}
use Rattle.theory_rewriting.specs.Evals.{keeps_names}
use Rattle.theory_rewriting.specs.Residue.{when}
use Rattle.theory_rewriting.specs.Context.{Context, ListContext, behind, known_behind, ListKind, Whole, Inside, wanted, wanted_before}
use Rattle.theory_rewriting.specs.Reducible.{is_idle, ends_in_return}
use Rattle.theory_rewriting.specs.Normal.{AreNormalEach, AreSwept}
use Rattle.theory_rewriting.specs.Rewriting.{RestTo, same_stmts, then_stmts, by_list_rule, in_tail}
use Rattle.theory_rewriting.specs.Rules as rule
use Rattle.theory_rewriting.specs.Rules.{is_pure_in, ListRule}
use Rattle.theory_rewriting.specs.SurelyUnit.{is_surely_unit}
use Rattle.opt_lists.specs.declared.behind.Behind.{Behind}
use Rattle.opt_lists.specs.declared.behind.Fading.{Fading}
use Rattle.opt_lists.specs.declared.behind.Fading.TheVariants as fading_kind
use Rattle.opt_lists.specs.declared.behind.Going.{Going}
use Rattle.opt_lists.specs.declared.behind.Going.TheVariants as going_kind
use Rattle.opt_lists.specs.Sweep.{is_lone, holds_nothing, is_inside_by_itself, goes_as, returns_value, returns_nothing, fades_as, is_nothing, returns_at_end, keeps_none, keeps, skips, keeps_noop, keeps_bared, IsSwept, AreQuiet, HearsQuiet, FadesAlone, DecidedTo}

pub no : {A : Type 0} → false ≡ true → A
no h = absurd (let z : false ≡ true = h in cc)

pub none_some : {A B : Type 0} {x : B} → None ≡ Some x → A
none_some {B = B} {x = x} h = absurd (let z : None ≡ Some x = h in cc)

pub all_of : {A : Type 0} (a b : Bool) → a && b ≡ true → (a ≡ true → b ≡ true → A) → A
all_of true b h f = f refl h
all_of false b h f = no h

pub both : {a b : Bool} → a ≡ true → b ≡ true → a && b ≡ true
both p q = λ i. p i && q i

pub second : (a : Bool) {b : Bool} → a && b ≡ true → b ≡ true
second a {b = b} h = all_of a b h (λ p q. q)

-- ---- rules

lone_rule : {k : Context} {m : ListKind} {u : Bool} (s : Stmt) (rest : Stmts) → wanted_before (wanted m) rest ≡ false → is_lone s ≡ true → ListRule k m u (stmt s rest) rest
lone_rule (ExprStmt (Variable ns x)) rest w h = rule.lone_goes w
lone_rule (ExprStmt _) rest w h = no h
lone_rule _ rest w h = no h

goes_rule : {k : Context} {u : Bool} (g : Going) (m : ListKind) (b : Bool) (s : Stmt) (rest : Stmts) → wanted_before (wanted m) rest ≡ false → (b ≡ true → AreQuiet rest) → goes_as g m b s ≡ true → ListRule k m u (stmt s rest) rest
goes_rule going_kind.Pure m b s rest w p h = rule.pure_goes w h
goes_rule going_kind.Lone m b s rest w p h = lone_rule s rest w h
goes_rule going_kind.PureInside Whole b s rest w p h = no h
goes_rule going_kind.PureInside (Inside i) b s rest w p h = all_of b (is_inside_by_itself s) h (λ x q. rule.pure_inside_goes w (second (holds_nothing s) q) (p x).0 (p x).1)

nothing_goes_rule : {k : Context} (m : ListKind) (t : Stmt) → returns_nothing m t ≡ true → ListRule k m true (stmt t no_stmts) no_stmts
nothing_goes_rule Whole (Return false exported no_expr) h = rule.last_return_goes
nothing_goes_rule Whole (Return false exported (an_expr e)) h = no h
nothing_goes_rule Whole (Return true exported e) h = no h
nothing_goes_rule Whole _ h = no h
nothing_goes_rule (Inside b) t h = no h

nothing_noop_rule : {k : Context} (m : ListKind) {u : Bool} (t : Stmt) → returns_nothing m t ≡ true → ListRule k m u (stmt t no_stmts) (stmt Noop no_stmts)
nothing_noop_rule Whole (Return false exported no_expr) h = rule.last_return_noop
nothing_noop_rule Whole (Return false exported (an_expr e)) h = no h
nothing_noop_rule Whole (Return true exported e) h = no h
nothing_noop_rule Whole _ h = no h
nothing_noop_rule (Inside b) t h = no h

pub fades_rule : {k : Context} (x : Fading) (m : ListKind) (t : Stmt) → fades_as x m t ≡ true → ListRule k m true (stmt t no_stmts) no_stmts
fades_rule fading_kind.LastReturn m t h = nothing_goes_rule m t h
fades_rule fading_kind.LastUnit m t h = all_of (is_pure_in m t) _ h (λ p q. rule.last_unit_goes p q)

pub noop_rule : {k : Context} {u : Bool} (x : Fading) (m : ListKind) (t : Stmt) → fades_as x m t ≡ true → is_noop t ≡ false → ListRule k m u (stmt t no_stmts) (stmt Noop no_stmts)
noop_rule fading_kind.LastReturn m t h n = nothing_noop_rule m t h
noop_rule fading_kind.LastUnit m t h n = all_of (is_pure_in m t) _ h (λ p q. rule.last_unit_noop p q n)

-- ---- derivations

-- one more rule after a rewriting of those behind
then_rule : {m : ListKind} {n : ℕ} {b : Behind} {s : Stmt} {ss rest new : Stmts} → DecidedTo m n b ss rest → ((k : Context) (u : Bool) → ListRule k m u (stmt s rest) new) → (k : ListContext) (u d : Bool) → RestTo k m u d true (stmt s ss) new
then_rule {s = s} f r k u d = then_stmts (in_tail (f.to (behind s k) (is_surely_unit s) d)) (by_list_rule (r k.context u))

behind_it : {m : ListKind} {n : ℕ} {b : Behind} {ss rest : Stmts} (s : Stmt) → DecidedTo m n b ss rest → (k : ListContext) (u d : Bool) → RestTo k m u d (b.has_changed || d) (stmt s ss) (stmt s rest)
behind_it s f k u d = in_tail (f.to (behind s k) (is_surely_unit s) d)

-- ---- what is left to decide in what is kept

nothing_at_end : (m : ListKind) → returns_at_end m no_stmts ≡ false
nothing_at_end Whole = refl
nothing_at_end (Inside b) = refl

at_end : (m : ListKind) (s : Stmt) → returns_at_end m (stmt s no_stmts) ≡ returns_value m s
at_end Whole (Return false exported (an_expr e)) = refl
at_end Whole (Return false exported no_expr) = refl
at_end Whole (Return true exported e) = refl
at_end Whole _ = refl
at_end (Inside b) s = refl

ends_behind : (s t : Stmt) (ss : Stmts) → ends_in_return (stmt s (stmt t ss)) ≡ ends_in_return (stmt t ss)
ends_behind (Return false exported (an_expr e)) t ss = refl
ends_behind (Return false exported no_expr) t ss = refl
ends_behind (Return true exported e) t ss = refl
ends_behind _ t ss = refl

returns_behind : (m : ListKind) (s t : Stmt) (ss : Stmts) → returns_at_end m (stmt s (stmt t ss)) ≡ returns_at_end m (stmt t ss)
returns_behind Whole s t ss = ends_behind s t ss
returns_behind (Inside b) s t ss = refl

stays_no_return : (m : ListKind) (s : Stmt) → is_control_flow_break s ≡ false → returns_value m s ≡ false
stays_no_return Whole (Return throws exported e) h = no (sym h)
stays_no_return Whole _ h = refl
stays_no_return (Inside b) s h = refl

pub unit_stays : (s : Stmt) → is_surely_unit s ≡ true → is_control_flow_break s ≡ false
unit_stays (Return throws exported e) h = no h
unit_stays (BreakLoop breaks exported e) h = no h
unit_stays _ h = refl

nor : (a b : Bool) → a ≡ false → b ≡ false → a || b ≡ false
nor a b p q = λ i. p i || q i

swept_nothing : (m : ListKind) → IsSwept m no_stmts
swept_nothing m = record { ends_where_left = refl; never_idles = refl; returns_nowhere = nothing_at_end m }

swept_alone : (m : ListKind) (s : Stmt) → returns_value m s ≡ false → IsSwept m (stmt s no_stmts)
swept_alone m s h = record { ends_where_left = refl; never_idles = refl; returns_nowhere = at_end m s ∙ h }

swept_more : (m : ListKind) (s : Stmt) (rest : Stmts) → is_control_flow_break s ≡ false → (is_nothing rest ≡ false → is_idle s ≡ false) → IsSwept m rest → IsSwept m (stmt s rest)
swept_more m s no_stmts h i z = swept_alone m s (stays_no_return m s h)
swept_more m s (stmt t rest) h i z = record {
  ends_where_left = nor _ _ h z.ends_where_left;
  never_idles = nor _ _ (i refl) z.never_idles;
  returns_nowhere = returns_behind m s t rest ∙ z.returns_nowhere;
}

-- ---- nothing yet

pub decided_start : {m : ListKind} {n : ℕ} → DecidedTo m n (record { is_last = true; fading = None; is_quiet = true; has_changed = false; is_bared = false }) no_stmts no_stmts
decided_start {m = m} = record {
  to = λ k u d. same_stmts;
  kept = keeps_none;
  clear = λ z ks h. tt;
  bared = λ z. no z;
  swept = swept_nothing m;
  last = refl;
  fading = λ x h. none_some h;
  quiet = λ h. (refl, refl);
  hears = λ y z k j w e h. refl;
  settled = λ z e k j u. tt;
}

-- ---- a statement that goes, since its value is not wanted

-- it declares nothing, or those behind it are quiet, and test no name
lone_declares : (s : Stmt) (ks : List Known) → is_lone s ≡ true → known_behind s ks ≡ ks
lone_declares (Var constant exported x e) ks h = no h
lone_declares _ ks h = refl

lone_keeps : (s : Stmt) → is_lone s ≡ true → keeps_names s ≡ true
lone_keeps (ExprStmt (Variable ns x)) h = refl
lone_keeps (ExprStmt _) h = no h
lone_keeps _ h = no h

pure_declares : (s : Stmt) (ks : List Known) → is_pure s ≡ true → known_behind s ks ≡ ks
pure_declares (Var constant exported x e) ks h = no h
pure_declares _ ks h = refl

goes_clear : (g : Going) (m : ListKind) (b : Bool) (s : Stmt) (rest : Stmts) (ks : List Known) → (b ≡ true → AreQuiet rest) → goes_as g m b s ≡ true → when (keeps_names s) (AreClear (known_behind s ks) rest) → AreClear ks rest
goes_clear going_kind.Pure m b s rest ks p h c = subst (λ l. AreClear l rest) (pure_declares s ks h) (claimed (pure_keeps s h) c)
goes_clear going_kind.Lone m b s rest ks p h c = subst (λ l. AreClear l rest) (lone_declares s ks h) (claimed (lone_keeps s h) c)
goes_clear going_kind.PureInside Whole b s rest ks p h c = no h
goes_clear going_kind.PureInside (Inside i) b s rest ks p h c = all_of b (is_inside_by_itself s) h (λ x q. pure_clear ks rest (p x).0)

pub decided_goes : {m : ListKind} {n : ℕ} {b : Behind} {s : Stmt} {ss rest : Stmts} (g : Going) → DecidedTo m (n + 1) b ss rest → wanted_before (wanted m) rest ≡ false → goes_as g m b.is_quiet s ≡ true → DecidedTo m n (record { is_last = b.is_last; fading = b.fading; is_quiet = b.is_quiet; has_changed = true; is_bared = b.is_bared }) (stmt s ss) rest
decided_goes {m = m} {b = b} {s = s} {rest = rest} g f w h = record {
  to = then_rule f (λ k u. goes_rule g m b.is_quiet s rest w f.quiet h);
  kept = skips f.kept;
  clear = λ z ks c. goes_clear g m b.is_quiet s rest ks f.quiet h (within (keeps_names s) (f.clear z _) c.1);
  bared = λ z. refl;
  swept = f.swept;
  last = f.last;
  fading = f.fading;
  quiet = f.quiet;
  hears = λ y z. no (sym z);
  settled = λ z. no (sym z);
}

-- ---- a statement that stays, and does not leave the list

pub decided_stays : {m : ListKind} {n : ℕ} {b : Behind} {s : Stmt} {ss rest : Stmts} (fades : Option Fading) (quiet : Bool) → DecidedTo m (n + 1) b ss rest → is_control_flow_break s ≡ false → (b.is_last ≡ false → is_idle s ≡ false) → ((x : Fading) → fades ≡ Some x → FadesAlone m x (stmt s rest)) → (quiet ≡ true → AreQuiet (stmt s rest)) → (0 < n → b.has_changed ≡ false → (k : ListContext) → AreNormalEach k m (stmt s rest) → HearsQuiet m quiet (stmt s rest)) → (b.has_changed ≡ false → fades ≡ None → (k : ListContext) → AreNormalEach k m (stmt s rest) → (u : Bool) → AreSwept m u (stmt s rest)) → DecidedTo m n (record { is_last = false; fading = fades; is_quiet = quiet; has_changed = b.has_changed; is_bared = b.is_bared }) (stmt s ss) (stmt s rest)
decided_stays {m = m} {b = b} {s = s} {rest = rest} fades quiet f h i g p o a = record {
  to = behind_it s f;
  kept = keeps f.kept;
  clear = λ z ks c. (c.0, within (keeps_names s) (f.clear z _) c.1);
  bared = f.bared;
  swept = swept_more m s rest h (λ x. i (f.last ∙ x)) f.swept;
  last = refl;
  fading = g;
  quiet = p;
  hears = o;
  settled = a;
}

-- ---- one that leaves the list: those behind it go

leaves_to : {k : ListContext} {m : ListKind} {u d : Bool} (c l : Bool) {s : Stmt} {ss : Stmts} (rest : Stmts) → l ≡ is_nothing rest → is_control_flow_break s ≡ true → RestTo k m u d (c || d) (stmt s ss) (stmt s rest) → RestTo k m u d ((c || not l) || d) (stmt s ss) (stmt s no_stmts)
leaves_to true l no_stmts e h p = p
leaves_to false true no_stmts e h p = p
leaves_to false false no_stmts e h p = no e
leaves_to true l (stmt t rest) e h p = then_stmts p (by_list_rule (rule.after_leave h))
leaves_to false false (stmt t rest) e h p = then_stmts p (by_list_rule (rule.after_leave h))
leaves_to false true (stmt t rest) e h p = no (sym e)

pub decided_leaves : {m : ListKind} {n : ℕ} {b : Behind} {s : Stmt} {ss rest : Stmts} (fades : Option Fading) → DecidedTo m (n + 1) b ss rest → is_control_flow_break s ≡ true → returns_value m s ≡ false → ((x : Fading) → fades ≡ Some x → FadesAlone m x (stmt s no_stmts)) → HearsQuiet m false (stmt s no_stmts) → (fades ≡ None → (u : Bool) → AreSwept m u (stmt s no_stmts)) → DecidedTo m n (record { is_last = false; fading = fades; is_quiet = false; has_changed = b.has_changed || not b.is_last; is_bared = false }) (stmt s ss) (stmt s no_stmts)
decided_leaves {m = m} {b = b} {s = s} {rest = rest} fades f h r g o a = record {
  to = λ k u d. leaves_to b.has_changed b.is_last rest f.last h (behind_it s f k u d);
  kept = keeps keeps_none;
  clear = λ z ks c. (c.0, unclaimed (keeps_names s) tt);
  bared = λ z. no z;
  swept = swept_alone m s r;
  last = refl;
  fading = g;
  quiet = λ x. no x;
  hears = λ y z k j. o;
  settled = λ z e k j. a e;
}

-- a last `return e` becomes `e`

bares_to : {k : ListContext} {u d d1 exported : Bool} {e : Expr} {ss : Stmts} (rest : Stmts) → RestTo k Whole u d d1 (stmt (Return false exported (an_expr e)) ss) (stmt (Return false exported (an_expr e)) rest) → RestTo k Whole u d true (stmt (Return false exported (an_expr e)) ss) (stmt (ExprStmt e) no_stmts)
bares_to no_stmts p = then_stmts p (by_list_rule rule.last_return)
bares_to (stmt t rest) p = then_stmts p (then_stmts (by_list_rule (rule.after_leave refl)) (by_list_rule rule.last_return))

pub decided_bares : {n : ℕ} {b : Behind} {exported : Bool} {e : Expr} {ss rest : Stmts} → DecidedTo Whole (n + 1) b ss rest → DecidedTo Whole n (record { is_last = false; fading = None; is_quiet = false; has_changed = true; is_bared = true }) (stmt (Return false exported (an_expr e)) ss) (stmt (ExprStmt e) no_stmts)
decided_bares {b = b} {exported = exported} {e = e} {rest = rest} f = record {
  to = λ k u d. bares_to rest (behind_it (Return false exported (an_expr e)) f k u d);
  kept = keeps_bared;
  clear = λ z. no (sym z);
  bared = λ z. refl;
  swept = swept_alone Whole (ExprStmt e) refl;
  last = refl;
  fading = λ x h. none_some h;
  quiet = λ h. no h;
  hears = λ y z. no (sym z);
  settled = λ z. no (sym z);
}

-- ---- the one behind fades

pub fades_at : {k : Context} {v : Bool} {rest : Stmts} (x : Fading) (m : ListKind) → v ≡ true → FadesAlone m x rest → ListRule k m v rest no_stmts
fades_at {k = k} {rest = rest} x m v z = subst (λ y. ListRule k m y rest no_stmts) (sym v) (subst (λ y. ListRule k m true y no_stmts) (sym z.1.1) (fades_rule x m z.1.0 z.1.2))

pub noop_at : {k : Context} {v : Bool} {t : Stmt} {rest : Stmts} (x : Fading) (m : ListKind) → rest ≡ stmt t no_stmts → fades_as x m t ≡ true → is_noop t ≡ false → ListRule k m v rest (stmt Noop no_stmts)
noop_at {k = k} {v = v} {t = t} x m e h n = subst (λ y. ListRule k m v y (stmt Noop no_stmts)) (sym e) (noop_rule x m t h n)

-- behind a statement that is surely unit it goes
pub decided_fades : {m : ListKind} {n : ℕ} {b : Behind} {s : Stmt} {ss rest : Stmts} (x : Fading) → DecidedTo m (n + 1) b ss rest → b.fading ≡ Some x → is_surely_unit s ≡ true → DecidedTo m n (record { is_last = false; fading = None; is_quiet = false; has_changed = true; is_bared = false }) (stmt s ss) (stmt s no_stmts)
decided_fades {m = m} {s = s} x f h q = record {
  to = λ k u d. then_stmts (behind_it s f k u d) (in_tail (by_list_rule (fades_at x m q (f.fading x h))));
  kept = keeps keeps_none;
  clear = λ z ks c. (c.0, unclaimed (keeps_names s) tt);
  bared = λ z. refl;
  swept = swept_alone m s (stays_no_return m s (unit_stays s q));
  last = refl;
  fading = λ x h. none_some h;
  quiet = λ h. no h;
  hears = λ y z. no (sym z);
  settled = λ z. no (sym z);
}

-- behind another one it does nothing
pub decided_noop : {m : ListKind} {n : ℕ} {b : Behind} {s t : Stmt} {ss rest : Stmts} (x : Fading) → DecidedTo m (n + 1) b ss rest → b.fading ≡ Some x → rest ≡ stmt t no_stmts → is_noop t ≡ false → is_control_flow_break s ≡ false → is_idle s ≡ false → DecidedTo m n (record { is_last = false; fading = None; is_quiet = false; has_changed = true; is_bared = false }) (stmt s ss) (stmt s (stmt Noop no_stmts))
decided_noop {m = m} {s = s} {t = t} x f h e n q i =
    let z = f.fading x h in
    let faded : fades_as x m t ≡ true = subst (λ y. fades_as x m y ≡ true) (let p = z.1.1 in cc) z.1.2 in
    record {
      to = λ k u d. then_stmts (behind_it s f k u d) (in_tail (by_list_rule (noop_at x m e faded n)));
      kept = keeps keeps_noop;
      clear = λ z ks c. (c.0, unclaimed (keeps_names s) (tt, tt));
      bared = λ z. refl;
      swept = swept_more m s (stmt Noop no_stmts) q (λ x. i) (swept_alone m Noop (stays_no_return m Noop refl));
      last = refl;
      fading = λ x h. none_some h;
      quiet = λ h. no h;
      hears = λ y z. no (sym z);
      settled = λ z. no (sym z);
    }

-- the last one does nothing at once
noop-fades : (m : ListKind) (y : Fading) → Some fading_kind.LastUnit ≡ Some y → fades_as y m Noop ≡ true
noop-fades Whole fading_kind.LastUnit h = refl
noop-fades (Inside b) fading_kind.LastUnit h = refl
noop-fades m fading_kind.LastReturn h = absurd cc

pub decided_quiets : {m : ListKind} {n : ℕ} {b : Behind} {s : Stmt} {ss : Stmts} → DecidedTo m (n + 1) b ss no_stmts → wanted m ≡ true → fades_as fading_kind.LastUnit m s ≡ true → is_noop s ≡ false → DecidedTo m n (record { is_last = false; fading = Some fading_kind.LastUnit; is_quiet = true; has_changed = true; is_bared = false }) (stmt s ss) (stmt Noop no_stmts)
decided_quiets {m = m} {s = s} f w h n = record {
  to = then_rule f (λ k u. noop_rule fading_kind.LastUnit m s h n);
  kept = keeps_noop;
  clear = λ z ks c. (tt, tt);
  bared = λ z. no z;
  swept = swept_alone m Noop (stays_no_return m Noop refl);
  last = refl;
  fading = λ y e. (w, (Noop, refl, noop-fades m y e));
  quiet = λ z. (refl, refl);
  hears = λ y z. no (sym z);
  settled = λ z. no (sym z);
}

-- at the start of a list it goes
pub decided_ends : {m : ListKind} {n : ℕ} {b : Behind} {ss rest : Stmts} (x : Fading) → DecidedTo m n b ss rest → b.fading ≡ Some x → (k : ListContext) (d : Bool) → RestTo k m true d true ss no_stmts
decided_ends {m = m} x f h k d = then_stmts (f.to k true d) (by_list_rule (fades_at x m refl (f.fading x h)))

pub swept_empty : (m : ListKind) → IsSwept m no_stmts
swept_empty = swept_nothing
