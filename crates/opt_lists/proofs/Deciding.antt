-- The steps of a sweep, on the list itself.
use Rattle.std.proofs.Common.{◌≡◌, ◌<◌, ℕ, ◌+◌, ◌-◌, suc, Bool, true, false, [], ◌∷◌, Some, None, length, get_or, set, take, drop, refl, sym, ap, ◌∙◌, subst, arith}
use Rattle.std.specs.Prelude.{◌&&◌, ◌||◌, not, if◌then◌else◌}
use Rattle.std.proofs.lemmas.List.{drop_more, drop_all, drop-set, drop-set-add, drop-take, take-set, take-set-le, take-take, get_or-drop, get_or-set_other, get_or-take, length-drop, length-set, length-take-le}
use Rattle.base_tokens.specs.declared.position.Position.{Position}
use Rattle.ast_types.specs.declared.stmt.Stmt as declared_stmt
use Rattle.ast_types.specs.declared.stmt.Stmt.TheVariants.{Noop as noop_at}
use Rattle.ast_types.specs.declared.stmt.Stmt.TheVariants as stmt_kind
use Rattle.ast_types.specs.declared.expr.Expr as declared_expr
use Rattle.base_tokens.specs.declared.flags.ASTFlags.{ASTFlags}
use Rattle.theory_meaning.specs.Queries.{is_internally_pure, is_noop, is_control_flow_break}
use Rattle.theory_meaning.specs.Tree.{Stmt, Noop, Return, no_expr, an_expr, Stmts, no_stmts, stmt}
use Rattle.ast_types.specs.Reading.{stmt_of, stmts_of, breaks, is_exported, stmt_of-Noop, stmt_of-Expr, stmt_of-Return}
use Rattle.theory_rewriting.specs.Context.{ListContext, behind, ListKind, Whole, Inside, wanted}
use Rattle.theory_rewriting.specs.Exports.{stmt_exports_nothing}
use Rattle.theory_rewriting.specs.Normal.{AreNormalEach, AreSwept}
use Rattle.theory_rewriting.specs.Rules.{is_pure_in}
use Rattle.theory_rewriting.specs.SurelyUnit.{is_surely_unit}
use Rattle.opt_lists.specs.declared.behind.Behind.{Behind}
use Rattle.opt_lists.specs.declared.behind.Fading.{Fading}
use Rattle.opt_lists.specs.declared.behind.Fading.TheVariants as fading_kind
use Rattle.opt_lists.specs.declared.behind.Going.{Going}
use Rattle.opt_lists.specs.declared.behind.Going.TheVariants as going_kind
use Rattle.opt_lists.specs.Steps.{Declared, kept, headed, cut, MarkedAt, Step}
use Rattle.opt_lists.specs.Sweep.{is_lone, holds_nothing, is_pure_by_itself, is_pure_unit, is_quiet, AreQuiet, HearsQuiet, goes_as, goes_by, goes_inside, returns_value, whole_returns_value, returns_nothing, bared, fades_as, return_fades, unit_fades, fades_aloud, FadesAlone, is_nothing, DecidedTo, closed_up}
use Rattle.opt_lists.proofs.Closed.{and_true, unmarked, leaving-unmarked, closed-stays, closed-alone, closed-goes, nothing-is, nothing-behind, unwanted-before, unwanted-at, tail-is, tail-put}
use Rattle.opt_lists.proofs.Idle.{not_idle}
use Rattle.opt_lists.proofs.Sweeping.{no, none_some, all_of, both, second, decided_goes, decided_stays, decided_leaves, decided_bares, decided_fades, decided_noop, decided_quiets}
use Rattle.opt_lists.proofs.Settling.{StaysBy, stays_by, unwanted_normal, none_before, loud_before, none_last, quiet_last, noop_settled, none_leaving, loud_leaving}

-- ---- items of lists

item : (xs : Declared) (n : ℕ) (s : declared_stmt.Stmt) → n < length xs → s ≡ get_or xs n s → drop n xs ≡ s ∷ drop (n + 1) xs
item xs n s lt h = drop_more xs n s lt ∙ ap (λ y. y ∷ drop (n + 1) xs) (sym h)

headed-item : (xs : Declared) (n : ℕ) (s : declared_stmt.Stmt) (ss : Stmts) → n < length xs → s ≡ get_or xs n s → headed (drop n xs) ss ≡ stmt (stmt_of s) ss
headed-item xs n s ss lt h = ap (λ l. headed l ss) (item xs n s lt h)

pub kept-item : (m : ListKind) (xs : Declared) (n : ℕ) (s : declared_stmt.Stmt) → n < length xs → s ≡ get_or xs n s → is_noop (stmt_of s) ≡ false → kept m (drop n xs) ≡ stmt (stmt_of s) (kept m (drop (n + 1) xs))
kept-item m xs n s lt h e = ap (kept m) (item xs n s lt h) ∙ closed-stays (wanted m) (stmt_of s) (stmts_of (drop (n + 1) xs)) e

same-head : (x y : declared_stmt.Stmt) (a b : Declared) → x ∷ a ≡ y ∷ b → x ≡ y
same-head x y a b h = cc

-- whatever a look-up past the end gives
pub item-is : (xs : Declared) (n : ℕ) (d : declared_stmt.Stmt) → n < length xs → get_or xs n d ≡ get_or xs n (get_or xs n d)
item-is xs n d lt = same-head _ _ _ _ (sym (drop_more xs n d lt) ∙ drop_more xs n (get_or xs n d) lt)

pub item-same : (xs : Declared) (n : ℕ) (s d : declared_stmt.Stmt) → n < length xs → s ≡ get_or xs n s → get_or xs n d ≡ s
item-same xs n s d lt h = same-head _ _ _ _ (sym (drop_more xs n d lt) ∙ drop_more xs n s lt) ∙ sym h

-- what holds of the item at a place, whatever a look-up past the end gives
pub there : {A : Type 0} (f : Stmt → A) (v : A) (xs : Declared) (n : ℕ) (s : declared_stmt.Stmt) → s ≡ get_or xs n s → ((d : declared_stmt.Stmt) → f (stmt_of (get_or xs n d)) ≡ v) → f (stmt_of s) ≡ v
there f v xs n s h q = ap (λ z. f (stmt_of z)) h ∙ q s

-- by which rule it goes, if by one
abbrev by_rule : (a b c : Bool) → Going → Bool
by_rule a b c going_kind.Pure = a
by_rule a b c going_kind.Lone = b
by_rule a b c going_kind.PureInside = c

taken : (a b c : Bool) (g : Going) → (if a then Some going_kind.Pure else if b then Some going_kind.Lone else if c then Some going_kind.PureInside else None) ≡ Some g → by_rule a b c g ≡ true
taken true b c going_kind.Pure h = refl
taken true b c going_kind.Lone h = absurd cc
taken true b c going_kind.PureInside h = absurd cc
taken false true c going_kind.Pure h = absurd cc
taken false true c going_kind.Lone h = refl
taken false true c going_kind.PureInside h = absurd cc
taken false false true going_kind.Pure h = absurd cc
taken false false true going_kind.Lone h = absurd cc
taken false false true going_kind.PureInside h = refl
taken false false false g h = none_some h

by_its_rule : (g : Going) (m : ListKind) (b : Bool) (s : Stmt) → by_rule (is_pure_by_itself s) (is_lone s) (goes_inside m b s) g ≡ true → goes_as g m b s ≡ true
by_its_rule going_kind.Pure m b s h = second (holds_nothing s) h
by_its_rule going_kind.Lone m b s h = h
by_its_rule going_kind.PureInside m b s h = h

pub goes_so : (g : Going) (m : ListKind) (b : Bool) (s : Stmt) → goes_by m b s ≡ Some g → goes_as g m b s ≡ true
goes_so g m b s h = by_its_rule g m b s (taken (is_pure_by_itself s) (is_lone s) (goes_inside m b s) g h)

-- spelled otherwise
pub decided_as : {m : ListKind} {n : ℕ} {b : Behind} {ss ss' rest rest' : Stmts} → ss' ≡ ss → rest' ≡ rest → DecidedTo m n b ss rest → DecidedTo m n b ss' rest'
decided_as {m = m} {n = n} {b = b} {ss = ss} {rest' = rest'} e h f = subst (λ z. DecidedTo m n b z rest') (sym e) (subst (λ z. DecidedTo m n b ss z) (sym h) f)

-- cut behind an item
pub cut-item : (xs : Declared) (n : ℕ) (s : declared_stmt.Stmt) → n < length xs → s ≡ get_or xs n s → drop n (take (n + 1) xs) ≡ s ∷ []
cut-item xs n s lt h = drop-take n 1 xs ∙ ap (take 1) (item xs n s lt h)

cut-front : (xs : Declared) (n : ℕ) → take n (take (n + 1) xs) ≡ take n xs
cut-front xs n = take-take n (n + 1) xs (omega arith)

cut-long : (xs : Declared) (n : ℕ) → n < length xs → n < length (take (n + 1) xs)
cut-long xs n lt = omega (arith, length-take-le (n + 1) xs (omega arith))

-- ---- a statement that goes

pub step_gone : {m : ListKind} {n : ℕ} {xs : Declared} {b : Behind} (g : Going) (s : declared_stmt.Stmt) (p : Position) → n < length xs → s ≡ get_or xs n s → b.is_last && wanted m ≡ false → goes_as g m b.is_quiet (stmt_of s) ≡ true → Step m n xs (set xs n (noop_at p)) b (record { is_last = b.is_last; fading = b.fading; is_quiet = b.is_quiet; has_changed = true; is_bared = b.is_bared })
step_gone {m = m} {n = n} {xs = xs} {b = b} g s p lt h w q = record {
  front = take-set xs n (noop_at p);
  long = omega (arith, length-set xs n (noop_at p));
  same = λ e. no (sym e);
  to = λ ss f.
      let rest = drop (n + 1) xs in
      let marked : kept m (drop n (set xs n (noop_at p))) ≡ kept m rest =
      ap (kept m) (drop-set xs n (noop_at p) lt)
      ∙ ap (λ z. closed_up (wanted m) (stmt z (stmts_of rest))) (stmt_of-Noop p)
      ∙ closed-goes (wanted m) (stmts_of rest) (unwanted-at (wanted m) b.is_last (stmts_of rest) f.last w) in
      decided_as (headed-item xs n s ss lt h) marked (decided_goes g f (unwanted-before (wanted m) b.is_last (kept m rest) f.last w) q);
}

pub step_marked : {m : ListKind} {n : ℕ} {xs new : Declared} {b : Behind} (g : Going) → n < length xs → MarkedAt n xs new → b.is_last && wanted m ≡ false → ((d : declared_stmt.Stmt) → goes_as g m b.is_quiet (stmt_of (get_or xs n d)) ≡ true) → Step m n xs new b (record { is_last = b.is_last; fading = b.fading; is_quiet = b.is_quiet; has_changed = true; is_bared = b.is_bared })
step_marked {m = m} {n = n} {xs = xs} {new = new} {b = b} g lt p w q =
    let d = noop_at p.position in
    let after : Behind = record { is_last = b.is_last; fading = b.fading; is_quiet = b.is_quiet; has_changed = true; is_bared = b.is_bared } in
    subst (λ z. Step m n xs z b after) (sym p.put) (step_gone g (get_or xs n d) p.position lt (item-is xs n d lt) w (q d))

-- ---- a statement that stays, whose value is not wanted

-- what is kept behind it is settled where it stands
abbrev SettlesBehind : ListKind → ℕ → Declared → Behind → declared_stmt.Stmt → Type 0
SettlesBehind m n xs b s =
    let rest = kept m (drop (n + 1) xs) in
    (ss : Stmts) → DecidedTo m (n + 1) b ss rest → b.has_changed ≡ false → (k : ListContext) → AreNormalEach k m rest → (rest ≡ no_stmts → wanted m ≡ false) × AreSwept m (is_surely_unit (stmt_of s)) rest

step_kept : {m : ListKind} {n : ℕ} {xs : Declared} {b : Behind} (s : declared_stmt.Stmt) → n < length xs → s ≡ get_or xs n s → is_control_flow_break (stmt_of s) ≡ false → goes_by m b.is_quiet (stmt_of s) ≡ None → SettlesBehind m n xs b s → Step m n xs xs b (record { is_last = false; fading = None; is_quiet = false; has_changed = b.has_changed; is_bared = b.is_bared })
step_kept {m = m} {n = n} {xs = xs} {b = b} s lt h q g settles = record {
  front = refl;
  long = lt;
  same = λ z. (z, refl);
  to = λ ss f.
      let y : StaysBy m b.is_quiet (stmt_of s) = stays_by m b.is_quiet (stmt_of s) g in
      decided_as (headed-item xs n s ss lt h) (kept-item m xs n s lt h (unmarked (stmt_of s) y.acts)) (decided_stays None false f q
      (λ _. not_idle (stmt_of s) y.acts)
      (λ x z. none_some z)
      (λ z. no z)
      (λ _ z k e. let a = settles ss f z (behind (stmt_of s) k) e.1 in loud_before (stmt_of s) (kept m (drop (n + 1) xs)) y.inside (unwanted_normal k m (stmt_of s) (kept m (drop (n + 1) xs)) e a.0) (f.hears (omega arith) z _ e.1))
      (λ z _ k e u. let a = settles ss f z (behind (stmt_of s) k) e.1 in (λ j ss' r. none_before q y (unwanted_normal k m (stmt_of s) (kept m (drop (n + 1) xs)) e a.0) (f.hears (omega arith) z _ e.1) a.0 r, a.1)));
}

-- none behind it fades
pub step_stays : {m : ListKind} {n : ℕ} {xs : Declared} {b : Behind} (s : declared_stmt.Stmt) → n < length xs → s ≡ get_or xs n s → is_control_flow_break (stmt_of s) ≡ false → goes_by m b.is_quiet (stmt_of s) ≡ None → b.is_last && wanted m ≡ false → b.fading ≡ None → Step m n xs xs b (record { is_last = false; fading = None; is_quiet = false; has_changed = b.has_changed; is_bared = b.is_bared })
step_stays {m = m} {n = n} {xs = xs} {b = b} s lt h q g w e =
    step_kept s lt h q g (λ ss f z k n. (λ none. sym (ap (λ l. l && wanted m) (f.last ∙ ap is_nothing none)) ∙ w, f.settled z e k n (is_surely_unit (stmt_of s))))

-- ---- the last one of a wanted list, which stays

-- nothing is kept behind it, so there is nothing
pub none-after : (m : ListKind) (ys : Declared) → wanted m ≡ true → true ≡ is_nothing (kept m ys) → stmts_of ys ≡ no_stmts
none-after m ys w e = nothing-behind (stmts_of ys) (e ∙ ap (λ z. is_nothing (closed_up z (stmts_of ys))) w)

pub last-kept : (m : ListKind) (s : Stmt) (ys : Declared) → wanted m ≡ true → stmts_of ys ≡ no_stmts → closed_up (wanted m) (stmt s (stmts_of ys)) ≡ stmt s no_stmts
last-kept m s ys w q = ap (λ z. closed_up (wanted m) (stmt s z)) q ∙ ap (λ z. closed_up z (stmt s no_stmts)) w ∙ closed-alone s

quiet-alone : (s : Stmt) → is_quiet s ≡ true → AreQuiet (stmt s no_stmts)
quiet-alone s z = all_of (is_internally_pure s) (stmt_exports_nothing s) z (λ p q. (and_true (is_internally_pure s) ∙ p, and_true (stmt_exports_nothing s) ∙ q))

-- so it is pure and surely unit
unit_pure : (m : ListKind) (s : Stmt) → is_pure_unit m s ≡ true → is_pure_in m s && is_surely_unit s ≡ true
unit_pure m s h = all_of (holds_nothing s && is_pure_in m s) (is_surely_unit s) h (λ p u. both (second (holds_nothing s) p) u)

unit-fades : (m : ListKind) (s : Stmt) (x : Fading) → unit_fades m s ≡ Some x → fades_as x m s ≡ true
unit-fades m s x h = only x (is_pure_unit m s) refl h where
  only : (x : Fading) (b : Bool) → is_pure_unit m s ≡ b → (if b then Some fading_kind.LastUnit else None) ≡ Some x → fades_as x m s ≡ true
  only fading_kind.LastUnit true e h = unit_pure m s e
  only fading_kind.LastReturn true e h = absurd cc
  only x false e h = none_some h

-- nothing before it asks whether it is quiet
pub step_last : {m : ListKind} {n : ℕ} {xs : Declared} {b : Behind} (s : declared_stmt.Stmt) (quiet : Bool) → (quiet ≡ true → is_quiet (stmt_of s) ≡ true) → (0 < n → quiet ≡ is_quiet (stmt_of s)) → n < length xs → s ≡ get_or xs n s → is_control_flow_break (stmt_of s) ≡ false → b.is_last ≡ true → wanted m ≡ true → Step m n xs xs b (record { is_last = false; fading = unit_fades m (stmt_of s); is_quiet = quiet; has_changed = b.has_changed; is_bared = b.is_bared })
step_last {m = m} {n = n} {xs = xs} {b = b} s quiet a o lt h q l w = record {
  front = refl;
  long = lt;
  same = λ z. (z, refl);
  to = λ ss f.
      let rest = drop (n + 1) xs in
      let none : stmts_of rest ≡ no_stmts = none-after m rest w (sym l ∙ f.last) in
      let nothing : kept m rest ≡ no_stmts = ap (closed_up (wanted m)) none in
      let here : kept m (drop n xs) ≡ stmt (stmt_of s) (kept m rest) = ap (kept m) (item xs n s lt h) ∙ last-kept m (stmt_of s) rest w none ∙ sym (ap (stmt (stmt_of s)) nothing) in
      let alone : stmt (stmt_of s) (kept m rest) ≡ stmt (stmt_of s) no_stmts = ap (stmt (stmt_of s)) nothing in
      decided_as (headed-item xs n s ss lt h) here (decided_stays (unit_fades m (stmt_of s)) quiet f q
      (λ z. no (sym z ∙ l))
      (λ x z. (w, (stmt_of s, alone, unit-fades m (stmt_of s) x z)))
      (λ z. subst AreQuiet (sym alone) (quiet-alone (stmt_of s) (a z)))
      (λ y z k e. subst (λ v. HearsQuiet m v (stmt (stmt_of s) (kept m rest))) (sym (o y)) (quiet_last (stmt_of s) (kept m rest)))
      (λ z e k v u. subst (AreSwept m u) (sym alone) (λ j ss' r. none_last q w e v.0 r, tt)));
}

loud-acts : (s : Stmt) → is_quiet s ≡ false → is_noop s ≡ false
loud-acts Noop h = no (sym h)
loud-acts _ h = refl

loud : (m : ListKind) (s : Stmt) → fades_aloud m s ≡ true → (fades_as fading_kind.LastUnit m s ≡ true) × (is_noop s ≡ false)
loud m s h = all_of (is_pure_unit m s) (not (is_quiet s)) h (λ p q. (unit_pure m s p, loud-acts s (not-true-is (is_quiet s) q))) where
  not-true-is : (b : Bool) → not b ≡ true → b ≡ false
  not-true-is true h = no h
  not-true-is false h = refl

pub loud_acts : (m : ListKind) (s : Stmt) → fades_aloud m s ≡ true → is_noop s ≡ false
loud_acts m s h = (loud m s h).1

pub step_quiets : {m : ListKind} {n : ℕ} {xs new : Declared} {b : Behind} (s : declared_stmt.Stmt) → n < length xs → s ≡ get_or xs n s → MarkedAt n xs new → b.is_last ≡ true → wanted m ≡ true → fades_aloud m (stmt_of s) ≡ true → Step m n xs new b (record { is_last = false; fading = Some fading_kind.LastUnit; is_quiet = true; has_changed = true; is_bared = false })
step_quiets {m = m} {n = n} {xs = xs} {new = new} {b = b} s lt h p l w q =
    let d = noop_at p.position in
    let after : Behind = record { is_last = false; fading = Some fading_kind.LastUnit; is_quiet = true; has_changed = true; is_bared = false } in
    subst (λ z. Step m n xs z b after) (sym p.put) (record {
      front = take-set xs n d;
      long = omega (arith, length-set xs n d);
      same = λ e. no (sym e);
      to = λ ss f.
          let rest = drop (n + 1) xs in
          let none : stmts_of rest ≡ no_stmts = none-after m rest w (sym l ∙ f.last) in
          let nothing : kept m rest ≡ no_stmts = ap (closed_up (wanted m)) none in
          let marked : kept m (drop n (set xs n d)) ≡ stmt Noop no_stmts =
          ap (kept m) (drop-set xs n d lt)
          ∙ ap (λ z. closed_up (wanted m) (stmt z (stmts_of rest))) (stmt_of-Noop p.position)
          ∙ last-kept m Noop rest w none in
          decided_as (headed-item xs n s ss lt h) marked (decided_quiets (subst (λ z. DecidedTo m (n + 1) b ss z) nothing f) w (loud m (stmt_of s) q).0 (loud m (stmt_of s) q).1);
    })

-- ---- one that leaves the list

nothing-wanted : (m : ListKind) (s : Stmt) → returns_nothing m s ≡ true → wanted m ≡ true
nothing-wanted Whole s h = refl
nothing-wanted (Inside b) s h = no h

return-fades : (m : ListKind) (s : Stmt) (x : Fading) → return_fades m s ≡ Some x → FadesAlone m x (stmt s no_stmts)
return-fades m s x h = only x (returns_nothing m s) refl h where
  only : (x : Fading) (b : Bool) → returns_nothing m s ≡ b → (if b then Some fading_kind.LastReturn else None) ≡ Some x → FadesAlone m x (stmt s no_stmts)
  only fading_kind.LastReturn true e h = (nothing-wanted m s e, (s, refl, e))
  only fading_kind.LastUnit true e h = absurd cc
  only x false e h = none_some h

cut-of-front : (l : Bool) (xs : Declared) (n : ℕ) → take n (cut l n xs) ≡ take n xs
cut-of-front true xs n = refl
cut-of-front false xs n = cut-front xs n

cut-of-long : (l : Bool) (xs : Declared) (n : ℕ) → n < length xs → n < length (cut l n xs)
cut-of-long true xs n lt = lt
cut-of-long false xs n lt = cut-long xs n lt

leaves-same : (c l : Bool) (xs : Declared) (n : ℕ) → c || not l ≡ false → (c ≡ false) × (cut l n xs ≡ xs)
leaves-same true l xs n h = no (sym h)
leaves-same false true xs n h = (refl, refl)
leaves-same false false xs n h = no (sym h)

leaves-kept : (m : ListKind) (l : Bool) (xs : Declared) (n : ℕ) (s : declared_stmt.Stmt) → n < length xs → s ≡ get_or xs n s → is_noop (stmt_of s) ≡ false → l ≡ is_nothing (kept m (drop (n + 1) xs)) → kept m (drop n (cut l n xs)) ≡ stmt (stmt_of s) no_stmts
leaves-kept m true xs n s lt h e q = kept-item m xs n s lt h e ∙ ap (stmt (stmt_of s)) (nothing-is _ q)
leaves-kept m false xs n s lt h e q = ap (kept m) (cut-item xs n s lt h) ∙ closed-stays (wanted m) (stmt_of s) no_stmts e

pub step_leaves : {m : ListKind} {n : ℕ} {xs new : Declared} {b : Behind} (s : declared_stmt.Stmt) → n < length xs → s ≡ get_or xs n s → new ≡ cut b.is_last n xs → is_control_flow_break (stmt_of s) ≡ true → returns_value m (stmt_of s) ≡ false → Step m n xs new b (record { is_last = false; fading = return_fades m (stmt_of s); is_quiet = false; has_changed = b.has_changed || not b.is_last; is_bared = false })
step_leaves {m = m} {n = n} {xs = xs} {new = new} {b = b} s lt h e q r =
    let after : Behind = record { is_last = false; fading = return_fades m (stmt_of s); is_quiet = false; has_changed = b.has_changed || not b.is_last; is_bared = false } in
    subst (λ z. Step m n xs z b after) (sym e) (record {
      front = cut-of-front b.is_last xs n;
      long = cut-of-long b.is_last xs n lt;
      same = λ z. leaves-same b.has_changed b.is_last xs n z;
      to = λ ss f.
          decided_as (headed-item xs n s ss lt h) (leaves-kept m b.is_last xs n s lt h (leaving-unmarked (stmt_of s) q) f.last)
          (decided_leaves (return_fades m (stmt_of s)) f q r (λ x z. return-fades m (stmt_of s) x z) (loud_leaving (stmt_of s) no_stmts q) (λ e u. (λ k ss' y. none_leaving q r e y, tt)));
    })

-- ---- a last `return e`

bares-at : {n : ℕ} {b : Behind} {ss rest : Stmts} (m : ListKind) (s : Stmt) → returns_value m s ≡ true → DecidedTo m (n + 1) b ss rest → DecidedTo m n (record { is_last = false; fading = None; is_quiet = false; has_changed = true; is_bared = true }) (stmt s ss) (stmt (bared s) no_stmts)
bares-at Whole (Return false exported (an_expr e)) h f = decided_bares f
bares-at Whole (Return false exported no_expr) h f = no h
bares-at Whole (Return true exported e) h f = no h
bares-at Whole _ h f = no h
bares-at (Inside w) s h f = no h

value-wanted : (m : ListKind) (s : Stmt) → returns_value m s ≡ true → wanted m ≡ true
value-wanted Whole s h = refl
value-wanted (Inside b) s h = no h

none-cut : (m : ListKind) (l : Bool) (xs : Declared) (n : ℕ) → n < length xs → wanted m ≡ true → l ≡ is_nothing (kept m (drop (n + 1) xs)) → stmts_of (drop (n + 1) (cut l n xs)) ≡ no_stmts
none-cut m true xs n lt w q = none-after m (drop (n + 1) xs) w q
none-cut m false xs n lt w q = ap stmts_of (drop_all (n + 1) (take (n + 1) xs) (omega (arith, length-take-le (n + 1) xs (omega arith))))

pub step_bares : {m : ListKind} {n : ℕ} {xs new : Declared} {b : Behind} (s x : declared_stmt.Stmt) → n < length xs → s ≡ get_or xs n s → new ≡ set (cut b.is_last n xs) n x → stmt_of x ≡ bared (stmt_of s) → returns_value m (stmt_of s) ≡ true → Step m n xs new b (record { is_last = false; fading = None; is_quiet = false; has_changed = true; is_bared = true })
step_bares {m = m} {n = n} {xs = xs} {new = new} {b = b} s x lt h e q r =
    let after : Behind = record { is_last = false; fading = None; is_quiet = false; has_changed = true; is_bared = true } in
    let l = cut b.is_last n xs in
    let long = cut-of-long b.is_last xs n lt in
    subst (λ z. Step m n xs z b after) (sym e) (record {
      front = take-set l n x ∙ cut-of-front b.is_last xs n;
      long = omega (arith, length-set l n x, long);
      same = λ z. no (sym z);
      to = λ ss f.
          let w = value-wanted m (stmt_of s) r in
          let here : kept m (drop n (set l n x)) ≡ stmt (bared (stmt_of s)) no_stmts =
          ap (kept m) (drop-set l n x long) ∙ last-kept m (stmt_of x) (drop (n + 1) l) w (none-cut m b.is_last xs n lt w f.last) ∙ ap (λ z. stmt z no_stmts) q in
          decided_as (headed-item xs n s ss lt h) here (bares-at m (stmt_of s) r f);
    })

-- ---- the one behind fades

pub step_fades : {m : ListKind} {n : ℕ} {xs new : Declared} {b : Behind} (x : Fading) (s : declared_stmt.Stmt) → n < length xs → s ≡ get_or xs n s → new ≡ take (n + 1) xs → b.fading ≡ Some x → is_surely_unit (stmt_of s) ≡ true → is_pure_by_itself (stmt_of s) ≡ false → Step m n xs new b (record { is_last = false; fading = None; is_quiet = false; has_changed = true; is_bared = false })
step_fades {m = m} {n = n} {xs = xs} {new = new} {b = b} x s lt h e z u p =
    let after : Behind = record { is_last = false; fading = None; is_quiet = false; has_changed = true; is_bared = false } in
    subst (λ y. Step m n xs y b after) (sym e) (record {
      front = cut-front xs n;
      long = cut-long xs n lt;
      same = λ y. no (sym y);
      to = λ ss f. decided_as (headed-item xs n s ss lt h) (ap (kept m) (cut-item xs n s lt h) ∙ closed-stays (wanted m) (stmt_of s) no_stmts (unmarked (stmt_of s) p)) (decided_fades x f z u);
    })

some-items : (ys : Declared) (t : Stmt) → closed_up true (stmts_of ys) ≡ stmt t no_stmts → 0 < length ys
some-items [] t e = absurd cc
some-items (y ∷ ys) t e = omega arith

some-behind : (m : ListKind) (xs : Declared) (n : ℕ) (t : Stmt) → wanted m ≡ true → kept m (drop n xs) ≡ stmt t no_stmts → 0 < length (drop n xs)
some-behind m xs n t w e = some-items (drop n xs) t (sym (ap (λ v. closed_up v (stmts_of (drop n xs))) w) ∙ e)

-- where one statement alone is kept from a place on, it is the last one, and a `Noop` may stand in its place
pub last-kept-is : (m : ListKind) (xs : Declared) (n : ℕ) (t : Stmt) (d : declared_stmt.Stmt) → wanted m ≡ true → kept m (drop n xs) ≡ stmt t no_stmts → stmt_of (get_or xs (length xs - 1) d) ≡ t
last-kept-is m xs n t d w e =
    let only : closed_up true (stmts_of (drop n xs)) ≡ stmt t no_stmts = sym (ap (λ v. closed_up v (stmts_of (drop n xs))) w) ∙ e in
    let some = some-items (drop n xs) t only in
    let k = length (drop n xs) - 1 in
    let count : suc k ≡ length (drop n xs) = omega arith in
    let there : n + k ≡ length xs - 1 = omega (arith, length-drop n xs) in
    sym (ap stmt_of (get_or-drop n xs k d ∙ ap (λ v. get_or xs v d) there)) ∙ tail-is (drop n xs) k t d count only

noop-is : (s : Stmt) → is_noop s ≡ true → s ≡ Noop
noop-is Noop h = refl
noop-is _ h = no h

-- a statement that may be something else than unit stays before a last `Noop`
pub step_before_noop : {m : ListKind} {n : ℕ} {xs : Declared} {b : Behind} (x : Fading) (s t : declared_stmt.Stmt) → n < length xs → s ≡ get_or xs n s → t ≡ get_or xs (length xs - 1) t → b.fading ≡ Some x → is_noop (stmt_of t) ≡ true → is_surely_unit (stmt_of s) ≡ false → is_control_flow_break (stmt_of s) ≡ false → goes_by m b.is_quiet (stmt_of s) ≡ None → Step m n xs xs b (record { is_last = false; fading = None; is_quiet = false; has_changed = b.has_changed; is_bared = b.is_bared })
step_before_noop {m = m} {n = n} {xs = xs} {b = b} x s t lt h i z y u q g =
    step_kept s lt h q g (λ ss f _ _ _.
    let w = (f.fading x z).0 in
    let t' = (f.fading x z).1.0 in
    let only : kept m (drop (n + 1) xs) ≡ stmt t' no_stmts = (f.fading x z).1.1 in
    let is_t : t' ≡ stmt_of t = sym (last-kept-is m xs (n + 1) t' t w only) ∙ ap stmt_of (sym i) in
    let noop : kept m (drop (n + 1) xs) ≡ stmt Noop no_stmts = only ∙ ap (λ v. stmt v no_stmts) (is_t ∙ noop-is (stmt_of t) y) in
    (λ none. no (ap is_nothing (sym only ∙ none)), subst (AreSwept m (is_surely_unit (stmt_of s))) (sym noop) (subst (λ v. AreSwept m v (stmt Noop no_stmts)) (sym u) (noop_settled w))))

pub noop-kept : (m : ListKind) (xs : Declared) (n : ℕ) (t : Stmt) (p : Position) → wanted m ≡ true → kept m (drop n xs) ≡ stmt t no_stmts → kept m (drop n (set xs (length xs - 1) (noop_at p))) ≡ stmt Noop no_stmts
noop-kept m xs n t p w e =
    let x = noop_at p in
    let ys = drop n xs in
    let only : closed_up true (stmts_of ys) ≡ stmt t no_stmts = sym (ap (λ v. closed_up v (stmts_of ys)) w) ∙ e in
    let some = some-items ys t only in
    let k = length ys - 1 in
    let count : suc k ≡ length ys = omega arith in
    let there : length xs - 1 ≡ n + k = omega (arith, length-drop n xs) in
    let place : drop n (set xs (length xs - 1) x) ≡ set ys k x = ap (λ v. drop n (set xs v x)) there ∙ drop-set-add n xs k x in
    ap (kept m) place ∙ ap (λ v. closed_up v (stmts_of (set ys k x))) w ∙ tail-put ys k t x count only ∙ ap (λ v. stmt v no_stmts) (stmt_of-Noop p)

pub step_noop : {m : ListKind} {n : ℕ} {xs new : Declared} {b : Behind} (x : Fading) (s t : declared_stmt.Stmt) (p : Position) → n < length xs → s ≡ get_or xs n s → t ≡ get_or xs (length xs - 1) t → new ≡ set xs (length xs - 1) (noop_at p) → b.fading ≡ Some x → is_noop (stmt_of t) ≡ false → is_control_flow_break (stmt_of s) ≡ false → is_pure_by_itself (stmt_of s) ≡ false → Step m n xs new b (record { is_last = false; fading = None; is_quiet = false; has_changed = true; is_bared = false })
step_noop {m = m} {n = n} {xs = xs} {new = new} {b = b} x s t p lt h i e z y q u =
    let after : Behind = record { is_last = false; fading = None; is_quiet = false; has_changed = true; is_bared = false } in
    let j = length xs - 1 in
    subst (λ v. Step m n xs v b after) (sym e) (record {
      front = take-set-le n xs j (noop_at p) (omega arith);
      long = omega (arith, length-set xs j (noop_at p));
      same = λ v. no (sym v);
      to = λ ss f.
          let w = (f.fading x z).0 in
          let t' = (f.fading x z).1.0 in
          let only : kept m (drop (n + 1) xs) ≡ stmt t' no_stmts = (f.fading x z).1.1 in
          let is_t : t' ≡ stmt_of t = sym (last-kept-is m xs (n + 1) t' t w only) ∙ ap stmt_of (sym i) in
          let some = some-behind m xs (n + 1) t' w only in
          let place : drop n (set xs j (noop_at p)) ≡ s ∷ drop (n + 1) (set xs j (noop_at p)) = item (set xs j (noop_at p)) n s (omega (arith, length-set xs j (noop_at p))) (h ∙ sym (get_or-set_other xs j n (noop_at p) s (omega (arith, length-drop (n + 1) xs)))) in
          let here : kept m (drop n (set xs j (noop_at p))) ≡ stmt (stmt_of s) (stmt Noop no_stmts) = ap (kept m) place ∙ closed-stays (wanted m) (stmt_of s) (stmts_of (drop (n + 1) (set xs j (noop_at p)))) (unmarked (stmt_of s) u) ∙ ap (stmt (stmt_of s)) (noop-kept m xs (n + 1) t' p w only) in
          decided_as (headed-item xs n s ss lt h) here (decided_noop x f z (only ∙ ap (λ v. stmt v no_stmts) is_t) y q (not_idle (stmt_of s) u));
    })

-- the item at a place is there still when those behind it went
pub cut-there : (l : Bool) (xs new : Declared) (n : ℕ) (s : declared_stmt.Stmt) → new ≡ cut l n xs → s ≡ get_or new n s → s ≡ get_or xs n s
cut-there true xs new n s e h = h ∙ ap (λ z. get_or z n s) e
cut-there false xs new n s e h = h ∙ ap (λ z. get_or z n s) e ∙ get_or-take (n + 1) xs n s (omega arith)

-- ---- the expression of a `return`

pub bared-reads : (e : declared_expr.Expr) (k : ASTFlags) (p : Position) → stmt_of (stmt_kind.Expr e) ≡ bared (stmt_of (stmt_kind.Return (Some e) k p))
bared-reads e k p = stmt_of-Expr e ∙ sym (ap bared (stmt_of-Return (Some e) k p))

pub no-value : (k : ASTFlags) (p : Position) → whole_returns_value (stmt_of (stmt_kind.Return None k p)) ≡ true → ⊥
no-value k p h = nothing (breaks k) (sym (ap whole_returns_value (stmt_of-Return None k p)) ∙ h) where
  nothing : (b : Bool) → whole_returns_value (Return b (is_exported k) no_expr) ≡ true → ⊥
  nothing true h = no h
  nothing false h = no h

pub whole-value : (m : ListKind) (s : Stmt) → returns_value m s ≡ true → whole_returns_value s ≡ true
whole-value Whole s h = h
whole-value (Inside b) s h = no h
