-- At a statement that a sweep keeps no rule of lists applies but that by which a block gives way: what excludes each.
use Rattle.std.proofs.Common.{◌≡◌, Bool, true, false, Some, None, refl, sym, ap, ◌∙◌, subst}
use Rattle.std.specs.Prelude.{◌&&◌, not, if◌then◌else◌}
use Rattle.theory_meaning.specs.Queries.{is_pure, is_internally_pure, is_control_flow_break}
use Rattle.theory_meaning.specs.Tree.{Stmt, Noop, BreakLoop, Return, Stmts, no_stmts, stmt}
use Rattle.theory_rewriting.specs.Context.{Context, ListContext, ListKind, Whole, Inside, wanted, wanted_before}
use Rattle.theory_rewriting.specs.Exports.{stmt_exports_nothing}
use Rattle.theory_rewriting.specs.Normal.{IsNormal, AreNormalEach, gives_way, AreSwept}
use Rattle.theory_rewriting.specs.Rewriting.{StmtTo}
use Rattle.theory_rewriting.specs.Rules as rule
use Rattle.theory_rewriting.specs.Rules.{is_pure_in, ListRule}
use Rattle.opt_lists.specs.declared.behind.Fading.TheVariants as fading_kind
use Rattle.opt_lists.specs.declared.behind.Going.TheVariants as going_kind
use Rattle.opt_lists.specs.Sweep.{is_lone, is_pure_by_itself, is_inside_by_itself, is_quiet, HearsQuiet, goes_by, goes_inside, returns_value, return_fades, unit_fades}
use Rattle.opt_lists.proofs.Emptied.{by_itself, inside_by_itself, unit_by_itself}
use Rattle.opt_lists.proofs.Sweeping.{no, none_some, all_of, both, unit_stays}

-- ---- one whose value is not wanted, and which does not leave the list

-- by no rule it goes
pub record StaysBy (m : ListKind) (quiet : Bool) (s : Stmt) : Type 0 where
  pub acts : is_pure_by_itself s ≡ false
  pub more : is_lone s ≡ false
  pub inside : goes_inside m quiet s ≡ false

pub stays_by : (m : ListKind) (quiet : Bool) (s : Stmt) → goes_by m quiet s ≡ None → StaysBy m quiet s
stays_by m quiet s h = let e = none (is_pure_by_itself s) (is_lone s) (goes_inside m quiet s) h in record { acts = e.0; more = e.1.0; inside = e.1.1 } where
  none : (a b c : Bool) → (if a then Some going_kind.Pure else if b then Some going_kind.Lone else if c then Some going_kind.PureInside else None) ≡ None → (a ≡ false) × ((b ≡ false) × (c ≡ false))
  none true b c h = none_some (sym h)
  none false true c h = none_some (sym h)
  none false false true h = none_some (sym h)
  none false false false h = (refl, (refl, refl))

-- it is in normal form, in a place where its value is not wanted
abbrev IsUnwantedNormal : Stmt → Type 0
IsUnwantedNormal s = (k : Context) × IsNormal (StmtTo k false) s

not_wanted : (w : Bool) (rest : Stmts) → (rest ≡ no_stmts → w ≡ false) → wanted_before w rest ≡ false
not_wanted w no_stmts h = h refl
not_wanted w (stmt s ss) h = refl

pub unwanted_normal : (k : ListContext) (m : ListKind) (s : Stmt) (rest : Stmts) → AreNormalEach k m (stmt s rest) → (rest ≡ no_stmts → wanted m ≡ false) → IsUnwantedNormal s
unwanted_normal k m s rest n w = (k.context, subst (λ b. IsNormal (StmtTo k.context b) s) (not_wanted (wanted m) rest w) n.0)

-- nothing follows, so all that follow are quiet
stays_at_end : {A : Type 0} {quiet : Bool} (m : ListKind) (s : Stmt) → IsUnwantedNormal s → is_pure_in m s ≡ true → wanted m ≡ false → goes_inside m quiet s ≡ false → HearsQuiet m quiet no_stmts → A
stays_at_end Whole s n h w i z = no (sym w)
stays_at_end (Inside b) s n h w i z = no (sym i ∙ both (z b refl (refl, refl)) (inside_by_itself s n.1 h))

pub none_before : {k : Context} {m : ListKind} {u quiet : Bool} {s : Stmt} {rest ss' : Stmts} → is_control_flow_break s ≡ false → StaysBy m quiet s → IsUnwantedNormal s → HearsQuiet m quiet rest → (rest ≡ no_stmts → wanted m ≡ false) → ListRule k m u (stmt s rest) ss' → gives_way s ≡ true
none_before q y n z w (rule.block_gives_way h) = ap not h
none_before q y n z w (rule.after_leave h) = no (sym q ∙ h)
none_before q y n z w (rule.pure_goes {s = s} v h) = no (sym y.acts ∙ by_itself s n.1 h)
none_before q y n z w (rule.lone_goes v) = no (sym y.more)
none_before q y n z w (rule.pure_inside_goes {b = b} {s = s} v h a e) = no (sym y.inside ∙ both (z b refl (a, e)) (inside_by_itself s n.1 h))
none_before q y n z w rule.last_return = no (sym q)
none_before q y n z w rule.last_return_goes = no (sym q)
none_before q y n z w rule.last_return_noop = no (sym q)
none_before q y n z w (rule.last_unit_goes {m = m} {s = s} h v) = stays_at_end m s n h (w refl) y.inside z
none_before q y n z w (rule.last_unit_noop {m = m} {s = s} h v _) = stays_at_end m s n h (w refl) y.inside z

-- it is not quiet itself, or one behind it is not
pub loud_before : {m : ListKind} {quiet : Bool} (s : Stmt) (rest : Stmts) → goes_inside m quiet s ≡ false → IsUnwantedNormal s → HearsQuiet m quiet rest → HearsQuiet m false (stmt s rest)
loud_before {quiet = quiet} s rest i n z w e p =
    let inside : quiet && is_inside_by_itself s ≡ false = subst (λ n. goes_inside n quiet s ≡ false) e i in
    all_of (is_internally_pure s) _ p.0 (λ h a. all_of (stmt_exports_nothing s) _ p.1 (λ x y. no (sym inside ∙ both (z w e (a, y)) (inside_by_itself s n.1 h))))

-- ---- the last one of a wanted list, which does not leave it

fades_not : (b : Bool) → (if b then Some fading_kind.LastUnit else None) ≡ None → b ≡ false
fades_not true h = none_some (sym h)
fades_not false h = refl

pub none_last : {k j : Context} {m : ListKind} {u b : Bool} {s : Stmt} {ss' : Stmts} → is_control_flow_break s ≡ false → wanted m ≡ true → unit_fades m s ≡ None → IsNormal (StmtTo j b) s → ListRule k m u (stmt s no_stmts) ss' → gives_way s ≡ true
none_last q w f n (rule.block_gives_way h) = ap not h
none_last q w f n (rule.pure_goes v h) = no (sym v ∙ w)
none_last q w f n (rule.lone_goes v) = no (sym v ∙ w)
none_last q w f n (rule.pure_inside_goes v h a e) = no (sym v ∙ w)
none_last q w f n rule.last_return = no (sym q)
none_last q w f n rule.last_return_goes = no (sym q)
none_last q w f n rule.last_return_noop = no (sym q)
none_last q w f n (rule.last_unit_goes {m = m} {s = s} h v) = no (sym (fades_not _ f) ∙ unit_by_itself m s n h v)
none_last q w f n (rule.last_unit_noop {m = m} {s = s} h v _) = no (sym (fades_not _ f) ∙ unit_by_itself m s n h v)

pub quiet_last : {m : ListKind} (s : Stmt) (rest : Stmts) → HearsQuiet m (is_quiet s) (stmt s rest)
quiet_last s rest w e p = all_of (is_internally_pure s) _ p.0 (λ h a. all_of (stmt_exports_nothing s) _ p.1 (λ x y. both h x))

-- a last `Noop` behind what may be something else than unit
none_noop : {k : Context} {m : ListKind} {ss' : Stmts} → wanted m ≡ true → ListRule k m false (stmt Noop no_stmts) ss' → gives_way Noop ≡ true
none_noop w (rule.pure_goes v h) = no (sym v ∙ w)
none_noop w (rule.pure_inside_goes v h a e) = no (sym v ∙ w)
none_noop w (rule.last_unit_noop h v n) = no (sym n)

pub noop_settled : {m : ListKind} → wanted m ≡ true → AreSwept m false (stmt Noop no_stmts)
noop_settled w = (λ k ss' r. none_noop w r, tt)

-- ---- one that leaves the list, as the last one

leaving_impure_inside : {A : Type 0} (s : Stmt) → is_control_flow_break s ≡ true → is_internally_pure s ≡ true → A
leaving_impure_inside (Return throws exported e) h p = no p
leaving_impure_inside (BreakLoop breaks exported e) h p = no p
leaving_impure_inside _ h p = no h

leaving_impure : {A : Type 0} (s : Stmt) → is_control_flow_break s ≡ true → is_pure s ≡ true → A
leaving_impure (Return throws exported e) h p = no p
leaving_impure (BreakLoop breaks exported e) h p = no p
leaving_impure _ h p = no h

pub none_leaving : {k : Context} {m : ListKind} {u : Bool} {s : Stmt} {ss' : Stmts} → is_control_flow_break s ≡ true → returns_value m s ≡ false → return_fades m s ≡ None → ListRule k m u (stmt s no_stmts) ss' → gives_way s ≡ true
none_leaving q r f (rule.block_gives_way h) = ap not h
none_leaving q r f (rule.pure_goes v h) = leaving_impure _ q h
none_leaving q r f (rule.lone_goes v) = no q
none_leaving q r f (rule.pure_inside_goes v h a e) = leaving_impure_inside _ q h
none_leaving q r f rule.last_return = no (sym r)
none_leaving q r f rule.last_return_goes = none_some (sym f)
none_leaving q r f rule.last_return_noop = none_some (sym f)
none_leaving q r f (rule.last_unit_goes {s = s} h v) = no (sym (unit_stays s v) ∙ q)
none_leaving q r f (rule.last_unit_noop {s = s} h v n) = no (sym (unit_stays s v) ∙ q)

pub loud_leaving : {m : ListKind} (s : Stmt) (rest : Stmts) → is_control_flow_break s ≡ true → HearsQuiet m false (stmt s rest)
loud_leaving s rest q w e p = all_of (is_internally_pure s) _ p.0 (λ h a. leaving_impure_inside s q h)
