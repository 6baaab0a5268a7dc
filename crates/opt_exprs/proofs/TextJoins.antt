-- Parts of an interpolated text that go or are joined, in the list's own memory.
use Rattle.std.proofs.Common.{◌≡◌, ◌<◌, ◌≤◌, ℕ, ◌+◌, ◌-◌, suc, inl, inr, Bool, true, false, not, nat_eq, [], ◌∷◌, ◌++◌, length, get_or, set, take, drop, refl, sym, ap, ◌∙◌, subst, arith}
use Rattle.std.proofs.lemmas.Bool.Decides.{eqb_tells}
use Rattle.std.proofs.lemmas.List.{append_assoc, append-nil, drop_all, drop-drop, drop-set-lt, take_all, take-set-le, length-set, length-take-le, get_or-set_same, get_or_read, set-get_or}
use Rattle.ast_types.specs.declared.expr.Expr as declared_expr
use Rattle.rhai_base.specs.Value.{Text, Value, UnitV, TextV, text_of, holds_float}
use Rattle.theory_meaning.specs.Tree.{Expr, DynamicConstant, StringConstant, UnitConstant, InterpolatedString, Exprs, expr}
use Rattle.ast_types.specs.Reading.{expr_of, exprs_of}
use Rattle.theory_rewriting.specs.Operands.{TextTo, in_other_parts, texts_join, empty_goes}
use Rattle.theory_rewriting.specs.Rules as rule
use Rattle.theory_rewriting.specs.Steps.{Place, Anywhere, AsBase, AsGuard, MayBecome, KeepsExprParts}
use Rattle.opt_base.specs.Passes.{InTurn, no_change, one_more}
use Rattle.opt_base.proofs.Listed.{Listed, answers, reduced}
use Rattle.opt_base.proofs.Passing.{Changes, turn_then, turns_pass}
use Rattle.opt_exprs.specs.Parts.{Declared, is_text, written, is_empty_text, is_empty_value, is_empty_part, first_goes, first_joins, any_changes, AreTexts, Joins, PutText, JoinedAt, Nowhere, PartsChange, NodeChange}
use Rattle.opt_exprs.proofs.Lists.{or_false, item, turn_as, went, by_length}

-- ---- lists

drop-on : (n m : ℕ) (xs : Declared) → n ≤ m → drop m xs ≡ drop (m - n) (drop n xs)
drop-on n m xs le = ap (λ z. drop z xs) (let e : m ≡ n + (m - n) = omega arith in e) ∙ sym (drop-drop (m - n) n xs)

in_front : (front xs ys : Declared) → TextTo (exprs_of xs) (exprs_of ys) → TextTo (exprs_of (front ++ xs)) (exprs_of (front ++ ys))
in_front [] xs ys h = h
in_front (z ∷ front) xs ys h = in_other_parts (in_front front xs ys h)

others : {e : Expr} {es es' : Exprs} → InTurn TextTo es es' → InTurn TextTo (expr e es) (expr e es')
others no_change = no_change
others (one_more p q) = one_more (others p) (in_other_parts q)

turn_in_front : (front xs ys : Declared) → InTurn TextTo (exprs_of xs) (exprs_of ys) → InTurn TextTo (exprs_of (front ++ xs)) (exprs_of (front ++ ys))
turn_in_front [] xs ys h = h
turn_in_front (z ∷ front) xs ys h = others (turn_in_front front xs ys h)

-- ---- a part that goes

empty-is : (t : Text) → is_empty_text t ≡ true → t ≡ []
empty-is [] h = refl
empty-is (c ∷ cs) h = absurd cc

value-empty : (v : Value) → is_empty_value v ≡ true → text_of v ≡ []
unfolding text_of
value-empty UnitV h = refl
value-empty (TextV t) h = empty-is t h
value-empty _ h = absurd cc

empty-floatless : (v : Value) → is_empty_value v ≡ true → holds_float v ≡ false
empty-floatless UnitV h = refl
empty-floatless (TextV t) h = refl
empty-floatless _ h = absurd cc

text-empty : (t : Text) → is_empty_text t ≡ true → text_of (TextV t) ≡ []
unfolding text_of
text-empty t h = empty-is t h

unit-empty : text_of UnitV ≡ []
unfolding text_of
unit-empty = refl

pub part_goes : (e : Expr) (es : Exprs) → is_empty_part e ≡ true → TextTo (expr e es) es
part_goes UnitConstant es h = empty_goes UnitV refl refl unit-empty
part_goes (StringConstant t) es h = empty_goes (TextV t) refl refl (text-empty t h)
part_goes (DynamicConstant v) es h = empty_goes v refl (empty-floatless v h) (value-empty v h)
part_goes _ es h = absurd cc

-- ---- those that stay move down

-- where nothing went, p holds nowhere
pub record Moving (p : Exprs → Bool) (all here : Declared) (at kept : ℕ) : Type 0 where
  pub to : InTurn TextTo (exprs_of all) (exprs_of (take kept here ++ drop at here))
  pub low : kept ≤ at
  pub len : length here ≡ length all
  pub inside : at ≤ length here
  pub same : kept ≡ at → here ≡ all
  pub settled : kept ≡ at → Nowhere p all at

pub moving_start : {p : Exprs → Bool} {all : Declared} → Moving p all all 0 0
moving_start = record { to = no_change; low = omega arith; len = refl; inside = omega arith; same = λ h. refl; settled = λ h i lt. absurd (omega arith) }

pub moving_skip : {p : Exprs → Bool} {all here : Declared} {at kept : ℕ} (x : declared_expr.Expr) → Moving p all here at kept → at < length here → x ≡ get_or here at x → is_empty_part (expr_of x) ≡ true → Moving p all here (at + 1) kept
moving_skip {all = all} {here = here} {at = at} {kept = kept} x q lt h g = record {
  to =
      let rest = drop (at + 1) here in
      let e : take kept here ++ drop at here ≡ take kept here ++ x ∷ rest = ap (λ (z : Declared). take kept here ++ z) (item here at x lt h) in
      one_more (turn_as refl (sym e) q.to) (in_front (take kept here) (x ∷ rest) rest (part_goes (expr_of x) (exprs_of rest) g));
  low = omega (arith, q.low);
  len = q.len;
  inside = omega arith;
  same = λ e. absurd (omega (arith, q.low));
  settled = λ e. absurd (omega (arith, q.low));
}

nowhere_more : (p : Exprs → Bool) {xs : Declared} {n : ℕ} → Nowhere p xs n → p (exprs_of (drop n xs)) ≡ false → Nowhere p xs (n + 1)
nowhere_more p {xs = xs} {n = n} h g = λ i lt. elim (eqb_tells i n) [ inl e ↦ ap (λ m. p (exprs_of (drop m xs))) e.1 ∙ g | inr e ↦ h i (omega (arith, e.1)) ]

-- what stands from one place up to another is the part that moves down
pub moving_more : {p : Exprs → Bool} {all here mid new : Declared} {at kept end : ℕ} (x : declared_expr.Expr) → Moving p all here at kept → JoinedAt p at end here mid → x ≡ get_or mid at x → take (kept + 1) new ≡ take kept mid ++ x ∷ [] → drop (at + 1) new ≡ drop (at + 1) mid → length new ≡ length mid → (kept ≡ at → new ≡ mid) → Moving p all new end (kept + 1)
moving_more {p = p} {all = all} {here = here} {mid = mid} {new = new} {at = at} {kept = kept} {end = end} x q j h front back long stay =
    let part = j.part in
    let above : at < end = j.above in
    let inside : end ≤ length here = j.inside in
    let low : kept ≤ at = q.low in
    let len : length mid ≡ length here = ap length j.put ∙ length-set here at part in
    let is : x ≡ part = h ∙ ap (λ (z : Declared). get_or z at x) j.put ∙ get_or-set_same here at part x (omega arith) in
    let before : take kept mid ≡ take kept here = ap (take kept) j.put ∙ take-set-le kept here at part low in
    let beyond : drop end new ≡ drop end here =
    drop-on (at + 1) end new (omega arith) ∙ ap (drop (end - (at + 1))) (back ∙ ap (drop (at + 1)) j.put ∙ drop-set-lt (at + 1) here at part (omega arith)) ∙ sym (drop-on (at + 1) end here (omega arith)) in
    let e : take (kept + 1) new ++ drop end new ≡ take kept here ++ part ∷ drop end here =
    ap (λ (z : Declared). z ++ drop end new) front ∙ ap (λ (z : Declared). (z ++ x ∷ []) ++ drop end new) before ∙ ap (λ y. (take kept here ++ y ∷ []) ++ drop end new) is ∙ ap (λ (z : Declared). (take kept here ++ part ∷ []) ++ z) beyond ∙ append_assoc (take kept here) (part ∷ []) (drop end here) in
    record {
      to = turn_as refl e (turn_then q.to (turn_in_front (take kept here) (drop at here) (part ∷ drop end here) j.joins));
      low = omega arith;
      len = long ∙ len ∙ q.len;
      inside = omega arith;
      same = λ z. let k : kept ≡ at = omega arith in let l : end ≡ at + 1 = omega arith in stay k ∙ j.same l ∙ q.same k;
      settled = λ z.
          let k : kept ≡ at = omega arith in
          let l : end ≡ at + 1 = omega arith in
          subst (Nowhere p all) (sym l) (nowhere_more p (q.settled k) (ap (λ (z : Declared). p (exprs_of (drop at z))) (sym (q.same k)) ∙ j.settled l));
    }

pub moving_end : {p : Exprs → Bool} {all here new : Declared} {at kept : ℕ} → Moving p all here at kept → at ≡ length all → new ≡ take kept here → PartsChange p all new
moving_end {p = p} {all = all} {here = here} {new = new} {at = at} {kept = kept} q h e =
    let low : kept ≤ at = q.low in
    let len : length here ≡ length all = q.len in
    let long : length new ≡ kept = ap length e ∙ length-take-le kept here (omega arith) in
    record {
      to = turn_as refl (e ∙ sym (append-nil (take kept here)) ∙ ap (λ (z : Declared). take kept here ++ z) (sym (drop_all at here (omega arith)))) q.to;
      short = omega arith;
      same = λ n. e ∙ take_all kept here (omega arith) ∙ q.same (omega arith);
      settled = λ n. subst (Nowhere p all) h (q.settled (omega arith));
    }

-- a part that is not empty stays
pub first_stays : (xs : Declared) (n : ℕ) (x : declared_expr.Expr) → n < length xs → x ≡ get_or xs n x → is_empty_part (expr_of x) ≡ false → first_goes (exprs_of (drop n xs)) ≡ false
first_stays xs n x lt h g = ap (λ (z : Declared). first_goes (exprs_of z)) (item xs n x lt h) ∙ g

-- ---- texts that are joined

text-is : (e : Expr) → is_text e ≡ true → e ≡ StringConstant (written e)
text-is (StringConstant t) h = refl
text-is _ h = absurd cc

pub texts_one : (xs : Declared) (at : ℕ) (x : declared_expr.Expr) → at < length xs → x ≡ get_or xs at x → is_text (expr_of x) ≡ true → AreTexts xs at (at + 1)
texts_one xs at x lt h g = λ i d le less.
    subst (λ n. is_text (expr_of (get_or xs n d)) ≡ true) (let e : at ≡ i = omega arith in e) (ap (λ y. is_text (expr_of y)) (sym (get_or_read xs at x lt h d)) ∙ g)

pub texts_more : (xs : Declared) (at end : ℕ) (x : declared_expr.Expr) → AreTexts xs at end → end < length xs → x ≡ get_or xs end x → is_text (expr_of x) ≡ true → AreTexts xs at (end + 1)
texts_more xs at end x q lt h g = λ i d le less.
    elim (eqb_tells i end) [
      | inl e ↦ subst (λ n. is_text (expr_of (get_or xs n d)) ≡ true) (sym e.1) (ap (λ y. is_text (expr_of y)) (sym (get_or_read xs end x lt h d)) ∙ g)
      | inr e ↦ q i d le (omega (arith, e.1))
    ]

pub record Running (xs : Declared) (at end : ℕ) : Type 0 where
  pub above : at < end
  pub inside : end ≤ length xs
  pub texts : AreTexts xs at end

-- those from a place up to i are this text so far
pub record Joined (xs : Declared) (at i : ℕ) (t : Text) : Type 0 where
  pub none : i ≡ at → t ≡ []
  pub some : at < i → Joins xs at i (StringConstant t)

pub joined_start : {xs : Declared} {at : ℕ} {t : Text} → t ≡ [] → Joined xs at at t
joined_start h = record { none = λ e. h; some = λ lt. absurd (omega arith) }

join-one : (xs : Declared) (at : ℕ) (x : declared_expr.Expr) → at < length xs → x ≡ get_or xs at x → Joins xs at (at + 1) (expr_of x)
join-one xs at x lt h = subst (λ (z : Declared). InTurn TextTo (exprs_of z) (expr (expr_of x) (exprs_of (drop (at + 1) xs)))) (sym (item xs at x lt h)) no_change

join-next : (xs : Declared) (at i : ℕ) (x : declared_expr.Expr) (s t : Text) → i < length xs → x ≡ get_or xs i x → expr_of x ≡ StringConstant t → Joins xs at i (StringConstant s) → Joins xs at (i + 1) (StringConstant (s ++ t))
join-next xs at i x s t lt h r q =
    let rest = exprs_of (drop (i + 1) xs) in
    let e : exprs_of (drop i xs) ≡ expr (StringConstant t) rest = ap exprs_of (item xs i x lt h) ∙ ap (λ e. expr e rest) r in
    one_more (subst (λ es. InTurn TextTo (exprs_of (drop at xs)) (expr (StringConstant s) es)) e q) texts_join

joined-more : (xs : Declared) (at i : ℕ) (s t : Text) (x : declared_expr.Expr) → Joined xs at i s → at ≤ i → i < length xs → x ≡ get_or xs i x → is_text (expr_of x) ≡ true → t ≡ s ++ written (expr_of x) → Joins xs at (i + 1) (StringConstant t)
joined-more xs at i s t x p le lt h g e =
    let r = text-is (expr_of x) g in
    elim (eqb_tells at i) [
      | inl q ↦
          let alone : t ≡ written (expr_of x) = e ∙ ap (λ (z : Text). z ++ written (expr_of x)) (p.none (sym q.1)) in
          subst (λ z. Joins xs at (i + 1) (StringConstant z)) (sym alone) (subst (λ n. Joins xs n (i + 1) (StringConstant (written (expr_of x)))) (sym q.1) (subst (Joins xs i (i + 1)) r (join-one xs i x lt h)))
      | inr q ↦ subst (λ z. Joins xs at (i + 1) (StringConstant z)) (sym e) (join-next xs at i x s (written (expr_of x)) lt h r (p.some (omega (arith, q.1))))
    ]

pub joined_more : {xs : Declared} {at i : ℕ} {s t : Text} (x : declared_expr.Expr) → Joined xs at i s → at ≤ i → i < length xs → x ≡ get_or xs i x → is_text (expr_of x) ≡ true → t ≡ s ++ written (expr_of x) → Joined xs at (i + 1) t
joined_more {xs = xs} {at = at} {i = i} {s = s} {t = t} x p le lt h g e = record { none = λ q. absurd (omega arith); some = λ q. joined-more xs at i s t x p le lt h g e }

-- ---- a text at the place of the first

pub joined_at : {p : Exprs → Bool} {xs ys : Declared} {at end : ℕ} {t : Text} → PutText at t xs ys → Joins xs at end (StringConstant t) → at + 1 < end → end ≤ length xs → JoinedAt p at end xs ys
joined_at {xs = xs} {at = at} {end = end} p q lt le = record {
  part = p.part;
  above = omega arith;
  inside = le;
  put = p.put;
  joins = subst (Joins xs at end) (sym p.reads) q;
  same = λ e. absurd (omega arith);
  settled = λ e. absurd (omega arith);
}

pub joined_long : {p : Exprs → Bool} {xs ys : Declared} {at end : ℕ} → JoinedAt p at end xs ys → at < length ys
joined_long {xs = xs} {at = at} p = omega (arith, ap length p.put ∙ length-set xs at p.part, p.above, p.inside)

-- a part alone
pub alone_at : {p : Exprs → Bool} {xs : Declared} {at end : ℕ} (x : declared_expr.Expr) → at < length xs → end ≡ at + 1 → x ≡ get_or xs at x → p (exprs_of (drop at xs)) ≡ false → JoinedAt p at end xs xs
alone_at {xs = xs} {at = at} {end = end} x lt e h g = record {
  part = x;
  above = omega arith;
  inside = omega arith;
  put = sym (ap (set xs at) h ∙ set-get_or xs at x);
  joins = subst (λ n. Joins xs at n (expr_of x)) (sym e) (join-one xs at x lt h);
  same = λ _. refl;
  settled = λ _. g;
}

-- ---- at the node

keeps_parts : {es es' : Exprs} {E : Expr → Type 0} {F : Exprs → Type 0} → Listed E F → ((t : Text) → E (StringConstant t)) → TextTo es es' → F es → F es'
keeps_parts l f (in_other_parts p) h = let z = l.split _ _ h in l.join _ _ z.0 (keeps_parts l f p z.1)
keeps_parts l f texts_join h = l.join _ _ (f _) (l.split _ _ (l.split _ _ h).1).1
keeps_parts l f (empty_goes v q e i) h = (l.split _ _ h).1

keeps_text : (es es' : Exprs) → TextTo es es' → KeepsExprParts (InterpolatedString es) (InterpolatedString es')
keeps_text es es' q = record { parts = λ r h. (h.0, (keeps_parts answers (λ t. refl) q h.1.0, keeps_parts (reduced r) (λ t. (tt, (tt, (tt, tt)))) q h.1.1)); clear = λ ks h. tt }

text_stays : (p : Place) (es es' : Exprs) → MayBecome p (InterpolatedString es) (InterpolatedString es')
text_stays Anywhere es es' = tt
text_stays AsBase es es' = refl
text_stays AsGuard es es' = refl

changes : Changes TextTo InterpolatedString
changes = record { rule = λ k es es' q. rule.text_changes q; stays = text_stays; keeps = keeps_text }

-- one pass after the other
pub record PartsPass (xs ys : Declared) : Type 0 where
  pub to : InTurn TextTo (exprs_of xs) (exprs_of ys)
  pub same : length ys ≡ length xs → ys ≡ xs
  pub settled : length ys ≡ length xs → any_changes (exprs_of xs) ≡ false

none_changes : (xs : Declared) → Nowhere first_goes xs (length xs) → Nowhere first_joins xs (length xs) → any_changes (exprs_of xs) ≡ false
none_changes [] g j = refl
none_changes (x ∷ xs) g j =
    or_false _ _ (g 0 (omega arith)) (or_false _ _ (j 0 (omega arith)) (none_changes xs (λ i lt. g (suc i) (omega arith)) (λ i lt. j (suc i) (omega arith))))

pub change_then : {xs ys zs : Declared} → PartsChange first_goes xs ys → PartsChange first_joins ys zs → PartsPass xs zs
change_then {xs = xs} {ys = ys} {zs = zs} p q = record {
  to = turn_then p.to q.to;
  same = λ e. q.same (omega (arith, p.short, q.short)) ∙ p.same (omega (arith, p.short, q.short));
  settled = λ e.
      let long : length ys ≡ length xs = omega (arith, p.short, q.short) in
      none_changes xs (p.settled long) (subst (λ (z : Declared). Nowhere first_joins z (length z)) (p.same long) (q.settled (omega arith)));
}

pub went_by : (xs ys : Declared) → PartsPass xs ys → (a b : ℕ) → a ≡ length ys → b ≡ length xs → NodeChange (not (nat_eq a b)) (InterpolatedString (exprs_of xs)) (InterpolatedString (exprs_of ys))
went_by xs ys p a b i j =
    let went_or_not = λ (t : Bool). NodeChange t (InterpolatedString (exprs_of xs)) (InterpolatedString (exprs_of ys)) in
    by_length went_or_not (length ys) (length xs) a b i j (λ e. (ap (λ (z : Declared). InterpolatedString (exprs_of z)) (p.same e), p.settled e)) (λ n. turns_pass changes p.to (went xs ys n))
