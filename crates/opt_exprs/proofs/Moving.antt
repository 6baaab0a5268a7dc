-- A pass over operands, in the list's own memory: what stays moves down.
use Rattle.std.proofs.Common.{◌≡◌, ◌<◌, ◌≤◌, ℕ, zero, suc, ◌+◌, ◌-◌, Bool, true, false, not, nat_eq, [], ◌∷◌, ◌++◌, length, get_or, take, drop, refl, sym, ap, ◌∙◌, subst, arith}
use Rattle.std.proofs.lemmas.List.{append_assoc, append-nil, drop_all, take_more, take_all, get_or-take, length-append, length-drop, length-take-le, length_push}
use Rattle.ast_types.specs.declared.expr.Expr as declared_expr
use Rattle.theory_meaning.specs.Tree.{Expr, Exprs, no_exprs, expr}
use Rattle.ast_types.specs.Reading.{expr_of, exprs_of}
use Rattle.opt_base.specs.Passes.{InTurn, no_change, one_more}
use Rattle.opt_base.proofs.Passing.{turn_then, turns_pass}
use Rattle.opt_exprs.specs.declared.operands.operation.Operation.{Operation}
use Rattle.opt_exprs.specs.declared.operands.operation.Operation.TheVariants as operation
use Rattle.opt_exprs.specs.Operands.{Declared, node_of, OneGoes, NoneGoes, follows, goes_on, decides, goes_before, GoBefore, NoneIs, Ends, OperandsPass, NoOperandGoes, NodeChange}
use Rattle.opt_exprs.proofs.Changing.{passing, ending, going_before, one_goes, changes, nothing_follows}
use Rattle.opt_exprs.proofs.Lists.{or_false, item, turn_as, went, by_length}
use Rattle.opt_exprs.proofs.Remaining.{Goes, none_go, undecided_stay, decided_stay}

-- ---- lists

last-item : (xs : Declared) (n : ℕ) (x : declared_expr.Expr) → n < length xs → x ≡ get_or xs n x → take (n + 1) xs ≡ take n xs ++ x ∷ []
last-item xs n x lt h = take_more xs n x lt ∙ ap (λ y. take n xs ++ y ∷ []) (sym h)

-- ---- operands of which none is so, and none decides

none-push : (p : Expr → Bool) (xs : Declared) (x : declared_expr.Expr) → NoneIs p xs → p (expr_of x) ≡ false → NoneIs p (xs ++ x ∷ [])
none-push p [] x h i = (i, tt)
none-push p (y ∷ xs) x h i = (h.0, none-push p xs x h.1 i)

none-take : (p : Expr → Bool) (n m : ℕ) (xs : Declared) → n ≤ m → NoneIs p (take m xs) → NoneIs p (take n xs)
none-take p zero m xs le h = tt
none-take p (suc n) zero xs le h = absurd (omega arith)
none-take p (suc n) (suc m) [] le h = tt
none-take p (suc n) (suc m) (x ∷ xs) le h = (h.0, none-take p n m xs (omega arith) h.1)

follows-more : (o : Operation) (e f : Expr) (es : Exprs) → decides o e ≡ false → follows o (expr f es) ≡ false → follows o (expr e (expr f es)) ≡ false
follows-more operation.And e f es h i = or_false _ _ h i
follows-more operation.Or e f es h i = or_false _ _ h i
follows-more operation.Coalesce e f es h i = or_false _ _ h i

follows-none : (o : Operation) → follows o no_exprs ≡ false
follows-none operation.And = refl
follows-none operation.Or = refl
follows-none operation.Coalesce = refl

follows-one : (o : Operation) (e : Expr) → follows o (expr e no_exprs) ≡ false
follows-one operation.And e = refl
follows-one operation.Or e = refl
follows-one operation.Coalesce e = refl

-- whatever the last one is
settled-last : (o : Operation) (xs : Declared) (x : declared_expr.Expr) → NoneIs (decides o) xs → follows o (exprs_of (xs ++ x ∷ [])) ≡ false
settled-last o [] x h = follows-one o (expr_of x)
settled-last o (y ∷ []) x h = follows-more o (expr_of y) (expr_of x) no_exprs h.0 (follows-one o (expr_of x))
settled-last o (y ∷ z ∷ xs) x h = follows-more o (expr_of y) (expr_of z) (exprs_of (xs ++ x ∷ [])) h.0 (settled-last o (z ∷ xs) x h.1)

settled-all : (o : Operation) (xs : Declared) → NoneIs (decides o) xs → follows o (exprs_of xs) ≡ false
settled-all o [] h = follows-none o
settled-all o (y ∷ []) h = follows-one o (expr_of y)
settled-all o (y ∷ z ∷ xs) h = follows-more o (expr_of y) (expr_of z) (exprs_of xs) h.0 (settled-all o (z ∷ xs) h.1)

-- ---- what is pure goes before one that decides

-- so far
pub record Purging (o : Operation) (xs : Declared) (from kept : ℕ) : Type 0 where
  pub low : from ≤ kept
  pub go : GoBefore o xs from kept

pub before_start : {o : Operation} {xs : Declared} {kept : ℕ} → Purging o xs kept kept
before_start = record { low = omega arith; go = λ x d. no_change }

pub before_more : {o : Operation} {xs : Declared} {n from kept : ℕ} (y : declared_expr.Expr) → Purging o xs from kept → n + 1 ≡ from → n < length xs → y ≡ get_or xs n y → goes_before o (expr_of y) ≡ true → Purging o xs n kept
before_more {o = o} {xs = xs} {n = n} {from = from} y q e lt h g = record {
  low = omega (arith, q.low);
  go = λ x d.
      let front = take n xs in
      let here : take from xs ++ x ∷ [] ≡ front ++ y ∷ x ∷ [] = ap (λ z. take z xs ++ x ∷ []) (sym e) ∙ ap (λ (z : Declared). z ++ x ∷ []) (last-item xs n y lt h) ∙ append_assoc front (y ∷ []) (x ∷ []) in
      let goes = one_goes o front (y ∷ x ∷ []) (x ∷ []) (going_before o (expr_of y) (expr_of x) g d) (omega (arith, length_push front x)) in
      one_more (turn_as refl (sym here) (q.go x d)) goes;
}

-- ---- operands end at one that decides

cut : (o : Operation) (front : Declared) (x : declared_expr.Expr) (rest : Declared) → decides o (expr_of x) ≡ true → InTurn (OneGoes o) (exprs_of (front ++ x ∷ rest)) (exprs_of (front ++ x ∷ []))
cut o front x [] d = no_change
cut o front x (y ∷ rest) d = one_more no_change (one_goes o front (x ∷ y ∷ rest) (x ∷ []) (ending o (expr_of x) (expr_of y) (exprs_of rest) d) (omega (arith, length_push front x)))

all_stay : (o : Operation) (xs : Declared) (kept : ℕ) (x : declared_expr.Expr) → length xs ≡ kept + 1 → x ≡ get_or xs kept x → decides o (expr_of x) ≡ true → NoneIs (decides o) (take kept xs) → (1 < length xs → NoneIs (goes_on o) (take kept xs)) → (0 < kept → (z : declared_expr.Expr) → goes_before o (expr_of (get_or xs (kept - 1) z)) ≡ false) → NoneGoes o (exprs_of xs)
all_stay o xs kept x long h d u v last =
    let front = take kept xs in
    let count : length front ≡ kept = length-take-le kept xs (omega arith) in
    let is : xs ≡ front ++ x ∷ [] = sym (take_all (kept + 1) xs (omega arith)) ∙ last-item xs kept x (omega arith) h in
    let before : 0 < length front → goes_before o (expr_of (get_or front (length front - 1) x)) ≡ false =
    λ lt. ap (λ m. goes_before o (expr_of (get_or front (m - 1) x))) count ∙ ap (λ y. goes_before o (expr_of y)) (get_or-take kept xs (kept - 1) x (omega arith)) ∙ last (omega arith) x in
    none_go o xs (λ lt g. decided_stay o front x d u (v lt) before (subst (λ (z : Declared). Goes o (exprs_of z)) is g))

pub ends_at : {o : Operation} {at kept from : ℕ} {xs mid ys : Declared} (x : declared_expr.Expr) → kept ≤ at → at < length xs → x ≡ get_or xs at x → decides o (expr_of x) ≡ true → from ≤ kept → GoBefore o xs from kept → (0 < from → (z : declared_expr.Expr) → goes_before o (expr_of (get_or xs (from - 1) z)) ≡ false) → take (from + 1) mid ≡ take from xs ++ x ∷ [] → length mid ≡ length xs → (from ≡ at → mid ≡ xs) → ys ≡ take (from + 1) mid → Ends o at kept xs ys
ends_at {o = o} {at = at} {kept = kept} {from = from} {xs = xs} {mid = mid} {ys = ys} x le lt h d low go last put long stay e =
    let is : ys ≡ take from xs ++ x ∷ [] = e ∙ put in
    let count : length ys ≡ from + 1 = ap length e ∙ length-take-le (from + 1) mid (omega arith) in
    record {
      to = turn_as (ap (λ (z : Declared). take kept xs ++ z) (item xs at x lt h)) is (turn_then (cut o (take kept xs) x (drop (at + 1) xs) d) (go x d));
      settled = λ u. ap (λ (z : Declared). follows o (exprs_of z)) is ∙ settled-last o (take from xs) x (none-take (decides o) from kept xs low u);
      short = omega arith;
      same = λ n. e ∙ take_all (from + 1) mid (omega arith) ∙ stay (omega arith);
      stay = λ n u v. all_stay o xs kept x (omega arith) (subst (λ m. x ≡ get_or xs m x) (let k : at ≡ kept = omega arith in k) h) d u v (subst (λ m. 0 < m → (z : declared_expr.Expr) → goes_before o (expr_of (get_or xs (m - 1) z)) ≡ false) (let k : from ≡ kept = omega arith in k) last);
    }

-- ---- a pass

-- of all, which are now `here`, those before a place stand before `kept`
pub record Passing (o : Operation) (all here : Declared) (at kept : ℕ) : Type 0 where
  pub to : InTurn (OneGoes o) (exprs_of all) (exprs_of (take kept here ++ drop at here))
  pub low : kept ≤ at
  pub len : length here ≡ length all
  pub undecided : NoneIs (decides o) (take kept here)
  pub same : kept ≡ at → here ≡ all
  pub stay : kept ≡ at → 1 < length all → NoneIs (goes_on o) (take kept here)

pub passing_start : {o : Operation} {all : Declared} → Passing o all all 0 0
passing_start = record { to = no_change; low = omega arith; len = refl; undecided = tt; same = λ h. refl; stay = λ h lt. tt }

pub passing_keep : {o : Operation} {all here new : Declared} {at kept : ℕ} (x : declared_expr.Expr) → Passing o all here at kept → at < length here → x ≡ get_or here at x → decides o (expr_of x) ≡ false → (at + 1 < kept + length here → goes_on o (expr_of x) ≡ false) → take (kept + 1) new ≡ take kept here ++ x ∷ [] → drop (at + 1) new ≡ drop (at + 1) here → length new ≡ length here → (kept ≡ at → new ≡ here) → Passing o all new (at + 1) (kept + 1)
passing_keep {o = o} {all = all} {here = here} {new = new} {at = at} {kept = kept} x p lt h d g front back long stay = record {
  to =
      let e : take (kept + 1) new ++ drop (at + 1) new ≡ take kept here ++ drop at here =
      ap (λ (z : Declared). z ++ drop (at + 1) new) front ∙ ap (λ (z : Declared). (take kept here ++ x ∷ []) ++ z) back ∙ append_assoc (take kept here) (x ∷ []) (drop (at + 1) here) ∙ ap (λ (z : Declared). take kept here ++ z) (sym (item here at x lt h)) in
      turn_as refl e p.to;
  low = omega (arith, p.low);
  len = long ∙ p.len;
  undecided = subst (NoneIs (decides o)) (sym front) (none-push (decides o) (take kept here) x p.undecided d);
  same = λ e. let k : kept ≡ at = omega arith in stay k ∙ p.same k;
  stay = λ e more. subst (NoneIs (goes_on o)) (sym front) (none-push (goes_on o) (take kept here) x (p.stay (omega arith) more) (g (omega (arith, p.len))));
}

pub passing_skip : {o : Operation} {all here : Declared} {at kept : ℕ} (x : declared_expr.Expr) → Passing o all here at kept → at < length here → x ≡ get_or here at x → goes_on o (expr_of x) ≡ true → at + 1 < kept + length here → Passing o all here (at + 1) kept
passing_skip {o = o} {all = all} {here = here} {at = at} {kept = kept} x p lt h g more = record {
  to =
      let rest = drop (at + 1) here in
      let e : take kept here ++ drop at here ≡ take kept here ++ x ∷ rest = ap (λ (z : Declared). take kept here ++ z) (item here at x lt h) in
      let count : 0 < length (take kept here ++ rest) = omega (arith, length-append (take kept here) rest, length-take-le kept here (omega (arith, p.low)), length-drop (at + 1) here) in
      one_more (turn_as refl (sym e) p.to) (one_goes o (take kept here) (x ∷ rest) rest (passing o (expr_of x) (exprs_of rest) g) count);
  low = omega (arith, p.low);
  len = p.len;
  undecided = p.undecided;
  same = λ e. absurd (omega (arith, p.low));
  stay = λ e. absurd (omega (arith, p.low));
}

pub passing_end : {o : Operation} {all here new : Declared} {at kept : ℕ} → Passing o all here at kept → at ≡ length all → new ≡ take kept here → OperandsPass o all new
passing_end {o = o} {all = all} {here = here} {new = new} {at = at} {kept = kept} p h e = record {
  to = turn_as refl (e ∙ sym (append-nil (take kept here)) ∙ ap (λ (z : Declared). take kept here ++ z) (sym (drop_all at here (omega (arith, p.len))))) p.to;
  settled = ap (λ (z : Declared). follows o (exprs_of z)) e ∙ settled-all o (take kept here) p.undecided;
  same = λ n.
      let long : length new ≡ kept = ap length e ∙ length-take-le kept here (omega (arith, p.low, p.len)) in
      e ∙ take_all kept here (omega (arith, p.len)) ∙ p.same (omega arith);
  stay = λ n.
      let long : length new ≡ kept = ap length e ∙ length-take-le kept here (omega (arith, p.low, p.len)) in
      let is : all ≡ take kept here = sym (p.same (omega arith)) ∙ sym (take_all kept here (omega (arith, p.len))) in
      none_go o all (λ lt g. undecided_stay o (take kept here) p.undecided (p.stay (omega arith) lt) (subst (λ (z : Declared). Goes o (exprs_of z)) is g));
}

pub passing_decided : {o : Operation} {all here new : Declared} {at kept : ℕ} → Passing o all here at kept → at < length here → Ends o at kept here new → OperandsPass o all new
passing_decided {o = o} {all = all} {here = here} {new = new} {at = at} {kept = kept} p lt q = record {
  to = turn_then p.to q.to;
  settled = q.settled p.undecided;
  same = λ n. q.same (n ∙ sym p.len) ∙ p.same (omega (arith, p.low, p.len, q.short));
  stay = λ n.
      let k : kept ≡ at = omega (arith, p.low, p.len, q.short) in
      subst (λ (z : Declared). NoneGoes o (exprs_of z)) (p.same k) (q.stay (n ∙ sym p.len) p.undecided (λ lt. p.stay k (omega (arith, p.len))));
}

-- ---- at the node

some_went : {o : Operation} {xs ys : Declared} → OperandsPass o xs ys → (length ys ≡ length xs → ⊥) → NodeChange true (node_of o (exprs_of xs)) (node_of o (exprs_of ys))
some_went {o = o} {xs = xs} {ys = ys} p n = turns_pass (changes o) p.to (went xs ys n)

no_operand_goes : (o : Operation) (es : Exprs) → NoneGoes o es → NoOperandGoes (node_of o es)
no_operand_goes operation.And es h = h
no_operand_goes operation.Or es h = h
no_operand_goes operation.Coalesce es h = h

none_went : {o : Operation} {xs ys : Declared} → OperandsPass o xs ys → length ys ≡ length xs → NodeChange false (node_of o (exprs_of xs)) (node_of o (exprs_of ys))
none_went {o = o} {xs = xs} {ys = ys} p h =
    let e = p.same h in
    (ap (λ (z : Declared). node_of o (exprs_of z)) e, λ r. nothing_follows o (exprs_of xs) r (sym (ap (λ (z : Declared). follows o (exprs_of z)) e) ∙ p.settled), no_operand_goes o (exprs_of xs) (p.stay h))

pub went_by : (o : Operation) (xs ys : Declared) → OperandsPass o xs ys → (a b : ℕ) → a ≡ length ys → b ≡ length xs → NodeChange (not (nat_eq a b)) (node_of o (exprs_of xs)) (node_of o (exprs_of ys))
went_by o xs ys p a b i j = by_length (λ t. NodeChange t (node_of o (exprs_of xs)) (node_of o (exprs_of ys))) (length ys) (length xs) a b i j (none_went p) (some_went p)
