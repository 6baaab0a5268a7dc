-- A whole list, decided place by place from its end.
use Rattle.std.proofs.Common.{◌≡◌, ◌<◌, ℕ, ◌+◌, Bool, true, false, Some, None, [], ◌∷◌, length, take, drop, refl, sym, ap, ◌∙◌, subst, arith}
use Rattle.std.specs.Prelude.{◌||◌}
use Rattle.std.proofs.lemmas.List.{drop_more, drop-take, take-take}
use Rattle.std.proofs.Math.Seq.{drop-length}
use Rattle.ast_types.specs.Defaults.{nowhere}
use Rattle.ast_types.specs.declared.stmt.Stmt as declared_stmt
use Rattle.ast_types.specs.declared.stmt.Stmt.TheVariants.{Noop as noop_at}
use Rattle.theory_meaning.specs.Engine.{Engine}
use Rattle.theory_meaning.specs.Tree.{Stmts}
use Rattle.ast_types.specs.Reading.{stmts_of}
use Rattle.theory_rewriting.specs.Clear.{AreClear}
use Rattle.theory_rewriting.specs.Context.{open_list, under, ListKind}
use Rattle.theory_rewriting.specs.Normal.{AreNormalEach, AreSwept}
use Rattle.theory_rewriting.specs.Rewriting.{RestTo, same_stmts}
use Rattle.theory_rewriting.proofs.Flags.{stmts_kept}
use Rattle.opt_lists.specs.declared.behind.Behind.{Behind}
use Rattle.opt_lists.specs.declared.behind.Fading.{Fading}
use Rattle.opt_lists.specs.declared.swept.Swept.{Swept}
use Rattle.opt_lists.specs.Steps.{Declared, kept, headed, Step, SoFar, Decided, Sweeps}
use Rattle.opt_lists.specs.Sweep.{IsSwept, Keeps, keeps_none}
use Rattle.opt_lists.proofs.Deciding.{decided_as}
use Rattle.opt_lists.proofs.Sweeping.{no, decided_start, decided_ends, swept_empty}

abbrev nothing : declared_stmt.Stmt
nothing = noop_at nowhere

-- the first of the rest before the others is the rest
headed-rest : (xs : Declared) (n : ℕ) → n < length xs → headed (drop n xs) (stmts_of (drop (n + 1) xs)) ≡ stmts_of (drop n xs)
headed-rest xs n lt = ap (λ l. headed l (stmts_of (drop (n + 1) xs))) (drop_more xs n nothing lt) ∙ sym (ap stmts_of (drop_more xs n nothing lt))

headed-one : (l : Declared) (ss : Stmts) → headed l ss ≡ headed (take 1 l) ss
headed-one [] ss = refl
headed-one (x ∷ l) ss = refl

headed-at : (xs : Declared) (n : ℕ) (ss : Stmts) → headed (drop n xs) ss ≡ headed (drop n (take (n + 1) xs)) ss
headed-at xs n ss = headed-one (drop n xs) ss ∙ sym (ap (λ l. headed l ss) (drop-take n 1 xs))

-- the two lists have the same item there
headed-same : (xs ys : Declared) (n : ℕ) (ss : Stmts) → take (n + 1) xs ≡ take (n + 1) ys → headed (drop n xs) ss ≡ headed (drop n ys) ss
headed-same xs ys n ss h = headed-at xs n ss ∙ ap (λ l. headed (drop n l) ss) h ∙ sym (headed-at ys n ss)

pub sofar_start : {m : ListKind} {xs : Declared} (n : ℕ) → n ≡ length xs → SoFar m n xs xs (record { is_last = true; fading = None; is_quiet = true; has_changed = false; is_bared = false })
sofar_start {m = m} {xs = xs} n h =
    let none : drop n xs ≡ [] = ap (λ k. drop k xs) h ∙ drop-length xs in
    record {
      inside = omega arith;
      long = omega arith;
      front = refl;
      same = λ z. refl;
      decided = decided_as (ap stmts_of none) (ap (kept m) none) decided_start;
    }

same-then : (c c' : Bool) (all now new : Declared) → (c ≡ false → now ≡ all) → (c' ≡ false → (c ≡ false) × (new ≡ now)) → c' ≡ false → new ≡ all
same-then c c' all now new f g h = let z = g h in z.1 ∙ f z.0

pub sofar_next : {m : ListKind} {n k : ℕ} {all now new : Declared} {b b' : Behind} → SoFar m n all now b → n ≡ k + 1 → Step m k now new b b' → SoFar m k all new b'
sofar_next {m = m} {n = n} {k = k} {all = all} {now = now} {new = new} {b = b} {b' = b'} s e t =
    let v : SoFar m (k + 1) all now b = subst (λ z. SoFar m z all now b) e s in
    record {
      inside = omega (arith, v.inside);
      long = omega (arith, t.long);
      front = t.front ∙ sym (take-take k (k + 1) now (omega arith)) ∙ ap (take k) v.front ∙ take-take k (k + 1) all (omega arith);
      same = same-then b.has_changed b'.has_changed all now new v.same t.same;
      decided = decided_as (sym (headed-same now all k (stmts_of (drop (k + 1) all)) v.front ∙ headed-rest all k (omega (arith, v.inside)))) refl (t.to (stmts_of (drop (k + 1) all)) v.decided);
    }

pub sofar_end : {m : ListKind} {n : ℕ} {all now : Declared} {b : Behind} → SoFar m n all now b → n ≡ 0 → Decided m all now b
sofar_end {m = m} {n = n} {all = all} {now = now} {b = b} s e =
    let v : SoFar m 0 all now b = subst (λ z. SoFar m z all now b) e s in
    record { same = v.same; decided = v.decided }

-- ---- what a sweep promises

abbrev some_engine : Engine
some_engine = record { constants = []; overrides = []; type_names = []; fast_operators = false }

pub sweeps_faded : {m : ListKind} {old now new : Declared} {b : Behind} (x : Fading) → Decided m old now b → b.fading ≡ Some x → new ≡ take 0 now → Sweeps m old new (record { has_changed = true; is_bared = false; moved = 0 })
sweeps_faded {m = m} {old = old} {now = now} {new = new} {b = b} x p h e =
    let after : Swept = record { has_changed = true; is_bared = false; moved = 0 } in
    subst (λ z. Sweeps m old z after) (sym e) (record {
      to = λ k d. decided_ends x p.decided h k d;
      swept = swept_empty m;
      kept = keeps_none;
      clear = λ z ks c. tt;
      bared = λ z. refl;
      same = λ z. no (sym z);
      moved = λ z. refl;
      settled = λ z. no (sym z);
    })

pub sweeps_same : {m : ListKind} {old now : Declared} {b : Behind} → Decided m old now b → b.fading ≡ None → b.has_changed ≡ false → Sweeps m old now (record { has_changed = false; is_bared = b.is_bared; moved = 0 })
sweeps_same {m = m} {old = old} {now = now} {b = b} p f h =
    let after : Swept = record { has_changed = false; is_bared = b.is_bared; moved = 0 } in
    let e = p.same h in
    let q : stmts_of old ≡ kept m now = (stmts_kept (p.decided.to (open_list (under some_engine)) true false) (ap (λ c. c || false) h)).1 in
    let back : kept m now ≡ stmts_of now = sym q ∙ sym (ap stmts_of e) in
    record {
      to = λ k d. subst (λ z. RestTo k m true d d (stmts_of old) (stmts_of z)) (sym e) same_stmts;
      swept = subst (IsSwept m) back p.decided.swept;
      kept = subst (Keeps b.is_bared (stmts_of old)) back p.decided.kept;
      clear = λ z ks c. subst (AreClear ks) back (p.decided.clear z ks c);
      bared = λ z. no (sym h ∙ p.decided.bared z);
      same = λ z. (e, refl);
      moved = λ z. no z;
      settled = λ z k n. subst (AreSwept m true) back (p.decided.settled h f k (subst (AreNormalEach k m) (sym back) n) true);
    }

pub sweeps_closed : {m : ListKind} {old now new : Declared} {b : Behind} (n : ℕ) → Decided m old now b → b.has_changed ≡ true → stmts_of new ≡ kept m now → n ≡ length new → Sweeps m old new (record { has_changed = true; is_bared = b.is_bared; moved = n })
sweeps_closed {m = m} {old = old} {now = now} {new = new} {b = b} n p h e c = record {
  to = λ k d. subst (RestTo k m true d true (stmts_of old)) (sym e) (subst (λ z. RestTo k m true d (z || d) (stmts_of old) (kept m now)) h (p.decided.to k true d));
  swept = subst (IsSwept m) (sym e) p.decided.swept;
  kept = subst (Keeps b.is_bared (stmts_of old)) (sym e) p.decided.kept;
  clear = λ z ks c. subst (AreClear ks) (sym e) (p.decided.clear z ks c);
  bared = λ z. refl;
  same = λ z. no (sym z);
  moved = λ z. c;
  settled = λ z. no (sym z);
}
