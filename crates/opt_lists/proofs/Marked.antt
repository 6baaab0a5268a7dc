-- A list that is closed up in its own memory: what stays moves down.
use Rattle.std.proofs.Common.{◌≡◌, ◌<◌, ◌≤◌, ℕ, ◌+◌, Bool, true, false, cond, [], ◌∷◌, ◌++◌, length, get_or, set, take, drop, refl, sym, ap, ◌∙◌, arith}
use Rattle.std.specs.Prelude.{◌&&◌, not}
use Rattle.std.proofs.lemmas.List.{drop_more, drop_all, drop-set-lt, take_more, take_more_set, take-set-le, length-take-le}
use Rattle.std.proofs.lemmas.Grind.{drop_more_same}
use Rattle.ast_types.specs.Defaults.{nowhere}
use Rattle.ast_types.specs.declared.stmt.Stmt as declared_stmt
use Rattle.ast_types.specs.declared.stmt.Stmt.TheVariants.{Noop as noop_at}
use Rattle.theory_meaning.specs.Queries.{is_noop}
use Rattle.theory_meaning.specs.Tree.{Stmts, no_stmts, stmt, joined}
use Rattle.ast_types.specs.Reading.{stmt_of, stmts_of}
use Rattle.theory_rewriting.specs.Context.{wanted_before}
use Rattle.opt_lists.specs.Steps.{Declared}
use Rattle.opt_lists.specs.Sweep.{closed_up}

joined-push : (done : Declared) (s : declared_stmt.Stmt) (new : Stmts) → joined (stmts_of (done ++ s ∷ [])) new ≡ joined (stmts_of done) (stmt (stmt_of s) new)
joined-push [] s new = refl
joined-push (x ∷ done) s new = ap (stmt (stmt_of x)) (joined-push done s new)

joined-none : (ss : Stmts) → joined ss no_stmts ≡ ss
joined-none no_stmts = refl
joined-none (stmt s ss) = ap (stmt s) (joined-none ss)

-- whether the statement at a place is a mark
abbrev pub marks : Bool → Declared → ℕ → declared_stmt.Stmt → Bool
marks w xs n d = is_noop (stmt_of (get_or xs n d)) && not (wanted_before w (stmts_of (drop (n + 1) xs)))

-- of all, which are now `here`, those before a place are closed up to k
pub record Closing (w : Bool) (all here : Declared) (n k : ℕ) : Type 0 where
  pub len : length here ≡ length all
  pub low : k ≤ n
  pub rest : drop n here ≡ drop n all
  pub closed : joined (stmts_of (take k here)) (closed_up w (stmts_of (drop n all))) ≡ closed_up w (stmts_of all)

abbrev nothing : declared_stmt.Stmt
nothing = noop_at nowhere

pub closing_start : {w : Bool} {all : Declared} → Closing w all all 0 0
closing_start = record { len = refl; low = omega arith; rest = refl; closed = refl }

-- what is made of the rest at a place
at-mark : (w : Bool) (xs : Declared) (n : ℕ) (b : Bool) → n < length xs → ((d : declared_stmt.Stmt) → b ≡ marks w xs n d) → closed_up w (stmts_of (drop n xs)) ≡ cond b (closed_up w (stmts_of (drop (n + 1) xs))) (stmt (stmt_of (get_or xs n nothing)) (closed_up w (stmts_of (drop (n + 1) xs))))
at-mark w xs n b lt h =
    let rest = closed_up w (stmts_of (drop (n + 1) xs)) in
    ap (λ l. closed_up w (stmts_of l)) (drop_more xs n nothing lt) ∙ sym (ap (λ c. cond c rest (stmt (stmt_of (get_or xs n nothing)) rest)) (h nothing))

pub closing_mark : {w : Bool} {all here : Declared} {n k : ℕ} → Closing w all here n k → n < length here → ((d : declared_stmt.Stmt) → true ≡ marks w here n d) → Closing w all here (n + 1) k
closing_mark {w = w} {all = all} {here = here} {n = n} {k = k} c lt h =
    let rest = drop_more_same here all n c.rest in
    record {
      len = c.len;
      low = omega (arith, c.low);
      rest = rest;
      closed =
          ap (λ l. joined (stmts_of (take k here)) (closed_up w (stmts_of l))) (sym rest)
          ∙ ap (joined (stmts_of (take k here))) (sym (at-mark w here n true lt h))
          ∙ ap (λ l. joined (stmts_of (take k here)) (closed_up w (stmts_of l))) c.rest
          ∙ c.closed;
    }

pub closing_keep : {w : Bool} {all here new : Declared} {n k : ℕ} → Closing w all here n k → n < length here → ((d : declared_stmt.Stmt) → false ≡ marks w here n d) → ((d : declared_stmt.Stmt) → take (k + 1) new ≡ take k here ++ get_or here n d ∷ []) → drop (n + 1) new ≡ drop (n + 1) here → length new ≡ length here → Closing w all new (n + 1) (k + 1)
closing_keep {w = w} {all = all} {here = here} {new = new} {n = n} {k = k} c lt h f g l =
    let rest = drop_more_same here all n c.rest in
    let x = get_or here n nothing in
    record {
      len = l ∙ c.len;
      low = omega (arith, c.low);
      rest = g ∙ rest;
      closed =
          ap (λ z. joined (stmts_of z) (closed_up w (stmts_of (drop (n + 1) all)))) (f nothing)
          ∙ joined-push (take k here) x (closed_up w (stmts_of (drop (n + 1) all)))
          ∙ ap (λ z. joined (stmts_of (take k here)) (stmt (stmt_of x) (closed_up w (stmts_of z)))) (sym rest)
          ∙ ap (joined (stmts_of (take k here))) (sym (at-mark w here n false lt h))
          ∙ ap (λ z. joined (stmts_of (take k here)) (closed_up w (stmts_of z))) c.rest
          ∙ c.closed;
    }

pub closing_end : {w : Bool} {all here new : Declared} {n k : ℕ} → Closing w all here n k → length all ≤ n → new ≡ take k here → stmts_of new ≡ closed_up w (stmts_of all)
closing_end {w = w} {all = all} {here = here} {n = n} {k = k} c h e =
    ap stmts_of e ∙ sym (joined-none (stmts_of (take k here))) ∙ ap (λ l. joined (stmts_of (take k here)) (closed_up w (stmts_of l))) (sym (drop_all n all h)) ∙ c.closed

pub closing_count : {w : Bool} {all here new : Declared} {n k : ℕ} → Closing w all here n k → n ≤ length all → new ≡ take k here → k ≡ length new
closing_count {here = here} {k = k} c h e = sym (ap length e ∙ length-take-le k here (omega (arith, c.low, c.len)))

-- ---- one statement moves down

pub moved-down : (xs : Declared) (to from : ℕ) (d : declared_stmt.Stmt) → to < from → from < length xs → take (to + 1) (set (set xs to (get_or xs from d)) from (get_or xs to d)) ≡ take to xs ++ get_or xs from d ∷ []
moved-down xs to from d h lt =
    take-set-le (to + 1) (set xs to (get_or xs from d)) from (get_or xs to d) (omega arith) ∙ take_more_set xs to (get_or xs from d) (omega arith)

pub left-above : (xs : Declared) (to from : ℕ) (d : declared_stmt.Stmt) → to < from → drop (from + 1) (set (set xs to (get_or xs from d)) from (get_or xs to d)) ≡ drop (from + 1) xs
left-above xs to from d h =
    drop-set-lt (from + 1) (set xs to (get_or xs from d)) from (get_or xs to d) (omega arith) ∙ drop-set-lt (from + 1) xs to (get_or xs from d) (omega arith)

pub stays-there : (xs : Declared) (to from : ℕ) (d : declared_stmt.Stmt) → to ≡ from → from < length xs → take (to + 1) xs ≡ take to xs ++ get_or xs from d ∷ []
stays-there xs to from d h lt = take_more xs to d (omega arith) ∙ ap (λ z. take to xs ++ get_or xs z d ∷ []) h
