-- Blocks in a list: what is done, the statements of the list in hand, and what comes after it.
use Rattle.std.proofs.Common.{◌≡◌, ◌≤◌, Bool, true, false, List, [], ◌∷◌, ◌++◌, IsTrue, ◌↔◌, ◌||◌, not, refl, sym, ap, ◌∙◌, subst, arith}
use Rattle.base_tokens.specs.declared.position.Position.{Position}
use Rattle.ast_types.specs.declared.stmt.Stmt as declared_stmt
use Rattle.ast_types.specs.declared.stmt.Stmt.TheVariants as stmt_kind
use Rattle.theory_meaning.specs.Engine.{Engine}
use Rattle.theory_meaning.specs.Queries.{is_block_dependent, is_any_dependent}
use Rattle.ast_types.specs.Reading.{stmt_of, stmts_of, stmt_of-Noop}
use Rattle.ast_types.proofs.Cases.{StmtCase, block_case, stmt_cases}
use Rattle.theory_meaning.specs.Tree.{Stmt, Noop, Var, Block, Stmts, no_stmts, stmt, joined}
use Rattle.theory_rewriting.specs.Clear.{AreClear}
use Rattle.theory_rewriting.specs.Context.{Context, ListContext, open_list, known_behind, ListKind, wanted, wanted_before}
use Rattle.theory_rewriting.specs.Evals.{keeps_names}
use Rattle.theory_rewriting.specs.Known.{Known}
use Rattle.theory_rewriting.specs.Normal.{gives_way, any_gives_way}
use Rattle.theory_rewriting.specs.Residue.{AreReduced}
use Rattle.theory_rewriting.specs.Rewriting.{RestTo, StmtsTo, same_stmts, then_stmts, by_list_rule}
use Rattle.theory_rewriting.specs.Rules.{spliced, block_gives_way}
use Rattle.theory_rewriting.proofs.Clearing.{claimed, within}
use Rattle.theory_rewriting.proofs.Evals.{block_keeps}
use Rattle.theory_rewriting.proofs.Firing.{in_back}
use Rattle.theory_rewriting.specs.Steps.{Progress, here, Moves, ListPassed}
use Rattle.theory_meaning.specs.Weight.{weight}
use Rattle.opt_reducer.specs.Blocks.{Flattens, FlatList}
use Rattle.ast_types.proofs.OtherKinds.{NoBlock}

joined-push : (done : List declared_stmt.Stmt) (s : declared_stmt.Stmt) (new : Stmts) → joined (stmts_of (done ++ s ∷ [])) new ≡ joined (stmts_of done) (stmt (stmt_of s) new)
joined-push [] s new = refl
joined-push (x ∷ done) s new = ap (stmt (stmt_of x)) (joined-push done s new)

joined-no_stmts : (ss : Stmts) → joined ss no_stmts ≡ ss
joined-no_stmts no_stmts = refl
joined-no_stmts (stmt s ss) = ap (stmt s) (joined-no_stmts ss)

-- one more statement that does not give way
or-false : (a b : Bool) → a ≡ false → b ≡ false → a || b ≡ false
or-false a b p q = λ i. p i || q i

both-clear : (a b : Bool) → a || b ≡ false → (a ≡ false) × (b ≡ false)
both-clear true b h = absurd cc
both-clear false b h = (refl, h)

any-push : (done : List declared_stmt.Stmt) (s : declared_stmt.Stmt) → gives_way (stmt_of s) ≡ false → any_gives_way (stmts_of done) ≡ false → any_gives_way (stmts_of (done ++ s ∷ [])) ≡ false
any-push [] s g h = or-false _ _ g refl
any-push (x ∷ done) s g h = let p = both-clear (gives_way (stmt_of x)) _ h in or-false _ _ p.0 (any-push done s g p.1)

-- whether the value before the rest of a list is wanted
pub wanted_before-rest : (w b : Bool) (rest : List declared_stmt.Stmt) → w ≡ true → (IsTrue b ↔ (rest ≡ [])) → b ≡ wanted_before w (stmts_of rest)
wanted_before-rest w b [] e h = h.1 refl ∙ sym e
wanted_before-rest w true (s ∷ rest) e h = let k = h.0 refl in cc
wanted_before-rest w false (s ∷ rest) e h = refl

wanted_before-joined : (w : Bool) (a b : Stmts) → wanted_before (wanted_before w b) a ≡ wanted_before w (joined a b)
wanted_before-joined w no_stmts b = refl
wanted_before-joined w (stmt s a) b = refl

-- ---- an empty block

noop_stands : (w : Bool) (back : Stmts) → true ≡ wanted_before w back → spliced w no_stmts back ≡ stmt Noop back
noop_stands true no_stmts h = refl
noop_stands false no_stmts h = cc
noop_stands w (stmt s back) h = cc

nothing_stands : (w : Bool) (ss back : Stmts) → (ss ≡ no_stmts → true ≡ wanted_before w back → ⊥) → spliced w ss back ≡ joined ss back
nothing_stands w (stmt s ss) back h = refl
nothing_stands w no_stmts (stmt s back) h = refl
nothing_stands true no_stmts no_stmts h = absurd (h refl refl)
nothing_stands false no_stmts no_stmts h = refl

-- ---- they stay reduced, and test no name that is known

reduced_joined : (r : Engine) (ss back : Stmts) → AreReduced r ss → AreReduced r back → AreReduced r (joined ss back)
reduced_joined r no_stmts back h p = p
reduced_joined r (stmt s ss) back h p = (h.0, reduced_joined r ss back h.1 p)

reduced_block : (r : Engine) (done ss back : Stmts) → AreReduced r (joined done (stmt (Block ss) back)) → AreReduced r (joined done (joined ss back))
reduced_block r no_stmts ss back h = reduced_joined r ss back h.0.1.1.1 h.1
reduced_block r (stmt s done) ss back h = (h.0, reduced_block r done ss back h.1)

reduced_noop : (r : Engine) (done ss back : Stmts) → AreReduced r (joined done (stmt (Block ss) back)) → AreReduced r (joined done (stmt Noop back))
reduced_noop r no_stmts ss back h = ((tt, (tt, (tt, tt))), h.1)
reduced_noop r (stmt s done) ss back h = (h.0, reduced_noop r done ss back h.1)

-- a statement that does not belong to its list declares nothing
independent_declares : (s : Stmt) (ks : List Known) → is_block_dependent s ≡ false → known_behind s ks ≡ ks
independent_declares (Var constant exported x e) ks h = absurd cc
independent_declares _ ks h = refl

clear_joined : (ks : List Known) (ss back : Stmts) → is_any_dependent ss ≡ false → AreClear ks ss → AreClear ks back → AreClear ks (joined ss back)
clear_joined ks no_stmts back n h p = p
clear_joined ks (stmt s ss) back n h p =
    let z = both-clear (is_block_dependent s) _ n in
    (h.0, within (keeps_names s) (λ c. clear_joined (known_behind s ks) ss back z.1 c (subst (λ l. AreClear l back) (sym (independent_declares s ks z.0)) p)) h.1)

clear_block : (ks : List Known) (done ss back : Stmts) → is_any_dependent ss ≡ false → AreClear ks (joined done (stmt (Block ss) back)) → AreClear ks (joined done (joined ss back))
clear_block ks no_stmts ss back n h = clear_joined ks ss back n h.0 (claimed (block_keeps ss) h.1)
clear_block ks (stmt s done) ss back n h = (h.0, within (keeps_names s) (clear_block (known_behind s ks) done ss back n) h.1)

clear_noop : (ks : List Known) (done ss back : Stmts) → AreClear ks (joined done (stmt (Block ss) back)) → AreClear ks (joined done (stmt Noop back))
clear_noop ks no_stmts ss back h = (tt, claimed (block_keeps ss) h.1)
clear_noop ks (stmt s done) ss back h = (h.0, within (keeps_names s) (clear_noop (known_behind s ks) done ss back) h.1)

-- ---- statements that move behind those that are done

moves_push : {w d : Bool} (done new : List declared_stmt.Stmt) (s : declared_stmt.Stmt) → new ≡ done ++ s ∷ [] → Moves w d d (stmts_of done) (stmt (stmt_of s) no_stmts) (stmts_of new)
moves_push {w = w} {d = d} done new s e =
    let spelled = λ (back : Stmts). sym (ap (λ (l : List declared_stmt.Stmt). joined (stmts_of l) back) e ∙ joined-push done s back) in
    record {
      to = λ k m u back h. subst (λ x. RestTo k m u d d (joined (stmts_of done) (stmt (stmt_of s) back)) x) (spelled back) same_stmts;
      reduced = λ r back h. subst (AreReduced r) (spelled back) h;
      clear = λ ks back h. subst (AreClear ks) (spelled back) h;
    }

-- a block that gives way to its statements
moves_block : {w d d1 d2 : Bool} {done ss new : Stmts} → d1 ≡ true → is_any_dependent ss ≡ false → (ss ≡ no_stmts → true ≡ w → ⊥) → Moves w d1 d2 done ss new → Moves w d d2 done (stmt (Block ss) no_stmts) new
moves_block {w = w} {d = d} {d1 = d1} {d2 = d2} {done = done} {ss = ss} {new = new} e h n p = record {
  to = λ k m u back q.
      let spelled = nothing_stands (wanted m) ss back (λ a b. n a (b ∙ sym q)) in
      let gives_way = subst (λ x. RestTo k m u d true (joined done (stmt (Block ss) back)) (joined done x)) spelled (in_back done (by_list_rule (block_gives_way h))) in
      then_stmts (subst (λ x. RestTo k m u d x (joined done (stmt (Block ss) back)) (joined done (joined ss back))) (sym e) gives_way) (p.to k m u back q);
  reduced = λ r back q. p.reduced r back (reduced_block r done ss back q);
  clear = λ ks back q. p.clear ks back (clear_block ks done ss back h q);
}

-- an empty block at the end of a wanted list
moves_noop : {w d d1 : Bool} (done new block : List declared_stmt.Stmt) (p : Position) → d1 ≡ true → w ≡ true → block ≡ [] → new ≡ done ++ stmt_kind.Noop p ∷ [] → Moves w d d1 (stmts_of done) (stmt (Block (stmts_of block)) no_stmts) (stmts_of new)
moves_noop {w = w} {d = d} {d1 = d1} done new block p e ew eb en =
    let spelled = λ (back : Stmts). sym (ap (λ (l : List declared_stmt.Stmt). joined (stmts_of l) back) en ∙ joined-push done (stmt_kind.Noop p) back ∙ ap (λ x. joined (stmts_of done) (stmt x back)) (stmt_of-Noop p)) in
    record {
      to = λ k m u back q.
          let gives_way = subst (λ x. RestTo k m u d true (joined (stmts_of done) (stmt (Block no_stmts) back)) (joined (stmts_of done) x)) (noop_stands (wanted m) back (sym ew ∙ q)) (in_back (stmts_of done) (by_list_rule (block_gives_way refl))) in
          subst (λ (l : List declared_stmt.Stmt). RestTo k m u d d1 (joined (stmts_of done) (stmt (Block (stmts_of l)) back)) (joined (stmts_of new) back)) (sym eb)
          (subst (λ x. RestTo k m u d d1 (joined (stmts_of done) (stmt (Block no_stmts) back)) x) (spelled back)
          (subst (λ x. RestTo k m u d x (joined (stmts_of done) (stmt (Block no_stmts) back)) (joined (stmts_of done) (stmt Noop back))) (sym e) gives_way));
      reduced = λ r back h. subst (AreReduced r) (spelled back) (reduced_noop r (stmts_of done) (stmts_of block) back h);
      clear = λ ks back h. subst (AreClear ks) (spelled back) (clear_noop ks (stmts_of done) (stmts_of block) back h);
    }

-- ---- and leave no block that gives way

-- a statement other than a block stays
stays_put : {x : declared_stmt.Stmt} {s : Stmt} → StmtCase x s → NoBlock x → gives_way s ≡ false
stays_put (block_case b) n = absurd (n b refl)
stays_put _ n = refl

pub other_stays : (x : declared_stmt.Stmt) → NoBlock x → gives_way (stmt_of x) ≡ false
other_stays x n = stays_put (stmt_cases x) n

clear-of : (b : Bool) → true ≡ not b → b ≡ false
clear-of true h = absurd cc
clear-of false h = refl

pub giving-block : (s : Stmt) (ss : Stmts) → s ≡ Block ss → true ≡ gives_way s → is_any_dependent ss ≡ false
giving-block s ss e h = clear-of (is_any_dependent ss) (h ∙ ap gives_way e)

pub flattens_push : {w : Bool} {g : Progress} (done new : List declared_stmt.Stmt) (s : declared_stmt.Stmt) → gives_way (stmt_of s) ≡ false → new ≡ done ++ s ∷ [] → Flattens w g g (stmts_of done) (stmt (stmt_of s) no_stmts) (stmts_of new)
flattens_push done new s n e = record {
  moves = moves_push done new s e;
  flat = λ h. subst (λ (l : List declared_stmt.Stmt). any_gives_way (stmts_of l) ≡ false) (sym e) (any-push done s n h);
  known = refl;
}

pub flattens_block : {w : Bool} {g g1 g2 : Progress} {done ss new : Stmts} → g1.is_dirty ≡ true → g1.known ≡ g.known → is_any_dependent ss ≡ false → (ss ≡ no_stmts → true ≡ w → ⊥) → Flattens w g1 g2 done ss new → Flattens w g g2 done (stmt (Block ss) no_stmts) new
flattens_block e i h n p = record { moves = moves_block e h n p.moves; flat = p.flat; known = p.known ∙ i }

noop_stays : (p : Position) → gives_way (stmt_of (stmt_kind.Noop p)) ≡ false
noop_stays p = ap gives_way (stmt_of-Noop p)

pub flattens_noop : {w : Bool} {g g1 : Progress} (done new block : List declared_stmt.Stmt) (p : Position) → g1.is_dirty ≡ true → g1.known ≡ g.known → w ≡ true → block ≡ [] → new ≡ done ++ stmt_kind.Noop p ∷ [] → Flattens w g g1 (stmts_of done) (stmt (Block (stmts_of block)) no_stmts) (stmts_of new)
flattens_noop done new block p e i ew eb en = record {
  moves = moves_noop done new block p e ew eb en;
  flat = λ h. subst (λ (l : List declared_stmt.Stmt). any_gives_way (stmts_of l) ≡ false) (sym en) (any-push done (stmt_kind.Noop p) (noop_stays p) h);
  known = i;
}

-- a statement that is spelled so
pub flattens_as : {w : Bool} {g g' : Progress} {s s1 : Stmt} {done new : Stmts} → s ≡ s1 → Flattens w g g' done (stmt s1 no_stmts) new → Flattens w g g' done (stmt s no_stmts) new
flattens_as {w = w} {g = g} {g' = g'} {done = done} {new = new} e p = subst (λ x. Flattens w g g' done (stmt x no_stmts) new) (sym e) p

-- of all, the rest is to come
pub record MovesSoFar (w : Bool) (g g1 : Progress) (all rest : List declared_stmt.Stmt) (done now : Stmts) : Type 0 where
  pub fits : weight (stmts_of rest) ≤ weight (stmts_of all)
  pub to : (k : ListContext) (m : ListKind) (u : Bool) (back : Stmts) → w ≡ wanted_before (wanted m) back → RestTo k m u g.is_dirty g1.is_dirty (joined done (joined (stmts_of all) back)) (joined now (joined (stmts_of rest) back))
  pub reduced : (r : Engine) (back : Stmts) → AreReduced r (joined done (joined (stmts_of all) back)) → AreReduced r (joined now (joined (stmts_of rest) back))
  pub clear : (ks : List Known) (back : Stmts) → AreClear ks (joined done (joined (stmts_of all) back)) → AreClear ks (joined now (joined (stmts_of rest) back))
  pub flat : any_gives_way done ≡ false → any_gives_way now ≡ false
  pub known : g1.known ≡ g.known

pub moves_start : {w : Bool} {g : Progress} {all : List declared_stmt.Stmt} {done : Stmts} → MovesSoFar w g g all all done done
moves_start = record { fits = omega arith; to = λ k m u back h. same_stmts; reduced = λ r back h. h; clear = λ ks back h. h; flat = λ h. h; known = refl }

pub moves_next : {w w1 : Bool} {g g1 g2 : Progress} {all rest new : List declared_stmt.Stmt} {done now next : Stmts} {s : declared_stmt.Stmt} → MovesSoFar w g g1 all rest done now → rest ≡ s ∷ new → w1 ≡ wanted_before w (stmts_of new) → Flattens w1 g1 g2 now (stmt (stmt_of s) no_stmts) next → MovesSoFar w g g2 all new done next
moves_next {w = w} {w1 = w1} {g = g} {g1 = g1} {g2 = g2} {all = all} {rest = rest} {new = new} {done = done} {now = now} {next = next} {s = s} far i e p =
    let v = subst (λ l. MovesSoFar w g g1 all l done now) i far in
    record {
      fits = omega (arith, v.fits);
      to = λ k m u back h.
          let q : w1 ≡ wanted_before (wanted m) (joined (stmts_of new) back) = e ∙ ap (λ b. wanted_before b (stmts_of new)) h ∙ wanted_before-joined (wanted m) (stmts_of new) back in
          then_stmts (v.to k m u back h) (p.moves.to k m u (joined (stmts_of new) back) q);
      reduced = λ r back h. p.moves.reduced r (joined (stmts_of new) back) (v.reduced r back h);
      clear = λ ks back h. p.moves.clear ks (joined (stmts_of new) back) (v.clear ks back h);
      flat = λ h. p.flat (v.flat h);
      known = p.known ∙ v.known;
    }

pub moves_end : {w : Bool} {g g1 : Progress} {all rest : List declared_stmt.Stmt} {done now : Stmts} → MovesSoFar w g g1 all rest done now → rest ≡ [] → Flattens w g g1 done (stmts_of all) now
moves_end {w = w} {g = g} {g1 = g1} {all = all} {done = done} {now = now} far i =
    let v = subst (λ l. MovesSoFar w g g1 all l done now) i far in
    record { moves = record { to = v.to; reduced = v.reduced; clear = v.clear }; flat = v.flat; known = v.known }

-- a whole list
flattened_to : {d d1 : Bool} (k : Context) (m : ListKind) {w : Bool} {ss new : Stmts} → w ≡ wanted m → Moves w d d1 no_stmts ss new → StmtsTo k m d d1 ss new
flattened_to {d = d} {d1 = d1} k m {ss = ss} {new = new} h p =
    subst (λ x. StmtsTo k m d d1 x new) (joined-no_stmts ss) (subst (λ x. StmtsTo k m d d1 (joined ss no_stmts) x) (joined-no_stmts new) (p.to (open_list k) m true no_stmts h))

flattened_keeps : (F : Stmts → Type 0) (ss new : Stmts) → (F (joined ss no_stmts) → F (joined new no_stmts)) → F ss → F new
flattened_keeps F ss new f h = subst F (joined-no_stmts new) (f (subst F (sym (joined-no_stmts ss)) h))

pub flattened : {g g1 : Progress} (m : ListKind) {w : Bool} {ss new : Stmts} → w ≡ wanted m → Flattens w g g1 no_stmts ss new → FlatList m g g1 ss new
flattened m {ss = ss} {new = new} h p = record {
  to = λ k. flattened_to k m h p.moves;
  reduced = λ r. flattened_keeps (AreReduced r) ss new (p.moves.reduced r no_stmts);
  clear = λ ks. flattened_keeps (AreClear ks) ss new (p.moves.clear ks no_stmts);
  flat = p.flat refl;
  known = p.known;
}

-- before its statements are gone over
pub flat_pass : {r : Engine} {m : ListKind} {s s' : Progress} {ss ss' : Stmts} → FlatList m s s' ss ss' → ListPassed r m s s' ss ss'
flat_pass {r = r} {s = s} f = record { to = f.to (here r s); known = f.known }

pub flat_kept : {m : ListKind} {g : Progress} (ss : Stmts) → any_gives_way ss ≡ false → FlatList m g g ss ss
flat_kept ss h = record { to = λ k. same_stmts; reduced = λ r x. x; clear = λ ks x. x; flat = h; known = refl }

pub empty-stmts_of : (l : List declared_stmt.Stmt) → stmts_of l ≡ no_stmts → l ≡ []
empty-stmts_of [] h = refl
empty-stmts_of (s ∷ l) h = absurd cc

pub differ : false ≡ true → ⊥
differ h = cc
