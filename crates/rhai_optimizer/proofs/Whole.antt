-- The promise over a whole script, from what was made of its parts.
use Rattle.rhai_optimizer.specs.Scopes.{known_outside}
use Rattle.std.proofs.Common.{◌≡◌, ◌≢◌, ◌⊎◌, inl, inr, ℕ, suc, arith, length, not, Bool, true, false, List, [], ◌∷◌, ◌++◌, append-nil, None, map, cond, if◌then◌else◌, refl, sym, ap, ◌∙◌, subst}
use Rattle.std.specs.Prelude.{◌&&◌, ◌==◌}
use Rattle.std.specs.Rc.{rc_value}
use Rattle.std.specs.declared.alloc.Global.{Global}
use Rattle.std.specs.declared.rc.Rc.{Rc}
use Rattle.ast_types.specs.declared.script_fn.ScriptFuncDef.{ScriptFuncDef}
use Rattle.ast_types.specs.declared.stmt.Stmt.{Stmt}
use Rattle.theory_meaning.specs.Act.{ScopeEntry}
use Rattle.theory_meaning.specs.Calls.{same_key}
use Rattle.theory_meaning.specs.Engine.{Engine}
use Rattle.theory_meaning.specs.Faults.{IsWellFormedScript, AreWellFormedFunctions}
use Rattle.theory_meaning.specs.Tree.{Function, Script, Stmts}
use Rattle.theory_meaning.specs.Walk.{over_functions, over_stmts}
use Rattle.theory_meaning.proofs.PureTrees.{split}
use Rattle.ast_types.specs.Reading.{function_of, stmts_of}
use Rattle.theory_rewriting.specs.Context.{Context, Whole, knowing}
use Rattle.theory_rewriting.specs.Finished.{AreFinished, IsFinishedScript}
use Rattle.theory_rewriting.specs.Known.{Known, Agrees, look_global}
use Rattle.theory_rewriting.specs.Reducible.{AreIrreducibleBodies, IsIrreducibleScript}
use Rattle.theory_rewriting.specs.Rewriting.{StmtsTo, same_stmts}
use Rattle.theory_rewriting.specs.Scripts.{captures_nothing, known_at_top, known_in_bodies, known_globals, MayKnow, nothing_known, none_capture, FunctionsTo, OptimisedTo, ScriptTo, known_inside}
use Rattle.theory_soundness.proofs.Finishing.{finished_stays}
use Rattle.theory_soundness.proofs.Irreducible.{body_irreducible}
use Rattle.theory_soundness.specs.Kept.{Keeps}
use Rattle.theory_soundness.specs.Refines.{RefinesWhere}
use Rattle.theory_soundness.proofs.soundness.Following.{keeps_then, refines_then}
use Rattle.theory_soundness.proofs.kept.Kept.{captures_nothing_still, script_keeps}
use Rattle.theory_soundness.proofs.soundness.Start.{agrees_inside}
use Rattle.theory_soundness.proofs.soundness.Globals.{Promises, globals_in_bodies, look_with_globals, none_at_top, promises_nothing}
use Rattle.theory_soundness.proofs.simulation.Agreement.{KnowsNoGlobal}
use Rattle.theory_meaning.specs.Desugar.{core_stmts}
use Rattle.theory_soundness.proofs.soundness.Whole.{functions_same, optimised_refines, script_refines}
use Rattle.opt_base.specs.Walks.{capture_walk, listing}
use Rattle.script_tables.specs.FnKey.{definition_key, definitions_table}
use Rattle.script_tables.specs.Table.{key_of, put_by, put_all_by, table_of, are_distinct}
use Rattle.script_tables.proofs.Laws.{own_table}
use Rattle.script_tables.proofs.Tables.{map-put_all, are_distinct-put}
use Rattle.opt_base.specs.declared.level.OptimizationLevel.{OptimizationLevel}
use Rattle.opt_base.specs.declared.level.OptimizationLevel.TheVariants as level
use Rattle.rhai_script.specs.Contents.{Contents, meant}
use Rattle.rhai_optimizer.specs.Functions.{header_of, FunctionsRun, no_functions}
use Rattle.rhai_optimizer.specs.Optimised.{optimises_nothing, AreReducedBodies, Becomes, BodiesAgain, BodiesRun, IsReducedScript, Optimised, PartsOnce, PartsOptimised, PartsReduced, PassesCounted}
use Rattle.rhai_optimizer.specs.Source.{source_of}
use Rattle.rhai_optimizer.proofs.Bodies.{table_run, functions_to, same_headers, bodies_reduced, bodies_finished, all_stay, same_keys}
use Rattle.rhai_optimizer.proofs.Passing.{counts_to, counts_once, counts_within}

-- ---- where no function captures, none of a table does

both_true : (a b : Bool) → a ≡ true → b ≡ true → a && b ≡ true
both_true a b h k = ap (λ x. x && b) h ∙ k

put_apart : (gs : List Function) (f : Function) → over_functions capture_walk gs ≡ true → over_stmts capture_walk f.body ≡ true → over_functions capture_walk (put_by key_of gs f) ≡ true
put_apart [] f h k = both_true (over_stmts capture_walk f.body) true k refl
put_apart (g ∷ gs) f h k = by (put_apart gs f (split (over_stmts capture_walk g.body) (over_functions capture_walk gs) h).1 k) (same_key (key_of f) (key_of g)) where
  z : (over_stmts capture_walk g.body ≡ true) × (over_functions capture_walk gs ≡ true)
  z = split (over_stmts capture_walk g.body) (over_functions capture_walk gs) h

  by : over_functions capture_walk (put_by key_of gs f) ≡ true → (b : Bool) → over_functions capture_walk (if b then f ∷ gs else g ∷ put_by key_of gs f) ≡ true
  by rest true = both_true (over_stmts capture_walk f.body) (over_functions capture_walk gs) k z.1
  by rest false = both_true (over_stmts capture_walk g.body) (over_functions capture_walk (put_by key_of gs f)) z.0 rest

table_apart : (gs fs : List Function) → over_functions capture_walk gs ≡ true → over_functions capture_walk fs ≡ true → over_functions capture_walk (put_all_by key_of gs fs) ≡ true
table_apart gs [] h k = h
table_apart gs (f ∷ fs) h k =
    let z = split (over_stmts capture_walk f.body) (over_functions capture_walk fs) k in
    table_apart (put_by key_of gs f) fs (put_apart gs f h z.0) z.1

source_apart : (ss : List Stmt) (fs : List (Rc ScriptFuncDef Global)) → captures_nothing (listing ss fs) ≡ true → captures_nothing (source_of ss fs) ≡ true
source_apart ss fs h =
    let gs = map function_of (map rc_value fs) in
    let z = split (over_stmts capture_walk (stmts_of ss)) (over_functions capture_walk gs) h in
    both_true (over_stmts capture_walk (stmts_of ss)) (over_functions capture_walk (table_of gs)) z.0 (table_apart [] gs refl z.1)

-- what bodies know may be known of the script
may_know : (r : Engine) (start : List ScopeEntry) (ss : List Stmt) (fs : List (Rc ScriptFuncDef Global)) → MayKnow (source_of ss fs) (known_outside r start (listing ss fs))
may_know r start ss fs = by (captures_nothing (listing ss fs)) refl where
  by : (b : Bool) → captures_nothing (listing ss fs) ≡ b → MayKnow (source_of ss fs) (cond b (known_in_bodies r start) [])
  by true h = none_capture (source_apart ss fs h)
  by false h = nothing_known

-- ---- the script

pub table_meant : (fs : List ScriptFuncDef) → map function_of (definitions_table fs) ≡ table_of (map function_of fs)
table_meant fs = map-put_all function_of key_of [] fs

bodies_irreducible : (r : Engine) (fs : List Function) → AreReducedBodies r fs → AreWellFormedFunctions fs → AreIrreducibleBodies r fs
bodies_irreducible r [] h w = tt
bodies_irreducible r (f ∷ fs) h w = (body_irreducible r f.body h.0 w.1, bodies_irreducible r fs h.1 w.2)

script_irreducible : (r : Engine) (p : Script) → IsReducedScript r p → IsWellFormedScript p → IsIrreducibleScript r p
script_irreducible r p h w = record { statements = body_irreducible r p.statements h.statements w.0; functions = bodies_irreducible r p.functions h.functions w.1 }

simple_optimises : level.Simple ≢ level.None
simple_optimises e = cc

full_optimises : level.Full ≢ level.None
full_optimises e = cc

abbrev Inside : Engine → List ScopeEntry → List Stmt → List (Rc ScriptFuncDef Global) → List Known
Inside r start ss fs = known_outside r start (listing ss fs)

-- the functions of the one and of the other, by their tables
of_tables : (k : Context) (fs fs' : List (Rc ScriptFuncDef Global)) → FunctionsTo k (map function_of (definitions_table (map rc_value fs))) (map function_of (definitions_table (map rc_value fs'))) → FunctionsTo k (table_of (map function_of (map rc_value fs))) (table_of (map function_of (map rc_value fs')))
of_tables k fs fs' to =
    subst (λ gs. FunctionsTo k gs (table_of (map function_of (map rc_value fs')))) (table_meant (map rc_value fs))
    (subst (λ gs. FunctionsTo k (map function_of (definitions_table (map rc_value fs))) gs) (table_meant (map rc_value fs')) to)

-- the script that they stand for
made_of : (ss : List Stmt) (fs : List (Rc ScriptFuncDef Global)) (s : Contents) → s.statements ≡ ss → s.functions ≡ definitions_table (map rc_value fs) → source_of ss fs ≡ meant s
made_of ss fs s body table = λ i. record { statements = stmts_of (sym body i); functions = sym (ap (map function_of) table ∙ table_meant (map rc_value fs)) i }

-- ---- functions that are their own table, as those of a table are

abbrev pub IsOwnTable : List (Rc ScriptFuncDef Global) → Type 0
IsOwnTable fs = definitions_table (map rc_value fs) ≡ map rc_value fs

distinct_all : (gs fs : List ScriptFuncDef) → are_distinct (map definition_key gs) ≡ true → are_distinct (map definition_key (put_all_by definition_key gs fs)) ≡ true
distinct_all gs [] h = h
distinct_all gs (f ∷ fs) h = distinct_all (put_by definition_key gs f) fs (are_distinct-put definition_key gs f h)

own_still : {r : Engine} {ks : List Known} (fs fs' : List (Rc ScriptFuncDef Global)) → IsOwnTable fs → FunctionsRun r ks (map rc_value fs) (map rc_value fs') → IsOwnTable fs'
own_still fs fs' own run =
    own_table definition_key (map rc_value fs')
    (ap are_distinct (same_keys run) ∙ sym (ap (λ gs. are_distinct (map definition_key gs)) own) ∙ distinct_all [] (map rc_value fs) refl)

source_listed : (ss : List Stmt) (fs : List (Rc ScriptFuncDef Global)) → IsOwnTable fs → source_of ss fs ≡ listing ss fs
source_listed ss fs own = λ i. record { statements = stmts_of ss; functions = (sym (table_meant (map rc_value fs)) ∙ ap (map function_of) own) i }

inside_source : (r : Engine) (start : List ScopeEntry) (ss : List Stmt) (fs : List (Rc ScriptFuncDef Global)) → IsOwnTable fs → known_outside r start (source_of ss fs) ≡ Inside r start ss fs
inside_source r start ss fs own = ap (known_outside r start) (source_listed ss fs own)

inside_by : (r : Engine) (start : List ScopeEntry) (p q : Script) → (captures_nothing p ≡ true → captures_nothing q ≡ true) → (captures_nothing p ≡ false → q ≡ p) → known_outside r start q ≡ known_outside r start p
inside_by r start p q f g = by (captures_nothing p) refl where
  by : (b : Bool) → captures_nothing p ≡ b → known_outside r start q ≡ known_outside r start p
  by true h = ap (λ c. cond c (known_in_bodies r start) []) (f h ∙ sym h)
  by false h = ap (known_outside r start) (g h)

-- ---- what is told holds, and says nothing of the script's own constants

agrees_outside : (r : Engine) (start : List ScopeEntry) (p : Script) → Agrees r.constants (known_outside r start p) []
agrees_outside r start p = by (captures_nothing p) (agrees_inside r start p) where
  by : (b : Bool) → Agrees r.constants (cond b (known_in_bodies r start ++ known_globals p.statements) []) [] → Agrees r.constants (cond b (known_in_bodies r start) []) []
  by true a = record { is = λ x v h. a.is x v (look_with_globals (known_in_bodies r start) p.statements x ∙ h) }
  by false a = a

none_outside : (r : Engine) (start : List ScopeEntry) (p : Script) → KnowsNoGlobal (known_outside r start p)
none_outside r start p x = by (captures_nothing p) where
  by : (b : Bool) → look_global (cond b (known_in_bodies r start) []) x ≡ None
  by true = ap (λ ks. look_global ks x) (sym (append-nil (known_in_bodies r start))) ∙ globals_in_bodies r start [] x
  by false = refl

outside_promised : (r : Engine) (start : List ScopeEntry) (p : Script) (ss : Stmts) → Promises (known_outside r start p) (core_stmts false ss)
outside_promised r start p ss = promises_nothing (known_outside r start p) (none_outside r start p) (core_stmts false ss)

-- ---- bodies again

-- what the branches say
pub none_both : (a b : Bool) → b ≡ false → a && b ≡ false
none_both true b h = h
none_both false b h = refl

pub none_of_none : (a b : Bool) → a ≡ false → a && b ≡ false
none_of_none true b h = absurd (let z : true ≡ false = h in cc)
none_of_none false b h = refl

pub nothing_captured : (c z : Bool) → c ≡ not z → c ≡ false → z ≡ true
nothing_captured c true h e = refl
nothing_captured c false h e = absurd (let q : true ≡ false = sym h ∙ e in cc)

pub of_length : {A : Type 0} (xs : List A) → (length xs == 0) ≡ true → xs ≡ []
of_length [] h = refl
of_length (x ∷ xs) h = absurd (let e : (suc (length xs) == 0) ≡ false = grind arith in let z : true ≡ false = sym h ∙ e in cc)

-- none become none
none_listed : {r : Engine} {ks : List Known} (fs fs' : List (Rc ScriptFuncDef Global)) → fs ≡ [] → FunctionsRun r ks (map rc_value fs) (map rc_value fs') → fs' ≡ []
none_listed {r = r} {ks = ks} fs fs' h run = by (map rc_value fs) fs' (ap (map rc_value) h) run where
  by : (gs : List ScriptFuncDef) (hs : List (Rc ScriptFuncDef Global)) → gs ≡ [] → FunctionsRun r ks gs (map rc_value hs) → hs ≡ []
  by [] [] e p = refl
  by [] (x ∷ xs) e p = absurd (let z = same_headers p in cc)
  by (g ∷ gs) hs e p = absurd cc

-- what a source lets its bodies know, what was made of it does, where it isn't asked again
module _ {r : Engine} {start : List ScopeEntry} {ss : List Stmt} {fs : List (Rc ScriptFuncDef Global)} {ss' : List Stmt} {fs' : List (Rc ScriptFuncDef Global)} where
  once_to : {captured : Bool} → PartsOnce r start captured ss fs ss' fs' → ScriptTo r (known_at_top r start) (Inside r start ss fs) (listing ss fs) (listing ss' fs')
  once_to o = record { statements = o.statements; functions = functions_to o.bodies }

  still : {captured : Bool} → PartsOnce r start captured ss fs ss' fs' → captures_nothing (listing ss fs) ≡ true → captures_nothing (listing ss' fs') ≡ true
  still o h = captures_nothing_still (once_to o) h

  none_still : (captured : Bool) → PartsOnce r start captured ss fs ss' fs' → captures_nothing (listing ss' fs') ≡ false → captures_nothing (listing ss fs) ≡ false
  none_still captured o h = by (captures_nothing (listing ss fs)) refl where
    by : (b : Bool) → captures_nothing (listing ss fs) ≡ b → captures_nothing (listing ss fs) ≡ false
    by true e = absurd (let z : true ≡ false = sym (still o e) ∙ h in cc)
    by false e = e

  pub again_kept : (captured : Bool) → captured && captures_nothing (listing ss' fs') ≡ false → PartsOnce r start captured ss fs ss' fs' → BodiesAgain r start ss' fs' fs'
  again_kept captured n o = record { run = by captured (captures_nothing (listing ss' fs')) refl refl n o; kept = λ h. refl } where
    as_known : {captured : Bool} → PartsOnce r start captured ss fs ss' fs' → captures_nothing (listing ss fs) ≡ captures_nothing (listing ss' fs') → BodiesRun r start ss' fs' fs'
    as_known o e = subst (λ b. FunctionsRun r (cond b (known_in_bodies r start) []) (map rc_value fs') (map rc_value fs')) e (all_stay o.bodies)

    by_asked : {captured : Bool} → PartsOnce r start captured ss fs ss' fs' → captures_nothing (listing ss' fs') ≡ true → (fs ≡ []) ⊎ (captures_nothing (listing ss fs) ≡ true) → BodiesRun r start ss' fs' fs'
    by_asked o e (inl h) = subst (λ (gs : List (Rc ScriptFuncDef Global)). BodiesRun r start ss' gs gs) (sym (none_listed fs fs' h o.bodies)) no_functions
    by_asked o e (inr h) = as_known o (h ∙ sym e)

    by : (c b : Bool) → captured ≡ c → captures_nothing (listing ss' fs') ≡ b → c && b ≡ false → PartsOnce r start captured ss fs ss' fs' → BodiesRun r start ss' fs' fs'
    by c false i e n o = as_known o (none_still captured o e ∙ sym e)
    by true true i e n o = absurd (let z : true ≡ false = n in cc)
    by false true i e n o = by_asked o e (o.asked i)

-- ---- the script, of its parts

module _ {r : Engine} {start : List ScopeEntry} {ss : List Stmt} {fs : List (Rc ScriptFuncDef Global)} {ss' : List Stmt} {fs' : List (Rc ScriptFuncDef Global)} {number : ℕ} where
  module _ (p : PartsReduced r start ss fs ss' fs' number) where
    first_to : ScriptTo r (known_at_top r start) (Inside r start ss fs) (source_of ss fs) (source_of ss' p.between)
    first_to = record { statements = counts_to p.counts; functions = of_tables (knowing r (Inside r start ss fs)) fs p.between (functions_to (table_run p.first)) }

    second_to : ScriptTo r (known_at_top r start) (Inside r start ss' p.between) (source_of ss' p.between) (source_of ss' fs')
    second_to = record { statements = same_stmts; functions = of_tables (knowing r (Inside r start ss' p.between)) p.between fs' (functions_to (table_run p.second.run)) }

    both_refine : RefinesWhere r (known_at_top r start) (source_of ss fs) (source_of ss' fs')
    both_refine = refines_then (script_refines first_to (may_know r start ss fs) (outside_promised r start (listing ss fs) (stmts_of ss)) (agrees_outside r start (listing ss fs)) (none_at_top r start)) (script_refines second_to (may_know r start ss' p.between) (outside_promised r start (listing ss' p.between) (stmts_of ss')) (agrees_outside r start (listing ss' p.between)) (none_at_top r start))

    both_keep : Keeps (source_of ss fs) (source_of ss' fs')
    both_keep = keeps_then (script_keeps first_to) (script_keeps second_to)

    both_headers : map header_of (definitions_table (map rc_value fs')) ≡ map header_of (definitions_table (map rc_value fs))
    both_headers = same_headers (table_run p.second.run) ∙ same_headers (table_run p.first)

    both_reduced : IsReducedScript r (source_of ss' fs')
    both_reduced = record { statements = p.reduced; functions = subst (λ gs. AreReducedBodies r gs) (table_meant (map rc_value fs')) (bodies_reduced (table_run p.second.run)) }

    module _ (own : IsOwnTable fs) where
      between_own : IsOwnTable p.between
      between_own = own_still fs p.between own p.first

      last_own : IsOwnTable fs'
      last_own = own_still p.between fs' between_own p.second.run

      -- what bodies may know at the end is what they were optimised under
      inside_last : Inside r start ss' fs' ≡ Inside r start ss' p.between
      inside_last = inside_by r start (listing ss' p.between) (listing ss' fs')
          (λ h. captures_nothing_still {engine = r} {top = known_at_top r start} {inner = Inside r start ss' p.between} (record { statements = same_stmts {ss = stmts_of ss'}; functions = functions_to p.second.run }) h)
          (λ h. ap (listing ss') (p.second.kept h))

      both_finished : IsFinishedScript r (known_at_top r start) (known_outside r start (source_of ss' fs')) (source_of ss' fs')
      both_finished =
          let k = inside_source r start ss' fs' last_own ∙ inside_last in
          record {
            statements = p.finished;
            functions = subst (λ gs. AreFinished (knowing r (known_outside r start (source_of ss' fs'))) gs) (table_meant (map rc_value fs'))
                (subst (λ ks. AreFinished (knowing r ks) (map function_of (definitions_table (map rc_value fs')))) (sym k) (bodies_finished (table_run p.second.run)));
          }

      both_stay : IsFinishedScript r (known_at_top r start) (known_outside r start (source_of ss fs)) (source_of ss fs) → source_of ss' fs' ≡ source_of ss fs
      both_stay h =
          let a = finished_stays r (known_at_top r start) (Inside r start ss fs) (source_of ss fs) (source_of ss' p.between) (subst (λ ks. IsFinishedScript r (known_at_top r start) ks (source_of ss fs)) (inside_source r start ss fs own) h) first_to in
          let g = subst (λ q. IsFinishedScript r (known_at_top r start) (known_outside r start q) q) (sym a) h in
          finished_stays r (known_at_top r start) (Inside r start ss' p.between) (source_of ss' p.between) (source_of ss' fs') (subst (λ ks. IsFinishedScript r (known_at_top r start) ks (source_of ss' p.between)) (inside_source r start ss' p.between between_own) g) second_to ∙ a

  module _ {l : OptimizationLevel} (p : PartsOptimised r start l ss fs ss' fs' number) where
    untouched_to : l ≡ level.None → ScriptTo r (known_at_top r start) (Inside r start ss fs) (source_of ss fs) (source_of ss' fs')
    untouched_to h = record {
      statements = subst (λ z. StmtsTo (knowing r (known_at_top r start)) Whole true true (stmts_of ss) (stmts_of z)) (sym (p.none h).0) same_stmts;
      functions = subst (λ z. FunctionsTo (knowing r (Inside r start ss fs)) (source_of ss fs).functions (table_of (map function_of z))) (sym (p.none h).1.0) (functions_same (knowing r (Inside r start ss fs)) (source_of ss fs).functions);
    }

    untouched_is : l ≡ level.None → source_of ss' fs' ≡ source_of ss fs
    untouched_is h = λ i. record { statements = stmts_of ((p.none h).0 i); functions = table_of (map function_of ((p.none h).1.0 i)) }

  refined : (l : OptimizationLevel) → PartsOptimised r start l ss fs ss' fs' number → RefinesWhere r (known_at_top r start) (source_of ss fs) (source_of ss' fs')
  refined level.None p = script_refines (untouched_to p refl) (may_know r start ss fs) (outside_promised r start (listing ss fs) (stmts_of ss)) (agrees_outside r start (listing ss fs)) (none_at_top r start)
  refined level.Simple p = both_refine (p.some simple_optimises)
  refined level.Full p = both_refine (p.some full_optimises)

  kept : (l : OptimizationLevel) → PartsOptimised r start l ss fs ss' fs' number → Keeps (source_of ss fs) (source_of ss' fs')
  kept level.None p = script_keeps (untouched_to p refl)
  kept level.Simple p = both_keep (p.some simple_optimises)
  kept level.Full p = both_keep (p.some full_optimises)

  headers_to : (l : OptimizationLevel) → PartsOptimised r start l ss fs ss' fs' number → map header_of (definitions_table (map rc_value fs')) ≡ map header_of (definitions_table (map rc_value fs))
  headers_to level.None p = ap (λ gs. map header_of (definitions_table gs)) (p.none refl).1.0
  headers_to level.Simple p = both_headers (p.some simple_optimises)
  headers_to level.Full p = both_headers (p.some full_optimises)

  finished_stay : (l : OptimizationLevel) → PartsOptimised r start l ss fs ss' fs' number → IsOwnTable fs → IsFinishedScript r (known_at_top r start) (known_outside r start (source_of ss fs)) (source_of ss fs) → source_of ss' fs' ≡ source_of ss fs
  finished_stay level.None p own h = untouched_is p refl
  finished_stay level.Simple p own h = both_stay (p.some simple_optimises) own h
  finished_stay level.Full p own h = both_stay (p.some full_optimises) own h

  becomes : (l : OptimizationLevel) → IsOwnTable fs → PartsOptimised r start l ss fs ss' fs' number → Becomes r start l (source_of ss fs) (source_of ss' fs')
  becomes l own p = record {
    refines = refined l p;
    keeps = kept l p;
    irreducible = λ h w. script_irreducible r (source_of ss' fs') (both_reduced (p.some h)) ((kept l p).well_formed w);
    reduced = λ h. both_reduced (p.some h);
    finished = λ h. both_finished (p.some h) own;
    stays = finished_stay l p own;
  }

  module _ (before after : Contents) (own : IsOwnTable fs) (from : before.statements ≡ ss) (table : before.functions ≡ definitions_table (map rc_value fs)) (to : after.statements ≡ ss') (table' : after.functions ≡ definitions_table (map rc_value fs')) where
    pub whole : (l : OptimizationLevel) → PartsOptimised r start l ss fs ss' fs' number → (after.source ≡ before.source) × ((after.doc ≡ before.doc) × (after.id ≡ before.id)) → Optimised r start l before after
    whole l p named = record {
      script = subst (λ q. Becomes r start l q (meant after)) (made_of ss fs before from table) (subst (λ q. Becomes r start l (source_of ss fs) q) (made_of ss' fs' after to table') (becomes l own p));
      headers = ap (map header_of) table' ∙ headers_to l p ∙ sym (ap (map header_of) table);
      untouched = λ h. (to ∙ (p.none h).0 ∙ sym from, table' ∙ ap definitions_table (p.none h).1.0 ∙ sym table);
      named = named;
    }

  pub passes_counted : (l : OptimizationLevel) → PartsOptimised r start l ss fs ss' fs' number → PassesCounted r start l (stmts_of ss) (stmts_of ss') number
  passes_counted l p = record { made = λ h. (p.some h).counts; within = λ h. counts_within (p.some h).counts; once = λ h f. counts_once f (p.some h).counts; none = λ h. (p.none h).1.1 }

-- ---- at a level

none_by : (l : OptimizationLevel) → optimises_nothing l ≡ true → l ≡ level.None
none_by level.None h = refl
none_by level.Simple h = absurd (let z : false ≡ true = h in cc)
none_by level.Full h = absurd (let z : false ≡ true = h in cc)

some_by : (l : OptimizationLevel) → optimises_nothing l ≡ false → l ≢ level.None
some_by level.None h e = let z : true ≡ false = h in cc
some_by level.Simple h e = cc
some_by level.Full h e = cc

pub parts_untouched : {r : Engine} {start : List ScopeEntry} (l : OptimizationLevel) (ss : List Stmt) (fs : List (Rc ScriptFuncDef Global)) → optimises_nothing l ≡ true → PartsOptimised r start l ss fs ss fs 0
parts_untouched l ss fs h = record {
  some = λ n. absurd (n (none_by l h));
  none = λ e. (refl, (refl, refl));
}

pub parts_made : {r : Engine} {start : List ScopeEntry} {ss ss' : List Stmt} {fs fs' : List (Rc ScriptFuncDef Global)} {number : ℕ} (l : OptimizationLevel) → optimises_nothing l ≡ false → PartsReduced r start ss fs ss' fs' number → PartsOptimised r start l ss fs ss' fs' number
parts_made l h p = record {
  some = λ n. p;
  none = λ e. absurd (some_by l h e);
}

-- a script that is handed back
same_script : (r : Engine) (start : List ScopeEntry) (p : Script) → OptimisedTo r start p p
same_script r start p = record { statements = same_stmts; functions = functions_same (knowing r (known_inside r start p)) p.functions }

pub script_untouched : {r : Engine} {start : List ScopeEntry} (l : OptimizationLevel) (s : Contents) → optimises_nothing l ≡ true → Optimised r start l s s
script_untouched {r = r} {start = start} l s h = record {
  script = record {
    refines = optimised_refines r start (same_script r start (meant s));
    keeps = script_keeps (same_script r start (meant s));
    irreducible = λ n. absurd (n (none_by l h));
    reduced = λ n. absurd (n (none_by l h));
    finished = λ n. absurd (n (none_by l h));
    stays = λ f. refl;
  };
  headers = refl;
  untouched = λ e. (refl, refl);
  named = (refl, (refl, refl));
}
