-- The members of a map, from the first to the last.
use Rattle.std.proofs.Common.{◌≡◌, ℕ, ◌+◌, ◌<◌, ◌≤◌, Bool, true, List, [], length, drop, get_or, Ok, Err, sym, ap, ◌∙◌, subst, cond}
use Rattle.std.proofs.lemmas.List.{drop_all}
use Rattle.rhai_base.specs.declared.dynamic.Dynamic.{Dynamic}
use Rattle.rhai_base.specs.declared.dynamic.Dynamic.TheVariants as value
use Rattle.rhai_base.specs.Reading.{value_of, value_of-Map, members_of}
use Rattle.rhai_base.specs.Value.{Text, Fields, MapV, fields}
use Rattle.base_tokens.specs.declared.ident.Ident.{Ident}
use Rattle.ast_types.specs.declared.expr.Expr.{Expr}
use Rattle.ast_types.specs.Reading.{expr_of, pairs_of}
use Rattle.ast_types.proofs.ItemLists.{pairs_of-drop}
use Rattle.theory_meaning.specs.Tree as tree
use Rattle.theory_meaning.specs.Act.{Act}
use Rattle.theory_meaning.specs.ActForms.{give, ◌>>=◌}
use Rattle.theory_meaning.specs.Core as core
use Rattle.theory_meaning.specs.Desugar.{core_expr, core_pairs}
use Rattle.theory_meaning.specs.Elements.{with_entries, with_entry}
use Rattle.theory_meaning.specs.Meaning.{act, with_pairs}
use Rattle.theory_meaning.specs.Shape.{is_map}
use Rattle.run_state.specs.declared.state.Interrupt.{Interrupt}
use Rattle.run_state.specs.declared.state.State.{State}
use Rattle.run_state.specs.Evaluating.{RunsCore, RunsExpr, RunsMembers}
use Rattle.run_state.specs.Runs.{Setting, Task, Acting, Goes}
use Rattle.run_state.proofs.Goes.{gives, goes_on, goes_then, goes_as, stops_then, value_goes, value_stops}

module _ (here : Setting) (loop : Bool) where
  abbrev rest_of : List (Ident × Expr) → Fields → (Fields → Act) → Task
  rest_of ps fs next = Acting (with_pairs here.world (core_pairs loop (pairs_of ps)) (λ vs. next (with_entries fs vs)))

  -- the members before the rest are in the map
  pub record MembersAt (xs rest : List (Ident × Expr)) (s : State) (m : List (Text × Dynamic)) (s' : State) : Type 0 where
    pub so : (next : Fields → Act) → Goes here (rest_of xs (fields []) next) s (rest_of rest (fields (members_of m)) next) s'

  pub members_start : (xs : List (Ident × Expr)) (s : State) → MembersAt xs xs s [] s
  members_start xs s = record { so = λ next. goes_on here _ s }

  module _ (xs : List (Ident × Expr)) (i : ℕ) (e : Ident × Expr) (s s1 s2 : State) (m : List (Text × Dynamic)) (h : i < length xs) (is : e ≡ get_or xs i e) (p : MembersAt xs (drop i xs) s m s1) where
    pair_here : pairs_of (drop i xs) ≡ tree.pair e.0.name (expr_of e.1) (pairs_of (drop (i + 1) xs))
    pair_here = pairs_of-drop xs i e h ∙ ap (λ (y : Ident × Expr). tree.pair y.0.name (expr_of y.1) (pairs_of (drop (i + 1) xs))) (sym is)

    member_here : (next : Fields → Act) → Goes here (rest_of xs (fields []) next) s (Acting (act here.world (core_expr loop (expr_of e.1)) >>= λ v. with_pairs here.world (core_pairs loop (pairs_of (drop (i + 1) xs))) (λ vs. next (with_entries (with_entry (fields (members_of m)) e.0.name v) vs)))) s1
    member_here next = goes_then here (p.so next) (goes_as here _ _ s1 (ap (λ ps. Acting (with_pairs here.world (core_pairs loop ps) (λ vs. next (with_entries (fields (members_of m)) vs)))) pair_here))

    pub members_stop : (x : Interrupt) → RunsExpr here loop (expr_of e.1) s1 (Err x) s2 → RunsMembers here loop (pairs_of xs) s (Err x) s2
    members_stop x q = λ next. stops_then here s2 x (member_here next) (value_stops here _ _ s1 s2 x q)

    pub members_next : (v : Dynamic) (m' : List (Text × Dynamic)) → RunsExpr here loop (expr_of e.1) s1 (Ok v) s2 → fields (members_of m') ≡ with_entry (fields (members_of m)) e.0.name (value_of v) → MembersAt xs (drop (i + 1) xs) s m' s2
    members_next v m' q k = record {
      so = λ next. goes_then here (member_here next) (goes_then here (value_goes here _ q) (goes_as here _ _ s2 (ap (λ fs. rest_of (drop (i + 1) xs) fs next) (sym k))));
    }

  pub members_end : (xs : List (Ident × Expr)) (i : ℕ) (s s1 : State) (m : List (Text × Dynamic)) → length xs ≤ i → MembersAt xs (drop i xs) s m s1 → RunsMembers here loop (pairs_of xs) s (Ok m) s1
  members_end xs i s s1 m h p = λ next. goes_then here (p.so next) (goes_as here _ _ s1 (ap (λ rest. rest_of rest (fields (members_of m)) next) (drop_all i xs h)))

  -- the whole literal, by its keys
  module _ (ps : tree.Pairs) (template : List Text) where
    abbrev map_core : core.Expr
    map_core = core_expr loop (tree.MapOf ps template)

    map_is : (b : Bool) → is_map template ps ≡ b → (cond b (core.MapOf (core_pairs loop ps)) core.Ill) ≡ map_core
    map_is b h = ap (λ c. cond c (core.MapOf (core_pairs loop ps)) core.Ill) (sym h)

    pub map_stops : (s s1 : State) (x : Interrupt) → is_map template ps ≡ true → RunsMembers here loop ps s (Err x) s1 → RunsCore here map_core s (Err x) s1
    map_stops s s1 x h q = subst (λ e. RunsCore here e s (Err x) s1) (map_is true h) (q (λ fs. give (MapV fs)))

    pub map_runs : (s s1 : State) (m : List (Text × Dynamic)) → is_map template ps ≡ true → RunsMembers here loop ps s (Ok m) s1 → RunsCore here map_core s (Ok (value.Map m)) s1
    map_runs s s1 m h q = subst (λ e. RunsCore here e s (Ok (value.Map m)) s1) (map_is true h) (goes_then here (q (λ fs. give (MapV fs))) (gives here _ _ s1 (sym (value_of-Map m))))
