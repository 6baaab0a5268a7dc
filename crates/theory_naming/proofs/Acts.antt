-- Acts that run alike but for names.
use Rattle.std.proofs.Common.{◌≡◌, ℕ, zero, suc, ◌+◌, ◌-◌, ℤ, Bool, true, false, not, cond, ◌&&◌, List, [], ◌∷◌, ◌++◌, length, Option, Some, None, refl, sym, ap, ◌∙◌, subst}
use Rattle.std.specs.Prelude.{option_map, codes, slice_get, ◌||◌, if◌then◌else◌, pos, ◌+ℤ◌, ◌^◌, nat_lt}
use Rattle.rhai_base.specs.Value.{Text, Value, TextV, same_text, type_name, holds_float, text_of, PointerV, values}
use Rattle.theory_meaning.specs.Engine.{Engine, constant_named, has_override, is_open, built_in, has_entry, assigning, mapped_name, mapped_type_name}
use Rattle.theory_meaning.specs.Act.{EntryKind, IsConstant, ScopeEntry, is_constant, is_name, HostCall, Answer, Host, Key, World, Store, Stuck, IsStuck, Unbound, WriteToConstant, UnboundThis, Again, Ending, Leaves, Root, OfName, OfGlobal, OfThis, ScriptCall, Act, Stop, Fail, Then, Turn, Read, Write, Resolve, AskHost, Invoke, Loop, Scoped, Acts, Only, Do, Named, Finish, Env, found, resolved, read, read_global, read_this, write_at, write, write_global, write_this, rounds, run, run_all, IsVariable, WrongKind, NoPlace, UnknownModule, CounterTooLarge, IsExport}
use Rattle.theory_naming.specs.Naming.{OptionOf, both_none, both_some, ListOf, both_empty, both_more, Like, unit_like, bool_like, int_like, float_like, char_like, text_like, array_like, map_like, pointer_like, range_like, inclusive_like, Likes, MaybeLike, EntryLike, entry_like, HostName, CallLike, call_like, AnswerLike, answers_like, throws_like, HostLike, StoreLike, ExitLike, returns_like, breaks_like, continues_like, throw_like, again_like, EndingLike, gives_like, leaves_like, ended_like, halted_like, ResultLike, at_like, KeyLike, ScriptCallLike, script_call_like, as_it_is, as_a_function, key_like, ComputedLike, no_entry_like, is_like, overflows_like, CurrentLike, current_like, AccessLike, of_property_like, of_index_like, of_method_like, CalleeLike, operator_like, qualified_like, by_name_like, IsFn, Total, none_like, no_fields_like, PairLike, named_like, ExprLike, ill_like, constant_like, interpolated_like, array_of_like, map_of_like, variable_like, global_variable_like, module_variable_like, module_of_like, this_like, block_expr_like, call_expr_like, fn_like, chain_like, and_like, or_like, coalesce_like, ExprsLike, no_exprs_like, expr_like, PairsLike, no_pairs_like, pair_like, BaseLike, on_place_like, on_value_like, StepLike, ill_step_like, property_like, index_like, method_like, StepsLike, last_like, more_like, TargetLike, ill_target_like, nowhere_like, to_root_like, to_part_like, GuardLike, always_like, when_like, ArmsLike, no_arms_like, arm_like, unlisted_like, DeedLike, ill_deed_like, noop_like, if_deed_like, switch_like, while_like, do_like, for_like, assignment_like, block_like, try_like, evaluate_like, discard_like, leave_like, StmtLike, var_like, does_like, StmtsLike, no_stmts_like, stmt_like}
use Rattle.theory_naming.proofs.Values.{float_kept, length_kept, append_like, if_like, map_both, type_kept, types_kept, unit_kept, truth_kept, items_like, values_like, element_like, entry_kept, along_like, with_along_like, character_like, bit_like, chosen_kept, same_kept, with_entries_like}
use Rattle.base_tokens.specs.Names.{is_valid_name}
use Rattle.rhai_base.specs.Operators.{Operator, Computed, NoEntry, symbol, computed, is_range}
use Rattle.theory_meaning.specs.ActForms.{give, unit, throw, value_then, ◌>>=◌, each_value, then_line, choose, truth, branch, if_true, on_throw, end_round, again_then, of_constant, answered, ask_host, ask_method}
use Rattle.theory_meaning.specs.Calls.{of_table, operate, assigned, pointer_to, curried, has_key, key, call_named, call_pointer, Word, ToHost, TypeOf, IsShared, Fn, Curry, CallFn, NoWord, word, call_word, within, called}
use Rattle.theory_meaning.specs.Chains.{Access, or_throw, ask_for, property, index, after_method, method_key, to_method, value_alone, method, applied, unless_unit, set_by_host, set_element, set_property, set_index, set_at, assign_last, assign_root}
use Rattle.theory_meaning.specs.Control.{text_in, texts_joined, ArmActs, try_arm, first_arm, answer_of, default_of, chosen, switch_on, round, while_guarded, do_loop, counted, for_each, for_count, for_all, named, end_branch, try_of}
use Rattle.theory_meaning.specs.Core.{Callee, ByName, ExitKind, Breaking, Continuing, Returning, Throwing, Expr, Exprs, Pairs, Base, Step, Steps, Target, Guard, Arms, Deed, Stmt, Stmts}
use Rattle.theory_meaning.specs.Run.{body_acts}
use Rattle.theory_meaning.specs.Meaning.{exit, wanted_value, text, module_known, module_at, exporting, act, with_args, with_pairs, both, either, first_some, at_base, access, steps, assign_steps, assign, arm_acts, loop, deed, line, acts}
use Rattle.theory_meaning.specs.Places.{Place, Current, or_no_place, read_place, write_place, refreshed, put_back}
use Rattle.theory_meaning.specs.Shape.{names_arm}
use Rattle.theory_meaning.specs.Tree.{PropertyNames, SwitchTable}
use Rattle.theory_meaning.specs.Walk.{listed, arm_of_default}
use Rattle.theory_naming.proofs.Listed.{AreListed, chosen_listed, default_listed, next_named, first_named, not_named}
use Rattle.theory_naming.proofs.Scopes.{bound_like, declared_like, inside_like, resolved_kept, or_found, put_like, then_like, turn_like, leave_like', called_like, returned_like, rounds_like}

module _ (N : Text → Text → Type 0) (engine : Engine) (known : (x : Text) → MaybeLike N (constant_named engine.constants x) (constant_named engine.constants x)) (h h' : Host) (hosts : HostLike N h h') (ks ls : List Key) where
  abbrev pub w : World
  w = record { engine = engine; host = h; functions = ks }

  abbrev pub w' : World
  w' = record { engine = engine; host = h'; functions = ls }

  known_entry : (x : Text) {o p : Option Value} → MaybeLike N o p → OptionOf (EntryLike N) (option_map (λ v. record { name = x; kind = IsConstant; value = v }) o) (option_map (λ v. record { name = x; kind = IsConstant; value = v }) p)
  known_entry x both_none = both_none
  known_entry x (both_some h) = both_some (entry_like x IsConstant h)

  found_like : {es fs : List ScopeEntry} → ListOf (EntryLike N) es fs → (x : Text) → OptionOf (EntryLike N) (found engine.constants es x) (found engine.constants fs x)
  found_like both_empty x = known_entry x (known x)
  found_like (both_more (entry_like y k j) r) x = or_found (is_name k && same_text y x) (entry_like y k j) (found_like r x)

  read_like : {o p : Option ScopeEntry} → OptionOf (EntryLike N) o p → {s s' : Store} → StoreLike N s s' → (t : ℕ) → ResultLike N (read o s t) (read p s' t)
  read_like both_none q t = at_like t (halted_like (IsStuck Unbound)) q
  read_like (both_some (entry_like x k h)) q t = at_like t (ended_like (gives_like h)) q

  read_global_like : {o p : Option Value} → MaybeLike N o p → {s s' : Store} → StoreLike N s s' → (t : ℕ) → ResultLike N (read_global o s t) (read_global p s' t)
  read_global_like both_none q t = at_like t (halted_like (IsStuck Unbound)) q
  read_global_like (both_some h) q t = at_like t (ended_like (gives_like h)) q

  read_this_like : {o p : Option Value} → MaybeLike N o p → {s s' : Store} → StoreLike N s s' → (t : ℕ) → ResultLike N (read_this o s t) (read_this p s' t)
  read_this_like both_none q t = at_like t (halted_like (IsStuck UnboundThis)) q
  read_this_like (both_some h) q t = at_like t (ended_like (gives_like h)) q

  write_at_like : (must b : Bool) (x : Text) {v v' : Value} → Like N v v' → {s s' : Store} → StoreLike N s s' → (t : ℕ) → ResultLike N (write_at must b x v s t) (write_at must b x v' s' t)
  write_at_like true true x h q t = at_like t (halted_like (IsStuck WriteToConstant)) q
  write_at_like false true x h q t = at_like t (ended_like (gives_like unit_like)) q
  write_at_like true false x h q t = at_like t (ended_like (gives_like unit_like)) (record { scope = put_like q.scope x h; globals = q.globals; own = q.own; this = q.this; calls = q.calls })
  write_at_like false false x h q t = at_like t (ended_like (gives_like unit_like)) (record { scope = put_like q.scope x h; globals = q.globals; own = q.own; this = q.this; calls = q.calls })

  write_like : (must : Bool) {o p : Option ScopeEntry} → OptionOf (EntryLike N) o p → (x : Text) {v v' : Value} → Like N v v' → {s s' : Store} → StoreLike N s s' → (t : ℕ) → ResultLike N (write must o x v s t) (write must p x v' s' t)
  write_like must both_none x h q t = at_like t (halted_like (IsStuck Unbound)) q
  write_like must (both_some (entry_like y k j)) x h q t = write_at_like must (is_constant k) x h q t

  write_global_like : (must : Bool) {o p : Option Value} → MaybeLike N o p → {s s' : Store} → StoreLike N s s' → (t : ℕ) → ResultLike N (write_global must o s t) (write_global must p s' t)
  write_global_like must both_none q t = at_like t (halted_like (IsStuck Unbound)) q
  write_global_like true (both_some h) q t = at_like t (halted_like (IsStuck WriteToConstant)) q
  write_global_like false (both_some h) q t = at_like t (ended_like (gives_like unit_like)) q

  write_this_like : {o p : Option Value} → MaybeLike N o p → {v v' : Value} → Like N v v' → {s s' : Store} → StoreLike N s s' → (t : ℕ) → ResultLike N (write_this o v s t) (write_this p v' s' t)
  write_this_like both_none h q t = at_like t (halted_like (IsStuck UnboundThis)) q
  write_this_like (both_some j) h q t = at_like t (ended_like (gives_like unit_like)) (record { scope = q.scope; globals = q.globals; own = q.own; this = both_some h; calls = q.calls })

  -- a script call, at each depth
  pub record EnvLike (env env' : Env) : Type 0 where
    pub rounds : env.rounds ≡ env'.rounds
    pub invoke : (a b : ScriptCall) → ScriptCallLike N a b → (s s' : Store) → StoreLike N s s' → (t : ℕ) → ResultLike N (env.invoke a s t) (env'.invoke b s' t)

  module _ (env env' : Env) (envs : EnvLike env env') where
    pub record R (a b : Act) : Type 0 where
      pub at : (s s' : Store) → StoreLike N s s' → (t : ℕ) → ResultLike N (run w env a s t) (run w' env' b s' t)

    pub record Rs (p q : Acts) : Type 0 where
      pub at : (s s' : Store) → StoreLike N s s' → (t : ℕ) → ResultLike N (run_all w env p s t) (run_all w' env' q s' t)

    pub r_stop : {e e' : Ending} → EndingLike N e e' → R (Stop e) (Stop e')
    r_stop h = record { at = λ s s' q t. at_like t (ended_like h) q }

    pub r_fail : (f : Stuck) → R (Fail f) (Fail f)
    r_fail f = record { at = λ s s' q t. at_like t (halted_like (IsStuck f)) q }

    pub r_then : {a b : Act} → R a b → (f f' : Ending → Act) → ((e e' : Ending) → EndingLike N e e' → R (f e) (f' e')) → R (Then a f) (Then b f')
    r_then h f f' k = record { at = λ s s' q t. then_like (h.at s s' q t) _ _ (λ e e' j s1 s2 q1 t1. (k e e' j).at s1 s2 q1 t1) }

    pub r_turn : {a b : Act} → R a b → R (Turn a) (Turn b)
    r_turn h = record { at = λ s s' q t. turn_like t q _ _ (λ t1. h.at s s' q t1) }

    pub r_read : (r : Root) → R (Read r) (Read r)
    r_read (OfName x) = record { at = λ s s' q t. read_like (found_like q.scope x) q t }
    r_read (OfGlobal x) = record { at = λ s s' q t. read_global_like (bound_like q.globals x) q t }
    r_read OfThis = record { at = λ s s' q t. read_this_like q.this q t }

    pub r_write : (must : Bool) (r : Root) {v v' : Value} → Like N v v' → R (Write must r v) (Write must r v')
    r_write must (OfName x) h = record { at = λ s s' q t. write_like must (found_like q.scope x) x h q t }
    r_write must (OfGlobal x) h = record { at = λ s s' q t. write_global_like must (bound_like q.globals x) q t }
    r_write must OfThis h = record { at = λ s s' q t. write_this_like q.this h q t }

    pub r_resolve : (a : Text) (f f' : Text → Act) → ((m : Text) → R (f m) (f' m)) → R (Resolve a f) (Resolve a f')
    r_resolve a f f' k = record { at = λ s s' q t. subst (λ m. ResultLike N (run w env (f (resolved s.scope a)) s t) (run w' env' (f' m) s' t)) (resolved_kept q.scope a) ((k (resolved s.scope a)).at s s' q t) }

    pub r_ask : {c d : HostCall} → CallLike N c d → (f f' : Answer → Act) → ((a b : Answer) → AnswerLike N a b → R (f a) (f' b)) → R (AskHost c f) (AskHost d f')
    r_ask {c = c} {d = d} h f f' k = record { at = λ s s' q t. (k _ _ (hosts.answer s.calls s'.calls c d q.calls h)).at _ _ (record { scope = q.scope; globals = q.globals; own = q.own; this = q.this; calls = append_like q.calls (both_more h both_empty) }) t }

    pub r_invoke : {a b : ScriptCall} → ScriptCallLike N a b → (f f' : Value → Option Value → Act) → ((v v' : Value) → Like N v v' → (o p : Option Value) → MaybeLike N o p → R (f v o) (f' v' p)) → R (Invoke a f) (Invoke b f')
    r_invoke {a = a} {b = b} h f f' k = record { at = λ s s' q t. called_like q (envs.invoke a b h _ _ q t) _ _ (λ v v' j o p l s1 s2 q1 t1. (k v v' j o p l).at s1 s2 q1 t1) }

    pub r_loop : {a b : Act} → R a b → R (Loop a) (Loop b)
    r_loop {a = a} {b = b} h = record { at = λ s s' q t. subst (λ n. ResultLike N (rounds env.rounds (run w env a) s t) (rounds n (run w' env' b) s' t)) envs.rounds (rounds_like env.rounds _ _ (λ s1 s2 q1 t1. h.at s1 s2 q1 t1) q t) }

    pub r_scoped : {p q : Acts} → Rs p q → R (Scoped p) (Scoped q)
    r_scoped h = record { at = λ s s' q t. leave_like' q (h.at _ _ (inside_like q) t) }

    pub r_only : {a b : Act} → R a b → Rs (Only a) (Only b)
    r_only h = record { at = λ s s' q t. h.at s s' q t }

    pub r_do : {a b : Act} → R a b → (f f' : Ending → Acts) → ((e e' : Ending) → EndingLike N e e' → Rs (f e) (f' e')) → Rs (Do a f) (Do b f')
    r_do h f f' k = record { at = λ s s' q t. then_like (h.at s s' q t) _ _ (λ e e' j s1 s2 q1 t1. (k e e' j).at s1 s2 q1 t1) }

    pub r_named : (x : Text) (k : EntryKind) {v v' : Value} → Like N v v' → {p q : Acts} → Rs p q → Rs (Named x k v p) (Named x k v' q)
    r_named x k j h = record { at = λ s s' q t. h.at _ _ (declared_like x k j q) t }

    pub r_finish : {p q : Acts} → Rs p q → Rs (Finish p) (Finish q)
    r_finish h = record { at = λ s s' q t. returned_like (h.at s s' q t) }

    -- ---- constructs

    -- one: names stand for each other one to one; texts: a value's text doesn't show which; keys: both tables have the functions
    module _ (one : (f f' g g' : Text) → N f f' → N g g' → same_text f g ≡ same_text f' g') (texts : (v v' : Value) → Like N v v' → text_of v ≡ text_of v') (table : (op : Operator) (vs ws : List Value) → Likes N vs ws → ComputedLike N (computed op vs) (computed op ws)) (keys : (k l : Key) → KeyLike N k l → has_key ks k ≡ has_key ls l) where
      pub r_give : {v v' : Value} → Like N v v' → R (give v) (give v')
      r_give h = r_stop (gives_like h)

      r_unit : R unit unit
      r_unit = r_give unit_like

      r_throw : (t : Text) → R (throw t) (throw t)
      r_throw t = r_stop (leaves_like (throw_like (text_like t)))

      value_like : (f f' : Value → Act) → ((v v' : Value) → Like N v v' → R (f v) (f' v')) → (e e' : Ending) → EndingLike N e e' → R (value_then f e) (value_then f' e')
      value_like f f' k _ _ (gives_like h) = k _ _ h
      value_like f f' k _ _ (leaves_like x) = r_stop (leaves_like x)

      pub r_bind : {a b : Act} → R a b → (f f' : Value → Act) → ((v v' : Value) → Like N v v' → R (f v) (f' v')) → R (a >>= f) (b >>= f')
      r_bind h f f' k = r_then h _ _ (value_like f f' k)

      each_like : (f f' : Value → Acts) → ((v v' : Value) → Like N v v' → Rs (f v) (f' v')) → (e e' : Ending) → EndingLike N e e' → Rs (each_value f e) (each_value f' e')
      each_like f f' k _ _ (gives_like h) = k _ _ h
      each_like f f' k _ _ (leaves_like x) = r_only (r_stop (leaves_like x))

      pub r_line : {a b : Act} → R a b → (f f' : Value → Acts) → ((v v' : Value) → Like N v v' → Rs (f v) (f' v')) → Rs (then_line a f) (then_line b f')
      r_line h f f' k = r_do h _ _ (each_like f f' k)

      r_choose : (b : Bool) {a a' c c' : Act} → R a a' → R c c' → R (choose b a c) (choose b a' c')
      r_choose true h k = h
      r_choose false h k = k

      r_choose_by : {b b' : Bool} → b ≡ b' → {a a' c c' : Act} → R a a' → R c c' → R (choose b a c) (choose b' a' c')
      r_choose_by {b = b} e {a = a} {a' = a'} {c = c} {c' = c'} h k = subst (λ d. R (choose b a c) (choose d a' c')) e (r_choose b h k)

      r_branch : (o : Option Bool) {a a' c c' : Act} → R a a' → R c c' → R (branch o a c) (branch o a' c')
      r_branch None h k = r_fail WrongKind
      r_branch (Some b) h k = r_choose b h k

      r_if : {v v' : Value} → Like N v v' → {a a' c c' : Act} → R a a' → R c c' → R (if_true v a c) (if_true v' a' c')
      r_if {v = v} j {a = a} {a' = a'} {c = c} {c' = c'} h k = subst (λ o. R (branch (truth v) a c) (branch o a' c')) (truth_kept j) (r_branch (truth v) h k)

      r_on_throw : (f f' : Value → Act) → ((v v' : Value) → Like N v v' → R (f v) (f' v')) → (e e' : Ending) → EndingLike N e e' → R (on_throw f e) (on_throw f' e')
      r_on_throw f f' k _ _ (gives_like h) = r_unit
      r_on_throw f f' k _ _ (leaves_like (throw_like h)) = k _ _ h
      r_on_throw f f' k _ _ (leaves_like (returns_like h)) = r_stop (leaves_like (returns_like h))
      r_on_throw f f' k _ _ (leaves_like (breaks_like h)) = r_stop (leaves_like (breaks_like h))
      r_on_throw f f' k _ _ (leaves_like continues_like) = r_stop (leaves_like continues_like)
      r_on_throw f f' k _ _ (leaves_like again_like) = r_stop (leaves_like again_like)

      r_end_round : (e e' : Ending) → EndingLike N e e' → R (end_round e) (end_round e')
      r_end_round _ _ (gives_like h) = r_stop (leaves_like again_like)
      r_end_round _ _ (leaves_like (breaks_like h)) = r_give h
      r_end_round _ _ (leaves_like continues_like) = r_stop (leaves_like again_like)
      r_end_round _ _ (leaves_like (returns_like h)) = r_stop (leaves_like (returns_like h))
      r_end_round _ _ (leaves_like (throw_like h)) = r_stop (leaves_like (throw_like h))
      r_end_round _ _ (leaves_like again_like) = r_stop (leaves_like again_like)

      r_again : {a b : Act} → R a b → (e e' : Ending) → EndingLike N e e' → R (again_then a e) (again_then b e')
      r_again h _ _ (leaves_like again_like) = h
      r_again h _ _ (gives_like j) = r_give j
      r_again h _ _ (leaves_like continues_like) = r_stop (leaves_like continues_like)
      r_again h _ _ (leaves_like (returns_like j)) = r_stop (leaves_like (returns_like j))
      r_again h _ _ (leaves_like (breaks_like j)) = r_stop (leaves_like (breaks_like j))
      r_again h _ _ (leaves_like (throw_like j)) = r_stop (leaves_like (throw_like j))

      r_of_constant : {o p : Option Value} → MaybeLike N o p → R (of_constant o) (of_constant p)
      r_of_constant both_none = r_fail Unbound
      r_of_constant (both_some h) = r_give h

      r_answered : (f f' : Value → Option Value → Act) → ((v v' : Value) → Like N v v' → (o p : Option Value) → MaybeLike N o p → R (f v o) (f' v' p)) → (a b : Answer) → AnswerLike N a b → R (answered f a) (answered f' b)
      r_answered f f' k _ _ (answers_like h j) = k _ _ h _ _ j
      r_answered f f' k _ _ (throws_like h) = r_stop (leaves_like (throw_like h))

      r_ask_host : {f g : Text} → HostName N f g → {vs ws : List Value} → Likes N vs ws → R (ask_host f vs) (ask_host g ws)
      r_ask_host n h = r_ask (call_like n both_none h) _ _ (r_answered _ _ (λ v v' j o p q. r_give j))

      r_ask_method : {f g : Text} → HostName N f g → {v v' : Value} → Like N v v' → {vs ws : List Value} → Likes N vs ws → (f1 f2 : Value → Option Value → Act) → ((x x' : Value) → Like N x x' → (o p : Option Value) → MaybeLike N o p → R (f1 x o) (f2 x' p)) → R (ask_method f v vs f1) (ask_method g v' ws f2)
      r_ask_method n j h f f' k = r_ask (call_like n (both_some j) h) _ _ (r_answered f f' k)

      -- ---- calls

      r_table : (f : Text) {vs ws : List Value} → Likes N vs ws → {c d : Computed} → ComputedLike N c d → R (of_table f vs c) (of_table f ws d)
      r_table f h no_entry_like = r_ask_host (as_it_is f) h
      r_table f h (is_like j) = r_give j
      r_table f h overflows_like = r_throw _

      open_kept : (op : Operator) {vs ws : List Value} → Likes N vs ws → is_open engine op vs ≡ is_open engine op ws
      open_kept op h = λ i. is_range op || engine.fast_operators || not (has_override engine.overrides (symbol op) (types_kept h i))

      built_like : (op : Operator) {vs ws : List Value} → Likes N vs ws → ComputedLike N (built_in engine op vs) (built_in engine op ws)
      built_like op {vs = vs} {ws = ws} h =
          subst (λ b. ComputedLike N (if is_open engine op vs then computed op vs else NoEntry) (if b then computed op ws else NoEntry)) (open_kept op h) (if_like (ComputedLike N) (is_open engine op vs) (table op vs ws h) no_entry_like)

      r_operate : (op : Operator) {vs ws : List Value} → Likes N vs ws → R (operate w op vs) (operate w' op ws)
      r_operate op h = r_table (symbol op) h (built_like op h)

      has_kept : {c d : Computed} → ComputedLike N c d → has_entry c ≡ has_entry d
      has_kept no_entry_like = refl
      has_kept (is_like h) = refl
      has_kept overflows_like = refl

      r_assigned : (o : Option Operator) {a a' b b' : Value} → Like N a a' → Like N b b' → R (assigned w o a b) (assigned w' o a' b')
      r_assigned None h k = r_give k
      r_assigned (Some op) h k =
          let l = both_more h (both_more k both_empty) in
          r_choose_by (λ i. has_override engine.overrides (assigning op) (types_kept l i) && not (engine.fast_operators && has_kept (table op _ _ l) i)) (r_ask_host (as_it_is _) l) (r_operate op l)

      r_pointer : (t : Text) → N t t → R (pointer_to (TextV t)) (pointer_to (TextV t))
      r_pointer t n = r_choose (is_valid_name t) (r_give (pointer_like n none_like)) (r_throw _)

      r_valid : (t : Text) (b : Bool) → is_valid_name t ≡ b → Total N → R (choose b (give (PointerV t (values []))) (throw (codes "function name"))) (choose b (give (PointerV t (values []))) (throw (codes "function name")))
      r_valid t true e all = r_give (pointer_like (all t e) none_like)
      r_valid t false e all = r_throw _

      r_any_pointer : Total N → {v v' : Value} → Like N v v' → R (pointer_to v) (pointer_to v')
      r_any_pointer all (text_like t) = r_valid t (is_valid_name t) refl all
      r_any_pointer all unit_like = r_fail WrongKind
      r_any_pointer all (bool_like x) = r_fail WrongKind
      r_any_pointer all (int_like x) = r_fail WrongKind
      r_any_pointer all (float_like x) = r_fail WrongKind
      r_any_pointer all (char_like x) = r_fail WrongKind
      r_any_pointer all (array_like x) = r_fail WrongKind
      r_any_pointer all (map_like x) = r_fail WrongKind
      r_any_pointer all (pointer_like n x) = r_fail WrongKind
      r_any_pointer all (range_like x y) = r_fail WrongKind
      r_any_pointer all (inclusive_like x y) = r_fail WrongKind

      r_curried : {v v' : Value} → Like N v v' → {vs ws : List Value} → Likes N vs ws → R (curried v vs) (curried v' ws)
      r_curried (pointer_like n x) q = r_give (pointer_like n (values_like (append_like (items_like x) q)))
      r_curried unit_like q = r_fail WrongKind
      r_curried (bool_like x) q = r_fail WrongKind
      r_curried (int_like x) q = r_fail WrongKind
      r_curried (float_like x) q = r_fail WrongKind
      r_curried (char_like x) q = r_fail WrongKind
      r_curried (text_like x) q = r_fail WrongKind
      r_curried (array_like x) q = r_fail WrongKind
      r_curried (map_like x) q = r_fail WrongKind
      r_curried (range_like x y) q = r_fail WrongKind
      r_curried (inclusive_like x y) q = r_fail WrongKind

      key_at : {f g : Text} → N f g → {vs ws : List Value} → Likes N vs ws → (t : Option Text) → KeyLike N (key f (length vs) t) (key g (length ws) t)
      key_at {f = f} {g = g} n {vs = vs} h t = subst (λ m. KeyLike N (key f (length vs) t) (key g m t)) (length_kept h) (key_like (length vs) t n)

      r_call_named : (b : Bool) {f g : Text} → N f g → {vs ws : List Value} → Likes N vs ws → R (call_named w b f vs) (call_named w' b g ws)
      r_call_named b n h = r_choose_by (keys _ _ (key_at n h None)) (r_invoke (script_call_like b (key_at n h None) both_none h) _ _ (λ v v' j o p q. r_give j)) (r_ask_host (as_a_function n) h)

      r_call_pointer : (b : Bool) {v v' : Value} → Like N v v' → {vs ws : List Value} → Likes N vs ws → R (call_pointer w b v vs) (call_pointer w' b v' ws)
      r_call_pointer b (pointer_like n x) q = r_call_named b n (append_like (items_like x) q)
      r_call_pointer b unit_like q = r_fail WrongKind
      r_call_pointer b (bool_like x) q = r_fail WrongKind
      r_call_pointer b (int_like x) q = r_fail WrongKind
      r_call_pointer b (float_like x) q = r_fail WrongKind
      r_call_pointer b (char_like x) q = r_fail WrongKind
      r_call_pointer b (text_like x) q = r_fail WrongKind
      r_call_pointer b (array_like x) q = r_fail WrongKind
      r_call_pointer b (map_like x) q = r_fail WrongKind
      r_call_pointer b (range_like x y) q = r_fail WrongKind
      r_call_pointer b (inclusive_like x y) q = r_fail WrongKind

      type_kept_as : {v v' : Value} → Like N v v' → Like N (TextV (mapped_type_name engine v)) (TextV (mapped_type_name engine v'))
      type_kept_as {v = v} h = subst (λ t. Like N (TextV (mapped_type_name engine v)) (TextV (mapped_name engine t))) (type_kept h) (text_like _)

      r_call_word : (b : Bool) {f g : Text} → N f g → (k : Word) → (k ≡ Fn → Total N) → {vs ws : List Value} → Likes N vs ws → R (call_word w b f k vs) (call_word w' b g k ws)
      r_call_word b n ToHost nf h = r_ask_host (as_a_function n) h
      r_call_word b n TypeOf nf both_empty = r_call_named b n both_empty
      r_call_word b n TypeOf nf (both_more h both_empty) = r_give (type_kept_as h)
      r_call_word b n TypeOf nf (both_more h (both_more j k)) = r_call_named b n (both_more h (both_more j k))
      r_call_word b n IsShared nf both_empty = r_call_named b n both_empty
      r_call_word b n IsShared nf (both_more h both_empty) = r_give (bool_like false)
      r_call_word b n IsShared nf (both_more h (both_more j k)) = r_call_named b n (both_more h (both_more j k))
      r_call_word b n Fn nf both_empty = r_call_named b n both_empty
      r_call_word b n Fn nf (both_more h both_empty) = r_any_pointer (nf refl) h
      r_call_word b n Fn nf (both_more h (both_more j k)) = r_call_named b n (both_more h (both_more j k))
      r_call_word b n Curry nf both_empty = r_call_named b n both_empty
      r_call_word b n Curry nf (both_more h k) = r_curried h k
      r_call_word b n CallFn nf both_empty = r_call_named b n both_empty
      r_call_word b n CallFn nf (both_more h k) = r_call_pointer b h k
      r_call_word b n NoWord nf h = r_call_named b n h

      r_called : {c d : Callee} → CalleeLike N c d → (IsFn N c → Total N) → {vs ws : List Value} → Likes N vs ws → R (called w c vs) (called w' d ws)
      r_called (operator_like op) nf h = r_operate op h
      r_called (qualified_like m f) nf h = r_resolve m _ _ (λ n. r_ask_host (as_it_is _) h)
      r_called (by_name_like {f = f} {g = g} b n e) nf {vs = vs} {ws = ws} h = subst (λ k. R (call_word w b f (word f) vs) (call_word w' b g k ws)) e (r_call_word b n (word f) nf h)

      -- ---- chains

      r_no_place : {o p : Option Value} → MaybeLike N o p → (f f' : Value → Act) → ((v v' : Value) → Like N v v' → R (f v) (f' v')) → R (or_no_place o f) (or_no_place p f')
      r_no_place both_none f f' k = r_fail NoPlace
      r_no_place (both_some h) f f' k = k _ _ h

      r_read_place : (p : Place) → R (read_place p) (read_place p)
      r_read_place p = r_bind (r_read p.root) _ _ (λ v v' h. r_no_place (along_like h p.keys) _ _ (λ x x' j. r_give j))

      r_write_place : {m m' : Bool} → m ≡ m' → (p : Place) {v v' : Value} → Like N v v' → R (write_place m p v) (write_place m' p v')
      r_write_place {m = m} e p {v = v} {v' = v'} h = subst (λ n. R (write_place m p v) (write_place n p v')) e (r_bind (r_read p.root) _ _ (λ u u' j. r_no_place (with_along_like j p.keys h) _ _ (λ x x' k. r_write m p.root k)))

      r_again_at : {c d : Current} → CurrentLike N c d → (f f' : Current → Act) → ((x y : Current) → CurrentLike N x y → R (f x) (f' y)) → R (refreshed c f) (refreshed d f')
      r_again_at (current_like h None) f f' k = k _ _ (current_like h None)
      r_again_at (current_like h (Some p)) f f' k = r_bind (r_read_place p) _ _ (λ v v' j. k _ _ (current_like j (Some p)))

      r_put_back : {c d : Current} → CurrentLike N c d → {o p : Option Value} → MaybeLike N o p → R (put_back c o) (put_back d p)
      r_put_back (current_like h pl) both_none = r_unit
      r_put_back (current_like h None) (both_some j) = r_unit
      r_put_back (current_like h (Some p)) (both_some j) = r_write_place (λ i. not (same_kept one h j i)) p j

      r_or_throw : (t : Text) {o p : Option Current} → OptionOf (CurrentLike N) o p → (f f' : Current → Act) → ((x y : Current) → CurrentLike N x y → R (f x) (f' y)) → R (or_throw t o f) (or_throw t p f')
      r_or_throw t both_none f f' k = r_throw t
      r_or_throw t (both_some h) f f' k = k _ _ h

      r_ask_for : {f g : Text} → HostName N f g → {v v' : Value} → Like N v v' → {vs ws : List Value} → Likes N vs ws → (f1 f2 : Current → Act) → ((x y : Current) → CurrentLike N x y → R (f1 x) (f2 y)) → R (ask_for f v vs f1) (ask_for g v' ws f2)
      r_ask_for n j h f f' k = r_ask_method n j h _ _ (λ x x' q o p r. k _ _ (current_like q None))

      r_property : (p : PropertyNames) {c d : Current} → CurrentLike N c d → {v v' : Value} → Like N v v' → (f f' : Current → Act) → ((x y : Current) → CurrentLike N x y → R (f x) (f' y)) → R (property p c v f) (property p d v' f')
      r_property p (current_like h pl) (map_like x) f f' g = g _ _ (current_like (entry_kept x p.name) _)
      r_property p q unit_like f f' g = r_ask_for (as_it_is p.getter) unit_like both_empty f f' g
      r_property p q (bool_like x) f f' g = r_ask_for (as_it_is p.getter) (bool_like x) both_empty f f' g
      r_property p q (int_like x) f f' g = r_ask_for (as_it_is p.getter) (int_like x) both_empty f f' g
      r_property p q (float_like x) f f' g = r_ask_for (as_it_is p.getter) (float_like x) both_empty f f' g
      r_property p q (char_like x) f f' g = r_ask_for (as_it_is p.getter) (char_like x) both_empty f f' g
      r_property p q (text_like x) f f' g = r_ask_for (as_it_is p.getter) (text_like x) both_empty f f' g
      r_property p q (array_like x) f f' g = r_ask_for (as_it_is p.getter) (array_like x) both_empty f f' g
      r_property p q (pointer_like n x) f f' g = r_ask_for (as_it_is p.getter) (pointer_like n x) both_empty f f' g
      r_property p q (range_like x y) f f' g = r_ask_for (as_it_is p.getter) (range_like x y) both_empty f f' g
      r_property p q (inclusive_like x y) f f' g = r_ask_for (as_it_is p.getter) (inclusive_like x y) both_empty f f' g

      r_index : {c d : Current} → CurrentLike N c d → {v v' : Value} → Like N v v' → {i i' : Value} → Like N i i' → (f f' : Current → Act) → ((x y : Current) → CurrentLike N x y → R (f x) (f' y)) → R (index c v i f) (index d v' i' f')
      r_index (current_like h pl) (array_like x) (int_like z) f f' g = r_or_throw _ (map_both (element_like x z) _ _ (λ a b j. current_like j _)) f f' g
      r_index q (text_like x) (int_like z) f f' g = r_or_throw _ (map_both (character_like x z) _ _ (λ a b j. current_like j None)) f f' g
      r_index q (int_like x) (int_like z) f f' g = r_or_throw _ (map_both (bit_like x z) _ _ (λ a b j. current_like j None)) f f' g
      r_index (current_like h pl) (map_like x) (text_like z) f f' g = g _ _ (current_like (entry_kept x z) _)
      r_index q unit_like z f f' g = r_ask_for (as_it_is _) unit_like (both_more z both_empty) f f' g
      r_index q (bool_like x) z f f' g = r_ask_for (as_it_is _) (bool_like x) (both_more z both_empty) f f' g
      r_index q (int_like x) unit_like f f' g = r_ask_for (as_it_is _) (int_like x) (both_more unit_like both_empty) f f' g
      r_index q (int_like x) (bool_like z) f f' g = r_ask_for (as_it_is _) (int_like x) (both_more (bool_like z) both_empty) f f' g
      r_index q (int_like x) (float_like z) f f' g = r_ask_for (as_it_is _) (int_like x) (both_more (float_like z) both_empty) f f' g
      r_index q (int_like x) (char_like z) f f' g = r_ask_for (as_it_is _) (int_like x) (both_more (char_like z) both_empty) f f' g
      r_index q (int_like x) (text_like z) f f' g = r_ask_for (as_it_is _) (int_like x) (both_more (text_like z) both_empty) f f' g
      r_index q (int_like x) (array_like z) f f' g = r_ask_for (as_it_is _) (int_like x) (both_more (array_like z) both_empty) f f' g
      r_index q (int_like x) (map_like z) f f' g = r_ask_for (as_it_is _) (int_like x) (both_more (map_like z) both_empty) f f' g
      r_index q (int_like x) (pointer_like m z) f f' g = r_ask_for (as_it_is _) (int_like x) (both_more (pointer_like m z) both_empty) f f' g
      r_index q (int_like x) (range_like z u) f f' g = r_ask_for (as_it_is _) (int_like x) (both_more (range_like z u) both_empty) f f' g
      r_index q (int_like x) (inclusive_like z u) f f' g = r_ask_for (as_it_is _) (int_like x) (both_more (inclusive_like z u) both_empty) f f' g
      r_index q (float_like x) z f f' g = r_ask_for (as_it_is _) (float_like x) (both_more z both_empty) f f' g
      r_index q (char_like x) z f f' g = r_ask_for (as_it_is _) (char_like x) (both_more z both_empty) f f' g
      r_index q (text_like x) unit_like f f' g = r_ask_for (as_it_is _) (text_like x) (both_more unit_like both_empty) f f' g
      r_index q (text_like x) (bool_like z) f f' g = r_ask_for (as_it_is _) (text_like x) (both_more (bool_like z) both_empty) f f' g
      r_index q (text_like x) (float_like z) f f' g = r_ask_for (as_it_is _) (text_like x) (both_more (float_like z) both_empty) f f' g
      r_index q (text_like x) (char_like z) f f' g = r_ask_for (as_it_is _) (text_like x) (both_more (char_like z) both_empty) f f' g
      r_index q (text_like x) (text_like z) f f' g = r_ask_for (as_it_is _) (text_like x) (both_more (text_like z) both_empty) f f' g
      r_index q (text_like x) (array_like z) f f' g = r_ask_for (as_it_is _) (text_like x) (both_more (array_like z) both_empty) f f' g
      r_index q (text_like x) (map_like z) f f' g = r_ask_for (as_it_is _) (text_like x) (both_more (map_like z) both_empty) f f' g
      r_index q (text_like x) (pointer_like m z) f f' g = r_ask_for (as_it_is _) (text_like x) (both_more (pointer_like m z) both_empty) f f' g
      r_index q (text_like x) (range_like z u) f f' g = r_ask_for (as_it_is _) (text_like x) (both_more (range_like z u) both_empty) f f' g
      r_index q (text_like x) (inclusive_like z u) f f' g = r_ask_for (as_it_is _) (text_like x) (both_more (inclusive_like z u) both_empty) f f' g
      r_index q (array_like x) unit_like f f' g = r_ask_for (as_it_is _) (array_like x) (both_more unit_like both_empty) f f' g
      r_index q (array_like x) (bool_like z) f f' g = r_ask_for (as_it_is _) (array_like x) (both_more (bool_like z) both_empty) f f' g
      r_index q (array_like x) (float_like z) f f' g = r_ask_for (as_it_is _) (array_like x) (both_more (float_like z) both_empty) f f' g
      r_index q (array_like x) (char_like z) f f' g = r_ask_for (as_it_is _) (array_like x) (both_more (char_like z) both_empty) f f' g
      r_index q (array_like x) (text_like z) f f' g = r_ask_for (as_it_is _) (array_like x) (both_more (text_like z) both_empty) f f' g
      r_index q (array_like x) (array_like z) f f' g = r_ask_for (as_it_is _) (array_like x) (both_more (array_like z) both_empty) f f' g
      r_index q (array_like x) (map_like z) f f' g = r_ask_for (as_it_is _) (array_like x) (both_more (map_like z) both_empty) f f' g
      r_index q (array_like x) (pointer_like m z) f f' g = r_ask_for (as_it_is _) (array_like x) (both_more (pointer_like m z) both_empty) f f' g
      r_index q (array_like x) (range_like z u) f f' g = r_ask_for (as_it_is _) (array_like x) (both_more (range_like z u) both_empty) f f' g
      r_index q (array_like x) (inclusive_like z u) f f' g = r_ask_for (as_it_is _) (array_like x) (both_more (inclusive_like z u) both_empty) f f' g
      r_index q (map_like x) unit_like f f' g = r_ask_for (as_it_is _) (map_like x) (both_more unit_like both_empty) f f' g
      r_index q (map_like x) (bool_like z) f f' g = r_ask_for (as_it_is _) (map_like x) (both_more (bool_like z) both_empty) f f' g
      r_index q (map_like x) (int_like z) f f' g = r_ask_for (as_it_is _) (map_like x) (both_more (int_like z) both_empty) f f' g
      r_index q (map_like x) (float_like z) f f' g = r_ask_for (as_it_is _) (map_like x) (both_more (float_like z) both_empty) f f' g
      r_index q (map_like x) (char_like z) f f' g = r_ask_for (as_it_is _) (map_like x) (both_more (char_like z) both_empty) f f' g
      r_index q (map_like x) (array_like z) f f' g = r_ask_for (as_it_is _) (map_like x) (both_more (array_like z) both_empty) f f' g
      r_index q (map_like x) (map_like z) f f' g = r_ask_for (as_it_is _) (map_like x) (both_more (map_like z) both_empty) f f' g
      r_index q (map_like x) (pointer_like m z) f f' g = r_ask_for (as_it_is _) (map_like x) (both_more (pointer_like m z) both_empty) f f' g
      r_index q (map_like x) (range_like z u) f f' g = r_ask_for (as_it_is _) (map_like x) (both_more (range_like z u) both_empty) f f' g
      r_index q (map_like x) (inclusive_like z u) f f' g = r_ask_for (as_it_is _) (map_like x) (both_more (inclusive_like z u) both_empty) f f' g
      r_index q (pointer_like n x) z f f' g = r_ask_for (as_it_is _) (pointer_like n x) (both_more z both_empty) f f' g
      r_index q (range_like x y) z f f' g = r_ask_for (as_it_is _) (range_like x y) (both_more z both_empty) f f' g
      r_index q (inclusive_like x y) z f f' g = r_ask_for (as_it_is _) (inclusive_like x y) (both_more z both_empty) f f' g

      r_after : {c d : Current} → CurrentLike N c d → (f f' : Current → Act) → ((x y : Current) → CurrentLike N x y → R (f x) (f' y)) → (v v' : Value) → Like N v v' → (o p : Option Value) → MaybeLike N o p → R (after_method c f v o) (after_method d f' v' p)
      r_after q f f' g v v' h o p j = r_bind (r_put_back q j) _ _ (λ z z' k. g _ _ (current_like h None))

      r_to_method : {m n : Text} → N m n → {vs ws : List Value} → Likes N vs ws → {c d : Current} → CurrentLike N c d → {o p : Option Key} → OptionOf (KeyLike N) o p → (f f' : Current → Act) → ((x y : Current) → CurrentLike N x y → R (f x) (f' y)) → R (to_method m vs c o f) (to_method n ws d p f')
      r_to_method n h (current_like j pl) (both_some k) f f' g = r_invoke (script_call_like false k (both_some j) h) _ _ (r_after (current_like j pl) f f' g)
      r_to_method n h (current_like j pl) both_none f f' g = r_ask_method (as_a_function n) j h _ _ (r_after (current_like j pl) f f' g)

      by_bool : {A : Type 0} (S : A → A → Type 0) (b : Bool) {x y : A} → S x y → {o p : Option A} → OptionOf S o p → OptionOf S (cond b (Some x) o) (cond b (Some y) p)
      by_bool S true h k = both_some h
      by_bool S false h k = k

      some_like : {b b' : Bool} → b ≡ b' → (x y : Key) → KeyLike N x y → (o p : Option Key) → OptionOf (KeyLike N) o p → OptionOf (KeyLike N) (cond b (Some x) o) (cond b' (Some y) p)
      some_like {b = b} e x y h o p k = subst (λ c. OptionOf (KeyLike N) (cond b (Some x) o) (cond c (Some y) p)) e (by_bool (KeyLike N) b h k)

      typed_key : {f g : Text} → N f g → {vs ws : List Value} → Likes N vs ws → {v v' : Value} → Like N v v' → KeyLike N (key f (length vs) (Some (type_name v))) (key g (length ws) (Some (type_name v')))
      typed_key {f = f} {g = g} n {vs = vs} {ws = ws} h {v = v} j = subst (λ t. KeyLike N (key f (length vs) (Some (type_name v))) (key g (length ws) (Some t))) (type_kept j) (key_at n h (Some (type_name v)))

      method_key_like : {f g : Text} → N f g → {vs ws : List Value} → Likes N vs ws → {v v' : Value} → Like N v v' → OptionOf (KeyLike N) (method_key w f vs v) (method_key w' g ws v')
      method_key_like n h j = some_like (keys _ _ (typed_key n h j)) _ _ (typed_key n h j) _ _ (some_like (keys _ _ (key_at n h None)) _ _ (key_at n h None) _ _ both_none)

      r_alone : {a b : Act} → R a b → (f f' : Current → Act) → ((x y : Current) → CurrentLike N x y → R (f x) (f' y)) → R (value_alone a f) (value_alone b f')
      r_alone h f f' g = r_bind h _ _ (λ v v' j. g _ _ (current_like j None))

      r_method : {m n : Text} → N m n → (k : Word) → {vs ws : List Value} → Likes N vs ws → {c d : Current} → CurrentLike N c d → (f f' : Current → Act) → ((x y : Current) → CurrentLike N x y → R (f x) (f' y)) → R (method w m k vs c f) (method w' n k ws d f')
      r_method n TypeOf both_empty (current_like j pl) f f' g = g _ _ (current_like (type_kept_as j) None)
      r_method n TypeOf (both_more h k) (current_like j pl) f f' g = r_to_method n (both_more h k) (current_like j pl) (method_key_like n (both_more h k) j) f f' g
      r_method n IsShared both_empty (current_like j pl) f f' g = g _ _ (current_like (bool_like false) None)
      r_method n IsShared (both_more h k) (current_like j pl) f f' g = r_to_method n (both_more h k) (current_like j pl) (method_key_like n (both_more h k) j) f f' g
      r_method n Curry h (current_like j pl) f f' g = r_alone (r_curried j h) f f' g
      r_method n CallFn h (current_like j pl) f f' g = r_alone (r_call_pointer false j h) f f' g
      r_method n ToHost h (current_like j pl) f f' g = r_to_method n h (current_like j pl) (method_key_like n h j) f f' g
      r_method n Fn h (current_like j pl) f f' g = r_to_method n h (current_like j pl) (method_key_like n h j) f f' g
      r_method n NoWord h (current_like j pl) f f' g = r_to_method n h (current_like j pl) (method_key_like n h j) f f' g

      r_applied : {r r' : Access} → AccessLike N r r' → {c d : Current} → CurrentLike N c d → (f f' : Current → Act) → ((x y : Current) → CurrentLike N x y → R (f x) (f' y)) → R (applied w r c f) (applied w' r' d f')
      r_applied (of_property_like p) (current_like j pl) f f' g = r_property p (current_like j pl) j f f' g
      r_applied (of_index_like h) (current_like j pl) f f' g = r_index (current_like j pl) j h f f' g
      r_applied (of_method_like {f = m} {g = n} {vs = vs} {ws = ws} q e h) {c = c} {d = d} j f f' g = subst (λ k. R (method w m (word m) vs c f) (method w' n k ws d f')) e (r_method q (word m) h j f f' g)

      r_by_host : {f g : Text} → HostName N f g → {vs ws : List Value} → Likes N vs ws → {c d : Current} → CurrentLike N c d → R (set_by_host f vs c) (set_by_host g ws d)
      r_by_host n h (current_like j pl) = r_ask_method n j h _ _ (λ v v' k o p q. r_put_back (current_like j pl) q)

      r_set_element : (p : Place) (i : ℤ) {v v' : Value} → Like N v v' → {o q : Option Value} → MaybeLike N o q → R (set_element p i v o) (set_element p i v' q)
      r_set_element p i h (both_some k) = r_write_place refl _ h
      r_set_element p i h both_none = r_throw _

      r_set_property : (p : PropertyNames) {v v' : Value} → Like N v v' → (at : Place) {c d : Current} → CurrentLike N c d → {u u' : Value} → Like N u u' → R (set_property p v at c u) (set_property p v' at d u')
      r_set_property p j at q (map_like x) = r_write_place refl _ j
      r_set_property p j at q unit_like = r_by_host (as_it_is p.setter) (both_more j both_empty) q
      r_set_property p j at q (bool_like x) = r_by_host (as_it_is p.setter) (both_more j both_empty) q
      r_set_property p j at q (int_like x) = r_by_host (as_it_is p.setter) (both_more j both_empty) q
      r_set_property p j at q (float_like x) = r_by_host (as_it_is p.setter) (both_more j both_empty) q
      r_set_property p j at q (char_like x) = r_by_host (as_it_is p.setter) (both_more j both_empty) q
      r_set_property p j at q (text_like x) = r_by_host (as_it_is p.setter) (both_more j both_empty) q
      r_set_property p j at q (array_like x) = r_by_host (as_it_is p.setter) (both_more j both_empty) q
      r_set_property p j at q (pointer_like n x) = r_by_host (as_it_is p.setter) (both_more j both_empty) q
      r_set_property p j at q (range_like x y) = r_by_host (as_it_is p.setter) (both_more j both_empty) q
      r_set_property p j at q (inclusive_like x y) = r_by_host (as_it_is p.setter) (both_more j both_empty) q

      r_set_index : {v v' : Value} → Like N v v' → (at : Place) {c d : Current} → CurrentLike N c d → {u u' : Value} → Like N u u' → {i i' : Value} → Like N i i' → R (set_index v at c u i) (set_index v' at d u' i')
      r_set_index j at q (array_like x) (int_like z) = r_set_element at z j (element_like x z)
      r_set_index j at q (map_like x) (text_like z) = r_write_place refl _ j
      r_set_index j at q unit_like z = r_by_host (as_it_is _) (both_more z (both_more j both_empty)) q
      r_set_index j at q (bool_like x) z = r_by_host (as_it_is _) (both_more z (both_more j both_empty)) q
      r_set_index j at q (int_like x) z = r_by_host (as_it_is _) (both_more z (both_more j both_empty)) q
      r_set_index j at q (float_like x) z = r_by_host (as_it_is _) (both_more z (both_more j both_empty)) q
      r_set_index j at q (char_like x) z = r_by_host (as_it_is _) (both_more z (both_more j both_empty)) q
      r_set_index j at q (text_like x) z = r_by_host (as_it_is _) (both_more z (both_more j both_empty)) q
      r_set_index j at q (array_like x) unit_like = r_by_host (as_it_is _) (both_more unit_like (both_more j both_empty)) q
      r_set_index j at q (array_like x) (bool_like z) = r_by_host (as_it_is _) (both_more (bool_like z) (both_more j both_empty)) q
      r_set_index j at q (array_like x) (float_like z) = r_by_host (as_it_is _) (both_more (float_like z) (both_more j both_empty)) q
      r_set_index j at q (array_like x) (char_like z) = r_by_host (as_it_is _) (both_more (char_like z) (both_more j both_empty)) q
      r_set_index j at q (array_like x) (text_like z) = r_by_host (as_it_is _) (both_more (text_like z) (both_more j both_empty)) q
      r_set_index j at q (array_like x) (array_like z) = r_by_host (as_it_is _) (both_more (array_like z) (both_more j both_empty)) q
      r_set_index j at q (array_like x) (map_like z) = r_by_host (as_it_is _) (both_more (map_like z) (both_more j both_empty)) q
      r_set_index j at q (array_like x) (pointer_like m z) = r_by_host (as_it_is _) (both_more (pointer_like m z) (both_more j both_empty)) q
      r_set_index j at q (array_like x) (range_like z u) = r_by_host (as_it_is _) (both_more (range_like z u) (both_more j both_empty)) q
      r_set_index j at q (array_like x) (inclusive_like z u) = r_by_host (as_it_is _) (both_more (inclusive_like z u) (both_more j both_empty)) q
      r_set_index j at q (map_like x) unit_like = r_by_host (as_it_is _) (both_more unit_like (both_more j both_empty)) q
      r_set_index j at q (map_like x) (bool_like z) = r_by_host (as_it_is _) (both_more (bool_like z) (both_more j both_empty)) q
      r_set_index j at q (map_like x) (int_like z) = r_by_host (as_it_is _) (both_more (int_like z) (both_more j both_empty)) q
      r_set_index j at q (map_like x) (float_like z) = r_by_host (as_it_is _) (both_more (float_like z) (both_more j both_empty)) q
      r_set_index j at q (map_like x) (char_like z) = r_by_host (as_it_is _) (both_more (char_like z) (both_more j both_empty)) q
      r_set_index j at q (map_like x) (array_like z) = r_by_host (as_it_is _) (both_more (array_like z) (both_more j both_empty)) q
      r_set_index j at q (map_like x) (map_like z) = r_by_host (as_it_is _) (both_more (map_like z) (both_more j both_empty)) q
      r_set_index j at q (map_like x) (pointer_like m z) = r_by_host (as_it_is _) (both_more (pointer_like m z) (both_more j both_empty)) q
      r_set_index j at q (map_like x) (range_like z u) = r_by_host (as_it_is _) (both_more (range_like z u) (both_more j both_empty)) q
      r_set_index j at q (map_like x) (inclusive_like z u) = r_by_host (as_it_is _) (both_more (inclusive_like z u) (both_more j both_empty)) q
      r_set_index j at q (pointer_like n x) z = r_by_host (as_it_is _) (both_more z (both_more j both_empty)) q
      r_set_index j at q (range_like x y) z = r_by_host (as_it_is _) (both_more z (both_more j both_empty)) q
      r_set_index j at q (inclusive_like x y) z = r_by_host (as_it_is _) (both_more z (both_more j both_empty)) q

      r_set_at : {v v' : Value} → Like N v v' → {r r' : Access} → AccessLike N r r' → {c d : Current} → CurrentLike N c d → R (set_at v r c c.place) (set_at v' r' d d.place)
      r_set_at h r (current_like j None) = r_fail NoPlace
      r_set_at h (of_property_like p) (current_like j (Some at)) = r_set_property p h at (current_like j (Some at)) j
      r_set_at h (of_index_like i) (current_like j (Some at)) = r_set_index h at (current_like j (Some at)) j i
      r_set_at h (of_method_like n e k) (current_like j (Some at)) = r_fail NoPlace

      r_assigned_of : (op : Operator) {x y : Current} → CurrentLike N x y → {b b' : Value} → Like N b b' → R (assigned w (Some op) x.value b) (assigned w' (Some op) y.value b')
      r_assigned_of op (current_like h pl) k = r_assigned (Some op) h k

      r_assign_last : (o : Option Operator) {v v' : Value} → Like N v v' → {r r' : Access} → AccessLike N r r' → {c d : Current} → CurrentLike N c d → R (assign_last w o v r c) (assign_last w' o v' r' d)
      r_assign_last None h r q = r_set_at h r q
      r_assign_last (Some op) h r q = r_applied r q _ _ (λ x y k. r_bind (r_assigned_of op k h) _ _ (λ u u' j. r_set_at j r q))

      r_assign_root : (o : Option Operator) {v v' : Value} → Like N v v' → (r : Root) → R (assign_root w o v r) (assign_root w' o v' r)
      r_assign_root None h r = r_write true r h
      r_assign_root (Some op) h r = r_bind (r_read r) _ _ (λ u u' j. r_bind (r_assigned (Some op) j h) _ _ (λ x x' k. r_write true r k))

      r_unless : (b : Bool) {c d : Current} → CurrentLike N c d → {a a' : Act} → R a a' → R (unless_unit b c a) (unless_unit b d a')
      r_unless b (current_like j pl) h = r_choose_by (λ i. b && unit_kept j i) r_unit h

      -- ---- loops, `switch` and `try`

      r_round : {p q : Acts} → Rs p q → R (round p) (round q)
      r_round h = r_turn (r_then (r_scoped h) _ _ r_end_round)

      r_while : {a b : Act} → R a b → {p q : Acts} → Rs p q → R (while_guarded a p) (while_guarded b q)
      r_while h k = r_loop (r_bind h _ _ (λ v v' j. r_if j (r_round k) r_unit))

      r_stop_again : R (Stop (Leaves Again)) (Stop (Leaves Again))
      r_stop_again = r_stop (leaves_like again_like)

      r_do_loop : (n : Bool) {p q : Acts} → Rs p q → {a b : Act} → R a b → R (do_loop n p a) (do_loop n q b)
      r_do_loop false k h = r_loop (r_then (r_round k) _ _ (r_again (r_bind h _ _ (λ v v' j. r_if j r_stop_again r_unit))))
      r_do_loop true k h = r_loop (r_then (r_round k) _ _ (r_again (r_bind h _ _ (λ v v' j. r_if j r_unit r_stop_again))))

      rs_cond : (b : Bool) {p q p' q' : Acts} → Rs p p' → Rs q q' → Rs (cond b p q) (cond b p' q')
      rs_cond true h k = h
      rs_cond false h k = k

      r_counted : (i : Option Text) (k : ℕ) {p q : Acts} → Rs p q → Rs (counted i k p) (counted i k q)
      r_counted None k h = h
      r_counted (Some i) k h = rs_cond (nat_lt k (2 ^ 63)) (r_named i IsVariable (int_like (pos k)) h) (r_only (r_fail CounterTooLarge))

      r_for_each : (x : Text) (i : Option Text) {p q : Acts} → Rs p q → (k : ℕ) {vs ws : List Value} → Likes N vs ws → R (for_each x i p k vs) (for_each x i q k ws)
      r_for_each x i r k both_empty = r_unit
      r_for_each x i r k (both_more h j) = r_then (r_round (r_counted i k (r_named x IsVariable h r))) _ _ (r_again (r_for_each x i r (suc k) j))

      r_for_count : (x : Text) (i : Option Text) {p q : Acts} → Rs p q → (k : ℕ) (a : ℤ) (n : ℕ) → R (for_count x i p k a n) (for_count x i q k a n)
      r_for_count x i r k a zero = r_unit
      r_for_count x i r k a (suc n) = r_then (r_round (r_counted i k (r_named x IsVariable (int_like a) r))) _ _ (r_again (r_for_count x i r (suc k) (a +ℤ pos 1) n))

      r_for_all : (x : Text) (i : Option Text) {p q : Acts} → Rs p q → {v v' : Value} → Like N v v' → R (for_all x i p v) (for_all x i q v')
      r_for_all x i r (array_like h) = r_for_each x i r 0 (items_like h)
      r_for_all x i r (range_like a b) = r_for_count x i r 0 a _
      r_for_all x i r (inclusive_like a b) = r_for_count x i r 0 a _
      r_for_all x i r unit_like = r_fail WrongKind
      r_for_all x i r (bool_like z) = r_fail WrongKind
      r_for_all x i r (int_like z) = r_fail WrongKind
      r_for_all x i r (float_like z) = r_fail WrongKind
      r_for_all x i r (char_like z) = r_fail WrongKind
      r_for_all x i r (text_like z) = r_fail WrongKind
      r_for_all x i r (map_like z) = r_fail WrongKind
      r_for_all x i r (pointer_like m z) = r_fail WrongKind

      r_catch : (x : Option Text) {v v' : Value} → Like N v v' → {p q : Acts} → Rs p q → Rs (named x v p) (named x v' q)
      r_catch None h r = r
      r_catch (Some x) h r = r_named x IsVariable h r

      r_end_branch : {v v' : Value} → Like N v v' → (e e' : Ending) → EndingLike N e e' → R (end_branch v e) (end_branch v' e')
      r_end_branch j _ _ (gives_like h) = r_unit
      r_end_branch j _ _ (leaves_like (throw_like h)) = r_choose_by (unit_kept h) (r_stop (leaves_like (throw_like j))) (r_stop (leaves_like (throw_like h)))
      r_end_branch j _ _ (leaves_like (returns_like h)) = r_stop (leaves_like (returns_like h))
      r_end_branch j _ _ (leaves_like (breaks_like h)) = r_stop (leaves_like (breaks_like h))
      r_end_branch j _ _ (leaves_like continues_like) = r_stop (leaves_like continues_like)
      r_end_branch j _ _ (leaves_like again_like) = r_stop (leaves_like again_like)

      r_try : (x : Option Text) {p q r s : Acts} → Rs p q → Rs r s → R (try_of p x r) (try_of q x s)
      r_try x h k = r_then (r_scoped h) _ _ (r_on_throw _ _ (λ v v' j. r_then (r_scoped (r_catch x j k)) _ _ (r_end_branch j)))

      pub record ArmR (a b : ArmActs) : Type 0 where
        pub guard : R a.guard b.guard
        pub answer : R a.answer b.answer

      r_try_arm : {o p : Option ArmActs} → OptionOf ArmR o p → {a b : Act} → R a b → R (try_arm o a) (try_arm p b)
      r_try_arm both_none k = k
      r_try_arm (both_some h) k = r_bind h.guard _ _ (λ v v' j. r_if j h.answer k)

      -- the arms that a list names, in both
      abbrev ArmsAt : List ℕ → List ArmActs → List ArmActs → Type 0
      ArmsAt is as' bs = (i : ℕ) → names_arm i is ≡ true → OptionOf ArmR (slice_get as' i) (slice_get bs i)

      r_first : (as' bs : List ArmActs) (all : List ℕ) → ArmsAt all as' bs → (is : List ℕ) → AreListed all is → {a b : Act} → R a b → R (first_arm as' is a) (first_arm bs is b)
      r_first as' bs all h [] n k = k
      r_first as' bs all h (i ∷ is) n k = r_try_arm (h i n.0) (r_first as' bs all h is n.1 k)

      r_answer : {o p : Option ArmActs} → OptionOf ArmR o p → R (answer_of o) (answer_of p)
      r_answer both_none = r_unit
      r_answer (both_some h) = h.answer

      r_default : (as' bs : List ArmActs) (all : List ℕ) → ArmsAt all as' bs → (o : Option ℕ) → AreListed all (arm_of_default o) → R (default_of as' o) (default_of bs o)
      r_default as' bs all h None n = r_unit
      r_default as' bs all h (Some i) n = r_answer (h i n.0)

      r_switch : (as' bs : List ArmActs) (t : SwitchTable) → ArmsAt (listed t) as' bs → {v v' : Value} → Like N v v' → R (switch_on as' t v) (switch_on bs t v')
      r_switch as' bs t h {v = v} j = subst (λ is. R (switch_on as' t v) (first_arm bs is (default_of bs t.default))) (chosen_kept t j) (r_first as' bs (listed t) h (chosen t v) (chosen_listed t v) (r_default as' bs (listed t) h t.default (default_listed t)))

      text_by : (b : Bool) {v v' : Value} → Like N v v' → holds_float v ≡ b → cond b (h.text v) (text_of v) ≡ cond b (h'.text v') (text_of v')
      text_by true j q = hosts.text j q
      text_by false j q = texts _ _ j

      text_in_kept : {v v' : Value} → Like N v v' → text_in h v ≡ text_in h' v'
      text_in_kept {v = v} {v' = v'} j = text_by (holds_float v) j refl ∙ ap (λ b. cond b (h'.text v') (text_of v')) (float_kept j)

      texts_kept : {vs ws : List Value} → Likes N vs ws → texts_joined (text_in h) vs ≡ texts_joined (text_in h') ws
      unfolding texts_joined
      texts_kept both_empty = refl
      texts_kept (both_more j k) = λ i. text_in_kept j i ++ texts_kept k i

      r_text : {vs ws : List Value} → Likes N vs ws → R (text w vs) (text w' ws)
      r_text {vs = vs} j = subst (λ t. R (text w vs) (give (TextV t))) (texts_kept j) (r_give (text_like (texts_joined (text_in h) vs)))

      module_known_like : (o : Option Text) → R (module_known o) (module_known o)
      module_known_like None = r_fail UnknownModule
      module_known_like (Some m) = r_give (text_like m)

      r_module : {v v' : Value} → Like N v v' → R (module_at w v) (module_at w' v')
      r_module (text_like p) = subst (λ o. R (module_known (h.module_of p)) (module_known o)) (hosts.path p) (module_known_like (h.module_of p))
      r_module unit_like = r_fail WrongKind
      r_module (bool_like x) = r_fail WrongKind
      r_module (int_like x) = r_fail WrongKind
      r_module (float_like x) = r_fail WrongKind
      r_module (char_like x) = r_fail WrongKind
      r_module (array_like x) = r_fail WrongKind
      r_module (map_like x) = r_fail WrongKind
      r_module (pointer_like n x) = r_fail WrongKind
      r_module (range_like x y) = r_fail WrongKind
      r_module (inclusive_like x y) = r_fail WrongKind

      r_fn : (b : Bool) (f t : Text) → N t t → word f ≡ Fn → {v v' : Value} → v ≡ TextV t → v' ≡ TextV t → R (called w (ByName f b) (v ∷ [])) (called w' (ByName f b) (v' ∷ []))
      r_fn b f t n e {v = v} {v' = v'} p q =
          subst (λ u. R (called w (ByName f b) (u ∷ [])) (called w' (ByName f b) (v' ∷ []))) (sym p) (subst (λ u. R (called w (ByName f b) (TextV t ∷ [])) (called w' (ByName f b) (u ∷ []))) (sym q) (subst (λ k. R (call_word w b f k (TextV t ∷ [])) (call_word w' b f k (TextV t ∷ []))) (sym e) (r_pointer t n)))

      r_give_current : {c d : Current} → CurrentLike N c d → R (give c.value) (give d.value)
      r_give_current (current_like j pl) = r_give j

      exit_like : (k : ExitKind) {v v' : Value} → Like N v v' → ExitLike N (exit k v) (exit k v')
      exit_like Breaking h = breaks_like h
      exit_like Continuing h = continues_like
      exit_like Returning h = returns_like h
      exit_like Throwing h = throw_like h

      wanted_like : (b : Bool) {v v' : Value} → Like N v v' → Like N (wanted_value b v) (wanted_value b v')
      wanted_like true h = h
      wanted_like false h = unit_like

      r_exporting : (b : Bool) (x : Text) {v v' : Value} → Like N v v' → {p q : Acts} → Rs p q → Rs (exporting b x v p) (exporting b x v' q)
      r_exporting true x h k = r_named x IsExport h k
      r_exporting false x h k = k

      -- ---- trees

      mutual
        pub r_act : {e f : Expr} → ExprLike N e f → R (act w e) (act w' f)
        r_act ill_like = r_fail WrongKind
        r_act (constant_like h) = r_give h
        r_act (interpolated_like h) = r_args h _ _ (λ vs ws j. r_text j)
        r_act (array_of_like h) = r_args h _ _ (λ vs ws j. r_give (array_like (values_like j)))
        r_act (map_of_like h) = r_pairs h _ _ (λ vs ws j. r_give (map_like (with_entries_like j no_fields_like)))
        r_act (variable_like x) = r_read (OfName x)
        r_act (module_variable_like m x) = r_resolve m _ _ (λ n. r_of_constant (hosts.value (within n x)))
        r_act (module_of_like h) = r_bind (r_act h) _ _ (λ v v' j. r_module j)
        r_act (global_variable_like x) = r_read (OfGlobal x)
        r_act this_like = r_read OfThis
        r_act (block_expr_like h) = r_scoped (r_acts true h unit_like)
        r_act (call_expr_like c n h) = r_args h _ _ (λ vs ws j. r_called c n j)
        r_act (fn_like b f t n e) = record { at = λ s s' q u. (r_fn b f t n e refl refl).at s s' q u }
        r_act (chain_like b h) = r_base b _ _ (λ c d j. r_steps h j)
        r_act (and_like h) = r_both h
        r_act (or_like h) = r_either h
        r_act (coalesce_like h) = r_first_some h

        r_args : {es fs : Exprs} → ExprsLike N es fs → (f f' : List Value → Act) → ((vs ws : List Value) → Likes N vs ws → R (f vs) (f' ws)) → R (with_args w es f) (with_args w' fs f')
        r_args no_exprs_like f f' k = k _ _ both_empty
        r_args (expr_like h r) f f' k = r_bind (r_act h) _ _ (λ v v' j. r_args r _ _ (λ vs ws l. k _ _ (both_more j l)))

        r_pairs : {ps qs : Pairs} → PairsLike N ps qs → (f f' : List (Text × Value) → Act) → ((vs ws : List (Text × Value)) → ListOf (PairLike N) vs ws → R (f vs) (f' ws)) → R (with_pairs w ps f) (with_pairs w' qs f')
        r_pairs no_pairs_like f f' k = k _ _ both_empty
        r_pairs (pair_like x h r) f f' k = r_bind (r_act h) _ _ (λ v v' j. r_pairs r _ _ (λ vs ws l. k _ _ (both_more (named_like x j) l)))

        r_both : {es fs : Exprs} → ExprsLike N es fs → R (both w es) (both w' fs)
        r_both no_exprs_like = r_give (bool_like true)
        r_both (expr_like h r) = r_bind (r_act h) _ _ (λ v v' j. r_if j (r_both r) (r_give (bool_like false)))

        r_either : {es fs : Exprs} → ExprsLike N es fs → R (either w es) (either w' fs)
        r_either no_exprs_like = r_give (bool_like false)
        r_either (expr_like h r) = r_bind (r_act h) _ _ (λ v v' j. r_if j (r_give (bool_like true)) (r_either r))

        r_first_some : {es fs : Exprs} → ExprsLike N es fs → R (first_some w es) (first_some w' fs)
        r_first_some no_exprs_like = r_unit
        r_first_some (expr_like h r) = r_bind (r_act h) _ _ (λ v v' j. r_choose_by (unit_kept j) (r_first_some r) (r_give j))

        r_base : {b c : Base} → BaseLike N b c → (f f' : Current → Act) → ((x y : Current) → CurrentLike N x y → R (f x) (f' y)) → R (at_base w b f) (at_base w' c f')
        r_base (on_place_like r) f f' k = r_bind (r_read r) _ _ (λ v v' j. k _ _ (current_like j _))
        r_base (on_value_like h) f f' k = r_bind (r_act h) _ _ (λ v v' j. k _ _ (current_like j None))

        r_access : {p q : Step} → StepLike N p q → (f f' : Access → Act) → ((r s : Access) → AccessLike N r s → R (f r) (f' s)) → R (access w p f) (access w' q f')
        r_access ill_step_like f f' k = r_fail WrongKind
        r_access (property_like p) f f' k = k _ _ (of_property_like p)
        r_access (index_like h) f f' k = r_bind (r_act h) _ _ (λ v v' j. k _ _ (of_index_like j))
        r_access (method_like n e h) f f' k = r_args h _ _ (λ vs ws j. k _ _ (of_method_like n e j))

        r_steps : {ps qs : Steps} → StepsLike N ps qs → {c d : Current} → CurrentLike N c d → R (steps w ps c) (steps w' qs d)
        r_steps (last_like b h) q = r_unless b q (r_access h _ _ (λ r s j. r_again_at q _ _ (λ x y k. r_applied j k _ _ (λ u v l. r_give_current l))))
        r_steps (more_like b h t) q = r_unless b q (r_access h _ _ (λ r s j. r_again_at q _ _ (λ x y k. r_applied j k _ _ (λ u v l. r_steps t l))))

        r_assign_steps : (op : Option Operator) {v v' : Value} → Like N v v' → {ps qs : Steps} → StepsLike N ps qs → {c d : Current} → CurrentLike N c d → R (assign_steps w op v ps c) (assign_steps w' op v' qs d)
        r_assign_steps op i (last_like b h) q = r_unless b q (r_access h _ _ (λ r s j. r_again_at q _ _ (λ x y k. r_assign_last op i j k)))
        r_assign_steps op i (more_like b h t) q = r_unless b q (r_access h _ _ (λ r s j. r_again_at q _ _ (λ x y k. r_applied j k _ _ (λ u v l. r_assign_steps op i t l))))

        r_assign : (op : Option Operator) {l m : Target} → TargetLike N l m → {v v' : Value} → Like N v v' → R (assign w op l v) (assign w' op m v')
        r_assign op ill_target_like j = r_fail WrongKind
        r_assign op nowhere_like j = r_fail NoPlace
        r_assign op (to_root_like r) j = r_assign_root op j r
        r_assign op (to_part_like r h) j = r_bind (r_read r) _ _ (λ u u' k. r_assign_steps op j h (current_like k _))

        r_arms : {is : List ℕ} {i : ℕ} {as' bs : Arms} → ArmsLike N is i as' bs → (j : ℕ) → names_arm (i + j) is ≡ true → OptionOf ArmR (slice_get (arm_acts w as') j) (slice_get (arm_acts w' bs) j)
        r_arms (no_arms_like i) j h = both_none
        r_arms (arm_like c a r) zero h = both_some (record { guard = r_act c; answer = r_act a })
        r_arms {is = is} {i = i} (arm_like c a r) (suc j) h = r_arms r j (next_named is i j h)
        r_arms {is = is} {i = i} (unlisted_like c d a b n r) zero h = absurd (not_named is i n h)
        r_arms {is = is} {i = i} (unlisted_like c d a b n r) (suc j) h = r_arms r j (next_named is i j h)

        r_loop_by : {g h : Guard} → GuardLike N g h → {p q : Acts} → Rs p q → R (loop w g p) (loop w' h q)
        r_loop_by always_like k = r_loop (r_round k)
        r_loop_by (when_like h) k = r_while (r_act h) k

        r_deed : {d e : Deed} → DeedLike N d e → R (deed w d) (deed w' e)
        r_deed ill_deed_like = r_fail WrongKind
        r_deed noop_like = r_unit
        r_deed (if_deed_like e a b) = r_bind (r_act e) _ _ (λ v v' j. r_if j (r_scoped (r_acts true a unit_like)) (r_scoped (r_acts true b unit_like)))
        r_deed (switch_like t e a) = r_bind (r_act e) _ _ (λ v v' j. r_switch _ _ t (λ i h. r_arms a i (first_named (listed t) i h)) j)
        r_deed (while_like g b) = r_loop_by g (r_acts false b unit_like)
        r_deed (do_like n e b) = r_do_loop n (r_acts false b unit_like) (r_act e)
        r_deed (for_like x i e b) = r_bind (r_act e) _ _ (λ v v' j. r_for_all x i (r_acts false b unit_like) j)
        r_deed (assignment_like op l e) = r_bind (r_act e) _ _ (λ v v' j. r_assign op l j)
        r_deed (block_like h) = r_scoped (r_acts true h unit_like)
        r_deed (try_like x a b) = r_try x (r_acts false a unit_like) (r_acts false b unit_like)
        r_deed (evaluate_like h) = r_act h
        r_deed (discard_like h) = r_bind (r_act h) _ _ (λ v v' j. r_unit)
        r_deed (leave_like k h) = r_bind (r_act h) _ _ (λ v v' j. r_stop (leaves_like (exit_like k j)))

        r_stmt : {s r : Stmt} → StmtLike N s r → (f f' : Value → Acts) → ((v v' : Value) → Like N v v' → Rs (f v) (f' v')) → Rs (line w s f) (line w' r f')
        r_stmt (var_like k b x h) f f' g = r_line (r_act h) _ _ (λ v v' j. r_named x k j (r_exporting b x j (g _ _ unit_like)))
        r_stmt (does_like h) f f' g = r_line (r_deed h) _ _ g

        pub r_acts : (b : Bool) {ss rs : Stmts} → StmtsLike N ss rs → {v v' : Value} → Like N v v' → Rs (acts w b ss v) (acts w' b rs v')
        r_acts b no_stmts_like j = r_only (r_give (wanted_like b j))
        r_acts b (stmt_like h r) j = r_stmt h _ _ (λ v v' k. r_acts b r k)

      pub r_body : {ss rs : Stmts} → StmtsLike N ss rs → Rs (body_acts w ss) (body_acts w' rs)
      r_body h = r_finish (r_acts true h unit_like)
