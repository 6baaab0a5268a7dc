-- What is kept by each basic act is kept by each construct over the acts of its parts.
use Rattle.std.proofs.Common.{ℕ, zero, suc, Bool, true, false, List, [], ◌∷◌, ◌++◌, length, Option, Some, None}
use Rattle.std.specs.Prelude.{slice_get, ℤ, ◌+ℤ◌, pos, not, option_map}
use Rattle.rhai_base.specs.Value.{Text, Value, IntV, TextV, ArrayV, MapV, PointerV, RangeV, RangeInclusiveV, items, same}
use Rattle.rhai_base.specs.Operators.{Operator, Computed, NoEntry, Is, Overflows, symbol}
use Rattle.base_tokens.specs.Names.{is_valid_name}
use Rattle.theory_meaning.specs.Engine.{built_in, asks_assigning}
use Rattle.theory_meaning.specs.Elements.{element, character, bit}
use Rattle.theory_meaning.specs.Act.{IsVariable, HostCall, Answer, Answers, AnswersThrow, Key, World, Returns, Breaks, Continues, Throws, Again, Ending, Gives, Leaves, Stuck, WrongKind, Root, ScriptCall, Act, Stop, Fail, Then, Turn, Read, Write, Resolve, AskHost, Invoke, Loop, Scoped, Acts, Named}
use Rattle.theory_meaning.specs.ActForms.{give, value_then, ◌>>=◌, choose, truth, branch, if_true, on_throw, end_round, again_then, answered, ask_host, ask_method}
use Rattle.theory_meaning.specs.Calls.{of_table, operate, assigned, pointer_to, curried, has_key, key, call_named, call_pointer, Word, ToHost, TypeOf, IsShared, Fn, Curry, CallFn, word, call_word, within, called}
use Rattle.theory_meaning.specs.Chains.{Access, OfProperty, OfIndex, OfMethod, or_throw, ask_for, property, index, after_method, method_key, to_method, value_alone, method, applied, unless_unit, set_by_host, set_element, set_property, set_index, set_placed, set_at, assign_last, assign_root}
use Rattle.theory_meaning.specs.Control.{ArmActs, try_arm, first_arm, answer_of, round, while_guarded, do_loop, counted, for_each, for_count, for_all, named, end_branch, try_of}
use Rattle.theory_meaning.specs.Core.{Callee, OnOperator, Qualified, ByName}
use Rattle.theory_meaning.specs.Places.{AtIndex, Place, Current, or_no_place, along, with_along, read_place, write_place, part, without_place, again_at, refreshed, put_at, put_back}
use Rattle.theory_meaning.specs.Tree.{PropertyNames}

-- P of acts; Allowed: whether a call may capture
pub record Congruent (P : Act → Act → Type 0) (Allowed : Bool → Type 0) : Type 0 where
  pub stop : (e : Ending) → P (Stop e) (Stop e)
  pub fail : (f : Stuck) → P (Fail f) (Fail f)
  pub and_then : (a b : Act) (next next' : Ending → Act) → P a b → ((e : Ending) → P (next e) (next' e)) → P (Then a next) (Then b next')
  pub turn : (a b : Act) → P a b → P (Turn a) (Turn b)
  pub read : (r : Root) → P (Read r) (Read r)
  pub write : (must : Bool) (r : Root) (v : Value) → P (Write must r v) (Write must r v)
  pub resolve : (a : Text) (next next' : Text → Act) → ((m : Text) → P (next m) (next' m)) → P (Resolve a next) (Resolve a next')
  pub ask : (call : HostCall) (next next' : Answer → Act) → ((a : Answer) → P (next a) (next' a)) → P (AskHost call next) (AskHost call next')
  pub invoke : (a : ScriptCall) (next next' : Value → Option Value → Act) → Allowed a.captures → ((v : Value) (u : Option Value) → P (next v u) (next' v u)) → P (Invoke a next) (Invoke a next')
  pub loop : (a b : Act) → P a b → P (Loop a) (Loop b)
  pub plain : Allowed false

module _ (P : Act → Act → Type 0) (Allowed : Bool → Type 0) (g : Congruent P Allowed) where
  pub c_give : (v : Value) → P (give v) (give v)
  c_give v = g.stop (Gives v)

  c_value_then : (f f' : Value → Act) → ((v : Value) → P (f v) (f' v)) → (e : Ending) → P (value_then f e) (value_then f' e)
  c_value_then f f' h (Gives v) = h v
  c_value_then f f' h (Leaves x) = g.stop _

  pub c_bind : (a b : Act) (f f' : Value → Act) → P a b → ((v : Value) → P (f v) (f' v)) → P (a >>= f) (b >>= f')
  c_bind a b f f' h k = g.and_then a b _ _ h (c_value_then f f' k)

  pub c_choose : (b : Bool) (a a' c c' : Act) → P a a' → P c c' → P (choose b a c) (choose b a' c')
  c_choose true a a' c c' h k = h
  c_choose false a a' c c' h k = k

  c_branch : (o : Option Bool) (a a' c c' : Act) → P a a' → P c c' → P (branch o a c) (branch o a' c')
  c_branch None a a' c c' h k = g.fail WrongKind
  c_branch (Some b) a a' c c' h k = c_choose b a a' c c' h k

  pub c_if : (v : Value) (a a' c c' : Act) → P a a' → P c c' → P (if_true v a c) (if_true v a' c')
  c_if v a a' c c' h k = c_branch (truth v) a a' c c' h k

  c_on_throw : (f f' : Value → Act) → ((v : Value) → P (f v) (f' v)) → (e : Ending) → P (on_throw f e) (on_throw f' e)
  c_on_throw f f' h (Gives v) = g.stop _
  c_on_throw f f' h (Leaves (Throws v)) = h v
  c_on_throw f f' h (Leaves _) = g.stop _

  c_again : (a b : Act) → P a b → (e : Ending) → P (again_then a e) (again_then b e)
  c_again a b h (Gives v) = g.stop _
  c_again a b h (Leaves Again) = h
  c_again a b h (Leaves _) = g.stop _

  c_end_round : (e : Ending) → P (end_round e) (end_round e)
  c_end_round (Gives v) = g.stop _
  c_end_round (Leaves (Returns v)) = g.stop _
  c_end_round (Leaves (Breaks v)) = g.stop _
  c_end_round (Leaves Continues) = g.stop _
  c_end_round (Leaves (Throws v)) = g.stop _
  c_end_round (Leaves Again) = g.stop _

  c_answered : (f f' : Value → Option Value → Act) → ((v : Value) (u : Option Value) → P (f v u) (f' v u)) → (a : Answer) → P (answered f a) (answered f' a)
  c_answered f f' h (Answers v u) = h v u
  c_answered f f' h (AnswersThrow v) = g.stop _

  c_ask_host : (f : Text) (vs : List Value) → P (ask_host f vs) (ask_host f vs)
  c_ask_host f vs = g.ask _ _ _ (c_answered _ _ (λ v u. c_give v))

  c_ask_method : (f : Text) (v : Value) (vs : List Value) (next next' : Value → Option Value → Act) → ((x : Value) (u : Option Value) → P (next x u) (next' x u)) → P (ask_method f v vs next) (ask_method f v vs next')
  c_ask_method f v vs next next' h = g.ask _ _ _ (c_answered next next' h)

  -- ---- calls

  c_table : (f : Text) (vs : List Value) (c : Computed) → P (of_table f vs c) (of_table f vs c)
  c_table f vs NoEntry = c_ask_host f vs
  c_table f vs (Is v) = c_give v
  c_table f vs Overflows = g.stop _

  c_operate : (w : World) (op : Operator) (vs : List Value) → P (operate w op vs) (operate w op vs)
  c_operate w op vs = c_table (symbol op) vs (built_in w.engine op vs)

  c_assigned : (w : World) (o : Option Operator) (old new : Value) → P (assigned w o old new) (assigned w o old new)
  c_assigned w None old new = c_give new
  c_assigned w (Some op) old new = c_choose (asks_assigning w.engine op (old ∷ new ∷ [])) _ _ _ _ (c_ask_host _ _) (c_operate w op (old ∷ new ∷ []))

  c_pointer : (v : Value) → P (pointer_to v) (pointer_to v)
  c_pointer (TextV t) = c_choose (is_valid_name t) _ _ _ _ (c_give _) (g.stop _)
  c_pointer _ = g.fail _

  c_curried : (v : Value) (vs : List Value) → P (curried v vs) (curried v vs)
  c_curried (PointerV f us) vs = c_give _
  c_curried _ vs = g.fail _

  c_call_named : (w : World) (b : Bool) → Allowed b → (f : Text) (vs : List Value) → P (call_named w b f vs) (call_named w b f vs)
  c_call_named w b ok f vs = c_choose (has_key w.functions (key f (length vs) None)) _ _ _ _ (g.invoke _ _ _ ok (λ v u. c_give v)) (c_ask_host f vs)

  c_call_pointer : (w : World) (b : Bool) → Allowed b → (p : Value) (vs : List Value) → P (call_pointer w b p vs) (call_pointer w b p vs)
  c_call_pointer w b ok (PointerV f us) vs = c_call_named w b ok f (items us ++ vs)
  c_call_pointer w b ok _ vs = g.fail _

  c_call_word : (w : World) (b : Bool) → Allowed b → (f : Text) (k : Word) (vs : List Value) → P (call_word w b f k vs) (call_word w b f k vs)
  c_call_word w b ok f ToHost vs = c_ask_host f vs
  c_call_word w b ok f TypeOf (v ∷ []) = c_give _
  c_call_word w b ok f IsShared (v ∷ []) = c_give _
  c_call_word w b ok f Fn (v ∷ []) = c_pointer v
  c_call_word w b ok f Curry (p ∷ vs) = c_curried p vs
  c_call_word w b ok f CallFn (p ∷ vs) = c_call_pointer w b ok p vs
  c_call_word w b ok f _ vs = c_call_named w b ok f vs

  abbrev pub AllowedCallee : Callee → Type 0
  AllowedCallee (OnOperator op) = Unit {0}
  AllowedCallee (Qualified m f) = Unit {0}
  AllowedCallee (ByName f b) = Allowed b

  pub c_called : (w : World) (c : Callee) → AllowedCallee c → (vs : List Value) → P (called w c vs) (called w c vs)
  c_called w (OnOperator op) ok vs = c_operate w op vs
  c_called w (Qualified m f) ok vs = g.resolve m _ _ (λ n. c_ask_host (within n f) vs)
  c_called w (ByName f b) ok vs = c_call_word w b ok f (word f) vs

  -- ---- chains

  c_no_place : (o : Option Value) (f f' : Value → Act) → ((v : Value) → P (f v) (f' v)) → P (or_no_place o f) (or_no_place o f')
  c_no_place (Some v) f f' h = h v
  c_no_place None f f' h = g.fail _

  c_read_place : (p : Place) → P (read_place p) (read_place p)
  c_read_place p = c_bind _ _ _ _ (g.read _) (λ v. c_no_place (along v p.keys) _ _ c_give)

  c_write_place : (must : Bool) (p : Place) (v : Value) → P (write_place must p v) (write_place must p v)
  c_write_place must p v = c_bind _ _ _ _ (g.read _) (λ u. c_no_place (with_along u p.keys v) _ _ (λ z. g.write _ _ _))

  c_again_at : (c : Current) (o : Option Place) (f f' : Current → Act) → ((d : Current) → P (f d) (f' d)) → P (again_at c o f) (again_at c o f')
  c_again_at c None f f' h = h c
  c_again_at c (Some p) f f' h = c_bind _ _ _ _ (c_read_place p) (λ v. h _)

  pub c_refreshed : (c : Current) (f f' : Current → Act) → ((d : Current) → P (f d) (f' d)) → P (refreshed c f) (refreshed c f')
  c_refreshed c f f' h = c_again_at c c.place f f' h

  c_put_at : (a b : Value) (o : Option Place) → P (put_at a b o) (put_at a b o)
  c_put_at a b None = g.stop _
  c_put_at a b (Some p) = c_write_place (not (same a b)) p b

  c_put_back : (c : Current) (o : Option Value) → P (put_back c o) (put_back c o)
  c_put_back c None = g.stop _
  c_put_back c (Some v) = c_put_at c.value v c.place

  c_or_throw : (t : Text) (o : Option Current) (f f' : Current → Act) → ((d : Current) → P (f d) (f' d)) → P (or_throw t o f) (or_throw t o f')
  c_or_throw t (Some c) f f' h = h c
  c_or_throw t None f f' h = g.stop _

  c_ask_for : (m : Text) (v : Value) (vs : List Value) (f f' : Current → Act) → ((d : Current) → P (f d) (f' d)) → P (ask_for m v vs f) (ask_for m v vs f')
  c_ask_for m v vs f f' h = c_ask_method m v vs _ _ (λ x u. h _)

  c_property : (p : PropertyNames) (c : Current) (v : Value) (f f' : Current → Act) → ((d : Current) → P (f d) (f' d)) → P (property p c v f) (property p c v f')
  c_property p c (MapV fs) f f' h = h _
  c_property p c v f f' h = c_ask_for p.getter v [] f f' h

  c_index : (c : Current) (v i : Value) (f f' : Current → Act) → ((d : Current) → P (f d) (f' d)) → P (index c v i f) (index c v i f')
  c_index c (ArrayV vs) (IntV i) f f' h = c_or_throw _ (option_map (part c (AtIndex i)) (element vs i)) f f' h
  c_index c (TextV t) (IntV i) f f' h = c_or_throw _ (option_map without_place (character t i)) f f' h
  c_index c (IntV n) (IntV i) f f' h = c_or_throw _ (option_map without_place (bit n i)) f f' h
  c_index c (MapV fs) (TextV k) f f' h = h _
  c_index c v i f f' h = c_ask_for _ v (i ∷ []) f f' h

  c_after : (c : Current) (f f' : Current → Act) → ((d : Current) → P (f d) (f' d)) → (v : Value) (u : Option Value) → P (after_method c f v u) (after_method c f' v u)
  c_after c f f' h v u = c_bind _ _ _ _ (c_put_back c u) (λ z. h _)

  c_to_method : (m : Text) (vs : List Value) (c : Current) (o : Option Key) (f f' : Current → Act) → ((d : Current) → P (f d) (f' d)) → P (to_method m vs c o f) (to_method m vs c o f')
  c_to_method m vs c (Some k) f f' h = g.invoke _ _ _ g.plain (c_after c f f' h)
  c_to_method m vs c None f f' h = c_ask_method m c.value vs _ _ (c_after c f f' h)

  c_alone : (a : Act) (f f' : Current → Act) → P a a → ((d : Current) → P (f d) (f' d)) → P (value_alone a f) (value_alone a f')
  c_alone a f f' k h = c_bind _ _ _ _ k (λ v. h _)

  c_method : (w : World) (m : Text) (k : Word) (vs : List Value) (c : Current) (f f' : Current → Act) → ((d : Current) → P (f d) (f' d)) → P (method w m k vs c f) (method w m k vs c f')
  c_method w m TypeOf [] c f f' h = h _
  c_method w m IsShared [] c f f' h = h _
  c_method w m Curry vs c f f' h = c_alone _ f f' (c_curried c.value vs) h
  c_method w m CallFn vs c f f' h = c_alone _ f f' (c_call_pointer w false g.plain c.value vs) h
  c_method w m _ vs c f f' h = c_to_method m vs c (method_key w m vs c.value) f f' h

  pub c_applied : (w : World) (r : Access) (c : Current) (f f' : Current → Act) → ((d : Current) → P (f d) (f' d)) → P (applied w r c f) (applied w r c f')
  c_applied w (OfProperty p) c f f' h = c_property p c c.value f f' h
  c_applied w (OfIndex i) c f f' h = c_index c c.value i f f' h
  c_applied w (OfMethod m vs) c f f' h = c_method w m (word m) vs c f f' h

  c_by_host : (f : Text) (vs : List Value) (c : Current) → P (set_by_host f vs c) (set_by_host f vs c)
  c_by_host f vs c = c_ask_method f c.value vs _ _ (λ v u. c_put_back c u)

  c_set_element : (p : Place) (i : ℤ) (v : Value) (o : Option Value) → P (set_element p i v o) (set_element p i v o)
  c_set_element p i v (Some u) = c_write_place true _ v
  c_set_element p i v None = g.stop _

  c_set_property : (p : PropertyNames) (v : Value) (at : Place) (c : Current) (u : Value) → P (set_property p v at c u) (set_property p v at c u)
  c_set_property p v at c (MapV fs) = c_write_place true _ v
  c_set_property p v at c _ = c_by_host _ _ c

  c_set_index : (v : Value) (at : Place) (c : Current) (u i : Value) → P (set_index v at c u i) (set_index v at c u i)
  c_set_index v at c (ArrayV vs) (IntV i) = c_set_element at i v (element vs i)
  c_set_index v at c (MapV fs) (TextV k) = c_write_place true _ v
  c_set_index v at c _ i = c_by_host _ _ c

  c_set_placed : (v : Value) (r : Access) (c : Current) (at : Place) → P (set_placed v r c at) (set_placed v r c at)
  c_set_placed v (OfProperty p) c at = c_set_property p v at c c.value
  c_set_placed v (OfIndex i) c at = c_set_index v at c c.value i
  c_set_placed v (OfMethod f vs) c at = g.fail _

  c_set_at : (v : Value) (r : Access) (c : Current) (o : Option Place) → P (set_at v r c o) (set_at v r c o)
  c_set_at v r c None = g.fail _
  c_set_at v r c (Some p) = c_set_placed v r c p

  pub c_assign_last : (w : World) (o : Option Operator) (v : Value) (r : Access) (c : Current) → P (assign_last w o v r c) (assign_last w o v r c)
  c_assign_last w None v r c = c_set_at v r c c.place
  c_assign_last w (Some op) v r c = c_applied w r c _ _ (λ d. c_bind _ _ _ _ (c_assigned w (Some op) d.value v) (λ x. c_set_at x r c c.place))

  pub c_assign_root : (w : World) (o : Option Operator) (v : Value) (r : Root) → P (assign_root w o v r) (assign_root w o v r)
  c_assign_root w None v r = g.write true r v
  c_assign_root w (Some op) v r = c_bind _ _ _ _ (g.read r) (λ old. c_bind _ _ _ _ (c_assigned w (Some op) old v) (λ x. g.write true r x))

  pub c_unless : (b : Bool) (c : Current) (a a' : Act) → P a a' → P (unless_unit b c a) (unless_unit b c a')
  c_unless b c a a' h = c_choose _ _ _ _ _ (g.stop _) h

  -- ---- `switch`

  -- arms that are alike, one by one
  pub record ArmAlike (a b : ArmActs) : Type 0 where
    pub guard : P a.guard b.guard
    pub answer : P a.answer b.answer

  pub data MaybeAlike : Option ArmActs → Option ArmActs → Type 0 where
    no_arm_alike : MaybeAlike None None
    arm_alike : {a b : ArmActs} → ArmAlike a b → MaybeAlike (Some a) (Some b)

  -- of the arms of these indices
  pub data ArmsAlike (as' bs : List ArmActs) : List ℕ → Type 0 where
    no_arms_alike : ArmsAlike as' bs []
    arms_alike : {i : ℕ} {is : List ℕ} → MaybeAlike (slice_get as' i) (slice_get bs i) → ArmsAlike as' bs is → ArmsAlike as' bs (i ∷ is)

  c_try_arm : {a b : Option ArmActs} → MaybeAlike a b → (n n' : Act) → P n n' → P (try_arm a n) (try_arm b n')
  c_try_arm no_arm_alike n n' k = k
  c_try_arm (arm_alike h) n n' k = c_bind _ _ _ _ h.guard (λ v. c_if v _ _ _ _ h.answer k)

  pub c_first : {as' bs : List ArmActs} (is : List ℕ) → ArmsAlike as' bs is → (n n' : Act) → P n n' → P (first_arm as' is n) (first_arm bs is n')
  c_first [] no_arms_alike n n' k = k
  c_first (i ∷ is) (arms_alike h j) n n' k = c_try_arm h _ _ (c_first is j n n' k)

  pub c_answer : {a b : Option ArmActs} → MaybeAlike a b → P (answer_of a) (answer_of b)
  c_answer no_arm_alike = c_give _
  c_answer (arm_alike h) = h.answer

  -- ---- loops and `try`, over lists that are alike once closed

  pub c_round : (p q : Acts) → P (Scoped p) (Scoped q) → P (round p) (round q)
  c_round p q h = g.turn _ _ (g.and_then _ _ _ _ h c_end_round)

  pub c_while : (a b : Act) (p q : Acts) → P a b → P (Scoped p) (Scoped q) → P (while_guarded a p) (while_guarded b q)
  c_while a b p q h k = g.loop _ _ (c_bind _ _ _ _ h (λ v. c_if v _ _ _ _ (c_round p q k) (g.stop _)))

  pub c_do : (n : Bool) (p q : Acts) (a b : Act) → P (Scoped p) (Scoped q) → P a b → P (do_loop n p a) (do_loop n q b)
  c_do false p q a b k h = g.loop _ _ (g.and_then _ _ _ _ (c_round p q k) (c_again _ _ (c_bind _ _ _ _ h (λ v. c_if v _ _ _ _ (g.stop _) (g.stop _)))))
  c_do true p q a b k h = g.loop _ _ (g.and_then _ _ _ _ (c_round p q k) (c_again _ _ (c_bind _ _ _ _ h (λ v. c_if v _ _ _ _ (g.stop _) (g.stop _)))))

  -- each round of a `for`
  abbrev pub RoundsAlike : Text → Option Text → Acts → Acts → Type 0
  RoundsAlike x i p q = (k : ℕ) (v : Value) → P (Scoped (counted i k (Named x IsVariable v p))) (Scoped (counted i k (Named x IsVariable v q)))

  c_for_each : (x : Text) (i : Option Text) (p q : Acts) → RoundsAlike x i p q → (k : ℕ) (vs : List Value) → P (for_each x i p k vs) (for_each x i q k vs)
  c_for_each x i p q h k [] = g.stop _
  c_for_each x i p q h k (v ∷ vs) = g.and_then _ _ _ _ (c_round _ _ (h k v)) (c_again _ _ (c_for_each x i p q h (suc k) vs))

  c_for_count : (x : Text) (i : Option Text) (p q : Acts) → RoundsAlike x i p q → (k : ℕ) (a : ℤ) (n : ℕ) → P (for_count x i p k a n) (for_count x i q k a n)
  c_for_count x i p q h k a zero = g.stop _
  c_for_count x i p q h k a (suc n) = g.and_then _ _ _ _ (c_round _ _ (h k (IntV a))) (c_again _ _ (c_for_count x i p q h (suc k) (a +ℤ pos 1) n))

  pub c_for_all : (x : Text) (i : Option Text) (p q : Acts) → RoundsAlike x i p q → (v : Value) → P (for_all x i p v) (for_all x i q v)
  c_for_all x i p q h (ArrayV vs) = c_for_each x i p q h 0 (items vs)
  c_for_all x i p q h (RangeV a b) = c_for_count x i p q h 0 a _
  c_for_all x i p q h (RangeInclusiveV a b) = c_for_count x i p q h 0 a _
  c_for_all x i p q h _ = g.fail _

  c_end_branch : (v : Value) (e : Ending) → P (end_branch v e) (end_branch v e)
  c_end_branch v (Gives u) = g.stop _
  c_end_branch v (Leaves (Throws u)) = c_choose _ _ _ _ _ (g.stop _) (g.stop _)
  c_end_branch v (Leaves _) = g.stop _

  pub c_try : (x : Option Text) (p q r r' : Acts) → P (Scoped p) (Scoped q) → ((v : Value) → P (Scoped (named x v r)) (Scoped (named x v r'))) → P (try_of p x r) (try_of q x r')
  c_try x p q r r' h k = g.and_then _ _ _ _ h (c_on_throw _ _ (λ v. g.and_then _ _ _ _ (k v) (c_end_branch v)))
