-- The arms of a `switch`, one after another.
use Rattle.std.proofs.Common.{◌≡◌, ℕ, zero, suc, ◌+◌, ◌<◌, ◌≤◌, Bool, true, false, cond, List, [], ◌∷◌, map, length, drop, get_or, Some, None, Result, Ok, Err, refl, sym, ap, ◌∙◌, arith}
use Rattle.std.specs.Prelude.{nat_lt, option_map, pos, slice_get}
use Rattle.std.proofs.lemmas.Bool.Decides.{nat_tests}
use Rattle.std.proofs.lemmas.List.{drop_more}
use Rattle.rhai_base.specs.declared.dynamic.Dynamic.{Dynamic}
use Rattle.rhai_base.specs.declared.dynamic.Dynamic.TheVariants as value
use Rattle.rhai_base.specs.Reading.{value_of, value_of-Unit}
use Rattle.rhai_base.specs.Value.{Value}
use Rattle.ast_types.specs.declared.expr.BinaryExpr.{BinaryExpr}
use Rattle.rhai_base.specs.declared.range_case.RangeCase.{RangeCase}
use Rattle.rhai_base.specs.declared.range_case.RangeCase.TheVariants as range_kind
use Rattle.ast_types.specs.Reading.{arms_of, expr_of, range_of}
use Rattle.theory_meaning.specs.Act.{Act}
use Rattle.theory_meaning.specs.ActForms.{choose, truth}
use Rattle.theory_meaning.specs.Control.{ArmActs, answer_of, chosen, default_of, first_arm, holds, ranges_with, switch_on, try_arm}
use Rattle.theory_meaning.specs.Meaning.{act}
use Rattle.theory_meaning.specs.Core as core
use Rattle.theory_meaning.specs.Desugar.{core_arms, core_expr, core_stmt}
use Rattle.theory_meaning.specs.Shape.{is_table}
use Rattle.theory_meaning.specs.Tree as tree
use Rattle.theory_meaning.specs.Tree.{SwitchRange, SwitchTable}
use Rattle.run_state.specs.declared.state.Interrupt.{Interrupt}
use Rattle.run_state.specs.declared.state.State.{State}
use Rattle.run_state.specs.Evaluating.{arms_here, or_stuck, RunsArm, RunsExpr, RunsFirstArm}
use Rattle.run_state.specs.Runs.{Setting, Acting, Goes, Stops, Runs, given}
use Rattle.rhai_base.specs.Ranges.{holds_value}
use Rattle.run_evaluator.proofs.Ranges.{held_is}
use Rattle.run_state.proofs.Goes.{gives, goes_as, goes_then, stops_then, leads_then, value_goes, value_stops, if_goes, if_stops}

-- ---- ranges

-- the places of the ranges that hold a value, from the first on
pub holding : (r : SwitchRange) (rs : List SwitchRange) (v : Value) → holds r.range v ≡ true → ranges_with (r ∷ rs) v ≡ r.arm ∷ ranges_with rs v
holding r rs v h = ap (λ b. cond b (r.arm ∷ ranges_with rs v) (ranges_with rs v)) h

module _ (here : Setting) (loop : Bool) where
  abbrev arm_of : BinaryExpr → ArmActs
  arm_of b = record { guard = act here.world (core_expr loop (expr_of b.lhs)); answer = act here.world (core_expr loop (expr_of b.rhs)) }

  abbrev pub arm_list : List BinaryExpr → List ArmActs
  arm_list bs = arms_here here loop (arms_of bs)

  pub arm_at : (bs : List BinaryExpr) (i : ℕ) → slice_get (arm_list bs) i ≡ option_map arm_of (slice_get bs i)
  arm_at [] zero = refl
  arm_at [] (suc i) = refl
  arm_at (b ∷ bs) zero = refl
  arm_at (b ∷ bs) (suc i) = arm_at bs i

  -- ---- one arm

  module _ (bs : List BinaryExpr) (i : ℕ) (s : State) where
    pub arm_missing : None ≡ slice_get bs i → RunsArm here (slice_get (arm_list bs) i) s (Ok None) s
    arm_missing h = λ next. goes_as here _ _ s (ap (λ a. Acting (try_arm a next)) (arm_at bs i ∙ ap (option_map arm_of) (sym h)))

    module _ (b : BinaryExpr) (h : Some b ≡ slice_get bs i) where
      arm_here : (next : Act) → Goes here (Acting (try_arm (slice_get (arm_list bs) i) next)) s (Acting (try_arm (Some (arm_of b)) next)) s
      arm_here next = goes_as here _ _ s (ap (λ a. Acting (try_arm a next)) (arm_at bs i ∙ ap (option_map arm_of) (sym h)))

      pub arm_stops : (s1 : State) (x : Interrupt) → RunsExpr here loop (expr_of b.lhs) s (Err x) s1 → RunsArm here (slice_get (arm_list bs) i) s (Err x) s1
      arm_stops s1 x q = λ next. stops_then here s1 x (arm_here next) (value_stops here _ _ s s1 x q)

      module _ (s1 : State) (v : Dynamic) (q : RunsExpr here loop (expr_of b.lhs) s (Ok v) s1) where
        pub arm_stuck : (x : Interrupt) → Err x ≡ or_stuck (truth (value_of v)) → RunsArm here (slice_get (arm_list bs) i) s (Err x) s1
        arm_stuck x t = λ next. stops_then here s1 x (goes_then here (arm_here next) (value_goes here _ q)) (if_stops here _ next s1 (value_of v) x t)

        decides : (c : Bool) → Ok c ≡ or_stuck (truth (value_of v)) → (next : Act) → Goes here (Acting (try_arm (slice_get (arm_list bs) i) next)) s (Acting (choose c (arm_of b).answer next)) s1
        decides c t next = goes_then here (arm_here next) (goes_then here (value_goes here _ q) (if_goes here _ next s1 (value_of v) c t))

        pub arm_false : (c : Bool) → Ok c ≡ or_stuck (truth (value_of v)) → c ≡ false → RunsArm here (slice_get (arm_list bs) i) s (Ok None) s1
        arm_false c t f = λ next. goes_then here (decides c t next) (goes_as here _ _ s1 (ap (λ d. Acting (choose d (arm_of b).answer next)) f))

        to_answer : (c : Bool) → Ok c ≡ or_stuck (truth (value_of v)) → c ≡ true → (next : Act) → Goes here (Acting (try_arm (slice_get (arm_list bs) i) next)) s (Acting (arm_of b).answer) s1
        to_answer c t f next = goes_then here (decides c t next) (goes_as here _ _ s1 (ap (λ d. Acting (choose d (arm_of b).answer next)) f))

        pub arm_true : (c : Bool) (s2 : State) (w : Dynamic) → Ok c ≡ or_stuck (truth (value_of v)) → c ≡ true → RunsExpr here loop (expr_of b.rhs) s1 (Ok w) s2 → RunsArm here (slice_get (arm_list bs) i) s (Ok (Some w)) s2
        arm_true c s2 w t f r = λ next. goes_then here (to_answer c t f next) r

        pub arm_leaves : (c : Bool) (s2 : State) (x : Interrupt) → Ok c ≡ or_stuck (truth (value_of v)) → c ≡ true → RunsExpr here loop (expr_of b.rhs) s1 (Err x) s2 → RunsArm here (slice_get (arm_list bs) i) s (Err x) s2
        arm_leaves c s2 x t f r = λ next. stops_then here s2 x (to_answer c t f next) r

  -- ---- the arms of a list of places

  module _ (bs : List BinaryExpr) where
    -- the arms before the rest answer nothing, whatever the default is
    pub record PlacesAt (places rest : List ℕ) (s s' : State) : Type 0 where
      pub so : (default : Act) → Goes here (Acting (first_arm (arm_list bs) places default)) s (Acting (first_arm (arm_list bs) rest default)) s'

    module _ (places rest after : List ℕ) (i : ℕ) (s s1 s2 : State) (h : rest ≡ i ∷ after) (at : PlacesAt places rest s s1) where
      place_here : (default : Act) → Goes here (Acting (first_arm (arm_list bs) places default)) s (Acting (try_arm (slice_get (arm_list bs) i) (first_arm (arm_list bs) after default))) s1
      place_here default = goes_then here (at.so default) (goes_as here _ _ s1 (ap (λ l. Acting (first_arm (arm_list bs) l default)) h))

      pub places_stops : (x : Interrupt) → RunsArm here (slice_get (arm_list bs) i) s1 (Err x) s2 → (default : Act) → Stops here (Acting (first_arm (arm_list bs) places default)) s x s2
      places_stops x q default = stops_then here s2 x (place_here default) (q _)

      pub places_ends : (v : Dynamic) → RunsArm here (slice_get (arm_list bs) i) s1 (Ok (Some v)) s2 → (default : Act) → Goes here (Acting (first_arm (arm_list bs) places default)) s (given (value_of v)) s2
      places_ends v q default = goes_then here (place_here default) (q _)

      pub places_next : RunsArm here (slice_get (arm_list bs) i) s1 (Ok None) s2 → PlacesAt places after s s2
      places_next q = record { so = λ default. goes_then here (place_here default) (q _) }

    pub places_end : (places rest : List ℕ) (s s1 : State) → rest ≡ [] → PlacesAt places rest s s1 → (default : Act) → Goes here (Acting (first_arm (arm_list bs) places default)) s (Acting default) s1
    places_end places rest s s1 h at default = goes_then here (at.so default) (goes_as here _ _ s1 (ap (λ l. Acting (first_arm (arm_list bs) l default)) h))

    -- ---- the default

    pub default_missing : (i : ℕ) (s : State) → None ≡ slice_get bs i → Goes here (Acting (default_of (arm_list bs) (Some i))) s (given (value_of value.Unit)) s
    default_missing i s h = goes_then here (goes_as here _ _ s (ap (λ a. Acting (answer_of a)) (arm_at bs i ∙ ap (option_map arm_of) (sym h)))) (gives here _ _ s (sym value_of-Unit))

    pub default_runs : (i : ℕ) (b : BinaryExpr) (s s1 : State) (r : Result Dynamic Interrupt) → Some b ≡ slice_get bs i → RunsExpr here loop (expr_of b.rhs) s r s1 → Runs here (Acting (default_of (arm_list bs) (Some i))) s r s1
    default_runs i b s s1 r h q = leads_then here s1 r (λ v. given (value_of v)) (goes_as here _ _ s (ap (λ a. Acting (answer_of a)) (arm_at bs i ∙ ap (option_map arm_of) (sym h)))) q

module _ (here : Setting) (loop : Bool) (bs : List BinaryExpr) where
  -- the ranges before the rest hold the value nowhere, or their arms answer nothing
  pub record RangesAt (v : Value) (ranges rest : List SwitchRange) (s s' : State) : Type 0 where
    pub so : (default : Act) → Goes here (Acting (first_arm (arm_list here loop bs) (ranges_with ranges v) default)) s (Acting (first_arm (arm_list here loop bs) (ranges_with rest v) default)) s'

  -- and then the others
  first_then : (c : Bool) (i : ℕ) (is : List ℕ) (default : Act) → first_arm (arm_list here loop bs) (cond c (i ∷ is) is) default ≡ first_arm (arm_list here loop bs) (cond c (i ∷ []) []) (first_arm (arm_list here loop bs) is default)
  first_then true i is default = refl
  first_then false i is default = refl

  -- a range that does not hold the value
  pub range_misses : (r : RangeCase) (v : Value) (s : State) → false ≡ holds_value r v → RunsFirstArm here (arm_list here loop bs) (ranges_with (range_of r ∷ []) v) s (Ok None) s
  range_misses r v s h = λ default. goes_as here _ _ s (ap (λ b. Acting (first_arm (arm_list here loop bs) (cond b ((range_of r).arm ∷ []) []) default)) (sym (h ∙ held_is r v)))

  module _ (v : Value) (ranges rest after : List SwitchRange) (r : SwitchRange) (s s1 s2 : State) (h : rest ≡ r ∷ after) (at : RangesAt v ranges rest s s1) where
    range_here : (default : Act) → Goes here (Acting (first_arm (arm_list here loop bs) (ranges_with ranges v) default)) s (Acting (first_arm (arm_list here loop bs) (ranges_with (r ∷ []) v) (first_arm (arm_list here loop bs) (ranges_with after v) default))) s1
    range_here default = goes_then here (at.so default) (goes_as here _ _ s1 (ap (λ l. Acting (first_arm (arm_list here loop bs) (ranges_with l v) default)) h ∙ ap Acting (first_then (holds r.range v) r.arm (ranges_with after v) default)))

    pub ranges_stops : (x : Interrupt) → RunsFirstArm here (arm_list here loop bs) (ranges_with (r ∷ []) v) s1 (Err x) s2 → (default : Act) → Stops here (Acting (first_arm (arm_list here loop bs) (ranges_with ranges v) default)) s x s2
    ranges_stops x q default = stops_then here s2 x (range_here default) (q _)

    pub ranges_ends : (w : Dynamic) → RunsFirstArm here (arm_list here loop bs) (ranges_with (r ∷ []) v) s1 (Ok (Some w)) s2 → (default : Act) → Goes here (Acting (first_arm (arm_list here loop bs) (ranges_with ranges v) default)) s (given (value_of w)) s2
    ranges_ends w q default = goes_then here (range_here default) (q _)

    pub ranges_next : RunsFirstArm here (arm_list here loop bs) (ranges_with (r ∷ []) v) s1 (Ok None) s2 → RangesAt v ranges after s s2
    ranges_next q = record { so = λ default. goes_then here (range_here default) (q _) }

  pub ranges_end : (v : Value) (ranges rest : List SwitchRange) (s s1 : State) → rest ≡ [] → RangesAt v ranges rest s s1 → (default : Act) → Goes here (Acting (first_arm (arm_list here loop bs) (ranges_with ranges v) default)) s (Acting default) s1
  ranges_end v ranges rest s s1 h at default = goes_then here (at.so default) (goes_as here _ _ s1 (ap (λ l. Acting (first_arm (arm_list here loop bs) (ranges_with l v) default)) h))

-- ---- the whole

module _ (here : Setting) where
  module _ (arms : List ArmActs) (t : SwitchTable) (v : Value) (s s1 : State) where
    pub arms_stop : (x : Interrupt) → RunsFirstArm here arms (chosen t v) s (Err x) s1 → Stops here (Acting (switch_on arms t v)) s x s1
    arms_stop x q = q _

    pub arms_end : (w : Dynamic) → RunsFirstArm here arms (chosen t v) s (Ok (Some w)) s1 → Goes here (Acting (switch_on arms t v)) s (given (value_of w)) s1
    arms_end w q = q _

    pub arms_default : (s2 : State) (r : Result Dynamic Interrupt) → RunsFirstArm here arms (chosen t v) s (Ok None) s1 → Runs here (Acting (default_of arms t.default)) s1 r s2 → Runs here (Acting (switch_on arms t v)) s r s2
    arms_default s2 r q k = leads_then here s2 r (λ u. given (value_of u)) (q _) k

  -- a statement whose table is one, or is none
  module _ (loop : Bool) (e : tree.Expr) (as' : tree.Arms) (t : SwitchTable) where
    abbrev switch_line : core.Stmt
    switch_line = core_stmt loop (tree.Switch e as' t)

    switch_is : (b : Bool) → is_table as' t ≡ b → core.Does (cond b (core.Switch (core_expr loop e) (core_arms loop as') t) core.IllDeed) ≡ switch_line
    switch_is b h = ap (λ c. core.Does (cond c (core.Switch (core_expr loop e) (core_arms loop as') t) core.IllDeed)) (sym h)

-- ---- items of lists

-- what stands where no range does
abbrev pub no_range : RangeCase
no_range = range_kind.ExclusiveInt (record { start = pos 0; end = pos 0 }) 0

pub range_at : (ranges : List RangeCase) (i : ℕ) → i < length ranges → map range_of (drop i ranges) ≡ range_of (get_or ranges i no_range) ∷ map range_of (drop (i + 1) ranges)
range_at ranges i h = ap (map range_of) (drop_more ranges i no_range h)

below : (i n : ℕ) → true ≡ nat_lt i n → i < n
below i n h = grind (arith, nat_tests)

past : (i n : ℕ) → false ≡ nat_lt i n → n ≤ i
past i n h = grind (arith, nat_tests)

there : (bs : List BinaryExpr) (i : ℕ) (b : BinaryExpr) → i < length bs → b ≡ get_or bs i b → Some b ≡ slice_get bs i
there [] i b h e = absurd (omega (arith, h))
there (c ∷ bs) zero b h e = ap Some e
there (c ∷ bs) (suc i) b h e = there bs i b (omega (arith, h)) e

not_there : (bs : List BinaryExpr) (i : ℕ) → length bs ≤ i → None ≡ slice_get bs i
not_there [] zero h = refl
not_there [] (suc i) h = refl
not_there (c ∷ bs) zero h = absurd (omega (arith, h))
not_there (c ∷ bs) (suc i) h = not_there bs i (omega (arith, h))

pub arm_there : (bs : List BinaryExpr) (i : ℕ) (b : BinaryExpr) → true ≡ nat_lt i (length bs) → b ≡ get_or bs i b → Some b ≡ slice_get bs i
arm_there bs i b h e = there bs i b (below i (length bs) h) e

pub arm_past : (bs : List BinaryExpr) (i : ℕ) → false ≡ nat_lt i (length bs) → None ≡ slice_get bs i
arm_past bs i h = not_there bs i (past i (length bs) h)
