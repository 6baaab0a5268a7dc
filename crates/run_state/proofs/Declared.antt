-- Names, aliases and exports that statements add.
use Rattle.std.proofs.Common.{◌≡◌, ℕ, Bool, true, false, List, [], ◌∷◌, length, ◌==◌, Ok, Err, refl, sym, ap, ◌∙◌, arith}
use Rattle.std.proofs.Math.Dec.{eqb-suc-zero}
use Rattle.rhai_base.specs.declared.dynamic.Dynamic.{Dynamic}
use Rattle.rhai_base.specs.declared.dynamic.Dynamic.TheVariants as value
use Rattle.rhai_base.specs.Reading.{value_of, value_of-Unit}
use Rattle.rhai_base.specs.Value.{Text, Value, UnitV}
use Rattle.theory_meaning.specs.Act.{EntryKind, IsAlias, IsExport, Store, Acts, Named, declared, run_all}
use Rattle.theory_meaning.specs.ActForms.{unit}
use Rattle.theory_meaning.specs.Core as core
use Rattle.theory_meaning.specs.Desugar.{alias}
use Rattle.theory_meaning.specs.Meaning.{exporting}
use Rattle.run_state.specs.declared.state.Interrupt.{Interrupt}
use Rattle.run_state.specs.declared.state.State.{State}
use Rattle.run_state.specs.Evaluating.{RunsCore, RunsLine}
use Rattle.run_state.specs.Runs.{Setting, Listing, Goes, env}
use Rattle.run_state.specs.State.{store_of, aliased_in, declared_in}
use Rattle.run_state.proofs.Goes.{gives, goes_as, goes_then, line_goes, line_stops, value_goes, value_stops}

pub alias_none : (x : Text) (v : Value) (st : Store) → (length x == 0) ≡ true → aliased_in x v st ≡ st
alias_none [] v st h = refl
alias_none (c ∷ cs) v st h = absurd (let z : true ≡ false = sym h ∙ eqb-suc-zero (length cs) in cc)

pub alias_some : (x : Text) (v : Value) (st : Store) → (length x == 0) ≡ false → aliased_in x v st ≡ declared x IsAlias v st
alias_some [] v st h = cc
alias_some (c ∷ cs) v st h = refl

pub declared_alone : (k : EntryKind) (b : Bool) (x : Text) (v : Value) (st : Store) → b ≡ false → declared_in k b x v st ≡ declared x k v st
declared_alone k false x v st h = refl
declared_alone k true x v st h = cc

pub declared_exported : (k : EntryKind) (b : Bool) (x : Text) (v : Value) (st : Store) → b ≡ true → declared_in k b x v st ≡ declared x IsExport v (declared x k v st)
declared_exported k true x v st h = refl
declared_exported k false x v st h = cc

pub ruleset declaring = (alias_none, alias_some, declared_alone, declared_exported)

module _ (here : Setting) (s s1 : State) where
  -- a list goes on with the entries that stand before it
  listed : (p : Acts) (q : Acts) (s2 : State) → s2.turns ≡ s1.turns → ((d : ℕ) → run_all here.world (env here d) p (store_of s1) s1.turns ≡ run_all here.world (env here d) q (store_of s2) s1.turns) → Goes here (Listing p) s1 (Listing q) s2
  listed p q s2 t h = record { turns = omega (arith, t); runs = λ d le. h d ∙ (λ i. run_all here.world (env here d) q (store_of s2) (sym t i)) }

  module _ (e : core.Expr) where
    module _ (k : EntryKind) (b : Bool) (x : Text) where
      pub name_stops : (y : Interrupt) → RunsCore here e s (Err y) s1 → RunsLine here (core.Var k b x e) s (Err y) s1
      name_stops y q = λ next. line_stops here _ _ s s1 y q

    module _ (v : Dynamic) (q : RunsCore here e s (Ok v) s1) (s2 : State) (t : s2.turns ≡ s1.turns) where
      added : (k : EntryKind) (b : Bool) (x : Text) (p : Acts) → store_of s2 ≡ declared_in k b x (value_of v) (store_of s1) → Goes here (Listing (Named x k (value_of v) (exporting b x (value_of v) p))) s1 (Listing p) s2
      added k true x p h = listed _ p s2 t (λ d i. run_all here.world (env here d) p (sym h i) s1.turns)
      added k false x p h = listed _ p s2 t (λ d i. run_all here.world (env here d) p (sym h i) s1.turns)

      unit_value : (next : Value → Acts) → Goes here (Listing (next UnitV)) s2 (Listing (next (value_of value.Unit))) s2
      unit_value next = goes_as here _ _ s2 (ap (λ u. Listing (next u)) (sym value_of-Unit))

      pub name_line : (k : EntryKind) (b : Bool) (x : Text) → store_of s2 ≡ declared_in k b x (value_of v) (store_of s1) → RunsLine here (core.Var k b x e) s (Ok value.Unit) s2
      name_line k b x h = λ next. goes_then here (line_goes here (λ u. Named x k u (exporting b x u (next UnitV))) q) (goes_then here (added k b x (next UnitV) h) (unit_value next))

  module _ (e : core.Expr) where
    pub alias_stops : (x : Text) (y : Interrupt) → RunsCore here (core.ModuleOf e) s (Err y) s1 → RunsLine here (alias x e) s (Err y) s1
    alias_stops [] y q = λ next. line_stops here _ next s s1 y (value_stops here _ (λ v. unit) s s1 y q)
    alias_stops (c ∷ cs) y q = name_stops (core.ModuleOf e) IsAlias false (c ∷ cs) y q

    module _ (v : Dynamic) (q : RunsCore here (core.ModuleOf e) s (Ok v) s1) (s2 : State) (t : s2.turns ≡ s1.turns) where
      pub alias_line : (x : Text) → store_of s2 ≡ aliased_in x (value_of v) (store_of s1) → RunsLine here (alias x e) s (Ok value.Unit) s2
      alias_line [] h = λ next.
          goes_then here (line_goes here next (goes_then here (value_goes here (λ u. unit) q) (gives here _ _ s1 refl)))
          (goes_then here (listed (next UnitV) (next UnitV) s2 t (λ d i. run_all here.world (env here d) (next UnitV) (sym h i) s1.turns)) (unit_value (core.ModuleOf e) v q s2 t next))
      alias_line (c ∷ cs) h = name_line (core.ModuleOf e) v q s2 t IsAlias false (c ∷ cs) h
