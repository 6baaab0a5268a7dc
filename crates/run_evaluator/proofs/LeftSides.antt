-- Assignments to parts of values, by the left side.
use Rattle.std.proofs.Common.{◌≡◌, Bool, true, false, cond, Option, Some, None, Result, Ok, Err, refl, subst, arith}
use Rattle.rhai_base.specs.Value.{Value, UnitV}
use Rattle.rhai_base.specs.Operators.{Operator}
use Rattle.ast_types.specs.Reading.{breaks, chain_flags, expr_of}
use Rattle.theory_meaning.specs.Act as act
use Rattle.theory_meaning.specs.Act.{Act}
use Rattle.theory_meaning.specs.Core as core
use Rattle.theory_meaning.specs.Desugar.{ends_in_call, part_target, root_of}
use Rattle.theory_meaning.specs.Meaning as meaning
use Rattle.theory_meaning.specs.Places as places
use Rattle.theory_meaning.specs.Shape.{is_chain}
use Rattle.theory_meaning.specs.Tree as tree
use Rattle.run_steps.specs.declared.nodes.links.Rest.{Rest}
use Rattle.run_state.specs.declared.state.Interrupt.{Interrupt}
use Rattle.run_state.specs.declared.state.Interrupt.TheVariants.{Stuck}
use Rattle.run_state.specs.declared.state.State.{State}
use Rattle.run_host.specs.declared.report.Stuck.TheVariants as why
use Rattle.run_steps.specs.Links.{rest_steps}
use Rattle.run_steps.specs.Placing.{read_base}
use Rattle.run_state.specs.Runs.{Setting, Task, Acting, Goes, Leads, Stops, given}
use Rattle.run_steps.specs.LeftSides.{part_core}
use Rattle.run_state.proofs.Goes.{leads_then}
use Rattle.rhai_ast.specs.Nodes.{is_dot}

module _ (here : Setting) (loop : Bool) (l : tree.Expr) (rest : Rest) (o : Option Operator) (v : Value) (s : State) where
  abbrev chained : Bool
  chained = is_chain (is_dot rest.chain) (chain_flags rest.options) (expr_of rest.right.now)

  abbrev called : Bool
  called = ends_in_call (is_dot rest.chain) (breaks rest.options) (expr_of rest.right.now)

  abbrev part_by_tests : Bool → Option act.Root → Bool → core.Target
  part_by_tests b r c = cond b (part_target r c (rest_steps loop rest)) core.IllTarget

  abbrev Assigns : core.Target → Result Unit Interrupt → State → Type 0
  Assigns t x s' = Leads here (Acting (meaning.assign here.world o t v)) s x s' (λ z. given UnitV)

  ill_here : Assigns core.IllTarget (Err (Stuck why.WrongKind)) s
  ill_here = record { turns = omega arith; runs = λ d le. refl }

  nowhere_here : Assigns core.Nowhere (Err (Stuck why.NoPlace)) s
  nowhere_here = record { turns = omega arith; runs = λ d le. refl }

  pub part_ill : false ≡ chained → Assigns (part_core loop l rest) (Err (Stuck why.WrongKind)) s
  part_ill e = subst (λ b. Assigns (part_by_tests b (root_of l) called) (Err (Stuck why.WrongKind)) s) e ill_here

  module _ (e : true ≡ chained) where
    pub part_unplaced : None ≡ root_of l → Assigns (part_core loop l rest) (Err (Stuck why.NoPlace)) s
    part_unplaced f = subst (λ t. Assigns t (Err (Stuck why.NoPlace)) s) (λ i. part_by_tests (e i) (f i) called) nowhere_here

    module _ (r : act.Root) (f : Some r ≡ root_of l) where
      -- the value of a call has no place
      pub part_called : true ≡ called → Assigns (part_core loop l rest) (Err (Stuck why.NoPlace)) s
      part_called g = subst (λ t. Assigns t (Err (Stuck why.NoPlace)) s) (λ i. part_by_tests (e i) (f i) (g i)) nowhere_here

      module _ (g : false ≡ called) where
        abbrev on_part : places.Current → Act
        on_part c = meaning.assign_steps here.world o v (rest_steps loop rest) c

        part_as : (x : Result Unit Interrupt) (s2 : State) → Leads here (Acting (read_base r on_part)) s x s2 (λ z. given UnitV) → Assigns (part_core loop l rest) x s2
        part_as x s2 q = subst (λ t. Assigns t x s2) (λ i. part_by_tests (e i) (f i) (g i)) q

        pub part_stops : (x : Interrupt) → Stops here (Acting (read_base r on_part)) s x s → Assigns (part_core loop l rest) (Err x) s
        part_stops x q = part_as (Err x) s q

        -- by what is left to assign to
        pub part_runs : (f : Task) (s2 : State) (x : Result Unit Interrupt) → Goes here (Acting (read_base r on_part)) s f s → Leads here f s x s2 (λ z. given UnitV) → Assigns (part_core loop l rest) x s2
        part_runs f s2 x q n = part_as x s2 (leads_then here s2 x (λ z. given UnitV) q n)
