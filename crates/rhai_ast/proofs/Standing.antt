-- Where the first fault stands, child by child and function by function.
use Rattle.std.proofs.Common.{◌≡◌, ℕ, ◌+◌, ◌<◌, not, Bool, true, false, List, [], ◌∷◌, Option, None, Some, Result, Ok, Err, length, get_or, drop, add-one, refl, sym, ap, subst, ◌∙◌}
use Rattle.std.proofs.Math.Seq.{drop-cons}
use Rattle.std.proofs.lemmas.Result.{err_from_is_err_and}
use Rattle.std.specs.Result.{IsErrAnd}
use Rattle.std.specs.declared.alloc.Global.{Global}
use Rattle.std.specs.declared.rc.Rc.{Rc}
use Rattle.base_tokens.specs.declared.position.Position.{Position}
use Rattle.ast_types.specs.declared.script_fn.ScriptFuncDef.{ScriptFuncDef}
use Rattle.theory_meaning.specs.Faults.{TreeFault, ReservedName, fault_of, finding, functions_fault, is_reserved, unless, ◌then◌}
use Rattle.theory_meaning.specs.Walk as walk
use Rattle.theory_meaning.specs.Walk.{around_parts, over_stmts}
use Rattle.ast_types.specs.Reading.{function_of, stmts_of}
use Rattle.rhai_ast.specs.Children.{at_spot, over_children, over_node, over_parts}
use Rattle.rhai_ast.specs.Left.{left_of}
use Rattle.rhai_ast.specs.Nodes.{child_of, node_of, spot_of}
use Rattle.rhai_ast.specs.Standing.{below, declared_of, place_of, standing_child, standing_of, statements_standing, tree_of}
use Rattle.rhai_ast.specs.declared.walker.children.Children.{Children}
use Rattle.rhai_ast.specs.declared.walker.node.Child as lent
use Rattle.rhai_ast.proofs.BelowNodes.{tree_same}
use Rattle.rhai_ast.specs.Places.{around_at}
use Rattle.rhai_ast.specs.Refusals.{Finds, IsTheFirst, meant}
use Rattle.rhai_ast.specs.StandingFaults.{OnFault, Stands, StandsAt, StandsInFunctions, by_name, deeper, defs_of, fault_in, here, in_body, in_others, later}
use Rattle.rhai_ast.specs.declared.faults.error.TreeError.{TreeError}
use Rattle.rhai_ast.proofs.BelowFaults.{left_found, then_assoc}
use Rattle.rhai_ast.proofs.FoundLists.{found_functions, functions_found-drop}

-- ---- what a `?` passes on

first_stays : (o p m : Option TreeFault) → IsTheFirst o m → IsTheFirst (o then p) m
first_stays o p None h = tt
first_stays None p (Some f) h = absurd (let z : None ≡ Some f = h in cc)
first_stays (Some g) p (Some f) h = h

-- the fault of a part, before which nothing was found
pub leaves_with : {A : Type 0} (r : Result A TreeError) (e : TreeError) (all o p : Option TreeFault) → IsErrAnd r (λ y. y ≡ e) → all ≡ o then p → IsTheFirst o (meant e.fault) → Finds all (fault_in r)
leaves_with r e all o p passed t h =
    let q = err_from_is_err_and r passed in
    subst (λ (x : Result _ TreeError). Finds all (fault_in x)) (sym q.1)
    (subst (λ (y : TreeError). IsTheFirst all (meant y.fault)) (sym q.2) (subst (λ a. IsTheFirst a (meant e.fault)) (sym t) (first_stays o p (meant e.fault) h)))

pub passes : {A : Type 0} (At : TreeFault → Position → Type 0) (r : Result A TreeError) (e : TreeError) → IsErrAnd r (λ y. y ≡ e) → OnFault (meant e.fault) (λ f. At f e.position) → Stands At r
passes At r e passed h =
    let q = err_from_is_err_and r passed in
    subst (Stands At) (sym q.1) (subst (λ (y : TreeError). OnFault (meant y.fault) (λ f. At f y.position)) (sym q.2) h)

-- a fault that is the first of these
pub on_first : (o m : Option TreeFault) (P : TreeFault → Type 0) → IsTheFirst o m → ((f : TreeFault) → o ≡ Some f → P f) → OnFault m P
on_first o None P h k = tt
on_first o (Some f) P h k = k f h

pub on_each : (m : Option TreeFault) (P Q : TreeFault → Type 0) → ((f : TreeFault) → P f → Q f) → OnFault m P → OnFault m Q
on_each None P Q k h = tt
on_each (Some f) P Q k h = k f h

pub stands_each : {A : Type 0} (r : Result A TreeError) (P Q : TreeFault → Position → Type 0) → ((f : TreeFault) (p : Position) → P f p → Q f p) → Stands P r → Stands Q r
stands_each (Ok x) P Q k h = tt
stands_each (Err e) P Q k h = on_each (meant e.fault) (λ f. P f e.position) (λ f. Q f e.position) (λ f. k f e.position) h

-- ---- child by child

spot_found : (s : Option walk.Spot) (p : walk.Around → Option TreeFault) (a : walk.Around) → at_spot finding s p a ≡ p (around_at s a)
spot_found None p a = refl
spot_found (Some s) p a = refl

-- the first child that is left, with the nodes below it, and those after it
module _ (a b : walk.Around) (cs ds : Children) (c : lent.Child) (there : b ≡ around_at (spot_of c.spot) a) where
  pub found-next : left_of cs ≡ child_of c ∷ left_of ds → left_found cs a ≡ fault_of b (node_of c.node) then (over_parts finding (node_of c.node) (around_parts (node_of c.node) b) then left_found ds a)
  found-next e =
      ap (λ es. over_children finding es a) e
      ∙ ap (λ o. o then left_found ds a) (spot_found (spot_of c.spot) (over_node finding (node_of c.node)) a ∙ ap (over_node finding (node_of c.node)) (sym there))
      ∙ then_assoc (fault_of b (node_of c.node)) (over_parts finding (node_of c.node) (around_parts (node_of c.node) b)) (left_found ds a)

  module _ (e : standing_of cs ≡ standing_child c ∷ standing_of ds) where
    pub stands-here : (f : TreeFault) → fault_of b (node_of c.node) ≡ Some f → StandsAt a (standing_of cs) f (place_of (declared_of c.node))
    stands-here f h =
        subst (λ ss. StandsAt a ss f (place_of (declared_of c.node))) (sym e)
        (here (standing_child c) (standing_of ds) (ap (fault_of (around_at (spot_of c.spot) a)) (tree_same c.node) ∙ ap (λ x. fault_of x (node_of c.node)) (sym there) ∙ h))

    pub stands-below : (f : TreeFault) (p : Position) → fault_of b (node_of c.node) ≡ None → StandsAt (around_parts (node_of c.node) b) (below (declared_of c.node)) f p → StandsAt a (standing_of cs) f p
    stands-below f p h k =
        subst (λ ss. StandsAt a ss f p) (sym e)
        (deeper (standing_child c) (standing_of ds) (ap (fault_of (around_at (spot_of c.spot) a)) (tree_same c.node) ∙ ap (λ x. fault_of x (node_of c.node)) (sym there) ∙ h)
        (subst (λ x. StandsAt x (below (declared_of c.node)) f p) (ap (λ n. around_parts n b) (sym (tree_same c.node)) ∙ ap (around_parts (tree_of (declared_of c.node))) there) k))

    pub stands-later : (f : TreeFault) (p : Position) → fault_of b (node_of c.node) ≡ None → over_parts finding (node_of c.node) (around_parts (node_of c.node) b) ≡ None → StandsAt a (standing_of ds) f p → StandsAt a (standing_of cs) f p
    stands-later f p h g k =
        subst (λ ss. StandsAt a ss f p) (sym e)
        (later (standing_child c) (standing_of ds) (ap (λ n. over_node finding n (around_at (spot_of c.spot) a)) (tree_same c.node) ∙ ap (over_node finding (node_of c.node)) (sym there) ∙ ap (λ o. o then over_parts finding (node_of c.node) (around_parts (node_of c.node) b)) h ∙ g) k)

-- ---- function by function

-- the first of the functions from a place on
module _ (fs : List (Rc ScriptFuncDef Global)) (i : ℕ) (g : Rc ScriptFuncDef Global) (inside : i < length fs) where
  abbrev first_def : ScriptFuncDef
  first_def = (get_or fs i g).value

  falls : defs_of (drop i fs) ≡ first_def ∷ defs_of (drop (i + 1) fs)
  falls = rw (add-one, drop-cons fs i g) refl

  pub stands-name : (d : ScriptFuncDef) → d ≡ first_def → is_reserved d.name ≡ true → StandsInFunctions (defs_of (drop i fs)) ReservedName d.body.span.start
  stands-name d e h = subst (λ ds. StandsInFunctions ds ReservedName d.body.span.start) (ap (λ x. x ∷ defs_of (drop (i + 1) fs)) e ∙ sym falls) (by_name d (defs_of (drop (i + 1) fs)) h)

  pub stands-body : (d : ScriptFuncDef) → d ≡ first_def → (f : TreeFault) (p : Position) → is_reserved d.name ≡ false → StandsAt walk.outermost (statements_standing d.body.block) f p → StandsInFunctions (defs_of (drop i fs)) f p
  stands-body d e f p h k = subst (λ ds. StandsInFunctions ds f p) (ap (λ x. x ∷ defs_of (drop (i + 1) fs)) e ∙ sym falls) (in_body d (defs_of (drop (i + 1) fs)) h k)

  pub stands-others : (d : ScriptFuncDef) → d ≡ first_def → (f : TreeFault) (p : Position) → functions_fault (function_of d ∷ []) ≡ None → StandsInFunctions (defs_of (drop (i + 1) fs)) f p → StandsInFunctions (defs_of (drop i fs)) f p
  stands-others d e f p h k = subst (λ ds. StandsInFunctions ds f p) (ap (λ x. x ∷ defs_of (drop (i + 1) fs)) e ∙ sym falls) (in_others d (defs_of (drop (i + 1) fs)) h k)

  -- what is found from there on
  pub found-first : (d : ScriptFuncDef) → d ≡ first_def → found_functions (drop i fs) ≡ unless (not (is_reserved d.name)) ReservedName then (over_stmts finding (stmts_of d.body.block) walk.outermost then found_functions (drop (i + 1) fs))
  found-first d e = functions_found-drop fs i g inside ∙ ap (λ x. unless (not (is_reserved x.name)) ReservedName then (over_stmts finding (stmts_of x.body.block) walk.outermost then found_functions (drop (i + 1) fs))) (sym e)

-- a name that is reserved, and one that is not
pub reserved_if : (b : Bool) (f : TreeFault) → unless (not b) ReservedName ≡ Some f → (b ≡ true) × (f ≡ ReservedName)
reserved_if true f h = (refl, (let z : Some ReservedName ≡ Some f = h in cc))
reserved_if false f h = absurd (let z : None ≡ Some f = h in cc)

pub free_if : (b : Bool) → unless (not b) ReservedName ≡ None → b ≡ false
free_if true h = absurd (let z : Some ReservedName ≡ None = h in cc)
free_if false h = refl

-- what is wrong with none of these
pub none_then : (o p : Option TreeFault) → o ≡ None → p ≡ None → o then (p then None) ≡ None
none_then o p h k = ap (λ x. x then (p then None)) h ∙ ap (λ x. x then None) k
