-- What a first fault is where a `?` leaves.
use Rattle.std.proofs.Common.{◌≡◌, not, ◌==◌, List, [], ◌∷◌, length, Option, None, Some, Result, refl, sym, ap, subst}
use Rattle.std.proofs.Math.Dec.{eqb-suc-zero}
use Rattle.std.proofs.lemmas.Result.{err_from_is_err_and}
use Rattle.std.specs.Result.{IsErrAnd}
use Rattle.base_tokens.specs.declared.error.TreeFault.{TreeFault}
use Rattle.ast_types.specs.declared.expr.Expr.{Expr}
use Rattle.theory_meaning.specs.Faults as faults
use Rattle.theory_meaning.specs.Faults.{◌then◌}
use Rattle.ast_types.specs.Reading.{exprs_of}
use Rattle.rhai_ast.specs.Refusals.{Finds, IsTheFirst, meant}

first_stays : (o p m : Option TreeFault) → IsTheFirst o m → IsTheFirst (o then p) m
first_stays o p None h = tt
first_stays None p (Some f) h = absurd (let z : None ≡ Some f = h in cc)
first_stays (Some g) p (Some f) h = h

-- the fault of a part, before which nothing was found
pub leaves : {A : Type 0} (r : Result A TreeFault) (f : TreeFault) (all o p : Option TreeFault) → IsErrAnd r (λ y. y ≡ f) → all ≡ o then p → IsTheFirst o (meant f) → Finds all r
leaves r f all o p e t h =
    let q = err_from_is_err_and r e in
    subst (Finds all) (sym q.1) (subst (λ y. IsTheFirst all (meant y)) (sym q.2) (subst (λ a. IsTheFirst a (meant f)) (sym t) (first_stays o p (meant f) h)))

pub operands_counted : (xs : List Expr) → not (length xs == 0) ≡ faults.has_operands (exprs_of xs)
operands_counted [] = refl
operands_counted (x ∷ xs) = ap not (eqb-suc-zero (length xs))
