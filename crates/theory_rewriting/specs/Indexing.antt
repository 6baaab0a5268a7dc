-- What an index answers without the host, and the parts of array and map literals.
use Rattle.std.specs.Prelude.{ℕ, zero, suc, cond, Option, Some, None}
use Rattle.rhai_base.specs.Value.{Text, Value, IntV, TextV, ArrayV, MapV, same_text}
use Rattle.theory_meaning.specs.Elements.{element, entry, character, bit}
use Rattle.theory_meaning.specs.Engine.{or_else}
use Rattle.theory_meaning.specs.Tree.{Expr, UnitConstant, Exprs, no_exprs, expr, Pairs, no_pairs, pair}

-- in range
abbrev pub indexed : Value → Value → Option Value
indexed (ArrayV vs) (IntV i) = element vs i
indexed (TextV t) (IntV i) = character t i
indexed (IntV n) (IntV i) = bit n i
indexed (MapV fs) (TextV k) = Some (entry fs k)
indexed _ _ = None

abbrev pub expr_at : Exprs → ℕ → Option Expr
expr_at no_exprs i = None
expr_at (expr e es) zero = Some e
expr_at (expr e es) (suc i) = expr_at es i

-- the last of a key
abbrev pub pair_for : Pairs → Text → Option Expr
pair_for no_pairs k = None
pair_for (pair l e ps) k = or_else (pair_for ps k) (cond (same_text l k) (Some e) None)

-- a missing entry is unit
abbrev pub or_unit : Option Expr → Expr
or_unit None = UnitConstant
or_unit (Some e) = e
