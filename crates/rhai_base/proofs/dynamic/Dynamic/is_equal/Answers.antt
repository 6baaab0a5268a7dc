use Rattle.std.proofs.Common.{◌≡◌, true, ◌∙◌, sym, ap}
use Rattle.rhai_base.proofs.Exact.{exact, equal}
use Rattle.rhai_base.proofs.Recovered.{same_value}
use Rattle.rhai_base.proofs.Same.{tests_same}
use Rattle.rhai_base.specs.Reading.{value_of}
use Rattle.rhai_base.specs.contracts.dynamic.DynamicEq.TheImpl.Laws as eq_laws
use Rattle.rhai_base.proofs.dynamic.Dynamic.is_equal.Goals as goal

pub returns : goal.returns
returns c =
    let l = eq_laws.laws-law in
    let same = λ (h : c.eq.result ≡ true). exact c.args.self.now c.args.other.now (sym c.eq.ensures ∙ h) in
    let told = λ (e : c.args.self.now ≡ c.args.other.now). c.eq.ensures ∙ ap (λ v. equal c.args.self.now v) (sym e) ∙ l.refl c.args.self.now in
    let meant = λ (h : c.eq.result ≡ true). ap value_of (same h) in
    let told_by_value = λ (e : value_of c.args.self.now ≡ value_of c.args.other.now). told (same_value _ _ e) in
    record { exact = (same, told); by_value = (meant, told_by_value); by_cases = tests_same c.eq.result _ _ meant told_by_value }
