-- What is written for an answer that is no text.
use Rattle.std.proofs.Common.{◌≡◌, ◌∙◌, Option, ap, refl}
use Rattle.rhai_base.specs.declared.dynamic.Dynamic.{Dynamic}
use Rattle.rhai_base.specs.Reading.{value_of, DynamicCase, str_case, dynamic_cases}
use Rattle.rhai_base.specs.Value.{Value, type_name}
use Rattle.rhai_base.proofs.OtherKinds.{NoStr}
use Rattle.theory_meaning.specs.Act.{Answers}
use Rattle.run_host.specs.Host.{told}

told_by_case : {d : Dynamic} {w : Value} → DynamicCase d w → NoStr d → (v : Value) (r : Option Value) → type_name w ≡ told v (Answers w r)
told_by_case (str_case t) h v r = absurd (h t refl)
told_by_case _ h v r = refl

pub told_of_other : (u d : Dynamic) → u ≡ d → NoStr d → (v : Value) (r : Option Value) → type_name (value_of u) ≡ told v (Answers (value_of d) r)
told_of_other u d e h v r = ap (λ x. type_name (value_of x)) e ∙ told_by_case (dynamic_cases d) h v r
