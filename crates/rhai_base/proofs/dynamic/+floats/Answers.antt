use Rattle.std.proofs.Common.{◌≡◌, ℕ, List, [], ◌∷◌, ◌++◌, ◌||◌, Bool, false, sym, ap, ◌∙◌, append_assoc}
use Rattle.rhai_base.specs.Value.{fields, holds_float, fields_hold_float}
use Rattle.rhai_base.specs.Reading.{value_of, members_of}
use Rattle.rhai_base.specs.declared.dynamic.Dynamic.{Dynamic}
use Rattle.rhai_base.proofs.dynamic.+floats.Goals as goal

abbrev told : List (List ℕ × Dynamic) → Bool
told es = fields_hold_float (fields (members_of es))

pub floats::have_float-loop-member-preserved : goal.floats::have_float-loop-member-preserved
floats::have_float-loop-member-preserved t c =
    let done = c.loop-member.invariant.0 in
    let e : List ℕ × Dynamic = (c.in-Some.field-0-0.now, c.in-Some.member.now) in
    let left = c.next.new.self in
    let no : false ≡ holds_float (value_of c.in-Some.member.now) = c.if-holds_float.ensures in (
      done ++ e ∷ [],
      c.loop-member.invariant.1 ∙ ap (λ es. done ++ es) c.in-Some.ensures.steps ∙ sym (append_assoc done (e ∷ []) left),
      c.loop-member.invariant.2 ∙ ap told c.in-Some.ensures.steps ∙ ap (λ b. b || told left) (sym no),
    )
