-- Runs that do not refine another: a row for each part of the definition.
use Rattle.std.proofs.Common.{◌≡◌, ℕ, inl, inr, true, List, [], ◌∷◌, ◌++◌, None, refl, arith}
use Rattle.rhai_base.specs.Value.{Value, UnitV, BoolV}
use Rattle.theory_meaning.specs.Act.{HostCall, Store, Gives, Unbound, IsStuck, OutOfTurns, Outcome, Ended, Halted, Result, At}
use Rattle.theory_meaning.specs.Relations.{Begins, here, more}
use Rattle.theory_meaning.specs.Run.{started}
use Rattle.theory_meaning.specs.WorkedForms.{asked}
use Rattle.theory_soundness.specs.Refines.{EndsSo, RunRefines}

abbrev store : List HostCall → Store
store cs = record (started []) { calls = cs }

abbrev gives : Value → ℕ → Result
gives v left = At (Ended (Gives v)) (store []) left

abbrev endless : List HostCall → ℕ → Result
endless cs n = At (Halted OutOfTurns) (store cs) 0

-- another value
not_another_value : RunRefines (gives UnitV) (gives (BoolV true)) → ⊥
not_another_value h =
    let x = h.same_end 0 (Gives UnitV) (store []) 0 refl in
    let e : gives (BoolV true) 0 ≡ gives UnitV x.0 = x.2 in absurd cc

-- fewer turns left
not_fewer_turns : RunRefines (λ n. gives UnitV 1) (λ n. gives UnitV 0) → ⊥
not_fewer_turns h =
    let x = h.same_end 0 (Gives UnitV) (store []) 1 refl in
    let e : gives UnitV 0 ≡ gives UnitV x.0 = x.2 in
    let z : 0 ≡ x.0 = cc in omega (arith, x.1, z)

-- a call that is not made
joined_some : (cs : List HostCall) (c : HostCall) → cs ++ c ∷ [] ≡ [] → ⊥
joined_some [] c e = absurd cc
joined_some (d ∷ cs) c e = absurd cc

begins_none : {cs ds : List HostCall} → Begins cs ds → ds ≡ [] → cs ≡ []
begins_none here e = e
begins_none (more {cs = cs} c b) e = absurd (joined_some cs c (begins_none b e))

not_without_call : RunRefines (endless (asked "f" [] ∷ [])) (endless []) → ⊥
not_without_call h = let e : asked "f" [] ∷ [] ≡ [] = begins_none (h.same_calls 0) refl in absurd cc

-- an endless run that ends, or is stuck
never_over : (o : Outcome) (s : Store) → (o ≡ Halted OutOfTurns → ⊥) → EndsSo (endless []) o s → ⊥
never_over o s d x = d cc

not_an_end : RunRefines (endless []) (λ n. gives UnitV 0) → ⊥
not_an_end h = elim (h.no_new_end 0 (Gives UnitV) (store []) 0 refl) [
  | inl x ↦ never_over (Ended (Gives UnitV)) (store []) (λ e. absurd cc) x
  | inr x ↦ never_over (Halted (IsStuck x.0)) x.1 (λ e. absurd cc) x.2
]

not_stuck : RunRefines (endless []) (λ n. At (Halted (IsStuck Unbound)) (store []) 0) → ⊥
not_stuck h = let x = h.no_new_stuck 0 Unbound (store []) 0 refl in never_over (Halted (IsStuck x.0)) x.1 (λ e. absurd cc) x.2
