-- Lists, closed at their end: a whole one by its return, an inside one by taking its names away.
use Rattle.std.proofs.Common.{◌≡◌, Bool, true, List, Option, Some, None, refl, sym, false}
use Rattle.rhai_base.specs.Value.{Text, Value}
use Rattle.theory_meaning.specs.Act.{EntryKind, IsConstant, IsExport, is_name, Ending, Gives, Leaves, Act, Scoped, Acts, Do, Named, Finish}
use Rattle.theory_meaning.specs.ActForms.{each_value, then_line}
use Rattle.theory_meaning.specs.Meaning.{exporting}
use Rattle.theory_meaning.proofs.Sequencing.{scoped_do, scoped_named, finish_do}
use Rattle.theory_rewriting.specs.Context.{Context, ListKind, Whole, Inside}
use Rattle.theory_rewriting.specs.Known.{Known}
use Rattle.theory_rewriting.proofs.Knowing.{KnowsLess}
use Rattle.theory_soundness.proofs.simulation.Setting.{Setting, noted, beneath, knowing_fewer, world}
use Rattle.theory_soundness.proofs.simulation.Simulation.{Simulates, SimulatesAll, simulates_trans, all_trans, simulates_knowing_less, all_knowing_less, simulates_equal, all_equal, simulates_refl, all_refl, simulates_then, all_do, all_finish, all_only, all_noted, simulates_scoped, all_beside}

abbrev pub Closed : {k : Context} → Setting k → ListKind → Acts → Acts → Type 0
Closed c Whole p q = SimulatesAll c (Finish p) (Finish q)
Closed c (Inside b) p q = Simulates c (Scoped p) (Scoped q)

pub record SimulatesList {k : Context} (c : Setting k) (m : ListKind) (p q : Acts) : Type 0 where
  pub closed : Closed c m p q

pub list_of_all : {k : Context} {c : Setting k} (m : ListKind) {p q : Acts} → SimulatesAll c p q → SimulatesList c m p q
list_of_all Whole i = record { closed = all_finish i }
list_of_all (Inside b) i = record { closed = simulates_scoped i }

pub list_refl : {k : Context} {c : Setting k} {m : ListKind} {p : Acts} → SimulatesList c m p p
list_refl {m = m} = list_of_all m all_refl

pub list_trans : {k : Context} {c : Setting k} (m : ListKind) {p q r : Acts} → SimulatesList c m p q → SimulatesList c m q r → SimulatesList c m p r
list_trans Whole i h = record { closed = all_trans i.closed h.closed }
list_trans (Inside b) i h = record { closed = simulates_trans i.closed h.closed }

-- where fewer names are known
pub list_knowing_less : {k : Context} {c : Setting k} {ks : List Known} (m : ListKind) {p q : Acts} → KnowsLess ks k.known → SimulatesList (knowing_fewer ks c) m p q → SimulatesList c m p q
list_knowing_less Whole i h = record { closed = all_knowing_less i h.closed }
list_knowing_less (Inside b) i h = record { closed = simulates_knowing_less i h.closed }

list_do : {k : Context} {c : Setting k} (m : ListKind) (a : Act) {next next' : Ending → Acts} → ((e : Ending) → SimulatesList c m (next e) (next' e)) → SimulatesList c m (Do a next) (Do a next')
list_do {c = c} Whole a {next = next} {next' = next'} h = record {
  closed = all_trans (all_equal (λ n. finish_do (world c) n.env a next n.store n.turns)) (all_trans (all_do (simulates_refl {a = a}) (λ e. (h e).closed)) (all_equal (λ n. sym (finish_do (world c) n.env a next' n.store n.turns))));
}
list_do {c = c} (Inside b) a {next = next} {next' = next'} h = record {
  closed = simulates_trans (simulates_equal (λ n. scoped_do (world c) n.env n.adds a next n.store n.turns)) (simulates_trans (simulates_then (simulates_refl {a = a}) (λ e. (h e).closed)) (simulates_equal (λ n. sym (scoped_do (world c) n.env n.adds a next' n.store n.turns))));
}

in_each_value : {k : Context} {c : Setting k} (m : ListKind) {f f' : Value → Acts} → ((v : Value) → SimulatesList c m (f v) (f' v)) → (e : Ending) → SimulatesList c m (each_value f e) (each_value f' e)
in_each_value m h (Gives v) = h v
in_each_value m h (Leaves x) = list_refl

-- behind an act that stays
pub list_line : {k : Context} {c : Setting k} (m : ListKind) (a : Act) {f f' : Value → Acts} → ((v : Value) → SimulatesList c m (f v) (f' v)) → SimulatesList c m (then_line a f) (then_line a f')
list_line m a h = list_do m a (in_each_value m h)

-- behind a name that is added, of which this is known
pub list_noted : {k : Context} {c : Setting k} (m : ListKind) (x : Text) (o : Option Value) (b : EntryKind) (v : Value) → ((w : Value) → o ≡ Some w → (b ≡ IsConstant) × (v ≡ w)) → {p q : Acts} → SimulatesList (noted x o c) m p q → SimulatesList c m (Named x b v p) (Named x b v q)
list_noted Whole x o b v f {p = p} {q = q} h = record {
  closed = all_trans (all_equal (λ n. refl)) (all_trans (all_noted x o b v f h.closed) (all_equal (λ n. refl)));
}
list_noted {c = c} (Inside w) x o b v f {p = p} {q = q} h = record {
  closed = simulates_trans (simulates_equal (λ n. scoped_named (world c) n.env n.adds x b v p n.store n.turns)) (simulates_trans (simulates_scoped (all_noted x o b v f (all_only h.closed))) (simulates_equal (λ n. sym (scoped_named (world c) n.env n.adds x b v q n.store n.turns))));
}

pub list_named : {k : Context} {c : Setting k} (m : ListKind) (x : Text) (b : EntryKind) (v : Value) {p q : Acts} → SimulatesList (beneath x c) m p q → SimulatesList c m (Named x b v p) (Named x b v q)
list_named m x b v h = list_noted m x None b v (λ w z. absurd (let y : None ≡ Some w = z in cc)) h

-- behind an alias or an export
pub list_beside : {k : Context} {c : Setting k} (m : ListKind) (x : Text) (b : EntryKind) (v : Value) → is_name b ≡ false → {p q : Acts} → SimulatesList c m p q → SimulatesList c m (Named x b v p) (Named x b v q)
list_beside Whole x b v e {p = p} {q = q} h = record {
  closed = all_trans (all_equal (λ n. refl)) (all_trans (all_beside x b v e h.closed) (all_equal (λ n. refl)));
}
list_beside {c = c} (Inside w) x b v e {p = p} {q = q} h = record {
  closed = simulates_trans (simulates_equal (λ n. scoped_named (world c) n.env n.adds x b v p n.store n.turns)) (simulates_trans (simulates_scoped (all_beside x b v e (all_only h.closed))) (simulates_equal (λ n. sym (scoped_named (world c) n.env n.adds x b v q n.store n.turns))));
}

pub list_exporting : {k : Context} {c : Setting k} (m : ListKind) (b : Bool) (x : Text) (v : Value) {p q : Acts} → SimulatesList c m p q → SimulatesList c m (exporting b x v p) (exporting b x v q)
list_exporting m true x v h = list_beside m x IsExport v refl h
list_exporting m false x v h = h
