-- Inside the short forms of acts, and inside statements.
use Rattle.std.proofs.Common.{Bool, true, false, Option, Some, None}
use Rattle.rhai_base.specs.Value.{Value}
use Rattle.theory_meaning.specs.Act.{Ending, Gives, Leaves, Act, Acts}
use Rattle.theory_meaning.specs.ActForms.{value_then, ◌>>=◌, truth, branch, if_true, each_value, then_line}
use Rattle.theory_meaning.specs.Core.{Deed, Stmt, Does}
use Rattle.theory_meaning.specs.Meaning.{deed, line}
use Rattle.theory_rewriting.specs.Context.{Context}
use Rattle.theory_soundness.proofs.simulation.Setting.{Setting, world}
use Rattle.theory_soundness.proofs.simulation.Simulation.{Simulates, SimulatesAll, all_trans, simulates_refl, all_refl, simulates_then, all_do}

-- ---- acts

in_value_then : {k : Context} {c : Setting k} {f f' : Value → Act} → ((v : Value) → Simulates c (f v) (f' v)) → (e : Ending) → Simulates c (value_then f e) (value_then f' e)
in_value_then h (Gives v) = h v
in_value_then h (Leaves x) = simulates_refl

pub simulates_bind : {k : Context} {c : Setting k} {a b : Act} {f f' : Value → Act} → Simulates c a b → ((v : Value) → Simulates c (f v) (f' v)) → Simulates c (a >>= f) (b >>= f')
simulates_bind i h = simulates_then i (in_value_then h)

in_branch : {k : Context} {c : Setting k} (o : Option Bool) {a a' b b' : Act} → Simulates c a a' → Simulates c b b' → Simulates c (branch o a b) (branch o a' b')
in_branch None i h = simulates_refl
in_branch (Some true) i h = i
in_branch (Some false) i h = h

pub simulates_if : {k : Context} {c : Setting k} (v : Value) {a a' b b' : Act} → Simulates c a a' → Simulates c b b' → Simulates c (if_true v a b) (if_true v a' b')
simulates_if v i h = in_branch (truth v) i h

in_each_value : {k : Context} {c : Setting k} {f f' : Value → Acts} → ((v : Value) → SimulatesAll c (f v) (f' v)) → (e : Ending) → SimulatesAll c (each_value f e) (each_value f' e)
in_each_value h (Gives v) = h v
in_each_value h (Leaves x) = all_refl

pub all_line : {k : Context} {c : Setting k} {a b : Act} {f f' : Value → Acts} → Simulates c a b → ((v : Value) → SimulatesAll c (f v) (f' v)) → SimulatesAll c (then_line a f) (then_line b f')
all_line i h = all_do i (in_each_value h)

-- ---- statements

-- what may come after a statement whose value is wanted or not
abbrev pub Rest : Bool → Type 0
Rest true = Value → Acts
Rest false = Acts

abbrev pub after : (b : Bool) → Rest b → Value → Acts
after true next = next
after false p = λ v. p

pub record SimulatesStmt {k : Context} (c : Setting k) (b : Bool) (l l' : Stmt) : Type 0 where
  pub before : (rest : Rest b) → SimulatesAll c (line (world c) l (after b rest)) (line (world c) l' (after b rest))

pub stmt_refl : {k : Context} {c : Setting k} {b : Bool} {l : Stmt} → SimulatesStmt c b l l
stmt_refl = record { before = λ rest. all_refl }

pub stmt_trans : {k : Context} {c : Setting k} {b : Bool} {l l1 l2 : Stmt} → SimulatesStmt c b l l1 → SimulatesStmt c b l1 l2 → SimulatesStmt c b l l2
stmt_trans i h = record { before = λ rest. all_trans (i.before rest) (h.before rest) }

pub stmt_of_deed : {k : Context} {c : Setting k} {b : Bool} {d d' : Deed} → Simulates c (deed (world c) d) (deed (world c) d') → SimulatesStmt c b (Does d) (Does d')
stmt_of_deed i = record { before = λ rest. all_line i (λ v. all_refl) }
