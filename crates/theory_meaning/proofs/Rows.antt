-- A host by rows is as good as any: the rows of a run's own calls give the same run.
use Rattle.std.proofs.Common.{◌≡◌, ℕ, Bool, true, false, List, [], ◌∷◌, ◌++◌, Option, Some, None, if◌then◌else◌, refl, sym, ap, ◌∙◌, subst, append_assoc, ◌&&◌}
use Rattle.std.proofs.lemmas.Bool.{and_parts}
use Rattle.std.proofs.lemmas.List.{append-nil}
use Rattle.rhai_base.specs.Value.{Text, Value, TextV, ArrayV, items, values, same_text, same_items}
use Rattle.rhai_base.proofs.Same.{same_exact, same_itself}
use Rattle.theory_meaning.specs.Engine.{Engine}
use Rattle.theory_meaning.specs.Act.{ScopeEntry, HostCall, Answer, Host}
use Rattle.theory_meaning.specs.Core.{Script}
use Rattle.theory_meaning.specs.Run.{EntryPoint, run_script}
use Rattle.theory_meaning.proofs.Agreeing.{same_script}
use Rattle.theory_meaning.specs.Agreeing.{AgreeOn}
use Rattle.theory_meaning.specs.Host.{ModuleValue, same_receiver, same_call, same_calls, answer_of, ModulePath, module_in, module_value_of, host_of, rows_of}
use Rattle.theory_meaning.specs.Relations.{Begins, here, more, calls_of}

-- ---- calls that are the same are equal

text_in : Text → Value → Text
text_in t (TextV u) = u
text_in t _ = t

items_in : Value → List Value
items_in (ArrayV vs) = items vs
items_in _ = []

items_values : (vs : List Value) → items (values vs) ≡ vs
items_values [] = refl
items_values (v ∷ vs) = ap (λ us. v ∷ us) (items_values vs)

text_exact : (a b : Text) → same_text a b ≡ true → a ≡ b
unfolding text_in
text_exact a b h = ap (text_in a) (same_exact (TextV a) (TextV b) h)

arguments_exact : (vs us : List Value) → same_items (values vs) (values us) ≡ true → vs ≡ us
unfolding items_in
arguments_exact vs us h = sym (items_values vs) ∙ ap items_in (same_exact (ArrayV (values vs)) (ArrayV (values us)) h) ∙ items_values us

receiver_exact : (a b : Option Value) → same_receiver a b ≡ true → a ≡ b
receiver_exact None None h = refl
receiver_exact (Some v) (Some w) h = ap Some (same_exact v w h)
receiver_exact _ _ h = absurd cc

call_exact : (a b : HostCall) → same_call a b ≡ true → a ≡ b
call_exact a b h =
    let p = and_parts (same_text a.name b.name && same_receiver a.receiver b.receiver) _ h in
    let q = and_parts (same_text a.name b.name) _ p.0 in
    λ i. record { name = text_exact a.name b.name q.0 i; receiver = receiver_exact a.receiver b.receiver q.1 i; arguments = arguments_exact a.arguments b.arguments p.1 i }

calls_exact : (cs ds : List HostCall) → same_calls cs ds ≡ true → cs ≡ ds
calls_exact [] [] h = refl
calls_exact (c ∷ cs) (d ∷ ds) h = let p = and_parts (same_call c d) _ h in λ i. call_exact c d p.0 i ∷ calls_exact cs ds p.1 i
calls_exact _ _ h = absurd cc

both : (a b : Bool) → a ≡ true → b ≡ true → (a && b) ≡ true
both a b h k = ap (λ c. c && b) h ∙ k

receiver_itself : (a : Option Value) → same_receiver a a ≡ true
receiver_itself None = refl
receiver_itself (Some v) = same_itself v

call_itself : (c : HostCall) → same_call c c ≡ true
call_itself c = both _ _ (both _ _ (same_itself (TextV c.name)) (receiver_itself c.receiver)) (same_itself (ArrayV (values c.arguments)))

calls_itself : (cs : List HostCall) → same_calls cs cs ≡ true
calls_itself [] = refl
calls_itself (c ∷ cs) = both _ _ (call_itself c) (calls_itself cs)

-- ---- the row of a call answers it

this_row : (b : Bool) (a x y : Answer) → b ≡ true → a ≡ x → a ≡ (if b then x else y)
this_row true a x y h k = k
this_row false a x y h k = absurd cc

this_or_later : (b : Bool) (a x y : Answer) → (b ≡ true → a ≡ x) → a ≡ y → a ≡ (if b then x else y)
this_or_later true a x y h k = h refl
this_or_later false a x y h k = k

module _ (h : Host) where
  row_answers : (done before after : List HostCall) (c : HostCall) (past : List HostCall) → past ≡ done ++ before → h.answer past c ≡ answer_of (rows_of h done (before ++ c ∷ after)) past c
  row_answers done [] after c past e =
      let q : done ≡ past = sym (append-nil done) ∙ sym e in
      this_row (same_calls done past && same_call c c) _ _ _
      (both _ _ (subst (λ cs. same_calls done cs ≡ true) q (calls_itself done)) (call_itself c))
      (ap (λ cs. h.answer cs c) (sym q))
  row_answers done (d ∷ before) after c past e =
      this_or_later (same_calls done past && same_call d c) _ _ _
      (λ k. let p = and_parts (same_calls done past) _ k in sym (λ i. h.answer (calls_exact done past p.0 i) (call_exact d c p.1 i)))
      (row_answers (done ++ d ∷ []) before after c past (e ∙ sym (append_assoc done (d ∷ []) before)))

split : (cs ds : List HostCall) → Begins cs ds → (rest : List HostCall) × (ds ≡ cs ++ rest)
split cs ds here = ([], sym (append-nil cs))
split cs ds (more c p) = let q = split (cs ++ c ∷ []) ds p in (c ∷ q.0, q.1 ∙ append_assoc cs (c ∷ []) q.0)

-- the rows of some calls answer each of them as the host did
pub rows_agree : (h : Host) (us : List ModuleValue) (ms : List ModulePath) → ((x : Text) → h.module_value x ≡ module_value_of us x) → ((p : Text) → h.module_of p ≡ module_in ms p) → (calls : List HostCall) → AgreeOn h (record (host_of (rows_of h [] calls) us ms) { text = h.text }) calls
rows_agree h us ms modules paths calls = record {
  modules = modules;
  paths = paths;
  texts = λ v. refl;
  answers = λ past c b.
      let q = split (past ++ c ∷ []) calls b in
      row_answers h [] past q.0 c past refl ∙ ap (λ cs. answer_of (rows_of h [] cs) past c) (sym (append_assoc past (c ∷ []) q.0) ∙ sym q.1);
}

-- so each run is that with a host by rows
pub run_by_rows : (engine : Engine) (h : Host) (us : List ModuleValue) (ms : List ModulePath) → ((x : Text) → h.module_value x ≡ module_value_of us x) → ((q : Text) → h.module_of q ≡ module_in ms q) → (p : Script) (e : EntryPoint) (scope : List ScopeEntry) (n : ℕ) → run_script engine h p e scope n ≡ run_script engine (record (host_of (rows_of h [] (calls_of (run_script engine h p e scope n))) us ms) { text = h.text }) p e scope n
run_by_rows engine h us ms modules paths p e scope n = same_script engine h _ p e scope n (rows_agree h us ms modules paths _)
