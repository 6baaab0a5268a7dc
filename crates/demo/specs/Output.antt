-- What a write leaves where it may have been refused.
use Rattle.std.specs.Prelude.{◌⊎◌, ℕ, List, Option, take}
use Rattle.std.specs.Io.KnownBytes.{Appends, Keeps}
use Rattle.rhai_base.specs.Value.{Text}
use Rattle.demo.specs.declared.request.Request.{Request}
use Rattle.demo.specs.Words.{Answers}

-- known bytes grow by a beginning of bs
abbrev pub AppendsStart : Option (List ℕ) → Option (List ℕ) → List ℕ → Type 0
AppendsStart old new bs = (n : ℕ) × Appends old new (take n bs)

-- known bytes grow by a text that answers the request
abbrev pub AppendsAnswer : Request → Option (List ℕ) → Option (List ℕ) → Type 0
AppendsAnswer request old new = (text : Text) × Answers request text × Appends old new text

-- known bytes stay, or grow by a beginning of such a text
abbrev pub AppendsAnswerStart : Request → Option (List ℕ) → Option (List ℕ) → Type 0
AppendsAnswerStart request old new = Keeps old new ⊎ ((text : Text) × Answers request text × AppendsStart old new text)
