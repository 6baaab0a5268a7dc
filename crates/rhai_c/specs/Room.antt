-- Texts in a caller's room, and what is said of a refusal.
use Rattle.std.specs.Prelude.{◌≡◌, ℕ, ℤ, pos, negsuc, List, ◌++◌, take, drop, length, Option, None, Some, nat_lt, if◌then◌else◌}
use Rattle.base_tokens.specs.Positions.{line_of, position_of}
use Rattle.base_tokens.specs.declared.position.Position.{Position}
use Rattle.rhai_base.specs.Value.{Text}
use Rattle.rhai_c.specs.declared.room.BalvuzsomRefusal.{BalvuzsomRefusal}

-- a text at the beginning of a room, as much of it as there is room for
abbrev pub put_in : List ℕ → Text → List ℕ
put_in room said = take (length room) said ++ drop (length said) room

-- a line or a column, as far as 32 bits have it; 0 for none
abbrev pub shown : Option ℕ → ℕ
shown None = 0
shown (Some n) = if nat_lt n 4_294_967_296 then n else 4_294_967_295

-- a place, and how many bytes the reason has
abbrev pub refusal_at : Position → ℕ → BalvuzsomRefusal
refusal_at p n = record { line = shown (line_of p); column = shown (position_of p); length = n }

abbrev pub no_refusal : BalvuzsomRefusal
no_refusal = record { line = 0; column = 0; length = 0 }

-- What a call leaves in a room and a refusal. Where it answers a length, P holds of the text of this length with which the room
-- begins, as far as it has room, and nothing is refused; where it answers a code, the room begins so with a reason, of which
-- the refusal says the length and a place.
abbrev pub IsAnswered : (Text → Type 0) → List ℕ → List ℕ → BalvuzsomRefusal → ℤ → Type 0
IsAnswered P room new refusal (pos n) = (said : Text) × (n ≡ length said) × (new ≡ put_in room said) × (refusal ≡ no_refusal) × P said
IsAnswered P room new refusal (negsuc n) = (reason : Text) × (new ≡ put_in room reason) × (p : Position) × (refusal ≡ refusal_at p (length reason))

-- It answers a code for what stands there.
abbrev pub IsRefused : Position → List ℕ → List ℕ → BalvuzsomRefusal → ℤ → Type 0
IsRefused p room new refusal (pos n) = ⊥
IsRefused p room new refusal (negsuc n) = (reason : Text) × (new ≡ put_in room reason) × (refusal ≡ refusal_at p (length reason))
