-- What the shop answers: a function of the call alone. What it knows of modules.
use Rattle.std.specs.Prelude.{ℤ, List, [], ◌∷◌, None, pos, codes, if◌then◌else◌}
use Rattle.rhai_base.specs.Value.{Text, Value, IntV, TextV, same_text}
use Rattle.theory_meaning.specs.Act.{HostCall, Answer, Answers, AnswersThrow}
use Rattle.run_host.specs.Host.{Modules}

abbrev pub number : ℤ → Answer
number n = Answers (IntV n) None

abbrev pub thrown : Text → Answer
thrown why = AnswersThrow (TextV why)

abbrev pub price_of : Text → Answer
price_of item =
    if same_text item (codes "tea") then number (pos 4)
    else if same_text item (codes "cup") then number (pos 12)
    else thrown (codes "no such item")

abbrev pub price_named : Value → Answer
price_named (TextV item) = price_of item
price_named _ = thrown (codes "no such item")

abbrev pub price : List Value → Answer
price (v ∷ []) = price_named v
price _ = thrown (codes "no such item")

abbrev pub shop_answer : HostCall → Answer
shop_answer c = if same_text c.name (codes "price") then price c.arguments else thrown (codes "no such function")

abbrev pub shop_modules : Modules
shop_modules = record {
  values = record { name = codes "shop::rate"; value = IntV (pos 2) } ∷ [];
  paths = record { path = codes "shop"; name = codes "shop" } ∷ [];
}
