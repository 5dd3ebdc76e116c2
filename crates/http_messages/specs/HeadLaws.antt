-- That the definition of the exchange tells a whole head from none, and where it leaves 400 and 413 open.
use Rattle.std.specs.Prelude.{◌≡◌, ℕ, ◌⊎◌, List}
use Rattle.httparse.specs.Grammar.{RequestHead, EndsInTarget}
use Rattle.http_messages.specs.Head.{prefix, HasHead, HasBadHead, HasLargeHead, HasManyLines}
use Rattle.http_messages.specs.{declared.asked.Asked.Asked, Asked.AsksSome}

-- An input has one whole head at most, and where it has one its head is neither bad nor too large. A head is both only
-- where the bytes that are looked at end within the target, or have too many header lines.
pub record TellsHeads : Type 0 where
  pub one : (input : List ℕ) (h k : RequestHead) (rest q : List ℕ) → HasHead input h rest → HasHead input k q
      → (h ≡ k) × (rest ≡ q)
  pub not_bad : (input : List ℕ) (h : RequestHead) (rest : List ℕ) → HasHead input h rest → HasBadHead input → ⊥
  pub not_large : (input : List ℕ) (h : RequestHead) (rest : List ℕ) → HasHead input h rest → HasLargeHead input → ⊥
  pub open_place : (input : List ℕ) → HasBadHead input → HasLargeHead input
      → EndsInTarget (prefix input) ⊎ HasManyLines (prefix input)

-- the one place that is left open: the rules for 400 and for 413 both hold of the head
pub record IsLeftOpen (input : List ℕ) : Type 0 where
  pub bad : HasBadHead input
  pub large : HasLargeHead input

-- two answers to one input are the same, but in that place
abbrev pub GivesOneAnswer : Type 0
GivesOneAnswer = (input : List ℕ) (a b : Asked) → AsksSome input a → AsksSome input b → (a ≡ b) ⊎ IsLeftOpen input
