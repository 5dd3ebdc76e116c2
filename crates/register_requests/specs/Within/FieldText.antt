-- What functions within the crate say of the fields that they read.
use Rattle.std.specs.Prelude.{◌≡◌, ℕ, ◌<◌, ◌^◌, ◌==◌, Bool, true, not, List, [], ◌∷◌, ◌++◌, codes, decimal, Option}
use Rattle.std.specs.Prelude.{None, Some}
use Rattle.std.specs.List.{list_all}
use Rattle.lifecycle_core.specs.{declared.reason.Reason.Reason, Reason.reason_code}
use Rattle.period_core.specs.Period.{Period}
use Rattle.register_requests.specs.declared.command_fields.Fields.{Fields}
use Rattle.register_requests.specs.Within.Fields.{AreFieldsInRange, command_of}
use Rattle.register_requests.specs.{declared.command_fields.Shape.Shape, Fields.shape_of, Request.argument_texts}
use Rattle.register_requests.specs.Request.{spaced}

-- ---- the text of one field

-- the bytes write a value of which P holds
abbrev pub Writes : {A : Type 0} → (A → Type 0) → (A → List ℕ) → List ℕ → A → Type 0
Writes P text bytes x = P x × (bytes ≡ text x)

-- every value has a text
abbrev pub IsAny : {A : Type 0} → A → Type 0
IsAny x = Unit {0}

-- a name and a purpose are their own text
abbrev pub itself : List ℕ → List ℕ
itself bytes = bytes

-- a number of two bytes
abbrev pub IsShort : ℕ → Type 0
IsShort n = n < 2 ^ 16

-- a reason is written by its code
abbrev pub reason_text : Reason → List ℕ
reason_text reason = decimal (reason_code reason)

-- ---- a field, and what stands after its space

abbrev pub is_space : ℕ → Bool
is_space byte = byte == 32

abbrev pub HasNoSpace : List ℕ → Type 0
HasNoSpace bytes = list_all (λ byte. not (is_space byte)) bytes ≡ true

-- the bytes are the text of a value, which has no space in it, a space, and the text of another value
pub record AreSplit {A B : Type 0} (IsFirst : List ℕ → A → Type 0) (IsSecond : List ℕ → B → Type 0) (bytes : List ℕ)
    (both : A × B) : Type 0 where
  pub field : List ℕ
  pub rest : List ℕ
  pub solid : HasNoSpace field
  pub split : bytes ≡ field ++ (32 ∷ rest)
  pub first : IsFirst field both.0
  pub second : IsSecond rest both.1

-- the text of whatever it is
abbrev pub IsItself : List ℕ → List ℕ → Type 0
IsItself = Writes IsAny itself

-- ---- the fields of a command, and of a line

-- a period is written by its months, with a space between
abbrev pub period_text : Period → List ℕ
period_text p = decimal p.originator ++ spaced (decimal p.recipient ∷ [])

-- the bytes are the text of fields of this shape
pub record AreFieldsOf (shape : Shape) (bytes : List ℕ) (fields : Fields) : Type 0 where
  pub in_range : AreFieldsInRange fields
  pub shape_is : shape_of fields ≡ shape
  pub text : bytes ≡ spaced (argument_texts (command_of fields))

-- what stands after a word: a space with fields after it, or nothing
abbrev pub after_word : Option (List ℕ) → List ℕ
after_word None = []
after_word (Some fields) = codes " " ++ fields
