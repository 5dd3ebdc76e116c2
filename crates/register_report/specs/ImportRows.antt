-- The rows of an import, and what each of them asks for. The header, the fields with their order,
-- and the greatest number of rows are this register's own. How bytes are parted into records is RFC
-- 4180's, as `csv` reads it with its default settings: fields parted by commas, quoted by double
-- quotes, records ended by LF, CR or CR LF, blank lines skipped.
use Rattle.std.specs.Prelude.{◌≡◌, ℕ, ◌+◌, List, [], ◌∷◌, codes, Option, None, Some}
use Rattle.std.specs.List.{AllByRecursion}
use Rattle.csv.specs.Reading.{AreRecords, Reached, default_config, strip_bom}
use Rattle.csv.specs.{Records.AllText, declared.parser.State.State}
use Rattle.csv.specs.declared.parser.State.TheVariants as states
use Rattle.moment_core.specs.MomentText.{moment_text}
use Rattle.period_core.specs.KeyType.{key_type_text}
use Rattle.register_requests.specs.{declared.request.Registration.Registration, declared.request.Request.Request}
use Rattle.register_requests.specs.{declared.request.Command.TheVariants.Register, Request.IsRequest}

-- a row's fields
abbrev pub RowTexts : Type 0
RowTexts = List (List ℕ)

-- the registration that a row asks for, or none where it asks for none
abbrev pub Item : Type 0
Item = Option Request

-- how many rows of an import are answered at most
abbrev pub max_rows : ℕ
max_rows = 1_000_000

-- the header row
abbrev pub header : RowTexts
header =
    codes "type" ∷ codes "owner" ∷ codes "activation" ∷ codes "protect_stop" ∷ codes
    "deactivation" ∷ codes "purpose" ∷ []

-- ---- what a row asks for

-- the field of a date: its text YYYY-MM-DDTHH:MM:SSZ (ISO 8601, RFC 3339), or nothing where it is
-- not set
abbrev pub date_field : Option ℕ → List ℕ
date_field None = []
date_field (Some date) = moment_text date

-- the row asks for this registration, at this moment, of this caller and under this number
pub record IsRowOf (moment : ℕ) (caller : List ℕ) (number : ℕ) (fields : RowTexts)
    (q : Request) : Type 0 where
  pub given : Registration
  pub is :
      q ≡ record {
        moment = moment;
        caller = caller;
        number = number;
        command = Register given;
      }
  pub in_range : IsRequest q
  pub fields_are :
      fields ≡ key_type_text given.kind ∷ given.owner ∷ date_field given.activation
      ∷ date_field given.protect_stop ∷ date_field given.deactivation ∷ given.purpose ∷ []

-- what the row stands for: the registration that it asks for, or none where it asks for no
-- registration
abbrev pub IsRowItem : ℕ → List ℕ → ℕ → RowTexts → Item → Type 0
IsRowItem moment caller number fields None = (q : Request) → IsRowOf moment caller number fields q
    → ⊥
IsRowItem moment caller number fields (Some q) = IsRowOf moment caller number fields q

-- each item is what its row stands for, the first under this number and each other under the next
abbrev pub AreRowItems : ℕ → List ℕ → ℕ → List RowTexts → List Item → Type 0
AreRowItems moment caller number [] [] = Unit {0}
AreRowItems moment caller number (row ∷ rows) (item ∷ items) =
    IsRowItem moment caller number row item × AreRowItems moment caller (number + 1) rows items
AreRowItems moment caller number [] (item ∷ items) = ⊥
AreRowItems moment caller number (row ∷ rows) [] = ⊥

-- each of these rows is UTF-8
abbrev pub AreTexts : List RowTexts → Type 0
AreTexts rows = AllByRecursion AllText rows

-- ---- the input

-- the input's first records are these
pub record BeginsWith (bytes : List ℕ) (records : List RowTexts) : Type 0 where
  pub state : State
  pub left : List ℕ
  pub reached : Reached default_config states.StartRecord (strip_bom bytes) records state left

-- the input's first record is the header row
abbrev pub BeginsWithHeader : List ℕ → Type 0
BeginsWithHeader bytes = BeginsWith bytes (header ∷ [])

-- the input's records are the header row and these rows
abbrev pub HasRows : List ℕ → List RowTexts → Type 0
HasRows bytes rows = AreRecords default_config states.StartRecord (strip_bom bytes) (header ∷ rows)

-- the input has its header row, and rows after it that stand for these items, the first under this
-- number
pub record HasRowItems (moment : ℕ) (caller : List ℕ) (first : ℕ) (bytes : List ℕ)
    (items : List Item) : Type 0 where
  pub rows : List RowTexts
  pub has : HasRows bytes rows
  pub each : AreRowItems moment caller first rows items
