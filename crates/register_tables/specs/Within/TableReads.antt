-- What functions within the crate say of one another, beside `specs/TableReads.antt`.
use Rattle.std.specs.Prelude.{◌≡◌, ◌≢◌, ℕ, pos, List, length, map, Option, None, Some, Result, Ok, Err, IsPermutation}
use Rattle.std.specs.Prelude.{MatchOption}
use Rattle.sqlite.specs.declared.types.Value.TheVariants.{Int, Text as Words}
use Rattle.sqlite.specs.declared.error.Error.TheVariants.{QueryReturnedNoRows}
use Rattle.sqlite.specs.{declared.types.Value.Value, Order.Row, Order.column, declared.error.Error.Error}
use Rattle.sqlite_rules.specs.Lists.{Has}
use Rattle.period_core.specs.Period.{IsPeriod, Period}
use Rattle.register_core.specs.{declared.key.Key.Key, Names.sorted_names}
use Rattle.register_requests.specs.{Name.IsName, Quorum.IsQuorum}
use Rattle.register_tables.specs.TableReads.{ShowsKey}
use Rattle.register_tables.specs.Columns.{key_columns}

-- ---- what is read of an answer

-- of a row the value is given that it shows, or nothing where it shows none
abbrev pub GivesRow : {A B : Type 0} → Option B → (A → Type 0) → (B → A) → Type 0
GivesRow {A} given Shown value_of = MatchOption given ((x : A) → ¬ Shown x) (λ x. Shown (value_of x))

-- the row shows a key, and its number after that
pub record ShowsAt (row : Row) (it : ℕ × Key) : Type 0 where
  pub cells : ShowsKey row it.1
  pub number : column row (length key_columns) ≡ Int (pos it.0)

-- the row shows this period
pub record ShowsPeriod (row : Row) (period : Period) : Type 0 where
  pub originator : column row 0 ≡ Int (pos period.originator)
  pub recipient : column row 1 ≡ Int (pos period.recipient)
  pub in_range : IsPeriod period

-- the row shows this need
pub record ShowsNeed (row : Row) (need : ℕ) : Type 0 where
  pub cell : column row 0 ≡ Int (pos need)
  pub in_range : IsQuorum need

-- what the row shows, or none where there is no row
abbrev pub IsShownBy : {A : Type 0} → (Row → A → Type 0) → Result Row Error → Option A → Type 0
IsShownBy {A} ShowsOne (Ok row) found = (x : A) × (found ≡ Some x) × ShowsOne row x
IsShownBy ShowsOne (Err error) found = (error ≡ QueryReturnedNoRows) × (found ≡ None)

-- the row shows none that is in its range
abbrev pub ShowsNone : {A : Type 0} → (A → Type 0) → (Row → A → Type 0) → Result Row Error → Type 0
ShowsNone {A} IsOne ShowsOne (Ok row) = (x : A) → IsOne x → ShowsOne row x → ⊥
ShowsNone IsOne ShowsOne (Err error) = ⊥

-- the first column of one of the rows shows no name
abbrev pub HasNoName : List Row → Type 0
HasNoName rows = (row : Row) × Has rows row × ((name : List ℕ) → IsName name → column row 0 ≢ Words name)

-- where the first column of the rows shows some names, these in order
abbrev pub AreNamesOf : List Row → List (List ℕ) → Type 0
AreNamesOf rows found =
    (names : List (List ℕ)) → IsPermutation (map (λ row. column row 0) rows) (map Words names)
    → found ≡ sorted_names names
