-- Whether a key stands already as an UPDATE would leave it: then its row is not written.
use Rattle.std.proofs.Common.{◌≡◌, ◌==◌, ◌&&◌, ℕ, ◌+◌, not, List, [], ◌∷◌, drop, Bool, true, false, cond, Option, Some}
use Rattle.std.proofs.Common.{refl, sym, ap₂, bytes_eq, ◌∙◌, arith}
use Rattle.std.proofs.lemmas.Bool.{eqb-true, and_parts}
use Rattle.std.specs.Cmp.Lexicographic.{bytes_decides}
use Rattle.sqlite.specs.Term.{Term, col, op2}
use Rattle.sqlite.specs.{declared.types.Value.Value, Collation.TheVariants.Binary, Ops.binary, Ops.from_truth}
use Rattle.sqlite_sql.specs.declared.ops.BinaryOp.TheVariants.{And, Compare}
use Rattle.sqlite_sql.specs.declared.ops.CompareOp.TheVariants.{Eq}
use Rattle.sql_steps.proofs.Comparing.{both}
use Rattle.lifecycle_core.specs.{declared.row.Row.Row, State.state_code}
use Rattle.register_core.specs.{declared.key.Key.Key, Dates.AreDates}
use Rattle.register_requests.specs.Request.{IsDate}
use Rattle.register_tables.specs.Tables.{IsKey, date_cell}
use Rattle.register_tables.specs.TableChanges.{with_owner_and_row, where_number}
use Rattle.register_tables.proofs.Decoding.{same_date, same_state}

-- the cell in this column is the one that is given in this place
abbrev is_given : ℕ → ℕ → Term
is_given column place = op2 (Compare Eq Binary) (col 1 column) (col 0 place)

-- the columns that may change: the owner, the state, and the dates but for the initial one
abbrev pub given_places : List ℕ
given_places = 3 ∷ 5 ∷ 7 ∷ 8 ∷ 9 ∷ 10 ∷ 11 ∷ 12 ∷ []

-- beside what comes before, these columns have the cells that are given from this place on
abbrev with_each : Term → ℕ → List ℕ → Term
with_each before from [] = before
with_each before from (column ∷ columns) = with_each (op2 And before (is_given column from)) (from + 1) columns

-- each column that may change has the cell that is given
abbrev pub stands_so : Term
stands_so = with_each (is_given 3 1) 2 (drop 1 given_places)

-- the key has this owner and this row, but for the Initial Date
abbrev pub stands : List ℕ → Row → Key → Bool
stands owner row k =
    let d = row.dates in
    let e = k.row.dates in
    ((((((bytes_eq k.owner owner && (state_code k.row.state == state_code row.state))
    && (date_cell e.activation == date_cell d.activation)) && (date_cell e.protect_stop == date_cell d.protect_stop))
    && (date_cell e.deactivation == date_cell d.deactivation)) && (date_cell e.destroy == date_cell d.destroy))
    && (date_cell e.compromise == date_cell d.compromise))
    && (date_cell e.compromise_occurrence == date_cell d.compromise_occurrence)

-- ---- what the condition comes to

pub both_so : (v w : Value) (a b : Bool) → v ≡ from_truth (Some a) → w ≡ from_truth (Some b)
    → binary And v w ≡ from_truth (Some (a && b))
both_so v w a b p q = ap₂ (binary And) p q ∙ both a b

-- ---- what stands so is left as it is

same_cell : (a b : Option ℕ) → IsDate a → IsDate b → (date_cell a == date_cell b) ≡ true → b ≡ a
same_cell a b x y e = sym (same_date a b x y (eqb-true (date_cell a) (date_cell b) e))

pub left_as_it_is : (owner : List ℕ) (row : Row) (k : Key) → IsKey k
    → AreDates (record row.dates { initial = k.row.dates.initial }) → stands owner row k ≡ true
    → with_owner_and_row owner row k ≡ k
left_as_it_is owner row k is given e =
    let d = row.dates in
    let f = k.row.dates in
    let with_occurrence = and_parts _ _ e in
    let with_compromise = and_parts _ _ with_occurrence.0 in
    let with_destroy = and_parts _ _ with_compromise.0 in
    let with_deactivation = and_parts _ _ with_destroy.0 in
    let with_protect_stop = and_parts _ _ with_deactivation.0 in
    let with_activation = and_parts _ _ with_protect_stop.0 in
    let with_state = and_parts _ _ with_activation.0 in
    let own : owner ≡ k.owner = sym ((bytes_decides k.owner owner).0 with_state.0) in
    let state : row.state ≡ k.row.state = sym (same_state k.row.state row.state (eqb-true _ _ with_state.1)) in
    let activation = same_cell f.activation d.activation is.dates.activation given.activation with_activation.1 in
    let protect_stop = same_cell f.protect_stop d.protect_stop is.dates.protect_stop given.protect_stop
    with_protect_stop.1 in
    let deactivation = same_cell f.deactivation d.deactivation is.dates.deactivation given.deactivation
    with_deactivation.1 in
    let destroy = same_cell f.destroy d.destroy is.dates.destroy given.destroy with_destroy.1 in
    let compromise = same_cell f.compromise d.compromise is.dates.compromise given.compromise with_compromise.1 in
    let occurrence = same_cell f.compromise_occurrence d.compromise_occurrence is.dates.compromise_occurrence
    given.compromise_occurrence with_occurrence.1 in search arith

-- so what is written of the keys with a number is what is written of all that have it
pub where_it_differs : (number : ℕ) (owner : List ℕ) (row : Row) (p : ℕ × Key) → IsKey p.1
    → AreDates (record row.dates { initial = p.1.row.dates.initial })
    → cond ((p.0 == number) && not (stands owner row p.1)) (with_owner_and_row owner row p.1) p.1
    ≡ where_number number (with_owner_and_row owner row) p
where_it_differs number owner row p is given = by (p.0 == number) (stands owner row p.1) refl
  where
    by : (b s : Bool) → stands owner row p.1 ≡ s
        → cond (b && not s) (with_owner_and_row owner row p.1) p.1 ≡ cond b (with_owner_and_row owner row p.1) p.1
    by true true e = sym (left_as_it_is owner row p.1 is given e)
    by true false e = refl
    by false s e = refl
