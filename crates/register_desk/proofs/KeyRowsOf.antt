-- The rows of a history's keys, and those of them that a report lists.
use Rattle.std.proofs.Common.{◌≡◌, inl, inr, ℕ, zero, suc, ◌+◌, ◌≤◌, ◌==◌, ◌&&◌, ◌||◌, Bool, true, false, List, Option, None, Some}
use Rattle.std.proofs.Common.{refl, sym, ap, subst, ◌∙◌, arith}
use Rattle.std.proofs.lemmas.Bool.{le-leb, leb-true}
use Rattle.std.proofs.lemmas.Option.{slice_get_within}
use Rattle.std.specs.List.{Contains}
use Rattle.sql_steps.proofs.{Members.contains_has, SameRows.has_map, SameRows.map_has}
use Rattle.sqlite_rules.specs.Lists.{Has}
use Rattle.lifecycle_core.specs.declared.state.State.TheVariants.{Active}
use Rattle.lifecycle_core.specs.{declared.dates.Dates.Dates, State.is_reached_at, State.state_code}
use Rattle.moment_core.specs.Moment.{last_second}
use Rattle.period_core.specs.{declared.key_type.KeyType.KeyType, Fitting.is_either_use_too_long, Period.Period}
use Rattle.key_rows.specs.{declared.key_row.KeyRow.KeyRow, DueRows.HaveOwnNumbers, DueRows.is_due, DueRows.is_listed}
use Rattle.register_core.specs.History.{dates, period, set_period, type}
use Rattle.register_core.specs.{declared.key.Key.Key, Fold.IsLawful, Laws.HasKey}
use Rattle.register_requests.specs.{declared.request.Request.Request, Request.IsDate}
use Rattle.register_core.proofs.{DateRanges.stop_in_range, UnsetPeriods.none_long}
use Rattle.register_tables.specs.{TableChanges.key_at, Tables.numbered}
use Rattle.register_tables.proofs.RowFound.{at_number, number_at}
use Rattle.register_tables.specs.{Tables.key_row, declared.table.TableName.TheVariants.Keys}
use Rattle.register_desk.specs.DatabaseFiles.{HoldsRegister, key_rows_in}
use Rattle.sqlite.specs.{Order.Row as Cells, Recovery.Image}
use Rattle.std.specs.List.{enumerate_from}
use Rattle.register_desk.specs.Register.{key_of, tables}
use Rattle.register_desk.specs.KeyRows.{all_rows, row_of}
use Rattle.register_desk.proofs.Grows.{at_place, found_key, keys_counted}
use Rattle.register_desk.proofs.RowScan.{key_next, own_numbers_of}

-- a row is that of a key, under the key's number
record IsRowOf (h : List Request) (r : KeyRow) : Type 0 where
  there : HasKey h r.number
  kind : r.kind ≡ type h r.number
  dates_are : r.row.dates ≡ dates h r.number

numbered_key_in : (h : List Request) (r : KeyRow) → Contains (all_rows h) r
    → (x : ℕ × Key) × Has (numbered (tables h).keys) x × (r ≡ row_of x)
numbered_key_in h r there = map_has row_of (numbered (tables h).keys) r (contains_has (all_rows h) r there)

of_key : (h : List Request) (x : ℕ × Key) → Has (numbered (tables h).keys) x → IsRowOf h (row_of x)
of_key h x has =
    let place = at_number 1 (tables h).keys x has in
    let within = slice_get_within (tables h).keys place.0 x.1 place.2 in
    let there : HasKey h x.0 = (omega (arith, place.1), omega (arith, place.1, within, keys_counted h)) in
    let next : x.0 ≡ place.0 + 1 = omega (arith, place.1) in
    let at : key_at (tables h).keys x.0 ≡ Some x.1 =
    ap (key_at (tables h).keys) next ∙ key_next (tables h).keys place.0 ∙ place.2 in
    elim (found_key h x.0) [
      | inl found ↦
          let is : x.1 ≡ key_of h x.0 = let both = sym at ∙ found.at in cc in
          record {
            there = there;
            kind = ap (λ (k : Key). k.kind) is;
            dates_are = ap (λ (k : Key). k.row.dates) is;
          }
      | inr missing ↦ absurd (let both = sym missing.not_at ∙ at in cc)
    ]

row_is : (h : List Request) (r : KeyRow) → Contains (all_rows h) r → IsRowOf h r
row_is h r there = let x = numbered_key_in h r there in subst (IsRowOf h) (sym x.2) (of_key h x.0 x.1)

-- no two rows have one number
pub own_numbers : (h : List Request) → HaveOwnNumbers (all_rows h)
own_numbers h = own_numbers_of (tables h)

-- ---- those that are listed

long_stop : (p : Period) (d : Dates) → is_either_use_too_long p d ≡ true → (stop : ℕ) × (d.protect_stop ≡ Some stop)
long_stop p d long = by d.protect_stop d.deactivation refl long
  where
    by : (stop deactivation : Option ℕ) → d.protect_stop ≡ stop
        → is_either_use_too_long p (record d { protect_stop = stop; deactivation = deactivation }) ≡ true
        → (x : ℕ) × (d.protect_stop ≡ Some x)
    by (Some x) deactivation is long = (x, is)
    by None None is long = absurd cc
    by None (Some y) is long = absurd cc

reached_by : (stop : Option ℕ) (until last : ℕ) → is_reached_at stop until ≡ true → until ≤ last
    → is_reached_at stop last ≡ true
reached_by None until last reached le = absurd cc
reached_by (Some x) until last reached le =
    le-leb x last (let here = leb-true x until reached in omega (arith, here, le))

reached_at_last : (stop : Option ℕ) (x : ℕ) → stop ≡ Some x → IsDate stop → is_reached_at stop last_second ≡ true
reached_at_last None x is range = absurd cc
reached_at_last (Some y) x is range = le-leb y last_second range

-- where something else is so whenever the one or the other is
either_so : (active one other wide : Bool) → (one ≡ true → wide ≡ true) → (other ≡ true → wide ≡ true)
    → active && (one || other) ≡ true → active && wide ≡ true
either_so true true other wide first second e = first refl
either_so true false true wide first second e = second refl
either_so true false false wide first second e = absurd cc
either_so false one other wide first second e = absurd cc

module _ (h : List Request) (lawful : IsLawful h) (until : ℕ) (r : KeyRow) (there : Contains (all_rows h) r) where
  abbrev is : IsRowOf h r
  is = row_is h r there

  range : IsDate r.row.dates.protect_stop
  range = subst (λ (d : Dates). IsDate d.protect_stop) (sym is.dates_are) (stop_in_range h lawful r.number)

  -- a row that is listed has a Protect Stop Date
  pub listed_is_due : until ≤ last_second → is_listed until (period h) r ≡ true → is_due last_second r ≡ true
  listed_is_due le =
      either_so (state_code r.row.state == state_code Active) (is_reached_at r.row.dates.protect_stop until)
      (is_either_use_too_long (period h r.kind) r.row.dates) (is_reached_at r.row.dates.protect_stop last_second)
      (λ reached. reached_by r.row.dates.protect_stop until last_second reached le)
      (λ long.
      let stop = long_stop (period h r.kind) r.row.dates long in
      reached_at_last r.row.dates.protect_stop stop.0 stop.1 range)

  -- and is due, where no period was set
  pub listed_if_due : ((kind : KeyType) → set_period h kind ≡ None) → is_listed until (period h) r ≡ true
      → is_due until r ≡ true
  listed_if_due none =
      let stop = r.row.dates.protect_stop in
      either_so (state_code r.row.state == state_code Active) (is_reached_at stop until)
      (is_either_use_too_long (period h r.kind) r.row.dates) (is_reached_at stop until) (λ reached. reached)
      (λ long. absurd (let not_so = not_long in let both = sym not_so ∙ long in cc))
    where
      not_long : is_either_use_too_long (period h r.kind) r.row.dates ≡ false
      not_long =
          ap (λ (k : KeyType). is_either_use_too_long (period h k) r.row.dates) is.kind
          ∙ ap (is_either_use_too_long (period h (type h r.number))) is.dates_are
          ∙ none_long h lawful r.number is.there (none (type h r.number))

-- ---- in files

pub row_in_files : (h : List Request) (image : Image) (held : HoldsRegister h image) (k : ℕ) → HasKey h k
    → Has (key_rows_in held) (key_row (k, key_of h k))
row_in_files h image held zero has = absurd (omega (arith, has.0))
row_in_files h image held (suc i) has =
    let next : 1 + i ≡ suc i = omega arith in
    let its = key_of h (suc i) in
    let there = number_at 1 (tables h).keys i its (at_place h i (omega (arith, has.1))) in
    let numbered = subst (λ (n : ℕ). Has (enumerate_from 1 (tables h).keys) (n, its)) next there in
    subst (λ (rows : List Cells). Has rows (key_row (suc i, key_of h (suc i)))) (sym (held.tables_are.rows Keys))
    (has_map key_row (enumerate_from 1 (tables h).keys) (suc i, its) numbered)
