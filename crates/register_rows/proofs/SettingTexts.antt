-- The tables of what is set, of periods and of needs: what the statements on them mean, computed.
use Rattle.std.proofs.Common.{arith, ℕ, pos, [], ◌∷◌, codes, refl}
use Rattle.sqlite.specs.{declared.types.Value.TheVariants.Int, Listing.understood}
use Rattle.sqlite_resolve.specs.Compile.{first}
use Rattle.sqlite_tied.specs.Compute.{everything}
use Rattle.sql_steps.proofs.Statements.{cast_int, cast_null}
use Rattle.period_core.specs.{KeyType.key_type_code, Period.IsPeriod, Period.Period as UsagePeriod}
use Rattle.register_requests.specs.Quorum.{IsQuorum}
use Rattle.register_core.specs.Settings.{KeyNeed, TypePeriod}
use Rattle.register_tables.specs.declared.table.TableName.TheVariants.{Period, Quorum}
use Rattle.register_tables.specs.Columns.{need_columns, period_columns}
use Rattle.register_tables.specs.Within.TableReads.{ShowsNeed, ShowsPeriod}
use Rattle.register_tables.proofs.Actions.{idle}
use Rattle.register_rows.proofs.SettingTables.{Clears, Finds, IsSetting, Puts, Setting}

abbrev pub periods : Setting TypePeriod UsagePeriod
periods = record {
  name = Period;
  number = codes "kind";
  columns = period_columns;
  number_of = λ set. key_type_code set.kind;
  value_of = λ set. set.period;
  cells = λ period. Int (pos period.originator) ∷ Int (pos period.recipient) ∷ [];
  IsOne = IsPeriod;
  ShowsOne = ShowsPeriod;
  entries = λ t. t.periods;
  with_entries = λ sets t. record t { periods = sets };
}

abbrev pub needs : Setting KeyNeed ℕ
needs = record {
  name = Quorum;
  number = codes "key_no";
  columns = need_columns;
  number_of = λ set. set.key;
  value_of = λ set. set.need;
  cells = λ need. Int (pos need) ∷ [];
  IsOne = IsQuorum;
  ShowsOne = ShowsNeed;
  entries = λ t. t.needs;
  with_entries = λ sets t. record t { needs = sets };
}

-- ---- their statements

clears_periods : Clears periods
unfolding everything first
clears_periods l = record { p = _; name = _; check = _; d = _; parsed = refl; untimed = refl; is = refl; named = refl; there = refl; drafted = refl; same = refl; from = refl; accepted = refl }

clears_needs : Clears needs
unfolding everything first
clears_needs l = record { p = _; name = _; check = _; d = _; parsed = refl; untimed = refl; is = refl; named = refl; there = refl; drafted = refl; same = refl; from = refl; accepted = refl }

puts_periods : Puts periods
unfolding understood everything
puts_periods l = (refl, (refl, refl))

puts_needs : Puts needs
unfolding understood everything
puts_needs l = (refl, (refl, refl))

finds_periods : Finds periods
unfolding everything first
finds_periods l = record { p = _; select = _; d = _; by = _; parsed = refl; untimed = refl; is = refl; drafted = refl; same = refl; from = refl; accepted = refl }

finds_needs : Finds needs
unfolding everything first
finds_needs l = record { p = _; select = _; d = _; by = _; parsed = refl; untimed = refl; is = refl; drafted = refl; same = refl; from = refl; accepted = refl }

-- ---- what is proved of them

pub periods_are : IsSetting periods
periods_are = record {
  form_is = refl;
  idle = λ l apart. idle l apart Period refl 0;
  shows = λ period is. record { originator = refl; recipient = refl; in_range = is };
  same = λ period other shows. grind arith;
  cells_same = λ period other e. grind arith;
  shown_is = λ n set. refl;
  news_are = λ set l old has. simp (cast_int, cast_null);
  clears = clears_periods;
  puts = puts_periods;
  finds = finds_periods;
}

pub needs_are : IsSetting needs
needs_are = record {
  form_is = refl;
  idle = λ l apart. idle l apart Quorum refl 0;
  shows = λ need is. record { cell = refl; in_range = is };
  same = λ need other shows. cc;
  cells_same = λ need other e. cc;
  shown_is = λ n set. refl;
  news_are = λ set l old has. simp (cast_int, cast_null);
  clears = clears_needs;
  puts = puts_needs;
  finds = finds_needs;
}
