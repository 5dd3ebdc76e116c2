-- The check of the table meta.
use Rattle.std.proofs.Common.{◌≡◌, ◌≤◌, ℕ, Option, None, Some, Result, Ok, Err, List, [], ◌∷◌, ◌++◌, IfOk, IfErr}
use Rattle.std.proofs.Common.{IsErrAnd, sym, ap, subst, ◌∙◌, refl, arith}
use Rattle.sqlite.specs.State.{State, HasCleanDisk, IsUnchanged, Survives}
use Rattle.sqlite.specs.{Effect.Database as Db, Order.Row, Order.column, Program.overlay, Tree.IsTable}
use Rattle.row_checks.specs.declared.error.RowsError.TheVariants.{NoMeaning, Refused, Memory}
use Rattle.row_checks.specs.ShownRows.{HasNoMeaning, ShowsAll, ShowsFirst}
use Rattle.row_checks.specs.{EachRow.ShowEach, declared.error.RowsError.RowsError}
use Rattle.register_checks.specs.declared.refusal.CheckError.TheVariants.{NewerVersion, NotARegister}
use Rattle.register_checks.specs.declared.meta_check.MetaRow.TheVariants.{Newer, Counts as CountsKeys}
use Rattle.register_checks.specs.CheckedTables.{HasNewer, IsOdd, IsReasonAt, ShowsCounts, ShowsRows, check_error}
use Rattle.register_checks.specs.CheckedTables.{check_text}
use Rattle.register_checks.specs.Stored.{HoldsStored, Stored, mark, with_part}
use Rattle.register_checks.specs.{declared.found.Found.Found, declared.refusal.CheckError.CheckError}
use Rattle.register_checks.specs.declared.meta_check.MetaRow.{MetaRow}
use Rattle.register_tables.specs.declared.table.TableName.TheVariants.{Meta}
use Rattle.register_checks.specs.Within.CheckedTables.{ChecksTable}
use Rattle.register_tables.specs.{Schema.table_rows, Tables.Counts}
use Rattle.register_tables.specs.Tables.{counts_row_in, version}
use Rattle.register_checks.specs.{OpeningChecks.MeetsCheck, CheckedRows.HasMeta}
use Rattle.register_checks.specs.Within.CheckedRows.{IsCounts, counts_in}
use Rattle.register_checks.specs.CheckedRows.{RefusesMeta}
use Rattle.register_requests.specs.{declared.version.Version.Version, Version.version_number}
use Rattle.register_checks.proofs.Asked.{AnswersTo, IsWithin, ShowsOwn, in_both, shown_of_table, shown_own}
use Rattle.register_checks.proofs.Asked.{checks_table}
use Rattle.register_checks.proofs.Ordered.{in_order, shown_of}
use Rattle.register_tables.proofs.{Actions.shows_all, Decoding.same_number}

-- ---- a register's own row

abbrev the_row : Version → Counts → Row
the_row v counts = shown_of 0 (shown_of_table Meta) (counts_row_in v counts)

pub meta_within : (t : Stored) → IsWithin Meta t.version
meta_within t = in_both Meta (omega arith) t.version

pub own_meta : (t : Stored) (db : Db) (rows : List Row) (holds : HoldsStored t db)
    → AnswersTo holds.schema.layout Meta db rows → ShowsOwn Meta t rows
own_meta t db rows holds sure =
    let table : IsTable (table_rows holds.schema.layout Meta db) = subst IsTable (sym (holds.shown Meta)) (tt, tt) in
    let is : rows
    ≡ the_row t.version t.tables.counts ∷ [] = in_order (holds.schema.layout.tree Meta) (shown_of_table Meta)
    (overlay db.trees []) rows (subst IsTable (sym (shows_all db.trees (holds.schema.layout.tree Meta))) table)
    sure ∙ ap (Rattle.std.specs.Prelude.map (shown_of 0 (shown_of_table Meta)))
    (shows_all db.trees (holds.schema.layout.tree Meta) ∙ holds.shown Meta) in
    record {
      c = mark t;
      shows = subst (λ rs. ShowEach ShowsCounts rs (mark t ∷ [])) (sym is)
          (record { id = refl; version_is = refl; latest = refl; key_count = refl; moment = holds.in_range Meta }, tt);
      like = refl;
      meets = λ meets. meets;
    }

known_below : (v : Version) → version_number v ≤ version
known_below v = search arith

-- its version is one that this program knows
pub newer_not : (t : Stored) (found : ℕ) (old new : State) → HoldsStored t old.now → HasNewer found old new → ⊥
newer_not t found old new holds newer =
    let it = shown_own Meta t (meta_within t) (own_meta t) old new holds newer.shown in
    let shows = subst (λ rows. ShowEach ShowsCounts rows (it.c ∷ [])) newer.shown.holds it.shows in
    let above = newer.newer.above in
    let same = same_number (column newer.row 1) found (version_number it.c.0) newer.newer.version_is
    shows.0.version_is in
    absurd (omega (arith, above, same, known_below it.c.0))

-- what was told is what the rows have
pub told_as : (told is : Option MetaRow) (old new : State) → told ≡ is
    → (HasCleanDisk new → ShowsAll (check_text Meta) (HasMeta told) old new)
    → HasCleanDisk new → ShowsAll (check_text Meta) (HasMeta is) old new
told_as told is old new same all clean = search arith

one_counts : (row : Row) (a b : Version × Counts) → ShowsCounts row a → ShowsCounts row b → a ≡ b
one_counts row a b x y = search (arith, same_number)

one_meta : (rows : List Row) (c d : Version × Counts) → ShowsRows Meta rows c → ShowsRows Meta rows d → c ≡ d
one_meta [] c d x y = absurd x
one_meta (row ∷ rows) c d x y = one_counts row c d x.0 y.0

-- ---- what was read

-- a second row
pub two_refused : (told : Option MetaRow) (rows : List Row) (row : Row) → Rattle.std.specs.Prelude.IsSome told
    → HasMeta told rows → RefusesMeta (rows ++ row ∷ [])
two_refused told rows row some taken = search arith

module _ (t : Stored) (old new : State) (survives : Survives old new (λ _. ⊥)) where
  abbrev Checked : Result Found CheckError → Type 0
  Checked q = ChecksTable Meta t IsCounts old new q

  checked : (q : Result Found CheckError) → (HasCleanDisk new
      → IfOk q (λ found. (c : Version × Counts) × ShowsAll (check_text Meta) (λ rows. ShowsRows Meta rows c) old new
      × MeetsCheck Meta (with_part Meta c t) × IsCounts c found))
      → (HasCleanDisk new → IfErr q (IsReasonAt Meta t old new)) → Checked q
  checked q passed refused =
      checks_table Meta t (meta_within t) (own_meta t) (newer_not t) IsCounts (λ c d x like says. says ∙ like)
      one_meta old new q passed refused survives

  -- all rows were read
  counts_told : (told : MetaRow) → (HasCleanDisk new → ShowsAll (check_text Meta) (HasMeta (Some told)) old new)
      → Checked (counts_in told)
  counts_told (CountsKeys found) all = checked (Ok found) (search arith) (λ clean. tt)
  counts_told (Newer found) all = checked (Err (NewerVersion found)) (λ clean. tt) (grind arith)

  pub meta_told : (told : MetaRow) (q : Result Found CheckError) → q ≡ counts_in told
      → (HasCleanDisk new → ShowsAll (check_text Meta) (HasMeta (Some told)) old new) → Checked q
  meta_told told q is all = subst Checked (sym is) (counts_told told all)

  odd : (rows : List Row) → RefusesMeta rows → (tail : List Row) → IsOdd Meta t (rows ++ tail)
  odd rows refuses tail = record {
    fails = λ c shows meets. refuses.uncounted tail c shows meets;
    no_newer = refuses.no_newer tail;
  }

  pub meta_none : (HasCleanDisk new → ShowsAll (check_text Meta) (HasMeta None) old new) → Checked (Err NotARegister)
  meta_none all = checked (Err NotARegister) (λ clean. tt) (search arith)

  -- the rows do not pass, or were not read
  reason : (error : RowsError) → (error ≡ NoMeaning → HasNoMeaning (check_text Meta) old new)
      → (error ≡ Refused → ShowsFirst (check_text Meta) RefusesMeta old new) → (error ≡ Memory → IsUnchanged old new)
      → IsReasonAt Meta t old new (check_error error)
  reason error meaning refused memory = search (arith, odd)

  pub meta_fails : (error : RowsError) (q : Result Found CheckError) → IsErrAnd q (λ e. e ≡ check_error error)
      → (HasCleanDisk new → error ≡ NoMeaning → HasNoMeaning (check_text Meta) old new)
      → (HasCleanDisk new → error ≡ Refused → ShowsFirst (check_text Meta) RefusesMeta old new)
      → (HasCleanDisk new → error ≡ Memory → IsUnchanged old new) → Checked q
  meta_fails error (Ok found) is meaning refused memory = absurd is
  meta_fails error (Err e) is meaning refused memory =
      subst (λ e. Checked (Err e)) (sym is) (search (arith, checked, reason))
