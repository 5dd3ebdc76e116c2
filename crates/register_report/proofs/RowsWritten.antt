-- The text of a report is that of the table of the rows which the desk gives.
use Rattle.std.proofs.Common.{◌≡◌, ◌⊎◌, inl, inr, ℕ, ◌≤◌, Bool, true, false, cond, List, [], ◌∷◌, ◌++◌, length, filter}
use Rattle.std.proofs.Common.{Option, None, refl, sym, ap, ap₂, subst, ◌∙◌, append_assoc, ◌≢◌, ◌+◌, Some, Result, Ok}
use Rattle.std.proofs.Common.{Err, OnOk, arith}
use Rattle.std.proofs.lemmas.List.Elements.{filter_agree}
use Rattle.std.proofs.lemmas.List.{append-nil}
use Rattle.std.specs.Prelude.{flat_map, unwrap_or, if◌then◌else◌, IsErrAnd}
use Rattle.std.specs.List.{Contains}
use Rattle.moment_core.specs.Moment.{last_second}
use Rattle.period_core.specs.declared.office.OfficePeriods.{OfficePeriods}
use Rattle.period_core.specs.{declared.key_type.KeyType.KeyType, Office.set_in, Period.Period, Period.periods}
use Rattle.key_rows.specs.DueRows.{AreDue, AreListed, is_due, is_listed}
use Rattle.key_rows.specs.{declared.key_row.KeyRow.KeyRow, Report.report_line, Report.report_text, Report.report_total}
use Rattle.key_rows.proofs.DueRows.{a_list, fewer}
use Rattle.register_requests.specs.declared.request.Request.{Request}
use Rattle.register_core.specs.{Fold.IsLawful, History.period, History.set_period}
use Rattle.register_desk.specs.KeyRows.{all_rows, AreSoFar, GiveNext, HaveGiven, until_of}
use Rattle.register_desk.specs.Desk.{ChangesNothing, IsClean, IsWhole}
use Rattle.register_desk.specs.{declared.end.End.End, declared.end.End.TheVariants.WriteFault, declared.desk.Desk.Desk}
use Rattle.register_desk.specs.{declared.rows.KeyRows.KeyRows, Register.StandsFor}
use Rattle.register_desk.proofs.KeyRowsOf.{listed_if_due, listed_is_due, own_numbers}
use Rattle.register_desk.proofs.Readings.{nothing_done, nothing_then, stands_still}
use Rattle.register_report.specs.Within.KeyTable.{head_text, lines_text, has_line_for, table_text, count_in, row_text}
use Rattle.register_report.specs.Within.TextWriter.{Puts, PutsRows, PutsText}
use Rattle.register_report.specs.{declared.key_table.KeyTable.KeyTable, declared.key_table.KeyTable.TheVariants.Report}
use Rattle.sqlite_trees.specs.declared.store.Store.{Ghosts}
use Rattle.streams.specs.declared.watched.Watched.{Watched}
use Rattle.register_report.proofs.TextLemmas.{prefix_whole, no_fault, passed_on, puts_nothing, puts_well, text_failed}
use Rattle.register_report.proofs.TextLemmas.{text_same, text_then}

module _ (latest until : ℕ) (set : OfficePeriods) where
  abbrev table : KeyTable
  table = Report latest until set

  -- the lines of rows are those of the rows that are listed
  lines_of : (rows : List KeyRow)
      → lines_text table rows ≡ flat_map (report_line latest until) (filter (has_line_for table) rows)
  lines_of [] = refl
  lines_of (r ∷ rows) = by (has_line_for table r) (lines_of rows)
    where
      by : (b : Bool) → lines_text table rows ≡ flat_map (report_line latest until) (filter (has_line_for table) rows)
          → cond b (report_line latest until r) [] ++ lines_text table rows
          ≡ flat_map (report_line latest until)
          (cond b (r ∷ filter (has_line_for table) rows) (filter (has_line_for table) rows))
      by true rest = ap (λ lines. report_line latest until r ++ lines) rest
      by false rest = rest

  text_of : (wide rows : List KeyRow) → filter (has_line_for table) wide ≡ rows
      → table_text table wide ≡ report_text latest until rows
  text_of wide rows is =
      ap₂ (λ lines count. head_text table ++ (lines ++ report_total count))
      (lines_of wide ∙ ap (flat_map (report_line latest until)) is) (ap length is)
      ∙ sym (append_assoc (head_text table) (flat_map (report_line latest until) rows) (report_total (length rows)))

  module _ (h : List Request) (lawful : IsLawful h) (found : (kind : KeyType)
      → set_in set kind ≡ set_period h kind) where
    listed_same : (r : KeyRow) → has_line_for table r ≡ is_listed until (period h) r
    listed_same r =
        ap (λ (o : Option Period). is_listed until (λ kind. unwrap_or o (periods r.kind)) r) (found r.kind)

    -- the rows go to the horizon where no period was set, and else to the last moment
    abbrev pub EndsAt : ℕ → Type 0
    EndsAt last = (((kind : KeyType) → set_in set kind ≡ None) × (last ≡ until)) ⊎ (last ≡ last_second)

    within : (last : ℕ) → until ≤ last_second → EndsAt last → (r : KeyRow) → Contains (all_rows h) r
        → is_listed until (period h) r ≡ true → is_due last r ≡ true
    within last le (inl none) r there listed =
        subst (λ (m : ℕ). is_due m r ≡ true) (sym none.1)
        (listed_if_due h lawful until r there (λ kind. sym (found kind) ∙ none.0 kind) listed)
    within last le (inr end) r there listed =
        subst (λ (m : ℕ). is_due m r ≡ true) (sym end) (listed_is_due h lawful until r there le listed)

    pub report_rows : (last : ℕ) → until ≤ last_second → EndsAt last → (rows : List KeyRow)
        → AreListed (all_rows h) until (period h) rows
        → (wide : List KeyRow) × AreDue (all_rows h) last wide × (table_text table wide ≡ report_text latest until rows)
    report_rows last le end rows listed =
        let narrow = is_listed until (period h) in
        let wide = a_list (is_due last) (all_rows h) (own_numbers h) in
        let same = filter_agree (has_line_for table) narrow listed_same wide.0
        ∙ fewer (is_due last) narrow (all_rows h) wide.0 rows wide.1 listed (within last le end) in
        (wide.0, wide.1, text_of wide.0 rows same)

-- ---- The rows of which the lines were written so far.

-- the lines of one row more, and their number
one_line : (table : KeyTable) (given : List KeyRow) (row : KeyRow)
    → lines_text table (given ++ row ∷ []) ≡ lines_text table given ++ row_text table row
one_line table [] row = append-nil (row_text table row)
one_line table (r ∷ given) row =
    ap (λ text. row_text table r ++ text) (one_line table given row)
    ∙ sym (append_assoc (row_text table r) (lines_text table given) (row_text table row))

abbrev pub one_if : Bool → ℕ
one_if listed = if listed then 1 else 0

pub at_most_one : (listed : Bool) → one_if listed ≤ 1
at_most_one true = omega arith
at_most_one false = omega arith

count_more : (table : KeyTable) (given : List KeyRow) (row : KeyRow)
    → count_in table (given ++ row ∷ []) ≡ count_in table given + one_if (has_line_for table row)
count_more table [] row = by (has_line_for table row)
  where
    by : (b : Bool) → length (cond b (row ∷ []) []) ≡ 0 + one_if b
    by true = refl
    by false = refl
count_more table (r ∷ given) row = by (has_line_for table r) (count_more table given row)
  where
    by : (b : Bool) → count_in table (given ++ row ∷ []) ≡ count_in table given + one_if (has_line_for table row)
        → length (cond b (r ∷ filter (has_line_for table) (given ++ row ∷ []))
        (filter (has_line_for table) (given ++ row ∷ [])))
        ≡ length (cond b (r ∷ filter (has_line_for table) given) (filter (has_line_for table) given)) + one_if
        (has_line_for table row)
    by true rest = omega (arith, rest)
    by false rest = rest

module _ {W S : Type 0} (contents : W → Option (List ℕ)) (g : Ghosts S) (table : KeyTable) where
  pub record SoFar (old now : Watched W) (before after : ℕ) (start rows : KeyRows S g)
      (count : ℕ) : Type 0 where
    pub given : List KeyRow
    pub puts : Puts {T = Unit {0}} contents old now before after (lines_text table given) (Ok tt)
    pub counted : count ≡ count_in table given
    pub reads : ChangesNothing g start.desk.now rows.desk.now
    pub mark : rows.desk.now.is_broken ≡ start.desk.now.is_broken
    pub until : until_of rows ≡ until_of start
    pub have : (h : List Request) → StandsFor g start.desk.now h → IsWhole start.desk.now
        → IsClean g rows.desk.now → ((all : List KeyRow) → HaveGiven start all [])
        → HaveGiven rows (all_rows h) given

  pub none_so_far : (writer : Watched W) (count : ℕ) (rows : KeyRows S g)
      → SoFar writer writer count count rows rows 0
  none_so_far writer count rows = record {
    given = [];
    puts = puts_nothing contents writer count (Ok tt) (no_fault (tt {0}));
    counted = refl;
    reads = nothing_done g rows.desk.now;
    mark = refl;
    until = refl;
    have = λ h stands whole clean none. none (all_rows h);
  }

-- what the next row, or none, leaves of the rows
pub record Next {S : Type 0} {g : Ghosts S} (rows next : KeyRows S g)
    (found : Option KeyRow) : Type 0 where
  pub reads : ChangesNothing g rows.desk.now next.desk.now
  pub mark : next.desk.now.is_broken ≡ rows.desk.now.is_broken
  pub until : until_of next ≡ until_of rows
  pub gives : (h : List Request) (given : List KeyRow) → StandsFor g rows.desk.now h
      → IsWhole rows.desk.now → IsClean g next.desk.now → HaveGiven rows (all_rows h) given
      → GiveNext next (all_rows h) given found

module _ {W S : Type 0} {contents : W → Option (List ℕ)} {g : Ghosts S} {table : KeyTable}
    {old now : Watched W} {before after : ℕ} {start rows : KeyRows S g} {count : ℕ}
    (so : SoFar contents g table old now before after start rows count) where
  pub still : {desk : Desk S g} → ChangesNothing g rows.desk.now desk
      → ChangesNothing g start.desk.now desk
  still {desk} reads =
      nothing_then g start.desk.now rows.desk.now desk so.reads reads

  given_next : {next : KeyRows S g} {found : Option KeyRow} → Next rows next found
      → (h : List Request) → StandsFor g start.desk.now h → IsWhole start.desk.now
      → IsClean g next.desk.now → ((all : List KeyRow) → HaveGiven start all [])
      → GiveNext next (all_rows h) so.given found
  given_next {next} {found} it h stands whole clean none =
      let has = so.have h stands whole (it.reads.clean clean) none in
      it.gives h so.given (stands_still g start.desk.now rows.desk.now so.reads h stands)
      (so.mark ∙ whole) clean has

  puts_as : {T : Type 0} (r : Result T End) → r ≢ Err WriteFault
      → Puts contents old now before after (lines_text table so.given) r
  puts_as r sound = record {
    written = so.puts.written;
    counted = so.puts.counted;
    flushed = λ other. so.puts.flushed (no_fault (tt {0}));
    fault = λ is. absurd (sound is);
    bounded = so.puts.bounded;
  }

  text_as : {T : Type 0} (r : Result T End) → r ≢ Err WriteFault
      → PutsText contents old now before after (lines_text table so.given) r
  text_as r sound = record {
    bytes = lines_text table so.given;
    puts = puts_as r sound;
    prefix = prefix_whole (lines_text table so.given);
    whole = same r;
  }
    where
      same : {T : Type 0} (r : Result T End)
          → OnOk r (lines_text table so.given ≡ lines_text table so.given)
      same (Ok x) = refl
      same (Err e) = tt

  module _ {row : KeyRow} {next : KeyRows S g} (it : Next rows next (Some row)) {new : Watched W}
      {later : ℕ} where
    -- what was written with the next line, or with a part of it
    with_line : {T : Type 0} {r : Result T End}
        → PutsText contents now new after later (row_text table row) r
        → PutsText contents old new before later (lines_text table (so.given ++ row ∷ [])) r
    with_line {T} {r} line =
        text_same (sym (one_line table so.given row))
        (text_then (text_as {T = Unit {0}} (Ok tt) (no_fault (tt {0}))) line)

    -- one line more
    pub one_more : (more : ℕ) → more ≡ count + one_if (has_line_for table row)
        → {listed : Bool} → PutsText {T = Bool} contents now new after later (row_text table row) (Ok listed)
        → SoFar contents g table old new before later start next more
    one_more more is {listed} line =
        let both = with_line line in
        record {
          given = so.given ++ row ∷ [];
          puts =
              subst (λ bytes. Puts {T = Unit {0}} contents old new before later bytes (Ok tt))
              both.whole (puts_well (tt {0}) both.puts);
          counted = let grown = count_more table so.given row in omega (arith, is, so.counted, grown);
          reads = still it.reads;
          mark = it.mark ∙ so.mark;
          until = it.until ∙ so.until;
          have = given_next it;
        }

    -- a part of the next line
    pub part_of_line : {e : End} → PutsText {T = Bool} contents now new after later
        (row_text table row) (Err e) → PutsRows contents g old new before later start next table
        (Err e)
    part_of_line {e} line = record {
      given = so.given ++ row ∷ [];
      text = text_failed (with_line line);
      counted = tt;
      are =
          λ h stands whole clean none.
          let has = given_next it h stands whole clean none in
          subst (λ until. AreSoFar until (all_rows h) (so.given ++ row ∷ [])) (it.until ∙ so.until)
          has.so_far;
    }

module _ {W S : Type 0} {contents : W → Option (List ℕ)} {g : Ghosts S} {old new : Watched W}
    {before after : ℕ} {rows_old rows_new : KeyRows S g} {table : KeyTable} {e : End} where
  -- the same of a failure that was passed on
  pub rows_passed_on : (r : Result ℕ End) → IsErrAnd r (λ x. x ≡ e)
      → PutsRows contents g old new before after rows_old rows_new table (Err e)
      → PutsRows contents g old new before after rows_old rows_new table r
  rows_passed_on = passed_on (PutsRows contents g old new before after rows_old rows_new table) e
