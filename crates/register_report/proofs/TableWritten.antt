-- A table that was written, or a prefix of it: its head, its lines, its foot.
use Rattle.std.proofs.Common.{◌≡◌, ◌≢◌, ℕ, List, [], ◌++◌, true, false, Option, Result, Ok, Err, OnOk, refl, ap}
use Rattle.std.specs.Prelude.{IsErrAnd}
use Rattle.sqlite_trees.specs.declared.store.Store.{Ghosts}
use Rattle.streams.specs.declared.watched.Watched.{Watched}
use Rattle.register_desk.specs.declared.end.End.TheVariants.{WriteFault}
use Rattle.register_desk.specs.{declared.end.End.End, declared.rows.KeyRows.KeyRows, KeyRows.all_rows}
use Rattle.register_report.specs.declared.key_table.KeyTable.{KeyTable}
use Rattle.register_report.specs.Within.KeyTable.{foot_text, head_text, lines_text}
use Rattle.register_report.specs.Within.TextWriter.{PutsRows, PutsTable, PutsText}
use Rattle.register_report.proofs.TextLemmas.{passed_on, text_failed, text_longer, text_nothing, text_same, text_then}

-- a fault that is not the writer's
other_fault : {T : Type 0} (e : End) → e ≢ WriteFault
    → ◌≢◌ {A = Result T End} (Err e) (Err WriteFault)
other_fault e other is = other (let same : e ≡ WriteFault = cc in same)

-- nothing was written
pub no_head : {W S : Type 0} (contents : W → Option (List ℕ)) {g : Ghosts S} (table : KeyTable)
    → (writer : Watched W) (count : ℕ) (start : KeyRows S g) (e : End)
    → e ≢ WriteFault → PutsTable contents g writer writer count count start start table (Err e)
no_head contents {g} table writer count start e other = record {
  is_all = false;
  given = [];
  text =
      text_nothing contents writer count (head_text table ++ lines_text table []) e
      (other_fault e other);
  whole = tt;
  are = λ h stands whole clean none. (none (all_rows h)).so_far;
}

module _ {W S : Type 0} {contents : W → Option (List ℕ)} {g : Ghosts S} (table : KeyTable)
    (start : KeyRows S g) {a b : Watched W} {i j : ℕ} where
  pub part_of_head : {e : End} → PutsText {T = Unit {0}} contents a b i j (head_text table) (Err e)
      → PutsTable contents g a b i j start start table (Err e)
  part_of_head {e} head = record {
    is_all = false;
    given = [];
    text = text_longer (lines_text table []) head;
    whole = tt;
    are = λ h stands whole clean none. (none (all_rows h)).so_far;
  }

  module _ (head : PutsText {T = Unit {0}} contents a b i j (head_text table) (Ok tt))
      {d : Watched W} {k : ℕ} {next : KeyRows S g} where
    pub part_of_rows : {e : End} → PutsRows contents g b d j k start next table (Err e)
        → PutsTable contents g a d i k start next table (Err e)
    part_of_rows {e} rows = record {
      is_all = false;
      given = rows.given;
      text = text_failed (text_then head rows.text);
      whole = tt;
      are = rows.are;
    }

    module _ {count : ℕ} (rows : PutsRows contents g b d j k start next table (Ok count)) where
      pub with_foot : {f : Watched W} {l : ℕ} {r : Result (Unit {0}) End}
          → PutsText contents d f k l (foot_text table count) r
          → PutsTable contents g a f i l start next table r
      with_foot {f} {l} {r} foot = record {
        is_all = true;
        given = rows.given;
        text =
            text_then head (text_then rows.text
            (text_same (ap (foot_text table) rows.counted) foot));
        whole = same r;
        are = rows.are;
      }
        where
          same : (r : Result (Unit {0}) End) → OnOk r (true ≡ true)
          same (Ok x) = refl
          same (Err e) = tt

      pub no_foot : (e : End) → e ≢ WriteFault
          → PutsTable contents g a d i k start next table (Err e)
      no_foot e other =
          with_foot (text_nothing contents d k (foot_text table count) e (other_fault e other))

module _ {W S : Type 0} {contents : W → Option (List ℕ)} {g : Ghosts S} {old new : Watched W}
    {before after : ℕ} {rows_old rows_new : KeyRows S g} {table : KeyTable} {e : End} where
  -- the same of a failure that was passed on
  pub table_passed_on : (r : Result (Unit {0}) End) → IsErrAnd r (λ x. x ≡ e)
      → PutsTable contents g old new before after rows_old rows_new table (Err e)
      → PutsTable contents g old new before after rows_old rows_new table r
  table_passed_on = passed_on (PutsTable contents g old new before after rows_old rows_new table) e
