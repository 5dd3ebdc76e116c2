-- The items of a table's rows: those that came are the first of the table's.
use Rattle.std.proofs.Common.{◌≡◌, ◌⊎◌, ◌≤◌, ℕ, ◌+◌, true, List, [], ◌∷◌, ◌++◌, length, take, Option, Some, refl, sym}
use Rattle.std.proofs.Common.{ap, subst, ◌∙◌, inl, inr, arith}
use Rattle.std.proofs.lemmas.List.{append-nil, length-append, take_at}
use Rattle.sqlite_trees.specs.declared.store.Store.{Ghosts}
use Rattle.csv.specs.Reading.{Reached, ReadRecord, TookRecord, default_config, reader_config, reader_state, source_of}
use Rattle.csv.specs.{Records.AllText, declared.reader.Reader.Reader}
use Rattle.csv.proofs.ReadFacts.{rows-end, rows-more}
use Rattle.register_core.proofs.Lawful.{all_more}
use Rattle.register_desk.specs.declared.outcome.Finish.TheVariants.{AtEnd, Ended}
use Rattle.register_desk.specs.{declared.desk.Desk.Desk, declared.end.End.TheVariants.ReadFault}
use Rattle.register_desk.specs.Items.{ServedItems, Serves}
use Rattle.register_desk.specs.Within.{AreAhead}
use Rattle.register_desk.specs.declared.outcome.Finish.{Finish}
use Rattle.register_report.specs.declared.importing.Rows.{Rows}
use Rattle.register_report.specs.ImportRows.{AreRowItems, AreTexts, IsRowItem, Item, RowTexts, max_rows}
use Rattle.register_report.specs.TableRows.{ReadRows, RowsCame, RowsEnd, RowsFail}
use Rattle.register_report.proofs.RowsLemmas.{HasLeft, ItemsSplit, RowsSplit, items_more, items_split, no_items}
use Rattle.register_report.proofs.RowsLemmas.{none_after, rows_split, same_length}

-- ---- one row more

module _ {R : Type 0} (remaining : R → Option (List ℕ)) where
  read_none : (table : Reader R) → ReadRows remaining table table []
  unfolding Reached
  read_none table xs known = (xs, known, (refl, refl))

  read_more : (start table next : Reader R) (rows : List RowTexts) (row : RowTexts) → reader_config table ≡ default_config
      → ReadRows remaining start table rows → ReadRecord remaining table next true row
      → ReadRows remaining start next (rows ++ row ∷ [])
  read_more start table next rows row config read one xs known =
      let so_far = read xs known in
      rows-more remaining table next row default_config (reader_state start) xs so_far.0 rows config so_far.1 so_far.2
      one

module _ {R : Type 0} {remaining : R → Option (List ℕ)} where
  pub rows_none : (place : Rows × Reader R) → reader_config place.1 ≡ default_config → place.0.came ≡ 0
      → RowsCame remaining place place []
  rows_none place config none = record {
    rows = [];
    each = tt;
    texts = tt;
    read = read_none remaining place.1;
    config = config;
    moment = refl;
    caller = refl;
    number = omega arith;
    came = omega arith;
    within = omega arith;
  }

  -- one row more, which is text
  module _ {from to next : Rows × Reader R} {items : List Item} (came : RowsCame remaining from to items) (row : RowTexts)
      (item : Item) where
    pub rows_then : ReadRecord remaining to.1 next.1 true row → AllText row
        → IsRowItem to.0.moment to.0.caller to.0.number row item → reader_config next.1 ≡ reader_config to.1
        → next.0.moment ≡ to.0.moment → next.0.caller ≡ to.0.caller → next.0.number ≡ to.0.number + 1
        → next.0.came ≡ to.0.came + 1 → next.0.came ≤ max_rows
        → RowsCame remaining from next (items ++ item ∷ [])
    rows_then read text is config moment caller number counted within = record {
      rows = came.rows ++ row ∷ [];
      each = items_more from.0.moment from.0.caller from.0.number came.rows items row item came.each
          (rw (← came.moment, ← came.caller, ← came.number) is);
      texts = all_more AllText came.rows row came.texts text;
      read = read_more remaining from.1 to.1 next.1 came.rows row came.config came.read read;
      config = config ∙ came.config;
      moment = moment ∙ came.moment;
      caller = caller ∙ came.caller;
      number = omega (arith, number, came.number, length-append items (item ∷ []));
      came = omega (arith, counted, came.came, length-append items (item ∷ []));
      within = within;
    }

  -- ---- what came is the first of the table

  module _ {start : Rows × Reader R} {all_rows : List RowTexts} (after : HasLeft remaining start.1 all_rows)
      {place : Rows × Reader R} {items : List Item} (came : RowsCame remaining start place items) where
    so_far : (y : List ℕ) × (source_of remaining place.1 ≡ Some y)
        × Reached default_config (reader_state start.1) after.bytes came.rows (reader_state place.1) y
    so_far = came.read after.bytes after.source

    rows_left : RowsSplit default_config all_rows came.rows (reader_state place.1) so_far.0
    rows_left =
        rows_split default_config (reader_state start.1) (reader_state place.1) after.bytes so_far.0 came.rows all_rows
        so_far.2 after.are

    -- the rows that came are texts
    pub texts_so : AreTexts (take (length items) all_rows)
    texts_so =
        let counted = same_length start.0.moment start.0.caller start.0.number came.rows items came.each in
        let prefix = ap (take (length items)) rows_left.parts ∙ take_at came.rows rows_left.more (length items) counted
        in subst AreTexts (sym prefix) came.texts

    module _ (all : List Item) (each : AreRowItems start.0.moment start.0.caller start.0.number all_rows all) where
      items_left : ItemsSplit start.0.moment start.0.caller (start.0.number + length items) all items rows_left.more
      items_left =
          items_split start.0.moment start.0.caller start.0.number came.rows rows_left.more items all came.each
          (subst (λ (rs : List RowTexts). AreRowItems start.0.moment start.0.caller start.0.number rs all) rows_left.parts
          each)

      -- no row is left
      all_came : (last : Rows × Reader R) (rest : ℕ) → RowsEnd remaining place last rest → (all ≡ items) × (rest ≡ 0)
      all_came last rest ends =
          let none = rows-end remaining place.1 last.1 ends.fields default_config so_far.0 came.config so_far.1
          ends.at_end in
          let no_row = none_after (reader_state place.1) so_far.0 rows_left.more none rows_left.after in
          let no_item = no_items start.0.moment start.0.caller (start.0.number + length items) items_left.more
          (subst (λ rs. AreRowItems start.0.moment start.0.caller (start.0.number + length items) rs items_left.more)
          no_row items_left.after) in
          (items_left.parts ∙ ap (λ l. items ++ l) no_item ∙ append-nil items, ends.none_left)

  pub rows_ahead : {start : Rows × Reader R} {all_rows : List RowTexts} (after : HasLeft remaining start.1 all_rows)
      (all : List Item) → AreRowItems start.0.moment start.0.caller start.0.number all_rows all
      → AreAhead (RowsCame remaining) (RowsEnd remaining) start all 0
  rows_ahead after all each = record {
    first = λ place items came. let left = items_left after came all each in (left.more, left.parts);
    whole = λ place last items rest came ends. all_came after came all each last rest ends;
  }

-- ---- what an import of them comes to

-- the rows that were answered
pub record AnsweredRows {R : Type 0} (remaining : R → Option (List ℕ)) (start : Rows × Reader R) (replies : ℕ) : Type 0
  where
    pub place : Rows × Reader R
    pub items : List Item
    pub came : RowsCame remaining start place items
    pub counted : length items ≡ replies

-- the record on which the reading ended: no text, or one row too many
pub record BadRecord {R : Type 0} (remaining : R → Option (List ℕ)) (start last : Rows × Reader R) (replies : ℕ)
    : Type 0 where
  pub before : AnsweredRows remaining start replies
  pub fields : RowTexts
  pub took : TookRecord remaining before.place.1 last.1 fields
  pub why : ¬ (AllText fields) ⊎ (before.place.0.came ≡ max_rows)

abbrev answered : {R : Type 0} {remaining : R → Option (List ℕ)} {S : Type 0} {g : Ghosts S}
    {start place : Rows × Reader R}
    {old so_far : Option (List ℕ)} {kept mid : Desk S g} {replies : ℕ}
    → ServedItems (RowsCame remaining) (RowsEnd remaining)
    (RowsFail remaining) g start place old so_far kept mid replies
    → AnsweredRows remaining start replies
answered {place = place} served =
    record { place = place; items = served.items; came = served.came; counted = served.counted }

module _ {R : Type 0} {remaining : R → Option (List ℕ)} {S : Type 0} {g : Ghosts S} {start last : Rows × Reader R}
    {old new : Option (List ℕ)} {kept now : Desk S g} {replies : ℕ} where
  pub answered_rows : (end : Finish) → Serves (RowsCame remaining) (RowsEnd remaining) (RowsFail remaining) g start last
      old new kept now replies end → AnsweredRows remaining start replies
  answered_rows (AtEnd rest) serves = answered serves.to.served
  answered_rows (Ended end) serves =
      elim serves.to [ inl unread ↦ answered unread.served | inr it ↦ answered it.served ]

  pub no_rest_so : (end : Finish) → Serves (RowsCame remaining) (RowsEnd remaining) (RowsFail remaining) g start last
      old new kept now replies end → (rest : ℕ) → end ≡ AtEnd rest → rest ≡ 0
  no_rest_so (AtEnd left) serves rest is = let none = serves.to.ends.none_left in cc
  no_rest_so (Ended end) serves rest is = absurd (cc)

  pub read_fault_so : (end : Finish) → Serves (RowsCame remaining) (RowsEnd remaining) (RowsFail remaining) g start last
      old new kept now replies end → end ≡ Ended ReadFault
      → (last.0.reader_failed ≡ true) ⊎ BadRecord remaining start last replies
  read_fault_so end serves is =
      elim (subst (Serves (RowsCame remaining) (RowsEnd remaining) (RowsFail remaining) g start last old new kept now
      replies) is serves).to [
        | inl unread ↦ elim unread.fails [
          | inl why ↦ elim why [
            | inl failed ↦ inl failed
            | inr no_text ↦ inr (record {
              before = answered unread.served;
              fields = no_text.0;
              took = no_text.1;
              why = inl no_text.2;
            })
          ]
          | inr many ↦ inr (record {
            before = answered unread.served;
            fields = many.2.0;
            took = many.2.1;
            why = inr many.1;
          })
        ]
        | inr it ↦ absurd it.leaves
      ]
