-- What was written of a table, beside the table of all the rows that are to be given.
use Rattle.std.proofs.Common.{◌≡◌, ◌≢◌, ℕ, List, [], ◌∷◌, ◌++◌, length, drop, Bool, true, false, Option, None, Some}
use Rattle.std.proofs.Common.{Result, Ok, Err, OnOk, refl, sym, ap, subst, ◌∙◌, append_assoc}
use Rattle.std.proofs.lemmas.List.{append-nil, take-append-drop}
use Rattle.std.specs.{Io.KnownBytes.Appends, Prelude.IsErrAnd}
use Rattle.sqlite_trees.specs.declared.store.Store.{Ghosts}
use Rattle.streams.specs.declared.watched.Watched.{Watched}
use Rattle.key_rows.specs.{declared.key_row.KeyRow.KeyRow, DueRows.is_due}
use Rattle.key_rows.proofs.DueRows.{first_begin, one_list}
use Rattle.register_requests.specs.declared.request.Request.{Request}
use Rattle.register_desk.specs.KeyRows.{AreAll, HaveGiven, all_rows, until_of}
use Rattle.register_desk.specs.{declared.desk.Desk.Desk, declared.end.End.End, declared.end.End.TheVariants.WriteFault}
use Rattle.register_desk.specs.{declared.rows.KeyRows.KeyRows, declared.outcome.Finish.Finish, Desk.ChangesNothing}
use Rattle.register_desk.specs.Desk.{IsClean, IsWhole}
use Rattle.register_desk.specs.{Register.StandsFor, Run.IsPrefixOf}
use Rattle.register_report.specs.declared.key_table.KeyTable.TheVariants.{Export}
use Rattle.register_report.specs.Within.KeyTable.{count_in, foot_text, head_text, lines_text, row_text, table_text}
use Rattle.register_report.specs.Within.TextWriter.{AreUpTo, IsExport, Puts, PutsAll, PutsTable, TextOf, finish_of}
use Rattle.register_report.specs.Within.TextWriter.{text_up_to}
use Rattle.register_report.specs.{declared.key_table.KeyTable.KeyTable, TextWriter.WritesText}
use Rattle.register_desk.proofs.Readings.{stands_still}
use Rattle.register_report.proofs.TextLemmas.{prefix_of_first, puts_nothing}

-- ---- rows

-- the first rows begin all of them
record Begins (is_all : Bool) (given rows : List KeyRow) : Type 0 where
  rest : List KeyRow
  is : rows ≡ given ++ rest
  same : is_all ≡ true → given ≡ rows

begins_whole : {is_all : Bool} (given rows : List KeyRow) → given ≡ rows → Begins is_all given rows
begins_whole given rows same = record {
  rest = [];
  is = sym same ∙ sym (append-nil given);
  same = λ is. same;
}

begins : (is_all : Bool) (until : Option ℕ) (all given rows : List KeyRow)
    → AreUpTo is_all until all given → AreAll until all rows → Begins is_all given rows
begins false None all given rows first whole = record {
  rest = drop (length given) all;
  is =
      whole ∙ sym (take-append-drop (length given) all)
      ∙ ap (λ prefix. prefix ++ drop (length given) all) (sym first);
  same = λ is. absurd cc;
}
begins false (Some until) all given rows first whole =
    let it = first_begin all until given rows first whole in
    record { rest = it.0; is = it.1; same = λ is. absurd cc }
begins true None all given rows first whole = begins_whole given rows (first ∙ sym whole)
begins true (Some until) all given rows first whole =
    begins_whole given rows (one_list (is_due until) all given rows first whole)

-- ---- texts

lines_then : (table : KeyTable) (given rest : List KeyRow)
    → lines_text table (given ++ rest) ≡ lines_text table given ++ lines_text table rest
lines_then table [] rest = refl
lines_then table (r ∷ given) rest =
    ap (λ text. row_text table r ++ text) (lines_then table given rest)
    ∙ sym (append_assoc (row_text table r) (lines_text table given) (lines_text table rest))

text_then : (table : KeyTable) (given rest : List KeyRow)
    → table_text table (given ++ rest) ≡ (head_text table ++ lines_text table given)
    ++ (lines_text table rest ++ foot_text table (count_in table (given ++ rest)))
text_then table given rest =
    let foot = foot_text table (count_in table (given ++ rest)) in
    ap (λ lines. head_text table ++ (lines ++ foot)) (lines_then table given rest)
    ∙ ap (λ text. head_text table ++ text)
    (append_assoc (lines_text table given) (lines_text table rest) foot)
    ∙ sym (append_assoc (head_text table) (lines_text table given) (lines_text table rest ++ foot))

prefix_so : (is_all : Bool) (table : KeyTable) (given rows : List KeyRow) (bytes : List ℕ)
    → Begins is_all given rows → IsPrefixOf bytes (text_up_to is_all table given)
    → IsPrefixOf bytes (table_text table rows)
prefix_so true table given rows bytes it prefix =
    subst (λ rs. IsPrefixOf bytes (table_text table rs)) (it.same refl) prefix
prefix_so false table given rows bytes it prefix =
    subst (IsPrefixOf bytes) (sym (ap (table_text table) it.is ∙ text_then table given it.rest))
    (prefix_of_first bytes (head_text table ++ lines_text table given)
    (lines_text table it.rest ++ foot_text table (count_in table (given ++ it.rest))) prefix)

whole_so : (is_all : Bool) (table : KeyTable) (given rows : List KeyRow) (bytes : List ℕ)
    → (r : Result (Unit {0}) End) → Begins is_all given rows → OnOk r (is_all ≡ true)
    → OnOk r (bytes ≡ text_up_to is_all table given) → OnOk r (bytes ≡ table_text table rows)
whole_so is_all table given rows bytes (Err e) it all whole = tt
whole_so is_all table given rows bytes (Ok x) it all whole =
    whole ∙ ap (λ b. text_up_to b table given) all ∙ ap (table_text table) (it.same all)

-- ---- a whole call

module _ {W S : Type 0} {contents : W → Option (List ℕ)} {g : Ghosts S} {old new : Watched W}
    {before after : ℕ} {table : KeyTable} {Text : TextOf} where
  -- The rows were lent the desk, of which nothing had been changed, and the text is that of the table of all the rows.
  pub puts_all : (desk_old desk_new : Desk S g) {start next : KeyRows S g}
      → {r : Result (Unit {0}) End}
      → PutsTable contents g old new before after start next table r
      → ChangesNothing g desk_old start.desk.now → start.desk.now.is_broken ≡ desk_old.is_broken
      → ChangesNothing g start.desk.now next.desk.now → next.desk.now ≡ desk_new
      → ((all : List KeyRow) → HaveGiven start all []) → IsWhole desk_old
      → ((h : List Request) (text : List ℕ) → StandsFor g desk_old h → IsClean g start.desk.now → Text h text
      → (rows : List KeyRow) × AreAll (until_of start) (all_rows h) rows × (table_text table rows ≡ text))
      → PutsAll contents g old new before after desk_old desk_new Text r
  puts_all desk_old desk_new {start} {next} {r} it nothing mark reads back none lent_whole full = record {
    bytes = it.text.bytes;
    puts = it.text.puts;
    prefix = λ h text stands clean is.
        let all = so h text stands clean is in
        subst (IsPrefixOf it.text.bytes) all.2
        (prefix_so it.is_all table it.given all.0 it.text.bytes all.1 it.text.prefix);
    whole = λ h text stands clean is.
        let all = so h text stands clean is in
        subst (λ t. OnOk r (it.text.bytes ≡ t)) all.2
        (whole_so it.is_all table it.given all.0 it.text.bytes r all.1 it.whole it.text.whole);
  }
    where
      so : (h : List Request) (text : List ℕ) → StandsFor g desk_old h → IsClean g desk_new → Text h text
          → (rows : List KeyRow) × Begins it.is_all it.given rows × (table_text table rows ≡ text)
      so h text stands clean is =
          let clean_next = subst (λ (d : Desk S g). IsClean g d) (sym back) clean in
          let stands_lent = stands_still g desk_old start.desk.now nothing h stands in
          let first = it.are h stands_lent (mark ∙ lent_whole) clean_next none in
          let all = full h text stands (reads.clean clean_next) is in
          (all.0, begins it.is_all (until_of start) (all_rows h) it.given all.0 first all.1, all.2)

-- no rows were lent
pub puts_none : {W S : Type 0} {contents : W → Option (List ℕ)} {g : Ghosts S} {writer : Watched W}
    → {count : ℕ} {desk_old desk_new : Desk S g} {Text : TextOf} (r : Result (Unit {0}) End)
    → {e : End} → e ≢ WriteFault → IsErrAnd r (λ x. x ≡ e)
    → PutsAll contents g writer writer count count desk_old desk_new Text r
puts_none (Ok x) other failed = absurd failed
puts_none {contents = contents} {writer = writer} {count = count} (Err e) {e = f} other is = record {
  bytes = [];
  puts = puts_nothing contents writer count (Err e) no_fault_of;
  prefix = λ h text stands clean text_is. (text, refl);
  whole = λ h text stands clean text_is. tt;
}
  where
    no_fault_of : ◌≢◌ {A = Result (Unit {0}) End} (Err e) (Err WriteFault)
    no_fault_of failed = other (let same : e ≡ WriteFault = cc in sym is ∙ same)

-- ---- what is told of it

module _ {W : Type 0} {contents : W → Option (List ℕ)} {old new : Watched W}
    {before after : ℕ} where
  writes_text : {text bytes : List ℕ} (r : Result (Unit {0}) End)
      → Puts contents old new before after bytes r → IsPrefixOf bytes text → OnOk r (bytes ≡ text)
      → WritesText text (finish_of r) (contents old.inner) (contents new.inner)
  writes_text (Ok x) puts prefix whole =
      subst (Appends (contents old.inner) (contents new.inner)) whole puts.written
  writes_text {text} {bytes} (Err e) puts prefix whole = (bytes, prefix, puts.written)

module _ {W S : Type 0} {contents : W → Option (List ℕ)} {g : Ghosts S} {begun new : Watched W}
    {after : ℕ} {desk_old desk_new : Desk S g} {Text : TextOf} {r : Result (Unit {0}) End} where
  -- what a call agrees with, whose writer began anew
  pub agrees : {old : W} {end : Finish}
      → PutsAll contents g begun new 0 after desk_old desk_new Text r → begun.inner ≡ old
      → end ≡ finish_of r → {h : List Request} (text : List ℕ) → StandsFor g desk_old h → IsClean g desk_new
      → Text h text
      → WritesText text end (contents old) (contents new.inner)
  agrees {old} {end} it inner finish {h} text stands clean is =
      let told = writes_text r it.puts (it.prefix h text stands clean is)
      (it.whole h text stands clean is) in
      let ended = subst (λ f. WritesText text f (contents begun.inner) (contents new.inner))
      (sym finish) told in
      subst (λ w. WritesText text end (contents w) (contents new.inner)) inner ended

-- ---- the two texts

-- that of all rows
pub export_rows : {S : Type 0} {g : Ghosts S} (start : KeyRows S g) → until_of start ≡ None
    → (h : List Request) (text : List ℕ) → IsExport h text
    → (rows : List KeyRow) × AreAll (until_of start) (all_rows h) rows × (table_text Export rows ≡ text)
export_rows start until h text is = (
  all_rows h,
  subst (λ u. AreAll u (all_rows h) (all_rows h)) (sym until) refl,
  ap (λ lines. head_text Export ++ lines) (append-nil (lines_text Export (all_rows h))) ∙ sym is,
)
