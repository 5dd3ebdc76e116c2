-- Rows that were read one after the other are the first of the input's, and their items the first
-- of its items.
use Rattle.std.proofs.Common.{◌≡◌, ℕ, suc, ◌+◌, List, [], ◌∷◌, ◌++◌, length, Option, None, Some, refl, sym, ap, subst}
use Rattle.std.proofs.Common.{◌∙◌, arith, ◌≢◌, ◌⊎◌, Bool, true, false, inl}
use Rattle.csv.specs.Reading.{AreRecords, Reached, default_config, reader_state, source_of, NextIs, ReadRecord}
use Rattle.csv.specs.Reading.{ReadsNext, TookRecord, pending_of, reader_config, strip_bom}
use Rattle.csv.specs.{Machine.next_record, Machine.Read, declared.parser.Config.Config, declared.parser.State.State}
use Rattle.csv.specs.{declared.reader.Reader.Reader, Records.AllText}
use Rattle.moment_core.proofs.Texts.{one_moment, text_length}
use Rattle.register_requests.specs.{declared.request.Request.Request, Request.IsDate, Request.IsRequest}
use Rattle.register_requests.proofs.{Commands.one_registration, FieldTexts.key_types, FieldTexts.one_text}
use Rattle.register_report.specs.ImportRows.{AreRowItems, IsRowItem, IsRowOf, Item, RowTexts, date_field}
use Rattle.register_report.specs.ImportRows.{BeginsWithHeader, HasRows, header, max_rows}
use Rattle.register_report.specs.Import.{EndsWithoutHeader, StopsAtRecord}
use Rattle.register_report.specs.{declared.importing.Rows.Rows, TableRows.RowsCame, Within.TableRows.LacksHeader}
use Rattle.std.specs.Prelude as Std
use Rattle.csv.specs.declared.parser.State.TheVariants as states
use Rattle.csv.proofs.ReadFacts.{rows-end, rows-more}
use Rattle.sqlite_trees.specs.declared.store.Store.{Ghosts}
use Rattle.register_desk.specs.declared.end.End.TheVariants.{Memory, Store, Broken, ReadFault, WriteFault, BadHeader}
use Rattle.register_desk.specs.{declared.end.End.End, declared.outcome.Finish.TheVariants.Ended, declared.desk.Desk.Desk}
use Rattle.register_desk.specs.Run.{LeavesDesk, RunsItems}
use Rattle.register_desk.specs.{Desk.IsClean, Register.StandsFor, Lives.DeskLives}
use Rattle.register_desk.proofs.Answering.{answered_none, prefix_so}
use Rattle.register_desk.proofs.Serving.{nothing_leaves, nothing_lives, nothing_runs}
use Rattle.register_desk.proofs.Lived.{leaves_going, still, lived_alone}

-- ---- no row asks for two registrations

one_date : (a b : Option ℕ) → IsDate a → IsDate b → date_field a ≡ date_field b → a ≡ b
one_date None None p q e = refl
one_date None (Some b) p q e = absurd (let len = text_length [] b e in cc)
one_date (Some a) None p q e = absurd (let len = text_length [] a (sym e) in cc)
one_date (Some a) (Some b) p q e = ap (λ (m : ℕ). Some m) (one_moment a b p q e)

pub one_row : (moment : ℕ) (caller : List ℕ) (number : ℕ) (fields : RowTexts) (p q : Request)
    → IsRowOf moment caller number fields p → IsRowOf moment caller number fields q → p ≡ q
one_row moment caller number fields p q a b =
    let same = sym a.fields_are ∙ b.fields_are in
    let ra = (subst IsRequest a.is a.in_range).command in
    let rb = (subst IsRequest b.is b.in_range).command in
    let kind = one_text key_types a.given.kind b.given.kind cc in
    let owner : a.given.owner ≡ b.given.owner = cc in
    let activation = one_date a.given.activation b.given.activation ra.1 rb.1 cc in
    let protect_stop = one_date a.given.protect_stop b.given.protect_stop ra.2 rb.2 cc in
    let deactivation = one_date a.given.deactivation b.given.deactivation ra.3 rb.3 cc in
    let purpose : a.given.purpose ≡ b.given.purpose = cc in
    let given = one_registration a.given b.given kind owner activation protect_stop deactivation purpose in
    cc (a.is, b.is, given)

pub one_item : (moment : ℕ) (caller : List ℕ) (number : ℕ) (fields : RowTexts) (a b : Item)
    → IsRowItem moment caller number fields a → IsRowItem moment caller number fields b → a ≡ b
one_item moment caller number fields None None p q = refl
one_item moment caller number fields None (Some b) p q = absurd (p b q)
one_item moment caller number fields (Some a) None p q = absurd (q a p)
one_item moment caller number fields (Some a) (Some b) p q =
    ap (λ (r : Request). Some r) (one_row moment caller number fields a b p q)

-- ---- the rows that were read are the first

pub record RowsSplit (cfg : Config) (all rows : List RowTexts) (s : State) (left : List ℕ) : Type 0 where
  pub more : List RowTexts
  pub parts : all ≡ rows ++ more
  pub after : AreRecords cfg s left more

pub some_same : {A : Type 0} (a b : A) → Some a ≡ Some b → a ≡ b
some_same a b e = cc

pub rows_split : (cfg : Config) (s s2 : State) (xs left : List ℕ) (rows all : List RowTexts)
    → Reached cfg s xs rows s2 left → AreRecords cfg s xs all → RowsSplit cfg all rows s2 left
unfolding Reached
rows_split cfg s s2 xs left [] all reached are = record {
  more = all;
  parts = refl;
  after = rw (← reached.0, ← reached.1) are;
}
rows_split cfg s s2 xs left (r ∷ rows) [] reached are =
    let none : next_record cfg s [] [] xs ≡ None = rw (are.2.0, are.2.1) are.3 in
    let both : Some reached.0 ≡ None = sym reached.1 ∙ none in absurd cc
rows_split cfg s s2 xs left (r ∷ rows) (t ∷ all) reached are =
    let step = are.2 in
    let same : reached.0 ≡ step.0 = some_same reached.0 step.0 (sym reached.1 ∙ step.1) in
    let rest : AreRecords cfg reached.0.1 reached.0.2 all =
    subst (λ (p : Read). AreRecords cfg p.1 p.2 all) (sym same) (are.0, are.1, step.3, are.3) in
    let split = rows_split cfg reached.0.1 s2 reached.0.2 left rows all reached.3 rest in
    let head : t ≡ r = step.2 ∙ ap (λ (p : Read). p.0) (sym same) ∙ sym reached.2 in
    let prefix = ap (λ (f : RowTexts). f ∷ all) head in
    let after = ap (λ (l : List RowTexts). r ∷ l) split.parts in
    record { more = split.more; parts = prefix ∙ after; after = split.after }

-- no record after the last
pub none_after : (s : State) (bytes : List ℕ) (rows : List RowTexts)
    → next_record default_config s [] [] bytes ≡ None → AreRecords default_config s bytes rows
    → rows ≡ []
unfolding Reached
none_after s bytes [] none are = refl
none_after s bytes (row ∷ rows) none are = absurd (let both = sym none ∙ are.2.1 in cc)

-- the rows that are left to a reader, where its bytes are known
pub record HasLeft {R : Type 0} (remaining : R → Option (List ℕ)) (reader : Reader R)
    (rows : List RowTexts) : Type 0 where
  pub bytes : List ℕ
  pub source : source_of remaining reader ≡ Some bytes
  pub are : AreRecords default_config (reader_state reader) bytes rows

-- ---- items

pub items_more : (moment : ℕ) (caller : List ℕ) (number : ℕ) (rows : List RowTexts) (items : List Item)
    → (row : RowTexts) (item : Item)
    → AreRowItems moment caller number rows items
    → IsRowItem moment caller (number + length items) row item
    → AreRowItems moment caller number (rows ++ row ∷ []) (items ++ item ∷ [])
items_more moment caller number [] [] row item each is =
    (subst (λ (n : ℕ). IsRowItem moment caller n row item) (omega arith) is, tt)
items_more moment caller number (r ∷ rows) (i ∷ items) row item each is = (
  each.0,
  items_more moment caller (number + 1) rows items row item each.1
      (subst (λ (n : ℕ). IsRowItem moment caller n row item) (omega arith) is),
)
items_more moment caller number [] (i ∷ items) row item each is = absurd each
items_more moment caller number (r ∷ rows) [] row item each is = absurd each

pub record ItemsSplit (moment : ℕ) (caller : List ℕ) (number : ℕ) (all items : List Item)
    (rows : List RowTexts) : Type 0 where
  pub more : List Item
  pub parts : all ≡ items ++ more
  pub after : AreRowItems moment caller number rows more

pub items_split : (moment : ℕ) (caller : List ℕ) (number : ℕ) (rows more : List RowTexts)
    → (items all : List Item)
    → AreRowItems moment caller number rows items
    → AreRowItems moment caller number (rows ++ more) all
    → ItemsSplit moment caller (number + length items) all items more
items_split moment caller number [] more [] all a b = record {
  more = all;
  parts = refl;
  after = subst (λ (n : ℕ). AreRowItems moment caller n more all) (omega arith) b;
}
items_split moment caller number (r ∷ rows) more (i ∷ items) [] a b = absurd b
items_split moment caller number (r ∷ rows) more (i ∷ items) (j ∷ all) a b =
    let split = items_split moment caller (number + 1) rows more items all a.1 b.1 in
    record {
      more = split.more;
      parts =
          ap (λ (k : Item). k ∷ all) (one_item moment caller number r j i b.0 a.0)
          ∙ ap (λ (l : List Item). i ∷ l) split.parts;
      after =
          subst (λ (n : ℕ). AreRowItems moment caller n more split.more) (omega arith) split.after;
    }
items_split moment caller number [] more (i ∷ items) all a b = absurd a
items_split moment caller number (r ∷ rows) more [] all a b = absurd a

-- no rows, no items
pub no_items : (moment : ℕ) (caller : List ℕ) (number : ℕ) (items : List Item)
    → AreRowItems moment caller number [] items → items ≡ []
no_items moment caller number [] a = refl
no_items moment caller number (i ∷ items) a = absurd a

-- as many items as rows
pub same_length : (moment : ℕ) (caller : List ℕ) (number : ℕ) (rows : List RowTexts) (items : List Item)
    → AreRowItems moment caller number rows items → length rows ≡ length items
same_length moment caller number [] [] each = refl
same_length moment caller number (r ∷ rows) (i ∷ items) each =
    ap suc (same_length moment caller (number + 1) rows items each.1)
same_length moment caller number [] (i ∷ items) each = absurd each
same_length moment caller number (r ∷ rows) [] each = absurd each

-- ---- The header row, what stands after it, and what an import without it comes to.

pub same_tail : (a b : RowTexts) (xs ys : List RowTexts) → a ∷ xs ≡ b ∷ ys → xs ≡ ys
same_tail a b xs ys e = cc

-- an input that has rows begins with its header row
has_header : (bytes : List ℕ) (rows : List RowTexts) → HasRows bytes rows → BeginsWithHeader bytes
unfolding Reached
has_header bytes rows has =
    let step = has.2 in
    record { state = step.0.1; left = step.0.2; reached = (step.0, step.1, step.2, (refl, refl)) }

-- the reader that an import makes of its input, where the bytes are known
pub record Reads {R : Type 0} (remaining : R → Option (List ℕ)) (reader : Reader R)
    (bytes : List ℕ) : Type 0 where
  pub config : reader_config reader ≡ default_config
  pub source : source_of remaining reader ≡ Some (strip_bom bytes)
  pub start : reader_state reader ≡ states.StartRecord

pub reads_input : {R : Type 0} (remaining : R → Option (List ℕ)) (reader : Reader R) (input : R)
    → (bytes : List ℕ)
    → reader_config reader ≡ default_config → reader_state reader ≡ states.StartRecord
    → source_of remaining reader ≡ Std.option_map strip_bom (remaining input)
    → remaining input ≡ Some bytes → Reads remaining reader bytes
reads_input remaining reader input bytes config start source known = record {
  config = config;
  source = source ∙ ap (Std.option_map strip_bom) known;
  start = start;
}

module _ {R : Type 0} {remaining : R → Option (List ℕ)} {a : Reader R} {bytes : List ℕ}
    (reads : Reads remaining a bytes) (b : Reader R) where
  -- the first record was read
  first_read : (fields : RowTexts) → ReadRecord remaining a b true fields
      → (z : List ℕ) × (source_of remaining b ≡ Some z) × Reached default_config states.StartRecord
      (strip_bom bytes) (fields ∷ []) (reader_state b) z
  unfolding Reached
  first_read fields one =
      rows-more remaining a b fields default_config states.StartRecord (strip_bom bytes)
      (strip_bom bytes) [] reads.config reads.source (sym reads.start, refl) one

  -- the rows after the header row
  pub rows_after : (rows : List RowTexts) → ReadRecord remaining a b true header → HasRows bytes rows
      → HasLeft remaining b rows
  rows_after rows one has =
      let first = first_read header one in
      let split = rows_split default_config states.StartRecord (reader_state b) (strip_bom bytes)
      first.0 (header ∷ []) (header ∷ rows) first.2 has in
      let same : rows ≡ split.more = same_tail header header rows split.more split.parts in
      let are = subst (λ (rs : List RowTexts). AreRecords default_config (reader_state b) first.0 rs)
      (sym same) split.after in
      record { bytes = first.0; source = first.1; are = are }

  pub begins_so : ReadRecord remaining a b true header → BeginsWithHeader bytes
  begins_so one =
      let first = first_read header one in
      record { state = reader_state b; left = first.0; reached = first.2 }

  -- where the first record is not the header row, the input does not begin with it
  not_begun : (found : Bool) (fields : RowTexts) → ReadRecord remaining a b found fields
      → (found ≡ true → fields ≢ header) → BeginsWithHeader bytes → ⊥
  unfolding Reached
  not_begun true fields one other begins =
      let first = first_read fields one in
      let p = begins.reached in
      other refl (first.2.2 ∙ ap (λ (r : Read). r.0) (some_same _ _ (sym first.2.1 ∙ p.1)) ∙ sym p.2)
  not_begun false fields one other begins =
      let none = rows-end remaining a b fields default_config (strip_bom bytes) reads.config
      reads.source one in
      let none_at = subst (λ (s : State). next_record default_config s [] []
      (strip_bom bytes) ≡ None) reads.start none in
      let both = sym none_at ∙ begins.reached.1 in
      absurd cc

  -- one record more, which was taken and perhaps no text
  taken : (a b : State) (y : List ℕ) (fields : RowTexts) (k : Option (List ℕ))
      → ReadsNext default_config a (Some y) k true fields b
      → (z : List ℕ) × Reached default_config a y (fields ∷ []) b z
  unfolding Reached
  taken a b y fields None read = absurd read
  taken a b y fields (Some z) read = by (next_record default_config a [] [] y) refl read
    where
      by : (o : Option Read) → next_record default_config a [] [] y ≡ o → NextIs o true fields b z
          → (z : List ℕ) × Reached default_config a y (fields ∷ []) b z
      by None e is = absurd (let no = is in cc)
      by (Some p) e is = (z, (p, e, is.1, (sym is.2, sym is.3)))

  -- no header row was read of an input
  module _ {S : Type 0} (g : Ghosts S) (kept : Desk S g) (written : Option (List ℕ)) (failed : Bool) where
    pub no_header_runs : (end : End) → LacksHeader remaining a b failed end → (rows : List RowTexts) → HasRows bytes rows
        → (items : List Item) → RunsItems g items [] (Ended end) 0 written written kept kept
    no_header_runs Memory why rows has items = nothing_runs g written kept Memory tt items []
    no_header_runs ReadFault why rows has items = nothing_runs g written kept ReadFault tt items []
    no_header_runs BadHeader why rows has items =
        absurd (not_begun why.0 why.1 why.2 why.3 (has_header bytes rows has))
    no_header_runs Store why rows has items = absurd why
    no_header_runs Broken why rows has items = absurd why
    no_header_runs WriteFault why rows has items = absurd why

  pub no_header : (failed : Bool) (end : End) → LacksHeader remaining a b failed end → Ended end ≡ Ended BadHeader
      → BeginsWithHeader bytes → ⊥
  no_header failed BadHeader why is begins = not_begun why.0 why.1 why.2 why.3 begins
  no_header failed end why is begins = cc

  -- the first record is no text
  pub stops_first : (fields : RowTexts) → TookRecord remaining a b fields → ¬ (AllText fields) → StopsAtRecord bytes 0
  stops_first fields took no_text =
      let it = taken (reader_state a) (reader_state b) (strip_bom bytes) fields (pending_of (remaining b.rdr) b)
      (rw (reads.config, reads.source) at took) in
      record {
        before = [];
        next = fields;
        answered = refl;
        begins = record {
          state = reader_state b;
          left = it.0;
          reached = subst (λ (s : State). Reached default_config s (strip_bom bytes) (fields ∷ [])
              (reader_state b) it.0)
              reads.start it.1;
        };
        why = inl no_text;
      }

-- ---- rows after the header row, and then one that ended the import

reached_then : (s s2 s3 : State) (xs ys zs : List ℕ) (rows more : List RowTexts) → Reached default_config s xs rows s2 ys
    → Reached default_config s2 ys more s3 zs → Reached default_config s xs (rows ++ more) s3 zs
unfolding Reached
reached_then s s2 s3 xs ys zs [] more one two = rw (one.0, one.1) two
reached_then s s2 s3 xs ys zs (row ∷ rows) more one two =
    (one.0, one.1, one.2, reached_then one.0.1 s2 s3 one.0.2 ys zs rows more one.3 two)

module _ {R : Type 0} {remaining : R → Option (List ℕ)} {a : Reader R} {bytes : List ℕ}
    (reads : Reads remaining a bytes) {start place : Rows × Reader R} (last : Rows × Reader R) {items : List Item}
    (one : ReadRecord remaining a start.1 true header) (came : RowsCame remaining start place items) where
  pub stops_next : (fields : RowTexts) → TookRecord remaining place.1 last.1 fields → {replies : ℕ}
      → length items ≡ replies → ¬ (AllText fields) ⊎ (replies ≡ max_rows) → StopsAtRecord bytes replies
  stops_next fields took counted why =
      let first = first_read reads start.1 header one in
      let rows = came.read first.0 first.1 in
      let it = taken reads start.1 (reader_state place.1) (reader_state last.1) rows.0 fields
      (pending_of (remaining last.1.rdr) last.1) (rw (came.config, rows.1) at took) in
      record {
        before = header ∷ came.rows;
        next = fields;
        answered = (refl, same_length start.0.moment start.0.caller start.0.number came.rows items came.each ∙ counted);
        begins = record {
          state = reader_state last.1;
          left = it.0;
          reached = reached_then states.StartRecord (reader_state start.1) (reader_state last.1) (strip_bom bytes)
              first.0 it.0 (header ∷ []) (came.rows ++ fields ∷ []) first.2
              (reached_then (reader_state start.1) (reader_state place.1) (reader_state last.1) first.0 rows.0 it.0
              came.rows (fields ∷ []) rows.2 it.1);
        };
        why = why;
      }

-- ---- no header row was read, of bytes that nobody tells

module _ {R : Type 0} (remaining : R → Option (List ℕ)) (a b : Reader R) (failed : Bool) where
  pub no_header_ends : (end : End) → LacksHeader remaining a b failed end → EndsWithoutHeader (Ended end)
  no_header_ends Memory why = tt
  no_header_ends ReadFault why = tt
  no_header_ends BadHeader why = tt
  no_header_ends Store why = absurd why
  no_header_ends Broken why = absurd why
  no_header_ends WriteFault why = absurd why

  pub no_header_sound : (end : End) → LacksHeader remaining a b failed end → Ended end ≡ Ended WriteFault → ⊥
  no_header_sound WriteFault why is = why
  no_header_sound end why is = cc

module _ {S : Type 0} (g : Ghosts S) (kept : Desk S g) {R : Type 0} (remaining : R → Option (List ℕ)) (a b : Reader R)
    (failed : Bool) where
  pub no_header_lives : (h : List Request) → StandsFor g kept h → IsClean g kept → (w : Option (List ℕ)) (end : End)
      → LacksHeader remaining a b failed end → DeskLives g h (Ended end) 0 w w kept kept
  no_header_lives h stands clean w Memory why = nothing_lives g w kept Memory tt h stands clean
  no_header_lives h stands clean w ReadFault why = nothing_lives g w kept ReadFault tt h stands clean
  no_header_lives h stands clean w BadHeader why =
      let none = prefix_so g [] [] 0 refl [] refl h w w kept kept (answered_none g w kept) stands clean in
      lived_alone g h [] tt 0 kept clean [] (Ended BadHeader) w w kept refl (λ whole. whole) none
      (λ other. absurd (other refl))
  no_header_lives h stands clean w Store why = absurd why
  no_header_lives h stands clean w Broken why = absurd why
  no_header_lives h stands clean w WriteFault why = absurd why

  pub no_header_leaves : (end : End) → LacksHeader remaining a b failed end → LeavesDesk kept kept (Ended end)
  no_header_leaves Memory why = nothing_leaves g None kept Memory tt
  no_header_leaves ReadFault why = nothing_leaves g None kept ReadFault tt
  no_header_leaves BadHeader why =
      leaves_going g kept kept (Ended BadHeader) (λ is. cc) (λ is. cc) (still g kept)
  no_header_leaves Store why = absurd why
  no_header_leaves Broken why = absurd why
  no_header_leaves WriteFault why = absurd why
