use Rattle.std.proofs.Common.{◌≡◌, ◌∙◌, ℕ, List, [], ap, arith, inl, inr, refl, rules, subst, sym}
use Rattle.std.specs.Prelude as Std
use Rattle.csv.specs.Reading.{default_config, reader_config}
use Rattle.register_desk.specs.{declared.end.End.End, declared.end.End.TheVariants.ReadFault}
use Rattle.register_desk.specs.{declared.outcome.Finish.TheVariants.Ended, declared.outcome.Outcome.Outcome}
use Rattle.register_report.specs.ImportRows.{AreRowItems, AreTexts}
use Rattle.register_report.specs.{Import.StopsAtRecord, declared.importing.Rows.Rows, Within.TableRows.LacksHeader}
use Rattle.register_desk.proofs.Serving.{clean_so, lives_so, no_header_so, runs_so, wrote_begin}
use Rattle.register_report.proofs.RowsLemmas.{begins_so, no_header, no_header_ends, no_header_leaves, no_header_lives}
use Rattle.register_report.proofs.RowsLemmas.{no_header_runs, no_header_sound, reads_input, rows_after, stops_first}
use Rattle.register_report.proofs.RowsLemmas.{stops_next}
use Rattle.register_report.proofs.RowsCut.{answered_rows, no_rest_so, read_fault_so, rows_ahead, rows_none, texts_so}
use Rattle.register_report.proofs.importing.import_table.Goals as goal

-- ---- after the header row

pub serve_items-requires-clause-begins : goal.serve_items-requires-clause-begins
serve_items-requires-clause-begins g c =
    let begun : reader_config c.from_reader-table.result ≡ default_config = search rules in
    rows_none (c.read_header.new.self, c.read_header.new.table) (c.in-Ok.ensures.on.config ∙ begun)
    (ap (λ (r : Rows). r.came) c.in-Ok.ensures.kept ∙ c.requires.came)

pub returns-in-Ok-clause-table : goal.returns-in-Ok-clause-table
returns-in-Ok-clause-table g c bytes known =
    let reads = reads_input g.R.Read.remaining c.from_reader-table.result c.args.reader bytes (search rules)
    c.from_reader-table.ensures.state c.from_reader-table.ensures.source known in
    let serves = c.serve_items.ensures.serves in
    record {
      runs = λ items has.
          let after = rows_after reads c.read_header.new.table has.rows c.in-Ok.ensures.reads has.has in
          let each = subst (λ (r : Rows). AreRowItems r.moment r.caller r.number has.rows items)
          (sym c.in-Ok.ensures.kept) has.each in
          runs_so [] (rows_ahead after items each) c.serve_items.result.end c.serve_items.ensures.desk serves;
      texts = λ rows has.
          let after = rows_after reads c.read_header.new.table rows c.in-Ok.ensures.reads has in
          let it = answered_rows c.serve_items.result.end serves in
          subst (λ (n : ℕ). AreTexts (Std.take n rows)) it.counted (texts_so after it.came);
      without = λ none. absurd (none (begins_so reads c.read_header.new.table c.in-Ok.ensures.reads));
      bad_header = λ is begins. no_header_so c.serve_items.result.end serves is;
    }

pub returns-in-Ok-clause-lives : goal.returns-in-Ok-clause-lives
returns-in-Ok-clause-lives g c h stands clean =
    lives_so h stands clean c.serve_items.result.end c.serve_items.ensures.desk c.serve_items.ensures.serves

pub returns-in-Ok-clause-counts : goal.returns-in-Ok-clause-counts
returns-in-Ok-clause-counts g c =
    let it = answered_rows c.serve_items.result.end c.serve_items.ensures.serves in
    record {
      limit = omega (arith, it.counted, it.came.came, it.came.within);
      uncounted = c.serve_items.ensures.uncounted;
      no_rest = no_rest_so c.serve_items.result.end c.serve_items.ensures.serves;
    }

pub returns-in-Ok-clause-cause : goal.returns-in-Ok-clause-cause
returns-in-Ok-clause-cause g c is =
    let reads = λ (bytes : List ℕ) (known : g.R.Read.remaining c.args.reader ≡ Std.Some bytes).
    reads_input g.R.Read.remaining c.from_reader-table.result c.args.reader bytes (search rules)
    c.from_reader-table.ensures.state c.from_reader-table.ensures.source known in
    let begun : c.read_header.new.self.came ≡ 0 =
    ap (λ (r : Rows). r.came) c.in-Ok.ensures.kept ∙ c.requires.came in
    elim (read_fault_so c.serve_items.result.end c.serve_items.ensures.serves is) [
      | inl failed ↦ inl failed
      | inr it ↦
          let rows = it.before in
          inr (λ bytes known. stops_next (reads bytes known) (c.serve_items.new.source, c.serve_items.new.input)
          c.in-Ok.ensures.reads rows.came it.fields it.took rows.counted (elim it.why [
            | inl no_text ↦ inl no_text
            | inr full ↦ inr (omega (arith, full, begun, rows.counted, rows.came.came))
          ]))
    ]

pub returns-in-Ok-clause-clean : goal.returns-in-Ok-clause-clean
returns-in-Ok-clause-clean g c clean = clean_so c.serve_items.result.end c.serve_items.ensures.serves clean

pub returns-in-Ok-clause-bad_header : goal.returns-in-Ok-clause-bad_header
returns-in-Ok-clause-bad_header g c is =
    absurd (no_header_so c.serve_items.result.end c.serve_items.ensures.serves is)

-- ---- no header row was read

pub returns-clause-table : goal.returns-clause-table
returns-clause-table g c bytes known =
    let reads = reads_input g.R.Read.remaining c.from_reader-table.result c.args.reader bytes (search rules)
    c.from_reader-table.ensures.state c.from_reader-table.ensures.source known in
    rw c.ended_without_bytes.ensures (record {
      runs = λ items has. no_header_runs reads c.read_header.new.table g.S.Store c.args.desk.now
          (g.W.Write.contents c.args.writer.now.inner) c.read_header.new.self.reader_failed c.in-Err.end
          c.in-Err.ensures.end has.rows has.has items;
      texts = λ rows has. tt;
      without = λ none. (
        record { desk = refl; writer = refl; written = refl; replies = refl },
        no_header_ends g.R.Read.remaining c.from_reader-table.result
            c.read_header.new.table c.read_header.new.self.reader_failed c.in-Err.end c.in-Err.ensures.end,
      );
      bad_header = no_header reads c.read_header.new.table c.read_header.new.self.reader_failed c.in-Err.end
          c.in-Err.ensures.end;
    })

pub returns-clause-lives : goal.returns-clause-lives
returns-clause-lives g c h stands clean =
    rw c.ended_without_bytes.ensures (no_header_lives g.S.Store c.args.desk.now g.R.Read.remaining
    c.from_reader-table.result c.read_header.new.table c.read_header.new.self.reader_failed h stands clean
    (g.W.Write.contents c.args.writer.now.inner) c.in-Err.end c.in-Err.ensures.end)

pub returns-clause-counts : goal.returns-clause-counts
returns-clause-counts g c =
    rw c.ended_without_bytes.ensures
    (record { limit = omega arith; uncounted = refl; no_rest = λ rest is. absurd cc })

pub returns-clause-cause : goal.returns-clause-cause
returns-clause-cause g c is =
    let ended : Ended c.in-Err.end ≡ Ended ReadFault =
    sym (ap (λ (o : Outcome). o.end) c.ended_without_bytes.ensures) ∙ is in
    let same : c.in-Err.end ≡ ReadFault = cc in
    let none = ap (λ (o : Outcome). o.replies) c.ended_without_bytes.ensures in
    elim (subst (λ (e : End). LacksHeader g.R.Read.remaining c.from_reader-table.result c.read_header.new.table
    c.read_header.new.self.reader_failed e) same c.in-Err.ensures.end) [
      | inl failed ↦ inl failed
      | inr no_text ↦ inr (λ bytes known.
          let reads = reads_input g.R.Read.remaining c.from_reader-table.result c.args.reader bytes (search rules)
          c.from_reader-table.ensures.state c.from_reader-table.ensures.source known in
          subst (StopsAtRecord bytes) (sym none)
          (stops_first reads c.read_header.new.table no_text.0 no_text.1 no_text.2))
    ]

pub returns-clause-bad_header : goal.returns-clause-bad_header
returns-clause-bad_header g c is = record {
  desk = refl;
  writer = refl;
  written = ap (λ (o : Outcome). o.written) c.ended_without_bytes.ensures;
  replies = ap (λ (o : Outcome). o.replies) c.ended_without_bytes.ensures;
}

pub returns-clause-writer : goal.returns-clause-writer
returns-clause-writer g c =
    rw c.ended_without_bytes.ensures (record {
      wrote = wrote_begin (g.W.Write.contents c.args.writer.now.inner);
      flushed = λ sound. inr (refl, refl);
      fault = λ is. absurd (no_header_sound g.R.Read.remaining c.from_reader-table.result
          c.read_header.new.table c.read_header.new.self.reader_failed c.in-Err.end c.in-Err.ensures.end is);
      bounded = omega (arith, c.requires.idles);
    })

pub returns-clause-desk : goal.returns-clause-desk
returns-clause-desk g c =
    rw c.ended_without_bytes.ensures
    (no_header_leaves g.S.Store c.args.desk.now g.R.Read.remaining c.from_reader-table.result
    c.read_header.new.table c.read_header.new.self.reader_failed c.in-Err.end c.in-Err.ensures.end)
