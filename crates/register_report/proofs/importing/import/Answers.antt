use Rattle.std.proofs.Common.{◌∙◌, List, ℕ, Option, ap, inl, inr, subst}
use Rattle.register_desk.specs.declared.outcome.Finish.TheVariants.{Ended}
use Rattle.register_desk.specs.{declared.end.End.TheVariants.Memory, Lives.DeskLives}
use Rattle.register_desk.proofs.Serving.{leaves_from}
use Rattle.register_report.proofs.Retold.{counts_retold, desk_retold, lives_retold, table_of, table_retold}
use Rattle.register_report.proofs.Retold.{writer_retold}
use Rattle.register_report.proofs.importing.import.Goals as goal

pub returns-clause-table : goal.returns-clause-table
returns-clause-table g c bytes known =
    table_of (ap (λ w. w.inner) c.reset_turn_counts-2.ensures)
    (c.import_table-outcome.ensures.table bytes (ap (λ r. g.R.Read.remaining r.inner) c.reset_turn_counts.ensures
    ∙ known))

pub returns-clause-lives : goal.returns-clause-lives
returns-clause-lives g c h stands clean =
    let outcome = c.import_table-outcome in
    subst (λ (old : Option (List ℕ)). DeskLives g.S.Store h outcome.result.end outcome.result.replies old
    (g.W.Write.contents outcome.new.writer.inner) c.args.desk.now outcome.new.desk)
    (ap (λ w. g.W.Write.contents w.inner) c.reset_turn_counts-2.ensures) (outcome.ensures.lives h stands clean)

pub returns-clause-ends : goal.returns-clause-ends
returns-clause-ends g c = record {
  counts = c.import_table-outcome.ensures.counts;
  cause = λ is. elim (c.import_table-outcome.ensures.cause is) [
    | inl failed ↦ inl ((rw c.if-is_unexplained.false at c.is_unexplained.ensures.explained) is failed)
    | inr stops ↦ inr (λ bytes known. stops bytes (ap (λ r. g.R.Read.remaining r.inner) c.reset_turn_counts.ensures
        ∙ known))
  ];
  bad_header = λ is.
      let none = c.import_table-outcome.ensures.bad_header is in
      record {
        desk = none.desk;
        writer = none.writer ∙ ap (λ w. w.inner) c.reset_turn_counts-2.ensures;
        written = none.written;
        replies = none.replies;
      };
}

pub returns-clause-writer : goal.returns-clause-writer
returns-clause-writer g c = leaves_from c.args.writer.now c.reset_turn_counts-2.ensures
    c.import_table-outcome.ensures.writer

-- ---- `csv` ended it since a reader failed, and this one did not

pub returns-then-is_unexplained-clause-table : goal.returns-then-is_unexplained-clause-table
returns-then-is_unexplained-clause-table g c bytes known =
    table_retold (rw c.if-is_unexplained.true at c.is_unexplained.ensures.of_reading)
    (table_of (ap (λ w. w.inner) c.reset_turn_counts-2.ensures)
    (c.import_table-outcome.ensures.table bytes (ap (λ r. g.R.Read.remaining r.inner) c.reset_turn_counts.ensures
    ∙ known)))

pub returns-then-is_unexplained-clause-lives : goal.returns-then-is_unexplained-clause-lives
returns-then-is_unexplained-clause-lives g c h stands clean =
    let outcome = c.import_table-outcome in
    subst (λ (old : Option (List ℕ)). DeskLives g.S.Store h (Ended Memory) outcome.result.replies old
    (g.W.Write.contents outcome.new.writer.inner) c.args.desk.now outcome.new.desk)
    (ap (λ w. g.W.Write.contents w.inner) c.reset_turn_counts-2.ensures)
    (lives_retold (rw c.if-is_unexplained.true at c.is_unexplained.ensures.of_reading)
    (outcome.ensures.lives h stands clean))

pub returns-then-is_unexplained-clause-ends : goal.returns-then-is_unexplained-clause-ends
returns-then-is_unexplained-clause-ends g c = record {
  counts = counts_retold c.import_table-outcome.ensures.counts;
  cause = λ is. absurd cc;
  bad_header = λ is. absurd cc;
}

pub returns-then-is_unexplained-clause-writer : goal.returns-then-is_unexplained-clause-writer
returns-then-is_unexplained-clause-writer g c =
    writer_retold (rw c.if-is_unexplained.true at c.is_unexplained.ensures.of_reading)
    (leaves_from c.args.writer.now c.reset_turn_counts-2.ensures c.import_table-outcome.ensures.writer)

pub returns-then-is_unexplained-clause-desk : goal.returns-then-is_unexplained-clause-desk
returns-then-is_unexplained-clause-desk g c =
    desk_retold (rw c.if-is_unexplained.true at c.is_unexplained.ensures.of_reading)
    c.import_table-outcome.ensures.desk
