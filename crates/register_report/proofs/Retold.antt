-- An import that a fault of a reader ended, told as one that want of memory ended.
use Rattle.std.proofs.Common.{◌≡◌, ◌∙◌, ℕ, List, [], Option, subst}
use Rattle.sqlite_trees.specs.declared.store.Store.{Ghosts}
use Rattle.register_requests.specs.declared.request.Request.{Request}
use Rattle.streams.specs.declared.watched.Watched.{Watched}
use Rattle.register_desk.specs.declared.end.End.TheVariants.{Memory, ReadFault}
use Rattle.register_desk.specs.Run.{LeavesDesk, LeavesWriter, RunsItems}
use Rattle.register_desk.specs.{declared.desk.Desk.Desk, declared.outcome.Finish.Finish}
use Rattle.register_desk.specs.{declared.outcome.Finish.TheVariants.Ended, declared.outcome.Outcome.Outcome}
use Rattle.register_desk.specs.{Lives.DeskLives}
use Rattle.register_desk.proofs.Answering.{over_unread}
use Rattle.register_report.specs.Import.{CountsRows, ImportsTable}

module _ {S : Type 0} {g : Ghosts S} {kept now : Desk S g} where
  runs_retold : {items : List (Option Request)} {rest : List ℕ} {replies : ℕ} {old new : Option (List ℕ)}
      → RunsItems g items rest (Ended ReadFault) replies old new kept now
      → RunsItems g items rest (Ended Memory) replies old new kept now
  runs_retold runs = record {
    agrees = λ h stands clean.
        over_unread g h _ _ Memory _ _ _ _ tt ((runs.agrees h stands clean).whole (λ e. absurd cc));
    leaves = runs.leaves;
    uses = λ is. absurd cc;
    broken = runs.broken;
  }

  pub lives_retold : {h : List Request} {end : Finish} {replies : ℕ} {old new : Option (List ℕ)}
      → end ≡ Ended ReadFault → DeskLives g h end replies old new kept now
      → DeskLives g h (Ended Memory) replies old new kept now
  lives_retold {h} {end} {replies} {old} {new} is some =
      let lives = subst (λ (e : Finish). DeskLives g h e replies old new kept now) is some in
      record {
        items = lives.items;
        rest = lives.rest;
        over = λ other.
            over_unread g h _ _ Memory _ _ _ _ tt ((lives.over (λ header. cc)).whole (λ e. absurd cc));
        leaves = λ whole trees may.
            let left = lives.leaves whole trees may in (
              left.0,
              record {
                in_range = left.1.in_range;
                one_more_is = left.1.one_more_is;
                enough = left.1.enough;
              },
              left.2,
              left.3,
              left.4,
            );
      }

  pub desk_retold : {end : Finish} → end ≡ Ended ReadFault → LeavesDesk kept now end
      → LeavesDesk kept now (Ended Memory)
  desk_retold is leaves = record {
    whole = λ whole other. leaves.whole whole (λ store. cc);
    store = λ store. absurd cc;
    broken = leaves.broken;
    was_broken = λ broken. absurd cc;
  }

  -- a writer whose turns are counted from 0 again
  pub table_of : {W : Type 0} {contents : W → Option (List ℕ)} {outcome : Outcome} {begun old new : Watched W}
      {moment : ℕ} {caller : List ℕ} {first : ℕ} {bytes : List ℕ} → begun.inner ≡ old.inner
      → ImportsTable g contents moment caller first bytes outcome begun new kept now
      → ImportsTable g contents moment caller first bytes outcome old new kept now
  table_of {contents = contents} {outcome = outcome} {new = new} same table = record {
    runs = λ items has. subst (λ w. RunsItems g items [] outcome.end outcome.replies (contents w)
        (contents new.inner) kept now) same (table.runs items has);
    texts = table.texts;
    without = λ none.
        let it = table.without none in (
          record {
            desk = it.0.desk;
            writer = it.0.writer ∙ same;
            written = it.0.written;
            replies = it.0.replies;
          },
          it.1,
        );
    bad_header = table.bad_header;
  }

  pub table_retold : {W : Type 0} {contents : W → Option (List ℕ)} {outcome : Outcome} {old new : Watched W}
      {moment : ℕ} {caller : List ℕ} {first : ℕ} {bytes : List ℕ} → outcome.end ≡ Ended ReadFault
      → ImportsTable g contents moment caller first bytes outcome old new kept now
      → ImportsTable g contents moment caller first bytes (record outcome { end = Ended Memory }) old new kept now
  table_retold {contents = contents} {outcome = outcome} {old = old} {new = new} is table = record {
    runs = λ items has. runs_retold (subst (λ (e : Finish). RunsItems g items [] e outcome.replies
        (contents old.inner) (contents new.inner) kept now) is (table.runs items has));
    texts = table.texts;
    without = λ none.
        let done = (table.without none).0 in (
          record { desk = done.desk; writer = done.writer; written = done.written; replies = done.replies },
          tt,
        );
    bad_header = λ header begins. absurd cc;
  }

pub writer_retold : {W : Type 0} {contents : W → Option (List ℕ)} {outcome : Outcome} {old new : Watched W}
    → outcome.end ≡ Ended ReadFault → LeavesWriter contents old new outcome
    → LeavesWriter contents old new (record outcome { end = Ended Memory })
writer_retold is leaves = record {
  wrote = leaves.wrote;
  flushed = λ other. leaves.flushed (λ fault. absurd cc);
  fault = λ fault. absurd cc;
  bounded = leaves.bounded;
}

pub counts_retold : {outcome : Outcome} → CountsRows outcome → CountsRows (record outcome { end = Ended Memory })
counts_retold counts = record {
  limit = counts.limit;
  uncounted = counts.uncounted;
  no_rest = λ rest at_end. absurd cc;
}
