-- What an import leaves, beside what a run over the items of its rows does.
use Rattle.std.specs.Prelude.{◌≡◌, ◌⊎◌, ◌≤◌, ℕ, List, [], ◌∷◌, ◌++◌, length, take, Option, Some}
use Rattle.sqlite_trees.specs.declared.store.Store.{Ghosts}
use Rattle.csv.specs.Records.{AllText}
use Rattle.streams.specs.{declared.watched.Watched.Watched, Watched.IsFaulted}
use Rattle.register_desk.specs.declared.end.End.TheVariants.{Memory, Store, Broken, ReadFault, WriteFault, BadHeader}
use Rattle.register_desk.specs.declared.outcome.Finish.TheVariants.{AtEnd, Ended}
use Rattle.register_desk.specs.declared.outcome.Outcome.{Outcome}
use Rattle.register_desk.specs.Run.{RunsItems, max_reads}
use Rattle.register_desk.specs.{declared.outcome.Finish.Finish, declared.desk.Desk.Desk}
use Rattle.register_report.specs.ImportRows.{AreTexts, BeginsWith, BeginsWithHeader, HasRowItems, HasRows, Item}
use Rattle.register_report.specs.ImportRows.{RowTexts, header, max_rows}

-- nothing was registered and nothing written
pub record DoesNothing {S W : Type 0} {g : Ghosts S} (old new : Desk S g)
    (writer_old writer_new : Watched W) (outcome : Outcome) : Type 0 where
  pub desk : new ≡ old
  pub writer : writer_new.inner ≡ writer_old.inner
  pub written : outcome.written ≡ 0
  pub replies : outcome.replies ≡ 0

-- how an import may end whose input does not begin with its header row: its first record may be
-- none that can be read
abbrev pub EndsWithoutHeader : Finish → Type 0
EndsWithoutHeader (AtEnd rest) = ⊥
EndsWithoutHeader (Ended Memory) = Unit {0}
EndsWithoutHeader (Ended Store) = ⊥
EndsWithoutHeader (Ended Broken) = ⊥
EndsWithoutHeader (Ended ReadFault) = Unit {0}
EndsWithoutHeader (Ended WriteFault) = ⊥
EndsWithoutHeader (Ended BadHeader) = Unit {0}

-- A row is answered by no more than its reply line: no byte is counted as read, and none is left.
pub record CountsRows (outcome : Outcome) : Type 0 where
  pub limit : outcome.replies ≤ max_rows
  pub uncounted : outcome.read ≡ 0
  pub no_rest : (rest : ℕ) → outcome.end ≡ AtEnd rest → rest ≡ 0

-- What an import of these bytes does. After the header row it is a run over the items of the rows, and a row that was
-- answered is text. Without the header row nothing is done.
pub record ImportsTable {S W : Type 0} (g : Ghosts S) (contents : W → Option (List ℕ)) (moment : ℕ) (caller : List ℕ)
    (first : ℕ) (bytes : List ℕ) (outcome : Outcome) (old new : Watched W) (kept now : Desk S g) : Type 0 where
  pub runs : (items : List Item) → HasRowItems moment caller first bytes items
      → RunsItems g items [] outcome.end outcome.replies (contents old.inner) (contents new.inner) kept now
  pub texts : (rows : List RowTexts) → HasRows bytes rows → AreTexts (take outcome.replies rows)
  pub without : (BeginsWithHeader bytes → ⊥) → DoesNothing kept now old new outcome × EndsWithoutHeader outcome.end
  pub bad_header : outcome.end ≡ Ended BadHeader → BeginsWithHeader bytes → ⊥

-- these records stand before the next one, where so many rows were answered: the header row and the rows, or none
abbrev pub AreBefore : List RowTexts → ℕ → Type 0
AreBefore [] replies = replies ≡ 0
AreBefore (first ∷ rows) replies = (first ≡ header) × (length rows ≡ replies)

-- Why an import of these bytes ended by 35 whose reader did not: the next record is no text, or a row too many.
pub record StopsAtRecord (bytes : List ℕ) (replies : ℕ) : Type 0 where
  pub before : List RowTexts
  pub next : RowTexts
  pub answered : AreBefore before replies
  pub begins : BeginsWith bytes (before ++ next ∷ [])
  pub why : ¬ (AllText next) ⊎ (replies ≡ max_rows)

-- How an import ends: each row is answered by its reply line alone, and 35 has its cause in the reader, in a record, or
-- in a row too many. By 37 nothing is done.
pub record EndsImporting {S R W : Type 0} {g : Ghosts S} (input : Option (List ℕ)) (reader : Watched R)
    (old new : Watched W) (kept now : Desk S g) (outcome : Outcome) : Type 0 where
  pub counts : CountsRows outcome
  pub cause : outcome.end ≡ Ended ReadFault → IsFaulted reader.failed max_reads reader.turns
      ⊎ ((bytes : List ℕ) → input ≡ Some bytes → StopsAtRecord bytes outcome.replies)
  pub bad_header : outcome.end ≡ Ended BadHeader → DoesNothing kept now old new outcome
