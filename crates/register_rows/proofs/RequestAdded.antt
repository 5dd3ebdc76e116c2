-- What the INSERT of a request does, and the UPDATE of meta after it.
use Rattle.std.proofs.Common.{◌≡◌, ℕ, List, [], ◌∷◌, ◌++◌, codes, Ok, refl}
use Rattle.sqlite.specs.{declared.types.Value.TheVariants.Null, Effect.Database, Listing.understood, State.State}
use Rattle.sqlite.specs.{State.Executes, Term.Term, Term.lit, Term.col}
use Rattle.sqlite_tied.specs.Compute.{everything}
use Rattle.sql_steps.specs.Within.{Then}
use Rattle.sql_steps.proofs.{Appending.chosen, Inserting.edit, Statements.cast_int, Statements.cast_null}
use Rattle.register_core.proofs.Lawful.{all_more}
use Rattle.register_core.specs.{declared.kept_reply.KeptReply.KeptReply, KeptReply.IsKeptReply}
use Rattle.register_tables.specs.Tables.{Layout, request_cells, place_of}
use Rattle.register_rows.specs.Within.TableChanges.{Always, with_counts, with_kept}
use Rattle.register_tables.specs.{declared.table.TableName.TheVariants.Request, Within.Tables.request}
use Rattle.register_tables.specs.Columns.{request_columns, listed}
use Rattle.register_tables.specs.{Within.Columns.given, Schema.schema_with}
use Rattle.register_tables.specs.TableChanges.{Makes, with_recorded}
use Rattle.register_tables.specs.Schema.{table_rows}
use Rattle.register_rows.proofs.EntryAdded.{IsInsert, adds_entry}
use Rattle.register_tables.proofs.{Actions.idle, ColumnTerms.given_from, Frame.holds_with}

abbrev pub insert_text : List ℕ
insert_text =
    codes "INSERT INTO request (caller, number, " ++ listed request_columns
    ++ codes ") VALUES (:caller, :number" ++ given request_columns ++ codes ")"

abbrev terms : List Term
terms = lit Null ∷ col 0 0 ∷ col 0 1 ∷ given_from 2 request_columns

insert_is : IsInsert insert_text (place_of Request) terms 7
unfolding understood everything
insert_is l = (refl, (refl, refl))

module _ (kept : KeptReply) where
  news_are : (l : Layout) (old : State) (has : old.now.schema ≡ schema_with l)
      → (edit (request l) (request_cells kept) terms 7 (schema_with l) old has (place_of Request)).news ≡ chosen
      (request_cells kept) (table_rows l Request old.now) ∷ []
  news_are l old has = simp (cast_int, cast_null)

  pub adds_request : (old new : State) (count : ℕ) → Executes insert_text (request_cells kept) old new (Ok count)
      → Makes (λ _. IsKeptReply kept) (with_kept kept) old.now new.now
  adds_request old new count h t holds is =
      let l = holds.schema.layout in
      let did = adds_entry request_cells request terms 7 insert_text (place_of Request) insert_is kept news_are old
      new count h l holds.schema.is refl (idle l holds.schema.apart Request refl 0 []) t.requests
      (holds.shown Request) in
      holds_with Request (t.requests ++ kept ∷ []) t old.now new.now did.rows holds did.wrote
      (all_more IsKeptReply t.requests kept (holds.in_range Request) is) did.shows

  -- one after the other
  pub both_made : (key_count : ℕ) (old new : Database)
      → Then (Makes (λ _. IsKeptReply kept) (with_kept kept)) (Makes Always (with_counts kept.reply.moment key_count))
      old new
      → Makes (λ _. IsKeptReply kept) (with_recorded kept key_count) old new
  both_made key_count old new both t holds is = both.2 (with_kept kept t) (both.1 t holds is) tt
