-- What a query of one table gives, whatever the table is.
use Rattle.std.proofs.Common.{◌≡◌, ℕ, ℤ, List, [], ◌∷◌, false, Ok, Err, subst, arith}
use Rattle.std.proofs.lemmas.List.Sorted.{length_permutation}
use Rattle.std.proofs.lemmas.List.{nil_from_length}
use Rattle.std.specs.{List.Sorted.IsPermutation, Ordering.int_cmp}
use Rattle.sqlite.specs.declared.error.Error.TheVariants.{QueryReturnedNoRows}
use Rattle.sqlite.specs.Listing.{understood, reads_listing}
use Rattle.sqlite.specs.State.{State, QueriesRow, Shown, FailsToQuery, IsNotRun, IsUnchanged}
use Rattle.sqlite.specs.{declared.types.Value.TheVariants.Int, Collation.TheVariants.Binary, Order.Row, Ops.binary}
use Rattle.sqlite.specs.{Ops.test, Ops.is_true, Term.Term, Schema.Schema, Program.overlay, Command.TheVariants.Select}
use Rattle.sqlite_sql.specs.{declared.ops.BinaryOp.TheVariants.Compare, declared.ops.CompareOp.CompareOp}
use Rattle.sqlite.proofs.Callers.{IsPlain, command_of, first_as, reads_as}
use Rattle.sqlite_value.proofs.OrderLemmas.{value_cmp-Int}
use Rattle.sql_steps.proofs.Statements.{plain_query, picked, answers}

-- a comparison of two integers
pub compares : (op : CompareOp) (a b : ℤ) → is_true (binary (Compare op Binary) (Int a) (Int b)) ≡ test op (int_cmp a b)
unfolding binary
compares op a b = search (arith, value_cmp-Int)

pub never_not_run : (old new : State) (sql : List ℕ) (params : Row) → ¬ IsNotRun old new sql params QueryReturnedNoRows
unfolding IsNotRun
never_not_run old new sql params = search arith

-- no failure has this name
pub never_fails : (sql : List ℕ) (params : Row) (old new : State) → IsPlain (understood old.now.schema sql)
    → ¬ FailsToQuery sql params old new QueryReturnedNoRows
unfolding FailsToQuery
never_fails sql params old new plain = search (arith, never_not_run)

module _ (sql : List ℕ) (params : Row) (old new : State) (schema : Schema) (has : old.now.schema ≡ schema) (t : ℕ)
    (passes shown : List Term) (names : List (List ℕ))
    (is : command_of (understood schema sql) ≡ Select (record { lets = []; body = plain_query t passes shown }) names)
    (plain : IsPlain (understood schema sql))
    (unlisted : reads_listing schema sql ≡ false) (low : overlay old.now.trees [] t ≡ old.now.trees t) where
  -- all rows
  pub gives_all : (rows : List Row) → Shown sql params old new rows
      → IsPermutation (picked params t passes shown (old.now.trees t)) rows
  gives_all rows h =
      let read = reads_as sql params old new schema has _ is plain unlisted rows h in
      subst (λ rs. IsPermutation (picked params t passes shown rs) rows) low
      (answers params t passes shown (overlay old.now.trees []) rows read.answer)

  -- the first row
  pub gives_one : (row : Row) → QueriesRow sql params old new (Ok row)
      → (tail : List Row) × IsPermutation (picked params t passes shown (old.now.trees t)) (row ∷ tail)
  gives_one row h =
      let read = first_as sql params old new schema has _ is plain unlisted row h in (
        read.1.0,
        subst (λ rs. IsPermutation (picked params t passes shown rs) (row ∷ read.1.0)) low
            (answers params t passes shown (overlay old.now.trees []) (row ∷ read.1.0) read.1.1),
      )

  -- no row
  pub gives_none : QueriesRow sql params old new (Err QueryReturnedNoRows)
      → picked params t passes shown (old.now.trees t) ≡ []
  unfolding QueriesRow
  gives_none it = search (arith, never_fails, gives_all, nil_from_length, length_permutation)

  -- a query changes nothing
  pub only_reads : (rows : List Row) → Shown sql params old new rows → IsUnchanged old new
  unfolding Shown
  only_reads rows h = search arith
