-- What a query of one table with an order gives first.
use Rattle.std.proofs.Common.{◌≡◌, inl, inr, ℕ, List, [], ◌∷◌, map, filter, false, Ok, Err, refl, sym, ap, subst, ◌∙◌}
use Rattle.std.proofs.Common.{arith}
use Rattle.std.proofs.lemmas.List.MinMax.{ranks_by}
use Rattle.std.proofs.lemmas.List.Sorted.{IsPermutation-sym, length_permutation, sorted_far}
use Rattle.std.proofs.lemmas.List.{nil_from_length, length-map}
use Rattle.std.specs.{List.Sorted.IsPermutation, List.Sorted.IsSorted, Ordering.is_lt}
use Rattle.sqlite.specs.declared.error.Error.TheVariants.{QueryReturnedNoRows}
use Rattle.sqlite.specs.Listing.{understood, reads_listing}
use Rattle.sqlite.specs.Query.{Query, Output, IsAnswer, output, output_cmp}
use Rattle.sqlite.specs.{declared.types.Value.TheVariants.Null, Command.TheVariants.Select, Order.Row, Program.overlay}
use Rattle.sqlite.specs.{Schema.Schema, State.State, State.QueriesRow, Term.Term, Term.eval_all, Tree.Trees}
use Rattle.sqlite_value.specs.declared.keys.Key.{Key}
use Rattle.sqlite.proofs.Callers.{IsPlain, command_of, first_as, reads_as}
use Rattle.sqlite_rules.specs.Lists.{Has}
use Rattle.sqlite_sql.proofs.QueryLemmas.{output_cmp_total}
use Rattle.sqlite_trees.proofs.ListLemmas.{map-map}
use Rattle.sql_steps.proofs.SameRows.{has_map, map_has}
use Rattle.sql_steps.proofs.Statements.{plain_query, env_of, is_picked, matched}
use Rattle.sql_steps.proofs.{Members.has_contains, Queries.never_fails, Updates.has_permutation}

module _ (t : ℕ) (passes shown : List Term) (order : List (Term × Key)) where
  abbrev pub ordered_by : Query
  ordered_by = record (plain_query t passes shown) { order = order }

  module _ (params : Row) where
    abbrev pub out_of : Row → Output
    out_of r = output ordered_by (env_of params t passes shown r)

    abbrev pub passing : List Row → List Row
    passing rows = filter (is_picked params t passes shown) rows

    -- the answer's first row shows one that passes, and none that passes comes before it
    pub record ShowsLeast (rows : List Row) (row : Row) : Type 0 where
      pub least : Row
      pub passes_too : Has (passing rows) least
      pub is : row ≡ eval_all shown (env_of params t passes shown least)
      pub first : (r : Row) → Has (passing rows) r → is_lt (output_cmp ordered_by (out_of r) (out_of least)) ≡ false

    -- the outputs of what passes, in the order of the answer
    outputs : (db : Trees) (rows : List Row) (a : IsAnswer ordered_by db params rows)
        → IsPermutation (map out_of (passing (db t))) a.ordered
    outputs db rows a =
        let kept : a.kept ≡ map out_of (passing (db t)) =
        a.distinct ∙ ap (map (output ordered_by)) (a.grouped ∙ sym (matched params t passes shown Null db))
        ∙ map-map (output ordered_by) (env_of params t passes shown) (passing (db t)) in
        subst (λ l. IsPermutation l a.ordered) kept a.same

    -- the first of a list in order
    at_head : (o : Output) (os : List Output) → IsSorted (output_cmp ordered_by) (o ∷ os) → (x : Output)
        → Has (o ∷ os) x → is_lt (output_cmp ordered_by x o) ≡ false
    at_head o os sorted x there =
        let at = has_contains (o ∷ os) x there in
        let ranks = ranks_by (output_cmp_total ordered_by) (λ (p : Output). p) in
        let far = sorted_far (λ (a b : Output). is_lt (output_cmp ordered_by a b)) ranks (o ∷ os) sorted 0 at.0 x
        (omega arith) at.1 in
        subst (λ (p : Output). is_lt (output_cmp ordered_by p o) ≡ false) at.2 far

    least_of : (db : Trees) (row : Row) (tail : List Row) (ordered : List Output)
        → IsPermutation (map out_of (passing (db t))) ordered → IsSorted (output_cmp ordered_by) ordered
        → row ∷ tail ≡ map (λ (o : Output). o.1) ordered
        → ShowsLeast (db t) row
    least_of db row tail [] same sorted is = absurd cc
    least_of db row tail (o ∷ os) same sorted is =
        let came = map_has out_of (passing (db t)) o
        (has_permutation (o ∷ os) (map out_of (passing (db t))) o (IsPermutation-sym _ _ same) (inl refl)) in
        let shows : row ≡ o.1 = cc in
        record {
          least = came.0;
          passes_too = came.1;
          is = shows ∙ ap (λ (p : Output). p.1) came.2;
          first = λ r there.
              subst (λ (p : Output). is_lt (output_cmp ordered_by (out_of r) p) ≡ false) came.2
              (at_head o os sorted (out_of r)
              (has_permutation (map out_of (passing (db t))) (o ∷ os) (out_of r) same
              (has_map out_of (passing (db t)) r there)));
        }

    none_of : (db : Trees) (ordered : List Output) → IsPermutation (map out_of (passing (db t))) ordered
        → [] ≡ map (λ (o : Output). o.1) ordered → passing (db t) ≡ []
    none_of db [] same is = nil_from_length _ (sym (length-map (passing (db t)) out_of)
        ∙ sym (length_permutation (map out_of (passing (db t))) [] same))
    none_of db (o ∷ os) same is = absurd cc

    module _ (sql : List ℕ) (old new : State) (schema : Schema) (has : old.now.schema ≡ schema)
        (names : List (List ℕ)) (is : command_of (understood schema sql)
        ≡ Select (record { lets = []; body = ordered_by }) names)
        (plain : IsPlain (understood schema sql)) (unlisted : reads_listing schema sql ≡ false)
        (low : overlay old.now.trees [] t ≡ old.now.trees t) where
      pub gives_first : (row : Row) → QueriesRow sql params old new (Ok row) → ShowsLeast (old.now.trees t) row
      gives_first row h =
          let read = first_as sql params old new schema has _ is plain unlisted row h in
          let db = overlay old.now.trees [] in
          let a : IsAnswer ordered_by db params (row ∷ read.1.0) = read.1.1 Null in
          subst (λ rs. ShowsLeast rs row) low
          (least_of db row read.1.0 a.ordered (outputs db (row ∷ read.1.0) a) a.sorted a.shown)

      pub gives_no_row : QueriesRow sql params old new (Err QueryReturnedNoRows) → passing (old.now.trees t) ≡ []
      unfolding QueriesRow
      gives_no_row (inl fails) = search (arith, never_fails)
      gives_no_row (inr h) =
          let db = overlay old.now.trees [] in
          let a : IsAnswer ordered_by db params
          [] = (reads_as sql params old new schema has _ is plain unlisted [] h.1).answer Null in
          subst (λ rs. passing rs ≡ []) low (none_of db a.ordered (outputs db [] a) a.shown)
