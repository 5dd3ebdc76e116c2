-- What a DELETE with its cascade leaves of the two tables.
use Rattle.std.proofs.Common.{◌≡◌, ◌≢◌, ◌⊎◌, inl, inr, ℕ, ℤ, List, [], ◌∷◌, filter, not, slice_get, Bool, cond, false}
use Rattle.std.proofs.Common.{true, Some, Ok, sym, ap, subst, ◌∙◌, arith}
use Rattle.std.specs.List.Sorted.{IsPermutation}
use Rattle.sqlite.specs.{Command.TheVariants.Delete, Edit.taken_by, Edit.without_all, Effect.Database}
use Rattle.sqlite.specs.{Listing.understood, Order.Row, Program.overlay, Schema.Schema, State.State, State.mode_of}
use Rattle.sqlite.specs.{State.Executes, Table.Table, Term.Term, Tree.Trees, Tree.IsTable}
use Rattle.sqlite.proofs.Callers.{IsPlain, command_of, statement_of, runs_as}
use Rattle.sqlite_rules.proofs.ListLemmas.{all_from, all_has, some_from, some_has}
use Rattle.sqlite_rules.proofs.TableLemmas.{int_is}
use Rattle.sqlite_rules.specs.Action.{works, pairs, loses, AreChildren}
use Rattle.sqlite_rules.specs.{Calls.ids_of, Lists.Has}
use Rattle.sqlite_schema.specs.declared.schema.Keys.TheVariants.{Enforced}
use Rattle.sqlite_schema.specs.{Rules.agree, declared.schema.Reference.Reference}
use Rattle.sqlite_value.specs.declared.keys.Order.{Order}
use Rattle.sql_steps.proofs.Cascading.{orphans, some_lose, is_orphan, drops_after}
use Rattle.sql_steps.proofs.Deletes.{ids_shown, left, taken_all, taken_from}
use Rattle.sql_steps.proofs.Statements.{plain_query, picked, is_picked, answers, deletes, deleted}
use Rattle.sql_steps.proofs.{Appending.AreCounted, SameRows.deletes_each, Written.Kept}

pairs_from : (olds : List Row) (move : Row × Row) → Has (pairs olds []) move → Has olds move.0
pairs_from [] move h = absurd h
pairs_from (old ∷ olds) move (inl same) = inl (ap (λ (m : Row × Row). m.0) same)
pairs_from (old ∷ olds) move (inr later) = inr (pairs_from olds move later)

pairs_has : (olds : List Row) (old : Row) → Has olds old → Has (pairs olds []) (old, [])
pairs_has [] old h = absurd h
pairs_has (first ∷ olds) old (inl same) = inl (ap (λ (row : Row). (row, [])) same)
pairs_has (first ∷ olds) old (inr later) = inr (pairs_has olds old later)

module _ (schema : Schema) (base child : Table) (ref : Reference) (places : List ℕ) (order : Order) (params : Row)
    (passes : List Term) where
  -- a table with no AUTOINCREMENT
  abbrev parent : Table
  parent = record base { is_counted = false }

  abbrev p : Row → Bool
  p = is_picked params parent.tree passes ids_shown

  module _ (parents children : List Row) (c : Row → Bool)
      (c_from : (r : Row) → Has children r → c r ≡ true → (x : Row) × Has parents x × (p x ≡ true)
      × (loses order places (x, []) ≡ true) × (agree order ref.columns r places x ≡ true))
      (c_all : (r x : Row) → Has children r → Has parents x → p x ≡ true → agree order ref.columns r places x ≡ true
      → c r ≡ true)
      (ordered : IsTable children) (counted : AreCounted children) (olds : List Row) (taken : (x : Row)
      → Has parents x → p x ≡ true → Has olds x) (was : (y : Row) → Has olds y → Has parents y × (p y ≡ true))
      (next : Trees) (same : next child.tree ≡ children) (ids : List ℤ)
      (are : AreChildren next (orphans schema parent child ref places order olds) ids) where
    orphan_passes : (r : Row) → Has children r → is_orphan schema parent child ref places order olds r ≡ true
        → c r ≡ true
    orphan_passes r h is = search (arith, some_has, orphans, pairs_from)

    passing_orphan : (r : Row) → Has children r → c r ≡ true
        → is_orphan schema parent child ref places order olds r ≡ true
    passing_orphan r h is = search (arith, some_from, orphans, pairs_has)

    -- the children that pass are those that go
    children_left : without_all children ids ≡ filter (λ r. not (c r)) children
    children_left = search (arith, deletes_each, orphan_passes, int_is, all_has, passing_orphan)

  -- the rows that pass went, and the rows of the other table for which c holds, and no other
  pub record RemovedBoth (c : Row → Bool) (old new : Database) : Type 0 where
    pub parents_are : new.trees parent.tree ≡ filter (λ r. not (p r)) (old.trees parent.tree)
    pub children_are : new.trees child.tree ≡ filter (λ r. not (c r)) (old.trees child.tree)
    pub kept : Kept schema (λ t. (t ≡ parent.tree) ⊎ (t ≡ child.tree)) old new

  pub removes_both : (sql : List ℕ) (at : ℕ) → slice_get schema.tables at ≡ Some parent
      → command_of (understood schema sql)
      ≡ Delete at (record { lets = []; body = plain_query parent.tree passes ids_shown })
      → IsPlain (understood schema sql)
      → ((olds : List Row)
      → works schema Enforced 0 parent.tree olds []
      ≡ cond (some_lose schema parent child ref places order olds)
      (orphans schema parent child ref places order olds ∷ []) [])
      → ((olds : List Row) → works schema Enforced 1 child.tree olds [] ≡ [])
      → ((db : Trees) → overlay db [] parent.tree ≡ db parent.tree)
      → Has schema.tables parent → Has schema.tables child → child.tree ≢ parent.tree
      → (old new : State) (count : ℕ) → Executes sql params old new (Ok count) → old.now.schema ≡ schema
      → IsTable (old.now.trees parent.tree) → AreCounted (old.now.trees parent.tree)
      → IsTable (old.now.trees child.tree) → AreCounted (old.now.trees child.tree) → (c : Row → Bool)
      → ((r : Row) → Has (old.now.trees child.tree) r → c r ≡ true → (x : Row) × Has (old.now.trees parent.tree) x
      × (p x ≡ true) × (loses order places (x, []) ≡ true) × (agree order ref.columns r places x ≡ true))
      → ((r x : Row) → Has (old.now.trees child.tree) r → Has (old.now.trees parent.tree) x → p x ≡ true
      → agree order ref.columns r places x ≡ true → c r ≡ true)
      → RemovedBoth c old.now new.now
  removes_both sql at there is plain cascade idle low listed child_listed apart old new count h has ordered counted
      child_ordered child_counted c c_from c_all =
      let q = plain_query parent.tree passes ids_shown in
      let w = runs_as sql params old new schema has (Delete at (record { lets = []; body = q })) is plain count h in
      let text = statement_of sql (understood schema sql) in
      let did = deletes old.step_limit (mode_of old) params old.now schema has at base there q text w.tally new.now
      w.changed in
      let parents = old.now.trees parent.tree in
      let children = old.now.trees child.tree in
      let all : IsPermutation (picked params parent.tree passes ids_shown parents) did.1 =
      subst (λ rs. IsPermutation (picked params parent.tree passes ids_shown rs) did.1) (low old.now.trees)
      (answers params parent.tree passes ids_shown (overlay old.now.trees []) did.1 did.2) in
      let fell = drops_after schema parent child ref places order cascade idle old.now.trees new.now.trees
      (ids_of did.1) did.3 in
      let olds = taken_by old.now.trees
      (deleted old.step_limit (mode_of old) params old.now schema has at base did.1) in
      let same : fell.0 child.tree ≡ children = grind (arith, all_has) in
      let stays = all_has (λ (t : Table). t.tree ≢ child.tree
      → new.now.trees t.tree ≡ fell.0 t.tree) schema.tables parent fell.2.others listed (λ e. apart (sym e)) in
      record {
        parents_are = stays ∙ fell.1.rows ∙ left params parent.tree passes parents ordered counted did.1 all;
        children_are = fell.2.rows ∙ ap (λ rows. without_all rows fell.2.ids) same
            ∙ children_left parents children c c_from c_all child_ordered child_counted olds
            (taken_all params parent.tree passes parents ordered counted did.1 all)
            (taken_from params parent.tree passes parents ordered counted did.1 all)
            fell.0 same fell.2.ids fell.2.are;
        kept = record {
          schema_is = did.0;
          others = all_from _ schema.tables (search (arith, all_has));
          sound = w.sound;
        };
      }
