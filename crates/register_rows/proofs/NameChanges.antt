-- What the conditions of the statements say of the row of an entry.
use Rattle.std.proofs.Common.{◌≡◌, ◌==◌, ◌&&◌, inl, inr, ℕ, pos, List, [], ◌∷◌, drop, bytes_eq, not, Bool, true, false}
use Rattle.std.proofs.Common.{refl, sym, ap, ◌∙◌, arith, ◌++◌, codes, slice_get, Some, Ok, ◌≢◌, ◌⊎◌, ◌||◌, filter}
use Rattle.std.proofs.Common.{subst}
use Rattle.std.proofs.Math.Bool.{and-true}
use Rattle.std.proofs.lemmas.Bool.Decides.{eqb_tells}
use Rattle.std.specs.{Cmp.Lexicographic.bytes_decides, List.AllByRecursion}
use Rattle.sqlite.specs.declared.types.Value.TheVariants.{Null, Int, Text as Words}
use Rattle.sqlite.specs.Term.{Term, col, op2, lit}
use Rattle.sqlite.specs.{Collation.TheVariants.Binary, Ops.binary, Order.Row as Cells, Listing.understood, State.State}
use Rattle.sqlite.specs.{State.Executes, Effect.Database, Schema.Schema, Table.Table}
use Rattle.sqlite_rules.specs.{Action.loses, Action.works, Lists.Has}
use Rattle.sqlite_schema.specs.Rules.{agree, has_null, parent_key, passes, Keeps}
use Rattle.sqlite_schema.specs.{declared.schema.Keys.TheVariants.Enforced, declared.schema.Reference.Reference}
use Rattle.sqlite_schema.specs.{Names.same_name, declared.schema.Constraint.TheVariants.ForeignKey}
use Rattle.sqlite_sql.specs.{declared.ops.BinaryOp.TheVariants.Compare, declared.ops.CompareOp.TheVariants.Eq}
use Rattle.sqlite_value.specs.Keys.{first_key, plain, joined}
use Rattle.sql_steps.proofs.Statements.{is_picked, cast_int, cast_null, plain_query}
use Rattle.sql_steps.proofs.{Comparing.equal_numbers, Comparing.equal_words, Appending.chosen, Inserting.edit}
use Rattle.sql_steps.proofs.{Deletes.ids_shown, Orphans.removes_both, Removing.removes}
use Rattle.register_core.specs.KeyName.{KeyName, key_name, is_key_name, is_at}
use Rattle.register_tables.specs.Tables.{name_cells, Layout, to_keys, to_custodian, place_of, ShowsEntries, IsNamed}
use Rattle.register_tables.specs.Tables.{table_of, Tables, IsInRange, content}
use Rattle.register_tables.specs.declared.table.TableName.TheVariants.{Custodian, Approval}
use Rattle.register_rows.specs.declared.stored_key.RoleChange.TheVariants.{Given, Taken}
use Rattle.register_rows.specs.Within.Roles.{change_text, with_role_changed}
use Rattle.register_tables.specs.Schema.{schema_with, Holds, table_rows}
use Rattle.register_rows.specs.Within.TableChanges.{Always, without_custodian, without_approval, without_approvals}
use Rattle.register_rows.specs.Within.TableChanges.{without_name}
use Rattle.register_tables.specs.Within.Tables.{custodian, approval, Shows}
use Rattle.register_rows.specs.declared.stored_key.Role.{Role}
use Rattle.register_tables.specs.{declared.table.TableName.TableName, Columns.paired}
use Rattle.register_tables.specs.TableChanges.{Makes}
use Rattle.register_rows.specs.declared.stored_key.RoleChange.{RoleChange}
use Rattle.sqlite_tied.specs.Compute.{everything}
use Rattle.register_core.proofs.Lawful.{all_more}
use Rattle.register_requests.specs.Name.{IsName}
use Rattle.register_rows.specs.declared.stored_key.Role.TheVariants as role
use Rattle.register_rows.proofs.EntryAdded.{AddsEntry, IsInsert, adds_entry}
use Rattle.register_tables.proofs.Actions.{custodian_idle, idle, custodian_drops, shows_all}
use Rattle.register_tables.proofs.EachTable.{apart_all, each, content_with}
use Rattle.register_tables.proofs.Meanings.{Takes, classes, placed, takes}
use Rattle.register_tables.proofs.Frame.{holds_with, rows_kept}
use Rattle.register_tables.proofs.EntryRows.{entry_of, shows_filtered}
use Rattle.sqlite_rules.proofs.ListLemmas.{all_has, some_has}
use Rattle.sqlite_trees.proofs.ListLemmas.{all-filter}
use Rattle.sqlite_resolve.specs.Compile.{first}

-- the key's number is the first parameter
abbrev pub at_key : List Term
at_key = op2 (Compare Eq Binary) (col 1 1) (col 0 0) ∷ []

-- and the name is the second
abbrev pub at_name : List Term
at_name = op2 (Compare Eq Binary) (col 1 1) (col 0 0) ∷ op2 (Compare Eq Binary) (col 1 2) (col 0 1) ∷ []

module _ (tree : ℕ) (shown : List Term) (key : ℕ) where
  pub key_past : (r : Cells)
      → is_picked (Int (pos key) ∷ []) tree at_key shown r
      ≡ is_picked (Int (pos key) ∷ []) tree at_key shown (Null ∷ drop 1 r)
  key_past r = search arith

  pub key_is : (entry : KeyName) → is_picked (Int (pos key) ∷ []) tree at_key shown (Null ∷ name_cells entry)
      ≡ is_at key entry
  key_is entry = rw (equal_numbers entry.key key) (and-true (entry.key == key))

  pub name_past : (name : List ℕ) (r : Cells) → is_picked (name_cells (key_name key name)) tree at_name shown r
      ≡ is_picked (name_cells (key_name key name)) tree at_name shown (Null ∷ drop 1 r)
  name_past name r = search arith

  pub name_is : (name : List ℕ) (entry : KeyName)
      → is_picked (name_cells (key_name key name)) tree at_name shown (Null ∷ name_cells entry)
      ≡ is_key_name key name entry
  name_is name entry = search (arith, equal_numbers, equal_words, and-true, bytes_eq)

-- ---- two rows that refer to one another

abbrev pub places : List ℕ
places = 1 ∷ 2 ∷ []

agree_past : (r x : Cells)
    → agree plain places r places x ≡ agree plain places (Null ∷ drop 1 r) places (Null ∷ drop 1 x)
agree_past r x = search arith

module _ (r x : Cells) (a b : KeyName) (of_r : drop 1 r ≡ name_cells a) (of_x : drop 1 x ≡ name_cells b) where
  agree_is : agree plain places r places x ≡ (a.key == b.key && bytes_eq a.name b.name)
  unfolding first_key
  agree_is = search (arith, agree_past, equal_numbers, equal_words, and-true, bytes_eq)

  same_both : (m n : Bool) → (m && n) ≡ true → (m ≡ true) × (n ≡ true)
  same_both m n e = search arith

  -- they show one entry
  pub same_cells : agree plain places r places x ≡ true → drop 1 r ≡ drop 1 x
  same_cells e =
      let both = same_both (a.key == b.key) (bytes_eq a.name b.name) (sym agree_is ∙ e) in
      let key : a.key
      ≡ b.key = elim (eqb_tells a.key b.key) [
        | inl it ↦ it.1
        | inr it ↦ absurd (let none = it.0 in let some = both.0 in cc)
      ] in
      let name : a.name ≡ b.name = (bytes_decides a.name b.name).0 both.1 in
      of_r ∙ ap (λ k. Int (pos k) ∷ Words a.name ∷ []) key ∙ ap (λ n. Int (pos b.key) ∷ Words n ∷ []) name ∙ sym of_x

-- rows of one entry agree
pub agree_same : (r x : Cells) (a : KeyName) → drop 1 r ≡ name_cells a → drop 1 x ≡ name_cells a
    → agree plain places r places x ≡ true
agree_same r x a of_r of_x =
    let key : (a.key == a.key) ≡ true = elim (eqb_tells a.key a.key) [ inl it ↦ it.0 | inr it ↦ absurd (it.1 refl) ] in
    let name : bytes_eq a.name a.name ≡ true = (bytes_decides a.name a.name).1 refl in
    agree_is r x a a of_r of_x ∙ ap (λ b. b && bytes_eq a.name a.name) key ∙ name

-- a row of an entry that goes had a key
pub loses_name : (x : Cells) (a : KeyName) → drop 1 x ≡ name_cells a → loses plain places (x, []) ≡ true
unfolding binary first_key
loses_name x a of_x =
    let own = agree_same x x a of_x of_x in
    let none : agree plain places x places []
    ≡ false = agree_past x [] ∙ ap (λ cells. agree plain places (Null ∷ cells) places (Null ∷ [])) of_x in
    ap (λ b. b && not (agree plain places x places [])) own ∙ ap not none

-- ---- What the INSERTs of a custodian and of an approval do.

abbrev terms : List Term
terms = lit Null ∷ col 0 0 ∷ col 0 1 ∷ []

module _ (name : List ℕ) (table : TableName) (ref : Reference) (sql : List ℕ) (at : ℕ)
    (parts : IsInsert sql at terms 3) (entry : KeyName) where
  named : (l : Layout) (old : State) (has : old.now.schema ≡ schema_with l)
      → (edit (paired name ref (l.tree table)) (name_cells entry) terms 3 (schema_with l) old has at).news ≡ chosen
      (name_cells entry) (old.now.trees (l.tree table)) ∷ []
  named l old has = simp (cast_int, cast_null)

  adds : (old new : State) (count : ℕ) → Executes sql (name_cells entry) old new (Ok count)
      → (l : Layout) (has : old.now.schema ≡ schema_with l)
      → slice_get (schema_with l).tables at ≡ Some (paired name ref (l.tree table))
      → ((news : List Cells) → works (schema_with l) Enforced 0 (l.tree table) [] news ≡ [])
      → (entries : List KeyName) → ShowsEntries name_cells entries (old.now.trees (l.tree table))
      → AddsEntry name_cells l (l.tree table) entries entry old new
  adds = adds_entry name_cells (λ (l : Layout). paired name ref (l.tree table)) terms 3 sql at parts entry named

-- ---- the two tables

abbrev table_name : Role → TableName
table_name role.Custodian = Custodian
table_name role.Approver = Approval

insert_is : (role : Role) → IsInsert (change_text (Given role)) (place_of (table_name role)) terms 3
unfolding understood everything
insert_is role.Custodian l = (refl, (refl, refl))
insert_is role.Approver l = (refl, (refl, refl))

pub adds_name : (role : Role) (key : ℕ) (name : List ℕ) → IsName name → (old new : State) (count : ℕ)
    → Executes (change_text (Given role)) (name_cells (key_name key name)) old new (Ok count)
    → Makes Always (with_role_changed (Given role) key name) old.now new.now
adds_name role.Custodian key name is old new count h t holds always =
    let entry = key_name key name in
    let did = adds (codes "custodian") Custodian to_keys (change_text (Given role.Custodian)) (place_of Custodian)
    (insert_is role.Custodian) entry old new count h holds.schema.layout holds.schema.is refl
    (custodian_idle holds.schema.layout holds.schema.apart) t.custodians (holds.shown Custodian) in
    holds_with Custodian (t.custodians ++ entry ∷ []) t old.now new.now did.rows holds did.wrote
    (all_more IsNamed t.custodians entry (holds.in_range Custodian) is) did.shows
adds_name role.Approver key name is old new count h t holds always =
    let entry = key_name key name in
    let did = adds (codes "approval") Approval to_custodian (change_text (Given role.Approver)) (place_of Approval)
    (insert_is role.Approver) entry old new count h holds.schema.layout holds.schema.is refl
    (idle holds.schema.layout holds.schema.apart Approval refl 0 []) t.approvals (holds.shown Approval) in
    holds_with Approval (t.approvals ++ entry ∷ []) t old.now new.now did.rows holds did.wrote
    (all_more IsNamed t.approvals entry (holds.in_range Approval) is) did.shows

-- ---- What the DELETEs of custodians and of approvals do.

-- the text takes rows that pass out of the table at this place
abbrev IsDelete : List ℕ → TableName → List Term → Type 0
IsDelete sql name passes = (l : Layout) → Takes (schema_with l) (table_of l name) (place_of name) sql
    (plain_query (l.tree name) passes ids_shown)

-- ---- approvals alone

-- the approvals of which the check holds go
module _ (sql : List ℕ) (params : Cells) (at : List Term) (parts : IsDelete sql Approval at) (q : KeyName → Bool)
    (past : (r : Cells) → is_picked params 0 at ids_shown r ≡ is_picked params 0 at ids_shown (Null ∷ drop 1 r))
    (each : (entry : KeyName) → is_picked params 0 at ids_shown (Null ∷ name_cells entry) ≡ q entry) where
  abbrev left : Tables → Tables
  left t = record t { approvals = filter (λ entry. not (q entry)) t.approvals }

  drops_approvals : (old new : State) (count : ℕ) → Executes sql params old new (Ok count)
      → Makes Always left old.now new.now
  drops_approvals old new count h t holds always =
      let l = holds.schema.layout in
      let m = takes (schema_with l) (approval l) (classes l (placed t old.now holds) Approval) _ _ _ (parts l) in
      let shown = holds.shown Approval in
      let wrote = removes (approval l) params at sql (schema_with l) (place_of Approval) refl m.is m.plain
      (λ olds. idle l holds.schema.apart Approval refl 0 olds []) (λ db. shows_all db (l.tree Approval)) old new
      count h holds.schema.is shown.ordered shown.counted in
      let rows = shows_filtered name_cells (λ r. not (is_picked params 0 at ids_shown r)) (λ entry. not (q entry))
      (λ r. ap not (past r)) (λ entry. ap not (each entry)) t.approvals (table_rows l Approval old.now) shown in
      holds_with Approval (left t).approvals t old.now new.now _ holds wrote
      (all-filter IsNamed (λ entry. not (q entry)) t.approvals (holds.in_range Approval)) rows

approval_parts : IsDelete (change_text (Taken role.Approver)) Approval at_name
unfolding everything first
approval_parts l = record { p = _; name = _; check = _; d = _; parsed = refl; untimed = refl; is = refl; named = refl; there = refl; drafted = refl; same = refl; from = refl; accepted = refl }

removes_approval : (key : ℕ) (name : List ℕ) (old new : State) (count : ℕ)
    → Executes (change_text (Taken role.Approver)) (name_cells (key_name key name)) old new (Ok count)
    → Makes Always (without_approval key name) old.now new.now
removes_approval key name =
    drops_approvals (change_text (Taken role.Approver)) (name_cells (key_name key name)) at_name approval_parts
    (is_key_name key name)
    (name_past 0 ids_shown key name) (name_is 0 ids_shown key name)

abbrev pub approvals_text : List ℕ
approvals_text = codes "DELETE FROM approval WHERE key_no = ?1"

approvals_parts : IsDelete approvals_text Approval at_key
unfolding everything first
approvals_parts l = record { p = _; name = _; check = _; d = _; parsed = refl; untimed = refl; is = refl; named = refl; there = refl; drafted = refl; same = refl; from = refl; accepted = refl }

pub removes_approvals : (key : ℕ) (old new : State) (count : ℕ)
    → Executes approvals_text (Int (pos key) ∷ []) old new (Ok count)
    → Makes Always (without_approvals key) old.now new.now
removes_approvals key = drops_approvals approvals_text (Int (pos key) ∷ []) at_key approvals_parts (is_at key)
    (key_past 0 ids_shown key) (key_is 0 ids_shown key)

-- ---- custodians, and with each the approval

two_places : place_of Approval ≢ place_of Custodian
two_places same = absurd (omega (arith, same))

custodian_parts : IsDelete (change_text (Taken role.Custodian)) Custodian at_name
unfolding everything first
custodian_parts l = record { p = _; name = _; check = _; d = _; parsed = refl; untimed = refl; is = refl; named = refl; there = refl; drafted = refl; same = refl; from = refl; accepted = refl }

parent_is : (l : Layout) → parent_key (schema_with l).tables to_custodian ≡ Some (l.tree Custodian, places, plain)
unfolding same_name joined
parent_is l = refl

null_past : (r : Cells) → has_null places r ≡ has_null places (Null ∷ drop 1 r)
null_past r = search arith

stands : (a b : Bool) → a ≡ false → ((a || b) && true) ≡ true → b ≡ true
stands a b none e = search arith

-- whoever approves is a custodian
approver : (db : Database) (t : Tables) (holds : Holds t db) (r : Cells)
    → Has (table_rows holds.schema.layout Approval db) r → (x : Cells) × Has (table_rows holds.schema.layout Custodian db) x
    × (drop 1 r ≡ drop 1 x)
approver db t holds r h =
    let l = holds.schema.layout in
    let a = entry_of name_cells t.approvals (table_rows l Approval db) (holds.shown Approval) r h in
    let rules = subst (λ (s : Schema). Keeps ForeignKey s db.trees) holds.schema.is
    (holds.sound.obeys.rules ForeignKey) in
    let followed = all_has (λ (table : Table). AllByRecursion
    (λ row. passes ForeignKey (schema_with l) db.trees table row ≡ true) (db.trees table.tree))
    (schema_with l).tables (approval l) rules ((each Approval).listed l) in
    let passing = all_has (λ row. passes ForeignKey (schema_with l) db.trees (approval l) row ≡ true)
    (table_rows l Approval db) r followed h in
    let full : has_null places r ≡ false = null_past r ∙ ap (λ cells. has_null places (Null ∷ cells)) a.1 in
    let held = stands _ _ full (search (arith, places, parent_is)) in
    let x = some_has (λ parent. agree plain places parent places r) (table_rows l Custodian db) held in
    let b = entry_of name_cells t.custodians (table_rows l Custodian db) (holds.shown Custodian) x.0 x.1 in
    (x.0, x.1, sym (same_cells x.0 r b.0 a.0 b.1 a.1 x.2))

module _ (key : ℕ) (name : List ℕ) where
  abbrev params : Cells
  params = name_cells (key_name key name)

  abbrev passing : Cells → Bool
  passing = is_picked params 0 at_name ids_shown

  past : (r : Cells) → passing r ≡ passing (Null ∷ drop 1 r)
  past = name_past 0 ids_shown key name

  same_check : (r x : Cells) → drop 1 r ≡ drop 1 x → passing r ≡ passing x
  same_check r x same = past r ∙ ap (λ cells. passing (Null ∷ cells)) same ∙ sym (past x)

  module _ (db : Database) (t : Tables) (holds : Holds t db) where
    from_custodian : (r : Cells) → Has (table_rows holds.schema.layout Approval db) r → passing r ≡ true
        → (x : Cells) × Has (table_rows holds.schema.layout Custodian db) x × (passing x ≡ true)
        × (loses plain places (x, []) ≡ true) × (agree plain places r places x ≡ true)
    from_custodian r h is =
        let l = holds.schema.layout in
        let x = approver db t holds r h in
        let a = entry_of name_cells t.approvals (table_rows l Approval db) (holds.shown Approval) r h in
        let of_x = sym x.2 ∙ a.1 in
        (x.0, x.1, sym (same_check r x.0 x.2) ∙ is, loses_name x.0 a.0 of_x, agree_same r x.0 a.0 a.1 of_x)

    of_custodian : (r x : Cells) → Has (table_rows holds.schema.layout Approval db) r
        → Has (table_rows holds.schema.layout Custodian db) x → passing x ≡ true → agree plain places r places x ≡ true
        → passing r ≡ true
    of_custodian r x h k is agrees =
        let l = holds.schema.layout in
        let a = entry_of name_cells t.approvals (table_rows l Approval db) (holds.shown Approval) r h in
        let b = entry_of name_cells t.custodians (table_rows l Custodian db) (holds.shown Custodian) x k in
        same_check r x (same_cells r x a.0 b.0 a.1 b.1 agrees) ∙ is

  without : (entries : List KeyName) (rows : List Cells) → ShowsEntries name_cells entries rows
      → ShowsEntries name_cells (without_name key name entries) (filter (λ r. not (passing r)) rows)
  without entries rows shows = shows_filtered name_cells (λ r. not (passing r))
      (λ entry. not (is_key_name key name entry)) (λ r. ap not (past r))
      (λ entry. ap not (name_is 0 ids_shown key name entry)) entries rows shows

  removes_custodian : (old new : State) (count : ℕ)
      → Executes (change_text (Taken role.Custodian)) params old new (Ok count)
      → Makes Always (without_custodian key name) old.now new.now
  removes_custodian old new count h t holds always =
      let l = holds.schema.layout in
      let m = takes (schema_with l) (custodian l) (classes l (placed t old.now holds) Custodian) _ _ _
      (custodian_parts l) in
      let custodians = holds.shown Custodian in
      let approvals = holds.shown Approval in
      let did = removes_both (schema_with l) (custodian l) (approval l) to_custodian places plain params at_name
      (change_text (Taken role.Custodian)) (place_of Custodian) refl m.is m.plain
      (custodian_drops l holds.schema.apart) (λ olds. idle l holds.schema.apart Approval refl 1 olds [])
      (λ db. shows_all db (l.tree Custodian)) ((each Custodian).listed l) ((each Approval).listed l)
      (λ same. two_places (apart_all l holds.schema.apart Approval Custodian same)) old new count h holds.schema.is
      custodians.ordered custodians.counted approvals.ordered approvals.counted passing
      (from_custodian old.now t holds) (of_custodian old.now t holds) in
      let other = rows_kept l (λ (tree : ℕ). (tree ≡ l.tree Custodian) ⊎ (tree ≡ l.tree Approval)) old.now new.now
      did.kept in
      let left = without_name key name t.custodians in
      let approving = without_name key name t.approvals in
      let fewer = record t { custodians = left } in
      record {
        schema = record { layout = l; apart = holds.schema.apart; is = did.kept.schema_is };
        sound = did.kept.sound;
        in_range = λ n. content_with IsInRange Approval n approving fewer
            (all-filter IsNamed (λ entry. not (is_key_name key name entry)) t.approvals (holds.in_range Approval))
            (λ _. content_with IsInRange Custodian n left t
            (all-filter IsNamed (λ entry. not (is_key_name key name entry)) t.custodians (holds.in_range Custodian))
            (λ _. holds.in_range n));
        shown = λ n. content_with (λ m held. Shows m held (table_rows l m new.now)) Approval n approving fewer
            (subst (ShowsEntries name_cells approving) (sym did.children_are)
            (without t.approvals (table_rows l Approval old.now) approvals))
            (λ no_approval. content_with (λ m held. Shows m held (table_rows l m new.now)) Custodian n left t
            (subst (ShowsEntries name_cells left) (sym did.parents_are)
            (without t.custodians (table_rows l Custodian old.now) custodians))
            (λ no_custodian. subst (Shows n (content n t))
            (sym (other n (λ written. elim written [
              | inl e ↦ no_custodian (apart_all l holds.schema.apart n Custodian e)
              | inr e ↦ no_approval (apart_all l holds.schema.apart n Approval e)
            ]))) (holds.shown n)));
      }

-- ---- either

pub removes_name : (role : Role) (key : ℕ) (name : List ℕ) (old new : State) (count : ℕ)
    → Executes (change_text (Taken role)) (name_cells (key_name key name)) old new (Ok count)
    → Makes Always (with_role_changed (Taken role) key name) old.now new.now
removes_name role.Custodian key name = removes_custodian key name
removes_name role.Approver key name = removes_approval key name

pub changes_role : (change : RoleChange) (key : ℕ) (name : List ℕ) → IsName name → (old new : State) (count : ℕ)
    → Executes (change_text change) (name_cells (key_name key name)) old new (Ok count)
    → Makes Always (with_role_changed change key name) old.now new.now
changes_role (Given role) key name is = adds_name role key name is
changes_role (Taken role) key name is = removes_name role key name
