-- What is proved of each table. It is read off the forms and the list of all, so a table of entries has no row here;
-- one whose entries have rowids of their own has one, that without an entry it has no rows.
use Rattle.std.proofs.Common.{◌≡◌, ◌<◌, ◌==◌, inl, inr, ℕ, zero, suc, List, [], ◌∷◌, length, filter, slice_get, take}
use Rattle.std.proofs.Common.{Some, Ok, false, cond, refl, sym, ap, subst, ◌∙◌, arith}
use Rattle.std.proofs.lemmas.Bool.{cases_Bool, eq-eqb, eqb-true}
use Rattle.std.proofs.lemmas.Option.{none-some, same_Some}
use Rattle.std.specs.Prelude.{nat_lt}
use Rattle.sqlite.specs.Command.TheVariants.{CreateTable}
use Rattle.sqlite.specs.{Change.created, Compile.table_defined_by, Does.lacks_sequence, Listing.understood, Table.Table}
use Rattle.sqlite.proofs.Callers.{IsPlain, command_of, statement_of}
use Rattle.sqlite_rules.specs.Lists.{Has}
use Rattle.sqlite_schema.specs.declared.schema.Index.{Index}
use Rattle.sqlite_tied.specs.Compute.{everything}
use Rattle.register_requests.specs.{declared.version.Version.Version, Version.current}
use Rattle.register_tables.specs.declared.table.TableName.TheVariants.{Meta, Keys, Period, Quorum}
use Rattle.register_tables.specs.Tables.{Layout, AreApartIn, fresh, Tables, Content, IsInRange, content, with_content}
use Rattle.register_tables.specs.Tables.{no_rows, all_tables, table_count, table_of, place_of, fresh_tree, need_row}
use Rattle.register_tables.specs.Tables.{period_row, create_statement}
use Rattle.register_tables.specs.Schema.{schema_in, schema_with}
use Rattle.register_tables.specs.{declared.table.TableName.TableName, Within.Tables.Shows, Within.Schema.schema_after}
use Rattle.register_tables.proofs.EntryRows.{keyed_none, shows_none}

-- ---- by the list of all tables

-- each table stands at its place
at_place : (name : TableName) → slice_get all_tables (place_of name) ≡ Some name
at_place name = search arith

pub placed_low : (name : TableName) → place_of name < 7
placed_low name = search arith

-- so its place is its own
pub same_place : (name other : TableName) → place_of other ≡ place_of name → other ≡ name
same_place name other same = same_Some _ _ (sym (at_place other) ∙ ap (slice_get all_tables) same ∙ at_place name)

has_at : {X : Type 0} (xs : List X) (i : ℕ) (x : X) → slice_get xs i ≡ Some x → Has xs x
has_at [] i x is = absurd (none-some x is)
has_at (y ∷ ys) zero x is = inl (sym (same_Some y x is))
has_at (y ∷ ys) (suc i) x is = inr (has_at ys i x is)

pub in_all : (name : TableName) → Has all_tables name
in_all name = has_at all_tables (place_of name) name (at_place name)

pub in_version : (version : Version) (name : TableName) → place_of name < table_count version
    → Has (take (table_count version) all_tables) name
in_version version name low = search (arith, has_at, in_all)

pub low_in_version : (version : Version) (name : TableName) → Has (take (table_count version) all_tables) name
    → place_of name < table_count version
low_in_version version name has = search (arith, placed_low)

-- ---- one table

none_in_range : (name : TableName) → IsInRange name (content name no_rows)
none_in_range Meta = omega arith
none_in_range name = tt

none_shown : (name : TableName) → (place_of name ≡ place_of Meta → ⊥) → Shows name (content name no_rows) []
none_shown Meta apart = absurd (apart refl)
none_shown Keys apart = refl
none_shown Period apart = keyed_none period_row
none_shown Quorum apart = keyed_none need_row
none_shown name apart = shows_none _

-- a table stands in the schema, its rows stand in its tree, and in an empty register it has none, but for meta's one
pub record Each (name : TableName) : Type 0 where
  pub listed : (l : Layout) → Has (schema_with l).tables (table_of l name)
  pub listed_in : (version : Version) (l : Layout) → place_of name < table_count version
      → Has (schema_in version l).tables (table_of l name)
  pub tree_is : (l : Layout) → (table_of l name).tree ≡ l.tree name
  pub in_range : IsInRange name (content name no_rows)
  pub empty : (place_of name ≡ place_of Meta → ⊥) → Shows name (content name no_rows) []

pub each : (name : TableName) → Each name
each name = search (arith, in_all, in_version, none_in_range, none_shown)

-- a table has the content that it is given
pub content_is : (name : TableName) (c : Content name) (t : Tables) → content name (with_content name c t) ≡ c
content_is Meta c t = refl
content_is name c t = refl

-- and another keeps its own
other_kept : (name other : TableName) (c : Content name) (t : Tables)
    → cond (place_of other == place_of name) (content other t) (content other (with_content name c t)) ≡ content other t
other_kept Meta Meta c t = refl
other_kept name Meta c t = refl
other_kept name other c t = refl

-- what holds of the content that one table is given, and of another's that is kept, holds of either
pub content_with : (P : (n : TableName) → Content n → Type 0) (name other : TableName) (c : Content name) (t : Tables)
    → P name c
    → ((place_of other ≡ place_of name → ⊥) → P other (content other t))
    → P other (content other (with_content name c t))
content_with P name other c t own kept = elim (cases_Bool (place_of other == place_of name)) [
  | inl same ↦ search (arith, same_place, eqb-true, content_is)
  | inr differs ↦
      let is =
      ap (λ b. cond b (content other t) (content other (with_content name c t))) (sym differs)
      ∙ other_kept name other c t in
      subst (P other) (sym is) (kept (λ same. let equal = eq-eqb (place_of other) (place_of name) same in absurd cc))
]

-- ---- where they stand

-- how many tables of a new file stand in trees below this one
abbrev below : ℕ → ℕ
below tree = length (filter (λ name. nat_lt (fresh_tree name) tree) all_tables)

-- they are those before it
fresh_place : (name : TableName) → below (fresh_tree name) ≡ place_of name
fresh_place name = search arith

-- two tables of this program's version have two trees
abbrev pub AreApart : Layout → Type 0
AreApart = AreApartIn current

pub apart_all : (l : Layout) → AreApart l → (a b : TableName) → l.tree a ≡ l.tree b → place_of a ≡ place_of b
apart_all l apart a b same = apart a b (placed_low a) (placed_low b) same

-- so it is in a new file
pub fresh_apart : (more : List Index) → AreApart (fresh more)
fresh_apart more a b low_a low_b same = sym (fresh_place a) ∙ ap below same ∙ fresh_place b

-- ---- the text that makes it

-- a table as its text gives it: the tree is left open
abbrev pub unplaced : TableName → Table
unplaced name = record (table_of (fresh []) name) { tree = 0 }

-- what the text means where the tables before it are made
pub record IsCreate (name : TableName) : Type 0 where
  pub is : command_of (understood (schema_after (place_of name)) (create_statement name)) ≡ CreateTable
  pub whole : statement_of (create_statement name) (understood (schema_after (place_of name)) (create_statement name))
      ≡ create_statement name
  pub plain : IsPlain (understood (schema_after (place_of name)) (create_statement name))
  pub defined : table_defined_by (create_statement name) ≡ Ok (unplaced name)
  pub same : created (schema_after (place_of name)) (unplaced name) ≡ created (schema_after (place_of name))
      (table_of (fresh []) name)
  pub uncounted : lacks_sequence (created (schema_after (place_of name)) (table_of (fresh []) name)) ≡ false

pub create_is : (name : TableName) → IsCreate name
unfolding understood everything
create_is Meta = record { is = refl; whole = refl; plain = (refl, refl); defined = refl; same = refl; uncounted = refl }
create_is name = record { is = refl; whole = refl; plain = (refl, refl); defined = refl; same = refl; uncounted = refl }
