-- What a database holds, as it is told of histories, and as what reads and writes tables has it: the same, where what
-- the tables hold is in its ranges.
use Rattle.std.proofs.Common.{◌≡◌, ◌≢◌, ℕ, zero, suc, ◌<◌, List, [], ◌∷◌, ◌++◌, length, map, refl, sym, ap}
use Rattle.std.proofs.Common.{◌∙◌, ◌↔◌, arith, inl, inr}
use Rattle.std.proofs.lemmas.Bool.{cases_lt}
use Rattle.std.specs.{List.AllByRecursion, List.AllPairs, List.slice_index_or, Result.result_unwrap_or}
use Rattle.sqlite.specs.{Effect.Database, Order.Row as Cells, Schema.Schema, Table.Table}
use Rattle.sqlite_catalog.specs.Listing.{automatic}
use Rattle.sqlite_resolve.specs.Define.{empty}
use Rattle.sqlite_schema.specs.declared.schema.Index.{Index}
use Rattle.moment_core.specs.Moment.{IsMoment}
use Rattle.register_requests.specs.declared.version.Version.{Version}
use Rattle.register_requests.specs.declared.version.Version.TheVariants.{First, Second}
use Rattle.register_core.specs.KeptReply.{IsKeptReply}
use Rattle.register_tables.specs.declared.table.TableName.TheVariants.{Meta, Keys, Custodian, Approval, Request, Period}
use Rattle.register_tables.specs.declared.table.TableName.TheVariants.{Quorum}
use Rattle.register_tables.specs.Tables.{AreRowsOf, tables_of, AreApartIn, IsInRange, IsKey, IsNamed, IsSetNeed}
use Rattle.register_tables.specs.Tables.{IsSetPeriod, Layout, ShowsIn, Tables, content, form, place_of, table_count}
use Rattle.register_tables.specs.Tables.{table_of}
use Rattle.register_tables.specs.Schema.{HoldsIn, IsRegisterIn, schema_in}
use Rattle.register_tables.specs.Held.{HasTables, schema_of, table}
use Rattle.register_tables.specs.declared.table.TableName.{TableName}
use Rattle.register_tables.proofs.EachTable.{create_is, unplaced}

-- what the tables hold is in its ranges
pub record AreInRange (t : Tables) : Type 0 where
  pub latest : IsMoment t.counts.latest
  pub keys : AllByRecursion IsKey t.keys
  pub custodians : AllByRecursion IsNamed t.custodians
  pub approvals : AllByRecursion IsNamed t.approvals
  pub requests : AllByRecursion IsKeptReply t.requests
  pub periods : AllByRecursion IsSetPeriod t.periods
  pub needs : AllByRecursion IsSetNeed t.needs

each : (t : Tables) → AreInRange t → (name : TableName) → IsInRange name (content name t)
each t are Meta = are.latest
each t are Keys = are.keys
each t are Custodian = are.custodians
each t are Approval = are.approvals
each t are Request = are.requests
each t are Period = are.periods
each t are Quorum = are.needs

-- ---- the schema

placed_in : (name : TableName) (tree : ℕ) → record (unplaced name) { tree = tree } ≡ (form name).table tree
placed_in Meta tree = refl
placed_in Keys tree = refl
placed_in Custodian tree = refl
placed_in Approval tree = refl
placed_in Request tree = refl
placed_in Period tree = refl
placed_in Quorum tree = refl

-- what the statement defines is the table as it is read and written
table_is : (name : TableName) (tree : ℕ) → table name tree ≡ (form name).table tree
table_is name tree =
    ap (λ r. record (result_unwrap_or r (empty [] [])) { tree = tree }) (create_is name).defined ∙ placed_in name tree

same_each : {X Y : Type 0} (f g : X → Y) → ((x : X) → f x ≡ g x) → (xs : List X) → map f xs ≡ map g xs
same_each f g same [] = refl
same_each f g same (x ∷ xs) = cc (same x, same_each f g same xs)

module _ (l : Layout) where
  tables_are : (names : List TableName) → map (λ name. table name (l.tree name)) names ≡ map (table_of l) names
  tables_are = same_each (λ name. table name (l.tree name)) (table_of l) (λ name. table_is name (l.tree name))

  abbrev index_there : TableName → Index
  index_there name = automatic (table_of l name) 0 (1 ∷ 2 ∷ []) (l.key_tree name)

  abbrev index_as : TableName → Index
  index_as name = automatic (table name (l.tree name)) 0 (1 ∷ 2 ∷ []) (l.key_tree name)

  indexes_are : (names : List TableName) → map index_as names ≡ map index_there names
  indexes_are = same_each index_as index_there
      (λ name. ap (λ (t : Table). automatic t 0 (1 ∷ 2 ∷ []) (l.key_tree name)) (table_is name (l.tree name)))

  abbrev schema_as : Version → Schema
  schema_as version = record {
    tables = map (table_of l) (tables_of version);
    indexes = map index_there (Custodian ∷ Approval ∷ Request ∷ []) ++ l.more;
    views = [];
  }

  computed : (version : Version) → schema_as version ≡ schema_in version l
  computed First = refl
  computed Second = refl

same_schema : (version : Version) (l : Layout) → schema_of version l ≡ schema_in version l
same_schema version l =
    ap (λ (ts : List Table). record {
      tables = ts;
      indexes = map (index_as l) (Custodian ∷ Approval ∷ Request ∷ []) ++ l.more;
      views = [];
    })
    (tables_are l (tables_of version))
    ∙ ap (λ (is : List Index). record { tables = map (table_of l) (tables_of version); indexes = is ++ l.more; views = [] })
    (indexes_are l (Custodian ∷ Approval ∷ Request ∷ []))
    ∙ computed l version

-- ---- rows

-- a form shows the rows of its content
shows_rows : (name : TableName) (v : Version) (t : Tables) (rows : List Cells)
    → AreRowsOf name v t rows ↔ ShowsIn v name (content name t) rows
shows_rows Meta v t rows = (λ are. are, λ shows. shows)
shows_rows Keys v t rows = (λ are. are, λ shows. shows)
shows_rows Custodian v t rows = (λ are. are, λ shows. shows)
shows_rows Approval v t rows = (λ are. are, λ shows. shows)
shows_rows Request v t rows = (λ are. are, λ shows. shows)
shows_rows Period v t rows = (λ are. are, λ shows. shows)
shows_rows Quorum v t rows = (λ are. are, λ shows. shows)

-- ---- trees of their own

-- the table at its place
at_place : (version : Version) (name : TableName) (d : TableName) → place_of name < table_count version
    → slice_index_or (tables_of version) (place_of name) d ≡ name
at_place First Meta d low = refl
at_place First Keys d low = refl
at_place First Custodian d low = refl
at_place First Approval d low = refl
at_place First Request d low = refl
at_place First Period d low = absurd (omega (arith, low))
at_place First Quorum d low = absurd (omega (arith, low))
at_place Second Meta d low = refl
at_place Second Keys d low = refl
at_place Second Custodian d low = refl
at_place Second Approval d low = refl
at_place Second Request d low = refl
at_place Second Period d low = refl
at_place Second Quorum d low = refl

-- and the place of the one there
place_at : (version : Version) (i : ℕ) (d : TableName) → i < length (tables_of version)
    → place_of (slice_index_or (tables_of version) i d) ≡ i
place_at First zero d low = refl
place_at First (suc zero) d low = refl
place_at First (suc (suc zero)) d low = refl
place_at First (suc (suc (suc zero))) d low = refl
place_at First (suc (suc (suc (suc zero)))) d low = refl
place_at First (suc (suc (suc (suc (suc i))))) d low = absurd (omega (arith, low))
place_at Second zero d low = refl
place_at Second (suc zero) d low = refl
place_at Second (suc (suc zero)) d low = refl
place_at Second (suc (suc (suc zero))) d low = refl
place_at Second (suc (suc (suc (suc zero)))) d low = refl
place_at Second (suc (suc (suc (suc (suc zero))))) d low = refl
place_at Second (suc (suc (suc (suc (suc (suc zero)))))) d low = refl
place_at Second (suc (suc (suc (suc (suc (suc (suc i))))))) d low = absurd (omega (arith, low))

module _ (version : Version) (l : Layout) where
  abbrev IsApart : Type 0
  IsApart = AllPairs (λ (a b : TableName). l.tree a ≢ l.tree b) (tables_of version)

  never : IsApart → (a b : TableName) → place_of a < place_of b → place_of b < table_count version
      → l.tree a ≢ l.tree b
  never apart a b less low same =
      let one = at_place version a Meta (omega (arith, less, low)) in
      let other = at_place version b Meta low in
      apart (place_of a) (place_of b) Meta less low
      (ap l.tree one ∙ same ∙ sym (ap l.tree other))

  apart_in : IsApart → AreApartIn version l
  apart_in apart a b low high same = elim (cases_lt (place_of a) (place_of b)) [
    | inl less ↦ absurd (never apart a b less high same)
    | inr no_less ↦ elim (cases_lt (place_of b) (place_of a)) [
      | inl more ↦ absurd (never apart b a more low (sym same))
      | inr no_more ↦ omega (arith, no_less, no_more)
    ]
  ]

  apart_of : AreApartIn version l → IsApart
  apart_of apart i j d less low same =
      let one = place_at version i d (omega (arith, less, low)) in
      let other = place_at version j d low in
      let equal = apart (slice_index_or (tables_of version) i d) (slice_index_or (tables_of version) j d)
      (omega (arith, less, low, one)) (omega (arith, low, other)) same in
      omega (arith, less, one, other, equal)

-- ---- both ways

pub register_of : (version : Version) (t : Tables) (db : Database) → HasTables version t db → IsRegisterIn version db.schema
register_of version t db has = record {
  layout = has.layout;
  apart = apart_in version has.layout has.apart;
  is = has.schema ∙ same_schema version has.layout;
}

pub holds_of : (version : Version) (t : Tables) (db : Database) → HasTables version t db → AreInRange t
    → HoldsIn version t db
unfolding register_of
holds_of version t db has are = record {
  schema = register_of version t db has;
  sound = has.sound;
  in_range = each t are;
  shown = λ name. (shows_rows name version t _).0 (has.rows name);
}

pub has_of : (version : Version) (t : Tables) (db : Database) → HoldsIn version t db → HasTables version t db
has_of version t db holds = record {
  layout = holds.schema.layout;
  apart = apart_of version holds.schema.layout holds.schema.apart;
  schema = holds.schema.is ∙ sym (same_schema version holds.schema.layout);
  sound = holds.sound;
  rows = λ name. (shows_rows name version t _).1 (holds.shown name);
}
