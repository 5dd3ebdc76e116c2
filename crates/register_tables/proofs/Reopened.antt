-- Tables are told by the trees: a sound database with the same trees holds the same tables.
use Rattle.std.proofs.Common.{◌≡◌, arith, sym, subst, ◌∙◌}
use Rattle.sqlite.specs.{Effect.Database, Effect.IsDatabase, Tree.Trees}
use Rattle.sqlite_catalog.proofs.ReadLemmas.{lists_once}
use Rattle.register_requests.specs.declared.version.Version.{Version}
use Rattle.register_tables.specs.Tables.{AreRowsOf, Tables}
use Rattle.register_tables.specs.Held.{HasTables}

same_schema : (a b : Database) → IsDatabase a → IsDatabase b → a.trees ≡ b.trees → a.schema ≡ b.schema
same_schema a b x y same = search (arith, lists_once)

pub has_again : (version : Version) (t : Tables) (a b : Database) → HasTables version t a → IsDatabase b
    → b.trees ≡ a.trees → HasTables version t b
has_again version t a b has sound same = record {
  layout = has.layout;
  apart = has.apart;
  schema = same_schema b a sound has.sound same ∙ has.schema;
  sound = sound;
  rows = λ name. subst (λ (trees : Trees). AreRowsOf name version t (trees (has.layout.tree name))) (sym same)
      (has.rows name);
}
