-- An empty database shows no register.
use Rattle.std.proofs.Common.{◌≡◌, List, ℕ, Err, Ok, codes, refl, sym, ap, ◌∙◌}
use Rattle.sqlite.specs.{Listing.understood, Listing.listing_schema, State.State, State.Shown, Schema.Schema}
use Rattle.sqlite_resolve.specs.{declared.compiled.Compiled.Compiled, declared.error.CompileError.CompileError}
use Rattle.sqlite_tied.specs.Compute.{everything}
use Rattle.register_requests.specs.declared.version.Version.{Version}
use Rattle.register_requests.specs.declared.version.Version.TheVariants.{First, Second}
use Rattle.register_checks.specs.CheckedTables.{ArePassed, Passes}
use Rattle.register_checks.specs.{OpeningChecks.checked, Stored.Stored}
use Rattle.register_tables.specs.Schema.{no_schema}
use Rattle.register_desk.specs.Within.{ShowsNothing}

-- the query that the check of meta makes
abbrev meta_query : List ℕ
meta_query = codes "SELECT id, version, latest, key_count FROM meta ORDER BY id"

no_meaning : (fault : CompileError) × (understood no_schema meta_query ≡ Err fault)
unfolding understood listing_schema everything
no_meaning = (_, refl)

has_none : (schema : Schema) (c : Compiled) → schema ≡ no_schema → understood schema meta_query ≡ Ok c → ⊥
has_none schema c none some =
    let fault = ap (λ (schema : Schema). understood schema meta_query) none ∙ no_meaning.1 in
    let both = sym some ∙ fault in absurd (cc)

-- it is the first one, in either version
has_meta : (version : Version) (t : Stored) (s : State) → ShowsNothing s → ArePassed (checked version) t s s → ⊥
unfolding Shown
has_meta First t s none passed =
    let shown = passed.0.0.0.0.1.shown in has_none s.now.schema shown.0 none shown.1.is
has_meta Second t s none passed =
    let shown = passed.0.0.0.0.0.0.1.shown in has_none s.now.schema shown.0 none shown.1.is

pub passes_nothing : (t : Stored) (s : State) → ShowsNothing s → Passes t s s → ⊥
passes_nothing t s none passes = has_meta t.version t s none passes.passed
