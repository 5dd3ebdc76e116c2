use Rattle.std.proofs.Common.{◌≡◌, ◌∙◌, inl, inr, ap, subst}
use Rattle.sqlite.specs.Held.{state}
use Rattle.register_requests.specs.{Version.version_number, declared.version.Version.TheVariants.Second}
use Rattle.register_checks.specs.CheckedTables.{BlamesNone, IsReasonAt}
use Rattle.register_tables.specs.{declared.table.TableName.TheVariants.Meta, Tables.no_rows}
use Rattle.register_checks.specs.Stored.{Stored}
use Rattle.register_checks.proofs.Chained.{version_of}
use Rattle.register_checks.proofs.checking.version.Goals as goal

any : Stored
any = record { version = Second; tables = no_rows }

pub returns-in-Ok-clause-tells : goal.returns-in-Ok-clause-tells
returns-in-Ok-clause-tells g c = record {
  told = λ clean. let it = (c.in-Ok.ensures.checks any).passed clean in
      inl (it.0, number_is ∙ ap (λ told. version_number told.0) it.3, it.2, it.1);
  refused = λ clean t. tt;
  own = λ clean t holds meets.
      number_is ∙ ap version_number (version_of c.in-Ok.found t ((c.in-Ok.ensures.checks t).told clean holds meets));
  blames_none = λ clean t holds meets. tt;
  survives = c.in-Ok.ensures.survives;
}
  where
    number_is : c.from.result ≡ version_number c.in-Ok.found.version
    number_is = c.from.ensures ∙ c.number.ensures

pub returns-in-Err-NewerVersion-clause-tells : goal.returns-in-Err-NewerVersion-clause-tells
returns-in-Err-NewerVersion-clause-tells g c =
    let old = state g.S.Store c.args.connection.now in
    let new = state g.S.Store c.check_and_read_meta.new.connection in
    let checks = c.in-Err-NewerVersion.ensures.checks in
    let is = c.in-Err-NewerVersion.field-0-is in
    record {
      told = λ clean. inr (subst (IsReasonAt Meta any old new) is ((checks any).refused clean));
      refused = λ clean t. tt;
      own = λ clean t holds meets. absurd (subst BlamesNone is ((checks t).blames_none clean holds meets));
      blames_none = λ clean t holds meets. tt;
      survives = c.in-Err-NewerVersion.ensures.survives;
    }

pub returns-in-Err : goal.returns-in-Err
returns-in-Err g c = record {
  idle = c.in-Err.ensures.idle;
  tells = record {
    told = λ clean. tt;
    refused = λ clean t. (c.in-Err.ensures.checks t).refused clean;
    own = λ clean t holds meets. tt;
    blames_none = λ clean t holds meets. (c.in-Err.ensures.checks t).blames_none clean holds meets;
    survives = c.in-Err.ensures.survives;
  };
}
