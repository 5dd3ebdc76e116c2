use Rattle.register_schema.proofs.migration.migrate.Goals as goal

pub returns-clause-migrated : goal.returns-clause-migrated
returns-clause-migrated g c = c.change_schema.ensures.made

-- it cites the one before it, and so is not tried where that fails
pub returns-clause-there : goal.returns-clause-there
returns-clause-there g c = let migrated = returns-clause-migrated g c in c.change_schema.ensures.there
