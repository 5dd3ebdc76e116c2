use Rattle.register_rows.proofs.key_scan.each_key.Goals as goal

pub returns-clause-reads : goal.returns-clause-reads
returns-clause-reads g c = c.find_key_row.ensures.reads
