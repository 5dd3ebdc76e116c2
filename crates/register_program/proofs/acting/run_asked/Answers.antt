use Rattle.register_program.proofs.acting.run_asked.Goals as goal

pub returns-clause-leads : goal.returns-clause-leads
returns-clause-leads g c = rw (c.new.ensures) at c.act-acted.ensures.leads
