use Rattle.register_desk.proofs.Readings.{sees_nothing}
use Rattle.register_desk.proofs.desk.Desk.next_due_row_by_stop.Goals as goal

pub returns-in_err-number-clause-reads : goal.returns-in_err-number-clause-reads
returns-in_err-number-clause-reads g c =
    sees_nothing g.S.Store _ _ _ _ _ c.each_due.ensures.reads c.each_due.ensures.sight

pub returns-in-Ok-clause-reads : goal.returns-in-Ok-clause-reads
returns-in-Ok-clause-reads g c = sees_nothing g.S.Store _ _ _ _ _ c.each_due.ensures.reads c.each_due.ensures.sight

pub returns-in-Err-clause-reads : goal.returns-in-Err-clause-reads
returns-in-Err-clause-reads g c = sees_nothing g.S.Store _ _ _ _ _ c.each_due.ensures.reads c.each_due.ensures.sight

pub returns-in-None-clause-reads : goal.returns-in-None-clause-reads
returns-in-None-clause-reads g c = sees_nothing g.S.Store _ _ _ _ _ c.each_due.ensures.reads c.each_due.ensures.sight
