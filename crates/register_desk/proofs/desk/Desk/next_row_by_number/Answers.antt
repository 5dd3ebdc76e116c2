use Rattle.std.proofs.Common.{arith, rules}
use Rattle.register_desk.specs.Register.{tables}
use Rattle.register_desk.proofs.{Readings.sees_nothing, RowScan.none_after}
use Rattle.register_desk.proofs.desk.Desk.next_row_by_number.Goals as goal

pub returns-in_err-key-clause-reads : goal.returns-in_err-key-clause-reads
returns-in_err-key-clause-reads g c =
    sees_nothing g.S.Store _ _ _ _ _ c.each_key.ensures.reads c.each_key.ensures.sight

pub returns-then-last-self-clause-next : goal.returns-then-last-self-clause-next
returns-then-last-self-clause-next g c h stands whole clean =
    none_after (tables h) c.args.last c.args.self.now.keys stands.over.counted (omega arith)

pub returns-in-Some-clause-reads : goal.returns-in-Some-clause-reads
returns-in-Some-clause-reads g c = sees_nothing g.S.Store _ _ _ _ _ c.each_key.ensures.reads c.each_key.ensures.sight

pub returns-in-None-clause-reads : goal.returns-in-None-clause-reads
returns-in-None-clause-reads g c = sees_nothing g.S.Store _ _ _ _ _ c.each_key.ensures.reads c.each_key.ensures.sight

pub returns-in-None-clause-next : goal.returns-in-None-clause-next
returns-in-None-clause-next g c = search rules

pub returns-in-None-clause-counts_on : goal.returns-in-None-clause-counts_on
returns-in-None-clause-counts_on g c = search rules
