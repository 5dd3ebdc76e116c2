use Rattle.std.proofs.Common.{refl}
use Rattle.register_desk.proofs.Readings.{asks_answered, asks_ended, never_memory}
use Rattle.register_desk.proofs.desk.Desk.period.Goals as goal

pub returns-in-Ok-clause-asks : goal.returns-in-Ok-clause-asks
returns-in-Ok-clause-asks g c = asks_answered g.S.Store 2 _ _ _ c.if-self.false c.in-Ok.ensures.looks

pub returns-in-Err-clause-asks : goal.returns-in-Err-clause-asks
returns-in-Err-clause-asks g c =
    asks_ended g.S.Store 2 _ _ _ _ _ c.if-self.false c.in-Err.ensures.looks c.end_at.ensures.end c.end_at.ensures.left

pub returns-in-Err-clause-no_memory : goal.returns-in-Err-clause-no_memory
returns-in-Err-clause-no_memory g c =
    never_memory g.S.Store _ _ _ _ refl refl c.end_at.ensures.end c.in-Err.ensures.no_memory
