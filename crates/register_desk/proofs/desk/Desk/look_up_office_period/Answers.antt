use Rattle.std.proofs.Common.{refl}
use Rattle.register_desk.proofs.Readings.{looks_handed, sees_nothing}
use Rattle.register_desk.proofs.desk.Desk.look_up_office_period.Goals as goal

pub returns-clause-looks : goal.returns-clause-looks
returns-clause-looks g c whole =
    looks_handed g.S.Store _ 2 _ _ _ whole _ c.find_office_period.ensures.reads
    (λ h stands clean. c.find_office_period.ensures.counted) _ refl

pub returns-clause-reads : goal.returns-clause-reads
returns-clause-reads g c =
    sees_nothing g.S.Store _ _ _ _ _ c.find_office_period.ensures.reads c.find_office_period.ensures.sight
