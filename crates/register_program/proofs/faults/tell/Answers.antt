use Rattle.std.proofs.Common.{List, ℕ, subst}
use Rattle.register_program.specs.Faults.{Tells}
use Rattle.register_program.proofs.Told.{tells_by}
use Rattle.register_program.proofs.faults.tell.Goals as goal

pub returns : goal.returns
returns g c =
    let old = c.args.faults.now in
    let new = c.write_flushed.new.self in
    subst (λ (text : List ℕ). Tells g.E.Write.contents text old new) c.as_bytes.ensures.value
    (tells_by g.E.Write.contents c.as_bytes.result.now old new c.write_flushed.result c.write_flushed.ensures.bytes
    c.write_flushed.ensures.part c.write_flushed.ensures.err)
