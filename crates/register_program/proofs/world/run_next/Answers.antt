use Rattle.std.proofs.Common.{refl}
use Rattle.register_program.specs.Sentence.{run_of}
use Rattle.register_program.proofs.FoundAgain.{asked_leads, stay_after}
use Rattle.register_program.proofs.world.run_next.Goals as goal

pub returns-clause-found : goal.returns-clause-found
returns-clause-found g c honest =
    let contents = g.W.Writer.Write.contents in
    let visits = g.W.Network.Network.visits in
    let runs = g.W.World.runs in
    let begun = g.W.World.begun c.ask.new.self in
    let was = g.W.World.now c.args.world.now c.args.path.now in
    let now = g.W.World.now c.ask.new.self c.args.path.now in
    let left = g.W.World.now c.take_back.new.self c.args.path.now in
    let ran = c.run_asked-ran.result in
    let asked = c.take_back.ensures.honest honest in
    let of = c.in-Some.ensures in
    stay_after (runs c.args.world.now) was (runs c.ask.new.self) now (run_of contents visits begun now ran left)
    (runs c.take_back.new.self) (of.runs asked) (of.now asked) refl
    (asked_leads g.W.Files.Opened.Store g.W.Files.Files.may_leave g.W.Files.Files.may_leave_failed
    g.W.Reader.Read.remaining contents visits c.in-Some.asked ran begun
    (g.W.Files.Files.start c.in-Some.asked.files c.args.path.now) now (of.begins asked) (of.files asked)
    c.run_asked-ran.ensures.leads left (c.take_back.ensures.left honest)) (c.take_back.ensures.runs honest)
