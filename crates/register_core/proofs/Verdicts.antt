-- A verdict beside the judgement that it rests on, and beside what is kept.
use Rattle.std.proofs.Common.{◌≡◌, true, List, [], ◌∷◌, Option, None, refl, arith}
use Rattle.register_core.specs.Verdict.{Verdict, Accepts, Repeats, Refuses, answer_by, told, verdict, verdict_by}
use Rattle.register_core.specs.Verdict.{judgement, judgement_in, verdict_in, repeated, unless_kept}
use Rattle.register_core.specs.{declared.kept_reply.KeptReply.KeptReply, declared.reply.Refusal.Refusal}
use Rattle.register_core.specs.{declared.reply.Reply.Reply, Answer.outcome, KeptReply.kept, KeptReply.kept_under}
use Rattle.register_requests.specs.declared.request.Command.{Command}
use Rattle.register_requests.specs.{declared.request.Request.Request, declared.version.Version.Version, Version.knows}

none_by : (j : Option Refusal) → verdict_by j ≡ Accepts → j ≡ None
none_by j e = grind arith

new_by : (l : List KeptReply) (c : Command) (v : Verdict) → unless_kept l c v ≡ Accepts → (l ≡ []) × (v ≡ Accepts)
new_by l c v e = grind arith

-- nothing is kept of an accepted request's caller and number before it
pub is_new : (h : List Request) (q : Request) → verdict h q ≡ Accepts → kept_under q.caller q.number (kept h) ≡ []
is_new h q accepted = (new_by (kept_under q.caller q.number (kept h)) q.command (verdict_by (judgement h q)) accepted).0

-- an accepted request is judged so
pub judged : (h : List Request) (q : Request) → verdict h q ≡ Accepts → judgement h q ≡ None
judged h q accepted = grind (arith, none_by)

-- what is accepted in a version is known there, new, and judged so
pub record IsJudged (version : Version) (h : List Request) (q : Request) : Type 0 where
  pub known : knows version q.command ≡ true
  pub new : kept_under q.caller q.number (kept h) ≡ []
  pub passed : judgement_in version h q ≡ None

pub judged_in : (version : Version) (h : List Request) (q : Request) → verdict_in version h q ≡ Accepts
    → IsJudged version h q
judged_in version h q accepted = grind (arith, new_by, none_by)

-- where nothing is kept under its caller and number, the verdict is what the judgement comes to
pub verdict_is : (h : List Request) (q : Request) (j : Option Refusal) → kept_under q.caller q.number (kept h) ≡ []
    → judgement h q ≡ j → verdict h q ≡ verdict_by j
verdict_is h q j none is = cc

-- where something is, it decides
pub verdict_again : (h : List Request) (q : Request) (before : KeptReply) (more : List KeptReply)
    → kept_under q.caller q.number (kept h) ≡ before ∷ more → verdict h q ≡ repeated before q.command
verdict_again h q before more found = cc

-- what a verdict tells is what the answer by it comes to
pub told_is : (v : Verdict) (new : Reply) → told v new ≡ outcome (answer_by v new)
told_is Accepts new = refl
told_is (Repeats first) new = refl
told_is (Refuses refusal) new = refl
