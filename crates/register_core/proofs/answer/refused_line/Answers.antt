use Rattle.std.proofs.Common.{◌≡◌, ℕ, ◌+◌, ◌≤◌, List, ◌++◌, length, ap, ◌∙◌, arith, length-append}
use Rattle.std.proofs.lemmas.Fmt.{length-decimal-le}
use Rattle.std.specs.Prelude.{decimal}
use Rattle.register_core.specs.declared.reply.Refusal.TheVariants.{ApprovalsMissing}
use Rattle.register_core.specs.{declared.reply.Refusal.Refusal, Reply.refusal_number, Reply.refusal_name}
use Rattle.register_core.proofs.answer.refused_line.Goals as goal

-- This refusal's number has two digits, where `put_number` says only that a number has at most twenty, and its name
-- sixteen letters.
short_start : (refusal : Refusal) (have need n m : ℕ) (before after name : List ℕ)
    → refusal ≡ ApprovalsMissing have need → n ≡ refusal_number refusal → m ≡ n
    → after ≡ before ++ decimal m → name ≡ refusal_name refusal → (length after ≤ length before + 2)
    × (length name ≡ 16)
short_start refusal have need n m before after name is number from text named =
    let whole : length after
    ≡ length before
    + length (decimal 18) = ap length
    (text ∙ ap (λ (k : ℕ). before ++ decimal k) (from ∙ number ∙ ap refusal_number is))
    ∙ length-append before (decimal 18) in (
      omega (arith, length-decimal-le 2 18 (omega arith) (omega arith) (omega arith)),
      ap length (named ∙ ap refusal_name is),
    )

pub put_number-requires-in-ApprovalsMissing-2 : goal.put_number-requires-in-ApprovalsMissing-2
put_number-requires-in-ApprovalsMissing-2 c =
    let fresh = ap length c.new-line.ensures in
    let start = short_start c.args.refusal.now c.in-ApprovalsMissing.have c.in-ApprovalsMissing.need c.number.result
    c.from.result c.push_str.new.self.bytes c.put_number.new.line.bytes c.name.result.now c.in-ApprovalsMissing.is
    c.number.ensures c.from.ensures c.put_number.ensures.bytes c.name.ensures in
    (omega arith, omega arith)

pub returns-in-ApprovalsMissing-clause-room : goal.returns-in-ApprovalsMissing-clause-room
returns-in-ApprovalsMissing-clause-room c =
    let fresh = ap length c.new-line.ensures in
    let start = short_start c.args.refusal.now c.in-ApprovalsMissing.have c.in-ApprovalsMissing.need c.number.result
    c.from.result c.push_str.new.self.bytes c.put_number.new.line.bytes c.name.result.now c.in-ApprovalsMissing.is
    c.number.ensures c.from.ensures c.put_number.ensures.bytes c.name.ensures in
    omega arith
