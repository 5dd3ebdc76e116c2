use Rattle.std.proofs.Common.{◌+◌, ◌++◌, length, rules, ap, ◌∙◌, length-append}
use Rattle.std.proofs.KnownBytes.{Consumes-trans}
use Rattle.http_messages.specs.Asked.{bad_head, large_head}
use Rattle.http_messages.proofs.Inputs.{bad_input, large_input, whole_asked, unread_asks}
use Rattle.http_messages.proofs.asking.read_head_then_asked.Goals as goal

pub returns-in-Ok-Bad-clause-asks : goal.returns-in-Ok-Bad-clause-asks
returns-in-Ok-Bad-clause-asks g c = λ input known.
    let found = rw c.in-Ok-Bad.field-0-is at c.in-Ok-Bad.ensures.found in
    unread_asks input _ c.rejected.result c.rejected.ensures
    (bad_head (bad_input _ _ input _ known c.read_head.ensures.bytes c.read_head.ensures.short found))

pub returns-in-Ok-TooLarge-clause-asks : goal.returns-in-Ok-TooLarge-clause-asks
returns-in-Ok-TooLarge-clause-asks g c = λ input known.
    let found = rw c.in-Ok-TooLarge.field-0-is at c.in-Ok-TooLarge.ensures.found in
    unread_asks input _ c.rejected-in-Ok-TooLarge.result c.rejected-in-Ok-TooLarge.ensures
    (large_head (large_input _ _ input _ known c.read_head.ensures.bytes found))

pub returns-in-Ok-Whole-clause-asks : goal.returns-in-Ok-Whole-clause-asks
returns-in-Ok-Whole-clause-asks g c = λ input known.
    let found = rw c.in-Ok-Whole.field-0-is at c.in-Ok-Whole.ensures.found in
    whole_asked _ _ input c.read_head.new.self c.bytes.result.now c.read_head.new.headers c.in-Ok-Whole.spans
    c.read_asked_by_head.result.asked known c.read_head.ensures.bytes c.read_head.ensures.short (search rules) found
    c.bytes.ensures.value c.read_asked_by_head.ensures.asks

pub returns-in-Ok-Whole-clause-reads : goal.returns-in-Ok-Whole-clause-reads
returns-in-Ok-Whole-clause-reads g c =
    let reads = c.read_asked_by_head.ensures.reads in
    let (more, took, long) = reads.read in
    record {
      read = (
        c.read_head.new.self ++ more,
        Consumes-trans _ _ _ _ _ c.read_head.ensures.bytes took,
        length-append c.read_head.new.self more ∙ ap (λ n. length c.read_head.new.self + n) long,
      );
      few = reads.few;
      in_range = reads.in_range;
      tells = λ sound failed. reads.tells (c.in-Ok-Whole.ensures.sound ∙ sound) failed;
      fault = reads.fault;
      bounded = λ before. reads.bounded (c.read_head.ensures.bounded before);
    }

pub returns-in-Err-clause-reads : goal.returns-in-Err-clause-reads
returns-in-Err-clause-reads g c = search rules
