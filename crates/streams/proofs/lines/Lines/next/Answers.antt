use Rattle.std.proofs.Common.{◌≡◌, ◌++◌, ◌∙◌, length, rules, arith}
use Rattle.streams.proofs.LinesLemmas.{CutsLine-at_line_feed, CutsRest-at_end, Begun-refilled, Takes-more}
use Rattle.streams.proofs.LinesLemmas.{work_left-after_turn}
use Rattle.streams.proofs.lines.Lines.next.Goals as goal

pub returns-then-take_to_line_feed-clause-line : goal.returns-then-take_to_line_feed-clause-line
returns-then-take_to_line_feed-clause-line g c =
    λ _.
    let (so_far, begun) = c.loop-self.invariant.begun in
    let (part, unbroken, split, more) = c.if-take_to_line_feed.ensures.found in (
      so_far ++ part,
      CutsLine-at_line_feed _ _ c.loop-self.self c.take_to_line_feed.new.self so_far part begun
          unbroken split more,
    )

pub returns-then-take_to_line_feed-clause-end : goal.returns-then-take_to_line_feed-clause-end
returns-then-take_to_line_feed-clause-end g c = search rules

pub returns-in_err-refill-clause-taken : goal.returns-in_err-refill-clause-taken
returns-in_err-refill-clause-taken g c =
    let (bytes, before) = c.loop-self.invariant.taken in (
      bytes ++ c.refill.new.self.unread,
      Takes-more _ _ _ _ c.loop-self.self c.take_to_line_feed.new.self _ bytes _
          before c.if-take_to_line_feed.ensures.none.2.taken c.refill.ensures.taken,
    )

-- at the end of the input no line is cut off

pub returns-then-branch-eq0-clause-line : goal.returns-then-branch-eq0-clause-line
returns-then-branch-eq0-clause-line g c = λ is. absurd (cc)

pub returns-then-branch-eq0-clause-less : goal.returns-then-branch-eq0-clause-less
returns-then-branch-eq0-clause-less g c = λ is. absurd (cc)

pub returns-then-branch-eq0-clause-end : goal.returns-then-branch-eq0-clause-end
returns-then-branch-eq0-clause-end g c =
    λ _.
    let (so_far, begun) = c.loop-self.invariant.begun in
    let (unbroken, empty, more) = c.if-take_to_line_feed.ensures.none in
    let read = c.refill.ensures in
    let none_left : length c.refill.new.self.unread ≡ 0 = search rules in (
      so_far ++ c.loop-self.self.unread,
      CutsRest-at_end _ _ _ _
          (Begun-refilled _ _ _ c.loop-self.self c.take_to_line_feed.new.self c.refill.new.self so_far begun unbroken
          more read.line.0 read.line.1 read.taken.consumed) none_left,
    )

pub returns-then-branch-eq0-clause-taken : goal.returns-then-branch-eq0-clause-taken
returns-then-branch-eq0-clause-taken g c =
    let (bytes, before) = c.loop-self.invariant.taken in (
      bytes ++ c.refill.new.self.unread,
      Takes-more _ _ _ _ c.loop-self.self c.take_to_line_feed.new.self _ bytes _
          before c.if-take_to_line_feed.ensures.none.2.taken c.refill.ensures.taken,
    )

pub loop-self-preserved : goal.loop-self-preserved
loop-self-preserved g c =
    let (so_far, begun) = c.loop-self.invariant.begun in
    let (bytes, before) = c.loop-self.invariant.taken in
    let (unbroken, empty, more) = c.if-take_to_line_feed.ensures.none in
    let read = c.refill.ensures in
    let (later, most) = c.in_ok-refill.ensures.later in
    let less = work_left-after_turn c.loop-self.reader.turns c.refill.new.reader.turns c.loop-self.self.unread
    c.refill.new.self.unread later most read.short in
    record {
      begun = (
        so_far ++ c.loop-self.self.unread,
        Begun-refilled _ _ _ c.loop-self.self c.take_to_line_feed.new.self
            c.refill.new.self so_far begun unbroken more read.line.0 read.line.1 read.taken.consumed,
      );
      taken = (
        bytes ++ c.refill.new.self.unread,
        Takes-more _ _ _ _ c.loop-self.self c.take_to_line_feed.new.self _
            bytes _ before more.taken read.taken,
      );
      within = read.within;
      bounded = λ before. most;
      sound = c.in_ok-refill.ensures.sound ∙ c.loop-self.invariant.sound;
      turns = omega (arith, read.turns, c.loop-self.invariant.turns);
      work = omega (arith, less, c.loop-self.invariant.work);
    }
