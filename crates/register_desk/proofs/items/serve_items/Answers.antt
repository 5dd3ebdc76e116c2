use Rattle.std.proofs.Common.{◌≡◌, ◌∙◌, ℕ, ◌+◌, Ok, add-zero, ap, arith, inl, inr, refl}
use Rattle.register_desk.specs.declared.items.NextItem.TheVariants.{Item, End as NextEnd}
use Rattle.register_desk.specs.declared.outcome.Finish.TheVariants.{AtEnd, Ended}
use Rattle.register_desk.specs.{declared.end.End.End, declared.end.End.TheVariants.WriteFault}
use Rattle.register_desk.proofs.Lived.{goes_then, leaves_going, leaves_stopped, still}
use Rattle.register_desk.proofs.Serving.{flushed_same, leaves_sound, leaves_unread, none_written, of_reading_sound}
use Rattle.register_desk.proofs.Serving.{served_more, served_none, wrote_begin, wrote_item, wrote_part}
use Rattle.register_desk.proofs.items.serve_items.Goals as goal

pub loop-item-init : goal.loop-item-init
loop-item-init g c = record {
  ready = c.requires.ready;
  served = served_none (g.W.Write.contents c.args.writer.now.inner) c.args.desk.now c.requires.begins;
  wrote = wrote_begin (g.W.Write.contents c.args.writer.now.inner);
  some = omega arith;
  short = omega arith;
  idle_bounded = omega (arith, c.requires.idles);
  flushed = inr (refl, refl);
  goes_on = still g.S.Store c.args.desk.now;
}

pub loop-item-preserved : goal.loop-item-preserved
loop-item-preserved g c =
    let invariant = c.loop-item.invariant in
    let next = c.next_item.ensures in
    let is : c.next_item.result ≡ Ok (Item c.in-Ok-Item.item) = rw c.in-Ok-Item.field-0-is at c.in-Ok-Item.is in
    record {
      ready = c.in-Ok-Item.ensures.ready;
      served = served_more (c.next_item.new.self, c.next_item.new.input) c.in-Ok-Item.item invariant.served
          (next.came c.in-Ok-Item.item is _ _ invariant.served.came) (next.in_range c.in-Ok-Item.item is)
          c.in-Ok.ensures.serves c.in-Ok.ensures.goes_on;
      wrote = wrote_item g.S.Store _ _ _ c.loop-item.desk c.answer_item.new.desk c.in-Ok-Item.item
          c.loop-item.written c.in-Ok.count invariant.wrote c.in-Ok.ensures.serves;
      some = omega (arith, next.less c.in-Ok-Item.item is, invariant.some);
      short = omega (arith, invariant.short, c.in-Ok.ensures.short);
      idle_bounded = c.in-Ok.ensures.bounded invariant.idle_bounded;
      flushed = inl c.in-Ok.ensures.flushed;
      goes_on = goes_then g.S.Store c.args.desk.now c.loop-item.desk c.answer_item.new.desk invariant.goes_on
          c.in-Ok.ensures.goes_on;
    }

-- ---- the item ended it

pub returns-in-Err-answer_item-clause-serves : goal.returns-in-Err-answer_item-clause-serves
returns-in-Err-answer_item-clause-serves g c =
    let is : c.next_item.result ≡ Ok (Item c.in-Ok-Item.item) = rw c.in-Ok-Item.field-0-is at c.in-Ok-Item.is in
    record {
      to = inr (record {
        place = (c.loop-item.source, c.loop-item.input);
        so_far = g.W.Write.contents c.loop-item.writer.inner;
        mid = c.loop-item.desk;
        item = c.in-Ok-Item.item;
        part = c.in-Err-answer_item.stop.written;
        served = c.loop-item.invariant.served;
        in_range = c.next_item.ensures.in_range c.in-Ok-Item.item is;
        came = c.next_item.ensures.came c.in-Ok-Item.item is _ _ c.loop-item.invariant.served.came;
        leaves = c.in-Err-answer_item.ensures.stop;
      });
    }

pub returns-in-Err-answer_item-clause-writer : goal.returns-in-Err-answer_item-clause-writer
returns-in-Err-answer_item-clause-writer g c =
    let invariant = c.loop-item.invariant in
    let stop = c.in-Err-answer_item.ensures in
    record {
      wrote =
          wrote_part g.S.Store _ _ _ c.loop-item.desk c.answer_item.new.desk c.in-Ok-Item.item
          c.in-Err-answer_item.stop.end c.loop-item.written c.in-Err-answer_item.stop.written invariant.wrote stop.stop;
      flushed =
          λ sound.
          let other = λ (fault : c.in-Err-answer_item.stop.end ≡ WriteFault).
          sound (ap (λ (end : End). Ended end) fault) in
          let none = none_written g.S.Store _ _ _ _ _ c.in-Err-answer_item.stop.end
          c.in-Err-answer_item.stop.written stop.stop other in
          flushed_same (ap (λ (n : ℕ). c.loop-item.written + n) none ∙ add-zero c.loop-item.written)
          (ap (λ x. x.unflushed) (stop.untouched other)) invariant.flushed;
      fault = λ is. let same : c.in-Err-answer_item.stop.end ≡ WriteFault = cc in stop.cause same;
      bounded = stop.bounded invariant.idle_bounded;
    }

pub returns-in-Err-answer_item-clause-desk : goal.returns-in-Err-answer_item-clause-desk
returns-in-Err-answer_item-clause-desk g c =
    leaves_stopped g.S.Store c.args.desk.now c.loop-item.desk c.answer_item.new.desk
    c.in-Err-answer_item.stop.end c.loop-item.invariant.goes_on c.in-Err-answer_item.ensures.ends

-- ---- no further item

pub returns-in-Ok-End-clause-serves : goal.returns-in-Ok-End-clause-serves
returns-in-Ok-End-clause-serves g c =
    let is : c.next_item.result ≡ Ok (NextEnd c.in-Ok-End.rest) = rw c.in-Ok-End.field-0-is at c.in-Ok-End.is in
    record {
      to = record {
        place = (c.loop-item.source, c.loop-item.input);
        served = c.loop-item.invariant.served;
        ends = c.next_item.ensures.ends c.in-Ok-End.rest is;
      };
    }

pub returns-in-Ok-End-clause-writer : goal.returns-in-Ok-End-clause-writer
returns-in-Ok-End-clause-writer g c =
    leaves_sound g.W.Write.contents c.args.writer.now c.loop-item.writer _ c.loop-item.invariant.wrote
    c.loop-item.invariant.flushed c.loop-item.invariant.idle_bounded (λ is. cc)

pub returns-in-Ok-End-clause-desk : goal.returns-in-Ok-End-clause-desk
returns-in-Ok-End-clause-desk g c =
    leaves_going g.S.Store c.args.desk.now c.loop-item.desk (AtEnd c.in-Ok-End.rest) (λ is. cc) (λ is. cc)
    c.loop-item.invariant.goes_on

-- ---- an item that could not be read

pub returns-in-Err-clause-serves : goal.returns-in-Err-clause-serves
returns-in-Err-clause-serves g c = record {
  to = inl (record {
    place = (c.loop-item.source, c.loop-item.input);
    served = c.loop-item.invariant.served;
    of_reading = c.in-Err.ensures.of_reading;
    fails = c.in-Err.ensures.fails;
  });
}

pub returns-in-Err-clause-writer : goal.returns-in-Err-clause-writer
returns-in-Err-clause-writer g c =
    leaves_sound g.W.Write.contents c.args.writer.now c.loop-item.writer _ c.loop-item.invariant.wrote
    c.loop-item.invariant.flushed c.loop-item.invariant.idle_bounded
    (of_reading_sound c.in-Err.end c.in-Err.ensures.of_reading)

pub returns-in-Err-clause-desk : goal.returns-in-Err-clause-desk
returns-in-Err-clause-desk g c =
    leaves_unread g.S.Store c.args.desk.now c.loop-item.desk c.in-Err.end c.in-Err.ensures.of_reading
    c.loop-item.invariant.goes_on
