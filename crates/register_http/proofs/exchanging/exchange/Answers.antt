use Rattle.std.proofs.Common.{rules, refl, ap, ◌∙◌, ℕ}
use Rattle.moment_core.specs.Moment.{IsMoment}
use Rattle.streams.specs.declared.watched.Watched.{Watched}
use Rattle.register_desk.specs.declared.outcome.Outcome.{Outcome}
use Rattle.register_http.proofs.ServingLemmas.{leaves_one, was_clean, leaves_reader, sent_answer, sent_memory}
use Rattle.register_http.proofs.ServingLemmas.{sent_no_reply, sent_nothing, served_after}
use Rattle.register_http.proofs.exchanging.exchange.Goals.{in-Ok-Some, in-Err-Memory}
use Rattle.register_http.proofs.exchanging.exchange.Goals as goal

-- ---- nothing was asked

pub returns-in-Ok-None-clause-exchanges : goal.returns-in-Ok-None-clause-exchanges
returns-in-Ok-None-clause-exchanges g c = record {
  asked = c.read_asked-asking.result.asked;
  asks = λ bytes known. c.read_asked-asking.ensures.asks bytes
      (ap (λ (r : Watched g.row.R.Denot). g.R.Read.remaining r.inner) c.reset_turn_counts.ensures ∙ known);
  in_range = c.read_asked-asking.ensures.in_range;
  serves = rw (c.with_read.ensures) (
      served_after g.S.Store c.args.moment c.args.desk.now c.args.desk.now c.read_asked-asking.result.asked _
      (g.W.Write.contents c.args.writer.now.inner) _ _ c.read_asked-asking.result.read
      (ap (λ (w : Watched g.row.W.Denot). g.W.Write.contents w.inner) c.reset_turn_counts-2.ensures)
      (sent_nothing g.S.Store c.args.moment c.args.desk.now c.args.desk.now c.read_asked-asking.result.asked _
      c.ended_without_bytes.result
      (search rules) refl c.ended_without_bytes.ensures));
}

pub returns-in-Ok-None-clause-leaves : goal.returns-in-Ok-None-clause-leaves
unfolding returns-in-Ok-None-clause-exchanges
returns-in-Ok-None-clause-leaves g c =
    let is_moment : IsMoment c.args.moment = search rules in
    leaves_one g.S.Store c.args.moment c.args.desk.now c.args.desk.now is_moment c.read_asked-asking.result.asked
    c.with_read.result _ _ c.read_asked-asking.ensures.in_range (returns-in-Ok-None-clause-exchanges g c).serves

pub returns-in-Ok-None-clause-clean : goal.returns-in-Ok-None-clause-clean
unfolding returns-in-Ok-None-clause-exchanges
returns-in-Ok-None-clause-clean g c =
    was_clean g.S.Store c.args.moment c.args.desk.now c.args.desk.now c.read_asked-asking.result.asked
    c.with_read.result _ _ (returns-in-Ok-None-clause-exchanges g c).serves

pub returns-in-Ok-None-clause-reader : goal.returns-in-Ok-None-clause-reader
unfolding returns-in-Ok-None-clause-exchanges
returns-in-Ok-None-clause-reader g c =
    let asked = c.read_asked-asking in
    leaves_reader g.S.Store c.args.moment c.args.desk.now c.args.desk.now asked.result.asked _ _ c.with_read.result
    (returns-in-Ok-None-clause-exchanges g c).serves g.R.Read.remaining c.args.reader.now _ asked.new.reader _
    c.reset_turn_counts.ensures (ap (λ (o : Outcome). o.read) c.with_read.ensures) asked.ensures.read
    asked.ensures.tells c.requires.reader asked.ensures.fault (search rules)

pub returns-in-Ok-None-clause-writer : goal.returns-in-Ok-None-clause-writer
returns-in-Ok-None-clause-writer g c = rw (c.with_read.ensures, c.ended_without_bytes.ensures) (search rules)

-- ---- the reader failed

pub returns-in-Err-ReadFault-clause-exchanges : goal.returns-in-Err-ReadFault-clause-exchanges
returns-in-Err-ReadFault-clause-exchanges g c = record {
  asked = c.read_asked-asking.result.asked;
  asks = λ bytes known. c.read_asked-asking.ensures.asks bytes
      (ap (λ (r : Watched g.row.R.Denot). g.R.Read.remaining r.inner) c.reset_turn_counts.ensures ∙ known);
  in_range = c.read_asked-asking.ensures.in_range;
  serves = rw (c.with_read-in-Err-ReadFault.ensures) (
      served_after g.S.Store c.args.moment c.args.desk.now c.args.desk.now c.read_asked-asking.result.asked _
      (g.W.Write.contents c.args.writer.now.inner) _ _ c.read_asked-asking.result.read
      (ap (λ (w : Watched g.row.W.Denot). g.W.Write.contents w.inner) c.reset_turn_counts-2.ensures)
      (sent_no_reply g.S.Store c.args.moment c.args.desk.now c.args.desk.now c.read_asked-asking.result.asked _
      c.ended_without_bytes-in-Err-ReadFault.result (search rules) refl
      c.ended_without_bytes-in-Err-ReadFault.ensures));
}

pub returns-in-Err-ReadFault-clause-leaves : goal.returns-in-Err-ReadFault-clause-leaves
unfolding returns-in-Err-ReadFault-clause-exchanges
returns-in-Err-ReadFault-clause-leaves g c =
    let is_moment : IsMoment c.args.moment = search rules in
    leaves_one g.S.Store c.args.moment c.args.desk.now c.args.desk.now is_moment c.read_asked-asking.result.asked
    c.with_read-in-Err-ReadFault.result _ _ c.read_asked-asking.ensures.in_range
    (returns-in-Err-ReadFault-clause-exchanges
    g c).serves

pub returns-in-Err-ReadFault-clause-clean : goal.returns-in-Err-ReadFault-clause-clean
unfolding returns-in-Err-ReadFault-clause-exchanges
returns-in-Err-ReadFault-clause-clean g c =
    was_clean g.S.Store c.args.moment c.args.desk.now c.args.desk.now c.read_asked-asking.result.asked
    c.with_read-in-Err-ReadFault.result _ _ (returns-in-Err-ReadFault-clause-exchanges g c).serves

pub returns-in-Err-ReadFault-clause-reader : goal.returns-in-Err-ReadFault-clause-reader
unfolding returns-in-Err-ReadFault-clause-exchanges
returns-in-Err-ReadFault-clause-reader g c =
    let asked = c.read_asked-asking in
    leaves_reader g.S.Store c.args.moment c.args.desk.now c.args.desk.now asked.result.asked _ _
    c.with_read-in-Err-ReadFault.result (returns-in-Err-ReadFault-clause-exchanges g c).serves g.R.Read.remaining c.args.reader.now _ asked.new.reader _
    c.reset_turn_counts.ensures (ap (λ (o : Outcome). o.read) c.with_read-in-Err-ReadFault.ensures) asked.ensures.read
    asked.ensures.tells c.requires.reader asked.ensures.fault (search rules)

pub returns-in-Err-ReadFault-clause-writer : goal.returns-in-Err-ReadFault-clause-writer
returns-in-Err-ReadFault-clause-writer g c =
    rw (c.with_read-in-Err-ReadFault.ensures, c.ended_without_bytes-in-Err-ReadFault.ensures) (search rules)

-- ---- a reply was sent

pub returns-clause-exchanges : goal.returns-clause-exchanges
returns-clause-exchanges g c = record {
  asked = c.read_asked-asking.result.asked;
  asks = λ bytes known. c.read_asked-asking.ensures.asks bytes
      (ap (λ (r : Watched g.row.R.Denot). g.R.Read.remaining r.inner) c.reset_turn_counts.ensures ∙ known);
  in_range = c.read_asked-asking.ensures.in_range;
  serves = rw (ap (λ (n : ℕ). record c.send_reply.result { read = n }) c.send_reply.ensures.read) (
      served_after g.S.Store c.args.moment c.args.desk.now c.match-asking.desk c.read_asked-asking.result.asked _
      (g.W.Write.contents c.args.writer.now.inner) _ _ c.read_asked-asking.result.read
      (ap (λ (w : Watched g.row.W.Denot). g.W.Write.contents w.inner) c.reset_turn_counts-2.ensures)
      (elim c.match-asking.branch [
        | in-Ok-Some w ↦ sent_answer g.S.Store c.args.moment c.args.desk.now c.match-asking.desk
            c.read_asked-asking.result.asked _ _ _ c.send_reply.result c.match-asking.answered _ _ w.desk-is
            w.answered-is
            w.answer_asked-answered.ensures.acts c.send_reply.ensures.sends c.send_reply.ensures.ends (search rules)
        | in-Err-Memory w ↦ sent_memory g.S.Store c.args.moment c.args.desk.now c.match-asking.desk
            c.read_asked-asking.result.asked _ _ c.send_reply.result c.match-asking.answered
            (search rules) w.desk-is w.answered-is c.send_reply.ensures.sends
            c.send_reply.ensures.ends
      ]));
}

pub returns-clause-leaves : goal.returns-clause-leaves
unfolding returns-clause-exchanges
returns-clause-leaves g c =
    let is_moment : IsMoment c.args.moment = search rules in
    leaves_one g.S.Store c.args.moment c.args.desk.now c.match-asking.desk is_moment c.read_asked-asking.result.asked
    c.send_reply.result _ _ c.read_asked-asking.ensures.in_range (returns-clause-exchanges g c).serves

pub returns-clause-clean : goal.returns-clause-clean
unfolding returns-clause-exchanges
returns-clause-clean g c =
    was_clean g.S.Store c.args.moment c.args.desk.now c.match-asking.desk c.read_asked-asking.result.asked
    c.send_reply.result _ _ (returns-clause-exchanges g c).serves

pub returns-clause-reader : goal.returns-clause-reader
unfolding returns-clause-exchanges
returns-clause-reader g c =
    let asked = c.read_asked-asking in
    leaves_reader g.S.Store c.args.moment c.args.desk.now c.match-asking.desk asked.result.asked _ _ c.send_reply.result
    (returns-clause-exchanges g c).serves g.R.Read.remaining c.args.reader.now _ asked.new.reader _
    c.reset_turn_counts.ensures c.send_reply.ensures.read asked.ensures.read
    asked.ensures.tells c.requires.reader asked.ensures.fault (search rules)

pub returns-clause-writer : goal.returns-clause-writer
returns-clause-writer g c = search rules
