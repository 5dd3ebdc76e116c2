use Rattle.std.proofs.Common.{ℕ, List, Option, ap, subst, subst₂, sym, ◌∙◌}
use Rattle.std.proofs.KnownBytes.{Consumes-trans}
use Rattle.std.specs.Io.KnownBytes.{Consumes}
use Rattle.register_http.specs.Exchange.{Exchanges}
use Rattle.register_http.proofs.Served.{left_exchange}
use Rattle.register_http.proofs.serving.serve_connection.Goals as goal

-- what is known of the streams is known of the client's halves
pub returns-clause-exchanges : goal.returns-clause-exchanges
returns-clause-exchanges g c =
    let read_half = g.R.ReadHalf.remaining c.args.accepted.client.read_half in
    let of_reader = subst
    (λ (input : Option (List ℕ)). Exchanges g.S.Store c.args.accepted.moment input c.args.desk.now
    c.exchange-outcome.new.desk (g.W.WriteHalf.contents c.new-writer.result.inner.half)
    (g.W.WriteHalf.contents c.exchange-outcome.new.writer.inner.half) c.exchange-outcome.result)
    (ap (λ reader. g.R.ReadHalf.remaining reader.inner.half) c.new-reader.ensures) c.exchange-outcome.ensures.exchanges in
    subst₂
    (λ (before after : Option (List ℕ)). Exchanges g.S.Store c.args.accepted.moment read_half c.args.desk.now
    c.exchange-outcome.new.desk before after c.exchange-outcome.result)
    (ap (λ writer. g.W.WriteHalf.contents writer.inner.half) c.new-writer.ensures)
    (sym (c.end_writing.ensures.bytes ∙ ap (λ timed. g.W.WriteHalf.contents timed.half) c.into_inner-2.ensures))
    of_reader

pub returns-clause-reads : goal.returns-clause-reads
returns-clause-reads g c =
    let took = c.exchange-outcome.ensures.reader.took in
    let lost = c.drain.ensures.bytes in
    record {
      bytes = took.0;
      behind = lost.0;
      took = Consumes-trans _ (g.R.ReadHalf.remaining c.into_inner.result.half) _ took.0 lost.0
          (subst₂ (λ (before after : Option (List ℕ)). Consumes before after took.0)
          (ap (λ reader. g.R.ReadHalf.remaining reader.inner.half) c.new-reader.ensures)
          (sym (ap (λ timed. g.R.ReadHalf.remaining timed.half) c.into_inner.ensures)) took.1)
          lost.1;
      counted = took.2;
    }

pub returns-clause-desk : goal.returns-clause-desk
returns-clause-desk g c =
    left_exchange _ _ c.exchange-outcome.new.desk _ _ _ _ c.exchange-outcome.result c.exchange-outcome.ensures.exchanges
