use Rattle.std.proofs.Common.{rules, inr, take, drop, take-append-drop, subst, sym, length-take-le, refl, List, ℕ}
use Rattle.register_http.specs.SentReply.{Sends}
use Rattle.register_http.proofs.exchanging.send_reply.Goals.{in-Ok, in-Err}
use Rattle.register_http.proofs.exchanging.send_reply.Goals as goal

pub returns-clause-sends : goal.returns-clause-sends
returns-clause-sends g c = elim c.match-write_flushed.branch [
  | in-Ok w ↦ rw (w.written-is) (search rules)
  | in-Err w ↦
      let n = w.in-Err.fault.written in
      let reply = c.reply_bytes-reply.result.now in
      rw (w.written-is)
      (subst (λ (r : List ℕ). Sends r (g.W.Write.contents c.args.writer.now.inner)
      (g.W.Write.contents c.write_flushed.new.self.inner) n 0) c.reply_bytes-reply.ensures (record {
        part = take n reply;
        prefix = (drop n reply, take-append-drop n reply);
        wrote = w.in-Err.ensures.part;
        counted = sym (length-take-le n reply w.in-Err.ensures.bound);
        whole = inr refl;
      }))
]
