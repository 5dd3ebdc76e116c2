use Rattle.std.proofs.Common.{take, drop, refl, arith}
use Rattle.std.proofs.lemmas.List.{length-take-le, take-append-drop}
use Rattle.register_report.proofs.table_writing.put_text.Goals as goal

pub returns-in-Err-clause-puts : goal.returns-in-Err-clause-puts
returns-in-Err-clause-puts g c =
    let text = c.args.text.now in
    let taken = c.in-Err.fault.written in
    let counted = length-take-le taken text c.in-Err.ensures.bound in
    record {
      bytes = take taken text;
      puts = record {
        written = c.in-Err.ensures.part;
        counted = omega (arith, counted);
        flushed = λ other. absurd (other refl);
        fault = λ is. c.in-Err.ensures.err;
        bounded = c.in-Err.ensures.bounded;
      };
      prefix = (drop taken text, take-append-drop taken text);
      whole = tt;
    }
