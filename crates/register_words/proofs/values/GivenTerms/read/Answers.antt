use Rattle.std.proofs.Common.{rules}
use Rattle.register_words.proofs.values.GivenTerms.read.Goals as goal

pub returns : goal.returns
returns c = record {
  moment = c.in_ok-read_moment_in_seconds.ensures;
  caller = c.in_ok-read_caller.ensures;
  first = c.in_ok-read_first_number.ensures;
}

pub returns-in_err-read_caller : goal.returns-in_err-read_caller
returns-in_err-read_caller c = search rules
