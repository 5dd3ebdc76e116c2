use Rattle.std.proofs.Common.{◌≤◌, arith, sym, ◌∙◌}
use Rattle.moment_core.specs.Moment.{last_second}
use Rattle.register_words.proofs.Decimals.{reads_number}
use Rattle.register_words.proofs.values.read_moment_in_seconds.Goals as goal

pub returns : goal.returns
returns c =
    reads_number (λ x. x ≤ last_second)
    (λ x in_range. omega arith) c.args.text.now c.new.result c.in_ok-read_decimal.field-0 (omega arith)
    (sym c.as_bytes.ensures.value ∙ c.in_ok-read_decimal.ensures.found) c.new.ensures.in_range
    c.new.ensures.value
