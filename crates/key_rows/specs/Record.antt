-- A key as a reader is shown it by itself.
use Rattle.std.specs.Prelude.{ℕ, List}
use Rattle.register_core.specs.declared.view.Held.{Held}
use Rattle.key_rows.specs.declared.record.Record.{Record}

-- key k, which stands so and has this purpose
abbrev pub record_of : ℕ → List ℕ → Held → Record
record_of k purpose held = record {
  key = record { number = k; kind = held.kind; owner = held.owner; purpose = purpose; row = held.row };
  need = held.need;
  custodians = held.custodians;
  approvals = held.approvals;
}
