-- What a run of the program reads and writes, and whom it serves.
use Rattle.std.specs.Prelude.{ℕ, List, Option}
use Rattle.machine_traits.specs.Network.{Visit}
use Rattle.streams.specs.declared.watched.Watched.{Watched}
use Rattle.register_program.specs.declared.acting.Asked.{Asked}
use Rattle.register_program.specs.{declared.acting.Inputs.Inputs, declared.acting.Ran.Ran}

-- What was to come of its input; what had been written before it and was then; and what the network had had before it
-- and had then: where these are known. And how many clients were accepted.
pub record Traffic : Type 0 where
  pub input : Option (List ℕ)
  pub old : Option (List ℕ)
  pub new : Option (List ℕ)
  pub before : Option (List Visit)
  pub after : Option (List Visit)
  pub accepted : ℕ

module _ {R W N : Type 0} (remaining : R → Option (List ℕ)) (contents : W → Option (List ℕ))
    (visits : N → Option (List Visit)) where
  -- by what comes in and what is written to
  abbrev pub traffic_of : Inputs R N → Inputs R N → Watched W → Watched W → Traffic
  traffic_of inputs inputs_new writer writer_new = record {
    input = remaining inputs.reader.inner;
    old = contents writer.inner;
    new = contents writer_new.inner;
    before = visits inputs.network;
    after = visits inputs_new.network;
    accepted = inputs_new.attendance.accepted;
  }

  -- of a run that was asked for, by what it gives back
  abbrev pub traffic_through : {F S U E : Type 0} → Asked F N R W E → Ran S U N R W E → Traffic
  traffic_through asked ran = record {
    input = remaining asked.reader;
    old = contents asked.outputs.writer.inner;
    new = contents ran.outputs.writer.inner;
    before = visits asked.network;
    after = visits ran.inputs.network;
    accepted = ran.inputs.attendance.accepted;
  }
