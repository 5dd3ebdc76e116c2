-- What was told on the writer of faults.
use Rattle.std.proofs.Common.{ℕ, List, [], Option, None, Some, Result, Ok, Err, OnErr, take, drop, refl, sym}
use Rattle.std.proofs.lemmas.List.{append-nil, take-append-drop}
use Rattle.std.specs.{Prelude.IfErr, Prelude.OnOk, Io.KnownBytes.Appends}
use Rattle.streams.specs.{declared.watched.Watched.Watched, declared.watched.WriteFault.WriteFault, Watched.IsFaulted}
use Rattle.register_desk.specs.Run.{max_idle_turns}
use Rattle.register_program.specs.Faults.{Tells}

-- no byte more
appends_nothing : (bytes : Option (List ℕ)) → Appends bytes bytes []
appends_nothing None = tt
appends_nothing (Some xs) = sym (append-nil xs)

module _ {E : Type 0} (contents : E → Option (List ℕ)) where
  pub tells_by : (bytes : List ℕ) (old new : Watched E) (written : Result (Unit {0}) WriteFault)
      → OnOk written (Appends (contents old.inner) (contents new.inner) bytes)
      → IfErr written (λ fault. Appends (contents old.inner) (contents new.inner) (take fault.written bytes))
      → OnErr written (IsFaulted new.failed max_idle_turns new.idle) → Tells contents bytes old new
  tells_by bytes old new (Ok done) whole part faulted = record {
    part = bytes;
    prefix = ([], append-nil bytes);
    written = whole;
    whole = λ other. absurd (other refl);
  }
  tells_by bytes old new (Err fault) whole part faulted = record {
    part = take fault.written bytes;
    prefix = (drop fault.written bytes, take-append-drop fault.written bytes);
    written = part;
    whole = λ other. faulted;
  }
