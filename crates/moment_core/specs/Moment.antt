-- Moments: KMIP 1.2, Date-Time, without the negative ones and with a last one of this register's own.
use Rattle.std.specs.Prelude.{ℕ, ◌≤◌}

-- the second of the last moment, 9999-12-31T23:59:59Z
abbrev pub last_second : ℕ
last_second = 253_402_300_799

-- a second that is a moment
abbrev pub IsMoment : ℕ → Type 0
IsMoment seconds = seconds ≤ last_second
