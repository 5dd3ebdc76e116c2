-- Usage periods, in months. The months and their ranges are this register's own; what they bound is modelled on SP
-- 800-57 Part 1 Revision 5, sections 5.3.4 and 5.3.5.
use Rattle.std.specs.Prelude.{ℕ, ◌≤◌, Option, unwrap_or}
use Rattle.period_core.specs.{declared.key_type.KeyType.KeyType, KeyType.key_type_row}

-- How many months originator use has at most, from Activation to Protect Stop, in which protection is applied; and how
-- many recipient use, in which protected data is processed from Activation on, has at most after Protect Stop, up to
-- Deactivation.
pub record Period : Type 0 where
  pub originator : ℕ
  pub recipient : ℕ

-- the period of so many months of originator use and of recipient use
abbrev pub of_months : ℕ → ℕ → Period
of_months originator recipient = record { originator = originator; recipient = recipient }

-- how many months either number of a period is at most
abbrev pub max_months : ℕ
max_months = 1200

-- at least one month of originator use; recipient use may have none after it
pub record IsPeriod (p : Period) : Type 0 where
  pub some : 1 ≤ p.originator
  pub originator : p.originator ≤ max_months
  pub recipient : p.recipient ≤ max_months

-- The default usage periods of a key type, in months, which hold where the office has set none (after the cryptoperiods
-- of SP 800-57 Part 1, section 5.3.6).
abbrev pub periods : KeyType → Period
periods kind = of_months (key_type_row kind).2 (key_type_row kind).3

-- the period of a type, where this is set for it, if anything is
abbrev pub period_or_default : Option Period → KeyType → Period
period_or_default set kind = unwrap_or set (periods kind)
