-- What a cutter of lines holds, and what it makes of the bytes that are to come.
use Rattle.std.specs.Prelude.{◌≡◌, ◌≢◌, ℕ, ◌+◌, ◌-◌, ◌*◌, ◌≤◌, List, [], ◌∷◌, ◌++◌, length, Option}
use Rattle.std.specs.{List.AllByRecursion, Io.KnownBytes.Consumes}
use Rattle.streams.specs.{declared.lines.TheConstants.MAX_PIECE_LENGTH, declared.watched.TheConstants.MAX_READS}

-- the bytes that were taken from the reader and not looked at, the first bytes of the line so far,
-- how many bytes the line has so far, and how many were taken from the reader
pub record Cut : Type 0 where
  pub unread : List ℕ
  pub line : List ℕ
  pub line_length : ℕ
  pub taken : ℕ

-- the byte that ends a line (US-ASCII's LF)
abbrev pub line_feed : ℕ
line_feed = 10

-- no line ends here
abbrev pub HasNoLineFeed : List ℕ → Type 0
HasNoLineFeed bytes = AllByRecursion (λ byte. byte ≢ line_feed) bytes

-- the bytes that were to come begin with this line and a line feed, and lose both
pub record CutsLine (max_length : ℕ) (before after : Option (List ℕ)) (new : Cut)
    (line : List ℕ) : Type 0 where
  pub unbroken : HasNoLineFeed line
  pub consumed : Consumes before after (line ++ line_feed ∷ [])
  pub counted : new.line_length ≡ length line
  pub kept : length line ≤ max_length → new.line ≡ line

-- the bytes that were to come are this rest, with no line feed in it
pub record CutsRest (before after : Option (List ℕ)) (new : Cut) (rest : List ℕ) : Type 0 where
  pub unbroken : HasNoLineFeed rest
  pub consumed : Consumes before after rest
  pub counted : new.line_length ≡ length rest
  pub none_left : new.unread ≡ []

-- these bytes were taken from the reader, and counted
pub record Takes (before after : Option (List ℕ)) (old new : Cut) (bytes : List ℕ) : Type 0 where
  pub consumed : Consumes before after bytes
  pub counted : new.taken ≡ old.taken + length bytes

-- a bound on the lines that are to come, after so many turns and with these bytes unread
abbrev pub work_left : ℕ → List ℕ → ℕ
work_left turns unread = (MAX_READS - turns) * MAX_PIECE_LENGTH + length unread
