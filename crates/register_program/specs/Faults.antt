-- The lines on standard error by which the program names what kept it from its work. They are this register's own.
use Rattle.std.specs.Prelude.{◌≡◌, ◌≢◌, ◌⊎◌, ℕ, List, [], ◌∷◌, ◌++◌, Option, codes}
use Rattle.std.specs.Io.KnownBytes.{Appends}
use Rattle.streams.specs.{Lines.line_feed, declared.watched.Watched.Watched, Watched.IsFaulted}
use Rattle.register_desk.specs.declared.outcome.Finish.TheVariants.{AtEnd, Ended}
use Rattle.register_desk.specs.{declared.end.End.End, declared.end.End.TheVariants.Memory}
use Rattle.register_desk.specs.{declared.opening.OpenRefusal.OpenRefusal, declared.outcome.Finish.Finish, End.end_name}
use Rattle.register_desk.specs.Run.{IsPrefixOf, max_idle_turns}
use Rattle.register_desk.specs.{End.exit_status, OpenRefusal.open_refusal_name}
use Rattle.register_program.specs.Act.{usage_status}

-- The line on standard error with this name. Own.
abbrev pub line_naming : List ℕ → List ℕ
line_naming name = codes "keyreg: " ++ name ++ line_feed ∷ []

-- The line on standard error for an end.
abbrev pub end_line : End → List ℕ
end_line end = line_naming (end_name end)

-- The line on standard error for a refused opening.
abbrev pub refusal_line : OpenRefusal → List ℕ
refusal_line refusal = line_naming (open_refusal_name refusal)

-- The line on standard error for an argument that is no value.
abbrev pub bad_value_line : List ℕ
bad_value_line = line_naming (codes "BadValue")

-- nothing is said of a call that came to its end
abbrev pub finish_line : Finish → List ℕ
finish_line (AtEnd rest) = []
finish_line (Ended end) = end_line end

module _ {E : Type 0} (contents : E → Option (List ℕ)) where
  -- a prefix of these bytes was written, and all of them unless the writer failed or was interrupted too often in a row
  pub record Tells (bytes : List ℕ) (old new : Watched E) : Type 0 where
    pub part : List ℕ
    pub prefix : IsPrefixOf part bytes
    pub written : Appends (contents old.inner) (contents new.inner) part
    pub whole : part ≢ bytes → IsFaulted new.failed max_idle_turns new.idle

  -- words that are no command or ask for help, of which `clap` says what it says; or want of memory for them
  abbrev pub TellsOfWords : ℕ → Watched E → Watched E → Type 0
  TellsOfWords status old new =
      ((status ≡ usage_status) × ((text : List ℕ) × Tells text old new))
      ⊎ ((status ≡ exit_status Memory) × Tells (end_line Memory) old new)
