-- The request lines of an input as its items: what stands between two places of it.
use Rattle.std.specs.Prelude.{◌≡◌, ◌+◌, ◌≤◌, ℕ, List, [], length, Option}
use Rattle.std.specs.{List.AllByRecursion, Io.KnownBytes.Consumes, Io.KnownBytes.IsAtEnd, Io.KnownBytes.prepend_known}
use Rattle.register_requests.specs.declared.request.Request.{Request}
use Rattle.streams.specs.{Lines.Cut, Lines.HasNoLineFeed, Watched.IsFaulted, declared.watched.Watched.Watched}
use Rattle.register_desk.specs.declared.end.End.TheVariants.{ReadFault}
use Rattle.register_desk.specs.Input.{AreItems, with_line_feeds}
use Rattle.register_desk.specs.{declared.end.End.End, Run.max_reads}

-- what was cut off last with what is not looked at yet, and the reader
abbrev pub Place : Type 0 → Type 0
Place R = Cut × Watched R

module _ {R : Type 0} (remaining : R → Option (List ℕ)) where
  -- the bytes that are to be cut
  abbrev pub ahead : Place R → Option (List ℕ)
  ahead place = prepend_known place.0.unread (remaining place.1.inner)

  -- each byte that was taken from the reader is counted, and its turns keep to their bound
  pub record ReadsOn (from to : Place R) : Type 0 where
    pub bytes : List ℕ
    pub consumed : Consumes (remaining from.1.inner) (remaining to.1.inner) bytes
    pub counted : to.0.taken ≡ from.0.taken + length bytes
    pub bounded : from.1.turns ≤ max_reads → to.1.turns ≤ max_reads

  -- these items came, each of its line
  pub record LinesCame (from to : Place R) (items : List (Option Request)) : Type 0 where
    pub lines : List (List ℕ)
    pub unbroken : AllByRecursion HasNoLineFeed lines
    pub each : AreItems lines items
    pub consumed : Consumes (ahead from) (ahead to) (with_line_feeds lines)
    pub read : ReadsOn from to

  -- no further line came, and so many bytes
  pub record LinesEnd (from to : Place R) (rest : ℕ) : Type 0 where
    pub bytes : List ℕ
    pub unbroken : HasNoLineFeed bytes
    pub consumed : Consumes (ahead from) (ahead to) bytes
    pub none_left : to.0.unread ≡ []
    pub at_end : IsAtEnd (remaining to.1.inner)
    pub counted : rest ≡ length bytes
    pub read : ReadsOn from to

  -- no further line could be read
  pub record LinesFail (from to : Place R) (end : End) : Type 0 where
    pub is : end ≡ ReadFault
    pub fault : IsFaulted to.1.failed max_reads to.1.turns
    pub read : ReadsOn from to
