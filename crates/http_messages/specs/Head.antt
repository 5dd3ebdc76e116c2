-- What the prefix of an input is as the head of a request. The grammar of a head is `httparse`'s.
use Rattle.std.specs.Prelude.{ℕ, ◌<◌, ◌≤◌, ◌⊎◌, List, length, take}
use Rattle.httparse.specs.Grammar.{RequestHead, print_request, ReadsRequest, HasNoRequest, NeverHasRequest}
use Rattle.httparse.specs.Grammar.{MayBecomeRequest}
use Rattle.httparse.specs.Spans.{RequestExceeds, RequestOverflows}

-- how many bytes a head has at most
abbrev pub max_head_length : ℕ
max_head_length = 8192

-- how many header lines a head has at most
abbrev pub max_headers : ℕ
max_headers = 64

-- the bytes of an input that are looked at for its head
abbrev pub prefix : List ℕ → List ℕ
prefix input = take max_head_length input

-- the input is this whole head and then the rest
pub record HasHead (input : List ℕ) (h : RequestHead) (rest : List ℕ) : Type 0 where
  pub reads : ReadsRequest input h rest
  pub within : length (print_request h) ≤ max_head_length
  pub few : length h.fields ≤ max_headers

-- the input breaks off in a head
pub record BreaksOff (input : List ℕ) : Type 0 where
  pub some : 0 < length input
  pub short : length input < max_head_length
  pub none : HasNoRequest input

-- the bytes hold more header lines than are taken, and so does any head that they begin
pub record HasManyLines (bytes : List ℕ) : Type 0 where
  pub lines : RequestExceeds max_headers bytes
  pub over : RequestOverflows max_headers bytes

-- no head that is taken can stand here: whatever follows the prefix, it is none; or it has too many
-- header lines; or it breaks off
abbrev pub HasBadHead : List ℕ → Type 0
HasBadHead input = NeverHasRequest (prefix input) ⊎ HasManyLines (prefix input) ⊎ BreaksOff input

-- no whole head stands in the prefix, and what stands there can be the start of one
pub record HasLargeHead (input : List ℕ) : Type 0 where
  pub long : max_head_length ≤ length input
  pub none : HasNoRequest (prefix input)
  pub may : MayBecomeRequest (prefix input)
