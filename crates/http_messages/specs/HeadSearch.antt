-- What a look for a head finds in the bytes that were read.
use Rattle.std.specs.Prelude.{◌≡◌, ℕ, ◌<◌, ◌⊎◌, List, [], length, Option}
use Rattle.std.specs.Io.KnownBytes.{IsAtEnd}
use Rattle.httparse.specs.Grammar.{RequestHead, HasNoRequest, NeverHasRequest, MayBecomeRequest}
use Rattle.httparse.specs.Spans.{IsRequestAt, IsRequestWithin}
use Rattle.httparse.specs.{declared.spans.HeaderSpan.HeaderSpan, declared.spans.RequestSpans.RequestSpans}
use Rattle.http_messages.specs.declared.head.HeadSearch.TheVariants.{Whole, Nothing, Bad, TooLarge}
use Rattle.http_messages.specs.{Head.max_head_length, Head.HasManyLines, declared.head.HeadSearch.HeadSearch}

-- the bytes read begin with the head h, and the spans are its parts
pub record FindsHead (bytes : List ℕ) (headers : List HeaderSpan) (spans : RequestSpans) : Type 0 where
  pub h : RequestHead
  pub at : IsRequestAt bytes headers spans h
  pub within : IsRequestWithin bytes headers spans

-- the bytes read are the prefix of no head, or the whole input, which breaks off
abbrev pub FindsBad : List ℕ → Option (List ℕ) → Type 0
FindsBad bytes left =
    NeverHasRequest bytes ⊎ HasManyLines bytes
    ⊎ ((0 < length bytes) × (length bytes < max_head_length) × HasNoRequest bytes × IsAtEnd left)

-- as many bytes were read as a head has at most, and they may begin one but are none
pub record FindsLarge (bytes : List ℕ) : Type 0 where
  pub full : length bytes ≡ max_head_length
  pub none : HasNoRequest bytes
  pub may : MayBecomeRequest bytes

-- what the look finds: a whole head, an input that is empty, a head that is refused as bad, or one that is too large
abbrev pub EndsSearch : List ℕ → List HeaderSpan → Option (List ℕ) → HeadSearch → Type 0
EndsSearch bytes headers left (Whole spans) = FindsHead bytes headers spans
EndsSearch bytes headers left Nothing = (bytes ≡ []) × IsAtEnd left
EndsSearch bytes headers left Bad = FindsBad bytes left
EndsSearch bytes headers left TooLarge = FindsLarge bytes
