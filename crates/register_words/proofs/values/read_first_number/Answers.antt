use Rattle.std.proofs.Common.{◌≡◌, ℕ, List, Option, None, Some, IfNone, IfSome, sym, ◌∙◌}
use Rattle.std.specs.Prelude.{◌≢◌, decimal}
use Rattle.register_requests.specs.Number.{IsNumber}
use Rattle.register_words.specs.Values.{IsFirst, ReadsValue}
use Rattle.register_words.proofs.values.read_first_number.Goals as goal

reads_first : (text bytes : List ℕ) (made : Option ℕ) → bytes ≡ text
    → IfSome made (λ n. IsNumber n × (bytes ≡ decimal n)) → IfNone made ((n : ℕ) → IsNumber n → bytes ≢ decimal n)
    → ReadsValue IsFirst text made
reads_first text bytes None same found none = λ n given. none n given.1 (same ∙ given.0)
reads_first text bytes (Some n) same found none = (sym same ∙ found.1, found.0)

pub returns : goal.returns
returns c =
    reads_first c.args.text.now c.as_bytes.result.now c.read_request_number.result c.as_bytes.ensures.value
    c.read_request_number.ensures.found c.read_request_number.ensures.none
