-- A name is UTF-8, so reading it as text does not fail.
use Rattle.register_requests.specs.Name.{IsName}
use Rattle.register_requests.proofs.NameTexts.{utf8_from_name}
use Rattle.register_requests.proofs.values.Name.text.Goals as goal

pub unreachable-requires : goal.unreachable-requires
unreachable-requires c =
    let name : IsName c.as_bytes.result.now = rw c.as_bytes.ensures.value c.self.invariant in
    c.in_default.ensures.cases.0 (utf8_from_name _ name)
