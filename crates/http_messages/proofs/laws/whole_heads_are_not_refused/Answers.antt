use Rattle.http_messages.proofs.HeadLaws.{one_head, whole_not_bad, whole_not_large, bad_or_large}
use Rattle.http_messages.proofs.laws.whole_heads_are_not_refused.Goals as goal

pub returns : goal.returns
returns c = record { one = one_head; not_bad = whole_not_bad; not_large = whole_not_large; open_place = bad_or_large }
