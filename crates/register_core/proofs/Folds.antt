-- One item more after a list of items.
use Rattle.std.proofs.Common.{◌≡◌, ℕ, ◌+◌, ◌≤◌, ◌<◌, Bool, true, false, cond, List, [], ◌∷◌, ◌++◌, length, get_or, take}
use Rattle.std.proofs.Common.{Option, None, Some, refl, arith}
use Rattle.std.proofs.lemmas.List.{length-append, take_more}
use Rattle.std.proofs.lemmas.Grind.{common_steps}
use Rattle.register_requests.specs.{declared.request.Request.Request, declared.version.Version.Version, Version.current}
use Rattle.register_core.specs.Verdict.{verdict_in, is_accepted}
use Rattle.register_core.specs.Fold.{history_after, history_after_in, history, history_in, answer_to, answer_to_in}
use Rattle.register_core.specs.Fold.{answers, answers_in}

next_prefix : (items : List (Option Request)) (i : ℕ) (item : Option Request) → i < length items
    → item ≡ get_or items i item → take (i + 1) items ≡ take i items ++ item ∷ []
next_prefix items i item lt is = grind (arith, take_more)

pub history_next : (h : List Request) (items : List (Option Request)) (i : ℕ) (item : Option Request)
    → i < length items → item ≡ get_or items i item →
    history h (take (i + 1) items) ≡ history_after (history h (take i items)) item
history_next h items i item lt is = grind (arith, common_steps)

pub answers_push : (version : Version) (h : List Request) (items : List (Option Request)) (item : Option Request)
    → answers_in version h (items ++ item ∷ [])
    ≡ answers_in version h items ++ answer_to_in version (history_in version h items) item ∷ []
answers_push version h [] item = refl
answers_push version h (x ∷ items) item = cc (answers_push version (history_after_in version h x) items item)

pub answers_next : (h : List Request) (items : List (Option Request)) (i : ℕ) (item : Option Request)
    → i < length items → item ≡ get_or items i item →
    answers h (take (i + 1) items) ≡ answers h (take i items) ++ answer_to (history h (take i items)) item ∷ []
answers_next h items i item lt is = cc (next_prefix items i item lt is, answers_push current h (take i items) item)

-- an item makes a history at most one request longer
pub history_within : (version : Version) (h : List Request) (item : Option Request)
    → length (history_after_in version h item) ≤ length h + 1
history_within version h None = omega arith
history_within version h (Some q) = within (is_accepted (verdict_in version h q))
  where
    within : (b : Bool) → length (cond b (h ++ q ∷ []) h) ≤ length h + 1
    within true = omega (arith, length-append h (q ∷ []))
    within false = omega arith
