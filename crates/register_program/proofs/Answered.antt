-- What was answered that is accepted stands in the register after the life.
use Rattle.std.proofs.Common.{◌≡◌, ◌≢◌, ◌⊎◌, inl, inr, ℕ, ◌-◌, ◌≤◌, zero, suc, Bool, true, false, if◌then◌else◌, List, []}
use Rattle.std.proofs.Common.{◌∷◌, ◌++◌, length, take, Option, None, Some, refl, sym, ap, subst, ◌∙◌, arith, append_assoc}
use Rattle.register_requests.specs.declared.request.Request.{Request}
use Rattle.register_core.specs.Fold.{history, history_after}
use Rattle.register_core.specs.Verdict.{Accepts, Verdict, is_accepted, verdict}
use Rattle.register_desk.specs.declared.end.End.TheVariants.{Memory, Store, Broken, ReadFault, WriteFault, BadHeader}
use Rattle.register_desk.specs.declared.outcome.Finish.{Finish}
use Rattle.register_desk.specs.declared.outcome.Finish.TheVariants.{AtEnd, Ended}
use Rattle.register_http.specs.ServedExchanges.{LastEnded, ServedClient, count_known}
use Rattle.register_program.specs.Sentence.{IsIn, WasAnswered}

-- what is in a history stays
more : (h : List Request) (q p : Request) → IsIn q h → IsIn q (h ++ p ∷ [])
more h q p here = (
  here.0,
  here.1 ++ p ∷ [],
  ap (λ (k : List Request). k ++ p ∷ []) here.2 ∙ append_assoc here.0 (q ∷ here.1) (p ∷ []),
)

judged : (h : List Request) (q p : Request) (accepted : Bool) → IsIn q h → IsIn q (if accepted then h ++ p ∷ [] else h)
judged h q p true here = more h q p here
judged h q p false here = here

stays_after : (h : List Request) (q : Request) (item : Option Request) → IsIn q h → IsIn q (history_after h item)
stays_after h q None here = here
stays_after h q (Some p) here = judged h q p (is_accepted (verdict h p)) here

stays : (h : List Request) (q : Request) (items : List (Option Request)) → IsIn q h → IsIn q (history h items)
stays h q [] here = here
stays h q (item ∷ items) here = stays (history_after h item) q items (stays_after h q item here)

comes : (h : List Request) (q : Request) (item : Option Request) → item ≡ Some q → verdict h q ≡ Accepts
    → IsIn q (history_after h item)
comes h q item is accepts =
    subst (λ (k : List Request). IsIn q k)
    (sym (ap (history_after h) is ∙ ap (λ (v : Verdict). if is_accepted v then h ++ q ∷ [] else h) accepts))
    (h, [], refl)

-- how many exchanges are known
known_as : (end : Finish) → ((end ≡ Ended Store) × ((n : ℕ) → count_known end n ≡ n - 1))
    ⊎ ((end ≢ Ended Store) × ((n : ℕ) → count_known end n ≡ n))
known_as (Ended Store) = inl (refl, λ n. refl)
known_as (AtEnd rest) = inr (λ is. absurd (cc), λ n. refl)
known_as (Ended Memory) = inr (λ is. absurd (cc), λ n. refl)
known_as (Ended Broken) = inr (λ is. absurd (cc), λ n. refl)
known_as (Ended ReadFault) = inr (λ is. absurd (cc), λ n. refl)
known_as (Ended WriteFault) = inr (λ is. absurd (cc), λ n. refl)
known_as (Ended BadHeader) = inr (λ is. absurd (cc), λ n. refl)

-- two or more: one is known
known_two : (end : Finish) (n m : ℕ) → count_known end (suc (suc n)) ≤ m → suc n ≤ m
known_two end n m enough = elim (known_as end) [
  | inl store ↦ omega (arith, enough, store.1 (suc (suc n)))
  | inr other ↦ omega (arith, enough, other.1 (suc (suc n)))
]

known_less : (end : Finish) (n m : ℕ) → count_known end (suc (suc n)) ≤ suc m → count_known end (suc n) ≤ m
known_less end n m enough = elim (known_as end) [
  | inl store ↦ omega (arith, enough, store.1 (suc (suc n)), store.1 (suc n))
  | inr other ↦ omega (arith, enough, other.1 (suc (suc n)), other.1 (suc n))
]

-- one whose exchange came to its end: it is known
known_one : (end : Finish) (client : ServedClient) (m : ℕ) → (end ≡ Ended Store → LastEnded end (client ∷ []))
    → client.outcome.end ≡ AtEnd 0 → count_known end 1 ≤ m → 1 ≤ m
known_one end client m last at_end enough = elim (known_as end) [
  | inl store ↦ absurd (let both = sym at_end ∙ last store.0 ∙ store.0 in cc)
  | inr other ↦ omega (arith, enough, other.1 1)
]

known_first : (end : Finish) (client : ServedClient) (clients : List ServedClient) (m : ℕ)
    → (end ≡ Ended Store → LastEnded end (client ∷ clients)) → client.outcome.end ≡ AtEnd 0
    → count_known end (length (client ∷ clients)) ≤ m → 1 ≤ m
known_first end client [] m last at_end enough = known_one end client m last at_end enough
known_first end client (next ∷ clients) m last at_end enough =
    let some = known_two end (length clients) m enough in omega (arith, some)

pub answered_in : (clients : List ServedClient) (items : List (Option Request)) (h : List Request) (end : Finish) (n : ℕ)
    (q : Request) → count_known end (length clients) ≤ n → (end ≡ Ended Store → LastEnded end clients)
    → WasAnswered h clients items q → IsIn q (history h (take n items))
answered_in [] items h end n q enough last was = absurd was
answered_in (client ∷ clients) [] h end n q enough last was = absurd was
answered_in (client ∷ clients) (item ∷ items) h end zero q enough last (inl here) =
    absurd (let some = known_first end client clients 0 last here.0 enough in omega (arith, some))
answered_in (client ∷ clients) (item ∷ items) h end (suc n) q enough last (inl here) =
    stays (history_after h item) q (take n items) (comes h q item here.1 here.2)
answered_in (client ∷ []) (item ∷ items) h end n q enough last (inr later) = absurd later
answered_in (client ∷ next ∷ clients) (item ∷ items) h end zero q enough last (inr later) =
    absurd (let some = known_two end (length clients) 0 enough in omega (arith, some))
answered_in (client ∷ next ∷ clients) (item ∷ items) h end (suc n) q enough last (inr later) =
    answered_in (next ∷ clients) items (history_after h item) end n q (known_less end (length clients) n enough) last later
