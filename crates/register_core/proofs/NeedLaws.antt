-- Each need that is set is that of a key which is there.
use Rattle.std.proofs.Common.{◌≡◌, ℕ, ◌≤◌, Bool, List, [], ◌∷◌, ◌++◌, filter, None, arith}
use Rattle.std.specs.List.{AllByRecursion}
use Rattle.register_requests.specs.{declared.request.Request.Request, declared.request.Command.Command}
use Rattle.register_core.specs.Settings.{KeyNeed, needs_after, all_needs}
use Rattle.register_core.specs.{Fold.IsLawful, History.count, Verdict.judgement}
use Rattle.register_core.proofs.Lawful.{all_more, all_weaker, lawful_holds}
use Rattle.register_core.proofs.Histories.{count_grows, needs_next}

-- the key is one of so many
pub record IsNeedOfOne (keys : ℕ) (set : KeyNeed) : Type 0 where
  pub low : 1 ≤ set.key
  pub high : set.key ≤ keys

abbrev AreThere : ℕ → List KeyNeed → Type 0
AreThere keys sets = AllByRecursion (IsNeedOfOne keys) sets

left : (keys : ℕ) (p : KeyNeed → Bool) (sets : List KeyNeed) → AreThere keys sets → AreThere keys (filter p sets)
left keys p [] all = tt
left keys p (set ∷ sets) all = grind (arith, left keys p sets all.1)

after : (h : List Request) (q : Request) (c : Command) → q.command ≡ c → judgement h q ≡ None
    → AreThere (count h) (all_needs h)
    → AreThere (count h) (needs_after (all_needs h) c)
after h q c is accepted all = grind (arith, all_more, left)

abbrev AllThere : List Request → Type 0
AllThere h = AreThere (count h) (all_needs h)

there_next : (h : List Request) (q : Request) → IsLawful h → judgement h q ≡ None → AllThere h → AllThere (h ++ q ∷ [])
there_next h q lawful accepted all = grind (arith, needs_next, all_weaker, count_grows, after)

pub needs_there : (h : List Request) → IsLawful h → AllByRecursion (IsNeedOfOne (count h)) (all_needs h)
needs_there h lawful = lawful_holds AllThere there_next tt h lawful
