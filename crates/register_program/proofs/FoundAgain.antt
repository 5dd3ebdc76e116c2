-- What the program's runs left is found again, run by run.
use Rattle.std.proofs.Common.{◌≡◌, ◌≢◌, ◌⊎◌, inl, inr, ℕ, ◌+◌, ◌<◌, ◌≤◌, Bool, true, false, List, [], ◌∷◌, ◌++◌, length}
use Rattle.std.proofs.Common.{take, drop, Option, None, Some, Result, Ok, Err, refl, sym, ap, subst, ◌∙◌, arith}
use Rattle.std.proofs.lemmas.Bool.{cases_lt}
use Rattle.std.proofs.lemmas.Grind.{flat_map-append}
use Rattle.std.proofs.lemmas.List.{append-nil, take-append-drop, take-take, take_all}
use Rattle.std.proofs.Math.Logic.{∥∥₁_elim, ∥∥₁_map}
use Rattle.std.specs.Io.KnownBytes.{Appends}
use Rattle.sqlite_trees.specs.declared.store.Store.{Ghosts}
use Rattle.sqlite.specs.Recovery.{Image}
use Rattle.register_requests.specs.declared.request.Request.{Request}
use Rattle.register_core.specs.Fold.{IsLawful, answers, history}
use Rattle.register_core.specs.{declared.reply.Reply.Reply, declared.reply.Refusal.Refusal}
use Rattle.register_desk.specs.declared.end.End.TheVariants.{Memory, Store, Broken, ReadFault, WriteFault, BadHeader}
use Rattle.register_desk.specs.declared.opening.OpenRefusal.{OpenRefusal}
use Rattle.register_desk.specs.declared.outcome.Finish.TheVariants.{AtEnd, Ended}
use Rattle.register_desk.specs.DatabaseFiles.{HoldsOneOf, HoldsRegister}
use Rattle.machine_traits.specs.Found.{HoldsNothing}
use Rattle.register_desk.specs.Lives.{AreInRange, Life, MayApplyOneMore, after, after_lives, life_of}
use Rattle.register_desk.specs.Run.{Answered as AnsweredWhole, AnsweredInPart, IsPrefixOf, RunsOver, answer_line}
use Rattle.register_desk.specs.Run.{answer_lines}
use Rattle.register_desk.specs.{declared.desk.Desk.Desk, declared.outcome.Finish.Finish}
use Rattle.register_desk.proofs.{LinesCut.items_in, Lives.lawful_on}
use Rattle.register_desk.proofs.{Appended.appends_none, Lived.items_in_range}
use Rattle.register_program.specs.declared.refused.RefusedFiles.TheVariants.{Failed, Shut}
use Rattle.register_program.specs.FileCalls.{Exports, ImportsRows, LivesAnyway, MakesFile, OpensFirst, Reports}
use Rattle.register_program.specs.FileCalls.{RunsLines}
use Rattle.register_program.specs.FileCalls.{ServesExchanges}
use Rattle.register_program.specs.Life.{LeavesInFiles, LeavesNoRequest, LeavesNothing, LivesOver, OfLeft}
use Rattle.register_program.specs.Life.{SparesRegister}
use Rattle.register_program.specs.declared.acting.Done.TheVariants.{Lived, Made}
use Rattle.register_program.specs.Sentence.{AreRowItemsOf, WroteAnswers, AreItemsOf, FindsAgain, FoundAgain, HoldsHistory, IsLifeOf}
use Rattle.register_program.specs.Sentence.{Leads, LeadsFrom, LeftBy, LeftByClosed, LeftByRefused, ProgramRun, StayFoundAgain, WasLife, Were}
use Rattle.register_program.specs.Sentence.{Begun, begun_by, outcome_of, run_of}
use Rattle.register_program.specs.{declared.acting.Asked.Asked, declared.acting.Ran.Ran}
use Rattle.register_program.specs.declared.register_file.FileLife.{FileLife}
use Rattle.machine_traits.specs.declared.files.Closed.{Closed}
use Rattle.register_program.specs.{declared.refused.Refused.Refused, declared.refused.RefusedFiles.RefusedFiles}
use Rattle.register_program.specs.{declared.acting.Done.Done, Job.Performs}
use Rattle.machine_traits.specs.Closing.{LeftIn}
use Rattle.register_http.specs.ServedExchanges.{count_known}
use Rattle.machine_traits.specs.Network.{Visit}
use Rattle.register_program.specs.Traffic.{Traffic, traffic_through}
use Rattle.register_words.specs.declared.values.Bounds.{Bounds}
use Rattle.register_report.proofs.TableRead.{has_header, rows_in_range, table_in}
use Rattle.register_words.specs.declared.values.Terms.{Terms}
use Rattle.register_words.specs.declared.words.Job.{Job}
use Rattle.register_words.specs.declared.words.Job.TheVariants.{Export, Import, Init, Report, Run, Serve}

-- a life in which nothing was applied
abbrev no_life : Life
no_life = life_of [] 0 false

-- as many items were applied as were answered, or one more, of those that there are
abbrev AppliesWithin : Life → Type 0
AppliesWithin life =
    (life.replies ≤ life.applied) × (life.applied ≤ life.replies + 1) × (life.applied ≤ length life.items)

applies_within : (items : List (Option Request)) (replies : ℕ) (one_more : Bool)
    → (life_of items replies one_more).applied ≤ length items → AppliesWithin (life_of items replies one_more)
applies_within items replies true enough = (omega arith, omega arith, enough)
applies_within items replies false enough = (omega arith, omega arith, enough)

-- whether an answer was written in part
is_part : (end : Finish) → (end ≡ Ended WriteFault) ⊎ (end ≢ Ended WriteFault)
is_part (Ended WriteFault) = inl refl
is_part (AtEnd left) = inr (λ is. absurd (cc is))
is_part (Ended Memory) = inr (λ is. absurd (cc is))
is_part (Ended Store) = inr (λ is. absurd (cc is))
is_part (Ended Broken) = inr (λ is. absurd (cc is))
is_part (Ended ReadFault) = inr (λ is. absurd (cc is))
is_part (Ended BadHeader) = inr (λ is. absurd (cc is))

-- whether there was no header row
is_unbegun : (end : Finish) → (end ≡ Ended BadHeader) ⊎ (end ≢ Ended BadHeader)
is_unbegun (AtEnd left) = inr (λ is. absurd (cc is))
is_unbegun (Ended Memory) = inr (λ is. absurd (cc is))
is_unbegun (Ended BadHeader) = inl refl
is_unbegun (Ended Store) = inr (λ is. absurd (cc is))
is_unbegun (Ended Broken) = inr (λ is. absurd (cc is))
is_unbegun (Ended ReadFault) = inr (λ is. absurd (cc is))
is_unbegun (Ended WriteFault) = inr (λ is. absurd (cc is))

-- ---- the lines that were written

-- the lines of some answers begin those of no fewer
lines_begin : (n m : ℕ) (given : List (Result Reply Refusal)) → n ≤ m
    → IsPrefixOf (answer_lines (take n given)) (answer_lines (take m given))
lines_begin n m given less =
    let some = take m given in (
      answer_lines (drop n some),
      ap (λ xs. answer_lines xs ++ answer_lines (drop n some)) (sym (take-take n m given less))
          ∙ sym (flat_map-append answer_line (take n some) (drop n some))
          ∙ ap answer_lines (take-append-drop n some),
    )

module _ {S : Type 0} (g : Ghosts S) (h : List Request) (items : List (Option Request)) (replies : ℕ)
    (old new : Option (List ℕ)) (desk : Desk S g) (one_more : Bool) where
  told : AnsweredWhole g h items replies old new desk → WroteAnswers h (life_of items replies one_more) old new
  told it = record {
    text = answer_lines (take replies (answers h items));
    written = it.written;
    answered = ([], append-nil (answer_lines (take replies (answers h items))));
    at_most_applied = lines_begin replies (life_of items replies one_more).applied (answers h items) (omega arith);
  }

  told_in_part : one_more ≡ true → AnsweredInPart g h items replies old new desk
      → WroteAnswers h (life_of items replies one_more) old new
  told_in_part more it = record {
    text = answer_lines (take replies (answers h items)) ++ it.part;
    written = subst (λ lines. Appends old new (lines ++ it.part)) it.lines it.written;
    answered = (it.part, refl);
    at_most_applied = subst (λ (is : Bool). IsPrefixOf (answer_lines (take replies (answers h items)) ++ it.part)
        (answer_lines (take (life_of items replies is).applied (answers h items)))) (sym more)
        (subst (λ lines. IsPrefixOf (lines ++ it.part)
        (answer_lines (take (replies + 1) (answers h items)))) it.lines it.prefix);
  }

  told_over : (rest : List ℕ) (end : Finish) → (end ≡ Ended WriteFault → one_more ≡ true)
      → RunsOver g h items rest end replies old new desk → WroteAnswers h (life_of items replies one_more) old new
  told_over rest end applied over = elim (is_part end) [
    | inl part ↦ told_in_part (applied part) (over.in_part part)
    | inr whole ↦ told (over.whole whole)
  ]

  told_none : new ≡ old → replies ≡ 0 → WroteAnswers h (life_of items replies one_more) old new
  told_none same none = record {
    text = [];
    written = subst (λ (now : Option (List ℕ)). Appends old now []) (sym same) (appends_none old);
    answered = ([], ap (λ (n : ℕ). answer_lines (take n (answers h items)) ++ []) none);
    at_most_applied = (answer_lines (take (life_of items replies one_more).applied (answers h items)), refl);
  }

  told_some : (rest : List ℕ) (end : Finish) → MayApplyOneMore end one_more
      → (end ≢ Ended BadHeader → RunsOver g h items rest end replies old new desk)
      → (end ≡ Ended BadHeader → (new ≡ old) × (replies ≡ 0)) → WroteAnswers h (life_of items replies one_more) old new
  told_some rest end may over unbegun = elim (is_unbegun end) [
    | inl header ↦ let none = unbegun header in told_none none.0 none.1
    | inr begun ↦ told_over rest end (λ part. subst (λ e. MayApplyOneMore e one_more) part may) (over begun)
  ]

  within : (rest : List ℕ) (end : Finish) → RunsOver g h items rest end replies old new desk → replies ≤ length items
  within rest end over = elim (is_part end) [
    | inl part ↦ omega (arith, (over.in_part part).some)
    | inr whole ↦ (over.whole whole).some
  ]

-- ---- the register that is left

either : (h : List Request) (left : Image) → HoldsRegister h left ⊎ HoldsRegister h left → HoldsRegister h left
either h left (inl one) = one
either h left (inr other) = other

left_in : (h : List Request) (left : Image) → HoldsOneOf h h left → ∥ HoldsHistory h left ∥₁
left_in h left one = ∥∥₁_map one (λ holds. inr (either h left holds))

-- that of no request
left_new : (h : List Request) (left : Image) → h ≡ [] → HoldsRegister [] left → HoldsHistory h left
left_new h left none holds = inr (subst (λ (k : List Request). HoldsRegister k left) (sym none) holds)

module _ {S U : Type 0} (g : Ghosts S) (may_leave : S → Image → Type 0) (may_stay : U → Image → Type 0)
    (h : List Request) (found left : Image)
    (start : HoldsHistory h found) where
  none_or_new : h ≡ [] → ∥ (HoldsNothing left ⊎ HoldsRegister [] left) ∥₁ → ∥ HoldsHistory h left ∥₁
  none_or_new none one = ∥∥₁_map one (λ it. elim it [
    | inl empty ↦ inl (empty, none)
    | inr new ↦ left_new h left none new
  ])

  -- of files that were refused to a creation
  unmade_as : (files : RefusedFiles S U) → LeftByRefused g may_leave may_stay files left
      → (HoldsNothing found → OfLeft g may_leave may_stay files LeavesNoRequest)
      → (HoldsRegister h found → OfLeft g may_leave may_stay files (LeavesInFiles h h))
      → (from : HoldsHistory h found) → ∥ HoldsHistory h left ∥₁
  unmade_as (Failed it) kept nothing spares (inl none) = none_or_new none.1 (nothing none.0 left kept)
  unmade_as (Failed it) kept nothing spares (inr holds) = left_in h left (spares holds left kept)
  unmade_as (Shut it) leaves nothing spares (inl none) = none_or_new none.1 (nothing none.0 leaves.0 left leaves.1)
  unmade_as (Shut it) leaves nothing spares (inr holds) = left_in h left (spares holds leaves.0 left leaves.1)

  -- and to an opening
  unopened_as : (files : RefusedFiles S U) (refusal : OpenRefusal) → LeftByRefused g may_leave may_stay files left
      → (HoldsNothing found → OfLeft g may_leave may_stay files LeavesNothing)
      → (HoldsRegister h found → OfLeft g may_leave may_stay files (SparesRegister h refusal))
      → (from : HoldsHistory h found) → ∥ HoldsHistory h left ∥₁
  unopened_as (Failed it) refusal kept nothing spares (inl none) =
      ∥∥₁_map (nothing none.0 left kept) (λ empty. inl (empty, none.1))
  unopened_as (Failed it) refusal kept nothing spares (inr holds) = left_in h left ((spares holds).1 left kept)
  unopened_as (Shut it) refusal leaves nothing spares (inl none) =
      ∥∥₁_map (nothing none.0 leaves.0 left leaves.1) (λ empty. inl (empty, none.1))
  unopened_as (Shut it) refusal leaves nothing spares (inr holds) =
      left_in h left ((spares holds leaves.0).1 left leaves.1)

  made_as : (came : Result (Closed S) (Refused S U)) → LeftBy g may_leave may_stay (Made came) left
      → MakesFile g may_leave may_stay found came → (from : HoldsHistory h found) → ∥ HoldsHistory h left ∥₁
  made_as (Ok closed) leaves makes (inl none) =
      ∥∥₁_map ((makes.leaves none.0 leaves.0).1.from left leaves.1)
      (λ new. left_new h left none.1 (either [] left new))
  made_as (Ok closed) leaves makes (inr holds) = absurd (makes.spares h holds leaves.0)
  made_as (Err refused) leaves makes from =
      unmade_as refused.files leaves makes.refuses.nothing (makes.refuses.spares h) from

  -- ---- the life that a job was

  module _ (lawful : IsLawful h) (old new : Option (List ℕ)) (before after_all : Option (List Visit)) (accepted : ℕ)
    where
      -- what came in and went out, over this input
      abbrev traffic : Option (List ℕ) → Traffic
      traffic input = record {
        input = input;
        old = old;
        new = new;
        before = before;
        after = after_all;
        accepted = accepted;
      }

      -- the run of this job over this input, which came to this
      abbrev the_run : Option (List ℕ) → Job → Done S U → ProgramRun
      the_run input job done = record {
        found = found;
        left = left;
        job = job;
        outcome = outcome_of done;
        traffic = traffic input;
      }

      abbrev Fits : Option (List ℕ) → Job → Done S U → Life → Type 0
      Fits input job done life = IsLifeOf h job (outcome_of done) (traffic input) life

      -- was a life after which the register is left
      abbrev WasOne : Option (List ℕ) → Job → Done S U → Type 0
      WasOne input job done =
          ∥ ((life : Life) × WasLife h (the_run input job done) life × HoldsHistory (after h life) left) ∥₁

      was_none : (input : Option (List ℕ)) (job : Job) (done : Done S U)
          → Fits input job done no_life → ∥ HoldsHistory h left ∥₁ → WasOne input job done
      was_none input job done is some =
          ∥∥₁_map some
          (λ it. (no_life, record { in_range = tt; applied = (omega arith, omega arith, omega arith); is = is }, it))

      -- where it opened the register and applied nothing
      opened_none : (came : Result (FileLife S) (Refused S U))
          → LeftBy g may_leave may_stay (Lived came) left → OpensFirst g may_leave may_stay found came
          → ((lived : FileLife S) → came ≡ Ok lived → HoldsRegister h found → ∥ HoldsHistory h left ∥₁)
          → (from : HoldsHistory h found) → ∥ HoldsHistory h left ∥₁
      opened_none (Ok lived) leaves opens keeps (inl none) = absurd (opens.nothing none.0 leaves.0)
      opened_none (Ok lived) leaves opens keeps (inr holds) = keeps lived refl holds
      opened_none (Err refused) leaves opens keeps from =
          unopened_as refused.files refused.refusal leaves opens.refuses.nothing (opens.refuses.spares h lawful) from

      -- a life over items of which this is said, with so many replies
      abbrev LifeOver : (List (Option Request) → Type 0) → ℕ → Type 0
      LifeOver AreIts replies =
          (life : Life) × AreInRange life.items × AppliesWithin life
          × ((life.replies ≡ replies) × AreIts life.items × WroteAnswers h life old new)
          × HoldsHistory (after h life) left

      -- a life over some items, and what was written of it
      some_life : (input : Option (List ℕ)) (lived : FileLife S) → LeftByClosed g may_leave lived.files left
          → LivesAnyway g may_leave may_stay found old new (Ok lived) → HoldsRegister h found
          → ∥ ((life : Life) × AreInRange life.items × AppliesWithin life
          × ((life.replies ≡ lived.outcome.replies) × WroteAnswers h life old new) × HoldsRegister (after h life) left) ∥₁
      some_life input lived leaves anyway holds =
          let of = anyway.some h lawful holds leaves.0 in
          let some = of.1.from in
          ∥∥₁_map (some.leaves left leaves.1) (λ one. (
            life_of some.items lived.outcome.replies one.0,
            one.1.in_range,
            applies_within some.items lived.outcome.replies one.0 one.1.enough,
            (
              refl,
              told_some g h some.items lived.outcome.replies old new of.0 one.0 some.rest lived.outcome.end
                  one.1.one_more_is some.over anyway.unbegun,
            ),
            one.2,
          ))

      -- a life over the items of the input, of which perhaps one more was applied than were answered
      module _ (AreIts : List (Option Request) → Type 0) (items : List (Option Request)) (rest : List ℕ)
          (its : AreIts items) (in_range : AreInRange items) (lived : FileLife S) (desk : Desk S g)
          (may : Image → Type 0) (may_be : may left)
          (lives : LivesOver g h items rest lived.outcome old new desk may) where
        fitting : (one_more : Bool) → (lived.outcome.end ≡ Ended WriteFault → one_more ≡ true)
            → (lived.outcome.replies ≡ lived.outcome.replies) × AreIts items
            × WroteAnswers h (life_of items lived.outcome.replies one_more) old new
        fitting one_more applied = (
          refl,
          its,
          told_over g h items lived.outcome.replies old new desk one_more rest lived.outcome.end applied lives.over,
        )

        -- of so many, and no more
        no_more : lived.outcome.end ≢ Ended WriteFault → HoldsRegister (history h (take lived.outcome.replies items)) left
            → LifeOver AreIts lived.outcome.replies
        no_more whole holds =
            let some = within g h items lived.outcome.replies old new desk false rest lived.outcome.end lives.over in
            let still : lived.outcome.replies ≡ lived.outcome.replies + 0 = omega arith in (
              life_of items lived.outcome.replies false,
              in_range,
              applies_within items lived.outcome.replies false (omega (arith, some)),
              fitting false (λ is. absurd (whole is)),
              inr (subst (λ (k : ℕ). HoldsRegister (history h (take k items)) left) still holds),
            )

        -- or of one more
        more : lived.outcome.replies < length items
            → HoldsRegister (history h (take (lived.outcome.replies + 1) items)) left
            → LifeOver AreIts lived.outcome.replies
        more within_items holds = (
          life_of items lived.outcome.replies true,
          in_range,
          applies_within items lived.outcome.replies true (omega (arith, within_items)),
          fitting true (λ is. refl),
          inr holds,
        )

        one_or_none : lived.outcome.end ≢ Ended WriteFault
            → HoldsRegister (history h (take (lived.outcome.replies + 1) items)) left
            → LifeOver AreIts lived.outcome.replies
        one_or_none whole holds = elim (cases_lt lived.outcome.replies (length items)) [
          | inl less ↦ more less holds
          | inr all ↦ no_more whole (subst (λ (taken : List (Option Request)). HoldsRegister (history h taken) left)
              (take_all (lived.outcome.replies + 1) items (omega (arith, all))
              ∙ sym (take_all lived.outcome.replies items all)) holds)
        ]

        known_life : ∥ LifeOver AreIts lived.outcome.replies ∥₁
        known_life = elim (is_part lived.outcome.end) [
          | inl is ↦
              ∥∥₁_map (lives.in_part is left may_be)
              (λ one. more (omega (arith, (lives.over.in_part is).some)) (either _ left one))
          | inr whole ↦ ∥∥₁_map (lives.leaves left may_be) (λ one. elim one [
            | inl here ↦ no_more whole here
            | inr there ↦ one_or_none whole there
          ])
        ]

      -- of request lines
      ran : (input : Option (List ℕ)) (lived : FileLife S) → LeftByClosed g may_leave lived.files left
          → RunsLines g may_leave may_stay found input old new (Ok lived) → HoldsRegister h found
          → ∥ LifeOver (AreItemsOf input) lived.outcome.replies ∥₁
      ran None lived leaves runs holds =
          ∥∥₁_map (some_life None lived leaves runs.anyway holds)
          (λ one. (one.0, one.1, one.2, (one.3.0, tt, one.3.1), inr one.4))
      ran (Some bytes) lived leaves runs holds =
          let cut = items_in bytes in
          let of = runs.lives h bytes cut.0 cut.1 lawful holds refl cut.2 leaves.0 in
          known_life (AreItemsOf (Some bytes)) cut.0 cut.1 (cut.1, cut.2) (items_in_range cut.2.0 cut.0 cut.2.2) lived
          of.0 (LeftIn g may_leave lived.files) leaves.1 of.1.from

      -- of the rows of a table
      imported : (terms : Terms) (input : Option (List ℕ)) (lived : FileLife S)
          → LeftByClosed g may_leave lived.files left
          → ImportsRows g may_leave may_stay found terms input old new (Ok lived) → HoldsRegister h found
          → ∥ LifeOver (AreRowItemsOf terms input) lived.outcome.replies ∥₁
      imported terms None lived leaves imports holds =
          ∥∥₁_map (some_life None lived leaves imports.anyway holds)
          (λ one. (one.0, one.1, one.2, (one.3.0, tt, one.3.1), inr one.4))
      imported terms (Some bytes) lived leaves imports holds = elim (has_header bytes) [
        | inl begins ↦
            let items = table_in terms.moment terms.caller terms.first bytes begins in
            let of = imports.lives h bytes items.0 lawful holds refl items.1 leaves.0 in
            known_life (AreRowItemsOf terms (Some bytes)) items.0 [] (inl items.1)
            (rows_in_range terms.moment terms.caller terms.first items.1.rows items.0 items.1.each) lived of.0
            (LeftIn g may_leave lived.files) leaves.1 of.1.from
        | inr none ↦
            let of = imports.without h bytes lawful holds refl none leaves.0 in
            let ends = of.1.from in
            ∥∥₁_map (ends.leaves left leaves.1) (λ one. (
              no_life,
              tt,
              (omega arith, omega arith, omega arith),
              (
                sym ends.none,
                inr (none, refl),
                told_none g h [] 0 old new of.0 false ends.same refl,
              ),
              inr (either h left one),
            ))
      ]

      -- ---- each job

      ran_as : (input : Option (List ℕ)) (job : Job) (came : Result (FileLife S) (Refused S U))
          → ((lived : FileLife S) (life : Life)
          → (life.replies ≡ lived.outcome.replies) × AreItemsOf input life.items × WroteAnswers h life old new
          → Fits input job (Lived (Ok lived)) life)
          → ((refused : Refused S U) → Fits input job (Lived (Err refused)) no_life)
          → LeftBy g may_leave may_stay (Lived came) left → RunsLines g may_leave may_stay found input old new came
          → (from : HoldsHistory h found) → WasOne input job (Lived came)
      ran_as input job (Ok lived) is none leaves runs (inl nothing) =
          absurd (runs.anyway.opens.nothing nothing.0 leaves.0)
      ran_as input job (Ok lived) is none leaves runs (inr holds) =
          ∥∥₁_map (ran input lived leaves runs holds)
          (λ one. (one.0, record { in_range = one.1; applied = one.2; is = is lived one.0 one.3 }, one.4))
      ran_as input job (Err refused) is none leaves runs from =
          was_none input job (Lived (Err refused)) (none refused)
          (opened_none (Err refused) leaves runs.anyway.opens (λ lived same holds. absurd (cc same)) from)

      imported_as : (input : Option (List ℕ)) (job : Job) (came : Result (FileLife S) (Refused S U))
          → (terms : Terms) → ((lived : FileLife S) (life : Life)
          → (life.replies ≡ lived.outcome.replies) × AreRowItemsOf terms input life.items × WroteAnswers h life old new
          → Fits input job (Lived (Ok lived)) life)
          → ((refused : Refused S U) → Fits input job (Lived (Err refused)) no_life)
          → LeftBy g may_leave may_stay (Lived came) left
          → ImportsRows g may_leave may_stay found terms input old new came
          → (from : HoldsHistory h found) → WasOne input job (Lived came)
      imported_as input job (Ok lived) terms is none leaves imports (inl nothing) =
          absurd (imports.anyway.opens.nothing nothing.0 leaves.0)
      imported_as input job (Ok lived) terms is none leaves imports (inr holds) =
          ∥∥₁_map (imported terms input lived leaves imports holds)
          (λ one. (one.0, record { in_range = one.1; applied = one.2; is = is lived one.0 one.3 }, one.4))
      imported_as input job (Err refused) terms is none leaves imports from =
          was_none input job (Lived (Err refused)) (none refused)
          (opened_none (Err refused) leaves imports.anyway.opens (λ lived same holds. absurd (cc same)) from)

      served_as : (input : Option (List ℕ)) (bounds : Bounds) (came : Result (FileLife S) (Refused S U))
          → LeftBy g may_leave may_stay (Lived came) left
          → ServesExchanges g may_leave may_stay found bounds.exchanges before after_all accepted came
          → (from : HoldsHistory h found) → WasOne input (Serve bounds) (Lived came)
      served_as input bounds (Ok lived) leaves serves (inl nothing) = absurd (serves.opens.nothing nothing.0 leaves.0)
      served_as input bounds (Ok lived) leaves serves (inr holds) =
          let it = (serves.lives h lawful holds leaves.0).1.from in
          let replies = count_known lived.outcome.end (length serves.clients) in
          ∥∥₁_map (it.leaves left leaves.1) (λ one. (
            life_of it.items replies one.0,
            record {
              in_range = one.1.in_range;
              applied = applies_within it.items replies one.0 one.1.enough;
              is = record { clients = serves.clients; attends = serves.attends; served = it.served; known = refl };
            },
            inr one.2,
          ))
      served_as input bounds (Err refused) leaves serves from =
          was_none input (Serve bounds) (Lived (Err refused)) refl
          (opened_none (Err refused) leaves serves.opens (λ lived same holds. absurd (cc same)) from)

      exported : (came : Result (FileLife S) (Refused S U)) → LeftBy g may_leave may_stay (Lived came) left
          → Exports g may_leave may_stay found old new came → ∥ HoldsHistory h left ∥₁
      exported (Ok lived) leaves exports =
          opened_none (Ok lived) leaves exports.opens
          (λ it same holds. left_in h left ((exports.lives h lawful holds leaves.0).1.from.leaves left leaves.1)) start
      exported (Err refused) leaves exports =
          opened_none (Err refused) leaves exports.opens (λ lived same holds. absurd (cc same)) start

      reported : (days : ℕ) (came : Result (FileLife S) (Refused S U)) → LeftBy g may_leave may_stay (Lived came) left
          → Reports g may_leave may_stay found days old new came → ∥ HoldsHistory h left ∥₁
      reported days (Ok lived) leaves reports =
          opened_none (Ok lived) leaves reports.opens
          (λ it same holds. left_in h left ((reports.keeps h lawful holds leaves.0).1.from left leaves.1)) start
      reported days (Err refused) leaves reports =
          opened_none (Err refused) leaves reports.opens (λ lived same holds. absurd (cc same)) start

      by_job : (input : Option (List ℕ)) (job : Job) (done : Done S U)
          → Performs g may_leave may_stay found job (traffic input) done → LeftBy g may_leave may_stay done left
          → WasOne input job done
      by_job input Init (Made came) performs leaves =
          was_none input Init (Made came) refl (made_as came leaves performs.0 start)
      by_job input Run (Lived came) performs leaves =
          ran_as input Run came (λ lived life is. is) (λ refused. refl) leaves performs.0 start
      by_job input (Import terms) (Lived came) performs leaves =
          imported_as input (Import terms) came terms (λ lived life is. is) (λ refused. refl) leaves performs.0 start
      by_job input Export (Lived came) performs leaves =
          was_none input Export (Lived came) refl (exported came leaves performs.0)
      by_job input (Report days) (Lived came) performs leaves =
          was_none input (Report days) (Lived came) refl (reported days came leaves performs.0)
      by_job input (Serve bounds) (Lived came) performs leaves =
          served_as input bounds came leaves performs.0 start
      by_job input job done performs leaves = absurd performs

module _ {S U : Type 0} (g : Ghosts S) (may_leave : S → Image → Type 0) (may_stay : U → Image → Type 0) where
  pub leads_from : (found : Image) (job : Job) (it : Traffic) (done : Done S U)
      → Performs g may_leave may_stay found job it done → LeadsFrom g may_leave may_stay found job it done
  leads_from found job it done performs left leaves h lawful start =
      by_job g may_leave may_stay h found left start lawful it.old it.new it.before it.after it.accepted it.input job done
      performs leaves

-- ---- the runs, one after the other

were_on : (h : List Request) (runs : List ProgramRun) (lives : List Life) (run : ProgramRun) (life : Life)
    → Were h runs lives → WasLife (after_lives h lives) run life → Were h (runs ++ run ∷ []) (lives ++ life ∷ [])
were_on h [] [] run life were is = (is, tt)
were_on h (first ∷ runs) (one ∷ lives) run life were is = (were.0, were_on (after h one) runs lives run life were.1 is)
were_on h [] (one ∷ lives) run life were is = absurd were
were_on h (first ∷ runs) [] run life were is = absurd were

after_on : (h : List Request) (lives : List Life) (life : Life)
    → after_lives h (lives ++ life ∷ []) ≡ after (after_lives h lives) life
after_on h [] life = refl
after_on h (one ∷ lives) life = after_on (after h one) lives life

-- with one run more, which leads on from what the file holds
again_on : (h : List Request) (runs : List ProgramRun) (now : Image) (run : ProgramRun)
    → FoundAgain h runs now → run.found ≡ now → Leads run → ∥ FoundAgain h (runs ++ run ∷ []) run.left ∥₁
again_on h runs now run again same leads =
    let been = after_lives h again.lives in
    ∥∥₁_map (leads been again.lawful (subst (HoldsHistory been) (sym same) again.holds)) (λ one.
    let on = sym (after_on h again.lives one.0) in record {
      lives = again.lives ++ one.0 ∷ [];
      were = were_on h runs again.lives run one.0 again.were one.1;
      lawful = subst IsLawful on (lawful_on one.0.items been one.0.applied again.lawful one.1.in_range);
      holds = subst (λ (k : List Request). HoldsHistory k run.left) on one.2;
    })

-- a run that was asked for leads on, by what the world has of it
pub asked_leads : {F S U R W N E : Type 0} (g : Ghosts S) (may_leave : S → Image → Type 0)
    (may_stay : U → Image → Type 0) (remaining : R → Option (List ℕ)) (contents : W → Option (List ℕ))
    (visits : N → Option (List Visit)) (asked : Asked F N R W E) (ran : Ran S U N R W E) (begun : Begun)
    (start now : Image) → begun ≡ begun_by remaining contents visits asked → start ≡ now
    → LeadsFrom g may_leave may_stay start asked.job (traffic_through remaining contents visits asked ran)
    ran.acted.done
    → (left : Image) → LeftBy g may_leave may_stay ran.acted.done left
    → Leads (run_of contents visits begun now ran left)
asked_leads g may_leave may_stay remaining contents visits asked ran begun start now is same leads left may =
    subst Leads (ap (λ (b : Begun). run_of contents visits b start ran left) (sym is)
    ∙ ap (λ (found : Image). run_of contents visits begun found ran left) same) (leads left may)

-- with one that was asked for and was handed back
pub stay_after : (runs : List ProgramRun) (now : Image) (runs_asked : List ProgramRun) (now_asked : Image)
    (run : ProgramRun) (runs_new : List ProgramRun) → runs_asked ≡ runs → now_asked ≡ now → run.found ≡ now_asked
    → Leads run → runs_new ≡ runs_asked ++ run ∷ [] → StayFoundAgain runs now runs_new run.left
stay_after runs now runs_asked now_asked run runs_new same as_was is leads more h again =
    subst (λ (of : List ProgramRun). ∥ FoundAgain h of run.left ∥₁)
    (sym (more ∙ ap (λ (of : List ProgramRun). of ++ run ∷ []) same)) (again_on h runs now run again (is ∙ as_was) leads)

-- one turn after others
pub stay_on : (runs : List ProgramRun) (now : Image) (runs_then : List ProgramRun) (now_then : Image)
    (runs_new : List ProgramRun) (now_new : Image) → StayFoundAgain runs now runs_then now_then
    → StayFoundAgain runs_then now_then runs_new now_new → StayFoundAgain runs now runs_new now_new
stay_on runs now runs_then now_then runs_new now_new before then h again =
    ∥∥₁_elim (before h again) squash₁ (λ been. then h been)

-- from no run yet
pub finds_again : (runs : List ProgramRun) (now : Image) (runs_new : List ProgramRun) (now_new : Image)
    → StayFoundAgain runs now runs_new now_new → FindsAgain runs now runs_new now_new
finds_again runs now runs_new now_new stay h lawful holds none =
    stay h (subst (λ (of : List ProgramRun). FoundAgain h of now) (sym none) (record {
      lives = [];
      were = tt;
      lawful = lawful;
      holds = holds;
    }))
