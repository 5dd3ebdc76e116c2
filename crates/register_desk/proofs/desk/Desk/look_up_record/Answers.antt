use Rattle.std.proofs.Common.{◌≡◌, ℕ, Some, Err, sym, ap, ◌∙◌}
use Rattle.std.proofs.lemmas.Result.{err_from_is_err_and}
use Rattle.std.specs.Option.{option_map}
use Rattle.register_tables.specs.{TableChanges.key_at, TableReads.loaded, Tables.Tables}
use Rattle.register_desk.specs.Register.{tables}
use Rattle.register_desk.proofs.Grows.{as_shown, shown_is}
use Rattle.register_desk.proofs.Readings.{looks_ended, looks_given, looks_then}
use Rattle.register_desk.proofs.desk.Desk.look_up_record.Goals as goal

-- what is loaded under a need is loaded under one that is the same
loaded_so : (t : Tables) (k need other : ℕ) → need ≡ other
    → option_map (loaded k need t) (key_at t.keys k) ≡ option_map (loaded k other t) (key_at t.keys k)
loaded_so t k need other same = ap (λ (n : ℕ). option_map (loaded k n t) (key_at t.keys k)) same

pub returns-in-Some-clause-shown : goal.returns-in-Some-clause-shown
returns-in-Some-clause-shown g c h stands clean =
    let t = tables h in
    let found = c.in_ok-held.ensures.found t (c.in_ok-need.ensures.looks.reads.rows t stands.over.sees) clean in
    let need = c.in_ok-need.ensures.found t stands.over.sees (c.in_ok-held.ensures.looks.reads.clean clean) in
    ap Some c.new.ensures
    ∙ ap (option_map (as_shown c.args.number))
    (sym c.in-Some.is ∙ found ∙ loaded_so t c.args.number c.in_ok-need.need _ need)
    ∙ shown_is h c.args.number

pub returns-in-None-clause-shown : goal.returns-in-None-clause-shown
returns-in-None-clause-shown g c h stands clean =
    let t = tables h in
    let found = c.in_ok-held.ensures.found t (c.in_ok-need.ensures.looks.reads.rows t stands.over.sees) clean in
    let need = c.in_ok-need.ensures.found t stands.over.sees (c.in_ok-held.ensures.looks.reads.clean clean) in
    ap (option_map (as_shown c.args.number))
    (sym c.in-None.is ∙ found ∙ loaded_so t c.args.number c.in_ok-need.need _ need) ∙ shown_is h c.args.number

pub returns-in_err-held-clause-looks : goal.returns-in_err-held-clause-looks
returns-in_err-held-clause-looks g c =
    let ended = err_from_is_err_and c.from_residual-in_err-held.result c.from_residual-in_err-held.ensures.1 in
    looks_then g.S.Store _ c.look_up_need.new.self _ 2 36 _ _ c.in_ok-need.ensures.looks
    (looks_ended g.S.Store 36 _ _ _ _ (ended.1 ∙ ap Err ended.2) c.in_err-held.ensures.looks)

pub returns-in-Some-clause-looks : goal.returns-in-Some-clause-looks
returns-in-Some-clause-looks g c =
    looks_then g.S.Store _ c.look_up_need.new.self _ 2 36 _ _ c.in_ok-need.ensures.looks
    (looks_given g.S.Store 36 _ _ _ _ c.in_ok-held.ensures.looks)

pub returns-in-None-clause-looks : goal.returns-in-None-clause-looks
returns-in-None-clause-looks g c =
    looks_then g.S.Store _ c.look_up_need.new.self _ 2 36 _ _ c.in_ok-need.ensures.looks
    (looks_given g.S.Store 36 _ _ _ _ c.in_ok-held.ensures.looks)
