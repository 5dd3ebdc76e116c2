use Rattle.std.proofs.Common.{◌≡◌, ◌≤◌, length, map, Option, Result, Err, IfErr, arith}
use Rattle.std.proofs.lemmas.List.{take_all}
use Rattle.std.specs.Option.{MatchOption, ok_or}
use Rattle.sqlite.specs.{declared.types.Value.TheVariants.Text as Words, Order.column}
use Rattle.sql_steps.proofs.Members.{contains_has}
use Rattle.register_rows.proofs.NamesFound.{sorted_so}
use Rattle.register_rows.proofs.stored_key.sorted_names_in.Goals as goal

in_any_case : {A E : Type 0} (P : E → Type 0) (r : Result A E) → ((e : E) → P e) → IfErr r P
in_any_case P r all = search arith

-- nothing was found where an error stands for it
none_found : {A E : Type 0} (found : Option A) (error given : E) (P : Type 0) (Q : A → Type 0) → MatchOption found P Q
    → Err error ≡ ok_or found given → P
none_found found error given P Q holds is = search arith

pub returns-in_err-name-clause-unregistered : goal.returns-in_err-name-clause-unregistered
returns-in_err-name-clause-unregistered c = search (arith, in_any_case, contains_has, none_found)

pub returns-clause-names : goal.returns-clause-names
returns-clause-names c =
    let past : length c.args.rows.now ≤ c.loop-row.row-index = omega arith in
    let all : map (λ row. column row 0) c.args.rows.now ≡ map Words c.loop-row.shown.items = search (arith, take_all) in
    sorted_so c.args.rows.now c.loop-row.shown.items c.sorted_from_vec.result all c.sorted_from_vec.ensures
