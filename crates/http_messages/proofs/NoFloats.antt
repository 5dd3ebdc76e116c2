-- No answer holds a number that is not whole.
use Rattle.std.proofs.Common.{◌≡◌, Bool, false, ℕ, List, [], ◌∷◌, Option, Some, None, refl}
use Rattle.std.specs.Prelude.{◌||◌}
use Rattle.serde_json.specs.Written.{has_float}
use Rattle.key_rows.specs.declared.record.Record.{Record}
use Rattle.http_messages.specs.{CommandValue.date_data, AnswerValue.names_data, AnswerValue.key_data}

pub dates_have_none : (date : Option ℕ) → has_float (date_data date) ≡ false
dates_have_none None = refl
dates_have_none (Some date) = refl

pub names_have_none : (names : List (List ℕ)) → has_float (names_data names) ≡ false
names_have_none [] = refl
names_have_none (name ∷ names) = names_have_none names

either : (a b : Bool) → a ≡ false → b ≡ false → (a || b) ≡ false
either a b e f = rw (e, f) refl

pub key_has_none : (shown : Record) → has_float (key_data shown) ≡ false
key_has_none shown =
    let key = shown.key in
    either _ _ (dates_have_none key.row.dates.activation) (either _ _ (names_have_none shown.approvals)
    (either _ _ (dates_have_none key.row.dates.compromise) (either _ _ (names_have_none shown.custodians)
    (either _ _ (dates_have_none key.row.dates.deactivation) (either _ _ (dates_have_none key.row.dates.destroy)
    (either _ _ (dates_have_none key.row.dates.compromise_occurrence)
    (either _ _ (dates_have_none key.row.dates.protect_stop) refl)))))))
