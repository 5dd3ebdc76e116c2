-- The cells of a key, and of what is kept of a request, determine it.
use Rattle.std.proofs.Common.{◌≡◌, ◌==◌, ◌-◌, if◌then◌else◌, ℕ, pos, List, Option, None, Some, slice_get, refl, sym, ap}
use Rattle.std.proofs.Common.{◌∙◌, arith}
use Rattle.std.specs.Prelude.{unwrap_or}
use Rattle.sqlite.specs.declared.types.Value.TheVariants.{Int, Text as Words}
use Rattle.sqlite.specs.{declared.types.Value.Value, Order.Row as Cells}
use Rattle.lifecycle_core.specs.declared.state.State.TheVariants.{PreActive}
use Rattle.lifecycle_core.specs.{declared.dates.Dates.Dates, declared.state.State.State, State.state_code}
use Rattle.lifecycle_core.proofs.States.{of_each_state}
use Rattle.period_core.specs.declared.key_type.KeyType.TheVariants.{DataEncryption}
use Rattle.period_core.specs.{declared.key_type.KeyType.KeyType, KeyType.key_type_code}
use Rattle.period_core.proofs.Types.{of_each_type, types}
use Rattle.register_requests.proofs.Lines.{same_command}
use Rattle.register_requests.specs.{CommandRule.any_state, Request.IsDate, Request.command_text}
use Rattle.register_core.specs.{declared.kept_reply.KeptReply.KeptReply, declared.key.Key.Key}
use Rattle.register_tables.specs.Tables.{date_cell, state_cell}
use Rattle.register_tables.specs.TableReads.{HasCellsOf, ShowsDates, ShowsKey}

-- ---- a code has one meaning: codes count from 1

kind_of : ℕ → KeyType
kind_of n = unwrap_or (slice_get types (n - 1)) DataEncryption

kind_back : (kind : KeyType) → kind_of (key_type_code kind) ≡ kind
unfolding kind_of
kind_back = of_each_type (λ kind. kind_of (key_type_code kind) ≡ kind) refl refl refl refl refl refl refl

state_in : ℕ → State
state_in n = unwrap_or (slice_get any_state (n - 1)) PreActive

state_back : (state : State) → state_in (state_code state) ≡ state
unfolding state_in
state_back = of_each_state (λ state. state_in (state_code state) ≡ state) refl refl refl refl refl refl

pub same_kind : (a b : KeyType) → key_type_code a ≡ key_type_code b → a ≡ b
same_kind a b e = sym (kind_back a) ∙ ap kind_of e ∙ kind_back b

pub same_state : (a b : State) → state_code a ≡ state_code b → a ≡ b
same_state a b e = sym (state_back a) ∙ ap state_in e ∙ state_back b

state_or_none_in : ℕ → Option State
state_or_none_in n = if n == 0 then None else Some (state_in n)

reply_state_back : (state : Option State) → state_or_none_in (state_cell state) ≡ state
unfolding state_or_none_in state_in
reply_state_back state = search (arith, of_each_state, state_or_none_in)

same_reply_state : (a b : Option State) → state_cell a ≡ state_cell b → a ≡ b
same_reply_state a b e = sym (reply_state_back a) ∙ ap state_or_none_in e ∙ reply_state_back b

pub same_date : (a b : Option ℕ) → IsDate a → IsDate b → date_cell a ≡ date_cell b → a ≡ b
same_date a b x y e = search arith

-- ---- a cell has one value

pub same_number : (v : Value) (m n : ℕ) → v ≡ Int (pos m) → v ≡ Int (pos n) → m ≡ n
same_number v m n x y = cc

pub same_words : (v : Value) (s t : List ℕ) → v ≡ Words s → v ≡ Words t → s ≡ t
same_words v s t x y = cc

-- ---- the whole row of a key

-- a row shows one key alone
module _ (row : Cells) where
  cell_dates : (v : Value) (a b : Option ℕ) → (v ≡ Int (pos (date_cell a))) × IsDate a → (v ≡ Int (pos (date_cell b)))
      × IsDate b → a ≡ b
  cell_dates v a b x y = same_date a b x.1 y.1 (same_number v _ _ x.0 y.0)

  one_dates : (d e : Dates) → ShowsDates row d → ShowsDates row e → d ≡ e
  one_dates d e h k = search (arith, same_number, cell_dates)

  pub one_key : (a b : Key) → ShowsKey row a → ShowsKey row b → a ≡ b
  one_key a b h k i = record {
    kind = same_kind _ _ (same_number _ _ _ h.kind k.kind) i;
    owner = same_words _ _ _ h.owner k.owner i;
    purpose = same_words _ _ _ h.purpose k.purpose i;
    row = record {
      dates = one_dates _ _ h.dates k.dates i;
      state = same_state _ _ (same_number _ _ _ h.state k.state) i;
    };
  }

-- ---- the whole row of a request

-- a row has the cells of one alone
pub same_request : (caller : List ℕ) (number : ℕ) (row : Cells) (a b : KeptReply) → HasCellsOf caller number row a
    → HasCellsOf caller number row b → a ≡ b
same_request caller number row a b x y i = record {
  caller = (x.caller ∙ sym y.caller) i;
  number = (x.number ∙ sym y.number) i;
  command = same_command (command_text a.command) a.command b.command (x.command.1, refl) (grind (arith, same_words)) i;
  reply = record {
    key = same_number _ _ _ x.key y.key i;
    state = same_reply_state _ _ (same_number _ _ _ x.state y.state) i;
    moment = same_number _ _ _ x.moment y.moment i;
  };
}
