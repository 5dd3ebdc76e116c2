use Rattle.std.proofs.Common.{◌≡◌, false, sym, ap, ◌∙◌, arith}
use Rattle.register_core.specs.{declared.kept_reply.KeptReply.KeptReply, KeptReply.fits_its_command}
use Rattle.register_tables.specs.TableReads.{HasCellsOf}
use Rattle.register_tables.proofs.Decoding.{same_request}
use Rattle.register_tables.proofs.row_values.kept_reply_in.Goals as goal

pub returns-else-fits_its_command : goal.returns-else-fits_its_command
returns-else-fits_its_command c k is shows =
    let caller = c.args.caller.now in
    let number = c.args.number in
    let row = c.args.row.now in
    let read : KeptReply = record {
      caller = caller;
      number = number;
      command = c.in_ok-command_in.field-0;
      reply = record {
        key = c.in_ok-key_number_or_zero_in.field-0;
        state = c.in_ok-state_or_none_in.field-0;
        moment = c.in_ok-moment_in.field-0;
      };
    } in
    let shown : HasCellsOf caller number row read = search arith in
    let broken : fits_its_command read ≡ false = sym c.fits_its_command.ensures ∙ c.if-fits_its_command.false in
    let whole = ap fits_its_command (same_request caller number row read k shown shows.cells) ∙ is.whole in
    cc
