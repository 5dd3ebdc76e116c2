use Rattle.http_messages.proofs.header_fields.HeaderFields.with_line.Goals as goal

pub returns : goal.returns
returns c = λ lines all. record {
  host = c.with_value_if_named.ensures lines all.host;
  transfer_encoding = c.with_value_if_named-2.ensures lines all.transfer_encoding;
  content_length = c.with_value_if_named-3.ensures lines all.content_length;
  caller = c.with_value_if_named-4.ensures lines all.caller;
  request_number = c.with_value_if_named-5.ensures lines all.request_number;
}
