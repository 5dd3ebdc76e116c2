use Rattle.std.proofs.Common.{◌≡◌, ap, arith, true, rules}
use Rattle.std.proofs.lemmas.Grind.{common_steps}
use Rattle.csv.specs.Records.{fields_of}
use Rattle.register_report.specs.declared.importing.Rows.{Rows}
use Rattle.register_report.proofs.RowsCut.{rows_then}
use Rattle.register_report.proofs.importing.RowsItemsReader.next_item.Goals as goal

pub returns-clause-came : goal.returns-clause-came
returns-clause-came g c item is start items came =
    let reads = c.in_ok-read_record.ensures in
    let same : c.row_item-item.result ≡ item = cc in
    let found : c.in_ok-read_record.field-0 ≡ true = grind (arith, common_steps, c.if-not-branch.false) in
    let moment = ap (λ (r : Rows). r.moment) reads.kept in
    let caller = ap (λ (r : Rows). r.caller) reads.kept in
    let number = ap (λ (r : Rows). r.number) reads.kept in
    let counted = ap (λ (r : Rows). r.came) reads.kept in
    rows_then came (fields_of c.read_record.new.self.row) item (rw found at reads.reads) reads.text
    (rw (moment, caller, number, same) at c.row_item-item.ensures.item) reads.on.config moment caller
    (omega (arith, number)) (omega (arith, counted)) (omega (arith, counted, c.if-self-eq-MAX_ROWS.false))

pub returns-clause-less : goal.returns-clause-less
returns-clause-less g c = search rules

pub returns-clause-ready : goal.returns-clause-ready
returns-clause-ready g c = search rules

pub returns-then-self-eq-MAX_ROWS-clause-fails : goal.returns-then-self-eq-MAX_ROWS-clause-fails
returns-then-self-eq-MAX_ROWS-clause-fails g c = search rules

pub returns-then-self-eq-MAX_ROWS-clause-ends : goal.returns-then-self-eq-MAX_ROWS-clause-ends
returns-then-self-eq-MAX_ROWS-clause-ends g c = search rules
