use Rattle.std.proofs.Common.{[], ◌∷◌, ◌++◌, refl, inr}
use Rattle.csv.specs.Records.{fields_of}
use Rattle.am_report.specs.Rows.{column_names}
use Rattle.am_report.proofs.ReadLemmas.{said-report, takes-more, tells-row}
use Rattle.am_report.proofs.read.said_by.Goals as goal

pub returns-then-not-is_header-clause-err : goal.returns-then-not-is_header-clause-err
returns-then-not-is_header-clause-err c =
    let read = (rw c.if-not-branch.false at c.in_ok-next_row.ensures.more) c.args.bytes.now [] c.rows_of-reader.ensures in
    inr (fields_of c.next_row.new.fields, (_, _, read.reached), (λ e. let yes = c.if-not-is_header.ensures.1 e in cc yes))

pub rows-init : goal.rows-init
rows-init c =
    let read = (rw c.if-not-branch.false at c.in_ok-next_row.ensures.more) c.args.bytes.now [] c.rows_of-reader.ensures in
    let header = c.if-not-is_header.ensures.0 refl in
    ([], [], rw header at read, refl, c.in-Ok.ensures.sound, c.in-Ok.ensures.filled)

pub returns-then-not-branch-2-clause-ok : goal.returns-then-not-branch-2-clause-ok
returns-then-not-branch-2-clause-ok c =
    let so_far = c.rows.invariant in
    let all = (rw c.if-not-branch-2.true at c.in_ok-next_row-2.ensures.all) c.args.bytes.now (column_names ∷ so_far.0) so_far.2 in
    (said-report _ _ so_far.1 _ (record { fields = so_far.0; rows = all; takes = so_far.3 }) (c.finish.ensures so_far.1 so_far.5)).0

pub returns-then-not-branch-2-clause-err : goal.returns-then-not-branch-2-clause-err
returns-then-not-branch-2-clause-err c =
    let so_far = c.rows.invariant in
    let all = (rw c.if-not-branch-2.true at c.in_ok-next_row-2.ensures.all) c.args.bytes.now (column_names ∷ so_far.0) so_far.2 in
    (said-report _ _ so_far.1 _ (record { fields = so_far.0; rows = all; takes = so_far.3 }) (c.finish.ensures so_far.1 so_far.5)).1

pub returns-in-Err-clause-err : goal.returns-in-Err-clause-err
returns-in-Err-clause-err c =
    let so_far = c.rows.invariant in
    let read = (rw c.if-not-branch-2.false at c.in_ok-next_row-2.ensures.more) c.args.bytes.now (column_names ∷ so_far.0) so_far.2 in
    tells-row _ _ _ (record {
      before = so_far.0;
      taken = so_far.1;
      fields = fields_of c.next_row-in-rows.new.fields;
      rows = (_, _, read.reached);
      takes = so_far.3;
      refused = c.in-Err.ensures.refused so_far.1 so_far.5;
    })

pub rows-preserved : goal.rows-preserved
rows-preserved c =
    let so_far = c.rows.invariant in
    let fields = fields_of c.next_row-in-rows.new.fields in
    let read = (rw c.if-not-branch-2.false at c.in_ok-next_row-2.ensures.more) c.args.bytes.now (column_names ∷ so_far.0) so_far.2 in
    let row = c.in_default-take.ensures.taken so_far.1 so_far.5 in (
      so_far.0 ++ (fields ∷ []),
      so_far.1 ++ (row.0 ∷ []),
      read,
      takes-more _ [] so_far.0 so_far.1 fields row.0 so_far.3 row.1,
      c.in_default-take.ensures.sound,
      row.2,
    )
