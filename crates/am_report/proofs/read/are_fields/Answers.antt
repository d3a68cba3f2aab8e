use Rattle.std.proofs.Common.{◌∙◌, sym, ap, arith, List, ℕ, Some}
use Rattle.std.specs.Prelude.{map}
use Rattle.csv.specs.Records.{field_at}
use Rattle.std.proofs.Math.ListN.{get_or-map, length-map}
use Rattle.am_report.proofs.FieldLemmas.{same-fields, field-of}
use Rattle.am_report.proofs.read.are_fields.Goals as goal

pub returns-then-not-has_field-clause-no : goal.returns-then-not-has_field-clause-no
returns-then-not-has_field-clause-no c = λ same.
    let names = map (λ f. f.now) c.args.names.now in
    let low = c.loop-i-test.true in
    let long = length-map c.args.names.now (λ f. f.now) in
    let here = field-of names c.loop-i.i (omega (arith, low, long)) in
    let there = ap (λ (fs : List (List ℕ)). field_at fs c.loop-i.i) same ∙ here in
    c.if-not-has_field.ensures.no (there ∙ ap Some (get_or-map (λ f. f.now) c.args.names.now c.loop-i.i _))

pub returns-clause-yes : goal.returns-clause-yes
returns-clause-yes c =
    let long = length-map c.args.names.now (λ f. f.now) in
    same-fields _ (map (λ f. f.now) c.args.names.now) (sym c.len.ensures ∙ c.if-len-names.false ∙ sym long)
    (λ k low. c.loop-i.invariant k (omega (arith, low, long, c.len.ensures, c.if-len-names.false, c.loop-i-test.false)))
