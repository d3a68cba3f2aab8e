use Rattle.std.proofs.Common.{◌∙◌, None, length, replicate, rules, ap}
use Rattle.am_control.specs.Plans.{LossPlan, IsPlanOf}
use Rattle.am_control.proofs.ReportLemmas.{new-control}
use Rattle.am_control.proofs.control.Control.new.Goals as goal

pub invariant_of-result : goal.invariant_of-result
invariant_of-result c =
    let plan : LossPlan = record {
      clusters = c.in_ok-clusters.clusters;
      entries = c.in_ok-entries.entries.items;
      exits = c.in_ok-exits.exits.items;
      flows = length c.flows.result.now;
      first = c.first.result;
      end = c.end.result;
    } in
    let of : IsPlanOf c.args.domain.now plan = search rules in
    new-control c.args.domain.now plan c.in_ok-reports.reports.items c.end.ensures.lawful of
    (c.in_ok-reports.ensures ∙ ap (λ n. replicate n None) (ap length c.nodes-nodes.ensures.value))
