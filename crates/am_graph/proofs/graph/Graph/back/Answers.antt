use Rattle.std.proofs.Common.{subst}
use Rattle.am_graph.specs.Graphs.{IsTable, Leads}
use Rattle.am_graph.proofs.graph.Graph.back.Goals as goal

pub returns : goal.returns
returns c = subst (λ g. IsTable (λ end start. Leads g.links start end) g.nodes c.self.inside.back) c.self.view_is c.self.invariant.0.back
