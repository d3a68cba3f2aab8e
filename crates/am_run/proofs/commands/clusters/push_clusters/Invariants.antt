use Rattle.std.proofs.Common.{◌≡◌, ◌++◌, string_bytes}
use Rattle.am_run.specs.commands.Clusters.{cluster_lines}
use Rattle.am_run.proofs.commands.clusters.push_clusters.Given as goal

-- the lines of the clusters so far were added
abbrev pub invariant-loop-k : goal.invariant-loop-k
invariant-loop-k l = string_bytes l.text ≡ string_bytes l.fn.text ++ cluster_lines l.nodes l.clusters l.k
