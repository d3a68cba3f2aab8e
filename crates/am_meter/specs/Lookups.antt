-- Where a marked record counts: in the cell of a flow and a block of a domain, or nowhere.
use Rattle.std.specs.Prelude.{ℕ, ◌<◌, IsTrue, length, slice_index_or}
use Rattle.am_domain.specs.Values.{FlowValue}
use Rattle.am_domain.specs.Domains.{DomainValue, Reports}
use Rattle.am_meter.specs.declared.stream.Marked.{Marked}
use Rattle.am_meter.specs.Metering.{counts_in, node_shift}

-- the record counts at the node in the cell of this flow and reported block
pub record CountsAt (d : DomainValue) (node : ℕ) (m : Marked) (flow block : ℕ) : Type 0 where
  pub flow_there : flow < length d.flows
  pub reported : Reports d block
  pub counts : (f : FlowValue) → IsTrue (counts_in d.times (slice_index_or d.flows flow f).id (node_shift d node) block m)
