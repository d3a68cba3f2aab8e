use Rattle.am_pcap.proofs.Chunked.{later}
use Rattle.am_pcap.proofs.held.Held.skip.Goals as goal

pub returns : goal.returns
returns c = later c.self.inside.chunk.items c.args.self.now c.self.inside.from c.self.inside.end c.args.n c.self.view_is c.self.invariant c.requires
