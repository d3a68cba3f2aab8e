use Rattle.am_pcap.proofs.Framed.{frame-unique}
use Rattle.am_pcap.proofs.laws.frames_are_one.Goals as goal

pub returns : goal.returns
returns c = frame-unique
