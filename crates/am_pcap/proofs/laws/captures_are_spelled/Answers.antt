use Rattle.am_pcap.proofs.Written.{capture-spelled, written-back}
use Rattle.am_pcap.proofs.laws.captures_are_spelled.Goals as goal

pub returns-clause-spelled : goal.returns-clause-spelled
returns-clause-spelled c = capture-spelled

pub returns-clause-read_back : goal.returns-clause-read_back
returns-clause-read_back c = written-back
