use Rattle.am_pcap.proofs.OneFile.{begins-head, begins-capture, begins-begins, begins-not_refused, begins-refused}
use Rattle.am_pcap.proofs.laws.beginnings_agree.Goals as goal

pub returns-clause-head : goal.returns-clause-head
returns-clause-head c = begins-head

pub returns-clause-capture : goal.returns-clause-capture
returns-clause-capture c = begins-capture

pub returns-clause-both : goal.returns-clause-both
returns-clause-both c = begins-begins

pub returns-clause-not_refused : goal.returns-clause-not_refused
returns-clause-not_refused c = begins-not_refused

pub returns-clause-refused : goal.returns-clause-refused
returns-clause-refused c = begins-refused
