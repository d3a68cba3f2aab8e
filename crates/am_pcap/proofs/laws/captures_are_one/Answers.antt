use Rattle.am_pcap.proofs.OneFile.{capture-one, capture-not_refused_in, refused-once, header-refused}
use Rattle.am_pcap.proofs.laws.captures_are_one.Goals as goal

pub returns-clause-one : goal.returns-clause-one
returns-clause-one c = capture-one

pub returns-clause-not_refused : goal.returns-clause-not_refused
returns-clause-not_refused c = capture-not_refused_in

pub returns-clause-refused_once : goal.returns-clause-refused_once
returns-clause-refused_once c = refused-once

pub returns-clause-header : goal.returns-clause-header
returns-clause-header c = header-refused
