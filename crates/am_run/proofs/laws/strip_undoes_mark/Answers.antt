-- What is known of packets and of captures, put together.
use Rattle.am_run.proofs.UndoLemmas.{undone-file, undone-run}
use Rattle.am_run.proofs.laws.strip_undoes_mark.Goals as goal

pub returns-clause-captures : goal.returns-clause-captures
returns-clause-captures c =
    undone-file c.laws.ensures
    (record { undone = c.insert_law.ensures; opened = c.open_law.ensures; addresses = c.address_law.ensures; one = c.strip_law.ensures })
    (record {
      one = c.captures_are_one.ensures.one;
      spelled = c.captures_are_spelled.ensures.spelled;
      read_back = c.captures_are_spelled.ensures.read_back;
    })

pub returns-clause-runs : goal.returns-clause-runs
returns-clause-runs c =
    undone-run c.laws.ensures
    (record { undone = c.insert_law.ensures; opened = c.open_law.ensures; addresses = c.address_law.ensures; one = c.strip_law.ensures })
    (record {
      one = c.captures_are_one.ensures.one;
      spelled = c.captures_are_spelled.ensures.spelled;
      read_back = c.captures_are_spelled.ensures.read_back;
    })
