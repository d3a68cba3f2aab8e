-- Where the mark was put, and what stands there, by what is known of walks.
use Rattle.am_insert.proofs.Undone.{undone}
use Rattle.am_insert.proofs.laws.insert_law.Goals as goal

pub returns : goal.returns
returns c = λ packet whole mark place marked. undone c.walk_law.ensures packet whole mark place marked
