use Rattle.std.proofs.Common.{◌≡◌, ℕ, ◌<◌, [], get_or, Some}
use Rattle.std.specs.Prelude.{map}
use Rattle.csv.specs.Records.{field_at, fields_of}
use Rattle.am_report.proofs.read.are_fields.Given as goal

-- the fields so far are these
abbrev pub invariant-loop-i : goal.invariant-loop-i
invariant-loop-i l = (k : ℕ) → k < l.i → field_at (fields_of l.fields) k ≡ Some (get_or (map (λ f. f.now) l.names) k [])
