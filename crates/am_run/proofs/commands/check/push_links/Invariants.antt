use Rattle.std.proofs.Common.{◌≡◌, ◌++◌, take, string_bytes}
use Rattle.std.specs.Prelude.{flat_map}
use Rattle.am_run.specs.commands.Check.{link_line}
use Rattle.am_run.proofs.commands.check.push_links.Given as goal

-- the lines of the links so far were added
abbrev pub invariant-loop-link : goal.invariant-loop-link
invariant-loop-link l = string_bytes l.text ≡ string_bytes l.fn.text ++ flat_map (link_line l.domain.nodes) (take l.link-index l.link-items)
