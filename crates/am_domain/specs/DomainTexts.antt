-- What is said of a domain file that is refused.
use Rattle.std.specs.Prelude.{ℕ, List, [], ◌++◌, Option, Some, None, codes, decimal}
use Rattle.am_clock.specs.declared.timing.TimingError.{TimingError}
use Rattle.am_clock.specs.declared.timing.TimingError.TheVariants as timing
use Rattle.am_domain.specs.Keys.{spelling, part_spelling}
use Rattle.am_domain.specs.declared.error.Part.{Part}
use Rattle.am_domain.specs.declared.error.Part.TheVariants as part
use Rattle.am_domain.specs.declared.error.Key.{Key}
use Rattle.am_domain.specs.declared.error.Key.TheVariants as key
use Rattle.am_domain.specs.declared.error.Repeated.{Repeated}
use Rattle.am_domain.specs.declared.error.Repeated.TheVariants as repeated
use Rattle.am_domain.specs.declared.error.DomainError.{DomainError}
use Rattle.am_domain.specs.declared.error.DomainError.TheVariants as refused

-- a key, as it is spelled in the file; any other is a question mark
abbrev pub key_text : Key → List ℕ
key_text key.Unknown = codes "?"
key_text k = spelling k

-- the place of an item in its array
abbrev pub index_text : Option ℕ → List ℕ
index_text None = []
index_text (Some i) = codes "[" ++ (decimal i ++ codes "]")

-- the key of a part, with a dot before it; the file itself has no name, so its keys have no dot
abbrev pub member_text : Part → Option Key → List ℕ
member_text at None = []
member_text part.Top (Some k) = key_text k
member_text at (Some k) = codes "." ++ key_text k

-- where a field stands: the part, the item's place, and the key
abbrev pub path_text : Part → Option ℕ → Option Key → List ℕ
path_text at index k = part_spelling at ++ (index_text index ++ member_text at k)

-- why numbers are no timing
abbrev pub timing_text : TimingError → List ℕ
timing_text timing.ZeroBlock = codes "block is zero"
timing_text timing.OddBlock = codes "block is odd"
timing_text timing.BlockTooLong = codes "block is too long"
timing_text timing.DelayTooLong = codes "delay is too long"
timing_text timing.BoundsCrossed = codes "delay bounds are crossed"
timing_text (timing.GuardTooWide wide most) =
    codes "guard " ++ (decimal wide ++ (codes " is not below half " ++ decimal most))

-- what there are too many of
abbrev pub many_text : Part → List ℕ
many_text part.Node = codes "nodes"
many_text part.Link = codes "links"
many_text _ = codes "flows"

-- the name or the number of an item that is there twice
abbrev pub twice_text : Repeated → ℕ → List ℕ
twice_text repeated.FlowName i = codes "flow[" ++ (decimal i ++ codes "].name")
twice_text repeated.FlowId i = codes "flow[" ++ (decimal i ++ codes "].id")
twice_text repeated.NodeName i = codes "node[" ++ (decimal i ++ codes "].name")

-- what is said of a refusal
abbrev pub domain_text : DomainError → List ℕ
domain_text refused.NotToml = codes "not TOML"
domain_text (refused.BadField at index k) = codes "bad field " ++ path_text at index k
domain_text (refused.Timing fault) = timing_text fault
domain_text (refused.TooMany at count) =
    codes "too many " ++ (many_text at ++ (codes ": " ++ decimal count))
domain_text (refused.Twice what first second) =
    twice_text what second ++ (codes " repeats " ++ twice_text what first)
domain_text (refused.UnknownNode link end) =
    codes "link[" ++ (decimal link ++ (codes "]." ++ (key_text end ++ codes " is no node")))
domain_text (refused.SelfLink link) =
    codes "link[" ++ (decimal link ++ codes "] joins a node to itself")
domain_text (refused.LinkTwice first second) =
    codes "link[" ++ (decimal second ++ (codes "] repeats link[" ++ (decimal first ++ codes "]")))
domain_text (refused.LoneNode node) = codes "node[" ++ (decimal node ++ codes "] has no link")
domain_text (refused.NoBlock first end) =
    codes "no block is covered: first " ++ (decimal first ++ (codes " end " ++ decimal end))
domain_text (refused.TooManyCells count) = codes "too many cells: " ++ decimal count
domain_text refused.Memory = codes "out of memory"
