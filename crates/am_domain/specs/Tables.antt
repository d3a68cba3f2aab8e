-- What the tables of a domain file say, and the first key of a table that is bad.
use Rattle.std.specs.Prelude.{List, [], ◌∷◌, ◌++◌, Option}
use Rattle.toml.specs.Data.{Data, Members, get_member}
use Rattle.am_domain.specs.Values.{FlowValue, NodeValue, LinkValue}
use Rattle.am_domain.specs.Texts.{IsNameAt, IsFileNameAt, IsPrefixAt, IsIdAt, IsReadingAt}
use Rattle.am_domain.specs.Keys.{spelling, keys_of, IsRightTable}
use Rattle.am_domain.specs.First.{IsFirstNot}
use Rattle.am_domain.specs.declared.error.Part.{Part}
use Rattle.am_domain.specs.declared.error.Part.TheVariants as part
use Rattle.am_domain.specs.declared.error.Key.{Key}
use Rattle.am_domain.specs.declared.error.Key.TheVariants.{Name, Id, Source, Destination, Capture, FromNs, UntilNs, From, To, Unknown}

-- what stands at the key of a table
abbrev pub at_key : Members → Key → Option Data
at_key ms key = get_member (spelling key) ms

-- the table says this flow
pub record SaysFlow (ms : Members) (flow : FlowValue) : Type 0 where
  pub name : IsNameAt (at_key ms Name) flow.name
  pub id : IsIdAt (at_key ms Id) flow.id
  pub source : IsPrefixAt (at_key ms Source) flow.source
  pub destination : IsPrefixAt (at_key ms Destination) flow.destination
  pub known : IsRightTable part.Flow ms Unknown

-- the table says this node
pub record SaysNode (ms : Members) (node : NodeValue) : Type 0 where
  pub name : IsNameAt (at_key ms Name) node.name
  pub capture : IsFileNameAt (at_key ms Capture) node.capture
  pub from : IsReadingAt (at_key ms FromNs) node.from
  pub until : IsReadingAt (at_key ms UntilNs) node.until
  pub known : IsRightTable part.Node ms Unknown

-- the table says this link
pub record SaysLink (ms : Members) (link : LinkValue) : Type 0 where
  pub from : IsNameAt (at_key ms From) link.from
  pub to : IsNameAt (at_key ms To) link.to
  pub known : IsRightTable part.Link ms Unknown

-- the keys of a part's tables as they are looked at: each in its place, then whether some key is unknown
abbrev pub order : Part → List Key
order part = keys_of part ++ Unknown ∷ []

-- this is the first bad key of a table of the part
abbrev pub IsBadKey : Part → Members → Key → Type 0
IsBadKey part ms key = IsFirstNot (IsRightTable part ms) (order part) key
