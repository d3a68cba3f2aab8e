-- What a flow, a node and a link of a domain file say.
use Rattle.std.specs.Prelude.{ℕ, List, []}
use Rattle.am_addr.specs.Bits.{Span}

-- what a flow says: its name, the number in its marks, and the prefixes of its packets' addresses
pub record FlowValue : Type 0 where
  pub name : List ℕ
  pub id : ℕ
  pub source : Span
  pub destination : Span

-- what a node says: its name, the name of its capture file, and the span of readings that the capture has, in
-- nanoseconds
pub record NodeValue : Type 0 where
  pub name : List ℕ
  pub capture : List ℕ
  pub from : ℕ
  pub until : ℕ

-- what stands for a node that the domain hasn't
abbrev pub no_node : NodeValue
no_node = record { name = []; capture = []; from = 0; until = 0 }

-- what a link says: the names of the nodes that it leads from and to
pub record LinkValue : Type 0 where
  pub from : List ℕ
  pub to : List ℕ
