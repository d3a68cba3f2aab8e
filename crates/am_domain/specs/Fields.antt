-- What a whole domain file says, part by part, and the first bad part.
use Rattle.std.specs.Prelude.{◌≡◌, ℕ, List, [], ◌∷◌, take, false, true, Option, Some, None}
use Rattle.std.specs.List.{AllByRecursion}
use Rattle.toml.specs.Data.{Data, table, Members, get_member}
use Rattle.am_clock.specs.Times.{Times}
use Rattle.am_ip6.specs.declared.marks.Place.{Place as Kind}
use Rattle.am_domain.specs.Values.{FlowValue, NodeValue, LinkValue}
use Rattle.am_domain.specs.Texts.{IsNumberAt, IsPlaceAt, IsWorkersAt}
use Rattle.am_domain.specs.Keys.{part_spelling, spellings, has_other, IsRightTable}
use Rattle.am_domain.specs.Tables.{at_key, SaysFlow, SaysNode, SaysLink, IsBadKey}
use Rattle.am_domain.specs.Entries.{AreEntries, IsBadArray}
use Rattle.am_domain.specs.declared.error.Part.{Part}
use Rattle.am_domain.specs.declared.error.Part.TheVariants.{Top, Timing, Marking, Flow, Node, Link}
use Rattle.am_domain.specs.declared.error.Key.{Key}
use Rattle.am_domain.specs.declared.error.Key.TheVariants.{BlockNs, SkewNs, DelayMinNs, DelayMaxNs, Place, Workers, Unknown}
use Rattle.am_domain.specs.declared.error.DomainError.{DomainError}
use Rattle.am_domain.specs.declared.error.DomainError.TheVariants.{BadField, Memory}

-- what the part `marking` says: the kind of header that marks stand in, and how many workers count
pub record MarkingValue : Type 0 where
  pub kind : Kind
  pub workers : ℕ

-- what a domain file says
pub record FieldsValue : Type 0 where
  pub times : Times
  pub marking : MarkingValue
  pub flows : List FlowValue
  pub nodes : List NodeValue
  pub links : List LinkValue

-- what stands at a part's key
abbrev pub at_part : Members → Part → Option Data
at_part ms part = get_member (part_spelling part) ms

-- the table says these four numbers
pub record SaysTimes (ms : Members) (times : Times) : Type 0 where
  pub block : IsNumberAt (at_key ms BlockNs) times.block
  pub skew : IsNumberAt (at_key ms SkewNs) times.skew
  pub delay_min : IsNumberAt (at_key ms DelayMinNs) times.delay_min
  pub delay_max : IsNumberAt (at_key ms DelayMaxNs) times.delay_max
  pub known : IsRightTable Timing ms Unknown

-- the table says this kind of header and this number of workers
pub record SaysMarking (ms : Members) (marking : MarkingValue) : Type 0 where
  pub place : IsPlaceAt (at_key ms Place) marking.kind
  pub workers : IsWorkersAt (at_key ms Workers) marking.workers
  pub known : IsRightTable Marking ms Unknown

-- a table stands there, which says this
pub record IsTableAt {X : Type 0} (Says : Members → X → Type 0) (at : Option Data) (x : X)
    : Type 0 where
  pub ms : Members
  pub is_table : at ≡ Some (table ms)
  pub says : Says ms x

-- what each part of the document says
abbrev pub TimingSays : Members → Times → Type 0
TimingSays ms = IsTableAt SaysTimes (at_part ms Timing)

abbrev pub MarkingSays : Members → MarkingValue → Type 0
MarkingSays ms = IsTableAt SaysMarking (at_part ms Marking)

abbrev pub FlowsSay : Members → List FlowValue → Type 0
FlowsSay ms = AreEntries SaysFlow (at_part ms Flow)

abbrev pub NodesSay : Members → List NodeValue → Type 0
NodesSay ms = AreEntries SaysNode (at_part ms Node)

abbrev pub LinksSay : Members → List LinkValue → Type 0
LinksSay ms = AreEntries SaysLink (at_part ms Link)

-- the document says this, and has no other key
pub record Says (ms : Members) (fields : FieldsValue) : Type 0 where
  pub timing : TimingSays ms fields.times
  pub marking : MarkingSays ms fields.marking
  pub flows : FlowsSay ms fields.flows
  pub nodes : NodesSay ms fields.nodes
  pub links : LinksSay ms fields.links
  pub known : has_other (spellings Top) ms ≡ false

-- the part says something; the top does where it has no other key
abbrev pub IsRightPart : Members → Part → Type 0
IsRightPart ms Timing = (times : Times) × TimingSays ms times
IsRightPart ms Marking = (marking : MarkingValue) × MarkingSays ms marking
IsRightPart ms Flow = (flows : List FlowValue) × FlowsSay ms flows
IsRightPart ms Node = (nodes : List NodeValue) × NodesSay ms nodes
IsRightPart ms Link = (links : List LinkValue) × LinksSay ms links
IsRightPart ms Top = has_other (spellings Top) ms ≡ false

-- what is wrong with a table: there is none, which has no key to tell, or its first bad key is this
abbrev pub IsBadTable : Part → Option Data → Option ℕ → Option Key → Type 0
IsBadTable part at None None = (ms : Members) → at ≡ Some (table ms) → ⊥
IsBadTable part at None (Some key) =
    (ms : Members) × (at ≡ Some (table ms)) × IsBadKey part ms key
IsBadTable part at (Some index) key = ⊥

-- what is wrong with the top: it has another key
abbrev pub IsBadTop : Members → Option ℕ → Option Key → Type 0
IsBadTop ms index key =
    (index ≡ None) × (key ≡ Some Unknown) × (has_other (spellings Top) ms ≡ true)

-- what is wrong with the part, with the item and the key that it is found at
abbrev pub IsBadPart : Members → Part → Option ℕ → Option Key → Type 0
IsBadPart ms Timing = IsBadTable Timing (at_part ms Timing)
IsBadPart ms Marking = IsBadTable Marking (at_part ms Marking)
IsBadPart ms Flow = IsBadArray Flow SaysFlow (at_part ms Flow)
IsBadPart ms Node = IsBadArray Node SaysNode (at_part ms Node)
IsBadPart ms Link = IsBadArray Link SaysLink (at_part ms Link)
IsBadPart ms Top = IsBadTop ms

-- the parts in the order in which they are looked at
abbrev pub parts : List Part
parts = Timing ∷ Marking ∷ Flow ∷ Node ∷ Link ∷ Top ∷ []

-- the place of a part in that order
abbrev pub part_place : Part → ℕ
part_place Timing = 0
part_place Marking = 1
part_place Flow = 2
part_place Node = 3
part_place Link = 4
part_place Top = 5

-- this is the first bad part, with the item and the key that it is bad at; the parts before it are right
pub record IsBadField (ms : Members) (part : Part) (index : Option ℕ) (key : Option Key)
    : Type 0 where
  pub before : AllByRecursion (IsRightPart ms) (take (part_place part) parts)
  pub bad : IsBadPart ms part index key

-- what the reading of a part answers: what is wrong with it, or want of memory
abbrev pub TellsPart : Members → Part → DomainError → Type 0
TellsPart ms part (BadField at index key) = (at ≡ part) × IsBadPart ms part index key
TellsPart ms part Memory = Unit {0}
TellsPart ms part _ = ⊥

-- what the reading of a document answers: its first bad part, or want of memory
abbrev pub TellsField : Members → DomainError → Type 0
TellsField ms (BadField part index key) = IsBadField ms part index key
TellsField ms Memory = Unit {0}
TellsField ms _ = ⊥
