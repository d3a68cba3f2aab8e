-- The keys of a domain file: how they are spelled, in which order they are looked at, and what stands at each.
use Rattle.std.specs.Prelude.{◌≡◌, ℕ, codes, Bool, false, not, ◌||◌, bytes_eq, List, [], ◌∷◌, map, Option}
use Rattle.std.specs.List.{list_any}
use Rattle.toml.specs.Data.{Data, Members, no_members, member, get_member}
use Rattle.am_addr.specs.Bits.{Span}
use Rattle.am_ip6.specs.declared.marks.Place.{Place as Kind}
use Rattle.am_domain.specs.Texts.{IsNumberAt, IsNameAt, IsFileNameAt, IsPrefixAt, IsIdAt, IsReadingAt, IsWorkersAt, IsPlaceAt}
use Rattle.am_domain.specs.declared.error.Part.{Part}
use Rattle.am_domain.specs.declared.error.Part.TheVariants.{Top, Timing, Marking, Flow, Node, Link}
use Rattle.am_domain.specs.declared.error.Key.{Key}
use Rattle.am_domain.specs.declared.error.Key.TheVariants.{BlockNs, SkewNs, DelayMinNs, DelayMaxNs, Place, Workers, Name, Id, Source, Destination, Capture, FromNs, UntilNs, From, To, Unknown}

-- how a key is spelled; `Unknown` stands for each other spelling, and has none itself
abbrev pub spelling : Key → List ℕ
spelling BlockNs = codes "block_ns"
spelling SkewNs = codes "skew_ns"
spelling DelayMinNs = codes "delay_min_ns"
spelling DelayMaxNs = codes "delay_max_ns"
spelling Place = codes "place"
spelling Workers = codes "workers"
spelling Name = codes "name"
spelling Id = codes "id"
spelling Source = codes "source"
spelling Destination = codes "destination"
spelling Capture = codes "capture"
spelling FromNs = codes "from_ns"
spelling UntilNs = codes "until_ns"
spelling From = codes "from"
spelling To = codes "to"
spelling Unknown = []

-- how a part is spelled; the top has no spelling
abbrev pub part_spelling : Part → List ℕ
part_spelling Timing = codes "timing"
part_spelling Marking = codes "marking"
part_spelling Flow = codes "flow"
part_spelling Node = codes "node"
part_spelling Link = codes "link"
part_spelling Top = []

-- the keys of a part's tables, in the order in which they are looked at
abbrev pub keys_of : Part → List Key
keys_of Timing = BlockNs ∷ SkewNs ∷ DelayMinNs ∷ DelayMaxNs ∷ []
keys_of Marking = Place ∷ Workers ∷ []
keys_of Flow = Name ∷ Id ∷ Source ∷ Destination ∷ []
keys_of Node = Name ∷ Capture ∷ FromNs ∷ UntilNs ∷ []
keys_of Link = From ∷ To ∷ []
keys_of Top = []

-- the spellings that a part's tables may have
abbrev pub spellings : Part → List (List ℕ)
spellings Top = map part_spelling (Timing ∷ Marking ∷ Flow ∷ Node ∷ Link ∷ [])
spellings part = map spelling (keys_of part)

-- some key of the table is none of these
abbrev pub has_other : List (List ℕ) → Members → Bool
has_other known no_members = false
has_other known (member k d ms) = not (list_any (bytes_eq k) known) || has_other known ms

-- what stands at the key is right
abbrev pub IsRightAt : Key → Option Data → Type 0
IsRightAt BlockNs at = (n : ℕ) × IsNumberAt at n
IsRightAt SkewNs at = (n : ℕ) × IsNumberAt at n
IsRightAt DelayMinNs at = (n : ℕ) × IsNumberAt at n
IsRightAt DelayMaxNs at = (n : ℕ) × IsNumberAt at n
IsRightAt Place at = (kind : Kind) × IsPlaceAt at kind
IsRightAt Workers at = (n : ℕ) × IsWorkersAt at n
IsRightAt Name at = (text : List ℕ) × IsNameAt at text
IsRightAt Id at = (n : ℕ) × IsIdAt at n
IsRightAt Source at = (span : Span) × IsPrefixAt at span
IsRightAt Destination at = (span : Span) × IsPrefixAt at span
IsRightAt Capture at = (text : List ℕ) × IsFileNameAt at text
IsRightAt FromNs at = (n : ℕ) × IsReadingAt at n
IsRightAt UntilNs at = (n : ℕ) × IsReadingAt at n
IsRightAt From at = (text : List ℕ) × IsNameAt at text
IsRightAt To at = (text : List ℕ) × IsNameAt at text
IsRightAt Unknown at = Unit {0}

-- the table of this part is right at the key: the key's value is, and for `Unknown`, no key has another spelling
abbrev pub IsRightTable : Part → Members → Key → Type 0
IsRightTable part ms Unknown = has_other (spellings part) ms ≡ false
IsRightTable part ms key = IsRightAt key (get_member (spelling key) ms)
