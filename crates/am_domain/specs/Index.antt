-- The first flow of each pair of prefixes, by which a packet's flow is found.
use Rattle.std.specs.Prelude.{◌≡◌, ◌≢◌, ℕ, ◌<◌, ◌==◌, ◌&&◌, Bool, IsTrue, min, List, [], ◌∷◌, Option, Some, None, MatchOption, Contains, length, slice_index_or}
use Rattle.std.specs.HashMap.{get}
use Rattle.std.specs.Str.{bytes_eq}
use Rattle.std.specs.Hash.{Alike, same_Alike, on_Alike, and-Alike, second_alike}
use lib.Pointwise.{bytes_decides}
use Rattle.am_addr.specs.Bits.{cleared}
use Rattle.am_domain.specs.Values.{FlowValue}
use Rattle.am_domain.specs.Lists.{AllBelow}
use Rattle.am_domain.specs.Lookups.{IsFirstWith}
use Rattle.am_domain.specs.declared.index.Lengths.{Lengths}
use Rattle.am_domain.specs.declared.index.Ends.{Ends}
use Rattle.am_domain.specs.declared.index.Index.{Index}

-- how many bits of its packets' sources and destinations a flow asks for
abbrev pub lengths_of : FlowValue → Lengths
lengths_of f = record { source = f.source.length; destination = f.destination.length }

-- the first bits of two addresses, so many of each
abbrev pub ends_at : Lengths → List ℕ → List ℕ → Ends
ends_at n source destination =
    record { lengths = n; source = cleared n.source source; destination = cleared n.destination destination }

-- the bits that a flow asks for
abbrev pub ends_of : FlowValue → Ends
ends_of f = ends_at (lengths_of f) f.source.bytes f.destination.bytes

-- whether two are the same
abbrev pub same_ends : Ends → Ends → Bool
same_ends a b =
    ((a.lengths.source == b.lengths.source) && (a.lengths.destination == b.lengths.destination))
    && (bytes_eq a.source b.source && bytes_eq a.destination b.destination)

-- what is fed to a hasher: the bytes of both addresses
abbrev pub fed : Ends → List (List ℕ)
fed a = a.source ∷ a.destination ∷ []

-- where two are the same, the same is fed
fed_address : (part : Ends → List ℕ) → Alike (λ a b. bytes_eq (part a) (part b)) (λ a. part a ∷ [])
fed_address part = on_Alike part (same_Alike (λ (bytes : List ℕ). bytes ∷ []) bytes_decides)

pub fed_alike : (a b : Ends) → IsTrue (same_ends a b) → fed a ≡ fed b
fed_alike a b same =
    (second_alike (λ (x y : Ends). (x.lengths.source == y.lengths.source) && (x.lengths.destination == y.lengths.destination))
    (and-Alike (fed_address (λ (x : Ends). x.source)) (fed_address (λ (x : Ends). x.destination)))).fed a b same

-- the first of the first n flows that asks for these bits, if one does
abbrev pub IsFirstBelow : ℕ → List FlowValue → Ends → Option ℕ → Type 0
IsFirstBelow n flows ends found =
    MatchOption found (AllBelow (λ f. ¬ (ends_of f ≡ ends)) n flows)
    (λ i. (i < n) × IsFirstWith (λ f. ends_of f ≡ ends) flows i)

-- the index of these flows: it has the lengths of each, and the first flow of each pair of prefixes
pub record IsIndex (flows : List FlowValue) (index : Index) : Type 0 where
  pub lengths : (i : ℕ) (d : FlowValue)
      → i < length flows → Contains index.lengths.items (lengths_of (slice_index_or flows i d))
  pub firsts : (ends : Ends) → IsFirstBelow (length flows) flows ends (get same_ends index.firsts ends)

-- the lesser of two places, of which either may be missing
abbrev pub earlier_of : Option ℕ → Option ℕ → Option ℕ
earlier_of None b = b
earlier_of (Some x) None = Some x
earlier_of (Some x) (Some y) = Some (min x y)

-- this place, unless there is one
abbrev pub or_place : Option ℕ → ℕ → Option ℕ
or_place None at = Some at
or_place (Some x) at = Some x

-- what a map of places has at some bits, where the place of these was added unless there was one
pub record IsAdded (ends : Ends) (at : ℕ) (other : Ends) (old new : Option ℕ) : Type 0 where
  pub same : other ≡ ends → new ≡ or_place old at
  pub apart : other ≢ ends → new ≡ old
