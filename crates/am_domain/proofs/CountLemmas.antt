-- Counts of items, from few items in the document.
use Rattle.std.proofs.Common.{◌≡◌, ℕ, ◌^◌, ◌<◌, Ordering, Less, Equal, Greater, nat_cmp, List, [], ◌∷◌, length, map, Option, Some, ap, arith}
use Rattle.std.proofs.lemmas.List.{length-map}
use Rattle.std.proofs.lemmas.Option.{same_Some}
use Rattle.std.proofs.lemmas.Slice.Zip.{AllZip-long}
use Rattle.std.specs.Ordering.{match_ordering}
use Rattle.std.specs.Cmp.Lexicographic.{slice_cmp}
use Rattle.toml.specs.Data.{Data, array, Items, Members, no_members, member, get_member}
use Rattle.toml.specs.View.{view, items_of}
use Rattle.toml.specs.declared.value.Value.{Value}
use Rattle.am_domain.specs.Keys.{part_spelling}
use Rattle.am_domain.specs.declared.error.Part.TheVariants.{Flow, Node, Link}
use Rattle.am_domain.specs.Tables.{SaysFlow, SaysNode, SaysLink}
use Rattle.am_domain.specs.Entries.{IsTableOf, AreEntries}
use Rattle.am_domain.specs.Fields.{FieldsValue, Says}
use Rattle.am_domain.specs.Sizes.{item_count, array_count, HasFewItems, IsFewAt, CountsFit}

-- the items of a list are as many as the list is long
pub items-long : (ds : List Data) → item_count (items_of ds) ≡ length ds
items-long [] = omega arith
items-long (d ∷ ds) = omega (arith, items-long ds)

-- an array that stands there is short
pub array-short : (at : Option Data) (items : List Value) → IsFewAt at → at ≡ Some (array (items_of (map view items))) → length items < 2 ^ 32
array-short at items few is = omega (arith, few (items_of (map view items)) is, items-long (map view items), length-map items view)

either-few : (o : Ordering) (a b c : Option Data) → IsFewAt a → IsFewAt b → IsFewAt c → IsFewAt (match_ordering o a b c)
either-few Less a b c h k l = h
either-few Equal a b c h k l = k
either-few Greater a b c h k l = l

data-few : (d : Data) (ds : Items) → array_count d < 2 ^ 32 → d ≡ array ds → item_count ds < 2 ^ 32
data-few d ds few is = omega (arith, few, ap array_count is)

-- what stands at a key of a table with few items is few
pub few-at : (key : List ℕ) (ms : Members) → HasFewItems ms → IsFewAt (get_member key ms)
few-at key no_members few = λ ds is. cc (is)
few-at key (member l d ms) few =
    either-few (slice_cmp nat_cmp key l) (get_member key ms) (Some d) (get_member key ms)
    (few-at key ms few.1) (λ ds is. data-few d ds few.0 (same_Some d (array ds) is)) (few-at key ms few.1)

entries-fit : {X : Type 0} (Said : Members → X → Type 0) (at : Option Data) (xs : List X) → IsFewAt at → AreEntries Said at xs → length xs < 2 ^ 32
entries-fit Said at xs few h =
    omega (arith, few (items_of h.items) h.is_array, items-long h.items, AllZip-long (IsTableOf Said) h.items xs h.each)

-- a file of few items says few flows, nodes and links
pub counts-fit : (ms : Members) (f : FieldsValue) → HasFewItems ms → Says ms f → CountsFit f
counts-fit ms f few says = record {
  flows = entries-fit SaysFlow _ f.flows (few-at (part_spelling Flow) ms few) says.flows;
  nodes = entries-fit SaysNode _ f.nodes (few-at (part_spelling Node) ms few) says.nodes;
  links = entries-fit SaysLink _ f.links (few-at (part_spelling Link) ms few) says.links;
}
