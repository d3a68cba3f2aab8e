-- How many items the arrays of a document have.
use Rattle.std.specs.Prelude.{◌≡◌, ℕ, suc, ◌^◌, ◌<◌, length, Option, Some}
use Rattle.toml.specs.Data.{Data, array, Items, no_items, item, Members, no_members, member}
use Rattle.am_domain.specs.Fields.{FieldsValue}

-- how many items there are
abbrev pub item_count : Items → ℕ
item_count no_items = 0
item_count (item d ds) = suc (item_count ds)

-- how many items an array has; any other value has none
abbrev pub array_count : Data → ℕ
array_count (array ds) = item_count ds
array_count _ = 0

-- each array that stands at a key of the table has fewer than 2^32 items
abbrev pub HasFewItems : Members → Type 0
HasFewItems no_members = Unit {0}
HasFewItems (member k d ms) = (array_count d < 2 ^ 32) × HasFewItems ms

-- where an array stands there, it has fewer than 2^32 items
abbrev pub IsFewAt : Option Data → Type 0
IsFewAt at = (ds : Items) → at ≡ Some (array ds) → item_count ds < 2 ^ 32

-- a file says fewer than 2^32 flows, nodes and links
pub record CountsFit (f : FieldsValue) : Type 0 where
  pub flows : length f.flows < 2 ^ 32
  pub nodes : length f.nodes < 2 ^ 32
  pub links : length f.links < 2 ^ 32
