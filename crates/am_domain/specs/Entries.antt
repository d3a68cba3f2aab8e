-- An array of tables, and the first of its items that is bad.
use Rattle.std.specs.Prelude.{◌≡◌, ℕ, ◌≤◌, List, ◌∷◌, ◌++◌, length, Option, Some, None, option_map}
use Rattle.std.specs.Borrow.{Bor}
use Rattle.std.specs.List.{AllZip}
use Rattle.toml.specs.Data.{Data, array, table, Items, item, Members}
use Rattle.toml.specs.View.{view, items_of}
use Rattle.toml.specs.declared.value.Value.{Value}
use Rattle.am_domain.specs.Tables.{IsBadKey}
use Rattle.am_domain.specs.declared.error.Part.{Part}
use Rattle.am_domain.specs.declared.error.Key.{Key}
use Rattle.am_domain.specs.declared.entries.KeyFault.{KeyFault}
use Rattle.am_domain.specs.declared.entries.KeyFault.TheVariants as key_fault
use Rattle.am_domain.specs.declared.entries.ItemFault.{ItemFault}
use Rattle.am_domain.specs.declared.entries.ItemFault.TheVariants as item_fault
use Rattle.am_domain.specs.declared.entries.EntryFault.{EntryFault}
use Rattle.am_domain.specs.declared.entries.EntryFault.TheVariants as entry_fault

-- the item is a table, which says this
pub record IsTableOf {X : Type 0} (Says : Members → X → Type 0) (d : Data) (x : X)
    : Type 0 where
  pub ms : Members
  pub is_table : d ≡ table ms
  pub says : Says ms x

-- the item is bad: it is no table, which has no key to tell, or its first bad key is this
abbrev pub IsBadItem : Part → Data → Option Key → Type 0
IsBadItem part d None = (ms : Members) → d ≡ table ms → ⊥
IsBadItem part d (Some key) = (ms : Members) × (d ≡ table ms) × IsBadKey part ms key

-- the data of the value that is there
abbrev pub data_at : Option (Bor Value) → Option Data
data_at value = option_map (λ v. view v.now) value

-- an array of one or more tables stands there, which say these, one each
pub record AreEntries {X : Type 0} (Says : Members → X → Type 0) (at : Option Data) (xs : List X)
    : Type 0 where
  pub items : List Data
  pub is_array : at ≡ Some (array (items_of items))
  pub some : 1 ≤ length items
  pub each : AllZip (IsTableOf Says) items xs

-- this is the place of the first bad item, with its bad key; those before it say something each
pub record IsBadAt {X : Type 0} (part : Part) (Says : Members → X → Type 0) (ds : List Data)
    (index : ℕ) (key : Option Key) : Type 0 where
  pub before : List Data
  pub bad : Data
  pub behind : List Data
  pub split : ds ≡ before ++ bad ∷ behind
  pub place : index ≡ length before
  pub right : List X
  pub each : AllZip (IsTableOf Says) before right
  pub is_bad : IsBadItem part bad key

-- an array stands there in which this item is the first bad one, with its bad key
pub record IsBadEntry {X : Type 0} (part : Part) (Says : Members → X → Type 0) (at : Option Data)
    (index : ℕ) (key : Option Key) : Type 0 where
  pub items : List Data
  pub is_array : at ≡ Some (array (items_of items))
  pub is_bad : IsBadAt part Says items index key

-- what is wrong with the array: it is none, or empty, which has no item to tell, or its first bad item is this
abbrev pub IsBadArray :
    {X : Type 0} → Part → (Members → X → Type 0) → Option Data → Option ℕ → Option Key → Type 0
IsBadArray part Says at None None =
    (d : Data) (ds : Items) → at ≡ Some (array (item d ds)) → ⊥
IsBadArray part Says at None (Some key) = ⊥
IsBadArray part Says at (Some index) key = IsBadEntry part Says at index key

-- what the reading of a table answers: its first bad key, or want of memory
abbrev pub TellsKey : Part → Members → KeyFault → Type 0
TellsKey part ms (key_fault.Bad key) = IsBadKey part ms key
TellsKey part ms key_fault.Memory = Unit {0}

-- what the reading of an item answers: what is bad about it, or want of memory
abbrev pub TellsBadItem : Part → Data → ItemFault → Type 0
TellsBadItem part d (item_fault.Bad key) = IsBadItem part d key
TellsBadItem part d item_fault.Memory = Unit {0}

-- what the reading of items answers: the first bad one, or want of memory
abbrev pub TellsItem :
    {X : Type 0} → Part → (Members → X → Type 0) → List Data → EntryFault → Type 0
TellsItem part Says ds (entry_fault.Bad None key) = ⊥
TellsItem part Says ds (entry_fault.Bad (Some index) key) = IsBadAt part Says ds index key
TellsItem part Says ds entry_fault.Memory = Unit {0}

-- what the reading of an array answers: what is wrong with it, or want of memory
abbrev pub TellsEntry :
    {X : Type 0} → Part → (Members → X → Type 0) → Option Data → EntryFault → Type 0
TellsEntry part Says at (entry_fault.Bad index key) = IsBadArray part Says at index key
TellsEntry part Says at entry_fault.Memory = Unit {0}
