-- What holds of every area of options.
use Rattle.std.specs.Prelude.{◌≡◌, ℕ, List, length, drop}
use Rattle.am_opts.specs.Options.{Placed, IsOptionList, IsOptionsOf, IsLongest, joined}
use Rattle.am_opts.specs.Lent.{options_behind}

-- an area has one longest front that is an option list, and is an option list itself in one way at most
pub record HasOneLongest (area : List ℕ) : Type 0 where
  pub one : (begin : ℕ) (options others : List Placed)
      → IsLongest begin area options → IsLongest begin area others → options ≡ others
  -- from each place on, the options that are lent are the longest front of what stands there
  pub lent : (at : ℕ) → IsLongest at (drop at area) (options_behind area at)
  -- the longest front is the whole area where it has as many bytes
  pub whole : (options : List Placed)
      → IsLongest 0 area options → length (joined options) ≡ length area → IsOptionsOf area options
  -- and it has as many bytes where the area is an option list
  pub listed : (options : List Placed)
      → IsLongest 0 area options → IsOptionList area → length (joined options) ≡ length area
  pub alone : (options others : List Placed)
      → IsOptionsOf area options → IsOptionsOf area others → options ≡ others
