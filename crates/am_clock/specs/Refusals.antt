-- When four numbers are no timing, and what is then said of them: the first of six faults.
use Rattle.std.specs.Prelude.{◌≡◌, ◌%◌, ◌<◌, ◌≤◌}
use Rattle.am_clock.specs.declared.timing.TheConstants.{MAX_TIME}
use Rattle.am_clock.specs.Times.{Times, half, guard}
use Rattle.am_clock.specs.declared.timing.TimingError.{TimingError}
use Rattle.am_clock.specs.declared.timing.TimingError.TheVariants.{ZeroBlock, OddBlock, BlockTooLong, DelayTooLong, BoundsCrossed, GuardTooWide}

-- the block alone has no fault
pub record IsBlock (t : Times) : Type 0 where
  pub nonzero : 0 < t.block
  pub even : t.block % 2 ≡ 0
  pub short : t.block ≤ MAX_TIME

-- this is the first fault of the four numbers
abbrev pub IsFirstFault : Times → TimingError → Type 0
IsFirstFault t ZeroBlock = t.block ≡ 0
IsFirstFault t OddBlock = t.block % 2 ≡ 1
IsFirstFault t BlockTooLong = (t.block % 2 ≡ 0) × (MAX_TIME < t.block)
IsFirstFault t DelayTooLong = IsBlock t × (MAX_TIME < t.delay_max)
IsFirstFault t BoundsCrossed = IsBlock t × (t.delay_max ≤ MAX_TIME) × (t.delay_max < t.delay_min)
IsFirstFault t (GuardTooWide wide most) =
    IsBlock t × (t.delay_max ≤ MAX_TIME) × (t.delay_min ≤ t.delay_max) × (half t ≤ guard t) × (wide ≡ guard t) × (most ≡ half t)
