-- The command `link`: what entered at one point, what left at the next, and what was lost between them.
use Rattle.std.specs.Prelude.{◌≡◌, ℕ, ◌%◌, ◌^◌, ◌<◌, ◌≤◌, List, [], ◌∷◌}
use Rattle.am_clock.specs.Times.{Times}
use Rattle.am_clock.specs.declared.timing.TheConstants.{MAX_TIME}
use Rattle.am_ip6.specs.declared.marks.Place.TheVariants.{HopByHop}
use Rattle.am_meter.specs.declared.stream.Marked.{Marked}
use Rattle.am_chain.specs.Chains.{Chain}
use Rattle.am_chain.specs.Chains.Chain.{Reads, Prints}
use Rattle.am_chain.specs.Inputs.{JudgesCapture}
use Rattle.am_chain.specs.Tables.{Row, IsCountTable, count_in, table_text}
use Rattle.am_domain.specs.Texts.{IsFileName}
use Rattle.am_chain.specs.WordForms.{WritesNumber}

-- what it is asked: how long a block lasts, how late the second point may see it, the flow, and the captures of the two points
pub record Link : Type 0 where
  pub block : ℕ
  pub shift : ℕ
  pub flow : ℕ
  pub up : List ℕ
  pub down : List ℕ

-- the numbers and names after `link` say this, each in its range
pub record SaysNumbers (block_word shift_word flow_word : List ℕ) (l : Link) : Type 0 where
  pub block : WritesNumber block_word l.block
  pub block_even : l.block % 2 ≡ 0
  pub block_least : 2 ≤ l.block
  pub block_most : l.block ≤ MAX_TIME
  pub shift : WritesNumber shift_word l.shift
  pub shift_most : l.shift ≤ MAX_TIME
  pub flow : WritesNumber flow_word l.flow
  pub flow_fits : l.flow < 2 ^ 20
  pub up_name : IsFileName l.up
  pub down_name : IsFileName l.down

-- the words after `link` are BLOCK DMIN FLOW UP DOWN, and say this
pub record SaysLinkWords (words : List (List ℕ)) (l : Link) : Type 0 where
  pub block_word : List ℕ
  pub shift_word : List ℕ
  pub flow_word : List ℕ
  pub spelled : words ≡ block_word ∷ shift_word ∷ flow_word ∷ l.up ∷ l.down ∷ []
  pub numbers : SaysNumbers block_word shift_word flow_word l

-- blocks of this length, for the clocks of two points that agree and a delay that is known
abbrev pub link_times : Link → Times
link_times l = record { block = l.block; skew = 0; delay_min = l.shift; delay_max = l.shift }

-- the table of both captures' records of the flow, those of the first point at shift 0 and those of the second at the least delay
pub record IsLinkTable (l : Link) (ups downs : List Marked) (text : List ℕ) : Type 0 where
  pub rows : List Row
  pub table : IsCountTable (count_in (link_times l) l.flow 0 ups) (count_in (link_times l) l.flow l.shift downs) rows
  pub printed : text ≡ table_text rows

-- the first capture is taken whole, and then the second; their table is printed
abbrev pub link_chain : Link → Chain
link_chain l =
    Reads (List Marked) l.up (JudgesCapture HopByHop)
    (λ ups. Reads (List Marked) l.down (JudgesCapture HopByHop) (λ downs. Prints (IsLinkTable l ups downs)))
