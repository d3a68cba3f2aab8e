-- Where the words of a tally stand, and what one packet adds to each.
use Rattle.std.specs.Prelude.{ℕ, ◌+◌, ◌*◌, ◌==◌, ◌&&◌, Bool, true, false, if◌then◌else◌}
use Rattle.am_shared.specs.declared.word.Word.{Word}
use Rattle.am_shared.specs.declared.word.Word.TheVariants.{Count, Sum, DelayCount, DelaySum}

-- the number of a word among the four of its slot and colour
abbrev pub word_index : Word → ℕ
word_index Count = 0
word_index Sum = 1
word_index DelayCount = 2
word_index DelaySum = 3

-- the number of a colour in its slot
abbrev pub colour_index : Bool → ℕ
colour_index true = 1
colour_index false = 0

-- the number of a word in the table: eight to a slot, four to a colour
abbrev pub word_number : ℕ → Bool → Word → ℕ
word_number slot colour word = slot * 8 + colour_index colour * 4 + word_index word

-- two colours are one
abbrev pub same_colour : Bool → Bool → Bool
same_colour a b = colour_index a == colour_index b

-- two words are one
abbrev pub same_word : Word → Word → Bool
same_word a b = word_index a == word_index b

-- two places are one: slot, colour and word
abbrev pub same_place : ℕ → Bool → Word → ℕ → Bool → Word → Bool
same_place s c w slot colour word = (s == slot) && same_colour c colour && same_word w word

-- what a packet of this offset adds to a word of its slot and colour; to the last two only where it measures delay
abbrev pub packet_gain : Bool → ℕ → Word → ℕ
packet_gain delay offset Count = 1
packet_gain delay offset Sum = offset
packet_gain delay offset DelayCount = if delay then 1 else 0
packet_gain delay offset DelaySum = if delay then offset else 0

-- what a packet of this slot, colour and offset adds to the word of a slot `s` and colour `c`: to another slot or colour nothing
abbrev pub gain : ℕ → Bool → Bool → ℕ → ℕ → Bool → Word → ℕ
gain slot colour delay offset s c word =
    if (s == slot) && same_colour c colour then packet_gain delay offset word else 0
