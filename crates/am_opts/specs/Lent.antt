-- What the iterator of options shows: each option as it stands in the area, and the options that are still to come.
use Rattle.std.specs.Prelude.{ℕ, zero, suc, ◌+◌, cond, nat_le, List, [], ◌∷◌, length, take, drop}
use Rattle.am_opts.specs.Options.{Placed}
use Rattle.am_opts.specs.declared.options.Opt.{Opt}
use Rattle.am_opts.specs.declared.options.Options.{Options}

-- the option that an item lends, and its place
abbrev pub placed : Opt → Placed
placed o = record { at = o.at; bytes = o.bytes.now }

-- how many bytes an option has whose type isn't 0, by what follows its type; 0 where they aren't there
abbrev pub told_length : List ℕ → ℕ
told_length [] = 0
told_length (size ∷ body) = cond (nat_le size (length body)) (size + 2) 0

-- how many bytes the option has that the bytes begin with; 0 where they begin with none
abbrev pub option_length : List ℕ → ℕ
option_length [] = 0
option_length (zero ∷ after) = 1
option_length (suc kind ∷ after) = told_length after

-- at most so many options that the bytes begin with, the first of which stands at this place
unfoldable pub options_from : ℕ → ℕ → List ℕ → List Placed
options_from zero at bytes = []
options_from (suc more) at bytes = elim (option_length bytes) [
  | zero ↦ []
  | suc n ↦ record { at = at; bytes = take (suc n) bytes } ∷ options_from more (at + suc n) (drop (suc n) bytes)
]

-- the options of an area from a place on
abbrev pub options_behind : List ℕ → ℕ → List Placed
options_behind area at = options_from (length area) at (drop at area)

-- the options that are still to come
abbrev pub left : Options → List Placed
left s = options_behind s.area.now s.at
