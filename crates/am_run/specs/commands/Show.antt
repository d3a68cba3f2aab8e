-- The command `show`: what each record of a capture says, a line a record.
use Rattle.std.specs.Prelude.{◌≡◌, ℕ, List, [], ◌∷◌}
use Rattle.am_chain.specs.Chains.{Chain, Stream}
use Rattle.am_chain.specs.Chains.Chain.{Streams}
use Rattle.am_run.specs.Lines.{AreLines}
use Rattle.am_domain.specs.Texts.{IsFileName}

-- what it is asked: the capture whose records are shown
pub record Show : Type 0 where
  pub file : List ℕ

-- the word after `show` is FILE, and says this
pub record SaysShowWords (words : List (List ℕ)) (s : Show) : Type 0 where
  pub spelled : words ≡ s.file ∷ []
  pub file_name : IsFileName s.file

-- the line of each record; none is refused for what it holds
abbrev pub record_lines : Stream
record_lines = record {
  text_of = λ h ps text. AreLines h 1 ps text;
  all_of = λ h ps text. AreLines h 1 ps text;
  refuses = λ h ps p reason. ⊥;
}

abbrev pub show_chain : Show → Chain
show_chain s = Streams s.file record_lines
