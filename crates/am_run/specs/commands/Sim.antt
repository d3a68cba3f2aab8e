-- The command `sim`: what a made world drops in a domain's network, and what is reported of it (RFC 9341, section 3.1;
-- RFC 9342, section 5).
use Rattle.std.specs.Prelude.{◌≡◌, ℕ, ◌^◌, ◌<◌, ◌≤◌, List, [], ◌∷◌, All}
use Rattle.am_domain.specs.Domains.{DomainValue}
use Rattle.am_domain.specs.Texts.{IsFileName}
use Rattle.am_sim.specs.Simulating.{IsSimulated, IsRight}
use Rattle.am_sim.specs.Texts.{sim_text}
use Rattle.am_sim.specs.declared.row.SimRow.{SimRow}
use Rattle.am_chain.specs.Chains.{Chain}
use Rattle.am_chain.specs.Chains.Chain.{Reads, Prints}
use Rattle.am_chain.specs.Inputs.{JudgesDomain}
use Rattle.am_run.specs.declared.commands.sim.TheConstants.{MAX_PACKETS}
use Rattle.am_chain.specs.WordForms.{WritesNumber}

-- what it is asked: the domain file, the number that the world is made from, and how many packets are sent in it
pub record Sim : Type 0 where
  pub domain : List ℕ
  pub number : ℕ
  pub packets : ℕ

-- the words after `sim` are DOMAIN NUMBER PACKETS, and say this, each number in its range
pub record SaysSimWords (words : List (List ℕ)) (s : Sim) : Type 0 where
  pub number_word : List ℕ
  pub packets_word : List ℕ
  pub spelled : words ≡ s.domain ∷ number_word ∷ packets_word ∷ []
  pub domain_name : IsFileName s.domain
  pub number : WritesNumber number_word s.number
  pub number_fits : s.number < 2 ^ 64
  pub packets : WritesNumber packets_word s.packets
  pub packets_most : s.packets ≤ MAX_PACKETS

-- the text of the rows of the made world, in each of which as much is reported as is dropped, in all and of each flow and
-- reported block
pub record IsSimText (d : DomainValue) (s : Sim) (text : List ℕ) : Type 0 where
  pub rows : List SimRow
  pub simulated : IsSimulated d s.number s.packets rows
  pub right : All IsRight rows
  pub printed : text ≡ sim_text rows

-- the domain is taken, and the text of the made world is printed
abbrev pub sim_chain : Sim → Chain
sim_chain s = Reads DomainValue s.domain JudgesDomain (λ d. Prints (IsSimText d s))
