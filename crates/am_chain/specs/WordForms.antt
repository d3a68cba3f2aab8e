-- What words on the command line can say: a number, the names of two files.
use Rattle.std.specs.Prelude.{◌≡◌, ℕ, List, [], ◌∷◌}
use Rattle.std.specs.Str.Parse.{digits_value}
use Rattle.am_base.specs.Numbers.{IsDecimal}
use Rattle.am_domain.specs.Texts.{IsFileName}

-- a word writes a number
pub record WritesNumber (word : List ℕ) (number : ℕ) : Type 0 where
  pub decimal : IsDecimal word
  pub value : digits_value 10 word ≡ number

-- what a command of DOMAIN FILE is asked: the domain file, and the capture
pub record DomainFile : Type 0 where
  pub domain : List ℕ
  pub file : List ℕ

-- the words are DOMAIN FILE, and say this
pub record SaysDomainFile (words : List (List ℕ)) (asked : DomainFile) : Type 0 where
  pub spelled : words ≡ asked.domain ∷ asked.file ∷ []
  pub domain_name : IsFileName asked.domain
  pub file_name : IsFileName asked.file
