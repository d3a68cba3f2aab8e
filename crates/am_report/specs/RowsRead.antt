-- What a reader of a text's rows has read so far.
use Rattle.std.specs.Prelude.{◌≡◌, ℕ, List, Some}
use Rattle.csv.specs.Reading.{Reached, Ready, default_config, reader_config, reader_state, reader_trim, source_of, strip_bom}
use Rattle.csv.specs.declared.parser.State.TheVariants as state
use Rattle.csv.specs.declared.reader.Reader.{Reader}
use Rattle.csv.specs.declared.reader.Trim.TheVariants as trim
use denote.Ref.{Bor}

-- these rows of the text were read, and what is left gives the others
pub record HaveBeenRead (reader : Reader (Bor (List ℕ))) (bytes : List ℕ) (rows : List (List (List ℕ))) : Type 0 where
  pub plain : reader_trim reader ≡ trim.None
  pub ready : Ready reader
  pub config : reader_config reader ≡ default_config
  pub left : List ℕ
  pub source : source_of (λ s. Some s.now) reader ≡ Some left
  pub reached : Reached default_config state.StartRecord (strip_bom bytes) rows (reader_state reader) left
