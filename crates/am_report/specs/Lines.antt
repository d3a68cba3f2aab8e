-- What a writer of lines has written.
use Rattle.std.specs.Prelude.{◌≡◌, ℕ, List, Option, Some, false}
use Rattle.csv.specs.Writing.{default_writer, fields_written, has_written, text_written, writer_setup}
use Rattle.csv.specs.declared.writer.Writer.{Writer}

-- the writer has these bytes, of lines that are whole, and writes as the crate does by itself
pub record HasLines {W : Type 0} (contents : W → Option (List ℕ)) (writer : Writer W) (text : List ℕ) : Type 0 where
  pub setup : writer_setup writer ≡ default_writer
  pub no_field : fields_written writer ≡ 0
  pub no_byte : has_written writer ≡ false
  pub written : text_written contents writer ≡ Some text
