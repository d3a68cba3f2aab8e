use Rattle.std.proofs.Common.{◌∙◌, refl}
use Rattle.am_report.proofs.lines.no_lines.Goals as goal

pub returns : goal.returns
returns c =
    let made = c.from_writer.ensures in
    record {
      setup = made.cfg ∙ c.new.ensures;
      no_field = made.fields;
      no_byte = made.wrote;
      written = rw (made.wtr, made.empty, c.new-2.ensures.items) refl;
    }
