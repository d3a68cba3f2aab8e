use Rattle.std.proofs.Common.{◌∙◌, sym, refl, inr}
use Rattle.csv.specs.Reading.{Reached, strip_bom}
use Rattle.am_report.proofs.rows.rows_of.Goals as goal

pub returns : goal.returns
unfolding Reached
returns c =
    let made = c.from_reader.ensures in
    let headed = c.has_headers.ensures in
    let flexible = c.flexible.ensures in
    record {
      plain = rw (flexible, headed) at made.trim ∙ c.new.ensures.trim;
      ready = inr (inr (rw (flexible, headed) at made.has_headers, made.headers));
      config = rw (flexible, headed) at made.config ∙ c.new.ensures.config;
      left = strip_bom c.args.bytes.now;
      source = made.source;
      reached = (sym made.state, refl);
    }
