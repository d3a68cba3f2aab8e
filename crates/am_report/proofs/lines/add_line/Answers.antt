use Rattle.std.proofs.Common.{◌≢◌, ◌∙◌}
use Rattle.csv.specs.declared.writer.QuoteStyle.TheVariants as style
use Rattle.am_report.specs.Rows.{fields_line}
use Rattle.am_report.proofs.LineLemmas.{appended}
use Rattle.am_report.proofs.lines.add_line.Goals as goal
use Rattle.am_report.proofs.lines.add_line.Goals.{in-Ok, in-Err}

pub returns : goal.returns
unfolding fields_line
returns c = elim c.match-write_fields.branch [
  | in-Ok w ↦
      rw w.result-is (λ text h.
      let plain : c.args.lines.now.cfg.style ≢ style.NonNumeric = rw h.setup (λ e. cc e) in
      record {
        setup = w.in-Ok.ensures.setup ∙ h.setup;
        no_field = w.in-Ok.ensures.ended;
        no_byte = w.in-Ok.ensures.clean;
        written = appended _ _ text _ (rw h.setup at (w.in-Ok.ensures.bytes h.no_field h.no_byte plain)) h.written;
      })
  | in-Err w ↦ rw w.result-is tt
]
