-- What a reader of rows has read after one more read.
use Rattle.std.proofs.Common.{Bor, ◌≡◌, ◌∙◌, ℕ, List, [], ◌∷◌, ◌++◌, Some, Bool, true, false, inl}
use Rattle.std.specs.Bool.{OnTrue, OnFalse}
use Rattle.csv.specs.Reading.{Ready, ReadRecord, default_config, reader_state, reader_trim, strip_bom, took_first}
use Rattle.csv.specs.declared.parser.State.TheVariants as state
use Rattle.csv.specs.declared.reader.Reader.{Reader}
use Rattle.csv.specs.declared.reader.Trim.TheVariants as trim
use Rattle.csv.proofs.ReadFacts.{rows-end, rows-more}
use Rattle.am_report.specs.Reports.{AreRows}
use Rattle.am_report.specs.RowsRead.{HaveBeenRead}

pub read-step : (old new : Reader (Bor (List ℕ))) (found : Bool) (fields : List (List ℕ))
    → (reader_trim old ≡ trim.None → took_first new ≡ true)
    → (reader_trim old ≡ trim.None → Ready old → ReadRecord (λ s. Some s.now) old new found fields)
    → OnTrue found ((bytes : List ℕ) (rows : List (List (List ℕ)))
    → HaveBeenRead old bytes rows → HaveBeenRead new bytes (rows ++ (fields ∷ [])))
    × OnFalse found ((bytes : List ℕ) (rows : List (List (List ℕ))) → HaveBeenRead old bytes rows → AreRows bytes rows)
read-step old new true fields first reads = (
  (λ bytes rows h.
      let r = reads h.plain h.ready in
      let m = rows-more (λ (s : Bor (List ℕ)). Some s.now) old new fields default_config state.StartRecord (strip_bom bytes) h.left rows h.config h.source h.reached r in
      record {
        plain = r.3 ∙ h.plain;
        ready = inl (first h.plain);
        config = r.2 ∙ h.config;
        left = m.0;
        source = m.1;
        reached = m.2;
      }),
  tt,
)
read-step old new false fields first reads = (
  tt,
  (λ bytes rows h.
      let r = reads h.plain h.ready in
      (reader_state old, h.left, h.reached, rows-end (λ (s : Bor (List ℕ)). Some s.now) old new fields default_config h.left h.config h.source r)),
)
