-- The table of what both captures of `link` count.
use Rattle.std.proofs.Common.{◌≡◌, ℕ, List, ◌∙◌, subst}
use Rattle.am_meter.specs.declared.stream.Marked.{Marked}
use Rattle.am_chain.specs.Tables.{Row, IsCountTable, count_in, table_text}
use Rattle.am_run.specs.commands.Link.{Link, IsLinkTable, link_times}

-- what was counted at the first point, and stayed while the second was counted, and what was counted there make the table
pub link-table :
    (l : Link) (ups downs : List Marked) (entered entered_after left : ℕ → ℕ) (rows : List Row) (text : List ℕ) (shift : ℕ)
    → shift ≡ l.shift
    → ((b : ℕ) → entered b ≡ count_in (link_times l) l.flow 0 ups b)
    → ((b : ℕ) → entered_after b ≡ entered b)
    → ((b : ℕ) → left b ≡ count_in (link_times l) l.flow shift downs b)
    → ((e l : ℕ → ℕ) → ((b : ℕ) → entered_after b ≡ e b) → ((b : ℕ) → left b ≡ l b) → IsCountTable e l rows) → text ≡ table_text rows
    → IsLinkTable l ups downs text
link-table l ups downs entered entered_after left rows text shift is up same down table printed = record {
  rows = rows;
  table = table (count_in (link_times l) l.flow 0 ups) (count_in (link_times l) l.flow l.shift downs)
      (λ b. same b ∙ up b) (subst (λ z. (b : ℕ) → left b ≡ count_in (link_times l) l.flow z downs b) is down);
  printed = printed;
}
