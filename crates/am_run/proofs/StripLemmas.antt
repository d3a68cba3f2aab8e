-- A record without its mark, or as it is.
use Rattle.std.proofs.Common.{◌≡◌, ℕ, ◌-◌, List, length, take, drop, refl, sym, subst, inl, inr}
use Rattle.std.specs.Prelude.{⊤}
use Rattle.am_opts.specs.Marking.{Marking}
use Rattle.am_ip6.specs.declared.marks.Place.{Place}
use Rattle.am_pcap.specs.Packets.{Packet}
use Rattle.am_pcap.specs.Spelling.{record_bytes}
use Rattle.am_pcap.specs.declared.head.Head.{Head}
use Rattle.am_domain.specs.Domains.{DomainValue}
use Rattle.am_insert.specs.Stripping.{Stripped}
use Rattle.am_chain.specs.Printing.{AddsRecord}
use Rattle.am_run.specs.Rewriting.{with_packet}
use Rattle.am_run.specs.commands.Strip.{HasOwnMark, HasNoOwnMark, strips, stripped_records}
use Rattle.am_run.proofs.RewriteLemmas.{slice-rest, is-rewritten-more}

-- the packet at this place, as a range of its record's bytes
pub stripped-there :
    (bytes : List ℕ) (at a : ℕ) (mark : Marking) (place kind : Place) (packet : List ℕ) → at ≡ a → place ≡ kind
    → Stripped (drop at bytes) mark kind packet → Stripped (take (length bytes - a) (drop a bytes)) mark place packet
stripped-there bytes at a mark place kind packet e f s =
    subst (λ (x : List ℕ). Stripped x mark place packet) (sym (slice-rest a bytes))
    (subst (λ (k : ℕ). Stripped (drop k bytes) mark place packet) e (subst (λ (q : Place). Stripped (drop at bytes) mark q packet) (sym f) s))

-- a record without its mark
pub adds-stripped : (d : DomainValue) (h : Head) (p : Packet) (at : ℕ) (packet piece : List ℕ) (n : ℕ)
    → HasOwnMark d h p at packet → piece ≡ record_bytes h.form.big (with_packet p at packet (p.original - 8))
    → AddsRecord (stripped_records d) (λ k ps. ⊤) (λ k ps. ⊤) h n p piece
adds-stripped d h p at packet piece n has e = λ ps text known counted is. (
  tt,
  is-rewritten-more (strips d) h ps p (with_packet p at packet (p.original - 8)) text piece is
      (inl (record { at = at; packet = packet; has = has; stripped = refl })) e,
)

-- a record as it is
pub adds-whole : (d : DomainValue) (h : Head) (p : Packet) (piece : List ℕ) (n : ℕ)
    → HasNoOwnMark d h p → piece ≡ record_bytes h.form.big p → AddsRecord (stripped_records d) (λ k ps. ⊤) (λ k ps. ⊤) h n p piece
adds-whole d h p piece n none e = λ ps text known counted is. (tt, is-rewritten-more (strips d) h ps p p text piece is (inr (none, refl)) e)
