-- The verdict on a summary is what the bytes are: a capture, or refused for one reason.
use Rattle.std.proofs.Common.{arith, refl, sym, ap, ◌∙◌, ◌≡◌, ℕ, ◌+◌, ◌≤◌, List, [], ◌∷◌, length, take, drop, Option, Some, None, Result, Ok, Err, inl, inr}
use Rattle.am_pcap.specs.Packets.{Packet, IsWhole, HoldsPackets}
use Rattle.am_pcap.specs.Heads.{IsHead}
use Rattle.am_pcap.specs.Captures.{Summary, HasSummary, IsTooLong, IsVerdict, WhyRefused, verdict, unless_cut, unless_refused}
use Rattle.am_pcap.specs.Decoded.{Decoded, StandsFor}
use Rattle.am_pcap.specs.declared.refusal.CapError.{CapError}
use Rattle.am_pcap.specs.declared.refusal.CapError.TheVariants.{CutFile}
use Rattle.am_pcap.specs.declared.head.Head.{Head}
use Rattle.am_pcap.proofs.Summaries.{summary-unique, summary-exists}

says_of-parts :
    (bytes : List ℕ) (ps : List Packet) (head : Option Head) (count : ℕ) (unfinished : List ℕ) (taken : ℕ) (error : Option CapError)
    → HasSummary bytes ps (record { head = head; count = count; unfinished = unfinished; taken = taken; error = error })
    → IsVerdict (unless_refused error (unless_cut head count unfinished)) bytes
says_of-parts bytes ps None count u taken None s = inl (s.split.short, refl)
says_of-parts bytes ps None count u taken (Some e) s = inr (inl (s.split.whole, s.split.bad))
says_of-parts bytes ps (Some h) count [] taken None s =
    (h, ps, record { whole = s.split.whole; head = s.split.head; records = s.split.records })
says_of-parts bytes ps (Some h) count (b ∷ bs) taken None s = inr (inr (record {
  whole = s.split.whole;
  h = h;
  head = s.split.head;
  packets = ps;
  rest = b ∷ bs;
  records = s.split.records;
  stuck = s.split.no_more;
  why = inr (s.split.refused, (λ e. cc (e)), ap (λ n. CutFile (n + 1)) s.count);
}))
says_of-parts bytes ps (Some h) count u taken (Some e) s = inr (inr (record {
  whole = s.split.whole;
  h = h;
  head = s.split.head;
  packets = ps;
  rest = u;
  records = s.split.records;
  stuck = s.split.no_more;
  why = inl (s.split.refused.0, s.split.refused.1);
}))

-- what the verdict says of the bytes
pub verdict-says : (bytes : List ℕ) (ps : List Packet) (s : Summary) → HasSummary bytes ps s → IsVerdict (verdict s) bytes
verdict-says bytes ps s p = says_of-parts bytes ps s.head s.count s.unfinished s.taken s.error p

pub stands_says : (d : Decoded) (bytes : List ℕ) → StandsFor d bytes → IsVerdict (verdict d.summary) bytes
stands_says d bytes s = verdict-says bytes s.packets d.summary s.summary

-- the verdict of a summary of these bytes, once one of them is known to have it
by-summary :
    (bytes : List ℕ) (ps qs : List Packet) (s t : Summary) (r : Result (Unit {0}) CapError)
    → HasSummary bytes ps s → HasSummary bytes qs t → verdict t ≡ r → verdict s ≡ r
by-summary bytes ps qs s t r p q is =
    let same = summary-unique bytes ps qs s t p q in
    ap verdict same.1 ∙ is

pub bad_record-summary :
    (bytes : List ℕ) (e : CapError) (h : Head) (qs : List Packet) (rest : List ℕ) → 24 ≤ length bytes → IsHead h (take 24 bytes)
    → HoldsPackets h.form.big (drop 24 bytes) qs rest → (IsWhole h.form.big rest → ⊥) → WhyRefused h.form.big (length qs + 1) rest e
    → (t : Summary) × HasSummary bytes qs t × (verdict t ≡ Err e)
bad_record-summary bytes e h qs rest whole head records stuck (inl p) = (
  record { head = Some h; count = length qs; unfinished = rest; taken = length bytes; error = Some e },
  record { count = refl; taken = refl; split = record { whole = whole; head = head; records = records; no_more = stuck; refused = (p.0, p.1) } },
  refl,
)
bad_record-summary bytes e h qs [] whole head records stuck (inr p) = absurd (p.1 refl)
bad_record-summary bytes e h qs (b ∷ bs) whole head records stuck (inr p) = (
  record { head = Some h; count = length qs; unfinished = b ∷ bs; taken = length bytes; error = None },
  record { count = refl; taken = refl; split = record { whole = whole; head = head; records = records; no_more = stuck; refused = p.0 } },
  ap Err (sym p.2),
)

known-summary : (bytes : List ℕ) (r : Result (Unit {0}) CapError) → IsVerdict r bytes → (qs : List Packet) × (t : Summary) × HasSummary bytes qs t × (verdict t ≡ r)
known-summary bytes (Ok u) (h, qs, c) = (
  qs,
  record { head = Some h; count = length qs; unfinished = []; taken = length bytes; error = None },
  record {
    count = refl;
    taken = refl;
    split = record {
      whole = c.whole;
      head = c.head;
      records = c.records;
      no_more = λ (w : IsWhole h.form.big []). omega (arith, w.head);
      refused = λ (w : IsTooLong h.form.big []). omega (arith, w.head);
    };
  },
  refl,
)
known-summary bytes (Err e) (inl p) = (
  [],
  record { head = None; count = 0; unfinished = bytes; taken = length bytes; error = None },
  record { count = refl; taken = refl; split = record { short = p.0; none = refl; rest = refl } },
  ap Err (sym p.1),
)
known-summary bytes (Err e) (inr (inl p)) = (
  [],
  record { head = None; count = 0; unfinished = bytes; taken = length bytes; error = Some e },
  record { count = refl; taken = refl; split = record { whole = p.0; bad = p.1; none = refl; rest = refl } },
  refl,
)
known-summary bytes (Err e) (inr (inr q)) =
    let t = bad_record-summary bytes e q.h q.packets q.rest q.whole q.head q.records q.stuck q.why in
    (q.packets, t.0, t.1, t.2)

-- and what the bytes are, the verdict says
pub verdict-exact :
    (bytes : List ℕ) (ps : List Packet) (s : Summary) (r : Result (Unit {0}) CapError) → HasSummary bytes ps s → IsVerdict r bytes → verdict s ≡ r
verdict-exact bytes ps s r p v =
    let known = known-summary bytes r v in
    by-summary bytes ps known.0 s known.1 r p known.2 known.3

-- bytes are a capture or are refused, and for one reason
pub verdict-unique : (bytes : List ℕ) (q r : Result (Unit {0}) CapError) → IsVerdict q bytes → IsVerdict r bytes → q ≡ r
verdict-unique bytes q r a b =
    let s = summary-exists bytes in
    sym (verdict-exact bytes s.0 s.1 q s.2 a) ∙ verdict-exact bytes s.0 s.1 r s.2 b
