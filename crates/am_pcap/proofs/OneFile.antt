-- Of one list of bytes: what it begins with, whether it is a capture, and how it is refused fit together.
use Rattle.std.proofs.Common.{arith, refl, sym, ap, subst, ◌∙◌, ◌≡◌, ℕ, ◌+◌, Bool, List, [], ◌∷◌, ◌++◌, length, take, drop, Some, None, Err, ◌⊎◌, inl, inr}
use Rattle.std.proofs.lemmas.List.{append-nil, take-append-drop, length-take}
use Rattle.am_pcap.specs.Packets.{Packet, IsWhole, HoldsPackets, behind_first}
use Rattle.am_pcap.specs.Heads.{IsRefusedHead}
use Rattle.am_pcap.specs.Captures.{Summary, HasSummary, IsCapture, IsTooLong, IsRefusedAfter, HasBadRecord, WhyRefused}
use Rattle.am_pcap.specs.Readings.{IsCut}
use Rattle.am_pcap.specs.CaptureFiles.{BeginsWith, HasHead, IsRefusedIn, IsRefusedHeader, IsFrontOf}
use Rattle.am_pcap.specs.declared.refusal.CapError.{CapError}
use Rattle.am_pcap.specs.declared.head.Head.{Head}
use Rattle.am_pcap.proofs.Judged.{head-unique, head-not_refused}
use Rattle.am_pcap.proofs.Steps.{take-whole}
use Rattle.am_pcap.proofs.Refusals.{head-not-cut, refused-after, after-refused, capture-not_refused, cut-or_not}
use Rattle.am_pcap.proofs.Summaries.{summary-unique}
use Rattle.am_pcap.proofs.Verdicts.{verdict-unique, bad_record-summary}

capture-summary :
    (bytes : List ℕ) (h : Head) (ps : List Packet) → IsCapture bytes h ps
    → HasSummary bytes ps (record { head = Some h; count = length ps; unfinished = []; taken = length bytes; error = None })
capture-summary bytes h ps c = record {
  count = refl;
  taken = refl;
  split = record {
    whole = c.whole;
    head = c.head;
    records = c.records;
    no_more = λ (w : IsWhole h.form.big []). omega (arith, w.head);
    refused = λ (w : IsTooLong h.form.big []). omega (arith, w.head);
  };
}

-- a capture is one
pub capture-one :
    (bytes : List ℕ) (h k : Head) (ps qs : List Packet) → IsCapture bytes h ps → IsCapture bytes k qs → (h ≡ k) × (ps ≡ qs)
capture-one bytes h k ps qs c d =
    let s : Summary = record { head = Some h; count = length ps; unfinished = []; taken = length bytes; error = None } in
    let t : Summary = record { head = Some k; count = length qs; unfinished = []; taken = length bytes; error = None } in
    let both = summary-unique bytes ps qs s t (capture-summary bytes h ps c) (capture-summary bytes k qs d) in
    (head-unique (take 24 bytes) h k c.head d.head, both.0)

-- a refusal of a record, as a summary
after-bad :
    (e : CapError) (bytes : List ℕ) (qs : List Packet) (bad : HasBadRecord bytes e) → bad.packets ≡ qs
    → WhyRefused bad.h.form.big (length bad.packets + 1) bad.rest e → (IsCut e → ⊥)
    → (s : Summary) × HasSummary bytes qs s × (s.error ≡ Some e)
after-bad e bytes qs bad same (inr w) stable = absurd (stable (subst (λ x. IsCut x) (sym w.2) tt))
after-bad e bytes qs bad same (inl w) stable =
    let s : HasSummary bytes bad.packets (record { head = Some bad.h; count = length bad.packets; unfinished = bad.rest; taken = length bytes; error = Some e }) = record {
      count = refl;
      taken = refl;
      split = record { whole = bad.whole; head = bad.head; records = bad.records; no_more = bad.stuck; refused = w };
    } in (
      record { head = Some bad.h; count = length bad.packets; unfinished = bad.rest; taken = length bytes; error = Some e },
      subst (λ x. HasSummary bytes x (record { head = Some bad.h; count = length bad.packets; unfinished = bad.rest; taken = length bytes; error = Some e })) same s,
      refl,
    )

-- and one of the header
after-error :
    (e : CapError) (bytes : List ℕ) (qs : List Packet) → IsRefusedAfter e bytes qs → (IsCut e → ⊥)
    → (s : Summary) × HasSummary bytes qs s × (s.error ≡ Some e)
after-error e bytes qs (inl p) stable = absurd (stable (subst (λ x. IsCut x) (sym p.1) tt))
after-error e bytes qs (inr (inl p)) stable = (
  record { head = None; count = length qs; unfinished = bytes; taken = length bytes; error = Some e },
  record { count = refl; taken = refl; split = record { whole = p.0; bad = p.1; none = p.2; rest = refl } },
  refl,
)
after-error e bytes qs (inr (inr p)) stable = after-bad e bytes qs p.0 p.1 p.0.why stable

-- bytes that are refused in a front are refused so whole
pub refused-whole : (bytes : List ℕ) (e : CapError) (qs : List Packet) → IsRefusedIn bytes e qs → IsRefusedAfter e bytes qs
refused-whole bytes e qs r = elim (cut-or_not e) [
  | inl cut ↦
      let all : bytes ≡ r.front = r.split ∙ ap (λ x. r.front ++ x) (r.all cut) ∙ append-nil r.front in
      subst (λ x. IsRefusedAfter e x qs) (sym all) r.refused
  | inr stable ↦
      let s = after-error e r.front qs r.refused stable in
      subst (λ x. IsRefusedAfter e x qs) (sym r.split) (refused-after r.front qs s.0 e s.1 s.2 r.rest)
]

-- a file header that is refused is a refusal behind no packets
pub header-refused : (bytes : List ℕ) (e : CapError) → IsRefusedHeader bytes e → IsRefusedIn bytes e []
header-refused bytes e (inl r) =
    let long : length (take 24 bytes) ≡ 24 = omega (arith, length-take 24 bytes, r.0) in
    let same : take 24 (take 24 bytes) ≡ take 24 bytes = take-whole 24 (take 24 bytes) long in
    record {
      front = take 24 bytes;
      rest = drop 24 bytes;
      split = sym (take-append-drop 24 bytes);
      short = omega (arith, long);
      all = λ cut. absurd (head-not-cut (take 24 bytes) e r.1 cut);
      refused = inr (inl (omega (arith, long), subst (λ x. IsRefusedHead e x) (sym same) r.1, refl));
    }
header-refused bytes e (inr r) = record {
  front = bytes;
  rest = [];
  split = sym (append-nil bytes);
  short = omega (arith, r.0);
  all = λ cut. refl;
  refused = inl (r.0, r.1, refl);
}

-- a capture isn't refused
pub capture-not_refused_in :
    (bytes : List ℕ) (h : Head) (e : CapError) (ps qs : List Packet) → IsCapture bytes h ps → IsRefusedIn bytes e qs → ⊥
capture-not_refused_in bytes h e ps qs c r = capture-not_refused bytes h ps e c (after-refused e bytes qs (refused-whole bytes e qs r))

after-summary : (e : CapError) (bytes : List ℕ) (qs : List Packet) → IsRefusedAfter e bytes qs → (s : Summary) × HasSummary bytes qs s
after-summary e bytes qs (inl p) = (
  record { head = None; count = length qs; unfinished = bytes; taken = length bytes; error = None },
  record { count = refl; taken = refl; split = record { short = p.0; none = p.2; rest = refl } },
)
after-summary e bytes qs (inr (inl p)) = (
  record { head = None; count = length qs; unfinished = bytes; taken = length bytes; error = Some e },
  record { count = refl; taken = refl; split = record { whole = p.0; bad = p.1; none = p.2; rest = refl } },
)
after-summary e bytes qs (inr (inr p)) =
    let s = bad_record-summary bytes e p.0.h p.0.packets p.0.rest p.0.whole p.0.head p.0.records p.0.stuck p.0.why in
    (s.0, subst (λ x. HasSummary bytes x s.0) p.1 s.1)

-- bytes are refused for one reason, behind one list of packets
pub refused-once :
    (bytes : List ℕ) (d e : CapError) (ps qs : List Packet) → IsRefusedIn bytes d ps → IsRefusedIn bytes e qs → (d ≡ e) × (ps ≡ qs)
refused-once bytes d e ps qs p q =
    let a = refused-whole bytes d ps p in
    let b = refused-whole bytes e qs q in
    let s = after-summary d bytes ps a in
    let t = after-summary e bytes qs b in
    let same = verdict-unique bytes (Err d) (Err e) (after-refused d bytes ps a) (after-refused e bytes qs b) in
    let one : d ≡ e = cc (same) in
    (one, (summary-unique bytes ps qs s.0 t.0 s.1 t.1).0)

-- records before a place where none is whole begin with any other records before it
front-of_all :
    (big : Bool) (bytes : List ℕ) (ps : List Packet) (rest : List ℕ) (qs : List Packet) (left : List ℕ)
    → HoldsPackets big bytes ps rest → HoldsPackets big bytes qs left → (IsWhole big left → ⊥) → IsFrontOf ps qs
front-of_all big bytes [] rest qs left p q stuck = (qs, refl)
front-of_all big bytes (x ∷ xs) rest [] left p q stuck = absurd (stuck (subst (λ y. IsWhole big y) q p.0))
front-of_all big bytes (x ∷ xs) rest (y ∷ ys) left p q stuck =
    let same : x ≡ y = p.1 ∙ sym q.1 in
    let more = front-of_all big (behind_first big bytes) xs rest ys left p.2 q.2 stuck in
    let all : y ∷ ys ≡ x ∷ xs ++ more.0 = cc (same, more.1) in
    (more.0, all)

-- two lists of records in front: one begins with the other
fronts :
    (big : Bool) (bytes : List ℕ) (ps : List Packet) (rest : List ℕ) (qs : List Packet) (left : List ℕ)
    → HoldsPackets big bytes ps rest → HoldsPackets big bytes qs left → IsFrontOf ps qs ⊎ IsFrontOf qs ps
fronts big bytes [] rest qs left p q = inl (qs, refl)
fronts big bytes (x ∷ xs) rest [] left p q = inr (x ∷ xs, refl)
fronts big bytes (x ∷ xs) rest (y ∷ ys) left p q =
    let same : x ≡ y = p.1 ∙ sym q.1 in
    elim (fronts big (behind_first big bytes) xs rest ys left p.2 q.2) [
      | inl a ↦ let all : y ∷ ys ≡ x ∷ xs ++ a.0 = cc (same, a.1) in inl (a.0, all)
      | inr b ↦ let all : x ∷ xs ≡ y ∷ ys ++ b.0 = cc (same, b.1) in inr (b.0, all)
    ]

-- what bytes begin with is their header
pub begins-head : (bytes : List ℕ) (h k : Head) (ps : List Packet) → BeginsWith bytes h ps → HasHead bytes k → h ≡ k
begins-head bytes h k ps b is = head-unique (take 24 bytes) h k b.all.head is.head

pub begins-capture :
    (bytes : List ℕ) (h k : Head) (ps qs : List Packet) → BeginsWith bytes h ps → IsCapture bytes k qs
    → (h ≡ k) × (more : List Packet) × (qs ≡ ps ++ more)
begins-capture bytes h k ps qs b c =
    let same : h ≡ k = head-unique (take 24 bytes) h k b.all.head c.head in
    let records = subst (λ (x : Head). HoldsPackets x.form.big (drop 24 bytes) ps (b.behind ++ b.rest)) same b.all.records in
    let front = front-of_all k.form.big (drop 24 bytes) ps (b.behind ++ b.rest) qs [] records c.records
    (λ (w : IsWhole k.form.big []). omega (arith, w.head)) in
    (same, front.0, front.1)

pub begins-begins :
    (bytes : List ℕ) (h k : Head) (ps qs : List Packet) → BeginsWith bytes h ps → BeginsWith bytes k qs
    → (h ≡ k) × (IsFrontOf ps qs ⊎ IsFrontOf qs ps)
begins-begins bytes h k ps qs a b =
    let same : h ≡ k = head-unique (take 24 bytes) h k a.all.head b.all.head in
    let records = subst (λ (x : Head). HoldsPackets x.form.big (drop 24 bytes) ps (a.behind ++ a.rest)) same a.all.records in
    (same, fronts k.form.big (drop 24 bytes) ps (a.behind ++ a.rest) qs (b.behind ++ b.rest) records b.all.records)

pub begins-not_refused : (bytes : List ℕ) (h : Head) (ps : List Packet) (e : CapError) → BeginsWith bytes h ps → IsRefusedHeader bytes e → ⊥
begins-not_refused bytes h ps e b (inl r) = head-not_refused (take 24 bytes) h e b.all.head r.1
begins-not_refused bytes h ps e b (inr r) = omega (arith, b.all.whole, r.0)

begins-after : (bytes : List ℕ) (h : Head) (ps : List Packet) (e : CapError) (qs : List Packet) → BeginsWith bytes h ps → IsRefusedAfter e bytes qs → IsFrontOf ps qs
begins-after bytes h ps e qs b (inl r) = absurd (omega (arith, b.all.whole, r.0))
begins-after bytes h ps e qs b (inr (inl r)) = absurd (head-not_refused (take 24 bytes) h e b.all.head r.1)
begins-after bytes h ps e qs b (inr (inr r)) =
    let same : h ≡ r.0.h = head-unique (take 24 bytes) h r.0.h b.all.head r.0.head in
    let records = subst (λ (x : Head). HoldsPackets x.form.big (drop 24 bytes) ps (b.behind ++ b.rest)) same b.all.records in
    subst (λ x. IsFrontOf ps x) r.1
    (front-of_all r.0.h.form.big (drop 24 bytes) ps (b.behind ++ b.rest) r.0.packets r.0.rest records r.0.records r.0.stuck)

pub begins-refused :
    (bytes : List ℕ) (h : Head) (e : CapError) (ps qs : List Packet) → BeginsWith bytes h ps → IsRefusedIn bytes e qs → IsFrontOf ps qs
begins-refused bytes h e ps qs b r = begins-after bytes h ps e qs b (refused-whole bytes e qs r)
