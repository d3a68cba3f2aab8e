-- Bytes that have marked records have one list of them, and are not refused.
use Rattle.std.proofs.Common.{arith, sym, subst, ◌≡◌, ℕ, Bool, List, [], ◌∷◌, ◌++◌, inl, inr}
use Rattle.std.specs.Prelude.{Ok, Err}
use Rattle.std.proofs.lemmas.List.{append-nil}
use Rattle.am_ip6.specs.Marks.{Seen}
use Rattle.am_ip6.specs.Seen.{IsSeen}
use Rattle.am_ip6.specs.declared.marks.Place.{Place}
use Rattle.am_pcap.specs.Packets.{Packet}
use Rattle.am_pcap.specs.Captures.{IsCapture}
use Rattle.am_pcap.specs.CaptureFiles.{BeginsWith, IsWholeCapture, IsRefusedIn, IsRefusedHeader}
use Rattle.am_pcap.specs.Frames.{IsFramed}
use Rattle.am_pcap.specs.declared.refusal.CapError.{CapError}
use Rattle.am_pcap.specs.declared.head.Head.{Head}
use Rattle.am_pcap.specs.declared.frame.LinkKind.{LinkKind}
use Rattle.am_pcap.specs.declared.frame.Frame.{Frame}
use Rattle.am_meter.specs.Marks.{AreMarked, IsMarkedCapture, JudgesMarks, MarksRefusal, CutsHeaders}
use Rattle.am_meter.specs.Marks.MarksRefusal.{Long, BadCapture, HeadersCut}
use Rattle.am_meter.specs.declared.stream.Marked.{Marked}
use Rattle.am_meter.proofs.Marking.{marked-once, uncut-among}

-- a whole capture begins with its records
pub begins-whole : (bytes : List ℕ) (h : Head) (ps : List Packet) → IsWholeCapture bytes h ps → BeginsWith bytes h ps
begins-whole bytes h ps c = record {
  front = bytes;
  rest = [];
  behind = [];
  split = sym (append-nil bytes);
  short = c.short;
  begins = record { whole = c.capture.whole; head = c.capture.head; records = c.capture.records };
  all = record { whole = c.capture.whole; head = c.capture.head; records = c.capture.records };
}

pub judged-once :
    (frames : (link : LinkKind) (bytes : List ℕ) (whole : Bool) (f g : Frame) → IsFramed link bytes whole f → IsFramed link bytes whole g → f ≡ g)
    (seens : (packet : List ℕ) (whole : Bool) (place : Place) (a b : Seen) → IsSeen packet whole place a → IsSeen packet whole place b → a ≡ b)
    (captures : (bytes : List ℕ) (h k : Head) (ps qs : List Packet) → IsCapture bytes h ps → IsCapture bytes k qs → (h ≡ k) × (ps ≡ qs))
    (place : Place) (bytes : List ℕ) (ms ns : List Marked)
    → JudgesMarks place bytes (Ok ms)
    → JudgesMarks place bytes (Ok ns)
    → ms ≡ ns
judged-once frames seens captures place bytes ms ns a b =
    let same = captures bytes b.head a.head b.packets a.packets b.capture.capture a.capture.capture in
    marked-once frames seens place a.head 1 a.packets ms ns a.marked
    (subst (λ ps. AreMarked place a.head 1 ps ns) same.1 (subst (λ h. AreMarked place h 1 b.packets ns) same.0 b.marked))

module _
    (frames : (link : LinkKind) (bytes : List ℕ) (whole : Bool) (f g : Frame) → IsFramed link bytes whole f → IsFramed link bytes whole g → f ≡ g)
    (seens : (packet : List ℕ) (whole : Bool) (place : Place) (a b : Seen) → IsSeen packet whole place a → IsSeen packet whole place b → a ≡ b)
    (not_refused : (bytes : List ℕ) (h : Head) (e : CapError) (ps qs : List Packet) → IsCapture bytes h ps → IsRefusedIn bytes e qs → ⊥)
    (not_bad : (bytes : List ℕ) (h : Head) (ps : List Packet) (e : CapError) → BeginsWith bytes h ps → IsRefusedHeader bytes e → ⊥)
    (captured : (bytes : List ℕ) (h k : Head) (ps qs : List Packet) → BeginsWith bytes h ps → IsCapture bytes k qs → (h ≡ k) × (more : List Packet) × (qs ≡ ps ++ more))
  where
    none-cut : (place : Place) (bytes : List ℕ) (ms : List Marked) (number : ℕ) (ns : List Marked) → IsMarkedCapture place bytes ms → CutsHeaders place bytes number ns → ⊥
    none-cut place bytes ms number ns a x =
        let all = captured bytes x.head a.head (x.before ++ x.packet ∷ []) a.packets x.begins a.capture.capture in
        let marked : AreMarked place a.head 1 ((x.before ++ x.packet ∷ []) ++ all.1) ms = subst (λ ps. AreMarked place a.head 1 ps ms) all.2 a.marked in
        uncut-among frames seens place x.head 1 x.before x.packet all.1 ms
        (subst (λ h. AreMarked place h 1 ((x.before ++ x.packet ∷ []) ++ all.1) ms) (sym all.0) marked) x.cut

    pub judged-not_refused :
        (place : Place) (bytes : List ℕ) (ms : List Marked) (e : MarksRefusal)
        → JudgesMarks place bytes (Ok ms)
        → JudgesMarks place bytes (Err e)
        → ⊥
    judged-not_refused place bytes ms Long a (ns, r) = omega (arith, a.capture.short, r.0)
    judged-not_refused place bytes ms (BadCapture e) a (ns, inl r) =
        not_bad bytes a.head a.packets e (begins-whole bytes a.head a.packets a.capture) r.0
    judged-not_refused place bytes ms (BadCapture e) a (ns, inr r) =
        not_refused bytes a.head e a.packets r.packets a.capture.capture r.refused
    judged-not_refused place bytes ms (HeadersCut number) a (ns, r) = none-cut place bytes ms number ns a r
