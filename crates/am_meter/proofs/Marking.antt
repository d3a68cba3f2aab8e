-- The marked records of a list of packets: one more, how many they are, and that they are one list.
use Rattle.std.proofs.Common.{arith, refl, sym, ap, subst, ◌∙◌, ◌≡◌, ◌≢◌, ℕ, ◌+◌, Bool, List, [], ◌∷◌, ◌++◌, length, drop, append_assoc}
use Rattle.std.proofs.lemmas.List.{append-nil}
use Rattle.am_ip6.specs.Marks.{Seen}
use Rattle.am_ip6.specs.Marks.Seen.{CutOff}
use Rattle.am_ip6.specs.Seen.{IsSeen}
use Rattle.am_ip6.specs.declared.marks.Place.{Place}
use Rattle.am_pcap.specs.Packets.{Packet}
use Rattle.am_pcap.specs.CaptureFiles.{is_whole}
use Rattle.am_pcap.specs.Frames.{IsFramed}
use Rattle.am_pcap.specs.declared.head.Head.{Head}
use Rattle.am_pcap.specs.declared.frame.LinkKind.{LinkKind}
use Rattle.am_pcap.specs.declared.frame.Frame.{Frame}
use Rattle.am_pcap.specs.declared.frame.Frame.TheVariants.{Ip6, Other, Cut}
use Rattle.am_meter.specs.Marks.{AreSeen, IsSeenIn, FrameShowsMark, AreMarked, marked_in}
use Rattle.am_meter.specs.declared.stream.Marked.{Marked}

-- what is found in a packet is what the bytes of its record show
pub seen-of_packet :
    (place : Place) (link : LinkKind) (bytes : List ℕ) (whole : Bool) (at : ℕ) (packet : List ℕ) (seen : Seen)
    → packet ≡ drop at bytes
    → IsFramed link bytes whole (Ip6 at)
    → IsSeen packet whole place seen
    → AreSeen place link bytes whole seen
seen-of_packet place link bytes whole at packet seen rest says found = record {
  frame = Ip6 at;
  framed = says;
  shows = subst (λ x. IsSeen x whole place seen) rest found;
}

-- one more record
pub AreMarked-more :
    (place : Place) (h : Head) (number : ℕ) (ps : List Packet) (ms : List Marked) (p : Packet) (seen : Seen) (last : ℕ)
    → AreMarked place h number ps ms
    → IsSeenIn place h.link p seen
    → seen ≢ CutOff
    → last ≡ number + length ps
    → AreMarked place h number (ps ++ p ∷ []) (ms ++ marked_in h last p seen)
AreMarked-more place h number [] ms p seen last a is uncut at =
    let same : last ≡ number = omega (arith, at) in (
      seen,
      [],
      is,
      uncut,
      refl,
      ap (λ x. x ++ marked_in h last p seen) a ∙ ap (λ n. marked_in h n p seen) same ∙ sym (append-nil (marked_in h number p seen)),
    )
AreMarked-more place h number (q ∷ qs) ms p seen last a is uncut at =
    let more = AreMarked-more place h (number + 1) qs a.1 p seen last a.4 is uncut (omega (arith, at)) in (
      a.0,
      a.1 ++ marked_in h last p seen,
      a.2,
      a.3,
      more,
      ap (λ x. x ++ marked_in h last p seen) a.5 ∙ append_assoc (marked_in h number q a.0) a.1 (marked_in h last p seen),
    )

-- a packet of which bytes hold one frame at most, and that shows one thing at most, is marked in one way
module _
    (frames : (link : LinkKind) (bytes : List ℕ) (whole : Bool) (f g : Frame) → IsFramed link bytes whole f → IsFramed link bytes whole g → f ≡ g)
    (seens : (packet : List ℕ) (whole : Bool) (place : Place) (a b : Seen) → IsSeen packet whole place a → IsSeen packet whole place b → a ≡ b)
  where
    frame-once :
        (place : Place) (bytes : List ℕ) (whole : Bool) (f : Frame) (a b : Seen)
        → FrameShowsMark place bytes whole f a → FrameShowsMark place bytes whole f b → a ≡ b
    frame-once place bytes whole (Ip6 at) a b x y = seens (drop at bytes) whole place a b x y
    frame-once place bytes whole Other a b x y = x ∙ sym y
    frame-once place bytes whole Cut a b x y = x ∙ sym y

    pub seen-once :
        (place : Place) (link : LinkKind) (bytes : List ℕ) (whole : Bool) (a b : Seen)
        → AreSeen place link bytes whole a → AreSeen place link bytes whole b → a ≡ b
    seen-once place link bytes whole a b x y =
        let same : y.frame ≡ x.frame = frames link bytes whole y.frame x.frame y.framed x.framed in
        frame-once place bytes whole x.frame a b x.shows (subst (λ f. FrameShowsMark place bytes whole f b) same y.shows)

    pub record-once :
        (place : Place) (link : LinkKind) (p : Packet) (a b : Seen) → IsSeenIn place link p a → IsSeenIn place link p b → a ≡ b
    record-once place link p a b x y = seen-once place link p.bytes (is_whole p) a b x y

    pub marked-once :
        (place : Place) (h : Head) (number : ℕ) (ps : List Packet) (ms ns : List Marked)
        → AreMarked place h number ps ms
        → AreMarked place h number ps ns
        → ms ≡ ns
    marked-once place h number [] ms ns a b = a ∙ sym b
    marked-once place h number (p ∷ ps) ms ns a b =
        let same : a.0 ≡ b.0 = record-once place h.link p a.0 b.0 a.2 b.2 in
        let rest : a.1 ≡ b.1 = marked-once place h (number + 1) ps a.1 b.1 a.4 b.4 in
        a.5 ∙ ap (λ s. marked_in h number p s ++ a.1) same ∙ ap (λ x. marked_in h number p b.0 ++ x) rest ∙ sym b.5

    -- a record among those whose headers aren't cut isn't cut
    pub uncut-among :
        (place : Place) (h : Head) (number : ℕ) (before : List Packet) (p : Packet) (more : List Packet) (ms : List Marked)
        → AreMarked place h number ((before ++ p ∷ []) ++ more) ms
        → IsSeenIn place h.link p CutOff
        → ⊥
    uncut-among place h number [] p more ms a cut = a.3 (record-once place h.link p a.0 CutOff a.2 cut)
    uncut-among place h number (q ∷ qs) p more ms a cut = uncut-among place h (number + 1) qs p more a.1 a.4 cut
