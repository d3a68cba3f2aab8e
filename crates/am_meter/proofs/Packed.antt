-- The packets of a capture that were put into a batch: which are marked, and the first whose headers are cut.
use Rattle.std.proofs.Common.{arith, refl, sym, ap, subst, ◌∙◌, ◌≡◌, ℕ, ◌+◌, List, [], ◌∷◌, ◌++◌, length, append_assoc}
use Rattle.am_ip6.specs.Marks.Seen.{CutOff}
use Rattle.am_ip6.specs.declared.marks.Place.{Place}
use Rattle.am_pcap.specs.Packets.{Packet}
use Rattle.am_pcap.specs.declared.head.Head.{Head}
use Rattle.am_meter.specs.declared.stream.Marked.{Marked}
use Rattle.am_meter.specs.Marks.{AreMarked, IsSeenIn, marked_in}
use Rattle.am_meter.specs.Batches.{BatchRecord, RecordShows, HaveMarks, CutsFirst}
use Rattle.am_meter.specs.Filling.{record_of, records_of}

-- the marked records of packets that were put into a batch
pub marks-of-packets :
    (place : Place) (h : Head) (number : ℕ) (ps : List Packet) (ms : List Marked)
    → HaveMarks place (records_of h number ps) ms
    → AreMarked place h number ps ms
marks-of-packets place h number [] ms a = a
marks-of-packets place h number (p ∷ ps) ms a = (a.0, a.1, a.2, a.3, marks-of-packets place h (number + 1) ps a.1 a.4, a.5)

-- the marked records of packets, and of more
pub AreMarked-append :
    (place : Place) (h : Head) (number next : ℕ) (ps qs : List Packet) (ms ns : List Marked)
    → next ≡ number + length ps
    → AreMarked place h number ps ms
    → AreMarked place h next qs ns
    → AreMarked place h number (ps ++ qs) (ms ++ ns)
AreMarked-append place h number next [] qs ms ns at a b =
    let same : next ≡ number = omega (arith, at) in
    subst (λ n. AreMarked place h n qs (ms ++ ns)) same (subst (λ x. AreMarked place h next qs (x ++ ns)) (sym a) b)
AreMarked-append place h number next (p ∷ ps) qs ms ns at a b = (
  a.0,
  a.1 ++ ns,
  a.2,
  a.3,
  AreMarked-append place h (number + 1) next ps qs a.1 ns (omega (arith, at)) a.4 b,
  ap (λ x. x ++ ns) a.5 ∙ append_assoc (marked_in h number p a.0) a.1 ns,
)

-- the packets of a batch up to the first that is cut
pub record CutsPacket (place : Place) (h : Head) (number : ℕ) (ps : List Packet) (cut : ℕ) (ms : List Marked) : Type 0 where
  pub before : List Packet
  pub packet : Packet
  pub behind : List Packet
  pub split : ps ≡ before ++ packet ∷ behind
  pub marked : AreMarked place h number before ms
  pub shows : IsSeenIn place h.link packet CutOff
  pub numbered : cut ≡ number + length before

-- the first record is one of these packets
record SplitsPackets (h : Head) (number : ℕ) (ps : List Packet) (before : List BatchRecord) (cut : BatchRecord) : Type 0 where
  front : List Packet
  packet : Packet
  behind : List Packet
  split : ps ≡ front ++ packet ∷ behind
  front_is : before ≡ records_of h number front
  cut_is : cut ≡ record_of h (number + length front) packet

none-split : (before : List BatchRecord) (cut : BatchRecord) (behind : List BatchRecord) → [] ≡ before ++ cut ∷ behind → ⊥
none-split [] cut behind e = cc
none-split (b ∷ bs) cut behind e = cc

splits-packets :
    (h : Head) (number : ℕ) (ps : List Packet) (before : List BatchRecord) (cut : BatchRecord) (behind : List BatchRecord)
    → records_of h number ps ≡ before ++ cut ∷ behind
    → SplitsPackets h number ps before cut
splits-packets h number [] before cut behind e = absurd (none-split before cut behind e)
splits-packets h number (p ∷ ps) [] cut behind e = record {
  front = [];
  packet = p;
  behind = ps;
  split = refl;
  front_is = refl;
  cut_is =
      let both : record_of h number p ∷ records_of h (number + 1) ps ≡ cut ∷ behind = e in
      let first : cut ≡ record_of h number p = cc in
      let at : number ≡ number + 0 = omega arith in
      first ∙ ap (λ n. record_of h n p) at;
}
splits-packets h number (p ∷ ps) (b ∷ bs) cut behind e =
    let both : record_of h number p ∷ records_of h (number + 1) ps ≡ b ∷ (bs ++ cut ∷ behind) = e in
    let first : b ≡ record_of h number p = cc in
    let rest : records_of h (number + 1) ps ≡ bs ++ cut ∷ behind = cc in
    let s = splits-packets h (number + 1) ps bs cut behind rest in
    let at : number + 1 + length s.front ≡ number + length (p ∷ s.front) = omega arith in
    record {
      front = p ∷ s.front;
      packet = s.packet;
      behind = s.behind;
      split = ap (λ x. p ∷ x) s.split;
      front_is = ap (λ x. x ∷ bs) first ∙ ap (λ x. record_of h number p ∷ x) s.front_is;
      cut_is = s.cut_is ∙ ap (λ n. record_of h n s.packet) at;
    }

pub cuts-packet :
    (place : Place) (h : Head) (number : ℕ) (ps : List Packet) (rs : List BatchRecord) (cut : ℕ) (ms : List Marked)
    → rs ≡ records_of h number ps
    → CutsFirst place rs cut ms
    → CutsPacket place h number ps cut ms
cuts-packet place h number ps rs cut ms is c =
    let s = splits-packets h number ps c.before c.cut c.behind (sym is ∙ c.split) in
    record {
      before = s.front;
      packet = s.packet;
      behind = s.behind;
      split = s.split;
      marked = marks-of-packets place h number s.front ms (subst (λ x. HaveMarks place x ms) s.front_is c.marked);
      shows = subst (λ x. RecordShows place x CutOff) s.cut_is c.shows;
      numbered = c.numbered ∙ ap (λ (x : BatchRecord). x.number) s.cut_is;
    }
