-- `strip` turns back what `mark` did: of a record, of all records, and of the file.
use Rattle.std.proofs.Common.{◌≡◌, ℕ, ◌+◌, ◌-◌, ◌/◌, ◌^◌, ◌<◌, ◌≤◌, Bool, true, false, List, [], ◌∷◌, ◌++◌, length, take, drop, All, Some, refl, ap, sym, ◌∙◌, subst, arith, inl, inr}
use Rattle.std.specs.Prelude.{nat_le, slice_index, Ok, Err}
use Rattle.std.specs.Io.KnownBytes.{append_known}
use Rattle.std.proofs.lemmas.Bool.Decides.{nat_tests}
use Rattle.std.proofs.lemmas.List.{length-take-le, length-drop, take-append-drop, take_at, drop_at, get_or-drop, get_or-take, get_or_append_left}
use Rattle.std.proofs.lemmas.List.Elements.{All-nil, All-cons, All-head, All-tail}
use Rattle.am_base.specs.Shelves.{Told}
use Rattle.am_base.specs.Files.{HasFile}
use Rattle.am_opts.specs.Marking.{Marking}
use Rattle.am_ip6.specs.declared.marks.Place.{Place}
use Rattle.am_ip6.specs.Fixed.{IsFixed, parts_of}
use Rattle.am_insert.specs.Changes.{IsBytes}
use Rattle.am_insert.specs.Inserting.{Inserted, IsOpen, IsUnmarked, KeepsAddresses}
use Rattle.am_insert.specs.Stripping.{Stripped}
use Rattle.am_pcap.specs.Packets.{Packet}
use Rattle.am_pcap.specs.Heads.{IsHead}
use Rattle.am_pcap.specs.Captures.{IsCapture}
use Rattle.am_pcap.specs.Spelling.{capture_bytes, FitsRecord, HasBytes, IsSpelled}
use Rattle.am_pcap.specs.Frames.{IsFramed, IsTypePlace, TypeSays, VersionSays, HasTag, type_at, untold}
use Rattle.am_pcap.specs.CaptureFiles.{is_whole}
use Rattle.am_pcap.specs.declared.frame.Frame.TheVariants.{Ip6}
use Rattle.am_pcap.specs.declared.frame.LinkKind.{LinkKind}
use Rattle.am_pcap.specs.declared.frame.LinkKind.TheVariants.{Ethernet, RawIp, RawIp6}
use Rattle.am_pcap.specs.declared.head.Head.{Head}
use Rattle.am_domain.specs.Domains.{DomainValue}
use Rattle.am_domain.specs.Lookups.{IsFirstWith, Holds}
use Rattle.am_chain.specs.Answers.{Ending}
use Rattle.am_chain.specs.Answers.Ending.{Done, Missing, Refused}
use Rattle.am_chain.specs.Answers.Answer.{Ended}
use Rattle.am_chain.specs.Chains.{Inputs, Output, inputs, StreamEnds, StreamsSo, IsTextOfAll, Judged, StopsHere, PrintsAll}
use Rattle.am_chain.specs.Inputs.{JudgesDomain}
use Rattle.am_chain.specs.WordForms.{DomainFile}
use Rattle.am_run.specs.Laws.{Laws, AreOneFrame}
use Rattle.am_run.specs.Rewriting.{HasPacketAt, with_packet, AreRewritten, IsRewritten}
use Rattle.am_run.specs.commands.Mark.{GetsMark, marks, marked_records, mark_chain}
use Rattle.am_run.specs.commands.Strip.{HasOwnMark, HasNoOwnMark, LosesMark, strips, stripped_records}
use Rattle.am_run.specs.Undoing.{StripUndoesMark, LeavesText, RunsUndo}
use Rattle.am_run.proofs.EndingLemmas.{StreamExcludes, same-streams}
use Rattle.am_run.proofs.ChainLemmas.{stream-ends-kept}
use Rattle.am_run.proofs.RewriteLemmas.{split}
use Rattle.am_run.proofs.MarkLemmas.{inserted-longer, captured-more}

-- what is known of packets and their marks
pub record PacketLaws : Type 0 where
  pub undone : (packet : List ℕ) (whole : Bool) (mark : Marking) (place : Place) (marked : List ℕ)
      → IsBytes packet → IsUnmarked packet whole place → Inserted packet mark place marked → Stripped marked mark place packet
  pub opened : (packet : List ℕ) (whole : Bool) (place : Place) → IsOpen packet whole place → IsUnmarked packet whole place
  pub addresses : (packet : List ℕ) (mark : Marking) (place : Place) (marked : List ℕ)
      → IsFixed packet → Inserted packet mark place marked → KeepsAddresses packet marked
  pub one : (packet : List ℕ) (place : Place) (m n : Marking) (a b : List ℕ)
      → Stripped packet m place a → Stripped packet n place b → (m ≡ n) × (a ≡ b)

-- and of captures
pub record CaptureLaws : Type 0 where
  pub one : (bytes : List ℕ) (h k : Head) (ps qs : List Packet) → IsCapture bytes h ps → IsCapture bytes k qs → (h ≡ k) × (ps ≡ qs)
  pub spelled : (bytes : List ℕ) (h : Head) (ps : List Packet) → ((k : ℕ) → slice_index bytes k < 2 ^ 8) → IsCapture bytes h ps → IsSpelled bytes h ps
  pub read_back : (h : Head) (ps : List Packet) → length h.raw ≡ 24 → IsHead h h.raw → All FitsRecord ps → IsCapture (capture_bytes h ps) h ps

same-packet : (p q : Packet) → p.seconds ≡ q.seconds → p.fraction ≡ q.fraction → p.original ≡ q.original → p.bytes ≡ q.bytes → p ≡ q
same-packet p q a b c d = grind arith

-- two lists of bytes begin alike, as far as this place, which both have
pub record BeginSame (b c : List ℕ) (at : ℕ) : Type 0 where
  pub first : at ≤ length b
  pub second : at ≤ length c
  pub same : (k : ℕ) → k < at → slice_index c k ≡ slice_index b k

turned : (b c : List ℕ) (at : ℕ) → BeginSame b c at → BeginSame c b at
turned b c at s = record { first = s.second; second = s.first; same = λ k low. sym (s.same k low) }

type-same : (b c : List ℕ) (at k : ℕ) → BeginSame b c at → k + 2 ≤ at → type_at c k ≡ type_at b k
type-same b c at k s low = omega (arith, s.same k (omega (arith, low)), s.same (k + 1) (omega (arith, low)))

tag-same : (b c : List ℕ) (at k : ℕ) → BeginSame b c at → k + 2 ≤ at → HasTag b k → HasTag c k
tag-same b c at k s low tag =
    let e = type-same b c at k s low in
    (omega (arith, low, s.second), elim tag.1 [ inl x ↦ inl (e ∙ x) | inr y ↦ inr (e ∙ y) ])

place-same : (b c : List ℕ) (at k : ℕ) → BeginSame b c at → k + 2 ≤ at → IsTypePlace b k → IsTypePlace c k
place-same b c at k s low (inl x) = inl (x.0, λ tag. x.1 (tag-same c b at 12 (turned b c at s) (omega (arith, low, x.0)) tag))
place-same b c at k s low (inr (inl x)) =
    inr (inl (
      x.0,
      tag-same b c at 12 s (omega (arith, low, x.0)) x.1,
      λ tag. x.2 (tag-same c b at 16 (turned b c at s) (omega (arith, low, x.0)) tag),
    ))
place-same b c at k s low (inr (inr x)) =
    inr (inr (x.0, tag-same b c at 12 s (omega (arith, low, x.0)) x.1, tag-same b c at 16 s (omega (arith, low, x.0)) x.2))

not-untold : (w : Bool) (at : ℕ) → Ip6 at ≡ untold w → ⊥
not-untold true at e = absurd (cc)
not-untold false at e = absurd (cc)

type-says : (b c : List ℕ) (w : Bool) (at k : ℕ) → BeginSame b c at → IsTypePlace b k → TypeSays b w k (Ip6 at)
    → IsTypePlace c k × TypeSays c w k (Ip6 at)
type-says b c w at k s place (inl x) = absurd (not-untold w at x.1)
type-says b c w at k s place (inr (inl x)) =
    let placed = x.2 in
    let e : at ≡ k + 2 = cc (placed) in (
      place-same b c at k s (omega (arith, e)) place,
      inr (inl (omega (arith, e, s.second), type-same b c at k s (omega (arith, e)) ∙ x.1, x.2)),
    )
type-says b c w at k s place (inr (inr x)) = let other = x.2 in absurd (cc (other))

version-says : (b c : List ℕ) (w : Bool) (at : ℕ) → at < length c → slice_index c at / 16 ≡ 6 → VersionSays b w (Ip6 at) → VersionSays c w (Ip6 at)
version-says b c w at some version (inl x) = absurd (not-untold w at x.1)
version-says b c w at some version (inr (inl x)) =
    let placed = x.2 in
    let e : at ≡ 0 = cc (placed) in
    inr (inl (omega (arith, some), ap (λ k. slice_index c k / 16) (sym e) ∙ version, x.2))
version-says b c w at some version (inr (inr x)) = let other = x.2 in absurd (cc (other))

-- the packet of a record begins where it began, where the bytes before it stay and a packet of version 6 stands there
framed-again : (link : LinkKind) (b c : List ℕ) (w : Bool) (at : ℕ) → BeginSame b c at → at < length c → slice_index c at / 16 ≡ 6
    → IsFramed link b w (Ip6 at) → IsFramed link c w (Ip6 at)
framed-again Ethernet b c w at s some version f = let t = type-says b c w at f.0 s f.1 f.2 in (f.0, t.0, t.1)
framed-again RawIp b c w at s some version f = version-says b c w at some version f
framed-again RawIp6 b c w at s some version f = f

le-more : (a n : ℕ) → nat_le (a + 8) (n + 8) ≡ nat_le a n
le-more a n = grind (arith, nat_tests)

bytes-behind : (at : ℕ) (p : Packet) → HasBytes p → IsBytes (drop at p.bytes)
bytes-behind at p small = λ k. omega (arith, get_or-drop at p.bytes k 0, small (at + k))

-- a record with another packet, which is eight bytes longer
abbrev longer : Packet → ℕ → List ℕ → Packet
longer p at packet = with_packet p at packet (p.original + 8)

-- a record that got its mark has it, and without it is the record that it was
module _ (laws : PacketLaws) (d : DomainValue) (h : Head) (before : List Packet) (p q : Packet) (small : HasBytes p) (g : GetsMark d h before p q) where
  fixed : IsFixed (drop g.at p.bytes)
  fixed = g.of_flow.packet.fixed

  within : g.at ≤ length p.bytes
  within = omega (arith, fixed.whole, length-drop g.at p.bytes)

  kept : KeepsAddresses (drop g.at p.bytes) g.packet
  kept = laws.addresses (drop g.at p.bytes) g.mark d.kind g.packet fixed g.inserted

  rest : drop g.at (take g.at p.bytes ++ g.packet) ≡ g.packet
  rest = drop_at (take g.at p.bytes) g.packet g.at (length-take-le g.at p.bytes within)

  size : length p.bytes + 8 ≡ length (take g.at p.bytes ++ g.packet)
  size = captured-more p.bytes g.packet g.at within (inserted-longer (drop g.at p.bytes) g.mark d.kind g.packet g.inserted)

  alike : BeginSame p.bytes (take g.at p.bytes ++ g.packet) g.at
  alike = record {
    first = within;
    second = omega (arith, within, size);
    same = λ k low.
        get_or_append_left (take g.at p.bytes) g.packet 0 k (omega (arith, low, length-take-le g.at p.bytes within))
        ∙ get_or-take g.at p.bytes k 0 low;
  }

  still-whole : is_whole p ≡ is_whole (longer p g.at g.packet)
  still-whole = sym (le-more p.original (length p.bytes)) ∙ ap (λ n. nat_le (p.original + 8) n) size

  version : slice_index (take g.at p.bytes ++ g.packet) g.at / 16 ≡ 6
  version =
      let there : slice_index g.packet 0 ≡ slice_index (take g.at p.bytes ++ g.packet) g.at =
      ap (λ (l : List ℕ). slice_index l 0) (sym rest) ∙ get_or-drop g.at (take g.at p.bytes ++ g.packet) 0 0
      ∙ ap (λ k. slice_index (take g.at p.bytes ++ g.packet) k) (omega arith) in
      ap (λ (n : ℕ). n / 16) (sym there) ∙ kept.fixed.version

  has-packet : HasPacketAt h.link (longer p g.at g.packet) g.at
  has-packet = record {
    framed = subst (λ w. IsFramed h.link (take g.at p.bytes ++ g.packet) w (Ip6 g.at)) still-whole
        (framed-again h.link p.bytes (take g.at p.bytes ++ g.packet) (is_whole p) g.at alike (omega (arith, within, size)) version g.of_flow.packet.framed);
    fixed = subst IsFixed (sym rest) kept.fixed;
  }

  has-own : HasOwnMark d h (longer p g.at g.packet) g.at (drop g.at p.bytes)
  has-own =
      let packet = drop g.at (take g.at p.bytes ++ g.packet) in
      let source : (parts_of (drop g.at p.bytes)).source ≡ (parts_of packet).source =
      sym (ap (λ (l : List ℕ). (parts_of l).source) rest ∙ kept.source) in
      let destination : (parts_of (drop g.at p.bytes)).destination ≡ (parts_of packet).destination =
      sym (ap (λ (l : List ℕ). (parts_of l).destination) rest ∙ kept.destination) in
      record {
        number = g.number;
        of_flow = record {
          packet = has-packet;
          first = subst (λ s. IsFirstWith (Holds s (parts_of packet).destination) d.flows g.number) source
              (subst (λ t. IsFirstWith (Holds (parts_of (drop g.at p.bytes)).source t) d.flows g.number) destination g.of_flow.first);
        };
        mark = g.mark;
        own = g.mark_is.flow;
        stripped = subst (λ (l : List ℕ). Stripped l g.mark d.kind (drop g.at p.bytes)) (sym rest)
            (laws.undone (drop g.at p.bytes) (is_whole p) g.mark d.kind g.packet (bytes-behind g.at p small)
            (laws.opened (drop g.at p.bytes) (is_whole p) d.kind g.unhindered) g.inserted);
        room = omega arith;
      }

  as-it-was : p ≡ with_packet (longer p g.at g.packet) g.at (drop g.at p.bytes) (p.original + 8 - 8)
  as-it-was =
      let bytes : p.bytes ≡ take g.at (take g.at p.bytes ++ g.packet) ++ drop g.at p.bytes =
      sym (ap (λ (l : List ℕ). l ++ drop g.at p.bytes) (take_at (take g.at p.bytes) g.packet g.at (length-take-le g.at p.bytes within))
      ∙ take-append-drop g.at p.bytes) in
      same-packet p (with_packet (longer p g.at g.packet) g.at (drop g.at p.bytes) (p.original + 8 - 8)) refl refl (omega arith) bytes

  pub loses-again : LosesMark d h q p
  loses-again =
      let loses : LosesMark d h (longer p g.at g.packet) p =
      record { at = g.at; packet = drop g.at p.bytes; has = has-own; stripped = as-it-was } in
      subst (λ x. LosesMark d h x p) (sym g.marked) loses

  -- and a record can be of it
  pub fits-again : FitsRecord p → FitsRecord q
  fits-again fits =
      let few : length p.bytes ≤ 262136 = elim (split (length p.bytes) 262136) [ inl low ↦ low | inr high ↦ absurd (g.room (inl high)) ] in
      let short : p.original ≤ 4294967287 = elim (split p.original 4294967287) [ inl low ↦ low | inr high ↦ absurd (g.room (inr high)) ] in
      let fit : FitsRecord (longer p g.at g.packet) = record {
        seconds = fits.seconds;
        fraction = fits.fraction;
        original = omega (arith, short);
        captured = omega (arith, few, size);
      } in
      subst FitsRecord (sym g.marked) fit

-- all records of a capture
module _ (laws : PacketLaws) (d : DomainValue) (h : Head) where
  back-one : (before after : List Packet) (p q : Packet) → HasBytes p → marks d h before p q → strips d h after q p
  back-one before after p q small m = elim m [
    | inl g ↦ inl (loses-again laws d h before p q small g)
    | inr n ↦ inr (subst (λ x. HasNoOwnMark d h x) (sym n.1) (λ at packet has. n.0 at has.number has.of_flow), sym n.1)
  ]

  pub back : (before after ps qs : List Packet) → All HasBytes ps → AreRewritten (marks d) h before ps qs → AreRewritten (strips d) h after qs ps
  back before after [] qs small a = subst (λ x. AreRewritten (strips d) h after x []) (sym a) refl
  back before after (p ∷ ps) qs small a =
      let all : AreRewritten (strips d) h after (a.0 ∷ a.1) (p ∷ ps) = (
        p,
        ps,
        back-one before after p a.0 (All-head HasBytes p ps small) a.2,
        back (before ++ p ∷ []) (after ++ a.0 ∷ []) ps a.1 (All-tail HasBytes p ps small) a.3,
        refl,
      ) in
      subst (λ x. AreRewritten (strips d) h after x (p ∷ ps)) (sym a.4) all

  fit-one : (before : List Packet) (p q : Packet) → HasBytes p → FitsRecord p → marks d h before p q → FitsRecord q
  fit-one before p q small fits m = elim m [
    | inl g ↦ fits-again laws d h before p q small g fits
    | inr n ↦ subst FitsRecord (sym n.1) fits
  ]

  pub fit-all : (before ps qs : List Packet) → All HasBytes ps → All FitsRecord ps → AreRewritten (marks d) h before ps qs → All FitsRecord qs
  fit-all before [] qs small fits a = subst (λ x. All FitsRecord x) (sym a) (All-nil FitsRecord)
  fit-all before (p ∷ ps) qs small fits a =
      subst (λ x. All FitsRecord x) (sym a.4)
      (All-cons FitsRecord a.0 a.1 (fit-one before p a.0 (All-head HasBytes p ps small) (All-head FitsRecord p ps fits) a.2)
      (fit-all (before ++ p ∷ []) ps a.1 (All-tail HasBytes p ps small) (All-tail FitsRecord p ps fits) a.3))

  -- a record loses its mark in one way
  loses-one : AreOneFrame → (p x y : Packet) → LosesMark d h p x → LosesMark d h p y → x ≡ y
  loses-one frames p x y a b =
      let placed = frames h.link p.bytes (is_whole p) (Ip6 a.at) (Ip6 b.at) a.has.of_flow.packet.framed b.has.of_flow.packet.framed in
      let at : a.at ≡ b.at = cc (placed) in
      let one = laws.one (drop b.at p.bytes) d.kind a.has.mark b.has.mark a.packet b.packet
      (subst (λ k. Stripped (drop k p.bytes) a.has.mark d.kind a.packet) at a.has.stripped) b.has.stripped in
      a.stripped ∙ ap (λ k. with_packet p k a.packet (p.original - 8)) at ∙ ap (λ (l : List ℕ). with_packet p b.at l (p.original - 8)) one.1
      ∙ sym b.stripped

  strips-one : AreOneFrame → (before after : List Packet) (p x y : Packet) → strips d h before p x → strips d h after p y → x ≡ y
  strips-one frames before after p x y a b = elim a [
    | inl l ↦ elim b [ inl m ↦ loses-one frames p x y l m | inr n ↦ absurd (n.0 l.at l.packet l.has) ]
    | inr l ↦ elim b [ inl m ↦ absurd (l.0 m.at m.packet m.has) | inr n ↦ l.1 ∙ sym n.1 ]
  ]

  pub all-one : AreOneFrame → (before after ps xs ys : List Packet)
      → AreRewritten (strips d) h before ps xs → AreRewritten (strips d) h after ps ys → xs ≡ ys
  all-one frames before after [] xs ys a b = a ∙ sym b
  all-one frames before after (p ∷ ps) xs ys a b =
      let head = strips-one frames before after p a.0 b.0 a.2 b.2 in
      let tail = all-one frames (before ++ p ∷ []) (after ++ p ∷ []) ps a.1 b.1 a.3 b.3 in
      a.4 ∙ ap (λ x. x ∷ a.1) head ∙ ap (λ x. b.0 ∷ x) tail ∙ sym b.4

-- a capture that is stripped has no record that is refused
strips-exclude : (d : DomainValue) → StreamExcludes (stripped_records d)
strips-exclude d = record { never = λ h ps p more reason text refused all. refused }

-- the file
module _ (laws : Laws) (packets : PacketLaws) (captures : CaptureLaws) where
  -- whatever the stripped text of a capture is, it is this one
  text-one : (d : DomainValue) (u : Told) (name marked file text : List ℕ) (h : Head) (ps qs : List Packet)
      → HasFile (Some u) name marked → IsCapture marked h qs → AreRewritten (strips d) h [] qs ps → file ≡ capture_bytes h ps
      → IsTextOfAll (Some u) name (stripped_records d) text → text ≡ file
  text-one d u name marked file text h ps qs there capture stripped is all =
      let named = all.whole.1 in
      let bytes : all.whole.0 ≡ marked = cc (named, there) in
      let same = captures.one marked all.head h all.packets qs (subst (λ b. IsCapture b all.head all.packets) bytes all.whole.2.capture) capture in
      let printed : IsRewritten (strips d) h qs text =
      subst (λ k. IsRewritten (strips d) k qs text) same.0 (subst (λ x. IsRewritten (strips d) all.head x text) same.1 all.printed) in
      let records = all-one packets d h laws.frames [] [] qs printed.records ps printed.rewritten stripped in
      printed.written ∙ ap (λ x. capture_bytes h x) records ∙ sym is

  ends-only : (d : DomainValue) (u : Told) (name file text : List ℕ) (ending : Ending)
      → StreamEnds (Some u) name (stripped_records d) Done file → StreamEnds (Some u) name (stripped_records d) ending text → ending ≡ Done
  ends-only d u name file text Done done other = refl
  ends-only d u name file text (Missing m) done other =
      let same = (same-streams u name (stripped_records d) laws.capture (strips-exclude d)).same Done (Missing m) (file, done) (text, other) in
      absurd (omega (arith, same))
  ends-only d u name file text (Refused m reason) done other =
      let same = (same-streams u name (stripped_records d) laws.capture (strips-exclude d)).same Done (Refused m reason) (file, done) (text, other) in
      absurd (omega (arith, same))

  pub undone-file : StripUndoesMark
  undone-file d t u name other file marked small there ends short here =
      let h = ends.head in
      let ps = ends.packets in
      let qs = ends.printed.records in
      let named = ends.whole.1 in
      let same : ends.whole.0 ≡ file = cc (named, there) in
      let capture = subst (λ b. IsCapture b h ps) same ends.whole.2.capture in
      let spelling = captures.spelled file h ps small capture in
      let raw : length h.raw ≡ 24 = ap length capture.head.raw ∙ length-take-le 24 file capture.whole in
      let head = subst (λ (b : List ℕ). IsHead h b) (sym capture.head.raw) capture.head in
      let again = captures.read_back h qs raw head (fit-all packets d h [] ps qs spelling.are_bytes spelling.fit ends.printed.rewritten) in
      let whole : IsCapture marked h qs = subst (λ b. IsCapture b h qs) (sym ends.printed.written) again in
      let stripped = back packets d h [] [] ps qs spelling.are_bytes ends.printed.rewritten in
      let done : StreamEnds (Some u) other (stripped_records d) Done file = record {
        head = h;
        packets = qs;
        whole = (marked, here, record { short = short; capture = whole });
        printed = record { records = ps; rewritten = stripped; written = spelling.spelled };
      } in
      record {
        done = done;
        only = λ ending text e.
            let is = ends-only d u other file text ending done e in (
              is,
              text-one d u other marked file text h ps qs here whole stripped spelling.spelled
                  (subst (λ x. StreamEnds (Some u) other (stripped_records d) x text) is e),
            );
      }

  -- what stands on an output where nothing stood before
  left-text : (old new : Output) (text all : List ℕ) → old.written ≡ Some [] → new.written ≡ Some all → new.written ≡ append_known old.written text → text ≡ all
  left-text old new text all empty left e =
      let one : append_known old.written text ≡ Some text = ap (λ w. append_known w text) empty in
      let two : Some text ≡ Some all = sym one ∙ sym e ∙ left in
      cc (two)

  -- the domain of a run of `mark` that was done, and what was printed of its capture
  pub record Marked (a : DomainFile) (t : Told) (text : List ℕ) : Type 0 where
    pub domain : DomainValue
    pub judged : Judged (Some t) a.domain JudgesDomain (Ok domain)
    pub ends : StreamEnds (Some t) a.file (marked_records domain) Done text

  mark-performed : (a : DomainFile) (t : Told) (text : List ℕ) → LeavesText t (mark_chain a) (Ended Done) text → Marked a t text
  mark-performed a t text r = elim r.performed [
    | inl stopped ↦ absurd stopped.0
    | inr p ↦
        let printed = p.4.1 in
        let is = left-text r.old r.new printed.0 text r.empty r.left printed.2 in
        record {
          domain = p.0;
          judged = p.2;
          ends = subst (λ x. StreamEnds (Some t) a.file (marked_records p.0) Done x) is
              (stream-ends-kept (Some t) p.1.told a.file (marked_records p.0) Done printed.0 p.3.kept printed.1);
        }
  ]

  -- what a run of `strip` that got past its domain printed of its capture
  strip-streamed : (d : DomainValue) (behind after : Inputs) (old new : Output) (name : List ℕ) (ending : Ending)
      → StreamsSo behind after old new name (stripped_records d) (Ended ending)
      → PrintsAll old new (StreamEnds behind.told name (stripped_records d) ending)
  strip-streamed d behind after old new name Done s = s.1
  strip-streamed d behind after old new name (Missing m) s = s.1
  strip-streamed d behind after old new name (Refused m reason) s = s

  -- a domain file that was taken before is taken
  not-stopped : (d : DomainValue) (u : Told) (faults missed : ℕ) (after : Inputs) (name domain : List ℕ) (ending : Ending)
      → HasFile (Some u) name domain → JudgesDomain domain (Ok d)
      → StopsHere (inputs (Some u) faults missed) after name JudgesDomain (Ended ending) → ⊥
  not-stopped d u faults missed after name domain Done there judged stops = stops
  not-stopped d u faults missed after name domain (Missing m) there judged stops = let absent = stops.0.1 in absurd (cc (absent, there))
  not-stopped d u faults missed after name domain (Refused m reason) there judged stops =
      let found = stops.1.1 in
      let bytes : stops.1.0 ≡ domain = cc (found, there) in
      laws.domain.never domain d reason judged (subst (λ x. JudgesDomain x (Err reason)) bytes stops.1.2)

  pub undone-run : RunsUndo
  undone-run a b t u domain file marked text ending small at_domain at_file m short then_domain then_file s =
      let run = mark-performed a t marked m in
      let d = run.domain in
      let named = run.judged.1 in
      let same : run.judged.0 ≡ domain = cc (named, at_domain) in
      let judged = subst (λ x. JudgesDomain x (Ok d)) same run.judged.2 in
      let back = undone-file d t u a.file b.file file marked small at_file run.ends short then_file in
      elim s.performed [
        | inl stopped ↦ absurd (not-stopped d u s.faults s.missed s.after b.domain domain ending then_domain judged stopped.0)
        | inr p ↦
            let found = p.2.1 in
            let bytes : p.2.0 ≡ domain = cc (found, then_domain) in
            let one : p.0 ≡ d = laws.one_domain.same domain p.0 d (subst (λ x. JudgesDomain x (Ok p.0)) bytes p.2.2) judged in
            let printed = strip-streamed p.0 p.1 s.after s.old s.new b.file ending p.4 in
            let is = left-text s.old s.new printed.0 text s.empty s.left printed.2 in
            let ends = stream-ends-kept (Some u) p.1.told b.file (stripped_records p.0) ending printed.0 p.3.kept printed.1 in
            back.only ending text
            (subst (λ x. StreamEnds (Some u) b.file (stripped_records x) ending text) one
            (subst (λ x. StreamEnds (Some u) b.file (stripped_records p.0) ending x) is ends))
      ]
