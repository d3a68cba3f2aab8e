-- The records of a node's capture are a capture, and record what passes the node.
use Rattle.std.proofs.Common.{◌≡◌, ◌∙◌, ℕ, ◌+◌, ◌*◌, ◌^◌, ◌<◌, ◌≤◌, Bool, true, false, cond, eqb, ◌&&◌, nat_le, nat_lt, List, [], ◌∷◌, ◌++◌, length, map, Option, Some, None, refl, sym, ap, subst, arith, inl, inr, length-append}
use Rattle.std.specs.Prelude.{All, IfSome, count_by, flat_map, sum_by, slice_index_or}
use Rattle.std.proofs.lemmas.Bool.{eqb-true}
use Rattle.std.proofs.lemmas.Bool.Decides.{nat_tests}
use Rattle.std.proofs.lemmas.List.{map-append}
use Rattle.std.proofs.lemmas.List.Elements.{All-nil, All-cons, All-head, All-tail, All-append}
use Rattle.std.proofs.lemmas.List.Sums.{sum_by-cons, sum_by-append}
use Rattle.am_domain.specs.Values.{FlowValue}
use Rattle.am_domain.specs.Domains.{DomainValue, IsLawful}
use Rattle.am_pcap.specs.Packets.{Packet, reading_of, word}
use Rattle.am_pcap.specs.Captures.{IsCapture}
use Rattle.am_pcap.specs.CaptureFiles.{is_whole}
use Rattle.am_pcap.specs.Heads.{IsHead, half_word}
use Rattle.am_pcap.specs.Spelling.{FitsRecord, capture_bytes, record_bytes}
use Rattle.am_pcap.specs.declared.frame.Frame.TheVariants.{Ip6}
use Rattle.am_pcap.specs.declared.frame.LinkKind.TheVariants.{RawIp}
use Rattle.am_pcap.specs.declared.head.Head.{Head}
use Rattle.am_ip6.specs.Marks.Seen.{Marks}
use Rattle.am_meter.specs.Marks.{AreMarked, IsSeenIn}
use Rattle.am_meter.specs.declared.stream.Marked.{Marked}
use Rattle.am_world.specs.declared.capture.Sent.{Sent}
use Rattle.am_world.specs.declared.event.Event.{Event}
use Rattle.am_world.specs.Events.{event_packet, event_reading, events_of}
use Rattle.am_world.specs.Worlds.{AreJourneys}
use Rattle.am_world.specs.Passes.{passes, is_bit, is_marked_so, passes_so, IsInSpan, Records}
use Rattle.am_world.specs.Captures.{flow_at, node_at, sending_of, option_bytes, packet_bytes, packet_at, is_captured, records_at, captured, node_records, node_head, node_capture, IsRecordOf, IsSized}
use Rattle.am_world.proofs.SendingLemmas.{IsOf, sending-of, sent_so, sent-test, flow-test}
use Rattle.am_world.proofs.ShownLemmas.{carries-shows, packet-carries}

-- a pass that is recorded: its reading, and how the packet was sent
pub record Passing : Type 0 where
  pub reading : ℕ
  pub sent : Sent

-- the record of a pass
abbrev pub record_of : DomainValue → Passing → Packet
record_of d x = packet_at d x.reading x.sent

-- the passes that are recorded of an event
abbrev pub passing_at : ℕ → Option Sent → List Passing
passing_at reading None = []
passing_at reading (Some s) = record { reading = reading; sent = s } ∷ []

abbrev pub passing : DomainValue → ℕ → Option Sent → Event → List Passing
passing d node sent e = cond (is_captured d node e) (passing_at (event_reading e) sent) []

captured-is : (d : DomainValue) (node : ℕ) (sent : Option Sent) (e : Event)
    → captured d node sent e ≡ map (record_of d) (passing d node sent e)
captured-is d node sent e = by (is_captured d node e) sent
  where
    by : (here : Bool) (sent : Option Sent)
        → cond here (records_at d (event_reading e) sent) [] ≡ map (record_of d) (cond here (passing_at (event_reading e) sent) [])
    by true None = refl
    by true (Some s) = refl
    by false sent = refl

-- those of all events, whose packets are sent as these events say
module _ (d : DomainValue) (events : List Event) (node : ℕ) where
  abbrev pub passings : List Event → List Passing
  passings es = flat_map (λ e. passing d node (sending_of d events e) e) es

  pub records-are : (es : List Event)
      → flat_map (λ e. captured d node (sending_of d events e) e) es ≡ map (record_of d) (passings es)
  records-are [] = refl
  records-are (e ∷ es) =
      let first = captured-is d node (sending_of d events e) e in
      let rest = records-are es in
      let apart = map-append (record_of d) (passing d node (sending_of d events e) e) (passings es) in
      rw (first, rest) (sym apart)

  -- each of a packet that was sent
  pub passings-of : AreJourneys d events → (es : List Event) → All (λ x. IsOf d x.sent) (passings es)
  passings-of journeys [] = All-nil (λ (x : Passing). IsOf d x.sent)
  passings-of journeys (e ∷ es) =
      All-append (λ (x : Passing). IsOf d x.sent) (passing d node (sending_of d events e) e) (passings es)
      (one (is_captured d node e) (sending_of d events e) (sending-of d (events_of events (event_packet e)) (journeys (event_packet e))))
      (passings-of journeys es)
    where
      one : (here : Bool) (sent : Option Sent) → IfSome sent (IsOf d)
          → All (λ (x : Passing). IsOf d x.sent) (cond here (passing_at (event_reading e) sent) [])
      one true None is = All-nil (λ (x : Passing). IsOf d x.sent)
      one true (Some s) is =
          All-cons (λ (x : Passing). IsOf d x.sent) (record { reading = event_reading e; sent = s }) [] is
          (All-nil (λ (x : Passing). IsOf d x.sent))
      one false sent is = All-nil (λ (x : Passing). IsOf d x.sent)

-- the marked records of passes, numbered from here
abbrev pub marked_from : ℕ → List Passing → List Marked
marked_from number [] = []
marked_from number (x ∷ xs) = record { number = number; reading = x.reading; mark = x.sent.mark } ∷ marked_from (number + 1) xs

-- a pass has this reading and this mark
abbrev pub is_pass_so : ℕ → ℕ → Bool → Bool → Passing → Bool
is_pass_so reading id colour delayed x =
    eqb x.reading reading
    && ((eqb x.sent.mark.flow id && is_bit x.sent.mark.loss colour) && is_bit x.sent.mark.delay delayed)

marks-count : (reading id : ℕ) (colour delayed : Bool) (number : ℕ) (xs : List Passing)
    → count_by (is_marked_so reading id colour delayed) (marked_from number xs)
    ≡ count_by (is_pass_so reading id colour delayed) xs
marks-count reading id colour delayed number [] = refl
marks-count reading id colour delayed number (x ∷ xs) =
    let m : Marked = record { number = number; reading = x.reading; mark = x.sent.mark } in
    let left = sum_by-cons (λ k. cond (is_marked_so reading id colour delayed k) 1 0) m (marked_from (number + 1) xs) in
    let right = sum_by-cons (λ y. cond (is_pass_so reading id colour delayed y) 1 0) x xs in
    let rest = marks-count reading id colour delayed (number + 1) xs in
    left ∙ ap (λ n. cond (is_pass_so reading id colour delayed x) 1 0 + n) rest ∙ sym right

-- a record of 48 bytes that carries a mark shows it
sized-lengths : (d : DomainValue) (s : Sent) → length (packet_bytes d s) ≡ 48
    → length (flow_at d s.flow).source.bytes + length (flow_at d s.flow).destination.bytes ≡ 32
sized-lengths d s long =
    let source = (flow_at d s.flow).source.bytes in
    let destination = (flow_at d s.flow).destination.bytes in
    let all = length-append (source ++ destination) (59 ∷ 0 ∷ option_bytes s.mark) in
    let both = length-append source destination in
    omega (arith, long, all, both)

seen-so : (d : DomainValue) (x : Passing) → IsLawful d → IsOf d x.sent → IsSized (record_of d x)
    → IsSeenIn d.kind RawIp (record_of d x) (Marks x.sent.mark 42)
seen-so d x lawful is sized =
    let s = x.sent in
    let id : (flow_at d s.flow).id ≤ 1048575 = lawful.flow_ids s.flow _ is.within in
    let fits : s.mark.flow < 2 ^ 20 = omega (arith, is.named, id) in
    let carries = packet-carries d.kind (flow_at d s.flow).source.bytes (flow_at d s.flow).destination.bytes s.mark fits
    (sized-lengths d s sized.bytes) in
    record {
      frame = Ip6 0;
      framed = inr (inl (omega (arith, sized.bytes), refl, refl));
      shows = carries-shows d.kind (packet_bytes d s) s.mark carries (is_whole (record_of d x));
    }

pub are-marked : (d : DomainValue) → IsLawful d → (number : ℕ) (xs : List Passing) → All (λ x. IsOf d x.sent) xs
    → All (λ x. IsSized (record_of d x)) xs → AreMarked d.kind node_head number (map (record_of d) xs) (marked_from number xs)
are-marked d lawful number [] is sized = refl
are-marked d lawful number (x ∷ xs) is sized =
    let P = λ (y : Passing). IsOf d y.sent in
    let Q = λ (y : Passing). IsSized (record_of d y) in
    let seen = seen-so d x lawful (All-head P x xs is) (All-head Q x xs sized) in
    let rest = are-marked d lawful (number + 1) xs (All-tail P x xs is) (All-tail Q x xs sized) in
    let reading : reading_of true (record_of d x) ≡ x.reading = omega arith in (
      Marks x.sent.mark 42,
      marked_from (number + 1) xs,
      seen,
      λ e. cc,
      rest,
      ap (λ r. record { number = number; reading = r; mark = x.sent.mark } ∷ marked_from (number + 1) xs) (sym reading),
    )

-- of one pass, where it is recorded
count-one : {X : Type 0} (test : X → Bool) (x : X) (pass inside at like : Bool) → test x ≡ (at && like)
    → (at ≡ true → inside ≡ true)
    → count_by test (cond (pass && inside) (x ∷ []) []) ≡ cond (at && (pass && like)) 1 0
count-one test x true true at like is span =
    sum_by-cons (λ y. cond (test y) 1 0) x [] ∙ rw is (omega arith)
count-one test x true false true like is span = absurd (cc (span refl))
count-one test x true false false like is span = refl
count-one test x false inside true like is span = refl
count-one test x false inside false like is span = refl

none-counted : {X : Type 0} (test : X → Bool) (here pass at : Bool)
    → count_by test (cond here [] []) ≡ cond (at && (pass && false)) 1 0
none-counted test true true true = refl
none-counted test true true false = refl
none-counted test true false true = refl
none-counted test true false false = refl
none-counted test false true true = refl
none-counted test false true false = refl
none-counted test false false true = refl
none-counted test false false false = refl

-- what is counted at a reading of the span
module _ (d : DomainValue) (lawful : IsLawful d) (events : List Event) (journeys : AreJourneys d events) (node : ℕ)
    (reading flow : ℕ) (colour delayed : Bool) (f : FlowValue) (span : IsInSpan d node reading)
    (below : flow < length d.flows) where
  abbrev id : ℕ
  id = (slice_index_or d.flows flow f).id

  -- the span holds it
  in-span : (r : ℕ) → eqb r reading ≡ true
      → (nat_le (node_at d node).from r && nat_lt r (node_at d node).until) ≡ true
  in-span r at =
      let is : r ≡ reading = eqb-true r reading at in
      let from = span.from (record { name = []; capture = []; from = 0; until = 0 }) in
      let until = span.until (record { name = []; capture = []; from = 0; until = 0 }) in
      grind (arith, nat_tests)

  -- of an event, by how the packet was sent
  event-counted : (e : Event) (sent : Option Sent) → IfSome sent (IsOf d)
      → count_by (is_pass_so reading id colour delayed) (passing d node sent e)
      ≡ cond (eqb (event_reading e) reading && (passes d.links (λ n. eqb n node) e && sent_so flow colour delayed sent)) 1 0
  event-counted e None is =
      none-counted (is_pass_so reading id colour delayed) (is_captured d node e) (passes d.links (λ n. eqb n node) e)
      (eqb (event_reading e) reading)
  event-counted e (Some s) is =
      let like = sent_so flow colour delayed (Some s) in
      let x : Passing = record { reading = event_reading e; sent = s } in
      let same : is_pass_so reading id colour delayed x ≡ (eqb (event_reading e) reading && like)
      = ap (λ b. eqb (event_reading e) reading && ((b && is_bit s.mark.loss colour) && is_bit s.mark.delay delayed))
      (flow-test d lawful s is flow f below) in
      count-one (is_pass_so reading id colour delayed) x (passes d.links (λ n. eqb n node) e)
      (nat_le (node_at d node).from (event_reading e) && nat_lt (event_reading e) (node_at d node).until)
      (eqb (event_reading e) reading) like same (in-span (event_reading e))

  -- of an event, as the world says it
  event-passes : (e : Event)
      → count_by (is_pass_so reading id colour delayed) (passing d node (sending_of d events e) e)
      ≡ cond (passes_so d events node reading flow colour delayed e) 1 0
  event-passes e =
      let journey = journeys (event_packet e) in
      event-counted e (sending_of d events e) (sending-of d (events_of events (event_packet e)) journey)
      ∙ ap (λ b. cond (eqb (event_reading e) reading && (passes d.links (λ n. eqb n node) e && b)) 1 0)
      (sym (sent-test d (events_of events (event_packet e)) journey flow colour delayed))

  -- of all events
  all-counted : (es : List Event)
      → count_by (is_pass_so reading id colour delayed) (passings d events node es)
      ≡ count_by (passes_so d events node reading flow colour delayed) es
  all-counted [] = refl
  all-counted (e ∷ es) =
      let test = is_pass_so reading id colour delayed in
      let first = passing d node (sending_of d events e) e in
      let left = sum_by-append (λ y. cond (test y) 1 0) first (passings d events node es) in
      let right = sum_by-cons (λ y. cond (passes_so d events node reading flow colour delayed y) 1 0) e es in
      let one : sum_by (λ y. cond (test y) 1 0) first ≡ cond (passes_so d events node reading flow colour delayed e) 1 0 = event-passes e in
      let rest : sum_by (λ y. cond (test y) 1 0) (passings d events node es) ≡ sum_by (λ y. cond (passes_so d events node reading flow colour delayed y) 1 0) es = all-counted es in
      left ∙ rw (one, rest) (sym right)

-- the marked records of the passes record the world
pub passings-record : (d : DomainValue) → IsLawful d → (events : List Event) → AreJourneys d events → (node : ℕ)
    → Records d events node (marked_from 1 (passings d events node events))
passings-record d lawful events journeys node reading flow colour delayed f span below =
    marks-count reading (slice_index_or d.flows flow f).id colour delayed 1 (passings d events node events)
    ∙ all-counted d lawful events journeys node reading flow colour delayed f span below events

-- what holds of all mapped holds of all by the map
all-mapped : {X Y : Type 0} (P : Y → Type 0) (g : X → Y) (xs : List X) → All P (map g xs) → All (λ x. P (g x)) xs
all-mapped P g [] all = All-nil (λ x. P (g x))
all-mapped P g (x ∷ xs) all =
    All-cons (λ y. P (g y)) x xs (All-head P (g x) (map g xs) all) (all-mapped P g xs (All-tail P (g x) (map g xs) all))

-- records of 48 bytes can stand in a capture
fits-sized : (d : DomainValue) (xs : List Passing) → All (λ x. IsSized (record_of d x)) xs
    → All FitsRecord (map (record_of d) xs)
fits-sized d [] sized = All-nil FitsRecord
fits-sized d (x ∷ xs) sized =
    let P = λ (y : Passing). IsSized (record_of d y) in
    let own : IsSized (record_of d x) = All-head P x xs sized in
    let fits : FitsRecord (record_of d x) = record {
      seconds = own.seconds;
      fraction = omega arith;
      original = omega arith;
      captured = omega (arith, own.bytes);
    } in
    All-cons FitsRecord (record_of d x) (map (record_of d) xs) fits (fits-sized d xs (All-tail P x xs sized))

-- the file header is one
pub head-is : IsHead node_head node_head.raw
unfolding half_word word
head-is = record { magic = refl; version = (refl, refl); link = refl; raw = refl }

-- the capture is one, and records the world
pub capture-records : (d : DomainValue) → IsLawful d → (events : List Event) → AreJourneys d events → (node : ℕ)
    → All IsSized (node_records d events node)
    → ((h : Head) (ps : List Packet) → length h.raw ≡ 24 → IsHead h h.raw → All FitsRecord ps → IsCapture (capture_bytes h ps) h ps)
    → IsRecordOf d events node (node_capture d events node)
capture-records d lawful events journeys node sized spelled =
    let xs = passings d events node events in
    let are : node_records d events node ≡ map (record_of d) xs = records-are d events node events in
    let each : All (λ x. IsSized (record_of d x)) xs = all-mapped IsSized (record_of d) xs (subst (All IsSized) are sized) in
    record {
      head = node_head;
      packets = node_records d events node;
      capture = spelled node_head (node_records d events node) refl head-is
          (subst (All FitsRecord) (sym are) (fits-sized d xs each));
      marked = marked_from 1 xs;
      uncut = subst (λ ps. AreMarked d.kind node_head 1 ps (marked_from 1 xs)) (sym are)
          (are-marked d lawful 1 xs (passings-of d events node journeys events) each);
      records = passings-record d lawful events journeys node;
    }

-- it has at most 64 bytes for each event
few-captured : (d : DomainValue) (node : ℕ) (sent : Option Sent) (e : Event) → length (captured d node sent e) ≤ 1
few-captured d node sent e = few (is_captured d node e) sent
  where
    few : (here : Bool) (sent : Option Sent)
        → length (cond here (records_at d (event_reading e) sent) []) ≤ 1
    few true None = omega arith
    few true (Some s) = omega arith
    few false sent = omega arith

few-records : (d : DomainValue) (events : List Event) (node : ℕ) (es : List Event)
    → length (flat_map (λ e. captured d node (sending_of d events e) e) es) ≤ length es
few-records d events node [] = omega arith
few-records d events node (e ∷ es) =
    let first = captured d node (sending_of d events e) e in
    let apart = length-append first (flat_map (λ x. captured d node (sending_of d events x) x) es) in
    omega (arith, apart, few-captured d node (sending_of d events e) e, few-records d events node es)

record-length : (p : Packet) → IsSized p → length (record_bytes false p) ≡ 64
record-length p sized = omega (arith, sized.bytes)

records-length : (ps : List Packet) → All IsSized ps → length (flat_map (λ p. record_bytes false p) ps) ≡ 64 * length ps
records-length [] sized = omega arith
records-length (p ∷ ps) sized =
    let apart = length-append (record_bytes false p) (flat_map (λ q. record_bytes false q) ps) in
    let first = record-length p (All-head IsSized p ps sized) in
    let rest = records-length ps (All-tail IsSized p ps sized) in
    omega (arith, apart, first, rest)

pub capture-length : (d : DomainValue) (events : List Event) (node : ℕ) → All IsSized (node_records d events node)
    → length (node_capture d events node) ≤ 24 + 64 * length events
capture-length d events node sized =
    let few = few-records d events node events in
    let long = records-length (node_records d events node) sized in
    omega (arith, few, long)
