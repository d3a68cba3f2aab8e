-- A batch that is filled from a capture, and the cells of a node over its capture's file.
use Rattle.std.proofs.Common.{arith, refl, sym, ap, subst, ◌∙◌, ◌≡◌, inl, inr, ℕ, suc, ◌+◌, ◌<◌, ◌≤◌, ◌^◌, ◌↔◌, Bool, true, false, List, [], ◌∷◌, ◌++◌, length, drop, Option, Some, Result, Ok, Err, IfOk, IfErr, IsTrue, slice_index_or, append_assoc, append-nil}
use Rattle.std.specs.Bool.{OnTrue}
use Rattle.std.proofs.lemmas.List.{length-append, length-take, length-drop, drop-append-le, get_or_default}
use Rattle.am_base.specs.Shelves.{Told}
use Rattle.am_base.specs.Files.{OnFile, KeepsFiles}
use Rattle.am_ip6.specs.declared.marks.Place.{Place}
use Rattle.am_pcap.specs.Packets.{Packet, word, IsWhole, HoldsPackets, first_packet, behind_first, reading_of}
use Rattle.am_pcap.specs.Captures.{HasRecords, IsSplit}
use Rattle.am_pcap.specs.Readings.{Reading}
use Rattle.am_pcap.specs.CaptureFiles.{ReadsOn, BeginsWith, IsWholeCapture, IsRefusedBehind, IsLong, WhyStopped, WhyNotOpened, is_whole}
use Rattle.am_pcap.specs.Answers.{GivesRecord, EndsReading, StopsReading}
use Rattle.am_pcap.specs.Shown.{packet_shown}
use Rattle.am_pcap.specs.declared.head.Head.{Head}
use Rattle.am_pcap.specs.declared.record.Record.{Record}
use Rattle.am_pcap.specs.declared.capture.FileError.{FileError}
use Rattle.am_pcap.specs.declared.capture.FileError.TheVariants.{Missing, ReadFault, TooLong, Bad, Memory}
use Rattle.am_cells.specs.CellTables.{CellTable, total_of}
use Rattle.am_domain.specs.Values.{NodeValue, no_node}
use Rattle.am_domain.specs.Domains.{DomainValue}
use Rattle.am_meter.specs.declared.stream.Marked.{Marked}
use Rattle.am_meter.specs.declared.stream.MeterError.TheVariants.{File}
use Rattle.am_meter.specs.declared.metering.TheConstants.{ENOUGH_RECORDS, ENOUGH_BYTES}
use Rattle.am_meter.specs.Marks.{AreMarked, JudgesMarks}
use Rattle.am_meter.specs.Marks.MarksRefusal.{Long, BadCapture, HeadersCut as CutAt}
use Rattle.am_meter.specs.Metering.{AreMetered, CountsMore}
use Rattle.am_meter.specs.Batches.{BatchRecord, batch_record, bytes_in, HasRoomFor, HaveMarks, CutsFirst}
use Rattle.am_meter.specs.Filling.{record_of, records_of, Loads, HasNext, Fills, FillsToEnd, FillsSo, FillsUntil}
use Rattle.am_meter.specs.MeteredFiles.{capture_of, AreCellsOf, RefusesCapture, WhyNoCells, MetersOn}
use Rattle.am_meter.proofs.Onward.{file-more, file-both}
use Rattle.am_meter.proofs.Packed.{marks-of-packets, AreMarked-append, CutsPacket, cuts-packet}

-- the last of whole records has no more bytes than a record may have
last-short :
    (big : Bool) (bytes : List ℕ) (ps : List Packet) (p : Packet) (rest : List ℕ)
    → HoldsPackets big bytes (ps ++ p ∷ []) rest
    → length p.bytes ≤ 262144
last-short big bytes [] p rest h =
    omega (arith, ap (λ (q : Packet). length q.bytes) h.1, length-take (word big bytes 8) (drop 16 bytes), h.0.not_long)
last-short big bytes (q ∷ qs) p rest h = last-short big (behind_first big bytes) qs p rest h.2

given-short :
    (first now : Option Told) (name : List ℕ) (c : Reading) (h : Head) (ps : List Packet) (p : Packet)
    → ReadsOn first now name c h (ps ++ p ∷ [])
    → length p.bytes ≤ 262144
given-short first now name c h ps p on =
    let s = on.given.summary in
    let records : HasRecords on.given.taken (ps ++ p ∷ []) c.decoded.summary.unfinished h c.decoded.summary.error =
    subst (λ o. IsSplit o c.decoded.summary.error on.given.taken (ps ++ p ∷ []) c.decoded.summary.unfinished) on.head s.split in
    last-short h.form.big (drop 24 on.given.taken) ps p c.decoded.summary.unfinished records.records

-- what a batch has after a push for which there was room
pushed-there :
    (room : Type 0) (b : Bool) (now then_ : List BatchRecord)
    → (IsTrue b ↔ room) → room → OnTrue b (now ≡ then_) → now ≡ then_
pushed-there room true now then_ iff there on = on
pushed-there room false now then_ iff there on = let e : false ≡ true = iff.1 there in cc

-- the next record was put into a batch
pub loads :
    (old new : Reading) (before after : Option Told) (r : Record) (k : Head) (batch now : List BatchRecord) (b : Bool) (reading : ℕ) (whole : Bool)
    → old.decoded.summary.head ≡ Some k
    → GivesRecord old new before after r
    → r.number ≡ old.decoded.summary.count + 1
    → r.number ≤ 2 ^ 36
    → length batch < ENOUGH_RECORDS
    → bytes_in batch < ENOUGH_BYTES
    → (IsTrue b ↔ HasRoomFor batch (length r.bytes.now))
    → OnTrue b (now ≡ batch ++ batch_record k.link r.number reading whole r.bytes.now ∷ [])
    → reading ≡ reading_of k.form.nano (packet_shown r)
    → whole ≡ is_whole (packet_shown r)
    → Loads old new before after batch now
loads old new before after r k batch now b reading whole head g number few some short room pushed same_reading same_whole = record {
  goes_on = g.goes_on;
  head = g.head;
  next = g.count;
  few = omega (arith, g.count, number, few);
  loads = λ first name h ps on.
      let reads : ReadsOn first after name new h (ps ++ packet_shown r ∷ []) = g.reads first name h ps on in
      let size = given-short first after name new h ps (packet_shown r) reads in
      let there : HasRoomFor batch (length r.bytes.now) = record { few = omega (arith, some); short = omega (arith, short, size) } in
      let has = pushed-there (HasRoomFor batch (length r.bytes.now)) b now
      (batch ++ batch_record k.link r.number reading whole r.bytes.now ∷ [])
      room there pushed in
      let same_head : k ≡ h = cc (head, on.head) in
      let same_number : r.number ≡ length ps + 1 = omega (arith, number, on.counted) in (
        packet_shown r,
        reads,
        has
            ∙ ap (λ n. batch ++ batch_record k.link r.number n whole r.bytes.now ∷ []) same_reading
            ∙ ap (λ w. batch ++ batch_record k.link r.number (reading_of k.form.nano (packet_shown r)) w r.bytes.now ∷ []) same_whole
            ∙ ap (λ (x : Head). batch ++ record_of x r.number (packet_shown r) ∷ []) same_head
            ∙ ap (λ n. batch ++ record_of h n (packet_shown r) ∷ []) same_number,
      );
}

-- a batch that is empty is filled with no packets
pub fills-nothing :
    (c : Reading) (told : Option Told) (batch : List BatchRecord)
    → c.over ≡ false → c.decoded.summary.count ≤ 2 ^ 36 → batch ≡ []
    → Fills c c told told batch
fills-nothing c told batch on few none = record {
  goes_on = on;
  passes = omega arith;
  few = few;
  fills = λ first name h ps reads. ([], subst (λ x. ReadsOn first told name c h x) (sym (append-nil ps)) reads, none);
}

records_of-more :
    (h : Head) (number last : ℕ) (ps : List Packet) (p : Packet)
    → last ≡ number + length ps
    → records_of h number ps ++ record_of h last p ∷ [] ≡ records_of h number (ps ++ p ∷ [])
records_of-more h number last [] p at =
    let same : last ≡ number = omega (arith, at) in ap (λ n. record_of h n p ∷ []) same
records_of-more h number last (q ∷ qs) p at = ap (λ x. record_of h number q ∷ x) (records_of-more h (number + 1) last qs p (omega (arith, at)))

-- and with one packet more
pub fills-more :
    (old c new : Reading) (before mid after : Option Told) (batch now : List BatchRecord)
    → Fills old c before mid batch
    → Loads c new mid after batch now
    → Fills old new before after now
fills-more old c new before mid after batch now f l = record {
  goes_on = l.goes_on;
  passes = omega (arith, f.passes, l.next);
  few = l.few;
  fills = λ first name h ps on.
      let a = f.fills first name h ps on in
      let b = l.loads first name h (ps ++ a.0) a.1 in
      let at : length (ps ++ a.0) + 1 ≡ length ps + 1 + length a.0 = omega (arith, length-append ps a.0) in (
        a.0 ++ b.0 ∷ [],
        subst (λ x. ReadsOn first after name new h x) (append_assoc ps a.0 (b.0 ∷ [])) b.1,
        b.2 ∙ ap (λ x. x ++ record_of h (length (ps ++ a.0) + 1) b.0 ∷ []) a.2
            ∙ records_of-more h (length ps + 1) (length (ps ++ a.0) + 1) a.0 b.0 at,
      );
}

next-of :
    (first mid after : Option Told) (name : List ℕ) (c : Reading) (h : Head) (ps more : List Packet) (batch : List BatchRecord)
    → ReadsOn first mid name c h (ps ++ more)
    → batch ≡ records_of h (length ps + 1) more
    → KeepsFiles first after
    → HasNext first after name h ps more batch
next-of first mid after name c h ps more batch on is kept = record { records = is; begins = on.begins; kept = kept }

-- the capture ended
pub fills-to-end :
    (old c : Reading) (before mid after : Option Told) (batch now : List BatchRecord)
    → Fills old c before mid batch
    → EndsReading c mid after
    → now ≡ batch
    → FillsToEnd old before after now
fills-to-end old c before mid after batch now f ends same first name h ps on =
    let a = f.fills first name h ps on in
    let e = ends first name h (ps ++ a.0) a.1 in
    (a.0, next-of first mid after name c h ps a.0 now a.1 (same ∙ a.2) e.2, e.0, e.1)

-- the capture gave no more
pub fills-until :
    (old c : Reading) (before mid after : Option Told) (batch now : List BatchRecord) (e : FileError)
    → Fills old c before mid batch
    → StopsReading c mid after e
    → now ≡ batch
    → FillsUntil old before after now e
fills-until old c before mid after batch now e f stops same first name h ps on =
    let a = f.fills first name h ps on in
    let s = stops first name h (ps ++ a.0) a.1 in
    (a.0, next-of first mid after name c h ps a.0 now a.1 (same ∙ a.2) s.1, s.0)

-- whatever filling came to, the batch has the next packets
filled-so :
    (old new : Reading) (before after : Option Told) (batch : List BatchRecord) (more : Bool)
    → FillsSo old new before after batch more
    → (first : Option Told) (name : List ℕ) (h : Head) (ps : List Packet)
    → ReadsOn first before name old h ps
    → (qs : List Packet) × HasNext first after name h ps qs batch
filled-so old new before after batch true f first name h ps on =
    let a = f.0.fills first name h ps on in
    (a.0, next-of first after after name new h ps a.0 batch a.1 a.2 a.1.kept)
filled-so old new before after batch false f first name h ps on = let a = f first name h ps on in (a.0, a.1)

pub filled :
    (old new : Reading) (before after : Option Told) (batch : List BatchRecord) (r : Result Bool FileError)
    → IfOk r (λ more. FillsSo old new before after batch more)
    → IfErr r (λ e. FillsUntil old before after batch e)
    → (first : Option Told) (name : List ℕ) (h : Head) (ps : List Packet)
    → ReadsOn first before name old h ps
    → (qs : List Packet) × HasNext first after name h ps qs batch
filled old new before after batch (Ok more) f u first name h ps on = filled-so old new before after batch more f first name h ps on
filled old new before after batch (Err e) f u first name h ps on = let a = u first name h ps on in (a.0, a.1)

-- where the bytes of a front are whole records, and more bytes behind them leave the same ones, so are those of its first records
record HoldsBoth (big : Bool) (front more : List ℕ) (ps : List Packet) : Type 0 where
  mid : List ℕ
  of_front : HoldsPackets big front ps mid
  of_all : HoldsPackets big (front ++ more) ps (mid ++ more)

one-length :
    (big : Bool) (bytes : List ℕ) (p : Packet)
    → IsWhole big bytes → p ≡ first_packet big bytes
    → word big bytes 8 ≡ length p.bytes
one-length big bytes p whole is =
    omega (arith, whole.body, ap (λ (q : Packet). length q.bytes) is, length-take (word big bytes 8) (drop 16 bytes), length-drop 16 bytes)

behind-more :
    (big : Bool) (front more : List ℕ) (p : Packet)
    → IsWhole big front → p ≡ first_packet big front
    → IsWhole big (front ++ more) → p ≡ first_packet big (front ++ more)
    → behind_first big (front ++ more) ≡ behind_first big front ++ more
behind-more big front more p whole is all also =
    let same : word big (front ++ more) 8 ≡ word big front 8 =
    one-length big (front ++ more) p all also ∙ sym (one-length big front p whole is) in
    ap (λ n. drop (16 + n) (front ++ more)) same
    ∙ drop-append-le (16 + word big front 8) front more whole.body

holds-both :
    (big : Bool) (front more rest : List ℕ) (ps qs : List Packet)
    → HoldsPackets big front (ps ++ qs) rest
    → HoldsPackets big (front ++ more) (ps ++ qs) (rest ++ more)
    → HoldsBoth big front more ps
holds-both big front more rest [] qs a b = record { mid = front; of_front = refl; of_all = refl }
holds-both big front more rest (p ∷ ps) qs a b =
    let behind : behind_first big (front ++ more) ≡ behind_first big front ++ more = behind-more big front more p a.0 a.1 b.0 b.1 in
    let r = holds-both big (behind_first big front) more rest ps qs a.2
    (subst (λ x. HoldsPackets big x (ps ++ qs) (rest ++ more)) behind b.2) in
    record {
      mid = r.mid;
      of_front = (a.0, a.1, r.of_front);
      of_all = (b.0, b.1, subst (λ x. HoldsPackets big x ps (r.mid ++ more)) (sym behind) r.of_all);
    }

-- bytes that begin with records begin with the first of them
begins-front :
    (bytes : List ℕ) (h : Head) (ps qs : List Packet)
    → BeginsWith bytes h (ps ++ qs)
    → BeginsWith bytes h ps
begins-front bytes h ps qs b =
    let split : drop 24 bytes ≡ drop 24 b.front ++ b.rest =
    ap (λ x. drop 24 x) b.split ∙ drop-append-le 24 b.front b.rest b.begins.whole in
    let r = holds-both h.form.big (drop 24 b.front) b.rest b.behind ps qs b.begins.records
    (subst (λ x. HoldsPackets h.form.big x (ps ++ qs) (b.behind ++ b.rest)) split b.all.records) in
    record {
      front = b.front;
      rest = b.rest;
      behind = r.mid;
      split = b.split;
      short = b.short;
      begins = record { whole = b.begins.whole; head = b.begins.head; records = r.of_front };
      all = record {
        whole = b.all.whole;
        head = b.all.head;
        records = subst (λ x. HoldsPackets h.form.big x ps (r.mid ++ b.rest)) (sym split) r.of_all;
      };
    }

-- the marked records of what was counted before, and of a batch
marks-all :
    (place : Place) (h : Head) (ps more : List Packet) (batch : List BatchRecord) (ms ns : List Marked)
    → AreMarked place h 1 ps ms
    → batch ≡ records_of h (length ps + 1) more
    → HaveMarks place batch ns
    → AreMarked place h 1 (ps ++ more) (ms ++ ns)
marks-all place h ps more batch ms ns a is b =
    AreMarked-append place h 1 (length ps + 1) ps more ms ns (omega arith) a
    (marks-of-packets place h (length ps + 1) more ns (subst (λ x. HaveMarks place x ns) is b))

-- the packets of a batch, as those before the cut one, it, and those behind it
parts :
    (ps more before : List Packet) (packet : Packet) (behind : List Packet)
    → more ≡ before ++ packet ∷ behind
    → ps ++ more ≡ ((ps ++ before) ++ packet ∷ []) ++ behind
parts ps more before packet behind e =
    ap (λ x. ps ++ x) e
    ∙ sym (append_assoc ps before (packet ∷ behind))
    ∙ sym (append_assoc (ps ++ before) (packet ∷ []) behind)

length-records_of : (h : Head) (number : ℕ) (ps : List Packet) → length (records_of h number ps) ≡ length ps
length-records_of h number [] = refl
length-records_of h number (p ∷ ps) = ap (λ n. suc n) (length-records_of h (number + 1) ps)

-- the headers of a record of the batch are cut
cuts-headers :
    (place : Place) (h : Head) (ps more : List Packet) (ms : List Marked) (number : ℕ) (ns : List Marked) (bytes : List ℕ)
    → AreMarked place h 1 ps ms
    → CutsPacket place h (length ps + 1) more number ns
    → BeginsWith bytes h (ps ++ more)
    → JudgesMarks place bytes (Err (CutAt number))
cuts-headers place h ps more ms number ns bytes a c begins = (
  ms ++ ns,
  record {
    head = h;
    before = ps ++ c.before;
    packet = c.packet;
    begins = begins-front bytes h ((ps ++ c.before) ++ c.packet ∷ []) c.behind (subst (λ x. BeginsWith bytes h x) (parts ps more c.before c.packet c.behind c.split) begins);
    marked = AreMarked-append place h 1 (length ps + 1) ps c.before ms ns (omega arith) a c.marked;
    cut = c.shows;
    counted = omega (arith, c.numbered, length-append ps c.before);
  },
)

pub meters-cut :
    (d : DomainValue) (node : ℕ) (first now after : Option Told) (name : List ℕ) (c : Reading) (t : CellTable) (batch : List BatchRecord) (number : ℕ) (ns : List Marked)
    → name ≡ capture_of d node
    → (on : MetersOn d node first now name c t)
    → ((qs : List Packet) × HasNext first after name on.head on.packets qs batch)
    → CutsFirst d.kind batch number ns
    → RefusesCapture d node first (CutAt number)
meters-cut d node first now after name c t batch number ns named on (qs, next) cut =
    let packet = cuts-packet d.kind on.head (length on.packets + 1) qs batch number ns next.records cut in
    subst (λ x. OnFile first x (λ bytes. JudgesMarks d.kind bytes (Err (CutAt number)))) named
    (file-more first name (λ bytes. BeginsWith bytes on.head (on.packets ++ qs)) (λ bytes. JudgesMarks d.kind bytes (Err (CutAt number)))
    (λ bytes begins. cuts-headers d.kind on.head on.packets qs on.marks number ns bytes on.marked packet begins)
    next.begins)

-- the capture is whole
pub meters-all :
    (d : DomainValue) (node : ℕ) (first now after : Option Told) (name : List ℕ) (c : Reading) (old new : CellTable) (batch : List BatchRecord) (ns : List Marked)
    → name ≡ capture_of d node
    → (on : MetersOn d node first now name c old)
    → FillsToEnd c now after batch
    → HaveMarks d.kind batch ns
    → CountsMore d node old new ns
    → AreCellsOf d node first new
meters-all d node first now after name c old new batch ns named on ends marks more =
    let e = ends first name on.head on.packets on.reads in
    record {
      marks = on.marks ++ ns;
      judged =
          subst (λ x. OnFile first x (λ bytes. JudgesMarks d.kind bytes (Ok (on.marks ++ ns)))) named
          (file-more first name (λ bytes. IsWholeCapture bytes on.head (on.packets ++ e.0)) (λ bytes. JudgesMarks d.kind bytes (Ok (on.marks ++ ns)))
          (λ bytes whole. record {
            head = on.head;
            packets = on.packets ++ e.0;
            capture = whole;
            marked = marks-all d.kind on.head on.packets e.0 batch on.marks ns on.marked e.1.records marks;
          })
          e.2);
      metered = more.metered on.marks on.metered;
    }

-- the capture is refused, or could not be read on
stops-so :
    (d : DomainValue) (node : ℕ) (first after : Option Told) (h : Head) (ps : List Packet) (ms : List Marked) (e : FileError)
    → AreMarked d.kind h 1 ps ms
    → OnFile first (capture_of d node) (λ bytes. BeginsWith bytes h ps)
    → WhyStopped first after (capture_of d node) h ps e
    → WhyNoCells d node first (File e)
stops-so d node first after h ps ms Missing marked begins why = absurd why
stops-so d node first after h ps ms ReadFault marked begins why = tt
stops-so d node first after h ps ms TooLong marked begins why =
    file-both first (capture_of d node) IsLong (λ bytes. BeginsWith bytes h ps) (λ bytes. JudgesMarks d.kind bytes (Err Long))
    (λ bytes long b. (ms, (long, record { head = h; packets = ps; begins = b; marked = marked })))
    why begins
stops-so d node first after h ps ms (Bad e) marked begins why =
    file-more first (capture_of d node) (λ bytes. IsRefusedBehind bytes h ps e) (λ bytes. JudgesMarks d.kind bytes (Err (BadCapture e)))
    (λ bytes r. (ms, inr (record { head = h; packets = ps; begins = r.begins; marked = marked; refused = r.refused })))
    why
stops-so d node first after h ps ms Memory marked begins why = tt

pub meters-until :
    (d : DomainValue) (node : ℕ) (first now after : Option Told) (name : List ℕ) (c : Reading) (old : CellTable) (batch : List BatchRecord) (ns : List Marked) (e : FileError)
    → name ≡ capture_of d node
    → (on : MetersOn d node first now name c old)
    → FillsUntil c now after batch e
    → HaveMarks d.kind batch ns
    → WhyNoCells d node first (File e)
meters-until d node first now after name c old batch ns e named on until marks =
    let u = until first name on.head on.packets on.reads in
    stops-so d node first after on.head (on.packets ++ u.0) (on.marks ++ ns) e
    (marks-all d.kind on.head on.packets u.0 batch on.marks ns on.marked u.1.records marks)
    (subst (λ x. OnFile first x (λ bytes. BeginsWith bytes on.head (on.packets ++ u.0))) named u.1.begins)
    (subst (λ x. WhyStopped first after x on.head (on.packets ++ u.0) e) named u.2)

-- the capture goes on
pub meters-on :
    (d : DomainValue) (node : ℕ) (first now mid : Option Told) (name : List ℕ) (c new : Reading) (old t : CellTable) (batch : List BatchRecord) (ns : List Marked)
    → MetersOn d node first now name c old
    → Fills c new now mid batch
    → HaveMarks d.kind batch ns
    → length ns ≤ length batch
    → CountsMore d node old t ns
    → MetersOn d node first mid name new t
meters-on d node first now mid name c new old t batch ns on f marks few more =
    let a = f.fills first name on.head on.packets on.reads in
    record {
      head = on.head;
      packets = on.packets ++ a.0;
      marks = on.marks ++ ns;
      reads = a.1;
      marked = marks-all d.kind on.head on.packets a.0 batch on.marks ns on.marked a.2 marks;
      metered = more.metered on.marks on.metered;
      total = omega (
        arith,
        on.total,
        more.total,
        few,
        length-append on.packets a.0,
        ap (λ (x : List BatchRecord). length x) a.2,
        length-records_of on.head (length on.packets + 1) a.0,
      );
      few = f.few;
    }

-- the name of the file with the capture of a node
pub named-capture :
    (d : DomainValue) (node : ℕ) (ns : List NodeValue) (n : NodeValue) (name : List ℕ)
    → ns ≡ d.nodes
    → node < length d.nodes
    → n ≡ slice_index_or ns node n
    → name ≡ n.capture
    → name ≡ capture_of d node
named-capture d node ns n name same there is named =
    named
    ∙ ap (λ (x : NodeValue). x.capture) (is ∙ ap (λ (xs : List NodeValue). slice_index_or xs node n) same ∙ get_or_default d.nodes node n no_node there)

-- the capture was not opened
pub not-opened-no-cells :
    (d : DomainValue) (node : ℕ) (first after : Option Told) (e : FileError)
    → WhyNotOpened first after (capture_of d node) e
    → WhyNoCells d node first (File e)
not-opened-no-cells d node first after Missing why = why.1
not-opened-no-cells d node first after ReadFault why = tt
not-opened-no-cells d node first after TooLong why = absurd why
not-opened-no-cells d node first after (Bad e) why =
    file-more first (capture_of d node) _ (λ bytes. JudgesMarks d.kind bytes (Err (BadCapture e))) (λ bytes r. ([], inl (r, refl))) why.file
not-opened-no-cells d node first after Memory why = tt

-- a capture that was opened has given nothing
pub meters-nothing :
    (d : DomainValue) (node : ℕ) (first now : Option Told) (name : List ℕ) (c : Reading) (t : CellTable)
    → ((h : Head) × (c.decoded.summary.head ≡ Some h) × ReadsOn first now name c h [])
    → AreMetered d node [] t
    → total_of t ≡ 0
    → MetersOn d node first now name c t
meters-nothing d node first now name c t o none zero_total = record {
  head = o.0;
  packets = [];
  marks = [];
  reads = o.2;
  marked = refl;
  metered = none;
  total = omega (arith, zero_total);
  few = omega (arith, o.2.counted);
}
