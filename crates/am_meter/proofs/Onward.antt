-- A stream that goes on: what each record of its capture makes of it, and what the end and an error say.
use Rattle.std.proofs.Common.{arith, refl, sym, ap, subst, ◌∙◌, ◌≡◌, ◌≢◌, ℕ, ◌+◌, ◌≤◌, ◌^◌, Bool, false, List, [], ◌∷◌, ◌++◌, length, Option, Some, None, inr}
use Rattle.std.specs.Prelude.{Ok, Result, IfOk, IfSome}
use Rattle.std.proofs.lemmas.List.{length-append, append-nil}
use Rattle.am_base.specs.Shelves.{Told}
use Rattle.am_base.specs.Files.{OnFile}
use Rattle.am_ip6.specs.Marks.{Seen}
use Rattle.am_ip6.specs.Marks.Seen.{Marks, NoMark, CutOff}
use Rattle.am_ip6.specs.declared.marks.Place.{Place}
use Rattle.am_pcap.specs.Readings.{Reading}
use Rattle.am_pcap.specs.CaptureFiles.{ReadsOn, BeginsWith, IsWholeCapture, WhyStopped, IsRefusedBehind, IsLong}
use Rattle.am_pcap.specs.Answers.{GivesRecord, EndsReading, StopsReading}
use Rattle.am_pcap.specs.Shown.{packet_shown}
use Rattle.am_pcap.specs.declared.head.Head.{Head}
use Rattle.am_pcap.specs.declared.record.Record.{Record}
use Rattle.am_pcap.specs.declared.capture.FileError.{FileError}
use Rattle.am_pcap.specs.declared.capture.FileError.TheVariants.{Missing, ReadFault, TooLong, Bad, Memory}
use Rattle.am_meter.specs.Marks.{IsSeenIn, AreMarked, JudgesMarks, RefusesMarks}
use Rattle.am_meter.specs.Marks.MarksRefusal.{Long, BadCapture, HeadersCut as CutAt}
use Rattle.am_meter.specs.Streaming.{Streaming, stream_of}
use Rattle.am_meter.specs.Streams.{StreamsOn, GivesMarked, EndsStream, StopsStream, WhyStreamStopped}
use Rattle.am_meter.specs.Looks.{LooksAt, PassesOver, ShowsAs, marked_of}
use Rattle.am_meter.specs.declared.stream.Marked.{Marked}
use Rattle.am_meter.specs.declared.stream.Looked.{Looked}
use Rattle.am_meter.specs.declared.stream.Looked.TheVariants as looked
use Rattle.am_meter.specs.declared.stream.MeterError.TheVariants.{File, HeadersCut}
use Rattle.am_meter.proofs.Marking.{AreMarked-more}

-- a fact on a file from another, and from two
pub file-more : (told : Option Told) (name : List ℕ) (P Q : List ℕ → Type 0) → ((bytes : List ℕ) → P bytes → Q bytes) → OnFile told name P → OnFile told name Q
file-more None name P Q f h = tt
file-more (Some t) name P Q f h = (h.0, h.1, f h.0 h.2)

pub file-both :
    (told : Option Told) (name : List ℕ) (P Q R : List ℕ → Type 0)
    → ((bytes : List ℕ) → P bytes → Q bytes → R bytes)
    → OnFile told name P
    → OnFile told name Q
    → OnFile told name R
file-both None name P Q R f p q = tt
file-both (Some t) name P Q R f p q =
    let same : q.0 ≡ p.0 = cc (p.1, q.1) in
    (p.0, p.1, f p.0 p.2 (subst Q same q.2))

-- one more record was read, whose headers aren't cut
goes-on :
    (place : Place) (old new : Reading) (first before after : Option Told) (name : List ℕ) (ms more : List Marked) (l : Looked) (h : Head) (seen : Seen)
    → (x : LooksAt place old new before after l)
    → (on : StreamsOn first before name place (stream_of place old) ms)
    → AreMarked place on.head 1 (on.packets ++ x.packet ∷ []) (ms ++ more)
    → length more ≤ 1
    → StreamsOn first after name place (stream_of place new) (ms ++ more)
goes-on place old new first before after name ms more l h seen x on marked one =
    let reads : ReadsOn first after name new on.head (on.packets ++ x.packet ∷ []) = x.reads first name on.head on.packets on.reads in
    record {
      goes_on = refl;
      looks = refl;
      head = on.head;
      packets = on.packets ++ x.packet ∷ [];
      reads = reads;
      marked = marked;
      few = omega (arith, on.few, x.next, x.count, one, length-append ms more);
      kept = reads.kept;
    }

-- a stream looks in its own kind of header
at-own :
    (place own : Place) (first now : Option Told) (name : List ℕ) (c : Reading) (ms : List Marked)
    → StreamsOn first now name own (stream_of place c) ms
    → StreamsOn first now name place (stream_of place c) ms
at-own place own first now name c ms on = subst (λ q. StreamsOn first now name q (stream_of place c) ms) (sym on.looks) on

-- of one capture, its header
one-head : (c : Reading) (h k : Head) → c.decoded.summary.head ≡ Some h → c.decoded.summary.head ≡ Some k → h ≡ k
one-head c h k p q = cc (p, q)

-- what is seen of a record, at the header of a stream
shown-at :
    (place : Place) (old new : Reading) (first before after : Option Told) (name : List ℕ) (ms : List Marked) (l : Looked)
    → (x : LooksAt place old new before after l)
    → (on : StreamsOn first before name place (stream_of place old) ms)
    → ShowsAs place on.head x.number x.packet l
shown-at place old new first before after name ms l x on =
    subst (λ h. ShowsAs place h x.number x.packet l) (one-head old x.head on.head x.head_is on.reads.head) x.shows

-- which number the next record has
numbered :
    (place : Place) (old new : Reading) (first before after : Option Told) (name : List ℕ) (ms : List Marked) (l : Looked)
    → (x : LooksAt place old new before after l)
    → (on : StreamsOn first before name place (stream_of place old) ms)
    → x.number ≡ 1 + length on.packets
numbered place old new first before after name ms l x on = omega (arith, x.next, on.reads.counted)

mark-not_cut : (mark : _) (at : ℕ) → Marks mark at ≢ CutOff
mark-not_cut mark at h = cc (h)

none-not_cut : NoMark ≢ CutOff
none-not_cut h = cc (h)

-- a record without a mark is passed over
over-one :
    (place : Place) (now new : Reading) (first mid after : Option Told) (name : List ℕ) (ms : List Marked)
    → LooksAt place now new mid after looked.Unmarked
    → StreamsOn first mid name place (stream_of place now) ms
    → StreamsOn first after name place (stream_of place new) ms
over-one place now new first mid after name ms x on =
    let shows : IsSeenIn place on.head.link x.packet NoMark = shown-at place now new first mid after name ms looked.Unmarked x on in
    let marked : AreMarked place on.head 1 (on.packets ++ x.packet ∷ []) (ms ++ []) =
    AreMarked-more place on.head 1 on.packets ms x.packet NoMark x.number on.marked shows none-not_cut
    (numbered place now new first mid after name ms looked.Unmarked x on) in
    subst (λ ns. StreamsOn first after name place (stream_of place new) ns) (append-nil ms)
    (goes-on place now new first mid after name ms [] looked.Unmarked on.head NoMark x on marked (omega arith))

pub passes-one :
    (place : Place) (old now new : Reading) (before mid after : Option Told)
    → PassesOver place old now before mid
    → LooksAt place now new mid after looked.Unmarked
    → PassesOver place old new before after
passes-one place old now new before mid after p x = record {
  goes_on = x.goes_on;
  passes = omega (arith, p.passes, x.next, x.count);
  streams = λ first name ms on. over-one place now new first mid after name ms x (p.streams first name ms on);
}

-- a marked record is given
marks-one :
    (place : Place) (now new : Reading) (first mid after : Option Told) (name : List ℕ) (ms : List Marked) (m : Marked)
    → LooksAt place now new mid after (looked.Marked m)
    → StreamsOn first mid name place (stream_of place now) ms
    → StreamsOn first after name place (stream_of place new) (ms ++ m ∷ [])
marks-one place now new first mid after name ms m x on =
    let shows = shown-at place now new first mid after name ms (looked.Marked m) x on in
    let marked : AreMarked place on.head 1 (on.packets ++ x.packet ∷ []) (ms ++ marked_of on.head x.number x.packet m ∷ []) =
    AreMarked-more place on.head 1 on.packets ms x.packet (Marks m.mark shows.0) x.number on.marked shows.1 (mark-not_cut m.mark shows.0)
    (numbered place now new first mid after name ms (looked.Marked m) x on) in
    goes-on place now new first mid after name ms (m ∷ []) (looked.Marked m) on.head NoMark x on
    (subst (λ y. AreMarked place on.head 1 (on.packets ++ x.packet ∷ []) (ms ++ y ∷ [])) (sym shows.2) marked) (omega arith)

number-of : (place : Place) (now new : Reading) (mid after : Option Told) (m : Marked) (x : LooksAt place now new mid after (looked.Marked m)) → m.number ≡ x.number
number-of place now new mid after m x = ap (λ y. y.number) x.shows.2

pub gives :
    (place : Place) (old now new : Reading) (before mid after : Option Told) (m : Marked)
    → PassesOver place old now before mid
    → LooksAt place now new mid after (looked.Marked m)
    → GivesMarked (stream_of place old) (stream_of place new) before after m
gives place old now new before mid after m p x =
    let number = number-of place now new mid after m x in
    record {
      above = omega (arith, number, p.passes, x.next);
      few = omega (arith, number, x.few);
      passes = x.count ∙ sym number;
      goes_on = refl;
      streams = λ first name own ms on.
          subst (λ q. StreamsOn first after name q (stream_of place new) (ms ++ m ∷ [])) on.looks
          (marks-one place now new first mid after name ms m x (p.streams first name ms (at-own place own first before name old ms on)));
    }

-- the capture ended
pub ends :
    (place : Place) (old now : Reading) (before mid after : Option Told)
    → PassesOver place old now before mid
    → EndsReading now mid after
    → EndsStream (stream_of place old) before after
ends place old now before mid after p e first name own ms on =
    let s = p.streams first name ms (at-own place own first before name old ms on) in
    let end = e first name s.head s.packets s.reads in (
      subst (λ q. OnFile first name (λ bytes. JudgesMarks q bytes (Ok ms))) on.looks
          (file-more first name (λ bytes. IsWholeCapture bytes s.head s.packets) (λ bytes. JudgesMarks place bytes (Ok ms))
          (λ bytes whole. record { head = s.head; packets = s.packets; capture = whole; marked = s.marked }) end.0),
      end.1,
      end.2,
    )

-- the capture can't be read on
why-file :
    (place : Place) (now : Reading) (first mid after : Option Told) (name : List ℕ) (ms : List Marked) (e : FileError)
    → (s : StreamsOn first mid name place (stream_of place now) ms)
    → WhyStopped first after name s.head s.packets e
    → WhyStreamStopped place first after name ms (File e)
why-file place now first mid after name ms Missing s w = w
why-file place now first mid after name ms ReadFault s w =
    record { head = s.head; packets = s.packets; whole = w; marked = s.marked }
why-file place now first mid after name ms TooLong s w =
    file-both first name IsLong (λ bytes. BeginsWith bytes s.head s.packets) (λ bytes. RefusesMarks place bytes Long ms)
    (λ bytes long begins. (long, record { head = s.head; packets = s.packets; begins = begins; marked = s.marked }))
    w s.reads.begins
why-file place now first mid after name ms (Bad e) s w =
    file-more first name (λ bytes. IsRefusedBehind bytes s.head s.packets e) (λ bytes. RefusesMarks place bytes (BadCapture e) ms)
    (λ bytes r. inr (record { head = s.head; packets = s.packets; begins = r.begins; marked = s.marked; refused = r.refused })) w
why-file place now first mid after name ms Memory s w = w

pub stops :
    (place : Place) (old now : Reading) (before mid after : Option Told) (e : FileError)
    → PassesOver place old now before mid
    → StopsReading now mid after e
    → StopsStream (stream_of place old) before after (File e)
stops place old now before mid after e p stop first name own ms on =
    let s = p.streams first name ms (at-own place own first before name old ms on) in
    let w = stop first name s.head s.packets s.reads in
    (subst (λ q. WhyStreamStopped q first after name ms (File e)) on.looks (why-file place now first mid after name ms e s w.0), w.1)

-- the headers of a record are cut
pub cuts :
    (place : Place) (old now new : Reading) (before mid after : Option Told) (number : ℕ)
    → PassesOver place old now before mid
    → LooksAt place now new mid after (looked.Cut number)
    → StopsStream (stream_of place old) before after (HeadersCut number)
cuts place old now new before mid after number p x first name own ms on =
    let s = p.streams first name ms (at-own place own first before name old ms on) in
    let shows = shown-at place now new first mid after name ms (looked.Cut number) x s in
    let reads : ReadsOn first after name new s.head (s.packets ++ x.packet ∷ []) = x.reads first name s.head s.packets s.reads in
    let counted = numbered place now new first mid after name ms (looked.Cut number) x s in (
      subst (λ q. WhyStreamStopped q first after name ms (HeadersCut number)) on.looks
          (file-more first name (λ bytes. BeginsWith bytes s.head (s.packets ++ x.packet ∷ [])) (λ bytes. RefusesMarks place bytes (CutAt number) ms)
          (λ bytes begins. record {
            head = s.head;
            before = s.packets;
            packet = x.packet;
            begins = begins;
            marked = s.marked;
            cut = shows.0;
            counted = omega (arith, shows.1, counted);
          })
          reads.begins),
      reads.kept,
    )

-- what is said of an answer with a record
pub gave-record :
    (r : Result (Option Record) FileError) (o : Option Record) (x : Record) (c n : Reading) (now after : Option Told)
    → r ≡ Ok o
    → o ≡ Some x
    → IfOk r (λ a. IfSome a (λ y. GivesRecord c n now after y))
    → GivesRecord c n now after x
gave-record r o x c n now after e f h =
    subst (λ (a : Option Record). IfSome a (λ y. GivesRecord c n now after y)) f
    (subst (λ (a : Result (Option Record) FileError). IfOk a (λ b. IfSome b (λ y. GivesRecord c n now after y))) e h)

-- the next record was read, and this is seen of it
pub looks :
    (place : Place) (old new : Reading) (before after : Option Told) (r : Record) (h : Head) (l : Looked)
    → old.decoded.summary.head ≡ Some h
    → GivesRecord old new before after r
    → r.number ≡ old.decoded.summary.count + 1
    → r.number ≤ 2 ^ 36
    → ShowsAs place h r.number (packet_shown r) l
    → LooksAt place old new before after l
looks place old new before after r h l head g number few shows = record {
  number = r.number;
  next = number;
  few = few;
  count = g.count ∙ sym number;
  goes_on = g.goes_on;
  head = h;
  head_is = head;
  packet = packet_shown r;
  shows = shows;
  reads = λ first name k ps on. g.reads first name k ps on;
}

-- the stream whose parts are these
pub same-stream :
    (s : Streaming) (place : Place) (c : Reading) (over : Bool)
    → record { capture = c; place = place; over = over } ≡ s
    → s.over ≡ false
    → stream_of place c ≡ s
same-stream s place c over is goes_on =
    let same : over ≡ false = ap (λ (t : Streaming). t.over) is ∙ goes_on in
    subst (λ (o : Bool). record { capture = c; place = place; over = o } ≡ s) same is
