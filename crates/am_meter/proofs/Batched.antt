-- The marked records of a batch: one more, the first that is cut, and that they are one list.
use Rattle.std.proofs.Common.{refl, sym, ap, subst, ◌∙◌, ◌≡◌, ◌≢◌, ℕ, ◌+◌, ◌<◌, Bool, List, [], ◌∷◌, ◌++◌, length, take, drop, slice_index_or, append_assoc, append-nil}
use Rattle.std.proofs.lemmas.List.{take_more, drop_more, take-append-drop}
use Rattle.am_ip6.specs.Marks.{Seen}
use Rattle.am_ip6.specs.Marks.Seen.{CutOff}
use Rattle.am_ip6.specs.Seen.{IsSeen}
use Rattle.am_ip6.specs.declared.marks.Place.{Place}
use Rattle.am_pcap.specs.Frames.{IsFramed}
use Rattle.am_pcap.specs.declared.frame.LinkKind.{LinkKind}
use Rattle.am_pcap.specs.declared.frame.Frame.{Frame}
use Rattle.am_meter.specs.declared.stream.Marked.{Marked}
use Rattle.am_meter.specs.Marks.{marked_by}
use Rattle.am_meter.specs.Batches.{BatchRecord, RecordShows, HaveMarks, CutsFirst}
use Rattle.am_meter.proofs.Marking.{seen-once}

-- one more record
pub marks-more :
    (place : Place) (rs : List BatchRecord) (ms : List Marked) (r : BatchRecord) (seen : Seen)
    → HaveMarks place rs ms
    → RecordShows place r seen
    → seen ≢ CutOff
    → HaveMarks place (rs ++ r ∷ []) (ms ++ marked_by r.number r.reading seen)
marks-more place [] ms r seen a shows uncut = (
  seen,
  [],
  shows,
  uncut,
  refl,
  ap (λ x. x ++ marked_by r.number r.reading seen) a ∙ sym (append-nil (marked_by r.number r.reading seen)),
)
marks-more place (q ∷ qs) ms r seen a shows uncut = (
  a.0,
  a.1 ++ marked_by r.number r.reading seen,
  a.2,
  a.3,
  marks-more place qs a.1 r seen a.4 shows uncut,
  ap (λ x. x ++ marked_by r.number r.reading seen) a.5 ∙ append_assoc (marked_by q.number q.reading a.0) a.1 (marked_by r.number r.reading seen),
)

-- the marks of one record more of a batch
pub marks-next :
    (place : Place) (rs : List BatchRecord) (at : ℕ) (ms : List Marked) (r : BatchRecord) (seen : Seen)
    → at < length rs
    → ((d : BatchRecord) → r ≡ slice_index_or rs at d)
    → HaveMarks place (take at rs) ms
    → RecordShows place r seen
    → seen ≢ CutOff
    → HaveMarks place (take (at + 1) rs) (ms ++ marked_by r.number r.reading seen)
marks-next place rs at ms r seen there is a shows uncut =
    subst (λ x. HaveMarks place x (ms ++ marked_by r.number r.reading seen))
    (sym (take_more rs at r there ∙ ap (λ x. take at rs ++ x ∷ []) (sym (is r))))
    (marks-more place (take at rs) ms r seen a shows uncut)

-- a record whose headers are cut, behind others whose headers aren't
pub cuts-next :
    (place : Place) (rs : List BatchRecord) (at : ℕ) (ms : List Marked) (r : BatchRecord)
    → at < length rs
    → ((d : BatchRecord) → r ≡ slice_index_or rs at d)
    → HaveMarks place (take at rs) ms
    → RecordShows place r CutOff
    → CutsFirst place rs r.number ms
cuts-next place rs at ms r there is a shows = record {
  before = take at rs;
  cut = r;
  behind = drop (at + 1) rs;
  split = sym (take-append-drop at rs)
      ∙ ap (λ x. take at rs ++ x) (drop_more rs at r there ∙ ap (λ x. x ∷ drop (at + 1) rs) (sym (is r)));
  marked = a;
  shows = shows;
  numbered = refl;
}

-- records whose bytes hold one frame at most, and that show one thing at most, are marked in one way
module _
    (frames : (link : LinkKind) (bytes : List ℕ) (whole : Bool) (f g : Frame) → IsFramed link bytes whole f → IsFramed link bytes whole g → f ≡ g)
    (seens : (packet : List ℕ) (whole : Bool) (place : Place) (a b : Seen) → IsSeen packet whole place a → IsSeen packet whole place b → a ≡ b)
  where
    shown-once : (place : Place) (r : BatchRecord) (a b : Seen) → RecordShows place r a → RecordShows place r b → a ≡ b
    shown-once place r a b x y = seen-once frames seens place r.link r.bytes r.whole a b x y

    pub marks-once :
        (place : Place) (rs : List BatchRecord) (ms ns : List Marked) → HaveMarks place rs ms → HaveMarks place rs ns → ms ≡ ns
    marks-once place [] ms ns a b = a ∙ sym b
    marks-once place (r ∷ rs) ms ns a b =
        let same : a.0 ≡ b.0 = shown-once place r a.0 b.0 a.2 b.2 in
        let rest : a.1 ≡ b.1 = marks-once place rs a.1 b.1 a.4 b.4 in
        a.5 ∙ ap (λ s. marked_by r.number r.reading s ++ a.1) same ∙ ap (λ x. marked_by r.number r.reading b.0 ++ x) rest ∙ sym b.5

    uncut-in :
        (place : Place) (before : List BatchRecord) (r : BatchRecord) (behind : List BatchRecord) (ms : List Marked)
        → HaveMarks place (before ++ r ∷ behind) ms
        → RecordShows place r CutOff
        → ⊥
    uncut-in place [] r behind ms a cut = a.3 (shown-once place r a.0 CutOff a.2 cut)
    uncut-in place (q ∷ qs) r behind ms a cut = uncut-in place qs r behind a.1 a.4 cut

    pub marks-not_cut :
        (place : Place) (rs : List BatchRecord) (ms ns : List Marked) (number : ℕ)
        → HaveMarks place rs ms → CutsFirst place rs number ns → ⊥
    marks-not_cut place rs ms ns number a c =
        uncut-in place c.before c.cut c.behind ms (subst (λ x. HaveMarks place x ms) c.split a) c.shows

    first-in :
        (place : Place) (before qs : List BatchRecord) (r s : BatchRecord) (behind rest : List BatchRecord) (ms ns : List Marked)
        → before ++ r ∷ behind ≡ qs ++ s ∷ rest
        → HaveMarks place before ms → RecordShows place r CutOff
        → HaveMarks place qs ns → RecordShows place s CutOff
        → r ≡ s
    first-in place [] [] r s behind rest ms ns e a x b y = cc
    first-in place [] (q ∷ qs) r s behind rest ms ns e a x b y =
        let same : r ≡ q = cc in
        absurd (b.3 (shown-once place q b.0 CutOff b.2 (subst (λ z. RecordShows place z CutOff) same x)))
    first-in place (p ∷ ps) [] r s behind rest ms ns e a x b y =
        let same : s ≡ p = cc in
        absurd (a.3 (shown-once place p a.0 CutOff a.2 (subst (λ z. RecordShows place z CutOff) same y)))
    first-in place (p ∷ ps) (q ∷ qs) r s behind rest ms ns e a x b y =
        let same : ps ++ r ∷ behind ≡ qs ++ s ∷ rest = cc in
        first-in place ps qs r s behind rest a.1 b.1 same a.4 x b.4 y

    pub cuts-once :
        (place : Place) (rs : List BatchRecord) (m n : ℕ) (ms ns : List Marked)
        → CutsFirst place rs m ms → CutsFirst place rs n ns → m ≡ n
    cuts-once place rs m n ms ns a b =
        a.numbered
        ∙ ap (λ (r : BatchRecord). r.number)
        (first-in place a.before b.before a.cut b.cut a.behind b.behind ms ns (sym a.split ∙ b.split) a.marked a.shows b.marked b.shows)
        ∙ sym b.numbered
