-- The law on summaries: each list of bytes has one, which, with the bytes that follow, tells all that comes.
use Rattle.std.proofs.Common.{arith, refl, sym, ap, subst, ◌∙◌, ◌≡◌, ℕ, ◌+◌, ◌≤◌, Bool, List, [], ◌++◌, length, take, drop, Option, Some, None, Result, Ok, Err, inl, inr}
use Rattle.std.proofs.lemmas.Bool.{cases_lt}
use Rattle.am_pcap.specs.Packets.{word, Packet}
use Rattle.am_pcap.specs.declared.decoder.TheConstants.{MAX_CAPTURED}
use Rattle.am_pcap.specs.Heads.{IsJudged}
use Rattle.am_pcap.specs.Captures.{Summary, HasSummary, IsSplit, HasRecords, IsTooLong, IsRecordError}
use Rattle.am_pcap.specs.declared.refusal.CapError.{CapError}
use Rattle.am_pcap.specs.declared.refusal.CapError.TheVariants.{RecordTooLong}
use Rattle.am_pcap.specs.declared.head.Head.{Head}
use Rattle.am_pcap.proofs.Judged.{head-unique, head-not_refused, refused_head-unique, judged-exists}
use Rattle.am_pcap.proofs.Splitting.{split-unique, split-exists}
use Rattle.am_pcap.proofs.Steps.{records-added}

-- what is the same for two summaries of one list
record Same (ps qs : List Packet) (s t : Summary) : Type 0 where
  packets : ps ≡ qs
  summary : s ≡ t

error-unique : (big : Bool) (number : ℕ) (rest : List ℕ) (d e : Option CapError) → IsRecordError big number rest d → IsRecordError big number rest e → d ≡ e
error-unique big number rest None None a b = refl
error-unique big number rest None (Some e) a b = absurd (a b.0)
error-unique big number rest (Some d) None a b = absurd (b a.0)
error-unique big number rest (Some d) (Some e) a b = ap Some (a.1 ∙ sym b.1)

pub same_parts : (s t : Summary) → s.head ≡ t.head → s.count ≡ t.count → s.unfinished ≡ t.unfinished → s.taken ≡ t.taken → s.error ≡ t.error → s ≡ t
same_parts s t a b c d e = grind arith

-- the parts that the bytes decide
record Parts (ps qs : List Packet) (u v : List ℕ) (h k : Option Head) (d e : Option CapError) : Type 0 where
  packets : ps ≡ qs
  unfinished : u ≡ v
  head : h ≡ k
  error : d ≡ e

parts-records : (bytes : List ℕ) (ps qs : List Packet) (u v : List ℕ) (h k : Head) (d e : Option CapError)
    → HasRecords bytes ps u h d → HasRecords bytes qs v k e → h ≡ k → Parts ps qs u v (Some h) (Some k) d e
parts-records bytes ps qs u v h k d e p q same =
    let q' : HasRecords bytes qs v h e = subst (λ x. HasRecords bytes qs v x e) (sym same) q in
    let both = split-unique h.form.big (drop 24 bytes) ps u qs v p.records p.no_more q'.records q'.no_more in
    let w : IsRecordError h.form.big (length qs + 1) v d =
    subst (λ x. IsRecordError h.form.big (length qs + 1) x d) both.1
    (subst (λ x. IsRecordError h.form.big (length x + 1) u d) both.0 p.refused) in
    record {
      packets = both.0;
      unfinished = both.1;
      head = ap Some same;
      error = error-unique h.form.big (length qs + 1) v d e w q'.refused;
    }

parts-unique :
    (bytes : List ℕ) (ps qs : List Packet) (u v : List ℕ) (h k : Option Head) (d e : Option CapError)
    → IsSplit h d bytes ps u → IsSplit k e bytes qs v → Parts ps qs u v h k d e
parts-unique bytes ps qs u v None None None None p q = record { packets = p.none ∙ sym q.none; unfinished = p.rest ∙ sym q.rest; head = refl; error = refl }
parts-unique bytes ps qs u v None None None (Some e) p q = absurd (omega (arith, p.short, q.whole))
parts-unique bytes ps qs u v None None (Some d) None p q = absurd (omega (arith, q.short, p.whole))
parts-unique bytes ps qs u v None None (Some d) (Some e) p q =
    let same : d ≡ e = refused_head-unique (take 24 bytes) d e p.bad q.bad in
    record { packets = p.none ∙ sym q.none; unfinished = p.rest ∙ sym q.rest; head = refl; error = ap Some same }
parts-unique bytes ps qs u v None (Some k) None e p q = absurd (omega (arith, p.short, q.whole))
parts-unique bytes ps qs u v None (Some k) (Some d) e p q = absurd (head-not_refused (take 24 bytes) k d q.head p.bad)
parts-unique bytes ps qs u v (Some h) None d None p q = absurd (omega (arith, q.short, p.whole))
parts-unique bytes ps qs u v (Some h) None d (Some e) p q = absurd (head-not_refused (take 24 bytes) h e p.head q.bad)
parts-unique bytes ps qs u v (Some h) (Some k) d e p q =
    let same : h ≡ k = head-unique (take 24 bytes) h k p.head q.head in
    parts-records bytes ps qs u v h k d e p q same

-- a list of bytes has one summary, and its records have one list of packets
pub summary-unique :
    (bytes : List ℕ) (ps qs : List Packet) (s t : Summary) → HasSummary bytes ps s → HasSummary bytes qs t → (ps ≡ qs) × (s ≡ t)
summary-unique bytes ps qs s t p q =
    let both = parts-unique bytes ps qs s.unfinished t.unfinished s.head t.head s.error t.error p.split q.split in (
      both.packets,
      same_parts s t both.head (p.count ∙ ap length both.packets ∙ sym q.count) both.unfinished (p.taken ∙ sym q.taken) both.error,
    )

error-exists : (big : Bool) (number : ℕ) (rest : List ℕ) → (e : Option CapError) × IsRecordError big number rest e
error-exists big number rest = elim (cases_lt (length rest) 16) [
  | inl a ↦ (None, λ (w : IsTooLong big rest). omega (arith, a, w.head))
  | inr a ↦ elim (cases_lt MAX_CAPTURED (word big rest 8)) [
    | inl b ↦ (Some (RecordTooLong number (word big rest 8)), (record { head = a; long = b }, refl))
    | inr b ↦ (None, λ (w : IsTooLong big rest). omega (arith, b, w.long))
  ]
]

summary_by-head :
    (bytes : List ℕ) (r : Result Head CapError) → 24 ≤ length bytes → IsJudged r (take 24 bytes)
    → (ps : List Packet) × (s : Summary) × HasSummary bytes ps s
summary_by-head bytes (Err e) whole is = (
  [],
  record { head = None; count = 0; unfinished = bytes; taken = length bytes; error = Some e },
  record { count = refl; taken = refl; split = record { whole = whole; bad = is; none = refl; rest = refl } },
)
summary_by-head bytes (Ok h) whole is =
    let split = split-exists (length (drop 24 bytes)) h.form.big (drop 24 bytes) (omega arith) in
    let error = error-exists h.form.big (length split.0 + 1) split.1 in (
      split.0,
      record { head = Some h; count = length split.0; unfinished = split.1; taken = length bytes; error = error.0 },
      record {
        count = refl;
        taken = refl;
        split = record { whole = whole; head = is; records = split.2; no_more = split.3; refused = error.1 };
      },
    )

-- and there is one
pub summary-exists : (bytes : List ℕ) → (ps : List Packet) × (s : Summary) × HasSummary bytes ps s
summary-exists bytes = elim (cases_lt (length bytes) 24) [
  | inl short ↦ (
    [],
    record { head = None; count = 0; unfinished = bytes; taken = length bytes; error = None },
    record { count = refl; taken = refl; split = record { short = short; none = refl; rest = refl } },
  )
  | inr whole ↦ let r = judged-exists (take 24 bytes) in summary_by-head bytes r.0 whole r.1
]

-- what bytes behind a list add to a summary of it
record Added (a b more : List ℕ) (ps qs : List Packet) : Type 0 where
  added : List Packet
  t : Summary
  first : HasSummary (a ++ more) (ps ++ added) t
  second : HasSummary (b ++ more) (qs ++ added) t

-- where there are no records yet, the bytes themselves are kept
added-kept : (a b more : List ℕ) (ps qs : List Packet) → a ≡ b → ps ≡ [] → qs ≡ [] → Added a b more ps qs
added-kept a b more ps qs same none nothing =
    let s = summary-exists (a ++ more) in
    let p : HasSummary (a ++ more) (ps ++ s.0) s.1 = subst (λ x. HasSummary (a ++ more) (x ++ s.0) s.1) (sym none) s.2 in
    let q : HasSummary (a ++ more) (qs ++ s.0) s.1 = subst (λ x. HasSummary (a ++ more) (x ++ s.0) s.1) (sym nothing) s.2 in
    record { added = s.0; t = s.1; first = p; second = subst (λ x. HasSummary (x ++ more) (qs ++ s.0) s.1) same q }

added-some :
    (a b more : List ℕ) (ps qs : List Packet) (h : Option Head) (count : ℕ) (unfinished : List ℕ) (taken : ℕ) (e : Option CapError)
    → HasSummary a ps (record { head = h; count = count; unfinished = unfinished; taken = taken; error = e })
    → HasSummary b qs (record { head = h; count = count; unfinished = unfinished; taken = taken; error = e })
    → Added a b more ps qs
added-some a b more ps qs None count u taken None p q = added-kept a b more ps qs (sym p.split.rest ∙ q.split.rest) p.split.none q.split.none
added-some a b more ps qs None count u taken (Some e) p q = added-kept a b more ps qs (sym p.split.rest ∙ q.split.rest) p.split.none q.split.none
added-some a b more ps qs (Some h) count u taken e p q =
    let split = split-exists (length (u ++ more)) h.form.big (u ++ more) (omega arith) in
    let error = error-exists h.form.big (count + length split.0 + 1) split.1 in
    record {
      added = split.0;
      t = record { head = Some h; count = count + length split.0; unfinished = split.1; taken = taken + length more; error = error.0 };
      first = records-added a ps h count taken u more e error.0 split.0 split.1 p split.2 split.3 error.1;
      second = records-added b qs h count taken u more e error.0 split.0 split.1 q split.2 split.3 error.1;
    }

-- where two lists of bytes have one summary and the same bytes follow both, the longer lists have one summary, and the
-- same records were added to both
pub summaries-grow :
    (a b more : List ℕ) (ps qs ps' qs' : List Packet) (s t u : Summary)
    → HasSummary a ps s → HasSummary b qs s → HasSummary (a ++ more) ps' t → HasSummary (b ++ more) qs' u
    → (t ≡ u) × ((added : List Packet) × (ps' ≡ ps ++ added) × (qs' ≡ qs ++ added))
summaries-grow a b more ps qs ps' qs' s t u p q p' q' =
    let both = added-some a b more ps qs s.head s.count s.unfinished s.taken s.error p q in
    let one = summary-unique (a ++ more) ps' (ps ++ both.added) t both.t p' both.first in
    let two = summary-unique (b ++ more) qs' (qs ++ both.added) u both.t q' both.second in
    (one.1 ∙ sym two.1, (both.added, one.0, two.0))
