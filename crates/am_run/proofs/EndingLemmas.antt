-- What the inputs of a chain come to has one status.
use Rattle.std.proofs.Common.{arith, refl, sym, ap, subst, ◌∙◌, ◌≡◌, ℕ, List, [], ◌∷◌, ◌++◌, Option, Some, Ok, Err, inl, inr}
use Rattle.std.specs.Prelude.{Result}
use Rattle.am_base.specs.Shelves.{Told, IsAbsent}
use Rattle.am_base.specs.Files.{OnFile}
use Rattle.am_pcap.specs.Packets.{Packet}
use Rattle.am_pcap.specs.declared.head.Head.{Head}
use Rattle.am_pcap.specs.declared.refusal.CapError.{CapError}
use Rattle.am_chain.specs.Answers.{Reason, Ending, ending_status}
use Rattle.am_chain.specs.Answers.Ending.{Done, Missing, Refused}
use Rattle.am_chain.specs.Chains.{Stream, Chain, Judged, EndsHere, Ends, StreamRefuses, StreamEnds, IsTextOfAll, IsTextAtBad, IsTextBeforeRefused}
use Rattle.am_chain.specs.Chains.Chain.{Reads, Refuses, Prints, Writes, Streams}
use Rattle.am_run.specs.Laws.{Excludes, CaptureExcludes}

-- whatever two chains come to over these files, it has one status
pub record SameEnds (t : Told) (c d : Chain) : Type 0 where
  pub same : (e f : Ending) → Ends (Some t) c e → Ends (Some t) d f → ending_status e ≡ ending_status f

-- a stream that prints a whole capture refuses no record of it
pub record StreamExcludes (stream : Stream) : Type 0 where
  pub never : (h : Head) (ps : List Packet) (p : Packet) (more : List Packet) (reason : Reason) (text : List ℕ)
      → stream.refuses h ps p reason → stream.all_of h ((ps ++ p ∷ []) ++ more) text → ⊥

-- two facts of one file are facts of the same bytes
pub both-on-file :
    {R : Type 0} (t : Told) (name : List ℕ) (P Q : List ℕ → Type 0) → OnFile (Some t) name P → OnFile (Some t) name Q
    → ((bytes : List ℕ) → P bytes → Q bytes → R) → R
both-on-file t name P Q p q f = let e : q.0 ≡ p.0 = cc (p.1, q.1) in f p.0 p.2 (subst Q e q.2)

-- a file that isn't there has no bytes
not-there : (t : Told) (name : List ℕ) (P : List ℕ → Type 0) → IsAbsent (Some t) name → OnFile (Some t) name P → ⊥
not-there t name P absent p = cc (absent, p.1)

both-at :
    {A : Type 0} (t : Told) (name : List ℕ) (judge : List ℕ → Result A Reason → Type 0) (e f : Ending)
    → EndsHere (Some t) name judge e → EndsHere (Some t) name judge f → ending_status e ≡ ending_status f
both-at t name judge Done f p q = absurd p
both-at t name judge (Missing a) Done p q = absurd q
both-at t name judge (Missing a) (Missing b) p q = refl
both-at t name judge (Missing a) (Refused b r) p q = absurd (not-there t name (λ bytes. judge bytes (Err r)) p.1 q.1)
both-at t name judge (Refused a r) Done p q = absurd q
both-at t name judge (Refused a r) (Missing b) p q = absurd (not-there t name (λ bytes. judge bytes (Err r)) q.1 p.1)
both-at t name judge (Refused a r) (Refused b s) p q = refl

not-taken :
    {A : Type 0} (t : Told) (name : List ℕ) (judge : List ℕ → Result A Reason → Type 0) (e : Ending) (a : A)
    → Excludes judge → EndsHere (Some t) name judge e → Judged (Some t) name judge (Ok a) → ⊥
not-taken t name judge Done a x p q = p
not-taken t name judge (Missing m) a x p q = not-there t name (λ bytes. judge bytes (Ok a)) p.1 q
not-taken t name judge (Refused m r) a x p q =
    both-on-file t name (λ bytes. judge bytes (Ok a)) (λ bytes. judge bytes (Err r)) q p.1 (λ bytes taken refused. x.never bytes a r taken refused)

pub same-reads :
    {A : Type 0} (t : Told) (name : List ℕ) (judge : List ℕ → Result A Reason → Type 0) (next later : A → Chain)
    → Excludes judge
    → ((a b : A) → Judged (Some t) name judge (Ok a) → Judged (Some t) name judge (Ok b) → SameEnds t (next a) (later b))
    → SameEnds t (Reads A name judge next) (Reads A name judge later)
same-reads t name judge next later x rest = record {
  same = λ e f p q. elim p [
    | inl a ↦ elim q [ inl b ↦ both-at t name judge e f a b | inr b ↦ absurd (not-taken t name judge e b.0 x a b.1) ]
    | inr a ↦ elim q [ inl b ↦ absurd (not-taken t name judge f a.0 x b a.1) | inr b ↦ (rest a.0 b.0 a.1 b.1).same e f a.2 b.2 ]
  ];
}

pub same-prints : (t : Told) (is are : List ℕ → Type 0) → SameEnds t (Prints is) (Prints are)
same-prints t is are = record { same = λ e f p q. ap ending_status (p ∙ sym q) }

pub same-writes : (t : Told) (last : Ending) (is are : List ℕ → Type 0) → SameEnds t (Writes last is) (Writes last are)
same-writes t last is are = record { same = λ e f p q. ap ending_status (p ∙ sym q) }

pub same-refuses : (t : Told) (a b : Option (List ℕ)) (r s : Reason) → SameEnds t (Refuses a r) (Refuses b s)
same-refuses t a b r s = record { same = λ e f p q. ap ending_status p ∙ sym (ap ending_status q) }

-- a capture that isn't there is not refused
refused-there :
    (t : Told) (name : List ℕ) (stream : Stream) (reason : Reason) (text : List ℕ) → StreamRefuses (Some t) name stream reason text
    → IsAbsent (Some t) name → ⊥
refused-there t name stream reason text h absent =
    elim h [
      | inl x ↦ not-there t name _ absent x.1
      | inr y ↦ elim y [
        | inl x ↦ elim x.2 [ inl z ↦ not-there t name _ absent z.0 | inr z ↦ not-there t name _ absent z.refused ]
        | inr x ↦ not-there t name _ absent x.begins
      ]
    ]

not-refused :
    (t : Told) (name : List ℕ) (stream : Stream) (reason : Reason) (text all : List ℕ) → CaptureExcludes → StreamExcludes stream
    → IsTextBeforeRefused (Some t) name stream reason text → IsTextOfAll (Some t) name stream all → ⊥
not-refused t name stream reason text all law x h whole =
    both-on-file t name _ _ h.next whole.whole
    (λ bytes begins capture.
    let front = law.front bytes h.head whole.head (h.packets ++ h.packet ∷ []) whole.packets begins capture in
    x.never h.head h.packets h.packet front.more reason all h.refused
    (subst (λ k. stream.all_of k ((h.packets ++ h.packet ∷ []) ++ front.more) all) (sym front.head)
    (subst (λ qs. stream.all_of whole.head qs all) front.packets whole.printed)))

whole-not-bad :
    (t : Told) (name : List ℕ) (stream : Stream) (error : CapError) (text all : List ℕ) → CaptureExcludes
    → IsTextAtBad (Some t) name stream error text → IsTextOfAll (Some t) name stream all → ⊥
whole-not-bad t name stream error text all law h whole =
    elim h [
      | inl y ↦ both-on-file t name _ _ y.0 whole.whole (λ bytes bad capture. law.header bytes whole.head whole.packets error capture bad)
      | inr y ↦ both-on-file t name _ _ y.refused whole.whole
          (λ bytes bad capture. law.records bytes whole.head whole.packets y.packets error capture bad.refused)
    ]

-- a whole capture isn't refused
whole-not-refused :
    (t : Told) (name : List ℕ) (stream : Stream) (reason : Reason) (text all : List ℕ) → CaptureExcludes → StreamExcludes stream
    → StreamRefuses (Some t) name stream reason text → IsTextOfAll (Some t) name stream all → ⊥
whole-not-refused t name stream reason text all law x h whole =
    elim h [
      | inl y ↦ both-on-file t name _ _ y.1 whole.whole (λ bytes long capture. omega (arith, long, capture.short))
      | inr z ↦ elim z [
        | inl y ↦ whole-not-bad t name stream y.0 text all law y.2 whole
        | inr y ↦ not-refused t name stream reason text all law x y whole
      ]
    ]

both-stream :
    (t : Told) (name : List ℕ) (stream : Stream) (e f : Ending) (a b : List ℕ) → CaptureExcludes → StreamExcludes stream
    → StreamEnds (Some t) name stream e a → StreamEnds (Some t) name stream f b → ending_status e ≡ ending_status f
both-stream t name stream Done Done a b law x p q = refl
both-stream t name stream Done (Missing m) a b law x p q = absurd (not-there t name _ q.1 p.whole)
both-stream t name stream Done (Refused m r) a b law x p q = absurd (whole-not-refused t name stream r b a law x q.1 p)
both-stream t name stream (Missing m) Done a b law x p q = absurd (not-there t name _ p.1 q.whole)
both-stream t name stream (Missing m) (Missing n) a b law x p q = refl
both-stream t name stream (Missing m) (Refused n r) a b law x p q = absurd (refused-there t name stream r b q.1 p.1)
both-stream t name stream (Refused m r) Done a b law x p q = absurd (whole-not-refused t name stream r a b law x p.1 q)
both-stream t name stream (Refused m r) (Missing n) a b law x p q = absurd (refused-there t name stream r a p.1 q.1)
both-stream t name stream (Refused m r) (Refused n s) a b law x p q = refl

pub same-streams : (t : Told) (name : List ℕ) (stream : Stream) → CaptureExcludes → StreamExcludes stream → SameEnds t (Streams name stream) (Streams name stream)
same-streams t name stream law x = record { same = λ e f p q. both-stream t name stream e f p.0 q.0 law x p.1 q.1 }
