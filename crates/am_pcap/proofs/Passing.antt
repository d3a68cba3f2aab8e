-- What a capture gives that lends a record in its place.
use Rattle.std.proofs.Common.{arith, refl, sym, ap, subst, ◌∙◌, ◌≡◌, ℕ, ◌+◌, ◌≤◌, false, List, ◌++◌, length, take, drop, Option, Some, None}
use Rattle.am_base.specs.Shelves.{Told}
use Rattle.am_pcap.specs.Packets.{first_packet}
use Rattle.am_pcap.specs.Decoded.{Decoded, Took, Passed, Counts}
use Rattle.am_pcap.specs.Shown.{packet_shown}
use Rattle.am_pcap.specs.Readings.{Reading}
use Rattle.am_pcap.specs.Seeking.{IsInOrder, InOrder, Drains, Found, reading_with}
use Rattle.am_pcap.specs.declared.head.Head.{Head}
use Rattle.am_pcap.specs.declared.record.Record.{Record}
use Rattle.am_pcap.proofs.Feeding.{Whole, took-record}
use Rattle.am_pcap.proofs.Fronts.{front-whole, front-first}
use Rattle.am_pcap.proofs.SeekSteps.{drained, found-drained}
use Rattle.am_pcap.proofs.Gives.{Gave, gave}

-- it would have found the record
pub found-passed :
    (c : Reading) (d' : Decoded) (h : Head) (n : ℕ) (told : Option Told) → InOrder c → c.decoded.summary.head ≡ Some h → Passed c.decoded d' h.form.big c.held n
    → Found c (reading_with (record { summary = d'.summary; waiting = Some (first_packet h.form.big c.held) }) (drop (16 + n) c.held) c.read) told told
found-passed c d' h n told o head p =
    let w : Decoded = record { summary = d'.summary; waiting = Some (first_packet h.form.big c.held) } in
    let u : List ℕ = c.decoded.summary.unfinished ++ take (16 + n) c.held in
    let within : 16 + n ≤ length c.held = omega (arith, p.whole.body, p.behind) in
    let none : u ≡ take (16 + n) c.held = ap (λ x. x ++ take (16 + n) c.held) p.before in
    let front : Whole h.form.big u = subst (λ x. Whole h.form.big x) (sym none) (front-whole h.form.big c.held n p.whole p.behind) in
    let packet : w.waiting ≡ Some (first_packet h.form.big u) =
    ap (λ x. Some x) (sym (ap (λ x. first_packet h.form.big x) none ∙ front-first h.form.big c.held n p.whole p.behind)) in
    let took : Took c.decoded w c.held (16 + n) = took-record c.decoded w c.held (16 + n) h within head front.whole front.ends
    (record { head = p.head ∙ head; count = p.count; unfinished = p.after; taken = omega (arith, p.taken); error = p.error ∙ o.clean }) packet in
    let counts : Counts c.decoded w = record { same = λ e. absurd (cc (e)); risen = λ _. p.count; few = p.few } in
    let drains : Drains c.decoded c.held w (drop (16 + n) c.held) =
    drained c.decoded w c.held (16 + n) o.none_waits p.head (p.error ∙ o.clean) took counts (λ _. refl) in
    found-drained c w (drop (16 + n) c.held) told o drains refl

-- so it gives that record
pub gave-passed :
    (old : Reading) {c : Reading} (d' : Decoded) (held' : List ℕ) (h : Head) (n : ℕ) (told : Option Told) (x : Record)
    → c ≡ old → old.over ≡ false → IsInOrder c h → Passed c.decoded d' h.form.big c.held n → held' ≡ drop (16 + n) c.held
    → packet_shown x ≡ first_packet h.form.big c.held → x.number ≡ d'.summary.count
    → Gave old told told (record { decoded = d'; held = held'; read = c.read; over = c.over }) (Some x)
gave-passed old {c} d' held' h n told x view going order p left packet number =
    let on : Reading = reading_with c.decoded c.held c.read in
    let o : InOrder on = order.going (ap (λ y. y.over) view ∙ going) in
    let w : Decoded = record { summary = d'.summary; waiting = Some (first_packet h.form.big c.held) } in
    let none : d'.waiting ≡ None = p.waiting ∙ o.none_waits in
    let found : Found on (reading_with w held' c.read) told told =
    subst (λ y. Found on (reading_with w y c.read) told told) (sym left) (found-passed on d' h n told o order.head p) in
    let taken : d' ≡ record { summary = d'.summary; waiting = None } = ap (λ y. record { summary = d'.summary; waiting = y }) none in
    gave old {c = c} (reading_with w held' c.read) told told d' (Some x) view going found taken (ap (λ y. Some y) (sym packet), number)
