-- How packets are made: when they are sent, and how their events are added, one after another.
use Rattle.std.proofs.Common.{◌≡◌, ◌∙◌, ℕ, suc, ◌+◌, ◌-◌, ◌*◌, ◌/◌, ◌^◌, ◌<◌, ◌≤◌, max, Bool, false, eqb, List, [], ◌∷◌, ◌++◌, length, get_or, set, take, drop, Result, Ok, Err, refl, sym, ap, subst, arith}
use Rattle.std.specs.Prelude.{All, slice_index, ◌↔◌, IsTrue, OnOk}
use Rattle.std.proofs.lemmas.Bool.Decides.{nat_tests}
use Rattle.std.proofs.lemmas.List.{append-nil, append_assoc, take_at}
use Rattle.std.proofs.lemmas.Nat.{div-mul-add}
use Rattle.std.proofs.Math.Nat.{mul-le-mul_right, div-le_of_le-mul}
use Rattle.am_clock.specs.Times.{Times, IsMarkedIn}
use Rattle.am_domain.specs.Domains.{DomainValue, IsLawful}
use Rattle.am_world.specs.declared.generating.Way.{Way}
use Rattle.am_world.specs.declared.event.Event.{Event}
use Rattle.am_world.specs.declared.event.Event.TheVariants.{Send, Lost}
use Rattle.am_world.specs.Passes.{block_at}
use Rattle.am_world.specs.Generating.{drawn, draw_of, entries, links_from, read_at, sent_at, IsBefore, way_from, IsLoss, Proceeds, AreFollowed, ArePackets}
use Rattle.am_world.specs.Making.{place_at, AreLeastNew, TellsLoss, hop_drawn, way_drawn, MakesPacket}
use Rattle.am_world.proofs.RouteLemmas.{none-out, some-out}
use Rattle.am_world.proofs.GoingLemmas.{goes-unsent}
use Rattle.am_world.proofs.NewestLemmas.{newest-more, newest-kept}

first_of_some : {X : Type 0} (xs : List X) → 0 < length xs → X
first_of_some [] some = absurd (omega (arith, some))
first_of_some (x ∷ xs) some = x

-- the last reported block ends at most at 2^32 seconds
pub ends-early : (d : DomainValue) → IsLawful d → 0 < length d.nodes → d.end * d.times.block ≤ 4294967296000000000
ends-early d lawful some =
    let node = first_of_some d.nodes some in
    let last = d.end - 1 in
    let more = lawful.some_block in
    let is : d.end ≡ last + 1 = omega (arith, more) in
    let window = lawful.windows last (omega (arith, more), omega (arith, more)) 0 node some in
    let ends = window.ends in
    let until = lawful.until_readings 0 node some in
    let whole : (last + 1) * d.times.block ≡ last * d.times.block + d.times.block = omega arith in
    let all : d.end * d.times.block ≡ (last + 1) * d.times.block = ap (λ n. n * d.times.block) is in
    omega (arith, ends, until, whole, all)

-- the packets are spread over no more than the reported blocks
pub since-below : (i n s : ℕ) → i < n → i * s / n ≤ s
since-below i n s below =
    let most : i * s ≤ n * s = mul-le-mul_right s (omega (arith, below)) in
    div-le_of_le-mul n most

-- a packet is sent before the end of the last reported block, or at most half the skew after
pub sent-before : (d : DomainValue) (first start end block skew i whole n : ℕ) → IsLawful d → 0 < length d.nodes
    → first ≡ d.first → start ≡ d.first → end ≡ d.end → block ≡ d.times.block → skew ≡ d.times.skew
    → whole ≡ (end - start) * block → i < n → first * block + skew / 2 + i * whole / n ≤ 2 ^ 62
sent-before d first start end block skew i whole n lawful some is_first is_start is_end is_block is_skew is_whole below =
    let since = since-below i n whole below in
    let more = lawful.some_block in
    let k = end - start in
    let is : end ≡ first + k = omega (arith, more, is_first, is_start, is_end) in
    let apart : (first + k) * block ≡ first * block + k * block = omega arith in
    let same : end * block ≡ (first + k) * block = ap (λ m. m * block) is in
    let early : end * block ≤ 4294967296000000000
    = subst (λ e. e * block ≤ 4294967296000000000) (sym is_end)
    (subst (λ b. d.end * b ≤ 4294967296000000000) (sym is_block) (ends-early d lawful some)) in
    let guarded = lawful.timing.guarded in
    let short = lawful.timing.short in
    let small : skew ≤ 2 ^ 40 = omega (arith, guarded, short, is_skew) in
    let half : skew / 2 ≤ 2 ^ 40 = omega (arith, small) in
    omega (arith, since, apart, same, early, half, is_whole)

-- what was shown of a value holds of what follows from it
pub on-ok : {E : Type 0} {P Q : Type 0} (r : Result (Unit {0}) E) → (P → Q) → OnOk r P → OnOk r Q
on-ok (Ok x) step there = step there
on-ok (Err e) step there = tt

-- a length that isn't 0
pub some-there : (n : ℕ) (b : Bool) → b ≡ eqb n 0 → b ≡ false → 0 < n
some-there n b is away =
    let test : eqb n 0 ≡ false = sym is ∙ away in
    grind (arith, nat_tests)

-- a packet is delivered where no link begins
pub ends-here : (d : DomainValue) (w : Way) (x : ℕ) (old : List Event) (links : List ℕ) → links ≡ links_from d.links w.node
    → length links ≡ 0 → AreFollowed (λ own. Proceeds d w x own x) old old
ends-here d w x old links is none = record {
  own = [];
  all = sym (append-nil old);
  so = (none-out d.links w.node (sym (ap length is) ∙ none), refl);
}

-- it is lost
pub lost-here : (d : DomainValue) (w : Way) (x y : ℕ) (old new : List Event) (links : List ℕ) → links ≡ links_from d.links w.node
    → 0 < length links → IsLoss w x y → new ≡ old ++ Lost w.packet ∷ [] → AreFollowed (λ own. Proceeds d w x own y) old new
lost-here d w x y old new links is some lost added = record {
  own = Lost w.packet ∷ [];
  all = added;
  so = (some-out d.links w.node (subst (λ xs. 0 < length xs) is some), refl, lost, refl);
}

-- or it hops, and goes on
pub hops-here : (d : DomainValue) (w next : Way) (x left after y : ℕ) (hop : Event) (old mid new : List Event) (links : List ℕ)
    → links ≡ links_from d.links w.node → 0 < length links → TellsLoss w x left false → hop ≡ hop_drawn d w left
    → next ≡ way_drawn d w left → after ≡ drawn (drawn left) → mid ≡ old ++ hop ∷ []
    → AreFollowed (λ own. Proceeds d next after own y) mid new → AreFollowed (λ own. Proceeds d w x own y) old new
hops-here d w next x left after y hop old mid new links is some kept hops goes state added more =
    let left_is : left ≡ drawn x = kept.2 in
    let hop_is : hop ≡ hop_drawn d w (drawn x) = hops ∙ ap (hop_drawn d w) left_is in
    let next_is : next ≡ way_drawn d w (drawn x) = goes ∙ ap (way_drawn d w) left_is in
    let after_is : after ≡ drawn (drawn (drawn x)) = state ∙ ap (λ z. drawn (drawn z)) left_is in
    record {
      own = hop_drawn d w (drawn x) ∷ more.own;
      all = more.all ∙ ap (λ es. es ++ more.own) (added ∙ ap (λ e. old ++ e ∷ []) hop_is)
          ∙ append_assoc old (hop_drawn d w (drawn x) ∷ []) more.own;
      so = (
        some-out d.links w.node (subst (λ xs. 0 < length xs) is some),
        record { number = refl; few = kept.0; kept = kept.1; over = refl; at_time = refl; shown = refl },
        subst (λ z. Proceeds d (way_drawn d w (drawn x)) z more.own y) after_is
            (subst (λ v. Proceeds d v after more.own y) next_is more.so),
      );
    }

-- the block that holds a reading is the one that division gives
marked-at : (t : Times) (reading n : ℕ) → IsMarkedIn t reading n → n ≡ block_at t reading
marked-at t reading n marked =
    let rest : reading ≡ n * t.block + (reading - n * t.block) = omega (arith, marked.from) in
    sym (ap (λ r. r / t.block) rest ∙ div-mul-add n t.block (reading - n * t.block) (omega (arith, marked.from, marked.until)))

-- a packet is sent as it is drawn, and goes on: so it is made
pub sends-here : (d : DomainValue) (packets i x left y packet flow node time reading block : ℕ) (delay : Bool)
    (old mid new : List Event) (before after : List ℕ) → flow < length d.flows → node < 128
    → packet ≡ i → flow ≡ draw_of (length d.flows) x
    → node ≡ slice_index (entries d) (draw_of (length (entries d)) (drawn x)) → left ≡ drawn (drawn x)
    → time ≡ sent_at d packets i → reading ≡ read_at d.times node time → IsMarkedIn d.times reading block
    → IsTrue delay ↔ (slice_index before (place_at flow node) ≤ block)
    → after ≡ set before (place_at flow node) (max (get_or before (place_at flow node) 0) (block + 1))
    → AreLeastNew d old before → mid ≡ old ++ Send packet flow node time reading delay ∷ []
    → AreFollowed (λ own. Proceeds d (way_from packet node time) left own y) mid new
    → MakesPacket d packets i x old y new after
sends-here d packets i x left y packet flow node time reading block delay old mid new before after flow_below node_below number
    of_flow at_node state at_time shown marked new' then known added more =
    let sent = Send packet flow node time reading delay in
    let block_is = marked-at d.times reading block marked in
    let least = known.least flow node block flow_below node_below in
    let mid_known : AreLeastNew d mid after
    = subst (λ es. AreLeastNew d es after) (sym added)
    (subst (AreLeastNew d (old ++ sent ∷ [])) (sym then)
    (newest-more d old before packet flow node time reading delay block known flow_below node_below block_is)) in
    record {
      more = record {
        own = sent ∷ more.own;
        all = more.all ∙ ap (λ es. es ++ more.own) added ∙ append_assoc old (sent ∷ []) more.own;
        so = (
          record {
            number = number;
            of_flow = of_flow;
            at_node = at_node;
            at_time = at_time;
            shown = shown;
            marked = subst (λ b. IsTrue delay ↔ All (IsBefore d.times flow node b) old) block_is (
              (λ yes. least.0 (new'.0 yes)),
              (λ all. new'.1 (least.1 all)),
            );
          },
          subst (λ z. Proceeds d (way_from packet node time) z more.own y) state more.so,
        );
      };
      known = subst (λ es. AreLeastNew d es after) (sym more.all)
          (newest-kept d mid more.own after mid_known (goes-unsent d (way_from packet node time) left more.own y more.so));
    }

-- one packet more
pub packets-more : (d : DomainValue) (number packets i x y : ℕ) (old new : List Event) (newest : List ℕ)
    → ArePackets d number packets i old x → MakesPacket d packets i x old y new newest
    → ArePackets d number packets (i + 1) new y
packets-more d number packets i x y old new newest made more =
    let next : suc i ≡ i + 1 = omega arith in
    subst (λ n. ArePackets d number packets n new y) next
    (record { earlier = old; left = x; made = made; more = more.more })

-- a list that was written back whole
pub put-back : (n : ℕ) (new old : List ℕ) → length new ≡ length old → n ≡ length old
    → take n (new ++ drop (length new) old) ≡ new
put-back n new old same all = take_at new (drop (length new) old) n (same ∙ sym all)
