-- How long the packets of a world took: in a cluster, and on their whole way (RFC 9341, section 3.2). All times are
-- nanoseconds.
use Rattle.std.specs.Prelude.{ℕ, ◌*◌, ◌<◌, Bool, if◌then◌else◌, List, [], ◌∷◌, map, fold, ℤ, pos, ◌+ℤ◌, ◌-ℤ◌, ◌≤ℤ◌, IfSome}
use Rattle.am_domain.specs.declared.link.Edge.{Edge}
use Rattle.am_domain.specs.Network.{has_links_out}
use Rattle.am_domain.specs.Domains.{DomainValue}
use Rattle.am_graph.specs.Graphs.{end_of}
use Rattle.am_graph.specs.Clusters.{count_of}
use Rattle.am_control.specs.declared.row.Scope.TheVariants.{Cluster, Network}
use Rattle.am_control.specs.Rows.{Measured, loss_row}
use Rattle.am_world.specs.declared.event.Event.{Event}
use Rattle.am_world.specs.declared.event.Event.TheVariants.{Send, Hop, Lost}
use Rattle.am_world.specs.Events.{event_packet, events_of}
use Rattle.am_world.specs.Passes.{sends, sends_delayed}
use Rattle.am_world.specs.Drops.{is_inside}

-- the sum of signed numbers
abbrev pub signed_sum : {X : Type 0} → (X → ℤ) → List X → ℤ
signed_sum number xs = fold ◌+ℤ◌ (pos 0) (map number xs)

-- how long a packet took over these links, if it passed a node at this time before these events of its: for each hop
-- over one, its time less that of the packet's pass before it
abbrev pub time_over : (ℕ → Bool) → ℕ → List Event → ℤ
time_over inside before [] = pos 0
time_over inside before (Send packet flow node time reading delay ∷ es) = time_over inside time es
time_over inside before (Hop packet link time reading ∷ es) =
    (if inside link then pos time -ℤ pos before else pos 0) +ℤ time_over inside time es
time_over inside before (Lost packet ∷ es) = time_over inside before es

-- how long packets that are sent so took over these links together. Each is looked at where it is sent
abbrev pub total_over : (ℕ → Bool) → (Event → Bool) → List Event → ℤ
total_over inside so events =
    signed_sum (λ e. if so e then time_over inside 0 (events_of events (event_packet e)) else pos 0) events

-- how long a packet that was sent at this time was on its way, by these events of its: where it passes a node at which no
-- link begins, the time of that pass less that at which it was sent
abbrev pub time_on_way : List Edge → ℕ → List Event → ℤ
time_on_way links sent [] = pos 0
time_on_way links sent (Send packet flow node time reading delay ∷ es) = time_on_way links time es
time_on_way links sent (Hop packet link time reading ∷ es) =
    (if has_links_out links (end_of links link) then pos 0 else pos time -ℤ pos sent) +ℤ time_on_way links sent es
time_on_way links sent (Lost packet ∷ es) = time_on_way links sent es

-- how long packets that are sent so were on their way together. Each is looked at where it is sent
abbrev pub total_on_way : List Edge → (Event → Bool) → List Event → ℤ
total_on_way links so events =
    signed_sum (λ e. if so e then time_on_way links 0 (events_of events (event_packet e)) else pos 0) events

-- two signed numbers differ by at most this
pub record DifferByAtMost (a b : ℤ) (most : ℕ) : Type 0 where
  pub above : a ≤ℤ (b +ℤ pos most)
  pub below : b ≤ℤ (a +ℤ pos most)

-- of this flow and this block, the delay of each cluster, where the table has one, is how long the packets took over
-- its links, but for the skew at each packet that left; that of the network is how long they were on their whole way; and
-- so are the D columns over the packets with the delay bit
pub record TellsDelays (d : DomainValue) (m : Measured) (events : List Event) (flow block : ℕ) : Type 0 where
  pub all : (k : ℕ) → k < count_of m.plan.clusters
      → IfSome (loss_row m (Cluster k) flow block).delay (λ delay.
      DifferByAtMost delay (total_over (is_inside m.plan.clusters k) (sends d.times flow block) events)
      ((loss_row m (Cluster k) flow block).left * d.times.skew))
  pub delayed : (k : ℕ) → k < count_of m.plan.clusters
      → IfSome (loss_row m (Cluster k) flow block).d_delay (λ delay.
      DifferByAtMost delay (total_over (is_inside m.plan.clusters k) (sends_delayed d.times flow block) events)
      ((loss_row m (Cluster k) flow block).d_left * d.times.skew))
  pub network : IfSome (loss_row m Network flow block).delay (λ delay.
      DifferByAtMost delay (total_on_way d.links (sends d.times flow block) events)
      ((loss_row m Network flow block).left * d.times.skew))
  pub network_delayed : IfSome (loss_row m Network flow block).d_delay (λ delay.
      DifferByAtMost delay (total_on_way d.links (sends_delayed d.times flow block) events)
      ((loss_row m Network flow block).d_left * d.times.skew))
