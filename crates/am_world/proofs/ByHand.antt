-- A world written by hand, whose dropped packets a reader counts: what the definitions give for it, computed.
use Rattle.std.proofs.Common.{◌≡◌, true, false, List, [], ◌∷◌, refl}
use Rattle.std.specs.Prelude.{◌==◌}
use Rattle.am_clock.specs.Times.{Times, times_of}
use Rattle.am_domain.specs.declared.link.Edge.{Edge}
use Rattle.am_graph.specs.Clusters.{ClustersValue}
use Rattle.am_world.specs.declared.event.Event.{Event}
use Rattle.am_world.specs.declared.event.Event.TheVariants.{Send, Hop, Lost}
use Rattle.am_world.specs.Passes.{sends, passed_at}
use Rattle.am_world.specs.Drops.{dropped_in, dropped_in_all}

-- blocks of ten seconds, and clocks and delays as in the examples
abbrev times : Times
times = times_of 10000000000 1000000 0 500000000

-- node 0, from which links lead to the nodes 1 and 2, and node 3, to which a link leads from node 1
abbrev links : List Edge
links = record { from = 0; to = 1 } ∷ record { from = 0; to = 2 } ∷ record { from = 1; to = 3 } ∷ []

-- the two links that begin at node 0 are one cluster, and the third is another
abbrev clusters : ClustersValue
clusters = record {
  of_link = 0 ∷ 0 ∷ 1 ∷ [];
  links = (0 ∷ 1 ∷ []) ∷ (2 ∷ []) ∷ [];
  starts = (0 ∷ []) ∷ (1 ∷ []) ∷ [];
  ends = (1 ∷ 2 ∷ []) ∷ (3 ∷ []) ∷ [];
}

-- packets of flow 0: packet 0 comes to node 3, packet 1 is lost at node 0, packet 2 at node 1, and packet 3 comes to node 2.
-- Packet 4 is sent in block 1 and lost at node 0. Packet 5 is of flow 1, and is lost there, too
abbrev events : List Event
events =
    Send 0 0 0 1000000000 1000000000 true
    ∷ Send 1 0 0 2000000000 2000000000 false
    ∷ Hop 0 0 1200000000 1200000000
    ∷ Send 2 0 0 2500000000 2500000000 false
    ∷ Hop 0 2 1400000000 1400000000
    ∷ Lost 1
    ∷ Hop 2 0 2600000000 2600000000
    ∷ Send 3 0 0 3000000000 3000000000 false
    ∷ Lost 2
    ∷ Hop 3 1 3100000000 3100000000
    ∷ Send 4 0 0 10000000000 10000000000 true
    ∷ Lost 4
    ∷ Send 5 1 0 3000000000 3000000000 true
    ∷ Lost 5
    ∷ []

-- of block 0 one packet is dropped in each cluster: packet 1 in the first, packet 2 in the second
first-drops-one : dropped_in links clusters 0 (sends times 0 0) events ≡ 1
first-drops-one = refl

second-drops-one : dropped_in links clusters 1 (sends times 0 0) events ≡ 1
second-drops-one = refl

both-drop-two : dropped_in_all links clusters (sends times 0 0) events ≡ 2
both-drop-two = refl

-- of block 1 one packet is dropped in the first, and none in the second
later-drops-one : dropped_in links clusters 0 (sends times 0 1) events ≡ 1
later-drops-one = refl

later-drops-none : dropped_in links clusters 1 (sends times 0 1) events ≡ 0
later-drops-none = refl

-- four packets of block 0 enter the first cluster and three leave it, of which two enter the second and one leaves that
four-enter : passed_at links (λ n. n == 0) (sends times 0 0) events ≡ 4
four-enter = refl

two-come-to-node-1 : passed_at links (λ n. n == 1) (sends times 0 0) events ≡ 2
two-come-to-node-1 = refl

one-comes-to-node-2 : passed_at links (λ n. n == 2) (sends times 0 0) events ≡ 1
one-comes-to-node-2 = refl

one-comes-to-node-3 : passed_at links (λ n. n == 3) (sends times 0 0) events ≡ 1
one-comes-to-node-3 = refl
