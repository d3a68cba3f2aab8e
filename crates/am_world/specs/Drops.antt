-- What is dropped in a cluster (RFC 9341, section 3.1; RFC 9342, section 5).
use Rattle.std.specs.Prelude.{ℕ, Bool, false, ◌&&◌, ◌==◌, not, List, count_by, sum_by, Option, Some, None}
use Rattle.std.specs.List.{list_any, range_with_len}
use Rattle.am_domain.specs.declared.link.Edge.{Edge}
use Rattle.am_graph.specs.Lists.{list_at}
use Rattle.am_graph.specs.Clusters.{ClustersValue, cluster_of, count_of}
use Rattle.am_world.specs.declared.event.Event.{Event}
use Rattle.am_world.specs.declared.event.Event.TheVariants.{Send, Hop, Lost}
use Rattle.am_world.specs.Events.{event_packet, events_of, is_lost, present}
use Rattle.am_world.specs.Passes.{is_sent}

-- the number is in the list
abbrev pub is_among : List ℕ → ℕ → Bool
is_among numbers number = list_any (λ n. n == number) numbers

-- a link of the cluster begins at the node, or one ends there
abbrev pub is_start : ClustersValue → ℕ → ℕ → Bool
is_start c cluster node = is_among (list_at c.starts cluster) node

abbrev pub is_end : ClustersValue → ℕ → ℕ → Bool
is_end c cluster node = is_among (list_at c.ends cluster) node

-- there is a node, and it is one of these
abbrev pub is_at : (ℕ → Bool) → Option ℕ → Bool
is_at here None = false
is_at here (Some node) = here node

-- a packet with these events is lost, and the last node that it passed is one of these
abbrev pub is_dropped : List Edge → (ℕ → Bool) → List Event → Bool
is_dropped links here es = list_any is_lost es && is_at here (present links es)

-- it is at one of these nodes, and is not lost
abbrev pub is_waiting : List Edge → (ℕ → Bool) → List Event → Bool
is_waiting links here es = not (list_any is_lost es) && is_at here (present links es)

-- how many packets that are sent so are dropped, their last node one of these. Each is counted where it is sent
abbrev pub dropped_at : List Edge → (ℕ → Bool) → (Event → Bool) → List Event → ℕ
dropped_at links here so events =
    count_by (λ e. so e && is_dropped links here (events_of events (event_packet e))) events

-- how many packets that are sent so are at one of these nodes, and not lost
abbrev pub waiting_at : List Edge → (ℕ → Bool) → (Event → Bool) → List Event → ℕ
waiting_at links here so events =
    count_by (λ e. so e && is_waiting links here (events_of events (event_packet e))) events

-- how many packets that are sent so are dropped in the cluster: their last node is a start of it
abbrev pub dropped_in : List Edge → ClustersValue → ℕ → (Event → Bool) → List Event → ℕ
dropped_in links c cluster so events = dropped_at links (is_start c cluster) so events

-- and in all clusters together
abbrev pub dropped_in_all : List Edge → ClustersValue → (Event → Bool) → List Event → ℕ
dropped_in_all links c so events =
    sum_by (λ cluster. dropped_in links c cluster so events) (range_with_len 0 (count_of c))

-- a packet hops over one of these links
abbrev pub hops_over : (ℕ → Bool) → Event → Bool
hops_over inside (Send packet flow node time reading delay) = false
hops_over inside (Hop packet link time reading) = inside link
hops_over inside (Lost packet) = false

-- how often packets that are sent so hop over one of these links
abbrev pub hopped_over : (ℕ → Bool) → (Event → Bool) → List Event → ℕ
hopped_over inside so events = count_by (λ e. hops_over inside e && is_sent so events e) events

-- the link is of the cluster
abbrev pub is_inside : ClustersValue → ℕ → ℕ → Bool
is_inside c cluster link = cluster_of c link == cluster
