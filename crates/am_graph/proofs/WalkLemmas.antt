-- A wave of the walk: from one side of the nodes to the other.
use Rattle.std.proofs.Common.{◌≡◌, ◌≢◌, ℕ, ◌+◌, ◌<◌, ◌⊎◌, List, [], ◌∷◌, ◌++◌, Option, Some, None, Contains, length, zero, suc, inl, inr, refl, sym, ap, ◌∙◌, subst, arith}
use Rattle.am_domain.specs.declared.link.Edge.{Edge}
use Rattle.am_graph.specs.Lists.{list_at}
use Rattle.am_graph.specs.Graphs.{Leads, IsTable, start_of, end_of}
use Rattle.am_graph.specs.Clusters.{AreNeighbours, IsLinkChain, AreJoined}
use Rattle.am_graph.specs.Walks.{Reaches, IsBeside, AreSettled, IsUnused, Adds, BeginsJoined, EndsJoined, Walks, cluster_at}

-- a chain goes on with a neighbour of its last link
chain-more : (links : List Edge) (a b c : ℕ) (chain : List ℕ) → IsLinkChain links a chain b → c < length links → AreNeighbours links b c → IsLinkChain links a (chain ++ c ∷ []) c
chain-more links a b c [] here within beside = (within, subst (λ x. AreNeighbours links x c) (sym here) beside, refl)
chain-more links a b c (next ∷ rest) here within beside = (here.0, here.1, chain-more links next b c rest here.2 within beside)

pub joined-more : (links : List Edge) (a b c : ℕ) → AreJoined links a b → c < length links → AreNeighbours links b c → AreJoined links a c
joined-more links a b c j within beside = (j.0 ++ c ∷ [], chain-more links a b c j.0 j.1 within beside)

pub joined-one : (links : List Edge) (a b : ℕ) → b < length links → AreNeighbours links a b → AreJoined links a b
joined-one links a b within beside = (b ∷ [], (within, beside, refl))

-- a walk between two waves: its nodes on the near side have the cluster, and wait; each other node of the cluster has
-- passed it on to the far side, and those of the far side all have. P and Q are what the nodes of the cluster have.
pub record IsUnderway (R : ℕ → ℕ → Type 0) (cluster : ℕ) (near far : ℕ → Option ℕ) (wave : ℕ → Type 0) (P Q : ℕ → Type 0) : Type 0 where
  pub waiting : (v : ℕ) → wave v → near v ≡ Some cluster
  pub ahead : (v w k : ℕ) → R v w → near v ≡ Some k → wave v ⊎ (far w ≡ Some k)
  pub back : (v w k : ℕ) → R v w → far w ≡ Some k → near v ≡ Some k
  pub of_near : (v : ℕ) → near v ≡ Some cluster → P v
  pub of_far : (w : ℕ) → far w ≡ Some cluster → Q w

pub some-or-none : (o : Option ℕ) → (o ≡ None) ⊎ ((k : ℕ) × (o ≡ Some k))
some-or-none None = inl refl
some-or-none (Some k) = inr (k, refl)

pub same-some : (o : Option ℕ) (a b : ℕ) → o ≡ Some a → o ≡ Some b → a ≡ b
same-some o a b p q = cc

pub some-not_none : (o : Option ℕ) (a : ℕ) → o ≡ Some a → o ≢ None
some-not_none o a p q = cc

pub nothing : {X : Type 0} (x : X) → Contains [] x → ⊥
nothing x h = omega (arith, h.1)

-- only a place of the list has a cluster
pub within-some : (clusters : List (Option ℕ)) (node k : ℕ) → cluster_at clusters node ≡ Some k → node < length clusters
within-some [] node k h = cc
within-some (x ∷ xs) zero k h = omega arith
within-some (x ∷ xs) (suc node) k h = let ih = within-some xs node k h in omega arith

-- a node of a wave has passed its cluster on
passed :
    (cluster k : ℕ) (near old new : Option ℕ) → near ≡ Some cluster → near ≡ Some k → new ≢ None → ((j : ℕ) → old ≡ Some j → near ≡ Some j)
    → (new ≡ old) ⊎ (new ≡ Some cluster) → new ≡ Some k
passed cluster k near old new waits has there back each = elim each [
  | inl same ↦ elim (some-or-none old) [
    | inl none ↦ absurd (there (same ∙ none))
    | inr some ↦ let e = back some.0 some.1 in let f : some.0 ≡ k = same-some near some.0 k e has in same ∙ some.1 ∙ ap (λ x. Some x) f
  ]
  | inr got ↦ got ∙ ap (λ x. Some x) (same-some near cluster k waits has)
]

-- after a wave, its nodes on the far side wait
pub wave-onward :
    (R : ℕ → ℕ → Type 0) (cluster : ℕ) (near : ℕ → Option ℕ) (far new : List (Option ℕ)) (wave : ℕ → Type 0) (next : List ℕ) (P Q These : ℕ → Type 0)
    → IsUnderway R cluster near (cluster_at far) wave P Q
    → Reaches These cluster far new [] next
    → ((v w : ℕ) → wave v → R v w → These w)
    → ((w : ℕ) → These w → (v : ℕ) × wave v × R v w)
    → ((v w : ℕ) → R v w → P v → Q w)
    → IsUnderway (λ w v. R v w) cluster (cluster_at new) near (Contains next) Q P
wave-onward R cluster near far new wave next P Q These u r to from step = record {
  waiting = λ w h. elim ((r.wave w).0 h) [ inl none ↦ absurd (nothing w none) | inr got ↦ got.has ];
  ahead = λ w v k link has. elim (r.each w) [
    | inl same ↦ inr (u.back v w k link (sym same ∙ has))
    | inr got ↦ inl ((r.wave w).1 (inr got.0))
  ];
  back = λ w v k link has. elim (u.ahead v w k link has) [
    | inl waits ↦ passed cluster k (near v) (cluster_at far w) (cluster_at new w) (u.waiting v waits) has (r.all w (to v w waits link))
        (λ j there. u.back v w j link there)
        (elim (r.each w) [ inl same ↦ inl same | inr got ↦ inr got.0.has ])
    | inr there ↦ elim (r.each w) [ inl same ↦ same ∙ there | inr got ↦ absurd (some-not_none (cluster_at far w) k there got.0.had) ]
  ];
  of_near = λ w has. elim (r.each w) [
    | inl same ↦ u.of_far w (sym same ∙ has)
    | inr got ↦ let source = from w got.1 in step source.0 w source.2 (u.of_near source.0 (u.waiting source.0 source.1))
  ];
  of_far = u.of_near;
}

-- the start of the walk: the node alone waits
pub walk-begins :
    (links : List Edge) (link cluster node : ℕ) (starts ends new : List (Option ℕ)) (wave : List ℕ)
    → link < length links → start_of links link ≡ node
    → AreSettled links starts ends → IsUnused cluster starts → IsUnused cluster ends
    → Reaches (λ x. x ≡ node) cluster starts new [] wave
    → IsUnderway (Leads links) cluster (cluster_at new) (cluster_at ends) (Contains wave) (BeginsJoined links link) (EndsJoined links link)
walk-begins links link cluster node starts ends new wave within begins settled unused unused_ends r = record {
  waiting = λ v h. elim ((r.wave v).0 h) [ inl none ↦ absurd (nothing v none) | inr got ↦ got.has ];
  ahead = λ v w k leads has. elim (r.each v) [
    | inl same ↦ inr ((settled v w k leads).0 (sym same ∙ has))
    | inr got ↦ inl ((r.wave v).1 (inr got.0))
  ];
  back = λ v w k leads has. elim (r.each v) [
    | inl same ↦ same ∙ (settled v w k leads).1 has
    | inr got ↦ absurd (some-not_none (cluster_at starts v) k ((settled v w k leads).1 has) got.0.had)
  ];
  of_near = λ v has. elim (r.each v) [
    | inl same ↦ absurd (unused v (sym same ∙ has))
    | inr got ↦ record {
      number = link;
      within = within;
      begins = begins ∙ sym got.1;
      all = λ k h is. joined-one links link k h (inl (begins ∙ sym got.1 ∙ sym is));
    }
  ];
  of_far = λ w has. absurd (unused_ends w has);
}

-- what begins joined leads to what ends joined
pub ends-joined : (links : List Edge) (link v w : ℕ) → Leads links v w → BeginsJoined links link v → EndsJoined links link w
ends-joined links link v w leads b = record {
  number = leads.number;
  within = leads.within;
  ends = leads.ends;
  all = λ k h is. joined-more links link leads.number k (b.all leads.number leads.within leads.begins) h (inr (leads.ends ∙ sym is));
}

pub begins-joined : (links : List Edge) (link v w : ℕ) → Leads links v w → EndsJoined links link w → BeginsJoined links link v
begins-joined links link v w leads b = record {
  number = leads.number;
  within = leads.within;
  begins = leads.begins;
  all = λ k h is. joined-more links link leads.number k (b.all leads.number leads.within leads.ends) h (inl (leads.begins ∙ sym is));
}

-- a wave from the starts to the ends of their links
pub wave-ahead :
    (links : List Edge) (link cluster nodes : ℕ) (ahead : List (List ℕ)) (starts ends new : List (Option ℕ)) (wave next : List ℕ)
    → IsTable (Leads links) nodes ahead
    → IsUnderway (Leads links) cluster (cluster_at starts) (cluster_at ends) (Contains wave) (BeginsJoined links link) (EndsJoined links link)
    → Reaches (IsBeside ahead wave) cluster ends new [] next
    → IsUnderway (λ w v. Leads links v w) cluster (cluster_at new) (cluster_at starts) (Contains next) (EndsJoined links link) (BeginsJoined links link)
wave-ahead links link cluster nodes ahead starts ends new wave next table u r =
    wave-onward (Leads links) cluster (cluster_at starts) ends new (Contains wave) next (BeginsJoined links link) (EndsJoined links link) (IsBeside ahead wave) u r
    (λ v w h leads. (v, h, (table.has v w).1 leads))
    (λ w h. (h.0, h.1, (table.has h.0 w).0 h.2))
    (ends-joined links link)

-- and one back to the starts
pub wave-back :
    (links : List Edge) (link cluster nodes : ℕ) (back : List (List ℕ)) (starts ends new : List (Option ℕ)) (wave next : List ℕ)
    → IsTable (λ end start. Leads links start end) nodes back
    → IsUnderway (λ w v. Leads links v w) cluster (cluster_at ends) (cluster_at starts) (Contains wave) (EndsJoined links link) (BeginsJoined links link)
    → Reaches (IsBeside back wave) cluster starts new [] next
    → IsUnderway (Leads links) cluster (cluster_at new) (cluster_at ends) (Contains next) (BeginsJoined links link) (EndsJoined links link)
wave-back links link cluster nodes back starts ends new wave next table u r =
    wave-onward (λ w v. Leads links v w) cluster (cluster_at ends) starts new (Contains wave) next (EndsJoined links link) (BeginsJoined links link) (IsBeside back wave) u r
    (λ w v h leads. (w, h, (table.has w v).1 leads))
    (λ v h. (h.0, h.1, (table.has h.0 v).0 h.2))
    (λ w v leads b. begins-joined links link v w leads b)

-- where nothing waits, all is settled
pub walk-settled :
    (links : List Edge) (cluster : ℕ) (starts ends : List (Option ℕ)) (wave : List ℕ) (P Q : ℕ → Type 0)
    → IsUnderway (Leads links) cluster (cluster_at starts) (cluster_at ends) (Contains wave) P Q → wave ≡ [] → AreSettled links starts ends
walk-settled links cluster starts ends wave P Q u empty = λ v w k leads. (
  λ has. elim (u.ahead v w k leads has) [ inl waits ↦ absurd (nothing v (subst (λ ws. Contains ws v) empty waits)) | inr there ↦ there ],
  λ has. u.back v w k leads has,
)

-- nothing is added yet
pub adds-none : (cluster : ℕ) (old : List (Option ℕ)) → Adds cluster old old
adds-none cluster old = record { same = refl; each = λ node. inl refl }

-- a step adds more of the same cluster
pub adds-more :
    (These : ℕ → Type 0) (cluster : ℕ) (old mid new : List (Option ℕ)) (before after : List ℕ)
    → Adds cluster old mid → Reaches These cluster mid new before after → Adds cluster old new
adds-more These cluster old mid new before after a r = record {
  same = r.same ∙ a.same;
  each = λ node. elim (r.each node) [
    | inl kept ↦ elim (a.each node) [
      | inl same ↦ inl (kept ∙ same)
      | inr got ↦ inr (record { had = got.had; has = kept ∙ got.has })
    ]
    | inr got ↦ elim (a.each node) [
      | inl same ↦ inr (record { had = sym same ∙ got.0.had; has = got.0.has })
      | inr was ↦ absurd (some-not_none (cluster_at mid node) cluster was.has got.0.had)
    ]
  ];
}

-- what has a cluster keeps it
pub kept-step :
    (These : ℕ → Type 0) (cluster : ℕ) (old new : List (Option ℕ)) (before after : List ℕ) (node k : ℕ)
    → Reaches These cluster old new before after → cluster_at old node ≡ Some k → cluster_at new node ≡ Some k
kept-step These cluster old new before after node k r has = elim (r.each node) [
  | inl same ↦ same ∙ has
  | inr got ↦ absurd (some-not_none (cluster_at old node) k has got.0.had)
]

-- the nodes of a wave are nodes
pub wave-within :
    (nodes cluster : ℕ) (clusters : List (Option ℕ)) (wave : ℕ → Type 0) (v : ℕ) → length clusters ≡ nodes
    → ((v : ℕ) → wave v → cluster_at clusters v ≡ Some cluster) → wave v → v < nodes
wave-within nodes cluster clusters wave v each has h = let less = within-some clusters v cluster (has v h) in omega (arith, less, each)

-- nodes that a list of the next ones has are nodes
pub ahead-within :
    (links : List Edge) (nodes place node : ℕ) (ahead : List (List ℕ)) → IsTable (Leads links) nodes ahead
    → ((k : ℕ) → k < length links → end_of links k < nodes) → Contains (list_at ahead place) node → node < nodes
ahead-within links nodes place node ahead table within h =
    let leads = (table.has place node).0 h in subst (λ x. x < nodes) leads.ends (within leads.number leads.within)

pub back-within :
    (links : List Edge) (nodes place node : ℕ) (back : List (List ℕ)) → IsTable (λ end start. Leads links start end) nodes back
    → ((k : ℕ) → k < length links → start_of links k < nodes) → Contains (list_at back place) node → node < nodes
back-within links nodes place node back table within h =
    let leads = (table.has place node).0 h in subst (λ x. x < nodes) leads.begins (within leads.number leads.within)

-- one start is reached
pub here-reached :
    (cluster node : ℕ) (old new : List (Option ℕ)) (before after : List ℕ) → cluster_at old node ≡ None → Reaches (λ x. x ≡ node) cluster old new before after
    → cluster_at new node ≡ Some cluster
here-reached cluster node old new before after had r = elim (r.each node) [
  | inl same ↦ absurd (r.all node refl (same ∙ had))
  | inr got ↦ got.0.has
]

-- the walk between two waves, with what it added to the sides before it
pub record IsWalking (links : List Edge) (link cluster : ℕ) (old_starts old_ends starts ends : List (Option ℕ)) (wave : List ℕ) : Type 0 where
  pub of_starts : Adds cluster old_starts starts
  pub of_ends : Adds cluster old_ends ends
  pub here : cluster_at starts (start_of links link) ≡ Some cluster
  pub underway : IsUnderway (Leads links) cluster (cluster_at starts) (cluster_at ends) (Contains wave) (BeginsJoined links link) (EndsJoined links link)

pub walking-begins :
    (links : List Edge) (link cluster : ℕ) (old_starts old_ends starts : List (Option ℕ)) (wave : List ℕ)
    → link < length links → AreSettled links old_starts old_ends → IsUnused cluster old_starts → IsUnused cluster old_ends
    → cluster_at old_starts (start_of links link) ≡ None
    → Reaches (λ x. x ≡ start_of links link) cluster old_starts starts [] wave
    → IsWalking links link cluster old_starts old_ends starts old_ends wave
walking-begins links link cluster old_starts old_ends starts wave within settled unused unused_ends none r = record {
  of_starts = adds-more (λ x. x ≡ start_of links link) cluster old_starts old_starts starts [] wave (adds-none cluster old_starts) r;
  of_ends = adds-none cluster old_ends;
  here = here-reached cluster (start_of links link) old_starts starts [] wave none r;
  underway = walk-begins links link cluster (start_of links link) old_starts old_ends starts wave within refl settled unused unused_ends r;
}

-- a wave to the ends and one back
pub walking-on :
    (links : List Edge) (link cluster nodes : ℕ) (ahead back : List (List ℕ)) (old_starts old_ends starts ends new_starts new_ends : List (Option ℕ))
    (wave reached next : List ℕ)
    → IsTable (Leads links) nodes ahead → IsTable (λ end start. Leads links start end) nodes back
    → IsWalking links link cluster old_starts old_ends starts ends wave
    → Reaches (IsBeside ahead wave) cluster ends new_ends [] reached
    → Reaches (IsBeside back reached) cluster starts new_starts [] next
    → IsWalking links link cluster old_starts old_ends new_starts new_ends next
walking-on links link cluster nodes ahead back old_starts old_ends starts ends new_starts new_ends wave reached next forth home w r s = record {
  of_starts = adds-more (IsBeside back reached) cluster old_starts starts new_starts [] next w.of_starts s;
  of_ends = adds-more (IsBeside ahead wave) cluster old_ends ends new_ends [] reached w.of_ends r;
  here = kept-step (IsBeside back reached) cluster starts new_starts [] next (start_of links link) cluster s w.here;
  underway = wave-back links link cluster nodes back starts new_ends new_starts reached next home
      (wave-ahead links link cluster nodes ahead starts ends new_ends wave reached forth w.underway r) s;
}

-- where nothing waits, the walk is done
pub walking-done :
    (links : List Edge) (link cluster : ℕ) (old_starts old_ends starts ends : List (Option ℕ)) (wave : List ℕ)
    → IsWalking links link cluster old_starts old_ends starts ends wave → wave ≡ [] → Walks links link cluster old_starts old_ends starts ends
walking-done links link cluster old_starts old_ends starts ends wave w empty = record {
  starts = w.of_starts;
  ends = w.of_ends;
  settled = walk-settled links cluster starts ends wave (BeginsJoined links link) (EndsJoined links link) w.underway empty;
  here = w.here;
  begin_joined = w.underway.of_near;
  end_joined = w.underway.of_far;
}
