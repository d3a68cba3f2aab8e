-- The clusters of one more link.
use Rattle.std.proofs.Common.{◌≡◌, ◌≢◌, ℕ, ◌+◌, ◌<◌, ◌≤◌, List, [], ◌∷◌, ◌++◌, Option, Some, None, length, replicate, zero, suc, inl, inr, refl, sym, ap, ◌∙◌, subst, arith}
use Rattle.std.proofs.lemmas.Bool.{cases_lt, cases_eq}
use Rattle.am_domain.specs.declared.link.Edge.{Edge}
use Rattle.am_graph.specs.Graphs.{Leads, start_of}
use Rattle.am_graph.specs.Clusters.{AreNeighbours, IsLinkChain, AreJoined}
use Rattle.am_graph.specs.Walks.{AreFound, IsFirst, Adds, Walks, IsUnused, cluster_at}
use Rattle.am_graph.proofs.WalkLemmas.{joined-more, same-some, some-not_none}

chain-both : (links : List Edge) (a b c : ℕ) (xs ys : List ℕ) → IsLinkChain links a xs b → IsLinkChain links b ys c → IsLinkChain links a (xs ++ ys) c
chain-both links a b c [] ys x y = subst (λ d. IsLinkChain links d ys c) (sym x) y
chain-both links a b c (next ∷ rest) ys x y = (x.0, x.1, chain-both links next b c rest ys x.2 y)

pub joined-both : (links : List Edge) (a b c : ℕ) → AreJoined links a b → AreJoined links b c → AreJoined links a c
joined-both links a b c x y = (x.0 ++ y.0, chain-both links a b c x.0 y.0 x.1 y.1)

neighbours-back : (links : List Edge) (a b : ℕ) → AreNeighbours links a b → AreNeighbours links b a
neighbours-back links a b h = elim h [ inl e ↦ inl (sym e) | inr e ↦ inr (sym e) ]

chain-back : (links : List Edge) (a b : ℕ) (xs : List ℕ) → a < length links → IsLinkChain links a xs b → AreJoined links b a
chain-back links a b [] within x = ([], sym x)
chain-back links a b (next ∷ rest) within x =
    joined-more links b next a (chain-back links next b rest x.0 x.2) within (neighbours-back links a next x.1)

pub joined-back : (links : List Edge) (a b : ℕ) → a < length links → AreJoined links a b → AreJoined links b a
joined-back links a b within x = chain-back links a b x.0 within x.1

none-at : (n node : ℕ) → cluster_at (replicate n None) node ≡ None
none-at zero node = refl
none-at (suc n) zero = refl
none-at (suc n) (suc node) = none-at n node

-- before the first link nothing is found
pub found-none : (links : List Edge) (n : ℕ) → AreFound links 0 0 (replicate n None) (replicate n None)
found-none links n = record {
  settled = λ v w k leads. (λ h. absurd (some-not_none _ k h (none-at n v)), λ h. absurd (some-not_none _ k h (none-at n w)));
  reached = λ k h. absurd (omega (arith, h));
  below = λ node k h. absurd (some-not_none _ k h (none-at n node));
  begun = λ node k h. absurd (some-not_none _ k h (none-at n node));
  ended = λ node k h. absurd (some-not_none _ k h (none-at n node));
  joined = λ a b k x y h i. absurd (some-not_none _ k h (none-at n (start_of links a)));
  first = λ k h. absurd (omega (arith, h));
  order = λ link k lower h i j. absurd (some-not_none _ k i (none-at n (start_of links link)));
}

-- what holds below the next number holds below it, and at it
last : (P : ℕ → Type 0) (i k : ℕ) → ((k : ℕ) → k < i → P k) → P i → k < i + 1 → P k
last P i k below here h = elim (cases_lt k i) [
  | inl less ↦ below k less
  | inr more ↦ let e : i ≡ k = omega arith in subst P e here
]

-- a link whose start was reached adds nothing
pub found-same :
    (links : List Edge) (i count : ℕ) (starts ends : List (Option ℕ))
    → AreFound links i count starts ends → cluster_at starts (start_of links i) ≢ None → AreFound links (i + 1) count starts ends
found-same links i count starts ends f there = record {
  settled = f.settled;
  reached = λ k h. last (λ k. cluster_at starts (start_of links k) ≢ None) i k f.reached there h;
  below = f.below;
  begun = f.begun;
  ended = f.ended;
  joined = f.joined;
  first = λ k h. let found = f.first k h in (found.0, omega (arith, found.1), found.2);
  order = f.order;
}

-- what has a cluster keeps it
kept : (cluster : ℕ) (old new : List (Option ℕ)) (node k : ℕ) → Adds cluster old new → cluster_at old node ≡ Some k → cluster_at new node ≡ Some k
kept cluster old new node k a has = elim (a.each node) [
  | inl same ↦ same ∙ has
  | inr got ↦ absurd (some-not_none (cluster_at old node) k has got.had)
]

-- what was reached is so
kept-reached : (cluster : ℕ) (old new : List (Option ℕ)) (node : ℕ) → Adds cluster old new → cluster_at old node ≢ None → cluster_at new node ≢ None
kept-reached cluster old new node a there = elim (a.each node) [
  | inl same ↦ λ e. there (sym same ∙ e)
  | inr got ↦ λ e. some-not_none (cluster_at new node) cluster got.has e
]

-- a node that was reached before has the cluster that it had
old-cluster :
    (cluster : ℕ) (old new : List (Option ℕ)) (node k : ℕ) → Adds cluster old new → cluster_at old node ≢ None → cluster_at new node ≡ Some k
    → cluster_at old node ≡ Some k
old-cluster cluster old new node k a there has = elim (a.each node) [ inl same ↦ sym same ∙ has | inr got ↦ absurd (there got.had) ]

-- a node of another cluster than the new one had it before
older :
    (cluster : ℕ) (old new : List (Option ℕ)) (node k : ℕ) → Adds cluster old new → cluster_at new node ≡ Some k → (k ≡ cluster → ⊥)
    → cluster_at old node ≡ Some k
older cluster old new node k a has ne = elim (a.each node) [
  | inl same ↦ sym same ∙ has
  | inr got ↦ absurd (ne (same-some (cluster_at new node) k cluster has got.has))
]

-- a link whose start was not reached is not among those that are done
not-before :
    (links : List Edge) (i count : ℕ) (starts ends : List (Option ℕ)) (link : ℕ) → AreFound links i count starts ends
    → cluster_at starts (start_of links link) ≡ None → i ≤ link
not-before links i count starts ends link f had = elim (cases_lt link i) [
  | inl less ↦ absurd (f.reached link less had)
  | inr more ↦ more
]

-- two links of the new cluster are joined
new-joined :
    (links : List Edge) (i count : ℕ) (starts ends S E : List (Option ℕ)) (a b : ℕ)
    → i < length links → a < length links → b < length links → Walks links i count starts ends S E
    → cluster_at S (start_of links a) ≡ Some count → cluster_at S (start_of links b) ≡ Some count → AreJoined links a b
new-joined links i count starts ends S E a b within x y w p q =
    joined-both links a i b
    (joined-back links i a within ((w.begin_joined (start_of links a) p).all a x refl))
    ((w.begin_joined (start_of links b) q).all b y refl)

-- a link whose start was not reached, and the walk from it, make one more cluster
pub found-more :
    (links : List Edge) (i count : ℕ) (starts ends S E : List (Option ℕ))
    → i < length links → AreFound links i count starts ends → cluster_at starts (start_of links i) ≡ None
    → Walks links i count starts ends S E → AreFound links (i + 1) (count + 1) S E
found-more links i count starts ends S E within f none w = record {
  settled = w.settled;
  reached = λ k h. last (λ k. cluster_at S (start_of links k) ≢ None) i k
      (λ k less. kept-reached count starts S (start_of links k) w.starts (f.reached k less))
      (some-not_none (cluster_at S (start_of links i)) count w.here) h;
  below = λ node k has. elim (w.starts.each node) [
    | inl same ↦ let less = f.below node k (sym same ∙ has) in omega (arith, less)
    | inr got ↦ let e = same-some (cluster_at S node) count k got.has has in omega (arith, e)
  ];
  begun = λ node k has. elim (w.starts.each node) [
    | inl same ↦ f.begun node k (sym same ∙ has)
    | inr got ↦ let b = w.begin_joined node got.has in (b.number, b.within, b.begins)
  ];
  ended = λ node k has. elim (w.ends.each node) [
    | inl same ↦ f.ended node k (sym same ∙ has)
    | inr got ↦ let b = w.end_joined node got.has in (b.number, b.within, b.ends)
  ];
  joined = λ a b k x y p q. elim (cases_eq k count) [
    | inl e ↦ new-joined links i count starts ends S E a b within x y w (p ∙ ap (λ n. Some n) e) (q ∙ ap (λ n. Some n) e)
    | inr ne ↦ f.joined a b k x y
        (older count starts S (start_of links a) k w.starts p ne)
        (older count starts S (start_of links b) k w.starts q ne)
  ];
  first = λ k h. elim (cases_lt k count) [
    | inl less ↦ (
        let found = f.first k less in (
          found.0,
          omega (arith, found.1),
          record {
            here = kept count starts S (start_of links found.0) k w.starts found.2.here;
            before = λ j lt has. found.2.before j lt
                (old-cluster count starts S (start_of links j) k w.starts (f.reached j (omega (arith, lt, found.1))) has);
          },
        )
        )
    | inr more ↦ (
        let e : count ≡ k = omega arith in
        subst (λ c. (link : ℕ) × (link < i + 1) × IsFirst links S c link) e (
          i,
          omega arith,
          record {
            here = w.here;
            before = λ j lt has.
                let old = old-cluster count starts S (start_of links j) count w.starts (f.reached j lt) has in
                let less = f.below (start_of links j) count old in omega (arith, less);
          },
        )
        )
  ];
  order = λ link k lower lt has less. elim (w.starts.each (start_of links link)) [
    | inl same ↦ (
        let o = f.order link k lower lt (sym same ∙ has) less in (o.0, o.1, kept count starts S (start_of links o.0) lower w.starts o.2)
        )
    | inr got ↦ (
        let e : count ≡ k = same-some (cluster_at S (start_of links link)) count k got.has has in
        let found = f.first lower (omega (arith, less, e)) in
        let behind : i ≤ link = not-before links i count starts ends link f got.had in
        (found.0, omega (arith, found.1, behind), kept count starts S (start_of links found.0) lower w.starts found.2.here)
        )
  ];
}

-- no end has the next cluster, since a start would have it too
pub ends-unused :
    (links : List Edge) (i count : ℕ) (starts ends : List (Option ℕ)) → AreFound links i count starts ends → IsUnused count ends
ends-unused links i count starts ends f node has =
    let e = f.ended node count has in
    let leads : Leads links (start_of links e.0) node = record { number = e.0; within = e.1; begins = refl; ends = e.2 } in
    let less = f.below (start_of links e.0) count ((f.settled (start_of links e.0) node count leads).1 has) in omega (arith, less)

-- the clusters of ends are below their count
pub ends-below :
    (links : List Edge) (i count : ℕ) (starts ends : List (Option ℕ)) (node cluster : ℕ) → AreFound links i count starts ends
    → cluster_at ends node ≡ Some cluster → cluster < count
ends-below links i count starts ends node cluster f has =
    let e = f.ended node cluster has in
    let leads : Leads links (start_of links e.0) node = record { number = e.0; within = e.1; begins = refl; ends = e.2 } in
    f.below (start_of links e.0) cluster ((f.settled (start_of links e.0) node cluster leads).1 has)
