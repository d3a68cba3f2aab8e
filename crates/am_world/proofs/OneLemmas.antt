-- A number makes one world: what is drawn decides each event.
use Rattle.std.proofs.Common.{◌≡◌, ◌≢◌, ◌∙◌, ◌⊎◌, ℕ, zero, suc, ◌<◌, Bool, true, false, List, [], ◌∷◌, ◌++◌, length, refl, sym, ap, subst, arith, inl, inr}
use Rattle.std.specs.Prelude.{◌↔◌, IsTrue, All}
use Rattle.std.proofs.lemmas.Bool.{false≢true}
use Rattle.am_domain.specs.Domains.{DomainValue}
use Rattle.am_graph.specs.Graphs.{end_of}
use Rattle.am_world.specs.declared.generating.Way.{Way}
use Rattle.am_world.specs.declared.generating.TheConstants.{MAX_HOPS, LOSS_ODDS}
use Rattle.am_world.specs.declared.event.Event.{Event}
use Rattle.am_world.specs.declared.event.Event.TheVariants.{Send, Hop, Lost}
use Rattle.am_world.specs.Passes.{block_at}
use Rattle.am_world.specs.Generating.{drawn, draw_of, entries, read_at, way_from, way_over, took_drawn, IsBefore, IsLoss, Proceeds, IsPacket, ArePackets, IsMade}

-- a loss leaves one number, and a packet that hops is not lost
one-loss : (w : Way) (x y z : ℕ) → IsLoss w x y → IsLoss w x z → y ≡ z
one-loss w x y z (inl a) (inl b) = a.1 ∙ sym b.1
one-loss w x y z (inl a) (inr b) = let at = a.0 in let below = b.0 in absurd (omega (arith, at, below))
one-loss w x y z (inr a) (inl b) = let at = b.0 in let below = a.0 in absurd (omega (arith, at, below))
one-loss w x y z (inr a) (inr b) = a.2 ∙ sym b.2

no-loss : (w : Way) (x y : ℕ) → w.hops < MAX_HOPS → draw_of LOSS_ODDS x ≢ 0 → IsLoss w x y → ⊥
no-loss w x y few kept (inl a) = let at = a.0 in omega (arith, at, few)
no-loss w x y few kept (inr a) = kept a.1

one-hop : (p q l m t u r s : ℕ) → p ≡ q → l ≡ m → t ≡ u → r ≡ s → Hop p l t r ≡ Hop q m u s
one-hop p q l m t u r s a b c e = cc

-- a packet goes on in one way
module _ (d : DomainValue) where
  goes-one : (w : Way) (x : ℕ) (es : List Event) (y : ℕ) (fs : List Event) (z : ℕ) → Proceeds d w x es y → Proceeds d w x fs z
      → (es ≡ fs) × (y ≡ z)
  goes-one w x [] y [] z g h = (refl, g.1 ∙ sym h.1)
  goes-one w x [] y (Send p f v time reading delay ∷ fs) z g h = absurd h
  goes-one w x [] y (Hop p link time reading ∷ fs) z g h = absurd (false≢true (sym g.0 ∙ h.0))
  goes-one w x [] y (Lost p ∷ fs) z g h = absurd (false≢true (sym g.0 ∙ h.0))
  goes-one w x (Send p f v time reading delay ∷ es) y fs z g h = absurd g
  goes-one w x (Hop p link time reading ∷ es) y [] z g h = absurd (false≢true (sym h.0 ∙ g.0))
  goes-one w x (Hop p link time reading ∷ es) y (Send q f v next read bit ∷ fs) z g h = absurd h
  goes-one w x (Hop p link time reading ∷ es) y (Hop q other next read ∷ fs) z g h =
      let link_is : other ≡ link = h.1.over ∙ sym g.1.over in
      let time_is : time ≡ next = g.1.at_time ∙ sym h.1.at_time in
      let read_is : reading ≡ read = g.1.shown ∙ ap (λ l. read_at d.times (end_of d.links l) time) (sym link_is)
      ∙ ap (λ t. read_at d.times (end_of d.links other) t) time_is ∙ sym h.1.shown in
      let took = took_drawn d w (drawn (drawn x)) in
      let rest = goes-one (way_over d w link took) (drawn (drawn (drawn x))) es y fs z g.2
      (subst (λ l. Proceeds d (way_over d w l took) (drawn (drawn (drawn x))) fs z) link_is h.2) in (
        ap (λ e. e ∷ es) (one-hop p q link other time next reading read (g.1.number ∙ sym h.1.number) (sym link_is) time_is read_is)
            ∙ ap (λ es'. Hop q other next read ∷ es') rest.0,
        rest.1,
      )
  goes-one w x (Hop p link time reading ∷ es) y (Lost q ∷ fs) z g h = absurd (no-loss w x z g.1.few g.1.kept h.2)
  goes-one w x (Lost p ∷ es) y [] z g h = absurd (false≢true (sym h.0 ∙ g.0))
  goes-one w x (Lost p ∷ es) y (Send q f v next read bit ∷ fs) z g h = absurd h
  goes-one w x (Lost p ∷ es) y (Hop q other next read ∷ fs) z g h = absurd (no-loss w x y h.1.few h.1.kept g.2)
  goes-one w x (Lost p ∷ es) y (Lost q ∷ fs) z g h = (
    ap (λ k. Lost k ∷ es) (g.1 ∙ sym h.1) ∙ ap (λ rest. Lost q ∷ rest) (g.3 ∙ sym h.3),
    one-loss w x y z g.2 h.2,
  )

  -- a packet is sent in one way
  one-bit : (a b : Bool) (P : Type 0) → IsTrue a ↔ P → IsTrue b ↔ P → a ≡ b
  one-bit true true P f g = refl
  one-bit false false P f g = refl
  one-bit true false P f g = absurd (false≢true (g.1 (f.0 refl)))
  one-bit false true P f g = absurd (false≢true (f.1 (g.0 refl)))

  packet-one : (packets i : ℕ) (earlier : List Event) (x : ℕ) (es : List Event) (y : ℕ) (fs : List Event) (z : ℕ)
      → IsPacket d packets i earlier x es y → IsPacket d packets i earlier x fs z → (es ≡ fs) × (y ≡ z)
  packet-one packets i earlier x [] y fs z g h = absurd g
  packet-one packets i earlier x (Send p f v time reading delay ∷ es) y [] z g h = absurd h
  packet-one packets i earlier x (Send p f v time reading delay ∷ es) y (Send q f' v' next read bit ∷ fs) z g h =
      let sent = g.0 in
      let other = h.0 in
      let p_is : q ≡ p = other.number ∙ sym sent.number in
      let f_is : f' ≡ f = other.of_flow ∙ sym sent.of_flow in
      let v_is : v' ≡ v = other.at_node ∙ sym sent.at_node in
      let t_is : next ≡ time = other.at_time ∙ sym sent.at_time in
      let r_is : read ≡ reading = other.shown ∙ ap (λ n. read_at d.times n next) v_is
      ∙ ap (λ t. read_at d.times v t) t_is ∙ sym sent.shown in
      let same : IsTrue bit ↔ All (IsBefore d.times f v (block_at d.times reading)) earlier
      = subst (λ r. IsTrue bit ↔ All (IsBefore d.times f v (block_at d.times r)) earlier) r_is
      (subst (λ n. IsTrue bit ↔ All (IsBefore d.times f n (block_at d.times read)) earlier) v_is
      (subst (λ n. IsTrue bit ↔ All (IsBefore d.times n v' (block_at d.times read)) earlier) f_is other.marked)) in
      let b_is : bit ≡ delay
      = one-bit bit delay (All (IsBefore d.times f v (block_at d.times reading)) earlier) same sent.marked in
      let way_is : way_from q v' next ≡ way_from p v time = cc in
      let send_is : Send p f v time reading delay ≡ Send q f' v' next read bit = cc in
      let rest = goes-one (way_from p v time) (drawn (drawn x)) es y fs z g.1
      (subst (λ w. Proceeds d w (drawn (drawn x)) fs z) way_is h.1) in
      (ap (λ e. e ∷ es) send_is ∙ ap (λ es'. Send q f' v' next read bit ∷ es') rest.0, rest.1)
  packet-one packets i earlier x (Send p f v time reading delay ∷ es) y (Hop q link next read ∷ fs) z g h = absurd h
  packet-one packets i earlier x (Send p f v time reading delay ∷ es) y (Lost q ∷ fs) z g h = absurd h
  packet-one packets i earlier x (Hop p link time reading ∷ es) y fs z g h = absurd g
  packet-one packets i earlier x (Lost p ∷ es) y fs z g h = absurd g

  packets-one : (number packets i : ℕ) (a : List Event) (y : ℕ) (b : List Event) (z : ℕ) → ArePackets d number packets i a y
      → ArePackets d number packets i b z → (a ≡ b) × (y ≡ z)
  packets-one number packets zero a y b z g h = (g.0 ∙ sym h.0, g.1 ∙ sym h.1)
  packets-one number packets (suc i) a y b z g h =
      let before = packets-one number packets i g.earlier g.left h.earlier h.left g.made h.made in
      let own = packet-one packets i g.earlier g.left g.more.own y h.more.own z g.more.so
      (subst (λ x. IsPacket d packets i g.earlier x h.more.own z) (sym before.1)
      (subst (λ es. IsPacket d packets i es h.left h.more.own z) (sym before.0) h.more.so)) in
      (g.more.all ∙ ap (λ es. es ++ g.more.own) before.0 ∙ ap (λ es. h.earlier ++ es) own.0 ∙ sym h.more.all, own.1)

  -- so there is one world
  pub made-one : (number packets : ℕ) (a b : List Event) → IsMade d number packets a → IsMade d number packets b → a ≡ b
  made-one number packets a b g h = elim (cases_zero (length (entries d))) [
    | inl none ↦ g.without none ∙ sym (h.without none)
    | inr some ↦
        let left = g.among some in
        let right = h.among some in
        (packets-one number packets packets a left.0 b right.0 left.1 right.1).0
  ]
    where
      cases_zero : (n : ℕ) → (n ≡ 0) ⊎ (0 < n)
      cases_zero zero = inl refl
      cases_zero (suc n) = inr (omega arith)
