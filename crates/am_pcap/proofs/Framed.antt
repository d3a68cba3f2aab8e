-- A record's bytes hold one frame.
use Rattle.std.proofs.Common.{arith, sym, subst, ◌∙◌, ◌≡◌, ℕ, Bool, List, inl, inr}
use Rattle.am_pcap.specs.Frames.{IsFramed, IsTypePlace, TypeSays, VersionSays}
use Rattle.am_pcap.specs.declared.frame.Frame.{Frame}
use Rattle.am_pcap.specs.declared.frame.LinkKind.{LinkKind}
use Rattle.am_pcap.specs.declared.frame.LinkKind.TheVariants.{Ethernet, RawIp, RawIp6}

place-one : (bytes : List ℕ) (a b : ℕ) → IsTypePlace bytes a → IsTypePlace bytes b → a ≡ b
place-one bytes a b (inl p) (inl q) = p.0 ∙ sym q.0
place-one bytes a b (inl p) (inr (inl q)) = absurd (p.1 q.1)
place-one bytes a b (inl p) (inr (inr q)) = absurd (p.1 q.1)
place-one bytes a b (inr (inl p)) (inl q) = absurd (q.1 p.1)
place-one bytes a b (inr (inl p)) (inr (inl q)) = p.0 ∙ sym q.0
place-one bytes a b (inr (inl p)) (inr (inr q)) = absurd (p.2 q.2)
place-one bytes a b (inr (inr p)) (inl q) = absurd (q.1 p.1)
place-one bytes a b (inr (inr p)) (inr (inl q)) = absurd (q.2 p.2)
place-one bytes a b (inr (inr p)) (inr (inr q)) = p.0 ∙ sym q.0

type-one : (bytes : List ℕ) (whole : Bool) (at : ℕ) (f g : Frame) → TypeSays bytes whole at f → TypeSays bytes whole at g → f ≡ g
type-one bytes whole at f g (inl p) (inl q) = p.1 ∙ sym q.1
type-one bytes whole at f g (inl p) (inr (inl q)) = absurd (omega (arith, p.0, q.0))
type-one bytes whole at f g (inl p) (inr (inr q)) = absurd (omega (arith, p.0, q.0))
type-one bytes whole at f g (inr (inl p)) (inl q) = absurd (omega (arith, p.0, q.0))
type-one bytes whole at f g (inr (inl p)) (inr (inl q)) = p.2 ∙ sym q.2
type-one bytes whole at f g (inr (inl p)) (inr (inr q)) = absurd (q.1 p.1)
type-one bytes whole at f g (inr (inr p)) (inl q) = absurd (omega (arith, p.0, q.0))
type-one bytes whole at f g (inr (inr p)) (inr (inl q)) = absurd (p.1 q.1)
type-one bytes whole at f g (inr (inr p)) (inr (inr q)) = p.2 ∙ sym q.2

version-one : (bytes : List ℕ) (whole : Bool) (f g : Frame) → VersionSays bytes whole f → VersionSays bytes whole g → f ≡ g
version-one bytes whole f g (inl p) (inl q) = p.1 ∙ sym q.1
version-one bytes whole f g (inl p) (inr (inl q)) = absurd (omega (arith, p.0, q.0))
version-one bytes whole f g (inl p) (inr (inr q)) = absurd (omega (arith, p.0, q.0))
version-one bytes whole f g (inr (inl p)) (inl q) = absurd (omega (arith, p.0, q.0))
version-one bytes whole f g (inr (inl p)) (inr (inl q)) = p.2 ∙ sym q.2
version-one bytes whole f g (inr (inl p)) (inr (inr q)) = absurd (q.1 p.1)
version-one bytes whole f g (inr (inr p)) (inl q) = absurd (omega (arith, p.0, q.0))
version-one bytes whole f g (inr (inr p)) (inr (inl q)) = absurd (p.1 q.1)
version-one bytes whole f g (inr (inr p)) (inr (inr q)) = p.2 ∙ sym q.2

-- whatever the link type is, one frame stands in the bytes
pub frame-unique : (link : LinkKind) (bytes : List ℕ) (whole : Bool) (f g : Frame) → IsFramed link bytes whole f → IsFramed link bytes whole g → f ≡ g
frame-unique Ethernet bytes whole f g p q =
    let same : p.0 ≡ q.0 = place-one bytes p.0 q.0 p.1 q.1 in
    type-one bytes whole q.0 f g (subst (λ at. TypeSays bytes whole at f) same p.2) q.2
frame-unique RawIp bytes whole f g p q = version-one bytes whole f g p q
frame-unique RawIp6 bytes whole f g p q = p ∙ sym q
