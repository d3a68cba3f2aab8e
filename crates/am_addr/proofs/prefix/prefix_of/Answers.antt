use Rattle.std.proofs.Common.{sym, subst, ◌≡◌, ◌≤◌, List, ℕ}
use Rattle.am_addr.specs.Bits.{cleared}
use Rattle.am_addr.proofs.Bytes.{cleared_again}
use Rattle.am_addr.proofs.prefix.prefix_of.Goals as goal

pub invariant_of-result : goal.invariant_of-result
invariant_of-result c =
    let again = cleared_again c.args.length c.args.addr.now.0 in
    let cut = subst (λ (t : List ℕ). cleared c.args.length t ≡ t) (sym c.front_of.ensures) again in
    subst (λ m. (m ≤ 128) × (cleared m c.front_of.result.0 ≡ c.front_of.result.0)) (sym c.new.ensures) (c.requires, cut)
