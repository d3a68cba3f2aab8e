-- A word that names a node, or none.
use Rattle.std.proofs.Common.{arith, refl, sym, ap, ◌∙◌, ◌≡◌, ◌≢◌, ℕ, List, length, get_or, Some, None, cond, subst, inl}
use Rattle.std.specs.Prelude.{Bool, true, false, bytes_eq}
use Rattle.std.specs.List.{position_or_len}
use Rattle.std.proofs.Math.Dec.{ltb}
use Rattle.std.proofs.lemmas.Bool.{cond_below, cond_above}
use Rattle.std.proofs.lemmas.List.Sums.{position_or_len_is}
use Rattle.std.proofs.lemmas.Slice.Eq.{bytes_eq-Decides}
use Rattle.am_domain.specs.Domains.{DomainValue}
use Rattle.am_domain.specs.Network.{IsNumberOf, IsNoNode}
use Rattle.am_domain.specs.Values.{NodeValue, no_node}
use Rattle.am_chain.specs.Answers.{Answer}
use Rattle.am_chain.specs.Answers.Answer.{Ended}
use Rattle.am_chain.specs.Answers.Ending.{Refused}
use Rattle.am_chain.specs.Answers.Reason.{UnknownNode}
use Rattle.am_chain.specs.Chains.{Inputs, Output, Chain, Performs}
use Rattle.am_run.specs.NodeWords.{node_named, at_node}

-- whether a node has this name
abbrev is_named : List ℕ → NodeValue → Bool
is_named name n = bytes_eq n.name name

differs : (a b : List ℕ) → a ≢ b → bytes_eq a b ≡ false
differs a b ne =
    let P : Bool → Type 0 = λ v. bytes_eq a b ≡ v → bytes_eq a b ≡ false in
    elim (bytes_eq a b) as P [ true ↦ λ e. absurd (ne ((bytes_eq-Decides a b).0 e)) | false ↦ λ e. e ] refl

place-of-first :
    (nodes : List NodeValue) (name : List ℕ) (number : ℕ) → IsNumberOf nodes name number → position_or_len (is_named name) nodes ≡ number
place-of-first nodes name number is =
    position_or_len_is (is_named name) nodes number no_node (omega (arith, is.within))
    (λ k h. differs (get_or nodes k no_node).name name (is.before k no_node h))
    (λ h. (bytes_eq-Decides (get_or nodes number no_node).name name).1 (is.here no_node))

place-of-none : (nodes : List NodeValue) (name : List ℕ) → IsNoNode nodes name → position_or_len (is_named name) nodes ≡ length nodes
place-of-none nodes name none =
    position_or_len_is (is_named name) nodes (length nodes) no_node (omega arith)
    (λ k h. differs (get_or nodes k no_node).name name (none k no_node h))
    (λ h. absurd (omega (arith, h)))

-- the node whose number was found is the one of that name
found-named : (d : DomainValue) (name : List ℕ) (number : ℕ) → IsNumberOf d.nodes name number → node_named d name ≡ Some number
found-named d name number is =
    ap (λ k. cond (ltb k (length d.nodes)) (Some k) None) (place-of-first d.nodes name number is)
    ∙ sym (cond_below number (length d.nodes) (Some number) None is.within)

-- a name that no node has names none
nobody-named : (d : DomainValue) (name : List ℕ) → IsNoNode d.nodes name → node_named d name ≡ None
nobody-named d name none =
    ap (λ k. cond (ltb k (length d.nodes)) (Some k) None) (place-of-none d.nodes name none)
    ∙ sym (cond_above (length d.nodes) (length d.nodes) (Some (length d.nodes)) None None (omega arith) refl)

-- what is performed for the node of this name
pub node-asked :
    (d : DomainValue) (name : List ℕ) (number : ℕ) (next : ℕ → Chain) (before after : Inputs) (old new : Output) (answer : Answer)
    → IsNumberOf d.nodes name number → Performs before after old new (next number) answer
    → Performs before after old new (at_node (node_named d name) next) answer
node-asked d name number next before after old new answer is p =
    subst (λ o. Performs before after old new (at_node o next) answer) (sym (found-named d name number is)) p

-- what is performed where no node has this name
pub nobody-asked :
    (d : DomainValue) (name : List ℕ) (next : ℕ → Chain) (before : Inputs) (old : Output) (answer : Answer)
    → IsNoNode d.nodes name → answer ≡ Ended (Refused None UnknownNode)
    → Performs before before old old (at_node (node_named d name) next) answer
nobody-asked d name next before old answer none is =
    subst (λ o. Performs before before old old (at_node o next) answer) (sym (nobody-named d name none)) (inl is, refl)
