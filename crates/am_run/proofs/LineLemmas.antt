-- The pieces of a line, one after another.
use Rattle.std.proofs.Common.{arith, refl, ◌≡◌, ℕ, ◌+◌, ◌<◌, List, [], ◌∷◌, ◌++◌, length, take, get_or, append_assoc, ap, sym, subst, ◌∙◌}
use Rattle.std.proofs.lemmas.List.{append-nil, length-take, take_more}
use Rattle.am_domain.specs.Values.{FlowValue, NodeValue}
use Rattle.am_domain.specs.Network.{shift_at}
use Rattle.am_domain.specs.Domains.{DomainValue}
use Rattle.am_run.specs.commands.Check.{IsFlowLine, AreFlowLines, node_line, node_lines}
use Rattle.am_run.specs.Checking.{AddsFlow, AddsFlows}

-- the pieces of a flow's line
pub flow_pieces :
    (l0 l1 l2 l3 l4 l5 l6 l7 word name space number source destination end : List ℕ)
    → l1 ≡ l0 ++ word
    → l2 ≡ l1 ++ name
    → l3 ≡ l2 ++ (space ++ (number ++ space))
    → l4 ≡ l3 ++ source
    → l5 ≡ l4 ++ space
    → l6 ≡ l5 ++ destination
    → l7 ≡ l6 ++ end
    → l7 ≡ l0 ++ (word ++ name ++ space ++ number ++ space ++ source ++ space ++ destination ++ end)
flow_pieces l0 l1 l2 l3 l4 l5 l6 l7 word name space number source destination end e1 e2 e3 e4 e5 e6 e7 =
    e7
    ∙ ap (λ x. x ++ end) (e6 ∙ ap (λ x. x ++ destination) (e5 ∙ ap (λ x. x ++ space) (e4 ∙ ap (λ x. x ++ source) (e3 ∙ ap (λ x. x ++ (space ++ (number ++ space))) (e2 ∙ ap (λ x. x ++ name) e1)))))
    ∙ simp append_assoc

-- one more line of a flow
AreFlowLines-more : (fs : List FlowValue) (text : List ℕ) (f : FlowValue) (line : List ℕ) → AreFlowLines fs text → IsFlowLine f line → AreFlowLines (fs ++ f ∷ []) (text ++ line)
AreFlowLines-more [] text f line h l = (line, [], l, refl, ap (λ t. t ++ line) h ∙ sym (append-nil line))
AreFlowLines-more (g ∷ gs) text f line h l =
    (h.0, h.1 ++ line, h.2, AreFlowLines-more gs h.1 f line h.3 l, ap (λ t. t ++ line) h.4 ∙ append_assoc h.0 h.1 line)

-- the lines of the flows so far, and of the next
pub flows_more :
    (fs : List FlowValue) (i : ℕ) (f : FlowValue) (l0 l1 l2 : List ℕ)
    → i < length fs → f ≡ get_or fs i f → AddsFlows (take i fs) l0 l1 → AddsFlow f l1 l2 → AddsFlows (take (i + 1) fs) l0 l2
flows_more fs i f l0 l1 l2 within is before next =
    let front : take i fs ++ f ∷ [] ≡ take (i + 1) fs = ap (λ x. take i fs ++ x ∷ []) is ∙ sym (take_more fs i f within) in
    record {
      lines = before.lines ++ next.line;
      are = subst (λ xs. AreFlowLines xs (before.lines ++ next.line)) front (AreFlowLines-more (take i fs) before.lines f next.line before.are next.is);
      added = next.added ∙ ap (λ x. x ++ next.line) before.added ∙ append_assoc l0 before.lines next.line;
    }

-- one more line of a node
node_lines-more :
    (d : DomainValue) (number : ℕ) (ns : List NodeValue) (n : NodeValue) (last : ℕ) → last ≡ number + length ns
    → node_lines d number (ns ++ n ∷ []) ≡ node_lines d number ns ++ node_line n (shift_at d.times d.nodes d.links last)
node_lines-more d number [] n last is =
    let same : number ≡ last = omega (arith, is) in
    append-nil (node_line n (shift_at d.times d.nodes d.links number)) ∙ ap (λ k. node_line n (shift_at d.times d.nodes d.links k)) same
node_lines-more d number (m ∷ ms) n last is =
    ap (λ x. node_line m (shift_at d.times d.nodes d.links number) ++ x) (node_lines-more d (number + 1) ms n last (omega (arith, is)))
    ∙ sym (append_assoc (node_line m (shift_at d.times d.nodes d.links number)) (node_lines d (number + 1) ms) (node_line n (shift_at d.times d.nodes d.links last)))

-- the lines of the nodes so far, and of the next
pub nodes_more :
    (d : DomainValue) (nodes : List NodeValue) (i : ℕ) (n : NodeValue) (shift : ℕ) (l0 l1 l2 : List ℕ)
    → nodes ≡ d.nodes → i < length nodes → n ≡ get_or nodes i n → shift ≡ shift_at d.times d.nodes d.links i
    → l1 ≡ l0 ++ node_lines d 0 (take i d.nodes) → l2 ≡ l1 ++ node_line n shift
    → l2 ≡ l0 ++ node_lines d 0 (take (i + 1) d.nodes)
nodes_more d nodes i n shift l0 l1 l2 same within is shifted before next =
    let inside : i < length d.nodes = omega (arith, within, ap length same) in
    let here : n ≡ get_or d.nodes i n = is ∙ ap (λ x. get_or x i n) same in
    let front : take i d.nodes ++ n ∷ [] ≡ take (i + 1) d.nodes = ap (λ x. take i d.nodes ++ x ∷ []) here ∙ sym (take_more d.nodes i n inside) in
    let long : i ≡ 0 + length (take i d.nodes) = omega (arith, length-take i d.nodes, inside) in
    let lines : node_lines d 0 (take i d.nodes) ++ node_line n (shift_at d.times d.nodes d.links i) ≡ node_lines d 0 (take (i + 1) d.nodes) =
    sym (node_lines-more d 0 (take i d.nodes) n i long) ∙ ap (λ x. node_lines d 0 x) front in
    next ∙ ap (λ x. x ++ node_line n shift) before ∙ append_assoc l0 (node_lines d 0 (take i d.nodes)) (node_line n shift)
    ∙ ap (λ x. l0 ++ (node_lines d 0 (take i d.nodes) ++ node_line n x)) shifted ∙ ap (λ x. l0 ++ x) lines
