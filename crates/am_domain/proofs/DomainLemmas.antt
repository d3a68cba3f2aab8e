-- What a file's parts give of the domain that is made of them.
use Rattle.std.proofs.Common.{◌≡◌, ◌≢◌, ℕ, ◌+◌, ◌-◌, ◌*◌, ◌^◌, ◌<◌, ◌≤◌, Bool, true, false, if◌then◌else◌, IsTrue, List, [], ◌∷◌, length, get_or, zero, suc, Option, subst, sym, ap, ◌∙◌, inl, inr, arith, ◌↔◌}
use Rattle.std.proofs.lemmas.Bool.{cases_order}
use Rattle.std.proofs.lemmas.Bool.Decides.{nat_tests}
use Rattle.std.proofs.lemmas.Slice.Zip.{AllZip-long}
use Rattle.std.specs.List.{AllZip}
use Rattle.am_clock.specs.Times.{Times, half, IsTiming, in_window}
use Rattle.toml.specs.Data.{Data, Members}
use Rattle.am_domain.specs.Values.{FlowValue, NodeValue, LinkValue}
use Rattle.am_domain.specs.Texts.{IsName, IsFileName, IsReading, IsWorkersAt}
use Rattle.am_domain.specs.Tables.{SaysFlow, SaysNode}
use Rattle.am_domain.specs.Entries.{IsTableOf}
use Rattle.am_domain.specs.Fields.{FieldsValue, Says}
use Rattle.am_domain.specs.Network.{IsNumberOf, Joins, SameEnds, HasLink, has_links_in, shift_at, IsFirstBlock, IsEndBlock, Covers, IsReported, IsWindowWithin, AreWindowsWithin}
use Rattle.am_domain.specs.Rules.{timed, few_nodes, few_links, few_flows, flow_names_differ, flow_ids_differ, node_names_differ, ends_differ, links_differ, nodes_have_links, Each, AreDistinct, EndsDiffer, SameNodeName}
use Rattle.am_domain.specs.Domains.{DomainValue, SameNodes, IsLinked, IsMadeOf, IsLawful}
use Rattle.am_domain.specs.declared.link.Edge.{Edge}
use Rattle.am_domain.proofs.RuleLemmas.{kept-rule}

-- what each pair gives of its second, each second has
pub zip_each : {A B : Type 0} (R : A → B → Type 0) (P : B → Type 0) → ((x : A) (y : B) → R x y → P y) → (xs : List A) (ys : List B) → AllZip R xs ys → Each P ys
zip_each R P gives [] [] all k d h = absurd (omega arith)
zip_each R P gives [] (y ∷ ys) all k d h = absurd all
zip_each R P gives (x ∷ xs) [] all k d h = absurd all
zip_each R P gives (x ∷ xs) (y ∷ ys) all zero d h = gives x y all.0
zip_each R P gives (x ∷ xs) (y ∷ ys) all (suc k) d h = zip_each R P gives xs ys all.1 k d (omega arith)

-- a file has a node
pub some_node : (ms : Members) (f : FieldsValue) → Says ms f → 0 < length f.nodes
some_node ms f says = omega (arith, says.nodes.some, AllZip-long (IsTableOf SaysNode) says.nodes.items f.nodes says.nodes.each)

workers_within : (at : Option Data) (n : ℕ) → IsWorkersAt at n → (1 ≤ n) × (n ≤ 64)
workers_within at n (inl h) = (omega (arith, h.1), omega (arith, h.1))
workers_within at n (inr h) = (h.1, h.2)

-- ---- links by numbers

any_node : NodeValue
any_node = record { name = []; capture = []; from = 0; until = 0 }

any_link : LinkValue
any_link = record { from = []; to = [] }

-- the pair at a place
zip_at : {A B : Type 0} (R : A → B → Type 0) (xs : List A) (ys : List B) (i : ℕ) (d : A) (e : B) → AllZip R xs ys → i < length ys → R (get_or xs i d) (get_or ys i e)
zip_at R [] [] i d e all h = absurd (omega (arith, h))
zip_at R [] (y ∷ ys) i d e all h = absurd all
zip_at R (x ∷ xs) [] i d e all h = absurd all
zip_at R (x ∷ xs) (y ∷ ys) zero d e all h = all.0
zip_at R (x ∷ xs) (y ∷ ys) (suc i) d e all h = zip_at R xs ys i d e all.1 (omega arith)

-- a number stands for one name
one_name : (nodes : List NodeValue) (s t : List ℕ) (m n : ℕ) → m ≡ n → IsNumberOf nodes s m → IsNumberOf nodes t n → s ≡ t
one_name nodes s t m n same a b = sym (a.here any_node) ∙ ap (λ k. (get_or nodes k any_node).name) same ∙ b.here any_node

-- where names differ, a name stands for one number
one_number : (nodes : List NodeValue) (s : List ℕ) (m n : ℕ) → AreDistinct SameNodeName nodes → IsNumberOf nodes s m → n < length nodes → (get_or nodes n any_node).name ≡ s → m ≡ n
one_number nodes s m n apart a within named =
    elim (cases_order m n) [
      | inl e ↦ e
      | inr h ↦ elim h [
        | inl before ↦ absurd (apart n any_node within m any_node before (a.here any_node ∙ sym named))
        | inr behind ↦ absurd (a.before n any_node behind named)
      ]
    ]

module _ (nodes : List NodeValue) (links : List LinkValue) (edges : List Edge) (joined : AllZip (Joins nodes) links edges) where
  same_length : length edges ≡ length links
  same_length = AllZip-long (Joins nodes) links edges joined

  numbers_differ : Each EndsDiffer links → Each (λ e. e.from ≢ e.to) edges
  numbers_differ apart k d h same =
      let j : Joins nodes (get_or links k any_link) (get_or edges k d) = zip_at (Joins nodes) links edges k any_link d joined h in
      apart k any_link (omega (arith, same_length)) (one_name nodes _ _ _ _ same j.from j.to)

  pairs_differ : AreDistinct SameEnds links → AreDistinct SameNodes edges
  pairs_differ apart j d h i e before same =
      let p : Joins nodes (get_or links i any_link) (get_or edges i e) = zip_at (Joins nodes) links edges i any_link e joined (omega arith) in
      let q : Joins nodes (get_or links j any_link) (get_or edges j d) = zip_at (Joins nodes) links edges j any_link d joined h in
      apart j any_link (omega (arith, same_length)) i any_link before (one_name nodes _ _ _ _ same.0 p.from q.from, one_name nodes _ _ _ _ same.1 p.to q.to)

  linked : AreDistinct SameNodeName nodes → Each (HasLink links) nodes → (node : ℕ) → node < length nodes → IsLinked edges node
  linked apart each node within =
      let has : HasLink links (get_or nodes node any_node) = each node any_node within in
      let inside : has.number < length edges = omega (arith, has.within, same_length) in
      record {
        number = has.number;
        within = inside;
        here = λ d.
            let j : Joins nodes (get_or links has.number any_link) (get_or edges has.number d) = zip_at (Joins nodes) links edges has.number any_link d joined inside in
            elim (has.here any_link) [
              | inl from ↦ inl (one_number nodes _ _ node apart j.from within (sym from))
              | inr to ↦ inr (one_number nodes _ _ node apart j.to within (sym to))
            ];
      }

-- the blocks that begin and end within each span are those that each span covers
covered_at_each : (times : Times) (nodes : List NodeValue) (edges : List Edge) (first end : ℕ) → IsFirstBlock times nodes edges first → IsEndBlock times nodes edges end
    → (n : ℕ) → ((first ≤ n) × (n < end)) ↔ IsReported times nodes edges n
covered_at_each times nodes edges first end starts ends n = (
  λ h k d within reading inside. ((starts n).0 h.0 k d within reading inside, (ends n).0 h.1 k d within reading inside),
  λ all. ((starts n).1 (λ k d within reading inside. (all k d within reading inside).0), (ends n).1 (λ k d within reading inside. (all k d within reading inside).1)),
)

-- ---- windows

-- a shift is 0 or the least delay
either_short : (b : Bool) (n : ℕ) → n ≤ 2 ^ 40 → (if b then n else 0) ≤ 2 ^ 40
either_short true n h = h
either_short false n h = omega arith

shift_short : (t : Times) (nodes : List NodeValue) (links : List Edge) (k : ℕ) → IsTiming t → shift_at t nodes links k ≤ 2 ^ 40
shift_short t nodes links k timing = either_short (has_links_in links k) t.delay_min (omega (arith, timing.in_order, timing.near))

-- a window begins with a reading of its own, which is 0 where the window would begin before
opens : (t : Times) (shift block : ℕ) → IsTiming t → IsTrue (in_window t (block * t.block + shift - half t) shift block)
opens t shift block timing = grind (arith, nat_tests)

-- a window ends with a reading of its own
closes : (t : Times) (shift block : ℕ) → IsTiming t → IsTrue (in_window t (block * t.block + t.block + half t + shift - 1) shift block)
closes t shift block timing = grind (arith, nat_tests)

-- a window of which each reading is in the span lies within it
window_within : (t : Times) (node : NodeValue) (shift block : ℕ) → IsTiming t → Covers t node shift block → IsWindowWithin t node shift block
window_within t node shift block timing covers =
    let from : node.from ≤ block * t.block + shift - half t = (covers _ (opens t shift block timing)).0 in
    let until : block * t.block + t.block + half t + shift - 1 < node.until = (covers _ (closes t shift block timing)).1 in
    record { begins = λ some. omega arith; ends = omega arith }

windows_within : (t : Times) (nodes : List NodeValue) (links : List Edge) (block : ℕ) → IsTiming t → IsReported t nodes links block → AreWindowsWithin t nodes links block
windows_within t nodes links block timing all k d h =
    window_within t (get_or nodes k d) (shift_at t nodes links k) block timing (all k d h)

-- what is made of a file is lawful
pub lawful : (ms : Members) (f : FieldsValue) (d : DomainValue) → Says ms f → IsMadeOf f d → d.first < d.end → length d.flows * (d.end - d.first) ≤ 32768 → IsLawful d
lawful ms f d says made some few =
    let workers = workers_within _ f.marking.workers says.marking.says.workers in
    let kept = kept-rule f made.kept in
    let timing : IsTiming d.times = subst (λ (t : Times). IsTiming t) (sym made.times) (kept timed) in
    let starts : IsFirstBlock d.times d.nodes d.links d.first = rw (made.times, made.nodes) made.laid_out.starts in
    let ends : IsEndBlock d.times d.nodes d.links d.end = rw (made.times, made.nodes) made.laid_out.ends in
    record {
      timing = timing;
      some_worker = omega (arith, workers.0, made.workers);
      few_workers = omega (arith, workers.1, made.workers);
      some_flow = omega (arith, says.flows.some, AllZip-long (IsTableOf SaysFlow) says.flows.items f.flows says.flows.each, ap length made.flows);
      few_flows = omega (arith, (kept few_flows), ap length made.flows);
      few_nodes = omega (arith, (kept few_nodes), ap length made.nodes);
      few_links = omega (arith, (kept few_links), AllZip-long (Joins f.nodes) f.links d.links made.laid_out.joined);
      flow_names = subst (λ (fs : List FlowValue). Each (λ x. IsName x.name) fs) (sym made.flows) (zip_each (IsTableOf SaysFlow) (λ x. IsName x.name) (λ x y r. r.says.name.1) says.flows.items f.flows says.flows.each);
      flow_ids = subst (λ (fs : List FlowValue). Each (λ x. x.id ≤ 1048575) fs) (sym made.flows) (zip_each (IsTableOf SaysFlow) (λ x. x.id ≤ 1048575) (λ x y r. r.says.id.1) says.flows.items f.flows says.flows.each);
      node_names = subst (λ (ns : List NodeValue). Each (λ x. IsName x.name) ns) (sym made.nodes) (zip_each (IsTableOf SaysNode) (λ x. IsName x.name) (λ x y r. r.says.name.1) says.nodes.items f.nodes says.nodes.each);
      captures = subst (λ (ns : List NodeValue). Each (λ x. IsFileName x.capture) ns) (sym made.nodes) (zip_each (IsTableOf SaysNode) (λ x. IsFileName x.capture) (λ x y r. r.says.capture.1) says.nodes.items f.nodes says.nodes.each);
      from_readings = rw made.nodes (zip_each (IsTableOf SaysNode) (λ x. IsReading x.from) (λ x y r. r.says.from.1) says.nodes.items f.nodes says.nodes.each);
      until_readings = rw made.nodes (zip_each (IsTableOf SaysNode) (λ x. IsReading x.until) (λ x y r. r.says.until.1) says.nodes.items f.nodes says.nodes.each);
      flow_names_differ = rw made.flows (kept flow_names_differ);
      flow_ids_differ = rw made.flows (kept flow_ids_differ);
      node_names_differ = rw made.nodes (kept node_names_differ);
      links_within = rw made.nodes (zip_each (Joins f.nodes) (λ e. (e.from < length f.nodes) × (e.to < length f.nodes)) (λ x y r. (r.from.within, r.to.within)) f.links d.links made.laid_out.joined);
      ends_differ = numbers_differ f.nodes f.links d.links made.laid_out.joined (kept ends_differ);
      links_differ = pairs_differ f.nodes f.links d.links made.laid_out.joined (kept links_differ);
      nodes_linked = rw made.nodes (linked f.nodes f.links d.links made.laid_out.joined (kept node_names_differ) (kept nodes_have_links));
      shifts = λ k h. shift_short d.times d.nodes d.links k timing;
      reported = covered_at_each d.times d.nodes d.links d.first d.end starts ends;
      some_block = some;
      few_cells = few;
      starts = starts;
      ends = ends;
      windows = λ block h. windows_within d.times d.nodes d.links block timing ((covered_at_each d.times d.nodes d.links d.first d.end starts ends block).0 h);
    }
