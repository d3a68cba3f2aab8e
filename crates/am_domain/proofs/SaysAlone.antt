-- What a table says is one thing alone.
use Rattle.std.proofs.Common.{◌≡◌, ℕ, List, [], ◌∷◌, Option, Some, subst, sym, ap, ◌∙◌, refl, inl, inr, pos}
use Rattle.std.specs.List.{AllZip}
use Rattle.toml.specs.Data.{Data, string, integer, Members}
use Rattle.toml.specs.View.{items_of}
use Rattle.am_clock.specs.Times.{Times}
use Rattle.am_ip6.specs.declared.marks.Place.{Place}
use Rattle.am_ip6.specs.declared.marks.Place.TheVariants.{HopByHop, Destination}
use Rattle.am_domain.specs.Values.{FlowValue, NodeValue, LinkValue}
use Rattle.am_addr.specs.Bits.{Span, IsPrefixText}
use Rattle.am_domain.specs.Texts.{IsPrefixAt, IsWorkersAt, IsPlaceAt}
use Rattle.am_domain.specs.Tables.{SaysFlow, SaysNode, SaysLink}
use Rattle.am_domain.specs.Entries.{IsTableOf, AreEntries}
use Rattle.am_domain.specs.Fields.{FieldsValue, MarkingValue, SaysTimes, SaysMarking, IsTableAt, Says}
use Rattle.am_domain.proofs.FirstAlone.{same_items}

number_same : (at : Option Data) (m n : ℕ) → at ≡ Some (integer (pos m)) → at ≡ Some (integer (pos n)) → m ≡ n
number_same at m n a b = cc (a, b)

text_same : (at : Option Data) (s t : List ℕ) → at ≡ Some (string s) → at ≡ Some (string t) → s ≡ t
text_same at s t a b = cc (a, b)

workers_same : (at : Option Data) (m n : ℕ) → IsWorkersAt at m → IsWorkersAt at n → m ≡ n
workers_same at m n (inl a) (inl b) = a.1 ∙ sym b.1
workers_same at m n (inl a) (inr b) = cc (a.0, b.0)
workers_same at m n (inr a) (inl b) = cc (a.0, b.0)
workers_same at m n (inr a) (inr b) = number_same at m n a.0 b.0

place_same : (at : Option Data) (p q : Place) → IsPlaceAt at p → IsPlaceAt at q → p ≡ q
place_same at HopByHop HopByHop a b = refl
place_same at HopByHop Destination a b = cc (a, b)
place_same at Destination HopByHop a b = cc (a, b)
place_same at Destination Destination a b = refl

-- each text stands for one prefix alone
abbrev pub OnePrefix : Type 0
OnePrefix = (text : List ℕ) (a b : Span) → IsPrefixText text a → IsPrefixText text b → a ≡ b

prefix_same : OnePrefix → (at : Option Data) (a b : Span) → IsPrefixAt at a → IsPrefixAt at b → a ≡ b
prefix_same one at a b p q = one q.0 a b (subst (λ (t : List ℕ). IsPrefixText t a) (text_same at p.0 q.0 p.1 q.1) p.2) q.2

flow_same : OnePrefix → (ms : Members) (a b : FlowValue) → SaysFlow ms a → SaysFlow ms b → a ≡ b
flow_same one ms a b p q =
    let name = text_same _ a.name b.name p.name.0 q.name.0 in
    let id = number_same _ a.id b.id p.id.0 q.id.0 in
    let source = prefix_same one _ a.source b.source p.source q.source in
    let destination = prefix_same one _ a.destination b.destination p.destination q.destination in
    λ i. record { name = name i; id = id i; source = source i; destination = destination i }

node_same : (ms : Members) (a b : NodeValue) → SaysNode ms a → SaysNode ms b → a ≡ b
node_same ms a b p q =
    let name = text_same _ a.name b.name p.name.0 q.name.0 in
    let capture = text_same _ a.capture b.capture p.capture.0 q.capture.0 in
    let from = number_same _ a.from b.from p.from.0 q.from.0 in
    let until = number_same _ a.until b.until p.until.0 q.until.0 in
    λ i. record { name = name i; capture = capture i; from = from i; until = until i }

link_same : (ms : Members) (a b : LinkValue) → SaysLink ms a → SaysLink ms b → a ≡ b
link_same ms a b p q =
    let from = text_same _ a.from b.from p.from.0 q.from.0 in
    let to = text_same _ a.to b.to p.to.0 q.to.0 in
    λ i. record { from = from i; to = to i }

times_same : (ms : Members) (a b : Times) → SaysTimes ms a → SaysTimes ms b → a ≡ b
times_same ms a b p q =
    let block = number_same _ a.block b.block p.block q.block in
    let skew = number_same _ a.skew b.skew p.skew q.skew in
    let delay_min = number_same _ a.delay_min b.delay_min p.delay_min q.delay_min in
    let delay_max = number_same _ a.delay_max b.delay_max p.delay_max q.delay_max in
    λ i. record { block = block i; skew = skew i; delay_min = delay_min i; delay_max = delay_max i }

marking_same : (ms : Members) (a b : MarkingValue) → SaysMarking ms a → SaysMarking ms b → a ≡ b
marking_same ms a b p q =
    let kind = place_same _ a.kind b.kind p.place q.place in
    let workers = workers_same _ a.workers b.workers p.workers q.workers in
    λ i. record { kind = kind i; workers = workers i }

table_same : {X : Type 0} (Said : Members → X → Type 0) → ((ms : Members) (a b : X) → Said ms a → Said ms b → a ≡ b) → (at : Option Data) (x y : X) → IsTableAt Said at x → IsTableAt Said at y → x ≡ y
table_same Said alone at x y a b =
    let same : a.ms ≡ b.ms = cc (a.is_table, b.is_table) in
    alone b.ms x y (subst (λ (ms : Members). Said ms x) same a.says) b.says

-- an item says one thing alone
item_same : {X : Type 0} (Said : Members → X → Type 0) → ((ms : Members) (a b : X) → Said ms a → Said ms b → a ≡ b) → (d : Data) (x y : X) → IsTableOf Said d x → IsTableOf Said d y → x ≡ y
item_same Said alone d x y a b =
    let same : a.ms ≡ b.ms = cc (a.is_table, b.is_table) in
    alone b.ms x y (subst (λ (ms : Members). Said ms x) same a.says) b.says

items_same : {X : Type 0} (R : Data → X → Type 0) → ((d : Data) (x y : X) → R d x → R d y → x ≡ y) → (ds : List Data) (xs ys : List X) → AllZip R ds xs → AllZip R ds ys → xs ≡ ys
items_same R alone [] [] [] a b = refl
items_same R alone [] [] (y ∷ ys) a b = absurd b
items_same R alone [] (x ∷ xs) ys a b = absurd a
items_same R alone (d ∷ ds) [] ys a b = absurd a
items_same R alone (d ∷ ds) (x ∷ xs) [] a b = absurd b
items_same R alone (d ∷ ds) (x ∷ xs) (y ∷ ys) a b =
    let heads : x ≡ y = alone d x y a.0 b.0 in
    rw heads (ap (λ t. y ∷ t) (items_same R alone ds xs ys a.1 b.1))

-- an array says one thing alone
entries_same : {X : Type 0} (Said : Members → X → Type 0) → ((ms : Members) (a b : X) → Said ms a → Said ms b → a ≡ b) → (at : Option Data) (xs ys : List X) → AreEntries Said at xs → AreEntries Said at ys → xs ≡ ys
entries_same Said alone at xs ys a b =
    let e : items_of a.items ≡ items_of b.items = cc (a.is_array, b.is_array) in
    items_same (IsTableOf Said) (item_same Said alone) b.items xs ys (subst (λ (ds : List Data). AllZip (IsTableOf Said) ds xs) (same_items a.items b.items e) a.each) b.each

-- a document says one thing alone
pub says_same : OnePrefix → (ms : Members) (a b : FieldsValue) → Says ms a → Says ms b → a ≡ b
says_same one ms a b p q =
    let times = table_same SaysTimes times_same _ a.times b.times p.timing q.timing in
    let marking = table_same SaysMarking marking_same _ a.marking b.marking p.marking q.marking in
    let flows = entries_same SaysFlow (flow_same one) _ a.flows b.flows p.flows q.flows in
    let nodes = entries_same SaysNode node_same _ a.nodes b.nodes p.nodes q.nodes in
    let links = entries_same SaysLink link_same _ a.links b.links p.links q.links in
    λ i. record { times = times i; marking = marking i; flows = flows i; nodes = nodes i; links = links i }
