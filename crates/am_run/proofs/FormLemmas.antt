-- The words are one command; what the inputs of a command come to has one status. A command owes a case in each of these.
use Rattle.std.proofs.Common.{refl, sym, ap, subst, ◌∙◌, ◌≡◌, ℕ, List, ◌∷◌, Option, Some, None, codes}
use Rattle.std.specs.Prelude.{bytes_eq, cond}
use Rattle.am_run.specs.Forms.{Kind, Command, SaysCommand, IsNoCommand, form}
use Rattle.am_run.specs.Forms.Kind.{Linking, Showing, Checking, Clustering, MarkingPackets, Stripping, Metering, Auditing, Gathering, Simulating}
use Rattle.am_chain.specs.WordForms.{DomainFile, SaysDomainFile}
use Rattle.am_run.specs.commands.Link.{Link, SaysLinkWords}
use Rattle.am_run.specs.commands.Loss.{Loss, SaysLossWords}
use Rattle.am_run.specs.commands.Meter.{Meter, SaysMeterWords}
use Rattle.am_run.specs.commands.Sim.{Sim, SaysSimWords}

-- the command that a word names
named : List ℕ → Option Kind
named word =
    cond (bytes_eq word (codes "link")) (Some Linking)
    (cond (bytes_eq word (codes "show")) (Some Showing)
    (cond (bytes_eq word (codes "check")) (Some Checking)
    (cond (bytes_eq word (codes "clusters")) (Some Clustering)
    (cond (bytes_eq word (codes "mark")) (Some MarkingPackets)
    (cond (bytes_eq word (codes "strip")) (Some Stripping)
    (cond (bytes_eq word (codes "meter")) (Some Metering)
    (cond (bytes_eq word (codes "audit")) (Some Auditing)
    (cond (bytes_eq word (codes "loss")) (Some Gathering)
    (cond (bytes_eq word (codes "sim")) (Some Simulating) None)))))))))

verb-named : (k : Kind) → named (form k).verb ≡ Some k
unfolding named
verb-named Linking = refl
verb-named Showing = refl
verb-named Checking = refl
verb-named Clustering = refl
verb-named MarkingPackets = refl
verb-named Stripping = refl
verb-named Metering = refl
verb-named Auditing = refl
verb-named Gathering = refl
verb-named Simulating = refl

-- the words of `link` by their parts
abbrev made : ℕ → ℕ → ℕ → List ℕ → List ℕ → Link
made block shift flow up down = record { block = block; shift = shift; flow = flow; up = up; down = down }

link-once : (words : List (List ℕ)) (l k : Link) → SaysLinkWords words l → SaysLinkWords words k → l ≡ k
link-once words l k s t =
    let same = sym s.spelled ∙ t.spelled in
    let block : l.block ≡ k.block = cc (same, s.numbers.block.value, t.numbers.block.value) in
    let shift : l.shift ≡ k.shift = cc (same, s.numbers.shift.value, t.numbers.shift.value) in
    let flow : l.flow ≡ k.flow = cc (same, s.numbers.flow.value, t.numbers.flow.value) in
    let up : l.up ≡ k.up = cc (same) in
    let down : l.down ≡ k.down = cc (same) in
    ap (λ x. made x l.shift l.flow l.up l.down) block ∙ ap (λ x. made k.block x l.flow l.up l.down) shift
    ∙ ap (λ x. made k.block k.shift x l.up l.down) flow ∙ ap (λ x. made k.block k.shift k.flow x l.down) up
    ∙ ap (λ x. made k.block k.shift k.flow k.up x) down

-- the words DOMAIN FILE by their parts
abbrev named_so : List ℕ → List ℕ → DomainFile
named_so domain file = record { domain = domain; file = file }

domain-file-once : (words : List (List ℕ)) (a b : DomainFile) → SaysDomainFile words a → SaysDomainFile words b → a ≡ b
domain-file-once words a b s t =
    let same = sym s.spelled ∙ t.spelled in
    let domain : a.domain ≡ b.domain = cc (same) in
    let file : a.file ≡ b.file = cc (same) in
    ap (λ x. named_so x a.file) domain ∙ ap (λ x. named_so b.domain x) file

-- the words DOMAIN NODE by their parts
abbrev asked_so : List ℕ → List ℕ → Meter
asked_so domain node = record { domain = domain; node = node }

meter-once : (words : List (List ℕ)) (a b : Meter) → SaysMeterWords words a → SaysMeterWords words b → a ≡ b
meter-once words a b s t =
    let same = sym s.spelled ∙ t.spelled in
    let domain : a.domain ≡ b.domain = cc (same) in
    let node : a.node ≡ b.node = cc (same) in
    ap (λ x. asked_so x a.node) domain ∙ ap (λ x. asked_so b.domain x) node

-- the words DOMAIN REPORT.. by their parts
abbrev gathered_so : List ℕ → List (List ℕ) → Loss
gathered_so domain reports = record { domain = domain; reports = reports }

loss-once : (words : List (List ℕ)) (a b : Loss) → SaysLossWords words a → SaysLossWords words b → a ≡ b
loss-once words a b s t =
    let same = sym s.spelled ∙ t.spelled in
    let domain : a.domain ≡ b.domain = cc (same) in
    let reports : a.reports ≡ b.reports = cc (same) in
    ap (λ x. gathered_so x a.reports) domain ∙ ap (λ x. gathered_so b.domain x) reports

-- the words DOMAIN NUMBER PACKETS by their parts
abbrev made_so : List ℕ → ℕ → ℕ → Sim
made_so domain number packets = record { domain = domain; number = number; packets = packets }

sim-once : (words : List (List ℕ)) (a b : Sim) → SaysSimWords words a → SaysSimWords words b → a ≡ b
sim-once words a b s t =
    let same = sym s.spelled ∙ t.spelled in
    let domain : a.domain ≡ b.domain = cc (same) in
    let number : a.number ≡ b.number = cc (same, s.number.value, t.number.value) in
    let packets : a.packets ≡ b.packets = cc (same, s.packets.value, t.packets.value) in
    ap (λ x. made_so x a.number a.packets) domain ∙ ap (λ x. made_so b.domain x a.packets) number ∙ ap (λ x. made_so b.domain b.number x) packets

-- the words after the first say one thing
once : (k : Kind) (words : List (List ℕ)) (a b : (form k).Asked) → (form k).says words a → (form k).says words b → a ≡ b
once Linking words a b s t = link-once words a b s t
once Showing words a b s t = let same : a.file ≡ b.file = cc (sym s.spelled ∙ t.spelled) in ap (λ f. record { file = f }) same
once Checking words a b s t = let same : a.file ≡ b.file = cc (sym s.spelled ∙ t.spelled) in ap (λ f. record { file = f }) same
once Clustering words a b s t = let same : a.file ≡ b.file = cc (sym s.spelled ∙ t.spelled) in ap (λ f. record { file = f }) same
once MarkingPackets words a b s t = domain-file-once words a b s t
once Stripping words a b s t = domain-file-once words a b s t
once Metering words a b s t = meter-once words a b s t
once Auditing words a b s t = let same : a.file ≡ b.file = cc (sym s.spelled ∙ t.spelled) in ap (λ f. record { file = f }) same
once Gathering words a b s t = loss-once words a b s t
once Simulating words a b s t = sim-once words a b s t

-- what holds of one command that the words are holds of the other
pub says-once : (P : Command → Type 0) (words : List (List ℕ)) (c d : Command) → SaysCommand words c → SaysCommand words d → P c → P d
says-once P words c d s t p =
    let both : (form c.kind).verb ∷ s.rest ≡ (form d.kind).verb ∷ t.rest = sym s.verb ∙ t.verb in
    let verbs : (form c.kind).verb ≡ (form d.kind).verb = cc (both) in
    let rests : s.rest ≡ t.rest = cc (both) in
    let some : Some c.kind ≡ Some d.kind = sym (verb-named c.kind) ∙ ap named verbs ∙ verb-named d.kind in
    let kinds : c.kind ≡ d.kind = cc (some) in
    let says : (form c.kind).says t.rest c.asked = subst (λ ws. (form c.kind).says ws c.asked) rests s.asked in
    let here : (b : (form c.kind).Asked) → (form c.kind).says t.rest b → P (record { kind = c.kind; asked = b }) =
    λ b other. subst (λ x. P (record { kind = c.kind; asked = x })) (once c.kind t.rest c.asked b says other) p in
    subst (λ k. (b : (form k).Asked) → (form k).says t.rest b → P (record { kind = k; asked = b })) kinds here d.asked t.asked

-- a word names one command; where what follows it says nothing of it, the words are no command
pub none-named :
    (k : Kind) (verb : List ℕ) (words : List (List ℕ)) → verb ≡ (form k).verb → ((a : (form k).Asked) → (form k).says words a → ⊥)
    → IsNoCommand (verb ∷ words)
none-named k verb words is none = λ c s.
    let verbs : (form k).verb ≡ (form c.kind).verb = cc (s.verb, is) in
    let rests : s.rest ≡ words = cc (s.verb) in
    let some : Some k ≡ Some c.kind = sym (verb-named k) ∙ ap named verbs ∙ verb-named c.kind in
    let kinds : k ≡ c.kind = cc (some) in
    let says : (form c.kind).says words c.asked = subst (λ ws. (form c.kind).says ws c.asked) rests s.asked in
    subst (λ j. (a : (form j).Asked) → (form j).says words a → ⊥) kinds none c.asked says
