-- What the inputs of a command come to has one status. A command owes a case.
use Rattle.std.proofs.Common.{subst, ◌≡◌, ℕ, List, [], ◌∷◌, ◌++◌, Option, Some, None, drop, inl, inr}
use Rattle.std.specs.Prelude.{Result, Ok}
use Rattle.am_base.specs.Shelves.{Told}
use Rattle.am_ip6.specs.declared.marks.Place.TheVariants.{HopByHop}
use Rattle.am_run.specs.Forms.{Kind, form}
use Rattle.am_run.specs.Forms.Kind.{Linking, Showing, Checking, Clustering, MarkingPackets, Stripping, Metering, Auditing, Gathering, Simulating}
use Rattle.am_chain.specs.Inputs.{JudgesCapture, JudgesDomain, JudgesReport}
use Rattle.am_chain.specs.Gathering.{node_without}
use Rattle.am_domain.specs.Domains.{DomainValue, IsLawful}
use Rattle.am_report.specs.Rows.{node_name}
use Rattle.am_report.specs.declared.read.Report.{Report}
use Rattle.am_chain.specs.Answers.{Reason}
use Rattle.am_chain.specs.Answers.Reason.{UnknownNode, NoReport}
use Rattle.am_chain.specs.Chains.{Stream, Chain, Judged}
use Rattle.am_chain.specs.Chains.Chain.{Reads, Streams}
use Rattle.am_run.specs.NodeWords.{at_node, node_named}
use Rattle.am_meter.specs.MeteredFiles.{capture_of}
use Rattle.am_run.specs.Laws.{Laws, IsOne, AreOneFrame}
use Rattle.am_run.specs.commands.Show.{record_lines}
use Rattle.am_chain.specs.Answers.Ending.{Done}
use Rattle.am_domain.specs.Values.{NodeValue}
use Rattle.am_meter.specs.declared.stream.Marked.{Marked}
use Rattle.am_run.specs.commands.Audit.{audit_from}
use Rattle.am_run.specs.commands.Loss.{loss_from, loss_of_all}
use Rattle.am_run.specs.commands.Meter.{report_chain}
use Rattle.am_run.specs.commands.Mark.{marked_records, RefusesMark, marks}
use Rattle.am_run.specs.commands.Strip.{stripped_records}
use Rattle.am_run.proofs.EndingLemmas.{SameEnds, StreamExcludes, both-on-file, same-reads, same-prints, same-writes, same-refuses, same-streams}
use Rattle.am_pcap.specs.Packets.{Packet}
use Rattle.am_pcap.specs.declared.head.Head.{Head}
use Rattle.am_run.specs.Rewriting.{IsOfFlow}
use Rattle.am_run.proofs.RewriteLemmas.{rewritten-at}
use Rattle.am_insert.specs.Inserting.{IsOpen}
use Rattle.am_pcap.specs.CaptureFiles.{is_whole}
use Rattle.am_pcap.specs.declared.frame.Frame.TheVariants.{Ip6}

-- a packet begins at one place of its record
one-place : (d : DomainValue) (h : Head) (p : Packet) (a b m n : ℕ) → AreOneFrame → IsOfFlow d h.link p a m → IsOfFlow d h.link p b n → a ≡ b
one-place d h p a b m n frames f g = let same = frames h.link p.bytes (is_whole p) (Ip6 a) (Ip6 b) f.packet.framed g.packet.framed in cc (same)

-- a record that got its mark, or that is of no flow, is not refused
not-both : (d : DomainValue) (h : Head) (ps : List Packet) (p q : Packet) (reason : Reason) → AreOneFrame → marks d h ps p q → RefusesMark d h ps p reason → ⊥
not-both d h ps p q reason frames m r = elim m [
  | inl g ↦
      let same = one-place d h p g.at r.0 g.number r.1 frames g.of_flow r.2 in
      elim r.3 [
        | inl x ↦ subst (λ a. IsOpen (drop a p.bytes) (is_whole p) d.kind) same g.unhindered x.0 x.2.hinders
        | inr x ↦ g.room x.2
      ]
  | inr none ↦ none.0 r.0 r.1 r.2
]

-- a capture that is printed whole with its marks has no record that is refused
pub marks-exclude : (d : DomainValue) → Laws → StreamExcludes (marked_records d)
marks-exclude d laws = record {
  never = λ h ps p more reason text refused all.
      let at = rewritten-at (marks d) h [] ps p more all.records all.rewritten in
      not-both d h ps p at.0 reason laws.frames at.1 refused;
}

-- what is taken of one file twice is one thing
pub both-judged :
    {A : Type 0} (t : Told) (name : List ℕ) (judge : List ℕ → Result A Reason → Type 0) → IsOne judge
    → (a b : A) → Judged (Some t) name judge (Ok a) → Judged (Some t) name judge (Ok b) → a ≡ b
both-judged t name judge one a b p q = both-on-file t name (λ bytes. judge bytes (Ok a)) (λ bytes. judge bytes (Ok b)) p q (λ bytes x y. one.same bytes a b x y)

-- one domain, and one stream by it
same-rewritten :
    (t : Told) (name : List ℕ) (stream : DomainValue → Stream) → Laws → (d e : DomainValue) → d ≡ e → StreamExcludes (stream d)
    → SameEnds t (Streams name (stream d)) (Streams name (stream e))
same-rewritten t name stream laws d e is x =
    subst (λ b. SameEnds t (Streams name (stream d)) (Streams name (stream b))) is (same-streams t name (stream d) laws.capture x)

-- what comes after one domain, where it comes to one status for each
same-for-one :
    (t : Told) (name : List ℕ) (next : DomainValue → Chain) → Laws → ((d : DomainValue) → SameEnds t (next d) (next d))
    → SameEnds t (Reads DomainValue name JudgesDomain next) (Reads DomainValue name JudgesDomain next)
same-for-one t name next laws each =
    same-reads t name JudgesDomain next next laws.domain
    (λ d e p q. subst (λ b. SameEnds t (next d) (next b)) (both-judged t name JudgesDomain laws.one_domain d e p q) (each d))

same-at-node :
    (t : Told) (node : Option ℕ) (next : ℕ → Chain) → ((n : ℕ) → SameEnds t (next n) (next n)) → SameEnds t (at_node node next) (at_node node next)
same-at-node t None next each = same-refuses t None None UnknownNode UnknownNode
same-at-node t (Some n) next each = each n

same-reported : (t : Told) (d : DomainValue) (node : ℕ) → Laws → SameEnds t (report_chain d node) (report_chain d node)
same-reported t d node laws =
    same-reads t (capture_of d node) (JudgesCapture d.kind) _ _ (laws.marks d.kind) (λ ms ns p q. same-prints t _ _)

same-audited :
    (t : Told) (d : DomainValue) → Laws → (ns : List NodeValue) (xs ys : List (List Marked)) → SameEnds t (audit_from d ns xs) (audit_from d ns ys)
same-audited t d laws [] xs ys = same-writes t Done _ _
same-audited t d laws (n ∷ ns) xs ys =
    same-reads t n.capture (JudgesCapture d.kind) _ _ (laws.marks d.kind) (λ ms ls p q. same-audited t d laws ns (xs ++ ms ∷ []) (ys ++ ls ∷ []))

same-of-all : (t : Told) (d : DomainValue) (taken : List Report) (node : Option ℕ) → SameEnds t (loss_of_all d taken node) (loss_of_all d taken node)
same-of-all t d taken None = same-writes t Done _ _
same-of-all t d taken (Some node) = same-refuses t None None (NoReport (node_name d node)) (NoReport (node_name d node))

same-gathered :
    (t : Told) (d : DomainValue) → Laws → IsLawful d → (names : List (List ℕ)) (taken : List Report)
    → SameEnds t (loss_from d names taken) (loss_from d names taken)
same-gathered t d laws lawful [] taken = same-of-all t d taken (node_without d taken)
same-gathered t d laws lawful (name ∷ names) taken =
    same-reads t name (JudgesReport d taken) _ _ (laws.reports d taken lawful)
    (λ r s p q. subst (λ (b : Report). SameEnds t (loss_from d names (taken ++ r ∷ [])) (loss_from d names (taken ++ b ∷ [])))
    (both-judged t name (JudgesReport d taken) (laws.one_report d taken lawful) r s p q) (same-gathered t d laws lawful names (taken ++ r ∷ [])))

-- two chains of one command come to one status
pub settled : (t : Told) (k : Kind) (a : (form k).Asked) → Laws → SameEnds t ((form k).chain a) ((form k).chain a)
settled t Linking a laws =
    same-reads t a.up (JudgesCapture HopByHop) _ _ (laws.marks HopByHop)
    (λ ups more p q. same-reads t a.down (JudgesCapture HopByHop) _ _ (laws.marks HopByHop) (λ downs less r s. same-prints t _ _))
settled t Showing a laws =
    let x : StreamExcludes record_lines = record { never = λ h ps p more reason text refused all. refused } in
    same-streams t a.file record_lines laws.capture x
settled t Checking a laws = same-reads t a.file JudgesDomain _ _ laws.domain (λ d e p q. same-prints t _ _)
settled t Clustering a laws = same-reads t a.file JudgesDomain _ _ laws.domain (λ d e p q. same-prints t _ _)
settled t MarkingPackets a laws =
    same-reads t a.domain JudgesDomain _ _ laws.domain
    (λ d e p q. same-rewritten t a.file marked_records laws d e (both-judged t a.domain JudgesDomain laws.one_domain d e p q) (marks-exclude d laws))
settled t Stripping a laws =
    same-reads t a.domain JudgesDomain _ _ laws.domain
    (λ d e p q. same-rewritten t a.file stripped_records laws d e (both-judged t a.domain JudgesDomain laws.one_domain d e p q)
    (record { never = λ h ps p more reason text refused all. refused }))
settled t Metering a laws =
    same-for-one t a.domain _ laws (λ d. same-at-node t (node_named d a.node) (report_chain d) (λ node. same-reported t d node laws))
settled t Auditing a laws = same-for-one t a.file _ laws (λ d. same-audited t d laws d.nodes [] [])
settled t Gathering a laws =
    same-reads t a.domain JudgesDomain _ _ laws.domain
    (λ d e p q. subst (λ (b : DomainValue). SameEnds t (loss_from d a.reports []) (loss_from b a.reports []))
    (both-judged t a.domain JudgesDomain laws.one_domain d e p q) (same-gathered t d laws (laws.lawful p.0 d p.2) a.reports []))
settled t Simulating a laws = same-reads t a.domain JudgesDomain _ _ laws.domain (λ d e p q. same-prints t _ _)
