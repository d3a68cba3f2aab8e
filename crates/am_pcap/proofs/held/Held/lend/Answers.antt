-- The bytes that are lent are the front of those that are held, which is the record.
use Rattle.std.proofs.Common.{arith, refl, sym, ap, subst, ◌∙◌, ◌≡◌, ◌+◌, ◌-◌, length, take, drop}
use Rattle.am_pcap.specs.Packets.{word, IsWhole, first_packet}
use Rattle.am_pcap.proofs.Fronts.{front-whole, front-first}
use Rattle.am_pcap.proofs.Chunked.{later, front-held}
use Rattle.am_pcap.proofs.held.Held.lend.Goals as goal

pub record_in-requires-clause-whole : goal.record_in-requires-clause-whole
record_in-requires-clause-whole c =
    let front = ap (λ x. take (c.self.inside.from + (16 + c.args.n) - c.self.inside.from) (drop c.self.inside.from x)) c.deref.ensures.value
    ∙ front-held c.self.inside.chunk.items c.args.self.now c.self.inside.from c.self.inside.end (16 + c.args.n) c.self.view_is c.self.invariant
    (omega (arith, c.requires.whole.body, c.requires.behind)) in
    subst (λ x. IsWhole c.args.big x) (sym front) (front-whole c.args.big c.args.self.now c.args.n c.requires.whole c.requires.behind).whole

pub record_in-requires-clause-ends : goal.record_in-requires-clause-ends
record_in-requires-clause-ends c =
    let front = ap (λ x. take (c.self.inside.from + (16 + c.args.n) - c.self.inside.from) (drop c.self.inside.from x)) c.deref.ensures.value
    ∙ front-held c.self.inside.chunk.items c.args.self.now c.self.inside.from c.self.inside.end (16 + c.args.n) c.self.view_is c.self.invariant
    (omega (arith, c.requires.whole.body, c.requires.behind)) in
    subst (λ x. length x ≡ 16 + word c.args.big x 8) (sym front) (front-whole c.args.big c.args.self.now c.args.n c.requires.whole c.requires.behind).ends

pub returns : goal.returns
returns c =
    let front = ap (λ x. take (c.self.inside.from + (16 + c.args.n) - c.self.inside.from) (drop c.self.inside.from x)) c.deref.ensures.value
    ∙ front-held c.self.inside.chunk.items c.args.self.now c.self.inside.from c.self.inside.end (16 + c.args.n) c.self.view_is c.self.invariant
    (omega (arith, c.requires.whole.body, c.requires.behind)) in (
      (
        refl,
        (λ _. tt),
        later c.self.inside.chunk.items c.args.self.now c.self.inside.from c.self.inside.end (16 + c.args.n) c.self.view_is c.self.invariant
            (omega (arith, c.requires.whole.body, c.requires.behind)),
      ),
      record {
        leaves = tt;
        packet = c.record_in.ensures.packet ∙ ap (λ x. first_packet c.args.big x) front
            ∙ front-first c.args.big c.args.self.now c.args.n c.requires.whole c.requires.behind;
        number = c.record_in.ensures.number;
      },
    )
