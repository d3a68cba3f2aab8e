-- The list, the bytes before the packet, and the packet, in which bytes change once the eight came in or went out.
use Rattle.std.proofs.Common.{arith, ap, sym, subst, ◌∙◌, ◌≡◌, ◌+◌, ◌<◌, ◌≤◌, List, ℕ, ◌++◌, length, take, drop, set}
use Rattle.am_insert.specs.Changes.{with_payload}
use Rattle.am_insert.specs.Edits.{Change, moved, goes_on}
use Rattle.am_insert.proofs.Writing.{changed_behind, behind-moved}
use Rattle.am_insert.proofs.edit.Edit.append_behind.Goals as goal

pub returns : goal.returns
returns c =
    let i = c.self.inside in
    let p = c.args.bytes.now in
    let at = c.args.at in
    let xs = c.args.list.now.items in
    let from = c.len.result + at in
    let size : length xs + at ≡ from = omega (arith, c.len.ensures, c.args.list.now.ok.0) in
    let whole : 40 ≤ i.at = subst (λ (w : Change). 40 ≤ w.at) (sym c.self.view_is) c.requires.edit.fixed in
    let low : i.place < i.at = subst (λ (w : Change). w.place < w.at) (sym c.self.view_is) c.requires.edit.before in
    let within : goes_on i.at i.eight ≤ length (drop at p) =
    subst (λ (w : Change). goes_on w.at w.eight ≤ length (drop at p)) (sym c.self.view_is) c.requires.edit.within in
    subst
    (λ (w : Change). changed_behind c.push_moved.new.list.items from i.payload i.place i.byte
    ≡ xs ++ (take at p ++ moved (set (with_payload w.payload (drop at p)) w.place w.byte) w.at w.eight))
    c.self.view_is
    (ap (λ (l : List ℕ). changed_behind l from i.payload i.place i.byte) c.push_moved.ensures.items
    ∙ behind-moved xs p from at i.payload i.place i.byte i.at i.eight size c.requires.within whole low within)
