-- The mark that the packet has alone in a Hop-by-Hop header, or none of the kind.
use Rattle.std.proofs.Common.{true, refl, subst}
use Rattle.am_ip6.specs.Brief.{IsBrief, WalksBriefly}
use Rattle.am_insert.proofs.Brief.{lone-place, lone-other}
use Rattle.am_insert.proofs.strip.marked_at_once.Goals as goal

pub returns-in-HopByHop : goal.returns-in-HopByHop
returns-in-HopByHop c =
    let p = c.args.bytes.now in
    let brief = subst (λ o. IsBrief p o c.args.brief.next) c.in-Some.is c.requires.brief in
    let walk = subst (λ o. WalksBriefly p o c.args.brief.next true) c.in-Some.is (c.requires.walk true) in
    lone-place p c.in-Some.mark c.args.brief.next true (c.walk_law.ensures p true) walk c.args.place _ c.in-HopByHop.is brief refl refl refl

pub returns-in-Destination : goal.returns-in-Destination
returns-in-Destination c =
    let p = c.args.bytes.now in
    let walk = subst (λ o. WalksBriefly p o c.args.brief.next true) c.in-Some.is (c.requires.walk true) in
    lone-other p c.in-Some.mark c.args.brief.next true (c.walk_law.ensures p true) walk c.args.place c.in-Destination.is
