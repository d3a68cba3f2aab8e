use Rattle.std.proofs.Common.{◌≡◌, rules, codes}
use Rattle.am_run.specs.Forms.Kind.{Linking, Showing, Checking, Clustering, MarkingPackets, Stripping, Metering, Auditing, Gathering, Simulating}
use Rattle.am_run.proofs.FormLemmas.{none-named}
use Rattle.am_run.proofs.commands.command_named.Goals as goal

pub returns-in_default-clause-none : goal.returns-in_default-clause-none
returns-in_default-clause-none c =
    let verb : c.args.verb.now ≡ codes "link" = search rules in none-named Linking c.args.verb.now _ verb c.in_default.ensures.none

pub returns-in_default-words_of-clause-none : goal.returns-in_default-words_of-clause-none
returns-in_default-words_of-clause-none c =
    let verb : c.args.verb.now ≡ codes "show" = search rules in none-named Showing c.args.verb.now _ verb c.in_default-words_of.ensures.none

pub returns-in_default-words_of-2-clause-none : goal.returns-in_default-words_of-2-clause-none
returns-in_default-words_of-2-clause-none c =
    let verb : c.args.verb.now ≡ codes "check" = search rules in none-named Checking c.args.verb.now _ verb c.in_default-words_of-2.ensures.none

pub returns-in_default-words_of-3-clause-none : goal.returns-in_default-words_of-3-clause-none
returns-in_default-words_of-3-clause-none c =
    let verb : c.args.verb.now ≡ codes "clusters" = search rules in none-named Clustering c.args.verb.now _ verb c.in_default-words_of-3.ensures.none

pub returns-in_default-domain_file_of-clause-none : goal.returns-in_default-domain_file_of-clause-none
returns-in_default-domain_file_of-clause-none c =
    let verb : c.args.verb.now ≡ codes "mark" = search rules in none-named MarkingPackets c.args.verb.now _ verb c.in_default-domain_file_of.ensures.none

pub returns-in_default-domain_file_of-2-clause-none : goal.returns-in_default-domain_file_of-2-clause-none
returns-in_default-domain_file_of-2-clause-none c =
    let verb : c.args.verb.now ≡ codes "strip" = search rules in none-named Stripping c.args.verb.now _ verb c.in_default-domain_file_of-2.ensures.none

pub returns-in_default-words_of-4-clause-none : goal.returns-in_default-words_of-4-clause-none
returns-in_default-words_of-4-clause-none c =
    let verb : c.args.verb.now ≡ codes "meter" = search rules in none-named Metering c.args.verb.now _ verb c.in_default-words_of-4.ensures.none

pub returns-in_default-words_of-5-clause-none : goal.returns-in_default-words_of-5-clause-none
returns-in_default-words_of-5-clause-none c =
    let verb : c.args.verb.now ≡ codes "audit" = search rules in none-named Auditing c.args.verb.now _ verb c.in_default-words_of-5.ensures.none

pub returns-in_default-words_of-6-clause-none : goal.returns-in_default-words_of-6-clause-none
returns-in_default-words_of-6-clause-none c =
    let verb : c.args.verb.now ≡ codes "loss" = search rules in none-named Gathering c.args.verb.now _ verb c.in_default-words_of-6.ensures.none

pub returns-in_default-words_of-7-clause-none : goal.returns-in_default-words_of-7-clause-none
returns-in_default-words_of-7-clause-none c =
    let verb : c.args.verb.now ≡ codes "sim" = search rules in none-named Simulating c.args.verb.now _ verb c.in_default-words_of-7.ensures.none
