-- The rules that a file keeps, each by its name, and what is told of links, as what is told of the file.
use Rattle.std.proofs.Common.{◌≡◌, ℕ, ◌<◌, List, take, suc, slice_get, Some, subst, sym, refl}
use Rattle.std.specs.List.{AllByRecursion, AllZip}
use Rattle.am_clock.specs.Times.{Times}
use Rattle.am_domain.specs.Values.{NodeValue, LinkValue}
use Rattle.am_domain.specs.Fields.{FieldsValue}
use Rattle.am_domain.specs.Network.{IsBetween, Joins, IsFirstBlock, IsEndBlock, TellsLoose}
use Rattle.am_domain.specs.Rules.{Rule, timed, few_nodes, few_links, few_flows, flow_names_differ, flow_ids_differ, node_names_differ, ends_are_nodes, ends_differ, links_differ, nodes_have_links, some_block, few_cells, rules_in_order, place, Each, IsLaidOut, Keeps, KeepsBefore, KeepsAll, TellsBroken}
use Rattle.am_domain.specs.declared.link.Edge.{Edge}
use Rattle.am_domain.specs.declared.error.DomainError.{DomainError}
use Rattle.am_domain.specs.declared.error.DomainError.TheVariants.{UnknownNode, Memory}
use Rattle.am_domain.proofs.ListLemmas.{one-of-all, one-of-first, first-and-next}

-- each rule stands at its place in the order
rule-at : (rule : Rule) → slice_get rules_in_order (place rule) ≡ Some rule
rule-at timed = refl
rule-at few_nodes = refl
rule-at few_links = refl
rule-at few_flows = refl
rule-at flow_names_differ = refl
rule-at flow_ids_differ = refl
rule-at node_names_differ = refl
rule-at ends_are_nodes = refl
rule-at ends_differ = refl
rule-at links_differ = refl
rule-at nodes_have_links = refl
rule-at some_block = refl
rule-at few_cells = refl

-- a file that keeps every rule keeps this one
pub kept-rule : (f : FieldsValue) → KeepsAll f → (rule : Rule) → Keeps f rule
kept-rule f kept rule = one-of-all (Keeps f) rules_in_order (place rule) rule kept (rule-at rule)

-- a file that keeps all rules before one keeps each of them
pub kept-before : (f : FieldsValue) (rule : Rule) → KeepsBefore f rule → (earlier : Rule) → place earlier < place rule → Keeps f earlier
kept-before f rule kept earlier before =
    one-of-first (Keeps f) rules_in_order (place rule) (place earlier) earlier kept before (rule-at earlier)

-- what is kept before a rule, and the rule itself, is kept before the next
pub kept-next : (f : FieldsValue) (rule next : Rule) → place next ≡ suc (place rule) → KeepsBefore f rule → Keeps f rule → KeepsBefore f next
kept-next f rule next after kept here =
    subst (λ (n : ℕ). AllByRecursion (Keeps f) (take n rules_in_order)) (sym after)
    (first-and-next (Keeps f) rules_in_order (place rule) rule kept (rule-at rule) here)

loose_end : (f : FieldsValue) (e : DomainError) → KeepsBefore f ends_are_nodes → TellsLoose f.nodes f.links e → TellsBroken f e
loose_end f (UnknownNode link end) kept told = record { kept = kept; told = told }
loose_end f Memory kept told = tt
loose_end f _ kept told = absurd told

-- the refusal of an end that is no node is the first
pub broken_end : (f : FieldsValue) (e : DomainError) (nodes : List NodeValue) (links : List LinkValue) → nodes ≡ f.nodes → links ≡ f.links → KeepsBefore f ends_are_nodes → TellsLoose nodes links e → TellsBroken f e
broken_end f e nodes links n l kept told =
    loose_end f e kept (subst (λ (ns : List NodeValue). TellsLoose ns f.links e) n (subst (λ (ls : List LinkValue). TellsLoose nodes ls e) l told))

-- links between nodes are one rule more
pub kept_ends : (f : FieldsValue) (nodes : List NodeValue) (links : List LinkValue) → nodes ≡ f.nodes → links ≡ f.links → KeepsBefore f ends_are_nodes → Each (IsBetween nodes) links → KeepsBefore f ends_differ
kept_ends f nodes links n l kept between =
    let here : Each (IsBetween f.nodes) f.links = subst (λ (ns : List NodeValue). Each (IsBetween ns) f.links) n (subst (λ (ls : List LinkValue). Each (IsBetween nodes) ls) l between) in
    kept-next f ends_are_nodes ends_differ refl kept here

-- blocks that are found over the same times and nodes
pub laid_out : (f : FieldsValue) (times : Times) (nodes : List NodeValue) (edges : List Edge) (first end : ℕ) → times ≡ f.times → nodes ≡ f.nodes → AllZip (Joins f.nodes) f.links edges
    → IsFirstBlock times nodes edges first → IsEndBlock times nodes edges end → IsLaidOut f edges first end
laid_out f times nodes edges first end t n joined starts ends = record {
  joined = joined;
  starts = subst (λ (ns : List NodeValue). IsFirstBlock f.times ns edges first) n (subst (λ (x : Times). IsFirstBlock x nodes edges first) t starts);
  ends = subst (λ (ns : List NodeValue). IsEndBlock f.times ns edges end) n (subst (λ (x : Times). IsEndBlock x nodes edges end) t ends);
}
