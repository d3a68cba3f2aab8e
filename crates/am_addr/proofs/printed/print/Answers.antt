use Rattle.std.proofs.Common.{ap, subst, inl, inr, ◌∙◌, ◌≡◌, ℕ, ◌++◌, List, take, drop}
use Rattle.std.specs.String.{string_bytes}
use Rattle.am_addr.specs.Print.{IsPrinted, list_of}
use Rattle.am_addr.proofs.Runs.{is_cut, is_uncut, spell}
use Rattle.am_addr.proofs.ReadBack.{read_back}
use Rattle.am_addr.proofs.printed.print.Goals as goal

pub returns-then-count-lt2-clause-printed : goal.returns-then-count-lt2-clause-printed
returns-then-count-lt2-clause-printed c =
    let values = c.values_in-values.result in
    let spelled : string_bytes c.push_list.new.text ≡ list_of values =
    c.in_ok-push_list.ensures ∙ ap (λ (l : List ℕ). l ++ list_of values) c.new-text.ensures.bytes in
    subst (λ (vs : List ℕ). IsPrinted (string_bytes c.push_list.new.text) vs) c.values_in-values.ensures.value
    (inr (is_uncut (string_bytes c.push_list.new.text) values c.longest_run-at.result.0 c.longest_run-at.result.1 c.longest_run-at.ensures.best c.if-count-lt2.true spelled))

pub returns-then-count-lt2-clause-read_back : goal.returns-then-count-lt2-clause-read_back
returns-then-count-lt2-clause-read_back c =
    read_back (string_bytes c.push_list.new.text) c.args.addr.now.0 c.values_in-values.ensures.sixteen c.values_in-values.ensures.bytes
    (returns-then-count-lt2-clause-printed c)

pub returns-clause-printed : goal.returns-clause-printed
returns-clause-printed c =
    let values = c.values_in-values.result in
    let at = c.longest_run-at.result.0 in
    let n = c.longest_run-at.result.1 in
    let run = c.longest_run-at.ensures in
    let spelled = spell (string_bytes c.new-text.result) (string_bytes c.push_list-2.new.text) (string_bytes c.push_str.new.self) (string_bytes c.push_list-3.new.text)
    c.split_at.result.0.now c.split_at-2.result.1.now (take at values) (drop n (drop at values))
    c.new-text.ensures.bytes c.in_ok-push_list-2.ensures c.in_ok-push_str.ensures.bytes c.in_ok-push_list-3.ensures
    c.split_at.ensures.front (c.split_at-2.ensures.back ∙ ap (λ (l : List ℕ). drop n l) c.split_at.ensures.back) in
    subst (λ (vs : List ℕ). IsPrinted (string_bytes c.push_list-3.new.text) vs) c.values_in-values.ensures.value
    (inl (is_cut (string_bytes c.push_list-3.new.text) values at n run.run run.zeros run.best c.if-count-lt2.false spelled))

pub returns-clause-read_back : goal.returns-clause-read_back
returns-clause-read_back c =
    read_back (string_bytes c.push_list-3.new.text) c.args.addr.now.0 c.values_in-values.ensures.sixteen c.values_in-values.ensures.bytes
    (returns-clause-printed c)
