use Rattle.std.proofs.Common.{◌++◌, ap, subst, ◌∙◌, refl, codes, decimal, string_bytes}
use Rattle.am_run.specs.commands.Check.{IsPrefixShown}
use Rattle.am_run.proofs.LineLemmas.{flow_pieces}
use Rattle.am_run.proofs.commands.check.push_flow.Goals as goal

pub returns : goal.returns
returns c =
    let source = c.in_ok-push_prefix.ensures in
    let destination = c.in_ok-push_prefix-2.ensures in
    record {
      line = codes "flow " ++ c.args.flow.now.name ++ codes " " ++ decimal c.args.flow.now.id ++ codes " " ++ source.text ++ codes " " ++ destination.text ++ codes "\n";
      is = record {
        source = source.text;
        destination = destination.text;
        of_source = subst (λ x. IsPrefixShown x source.text) c.source.ensures source.is;
        of_destination = subst (λ x. IsPrefixShown x destination.text) c.destination.ensures destination.is;
        joined = refl;
      };
      added = flow_pieces (string_bytes c.args.text.now) (string_bytes c.push_str.new.self) (string_bytes c.push_str-2.new.self) (string_bytes c.write.new.self)
          (string_bytes c.push_prefix.new.text) (string_bytes c.push_str-3.new.self) (string_bytes c.push_prefix-2.new.text) (string_bytes c.push_str-4.new.self)
          (codes "flow ") c.args.flow.now.name (codes " ") (decimal c.args.flow.now.id) source.text destination.text (codes "\n")
          c.in_ok-push_str.ensures.bytes
          (c.in_ok-push_str-2.ensures.bytes ∙ ap (λ x. string_bytes c.push_str.new.self ++ x) c.name-name.ensures)
          (c.in_ok-write.ensures.bytes ∙ ap (λ x. string_bytes c.push_str-2.new.self ++ (codes " " ++ (decimal x ++ codes " "))) c.id-id.ensures)
          source.added c.in_ok-push_str-3.ensures.bytes destination.added c.in_ok-push_str-4.ensures.bytes;
    }
