-- What is known of longest fronts, as one record.
use Rattle.am_opts.proofs.Longest.{longest_one, behind_longest, all_of, all_listed, list_one}
use Rattle.am_opts.proofs.laws.longest_front_law.Goals as goal

pub returns : goal.returns
returns c = λ area. record {
  one = λ begin options others. longest_one begin area options others;
  lent = λ at. behind_longest area at;
  whole = λ options. all_of area options;
  listed = λ options. all_listed area options;
  alone = λ options others. list_one area options others;
}
