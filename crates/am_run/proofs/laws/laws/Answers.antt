use Rattle.am_run.proofs.InputLemmas.{whole-begins, domain-excludes, report-excludes}
use Rattle.am_run.proofs.laws.laws.Goals as goal

pub returns : goal.returns
returns c = record {
  capture = record {
    header = λ bytes h ps e whole refused. c.beginnings_agree.ensures.not_refused bytes h ps e (whole-begins bytes h ps whole) refused;
    records = λ bytes h ps qs e whole refused. c.captures_are_one.ensures.not_refused bytes h e ps qs whole.capture refused;
    front = λ bytes h k ps qs begins whole.
        let front = c.beginnings_agree.ensures.capture bytes h k ps qs begins whole.capture in
        record { head = front.0; more = front.1; packets = front.2 };
  };
  marks = λ place. record { never = λ bytes ms reason taken refused. c.marks_are_one.ensures.not_refused place bytes ms refused.0 taken refused.1 };
  one_marks = λ place. record { same = λ bytes ms ns one other. c.marks_are_one.ensures.one place bytes ms ns one other };
  domain = record { never = domain-excludes c.domain_law.ensures.either };
  one_domain = record { same = λ bytes d e one other. c.domain_law.ensures.domain bytes d e one.1 other.1 };
  lawful = λ bytes d so. c.domain_law.ensures.lawful bytes d so.1;
  reports = λ d taken lawful. record {
    never = report-excludes d taken (λ bytes a b p q. c.report_law.ensures.report d bytes a b lawful p q)
        (λ bytes r e p q. c.report_law.ensures.either d bytes r e lawful p q);
  };
  one_report = λ d taken lawful. record { same = λ bytes r s one other. c.report_law.ensures.report d bytes r s lawful one.1 other.1 };
  frames = c.frames_are_one.ensures;
}
