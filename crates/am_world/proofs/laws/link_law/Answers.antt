use Rattle.am_world.proofs.LinkLossLemmas.{link-told, dropped-alone}
use Rattle.am_world.proofs.laws.link_law.Goals as goal

pub returns : goal.returns
returns c = record {
  counts = λ d events link ups downs flow block timing alone recorded within covered.
      link-told d events link ups downs flow block timing alone recorded within covered;
  cluster = λ d c link so events of alone. dropped-alone d c link of alone so events;
}
