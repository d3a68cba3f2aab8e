use Rattle.am_world.proofs.CellLemmas.{cluster-delay, cluster-d_delay, network-delay, network-d_delay}
use Rattle.am_world.proofs.AttributionLemmas.{attributed}
use Rattle.am_world.proofs.JourneyLemmas.{journeys-front}
use Rattle.am_world.proofs.LawLemmas.{conserved}
use Rattle.am_world.proofs.DropLemmas.{cluster-drops, network-drops}
use Rattle.am_world.proofs.laws.world_law.Goals as goal

pub returns : goal.returns
returns c = record {
  attributed = λ d events lawful valid timed. attributed d events lawful.timing valid.journeys timed;
  conserved = λ d c before after k flow block of within valid.
      conserved d c before k flow block of within (journeys-front d before after valid.journeys);
  drops = λ d m events captures flow block lawful of counted recorded within reported. record {
    clusters = cluster-drops d m events captures flow block lawful of counted recorded within reported;
    network = network-drops d m events captures flow block lawful of counted recorded within reported
        (c.loss_law.ensures d m flow block lawful of);
  };
  delays = λ d m events captures flow block lawful of counted recorded within reported. record {
    all = cluster-delay d m events captures flow block lawful of counted recorded within reported;
    delayed = cluster-d_delay d m events captures flow block lawful of counted recorded within reported;
    network = network-delay d m events captures flow block lawful of counted recorded within reported;
    network_delayed = network-d_delay d m events captures flow block lawful of counted recorded within reported;
  };
}
